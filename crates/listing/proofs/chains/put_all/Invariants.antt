use Rattle.std.proofs.Common.{◌-◌, ◌^◌}
use Rattle.labels.specs.Sets.{limit}
use Rattle.lines.specs.Pages.{page_text}
use Rattle.walk.specs.States.{Keeps, setting_of, state_of}
use Rattle.listing.proofs.Written.{Written}
use Rattle.listing.proofs.chains.put_all.Given as goal

abbrev pub invariant-loop : goal.invariant-loop
invariant-loop g l =
    Keeps l.fn.walk l.walk
    × Written (setting_of g.P.Matroid g.R.TieRule g.M.Measure l.fn.walk) (g.W.Write.contents l.fn.out) (g.W.Write.contents l.out) (page_text l.fn.page) (page_text l.page) (state_of l.fn.walk) (state_of l.walk)

abbrev pub decreases-loop : goal.decreases-loop
decreases-loop g l = 2 ^ limit - l.walk.view.count
