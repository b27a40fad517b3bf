use Rattle.std.proofs.Common.{◌≡◌, ◌+◌, ◌++◌, drop}
use Rattle.lines.specs.Pages.{page_text}
use Rattle.outlet.specs.Sending.{Holding}
use Rattle.listing.specs.Texts.{lines_text}
use Rattle.listing.proofs.pages.put_lines.Given as goal

abbrev pub invariant-loop-set : goal.invariant-loop-set
invariant-loop-set g l =
    Holding (g.W.Write.contents l.fn.out) (g.W.Write.contents l.out) (page_text l.page ++ lines_text l.count (drop l.set-index l.sets)) (page_text l.fn.page ++ lines_text l.first l.sets)
    × (l.count ≡ l.first + l.set-index)
