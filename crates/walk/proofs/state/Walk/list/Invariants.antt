use Rattle.std.proofs.Common.{◌≡◌, ◌+◌}
use Rattle.roll.specs.View.{beyond, size}
use Rattle.walk.specs.States.{Keeps, setting_of, state_of}
use Rattle.walk.proofs.Listing.{SoFar}
use Rattle.walk.proofs.state.Walk.list.Given as goal

abbrev pub invariant-loop-appended : goal.invariant-loop-appended
invariant-loop-appended g l =
    Keeps l.initial.self l.self
    × (l.self.view.count ≡ l.initial.self.view.count + l.appended)
    × (l.roll.used ≡ l.initial.roll.used + l.appended)
    × (beyond l.roll.used l.roll ≡ beyond l.roll.used l.initial.roll)
    × (size l.roll ≡ size l.initial.roll)
    × (l.roll.room.ghost_name ≡ l.initial.roll.room.ghost_name)
    × SoFar (setting_of g.P.Matroid g.R.TieRule g.M.Measure l.initial.self) g.E.Entry.entry (state_of l.initial.self) l.initial.roll l.appended (state_of l.self) l.roll
