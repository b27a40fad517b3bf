use Rattle.std.proofs.Common.{◌≡◌, ap, ◌∙◌, subst, w64, SFits, rules}
use Rattle.std.proofs.lemmas.Int.{to_z-of_z}
use Rattle.labels.specs.Sets.{full, limit}
use Rattle.measure.specs.Shifts.{entries_of}
use Rattle.measure.specs.declared.value.Shift.{Shift}
use Rattle.tie_rule.specs.declared.closest.Closest.{Closest}
use Rattle.walk_laws.specs.Settings.{Setting}
use Rattle.walk_laws.specs.Steps.{begun}
use Rattle.walk_laws.specs.Law.{LawOfLife}
use Rattle.walk.specs.States.{state_of}
use Rattle.timed.specs.Timed.{shifts_to, walk_over}
use Rattle.timed.proofs.Turns.{tells}
use Rattle.timed.proofs.run.Goals as goal

pub returns : goal.returns
returns g c =
    let m = c.args.matroid in let told = c.begin-walk.ensures in let b = c.begin-walk.result in let seen = c.close.ensures.view in
    let n = g.P.Matroid.size in let f = g.P.Matroid.independent in
    let same : walk_over (n m) (f m) (entries_of c.shifts.result) ≡ walk_over (n m) (f m) (shifts_to limit) = ap (walk_over (n m) (f m)) c.shifts.ensures in
    let at : walk_over (n b.matroid) (f b.matroid) (entries_of b.measure) ≡ walk_over (n m) (f m) (entries_of c.shifts.result) =
    λ i. walk_over (n (told.matroid i)) (f (told.matroid i)) (entries_of (told.measure i)) in
    let first : state_of b ≡ begun (walk_over (n m) (f m) (entries_of c.shifts.result)) 0 (full 64) (record {}) = told.begun in
    let x : SFits w64 c.close.result.view.total.across = search rules in let y : SFits w64 c.close.result.view.total.along = search rules in
    tells (walk_over (n m) (f m) (shifts_to limit)) _ c.args.most (state_of b) (state_of c.go_on-digest.new.walk) _
    (subst (λ (w : Setting Closest Shift). LawOfLife w 0 (full 64) (record {})) same told.law)
    (at ∙ same)
    (first ∙ ap (λ (w : Setting Closest Shift). begun w 0 (full 64) (record {})) same)
    c.go_on-digest.ensures.state c.go_on-digest.ensures.digest
    (ap (λ v. v.count) seen)
    (to_z-of_z w64 _ x ∙ ap (λ v. v.total.across) seen)
    (to_z-of_z w64 _ y ∙ ap (λ v. v.total.along) seen)
