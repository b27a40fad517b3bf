use Rattle.std.proofs.Common.{◌≡◌, ◌+◌, ◌-◌, suc, Some, None, refl, ap, ◌∙◌, subst, arith}
use Rattle.measure.specs.Shifts.{entries_of}
use Rattle.measure.specs.declared.value.Shift.{Shift}
use Rattle.tie_rule.specs.declared.closest.Closest.{Closest}
use Rattle.walk_laws.specs.Settings.{Setting}
use Rattle.walk_laws.specs.Steps.{step}
use Rattle.walk.specs.States.{state_of}
use Rattle.timed.specs.Timed.{walk_over}
use Rattle.timed.proofs.Turns.{finished, none_yet, one_more}
use Rattle.timed.proofs.go_on.Goals as goal

pub loop-init : goal.loop-init
loop-init g c =
    let first = c.args.walk.now in
    let w = walk_over (g.P.Matroid.size first.matroid) (g.P.Matroid.independent first.matroid) (entries_of first.measure) in
    (record { matroid = refl; measure = refl }, omega arith, none_yet w (state_of first) first.view.present _ (ap (λ v. v.present) c.look-digest.ensures))

pub loop-preserved : goal.loop-preserved
loop-preserved g c =
    let inv = c.loop.invariant in let told = c.in-Some.ensures in let first = c.args.walk.now in let s = c.loop.walk in
    let w = walk_over (g.P.Matroid.size first.matroid) (g.P.Matroid.independent first.matroid) (entries_of first.measure) in
    let same : walk_over (g.P.Matroid.size s.matroid) (g.P.Matroid.independent s.matroid) (entries_of s.measure) ≡ w =
    λ i. walk_over (g.P.Matroid.size (inv.0.matroid i)) (g.P.Matroid.independent (inv.0.matroid i)) (entries_of (inv.0.measure i)) in
    let next : c.loop.counter + 1 - 1 ≡ suc (c.loop.counter - 1) = omega arith in (
      record { matroid = told.keeps.matroid ∙ inv.0.matroid; measure = told.keeps.measure ∙ inv.0.measure },
      omega arith,
      one_more w (state_of first) first.view.present (c.loop.counter - 1) (state_of s) c.loop.digest inv.2 (c.loop.counter + 1 - 1) c.in-Some.x _ _ next
          (subst (λ (v : Setting Closest Shift). step v (state_of s) ≡ (Some c.in-Some.x, state_of c.advance.new.self)) same told.step)
          c.digested-digest.ensures,
    )

pub returns-in_default : goal.returns-in_default
returns-in_default g c =
    let inv = c.loop.invariant in let told = c.in_default.ensures in let first = c.args.walk.now in let s = c.loop.walk in
    let w = walk_over (g.P.Matroid.size first.matroid) (g.P.Matroid.independent first.matroid) (entries_of first.measure) in
    let same : walk_over (g.P.Matroid.size s.matroid) (g.P.Matroid.independent s.matroid) (entries_of s.measure) ≡ w =
    λ i. walk_over (g.P.Matroid.size (inv.0.matroid i)) (g.P.Matroid.independent (inv.0.matroid i)) (entries_of (inv.0.measure i)) in
    let end = finished w (state_of first) first.view.present (c.loop.counter - 1) (state_of s) c.loop.digest inv.2 (c.args.most - 1) (state_of c.advance.new.self)
    (subst (λ (v : Setting Closest Shift). step v (state_of s) ≡ (None, state_of c.advance.new.self)) same told.step)
    (omega arith) in
    record {
      keeps = record { matroid = told.keeps.matroid ∙ inv.0.matroid; measure = told.keeps.measure ∙ inv.0.measure };
      state = end.0;
      digest = end.1;
    }

pub returns-clause-state : goal.returns-clause-state
returns-clause-state g c =
    let inv = c.loop.invariant in
    let all : c.args.most - 1 ≡ c.loop.counter - 1 = omega arith in
    rw all inv.2.reached

pub returns-clause-digest : goal.returns-clause-digest
returns-clause-digest g c =
    let inv = c.loop.invariant in
    let all : c.args.most - 1 ≡ c.loop.counter - 1 = omega arith in
    rw all inv.2.digest
