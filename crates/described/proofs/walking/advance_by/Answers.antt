use Rattle.std.proofs.Common.{◌≡◌, suc, ◌-◌, refl, sym, ◌∙◌, arith}
use Rattle.walk.specs.States.{setting, setting_of, state_of}
use Rattle.described.proofs.Onward.{stepped, end_leaves, last_leaves, turn_leaves}
use Rattle.described.proofs.walking.advance_by.Goals as goal

pub loop-i-init : goal.loop-i-init
loop-i-init g c = (record { matroid = refl; measure = refl }, c.args.steps, omega arith, refl {a = _})

pub loop-i-preserved : goal.loop-i-preserved
loop-i-preserved g c =
    let w = setting_of g.P.Matroid g.R.TieRule g.M.Measure c.args.walk.now in
    let inv = c.loop-i.invariant in
    let same : setting_of g.P.Matroid g.R.TieRule g.M.Measure c.loop-i.walk ≡ w = λ i. setting g.P.Matroid g.R.TieRule g.M.Measure (inv.0.matroid i) (inv.0.measure i) in
    let s = state_of c.loop-i.walk in
    let t = state_of c.advance.new.self in
    let q = stepped s t same c.in-Some.is c.advance.ensures.step in
    let one : inv.1 ≡ suc (inv.1 - 1) = omega (arith, inv.2, c.loop-i-test.true) in (
      record { matroid = c.advance.ensures.keeps.matroid ∙ inv.0.matroid; measure = c.advance.ensures.keeps.measure ∙ inv.0.measure },
      inv.1 - 1,
      omega (arith, one, inv.2),
      inv.3 ∙ turn_leaves w inv.1 (inv.1 - 1) s t c.in-Some.field-0 one q,
    )

pub returns-after-loop-i-clause-after : goal.returns-after-loop-i-clause-after
returns-after-loop-i-clause-after g c =
    let w = setting_of g.P.Matroid g.R.TieRule g.M.Measure c.args.walk.now in
    let inv = c.loop-i.invariant in
    let none : inv.1 ≡ 0 = omega (arith, inv.2, c.loop-i-test.false) in
    sym (inv.3 ∙ last_leaves w inv.1 (state_of c.loop-i.walk) none)

pub returns-in_default-clause-after : goal.returns-in_default-clause-after
returns-in_default-clause-after g c =
    let w = setting_of g.P.Matroid g.R.TieRule g.M.Measure c.args.walk.now in
    let inv = c.loop-i.invariant in
    let same : setting_of g.P.Matroid g.R.TieRule g.M.Measure c.loop-i.walk ≡ w = λ i. setting g.P.Matroid g.R.TieRule g.M.Measure (inv.0.matroid i) (inv.0.measure i) in
    let s = state_of c.loop-i.walk in
    let t = state_of c.advance.new.self in
    let q = stepped s t same c.in_default.is c.advance.ensures.step in
    let one : inv.1 ≡ suc (inv.1 - 1) = omega (arith, inv.2, c.loop-i-test.true) in
    sym (inv.3 ∙ end_leaves w inv.1 (inv.1 - 1) s t one q)
