use Rattle.std.proofs.Common.{◌≡◌, ℕ, suc, ◌+◌, ◌-◌, length, Err, refl, sym, ap, ◌∙◌, arith}
use Rattle.std.proofs.lemmas.List.{length_push}
use Rattle.chain_lists.specs.Lists.{begun, with_swap}
use Rattle.walk.specs.States.{setting, setting_of, state_of}
use Rattle.described.specs.Files.{swap_of}
use Rattle.described.proofs.Onward.{stepped, end_leaves, last_leaves, turn_leaves}
use Rattle.described.proofs.Filling.{same_refusal, length_kept, filled_goes, filled_stops, filled_ends, filled_all}
use Rattle.described.proofs.filing.add_exchanges.Goals as goal

pub loop-before-init : goal.loop-before-init
loop-before-init g c = (
  record { matroid = refl; measure = refl },
  c.args.steps,
  omega arith,
  refl {a = _},
  λ n start h. (begun n start, h, refl, refl {a = _}, refl {a = _}),
)

pub loop-before-preserved : goal.loop-before-preserved
loop-before-preserved g c =
    let w = setting_of g.P.Matroid g.R.TieRule g.M.Measure c.args.walk.now in
    let inv = c.loop-before.invariant in
    let same : setting_of g.P.Matroid g.R.TieRule g.M.Measure c.loop-before.walk ≡ w = λ i. setting g.P.Matroid g.R.TieRule g.M.Measure (inv.0.matroid i) (inv.0.measure i) in
    let s = state_of c.loop-before.walk in
    let t = state_of c.advance.new.self in
    let x = c.in-Some.x in
    let q = stepped s t same c.in-Some.is c.advance.ensures.step in
    let one : inv.1 ≡ suc (inv.1 - 1) = omega (arith, inv.2, c.loop-before-test.true) in
    let room = length c.args.file.now.out.now in
    let taken = c.in_default-exchange.ensures.cases in (
      record { matroid = c.advance.ensures.keeps.matroid ∙ inv.0.matroid; measure = c.advance.ensures.keeps.measure ∙ inv.0.measure },
      inv.1 - 1,
      omega (arith, one, inv.2),
      inv.3 ∙ turn_leaves w inv.1 (inv.1 - 1) s t x one q,
      λ n start h.
          let m = inv.4 n start h in (
            with_swap m.0 (swap_of x),
            c.in_default-exchange.ensures.holds m.0 m.1,
            length_push m.0.swaps (swap_of x) ∙ ap (λ (k : ℕ). k + 1) m.2,
            length_kept (swap_of x) c.exchange.new.self.out.now m.1 taken.1 ∙ m.3,
            m.4 ∙ filled_goes w room m.0 inv.1 s (inv.1 - 1) t one x q (sym (same_refusal (swap_of x) room m.1 m.3) ∙ taken.0),
          ),
    )

pub returns-in-Err-clause-adds : goal.returns-in-Err-clause-adds
returns-in-Err-clause-adds g c = λ n start h.
    let w = setting_of g.P.Matroid g.R.TieRule g.M.Measure c.args.walk.now in
    let inv = c.loop-before.invariant in
    let same : setting_of g.P.Matroid g.R.TieRule g.M.Measure c.loop-before.walk ≡ w = λ i. setting g.P.Matroid g.R.TieRule g.M.Measure (inv.0.matroid i) (inv.0.measure i) in
    let s = state_of c.loop-before.walk in
    let t = state_of c.advance.new.self in
    let x = c.in-Some.x in
    let q = stepped s t same c.in-Some.is c.advance.ensures.step in
    let one : inv.1 ≡ suc (inv.1 - 1) = omega (arith, inv.2, c.loop-before-test.true) in
    let room = length c.args.file.now.out.now in
    let m = inv.4 n start h in
    m.4
    ∙ filled_stops w room m.0 inv.1 s (inv.1 - 1) t one x c.in-Err.why q (sym (same_refusal (swap_of x) room m.1 m.3) ∙ c.in-Err.ensures.cases.0)
    ∙ ap (λ (k : ℕ). Err (c.in-Err.why, k)) m.2

pub returns-after-loop-before-clause-adds : goal.returns-after-loop-before-clause-adds
returns-after-loop-before-clause-adds g c = λ n start h.
    let w = setting_of g.P.Matroid g.R.TieRule g.M.Measure c.args.walk.now in
    let inv = c.loop-before.invariant in
    let none : inv.1 ≡ 0 = omega (arith, inv.2, c.loop-before-test.false) in
    let m = inv.4 n start h in
    (m.0, m.4 ∙ filled_all w (length c.args.file.now.out.now) m.0 inv.1 (state_of c.loop-before.walk) none, m.1)

pub returns-after-loop-before-clause-after : goal.returns-after-loop-before-clause-after
returns-after-loop-before-clause-after g c =
    let w = setting_of g.P.Matroid g.R.TieRule g.M.Measure c.args.walk.now in
    let inv = c.loop-before.invariant in
    let none : inv.1 ≡ 0 = omega (arith, inv.2, c.loop-before-test.false) in
    sym (inv.3 ∙ last_leaves w inv.1 (state_of c.loop-before.walk) none)

pub returns-in_default-clause-adds : goal.returns-in_default-clause-adds
returns-in_default-clause-adds g c = λ n start h.
    let w = setting_of g.P.Matroid g.R.TieRule g.M.Measure c.args.walk.now in
    let inv = c.loop-before.invariant in
    let same : setting_of g.P.Matroid g.R.TieRule g.M.Measure c.loop-before.walk ≡ w = λ i. setting g.P.Matroid g.R.TieRule g.M.Measure (inv.0.matroid i) (inv.0.measure i) in
    let s = state_of c.loop-before.walk in
    let t = state_of c.advance.new.self in
    let q = stepped s t same c.in_default.is c.advance.ensures.step in
    let one : inv.1 ≡ suc (inv.1 - 1) = omega (arith, inv.2, c.loop-before-test.true) in
    let m = inv.4 n start h in
    (m.0, m.4 ∙ filled_ends w (length c.args.file.now.out.now) m.0 inv.1 s (inv.1 - 1) t one q, m.1)

pub returns-in_default-clause-after : goal.returns-in_default-clause-after
returns-in_default-clause-after g c =
    let w = setting_of g.P.Matroid g.R.TieRule g.M.Measure c.args.walk.now in
    let inv = c.loop-before.invariant in
    let same : setting_of g.P.Matroid g.R.TieRule g.M.Measure c.loop-before.walk ≡ w = λ i. setting g.P.Matroid g.R.TieRule g.M.Measure (inv.0.matroid i) (inv.0.measure i) in
    let s = state_of c.loop-before.walk in
    let t = state_of c.advance.new.self in
    let q = stepped s t same c.in_default.is c.advance.ensures.step in
    let one : inv.1 ≡ suc (inv.1 - 1) = omega (arith, inv.2, c.loop-before-test.true) in
    sym (inv.3 ∙ end_leaves w inv.1 (inv.1 - 1) s t one q)
