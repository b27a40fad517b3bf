use Rattle.std.proofs.Common.{◌≡◌, suc, ◌-◌, ◌++◌, codes, string_bytes, refl, subst, sym, ◌∙◌, arith}
use Rattle.std.proofs.lemmas.Result.{err_from_is_err_and}
use Rattle.outlet.specs.Sending.{Broken, Holding}
use Rattle.outlet.proofs.Pieces.{holding_all, goes_on, stops_in}
use Rattle.walk.specs.States.{setting, setting_of, state_of}
use Rattle.walk_laws.specs.declared.View.{View}
use Rattle.described.specs.Texts.{exchange_text, onward_text, set_text}
use Rattle.described.proofs.Passed.{when_ok}
use Rattle.described.proofs.Onward.{stepped, end_leaves, last_leaves, last_line, turn_breaks, turn_ends, turn_goes, turn_leaves}
use Rattle.described.proofs.walking.write_sets.Goals as goal

pub returns-in_err-line-clause-lines : goal.returns-in_err-line-clause-lines
returns-in_err-line-clause-lines g c =
    let w = setting_of g.P.Matroid g.R.TieRule g.M.Measure c.args.walk.now in
    let s = state_of c.args.walk.now in
    let p = err_from_is_err_and c.from_residual.result c.from_residual.ensures.1 in
    let held = string_bytes c.args.out.now.held in
    rw p.1 (stops_in held (set_text s.count s.present ++ codes "\n") (onward_text w c.args.steps s) (holding_all _ _)
    (subst (λ (v : View g.row.M-Value.Denot). Broken (g.W.Write.contents c.args.out.now.writer) (g.W.Write.contents c.line.new.self.writer) (held ++ (set_text v.count v.present ++ codes "\n"))) c.look-start.ensures c.in_err-line.ensures))

pub loop-init : goal.loop-init
loop-init g c =
    let w = setting_of g.P.Matroid g.R.TieRule g.M.Measure c.args.walk.now in
    let s = state_of c.args.walk.now in
    let held = string_bytes c.args.out.now.held in
    let after = string_bytes c.line.new.self.held in (
      record { matroid = refl; measure = refl },
      c.args.steps,
      omega arith,
      refl,
      goes_on held (set_text s.count s.present ++ codes "\n") (onward_text w c.args.steps s) (holding_all _ _) after
          (subst (λ (v : View g.row.M-Value.Denot). Holding (g.W.Write.contents c.args.out.now.writer) (g.W.Write.contents c.line.new.self.writer) after (held ++ (set_text v.count v.present ++ codes "\n"))) c.look-start.ensures c.in_ok-line.ensures),
    )

pub returns-in_default-clause-lines : goal.returns-in_default-clause-lines
returns-in_default-clause-lines g c =
    let w = setting_of g.P.Matroid g.R.TieRule g.M.Measure c.args.walk.now in
    let inv = c.loop.invariant in
    let same : setting_of g.P.Matroid g.R.TieRule g.M.Measure c.loop.walk ≡ w = λ i. setting g.P.Matroid g.R.TieRule g.M.Measure (inv.0.matroid i) (inv.0.measure i) in
    let s = state_of c.loop.walk in
    let t = state_of c.advance.new.self in
    let q = stepped s t same c.in_default.is c.advance.ensures.step in
    let one : inv.1 ≡ suc (inv.1 - 1) = omega (arith, inv.2, c.loop-test.true) in
    turn_ends w inv.1 (inv.1 - 1) s t (string_bytes c.loop.out.held) one inv.4 (g.W.Write.contents c.line-in_default.new.self.writer) (string_bytes c.line-in_default.new.self.held) c.line-in_default.result q c.line-in_default.ensures

pub returns-in_default-clause-after : goal.returns-in_default-clause-after
returns-in_default-clause-after g c =
    let w = setting_of g.P.Matroid g.R.TieRule g.M.Measure c.args.walk.now in
    let inv = c.loop.invariant in
    let same : setting_of g.P.Matroid g.R.TieRule g.M.Measure c.loop.walk ≡ w = λ i. setting g.P.Matroid g.R.TieRule g.M.Measure (inv.0.matroid i) (inv.0.measure i) in
    let s = state_of c.loop.walk in
    let t = state_of c.advance.new.self in
    let q = stepped s t same c.in_default.is c.advance.ensures.step in
    let one : inv.1 ≡ suc (inv.1 - 1) = omega (arith, inv.2, c.loop-test.true) in
    when_ok c.line-in_default.result (sym (inv.3 ∙ end_leaves w inv.1 (inv.1 - 1) s t one q))

pub returns-in_err-line-2-clause-lines : goal.returns-in_err-line-2-clause-lines
returns-in_err-line-2-clause-lines g c =
    let w = setting_of g.P.Matroid g.R.TieRule g.M.Measure c.args.walk.now in
    let inv = c.loop.invariant in
    let same : setting_of g.P.Matroid g.R.TieRule g.M.Measure c.loop.walk ≡ w = λ i. setting g.P.Matroid g.R.TieRule g.M.Measure (inv.0.matroid i) (inv.0.measure i) in
    let s = state_of c.loop.walk in
    let t = state_of c.advance.new.self in
    let x = c.in-Some.x in
    let q = stepped s t same c.in-Some.is c.advance.ensures.step in
    let one : inv.1 ≡ suc (inv.1 - 1) = omega (arith, inv.2, c.loop-test.true) in
    let held = string_bytes c.loop.out.held in
    let p = err_from_is_err_and c.from_residual-in_err-line-2.result c.from_residual-in_err-line-2.ensures.1 in
    rw p.1 (turn_breaks w inv.1 (inv.1 - 1) s t held one inv.4 x q c.in-Some.ensures.cases
    (subst (λ (v : View g.row.M-Value.Denot). Broken (g.W.Write.contents c.loop.out.writer) (g.W.Write.contents c.line-in-loop.new.self.writer) (held ++ (exchange_text v.count (x, v.present) ++ codes "\n"))) c.look-view.ensures c.in_err-line-2.ensures))

pub loop-preserved : goal.loop-preserved
loop-preserved g c =
    let w = setting_of g.P.Matroid g.R.TieRule g.M.Measure c.args.walk.now in
    let inv = c.loop.invariant in
    let same : setting_of g.P.Matroid g.R.TieRule g.M.Measure c.loop.walk ≡ w = λ i. setting g.P.Matroid g.R.TieRule g.M.Measure (inv.0.matroid i) (inv.0.measure i) in
    let s = state_of c.loop.walk in
    let t = state_of c.advance.new.self in
    let x = c.in-Some.x in
    let q = stepped s t same c.in-Some.is c.advance.ensures.step in
    let one : inv.1 ≡ suc (inv.1 - 1) = omega (arith, inv.2, c.loop-test.true) in
    let held = string_bytes c.loop.out.held in
    let after = string_bytes c.line-in-loop.new.self.held in (
      record { matroid = c.advance.ensures.keeps.matroid ∙ inv.0.matroid; measure = c.advance.ensures.keeps.measure ∙ inv.0.measure },
      inv.1 - 1,
      omega (arith, one, inv.2),
      inv.3 ∙ turn_leaves w inv.1 (inv.1 - 1) s t x one q,
      turn_goes w inv.1 (inv.1 - 1) s t held one inv.4 x after q c.in-Some.ensures.cases
          (subst (λ (v : View g.row.M-Value.Denot). Holding (g.W.Write.contents c.loop.out.writer) (g.W.Write.contents c.line-in-loop.new.self.writer) after (held ++ (exchange_text v.count (x, v.present) ++ codes "\n"))) c.look-view.ensures c.in_ok-line-2.ensures),
    )

pub returns-clause-lines : goal.returns-clause-lines
returns-clause-lines g c =
    let w = setting_of g.P.Matroid g.R.TieRule g.M.Measure c.args.walk.now in
    let inv = c.loop.invariant in
    let none : inv.1 ≡ 0 = omega (arith, inv.2, c.loop-test.false) in
    last_line w (g.W.Write.contents c.line-2.new.self.writer) inv.1 (state_of c.loop.walk) (string_bytes c.loop.out.held) (string_bytes c.line-2.new.self.held) c.line-2.result none inv.4 c.line-2.ensures

pub returns-clause-after : goal.returns-clause-after
returns-clause-after g c =
    let w = setting_of g.P.Matroid g.R.TieRule g.M.Measure c.args.walk.now in
    let inv = c.loop.invariant in
    let none : inv.1 ≡ 0 = omega (arith, inv.2, c.loop-test.false) in
    when_ok c.line-2.result (sym (inv.3 ∙ last_leaves w inv.1 (state_of c.loop.walk) none))
