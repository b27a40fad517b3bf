use Rattle.std.proofs.Common.{ℕ, cond, not, ◌&&◌, refl, sym, ap, ◌∙◌, subst, ap₂, arith}
use Rattle.labels.specs.Sets.{swap}
use Rattle.label_words.proofs.Held.{swap_is}
use Rattle.matroid_laws.specs.Matroids.{Base}
use Rattle.answer_laws.specs.Answers.{Right, carried}
use Rattle.answers.specs.Table.{is_label, known}
use Rattle.walk.proofs.Known.{carries_on, chosen_swaps}
use Rattle.walk.specs.States.{setting, state_of}
use Rattle.walk.proofs.Made.{few_after, chosen, exchange_is, after_is}
use Rattle.walk.proofs.Sound.{sound}
use Rattle.walk.proofs.Advance.{partner_some, advance_base, advance_to}
use Rattle.walk.proofs.state.Walk.exchange.Goals as goal

pub invariant_of-self-2 : goal.invariant_of-self-2
invariant_of-self-2 g c =
    let s = c.args.self.now in let e = c.args.label in let low = c.choose-low.result in let M = c.requires in let few = g.met.P.Matroid.few s.matroid in
    let w = setting g.P.Matroid g.R.TieRule g.M.Measure s.matroid s.measure in
    let W = sound g.P.Matroid g.R.TieRule g.M.Measure s.matroid s.measure (g.met.P.Matroid.matroid s.matroid) g.met.R.TieRule.lawful g.met.M.Measure.lawful in
    let l = chosen w.choice w.next g.met.R.TieRule.lawful s.rule e c.args.found low c.choose-low.ensures.choice (partner_some w.n w.independent s.view.present s.view.active e c.args.found M) in
    record {
      bounded = few_after s.view.count s.view.active e _ s.bounded M.active_is (c.reopened-view.ensures.inside (omega (arith, M.high)));
      based = subst (Base w.n w.independent)
          (sym (swap_is s.view.present e low _ M.low (omega (arith, M.high)) l.0 (omega (arith, l.1, M.high)) c.swapped-view.ensures ∙ ap (swap s.view.present e) c.choose-low.ensures.choice))
          (advance_base w W (state_of s) s.based e c.args.found M);
      right =
          let some = partner_some w.n w.independent s.view.present s.view.active e c.args.found M in
          let k = chosen_swaps w.choice w.next g.met.R.TieRule.lawful w.independent s.view.present s.rule e c.args.found low c.choose-low.ensures.choice M.partners_are some in
          subst (λ (t : ℕ). Right w.independent t (known c.carry.new.self))
          (sym (swap_is s.view.present e low _ M.low (omega (arith, M.high)) l.0 (omega (arith, l.1, M.high)) c.swapped-view.ensures))
          (subst (Right w.independent (swap s.view.present e low))
          (sym (c.carry.ensures ∙ ap₂ (λ (x y : ℕ). cond (is_label x && is_label y) (carried (known s.answers) s.view.present x y) (known s.answers)) c.leaving.ensures c.entering.ensures))
          (carries_on w.n w.independent (g.met.P.Matroid.matroid s.matroid) few s.view.present e low (known s.answers) s.based.is_independent l.1 l.0 M.high k.0 k.1 s.right
          (record { high = e; low = low; came = not c.contains-came.result }) refl refl (ap not c.contains-came.ensures)));
    }

pub returns : goal.returns
returns g c =
    let s = c.args.self.now in let e = c.args.label in let low = c.choose-low.result in let M = c.requires in let few = g.met.P.Matroid.few s.matroid in
    let w = setting g.P.Matroid g.R.TieRule g.M.Measure s.matroid s.measure in
    let W = sound g.P.Matroid g.R.TieRule g.M.Measure s.matroid s.measure (g.met.P.Matroid.matroid s.matroid) g.met.R.TieRule.lawful g.met.M.Measure.lawful in
    let l = chosen w.choice w.next g.met.R.TieRule.lawful s.rule e c.args.found low c.choose-low.ensures.choice (partner_some w.n w.independent s.view.present s.view.active e c.args.found M) in
    let x = exchange_is w (state_of s) e c.args.found low c.contains-came.result c.choose-low.ensures.choice c.contains-came.ensures in
    let made = after_is w (state_of s) e c.args.found low _ _ _ _ _ _ c.choose-low.ensures.choice x
    (swap_is s.view.present e low _ M.low (omega (arith, M.high)) l.0 (omega (arith, l.1, M.high)) c.swapped-view.ensures)
    (c.reopened-view.ensures.inside (omega (arith, M.high)))
    c.value_after-value.ensures c.sum-view.ensures c.choose-low.ensures.next in
    record {
      keeps = record { matroid = refl; measure = refl };
      answer = x;
      after = made;
      step = advance_to w W (state_of s) s.based e c.args.found M _ _ x made;
    }
