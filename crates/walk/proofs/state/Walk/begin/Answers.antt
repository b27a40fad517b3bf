use Rattle.std.proofs.Common.{sym, subst}
use Rattle.answer_laws.specs.Answers.{Right}
use Rattle.answer_laws.proofs.Right.{none_right}
use Rattle.walk_laws.proofs.LawOfLife.{law_of_life, same_as_g}
use Rattle.walk.specs.States.{setting}
use Rattle.walk.proofs.Made.{full_is, few_at_first}
use Rattle.walk.proofs.Sound.{sound}
use Rattle.walk.proofs.state.Walk.begin.Goals as goal

pub invariant_of-result : goal.invariant_of-result
invariant_of-result g c =
    let m = c.args.matroid in let few = g.met.P.Matroid.few m in
    record {
      bounded = few_at_first (g.P.Matroid.size m) _ c.full_to.result few (full_is _ c.size-n.result _ few c.size-n.ensures c.full_to.ensures);
      based = c.start-present.ensures.base;
      right = subst (Right (g.P.Matroid.independent m) c.start-present.result) (sym c.new.ensures) (none_right (g.P.Matroid.independent m) c.start-present.result);
    }

pub returns-clause-law : goal.returns-clause-law
returns-clause-law g c =
    let m = c.args.matroid in
    let w = setting g.P.Matroid g.R.TieRule g.M.Measure m c.args.measure in
    let W = sound g.P.Matroid g.R.TieRule g.M.Measure m c.args.measure (g.met.P.Matroid.matroid m) g.met.R.TieRule.lawful g.met.M.Measure.lawful in
    law_of_life w W c.args.offered c.args.opened c.args.rule

pub returns-clause-algorithm : goal.returns-clause-algorithm
returns-clause-algorithm g c =
    let m = c.args.matroid in
    let w = setting g.P.Matroid g.R.TieRule g.M.Measure m c.args.measure in
    let W = sound g.P.Matroid g.R.TieRule g.M.Measure m c.args.measure (g.met.P.Matroid.matroid m) g.met.R.TieRule.lawful g.met.M.Measure.lawful in
    same_as_g w W c.args.offered c.args.opened c.args.rule
