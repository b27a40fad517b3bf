-- A walk that keeps its matroid and its measure.
use Rattle.std.proofs.Common.{◌≡◌, ◌∙◌}
use Rattle.matroid.specs.declared.interface.Matroid.{Ghosts as MatroidOf}
use Rattle.tie_rule.specs.declared.rule.TieRule.{Ghosts as TieRuleOf}
use Rattle.measure.specs.declared.interface.Measure.{Ghosts as MeasureOf}
use Rattle.walk.specs.declared.state.Walk.{Walk}
use Rattle.walk.specs.States.{Keeps, setting, setting_of}

module _ {P R M V : Type 0} {matroids : MatroidOf P} {rules : TieRuleOf R} {measures : MeasureOf M V} {a b : Walk P R M V matroids rules measures} where
  pub same_setting : Keeps a b → setting_of matroids rules measures b ≡ setting_of matroids rules measures a
  same_setting k = λ i. setting matroids rules measures (k.matroid i) (k.measure i)

  pub keeps_on : {c : Walk P R M V matroids rules measures} → Keeps a b → Keeps b c → Keeps a c
  keeps_on h k = record { matroid = k.matroid ∙ h.matroid; measure = k.measure ∙ h.measure }
