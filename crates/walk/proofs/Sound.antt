-- The laws of a walk's matroid, tie rule and measure, as the law of its life takes them.
use Rattle.matroid_laws.specs.Matroids.{IsMatroid}
use Rattle.tie_rule.specs.Laws.{TieLaws}
use Rattle.measure.specs.Laws.{GroupLaws}
use Rattle.matroid.specs.declared.interface.Matroid.{Ghosts as MatroidOf}
use Rattle.tie_rule.specs.declared.rule.TieRule.{Ghosts as TieRuleOf}
use Rattle.measure.specs.declared.interface.Measure.{Ghosts as MeasureOf}
use Rattle.walk_laws.specs.Settings.{Sound}
use Rattle.walk.specs.States.{setting}

pub sound : {P R M V : Type 0} (p : MatroidOf P) (t : TieRuleOf R) (m : MeasureOf M V) (matroid : P) (measure : M)
    → IsMatroid (p.size matroid) (p.independent matroid) → TieLaws t.choice t.next → GroupLaws m.zero m.sum m.opposite
    → Sound (setting p t m matroid measure)
sound p t m matroid measure a b c = record { matroid = a; ties = b; group = c }
