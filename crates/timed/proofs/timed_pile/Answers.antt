use Rattle.std.proofs.Common.{length, subst, Option}
use Rattle.graphic.specs.Edges.{graph}
use Rattle.graphic.specs.Graphs.{forest}
use Rattle.layer_laws.specs.Layers.{dual, pinned, truncated}
use Rattle.measure.specs.declared.value.Shift.{Shift}
use Rattle.tie_rule.specs.declared.closest.Closest.{Closest}
use Rattle.walk_laws.specs.Settings.{Setting}
use Rattle.timed.specs.Timed.{Writes, piled_seams, timed}
use Rattle.timed.proofs.Mapped.{mapped}
use Rattle.timed.proofs.timed_pile.Goals as goal

pub returns : goal.returns
returns c =
    subst (λ (w : Option (Setting Closest Shift)). Writes w c.args.most c.write_outcome.result c.args.outcome.now c.write_outcome.new.outcome)
    (mapped c.graph_of.result _ _ graph _ piled_seams _ c.graph_of.ensures c.map.ensures.cases
    (λ x y k i. timed (length (graph (k.0 i)))
    (truncated (dual (length (graph (k.0 i))) (pinned (forest (graph (k.0 i))) (k.1.0 i) (k.1.1.0 i))) (k.1.1.1 i))))
    c.write_outcome.ensures
