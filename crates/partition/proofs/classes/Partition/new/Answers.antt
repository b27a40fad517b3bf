use Rattle.std.proofs.Common.{rules, of_calls, ◌≡◌, ◌<◌, ℕ, get_or}
use Rattle.entries.specs.Table.{values}
use Rattle.partition.specs.Classes.{class_count}
use Rattle.partition.proofs.Masks.{masked_at_first, limits_at_first}
use Rattle.partition.proofs.classes.Partition.new.Goals as goal

pub invariant_of-result : goal.invariant_of-result
invariant_of-result c =
    let each : (i : ℕ) → i < class_count → get_or c.map.result i (record { limit = 0; labels = 0 }) ≡ record { limit = get_or c.args.limits i 0; labels = 0 } =
    λ i l. search (rules, of_calls, c.map.ensures.items.at i 0 (record { limit = 0; labels = 0 }) l) in
    record { whole = search rules; masked = masked_at_first (values c.new.result) c.args.limits c.map.result c.new.ensures (search rules) (search rules) each }

pub returns-clause-made : goal.returns-clause-made
returns-clause-made c =
    let each : (i : ℕ) → i < class_count → get_or c.map.result i (record { limit = 0; labels = 0 }) ≡ record { limit = get_or c.args.limits i 0; labels = 0 } =
    λ i l. search (rules, of_calls, c.map.ensures.items.at i 0 (record { limit = 0; labels = 0 }) l) in
    (limits_at_first (values c.new.result) c.args.limits c.map.result c.new.ensures (search rules) (search rules) each, c.new.ensures)
