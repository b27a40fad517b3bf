use Rattle.std.proofs.Common.{◌≡◌, ◌≢◌, ℕ, zero, suc, List, ◌++◌, length, ap, refl, ◌∙◌, arith, decimal}
use Rattle.std.specs.List.{flat_map}
use Rattle.labels.specs.Listed.{labels_in}
use Rattle.lines.specs.Sets.{set_text}
use Rattle.lines.proofs.Labels.{labels_few}
use Rattle.lines.proofs.sets.set_text.Goals as goal

some : (s : ℕ) → s ≢ 0 → flat_map decimal (labels_in s 64) ≡ set_text s
some zero h = absurd (h refl)
some (suc s) h = refl

pub loop-label-init : goal.loop-label-init
loop-label-init c =
    let s = c.args.set in
    let q = c.into_iter-label-iterator.ensures.into_iter_gives ∙ c.labels_of-label-items.ensures in (
      ap (λ (t : List ℕ). t ++ flat_map decimal c.into_iter-label-iterator.result) c.new-text.ensures ∙ ap (flat_map decimal) q ∙ some s (omega arith),
      rw q (omega (arith, labels_few s 64, ap length c.new-text.ensures)),
    )
