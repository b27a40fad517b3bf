use Rattle.std.proofs.Common.{List, ◌++◌, take, ℕ, ap, sym, ◌∙◌, arith}
use Rattle.std.specs.List.{flat_map, list_all}
use Rattle.labels.proofs.Upwards.{among, labels_among}
use Rattle.lines.specs.Text.{label_text}
use Rattle.lines.proofs.Labels.{text_of_list, labels_few}
use Rattle.lines.proofs.line.put_labels.Goals as goal

pub loop-label-init : goal.loop-label-init
loop-label-init c =
    let s = c.args.labels in let q = c.into_iter-label-iterator.ensures.into_iter_gives ∙ c.labels_of-label-items.ensures in (
      ap (λ (es : List ℕ). take c.args.start c.args.out.now ++ flat_map label_text es) q ∙ ap (λ (t : List ℕ). take c.args.start c.args.out.now ++ t) (sym (text_of_list s 64)),
      rw q (omega (arith, labels_few s 64)),
      ap (list_all (among 64)) q ∙ labels_among s 64 64 (omega arith),
    )
