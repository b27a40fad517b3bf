use Rattle.std.proofs.Common.{◌-◌, ℕ, refl, sym, ap, ◌∙◌, subst, arith, length-set}
use lib.Bits.{bit_or}
use Rattle.std.proofs.lemmas.List.{get_or-map, length-map}
use Rattle.entries.specs.Table.{values}
use Rattle.label_words.specs.Words.{word_of}
use Rattle.partition.specs.Classes.{Masked}
use Rattle.partition.specs.Rooms.{labels_by_class}
use Rattle.partition.specs.declared.room.Room.{Room}
use Rattle.partition.proofs.Masks.{masked_more, labels_set, limits_set}
use Rattle.partition.proofs.classes.Partition.add.Goals as goal

pub invariant_of-self-2 : goal.invariant_of-self-2
invariant_of-self-2 c =
    let p = c.args.self.now in let k = c.args.class - 1 in let blank : Room = record { limit = 0; labels = 0 } in
    record {
      whole = length-set p.rooms k _ ∙ p.whole;
      masked = subst (Masked (values c.add.new.self)) (sym (labels_set p.rooms k _))
          (masked_more (values p.classes) (values c.add.new.self) (labels_by_class p.rooms) c.args.class c.len-label.result c.inserted.result
          (omega arith) (omega arith) (length-map p.rooms _ ∙ p.whole) p.masked c.in_ok-add.ensures.1 c.len-label.ensures.is (omega (arith, c.len-label.ensures.few))
          (c.inserted.ensures ∙ ap (λ (w : ℕ). bit_or w (word_of c.len-label.result)) (sym (get_or-map (λ r. r.labels) p.rooms k blank 0 (omega (arith, p.whole))))));
    }

pub returns-clause-added : goal.returns-clause-added
returns-clause-added c = λ _. record {
  limits_are = limits_set c.args.self.now.rooms (c.args.class - 1) _ (record { limit = 0; labels = 0 }) refl;
  classes_are = c.in_ok-add.ensures.1;
}
