use Rattle.std.proofs.Common.{◌≡◌, sym, ◌∙◌, ap₂, w64, SFits, rules}
use Rattle.std.proofs.lemmas.Int.{to_z-of_z}
use Rattle.chain_lists.specs.declared.Total.TheVariants.{Shift, Lamp}
use Rattle.chain_reader.proofs.Outlines.{exchange_adds, shift_adds, lamp_adds}
use Rattle.chain_reader.proofs.summing.with.Goals as goal

pub returns-in-Exchange : goal.returns-in-Exchange
returns-in-Exchange c = λ b. exchange_adds b c.args.s c.args.entry _ _ c.in-Exchange.is

pub returns-in-Total-Shift : goal.returns-in-Total-Shift
returns-in-Total-Shift c =
    let f : SFits w64 c.in-Total-Shift.across = search rules in
    let g : SFits w64 c.in-Total-Shift.along = search rules in
    let x = c.in-Total-Shift.field-0-is in
    let is : c.in-Total-Shift.field-0 ≡ Shift c.in-Total-Shift.across c.in-Total-Shift.along = rw c.in-Total-Shift.is at x in
    λ b. rw c.in-Total-Shift.is (shift_adds b c.args.s _ _ _ (is ∙ ap₂ Shift (sym (to_z-of_z w64 _ f)) (sym (to_z-of_z w64 _ g))))

pub returns-in-Total-Lamp : goal.returns-in-Total-Lamp
returns-in-Total-Lamp c =
    let x = c.in-Total-Lamp.field-0-is in
    let is : c.in-Total-Lamp.field-0 ≡ Lamp c.in-Total-Lamp.word = rw c.in-Total-Lamp.is at x in
    λ b. rw c.in-Total-Lamp.is (lamp_adds b c.args.s _ _ is)
