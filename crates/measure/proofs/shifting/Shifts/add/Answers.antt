use Rattle.std.proofs.Common.{◌≡◌, ◌<◌, [], ◌∷◌, ◌++◌, length, ℤ, Ok, Err, Result, sym, ap, ◌∙◌, w64, SFits, to_z, of_z, MatchResult}
use Rattle.std.proofs.lemmas.Int.{to_z-of_z}
use Rattle.std.specs.Int.{int_wrap}
use Rattle.entry.specs.declared.EntryRefusal.{EntryRefusal}
use Rattle.entry.specs.declared.EntryRefusal.TheVariants.{TooManyLabels}
use Rattle.labels.specs.Sets.{limit}
use Rattle.entries.specs.declared.table.Entries.{Entries}
use Rattle.entries.specs.Table.{values}
use Rattle.measure.specs.Shifts.{Shifts, shift_of}
use Rattle.measure.specs.declared.value.Shift.{Shift}
use Rattle.measure.specs.Group.{itself, same_shift}
use Rattle.measure.proofs.shifting.Shifts.add.Goals as goal

-- a number from its bits
from_bits : (a : ℤ) → SFits w64 a → to_z w64 (of_z w64 a) ≡ int_wrap w64 a
from_bits a fits = to_z-of_z w64 a fits ∙ sym (itself a fits.sfits)

abbrev with_table : Entries Shift → Shifts
with_table t = record { table = t }

-- what the table answers to the shift s, told of the same shift q
told : (r : Result (Unit {0}) EntryRefusal) (t u : Entries Shift) (s q : Shift) → s ≡ q
    → MatchResult r (λ _. (length (values t) < limit) × (values u ≡ values t ++ s ∷ [])) (λ e. (length (values t) ≡ limit) × (e ≡ TooManyLabels) × (u ≡ t))
    → MatchResult r (λ _. (length (values t) < limit) × (values u ≡ values t ++ q ∷ [])) (λ e. (length (values t) ≡ limit) × (e ≡ TooManyLabels) × (with_table u ≡ with_table t))
told (Ok x) t u s q same (room, more) = (room, more ∙ ap (λ (y : Shift). values t ++ y ∷ []) same)
told (Err e) t u s q same (full, is, kept) = (full, is, ap with_table kept)

pub returns-clause-cases : goal.returns-clause-cases
returns-clause-cases c =
    let a = c.args.across in let b = c.args.along in
    told c.add.result c.args.self.now.table c.add.new.self _ (shift_of a b) (same_shift _ (shift_of a b) (from_bits a c.ranges.across) (from_bits b c.ranges.along)) c.add.ensures
