-- The shifts of the labels, one by one.
use Rattle.std.proofs.Common.{◌≡◌, ℕ, zero, suc, ◌*◌, ◌<◌, ◌≤◌, [], ◌∷◌, ◌++◌, length, pos, ◌-ℤ◌, neg_ℤ, to_z, of_z, w64, Ok, Err, Result, ap, ap₂, ◌∙◌, sym, refl, arith, length-append}
use Rattle.std.proofs.Math.Nat.{mul-le-mul}
use Rattle.std.proofs.lemmas.Int.{ints}
use Rattle.labels.specs.Sets.{limit}
use Rattle.entry.specs.declared.EntryRefusal.{EntryRefusal}
use Rattle.entries.specs.Table.{Adds}
use Rattle.measure.specs.declared.value.Shift.{Shift}
use Rattle.measure.specs.Shifts.{Shifts, entries_of, shift_of}
use Rattle.timed.specs.Timed.{shift_for, shifts_to}

shifts_long : (n : ℕ) → length (shifts_to n) ≡ n
unfolding shifts_to
shifts_long zero = refl
shifts_long (suc n) = omega (arith, length-append (shifts_to n) (shift_for (suc n) ∷ []), shifts_long n)

-- the shift of a label, as it is put
pub shift_put : (e : ℕ) → e ≤ limit → shift_of (to_z w64 e) (to_z w64 (of_z w64 (pos 0 -ℤ to_z w64 (e * e)))) ≡ shift_for e
shift_put e h =
    let small : e * e ≤ limit * limit = mul-le-mul h h in
    let one : to_z w64 e ≡ pos e = omega (arith, ints) in
    let two : to_z w64 (of_z w64 (pos 0 -ℤ to_z w64 (e * e))) ≡ neg_ℤ (pos (e * e)) = omega (arith, ints) in
    ap₂ shift_of one two

pub shift_more : (m n : Shifts) (r : Result (Unit {0}) EntryRefusal) (v : Shift) (k i : ℕ) → entries_of m ≡ shifts_to k → k < limit → i ≡ suc k → v ≡ shift_for i
    → Adds entries_of m v r n → entries_of n ≡ shifts_to i
unfolding shifts_to
shift_more m n (Ok u) v k i h l q e (room, added) =
    added ∙ ap (λ xs. xs ++ v ∷ []) h ∙ ap (λ (x : Shift). shifts_to k ++ x ∷ []) (e ∙ ap shift_for q) ∙ ap shifts_to (sym q)
shift_more m n (Err f) v k i h l q e (full, why, same) = absurd (omega (arith, full, ap length h, shifts_long k))
