-- Going through the classes, and the limits.
use Rattle.std.proofs.Common.{◌≡◌, ℕ, zero, suc, ◌+◌, ◌*◌, ◌/◌, ◌^◌, ◌<◌, ◌≤◌, Bool, true, false, ◌&&◌, ltb, ◌↔◌, IsTrue, List, length, get_or, sym, refl, ap, ◌∙◌, add-one, arith, pow_pos}
use native.Mathlib.Nat.{div-eq_of_lt, lt-div-mul-add}
use lib.Bits.{bit_and}
use Rattle.std.specs.List.{All}
use Rattle.std.proofs.lemmas.List.{get_or_default, get_or-map}
use Rattle.std.proofs.lemmas.Bool.{true≢false}
use Rattle.std.proofs.lemmas.Bool.Decides.{nat_tests}
use Rattle.labels.specs.Sets.{card, no_label, limit}
use Rattle.labels.proofs.Find.{no_label_tells, no_label_passes}
use Rattle.partition_laws.specs.Partition.{part_in}
use Rattle.partition_laws.proofs.Classes.{partition_means}
use Rattle.partition.specs.Classes.{class_count, class_at, limit_at, limited, limits_fit, InLimits, Masked}
use Rattle.partition.specs.Rooms.{limits_by_class, labels_by_class}
use Rattle.partition.specs.declared.room.Room.{Room}
use Rattle.partition.proofs.Masks.{part_is}

-- one turn of a loop that looks for a number that passes
no_more : (t : ℕ → Bool) (i : ℕ) → no_label t i ≡ true → t (suc i) ≡ false → no_label t (suc i) ≡ true
no_more t i h k = grind arith

pub one_more : (t : ℕ → Bool) (i : ℕ) → no_label t i ≡ true → t (suc i) ≡ false → no_label t (i + 1) ≡ true
one_more t i h k = ap (no_label t) (add-one i) ∙ no_more t i h k

pub found : (t : ℕ → Bool) (n i : ℕ) → i < n → t (suc i) ≡ true → no_label t n ≡ false
found t n i l h = go (no_label t n) refl
  where
    go : (b : Bool) → no_label t n ≡ b → b ≡ false
    go false z = refl
    go true z = let p = no_label_tells t n z (suc i) (omega arith) (omega arith) in absurd (grind arith)

-- of tests alone
pub above : (a b : ℕ) → a < b → ltb a b ≡ true
above a b h = grind (arith, nat_tests)

below : (a b : ℕ) → ltb a b ≡ false → b ≤ a
below a b h = grind (arith, nat_tests)

pub not_above : (a b : ℕ) → b ≤ a → ltb a b ≡ false
not_above a b h = grind (arith, nat_tests)

-- a limit above the number of labels that there can be
abbrev pub unfit : List ℕ → ℕ → Bool
unfit ls i = ltb limit (limit_at ls i)

-- every limit, as the list tells it and class by class
pub fits_is : (ls : List ℕ) (r : Bool) → length ls ≡ class_count → IsTrue r ↔ All (λ l. l ≤ limit) ls → r ≡ limits_fit ls
fits_is ls true n h = sym (no_label_passes (unfit ls) class_count fit)
  where
    fit : (i : ℕ) → 1 ≤ i → i ≤ class_count → unfit ls i ≡ false
    fit zero l g = absurd (omega arith)
    fit (suc k) l g = not_above limit (get_or ls k 0) (h.0 refl k 0 (omega (arith, n)))
fits_is ls false n h = go (limits_fit ls) refl
  where
    all : limits_fit ls ≡ true → (k : ℕ) (d : ℕ) → k < length ls → get_or ls k d ≤ limit
    all z k d l =
        let t = no_label_tells (unfit ls) class_count z (suc k) (omega arith) (omega (arith, n)) in
        let q = get_or_default ls k d 0 l in let f = below limit (get_or ls k 0) t in omega arith

    go : (b : Bool) → limits_fit ls ≡ b → false ≡ b
    go false z = refl
    go true z = absurd (true≢false (sym (h.1 (all z))))

-- s has more labels in class i than the class's limit
abbrev pub over : List ℕ → List ℕ → ℕ → ℕ → Bool
over cs ls s i = ltb (limit_at ls i) (card (part_in (length cs) (class_at cs) s i))

-- `s >> w`, where w is the number of labels
pub low : (cs : List ℕ) (s w : ℕ) → w ≡ length cs → s / 2 ^ w ≡ 0 → s < 2 ^ length cs
low cs s w same z =
    let h = lt-div-mul-add {a = s} {b = 2 ^ w} (pow_pos w) in let k = ap (λ (x : ℕ). x * 2 ^ w + 2 ^ w) z in
    let l : s < 2 ^ w = omega arith in let q = ap (λ (x : ℕ). 2 ^ x) same in omega arith

module _ (cs ls : List ℕ) (s : ℕ) where
  pub too_high : (w : ℕ) → w ≡ length cs → (s / 2 ^ w ≡ 0 → ⊥) → limited cs ls s ≡ false
  too_high w same f = go (ltb s (2 ^ length cs)) refl
    where
      go : (b : Bool) → ltb s (2 ^ length cs) ≡ b → (b && no_label (over cs ls s) class_count) ≡ false
      go false z = refl
      go true z = let p : s < 2 ^ length cs = grind (arith, nat_tests) in absurd (f (div-eq_of_lt (let q = ap (λ (k : ℕ). 2 ^ k) same in omega arith)))

  pub some_over : no_label (over cs ls s) class_count ≡ false → limited cs ls s ≡ false
  some_over h = grind arith

  pub none_over : (i : ℕ) → class_count ≡ i → s < 2 ^ length cs → no_label (over cs ls s) i ≡ true → limited cs ls s ≡ true
  none_over i z l h = let q = ap (no_label (over cs ls s)) z in grind (arith, nat_tests)

  -- the test's answer, and what it means
  pub tells_limited : (r : Bool) → r ≡ limited cs ls s → (r ≡ true) ↔ InLimits cs ls s
  tells_limited r is =
      let m = partition_means (length cs) class_count (class_at cs) (limit_at ls) s in
      (λ h. m.0 (sym is ∙ h), λ L. is ∙ m.1 L)

-- one class, by its room
module _ (cs : List ℕ) (rooms : List Room) (s : ℕ) (n : length rooms ≡ class_count) (M : Masked cs (labels_by_class rooms)) (k : ℕ) (l : k < class_count) (d : Room) where
  counted : card (bit_and s (get_or rooms k d).labels) ≡ card (part_in (length cs) (class_at cs) s (suc k))
  counted =
      ap (λ (m : ℕ). card (bit_and s m)) (sym (get_or-map (λ r. r.labels) rooms k d 0 (omega (arith, n))) ∙ M k l) ∙ ap card (part_is cs s (suc k))

  limit_is : get_or (limits_by_class rooms) k 0 ≡ (get_or rooms k d).limit
  limit_is = get_or-map (λ r. r.limit) rooms k d 0 (omega (arith, n))

  pub is_over : (get_or rooms k d).limit < card (bit_and s (get_or rooms k d).labels) → over cs (limits_by_class rooms) s (suc k) ≡ true
  is_over h = above (get_or (limits_by_class rooms) k 0) _ (omega (arith, counted, limit_is))

  pub not_over : card (bit_and s (get_or rooms k d).labels) ≤ (get_or rooms k d).limit → over cs (limits_by_class rooms) s (suc k) ≡ false
  not_over h = not_above (get_or (limits_by_class rooms) k 0) _ (omega (arith, counted, limit_is))
