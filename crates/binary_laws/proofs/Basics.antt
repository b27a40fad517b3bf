-- Facts of sets alone.
use Rattle.std.proofs.Common.{◌≡◌, ℕ, ◌≤◌, Bool, true, false, cond, ◌⊎◌, refl, ap, inl, inr, arith}
use lib.Bits.{bit_xor}
use Rattle.std.proofs.lemmas.Bool.{both_ways, false_from_ne_true}
use Rattle.std.proofs.lemmas.Nat.{and_le_l}
use Rattle.labels.specs.Sets.{has, insert, remove, single, Subset, no_label}
use Rattle.labels.proofs.Member.{has_pos, members}
use Rattle.labels.proofs.Card.{ext, and_subset}
use Rattle.labels.proofs.Find.{find, no_label_passes}

-- a part is no larger as a number
pub subset_le : (t s : ℕ) → Subset t s → t ≤ s
subset_le t s p = omega (arith, and_le_l s t, and_subset t s p)

pub no_label_fails : (t : ℕ → Bool) (n : ℕ) → no_label t n ≡ false → (e : ℕ) × (1 ≤ e) × (e ≤ n) × (t e ≡ true)
no_label_fails t n h = go (find t n)
  where
    go : ((e : ℕ) × (1 ≤ e) × (e ≤ n) × (t e ≡ true)) ⊎ ((e : ℕ) → 1 ≤ e → e ≤ n → t e ≡ false) → (e : ℕ) × (1 ≤ e) × (e ≤ n) × (t e ≡ true)
    go (inl r) = r
    go (inr f) = absurd (both_ways _ h (no_label_passes t n f))

pub single_subset : (s e : ℕ) → has s e ≡ true → Subset (single e) s
single_subset s e m f i = let l = has_pos s e m in grind (arith, members)

pub remove_subset : (t s e : ℕ) → 1 ≤ e → Subset t (insert s e) → Subset (remove t e) s
remove_subset t s e l p f m = let q = p f in grind (arith, members)

pub out_subset : (t s e : ℕ) → 1 ≤ e → Subset t (insert s e) → has t e ≡ false → Subset t s
out_subset t s e l p o f m = let q = p f m in grind (arith, members)

pub remove_xor : (t e : ℕ) → has t e ≡ true → t ≡ bit_xor (remove t e) (single e)
remove_xor t e m = let l = has_pos t e m in ext _ _ (λ f. grind (arith, members))

pub out_of : (c t e : ℕ) → Subset c t → has t e ≡ false → has c e ≡ false
out_of c t e p o = false_from_ne_true (has c e) (λ x. both_ways (has t e) o (p e x))

pub subset_of_remove : (t s p : ℕ) → Subset t (remove s p) → Subset t s
subset_of_remove t s p f e m = let x = f e m in grind (arith, members)

pub out_of_remove : (t s p : ℕ) → Subset t (remove s p) → 1 ≤ p → has t p ≡ false
out_of_remove t s p f l = out_of t (remove s p) p f (grind (arith, members))

pub insert_some : (s e : ℕ) → 1 ≤ e → insert s e ≡ 0 → ⊥
insert_some s e l z = let q = ap (λ (x : ℕ). has x e) z in absurd (grind (arith, members))

pub insert_xor : (s e : ℕ) → 1 ≤ e → has s e ≡ false → insert s e ≡ bit_xor s (single e)
insert_xor s e l o = ext _ _ (λ f. grind (arith, members))

pub has_cond : (b : Bool) (x y e : ℕ) → has (cond b x y) e ≡ cond b (has x e) (has y e)
has_cond true x y e = refl
has_cond false x y e = refl

pub xor_subset : (a b t : ℕ) → Subset a t → Subset b t → Subset (bit_xor a b) t
xor_subset a b t p q e m = let x = p e in let y = q e in grind (arith, members)

pub insert_is : (s e f : ℕ) → 1 ≤ e → has (insert s e) f ≡ true → (f ≡ e → ⊥) → has s f ≡ true
insert_is s e f l m n = grind (arith, members)
