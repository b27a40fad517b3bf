-- Two labels change places: the members, the size, and what becomes of the highest label of difference; and the test of a part.
use Rattle.std.proofs.Common.{◌≡◌, ℕ, ◌+◌, ◌<◌, ◌≤◌, true, false, sym, ap, ◌∙◌, arith}
use lib.Bits.{bit_and, bit_xor, or_disjoint}
use Rattle.std.proofs.lemmas.Bool.Decides.{nat_tests}
use Rattle.labels.specs.Sets.{has, single, insert, remove, swap, TopDifference, card, Subset, is_subset}
use Rattle.labels.proofs.Member.{members}
use Rattle.labels.proofs.Card.{ext, card_insert, card_remove}
use Rattle.labels.proofs.Order.{top_less, top_swap, top_sym}

-- `s ^ ((1 << (e - 1)) + (1 << (f - 1)))`
pub swap_by_sum : (s e f : ℕ) → 1 ≤ e → 1 ≤ f → (e ≡ f → ⊥) → bit_xor s (single e + single f) ≡ swap s e f
swap_by_sum s e f h l ne = ap (bit_xor s) (sym (or_disjoint (single e) (single f) (ext _ _ (λ x. grind (arith, members)))))

-- e goes out and f comes in
pub swap_is : (s e f : ℕ) → 1 ≤ f → has s e ≡ true → has s f ≡ false → swap s e f ≡ insert (remove s e) f
swap_is s e f l i o = ext _ _ (λ x. grind (arith, members))

pub swap_comm : (s e f : ℕ) → 1 ≤ e → 1 ≤ f → swap s e f ≡ swap s f e
swap_comm s e f h l = ext _ _ (λ x. grind (arith, members))

pub swap_twice : (s e f : ℕ) → 1 ≤ e → 1 ≤ f → swap (swap s e f) e f ≡ s
swap_twice s e f h l = ext _ _ (λ x. grind (arith, members))

pub card_swap : (s e f : ℕ) → 1 ≤ f → has s e ≡ true → has s f ≡ false → card (swap s e f) ≡ card s
card_swap s e f l i o = ap card (swap_is s e f l i o) ∙ omega (arith, card_insert (remove s e) f l (grind (arith, members)), card_remove s e i)

-- e out and a lower f in: a smaller number
pub swap_less : (s e f : ℕ) → 1 ≤ f → f < e → has s e ≡ true → swap s e f < s
swap_less s e f l g i = top_less (swap s e f) s e (top_sym s (swap s e f) e (top_swap s e f l g)) i

-- e in and a lower f out: a larger one
pub swap_more : (s e f : ℕ) → 1 ≤ f → f < e → has s e ≡ false → s < swap s e f
swap_more s e f l g o = top_less s (swap s e f) e (top_swap s e f l g) (grind (arith, members))

-- ---- the highest label of difference d, when e and f < e of the first set change places

-- both below d: it stays
pub top_below : (a b d e f : ℕ) → TopDifference a b d → 1 ≤ f → f < e → e < d → TopDifference (swap a e f) b d
top_below a b d e f t l g k = record { apart = grind (arith, members); above = λ x m. grind (arith, members) }

-- e above d: it is e
pub top_over : (a b d e f : ℕ) → TopDifference a b d → 1 ≤ f → f < e → d < e → TopDifference (swap a e f) b e
top_over a b d e f t l g k = record { apart = grind (arith, members); above = λ x m. grind (arith, members) }

-- e is d: the sets agree from d on
pub top_at : (a b d f : ℕ) → TopDifference a b d → 1 ≤ f → f < d → (x : ℕ) → d ≤ x → has (swap a d f) x ≡ has b x
top_at a b d f t l g x m = grind (arith, members)

-- in both sets: it stays
pub top_both : (a b d e f : ℕ) → TopDifference a b d → 1 ≤ e → 1 ≤ f → TopDifference (swap a e f) (swap b e f) d
top_both a b d e f t h l = record { apart = grind (arith, members); above = λ x m. grind (arith, members) }

-- ---- `s & t == s`

pub subset_tells : (s t : ℕ) → is_subset s t ≡ true → Subset s t
subset_tells s t h e m = grind (arith, members)

pub subset_passes : (s t : ℕ) → Subset s t → is_subset s t ≡ true
subset_passes s t p = let z : bit_and s t ≡ s = ext _ _ (λ e. grind (arith, members)) in grind (arith, nat_tests)
