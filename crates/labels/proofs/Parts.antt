-- Parts of sets. No record of laws is in reach here: `grind` would go through it too.
use Rattle.std.proofs.Common.{◌≡◌, ℕ, ◌+◌, ◌^◌, ◌<◌, ◌≤◌, true, false, ap, arith}
use lib.Bits.{bit_and, bit_or, or_lt}
use Rattle.labels.specs.Sets.{has, single, full, insert, Subset, card}
use Rattle.labels.proofs.Member.{has_pos, members}
use Rattle.labels.proofs.Card.{ext, within, within_back, card_zero, card_or_and}
use Rattle.labels.proofs.Words.{single_below}

pub in_full : (n e : ℕ) → 1 ≤ e → e ≤ n → has (full n) e ≡ true
in_full n e l g = grind (arith, members)

pub none_subset : (t : ℕ) → Subset 0 t
none_subset t e m = grind (arith, members)

pub subset_none : (s t : ℕ) → Subset s t → t ≡ 0 → s ≡ 0
subset_none s t p z = ext _ _ (λ e. let q = ap (λ (x : ℕ). has x e) z in let r = p e in grind (arith, members))

pub subset_below : (n s t : ℕ) → Subset s t → t < 2 ^ n → s < 2 ^ n
subset_below n s t p h = within n s (λ e m. within_back n t e h (p e m))

pub insert_below : (n s e : ℕ) → s < 2 ^ n → 1 ≤ e → e ≤ n → insert s e < 2 ^ n
insert_below n s e h l g = or_lt n s (single e) h (single_below n e l g)

pub insert_subset : (k s e : ℕ) → Subset k s → has s e ≡ true → Subset (insert k e) s
insert_subset k s e p m f x = let d = has_pos s e m in grind (arith, members)

pub insert_both : (s t e : ℕ) → 1 ≤ e → Subset s t → Subset (insert s e) (insert t e)
insert_both s t e l p f m = let q = p f in grind (arith, members)

pub insert_more : (s t e : ℕ) → 1 ≤ e → Subset s t → Subset s (insert t e)
insert_more s t e l p f m = let q = p f in grind (arith, members)

pub card_apart : (a b : ℕ) → ((e : ℕ) → has a e ≡ true → has b e ≡ false) → card (bit_or a b) ≡ card a + card b
card_apart a b f =
    let z : bit_and a b ≡ 0 = ext _ _ (λ e. let p = f e in grind (arith, members)) in
    omega (arith, card_or_and a b, ap card z, card_zero)
