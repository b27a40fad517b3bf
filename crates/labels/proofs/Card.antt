-- Two sets with the same members are equal; how many members a set has.
use Rattle.std.proofs.Common.{◌≡◌, ℕ, zero, suc, ◌+◌, ◌-◌, ◌/◌, ◌^◌, ◌<◌, ◌≤◌, true, false, sym, refl, ap, ◌∙◌, arith}
use lib.Arith.{bin_ind}
use lib.Bits.{bit_and, bit_or, bit_xor, and_shr, or_shr, or_add_and}
use lib.Count.{ones, ones_step, leading_top}
use Rattle.std.proofs.lemmas.Nat.{zero_from_ones}
use Rattle.labels.specs.Sets.{bit, has, single, difference, insert, remove, Subset, card}
use Rattle.labels.proofs.Member.{bit_low, bit_up, bit_zero, has_above, has_pos, members}

pub bit_ext : (n a b : ℕ) → a ≤ n → b ≤ n → ((k : ℕ) → bit a k ≡ bit b k) → a ≡ b
bit_ext zero a b h l same = omega arith
bit_ext (suc n) a b h l same =
    let up : a / 2 ≡ b / 2 = bit_ext n (a / 2) (b / 2) (omega arith) (omega arith) (λ k. sym (bit_up a k) ∙ same (suc k) ∙ bit_up b k) in
    let low = same 0 in let p = bit_low a in let q = bit_low b in
    grind arith

pub ext : (a b : ℕ) → ((e : ℕ) → has a e ≡ has b e) → a ≡ b
unfolding has
ext a b same = bit_ext (a + b) a b (omega arith) (omega arith) (λ k. same (suc k))

pub xor_back : (a b : ℕ) → bit_xor a b ≡ 0 → a ≡ b
xor_back a b z = ext _ _ (λ e. let q = ap (λ (x : ℕ). has x e) z in grind (arith, members))

-- a set within 1..n is a number below 2 ^ n
bit_within : (n s : ℕ) → ((k : ℕ) → n ≤ k → bit s k ≡ false) → s < 2 ^ n
bit_within zero s none = let e : s ≡ 0 = bit_ext s s 0 (omega arith) (omega arith) (λ k. none k (omega arith) ∙ sym (bit_zero k)) in omega arith
bit_within (suc n) s none = let h : s / 2 < 2 ^ n = bit_within n (s / 2) (λ k l. sym (bit_up s k) ∙ none (suc k) (omega arith)) in omega arith

pub within : (n s : ℕ) → ((e : ℕ) → has s e ≡ true → e ≤ n) → s < 2 ^ n
unfolding has
within n s all = bit_within n s (λ k l. let f = all (suc k) in grind arith)

pub within_back : (n s e : ℕ) → s < 2 ^ n → has s e ≡ true → e ≤ n
within_back n s e h m = grind (arith, has_above)

-- ---- size

pub card_zero : card 0 ≡ 0
unfolding ones
card_zero = refl

pub card_or_and : (a b : ℕ) → card (bit_or a b) + card (bit_and a b) ≡ card a + card b
card_or_and =
    bin_ind (λ (n : ℕ). (b : ℕ) → card (bit_or n b) + card (bit_and n b) ≡ card n + card b) (λ b. omega arith)
    (λ n ih b. let i = ih (b / 2) in let o = ones_step (bit_or n b) in let a = ones_step (bit_and n b) in let p = or_add_and n b in
    let q = or_add_and (n / 2) (b / 2) in let os = or_shr n b 1 in let as' = and_shr n b 1 in
    let o' = ap ones os in let a' = ap ones as' in let x = ones_step n in let y = ones_step b in omega arith)

-- the members of t in s, and those not in s
pub card_split : (t s : ℕ) → card (bit_and t s) + card (difference t s) ≡ card t
card_split t s =
    let o : bit_or (bit_and t s) (difference t s) ≡ t = ext _ _ (λ e. grind (arith, members)) in
    let a : bit_and (bit_and t s) (difference t s) ≡ 0 = ext _ _ (λ e. grind (arith, members)) in
    let p = card_or_and (bit_and t s) (difference t s) in let z = card_zero in
    let o' = ap ones o in let a' = ap ones a in omega arith

-- the highest member
pub top_is : (j s : ℕ) → 2 ^ j ≤ s → s < 2 ^ suc j → (has s (suc j) ≡ true) × ((e : ℕ) → suc j < e → has s e ≡ false)
unfolding has
top_is j s h l = (at j s h l, λ e g. has_above (suc j) s e l g)
  where
    at : (j s : ℕ) → 2 ^ j ≤ s → s < 2 ^ suc j → bit s j ≡ true
    at zero s h l = let p = bit_low s in let e : s ≡ 1 = omega arith in grind arith
    at (suc j) s h l = bit_up s j ∙ at j (s / 2) (omega arith) (omega arith)

below_pow : (s : ℕ) → s < 2 ^ s
below_pow zero = omega arith
below_pow (suc s) = let h = below_pow s in omega arith

pub highest : (s : ℕ) → 0 < s → (d : ℕ) × (has s d ≡ true) × ((e : ℕ) → d < e → has s e ≡ false)
highest s h = let r = leading_top s s h (below_pow s) in let t = top_is r.0 s r.2 r.3 in (suc r.0, t.0, t.1)

-- a set that is not empty has a member
pub some : (s : ℕ) → 0 < s → (e : ℕ) × (has s e ≡ true)
some s h = let r = highest s h in (r.0, r.1)

pub some_by_card : (s : ℕ) → 0 < card s → (e : ℕ) × (has s e ≡ true)
some_by_card zero h = absurd (let z = card_zero in omega arith)
some_by_card (suc s) h = some (suc s) (omega arith)

card_pow : (k : ℕ) → ones (2 ^ k) ≡ 1
card_pow zero = let s = ones_step 1 in let z = card_zero in omega arith
card_pow (suc k) = let s = ones_step (2 ^ suc k) in let e : 2 ^ suc k / 2 ≡ 2 ^ k = omega arith in let e' = ap ones e in let i = card_pow k in omega arith

pub card_single : (e : ℕ) → card (single e) ≡ 1
unfolding single
card_single e = card_pow (e - 1)

-- ---- parts

pub and_subset : (s t : ℕ) → Subset s t → bit_and t s ≡ s
and_subset s t p = ext _ _ (λ e. grind (arith, members))

pub card_subset : (s t : ℕ) → Subset s t → card s ≤ card t
card_subset s t p = let a = ap ones (and_subset s t p) in let b = card_split t s in omega arith

pub subset_eq : (s t : ℕ) → Subset s t → card t ≤ card s → s ≡ t
subset_eq s t p h =
    let a = ap ones (and_subset s t p) in let b = card_split t s in let z : difference t s ≡ 0 = zero_from_ones (difference t s) (omega arith) in
    ext _ _ (λ e. let n = ap (λ (x : ℕ). has x e) z in grind (arith, members))

pub card_insert : (s e : ℕ) → 1 ≤ e → has s e ≡ false → card (insert s e) ≡ suc (card s)
card_insert s e h n =
    let z : bit_and s (single e) ≡ 0 = ext _ _ (λ f. grind (arith, members)) in
    let p = card_or_and s (single e) in let q = ap ones z in let o = card_single e in let z0 = card_zero in omega arith

pub card_remove : (s e : ℕ) → has s e ≡ true → suc (card (remove s e)) ≡ card s
card_remove s e m =
    let h = has_pos s e m in
    let z : bit_and s (single e) ≡ single e = ext _ _ (λ f. grind (arith, members)) in
    let p = card_split s (single e) in let q = ap ones z in let o = card_single e in omega arith

pub more : (a b : ℕ) → card a < card b → (e : ℕ) × (has b e ≡ true) × (has a e ≡ false)
more a b h =
    let p = card_split b a in
    let q = card_subset (bit_and b a) a (λ e m. grind (arith, members)) in
    let r = some_by_card (difference b a) (omega arith) in
    let m = r.1 in (r.0, grind (arith, members), grind (arith, members))
