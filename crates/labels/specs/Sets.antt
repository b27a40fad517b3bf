-- Sets of labels 1, 2, .. as numbers: label e is in s where place e - 1 (from 0) of the binary digits of s is set.
-- Nothing here but `limit` knows how many labels there are.
use Rattle.std.specs.Prelude.{◌≡◌, ℕ, zero, suc, ◌-◌, ◌/◌, ◌%◌, ◌^◌, ◌<◌, Bool, true, false, cond, not, ◌&&◌, ◌==◌, bit_and, bit_or, bit_xor, count_ones}

-- the highest label that there can be
abbrev pub limit : ℕ
limit = 48

-- exactly one of the two
abbrev pub differs : Bool → Bool → Bool
differs true b = not b
differs false b = b

-- place k (from 0) of the number s is set
unfoldable pub bit : ℕ → ℕ → Bool
bit s zero = s % 2 == 1
bit s (suc k) = bit (s / 2) k

-- label e (from 1) is in s
unfoldable pub has : ℕ → ℕ → Bool
unfolding bit
has s zero = false
has s (suc k) = bit s k

-- the set of the label e alone, for 1 ≤ e
unfoldable pub single : ℕ → ℕ
single e = 2 ^ (e - 1)

-- the labels 1..n
abbrev pub full : ℕ → ℕ
full n = 2 ^ n - 1

-- what is in a and not in b
abbrev pub difference : ℕ → ℕ → ℕ
difference a b = bit_xor a (bit_and a b)

-- one label more, one label less
abbrev pub insert : ℕ → ℕ → ℕ
insert s e = bit_or s (single e)

abbrev pub remove : ℕ → ℕ → ℕ
remove s e = difference s (single e)

-- the labels e and f change sides: in where they were out, out where they were in
abbrev pub swap : ℕ → ℕ → ℕ → ℕ
swap s e f = bit_xor s (bit_or (single e) (single f))

-- each label of s is one of t
abbrev pub Subset : ℕ → ℕ → Type 0
Subset s t = (e : ℕ) → has s e ≡ true → has t e ≡ true

-- the test of it
abbrev pub is_subset : ℕ → ℕ → Bool
is_subset s t = bit_and s t == s

-- how many labels
abbrev pub card : ℕ → ℕ
card s = count_ones s

-- d is the highest label of difference of a and b: in exactly one of the two, and all above agree
pub record TopDifference (a b d : ℕ) : Type 0 where
  pub apart : has a d ≡ not (has b d)
  pub above : (e : ℕ) → d < e → has a e ≡ has b e

-- what is active after an exchange at the label e: all labels below e, not e, and those above as they were
abbrev pub reopened : ℕ → ℕ → ℕ
reopened s e = bit_or (difference s (full e)) (full (e - 1))

-- no label of 1..n passes
abbrev pub no_label : (ℕ → Bool) → ℕ → Bool
no_label t zero = true
no_label t (suc n) = not (t (suc n)) && no_label t n

-- the set of those labels of 1..n that pass
unfoldable pub passing : (ℕ → Bool) → ℕ → ℕ
passing t zero = 0
passing t (suc n) = cond (t (suc n)) (insert (passing t n) (suc n)) (passing t n)

-- the lowest label of 1..n that passes, or 0
abbrev pub or_else : ℕ → Bool → ℕ → ℕ
or_else zero b n = cond b n 0
or_else (suc e) b n = suc e

unfoldable pub first_passing : (ℕ → Bool) → ℕ → ℕ
first_passing t zero = 0
first_passing t (suc n) = or_else (first_passing t n) (t (suc n)) (suc n)

-- the highest label of s below e, or 0
unfoldable pub highest_below : ℕ → ℕ → ℕ
highest_below zero s = 0
highest_below (suc k) s = cond (has s k) k (highest_below k s)
