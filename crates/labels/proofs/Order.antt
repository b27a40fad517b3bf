-- The highest label of the difference of two sets, and the order of the numbers.
use Rattle.std.proofs.Common.{◌≡◌, ℕ, zero, suc, ◌+◌, ◌/◌, ◌<◌, ◌≤◌, true, false, ◌&&◌, ◌||◌, ltb, leb, sym, ◌∙◌, arith}
use native.Mathlib.Decide.{ℕ_discrete}
use lib.Bits.{bit_xor}
use Rattle.std.proofs.lemmas.Bool.Decides.{nat_tests}
use Rattle.labels.specs.Sets.{bit, has, TopDifference, swap, reopened}
use Rattle.labels.proofs.Member.{bit_low, bit_up, has_pos, has_zero, members}
use Rattle.labels.proofs.Card.{bit_ext, highest, xor_back}

-- two different sets have a highest label of difference
pub top : (a b : ℕ) → (a ≡ b → ⊥) → (d : ℕ) × TopDifference a b d
top a b ne = go (ℕ_discrete (bit_xor a b) 0)
  where
    go : Dec (bit_xor a b ≡ 0) → (d : ℕ) × TopDifference a b d
    go (yes z) = absurd (ne (xor_back a b z))
    go (no z) = let r = highest (bit_xor a b) (omega arith) in (
      r.0,
      record {
        apart = let m = r.1 in grind (arith, members);
        above = λ e l. let m = r.2 e l in grind (arith, members);
      },
    )

-- and only one
pub top_one : (a b d e : ℕ) → TopDifference a b d → TopDifference a b e → d ≡ e
top_one a b d e p q = grind (arith, members)

pub top_sym : (a b d : ℕ) → TopDifference a b d → TopDifference b a d
top_sym a b d p = record { apart = grind arith; above = λ e l. sym (p.above e l) }

-- swapping two labels e > f: e is the highest label of difference
pub top_swap : (s e f : ℕ) → 1 ≤ f → f < e → TopDifference s (swap s e f) e
top_swap s e f h l = record {
  apart = grind (arith, members);
  above = λ x g. grind (arith, members);
}

-- the number with the highest label of difference is the larger
bit_less : (k a b : ℕ) → bit a k ≡ false → bit b k ≡ true → ((j : ℕ) → k < j → bit a j ≡ bit b j) → a < b
bit_less zero a b p q above =
    let e : a / 2 ≡ b / 2 = bit_ext (a + b) (a / 2) (b / 2) (omega arith) (omega arith) (λ j. sym (bit_up a j) ∙ above (suc j) (omega arith) ∙ bit_up b j) in
    let x = bit_low a in let y = bit_low b in grind arith
bit_less (suc k) a b p q above =
    let i = bit_less k (a / 2) (b / 2) (sym (bit_up a k) ∙ p) (sym (bit_up b k) ∙ q) (λ j l. sym (bit_up a j) ∙ above (suc j) (omega arith) ∙ bit_up b j) in
    omega arith

pub top_less : (a b d : ℕ) → TopDifference a b d → has b d ≡ true → a < b
unfolding has
top_less a b zero p q = let z : ◌≡◌ {A = ℕ} 0 1 = cc (has_zero b) in absurd (omega arith)
top_less a b (suc k) p q = bit_less k a b (grind arith) q (λ j l. p.above (suc j) (omega arith))

-- ---- an advance at label e

pub has_reopened : (s e f : ℕ) → 1 ≤ e → has (reopened s e) f ≡ ((ltb e f && has s f) || (leb 1 f && ltb f e))
has_reopened s e f h = grind (arith, members)

pub top_reopened : (s e : ℕ) → has s e ≡ true → TopDifference (reopened s e) s e
top_reopened s e m =
    let h = has_pos s e m in record {
      apart = grind (arith, has_reopened, nat_tests);
      above = λ f l. grind (arith, has_reopened, nat_tests);
    }

pub reopened_less : (s e : ℕ) → has s e ≡ true → reopened s e < s
reopened_less s e m = top_less (reopened s e) s e (top_reopened s e m) m
