-- The rows of a table.
use Rattle.std.proofs.Common.{◌≡◌, ℕ, zero, suc, ◌-◌, ◌<◌, ◌≤◌, Bool, true, cond, ◌&&◌, ◌==◌, not, List, [], ◌∷◌, length, replicate, slice_set, sym, refl, ap, ◌∙◌, ap₂, arith, get_or-set_other, get_or-set_same}
use native.Mathlib.Decide.{ℕ_discrete}
use native.Mathlib.Numerals.{unary_clauses}
use Rattle.std.proofs.lemmas.Bool.Decides.{nat_tests}
use Rattle.labels.specs.Sets.{has, limit}
use Rattle.labels.proofs.Member.{has_none}
use Rattle.answer_laws.specs.Answers.{Answers as Known, none, noted}
use Rattle.answers.specs.declared.row.Row.{Row}
use Rattle.answers.specs.Table.{is_label, row_of, known_in}

abbrev blank : Row
blank = record { yes = 0; no = 0 }

row_blank : (n a : ℕ) → row_of (replicate n blank) a ≡ blank
row_blank n zero = refl
row_blank zero (suc k) = refl
row_blank (suc n) (suc zero) = refl
row_blank (suc n) (suc (suc k)) = row_blank n (suc k)

-- what is known, told row by row
pub known_is : (rows : List Row) (o : Known) → ((a b : ℕ) → has (row_of rows a).yes b ≡ o.yes a b) → ((a b : ℕ) → has (row_of rows a).no b ≡ o.no a b) → known_in rows ≡ o
known_is rows o p q = λ i. record { yes = λ a b. p a b i; no = λ a b. q a b i }

pub blank_is : (n : ℕ) → known_in (replicate n blank) ≡ none
blank_is n = known_is _ none (λ a b. ap (λ (r : Row). has r.yes b) (row_blank n a) ∙ has_none b) (λ a b. ap (λ (r : Row). has r.no b) (row_blank n a) ∙ has_none b)

-- another row for the label a
module _ (rows : List Row) (a : ℕ) (r : Row) (low : 1 ≤ a) (whole : a ≤ length rows) where
  pub row_put : row_of (slice_set rows (a - 1) r) a ≡ r
  row_put = go a low whole
    where
      go : (a : ℕ) → 1 ≤ a → a ≤ length rows → row_of (slice_set rows (a - 1) r) a ≡ r
      go zero l h = absurd (omega arith)
      go (suc k) l h = simp unary_clauses (get_or-set_same rows k r blank (omega arith))

  pub row_other : (x : ℕ) → (x ≡ a → ⊥) → row_of (slice_set rows (a - 1) r) x ≡ row_of rows x
  row_other x n = go a x low n
    where
      go : (a x : ℕ) → 1 ≤ a → (x ≡ a → ⊥) → row_of (slice_set rows (a - 1) r) x ≡ row_of rows x
      go zero x l n = absurd (omega arith)
      go (suc k) zero l n = refl
      go (suc k) (suc j) l n = simp unary_clauses (get_or-set_other rows k j r blank (λ e. n (ap suc e)))

  -- one answer more
  module _ (b : ℕ) (ans : Bool) where
    noted_bit : (p : Row → ℕ) (k : Bool) → ((y : ℕ) → has (p r) y ≡ cond (y == b) k (has (p (row_of rows a)) y))
        → (x y : ℕ) → has (p (row_of (slice_set rows (a - 1) r) x)) y ≡ cond (x == a && y == b) k (has (p (row_of rows x)) y)
    noted_bit p k f x y = go (ℕ_discrete x a)
      where
        go : Dec (x ≡ a) → has (p (row_of (slice_set rows (a - 1) r) x)) y ≡ cond (x == a && y == b) k (has (p (row_of rows x)) y)
        go (no z) = ap (λ (q : Row). has (p q) y) (row_other x z) ∙ grind (arith, nat_tests)
        go (yes z) =
            ap (λ (i : ℕ). has (p (row_of (slice_set rows (a - 1) r) i)) y) z ∙ ap (λ (q : Row). has (p q) y) row_put ∙ f y
            ∙ ap (λ (i : ℕ). cond (y == b) k (has (p (row_of rows i)) y)) (sym z) ∙ grind (arith, nat_tests)

    pub noted_is : ((y : ℕ) → has r.yes y ≡ cond (y == b) ans (has (row_of rows a).yes y)) → ((y : ℕ) → has r.no y ≡ cond (y == b) (not ans) (has (row_of rows a).no y))
        → known_in (slice_set rows (a - 1) r) ≡ noted (known_in rows) a b ans
    noted_is f g = known_is _ _ (noted_bit (λ (q : Row). q.yes) ans f) (noted_bit (λ (q : Row). q.no) (not ans) g)

-- ---- labels that there can be

pub label_low : (e : ℕ) (b : Bool) → b ≡ is_label e → b ≡ true → (1 ≤ e) × (e ≤ limit)
label_low e b h t = let q : is_label e ≡ true = sym h ∙ t in (grind (arith, nat_tests), grind (arith, nat_tests))

-- what a call says of two of them
pub where_labels : (a b : ℕ) (x y : Known) → is_label a ≡ true → is_label b ≡ true → x ≡ cond (is_label a && is_label b) x y
where_labels a b x y p q = sym (ap₂ (λ (i j : Bool). cond (i && j) x y) p q)

-- of a label that there cannot be, nothing is known
pub row_none : (rows : List Row) (a : ℕ) → length rows < a → row_of rows a ≡ blank
row_none rows zero h = refl
row_none [] (suc k) h = refl
row_none (r ∷ rows) (suc zero) h = absurd (omega arith)
row_none (r ∷ rows) (suc (suc k)) h = row_none rows (suc k) (omega arith)
