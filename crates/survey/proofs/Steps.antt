-- Numbers, cuts and pairs, a step at a time.
use Rattle.std.proofs.Common.{◌≡◌, ℕ, ◌^◌, ◌<◌, ◌≤◌, Bool, true, false, cond, ◌&&◌, ◌||◌, eqb, ltb, List, [], ◌∷◌, map, length, get_or, take, ℤ, Some, None, Option, position, refl, ap, ◌∙◌, zero-lt-suc, ltb-false, arith}
use Rattle.std.specs.List.{list_any}
use native.Mathlib.Nat.{pow-le-pow_right}
use lib.Pointwise.{pointwise}
use Rattle.survey_laws.specs.Sheets.{SurveyRow, comma}
use Rattle.survey_laws.specs.Check.{number_in, shift_in, until, before, after, row_from, row_in, same_pair, met}

-- a number of n digits has no more than m
pub under : (v n m : ℕ) → v < 10 ^ n → n ≤ m → v < 10 ^ m
under v n m h l = let p : 10 ^ n ≤ 10 ^ m = pow-le-pow_right (zero-lt-suc 9) l in omega arith

-- ---- the place of a mark

found : (b : Bool) (n k : ℕ) → ◌≡◌ {A = Option ℕ} (Some n) (cond b (Some k) None) → n ≡ k
found true n k p = cc
found false n k p = absurd (let z : ◌≡◌ {A = ℕ} 0 1 = cc in omega arith)

lost : (b : Bool) (k : ℕ) → ◌≡◌ {A = Option ℕ} None (cond b (Some k) None) → b ≡ false
lost true k p = absurd (let z : ◌≡◌ {A = ℕ} 0 1 = cc in omega arith)
lost false k p = refl

pub until_found : (b : ℕ) (s : List ℕ) (n : ℕ) → ◌≡◌ {A = Option ℕ} (Some n) (position (λ c. eqb c b) s) → n ≡ until b s
until_found b s n p = found (ltb (until b s) (length s)) n (until b s) p

pub until_lost : (b : ℕ) (s : List ℕ) → ◌≡◌ {A = Option ℕ} None (position (λ c. eqb c b) s) → length s ≤ until b s
until_lost b s p = ltb-false (until b s) (length s) (lost (ltb (until b s) (length s)) (until b s) p)

-- ---- the sign of a shift

pub minus_first : (s : List ℕ) → pointwise eqb (take 1 s) (45 ∷ []) ≡ eqb (get_or s 0 0) 45
minus_first [] = refl
minus_first (c ∷ cs) = go (eqb c 45)
  where
    go : (b : Bool) → (b && true) ≡ b
    go true = refl
    go false = refl

-- ---- pairs

pub any_met : {A : Type 0} (f : A → SurveyRow) (xs : List A) (r : SurveyRow) → list_any (λ q. same_pair (f q) r) xs ≡ met (map f xs) r
any_met f [] r = refl
any_met f (q ∷ qs) r = go (same_pair (f q) r) ∙ ap (λ b. cond (same_pair (f q) r) true b) (any_met f qs r)
  where
    go : (b : Bool) → (b || list_any (λ x. same_pair (f x) r) qs) ≡ cond b true (list_any (λ x. same_pair (f x) r) qs)
    go true = refl
    go false = refl

-- ---- a row, by its fields

pub row_in_cuts : (s f₁ r₁ f₂ r₂ f₃ f₄ : List ℕ) (p q : Option ℕ) (x y : Option ℤ) → f₁ ≡ before comma s → r₁ ≡ after comma s → f₂ ≡ before comma r₁ → r₂ ≡ after comma r₁
    → f₃ ≡ before comma r₂ → f₄ ≡ after comma r₂ → p ≡ number_in f₁ → q ≡ number_in f₂ → x ≡ shift_in f₃ → y ≡ shift_in f₄ → row_from p q x y ≡ row_in s
unfolding row_in
row_in_cuts s f₁ r₁ f₂ r₂ f₃ f₄ p q x y e₁ h₁ e₂ h₂ e₃ h₃ i j k l = cc
