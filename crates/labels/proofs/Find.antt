-- A label that passes a test, or that none does; induction on sets.
use Rattle.std.proofs.Common.{◌≡◌, ℕ, zero, suc, ◌<◌, ◌≤◌, Bool, true, false, ◌⊎◌, sym, refl, not, ◌&&◌, ap, ap₂, ◌∙◌, subst, inl, inr, arith}
use native.Mathlib.Decide.{ℕ_discrete}
use Rattle.std.proofs.lemmas.Bool.{and_parts, cases_Bool, not-true}
use Rattle.std.proofs.lemmas.Nat.{zero_from_ones}
use Rattle.labels.specs.Sets.{has, card, remove, first_passing, no_label}
use Rattle.labels.proofs.Card.{card_remove, card_zero, highest, some}
use Rattle.labels.proofs.Passing.{FirstPassing, first_passing_is, one_more}

-- a label of 1..n that passes
pub find : (t : ℕ → Bool) (n : ℕ) → ((e : ℕ) × (1 ≤ e) × (e ≤ n) × (t e ≡ true)) ⊎ ((e : ℕ) → 1 ≤ e → e ≤ n → t e ≡ false)
find t n = go (first_passing_is t n)
  where
    go : FirstPassing t n (first_passing t n) → ((e : ℕ) × (1 ≤ e) × (e ≤ n) × (t e ≡ true)) ⊎ ((e : ℕ) → 1 ≤ e → e ≤ n → t e ≡ false)
    go (inl r) = inr r.1
    go (inr r) = inl (first_passing t n, r.0, r.1, r.2)

-- the lowest label that passes
pub lowest : (t : ℕ → Bool) (n : ℕ) → ((e : ℕ) × (e < n) × (t e ≡ true) × ((f : ℕ) → f < e → t f ≡ false)) ⊎ ((k : ℕ) → k < n → t k ≡ false)
lowest t zero = inr (λ k l. absurd (omega arith))
lowest t (suc n) = go (lowest t n) (cases_Bool (t n))
  where
    go : ((e : ℕ) × (e < n) × (t e ≡ true) × ((f : ℕ) → f < e → t f ≡ false)) ⊎ ((k : ℕ) → k < n → t k ≡ false) → (t n ≡ true) ⊎ (t n ≡ false)
        → ((e : ℕ) × (e < suc n) × (t e ≡ true) × ((f : ℕ) → f < e → t f ≡ false)) ⊎ ((k : ℕ) → k < suc n → t k ≡ false)
    go (inl r) c = inl (r.0, omega arith, r.2, r.3)
    go (inr f) (inl y) = inl (n, omega arith, y, f)
    go (inr f) (inr z) = inr (λ k l. last k l (ℕ_discrete k n))
      where
        last : (k : ℕ) → k < suc n → Dec (k ≡ n) → t k ≡ false
        last k l (yes e) = ap t e ∙ z
        last k l (no e) = f k (omega arith)

-- a place below n that passes
pub find_below : (t : ℕ → Bool) (n : ℕ) → ((k : ℕ) × (k < n) × (t k ≡ true)) ⊎ ((k : ℕ) → k < n → t k ≡ false)
find_below t n = go (lowest t n)
  where
    go : ((e : ℕ) × (e < n) × (t e ≡ true) × ((f : ℕ) → f < e → t f ≡ false)) ⊎ ((k : ℕ) → k < n → t k ≡ false)
        → ((k : ℕ) × (k < n) × (t k ≡ true)) ⊎ ((k : ℕ) → k < n → t k ≡ false)
    go (inl r) = inl (r.0, r.1, r.2)
    go (inr f) = inr f

-- ---- induction: from a set with a member removed to the set

pub set_ind {ℓ} : (P : ℕ → Type ℓ) → P 0 → ((s e : ℕ) → has s e ≡ true → ((f : ℕ) → e < f → has s f ≡ false) → P (remove s e) → P s) → (s : ℕ) → P s
set_ind P base step s = go (card s) s refl
  where
    go : (n : ℕ) (s : ℕ) → card s ≡ n → P s
    go zero s h = subst P (sym (zero_from_ones s h)) base
    go (suc n) zero h = absurd (omega (arith, card_zero))
    go (suc n) (suc s) h =
        let r = highest (suc s) (omega arith) in
        step (suc s) r.0 r.1 r.2 (go n (remove (suc s) r.0) (omega (arith, card_remove (suc s) r.0 r.1)))

pub lowest_member : (s : ℕ) → 0 < s → (e : ℕ) × (has s e ≡ true) × ((f : ℕ) → f < e → has s f ≡ false)
lowest_member s h = go (some s h)
  where
    go : (e : ℕ) × (has s e ≡ true) → (e : ℕ) × (has s e ≡ true) × ((f : ℕ) → f < e → has s f ≡ false)
    go (e₀, m) = pick (lowest (has s) (suc e₀))
      where
        pick : ((e : ℕ) × (e < suc e₀) × (has s e ≡ true) × ((f : ℕ) → f < e → has s f ≡ false)) ⊎ ((k : ℕ) → k < suc e₀ → has s k ≡ false)
            → (e : ℕ) × (has s e ≡ true) × ((f : ℕ) → f < e → has s f ≡ false)
        pick (inl r) = (r.0, r.2, r.3)
        pick (inr f) = let q = f e₀ (omega arith) in absurd (grind arith)

-- the same induction by the lowest member
pub set_ind_low {ℓ} : (P : ℕ → Type ℓ) → P 0 → ((s e : ℕ) → has s e ≡ true → ((f : ℕ) → f < e → has s f ≡ false) → P (remove s e) → P s) → (s : ℕ) → P s
set_ind_low P base step s = go (card s) s refl
  where
    go : (n : ℕ) (s : ℕ) → card s ≡ n → P s
    go zero s h = subst P (sym (zero_from_ones s h)) base
    go (suc n) zero h = absurd (omega (arith, card_zero))
    go (suc n) (suc s) h =
        let r = lowest_member (suc s) (omega arith) in
        step (suc s) r.0 r.1 r.2 (go n (remove (suc s) r.0) (omega (arith, card_remove (suc s) r.0 r.1)))

-- ---- no label of 1..n passes, as a test

pub no_label_tells : (t : ℕ → Bool) (n : ℕ) → no_label t n ≡ true → (e : ℕ) → 1 ≤ e → e ≤ n → t e ≡ false
no_label_tells t zero h = λ e l g. absurd (omega arith)
no_label_tells t (suc n) h = let p = and_parts _ _ h in one_more (λ (e : ℕ). t e ≡ false) n (no_label_tells t n p.1) (not-true (t (suc n)) p.0)

pub no_label_passes : (t : ℕ → Bool) (n : ℕ) → ((e : ℕ) → 1 ≤ e → e ≤ n → t e ≡ false) → no_label t n ≡ true
no_label_passes t zero f = refl
no_label_passes t (suc n) f =
    let p = f (suc n) (omega arith) (omega arith) in let q = no_label_passes t n (λ e l g. f e l (omega arith)) in grind arith

pub no_label_same : (t u : ℕ → Bool) (n : ℕ) → ((e : ℕ) → 1 ≤ e → e ≤ n → t e ≡ u e) → no_label t n ≡ no_label u n
no_label_same t u zero h = refl
no_label_same t u (suc n) h = ap₂ (λ (x y : Bool). not x && y) (h (suc n) (omega arith) (omega arith)) (no_label_same t u n (λ e l g. h e l (omega arith)))
