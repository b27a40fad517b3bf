-- The labels that pass a test, the lowest that does, and the highest of a set below a label.
use Rattle.std.proofs.Common.{◌≡◌, ℕ, zero, suc, ◌<◌, ◌≤◌, Bool, true, false, cond, ◌&&◌, leb, ◌⊎◌, sym, refl, ap, ◌∙◌, subst, inl, inr, arith}
use native.Mathlib.Decide.{ℕ_discrete}
use Rattle.std.proofs.lemmas.Bool.Decides.{nat_tests}
use Rattle.labels.specs.Sets.{has, insert, passing, first_passing, or_else, highest_below}
use Rattle.labels.proofs.Member.{has_none, has_insert}
use Rattle.labels.proofs.Card.{ext}

pub has_passing : (t : ℕ → Bool) (m f : ℕ) → has (passing t m) f ≡ ((leb 1 f && leb f m) && t f)
unfolding passing
has_passing t zero f = has_none f ∙ grind (arith, nat_tests)
has_passing t (suc m) f = go (t (suc m)) refl (has_passing t m f)
  where
    go : (b : Bool) → t (suc m) ≡ b → has (passing t m) f ≡ ((leb 1 f && leb f m) && t f)
        → has (cond b (insert (passing t m) (suc m)) (passing t m)) f ≡ ((leb 1 f && leb f (suc m)) && t f)
    go true p ih = let h = has_insert (passing t m) (suc m) f (omega arith) in grind (arith, nat_tests)
    go false p ih = grind (arith, nat_tests)

pub passing_same : (t u : ℕ → Bool) (m : ℕ) → ((f : ℕ) → 1 ≤ f → f ≤ m → t f ≡ u f) → passing t m ≡ passing u m
passing_same t u m same = ext _ _ (λ f. let p = has_passing t m f in let q = has_passing u m f in let r = same f in grind (arith, nat_tests))

-- what holds of 1..m and of the label above holds of all of them
pub one_more : (P : ℕ → Type 0) (m : ℕ) → ((e : ℕ) → 1 ≤ e → e ≤ m → P e) → P (suc m) → (e : ℕ) → 1 ≤ e → e ≤ suc m → P e
one_more P m all here e l g = go (ℕ_discrete e (suc m))
  where
    go : Dec (e ≡ suc m) → P e
    go (yes q) = subst P (sym q) here
    go (no q) = all e l (omega arith)

abbrev pub FirstPassing : (ℕ → Bool) → ℕ → ℕ → Type 0
FirstPassing t m e = ((e ≡ 0) × ((f : ℕ) → 1 ≤ f → f ≤ m → t f ≡ false))
    ⊎ ((1 ≤ e) × (e ≤ m) × (t e ≡ true) × ((f : ℕ) → 1 ≤ f → f < e → t f ≡ false))

pub first_passing_is : (t : ℕ → Bool) (m : ℕ) → FirstPassing t m (first_passing t m)
unfolding first_passing
first_passing_is t zero = inl (refl, λ f l h. absurd (omega arith))
first_passing_is t (suc m) = go (first_passing t m) (first_passing_is t m) (t (suc m)) refl
  where
    go : (e : ℕ) → FirstPassing t m e → (b : Bool) → t (suc m) ≡ b → FirstPassing t (suc m) (or_else e b (suc m))
    go zero (inl (z, h)) true p = inr (omega arith, omega arith, p, λ f l g. h f l (omega arith))
    go zero (inl (z, h)) false p = inl (refl, one_more (λ (f : ℕ). t f ≡ false) m h p)
    go zero (inr r) b p = absurd (omega arith)
    go (suc e) (inl (z, h)) b p = absurd (omega arith)
    go (suc e) (inr (l, g, p, h)) b q = inr (l, omega arith, p, h)

pub first_passing_same : (t u : ℕ → Bool) (m : ℕ) → ((e : ℕ) → 1 ≤ e → e ≤ m → t e ≡ u e) → first_passing t m ≡ first_passing u m
unfolding first_passing
first_passing_same t u zero same = refl
first_passing_same t u (suc m) same = cc (first_passing_same t u m (λ e l g. same e l (omega arith)), same (suc m) (omega arith) (omega arith))

-- ---- the highest label of s below e

pub highest_below_is : (e s f : ℕ) → f < e → has s f ≡ true → (highest_below e s < e) × (has s (highest_below e s) ≡ true)
unfolding highest_below
highest_below_is zero s f l h = absurd (omega arith)
highest_below_is (suc k) s f l h = go (has s k) refl (highest_below_is k s f) (ℕ_discrete f k)
  where
    go : (b : Bool) → has s k ≡ b → (f < k → has s f ≡ true → (highest_below k s < k) × (has s (highest_below k s) ≡ true)) → Dec (f ≡ k)
        → (cond b k (highest_below k s) < suc k) × (has s (cond b k (highest_below k s)) ≡ true)
    go true p ih q = (omega arith, p)
    go false p ih (yes q) = let z = ap (has s) q in absurd (grind arith)
    go false p ih (no q) = let r = ih (omega arith) h in (omega arith, r.1)

pub highest_below_none : (e s : ℕ) → ((f : ℕ) → f < e → has s f ≡ false) → highest_below e s ≡ 0
unfolding highest_below
highest_below_none zero s h = refl
highest_below_none (suc k) s h =
    ap (λ (b : Bool). cond b k (highest_below k s)) (h k (omega arith)) ∙ highest_below_none k s (λ f l. h f (omega arith))

-- it is the one that no label of s between exceeds
pub highest_below_one : (e s f : ℕ) → f < e → has s f ≡ true → ((d : ℕ) → f < d → d < e → has s d ≡ false) → highest_below e s ≡ f
unfolding highest_below
highest_below_one zero s f l h a = absurd (omega arith)
highest_below_one (suc k) s f l h a = go (ℕ_discrete f k) (highest_below_one k s f)
  where
    go : Dec (f ≡ k) → (f < k → has s f ≡ true → ((d : ℕ) → f < d → d < k → has s d ≡ false) → highest_below k s ≡ f) → cond (has s k) k (highest_below k s) ≡ f
    go (yes q) ih = ap (λ (b : Bool). cond b k (highest_below k s)) (ap (has s) (sym q) ∙ h) ∙ sym q
    go (no q) ih =
        ap (λ (b : Bool). cond b k (highest_below k s)) (a k (omega arith) (omega arith)) ∙ ih (omega arith) h (λ d x y. a d x (omega arith))
