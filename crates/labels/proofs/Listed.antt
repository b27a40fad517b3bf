-- All sets within 1..n as a list, and those that pass a test.
use Rattle.std.proofs.Common.{◌≡◌, ℕ, zero, suc, ◌^◌, ◌<◌, ◌≤◌, Bool, true, false, cond, eqb, ◌⊎◌, List, [], ◌∷◌, length, filter, sym, refl, ap, ◌∙◌, subst, inl, inr, arith}
use native.Mathlib.Decide.{ℕ_discrete}
use Rattle.std.specs.List.{ContainsAt as Has}
use Rattle.std.proofs.lemmas.Bool.{cases_eq, eq-eqb, ne_eqb}
use Rattle.labels.specs.Families.{numbers_below, In, Once, family}

pub in_numbers : (m x : ℕ) → x < m → In x (numbers_below m)
unfolding numbers_below
in_numbers zero x h = absurd (omega arith)
in_numbers (suc m) x h = go (in_numbers m x) (ℕ_discrete x m)
  where
    go : (x < m → In x (numbers_below m)) → Dec (x ≡ m) → (x ≡ m) ⊎ In x (numbers_below m)
    go ih (yes e) = inl e
    go ih (no e) = inr (ih (omega arith))

pub numbers_in : (m x : ℕ) → In x (numbers_below m) → x < m
unfolding numbers_below
numbers_in zero x i = elim i [ ]
numbers_in (suc m) x (inl e) = omega arith
numbers_in (suc m) x (inr i) = let h = numbers_in m x i in omega arith

pub once_numbers : (m : ℕ) → Once (numbers_below m)
unfolding numbers_below
once_numbers zero = tt
once_numbers (suc m) = (λ i. let h = numbers_in m m i in omega arith, once_numbers m)

module _ (t : ℕ → Bool) where
  pub in_kept : (xs : List ℕ) (x : ℕ) → In x xs → t x ≡ true → In x (filter t xs)
  in_kept [] x i h = i
  in_kept (y ∷ ys) x i h = go (t y) refl (λ j. in_kept ys x j h) i
    where
      go : (b : Bool) → t y ≡ b → (In x ys → In x (filter t ys)) → (x ≡ y) ⊎ In x ys → In x (cond b (y ∷ filter t ys) (filter t ys))
      go true p ih (inl e) = inl e
      go true p ih (inr j) = inr (ih j)
      go false p ih (inl e) = let q = ap t e in absurd (grind arith)
      go false p ih (inr j) = ih j

  pub kept_in : (xs : List ℕ) (x : ℕ) → In x (filter t xs) → In x xs × (t x ≡ true)
  kept_in [] x i = elim i [ ]
  kept_in (y ∷ ys) x i = go (t y) refl (kept_in ys x) i
    where
      go : (b : Bool) → t y ≡ b → (In x (filter t ys) → In x ys × (t x ≡ true)) → In x (cond b (y ∷ filter t ys) (filter t ys)) → ((x ≡ y) ⊎ In x ys) × (t x ≡ true)
      go true p ih (inl e) = (inl e, ap t e ∙ p)
      go true p ih (inr j) = let r = ih j in (inr r.0, r.1)
      go false p ih j = let r = ih j in (inr r.0, r.1)

  pub once_kept : (xs : List ℕ) → Once xs → Once (filter t xs)
  once_kept [] o = o
  once_kept (y ∷ ys) o = go (t y) (once_kept ys o.1)
    where
      go : (b : Bool) → Once (filter t ys) → Once (cond b (y ∷ filter t ys) (filter t ys))
      go true r = (λ i. o.0 (kept_in ys y i).0, r)
      go false r = r

pub in_family : (n : ℕ) (t : ℕ → Bool) (s : ℕ) → s < 2 ^ n → t s ≡ true → In s (family n t)
in_family n t s h p = in_kept t (numbers_below (2 ^ n)) s (in_numbers (2 ^ n) s h) p

pub family_in : (n : ℕ) (t : ℕ → Bool) (s : ℕ) → In s (family n t) → (s < 2 ^ n) × (t s ≡ true)
family_in n t s i = let r = kept_in t (numbers_below (2 ^ n)) s i in (numbers_in (2 ^ n) s r.0, r.1)

pub once_family : (n : ℕ) (t : ℕ → Bool) → Once (family n t)
once_family n t = once_kept t (numbers_below (2 ^ n)) (once_numbers (2 ^ n))

-- ---- how many: a list with no repetition, all of it in another, is no longer than that

without : ℕ → List ℕ → List ℕ
without x [] = []
without x (y ∷ ys) = cond (eqb x y) ys (y ∷ without x ys)

length_without : (x : ℕ) (ys : List ℕ) → In x ys → suc (length (without x ys)) ≡ length ys
unfolding without
length_without x [] i = elim i [ ]
length_without x (y ∷ ys) i = go (cases_eq x y) i (length_without x ys)
  where
    go : (x ≡ y) ⊎ (x ≡ y → ⊥) → (x ≡ y) ⊎ In x ys → (In x ys → suc (length (without x ys)) ≡ length ys)
        → suc (length (cond (eqb x y) ys (y ∷ without x ys))) ≡ suc (length ys)
    go (inl e) j ih = rw (eq-eqb x y e)
    go (inr n) (inl e) ih = absurd (n e)
    go (inr n) (inr j) ih = rw (ne_eqb x y n) (ap suc (ih j))

in_without : (x z : ℕ) (ys : List ℕ) → In z ys → (z ≡ x → ⊥) → In z (without x ys)
unfolding without
in_without x z [] i n = i
in_without x z (y ∷ ys) i n = go (cases_eq x y) i (λ j. in_without x z ys j n)
  where
    go : (x ≡ y) ⊎ (x ≡ y → ⊥) → (z ≡ y) ⊎ In z ys → (In z ys → In z (without x ys)) → In z (cond (eqb x y) ys (y ∷ without x ys))
    go (inl e) (inl q) ih = absurd (n (q ∙ sym e))
    go (inl e) (inr j) ih = rw (eq-eqb x y e) j
    go (inr m) (inl q) ih = rw (ne_eqb x y m) (inl q)
    go (inr m) (inr j) ih = rw (ne_eqb x y m) (inr (ih j))

pub no_longer : (xs ys : List ℕ) → Once xs → ((x : ℕ) → In x xs → In x ys) → length xs ≤ length ys
no_longer [] ys o f = omega arith
no_longer (x ∷ xs) ys o f =
    let e = length_without x ys (f x (inl refl)) in
    let h = no_longer xs (without x ys) o.1 (λ z i. in_without x z ys (f z (inr i)) (λ q. o.0 (subst (λ (w : ℕ). In w xs) q i))) in
    omega arith

-- ---- the two words for "stands in the list": here, and std's `Has`

pub has_from_in : (xs : List ℕ) (x : ℕ) → In x xs → Has xs x
has_from_in [] x i = elim i [ ]
has_from_in (y ∷ ys) x (inl e) = (0, omega arith, λ d. sym e)
has_from_in (y ∷ ys) x (inr i) = let r = has_from_in ys x i in (suc r.0, omega arith, r.2)

pub in_from_has : (xs : List ℕ) (x : ℕ) → Has xs x → In x xs
in_from_has [] x (k, l, a) = absurd (omega arith)
in_from_has (y ∷ ys) x (zero, l, a) = inl (sym (a 0))
in_from_has (y ∷ ys) x (suc k, l, a) = inr (in_from_has ys x (k, omega arith, a))
