-- Lists joined, reordered, and stepwise.
use Rattle.std.proofs.Common.{◌≡◌, ℕ, suc, Bool, true, false, cond, eqb, ◌⊎◌, ◌↔◌, List, [], ◌∷◌, ◌++◌, length, sym, refl, ap, ◌∙◌, subst, inl, inr}
use Rattle.std.proofs.lemmas.Bool.{eq-eqb, eqb-true, true≢false}
use Rattle.labels.specs.Families.{In, Once}
use Rattle.walk_laws.specs.Law.{Linked, Reordered, Stepwise, chain, none, over, under}
use Rattle.walk_laws.specs.AlgorithmG.{among}

pub in_left : (x : ℕ) (xs ys : List ℕ) → In x xs → In x (xs ++ ys)
in_left x [] ys i = elim i [ ]
in_left x (y ∷ xs) ys (inl e) = inl e
in_left x (y ∷ xs) ys (inr i) = inr (in_left x xs ys i)

pub in_right : (x : ℕ) (xs ys : List ℕ) → In x ys → In x (xs ++ ys)
in_right x [] ys i = i
in_right x (y ∷ xs) ys i = inr (in_right x xs ys i)

pub in_either : (x : ℕ) (xs ys : List ℕ) → In x (xs ++ ys) → In x xs ⊎ In x ys
in_either x [] ys i = inr i
in_either x (y ∷ xs) ys (inl e) = inl (inl e)
in_either x (y ∷ xs) ys (inr i) = go (in_either x xs ys i)
  where
    go : In x xs ⊎ In x ys → In x (y ∷ xs) ⊎ In x ys
    go (inl j) = inl (inr j)
    go (inr j) = inr j

pub once_left : (xs ys : List ℕ) → Once (xs ++ ys) → Once xs
once_left [] ys o = tt
once_left (x ∷ xs) ys o = (λ i. o.0 (in_left x xs ys i), once_left xs ys o.1)

pub once_apart : (x : ℕ) (xs ys : List ℕ) → Once (xs ++ ys) → In x xs → In x ys → ⊥
once_apart x [] ys o i j = elim i [ ]
once_apart x (y ∷ xs) ys o (inl e) j = o.0 (subst (λ (z : ℕ). In z (xs ++ ys)) e (in_right x xs ys j))
once_apart x (y ∷ xs) ys o (inr i) j = once_apart x xs ys o.1 i j

linked_left : (t : ℕ) (xs ys : List ℕ) → Linked t (xs ++ ys) → Linked t xs
linked_left t [] ys h = tt
linked_left t (x ∷ xs) ys h = (h.0, linked_left x xs ys h.1)

pub stepwise_left : (xs ys : List ℕ) → Stepwise (xs ++ ys) → Stepwise xs
stepwise_left [] ys h = tt
stepwise_left (x ∷ xs) ys h = linked_left x xs ys h

-- ---- the test of In

pub among_tells : (x : ℕ) (xs : List ℕ) → among x xs ≡ true → In x xs
unfolding among
among_tells x [] h = absurd (true≢false (sym h))
among_tells x (y ∷ ys) h = go (eqb x y) refl h (among_tells x ys)
  where
    go : (b : Bool) → eqb x y ≡ b → cond b true (among x ys) ≡ true → (among x ys ≡ true → In x ys) → (x ≡ y) ⊎ In x ys
    go true p q ih = inl (eqb-true x y p)
    go false p q ih = inr (ih q)

pub among_passes : (x : ℕ) (xs : List ℕ) → In x xs → among x xs ≡ true
unfolding among
among_passes x [] i = elim i [ ]
among_passes x (y ∷ ys) i = go (eqb x y) refl i (among_passes x ys)
  where
    go : (b : Bool) → eqb x y ≡ b → (x ≡ y) ⊎ In x ys → (In x ys → among x ys ≡ true) → cond b true (among x ys) ≡ true
    go true p j ih = refl
    go false p (inl e) ih = absurd (true≢false (sym (eq-eqb x y e) ∙ p))
    go false p (inr j) ih = ih j

-- ---- reorderings

pub reordered_refl : (xs : List ℕ) → Reordered xs xs
reordered_refl [] = none
reordered_refl (x ∷ xs) = under (reordered_refl xs)

pub reordered_length : {xs ys : List ℕ} → Reordered xs ys → length xs ≡ length ys
reordered_length none = refl
reordered_length (under r) = ap suc (reordered_length r)
reordered_length over = refl
reordered_length (chain p q) = reordered_length p ∙ reordered_length q

without : ℕ → List ℕ → List ℕ
without x [] = []
without x (y ∷ ys) = cond (eqb x y) ys (y ∷ without x ys)

to_front : (x : ℕ) (ys : List ℕ) → In x ys → Reordered (x ∷ without x ys) ys
unfolding without
to_front x [] i = elim i [ ]
to_front x (y ∷ ys) i = go (eqb x y) refl i (to_front x ys)
  where
    go : (b : Bool) → eqb x y ≡ b → (x ≡ y) ⊎ In x ys → (In x ys → Reordered (x ∷ without x ys) ys) → Reordered (x ∷ cond b ys (y ∷ without x ys)) (y ∷ ys)
    go true p j ih = subst (λ (z : ℕ). Reordered (x ∷ ys) (z ∷ ys)) (eqb-true x y p) (reordered_refl (x ∷ ys))
    go false p (inl e) ih = absurd (true≢false (sym (eq-eqb x y e) ∙ p))
    go false p (inr j) ih = chain over (under (ih j))

in_without : (x z : ℕ) (ys : List ℕ) → In z ys → (z ≡ x → ⊥) → In z (without x ys)
unfolding without
in_without x z [] i n = i
in_without x z (y ∷ ys) i n = go (eqb x y) refl i (λ j. in_without x z ys j n)
  where
    go : (b : Bool) → eqb x y ≡ b → (z ≡ y) ⊎ In z ys → (In z ys → In z (without x ys)) → In z (cond b ys (y ∷ without x ys))
    go true p (inl q) ih = absurd (n (q ∙ sym (eqb-true x y p)))
    go true p (inr j) ih = j
    go false p (inl q) ih = inl q
    go false p (inr j) ih = inr (ih j)

without_in : (x z : ℕ) (ys : List ℕ) → In z (without x ys) → In z ys
unfolding without
without_in x z [] i = i
without_in x z (y ∷ ys) i = go (eqb x y) i (without_in x z ys)
  where
    go : (b : Bool) → In z (cond b ys (y ∷ without x ys)) → (In z (without x ys) → In z ys) → (z ≡ y) ⊎ In z ys
    go true j ih = inr j
    go false (inl q) ih = inl q
    go false (inr j) ih = inr (ih j)

once_without : (x : ℕ) (ys : List ℕ) → Once ys → Once (without x ys)
unfolding without
once_without x [] o = tt
once_without x (y ∷ ys) o = go (eqb x y) (once_without x ys o.1)
  where
    go : (b : Bool) → Once (without x ys) → Once (cond b ys (y ∷ without x ys))
    go true r = o.1
    go false r = (λ i. o.0 (without_in x y ys i), r)

not_without : (x : ℕ) (ys : List ℕ) → Once ys → In x (without x ys) → ⊥
unfolding without
not_without x [] o i = elim i [ ]
not_without x (y ∷ ys) o i = go (eqb x y) refl i (not_without x ys o.1)
  where
    go : (b : Bool) → eqb x y ≡ b → In x (cond b ys (y ∷ without x ys)) → (In x (without x ys) → ⊥) → ⊥
    go true p j ih = o.0 (subst (λ (z : ℕ). In z ys) (eqb-true x y p) j)
    go false p (inl q) ih = true≢false (sym (eq-eqb x y q) ∙ p)
    go false p (inr j) ih = ih j

-- two lists with no repetition and the same members
pub same_members : (xs ys : List ℕ) → Once xs → Once ys → ((x : ℕ) → In x xs ↔ In x ys) → Reordered xs ys
same_members [] [] o u f = none
same_members [] (y ∷ ys) o u f = absurd ((f y).1 (inl refl))
same_members (x ∷ xs) ys o u f =
    chain (under (same_members xs (without x ys) o.1 (once_without x ys u) (λ z. (there z, back z)))) (to_front x ys ((f x).0 (inl refl)))
  where
    there : (z : ℕ) → In z xs → In z (without x ys)
    there z i = in_without x z ys ((f z).0 (inr i)) (λ q. o.0 (subst (λ (v : ℕ). In v xs) q i))

    back : (z : ℕ) → In z (without x ys) → In z xs
    back z i = go ((f z).1 (without_in x z ys i))
      where
        go : (z ≡ x) ⊎ In z xs → In z xs
        go (inl q) = absurd (not_without x ys u (subst (λ (v : ℕ). In v (without x ys)) q i))
        go (inr j) = j
