-- What is known of a set is right of the set that a swap leads to.
use Rattle.std.proofs.Common.{◌≡◌, ℕ, ◌≤◌, Bool, true, false, cond, not, ◌==◌, ◌&&◌, ◌||◌, sym, refl, ap, ◌∙◌, arith}
use Rattle.std.proofs.lemmas.Bool.{and_parts, both_ways}
use Rattle.std.proofs.lemmas.Bool.Decides.{nat_tests}
use native.Mathlib.Decide.{ℕ_discrete}
use Rattle.labels.specs.Sets.{has, swap}
use Rattle.labels.proofs.Member.{has_pos, members}
use Rattle.labels.proofs.Card.{ext}
use Rattle.matroid_laws.specs.Matroids.{IsMatroid}
use Rattle.answer_laws.specs.Answers.{Answers, Right, carried, none, noted}
use Rattle.answer_laws.proofs.Swaps.{turned, stays_m, stays_g}

-- of sets alone
module _ (t l m : ℕ) (l_in : has t l ≡ true) (m_pos : 1 ≤ m) (m_out : has t m ≡ false) where
  back : swap (swap t l m) m l ≡ t
  back = let p = has_pos t l l_in in ext _ _ (λ e. grind (arith, members))

  from_m : (b : ℕ) → 1 ≤ b → (b ≡ l → ⊥) → (b ≡ m → ⊥) → swap (swap t l m) m b ≡ swap t l b
  from_m b p y z = let q = has_pos t l l_in in ext _ _ (λ e. grind (arith, members))

  to_l : (a : ℕ) → 1 ≤ a → (a ≡ l → ⊥) → (a ≡ m → ⊥) → swap (swap t l m) a l ≡ swap t a m
  to_l a p y z = let q = has_pos t l l_in in ext _ _ (λ e. grind (arith, members))

  was_in : (a : ℕ) → has (swap t l m) a ≡ true → (a ≡ m → ⊥) → (has t a ≡ true) × (a ≡ l → ⊥)
  was_in a h z = let q = has_pos t l l_in in (grind (arith, members), λ y. grind (arith, members))

  was_out : (b : ℕ) → has (swap t l m) b ≡ false → (b ≡ l → ⊥) → (has t b ≡ false) × (m ≡ b → ⊥)
  was_out b h z = let q = has_pos t l l_in in (grind (arith, members), λ y. grind (arith, members))

-- what was known, of what is known after it
module _ (o : Answers) (t l m a b : ℕ) where
  yes_of_m : a ≡ m → (b ≡ l → ⊥) → (carried o t l m).yes a b ≡ true → o.yes l b ≡ true
  yes_of_m x y h = grind (arith, nat_tests)

  yes_of_l : (a ≡ m → ⊥) → b ≡ l → has t a ≡ true → (a ≡ l → ⊥) → (carried o t l m).yes a b ≡ true → o.yes a m ≡ true
  yes_of_l x y i z h = grind (arith, nat_tests)

  yes_of : (a ≡ m → ⊥) → (b ≡ l → ⊥) → has t a ≡ true → (a ≡ l → ⊥) → (carried o t l m).yes a b ≡ true
      → ((o.yes a b && (o.no a m || o.no l b)) || (o.yes a m && (o.yes l b && o.no a b))) ≡ true
  yes_of x y i z h = grind (arith, nat_tests)

  not_no : a ≡ m → b ≡ l → (carried o t l m).no a b ≡ true → ⊥
  not_no x y h = grind (arith, nat_tests)

  no_of_m : a ≡ m → (b ≡ l → ⊥) → (carried o t l m).no a b ≡ true → o.no l b ≡ true
  no_of_m x y h = grind (arith, nat_tests)

  no_of_l : (a ≡ m → ⊥) → b ≡ l → has t a ≡ true → (a ≡ l → ⊥) → (carried o t l m).no a b ≡ true → o.no a m ≡ true
  no_of_l x y i z h = grind (arith, nat_tests)

  no_of : (a ≡ m → ⊥) → (b ≡ l → ⊥) → has t a ≡ true → (a ≡ l → ⊥) → (carried o t l m).no a b ≡ true → (o.no a b && (o.no a m || o.no l b)) ≡ true
  no_of x y i z h = grind (arith, nat_tests)

module _ (n : ℕ) (independent : ℕ → Bool) (M : IsMatroid n independent) (t l m : ℕ) (o : Answers)
    (T : independent t ≡ true) (l_in : has t l ≡ true) (m_pos : 1 ≤ m) (m_out : has t m ≡ false) (U : independent (swap t l m) ≡ true)
    (R : Right independent t o) where
  -- neither label is one of the two that were swapped
  module _ (a b : ℕ) (a_in : has t a ≡ true) (b_pos : 1 ≤ b) (b_out : has t b ≡ false) (la : l ≡ a → ⊥) (mb : m ≡ b → ⊥) where
    same : (o.no a m || o.no l b) ≡ true → independent (swap (swap t l m) a b) ≡ independent (swap t a b)
    same h = go (o.no a m) refl h
      where
        go : (x : Bool) → o.no a m ≡ x → (x || o.no l b) ≡ true → independent (swap (swap t l m) a b) ≡ independent (swap t a b)
        go true e _ = stays_m t l a m b l_in a_in m_out b_out m_pos b_pos la mb n independent M T U (R.no a m a_in m_pos m_out e)
        go false _ k = stays_g t l a m b l_in a_in m_out b_out m_pos b_pos la mb n independent M T U (R.no l b l_in b_pos b_out k)

    turns_true : o.yes a m ≡ true → o.yes l b ≡ true → o.no a b ≡ true → independent (swap (swap t l m) a b) ≡ true
    turns_true x y z =
        turned t l a m b l_in a_in m_out b_out m_pos b_pos la mb n independent M T U
        (R.yes a m a_in m_pos m_out x) (R.yes l b l_in b_pos b_out y) (R.no a b a_in b_pos b_out z)

    still_yes : ((o.yes a b && (o.no a m || o.no l b)) || (o.yes a m && (o.yes l b && o.no a b))) ≡ true → independent (swap (swap t l m) a b) ≡ true
    still_yes h = go (o.yes a b && (o.no a m || o.no l b)) refl h
      where
        go : (x : Bool) → (o.yes a b && (o.no a m || o.no l b)) ≡ x → (x || (o.yes a m && (o.yes l b && o.no a b))) ≡ true → independent (swap (swap t l m) a b) ≡ true
        go true e _ = let p = and_parts _ _ e in same p.1 ∙ R.yes a b a_in b_pos b_out p.0
        go false _ k = let p = and_parts _ _ k in let q = and_parts _ _ p.1 in turns_true p.0 q.0 q.1

    still_no : (o.no a b && (o.no a m || o.no l b)) ≡ true → independent (swap (swap t l m) a b) ≡ false
    still_no h = let p = and_parts _ _ h in same p.1 ∙ R.no a b a_in b_pos b_out p.0

  yes_after : (a b : ℕ) → has (swap t l m) a ≡ true → 1 ≤ b → has (swap t l m) b ≡ false → (carried o t l m).yes a b ≡ true
      → independent (swap (swap t l m) a b) ≡ true
  yes_after a b i p out h = go (ℕ_discrete a m) (ℕ_discrete b l)
    where
      go : Dec (a ≡ m) → Dec (b ≡ l) → independent (swap (swap t l m) a b) ≡ true
      go (yes x) (yes y) = ap (λ (c : ℕ). independent (swap (swap t l m) c b)) x ∙ ap (λ (c : ℕ). independent (swap (swap t l m) m c)) y ∙ ap independent (back t l m l_in m_pos m_out) ∙ T
      go (yes x) (no y) =
          let w = was_out t l m l_in m_pos m_out b out y in
          ap (λ (c : ℕ). independent (swap (swap t l m) c b)) x ∙ ap independent (from_m t l m l_in m_pos m_out b p y (λ z. w.1 (sym z)))
          ∙ R.yes l b l_in p w.0 (yes_of_m o t l m a b x y h)
      go (no x) (yes y) =
          let v = was_in t l m l_in m_pos m_out a i x in
          ap (λ (c : ℕ). independent (swap (swap t l m) a c)) y ∙ ap independent (to_l t l m l_in m_pos m_out a (has_pos t a v.0) v.1 x)
          ∙ R.yes a m v.0 m_pos m_out (yes_of_l o t l m a b x y v.0 v.1 h)
      go (no x) (no y) =
          let v = was_in t l m l_in m_pos m_out a i x in let w = was_out t l m l_in m_pos m_out b out y in
          still_yes a b v.0 p w.0 (λ z. v.1 (sym z)) w.1 (yes_of o t l m a b x y v.0 v.1 h)

  no_after : (a b : ℕ) → has (swap t l m) a ≡ true → 1 ≤ b → has (swap t l m) b ≡ false → (carried o t l m).no a b ≡ true
      → independent (swap (swap t l m) a b) ≡ false
  no_after a b i p out h = go (ℕ_discrete a m) (ℕ_discrete b l)
    where
      go : Dec (a ≡ m) → Dec (b ≡ l) → independent (swap (swap t l m) a b) ≡ false
      go (yes x) (yes y) = absurd (not_no o t l m a b x y h)
      go (yes x) (no y) =
          let w = was_out t l m l_in m_pos m_out b out y in
          ap (λ (c : ℕ). independent (swap (swap t l m) c b)) x ∙ ap independent (from_m t l m l_in m_pos m_out b p y (λ z. w.1 (sym z)))
          ∙ R.no l b l_in p w.0 (no_of_m o t l m a b x y h)
      go (no x) (yes y) =
          let v = was_in t l m l_in m_pos m_out a i x in
          ap (λ (c : ℕ). independent (swap (swap t l m) a c)) y ∙ ap independent (to_l t l m l_in m_pos m_out a (has_pos t a v.0) v.1 x)
          ∙ R.no a m v.0 m_pos m_out (no_of_l o t l m a b x y v.0 v.1 h)
      go (no x) (no y) =
          let v = was_in t l m l_in m_pos m_out a i x in let w = was_out t l m l_in m_pos m_out b out y in
          still_no a b v.0 p w.0 (λ z. v.1 (sym z)) w.1 (no_of o t l m a b x y v.0 v.1 h)

  pub carried_right : Right independent (swap t l m) (carried o t l m)
  carried_right = record { yes = yes_after; no = no_after }

-- ---- nothing, and one answer more

pub none_right : (independent : ℕ → Bool) (t : ℕ) → Right independent t none
none_right independent t = record { yes = λ a b i l out h. absurd (both_ways _ refl h); no = λ a b i l out h. absurd (both_ways _ refl h) }

same_swap : (independent : ℕ → Bool) (t a b x y : ℕ) → x ≡ a → y ≡ b → independent (swap t x y) ≡ independent (swap t a b)
same_swap independent t a b x y p q = ap (λ (i : ℕ). independent (swap t i y)) p ∙ ap (λ (j : ℕ). independent (swap t a j)) q

is_answer : (a b x y : ℕ) → (x == a && y == b) ≡ true → (x ≡ a) × (y ≡ b)
is_answer a b x y h = (grind (arith, nat_tests), grind (arith, nat_tests))

pub noted_right : (independent : ℕ → Bool) (t : ℕ) (o : Answers) (a b : ℕ) → Right independent t o → Right independent t (noted o a b (independent (swap t a b)))
noted_right independent t o a b R = record { yes = yes_too; no = no_too }
  where
    yes_too : (x y : ℕ) → has t x ≡ true → 1 ≤ y → has t y ≡ false → (noted o a b (independent (swap t a b))).yes x y ≡ true → independent (swap t x y) ≡ true
    yes_too x y i l out h = go (x == a && y == b) refl h
      where
        go : (k : Bool) → (x == a && y == b) ≡ k → cond k (independent (swap t a b)) (o.yes x y) ≡ true → independent (swap t x y) ≡ true
        go true e w = let p = is_answer a b x y e in same_swap independent t a b x y p.0 p.1 ∙ w
        go false e w = R.yes x y i l out w

    no_too : (x y : ℕ) → has t x ≡ true → 1 ≤ y → has t y ≡ false → (noted o a b (independent (swap t a b))).no x y ≡ true → independent (swap t x y) ≡ false
    no_too x y i l out h = go (x == a && y == b) refl h
      where
        go : (k : Bool) → (x == a && y == b) ≡ k → cond k (not (independent (swap t a b))) (o.no x y) ≡ true → independent (swap t x y) ≡ false
        go true e w = let p = is_answer a b x y e in same_swap independent t a b x y p.0 p.1 ∙ negated (independent (swap t a b)) w
          where
            negated : (r : Bool) → not r ≡ true → r ≡ false
            negated false _ = refl
            negated true h = absurd (both_ways false refl h)
        go false e w = R.no x y i l out w
