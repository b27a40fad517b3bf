-- What is known of the swaps of a set: of each label a in it with each label b outside it.
use Rattle.std.specs.Prelude.{◌≡◌, ℕ, ◌≤◌, Bool, true, false, cond, not, ◌&&◌, ◌||◌, ◌==◌}
use Rattle.labels.specs.Sets.{has, swap}
use Rattle.matroid_laws.specs.Matroids.{IsMatroid}

pub record Answers : Type 0 where
  -- swapping a and b is known to lead to an independent set
  pub yes : ℕ → ℕ → Bool
  -- it is known not to
  pub no : ℕ → ℕ → Bool

-- nothing is known
abbrev pub none : Answers
none = record { yes = λ a b. false; no = λ a b. false }

-- the swap of a and b is known to lead to an independent set, or not to, as r says
abbrev pub noted : Answers → ℕ → ℕ → Bool → Answers
noted o a b r = record {
  yes = λ x y. cond (x == a && y == b) r (o.yes x y);
  no = λ x y. cond (x == a && y == b) (not r) (o.no x y);
}

-- l of the set t goes out and m comes in: what is known of the set that this leads to
module _ (o : Answers) (t l m : ℕ) where
  -- it is known that the swap of a and b leads after it where it led before
  abbrev pub stays : ℕ → ℕ → Bool
  stays a b = o.no a m || o.no l b

  -- it is known that it leads to an independent set after it, and led to a dependent one before
  abbrev pub turns : ℕ → ℕ → Bool
  turns a b = o.yes a m && (o.yes l b && o.no a b)

  abbrev pub carried : Answers
  carried = record {
    yes = λ a b. cond (a == m)
        (b == l || o.yes l b)
        (cond (has t a && not (a == l)) (cond (b == l) (o.yes a m) (o.yes a b && stays a b || turns a b)) (o.yes a b));
    no = λ a b. cond (a == m)
        (not (b == l) && o.no l b)
        (cond (has t a && not (a == l)) (cond (b == l) (o.no a m) (o.no a b && stays a b)) (o.no a b));
  }

-- whatever is known is right, of the set t
pub record Right (independent : ℕ → Bool) (t : ℕ) (o : Answers) : Type 0 where
  pub yes : (a b : ℕ) → has t a ≡ true → 1 ≤ b → has t b ≡ false → o.yes a b ≡ true → independent (swap t a b) ≡ true
  pub no : (a b : ℕ) → has t a ≡ true → 1 ≤ b → has t b ≡ false → o.no a b ≡ true → independent (swap t a b) ≡ false

-- ---- what is claimed

abbrev pub NoneRight : Type 0
NoneRight = (independent : ℕ → Bool) (t : ℕ) → Right independent t none

abbrev pub NotedRight : Type 0
NotedRight = (independent : ℕ → Bool) (t : ℕ) (o : Answers) (a b : ℕ) → Right independent t o → Right independent t (noted o a b (independent (swap t a b)))

-- a swap that leads from an independent set to an independent set
abbrev pub CarriedRight : Type 0
CarriedRight = (n : ℕ) (independent : ℕ → Bool) → IsMatroid n independent → (t l m : ℕ) (o : Answers)
    → independent t ≡ true → has t l ≡ true → 1 ≤ m → has t m ≡ false → independent (swap t l m) ≡ true
    → Right independent t o → Right independent (swap t l m) (carried o t l m)
