-- Lists of sets: all sets within 1..n, and those of them that pass a test.
use Rattle.std.specs.Prelude.{◌≡◌, ℕ, zero, suc, ◌^◌, Bool, ◌⊎◌, List, [], ◌∷◌, filter}

-- the numbers below m, the largest first
unfoldable pub numbers_below : ℕ → List ℕ
numbers_below zero = []
numbers_below (suc m) = m ∷ numbers_below m

-- x stands in the list
abbrev pub In : ℕ → List ℕ → Type 0
In x [] = ⊥
In x (y ∷ ys) = (x ≡ y) ⊎ In x ys

-- nothing stands in the list twice
abbrev pub Once : List ℕ → Type 0
Once [] = Unit {0}
Once (x ∷ xs) = (In x xs → ⊥) × Once xs

-- the sets within 1..n that pass
abbrev pub family : ℕ → (ℕ → Bool) → List ℕ
family n t = filter t (numbers_below (2 ^ n))
