-- The labels of a set as a list.
use Rattle.std.specs.Prelude.{ℕ, zero, suc, cond, List, [], ◌∷◌, ◌++◌}
use Rattle.labels.specs.Sets.{has}

-- the labels of s among 1..n, upwards
unfoldable pub labels_in : ℕ → ℕ → List ℕ
labels_in s zero = []
labels_in s (suc n) = cond (has s (suc n)) (labels_in s n ++ suc n ∷ []) (labels_in s n)
