-- What the values of every measure keep to.
use Rattle.std.specs.Prelude.{◌≡◌}

-- the laws of the values of a measure: sums in any order and grouping, a zero that changes nothing, and an opposite for each value
pub record GroupLaws {V : Type 0} (zero : V) (sum : V → V → V) (opposite : V → V) : Type 0 where
  pub assoc : (a b c : V) → sum (sum a b) c ≡ sum a (sum b c)
  pub comm : (a b : V) → sum a b ≡ sum b a
  pub unit : (a : V) → sum a zero ≡ a
  pub inverse : (a : V) → sum a (opposite a) ≡ zero
