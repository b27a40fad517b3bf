-- What every tie rule keeps to.
use Rattle.std.specs.Prelude.{◌≡◌, ℕ, ◌<◌, true, false}
use Rattle.labels.specs.Sets.{has}

-- the choice is a label of the set below e, if there is one; otherwise it is 0, and the state stays
pub record TieLaws {R : Type 0} (choice : R → ℕ → ℕ → ℕ) (next : R → ℕ → ℕ → R) : Type 0 where
  pub picks : (r : R) (e c f : ℕ) → f < e → has c f ≡ true → (choice r e c < e) × (has c (choice r e c) ≡ true)
  pub idle : (r : R) (e c : ℕ) → ((f : ℕ) → f < e → has c f ≡ false) → (choice r e c ≡ 0) × (next r e c ≡ r)
