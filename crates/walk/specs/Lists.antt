-- What a list leaves in its roll.
use Rattle.std.specs.Prelude.{◌≡◌, ℕ, ◌-◌, List, ◌++◌, map, length}
use Rattle.roll.specs.declared.lent.Roll.{Roll}
use Rattle.roll.specs.View.{filled, size}
use Rattle.walk_laws.specs.declared.Exchange.{Exchange}
use Rattle.walk_laws.specs.declared.Stop.{Stop}
use Rattle.walk_laws.specs.Settings.{Setting}
use Rattle.walk_laws.specs.Steps.{State, several}
use Rattle.walk_laws.specs.Lives.{Call, listed, sets_of}

-- how many entries of a roll are free
abbrev pub free : {E : Type 0} → Roll E → ℕ
free roll = size roll - roll.used

-- the entries for a list of exchanges, each beside the set that it led to
abbrev pub entries_for : {E : Type 0} → (Exchange → ℕ → E) → List (Exchange × ℕ) → List E
entries_for entry xs = map (λ x. entry x.0 x.1) xs

-- a list on a roll: a call of the life, whose sets or exchanges are the new entries, in order, and whose number is how many
pub record ListedOn {R V E : Type 0} (w : Setting R V) (entry : Exchange → ℕ → E) (s : State R V) (before : Roll E) (number : ℕ) (stop : Stop) (t : State R V) (after : Roll E) : Type 0 where
  pub call : Call w s (listed (free before) (several w (free before) s).0 stop) (sets_of (several w (free before) s).0) t
  pub entries : filled after ≡ filled before ++ entries_for entry (several w (free before) s).0
  pub number_is : number ≡ length (several w (free before) s).0
