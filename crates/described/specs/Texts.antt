-- What is printed of a walk.
use Rattle.std.specs.Prelude.{ℕ, ◌+◌, List, [], ◌∷◌, ◌++◌, codes, decimal}
use Rattle.walk_laws.specs.declared.Exchange.{Exchange}
use Rattle.walk_laws.specs.declared.Stop.{Stop}
use Rattle.walk_laws.specs.declared.Stop.TheVariants.{Full, Finished}
use Rattle.walk_laws.specs.Settings.{Setting}
use Rattle.walk_laws.specs.Steps.{State, several}

-- a count and a set
abbrev pub set_text : ℕ → ℕ → List ℕ
set_text count set = decimal count ++ (codes " " ++ decimal set)

-- a count, a set, and the exchange that led to it
abbrev pub exchange_text : ℕ → Exchange × ℕ → List ℕ
exchange_text count x = decimal count ++ (codes " " ++ (decimal x.1 ++ (codes " " ++ (decimal x.0.high ++ (codes " " ++ decimal x.0.low)))))

-- a line for each exchange, numbered from this count on
abbrev pub exchange_lines : ℕ → List (Exchange × ℕ) → List ℕ
exchange_lines count [] = []
exchange_lines count (x ∷ xs) = (exchange_text count x ++ codes "\n") ++ exchange_lines (count + 1) xs

abbrev pub stop_text : Stop → List ℕ
stop_text Finished = codes "finished"
stop_text Full = codes "more"

module _ {R V : Type 0} (w : Setting R V) where
  -- the lines of what k advances from the state s on hand out, and then whether one of them answered finished
  abbrev pub onward_text : ℕ → State R V → List ℕ
  onward_text k s = exchange_lines (s.count + 1) (several w k s).0 ++ (stop_text (several w k s).1 ++ codes "\n")

  -- the same, after the set at which the walk is
  abbrev pub list_text : ℕ → State R V → List ℕ
  list_text k s = (set_text s.count s.present ++ codes "\n") ++ onward_text k s
