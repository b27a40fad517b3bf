-- What is claimed of chain files.
use Rattle.std.specs.Prelude.{◌≡◌, ℕ, List}
use Rattle.chain_lists.specs.declared.Spot.{Spot}
use Rattle.chain_lists.specs.Lists.{ChainList, Lawful, sets_of, Holds}
use Rattle.chain_lists.specs.Faults.{Fault, Refused}

pub record LawOfFiles : Type 0 where
  -- a file holds at most one list
  pub one_list : (file : List ℕ) (c d : ChainList) → Holds file c → Holds file d → c ≡ d
  -- a list, told by its labels, its sets in order and its totals, has one file
  pub one_file : (c d : ChainList) → Lawful c → Lawful d → c.n ≡ d.n → sets_of c ≡ sets_of d → c.totals ≡ d.totals → c ≡ d
  -- a file that holds a list is not refused
  pub not_both : (file : List ℕ) (c : ChainList) (f : Fault) (at : Spot) → Holds file c → Refused file f at → ⊥
  -- and one that is refused is so for one reason, at one place, after one beginning
  pub one_refusal : (file : List ℕ) (f g : Fault) (at by : Spot) (r : Refused file f at) (q : Refused file g by)
      → (f ≡ g) × (at ≡ by) × (r.beginning ≡ q.beginning)
