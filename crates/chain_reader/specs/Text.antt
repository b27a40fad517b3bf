-- What a fault of a file is printed as, as the bytes of its text.
use Rattle.std.specs.Prelude.{ℕ, List, ◌++◌, codes, decimal}
use Rattle.chain_lists.specs.declared.Spot.{Spot}
use Rattle.chain_lists.specs.Faults.{Fault, fault_number}

-- the number of the fault, the byte at which its record begins, and how many exchanges stand before it
abbrev pub fault_text : Fault → Spot → List ℕ
fault_text f at =
    codes "refused " ++ (decimal (fault_number f) ++ (codes " byte " ++ (decimal at.byte ++ (codes " after " ++ decimal at.before))))
