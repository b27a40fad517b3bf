-- The code's values in the words of chain files.
use Rattle.std.specs.Prelude.{ℕ, ◌+◌, List, drop}
use Rattle.chain_lists.specs.declared.Kind.{Kind}
use Rattle.chain_lists.specs.declared.Kind.TheVariants.{Head, Exchange, End, ShiftTotal, LampTotal}
use Rattle.chain_lists.specs.declared.Spot.{Spot}
use Rattle.chain_lists.specs.Lists.{kind_length}
use Rattle.chain_lists.specs.Faults.{Fault, cut_off, misshapen}
use Rattle.chain_records.specs.declared.records.Records.{Records}
use Rattle.chain_records.specs.declared.values.RecordFault.{RecordFault}
use Rattle.chain_records.specs.declared.values.RecordFault.TheVariants.{CutOff, Misshapen}

abbrev pub fault_of : RecordFault → Fault
fault_of (CutOff at) = cut_off
fault_of (Misshapen at) = misshapen

abbrev pub spot_of : RecordFault → Spot
spot_of (CutOff at) = at
spot_of (Misshapen at) = at

-- the file that is read
abbrev pub file_of : Records → List ℕ
file_of r = r.file.now

-- where the next record begins, and how many exchanges stand before it
abbrev pub place_of : Records → Spot
place_of r = record { byte = r.at; before = r.exchanges }

-- what is left of the file
abbrev pub left_of : Records → List ℕ
left_of r = drop r.at r.file.now

-- how many exchanges a record is
abbrev pub exchanges_in : Kind → ℕ
exchanges_in Head = 0
exchanges_in Exchange = 1
exchanges_in End = 0
exchanges_in ShiftTotal = 0
exchanges_in LampTotal = 0

-- the place behind a record of the kind k
abbrev pub behind : Spot → Kind → Spot
behind at k = record { byte = at.byte + (4 + kind_length k); before = at.before + exchanges_in k }
