-- The code's values in the words of chain files, and what a reader has read.
use Rattle.std.specs.Prelude.{◌≡◌, ℕ, ◌+◌, false, cond, List, [], ◌∷◌, ◌++◌, length, ℤ, Some, None, Ok, Err, Option, Result}
use Rattle.chain_lists.specs.declared.Kind.{Kind}
use Rattle.chain_lists.specs.declared.Spot.{Spot}
use Rattle.chain_lists.specs.declared.Total.{Total as ListTotal}
use Rattle.chain_lists.specs.declared.Total.TheVariants.{Shift, Lamp}
use Rattle.chain_lists.specs.Lists.{ChainList, Holds, Marks, after, begun, count_of, end_written, framed, head_written, last_set, stands, swap_written, total_kind, total_written, with_swap, with_total}
use Rattle.chain_lists.specs.Faults.{Beginning, nothing, so_far, ended, LawfulBeginning, bytes_of, swaps_in, Fault, out_of_order, wrong_head, wrong_exchange, wrong_count, due, body_fault}
use Rattle.chain_records.specs.Records.{exchanges_in, file_of, left_of, place_of}
use Rattle.chain_records.specs.Records as records
use Rattle.chain_reader.specs.declared.states.Stage.{Stage}
use Rattle.chain_reader.specs.declared.states.Stage.TheVariants.{Nothing, SoFar, Ended}
use Rattle.chain_reader.specs.declared.states.ListReader.{ListReader}
use Rattle.chain_reader.specs.declared.judging.Step.{Step}
use Rattle.chain_reader.specs.declared.values.Summary.{Summary}
use Rattle.chain_reader.specs.declared.values.Entry.{Entry}
use Rattle.chain_reader.specs.declared.values.Entry.TheVariants.{Head, Exchange, Total, End}
use Rattle.chain_reader.specs.declared.values.ListFault.{ListFault}
use Rattle.chain_reader.specs.declared.values.ListFault.TheVariants.{Record, OutOfOrder, WrongHead, WrongExchange, WrongCount}

abbrev pub fault_of : ListFault → Fault
fault_of (Record e) = records.fault_of e
fault_of (OutOfOrder at) = out_of_order
fault_of (WrongHead at) = wrong_head
fault_of (WrongExchange at) = wrong_exchange
fault_of (WrongCount at) = wrong_count

abbrev pub spot_of : ListFault → Spot
spot_of (Record e) = records.spot_of e
spot_of (OutOfOrder at) = at
spot_of (WrongHead at) = at
spot_of (WrongExchange at) = at
spot_of (WrongCount at) = at

-- ---- what a record says, after a beginning

-- the beginning with the record; one that is not due leaves it
abbrev pub extended : Beginning → Entry → Beginning
extended nothing (Head n start) = so_far (begun n start)
extended nothing (Exchange x t) = nothing
extended nothing (Total t) = nothing
extended nothing (End k) = nothing
extended (so_far c) (Head n start) = so_far c
extended (so_far c) (Exchange x t) = so_far (with_swap c x)
extended (so_far c) (Total t) = so_far (with_total c t)
extended (so_far c) (End k) = ended c
extended (ended c) e = ended c

-- the bytes of the record
abbrev pub entry_written : Entry → List ℕ
entry_written (Head n start) = head_written n start
entry_written (Exchange x t) = swap_written x
entry_written (Total t) = total_written t
entry_written (End k) = end_written k

-- what it says can follow: the set is the one that the exchange leads to, no total of the kind stands there, the count is that of the sets
abbrev pub Told : Beginning → Entry → Type 0
Told (so_far c) (Exchange x t) = t ≡ after (last_set c.start c.swaps) x
Told (so_far c) (Head n start) = ⊥
Told (so_far c) (Total t) = stands (total_kind t) c.totals ≡ false
Told (so_far c) (End k) = k ≡ count_of c
Told nothing (Head n start) = Unit {0}
Told nothing (Exchange x t) = ⊥
Told nothing (Total t) = ⊥
Told nothing (End k) = ⊥
Told (ended c) e = ⊥

-- ---- what a reader has read

-- the stage of a reader that has read a beginning
abbrev pub StageAfter : Beginning → Stage → Type 0
StageAfter nothing Nothing = Unit {0}
StageAfter nothing (SoFar p) = ⊥
StageAfter nothing Ended = ⊥
StageAfter (so_far c) Nothing = ⊥
StageAfter (so_far c) (SoFar p) =
    (p.n ≡ c.n)
    × (p.present ≡ last_set c.start c.swaps)
    × Marks p.totals c.totals
StageAfter (so_far c) Ended = ⊥
StageAfter (ended c) Nothing = ⊥
StageAfter (ended c) (SoFar p) = ⊥
StageAfter (ended c) Ended = Unit {0}

-- where a beginning ends
abbrev pub end_of : Beginning → Spot
end_of b = record { byte = length (bytes_of b); before = swaps_in b }

-- the file that is read
abbrev pub file_read : ListReader → List ℕ
file_read r = file_of r.records

-- what is left of it
abbrev pub unread : ListReader → List ℕ
unread r = left_of r.records

-- a reader has read the lawful beginning b of its file
pub record HasRead (r : ListReader) (b : Beginning) : Type 0 where
  pub lawful : LawfulBeginning b
  pub made : file_read r ≡ bytes_of b ++ left_of r.records
  pub place : place_of r.records ≡ end_of b
  pub stage : StageAfter b r.stage

-- ---- a list in short

-- the total of a kind, if there is one
abbrev pub shift_among : List ListTotal → Option (ℤ × ℤ)
shift_among [] = None
shift_among (Shift across along ∷ ts) = Some (across, along)
shift_among (Lamp word ∷ ts) = shift_among ts

abbrev pub lamp_among : List ListTotal → Option ℕ
lamp_among [] = None
lamp_among (Shift across along ∷ ts) = lamp_among ts
lamp_among (Lamp word ∷ ts) = Some word

-- the list c in short, but for its count
pub record Outline (s : Summary) (c : ChainList) : Type 0 where
  pub labels : s.n ≡ c.n
  pub first : s.start ≡ c.start
  pub latest : s.last ≡ last_set c.start c.swaps
  pub shifts : s.shift ≡ shift_among c.totals
  pub lamps : s.lamp ≡ lamp_among c.totals

-- all of it
pub record Summarises (s : Summary) (c : ChainList) : Type 0 where
  pub outline : Outline s c
  pub sets : s.count ≡ count_of c

-- what is known in short after a beginning
abbrev pub SummaryAfter : Beginning → Summary → Type 0
SummaryAfter nothing s = (s.shift ≡ None) × (s.lamp ≡ None)
SummaryAfter (so_far c) s = Outline s c
SummaryAfter (ended c) s = Summarises s c

-- the reader's file is the written form of the list that it has read
abbrev pub Finished : List ℕ → Beginning → Type 0
Finished file nothing = ⊥
Finished file (so_far c) = ⊥
Finished file (ended c) = Holds file c

-- ---- one record after a beginning

-- stage and place are those after the lawful beginning b
pub record Known (b : Beginning) (s : Stage) (at : Spot) : Type 0 where
  pub lawful : LawfulBeginning b
  pub stage : StageAfter b s
  pub before : at.before ≡ swaps_in b

-- what is wrong with a record of the kind k after b, once its frame is not at fault
abbrev pub order_fault : Beginning → Kind → List ℕ → Option Fault
order_fault b k body = cond (due b k) (body_fault b k body) (Some out_of_order)

-- a record of the kind k says e after b, and leads to the stage s
pub record Says (b : Beginning) (k : Kind) (body : List ℕ) (e : Entry) (s : Stage) : Type 0 where
  pub told : Told b e
  pub lawful : LawfulBeginning (extended b e)
  pub bytes : framed k body ≡ entry_written e
  pub grown : bytes_of (extended b e) ≡ bytes_of b ++ entry_written e
  pub swaps : swaps_in (extended b e) ≡ swaps_in b + exchanges_in k
  pub stage : StageAfter (extended b e) s

abbrev pub Judged : Beginning → Kind → List ℕ → Spot → Result Step ListFault → Type 0
Judged b k body at (Ok x) = Says b k body x.entry x.stage
Judged b k body at (Err e) = (order_fault b k body ≡ Some (fault_of e)) × (spot_of e ≡ at)
