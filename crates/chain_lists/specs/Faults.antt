-- What can be wrong with a chain file: the first record that is at fault after a lawful beginning.
use Rattle.std.specs.Prelude.{◌≡◌, ℕ, ◌+◌, ◌-◌, ◌*◌, Bool, true, false, cond, not, ◌&&◌, List, [], ◌∷◌, ◌++◌, length, take, drop, Some, None, Option, ◌==◌, nat_le, slice_index}
use Rattle.chain_lists.specs.declared.Kind.{Kind}
use Rattle.chain_lists.specs.declared.Kind.TheVariants.{Head, Exchange, End, ShiftTotal, LampTotal}
use Rattle.chain_lists.specs.declared.Swap.{Swap}
use Rattle.chain_lists.specs.declared.Spot.{Spot}
use Rattle.chain_lists.specs.Lists.{ChainList, Lawful, kind_length, kind_numbered, last_set, count_of, lawful_head, lawful_swap, stands, front_of, file_of}

-- what can be wrong
pub data Fault : Type 0 where
  cut_off : Fault
  misshapen : Fault
  out_of_order : Fault
  wrong_head : Fault
  wrong_exchange : Fault
  wrong_count : Fault

-- the number that each is refused by
abbrev pub fault_number : Fault → ℕ
fault_number cut_off = 31
fault_number misshapen = 32
fault_number out_of_order = 33
fault_number wrong_head = 34
fault_number wrong_exchange = 35
fault_number wrong_count = 36

-- ---- the beginning of a file

-- nothing, a list so far without its end, or a list with its end
pub data Beginning : Type 0 where
  nothing : Beginning
  so_far : ChainList → Beginning
  ended : ChainList → Beginning

abbrev pub LawfulBeginning : Beginning → Type 0
LawfulBeginning nothing = Unit {0}
LawfulBeginning (so_far c) = Lawful c
LawfulBeginning (ended c) = Lawful c

abbrev pub bytes_of : Beginning → List ℕ
bytes_of nothing = []
bytes_of (so_far c) = front_of c
bytes_of (ended c) = file_of c

abbrev pub swaps_in : Beginning → ℕ
swaps_in nothing = 0
swaps_in (so_far c) = length c.swaps
swaps_in (ended c) = length c.swaps

-- ---- the record that comes next, where `rest` is left of the file

-- the number that bytes write, the lowest first
abbrev pub number_in : List ℕ → ℕ
number_in [] = 0
number_in (b ∷ bs) = b + 256 * number_in bs

-- the length that it states
abbrev pub stated : List ℕ → ℕ
stated rest = number_in (take 4 rest)

abbrev pub kind_in : List ℕ → Option Kind
kind_in rest = kind_numbered (number_in (take 2 (drop 4 rest)))

abbrev pub body_in : List ℕ → List ℕ
body_in rest = take (stated rest - 2) (drop 6 rest)

-- the length is there, and as many bytes as it states
unfoldable pub complete : List ℕ → Bool
complete rest = nat_le 4 (length rest) && nat_le (4 + stated rest) (length rest)

-- a record of the kind k can come next
abbrev pub due : Beginning → Kind → Bool
due nothing Head = true
due nothing Exchange = false
due nothing End = false
due nothing ShiftTotal = false
due nothing LampTotal = false
due (so_far c) Head = false
due (so_far c) Exchange = length c.totals == 0
due (so_far c) End = true
due (so_far c) ShiftTotal = not (stands ShiftTotal c.totals)
due (so_far c) LampTotal = not (stands LampTotal c.totals)
due (ended c) k = false

abbrev pub swap_in : List ℕ → Swap
swap_in body = record { high = slice_index body 0; low = slice_index body 1 }

-- what is wrong with the body of a record that is due
abbrev pub body_fault : Beginning → Kind → List ℕ → Option Fault
body_fault b Head body = cond (lawful_head (slice_index body 0) (number_in (drop 1 body))) None (Some wrong_head)
body_fault (so_far c) Exchange body =
    cond (lawful_swap c.n (last_set c.start c.swaps) (swap_in body)) None (Some wrong_exchange)
body_fault (so_far c) End body = cond (number_in body == count_of c) None (Some wrong_count)
body_fault (so_far c) ShiftTotal body = None
body_fault (so_far c) LampTotal body = None
body_fault nothing Exchange body = None
body_fault nothing End body = None
body_fault nothing ShiftTotal body = None
body_fault nothing LampTotal body = None
body_fault (ended c) Exchange body = None
body_fault (ended c) End body = None
body_fault (ended c) ShiftTotal body = None
body_fault (ended c) LampTotal body = None

-- what is wrong with a whole record, by its kind: unknown or not as long as it should be, out of order, or its body
abbrev pub kind_fault : Beginning → Option Kind → List ℕ → Option Fault
kind_fault b None rest = Some misshapen
kind_fault b (Some k) rest =
    cond (stated rest == kind_length k) (cond (due b k) (body_fault b k (body_in rest)) (Some out_of_order)) (Some misshapen)

-- what is wrong with the next record, in the order in which it is checked
abbrev pub record_fault : Beginning → List ℕ → Option Fault
record_fault b rest = cond (complete rest) (kind_fault b (kind_in rest) rest) (Some cut_off)

-- what is wrong first with what is left after a beginning: bytes after the end, no end, or the next record
abbrev pub fault_after : Beginning → List ℕ → Option Fault
fault_after (ended c) [] = None
fault_after (ended c) (x ∷ xs) = Some out_of_order
fault_after nothing [] = Some out_of_order
fault_after (so_far c) [] = Some out_of_order
fault_after nothing (x ∷ xs) = record_fault nothing (x ∷ xs)
fault_after (so_far c) (x ∷ xs) = record_fault (so_far c) (x ∷ xs)

-- the file goes on after a lawful beginning with what is at fault, at this byte and after so many exchanges
pub record Refused (file : List ℕ) (f : Fault) (at : Spot) : Type 0 where
  pub beginning : Beginning
  pub lawful : LawfulBeginning beginning
  pub rest : List ℕ
  pub made : file ≡ bytes_of beginning ++ rest
  pub fault : fault_after beginning rest ≡ Some f
  pub byte : at.byte ≡ length (bytes_of beginning)
  pub before : at.before ≡ swaps_in beginning
