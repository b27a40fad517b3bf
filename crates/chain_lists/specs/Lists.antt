-- Chain files: the lists that they hold, and the bytes that a list is written as.
use Rattle.std.specs.Prelude.{◌≡◌, ℕ, zero, suc, ◌+◌, ◌/◌, ◌%◌, ◌^◌, ◌<◌, Bool, true, false, cond, not, ◌&&◌, List, [], ◌∷◌, ◌++◌, length, Some, None, Option, FitsSigned, ◌==◌, nat_le, nat_lt}
use Rattle.std.specs.Int.{w64}
use Rattle.std.proofs.Common.{of_z}
use Rattle.std.specs.List.{flat_map, AllByRecursion}
use Rattle.labels.specs.Sets.{limit, differs, has, swap}
use Rattle.chain_lists.specs.declared.Kind.{Kind}
use Rattle.chain_lists.specs.declared.Kind.TheVariants.{Head, Exchange, End, ShiftTotal, LampTotal}
use Rattle.chain_lists.specs.declared.Swap.{Swap}
use Rattle.chain_lists.specs.declared.Total.{Total}
use Rattle.chain_lists.specs.declared.Total.TheVariants.{Shift, Lamp}
use Rattle.chain_lists.specs.declared.TotalKinds.{TotalKinds}

-- ---- records

-- the last k bytes of the number x, the lowest first
unfoldable pub little : ℕ → ℕ → List ℕ
little zero x = []
little (suc k) x = x % 256 ∷ little k (x / 256)

abbrev pub kind_number : Kind → ℕ
kind_number Head = 1
kind_number Exchange = 2
kind_number End = 3
kind_number ShiftTotal = 4
kind_number LampTotal = 5

-- how long the kind's number and the body are together
abbrev pub kind_length : Kind → ℕ
kind_length Head = 11
kind_length Exchange = 4
kind_length End = 10
kind_length ShiftTotal = 18
kind_length LampTotal = 10

abbrev pub kind_numbered : ℕ → Option Kind
kind_numbered k =
    cond (k == 1) (Some Head)
    (cond (k == 2) (Some Exchange)
    (cond (k == 3) (Some End)
    (cond (k == 4) (Some ShiftTotal)
    (cond (k == 5) (Some LampTotal) None))))

-- the length of what follows it, the kind, the body
abbrev pub framed : Kind → List ℕ → List ℕ
framed k body = little 4 (kind_length k) ++ (little 2 (kind_number k) ++ body)

-- ---- lists

-- labels 1..n, a start set, the exchanges that lead from set to set, and totals in the order in which they stand
pub record ChainList : Type 0 where
  pub n : ℕ
  pub start : ℕ
  pub swaps : List Swap
  pub totals : List Total

-- the set that an exchange leads to
abbrev pub after : ℕ → Swap → ℕ
after t x = swap t x.high x.low

-- the last set that exchanges lead to
abbrev pub last_set : ℕ → List Swap → ℕ
last_set t [] = t
last_set t (x ∷ xs) = last_set (after t x) xs

-- the set t, and those that exchanges lead to, one after the other
abbrev pub sets_from : ℕ → List Swap → List ℕ
sets_from t [] = t ∷ []
sets_from t (x ∷ xs) = t ∷ sets_from (after t x) xs

abbrev pub sets_of : ChainList → List ℕ
sets_of c = sets_from c.start c.swaps

-- the list with no exchange yet, with an exchange more, with a total more
abbrev pub begun : ℕ → ℕ → ChainList
begun n start = record { n = n; start = start; swaps = []; totals = [] }

abbrev pub with_swap : ChainList → Swap → ChainList
with_swap c x = record { n = c.n; start = c.start; swaps = c.swaps ++ x ∷ []; totals = c.totals }

abbrev pub with_total : ChainList → Total → ChainList
with_total c t = record { n = c.n; start = c.start; swaps = c.swaps; totals = c.totals ++ t ∷ [] }

-- how many sets
abbrev pub count_of : ChainList → ℕ
count_of c = length c.swaps + 1

-- ---- what is lawful

-- labels 1..n, not too many, and no label of s above n
abbrev pub lawful_head : ℕ → ℕ → Bool
lawful_head n s = nat_le n limit && nat_lt s (2 ^ n)

-- two labels of 1..n, the lower one first in the numbers, and exactly one of them in t
abbrev pub lawful_swap : ℕ → ℕ → Swap → Bool
lawful_swap n t x =
    nat_lt 0 x.low && (nat_lt x.low x.high && (nat_le x.high n && differs (has t x.high) (has t x.low)))

-- each exchange is lawful in the set that those before it lead to
abbrev pub lawful_swaps : ℕ → ℕ → List Swap → Bool
lawful_swaps n t [] = true
lawful_swaps n t (x ∷ xs) = lawful_swap n t x && lawful_swaps n (after t x) xs

abbrev pub total_kind : Total → Kind
total_kind (Shift across along) = ShiftTotal
total_kind (Lamp word) = LampTotal

abbrev pub same_kind : Kind → Kind → Bool
same_kind k l = kind_number k == kind_number l

-- a total of the kind k is among them
abbrev pub stands : Kind → List Total → Bool
stands k [] = false
stands k (t ∷ ts) = cond (same_kind (total_kind t) k) true (stands k ts)

-- the marks say of which kinds totals are among them
pub record Marks (marks : TotalKinds) (ts : List Total) : Type 0 where
  pub shift : marks.shift ≡ stands ShiftTotal ts
  pub lamp : marks.lamp ≡ stands LampTotal ts

-- the mark of this total's kind
abbrev pub is_marked : TotalKinds → Total → Bool
is_marked marks (Shift across along) = marks.shift
is_marked marks (Lamp word) = marks.lamp

-- at most one total of each kind
abbrev pub once : List Total → Bool
once [] = true
once (t ∷ ts) = not (stands (total_kind t) ts) && once ts

-- the numbers of a total have 64 bits
abbrev pub Fitting : Total → Type 0
Fitting (Shift across along) = FitsSigned w64 across × FitsSigned w64 along
Fitting (Lamp word) = word < 2 ^ 64

pub record Lawful (c : ChainList) : Type 0 where
  pub heads : lawful_head c.n c.start ≡ true
  pub leads : lawful_swaps c.n c.start c.swaps ≡ true
  pub singly : once c.totals ≡ true
  pub fitting : AllByRecursion Fitting c.totals
  -- the count has 64 bits too
  pub counted : count_of c < 2 ^ 64

-- ---- how it is written

abbrev pub head_written : ℕ → ℕ → List ℕ
head_written n s = framed Head (n ∷ little 8 s)

abbrev pub swap_written : Swap → List ℕ
swap_written x = framed Exchange (x.high ∷ x.low ∷ [])

abbrev pub total_written : Total → List ℕ
total_written (Shift across along) = framed ShiftTotal (little 8 (of_z w64 across) ++ little 8 (of_z w64 along))
total_written (Lamp word) = framed LampTotal (little 8 word)

abbrev pub end_written : ℕ → List ℕ
end_written k = framed End (little 8 k)

-- all but the end
abbrev pub front_of : ChainList → List ℕ
front_of c = head_written c.n c.start ++ (flat_map swap_written c.swaps ++ flat_map total_written c.totals)

abbrev pub file_of : ChainList → List ℕ
file_of c = front_of c ++ end_written (count_of c)

-- the file is the written form of the lawful list c
pub record Holds (file : List ℕ) (c : ChainList) : Type 0 where
  pub lawful : Lawful c
  pub written : file ≡ file_of c
