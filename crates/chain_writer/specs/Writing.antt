-- What a writer has written so far, and what it refuses.
use Rattle.std.specs.Prelude.{◌≡◌, ℕ, ◌+◌, ◌≤◌, Bool, cond, List, [], ◌++◌, length, take, drop, Some, None, Option, nat_le}
use Rattle.chain_lists.specs.declared.Kind.TheVariants.{ShiftTotal, LampTotal}
use Rattle.chain_lists.specs.declared.Swap.{Swap}
use Rattle.chain_lists.specs.declared.Total.{Total}
use Rattle.chain_lists.specs.Lists.{ChainList, Lawful, Marks, is_marked, count_of, last_set, lawful_head, lawful_swap, stands, front_of}
use Rattle.chain_lists.specs.declared.TotalKinds.{TotalKinds}
use Rattle.chain_writer.specs.declared.states.Progress.{Progress}
use Rattle.chain_writer.specs.declared.states.Listing.{Listing}
use Rattle.chain_writer.specs.declared.states.WriterRefusal.{WriterRefusal}
use Rattle.chain_writer.specs.declared.states.WriterRefusal.TheVariants.{ShortBuffer, NoRoom, WrongHead, WrongExchange, SecondTotal}

-- the number that each is refused by
abbrev pub refusal_number : WriterRefusal → ℕ
refusal_number ShortBuffer = 12
refusal_number NoRoom = 13
refusal_number WrongHead = 21
refusal_number WrongExchange = 22
refusal_number SecondTotal = 23

-- bytes in a buffer from the place `at` on, all others as they were
abbrev pub put_at : ℕ → List ℕ → List ℕ → List ℕ
put_at at bytes out = take at out ++ (bytes ++ drop (at + length bytes) out)

-- the same where they have room; otherwise nothing changes
abbrev pub put_in : ℕ → List ℕ → List ℕ → List ℕ
put_in at bytes out = cond (nat_le (at + length bytes) (length out)) (put_at at bytes out) out

-- a call puts these bytes in at the place `at` where they have room, and answers where they end
pub record Puts (at : ℕ) (bytes old new : List ℕ) (end : ℕ) : Type 0 where
  pub place : at + length bytes ≤ length old → end ≡ at + length bytes
  pub written : new ≡ put_in at bytes old

-- how many bytes records take
abbrev pub head_size : ℕ
head_size = 15

abbrev pub swap_size : ℕ
swap_size = 8

abbrev pub end_size : ℕ
end_size = 14

abbrev pub shift_size : ℕ
shift_size = 22

abbrev pub lamp_size : ℕ
lamp_size = 14

-- what is held back for the totals that are not written, and the end
abbrev pub held_back : List Total → ℕ
held_back ts = cond (stands ShiftTotal ts) 0 shift_size + (cond (stands LampTotal ts) 0 lamp_size + end_size)

-- ---- refusals, in the order in which they are checked; none: it is taken

abbrev pub begin_refusal : ℕ → ℕ → List ℕ → Option WriterRefusal
begin_refusal n start out =
    cond (lawful_head n start) (cond (nat_le (head_size + held_back []) (length out)) None (Some ShortBuffer)) (Some WrongHead)

abbrev pub exchange_refusal : List ℕ → Progress Listing → Swap → Option WriterRefusal
exchange_refusal out p x =
    cond (lawful_swap p.state.n p.state.present x)
    (cond (nat_le (p.at + (swap_size + held_back [])) (length out)) None (Some NoRoom))
    (Some WrongExchange)

-- a total of this kind was written
abbrev pub has_total : Progress TotalKinds → Total → Bool
has_total p t = is_marked p.state t

abbrev pub total_refusal : Progress TotalKinds → Total → Option WriterRefusal
total_refusal p t = cond (has_total p t) (Some SecondTotal) None

-- ---- what is written

-- the first bytes of the buffer, up to the place `at`, are the lawful list c without its end, and there is room for the rest
pub record Holding (out : List ℕ) (at count : ℕ) (c : ChainList) : Type 0 where
  pub lawful : Lawful c
  pub place : at ≡ length (front_of c)
  pub front : take at out ≡ front_of c
  pub counted : count ≡ count_of c
  pub room : at + held_back c.totals ≤ length out

-- an open file in this buffer that holds c so far
pub record OpenHolds (out : List ℕ) (p : Progress Listing) (c : ChainList) : Type 0 where
  pub holding : Holding out p.at p.count c
  pub labels : p.state.n ≡ c.n
  pub set : p.state.present ≡ last_set c.start c.swaps
  pub no_totals : c.totals ≡ []

-- a file in this buffer that takes only totals and holds c so far
pub record TotalsHolds (out : List ℕ) (p : Progress TotalKinds) (c : ChainList) : Type 0 where
  pub holding : Holding out p.at p.count c
  pub marked : Marks p.state c.totals
