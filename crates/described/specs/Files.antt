-- The file of a walk's list, in a buffer with a room of so many bytes.
use Rattle.std.specs.Prelude.{ℕ, ◌+◌, ◌/◌, ◌%◌, false, cond, List, [], ◌∷◌, ◌++◌, codes, decimal, length, map, nat_le, Some, None, Option, Ok, Err, Result}
use Rattle.std.specs.Fmt.{digit_glyph}
use Rattle.std.specs.List.{flat_map}
use Rattle.chain_lists.specs.declared.Swap.{Swap}
use Rattle.chain_lists.specs.declared.Total.TheVariants.{Shift as ShiftTotal, Lamp as LampTotal}
use Rattle.chain_lists.specs.Lists.{ChainList, begun, file_of, front_of, last_set, lawful_head, lawful_swap, with_swap, with_total}
use Rattle.chain_writer.specs.declared.states.WriterRefusal.{WriterRefusal}
use Rattle.chain_writer.specs.declared.states.WriterRefusal.TheVariants.{ShortBuffer, NoRoom, WrongHead, WrongExchange}
use Rattle.chain_writer.specs.Writing.{head_size, held_back, refusal_number, swap_size}
use Rattle.measure.specs.declared.value.Shift.{Shift}
use Rattle.walk_laws.specs.declared.Exchange.{Exchange}

-- how many bytes a file has room in
abbrev pub file_room : ℕ
file_room = 1024

abbrev pub swap_of : Exchange → Swap
swap_of x = record { high = x.high; low = x.low }

-- the exchanges that led to sets
abbrev pub swaps_of : List (Exchange × ℕ) → List Swap
swaps_of xs = map (λ x. swap_of x.0) xs

-- ---- what a writer takes

-- why it refuses a head, and why an exchange after the list c; none: it is taken
abbrev pub head_refusal : ℕ → ℕ → ℕ → Option WriterRefusal
head_refusal room n start = cond (lawful_head n start) (cond (nat_le (head_size + held_back []) room) None (Some ShortBuffer)) (Some WrongHead)

abbrev pub swap_refusal : ℕ → ChainList → Swap → Option WriterRefusal
swap_refusal room c x =
    cond (lawful_swap c.n (last_set c.start c.swaps) x)
    (cond (nat_le (length (front_of c) + (swap_size + held_back [])) room) None (Some NoRoom))
    (Some WrongExchange)

-- what comes next; where there is a refusal, that, and how many exchanges stand before it
abbrev pub unless : Option WriterRefusal → ℕ → Result ChainList (WriterRefusal × ℕ) → Result ChainList (WriterRefusal × ℕ)
unless None before next = next
unless (Some e) before next = Err (e, before)

-- the list c with these exchanges more, or the first refusal
abbrev pub filled : ℕ → ChainList → List Swap → Result ChainList (WriterRefusal × ℕ)
filled room c [] = Ok c
filled room c (x ∷ xs) = unless (swap_refusal room c x) (length c.swaps) (filled room (with_swap c x) xs)

-- the list over labels 1..n that begins at a set, with these exchanges, or the first refusal
abbrev pub outcome : ℕ → ℕ → ℕ → List Swap → Result ChainList (WriterRefusal × ℕ)
outcome room n start xs = unless (head_refusal room n start) 0 (filled room (begun n start) xs)

-- the list with both totals
abbrev pub totalled : ChainList → Shift → ℕ → ChainList
totalled c total lamps = with_total (with_total c (ShiftTotal total.across total.along)) (LampTotal lamps)

-- ---- its line

-- two digits for each byte, in lower case
abbrev pub hex_text : List ℕ → List ℕ
hex_text bytes = flat_map (λ b. digit_glyph false (b / 16) ∷ digit_glyph false (b % 16) ∷ []) bytes

abbrev pub written_text : List ℕ → List ℕ
written_text bytes = codes "file " ++ hex_text bytes

abbrev pub refused_text : WriterRefusal → ℕ → List ℕ
refused_text e before = codes "file refused " ++ (decimal (refusal_number e) ++ (codes " after " ++ decimal before))

-- the file of the list with its totals, or the refusal
abbrev pub file_text : Result ChainList (WriterRefusal × ℕ) → Shift → ℕ → List ℕ
file_text (Ok c) total lamps = written_text (file_of (totalled c total lamps))
file_text (Err e) total lamps = refused_text e.0 e.1
