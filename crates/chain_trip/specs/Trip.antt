-- The list of a trip, when its calls are taken, and what it leaves in the buffer.
use Rattle.std.specs.Prelude.{ℕ, Bool, cond, ◌&&◌, List, [], ◌∷◌, length, is_none, nat_le}
use Rattle.chain_lists.specs.declared.Swap.{Swap}
use Rattle.chain_lists.specs.declared.Total.TheVariants.{Lamp}
use Rattle.chain_lists.specs.Lists.{ChainList, file_of, head_written, lawful_head, lawful_swap}
use Rattle.chain_writer.specs.Writing.{begin_refusal, put_at}

abbrev pub trip_of : ℕ → ℕ → Swap → ℕ → ChainList
trip_of n start x word = record { n = n; start = start; swaps = x ∷ []; totals = Lamp word ∷ [] }

-- head and exchange are lawful, and there is room
abbrev pub lawful_trip : ℕ → ℕ → Swap → ℕ → Bool
lawful_trip n start x room = lawful_head n start && (lawful_swap n start x && nat_le 73 room)

-- what a buffer that held `before` holds then: the file, where all is taken; the head, where the exchange is refused; else the same
abbrev pub left_by : ℕ → ℕ → Swap → ℕ → List ℕ → List ℕ
left_by n start x word before =
    cond (lawful_trip n start x (length before)) (put_at 0 (file_of (trip_of n start x word)) before)
    (cond (is_none (begin_refusal n start before)) (put_at 0 (head_written n start) before)
    before)
