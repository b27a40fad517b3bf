-- The lines of the records of a chain file.
use Rattle.std.specs.Prelude.{ℕ, ◌+◌, List, [], ◌∷◌, ◌++◌, length, map, codes, decimal}
use Rattle.chain_lists.specs.declared.Swap.{Swap}
use Rattle.chain_lists.specs.Faults.{Beginning, nothing, so_far, ended}
use Rattle.chain_lists.specs.Lists.{ChainList, after, count_of}
use Rattle.chain_lists.specs.Text.{total_text}
use Rattle.chain_reader.specs.declared.values.Entry.{Entry}
use Rattle.chain_reader.specs.declared.values.Entry.TheVariants.{Head, Exchange, Total, End}
use Rattle.chain_reader.specs.declared.values.Part.{Part}
use Rattle.chain_reader.specs.Reading.{entry_written}

-- ---- what the records of a list say

-- exchanges, each with the set that it leads to, from the set t on
abbrev pub exchanges_from : ℕ → List Swap → List Entry
exchanges_from t [] = []
exchanges_from t (x ∷ xs) = Exchange x (after t x) ∷ exchanges_from (after t x) xs

-- all but the end
abbrev pub entries_of : ChainList → List Entry
entries_of c = Head c.n c.start ∷ (exchanges_from c.start c.swaps ++ map Total c.totals)

abbrev pub entries_in : Beginning → List Entry
entries_in nothing = []
entries_in (so_far c) = entries_of c
entries_in (ended c) = entries_of c ++ End (count_of c) ∷ []

-- ---- how it is printed

abbrev pub entry_text : Entry → List ℕ
entry_text (Head n start) = codes "head " ++ (decimal n ++ (codes " " ++ decimal start))
entry_text (Exchange x t) = codes "exchange " ++ (decimal x.high ++ (codes " " ++ (decimal x.low ++ (codes " " ++ decimal t))))
entry_text (Total t) = total_text t
entry_text (End k) = codes "end " ++ decimal k

-- the byte at which a record begins, how many bytes it has, and what it says
abbrev pub line_text : ℕ → ℕ → Entry → List ℕ
line_text at size e = decimal at ++ (codes " " ++ (decimal size ++ (codes " " ++ (entry_text e ++ codes "\n"))))

-- the line of a record as it is read
abbrev pub part_line : Part → List ℕ
part_line x = line_text x.record.spot.byte (length x.record.bytes.now) x.entry

-- a line for each record, where the first begins at this byte and each other one behind the one before it
abbrev pub lines_from : ℕ → List Entry → List ℕ
lines_from at [] = []
lines_from at (e ∷ es) = let size = length (entry_written e) in line_text at size e ++ lines_from (at + size) es

abbrev pub lines_of : Beginning → List ℕ
lines_of b = lines_from 0 (entries_in b)
