-- Words of flipped places, their sums, and a table of them.
use Rattle.std.specs.Prelude.{ℕ, List, bit_xor}
use Rattle.measure.specs.Table.{worths_of, worth_at}
use Rattle.measure.specs.declared.table.Worths.{Worths}
use Rattle.measure.specs.declared.value.Word.{Word}

-- the word with these binary digits
abbrev pub word_with : ℕ → Word
word_with n = record { bits = n }

-- no place is flipped
abbrev pub word_zero : Word
word_zero = word_with 0

-- the places that exactly one of the two flips
abbrev pub word_sum : Word → Word → Word
word_sum a b = word_with (bit_xor a.bits b.bits)

-- flipping the same places again takes a word back
abbrev pub word_opposite : Word → Word
word_opposite a = a

-- a table of words, since specs have no name for an alias
abbrev pub Words : Type 0
Words = Worths Word

-- the words of the labels 1, 2, ..
abbrev pub words_of : Words → List Word
words_of m = worths_of m

-- the word of a label; none where the label has no entry
abbrev pub word_at : List Word → ℕ → Word
word_at words e = worth_at word_zero words e
