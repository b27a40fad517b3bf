use Rattle.std.proofs.Common.{◌≡◌, take}
use Rattle.binary_matroid.specs.Columns.{columns}
use Rattle.timed.proofs.binary_of.Given as goal

abbrev pub invariant-loop-word : goal.invariant-loop-word
invariant-loop-word l = columns l.binary ≡ take l.word-index l.words
