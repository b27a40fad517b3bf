-- Words are a group, in which each is its own opposite.
use Rattle.std.proofs.Common.{ap}
use Rattle.std.specs.Int.Bits.{xor_self, xor_assoc, xor_zero_r}
use Rattle.std.proofs.lemmas.Nat.{xor_comm}
use Rattle.measure.specs.Laws.{GroupLaws}
use Rattle.measure.specs.Words.{word_with, word_zero, word_sum, word_opposite}

pub words_group : GroupLaws word_zero word_sum word_opposite
words_group = record {
  assoc = λ a b c. ap word_with (xor_assoc a.bits b.bits c.bits);
  comm = λ a b. ap word_with (xor_comm a.bits b.bits);
  unit = λ a. ap word_with (xor_zero_r a.bits);
  inverse = λ a. ap word_with (xor_self a.bits);
}
