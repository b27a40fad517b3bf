use Rattle.std.proofs.Common.{sym, ◌∙◌, arith}
use Rattle.labels.proofs.Words.{shl_is}
use Rattle.label_words.proofs.Held.{word_in}
use Rattle.label_words.proofs.word.Goals as goal

pub returns : goal.returns
returns c = shl_is 64 c.args.label (omega arith) (omega arith) ∙ sym (word_in c.args.label (omega arith) (omega arith))
