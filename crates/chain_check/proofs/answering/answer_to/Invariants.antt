use Rattle.std.proofs.Common.{◌≡◌, length, string_bytes}
use Rattle.chain_lists.specs.Faults.{Beginning}
use Rattle.chain_reader.specs.Reading.{HasRead, file_read, unread}
use Rattle.chain_check.specs.Lines.{lines_of}
use Rattle.chain_check.proofs.answering.answer_to.Given as goal

abbrev pub invariant-loop-part : goal.invariant-loop-part
invariant-loop-part l = (b : Beginning) × HasRead l.reader b × (file_read l.reader ≡ l.file) × (string_bytes l.text ≡ lines_of b)

abbrev pub decreases-loop-part : goal.decreases-loop-part
decreases-loop-part l = length (unread l.reader)
