use Rattle.std.proofs.Common.{◌≡◌, length}
use Rattle.chain_lists.specs.Faults.{Beginning}
use Rattle.chain_reader.specs.Reading.{HasRead, SummaryAfter, file_read, unread}
use Rattle.chain_reader.proofs.summing.read.Given as goal

-- the beginning that was read is lawful, and the summary is that of it
abbrev pub invariant-loop-part : goal.invariant-loop-part
invariant-loop-part l = (file_read l.reader ≡ l.file) × ((b : Beginning) × HasRead l.reader b × SummaryAfter b l.summary)

abbrev pub decreases-loop-part : goal.decreases-loop-part
decreases-loop-part l = length (unread l.reader)
