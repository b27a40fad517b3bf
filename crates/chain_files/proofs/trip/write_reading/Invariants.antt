use Rattle.std.proofs.Common.{length}
use Rattle.chain_reader.specs.Reading.{unread}
use Rattle.chain_files.proofs.trip.write_reading.Given as goal

abbrev pub decreases-loop-part : goal.decreases-loop-part
decreases-loop-part g l = length (unread l.reader)
