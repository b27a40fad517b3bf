use Rattle.std.proofs.Common.{◌∙◌, string_bytes}
use Rattle.chain_reader.specs.Reading.{extended}
use Rattle.chain_check.proofs.Growing.{goes_on}
use Rattle.chain_check.proofs.Verdicts.{refusing}
use Rattle.chain_check.proofs.answering.answer_to.Goals as goal

pub loop-part-preserved : goal.loop-part-preserved
loop-part-preserved c =
    let i = c.loop-part.invariant in
    let x = c.in-Ok-Some.part in
    let k = rw c.in-Ok-Some.field-0-is at (c.in-Ok-Some.ensures.reads i.0 i.1) in (
      extended i.0 x.entry,
      k.0,
      c.in-Ok-Some.ensures.file ∙ i.2,
      goes_on i.0 x.entry x.record.bytes.now x.record.spot (string_bytes c.loop-part.text) (string_bytes c.put_record.new.text) k.1 k.2 k.4 k.5 i.3 c.in_ok-put_record-in-Ok-Some.ensures,
    )

pub returns-in-Err : goal.returns-in-Err
returns-in-Err c =
    let i = c.loop-part.invariant in
    let k = c.in-Err.ensures.reads i.0 i.1 in
    refusing i.0 (string_bytes c.loop-part.text) (string_bytes c.writeln-in-Err.new.self) i.2 k.0 k.1 i.3 c.in_ok-writeln-in-Err.ensures.bytes
