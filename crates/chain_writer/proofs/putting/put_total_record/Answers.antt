use Rattle.std.proofs.Common.{sym, ap, ◌∙◌}
use Rattle.chain_lists.specs.declared.Kind.TheVariants.{LampTotal}
use Rattle.chain_lists.specs.Lists.{framed, total_written}
use Rattle.chain_lists.proofs.Bytes.{little_8}
use Rattle.chain_writer.proofs.Splice.{puts_same}
use Rattle.chain_writer.proofs.putting.put_total_record.Goals as goal

pub returns-in-Lamp-clause-puts : goal.returns-in-Lamp-clause-puts
returns-in-Lamp-clause-puts c =
    puts_same
    (ap (framed LampTotal) (c.to_le_bytes.ensures ∙ sym (little_8 c.in-Lamp.word)) ∙ sym (ap total_written c.in-Lamp.is))
    c.put_record-in-Lamp.ensures
