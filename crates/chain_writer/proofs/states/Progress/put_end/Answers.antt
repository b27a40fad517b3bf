use Rattle.std.proofs.Common.{◌≡◌, length, sym, ap, ◌∙◌, arith}
use Rattle.chain_lists.specs.declared.Kind.TheVariants.{End}
use Rattle.chain_lists.specs.Lists.{end_written, framed}
use Rattle.chain_lists.proofs.Bytes.{little_8}
use Rattle.chain_writer.proofs.Holdings.{ended}
use Rattle.chain_writer.proofs.Splice.{length_put, put_fits, puts_same}
use Rattle.chain_writer.proofs.states.Progress.put_end.Goals as goal

pub returns-clause-holds : goal.returns-clause-holds
returns-clause-holds g c =
    λ d h.
    let held = ended h (puts_same (ap (framed End) (c.to_le_bytes.ensures ∙ sym (little_8 c.args.self.count))) c.put_record-end.ensures) in
    let whole : c.min.result ≡ c.put_record-end.result = omega (arith, c.min.ensures, held.1) in
    rw whole (held.0, held.2, held.3)

pub returns-clause-puts : goal.returns-clause-puts
returns-clause-puts g c =
    let p = puts_same (ap (framed End) (c.to_le_bytes.ensures ∙ sym (little_8 c.args.self.count))) c.put_record-end.ensures in
    record {
      place =
          λ h.
          let whole : c.min.result ≡ c.put_record-end.result =
          omega (arith, c.min.ensures, p.place h, ap length (p.written ∙ put_fits c.args.self.at (end_written c.args.self.count) c.args.out.now h), length_put c.args.self.at (end_written c.args.self.count) c.args.out.now h, h) in
          whole ∙ p.place h;
      written = p.written;
    }
