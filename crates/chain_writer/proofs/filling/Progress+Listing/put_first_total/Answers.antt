use Rattle.std.proofs.Common.{◌≡◌, false, ap, sym}
use Rattle.chain_lists.specs.declared.Kind.TheVariants.{ShiftTotal, LampTotal}
use Rattle.chain_lists.specs.Lists.{Marks, stands, total_kind}
use Rattle.chain_writer.proofs.Holdings.{totalled}
use Rattle.chain_writer.proofs.filling.Progress+Listing.put_first_total.Goals as goal

pub returns-clause-holds : goal.returns-clause-holds
returns-clause-holds c =
    λ d h.
    let fresh : stands (total_kind c.args.total) d.totals ≡ false = ap (stands (total_kind c.args.total)) h.no_totals in
    let none : Marks (record { shift = false; lamp = false }) d.totals = record { shift = sym (ap (stands ShiftTotal) h.no_totals); lamp = sym (ap (stands LampTotal) h.no_totals) } in
    let p = totalled c.args.total h.holding fresh c.put_total_record.ensures.whole c.put_total_record.ensures.puts in
    (record { holding = p.0; marked = c.with.ensures d.totals none }, p.1)
