use Rattle.std.proofs.Common.{◌≡◌, false, sym, ◌∙◌}
use Rattle.chain_lists.specs.Lists.{stands, total_kind}
use Rattle.chain_lists.proofs.Growth.{is_marked_stands}
use Rattle.chain_writer.proofs.Holdings.{totalled}
use Rattle.chain_writer.proofs.filling.Progress+TotalKinds.put_total.Goals as goal

pub returns-clause-holds : goal.returns-clause-holds
returns-clause-holds c =
    λ d h.
    let s = c.args.self.now in
    let fresh : stands (total_kind c.args.total) d.totals ≡ false =
    sym (is_marked_stands s.state d.totals c.args.total h.marked) ∙ sym c.if-has.ensures in
    let put = c.put_total_record-self.ensures in
    let p = totalled c.args.total h.holding fresh put.whole put.puts in
    (record { holding = p.0; marked = c.with-self.ensures d.totals h.marked }, p.1)
