use Rattle.std.proofs.Common.{refl, sym, ◌∙◌}
use Rattle.chain_lists.specs.declared.Total.TheVariants.{Lamp}
use Rattle.chain_lists.proofs.Growth.{front_swap_more, front_total_more}
use Rattle.chain_lists.proofs.Results.{err_told, ok_told}
use Rattle.chain_lists.specs.Lists.{begun, swap_written, total_written, with_swap}
use Rattle.chain_writer.proofs.Behind.{behind_begun, behind_ended, behind_more}
use Rattle.chain_trip.proofs.Trips.{left_file, left_head, read_told, refused_trip, taken_trip}
use Rattle.chain_trip.proofs.trip.Goals as goal

pub returns-in_err-ok-clause-summary : goal.returns-in_err-ok-clause-summary
returns-in_err-ok-clause-summary c =
    let b = ok_told c.put_head.result _ _ _ c.in_ok-open.ensures.value c.put_head.ensures in
    let e = err_told c.put_exchange.result _ _ c.in_err-ok.ensures.value c.put_exchange.ensures.cases in
    rw c.from_residual-in_err-ok.ensures (refused_trip c.args.n c.args.start c.args.swap c.args.buffer.now c.put_head.new.out c.in_ok-open.open b.0 b.1 b.2 e.1.0)

pub returns-in_err-ok-clause-left : goal.returns-in_err-ok-clause-left
returns-in_err-ok-clause-left c =
    let b = ok_told c.put_head.result _ _ _ c.in_ok-open.ensures.value c.put_head.ensures in
    let e = err_told c.put_exchange.result _ _ c.in_err-ok.ensures.value c.put_exchange.ensures.cases in
    let refused = refused_trip c.args.n c.args.start c.args.swap c.args.buffer.now c.put_head.new.out c.in_ok-open.open b.0 b.1 b.2 e.1.0 in
    e.1.1 ∙ b.1 ∙ sym (left_head c.args.n c.args.start c.args.swap c.args.word c.args.buffer.now refused b.0)

pub returns-clause-summary : goal.returns-clause-summary
returns-clause-summary c =
    let b = ok_told c.put_head.result _ _ _ c.in_ok-open.ensures.value c.put_head.ensures in
    let taken = ok_told c.put_exchange.result _ _ _ c.in_ok-ok.ensures.value c.put_exchange.ensures.cases in
    let o = ok_told c.put_exchange.result _ _ _ c.in_ok-ok.ensures.value (c.put_exchange.ensures.holds (begun c.args.n c.args.start) b.2) in
    let t = (c.put_first_total.ensures.holds _ o).0 in
    let e = c.put_end-end.ensures.holds _ t.holding in
    read_told _ c.read.result _ _ c.ok-3.ensures.value
    (taken_trip c.args.n c.args.start c.args.swap c.args.buffer.now c.put_head.new.out c.in_ok-open.open b.0 b.1 b.2 taken.0)
    (c.read.ensures.reads_back _ e.0)

pub returns-clause-left : goal.returns-clause-left
returns-clause-left c =
    let none = begun c.args.n c.args.start in
    let one = with_swap none c.args.swap in
    let b = ok_told c.put_head.result _ _ _ c.in_ok-open.ensures.value c.put_head.ensures in
    let taken = ok_told c.put_exchange.result _ _ _ c.in_ok-ok.ensures.value c.put_exchange.ensures.cases in
    let o = ok_told c.put_exchange.result _ _ _ c.in_ok-ok.ensures.value (c.put_exchange.ensures.holds none b.2) in
    let t = c.put_first_total.ensures.holds one o in
    let e = c.put_end-end.ensures.holds _ t.0.holding in
    let b₀ = behind_begun c.args.n c.args.start b.1 b.2.holding in
    let b₁ = behind_more (swap_written c.args.swap) b₀ b.2.holding taken.1 (front_swap_more none c.args.swap refl) o.holding in
    let b₂ = behind_more (total_written (Lamp c.args.word)) b₁ o.holding t.1 (front_total_more one (Lamp c.args.word)) t.0.holding in
    behind_ended b₂ t.0.holding e.2
    ∙ sym (left_file c.args.n c.args.start c.args.swap c.args.word c.args.buffer.now (taken_trip c.args.n c.args.start c.args.swap c.args.buffer.now c.put_head.new.out c.in_ok-open.open b.0 b.1 b.2 taken.0))
