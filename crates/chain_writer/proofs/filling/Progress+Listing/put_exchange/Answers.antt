use Rattle.std.proofs.Common.{◌≡◌, ℕ, ◌+◌, ◌^◌, ◌<◌, ◌≤◌, true, leb, List, length, sym, ap, ◌∙◌, arith}
use Rattle.labels.specs.Sets.{limit}
use Rattle.std.proofs.lemmas.Bool.{cond-true, leb-true}
use Rattle.chain_lists.specs.declared.Swap.{Swap}
use Rattle.chain_lists.specs.Lists.{after, last_set, lawful_swap, swap_written, with_swap}
use Rattle.chain_lists.proofs.Growth.{last_set_more, length_swap_written}
use Rattle.chain_lists.proofs.Lawful.{head_tells}
use Rattle.chain_writer.specs.Writing.{put_at}
use Rattle.chain_writer.proofs.Holdings.{hold_swap, moved}
use Rattle.chain_writer.proofs.Splice.{put_fits}
use Rattle.chain_writer.proofs.filling.Progress+Listing.put_exchange.Goals as goal

pub returns-clause-cases : goal.returns-clause-cases
returns-clause-cases c =
    let s = c.args.self.now in
    let x : Swap = c.args.swap in
    let l : lawful_swap s.state.n s.state.present x ≡ true = sym c.if-not-is_lawful.ensures in
    let k : leb (s.at + 58) (length c.args.out.now) ≡ true = sym c.if-not-has_room.ensures in
    let room : s.at + 58 ≤ length c.args.out.now = leb-true _ _ k in
    let fits : s.at + length (swap_written x) ≤ length c.args.out.now = omega (arith, room, length_swap_written x) in
    (cond-true _ _ _ l ∙ cond-true _ _ _ k, c.put_record-self.ensures.written ∙ put_fits s.at (swap_written x) c.args.out.now fits)

pub returns-clause-holds : goal.returns-clause-holds
returns-clause-holds c =
    λ d h.
    let s = c.args.self.now in
    let x : Swap = c.args.swap in
    let out : List ℕ = c.args.out.now in
    let l : lawful_swap s.state.n s.state.present x ≡ true = sym c.if-not-is_lawful.ensures in
    let k : leb (s.at + 58) (length out) ≡ true = sym c.if-not-has_room.ensures in
    let room : s.at + 58 ≤ length out = leb-true _ _ k in
    let few : length out < 2 ^ 64 = omega arith in
    let fits : s.at + length (swap_written x) ≤ length out = omega (arith, room, length_swap_written x) in
    let put = c.put_record-self.ensures in
    let lawful : lawful_swap d.n (last_set d.start d.swaps) x ≡ true =
    ap (λ (k : ℕ). lawful_swap k (last_set d.start d.swaps) x) (sym h.labels)
    ∙ ap (λ (t : ℕ). lawful_swap s.state.n t x) (sym h.set)
    ∙ l in
    let low = (head_tells d.n d.start h.holding.lawful.heads).0 in
    let labels : s.state.n ≤ limit = omega (arith, h.labels) in
    record {
      holding =
          moved _ (put_at s.at (swap_written x) out) _ (s.at + length (swap_written x)) _ (with_swap d x) (put.written ∙ put_fits s.at (swap_written x) out fits) (put.place fits)
          (hold_swap out s.at s.count d x h.holding h.no_totals lawful room few);
      labels = h.labels;
      set = c.after-self.ensures.lawful s.state.n labels l ∙ ap (λ (t : ℕ). after t x) h.set ∙ sym (last_set_more d.start d.swaps x);
      no_totals = h.no_totals;
    }
