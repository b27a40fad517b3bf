use Rattle.std.proofs.Common.{◌≡◌, length, ap, ◌∙◌, arith, w64}
use Rattle.std.proofs.lemmas.Int.{to_z-of_z}
use Rattle.chain_lists.proofs.Growth.{length_head_written}
use Rattle.chain_lists.specs.Lists.{head_written}
use Rattle.chain_writer.proofs.Splice.{length_put}
use Rattle.measure.specs.declared.value.Shift.{Shift}
use Rattle.walk_laws.specs.declared.View.{View}
use Rattle.walk.specs.States.{setting_of, state_of}
use Rattle.walk_laws.specs.Steps.{State, several}
use Rattle.described.specs.Files.{swaps_of}
use Rattle.described.proofs.Filling.{head_fits, holds_totals, is_taken, lamps_taken, outcome_is}
use Rattle.described.proofs.filing.put_list.Goals as goal

pub returns : goal.returns
returns g c =
    let n = c.args.n in
    let first = c.look.result.present in
    let total = c.look-2.result.total in
    let b = c.in_ok-file.ensures.cases in
    let a = c.in_ok-add_exchanges.ensures.adds n first b.2 in
    let room : length c.in_ok-file.file.out.now ≡ length c.args.buffer.now =
    ap length b.1 ∙ length_put 0 (head_written n first) c.args.buffer.now (omega (arith, head_fits n first c.args.buffer.now b.0, length_head_written n first)) in
    let t = c.total-totals.ensures.holds a.0 a.2 in
    let p = is_taken _ c.total.result (λ e x. lamps_taken _ _ c.args.lamps e a.2.no_totals t.0 x.0) c.total.ensures.cases in
    let l = rw p.1 at (c.total.ensures.holds _ t.0) in
    let f = c.end.ensures.holds _ l.0.holding in (
      a.0,
      outcome_is n (swaps_of (several (setting_of _ _ _ c.args.walk.now) c.args.steps (state_of c.args.walk.now)).0) room (ap (λ (v : View Shift). v.present) c.look.ensures) b.0 a.1,
      holds_totals a.0 c.args.lamps (to_z-of_z w64 total.across (record { sfits = total.wide })) (to_z-of_z w64 total.along (record { sfits = total.long }))
          (ap (λ (v : View Shift). v.total) c.look-2.ensures ∙ ap (λ (s : State g.row.R.Denot Shift). s.total) c.in_ok-add_exchanges.ensures.after) f.0,
    )
