use Rattle.std.proofs.Common.{[], ◌∷◌, refl, ap, sym, ◌∙◌}
use Rattle.std.proofs.lemmas.Result.{err_from_is_err_and}
use Rattle.lines.specs.Pages.{page_text}
use Rattle.walk_laws.specs.declared.View.{View}
use Rattle.walk.specs.States.{setting_of}
use Rattle.listing.proofs.Kept.{keeps_on, same_setting}
use Rattle.listing.proofs.Written.{started, not_started, batch_on, batch_off, batch_last}
use Rattle.listing.proofs.chains.put_all.Goals as goal

pub returns-in_err-put_lines-clause-chains : goal.returns-in_err-put_lines-clause-chains
returns-in_err-put_lines-clause-chains g c =
    let p = err_from_is_err_and c.from_residual.result c.from_residual.ensures.1 in
    let off = not_started (setting_of g.P.Matroid g.R.TieRule g.M.Measure c.args.walk.now) (page_text c.args.page.now) (c.look.result.present ∷ []) c.requires
    (ap (λ (v : View g.row.M-Value.Denot). v.present ∷ []) c.look.ensures) c.in_err-put_lines.ensures in
    record { sets = off.all; hands = off.hands; cases = rw p.1 off.broken }

pub loop-init : goal.loop-init
loop-init g c = (
  record { matroid = refl; measure = refl },
  started (setting_of g.P.Matroid g.R.TieRule g.M.Measure c.args.walk.now) (page_text c.args.page.now) (c.look.result.present ∷ []) c.requires
      (ap (λ (v : View g.row.M-Value.Denot). v.present ∷ []) c.look.ensures) c.in_ok-put_lines.ensures,
)

pub returns-in_err-put_batch-clause-chains : goal.returns-in_err-put_batch-clause-chains
returns-in_err-put_batch-clause-chains g c =
    let w = setting_of g.P.Matroid g.R.TieRule g.M.Measure c.args.walk.now in
    let p = err_from_is_err_and c.from_residual-in_err-put_batch.result c.from_residual-in_err-put_batch.ensures.1 in
    let k = c.in_err-put_batch.ensures.batch in
    let off = batch_off w c.loop.invariant.1 (same_setting c.loop.invariant.0) k k.cases in
    record { sets = off.all; hands = off.hands; cases = rw p.1 off.broken }

pub loop-preserved : goal.loop-preserved
loop-preserved g c =
    let w = setting_of g.P.Matroid g.R.TieRule g.M.Measure c.args.walk.now in
    let k = c.in_ok-put_batch.ensures.batch in (
      keeps_on c.loop.invariant.0 c.in_ok-put_batch.ensures.keeps,
      batch_on w c.loop.invariant.1 (same_setting c.loop.invariant.0) k k.cases.1,
    )

pub returns-in-Finished-clause-chains : goal.returns-in-Finished-clause-chains
returns-in-Finished-clause-chains g c =
    let w = setting_of g.P.Matroid g.R.TieRule g.M.Measure c.args.walk.now in
    let k = c.in_ok-put_batch.ensures.batch in
    let e = batch_last w c.loop.invariant.1 (same_setting c.loop.invariant.0) k c.requires (sym k.cases.0 ∙ c.in-Finished.is) k.cases.1 in
    record { sets = c.loop.invariant.1.all; hands = c.loop.invariant.1.hands; cases = (e.1, e.0) }
