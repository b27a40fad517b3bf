use Rattle.std.proofs.Common.{arith}
use Rattle.std.proofs.lemmas.Result.{err_from_is_err_and}
use Rattle.lines.specs.Pages.{page_text}
use Rattle.listing.proofs.Held.{pass_on, pass_off}
use Rattle.listing.proofs.pages.put_lines.Goals as goal

pub returns-in_err-put_line : goal.returns-in_err-put_line
returns-in_err-put_line g c =
    let p = err_from_is_err_and c.from_residual.result c.from_residual.ensures.1 in
    rw p.1 (pass_off (page_text c.loop-set.page) c.loop-set.count c.loop-set.set-index c.args.sets.now (omega (arith, c.loop-set-test.true)) c.loop-set.invariant.0 c.in_err-put_line.ensures)

pub loop-set-preserved : goal.loop-set-preserved
loop-set-preserved g c = (pass_on (page_text c.loop-set.page) c.loop-set.count c.loop-set.set-index c.args.sets.now (omega (arith, c.loop-set-test.true)) c.loop-set.invariant.0 c.in_ok-put_line.ensures, omega (arith, c.loop-set.invariant.1))
