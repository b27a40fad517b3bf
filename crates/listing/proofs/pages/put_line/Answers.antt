use Rattle.std.proofs.Common.{◌++◌, codes, subst}
use Rattle.std.proofs.lemmas.Result.{err_from_is_err_and}
use Rattle.lines.specs.declared.page.Page.{Page}
use Rattle.lines.specs.Pages.{page_text}
use Rattle.lines.specs.Text.{line_text}
use Rattle.outlet.specs.Sending.{Broken}
use Rattle.outlet.proofs.Pieces.{breaks_longer}
use Rattle.listing.proofs.pages.put_line.Goals as goal

pub returns-in_err-write_page-in-Err : goal.returns-in_err-write_page-in-Err
returns-in_err-write_page-in-Err g c =
    let p = err_from_is_err_and c.from_residual.result c.from_residual.ensures.1 in
    rw p.1 (breaks_longer (line_text c.args.line.count c.args.line.set ++ codes "\n")
    (subst (λ (q : Page). Broken (g.W.Write.contents c.args.out.now) (g.W.Write.contents c.write_page.new.out) (page_text q)) c.in-Err.ensures.1 c.in_err-write_page-in-Err.ensures.sends))
