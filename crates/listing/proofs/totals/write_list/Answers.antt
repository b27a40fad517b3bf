use Rattle.std.proofs.Common.{rules, ◌≡◌, ℕ, List, ◌++◌, subst}
use Rattle.lines.specs.Pages.{page_text}
use Rattle.outlet.specs.Sending.{Sends}
use Rattle.listing.specs.Texts.{total_line}
use Rattle.std.proofs.lemmas.Result.{err_from_is_err_and}
use Rattle.listing.proofs.Ends.{list_broken, list_ended}
use Rattle.listing.proofs.totals.write_list.Goals as goal

pub returns-in_err-put_all : goal.returns-in_err-put_all
returns-in_err-put_all g c =
    let p = err_from_is_err_and c.from_residual.result c.from_residual.ensures.1 in
    let l = c.in_err-put_all.ensures.chains in
    record {
      sets = l.sets;
      hands = l.hands;
      sends = rw p.1 (list_broken _ l.sets _ _ _ c.new-page.ensures l.cases);
    }

pub returns : goal.returns
returns g c =
    let l = c.in_ok-put_all.ensures.chains in
    let line_is : total_line c.look-end.result.count c.look-end.result.total ≡ total_line c.put_all.new.walk.view.count c.put_all.new.walk.view.total = search rules in
    record {
      sets = l.sets;
      hands = l.hands;
      sends = list_ended _ _ _ _ _ (page_text c.put_all.new.page) c.write_end.result c.requires c.new-page.ensures l.cases.0 l.cases.1
          (subst (λ (t : List ℕ). Sends (g.W.Write.contents c.put_all.new.out) (g.W.Write.contents c.write_end.new.out) c.write_end.result (page_text c.put_all.new.page ++ t)) line_is (search rules));
    }
