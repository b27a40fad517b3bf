use Rattle.std.proofs.Common.{length, sym, subst}
use Rattle.std.proofs.lemmas.Result.{err_from_is_err_and, MatchResult-at_err, MatchResult-at_ok}
use Rattle.survey_laws.specs.Check.{Outcome}
use Rattle.listing.specs.declared.program.Answer.TheVariants.{Listed}
use Rattle.listing.specs.Program.{Says}
use Rattle.listing.proofs.Surveys.{accepts, has_begun, its_list}
use Rattle.listing.proofs.program.write_answer.Goals as goal

pub write_list-written-requires : goal.write_list-written-requires
write_list-written-requires g c = has_begun c.in-Ok.ensures

pub returns-in_err-written-in-Ok : goal.returns-in_err-written-in-Ok
returns-in_err-written-in-Ok g c =
    let l = its_list c.in-Ok.ensures c.check_holds.ensures.accepts c.write_list-written.ensures in
    let p = err_from_is_err_and c.from_residual.result c.from_residual.ensures.1 in
    record { text = l.0; is_text = l.1; cases = rw p.1 (MatchResult-at_err _ _ _ c.in_err-written-in-Ok.was l.2) }

pub returns-in_ok-written-in-Ok : goal.returns-in_ok-written-in-Ok
returns-in_ok-written-in-Ok g c =
    let l = its_list c.in-Ok.ensures c.check_holds.ensures.accepts c.write_list-written.ensures in
    record {
      text = l.0;
      is_text = l.1;
      cases = (
        subst (λ (k : Outcome). Says k (length c.args.text.now) Listed) (sym (accepts c.in-Ok.ensures c.check_holds.ensures.accepts)) tt,
        MatchResult-at_ok _ _ _ c.in_ok-written-in-Ok.was l.2,
      );
    }
