use Rattle.std.proofs.Common.{ℕ, List, subst}
use Rattle.std.proofs.lemmas.Option.{MatchOption-at_none}
use Rattle.std.proofs.lemmas.Result.{err_from_is_err_and}
use Rattle.chain_lists.specs.Lists.{ChainList, Holds}
use Rattle.chain_lists.specs.Faults.{Refused}
use Rattle.chain_laws.proofs.Law.{law}
use Rattle.chain_reader.specs.Reading.{Finished, Summarises, fault_of, spot_of}
use Rattle.chain_reader.proofs.Outlines.{finish}
use Rattle.chain_reader.proofs.summing.read.Goals as goal

pub returns-in_err-part : goal.returns-in_err-part
returns-in_err-part c =
    let p = err_from_is_err_and c.from_residual.result c.from_residual.ensures.1 in
    let i = c.loop-part.invariant in
    let e = c.in_err-part.field-0.0 in
    let refused : Refused c.args.file.now (fault_of e) (spot_of e) =
    subst (λ (f : List ℕ). Refused f (fault_of e) (spot_of e)) i.0 (c.in_err-part.ensures.reads i.1.0 i.1.1).0 in
    record {
      exactly = rw (p.1, p.2) refused;
      reads_back = λ d holds. rw p.1 (law.not_both c.args.file.now d (fault_of e) (spot_of e) holds refused);
      law = law;
    }

pub returns : goal.returns
returns c =
    let i = c.loop-part.invariant in
    let ended = (MatchOption-at_none _ _ c.in_default.is (c.in_ok-part.ensures.reads i.1.0 i.1.1)).0 in
    let held : (l : ChainList) × Holds c.args.file.now l × Summarises c.loop-part.summary l =
    finish _ i.1.0 _ (subst (λ (f : List ℕ). Finished f i.1.0) i.0 ended) i.1.2 in
    record {
      exactly = held;
      reads_back = λ d holds. subst (Summarises c.loop-part.summary) (law.one_list c.args.file.now held.0 d held.1 holds) held.2;
      law = law;
    }
