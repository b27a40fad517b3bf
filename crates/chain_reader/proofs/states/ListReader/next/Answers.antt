use Rattle.std.proofs.Common.{◌≡◌, ℕ, List, ◌++◌, length, refl, sym, ap, ◌∙◌, subst, arith}
use Rattle.std.proofs.lemmas.List.{append_assoc, length-append}
use Rattle.std.proofs.lemmas.Result.{err_from_is_err_and}
use Rattle.std.proofs.lemmas.Option.{MatchOption-at_some, MatchOption-at_none}
use Rattle.chain_lists.specs.declared.Spot.{Spot}
use Rattle.chain_lists.specs.Lists.{framed}
use Rattle.chain_lists.specs.Faults.{bytes_of}
use Rattle.chain_records.specs.Records.{left_of}
use Rattle.chain_lists.proofs.Bytes.{length_framed}
use Rattle.chain_lists.proofs.Results.{ok_or_told}
use Rattle.chain_records.proofs.Frames.{nothing_left}
use Rattle.chain_reader.specs.declared.values.ListFault.TheVariants.{OutOfOrder}
use Rattle.chain_reader.specs.Reading.{Known, StageAfter, end_of, entry_written, extended}
use Rattle.chain_reader.proofs.Runs.{more_after_end, no_end, refused_here, ended_well, fault_next, framed_fault, framed_some, goes_behind}
use Rattle.chain_reader.proofs.states.ListReader.next.Goals as goal

pub returns-then-is_empty-clause-reads : goal.returns-then-is_empty-clause-reads
returns-then-is_empty-clause-reads c =
    λ b h. (
      ended_well _ b _ h.lawful (subst (StageAfter b) c.in-Ended.is h.stage) h.made
          (nothing_left _ (sym c.is_empty.ensures ∙ c.if-is_empty.true)),
      h,
    )

pub returns-else-is_empty-clause-reads : goal.returns-else-is_empty-clause-reads
returns-else-is_empty-clause-reads c =
    λ b h. (
      refused_here _ b _ _ _ h.lawful h.made (c.spot.ensures ∙ h.place)
          (more_after_end b _ (subst (StageAfter b) c.in-Ended.is h.stage) (sym c.is_empty.ensures ∙ c.if-is_empty.false)),
      refl,
      h,
    )

pub returns-in_err-next-clause-reads : goal.returns-in_err-next-clause-reads
returns-in_err-next-clause-reads c =
    let p = err_from_is_err_and c.from_residual.result c.from_residual.ensures.1 in
    let k = c.in_err-next.ensures.cases in
    λ b h.
    rw (p.1, p.2)
    (refused_here _ b _ _ _ h.lawful h.made (k.0 ∙ h.place) (fault_next b _ _ h.stage c.in_default.not-Ended k.1 ∙ k.2 b), refl {a = b}, h)

pub returns-in_err-record-clause-reads : goal.returns-in_err-record-clause-reads
returns-in_err-record-clause-reads c =
    let p = err_from_is_err_and c.from_residual-in_err-record.result c.from_residual-in_err-record.ensures.1 in
    let a = c.in_err-record.ensures in
    let is : c.in_err-record.field-0.0 ≡ OutOfOrder c.spot-2.result = ok_or_told _ _ _ a.ok_part a.value in
    let none = MatchOption-at_none _ _ a.ok_part c.in_ok-next.ensures.cases in
    λ b h.
    rw (p.1, p.2, is)
    (refused_here _ b _ _ _ h.lawful h.made (c.spot-2.ensures ∙ none.1 ∙ h.place) (no_end b _ _ h.stage c.in_default.not-Ended none.0), refl {a = b}, h)

pub returns-in_err-step-clause-reads : goal.returns-in_err-step-clause-reads
returns-in_err-step-clause-reads c =
    let p = err_from_is_err_and c.from_residual-in_err-step.result c.from_residual-in_err-step.ensures.1 in
    let x = c.in_ok-record.record in
    let k = MatchOption-at_some _ _ x c.in_ok-record.ensures.ok_part c.in_ok-next.ensures.cases in
    λ b h.
    let at : x.spot ≡ end_of b = k.0 ∙ h.place in
    let known : Known b c.args.self.now.stage x.spot = record { lawful = h.lawful; stage = h.stage; before = ap (λ (q : Spot). q.before) at } in
    let judged = c.in_err-step.ensures b known in
    let rest : left_of c.args.self.now.records ≡ framed x.kind x.body.now ++ left_of c.next.new.self =
    k.4 ∙ ap (λ (ys : List ℕ). ys ++ left_of c.next.new.self) k.2 in
    let fault = fault_next b _ _ h.stage c.in_default.not-Ended (framed_some _ _ _ _ rest) ∙ framed_fault b x.kind x.body.now _ _ k.3 rest ∙ judged.0 in
    rw (p.1, p.2) (refused_here _ b _ _ _ h.lawful h.made (judged.1 ∙ at) fault, refl {a = b}, h)

pub returns-clause-reads : goal.returns-clause-reads
returns-clause-reads c =
    let x = c.in_ok-record.record in
    let k = MatchOption-at_some _ _ x c.in_ok-record.ensures.ok_part c.in_ok-next.ensures.cases in
    λ b h.
    let at : x.spot ≡ end_of b = k.0 ∙ h.place in
    let known : Known b c.args.self.now.stage x.spot = record { lawful = h.lawful; stage = h.stage; before = ap (λ (q : Spot). q.before) at } in
    let says = c.in_ok-step.ensures b known in
    let e = c.in_ok-step.step.entry in
    let bytes : x.bytes.now ≡ entry_written e = k.2 ∙ says.bytes in
    let rest : left_of c.args.self.now.records ≡ entry_written e ++ left_of c.next.new.self =
    k.4 ∙ ap (λ (ys : List ℕ). ys ++ left_of c.next.new.self) bytes in
    let grown : bytes_of b ++ left_of c.args.self.now.records ≡ bytes_of (extended b e) ++ left_of c.next.new.self =
    ap (λ (ys : List ℕ). bytes_of b ++ ys) rest
    ∙ sym (append_assoc (bytes_of b) (entry_written e) (left_of c.next.new.self))
    ∙ ap (λ (ys : List ℕ). ys ++ left_of c.next.new.self) (sym says.grown) in
    let whole : bytes_of (extended b e) ≡ bytes_of b ++ framed x.kind x.body.now =
    says.grown ∙ ap (λ (ys : List ℕ). bytes_of b ++ ys) (sym says.bytes) in (
      record {
        lawful = says.lawful;
        made = c.in_ok-next.ensures.file ∙ h.made ∙ grown;
        place = k.5
            ∙ goes_behind b (extended b e) x.kind x.body.now _ k.3 whole says.swaps h.place;
        stage = says.stage;
      },
      says.told,
      bytes,
      k.2,
      says.grown ∙ ap (λ (ys : List ℕ). bytes_of b ++ ys) (sym bytes),
      at,
    )

pub returns-clause-shorter : goal.returns-clause-shorter
returns-clause-shorter c =
    let x = c.in_ok-record.record in
    let k = MatchOption-at_some _ _ x c.in_ok-record.ensures.ok_part c.in_ok-next.ensures.cases in
    omega (arith, ap length k.4 ∙ length-append x.bytes.now _, ap length k.2 ∙ length_framed x.kind x.body.now)
