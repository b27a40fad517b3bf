use Rattle.std.proofs.Common.{◌≡◌, ℕ, ◌+◌, ◌-◌, ◌^◌, ◌<◌, ◌≤◌, false, List, ◌++◌, length, take, drop, sym, refl, ap, ◌∙◌, arith, rules}
use Rattle.std.proofs.lemmas.List.{length-drop, take_rest, drop-drop, take-append-drop}
use Rattle.std.proofs.lemmas.Option.{MatchOption-at_some, MatchOption-at_none}
use Rattle.std.proofs.lemmas.Result.{err_from_is_err_and}
use Rattle.chain_records.specs.declared.values.RecordFault.TheVariants.{Misshapen}
use Rattle.chain_lists.proofs.Results.{ok_or_told}
use Rattle.chain_lists.specs.declared.Spot.{Spot}
use Rattle.chain_lists.specs.Lists.{kind_length}
use Rattle.chain_lists.specs.Faults.{complete, record_fault}
use Rattle.chain_records.specs.Records.{left_of}
use Rattle.chain_records.proofs.Frames.{nothing_left, some_left, cut_fault, CutRecord}
use Rattle.chain_records.proofs.records.Records.next.Goals as goal

pub returns-then-is_empty : goal.returns-then-is_empty
returns-then-is_empty c = record { file = refl; cases = (nothing_left _ (sym c.is_empty.ensures ∙ c.if-is_empty.true), refl) }

pub returns-then-not-is_complete : goal.returns-then-not-is_complete
returns-then-not-is_complete c =
    let s = c.args.self.now in
    let e : take (length s.file.now - s.at) (drop s.at s.file.now) ≡ left_of s = take_rest s.file.now s.at in
    let f : complete (left_of s) ≡ false = sym (ap complete e) ∙ sym c.is_complete.ensures ∙ c.if-not-is_complete.true in
    record { file = refl; cases = (c.spot-spot.ensures, some_left _ c.is_empty.ensures c.if-is_empty.false, λ b. cut_fault b _ f, refl) }

pub returns-in_err-kind-clause-cases : goal.returns-in_err-kind-clause-cases
returns-in_err-kind-clause-cases c =
    let s = c.args.self.now in
    let e : take (length s.file.now - s.at) (drop s.at s.file.now) ≡ left_of s = take_rest s.file.now s.at in
    let a = c.in_err-kind.ensures in
    let p = err_from_is_err_and c.from_residual.result c.from_residual.ensures.1 in
    let is : c.in_err-kind.field-0.0 ≡ Misshapen c.spot-spot.result = ok_or_told c.kind_of.result _ _ a.ok_part a.value in
    let wrong = MatchOption-at_none _ _ a.ok_part c.kind_of.ensures in
    rw (p.1, p.2, is)
    (c.spot-spot.ensures, some_left _ c.is_empty.ensures c.if-is_empty.false, λ b. sym (ap (record_fault b) e) ∙ wrong b, refl)

pub pass-requires : goal.pass-requires
pass-requires c =
    let s = c.args.self.now in
    let e : take (length s.file.now - s.at) (drop s.at s.file.now) ≡ left_of s = take_rest s.file.now s.at in
    let k = (MatchOption-at_some _ _ _ c.in_ok-kind.ensures.ok_part c.kind_of.ensures).1 in
    (ap (λ (n : ℕ). 4 + n) c.length.ensures, omega (arith, ap length e, k, c.length.ensures))

pub returns : goal.returns
returns c =
    let s = c.args.self.now in
    let e : take (length s.file.now - s.at) (drop s.at s.file.now) ≡ left_of s = take_rest s.file.now s.at in
    let k = c.in_ok-kind.kind in
    let framed = MatchOption-at_some _ _ _ c.in_ok-kind.ensures.ok_part c.kind_of.ensures in
    let cut = CutRecord (take (length s.file.now - s.at) (drop s.at s.file.now)) k c.length.result c.length.ensures framed.0 framed.1 in
    let at : c.pass.new.self.at ≡ s.at + (4 + kind_length k) = ap (λ (p : Spot). p.byte) c.pass.ensures.place in
    let onwards : left_of c.pass.new.self ≡ drop (4 + kind_length k) (left_of s) = ap (λ (f : List ℕ). drop c.pass.new.self.at f) c.pass.ensures.file ∙ ap (λ (i : ℕ). drop i s.file.now) at ∙ sym (drop-drop (4 + kind_length k) s.at s.file.now) in
    let size : 4 + c.length.result ≡ 4 + kind_length k = ap (λ (n : ℕ). 4 + n) c.length.ensures in
    let split : left_of s ≡ take (4 + c.length.result) (take (length s.file.now - s.at) (drop s.at s.file.now)) ++ left_of c.pass.new.self =
    sym (take-append-drop (4 + c.length.result) (left_of s))
    ∙ ap (λ (l : List ℕ). take (4 + c.length.result) l ++ drop (4 + c.length.result) (left_of s)) (sym e)
    ∙ ap (λ (l : List ℕ). take (4 + c.length.result) (take (length s.file.now - s.at) (drop s.at s.file.now)) ++ l)
    (ap (λ (i : ℕ). drop i (left_of s)) size ∙ sym onwards) in
    let long : length s.file.now < 2 ^ 64 = search rules in
    let fits : 4 + kind_length k ≤ length (left_of s) = omega (arith, ap length e, framed.1) in
    let few : c.spot-spot.result.before + 2 < 2 ^ 64 =
    omega (arith, long, fits, s.few, s.within, length-drop s.at s.file.now, ap (λ (p : Spot). p.before) c.spot-spot.ensures) in
    record {
      file = c.pass.ensures.file;
      cases = (c.spot-spot.ensures, few, cut.0, cut.1, split, c.pass.ensures.place);
    }
