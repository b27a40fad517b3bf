use Rattle.std.proofs.Common.{◌≡◌, ℕ, ◌≤◌, eqb, length, take, drop, Some, sym, ap, ap₂, ◌∙◌, arith, w16, w32}
use Rattle.std.specs.Bool.{then_some}
use Rattle.std.specs.Int.{from_le_bytes}
use Rattle.chain_lists.specs.Lists.{kind_numbered}
use Rattle.chain_lists.specs.Faults.{kind_in, number_in, stated}
use Rattle.chain_lists.proofs.Bytes.{number_2, number_4}
use Rattle.chain_lists.proofs.Results.{ok_told}
use Rattle.chain_records.proofs.Frames.{kind_told, no_kind}
use Rattle.chain_records.proofs.framing.kind_of.Goals as goal

pub returns-in_err-first_chunk : goal.returns-in_err-first_chunk
returns-in_err-first_chunk c =
    let l = c.in_ok-length.ensures.cases in
    rw c.from_residual-in_err-first_chunk.ensures (λ b. no_kind b c.args.rest.now c.requires (omega (arith, l.2, c.in_err-first_chunk.ensures.cases)))

pub returns : goal.returns
returns c =
    let xs = c.args.rest.now in
    let k = c.in_ok-kind.kind in
    let l = c.in_ok-length.ensures.cases in
    let n = c.in_ok-first_chunk.ensures.cases in
    let long : 6 ≤ length xs = omega (arith, l.2, n.enough) in
    let behind : 2 ≤ length (drop 4 xs) = omega (arith, n.enough, ap length l.1) in
    let length-is : c.from_le_bytes-2.result ≡ stated xs =
    c.from_le_bytes-2.ensures ∙ ap (from_le_bytes w32) l.0 ∙ number_4 xs (omega (arith, long)) in
    let number-is : c.from_le_bytes.result ≡ number_in (take 2 (drop 4 xs)) =
    c.from_le_bytes.ensures ∙ ap (from_le_bytes w16) (n.same ∙ ap (take 2) l.1) ∙ number_2 (drop 4 xs) behind in
    let kind-is : kind_in xs ≡ Some k =
    sym (ap kind_numbered number-is) ∙ ok_told c.try_from.result _ _ k c.in_ok-kind.ensures.value c.try_from.ensures in
    kind_told xs k c.then_some.result (λ i. (c.type_inv.rest i).fits) c.requires long kind-is
    (c.then_some.ensures ∙ ap₂ (λ (m n : ℕ). then_some (eqb m n) k) length-is c.length.ensures)
