use Rattle.std.proofs.Common.{ℕ, List, [], ◌++◌, ap, sym, ◌∙◌, w64, to_z, of_z}
use Rattle.std.proofs.lemmas.List.{append-nil}
use Rattle.chain_lists.specs.Lists.{little}
use Rattle.chain_lists.proofs.Bytes.{little_8}
use Rattle.chain_writer.proofs.Splice.{eights_same}
use Rattle.chain_writer.proofs.putting.shift_body.Goals as goal

pub returns : goal.returns
returns c =
    let x : ℕ = of_z w64 (to_z w64 (of_z w64 c.args.across)) in
    let y : ℕ = of_z w64 (to_z w64 (of_z w64 c.args.along)) in
    let rest = append-nil _ ∙ c.copy_from_slice-2.ensures.after ∙ c.to_le_bytes-2.ensures ∙ sym (little_8 y) in
    rw (c.copy_from_slice.ensures.after, c.to_le_bytes.ensures)
    (ap (λ (q : List ℕ). q ++ (c.copy_from_slice-2.new.self ++ [])) (sym (little_8 x)) ∙ ap (λ (q : List ℕ). little 8 x ++ q) rest ∙ eights_same c.args.across c.args.along c.ranges.across c.ranges.along)
