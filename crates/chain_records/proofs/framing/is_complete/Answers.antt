use Rattle.std.proofs.Common.{rules, ◌≡◌, leb, length, sym, ap, ◌∙◌, arith, w32}
use Rattle.std.specs.Int.{from_le_bytes}
use Rattle.chain_lists.specs.Faults.{complete}
use Rattle.chain_lists.proofs.Bytes.{number_4}
use Rattle.chain_records.proofs.Frames.{both_told, complete_is, short_is}
use Rattle.chain_records.proofs.framing.is_complete.Goals as goal

pub returns : goal.returns
returns c =
    let xs = c.args.rest.now in
    both_told {G = c.is_some_and.result ≡ complete xs} c.split_first_chunk.result c.split_first_chunk.ensures.cases c.is_some_and.ensures
    (λ l r. r ∙ sym (short_is xs l))
    (λ p l r.
    let told : c.is_some_and.result ≡ leb (from_le_bytes w32 p.0.now) (length p.1.now) = search rules in
    told ∙ ap (λ n. leb n (length p.1.now)) (ap (from_le_bytes w32) l.0 ∙ number_4 xs (omega (arith, l.2))) ∙ complete_is xs (length p.1.now) l.2)
