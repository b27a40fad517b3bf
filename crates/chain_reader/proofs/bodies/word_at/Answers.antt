use Rattle.std.proofs.Common.{◌≡◌, take, drop, ap, ◌∙◌, arith, w64}
use Rattle.std.specs.Int.{from_le_bytes}
use Rattle.std.proofs.lemmas.List.{length-drop, take_rest}
use Rattle.std.proofs.lemmas.Option.{MatchOption-at_some}
use Rattle.chain_lists.specs.Faults.{number_in}
use Rattle.chain_lists.proofs.Bytes.{number_8}
use Rattle.chain_reader.proofs.Words.{word_writes}
use Rattle.chain_reader.proofs.bodies.word_at.Goals as goal

pub returns : goal.returns
returns c =
    let body = c.args.body.now in
    let i = c.args.i in
    let chunk = MatchOption-at_some _ _ _ c.unwrap.ensures c.first_chunk.ensures.cases in
    let reads : c.from_le_bytes.result ≡ number_in (take 8 (drop i body)) =
    c.from_le_bytes.ensures ∙ ap (from_le_bytes w64) (chunk.same ∙ ap (take 8) (take_rest body i))
    ∙ number_8 (drop i body) (omega (arith, c.requires, length-drop i body)) in
    record { reads = reads; writes = word_writes body i _ c.requires (λ j. (c.type_inv.body j).fits) reads }
