use Rattle.std.proofs.Common.{◌≡◌, ℕ, ◌+◌, ◌≤◌, true, leb, List, length, sym, refl, ap, ◌∙◌, arith}
use Rattle.std.proofs.lemmas.Bool.{cond-true, leb-true}
use Rattle.chain_lists.specs.declared.Kind.TheVariants.{Head}
use Rattle.chain_lists.specs.Lists.{begun, framed, head_written, lawful_head}
use Rattle.chain_lists.proofs.Growth.{length_head_written}
use Rattle.chain_writer.specs.Writing.{put_at}
use Rattle.chain_writer.proofs.Holdings.{hold_begun, moved}
use Rattle.chain_writer.proofs.Splice.{put_fits, puts_same}
use Rattle.chain_writer.proofs.filling.put_head.Goals as goal

pub returns : goal.returns
returns c =
    let n : ℕ = c.args.n in
    let s : ℕ = c.args.start in
    let out : List ℕ = c.args.out.now in
    let l : lawful_head n s ≡ true = sym c.if-not-is_lawful_head.ensures in
    let k : leb 65 (length out) ≡ true = sym c.if-not-has_room.ensures in
    let room : 65 ≤ length out = leb-true 65 (length out) k in
    let size = length_head_written n s in
    let fits : 0 + length (head_written n s) ≤ length out = omega arith in
    let put = puts_same (ap (framed Head) c.head_body.ensures) c.put_record.ensures in
    let bytes = put.written ∙ put_fits 0 (head_written n s) out fits in (
      cond-true (lawful_head n s) _ _ l ∙ cond-true (leb 65 (length out)) _ _ k,
      bytes,
      record {
        holding = moved _ (put_at 0 (head_written n s) out) _ (0 + length (head_written n s)) 1 (begun n s) bytes (put.place fits) (hold_begun n s out l room);
        labels = refl;
        set = refl;
        no_totals = refl;
      },
    )
