use Rattle.std.proofs.Common.{◌+◌, ◌<◌, ◌≤◌, length, sym, ap, ◌∙◌, arith}
use Rattle.std.proofs.lemmas.Bool.Decides.{nat_tests}
use Rattle.chain_lists.specs.Lists.{framed, little}
use Rattle.chain_lists.proofs.Bytes.{length_framed, little_2, little_4}
use Rattle.chain_writer.proofs.Splice.{put_not, puts_framed}
use Rattle.chain_writer.proofs.putting.put_record.Goals as goal
use Rattle.chain_writer.proofs.putting.put_record.Goals.{then-body-out-via-then-body-out, then-body-out-via-else-body-out+then-not-has_room}

pub returns-then-body-out : goal.returns-then-body-out
returns-then-body-out c = record { place = λ h. absurd (omega (arith, h, full)); written = sym (put_not c.args.at (framed c.args.kind c.args.body.now) c.args.out.now full) }
  where
    full : length c.args.out.now < c.args.at + length (framed c.args.kind c.args.body.now)
    full =
        let k = length_framed c.args.kind c.args.body.now in
        elim c.then-body-out.branch [
          | then-body-out-via-then-body-out w ↦ omega (arith, w.if-body-out.true)
          | then-body-out-via-else-body-out+then-not-has_room w ↦ let t = w.if-not-has_room.true in let e = w.has_room.ensures in grind (arith, nat_tests)
        ]

pub returns : goal.returns
returns c =
    let room : c.args.at + (6 + length c.args.body.now) ≤ length c.args.out.now = let t = c.if-not-has_room.ensures in grind (arith, nat_tests) in
    puts_framed c.args.kind c.args.at c.args.body.now
    (c.to_le_bytes.ensures ∙ sym (little_4 c.length.result) ∙ ap (little 4) c.length.ensures)
    (c.to_le_bytes-2.ensures ∙ sym (little_2 c.number.result) ∙ ap (little 2) c.number.ensures)
    (omega (arith, room, length_framed c.args.kind c.args.body.now))
    c.put-kind_at.ensures.place c.put-kind_at.ensures.written c.put-body_at.ensures.place c.put-body_at.ensures.written c.put.ensures.place c.put.ensures.written
