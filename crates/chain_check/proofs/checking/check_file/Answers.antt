use Rattle.std.proofs.Common.{rules, ◌≡◌, ℕ, ◌≤◌, List, length, take, refl, subst, arith}
use Rattle.std.specs.Io.KnownBytes.{Appends}
use Rattle.intake.specs.Taking.{Taken}
use Rattle.outlet.specs.Sending.{Broken}
use Rattle.chain_check.specs.declared.answering.Answer.{Answer}
use Rattle.chain_check.proofs.Verdicts.{answered}
use Rattle.chain_check.proofs.checking.check_file.Goals as goal

pub returns-in-Ok-send : goal.returns-in-Ok-send
returns-in-Ok-send g c =
    let i = g.R.Read.remaining c.args.input.now in
    let j = g.R.Read.remaining c.take_from.new.input in
    let o = g.W.Write.contents c.args.out.now in
    let p = g.W.Write.contents c.send.new.out in
    let buffer = c.take_from.new.buffer in
    let t : (c.in_ok-n.n ≤ length buffer) × Taken i j (length buffer) (take c.in_ok-n.n buffer) = search rules in
    answered c.in_ok-n.n buffer (λ (a : Answer) (text : List ℕ). (c.in-Ok.answer ≡ a) × Appends o p text) t c.take_from.ensures.room (omega arith) c.in-Ok.ensures
    (refl, subst (λ (text : List ℕ). Appends o p text) c.as_bytes.ensures.value c.in-Ok-send.ensures.sends)

pub returns : goal.returns
returns g c =
    let i = g.R.Read.remaining c.args.input.now in
    let j = g.R.Read.remaining c.take_from.new.input in
    let o = g.W.Write.contents c.args.out.now in
    let p = g.W.Write.contents c.send.new.out in
    let buffer = c.take_from.new.buffer in
    let t : (c.in_ok-n.n ≤ length buffer) × Taken i j (length buffer) (take c.in_ok-n.n buffer) = search rules in
    answered c.in_ok-n.n buffer (λ (a : Answer) (text : List ℕ). Broken o p text) t c.take_from.ensures.room (omega arith) c.in-Ok.ensures
    (subst (λ (text : List ℕ). Broken o p text) c.as_bytes.ensures.value c.in-Err.ensures.sends)
