use Rattle.std.proofs.Common.{rules, arith, ◌≡◌, ◌∙◌, ℕ, ◌-◌, length, take, List, subst, sym}
use borrow.Rule.Slice.PartMut.{put_mid}
use Rattle.std.specs.Io.KnownBytes.{Consumes}
use Rattle.intake.proofs.Pieces.{consumes_on, front}
use Rattle.intake.proofs.take_from.Goals as goal

pub loop-n-preserved-in-Ok : goal.loop-n-preserved-in-Ok
loop-n-preserved-in-Ok g c =
    let l = c.loop-n in
    let same : length c.read.new.buf ≡ length l.buffer - l.n = search rules in
    let whole : length (put_mid l.n (length l.buffer - l.n) l.buffer c.read.new.buf) ≡ length l.buffer = search rules in (
      omega (arith, whole, same, c.in-Ok.ensures.bound.0, l.invariant.0),
      whole ∙ l.invariant.1,
      subst (λ (t : List ℕ). Consumes (g.R.Read.remaining c.args.input.now) (g.R.Read.remaining c.read.new.self) t)
          (sym (front l.n (length l.buffer - l.n) c.in-Ok.came l.buffer c.read.new.buf l.invariant.0 c.in-Ok.ensures.bound.0))
          (consumes_on _ (g.R.Read.remaining l.input) _ (take l.n l.buffer) (take c.in-Ok.came c.read.new.buf) l.invariant.2 c.in-Ok.ensures.bytes.0),
    )
