-- What a buffer holds as a file grows in it: what is written, and behind it what stood there before.
use Rattle.std.proofs.Common.{◌≡◌, ℕ, ◌+◌, ◌≤◌, List, ◌++◌, length, take, drop, sym, ap, ◌∙◌, arith}
use Rattle.std.proofs.lemmas.List.{length-append, length-drop, length-take-le}
use Rattle.chain_lists.specs.Lists.{ChainList, begun, head_written, end_written, front_of, file_of}
use Rattle.chain_lists.proofs.Growth.{front_begun}
use Rattle.chain_writer.specs.Writing.{Holding, put_at}
use Rattle.chain_writer.proofs.Splice.{length_put, put_after}

-- a buffer that held `before` holds c without its end, and the rest of what it held
pub record Behind (before out : List ℕ) (c : ChainList) : Type 0 where
  pub held : out ≡ put_at 0 (front_of c) before
  pub long : length out ≡ length before

-- bytes that leave room behind them had room
roomy : (at : ℕ) (ys out : List ℕ) → at ≤ length out → at + length ys + 1 ≤ length (put_at at ys out) → at + length ys ≤ length out
roomy at ys out low h =
    omega
    (arith, h, length-append (take at out) (ys ++ drop (at + length ys) out), length-append ys (drop (at + length ys) out), length-take-le at out low, length-drop (at + length ys) out)

pub behind_begun
    : (n s : ℕ) {before out : List ℕ} {at count : ℕ}
    → out ≡ put_at 0 (head_written n s) before → Holding out at count (begun n s) → Behind before out (begun n s)
behind_begun n s {before} {out} {at} {count} e h =
    let head = front_begun n s in
    let more : 0 + length (head_written n s) + 1 ≤ length (put_at 0 (head_written n s) before) = omega (arith, h.room, h.place, ap length head, ap length e) in
    let room = roomy 0 (head_written n s) before (omega arith) more in
    record {
      held = e ∙ ap (λ (q : List ℕ). put_at 0 q before) (sym head);
      long = ap length e ∙ length_put 0 (head_written n s) before room;
    }

pub behind_more
    : {before out new : List ℕ} {at end count count' : ℕ} {c d : ChainList} (ys : List ℕ)
    → Behind before out c → Holding out at count c → new ≡ put_at at ys out → front_of d ≡ front_of c ++ ys → Holding new end count' d
    → Behind before new d
behind_more {before} {out} {new} {at} {end} {count} {count'} {c} {d} ys b h e grown k =
    let size = length-append (front_of c) ys in
    let more : at + length ys + 1 ≤ length (put_at at ys out) = omega (arith, k.room, k.place, h.place, ap length grown, size, ap length e) in
    let room = roomy at ys out (omega (arith, h.room)) more in
    let fits : 0 + length (front_of c) ≤ length before = omega (arith, h.room, h.place, b.long) in
    let place : at ≡ 0 + length (front_of c) = omega (arith, h.place) in
    record {
      held =
          e
          ∙ ap (λ (k : ℕ). put_at k ys out) place
          ∙ ap (put_at (0 + length (front_of c)) ys) b.held
          ∙ put_after 0 (front_of c) ys before fits
          ∙ ap (λ (q : List ℕ). put_at 0 q before) (sym grown);
      long = ap length e ∙ length_put at ys out room ∙ b.long;
    }

pub behind_ended
    : {before out new : List ℕ} {at count : ℕ} {c : ChainList}
    → Behind before out c → Holding out at count c → new ≡ put_at at (end_written count) out → new ≡ put_at 0 (file_of c) before
behind_ended {before} {out} {new} {at} {count} {c} b h e =
    let fits : 0 + length (front_of c) ≤ length before = omega (arith, h.room, h.place, b.long) in
    let place : at ≡ 0 + length (front_of c) = omega (arith, h.place) in
    e
    ∙ ap (λ (k : ℕ). put_at k (end_written count) out) place
    ∙ ap (put_at (0 + length (front_of c)) (end_written count)) b.held
    ∙ put_after 0 (front_of c) (end_written count) before fits
    ∙ ap (λ (k : ℕ). put_at 0 (front_of c ++ end_written k) before) h.counted
