-- What a buffer holds after each record that is put into it.
use Rattle.std.proofs.Common.{◌≡◌, ℕ, ◌+◌, ◌%◌, ◌^◌, ◌<◌, ◌≤◌, true, false, List, [], ◌∷◌, ◌++◌, length, take, sym, refl, ap, ◌∙◌, arith}
use Rattle.std.proofs.lemmas.List.{length-append}
use Rattle.chain_lists.specs.declared.Kind.TheVariants.{ShiftTotal, LampTotal}
use Rattle.chain_lists.specs.declared.Swap.{Swap}
use Rattle.chain_lists.specs.declared.Total.{Total}
use Rattle.chain_lists.specs.declared.Total.TheVariants.{Shift, Lamp}
use Rattle.chain_lists.specs.Lists.{ChainList, Fitting, Holds, begun, with_swap, with_total, last_set, count_of, lawful_head, lawful_swap, total_kind, stands, head_written, swap_written, total_written, end_written, front_of}
use Rattle.chain_lists.proofs.Growth.{lawful_begun, front_begun, lawful_swap_more, front_swap_more, count_swap_more, lawful_total_more, front_total_more, stands_more, length_front_le, length_head_written, length_swap_written, length_end_written, length_shift_written, length_lamp_written}
use Rattle.chain_writer.specs.Writing.{Holding, Puts, put_at, held_back}
use Rattle.chain_writer.proofs.Splice.{length_put, put_fits, take_put}

-- the same buffer, place and count under other names
pub moved
    : (out out' : List ℕ) (at at' count : ℕ) (c : ChainList)
    → out ≡ out' → at ≡ at' → Holding out' at' count c → Holding out at count c
moved out out' at at' count c e f h =
    record {
      lawful = h.lawful;
      place = f ∙ h.place;
      front = ap (λ (k : ℕ). take k out) f ∙ ap (take at') e ∙ h.front;
      counted = h.counted;
      room = omega (arith, h.room, ap length e);
    }

-- what is put in at the end of the front of c makes it the front of d
module _ (out : List ℕ) (at count : ℕ) (c : ChainList) (h : Holding out at count c) (ys : List ℕ) (room : at + length ys ≤ length out) (d : ChainList) (more : front_of d ≡ front_of c ++ ys) where
  placed : at + length ys ≡ length (front_of d)
  placed = omega (arith, h.place, ap length more, length-append (front_of c) ys)

  fronted : take (at + length ys) (put_at at ys out) ≡ front_of d
  fronted = take_put at ys out room ∙ ap (λ (q : List ℕ). q ++ ys) h.front ∙ sym more

-- ---- the head and the exchanges

pub hold_begun
    : (n s : ℕ) (out : List ℕ)
    → lawful_head n s ≡ true → 65 ≤ length out
    → Holding (put_at 0 (head_written n s) out) (0 + length (head_written n s)) 1 (begun n s)
hold_begun n s out l room =
    let size = length_head_written n s in
    let fits : 0 + length (head_written n s) ≤ length out = omega arith in
    record {
      lawful = lawful_begun n s l;
      place = omega (arith, ap length (front_begun n s));
      front = take_put 0 (head_written n s) out fits ∙ sym (front_begun n s);
      counted = refl;
      room = omega (arith, length_put 0 (head_written n s) out fits);
    }

pub hold_swap
    : (out : List ℕ) (at count : ℕ) (c : ChainList) (x : Swap)
    → Holding out at count c → c.totals ≡ []
    → lawful_swap c.n (last_set c.start c.swaps) x ≡ true
    → at + 58 ≤ length out → length out < 2 ^ 64
    → Holding (put_at at (swap_written x) out) (at + length (swap_written x)) ((count + 1) % 2 ^ 64) (with_swap c x)
hold_swap out at count c x h none l room few =
    let size = length_swap_written x in
    let fits : at + length (swap_written x) ≤ length out = omega arith in
    let more = front_swap_more c x none in
    let counted = count_swap_more c x in
    let long = length_front_le c in
    let small : count_of c + 1 < 2 ^ 64 = omega (arith, h.place) in
    let back : held_back c.totals ≡ 50 = ap held_back none in
    record {
      lawful = lawful_swap_more c x h.lawful l small;
      place = placed out at count c h (swap_written x) fits (with_swap c x) more;
      front = fronted out at count c h (swap_written x) fits (with_swap c x) more;
      counted = omega (arith, h.counted);
      room = omega (arith, length_put at (swap_written x) out fits, back);
    }

-- ---- totals

-- the total that is added leaves room for the others
BackMore
    : (ts : List Total) (t : Total)
    → stands (total_kind t) ts ≡ false → held_back ts ≡ length (total_written t) + held_back (ts ++ t ∷ [])
BackMore ts (Shift across along) h =
    let s = stands_more ShiftTotal ts (Shift across along) in
    let l = stands_more LampTotal ts (Shift across along) in
    rw (h, s, l, length_shift_written across along) (omega arith)
BackMore ts (Lamp word) h =
    let s = stands_more ShiftTotal ts (Lamp word) in
    let l = stands_more LampTotal ts (Lamp word) in
    rw (h, s, l, length_lamp_written word) (omega arith)

pub room_total
    : (out : List ℕ) (at count : ℕ) (c : ChainList) (t : Total)
    → Holding out at count c → stands (total_kind t) c.totals ≡ false → at + length (total_written t) ≤ length out
room_total out at count c t h new = omega (arith, h.room, BackMore c.totals t new)

pub hold_total
    : (out : List ℕ) (at count : ℕ) (c : ChainList) (t : Total)
    → Holding out at count c → stands (total_kind t) c.totals ≡ false → Fitting t
    → Holding (put_at at (total_written t) out) (at + length (total_written t)) count (with_total c t)
hold_total out at count c t h new f =
    let fits = room_total out at count c t h new in
    let more = front_total_more c t in
    record {
      lawful = lawful_total_more c t h.lawful new f;
      place = placed out at count c h (total_written t) fits (with_total c t) more;
      front = fronted out at count c h (total_written t) fits (with_total c t) more;
      counted = h.counted;
      room = omega (arith, h.room, length_put at (total_written t) out fits, BackMore c.totals t new);
    }

-- the total that a call puts in
pub totalled
    : {out new : List ℕ} {at end count : ℕ} {c : ChainList} (t : Total)
    → Holding out at count c → stands (total_kind t) c.totals ≡ false → Fitting t
    → Puts at (total_written t) out new end
    → Holding new end count (with_total c t) × (new ≡ put_at at (total_written t) out)
totalled {out} {new} {at} {end} {count} {c} t h fresh f p =
    let room = room_total out at count c t h fresh in
    let bytes = p.written ∙ put_fits at (total_written t) out room in
    (moved _ _ _ _ count (with_total c t) bytes (p.place room) (hold_total out at count c t h fresh f), bytes)

-- ---- the end

pub room_end
    : (out : List ℕ) (at count : ℕ) (c : ChainList)
    → Holding out at count c → at + length (end_written count) ≤ length out
room_end out at count c h = omega (arith, h.room, length_end_written count)

pub holds_ended
    : (out : List ℕ) (at count : ℕ) (c : ChainList)
    → Holding out at count c → Holds (take (at + length (end_written count)) (put_at at (end_written count) out)) c
holds_ended out at count c h =
    record {
      lawful = h.lawful;
      written =
          take_put at (end_written count) out (room_end out at count c h)
          ∙ ap (λ (q : List ℕ). q ++ end_written count) h.front
          ∙ ap (λ (k : ℕ). front_of c ++ end_written k) h.counted;
    }

-- what a call that puts the end in leaves
pub ended
    : {out new : List ℕ} {at end count : ℕ} {c : ChainList}
    → Holding out at count c → Puts at (end_written count) out new end
    → Holds (take end new) c
    × (end ≤ length new)
    × (end ≡ at + length (end_written count))
    × (new ≡ put_at at (end_written count) out)
ended {out} {new} {at} {end} {count} {c} h p =
    let room = room_end out at count c h in
    let place = p.place room in
    let bytes = p.written ∙ put_fits at (end_written count) out room in
    let fits : end ≤ length new = omega (arith, place, ap length bytes, length_put at (end_written count) out room, room) in
    (rw (place, bytes) (holds_ended out at count c h), fits, place, bytes)
