-- What is written after a lawful beginning is read as it was meant.
use Rattle.std.proofs.Common.{◌≡◌, ℕ, ◌^◌, ◌<◌, ◌≤◌, true, false, not, List, [], ◌∷◌, ◌++◌, ℤ, refl, ap, ◌∙◌, arith, pow_mono, w64, SFits, to_z, of_z}
use Rattle.std.specs.List.{flat_map, AllByRecursion}
use Rattle.std.proofs.lemmas.Bool.{eq-eqb, cond-true, and_parts, not-true}
use Rattle.std.proofs.lemmas.Bool.Decides.{nat_tests}
use Rattle.std.proofs.lemmas.List.{append-nil, append_assoc, length-append, take_at, drop_at}
use Rattle.std.proofs.lemmas.Int.{to_z-of_z}
use Rattle.std.proofs.Math.Facts.{Fits-of_z}
use Rattle.chain_lists.specs.declared.Kind.{Kind}
use Rattle.chain_lists.specs.declared.Kind.TheVariants.{Head, Exchange, End, ShiftTotal, LampTotal}
use Rattle.chain_lists.specs.declared.Swap.{Swap}
use Rattle.chain_lists.specs.declared.Total.{Total}
use Rattle.chain_lists.specs.declared.Total.TheVariants.{Shift, Lamp}
use Rattle.chain_lists.specs.Lists.{ChainList, Lawful, Fitting, begun, with_swap, with_total, count_of, last_set, lawful_head, lawful_swap, lawful_swaps, total_kind, stands, once, same_kind, head_written, swap_written, total_written, end_written, front_of, little}
use Rattle.chain_lists.specs.Faults.{Beginning, nothing, so_far, ended, LawfulBeginning, bytes_of, number_in}
use Rattle.chain_lists.proofs.Bytes.{length_little, word_little}
use Rattle.chain_lists.proofs.Lawful.{head_tells}
use Rattle.chain_lists.proofs.Growth.{last_set_more}
use Rattle.chain_laws.proofs.Scan.{Verdict, Scan, step}

-- ---- one record

-- a signed number is written by its 64 bits
signed_little : (z : ℤ) → SFits w64 z → to_z w64 (number_in (little 8 (of_z w64 z))) ≡ z
signed_little z f = ap (to_z w64) (word_little (of_z w64 z) (Fits-of_z f).fits) ∙ to_z-of_z w64 z f

module _ {v : Verdict} (more : List ℕ) where
  read_head : (n s : ℕ) → lawful_head n s ≡ true → Scan (so_far (begun n s)) more v → Scan nothing (head_written n s ++ more) v
  read_head n s h r =
      let t = head_tells n s h in
      let p : 2 ^ n ≤ 2 ^ 48 = pow_mono t.0 in
      let w : number_in (little 8 s) ≡ s = word_little s (omega (arith, t)) in
      step Head (n ∷ little 8 s) more (omega (arith, length_little 8 s)) nothing refl (cond-true _ _ _ (ap (lawful_head n) w ∙ h)) (rw w r)

  read_swap : (c : ChainList) (x : Swap) → c.totals ≡ [] → lawful_swap c.n (last_set c.start c.swaps) x ≡ true
      → Scan (so_far (with_swap c x)) more v → Scan (so_far c) (swap_written x ++ more) v
  read_swap c x e h r = step Exchange (x.high ∷ x.low ∷ []) more refl (so_far c) (rw e refl) (cond-true _ _ _ h) r

  read_total : (c : ChainList) (t : Total) → stands (total_kind t) c.totals ≡ false → Fitting t → Scan (so_far (with_total c t)) more v → Scan (so_far c) (total_written t ++ more) v
  read_total c (Shift x y) h f r =
      let a = little 8 (of_z w64 x) in
      let b = little 8 (of_z w64 y) in
      let l = length_little 8 (of_z w64 x) in
      let m = length_little 8 (of_z w64 y) in
      step ShiftTotal (a ++ b) more (omega (arith, length-append a b)) (so_far c) (ap not h) refl
      (rw (take_at a b 8 l, drop_at a b 8 l, signed_little x f.0, signed_little y f.1) r)
  read_total c (Lamp w) h f r =
      step LampTotal (little 8 w) more (omega (arith, length_little 8 w)) (so_far c) (ap not h) refl (rw (word_little w f) r)

  read_end : (c : ChainList) → count_of c < 2 ^ 64 → Scan (ended c) more v → Scan (so_far c) (end_written (count_of c) ++ more) v
  read_end c h r =
      step End (little 8 (count_of c)) more (omega (arith, length_little 8 (count_of c))) (so_far c) refl
      (cond-true _ _ _ (eq-eqb _ _ (word_little (count_of c) h))) r

-- ---- a whole beginning

-- exchanges one after the other; those before them are xs
module _ {v : Verdict} (n s : ℕ) (more : List ℕ) where
  read_swaps : (xs ys : List Swap) → lawful_swaps n (last_set s xs) ys ≡ true → Scan (so_far (record { n = n; start = s; swaps = xs ++ ys; totals = [] })) more v
      → Scan (so_far (record { n = n; start = s; swaps = xs; totals = [] })) (flat_map swap_written ys ++ more) v
  read_swaps xs [] h r = rw (append-nil xs) at r
  read_swaps xs (y ∷ ys) h r =
      let p = and_parts (lawful_swap n (last_set s xs) y) _ h in
      let k = read_swaps (xs ++ y ∷ []) ys (rw (last_set_more s xs y) p.1) (rw (append_assoc xs (y ∷ []) ys) r) in
      rw (append_assoc (swap_written y) (flat_map swap_written ys) more)
      (read_swap (flat_map swap_written ys ++ more) (record { n = n; start = s; swaps = xs; totals = [] }) y refl p.0 k)

-- a total that comes after others is of none of their kinds
stands_later : (k : Kind) (ts : List Total) (u : Total) (us : List Total) → stands k (ts ++ u ∷ us) ≡ false → same_kind (total_kind u) k ≡ false
stands_later k [] u us h = grind (arith, nat_tests)
stands_later k (t ∷ ts) u us h = let e : stands k (ts ++ u ∷ us) ≡ false = grind (arith, nat_tests) in stands_later k ts u us e

stands_earlier : (ts : List Total) (u : Total) (us : List Total) → once (ts ++ u ∷ us) ≡ true → stands (total_kind u) ts ≡ false
stands_earlier [] u us h = refl
stands_earlier (t ∷ ts) u us h =
    let p = and_parts (not (stands (total_kind t) (ts ++ u ∷ us))) _ h in
    let e = stands_later (total_kind t) ts u us (not-true _ p.0) in
    let i = stands_earlier ts u us p.1 in
    grind (arith, nat_tests)

-- totals one after the other; those before them are ts
module _ {v : Verdict} (n s : ℕ) (xs : List Swap) (more : List ℕ) where
  read_totals : (ts us : List Total) → once (ts ++ us) ≡ true → AllByRecursion Fitting us → Scan (so_far (record { n = n; start = s; swaps = xs; totals = ts ++ us })) more v
      → Scan (so_far (record { n = n; start = s; swaps = xs; totals = ts })) (flat_map total_written us ++ more) v
  read_totals ts [] h f r = rw (append-nil ts) at r
  read_totals ts (u ∷ us) h f r =
      let e = append_assoc ts (u ∷ []) us in
      let k = read_totals (ts ++ u ∷ []) us (rw e h) f.1 (rw e r) in
      rw (append_assoc (total_written u) (flat_map total_written us) more)
      (read_total (flat_map total_written us ++ more) (record { n = n; start = s; swaps = xs; totals = ts }) u (stands_earlier ts u us h) f.0 k)

read_front : {v : Verdict} (more : List ℕ) (c : ChainList) → Lawful c → Scan (so_far c) more v → Scan nothing (front_of c ++ more) v
read_front more c L r =
    let a = head_written c.n c.start in
    let b = flat_map swap_written c.swaps in
    let d = flat_map total_written c.totals in
    let t = read_totals c.n c.start c.swaps more [] c.totals L.singly L.fitting r in
    let x = read_swaps c.n c.start (d ++ more) [] c.swaps L.leads t in
    rw (append_assoc a (b ++ d) more, append_assoc b d more) (read_head (b ++ (d ++ more)) c.n c.start L.heads x)

-- what is read after a lawful beginning is read after its bytes
pub read_beginning : {v : Verdict} (more : List ℕ) (b : Beginning) → LawfulBeginning b → Scan b more v → Scan nothing (bytes_of b ++ more) v
read_beginning more nothing L r = r
read_beginning more (so_far c) L r = read_front more c L r
read_beginning more (ended c) L r =
    let e = end_written (count_of c) in
    rw (append_assoc (front_of c) e more) (read_front (e ++ more) c L (read_end more c L.counted r))
