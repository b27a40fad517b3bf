-- Lists that grow by an exchange or a total: what stays lawful, and the bytes that are added.
use Rattle.std.proofs.Common.{◌≡◌, ℕ, ◌+◌, ◌*◌, ◌^◌, ◌<◌, ◌≤◌, ◌==◌, true, false, cond, not, List, [], ◌∷◌, ◌++◌, length, ℤ, sym, refl, ap, ◌∙◌, arith}
use Rattle.std.specs.List.{flat_map}
use Rattle.std.proofs.lemmas.List.{append_assoc, append-nil, length-append, length_push}
use Rattle.std.proofs.ByRecursion.{All-push}
use Rattle.std.proofs.lemmas.Bool.{and_parts, and_from}
use Rattle.std.proofs.lemmas.Bool.Decides.{nat_tests}
use Rattle.std.proofs.lemmas.Grind.{flat_map-append}
use Rattle.chain_lists.specs.declared.Kind.{Kind}
use Rattle.chain_lists.specs.declared.Swap.{Swap}
use Rattle.chain_lists.specs.declared.Total.{Total}
use Rattle.chain_lists.specs.declared.Total.TheVariants.{Shift, Lamp}
use Rattle.chain_lists.specs.declared.TotalKinds.{TotalKinds}
use Rattle.chain_lists.specs.declared.Kind.TheVariants.{ShiftTotal, LampTotal}
use Rattle.chain_lists.specs.Lists.{ChainList, Marks, is_marked, Lawful, Fitting, little, begun, with_swap, with_total, after, last_set, count_of, lawful_head, lawful_swap, lawful_swaps, total_kind, same_kind, stands, once, head_written, swap_written, total_written, end_written, front_of}

-- ---- how long records are

pub length_head_written : (n s : ℕ) → length (head_written n s) ≡ 15
unfolding little
length_head_written n s = refl

pub length_swap_written : (x : Swap) → length (swap_written x) ≡ 8
unfolding little
length_swap_written x = refl

pub length_end_written : (k : ℕ) → length (end_written k) ≡ 14
unfolding little
length_end_written k = refl

pub length_shift_written : (across along : ℤ) → length (total_written (Shift across along)) ≡ 22
unfolding little
length_shift_written across along = refl

pub length_lamp_written : (word : ℕ) → length (total_written (Lamp word)) ≡ 14
unfolding little
length_lamp_written word = refl

-- ---- the list with no exchange yet

pub lawful_begun : (n s : ℕ) → lawful_head n s ≡ true → Lawful (begun n s)
lawful_begun n s h = record { heads = h; leads = refl; singly = refl; fitting = tt; counted = omega arith }

pub front_begun : (n s : ℕ) → front_of (begun n s) ≡ head_written n s
front_begun n s = append-nil (head_written n s)

-- ---- an exchange more

pub last_set_more : (t : ℕ) (xs : List Swap) (x : Swap) → last_set t (xs ++ x ∷ []) ≡ after (last_set t xs) x
last_set_more t [] x = refl
last_set_more t (y ∷ ys) x = last_set_more (after t y) ys x

lawful_swaps_more
    : (n t : ℕ) (xs : List Swap) (x : Swap)
    → lawful_swaps n t xs ≡ true → lawful_swap n (last_set t xs) x ≡ true → lawful_swaps n t (xs ++ x ∷ []) ≡ true
lawful_swaps_more n t [] x h k = and_from (lawful_swap n t x) true k refl
lawful_swaps_more n t (y ∷ ys) x h k =
    let p = and_parts (lawful_swap n t y) (lawful_swaps n (after t y) ys) h in
    and_from (lawful_swap n t y) (lawful_swaps n (after t y) (ys ++ x ∷ [])) p.0 (lawful_swaps_more n (after t y) ys x p.1 k)

joined_one : {X : Type 0} (f : X → List ℕ) (xs : List X) (x : X) → flat_map f (xs ++ x ∷ []) ≡ flat_map f xs ++ f x
joined_one f xs x = flat_map-append f xs (x ∷ []) ∙ ap (λ (q : List ℕ). flat_map f xs ++ q) (append-nil (f x))

pub count_swap_more : (c : ChainList) (x : Swap) → count_of (with_swap c x) ≡ count_of c + 1
count_swap_more c x = ap (λ (k : ℕ). k + 1) (length_push c.swaps x)

pub lawful_swap_more
    : (c : ChainList) (x : Swap)
    → Lawful c → lawful_swap c.n (last_set c.start c.swaps) x ≡ true → count_of c + 1 < 2 ^ 64 → Lawful (with_swap c x)
lawful_swap_more c x l h few =
    record {
      heads = l.heads;
      leads = lawful_swaps_more c.n c.start c.swaps x l.leads h;
      singly = l.singly;
      fitting = l.fitting;
      counted = omega (arith, count_swap_more c x);
    }

pub front_swap_more
    : (c : ChainList) (x : Swap) → c.totals ≡ [] → front_of (with_swap c x) ≡ front_of c ++ swap_written x
front_swap_more c x none =
    let H : List ℕ = head_written c.n c.start in
    let J : List ℕ = flat_map swap_written c.swaps in
    let no : flat_map total_written c.totals ≡ [] = ap (flat_map total_written) none in
    let a : front_of c ≡ H ++ J = ap (λ (q : List ℕ). H ++ (J ++ q)) no ∙ ap (λ (q : List ℕ). H ++ q) (append-nil J) in
    let b : front_of (with_swap c x) ≡ H ++ (J ++ swap_written x) =
    ap (λ (q : List ℕ). H ++ (flat_map swap_written (c.swaps ++ x ∷ []) ++ q)) no
    ∙ ap (λ (q : List ℕ). H ++ q) (append-nil (flat_map swap_written (c.swaps ++ x ∷ [])))
    ∙ ap (λ (q : List ℕ). H ++ q) (joined_one swap_written c.swaps x) in
    b ∙ sym (append_assoc H J (swap_written x)) ∙ ap (λ (q : List ℕ). q ++ swap_written x) (sym a)

-- ---- a total more

pub stands_more
    : (k : Kind) (ts : List Total) (t : Total)
    → stands k (ts ++ t ∷ []) ≡ cond (same_kind (total_kind t) k) true (stands k ts)
stands_more k [] t = refl
stands_more k (u ∷ us) t = let e = stands_more k us t in grind arith

once_more : (ts : List Total) (t : Total) → once ts ≡ true → stands (total_kind t) ts ≡ false → once (ts ++ t ∷ []) ≡ true
once_more [] t h k = refl
once_more (u ∷ us) t h k =
    let p = and_parts (not (stands (total_kind u) us)) (once us) h in
    let e = stands_more (total_kind u) us t in
    let later : once (us ++ t ∷ []) ≡ true = once_more us t p.1 (grind (arith, nat_tests)) in
    grind (arith, nat_tests)

-- the marks after a total more
pub marks_shift : (marks : TotalKinds) (ts : List Total) (x y : ℤ) → Marks marks ts → Marks (record { shift = true; lamp = marks.lamp }) (ts ++ Shift x y ∷ [])
marks_shift marks ts x y m = record { shift = sym (stands_more ShiftTotal ts (Shift x y)); lamp = m.lamp ∙ sym (stands_more LampTotal ts (Shift x y)) }

pub marks_lamp : (marks : TotalKinds) (ts : List Total) (w : ℕ) → Marks marks ts → Marks (record { shift = marks.shift; lamp = true }) (ts ++ Lamp w ∷ [])
marks_lamp marks ts w m = record { shift = m.shift ∙ sym (stands_more ShiftTotal ts (Lamp w)); lamp = sym (stands_more LampTotal ts (Lamp w)) }

-- where no shift total is marked, the mark of the lamp total says whether there is a total
pub marks_none : (marks : TotalKinds) (ts : List Total) → not marks.shift ≡ true → Marks marks ts → not marks.lamp ≡ (length ts == 0)
marks_none marks [] h m = ap not m.lamp
marks_none marks (Shift x y ∷ ts) h m = let s : marks.shift ≡ true = m.shift in grind (arith, nat_tests)
marks_none marks (Lamp w ∷ ts) h m = let l : marks.lamp ≡ true = m.lamp in grind (arith, nat_tests)

pub is_marked_stands : (marks : TotalKinds) (ts : List Total) (t : Total) → Marks marks ts → is_marked marks t ≡ stands (total_kind t) ts
is_marked_stands marks ts (Shift x y) m = m.shift
is_marked_stands marks ts (Lamp w) m = m.lamp

pub lawful_total_more
    : (c : ChainList) (t : Total)
    → Lawful c → stands (total_kind t) c.totals ≡ false → Fitting t → Lawful (with_total c t)
lawful_total_more c t l h f =
    record {
      heads = l.heads;
      leads = l.leads;
      singly = once_more c.totals t l.singly h;
      fitting = All-push Fitting c.totals t l.fitting f;
      counted = l.counted;
    }

pub front_total_more : (c : ChainList) (t : Total) → front_of (with_total c t) ≡ front_of c ++ total_written t
front_total_more c t =
    let H : List ℕ = head_written c.n c.start in
    let J : List ℕ = flat_map swap_written c.swaps in
    let K : List ℕ = flat_map total_written c.totals in
    ap (λ (q : List ℕ). H ++ (J ++ q)) (joined_one total_written c.totals t)
    ∙ ap (λ (q : List ℕ). H ++ q) (sym (append_assoc J K (total_written t)))
    ∙ sym (append_assoc H (J ++ K) (total_written t))

-- ---- how long the front is

length_swaps : (xs : List Swap) → length (flat_map swap_written xs) ≡ 8 * length xs
length_swaps [] = refl
length_swaps (x ∷ xs) =
    omega (arith, length-append (swap_written x) (flat_map swap_written xs), length_swap_written x, length_swaps xs)

length_front_parts
    : (c : ChainList) → length (front_of c) ≡ 15 + 8 * length c.swaps + length (flat_map total_written c.totals)
length_front_parts c =
    let H : List ℕ = head_written c.n c.start in
    let J : List ℕ = flat_map swap_written c.swaps in
    let K : List ℕ = flat_map total_written c.totals in
    let a = length-append H (J ++ K) in
    let b = length-append J K in
    omega (arith, a, b, length_head_written c.n c.start, length_swaps c.swaps)

pub length_front_le : (c : ChainList) → 15 + 8 * length c.swaps ≤ length (front_of c)
length_front_le c = omega (arith, length_front_parts c)

pub length_front : (c : ChainList) → c.totals ≡ [] → length (front_of c) ≡ 15 + 8 * length c.swaps
length_front c none =
    let no : length (flat_map total_written c.totals) ≡ 0 = ap (λ (ts : List Total). length (flat_map total_written ts)) none in
    omega (arith, length_front_parts c, no)
