-- A record more: its line comes behind the lines of those before it.
use Rattle.std.proofs.Common.{◌≡◌, ℕ, ◌+◌, List, [], ◌∷◌, ◌++◌, length, get_or, map, refl, ap, ap₂, sym, ◌∙◌, arith, append_assoc, append-nil}
use Rattle.std.specs.List.{flat_map}
use Rattle.std.proofs.lemmas.List.{append_cancel_left, length-append, map-append}
use Rattle.std.proofs.lemmas.Grind.{flat_map-append}
use Rattle.chain_lists.specs.declared.Spot.{Spot}
use Rattle.chain_lists.specs.declared.Swap.{Swap}
use Rattle.chain_lists.specs.declared.Total.{Total as ListTotal}
use Rattle.chain_lists.specs.declared.Total.TheVariants.{Shift, Lamp}
use Rattle.chain_lists.specs.Faults.{Beginning, nothing, so_far, ended, bytes_of}
use Rattle.chain_lists.specs.Lists.{ChainList, after, count_of, end_written, front_of, head_written, last_set, little, swap_written, total_written, with_swap}
use Rattle.chain_reader.specs.declared.values.Entry.{Entry}
use Rattle.chain_reader.specs.declared.values.Entry.TheVariants.{Head, Exchange, Total, End}
use Rattle.chain_reader.specs.Reading.{Told, end_of, entry_written, extended}
use Rattle.chain_check.specs.Lines.{entries_in, entries_of, exchanges_from, line_text, lines_from, lines_of}

-- ---- the records of a beginning are its bytes

exchanges_bytes : (t : ℕ) (xs : List Swap) → flat_map entry_written (exchanges_from t xs) ≡ flat_map swap_written xs
exchanges_bytes t [] = refl
exchanges_bytes t (x ∷ xs) = ap (λ (q : List ℕ). swap_written x ++ q) (exchanges_bytes (after t x) xs)

totals_bytes : (ts : List ListTotal) → flat_map entry_written (map Total ts) ≡ flat_map total_written ts
totals_bytes [] = refl
totals_bytes (t ∷ ts) = ap (λ (q : List ℕ). total_written t ++ q) (totals_bytes ts)

front_bytes : (c : ChainList) → flat_map entry_written (entries_of c) ≡ front_of c
front_bytes c =
    ap (λ (q : List ℕ). head_written c.n c.start ++ q)
    (flat_map-append entry_written (exchanges_from c.start c.swaps) (map Total c.totals)
    ∙ ap₂ (λ (p q : List ℕ). p ++ q) (exchanges_bytes c.start c.swaps) (totals_bytes c.totals))

entries_bytes : (b : Beginning) → flat_map entry_written (entries_in b) ≡ bytes_of b
entries_bytes nothing = refl
entries_bytes (so_far c) = front_bytes c
entries_bytes (ended c) =
    flat_map-append entry_written (entries_of c) (End (count_of c) ∷ [])
    ∙ ap₂ (λ (p q : List ℕ). p ++ q) (front_bytes c) (append-nil (end_written (count_of c)))

-- ---- the records of a beginning with one more

exchanges_more : (t : ℕ) (xs : List Swap) (x : Swap) → exchanges_from t (xs ++ x ∷ []) ≡ exchanges_from t xs ++ Exchange x (after (last_set t xs) x) ∷ []
exchanges_more t [] x = refl
exchanges_more t (y ∷ ys) x = ap (λ (q : List Entry). Exchange y (after t y) ∷ q) (exchanges_more (after t y) ys x)

-- an exchange stands before all totals
first_differs : (x : Swap) (ts : List ListTotal) → swap_written x ++ flat_map total_written ts ≡ flat_map total_written ts ++ swap_written x → ts ≡ []
unfolding little
first_differs x [] e = refl
first_differs x (Shift a b ∷ ts) e = let n : ◌≡◌ {A = ℕ} 4 18 = ap (λ (q : List ℕ). get_or q 0 0) e in absurd (omega arith)
first_differs x (Lamp w ∷ ts) e = let n : ◌≡◌ {A = ℕ} 4 10 = ap (λ (q : List ℕ). get_or q 0 0) e in absurd (omega arith)

no_totals : (c : ChainList) (x : Swap) → front_of (with_swap c x) ≡ front_of c ++ swap_written x → c.totals ≡ []
no_totals c x e =
    let H : List ℕ = head_written c.n c.start in
    let J : List ℕ = flat_map swap_written c.swaps in
    let K : List ℕ = flat_map total_written c.totals in
    let S : List ℕ = swap_written x in
    let more : flat_map swap_written (c.swaps ++ x ∷ []) ≡ J ++ S =
    flat_map-append swap_written c.swaps (x ∷ []) ∙ ap (λ (q : List ℕ). J ++ q) (append-nil S) in
    let left : front_of (with_swap c x) ≡ H ++ (J ++ (S ++ K)) =
    ap (λ (q : List ℕ). H ++ (q ++ K)) more ∙ ap (λ (q : List ℕ). H ++ q) (append_assoc J S K) in
    let right : front_of c ++ S ≡ H ++ (J ++ (K ++ S)) =
    append_assoc H (J ++ K) S ∙ ap (λ (q : List ℕ). H ++ q) (append_assoc J K S) in
    first_differs x c.totals (append_cancel_left J _ _ (append_cancel_left H _ _ (sym left ∙ e ∙ right)))

entries_more : (b : Beginning) (e : Entry) → Told b e → bytes_of (extended b e) ≡ bytes_of b ++ entry_written e → entries_in (extended b e) ≡ entries_in b ++ e ∷ []
entries_more nothing (Head n start) told grown = refl
entries_more nothing (Exchange x t) told grown = absurd told
entries_more nothing (Total t) told grown = absurd told
entries_more nothing (End k) told grown = absurd told
entries_more (so_far c) (Head n start) told grown = absurd told
entries_more (so_far c) (Exchange x t) told grown =
    let X : List Entry = exchanges_from c.start c.swaps in
    let none = no_totals c x grown in
    ap (λ (ts : List ListTotal). Head c.n c.start ∷ (exchanges_from c.start (c.swaps ++ x ∷ []) ++ map Total ts)) none
    ∙ ap (λ (q : List Entry). Head c.n c.start ∷ q) (append-nil _ ∙ exchanges_more c.start c.swaps x)
    ∙ ap (λ (s : ℕ). Head c.n c.start ∷ (X ++ Exchange x s ∷ [])) (sym told)
    ∙ ap (λ (q : List Entry). Head c.n c.start ∷ (q ++ Exchange x t ∷ [])) (sym (append-nil X))
    ∙ ap (λ (ts : List ListTotal). entries_of (record { n = c.n; start = c.start; swaps = c.swaps; totals = ts }) ++ Exchange x t ∷ []) (sym none)
entries_more (so_far c) (Total t) told grown =
    let X : List Entry = exchanges_from c.start c.swaps in
    ap (λ (q : List Entry). Head c.n c.start ∷ (X ++ q)) (map-append Total c.totals (t ∷ []))
    ∙ ap (λ (q : List Entry). Head c.n c.start ∷ q) (sym (append_assoc X (map Total c.totals) (Total t ∷ [])))
entries_more (so_far c) (End k) told grown = ap (λ (n : ℕ). entries_of c ++ End n ∷ []) (sym told)
entries_more (ended c) e told grown = absurd told

-- ---- lines

line_more : (n : ℕ) (xs : List Entry) (e : Entry)
    → lines_from n (xs ++ e ∷ []) ≡ lines_from n xs ++ line_text (n + length (flat_map entry_written xs)) (length (entry_written e)) e
line_more n [] e = append-nil _ ∙ ap (λ (k : ℕ). line_text k (length (entry_written e)) e) (omega arith)
line_more n (x ∷ xs) e =
    let size = length (entry_written x) in
    let L : List ℕ = line_text n size x in
    let at : n + size + length (flat_map entry_written xs) ≡ n + length (entry_written x ++ flat_map entry_written xs) =
    omega (arith, length-append (entry_written x) (flat_map entry_written xs)) in
    ap (λ (q : List ℕ). L ++ q) (line_more (n + size) xs e)
    ∙ sym (append_assoc L (lines_from (n + size) xs) (line_text (n + size + length (flat_map entry_written xs)) (length (entry_written e)) e))
    ∙ ap (λ (k : ℕ). (L ++ lines_from (n + size) xs) ++ line_text k (length (entry_written e)) e) at

-- the text goes on by the line of the next record
pub goes_on
    : (b : Beginning) (e : Entry) (bytes : List ℕ) (spot : Spot) (old new : List ℕ)
    → Told b e → bytes ≡ entry_written e → bytes_of (extended b e) ≡ bytes_of b ++ bytes → spot ≡ end_of b
    → old ≡ lines_of b → new ≡ old ++ line_text spot.byte (length bytes) e → new ≡ lines_of (extended b e)
goes_on b e bytes spot old new told written grown place is_old is_new =
    let grows : bytes_of (extended b e) ≡ bytes_of b ++ entry_written e = grown ∙ ap (λ (q : List ℕ). bytes_of b ++ q) written in
    let at : spot.byte ≡ 0 + length (flat_map entry_written (entries_in b)) =
    ap (λ (s : Spot). s.byte) place ∙ ap (λ (q : List ℕ). length q) (sym (entries_bytes b)) ∙ omega arith in
    is_new
    ∙ ap₂ (λ (q : List ℕ) (k : ℕ). q ++ line_text k (length bytes) e) is_old at
    ∙ ap (λ (q : List ℕ). lines_of b ++ line_text (0 + length (flat_map entry_written (entries_in b))) (length q) e) written
    ∙ sym (line_more 0 (entries_in b) e)
    ∙ ap (λ (es : List Entry). lines_from 0 es) (sym (entries_more b e told grows))
