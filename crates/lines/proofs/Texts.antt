-- Texts put into a buffer after its front: that of a label, from a table of padded rows, and that of a count.
use Rattle.std.proofs.Common.{◌≡◌, ℕ, zero, suc, ◌+◌, ◌-◌, ◌<◌, ◌≤◌, List, [], ◌++◌, take, drop, length, slice_index_or, codes, sym, refl, ap, ap₂, ◌∙◌, arith, append_assoc, length-append, take-take}
use Rattle.std.proofs.lemmas.List.{length-take-le, take_at, take-append-drop}
use borrow.Rule.Slice.PartMut.{put_mid, post_of}
use Rattle.lines.specs.declared.label_text.TheConstants.{LABEL_ROOM}
use Rattle.lines.specs.Text.{label_text, padded, padded_from}

-- a text that follows the first n bytes
after_front : (n w : ℕ) (new front text rest : List ℕ) → new ≡ front ++ (text ++ rest) → length front ≡ n → length text ≡ w → take (n + w) new ≡ front ++ text
after_front n w new front text rest q h k =
    ap (take (n + w)) (q ∙ sym (append_assoc front text rest)) ∙ take_at (front ++ text) rest (n + w) (omega (arith, length-append front text))

-- a row of the table, whose front of w bytes is the text
pub put_row : (n k w : ℕ) (old row text : List ℕ) → take w row ≡ text → length text ≡ w → n ≤ length old → take (n + w) (put_mid n k old row) ≡ take n old ++ text
put_row n k w old row text q h l =
    let split : row ≡ text ++ drop w row = sym (take-append-drop w row) ∙ ap (λ (t : List ℕ). t ++ drop w row) q in
    after_front n w (put_mid n k old row) (take n old) text (drop w row ++ post_of n k old)
    (ap (λ (r : List ℕ). take n old ++ (r ++ post_of n k old)) split ∙ ap (λ (r : List ℕ). take n old ++ r) (append_assoc text (drop w row) (post_of n k old)))
    (length-take-le n old l) h

-- digits that end at a place, and start where the front does
pub put_digits : (n end start : ℕ) (old new text : List ℕ) → start + length text ≡ end → end ≡ n + length text → end ≤ length old
    → drop start new ≡ text ++ drop end old → take start new ≡ take start old → take end new ≡ take n old ++ text
put_digits n end start old new text s e l written before =
    let here : start ≡ n = omega arith in
    ap (λ (m : ℕ). take m new) (sym s)
    ∙ after_front start (length text) new (take start old) text (drop end old) (sym (take-append-drop start new) ∙ ap₂ (λ (a b : List ℕ). a ++ b) before written)
    (length-take-le start old (omega arith)) refl
    ∙ ap (λ (m : ℕ). take m old ++ text) here

-- each row of the table is that of its label
row_at : (n first i : ℕ) (table : List (List ℕ)) → table ≡ padded_from first n → i < n → slice_index_or table i [] ≡ padded (first + i)
row_at zero first i table q l = absurd (omega (arith, l))
row_at (suc n) first zero table q l =
    let here : first ≡ first + 0 = omega arith in
    ap (λ (rows : List (List ℕ)). slice_index_or rows 0 []) q ∙ ap padded here
row_at (suc n) first (suc i) table q l =
    let there : suc first + i ≡ first + suc i = omega arith in
    ap (λ (rows : List (List ℕ)). slice_index_or rows (suc i) []) q ∙ row_at n (suc first) i (padded_from (suc first) n) refl (omega (arith, l)) ∙ ap padded there

-- the front of a label's row is its text
pub row_text : (w e : ℕ) (table : List (List ℕ)) → table ≡ padded_from 1 64 → 1 ≤ e → e ≤ 64 → length (label_text e) ≡ w → w ≤ LABEL_ROOM → take w (slice_index_or table (e - 1) []) ≡ label_text e
row_text w e table q l h k s =
    let at : 1 + (e - 1) ≡ e = omega arith in
    ap (take w) (row_at 64 1 (e - 1) table q (omega arith) ∙ ap padded at)
    ∙ take-take w LABEL_ROOM (label_text e ++ codes "  ") s ∙ take_at (label_text e) (codes "  ") w k
