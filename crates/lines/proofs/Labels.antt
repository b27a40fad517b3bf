-- The text of a set's labels, and how many there are.
use Rattle.std.proofs.Common.{◌≡◌, ℕ, zero, suc, ◌≤◌, Bool, true, false, cond, List, [], ◌∷◌, ◌++◌, length, sym, refl, ap, ◌∙◌, length-append, arith}
use Rattle.std.specs.List.{flat_map}
use Rattle.labels.specs.Sets.{has}
use Rattle.labels.specs.Listed.{labels_in}
use Rattle.labels.proofs.Upwards.{flat_labels}
use Rattle.lines.specs.Text.{label_text, labels_text}

pub text_of_list : (s n : ℕ) → labels_text s n ≡ flat_map label_text (labels_in s n)
unfolding labels_text labels_in
text_of_list s zero = refl
text_of_list s (suc n) =
    ap (λ (l : List ℕ). l ++ cond (has s (suc n)) (label_text (suc n)) []) (text_of_list s n) ∙ sym (flat_labels label_text s n)

pub labels_few : (s n : ℕ) → length (labels_in s n) ≤ n
unfolding labels_in
labels_few s zero = omega arith
labels_few s (suc n) = go (has s (suc n)) (labels_few s n)
  where
    go : (b : Bool) → length (labels_in s n) ≤ n → length (cond b (labels_in s n ++ suc n ∷ []) (labels_in s n)) ≤ suc n
    go true h = omega (arith, length-append (labels_in s n) (suc n ∷ []))
    go false h = omega arith
