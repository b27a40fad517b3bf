-- How many of the numbers below a bound pass a test, whichever way they are gone through.
use Rattle.std.proofs.Common.{◌≡◌, ℕ, zero, suc, ◌+◌, Bool, true, false, cond, List, ◌∷◌, length, map, filter, count_by, refl, sym, ap, ◌∙◌, arith}
use Rattle.std.specs.List.{range_with_len}
use Rattle.std.proofs.lemmas.List.{map-id}
use Rattle.std.proofs.lemmas.List.Sums.{length-filter}
use Rattle.std.proofs.lemmas.List.FromFn.{sum_by-map-range_with_len_more}
use Rattle.labels.specs.Families.{numbers_below}

module _ (p : ℕ → Bool) where
  -- how many of the numbers below m pass
  abbrev pub kept : ℕ → ℕ
  kept m = length (filter p (numbers_below m))

  -- m itself is one more, or not
  kept_next : (m : ℕ) (b : Bool) → p m ≡ b → kept (m + 1) ≡ kept m + cond b 1 0
  unfolding numbers_below
  kept_next m b h =
      ap kept (let z : m + 1 ≡ suc m = omega arith in z) ∙ ap (λ (x : Bool). length (cond x (m ∷ filter p (numbers_below m)) (filter p (numbers_below m)))) h
      ∙ one_more (filter p (numbers_below m)) b
    where
      one_more : (xs : List ℕ) (x : Bool) → length (cond x (m ∷ xs) xs) ≡ length xs + cond x 1 0
      one_more xs true = omega arith
      one_more xs false = omega arith

  -- upwards as many pass
  pub kept_up : (m : ℕ) → length (filter p (range_with_len 0 m)) ≡ kept m
  unfolding numbers_below
  kept_up m = length-filter p (range_with_len 0 m) ∙ ap (count_by p) (sym (map-id (range_with_len 0 m))) ∙ go m
    where
      go : (n : ℕ) → count_by p (map (λ x. x) (range_with_len 0 n)) ≡ kept n
      go zero = refl
      go (suc n) =
          let z : suc n ≡ n + 1 = omega arith in
          ap (λ (k : ℕ). count_by p (map (λ x. x) (range_with_len 0 k))) z ∙ sum_by-map-range_with_len_more (λ x. cond (p x) 1 0) (λ x. x) 0 n n (omega arith)
          ∙ ap (λ (k : ℕ). k + cond (p n) 1 0) (go n) ∙ sym (kept_next n (p n) refl) ∙ ap kept (sym z)
