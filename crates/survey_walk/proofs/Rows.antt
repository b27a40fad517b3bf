-- Rows of a survey taken one by one: `kept` is how the code keeps them.
use Rattle.std.proofs.Common.{◌≡◌, ℕ, ◌+◌, ◌<◌, List, [], ◌∷◌, ◌++◌, map, length, get_or, take, sym, ap, ◌∙◌, subst, arith}
use Rattle.std.specs.List.{AllByRecursion}
use Rattle.std.proofs.lemmas.List.{length-map, length-take-le, map_more, get_or-map}
use Rattle.std.proofs.lemmas.List.Elements.{All-get_or, All-from_recursion}

module _ {A B : Type 0} (g : A → B) (kept : List A) (rows : List B) (same : map g kept ≡ rows) (i : ℕ) (h : i < length kept) where
  within : i < length rows
  within = omega (arith, h, ap length same, length-map kept g)

  -- so many are taken before it
  pub taken : {C : Type 0} (f : B → C) → length (map f (take i rows)) ≡ i
  taken f = length-map (take i rows) f ∙ length-take-le i rows (omega (arith, within))

  row_at : (d : A) → get_or rows i (g d) ≡ g (get_or kept i d)
  row_at d = ap (λ l. get_or l i (g d)) (sym same) ∙ get_or-map g kept i d (g d) h

  -- one row more
  pub take_more : {C : Type 0} (f : B → C) (d : A) (done more : List C) → done ≡ map f (take i rows) → more ≡ done ++ f (g (get_or kept i d)) ∷ [] → more ≡ map f (take (i + 1) rows)
  take_more f d done more p q =
      q ∙ ap (λ l. l ++ f (g (get_or kept i d)) ∷ []) p ∙ ap (λ x. map f (take i rows) ++ f x ∷ []) (sym (row_at d)) ∙ sym (map_more f rows i (g d) within)

  -- what holds of all rows holds of this one
  pub each_row : (P : B → Type 0) (d : A) → AllByRecursion P rows → P (g (get_or kept i d))
  each_row P d a = subst P (row_at d) (All-get_or P rows i (g d) within (All-from_recursion P rows a))
