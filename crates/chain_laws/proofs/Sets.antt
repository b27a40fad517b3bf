-- The sets of a list tell its exchanges.
use Rattle.std.proofs.Common.{◌≡◌, ℕ, ◌<◌, true, ◌||◌, eqb, List, [], ◌∷◌, get_or, sym, refl, ap, ◌∙◌, arith}
use Rattle.std.proofs.lemmas.Bool.{and_parts}
use Rattle.std.proofs.lemmas.Bool.Decides.{nat_tests}
use Rattle.labels.specs.Sets.{has, swap}
use Rattle.labels.proofs.Member.{members}
use Rattle.chain_lists.specs.declared.Swap.{Swap}
use Rattle.chain_lists.specs.Lists.{ChainList, Lawful, after, sets_from, sets_of, lawful_swap, lawful_swaps}
use Rattle.chain_lists.proofs.Lawful.{swap_tells}

-- two exchanges that lead to the same set are the same
module _ (t e f e' f' : ℕ) (low : 0 < f) (high : f < e) (low' : 0 < f') (high' : f' < e') (same : swap t e f ≡ swap t e' f') where
  -- the labels that change sides
  changed : (x : ℕ) → (eqb e x || eqb f x) ≡ (eqb e' x || eqb f' x)
  changed x = let h = ap (λ s. has s x) same in grind (arith, members)

  labels_same : (e ≡ e') × (f ≡ f')
  labels_same =
      let a = changed e in
      let b = changed e' in
      let c = changed f in
      let k : e ≡ e' = grind (arith, nat_tests) in
      (k, grind (arith, nat_tests))

swap_same : (n t : ℕ) (x y : Swap) → lawful_swap n t x ≡ true → lawful_swap n t y ≡ true → after t x ≡ after t y → x ≡ y
swap_same n t x y h k e =
    let p = swap_tells n t x h in
    let q = swap_tells n t y k in
    let s = labels_same t x.high x.low y.high y.low p.0 p.1 q.0 q.1 e in
    let a = s.0 in
    let b = s.1 in
    let z : ◌≡◌ {A = Swap} (record { high = x.high; low = x.low }) (record { high = y.high; low = y.low }) = cc in
    z

first_set : (t : ℕ) (xs : List Swap) → get_or (sets_from t xs) 0 0 ≡ t
first_set t [] = refl
first_set t (x ∷ xs) = refl

no_sets : (t : ℕ) (xs : List Swap) → sets_from t xs ≡ [] → ⊥
no_sets t [] e = let z : ◌≡◌ {A = ℕ} 0 1 = cc in omega arith
no_sets t (x ∷ xs) e = let z : ◌≡◌ {A = ℕ} 0 1 = cc in omega arith

-- so are all that lead through the same sets
swaps_same : (n t : ℕ) (xs ys : List Swap) → lawful_swaps n t xs ≡ true → lawful_swaps n t ys ≡ true → sets_from t xs ≡ sets_from t ys → xs ≡ ys
swaps_same n t [] [] h k e = refl
swaps_same n t [] (y ∷ ys) h k e = let r : sets_from (after t y) ys ≡ [] = cc in absurd (no_sets (after t y) ys r)
swaps_same n t (x ∷ xs) [] h k e = let r : sets_from (after t x) xs ≡ [] = cc in absurd (no_sets (after t x) xs r)
swaps_same n t (x ∷ xs) (y ∷ ys) h k e =
    let r : sets_from (after t x) xs ≡ sets_from (after t y) ys = cc in
    let a = and_parts (lawful_swap n t x) _ h in
    let b = and_parts (lawful_swap n t y) _ k in
    let s : x ≡ y = swap_same n t x y a.0 b.0 (sym (first_set (after t x) xs) ∙ ap (λ l. get_or l 0 0) r ∙ first_set (after t y) ys) in
    let w = swaps_same n (after t x) xs ys a.1 (rw s b.1) (cc) in
    cc

pub one_file : (c d : ChainList) → Lawful c → Lawful d → c.n ≡ d.n → sets_of c ≡ sets_of d → c.totals ≡ d.totals → c ≡ d
one_file c d L K n s t =
    let e : c.start ≡ d.start = sym (first_set c.start c.swaps) ∙ ap (λ l. get_or l 0 0) s ∙ first_set d.start d.swaps in
    let w = swaps_same c.n c.start c.swaps d.swaps L.leads (rw (n, e) K.leads) (cc) in
    let z : ◌≡◌ {A = ChainList} (record { n = c.n; start = c.start; swaps = c.swaps; totals = c.totals }) (record { n = d.n; start = d.start; swaps = d.swaps; totals = d.totals }) = cc in
    z
