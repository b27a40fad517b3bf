-- What a walk over the bases of a matroid is made of: the matroid, a tie rule, a measure; and the words of one exchange.
use Rattle.std.specs.Prelude.{ℕ, zero, suc, ◌-◌, Bool, cond, ◌&&◌, List, [], ◌∷◌}
use Rattle.labels.specs.Sets.{has, differs, swap, passing}
use Rattle.matroid_laws.specs.Matroids.{IsMatroid, is_base}
use Rattle.tie_rule.specs.Laws.{TieLaws}
use Rattle.measure.specs.Laws.{GroupLaws}

-- R: the states of the tie rule; V: the values of the measure
pub record Setting (R V : Type 0) : Type 0 where
  pub n : ℕ
  pub independent : ℕ → Bool
  -- by state, label and set
  pub choice : R → ℕ → ℕ → ℕ
  pub next : R → ℕ → ℕ → R
  pub zero : V
  pub sum : V → V → V
  pub opposite : V → V
  pub worth : ℕ → V

-- all three show their laws
pub record Sound {R V : Type 0} (w : Setting R V) : Type 0 where
  pub matroid : IsMatroid w.n w.independent
  pub ties : TieLaws w.choice w.next
  pub group : GroupLaws w.zero w.sum w.opposite

-- the sum of the worths of the labels of t among 1..m, upwards from the lowest
unfoldable pub summed : {V : Type 0} → V → (V → V → V) → (ℕ → V) → ℕ → ℕ → V
summed base sum worth t zero = base
summed base sum worth t (suc m) = cond (has t (suc m)) (sum (summed base sum worth t m) (worth (suc m))) (summed base sum worth t m)

module _ {R V : Type 0} (w : Setting R V) where
  -- exactly one of e and f is in t, and swapping them gives a base
  abbrev pub fits : ℕ → ℕ → ℕ → Bool
  fits t e f = differs (has t e) (has t f) && is_base w.n w.independent (swap t e f)

  -- the candidates of e: the labels below e that it can be swapped with
  unfoldable pub candidates : ℕ → ℕ → ℕ
  candidates t e = passing (fits t e) (e - 1)

  -- the same, of the measure of w
  abbrev pub worths : ℕ → ℕ → V
  worths t m = summed w.zero w.sum w.worth t m

  -- the value of a set
  abbrev pub value_of : ℕ → V
  value_of t = worths t w.n

  -- the sum of the values of the sets of a list
  unfoldable pub total_of : List ℕ → V
  total_of [] = w.zero
  total_of (t ∷ ts) = w.sum (value_of t) (total_of ts)
