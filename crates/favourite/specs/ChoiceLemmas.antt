-- The favourite and the closest keep to the law of tie rules.
use Rattle.std.specs.Prelude.{◌≡◌, ℕ, ◌<◌, true, false}
use Rattle.std.proofs.lemmas.Bool.{and_parts, both_ways, cond_both, ltb-true}
use Rattle.labels.specs.Sets.{has, highest_below}
use Rattle.labels.proofs.Passing.{highest_below_is, highest_below_none}
use Rattle.favourite.specs.Choice.{favoured, is_candidate}

-- a candidate is a label of the set below e
candidate_is : (v e c : ℕ) → is_candidate v e c ≡ true → (v < e) × (has c v ≡ true)
candidate_is v e c h = let p = and_parts _ _ h in (ltb-true v e p.0, p.1)

-- where there is a candidate, one is taken
pub picks : (v e c f : ℕ) → f < e → has c f ≡ true → (favoured v e c < e) × (has c (favoured v e c) ≡ true)
picks v e c f l h =
    cond_both (is_candidate v e c) v (highest_below e c) (λ k. (k < e) × (has c k ≡ true)) (λ t. candidate_is v e c t) (λ t. highest_below_is e c f l h)

-- where there is none, the answer is 0
pub idles : (v e c : ℕ) → ((f : ℕ) → f < e → has c f ≡ false) → favoured v e c ≡ 0
idles v e c none =
    cond_both (is_candidate v e c) v (highest_below e c) (λ k. k ≡ 0)
    (λ t. let p = candidate_is v e c t in absurd (both_ways (has c v) (none v p.0) p.1))
    (λ t. highest_below_none e c none)
