-- The uniform matroid is one: the laws can be met.
use Rattle.std.proofs.Common.{◌≡◌, ℕ, ◌^◌, ◌<◌, ◌≤◌, true, arith, pow_pos}
use Rattle.std.proofs.lemmas.Bool.Decides.{nat_tests}
use Rattle.labels.specs.Sets.{insert, card}
use Rattle.labels.proofs.Member.{has_pos}
use Rattle.labels.proofs.Card.{card_zero, card_subset, card_insert, within_back, more}
use Rattle.labels.proofs.Parts.{insert_below, subset_below}
use Rattle.matroid_laws.specs.Matroids.{IsMatroid, uniform}

subsets_of : (n r s : ℕ) → uniform n r s ≡ true → (s < 2 ^ n) × (card s ≤ r)
subsets_of n r s h = (grind (arith, nat_tests), grind (arith, nat_tests))

made_of : (n r s : ℕ) → s < 2 ^ n → card s ≤ r → uniform n r s ≡ true
made_of n r s h l = grind (arith, nat_tests)

pub uniform_is : (n r : ℕ) → IsMatroid n (uniform n r)
uniform_is n r = record {
  inside = λ s h. (subsets_of n r s h).0;
  empty = made_of n r 0 (pow_pos n) (omega (arith, card_zero));
  hereditary = λ s t p h. let q = subsets_of n r t h in
      made_of n r s (subset_below n s t p q.0) (omega (arith, card_subset s t p));
  augments = λ s t a b h. let m = more s t h in let u = subsets_of n r s a in let v = subsets_of n r t b in
      let e = m.0 in let l = has_pos t e m.1 in
      (e, m.1, m.2, made_of n r (insert s e) (insert_below n s e u.0 l (within_back n t e v.0 m.1)) (omega (arith, card_insert s e l m.2)));
}
