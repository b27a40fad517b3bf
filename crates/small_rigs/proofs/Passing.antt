-- The table passes its test, and a case that passes holds.
use Rattle.std.proofs.Common.{◌≡◌, ℕ, Bool, true, ◌&&◌, eqb, List, [], ◌∷◌, refl, ap₂, arith}
use lib.Count.{ones, ones_in}
use Rattle.std.specs.List.{AllByRecursion}
use Rattle.std.proofs.lemmas.Bool.{eqb-true, true≢false}
use Rattle.labels.specs.Sets.{has, bit, single, passing, first_passing, highest_below}
use Rattle.labels.specs.Families.{numbers_below}
use Rattle.matroid_laws.specs.Greedy.{extended}
use Rattle.binary_laws.specs.Binary.{xor_sum}
use Rattle.walk_laws.specs.declared.Stop.{Stop}
use Rattle.walk_laws.specs.declared.Stop.TheVariants.{Full, Finished}
use Rattle.walk_laws.specs.Settings.{candidates, summed}
use Rattle.walk_laws.specs.Steps.{step, several}
use Rattle.small_rigs.specs.Cases.{Case, lists, starts, has_bases, Holds, same, is_finished, test, all_pass}
use Rattle.small_rigs.specs.Table.{table, SmallRigs}

first_of : (a b : Bool) → (a && b) ≡ true → a ≡ true
first_of a b h = grind arith

second_of : (a b : Bool) → (a && b) ≡ true → b ≡ true
second_of a b h = grind arith

same_tells : (xs ys : List ℕ) → same xs ys ≡ true → xs ≡ ys
same_tells [] [] h = refl
same_tells [] (y ∷ ys) h = absurd (true≢false (grind arith))
same_tells (x ∷ xs) [] h = absurd (true≢false (grind arith))
same_tells (x ∷ xs) (y ∷ ys) h = ap₂ (λ (z : ℕ) (zs : List ℕ). z ∷ zs) (eqb-true x y (first_of (eqb x y) (same xs ys) h)) (same_tells xs ys (second_of (eqb x y) (same xs ys) h))

finished_tells : (s : Stop) → is_finished s ≡ true → s ≡ Finished
finished_tells Full h = absurd (true≢false (grind arith))
finished_tells Finished h = refl

lists_tell : (xs ys : List ℕ) (s : Stop) (m k : ℕ) → (same xs ys && (is_finished s && eqb m k)) ≡ true → (xs ≡ ys) × (s ≡ Finished) × (m ≡ k)
lists_tell xs ys s m k h =
    let r = second_of (same xs ys) (is_finished s && eqb m k) h in
    (same_tells xs ys (first_of (same xs ys) (is_finished s && eqb m k) h), finished_tells s (first_of (is_finished s) (eqb m k) r), eqb-true m k (second_of (is_finished s) (eqb m k) r))

test_tells : (c : Case) → test c ≡ true → Holds c
test_tells (lists rig choice offered opened expected) h = lists_tell _ _ _ _ _ h
test_tells (starts rig offered base) h = eqb-true _ _ h
test_tells (has_bases rig expected) h = same_tells _ _ h

each_holds : (cs : List Case) → all_pass cs ≡ true → AllByRecursion Holds cs
each_holds [] h = tt
each_holds (c ∷ cs) h = (test_tells c (first_of (test c) (all_pass cs) h), each_holds cs (second_of (test c) (all_pass cs) h))

table_passes : all_pass table ≡ true
unfolding has bit single ones ones_in passing first_passing highest_below numbers_below extended xor_sum candidates summed step several
table_passes = refl

pub small_rigs : SmallRigs
small_rigs = each_holds table table_passes
