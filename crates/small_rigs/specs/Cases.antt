-- What can be said of a small rig, and the test of it.
use Rattle.std.specs.Prelude.{◌≡◌, ℕ, Bool, true, false, ◌&&◌, List, [], ◌∷◌, length, ◌==◌}
use Rattle.labels.specs.Sets.{insert}
use Rattle.matroid_laws.specs.Matroids.{bases}
use Rattle.matroid_laws.specs.Greedy.{start}
use Rattle.walk_laws.specs.declared.Stop.{Stop}
use Rattle.walk_laws.specs.declared.Stop.TheVariants.{Full, Finished}
use Rattle.walk_laws.specs.Settings.{Setting}
use Rattle.walk_laws.specs.Steps.{Several, begun, several}
use Rattle.walk_laws.specs.Lives.{sets_of}

-- a matroid on 1..n
pub record Rig : Type 0 where
  pub n : ℕ
  pub independent : ℕ → Bool

-- a walk over it: a tie rule that keeps no state, and nothing measured
abbrev pub setting : Rig → (ℕ → ℕ → ℕ) → Setting (Unit {0}) (Unit {0})
setting rig choice = record {
  n = rig.n;
  independent = rig.independent;
  choice = λ _ e c. choice e c;
  next = λ r _ _. r;
  zero = tt;
  sum = λ _ _. tt;
  opposite = λ _. tt;
  worth = λ _. tt;
}

-- a list with k free entries, from the beginning
abbrev pub listed_first : (rig : Rig) (choice : ℕ → ℕ → ℕ) → ℕ → ℕ → ℕ → Several (setting rig choice)
listed_first rig choice offered opened k = several (setting rig choice) k (begun (setting rig choice) offered opened tt)

-- the set of these labels
abbrev pub set_of : List ℕ → ℕ
set_of [] = 0
set_of (e ∷ es) = insert (set_of es) e

abbrev pub sets : List (List ℕ) → List ℕ
sets [] = []
sets (s ∷ ss) = set_of s ∷ sets ss

pub data Case : Type 0 where
  -- with the offered and the opened labels, the walk hands out just these sets, in this order
  lists : Rig → (ℕ → ℕ → ℕ) → List ℕ → List ℕ → List (List ℕ) → Case
  -- for the offered labels, this is the start
  starts : Rig → List ℕ → List ℕ → Case
  -- these are the bases, by the test over all sets within 1..n, the largest number first
  has_bases : Rig → List (List ℕ) → Case

-- what a case says
abbrev pub Holds : Case → Type 0
Holds (lists rig choice offered opened expected) =
    (start rig.n rig.independent (set_of offered) ∷ sets_of (listed_first rig choice (set_of offered) (set_of opened) (length expected)).0 ≡ sets expected)
    × ((listed_first rig choice (set_of offered) (set_of opened) (length expected)).1 ≡ Finished)
    × ((listed_first rig choice (set_of offered) (set_of opened) (length expected)).2.count ≡ length expected)
Holds (starts rig offered base) = start rig.n rig.independent (set_of offered) ≡ set_of base
Holds (has_bases rig expected) = bases rig.n rig.independent ≡ sets expected

-- ---- the test

abbrev pub same : List ℕ → List ℕ → Bool
same [] [] = true
same [] (y ∷ ys) = false
same (x ∷ xs) [] = false
same (x ∷ xs) (y ∷ ys) = x == y && same xs ys

abbrev pub is_finished : Stop → Bool
is_finished Full = false
is_finished Finished = true

abbrev pub test : Case → Bool
test (lists rig choice offered opened expected) =
    same (start rig.n rig.independent (set_of offered) ∷ sets_of (listed_first rig choice (set_of offered) (set_of opened) (length expected)).0) (sets expected)
    && (is_finished (listed_first rig choice (set_of offered) (set_of opened) (length expected)).1
    && (listed_first rig choice (set_of offered) (set_of opened) (length expected)).2.count == length expected)
test (starts rig offered base) = start rig.n rig.independent (set_of offered) == set_of base
test (has_bases rig expected) = same (bases rig.n rig.independent) (sets expected)

abbrev pub all_pass : List Case → Bool
all_pass [] = true
all_pass (c ∷ cs) = test c && all_pass cs
