-- What a walk for the benchmark answers, by the walk over its matroid.
use Rattle.std.specs.Prelude.{◌≡◌, ℕ, ◌+◌, ◌-◌, ◌*◌, ◌%◌, ◌^◌, zero, suc, Bool, true, false, cond, ◌&&◌, is_ok, nat_le, List, [], ◌∷◌, ◌++◌, length, pos, neg_ℤ, Some, None, Option, bit_or, bit_xor}
use Rattle.labels.specs.Sets.{full, highest_below, limit}
use Rattle.matroid_laws.specs.Greedy.{greedy}
use Rattle.binary_laws.specs.Binary.{binary}
use Rattle.binary_matroid.specs.Columns.{column_at}
use Rattle.graphic.specs.Graphs.{admitted, forest}
use Rattle.graphic.specs.Points.{in_range, most_points}
use Rattle.layer_laws.specs.Layers.{dual, pinned, truncated}
use Rattle.tie_rule.specs.declared.closest.Closest.{Closest}
use Rattle.measure.specs.declared.value.Shift.{Shift}
use Rattle.measure.specs.Shifts.{entry_at, shift_of, shift_opposite, shift_sum, shift_zero}
use Rattle.walk_laws.specs.declared.Exchange.{Exchange}
use Rattle.walk_laws.specs.Settings.{Setting, total_of}
use Rattle.walk_laws.specs.Steps.{Several, begun, several}
use Rattle.walk_laws.specs.Lives.{sets_of}
use Rattle.walk_laws.specs.Law.{LawOfLife}
use Rattle.timed.specs.declared.Outcome.{Outcome}

-- what spreads the bits of a digest
abbrev pub prime : ℕ
prime = 1099511628211

-- what the label e is worth: e across, and e * e back along
abbrev pub shift_for : ℕ → Shift
shift_for e = shift_of (pos e) (neg_ℤ (pos (e * e)))

-- what the labels 1..n are worth
unfoldable pub shifts_to : ℕ → List Shift
shifts_to zero = []
shifts_to (suc n) = shifts_to n ++ shift_for (suc n) ∷ []

-- the walk over a matroid, the closest label first, with a shift for each label
abbrev pub walk_over : ℕ → (ℕ → Bool) → List Shift → Setting Closest Shift
walk_over n independent shifts = record {
  n = n;
  independent = independent;
  choice = λ _ e c. highest_below e c;
  next = λ r _ _. r;
  zero = shift_zero;
  sum = shift_sum;
  opposite = shift_opposite;
  worth = entry_at shifts;
}

-- a digest of the start and of exchanges, in order
abbrev pub digested : ℕ → Exchange → ℕ
digested d x = bit_xor d (bit_or (bit_or (x.high * 2 ^ 16) (x.low * 2 ^ 8)) (cond x.came 1 0)) * prime % 2 ^ 64

unfoldable pub digest_of : ℕ → List (Exchange × ℕ) → ℕ
digest_of d [] = d
digest_of d (x ∷ xs) = digest_of (digested d x.0) xs

module _ (w : Setting Closest Shift) where
  abbrev pub start : ℕ
  start = (begun w 0 (full 64) (record {})).present

  -- the walk from the empty set, with all labels active: what follows the start, until `most` sets are handed out or it is finished
  abbrev pub advances : ℕ → Several w
  advances most = several w (most - 1) (begun w 0 (full 64) (record {}))

  abbrev pub handed : ℕ → List ℕ
  handed most = start ∷ sets_of (advances most).0

  -- the outcome tells of these sets, and what holds of the whole life of a walk holds of this one
  pub record Tells (most : ℕ) (o : Outcome) : Type 0 where
    pub count : o.count ≡ length (handed most)
    pub digest : o.digest ≡ digest_of start (advances most).0
    pub across : o.across ≡ (total_of w (handed most)).across
    pub along : o.along ≡ (total_of w (handed most)).along
    pub law : LawOfLife w 0 (full 64) (record {})

-- ---- the matroids

-- bytes as pairs; one without another is left out
abbrev pub pairs_of : List ℕ → List (ℕ × ℕ)
pairs_of [] = []
pairs_of (a ∷ []) = []
pairs_of (a ∷ (b ∷ rest)) = (a, b) ∷ pairs_of rest

-- each of these edges may join the graph with p points, n edges and those before it
abbrev pub fits : ℕ → ℕ → List (ℕ × ℕ) → Bool
fits p n [] = true
fits p n (e ∷ es) = is_ok (admitted p n e.0 e.1) && fits p (n + 1) es

-- the edges of the graph with so many points, if there is such a graph
abbrev pub edges_in : ℕ → List ℕ → Option (List (ℕ × ℕ))
edges_in p ends = cond (in_range most_points p && fits p 0 (pairs_of ends)) (Some (pairs_of ends)) None

-- the columns of the binary matroid, if there is one
abbrev pub columns_in : List ℕ → Option (List ℕ)
columns_in words = cond (nat_le (length words) limit) (Some words) None

-- the walks that are timed
abbrev pub timed : ℕ → (ℕ → Bool) → Setting Closest Shift
timed n independent = walk_over n independent (shifts_to limit)

abbrev pub seams : List (ℕ × ℕ) → Setting Closest Shift
seams edges = timed (length edges) (forest edges)

abbrev pub dual_seams : List (ℕ × ℕ) → Setting Closest Shift
dual_seams edges = timed (length edges) (dual (length edges) (forest edges))

-- label 1 contracted and label 2 deleted, the dual of that, capped at three labels
abbrev pub piled_seams : List (ℕ × ℕ) → Setting Closest Shift
piled_seams edges =
    let n = length edges in timed n (truncated (dual n (pinned (forest edges) (greedy n (forest edges) 1) (bit_or 1 2))) 3)

abbrev pub buttons : List ℕ → Setting Closest Shift
buttons columns = timed (length columns) (binary (length columns) (column_at columns))

-- where there is a matroid the answer is yes, and the outcome tells of its walk; else it is no, and nothing was written
abbrev pub Writes : Option (Setting Closest Shift) → ℕ → Bool → Outcome → Outcome → Type 0
Writes None most answer old new = (answer ≡ false) × (new ≡ old)
Writes (Some w) most answer old new = (answer ≡ true) × Tells w most new
