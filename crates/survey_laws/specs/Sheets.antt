-- A survey as one writes it down: points 1, 2, .. and rows, each with two points and the shift between them.
-- When it is lawful, and the text that it is written as.
use Rattle.std.specs.Prelude.{◌≡◌, ℕ, ◌^◌, ◌<◌, ◌≤◌, ◌⊎◌, List, [], ◌∷◌, ◌++◌, map, length, ℤ, decimal, unsigned_abs}
use Rattle.std.specs.Fmt.{signed_decimal}
use Rattle.std.specs.List.{flat_map, AllByRecursion}
use Rattle.labels.specs.Sets.{limit}
pub use Rattle.entry.specs.Limits.{most_points}

-- two points, and the shift from one to the other in arc seconds
pub record SurveyRow : Type 0 where
  pub a : ℕ
  pub b : ℕ
  pub across : ℤ
  pub along : ℤ

-- how many points, and the rows in their order
pub record Sheet : Type 0 where
  pub points : ℕ
  pub rows : List SurveyRow

-- how far a shift can reach, either way
abbrev pub furthest : ℕ
furthest = 1000000

-- how many digits a number can have
abbrev pub most_digits : ℕ
most_digits = 7

-- ---- what is lawful

-- the numbers of a row are short enough to be written
pub record Numbered (r : SurveyRow) : Type 0 where
  pub a_short : r.a < 10 ^ most_digits
  pub b_short : r.b < 10 ^ most_digits
  pub across_short : unsigned_abs r.across < 10 ^ most_digits
  pub along_short : unsigned_abs r.along < 10 ^ most_digits

-- the numbers of a row are in range, in a survey of p points
pub record InRange (p : ℕ) (r : SurveyRow) : Type 0 where
  pub a_is_point : (1 ≤ r.a) × (r.a ≤ p)
  pub b_is_point : (1 ≤ r.b) × (r.b ≤ p)
  pub across_reaches : unsigned_abs r.across ≤ furthest
  pub along_reaches : unsigned_abs r.along ≤ furthest

-- the same two points, either way round
abbrev pub SamePair : SurveyRow → SurveyRow → Type 0
SamePair q r = ((q.a ≡ r.a) × (q.b ≡ r.b)) ⊎ ((q.a ≡ r.b) × (q.b ≡ r.a))

-- some row of the list has the pair of r
abbrev pub Met : List SurveyRow → SurveyRow → Type 0
Met [] r = ⊥
Met (q ∷ qs) r = SamePair q r ⊎ Met qs r

-- no pair of points stands again in a later row
abbrev pub Once : List SurveyRow → Type 0
Once [] = Unit {0}
Once (q ∷ rs) = AllByRecursion (λ r. SamePair q r → ⊥) rs × Once rs

-- a row that can stand in a survey of p points
pub record LawfulRow (p : ℕ) (r : SurveyRow) : Type 0 where
  pub ranges : InRange p r
  pub apart : r.a ≡ r.b → ⊥

-- a survey that can be read
pub record Lawful (s : Sheet) : Type 0 where
  pub some_points : 1 ≤ s.points
  pub few_points : s.points ≤ most_points
  pub few_rows : length s.rows ≤ limit
  pub each_row : AllByRecursion (LawfulRow s.points) s.rows
  pub once : Once s.rows

-- ---- how it is written

-- what stands between numbers
abbrev pub comma : ℕ
comma = 44

-- what stands after a line
abbrev pub line_feed : ℕ
line_feed = 10

-- a row without its line feed
abbrev pub row_written : SurveyRow → List ℕ
row_written r = decimal r.a ++ comma ∷ (decimal r.b ++ comma ∷ (signed_decimal r.across ++ comma ∷ signed_decimal r.along))

-- lines, each with its line feed
abbrev pub ended : List (List ℕ) → List ℕ
ended ls = flat_map (λ l. l ++ line_feed ∷ []) ls

-- the number of points, then the rows
abbrev pub written : Sheet → List ℕ
written s = ended (decimal s.points ∷ map row_written s.rows)
