-- What is claimed of the check.
use Rattle.std.specs.Prelude.{◌≡◌, ℕ, ◌+◌, ◌^◌, ◌<◌, ◌≤◌, ◌⊎◌, ◌↔◌, List, [], ◌∷◌, ◌++◌, length, take, decimal, ◌≢◌, slice_index_or}
use Rattle.labels.specs.Sets.{limit}
use Rattle.survey_laws.specs.Sheets.{SurveyRow, Sheet, most_points, most_digits, Numbered, InRange, Met, LawfulRow, Lawful, line_feed, row_written, ended, written}
use Rattle.survey_laws.specs.Check.{Wrong, too_many_rows, wrong_form, out_of_range, same_point, repeated_pair, accepted, refused, lines, check}

-- the text is what the sheet is written as, with or without the last line feed
abbrev pub Writes : List ℕ → Sheet → Type 0
Writes text s = (text ≡ written s) ⊎ (text ++ line_feed ∷ [] ≡ written s)

-- accepted are exactly the texts of lawful sheets, each as the sheet that was written
abbrev pub AcceptsExactly : Type 0
AcceptsExactly = (text : List ℕ) (s : Sheet) → (check text ≡ accepted s) ↔ (Lawful s × Writes text s)

-- w is wrong with a first line
abbrev pub WrongCount : List ℕ → Wrong → Type 0
WrongCount l wrong_form = (p : ℕ) → p < 10 ^ most_digits → l ≢ decimal p
WrongCount l out_of_range = (p : ℕ) × (l ≡ decimal p) × (p < 10 ^ most_digits) × ((1 ≤ p) × (p ≤ most_points) → ⊥)
WrongCount l too_many_rows = ⊥
WrongCount l same_point = ⊥
WrongCount l repeated_pair = ⊥

-- w is wrong with the first line, or there is none
abbrev pub FirstLineWrong : List (List ℕ) → Wrong → Type 0
FirstLineWrong [] w = wrong_form ≡ w
FirstLineWrong (l ∷ ls) w = WrongCount l w

-- there is room for a row after the rows `done`, and l writes one, of which P holds
abbrev pub Formed : List SurveyRow → List ℕ → (SurveyRow → Type 0) → Type 0
Formed done l P = (length done < limit) × ((r : SurveyRow) × (l ≡ row_written r) × Numbered r × P r)

-- w is wrong with a later line l, after the rows `done` of a survey of p points, and nothing that is checked before
abbrev pub WrongRow : ℕ → List SurveyRow → List ℕ → Wrong → Type 0
WrongRow p done l too_many_rows = limit ≤ length done
WrongRow p done l wrong_form = (length done < limit) × ((r : SurveyRow) → Numbered r → l ≢ row_written r)
WrongRow p done l out_of_range = Formed done l (λ r. InRange p r → ⊥)
WrongRow p done l same_point = Formed done l (λ r. InRange p r × (r.a ≡ r.b))
WrongRow p done l repeated_pair = Formed done l (λ r. LawfulRow p r × Met done r)

-- w is wrong with row n, and the lines above it are by themselves accepted
pub record LaterLineWrong (text : List ℕ) (w : Wrong) (n : ℕ) : Type 0 where
  pub above : Sheet
  pub accepts_above : check (ended (take (length above.rows + 1) (lines text))) ≡ accepted above
  pub place : n ≡ length above.rows + 2
  pub stands : length above.rows + 1 < length (lines text)
  pub here : WrongRow above.points above.rows (slice_index_or (lines text) (length above.rows + 1) []) w

-- what is refused is the first row that is wrong
abbrev pub RefusesFirst : Type 0
RefusesFirst = (text : List ℕ) (w : Wrong) (n : ℕ) → check text ≡ refused w n → ((n ≡ 1) × FirstLineWrong (lines text) w) ⊎ LaterLineWrong text w n

-- the most bytes that a lawful sheet is written in
abbrev pub most_bytes : ℕ
most_bytes = 1155

-- no lawful sheet is longer
abbrev pub Short : Type 0
Short = (s : Sheet) → Lawful s → length (written s) ≤ most_bytes

-- how many bytes of a text decide what comes of it: those of a lawful sheet, and then more than a row of the right form has
abbrev pub enough_bytes : ℕ
enough_bytes = most_bytes + 34

-- what stands further down is never read
abbrev pub FrontDecides : Type 0
FrontDecides = (text : List ℕ) (n : ℕ) → enough_bytes ≤ n → check (take n text) ≡ check text
