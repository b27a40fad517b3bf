-- The check of a text, row by row downwards: the sheet that it is, or the first thing that is wrong, with its row.
use Rattle.std.specs.Prelude.{ℕ, zero, suc, ◌+◌, ◌-◌, ◌*◌, Bool, true, false, cond, not, ◌&&◌, ◌||◌, List, [], ◌∷◌, ◌++◌, length, take, drop, ℤ, pos, negsuc, Some, None, Ok, Err, Option, Result, ◌==◌, nat_le, nat_lt, slice_index, unsigned_abs}
use Rattle.std.specs.List.{prefix_len}
use Rattle.labels.specs.Sets.{limit}
use Rattle.survey_laws.specs.Sheets.{SurveyRow, Sheet, most_points, furthest, most_digits, comma, line_feed}

-- what can be wrong
pub data Wrong : Type 0 where
  too_many_rows : Wrong
  wrong_form : Wrong
  out_of_range : Wrong
  same_point : Wrong
  repeated_pair : Wrong

-- the number that each is refused by
abbrev pub wrong_number : Wrong → ℕ
wrong_number wrong_form = 1
wrong_number out_of_range = 2
wrong_number too_many_rows = 3
wrong_number same_point = 4
wrong_number repeated_pair = 5

-- what comes of a text: a sheet, or what is wrong first and in which row (from 1)
pub data Outcome : Type 0 where
  accepted : Sheet → Outcome
  refused : Wrong → ℕ → Outcome

-- ---- numbers

-- what stands before a number below zero
abbrev pub minus_sign : ℕ
minus_sign = 45

-- the bytes 48 to 57
abbrev pub is_digit : ℕ → Bool
is_digit c = cond (nat_lt c 48) false (nat_lt c 58)

-- one to seven bytes, and a zero in front only alone
abbrev pub sized : List ℕ → Bool
sized s =
    cond (length s == 0) false (cond (nat_lt most_digits (length s)) false (cond (length s == 1) true (not (slice_index s 0 == 48))))

-- the digits of s after the number n
abbrev pub read_on : ℕ → List ℕ → Option ℕ
read_on n [] = Some n
read_on n (c ∷ cs) = cond (is_digit c) (read_on (n * 10 + (c - 48)) cs) None

-- the number that s writes, if it has the form
unfoldable pub number_in : List ℕ → Option ℕ
number_in s = cond (sized s) (read_on 0 s) None

-- a number with no minus
abbrev pub plain : Option ℕ → Option ℤ
plain None = None
plain (Some n) = Some (pos n)

-- a number after a minus, which stands only before a nonzero one
abbrev pub negative : Option ℕ → Option ℤ
negative None = None
negative (Some zero) = None
negative (Some (suc n)) = Some (negsuc n)

-- the shift that s writes, if it has the form
unfoldable pub shift_in : List ℕ → Option ℤ
shift_in s = cond (slice_index s 0 == minus_sign) (negative (number_in (drop 1 s))) (plain (number_in s))

-- ---- rows

-- how many bytes stand before the first byte b
abbrev pub until : ℕ → List ℕ → ℕ
until b s = prefix_len (λ c. not (c == b)) s

-- what stands before the first b; all of s, if there is none
abbrev pub before : ℕ → List ℕ → List ℕ
before b s = take (until b s) s

-- what stands after the first b
abbrev pub after : ℕ → List ℕ → List ℕ
after b s = drop (until b s + 1) s

-- the byte c in front of the first line
abbrev pub onto : ℕ → List (List ℕ) → List (List ℕ)
onto c [] = (c ∷ []) ∷ []
onto c (l ∷ ls) = (c ∷ l) ∷ ls

-- the lines of a text; a rest without a line feed is one too, if it is not empty
abbrev pub lines : List ℕ → List (List ℕ)
lines [] = []
lines (c ∷ cs) = cond (c == line_feed) ([] ∷ lines cs) (onto c (lines cs))

-- f of the value, if there is one
abbrev pub and_then : {X Y : Type 0} → Option X → (X → Option Y) → Option Y
and_then None f = None
and_then (Some x) f = f x

-- the row of four numbers, if all are there
abbrev pub row_from : Option ℕ → Option ℕ → Option ℤ → Option ℤ → Option SurveyRow
row_from p q x y = and_then p (λ a. and_then q (λ b. and_then x (λ v. and_then y (λ w. Some (record { a = a; b = b; across = v; along = w })))))

-- four numbers with commas between them
unfoldable pub row_in : List ℕ → Option SurveyRow
row_in s =
    let s₁ = after comma s in
    let s₂ = after comma s₁ in
    row_from (number_in (before comma s)) (number_in (before comma s₁)) (shift_in (before comma s₂)) (shift_in (after comma s₂))

-- ---- the tests of a row that has the form

-- one of the points 1..p
abbrev pub is_point : ℕ → ℕ → Bool
is_point p x = cond (x == 0) false (nat_le x p)

-- a shift is not too far
abbrev pub reaches : ℤ → Bool
reaches z = nat_le (unsigned_abs z) furthest

-- all four numbers of a row are in range
abbrev pub in_range : ℕ → SurveyRow → Bool
in_range p r = is_point p r.a && (is_point p r.b && (reaches r.across && reaches r.along))

-- two rows have the same pair of points, either way round
abbrev pub same_pair : SurveyRow → SurveyRow → Bool
same_pair q r = (q.a == r.a && q.b == r.b) || (q.a == r.b && q.b == r.a)

-- some row of the list has the pair of r
abbrev pub met : List SurveyRow → SurveyRow → Bool
met [] r = false
met (q ∷ qs) r = cond (same_pair q r) true (met qs r)

-- ---- the check

-- a row that has the form, after the rows `done` of a survey of p points
unfoldable pub judged : ℕ → List SurveyRow → SurveyRow → Result SurveyRow Wrong
judged p done r =
    cond (in_range p r) (cond (r.a == r.b) (Err same_point) (cond (met done r) (Err repeated_pair) (Ok r))) (Err out_of_range)

-- a line that has no row has the wrong form
abbrev pub formed : Option SurveyRow → (SurveyRow → Result SurveyRow Wrong) → Result SurveyRow Wrong
formed None f = Err wrong_form
formed (Some r) f = f r

-- the line l after the rows `done`
unfoldable pub next_row : ℕ → List SurveyRow → List ℕ → Result SurveyRow Wrong
next_row p done l = cond (nat_le limit (length done)) (Err too_many_rows) (formed (row_in l) (judged p done))

-- on with the row, or stop at what is wrong with row n
abbrev pub follow : Result SurveyRow Wrong → ℕ → (SurveyRow → Outcome) → Outcome
follow (Ok r) n f = f r
follow (Err w) n f = refused w n

-- the lines ls downwards, after the first line and the lines of the rows `done`
abbrev pub read_rows : ℕ → List SurveyRow → List (List ℕ) → Outcome
read_rows p done [] = accepted (record { points = p; rows = done })
read_rows p done (l ∷ ls) = follow (next_row p done l) (length done + 2) (λ r. read_rows p (done ++ r ∷ []) ls)

-- the number of points, if it is one and in range
abbrev pub counted : Option ℕ → Result ℕ Wrong
counted None = Err wrong_form
counted (Some p) = cond (is_point most_points p) (Ok p) (Err out_of_range)

-- the first line: how many points
abbrev pub first_line : List ℕ → Result ℕ Wrong
first_line l = counted (number_in l)

-- the lines ls after the first
abbrev pub headed : Result ℕ Wrong → List (List ℕ) → Outcome
headed (Ok p) ls = read_rows p [] ls
headed (Err w) ls = refused w 1

-- all lines; there has to be one
abbrev pub read_lines : List (List ℕ) → Outcome
read_lines [] = refused wrong_form 1
read_lines (l ∷ ls) = headed (first_line l) ls

-- what comes of a text
unfoldable pub check : List ℕ → Outcome
check text = read_lines (lines text)
