-- The law of the check: it accepts exactly the written forms of lawful sheets, each as the sheet that was written.
use Rattle.std.proofs.Common.{◌≡◌, ℕ, ◌+◌, ◌≤◌, Bool, true, false, cond, List, [], ◌∷◌, ◌++◌, map, length, Some, None, Ok, Err, decimal, Option, Result, sym, refl, ap, ◌∙◌, subst, inl, inr, arith, length-append}
use Rattle.std.specs.List.{AllByRecursion}
use Rattle.std.proofs.lemmas.Bool.{both_ways}
use Rattle.std.proofs.lemmas.Bool.Decides.{nat_tests}
use Rattle.std.proofs.lemmas.List.{append-nil, append_assoc, length_push}
use Rattle.std.proofs.lemmas.Option.{none-some}
use Rattle.std.proofs.ByRecursion.{All-push, All-map, All-weaker}
use Rattle.std.proofs.lemmas.Fmt.{decimal_nonempty}
use Rattle.labels.specs.Sets.{limit}
use Rattle.survey_laws.specs.Sheets.{SurveyRow, Sheet, SamePair, Once, LawfulRow, Lawful, most_points, line_feed, row_written, ended}
use Rattle.survey_laws.specs.Check.{Wrong, wrong_form, out_of_range, accepted, refused, number_in, is_point, lines, next_row, follow, read_rows, counted, first_line, headed, read_lines, check}
use Rattle.survey_laws.specs.Laws.{Writes, AcceptsExactly, WrongCount}
use Rattle.survey_laws.proofs.Pieces.{Line, Again, ended_lines, lines_ended, lines_unended}
use Rattle.survey_laws.proofs.Numbers.{number_in_is, number_in_decimal, free_decimal}
use Rattle.survey_laws.proofs.Rows.{err_ok, Unmet, Fitting, numbered, row_line, next_row_is, next_row_written}

abbrev pub sheet : ℕ → List SurveyRow → Sheet
sheet p rs = record { points = p; rows = rs }

pub refused_accepted : {w : Wrong} {n : ℕ} {s : Sheet} → refused w n ≡ accepted s → ⊥
refused_accepted e = let z : ◌≡◌ {A = ℕ} 0 1 = cc in omega arith

-- ---- rows after rows

-- the rows rs can come one by one after the rows `done`
abbrev pub Fit : ℕ → List SurveyRow → List SurveyRow → Type 0
Fit p done [] = Unit {0}
Fit p done (r ∷ rs) = Fitting p done r × Fit p (done ++ r ∷ []) rs

-- the rest of a sheet, as the lines ls give it
record Rest (p : ℕ) (done : List SurveyRow) (ls : List (List ℕ)) (s : Sheet) : Type 0 where
  rows : List SurveyRow
  whole : sheet p (done ++ rows) ≡ s
  written_so : ls ≡ map row_written rows
  fit : Fit p done rows

read_rows_is : (p : ℕ) (done : List SurveyRow) (ls : List (List ℕ)) (s : Sheet) → read_rows p done ls ≡ accepted s → Rest p done ls s
read_rows_is p done [] s e = record { rows = []; whole = ap (sheet p) (append-nil done) ∙ cc; written_so = refl; fit = tt }
read_rows_is p done (l ∷ ls) s e = go (next_row p done l) refl e (λ r. read_rows_is p (done ++ r ∷ []) ls s)
  where
    go : (x : Result SurveyRow Wrong) → next_row p done l ≡ x → follow x (length done + 2) (λ r. read_rows p (done ++ r ∷ []) ls) ≡ accepted s
        → ((r : SurveyRow) → read_rows p (done ++ r ∷ []) ls ≡ accepted s → Rest p (done ++ r ∷ []) ls s) → Rest p done (l ∷ ls) s
    go (Err w) i e ih = absurd (refused_accepted e)
    go (Ok r) i e ih =
        let R = ih r e in
        let k = next_row_is p done l r i in
        record {
          rows = r ∷ R.rows;
          whole = ap (sheet p) (sym (append_assoc done (r ∷ []) R.rows)) ∙ R.whole;
          written_so = ap (λ x. x ∷ ls) k.0 ∙ ap (λ xs. row_written r ∷ xs) R.written_so;
          fit = (k.1, R.fit);
        }

read_rows_written : (p : ℕ) (done rs : List SurveyRow) → p ≤ most_points → Fit p done rs → read_rows p done (map row_written rs) ≡ accepted (sheet p (done ++ rs))
read_rows_written p done [] h F = ap (λ xs. accepted (sheet p xs)) (sym (append-nil done))
read_rows_written p done (r ∷ rs) h F =
    ap (λ x. follow x (length done + 2) (λ r. read_rows p (done ++ r ∷ []) (map row_written rs))) (next_row_written p done r h F.0)
    ∙ read_rows_written p (done ++ r ∷ []) rs h F.1
    ∙ ap (λ xs. accepted (sheet p xs)) (append_assoc done (r ∷ []) rs)

-- ---- that they come one by one, and that all together are lawful

all_middle : {X : Type 0} (P : X → Type 0) (xs : List X) (x : X) (ys : List X) → AllByRecursion P (xs ++ x ∷ ys) → P x
all_middle P [] x ys h = h.0
all_middle P (z ∷ xs) x ys h = all_middle P xs x ys h.1

once_at : (xs : List SurveyRow) (r : SurveyRow) (ys : List SurveyRow) → Once (xs ++ r ∷ ys) → Unmet xs r
once_at [] r ys h = tt
once_at (q ∷ xs) r ys h = (all_middle (λ x. SamePair q x → ⊥) xs r ys h.0, once_at xs r ys h.1)

once_push : (xs : List SurveyRow) (r : SurveyRow) → Once xs → Unmet xs r → Once (xs ++ r ∷ [])
once_push [] r o u = (tt, tt)
once_push (q ∷ xs) r o u = (All-push (λ x. SamePair q x → ⊥) xs r o.0 u.0, once_push xs r o.1 u.1)

-- what is asked of all rows together
pub record Whole (p : ℕ) (rs : List SurveyRow) : Type 0 where
  pub few : length rs ≤ limit
  pub each : AllByRecursion (LawfulRow p) rs
  pub once : Once rs

whole_fits : (p : ℕ) (done rs : List SurveyRow) → Whole p (done ++ rs) → Fit p done rs
whole_fits p done [] W = tt
whole_fits p done (r ∷ rs) W = (
  record {
    room = let k = W.few in omega (arith, length-append done (r ∷ rs));
    lawful = all_middle (LawfulRow p) done r rs W.each;
    unmet = once_at done r rs W.once;
  },
  whole_fits p (done ++ r ∷ []) rs (subst (Whole p) (sym (append_assoc done (r ∷ []) rs)) W),
)

pub fits_whole : (p : ℕ) (done rs : List SurveyRow) → Whole p done → Fit p done rs → Whole p (done ++ rs)
fits_whole p done [] W F = subst (Whole p) (sym (append-nil done)) W
fits_whole p done (r ∷ rs) W F =
    let L = F.0 in
    subst (Whole p) (append_assoc done (r ∷ []) rs)
    (fits_whole p (done ++ r ∷ []) rs
    (record {
      few = let k = L.room in omega (arith, length_push done r);
      each = All-push (LawfulRow p) done r W.each L.lawful;
      once = once_push done r W.once L.unmet;
    })
    F.1)

pub lawful_sheet : (p : ℕ) (rs : List SurveyRow) → 1 ≤ p → p ≤ most_points → Fit p [] rs → Lawful (sheet p rs)
lawful_sheet p rs l h F =
    let W = fits_whole p [] rs (record { few = omega arith; each = tt; once = tt }) F in
    record { some_points = l; few_points = h; few_rows = W.few; each_row = W.each; once = W.once }

-- ---- the law

pub first_line_is : (l : List ℕ) (p : ℕ) → first_line l ≡ Ok p → (l ≡ decimal p) × (1 ≤ p) × (p ≤ most_points)
first_line_is l p e = go (number_in l) refl e
  where
    ranged : (n : ℕ) → number_in l ≡ Some n → (x : Bool) → is_point most_points n ≡ x → cond x (Ok n) (Err out_of_range) ≡ Ok p
        → (l ≡ decimal p) × (1 ≤ p) × (p ≤ most_points)
    ranged n i false h e = absurd (err_ok e)
    ranged n i true h e = let k : n ≡ p = cc in ((number_in_is l n i).0 ∙ ap decimal k, grind (arith, nat_tests), grind (arith, nat_tests))

    go : (o : Option ℕ) → number_in l ≡ o → counted o ≡ Ok p → (l ≡ decimal p) × (1 ≤ p) × (p ≤ most_points)
    go None i e = absurd (err_ok e)
    go (Some n) i e = ranged n i (is_point most_points n) refl e

pub first_line_wrong : (l : List ℕ) (w : Wrong) → first_line l ≡ Err w → WrongCount l w
first_line_wrong l w e = go (number_in l) refl e
  where
    ranged : (n : ℕ) → number_in l ≡ Some n → (x : Bool) → is_point most_points n ≡ x → cond x (Ok n) (Err out_of_range) ≡ Err w → WrongCount l w
    ranged n i true h e = absurd (err_ok (sym e))
    ranged n i false h e =
        let v : out_of_range ≡ w = cc in
        let k = number_in_is l n i in
        subst (WrongCount l) v (n, k.0, k.1, λ r. let a = r.0 in let b = r.1 in let k : is_point most_points n ≡ true = grind (arith, nat_tests) in both_ways _ h k)

    go : (o : Option ℕ) → number_in l ≡ o → counted o ≡ Err w → WrongCount l w
    go None i e = let v : wrong_form ≡ w = cc in subst (WrongCount l) v (λ p h q. none-some _ (sym i ∙ ap number_in q ∙ number_in_decimal p h))
    go (Some n) i e = ranged n i (is_point most_points n) refl e

first_line_written : (p : ℕ) → 1 ≤ p → p ≤ most_points → first_line (decimal p) ≡ Ok p
first_line_written p l h = ap counted (number_in_decimal p (omega arith)) ∙ grind (arith, nat_tests)

accepts : (text : List ℕ) (s : Sheet) → check text ≡ accepted s → Lawful s × Writes text s
unfolding check
accepts text s e = go (lines text) (ended_lines text) e
  where
    turned : (ls : List (List ℕ)) → ls ≡ decimal s.points ∷ map row_written s.rows → Again ls text → Writes text s
    turned ls k (inl a) = inl (sym a ∙ ap ended k)
    turned ls k (inr a) = inr (sym a ∙ ap ended k)

    with-points : (p : ℕ) (l : List ℕ) (ls : List (List ℕ)) → first_line l ≡ Ok p → Again (l ∷ ls) text → read_rows p [] ls ≡ accepted s → Lawful s × Writes text s
    with-points p l ls f A e =
        let k = first_line_is l p f in
        let R = read_rows_is p [] ls s e in (
          subst Lawful R.whole (lawful_sheet p R.rows k.1 k.2 R.fit),
          turned (l ∷ ls)
              (ap (λ x. x ∷ ls) k.0 ∙ ap (λ xs. decimal p ∷ xs) R.written_so ∙ ap (λ (t : Sheet). decimal t.points ∷ map row_written t.rows) R.whole) A,
        )

    first : (l : List ℕ) (ls : List (List ℕ)) → Again (l ∷ ls) text → (x : Result ℕ Wrong) → first_line l ≡ x → headed x ls ≡ accepted s → Lawful s × Writes text s
    first l ls A (Ok p) f e = with-points p l ls f A e
    first l ls A (Err w) f e = absurd (refused_accepted e)

    go : (ls : List (List ℕ)) → Again ls text → read_lines ls ≡ accepted s → Lawful s × Writes text s
    go [] A e = absurd (refused_accepted e)
    go (l ∷ ls) A e = first l ls A (first_line l) refl e

-- the lines of a lawful sheet
sheet_lines : (s : Sheet) → Lawful s → AllByRecursion Line (decimal s.points ∷ map row_written s.rows)
sheet_lines s L = (
  (free_decimal line_feed s.points (omega arith) (omega arith), decimal_nonempty s.points (omega arith)),
  All-map Line row_written s.rows (All-weaker (LawfulRow s.points) (λ r. Line (row_written r)) (λ r l. row_line r (numbered s.points r L.few_points l)) s.rows L.each_row),
)

pub accepts_written : (text : List ℕ) (s : Sheet) → Lawful s → Writes text s → check text ≡ accepted s
unfolding check
accepts_written text s L W =
    ap read_lines (as-lines W)
    ∙ ap (λ x. headed x (map row_written s.rows)) (first_line_written s.points L.some_points L.few_points)
    ∙ read_rows_written s.points [] s.rows L.few_points
    (whole_fits s.points [] s.rows (record { few = L.few_rows; each = L.each_row; once = L.once }))
  where
    as-lines : Writes text s → lines text ≡ decimal s.points ∷ map row_written s.rows
    as-lines (inl e) = ap lines e ∙ lines_ended (decimal s.points ∷ map row_written s.rows) (sheet_lines s L)
    as-lines (inr e) = lines_unended (decimal s.points ∷ map row_written s.rows) text (sheet_lines s L) e

pub accepts_exactly : AcceptsExactly
accepts_exactly text s = (accepts text s, λ h. accepts_written text s h.0 h.1)
