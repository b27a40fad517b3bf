-- What the check of one row takes: exactly the written rows that are lawful and new.
use Rattle.std.proofs.Common.{◌≡◌, ℕ, ◌<◌, ◌≤◌, Bool, true, false, cond, eqb, leb, List, [], ◌∷◌, ◌++◌, length, ℤ, Some, None, Ok, Err, decimal, Option, sym, refl, ap, ◌∙◌, subst, inl, inr, arith, length-append, length-take}
use Rattle.std.specs.Fmt.{signed_decimal}
use Rattle.std.specs.List.{AllByRecursion}
use Rattle.std.proofs.lemmas.Bool.Decides.{nat_tests}
use Rattle.std.proofs.lemmas.Bool.{lt-leb, leb-true, leb-false, eqb-true, eqb-false, ne_eqb, true≢false}
use Rattle.std.proofs.lemmas.Option.{none-some}
use Rattle.std.proofs.ByRecursion.{All-append}
use Rattle.labels.specs.Sets.{limit}
use Rattle.survey_laws.specs.Sheets.{SurveyRow, Numbered, InRange, SamePair, Met, LawfulRow, most_points, comma, line_feed, row_written}
use Rattle.survey_laws.specs.Check.{Wrong, wrong_form, same_point, out_of_range, repeated_pair, too_many_rows, number_in, shift_in, until, before, after, row_from, row_in, in_range, same_pair, met, judged, formed, next_row}
use Rattle.survey_laws.specs.Laws.{WrongRow}
use Rattle.survey_laws.proofs.Pieces.{Line, before_front, after_front, cut_whole}
use Rattle.survey_laws.proofs.Numbers.{number_in_is, number_in_decimal, number_some, shift_in_is, shift_in_signed, shift_some, free_decimal, free_signed}

-- ---- the form

some_before : (b : ℕ) (s : List ℕ) → 0 < length (before b s) → 0 < length s
some_before b s h = omega (arith, length-take (until b s) s)

assembled : {s s₁ s₂ s₃ f₁ f₂ f₃ l₁ l₂ l₃ l₄ : List ℕ} → s ≡ f₁ ++ comma ∷ s₁ → s₁ ≡ f₂ ++ comma ∷ s₂ → s₂ ≡ f₃ ++ comma ∷ s₃
    → f₁ ≡ l₁ → f₂ ≡ l₂ → f₃ ≡ l₃ → s₃ ≡ l₄ → s ≡ l₁ ++ comma ∷ (l₂ ++ comma ∷ (l₃ ++ comma ∷ l₄))
assembled k₁ k₂ k₃ n₁ n₂ n₃ n₄ = cc

pub row_in_is : (s : List ℕ) (r : SurveyRow) → row_in s ≡ Some r → (s ≡ row_written r) × Numbered r
unfolding row_in
row_in_is s r e =
    go (number_in (before comma s)) refl (number_in (before comma (after comma s))) refl (shift_in (before comma (after comma (after comma s)))) refl
    (shift_in (after comma (after comma (after comma s)))) refl e
  where
    go : (p : Option ℕ) → number_in (before comma s) ≡ p → (q : Option ℕ) → number_in (before comma (after comma s)) ≡ q
        → (x : Option ℤ) → shift_in (before comma (after comma (after comma s))) ≡ x → (y : Option ℤ) → shift_in (after comma (after comma (after comma s))) ≡ y
        → row_from p q x y ≡ Some r → (s ≡ row_written r) × Numbered r
    go None e₁ q e₂ x e₃ y e₄ e = absurd (none-some _ e)
    go (Some a) e₁ None e₂ x e₃ y e₄ e = absurd (none-some _ e)
    go (Some a) e₁ (Some b) e₂ None e₃ y e₄ e = absurd (none-some _ e)
    go (Some a) e₁ (Some b) e₂ (Some v) e₃ None e₄ e = absurd (none-some _ e)
    go (Some a) e₁ (Some b) e₂ (Some v) e₃ (Some w) e₄ e =
        let s₁ = after comma s in
        let s₂ = after comma s₁ in
        let s₃ = after comma s₂ in
        let h₁ = some_before comma s₁ (number_some (before comma s₁) b e₂) in
        let h₂ = some_before comma s₂ (shift_some (before comma s₂) v e₃) in
        let h₃ = shift_some s₃ w e₄ in
        let k₁ = cut_whole comma s h₁ in
        let k₂ = cut_whole comma s₁ h₂ in
        let k₃ = cut_whole comma s₂ h₃ in
        let n₁ = number_in_is (before comma s) a e₁ in
        let n₂ = number_in_is (before comma s₁) b e₂ in
        let n₃ = shift_in_is (before comma s₂) v e₃ in
        let n₄ = shift_in_is s₃ w e₄ in
        let k : record { a = a; b = b; across = v; along = w } ≡ r = cc in (
          assembled k₁ k₂ k₃ n₁.0 n₂.0 n₃.0 n₄.0 ∙ ap row_written k,
          subst Numbered k (record { a_short = n₁.1; b_short = n₂.1; across_short = n₃.1; along_short = n₄.1 }),
        )

row_in_parts : (s : List ℕ) (r : SurveyRow) → number_in (before comma s) ≡ Some r.a → number_in (before comma (after comma s)) ≡ Some r.b
    → shift_in (before comma (after comma (after comma s))) ≡ Some r.across → shift_in (after comma (after comma (after comma s))) ≡ Some r.along → row_in s ≡ Some r
unfolding row_in
row_in_parts s r e₁ e₂ e₃ e₄ = rw (e₁, e₂, e₃, e₄)

row_in_written : (r : SurveyRow) → Numbered r → row_in (row_written r) ≡ Some r
row_in_written r N =
    let t₃ = signed_decimal r.along in
    let t₂ = signed_decimal r.across ++ comma ∷ t₃ in
    let t₁ = decimal r.b ++ comma ∷ t₂ in
    let f₁ = free_decimal comma r.a (omega arith) N.a_short in
    let f₂ = free_decimal comma r.b (omega arith) N.b_short in
    let f₃ = free_signed comma r.across (omega arith) N.across_short in
    let k₁ = after_front comma (decimal r.a) t₁ f₁ in
    let k₂ = ap (after comma) k₁ ∙ after_front comma (decimal r.b) t₂ f₂ in
    let k₃ = ap (after comma) k₂ ∙ after_front comma (signed_decimal r.across) t₃ f₃ in
    row_in_parts (row_written r) r
    (ap number_in (before_front comma (decimal r.a) t₁ f₁) ∙ number_in_decimal r.a N.a_short)
    (ap number_in (ap (before comma) k₁ ∙ before_front comma (decimal r.b) t₂ f₂) ∙ number_in_decimal r.b N.b_short)
    (ap shift_in (ap (before comma) k₂ ∙ before_front comma (signed_decimal r.across) t₃ f₃) ∙ shift_in_signed r.across N.across_short)
    (ap shift_in k₃ ∙ shift_in_signed r.along N.along_short)

-- a written row is a line
pub row_line : (r : SurveyRow) → Numbered r → Line (row_written r)
row_line r N = (
  All-append Fed (decimal r.a) _ (free_decimal line_feed r.a (omega arith) N.a_short) (
    refl,
    All-append Fed (decimal r.b) _ (free_decimal line_feed r.b (omega arith) N.b_short) (
      refl,
      All-append Fed (signed_decimal r.across) _ (free_signed line_feed r.across (omega arith) N.across_short)
          (refl, free_signed line_feed r.along (omega arith) N.along_short),
    ),
  ),
  simp length-append (omega arith),
)
  where
    Fed : ℕ → Type 0
    Fed c = eqb c line_feed ≡ false

-- ---- the tests

-- the pair of r is not that of a row of qs
abbrev pub Unmet : List SurveyRow → SurveyRow → Type 0
Unmet qs r = AllByRecursion (λ q. SamePair q r → ⊥) qs

same_pair_tells : (q r : SurveyRow) → same_pair q r ≡ true → SamePair q r
same_pair_tells q r e = grind (arith, nat_tests)

same_pair_passes : (q r : SurveyRow) → SamePair q r → same_pair q r ≡ true
same_pair_passes q r (inl e) = let x = e.0 in let y = e.1 in grind (arith, nat_tests)
same_pair_passes q r (inr e) = let x = e.0 in let y = e.1 in grind (arith, nat_tests)

met_tells : (qs : List SurveyRow) (r : SurveyRow) → met qs r ≡ false → Unmet qs r
met_tells [] r e = tt
met_tells (q ∷ qs) r e = go (same_pair q r) refl e (met_tells qs r)
  where
    go : (x : Bool) → same_pair q r ≡ x → cond x true (met qs r) ≡ false → (met qs r ≡ false → Unmet qs r) → Unmet (q ∷ qs) r
    go true p e ih = absurd (true≢false e)
    go false p e ih = (λ s. true≢false (sym (same_pair_passes q r s) ∙ p), ih e)

met_passes : (qs : List SurveyRow) (r : SurveyRow) → Unmet qs r → met qs r ≡ false
met_passes [] r h = refl
met_passes (q ∷ qs) r h = go (same_pair q r) refl (met_passes qs r h.1)
  where
    go : (x : Bool) → same_pair q r ≡ x → met qs r ≡ false → cond x true (met qs r) ≡ false
    go true p ih = absurd (h.0 (same_pair_tells q r p))
    go false p ih = ih

-- the ranges of a row
in_range_tells : (p : ℕ) (r : SurveyRow) → in_range p r ≡ true → InRange p r
in_range_tells p r e = record {
  a_is_point = (grind (arith, nat_tests), grind (arith, nat_tests));
  b_is_point = (grind (arith, nat_tests), grind (arith, nat_tests));
  across_reaches = grind (arith, nat_tests);
  along_reaches = grind (arith, nat_tests);
}

in_range_passes : (p : ℕ) (r : SurveyRow) → InRange p r → in_range p r ≡ true
in_range_passes p r L =
    let a₀ = L.a_is_point.0 in
    let a₁ = L.a_is_point.1 in
    let b₀ = L.b_is_point.0 in
    let b₁ = L.b_is_point.1 in
    let x = L.across_reaches in
    let y = L.along_reaches in
    grind (arith, nat_tests)

pub numbered : (p : ℕ) (r : SurveyRow) → p ≤ most_points → LawfulRow p r → Numbered r
numbered p r h L =
    let R = L.ranges in
    record {
      a_short = omega (arith, R.a_is_point.1);
      b_short = omega (arith, R.b_is_point.1);
      across_short = omega (arith, R.across_reaches);
      along_short = omega (arith, R.along_reaches);
    }

-- a row that can come after the rows `done`
pub record Fitting (p : ℕ) (done : List SurveyRow) (r : SurveyRow) : Type 0 where
  pub room : length done < limit
  pub lawful : LawfulRow p r
  pub unmet : Unmet done r

pub err_ok : {X Y : Type 0} {x : X} {y : Y} → Err y ≡ Ok x → ⊥
err_ok e = let z : ◌≡◌ {A = ℕ} 0 1 = cc in omega arith

judged_is : (p : ℕ) (done : List SurveyRow) (r q : SurveyRow) → judged p done r ≡ Ok q → (r ≡ q) × LawfulRow p r × Unmet done r
unfolding judged
judged_is p done r q e = go (in_range p r) refl (eqb r.a r.b) refl (met done r) refl e
  where
    go : (x : Bool) → in_range p r ≡ x → (y : Bool) → eqb r.a r.b ≡ y → (z : Bool) → met done r ≡ z
        → cond x (cond y (Err same_point) (cond z (Err repeated_pair) (Ok r))) (Err out_of_range) ≡ Ok q → (r ≡ q) × LawfulRow p r × Unmet done r
    go true h true i z j e = absurd (err_ok e)
    go true h false i true j e = absurd (err_ok e)
    go true h false i false j e = (cc, record { ranges = in_range_tells p r h; apart = eqb-false r.a r.b i }, met_tells done r j)
    go false h y i z j e = absurd (err_ok e)

pub next_row_is : (p : ℕ) (done : List SurveyRow) (l : List ℕ) (r : SurveyRow) → next_row p done l ≡ Ok r → (l ≡ row_written r) × Fitting p done r
unfolding next_row
next_row_is p done l r e = go (leb limit (length done)) refl (row_in l) refl e
  where
    go : (x : Bool) → leb limit (length done) ≡ x → (o : Option SurveyRow) → row_in l ≡ o → cond x (Err too_many_rows) (formed o (judged p done)) ≡ Ok r
        → (l ≡ row_written r) × Fitting p done r
    go true h o i e = absurd (err_ok e)
    go false h None i e = absurd (err_ok e)
    go false h (Some q) i e =
        let k = judged_is p done q r e in (
          (row_in_is l q i).0 ∙ ap row_written k.0,
          record { room = leb-false limit (length done) h; lawful = subst (LawfulRow p) k.0 k.1; unmet = subst (Unmet done) k.0 k.2 },
        )

pub next_row_written : (p : ℕ) (done : List SurveyRow) (r : SurveyRow) → p ≤ most_points → Fitting p done r → next_row p done (row_written r) ≡ Ok r
unfolding next_row judged
next_row_written p done r h F =
    rw (
      lt-leb limit (length done) F.room,
      row_in_written r (numbered p r h F.lawful),
      in_range_passes p r F.lawful.ranges,
      ne_eqb r.a r.b F.lawful.apart,
      met_passes done r F.unmet,
    )

-- ---- what is wrong with a line

met_has : (qs : List SurveyRow) (r : SurveyRow) → met qs r ≡ true → Met qs r
met_has [] r e = absurd (true≢false (sym e))
met_has (q ∷ qs) r e = go (same_pair q r) refl e (met_has qs r)
  where
    go : (x : Bool) → same_pair q r ≡ x → cond x true (met qs r) ≡ true → (met qs r ≡ true → Met qs r) → Met (q ∷ qs) r
    go true p e ih = inl (same_pair_tells q r p)
    go false p e ih = inr (ih e)

pub next_row_wrong : (p : ℕ) (done : List SurveyRow) (l : List ℕ) (w : Wrong) → next_row p done l ≡ Err w → WrongRow p done l w
unfolding next_row judged
next_row_wrong p done l w e = go (leb limit (length done)) refl (row_in l) refl e
  where
    after-form : (r : SurveyRow) → length done < limit → row_in l ≡ Some r → (x : Bool) → in_range p r ≡ x → (y : Bool) → eqb r.a r.b ≡ y → (z : Bool) → met done r ≡ z
        → cond x (cond y (Err same_point) (cond z (Err repeated_pair) (Ok r))) (Err out_of_range) ≡ Err w → WrongRow p done l w
    after-form r m i false h y j z k e =
        let v : out_of_range ≡ w = cc in
        let f = row_in_is l r i in
        subst (WrongRow p done l) v (m, (r, f.0, f.1, λ R. true≢false (sym (in_range_passes p r R) ∙ h)))
    after-form r m i true h true j z k e =
        let v : same_point ≡ w = cc in
        let f = row_in_is l r i in
        subst (WrongRow p done l) v (m, (r, f.0, f.1, (in_range_tells p r h, eqb-true r.a r.b j)))
    after-form r m i true h false j true k e =
        let v : repeated_pair ≡ w = cc in
        let f = row_in_is l r i in
        subst (WrongRow p done l) v (m, (r, f.0, f.1, (record { ranges = in_range_tells p r h; apart = eqb-false r.a r.b j }, met_has done r k)))
    after-form r m i true h false j false k e = absurd (err_ok (sym e))

    go : (x : Bool) → leb limit (length done) ≡ x → (o : Option SurveyRow) → row_in l ≡ o → cond x (Err too_many_rows) (formed o (judged p done)) ≡ Err w → WrongRow p done l w
    go true h o i e = let v : too_many_rows ≡ w = cc in subst (WrongRow p done l) v (leb-true limit (length done) h)
    go false h None i e =
        let v : wrong_form ≡ w = cc in
        subst (WrongRow p done l) v (leb-false limit (length done) h, λ r N q. none-some _ (sym i ∙ ap row_in q ∙ row_in_written r N))
    go false h (Some r) i e = after-form r (leb-false limit (length done) h) i (in_range p r) refl (eqb r.a r.b) refl (met done r) refl e
