-- The end of a list.
use Rattle.std.proofs.Common.{◌∙◌, ◌≡◌, ℕ, suc, ◌+◌, List, [], ◌∷◌, ◌++◌, length, codes, refl, ap, sym, None, add-zero, append_assoc, append-nil, subst, arith, Option, Result}
use Rattle.lines.specs.Text.{line_text}
use Rattle.matroid_laws.specs.Matroids.{bases}
use Rattle.measure.specs.declared.value.Shift.{Shift}
use Rattle.walk_laws.specs.Settings.{Setting, total_of}
use Rattle.walk_laws.specs.Steps.{State, step}
use Rattle.walk_laws.specs.Lives.{Life, begins, calls, advances, Runs, ends, goes}
use Rattle.walk_laws.specs.Law.{Always}
use Rattle.walk_laws.proofs.Lists.{reordered_refl}
use Rattle.labels.specs.Sets.{full, Subset}
use Rattle.outlet.specs.Sending.{Broken, Holding, Sends}
use Rattle.outlet.proofs.Pieces.{breaks_longer, sends_all}
use Rattle.listing.specs.Texts.{lines_text, list_text, total_line}
use Rattle.listing.specs.Hands.{AreBases, Begun, Hands, Ended}

-- the last of some lines
last_line : (n x : ℕ) (xs : List ℕ) → (before : List ℕ) × (last : ℕ) × (x ∷ xs ≡ before ++ last ∷ []) × (lines_text n (x ∷ xs) ≡ lines_text n before ++ (line_text (n + length xs) last ++ codes "\n"))
last_line n x [] = ([], x, refl, append-nil (line_text n x ++ codes "\n") ∙ ap (λ (k : ℕ). line_text k x ++ codes "\n") (sym (add-zero n)))
last_line n x (y ∷ ys) =
    let r = last_line (suc n) y ys in (
      x ∷ r.0,
      r.1,
      ap (λ (t : List ℕ). x ∷ t) r.2,
      ap (λ (t : List ℕ). (line_text n x ++ codes "\n") ++ t) r.3
          ∙ sym (append_assoc (line_text n x ++ codes "\n") (lines_text (suc n) r.0) (line_text (suc n + length ys) r.1 ++ codes "\n"))
          ∙ ap (λ (k : ℕ). ((line_text n x ++ codes "\n") ++ lines_text (suc n) r.0) ++ (line_text k r.1 ++ codes "\n")) (omega arith),
    )

module _ {R V : Type 0} (w : Setting R V) where
  -- a walk that hands out F has a life that ends with F
  pub life_on : {s₀ s : State R V} {H F : List ℕ} → Life w s₀ H s → Runs w s F → (t : State R V) × Life w s₀ (H ++ F) t × (step w t ≡ (None, t))
  life_on {s₀ = s₀} {s = s} {H = H} h (ends e) = (s, subst (λ (l : List ℕ). Life w s₀ l s) (sym (append-nil H)) h, e)
  life_on {s₀ = s₀} {H = H} h (goes {t = t} {F = F} q r) =
      let on = life_on (calls h (advances q)) r in
      (on.0, subst (λ (l : List ℕ). Life w s₀ l on.0) (append_assoc H (t.present ∷ []) F) on.1, on.2)

  pub ended : {s : State R V} {sets : List ℕ} → Hands w s sets → (t : State R V) × Life w s sets t × (step w t ≡ (None, t))
  ended {s = s} {sets = sets} h =
      let on = life_on begins h.runs in
      (on.0, subst (λ (l : List ℕ). Life w s l on.0) (sym h.whole) on.1, on.2)

  pub always : {s t : State R V} {sets : List ℕ} → Begun w s → Life w s sets t → Always w sets t
  always {t = t} {sets = sets} b life = b.law.always sets t (subst (λ (u : State R V). Life w u sets t) b.begins life)

  pub are_bases : {s : State R V} {sets : List ℕ} (b : Begun w s) → Subset (full w.n) b.opened → Hands w s sets → AreBases w sets
  are_bases {s = s} {sets = sets} b open_all h =
      let on = ended h in
      let A = always b on.1 in
      let W = b.law.whole open_all sets on.0 (subst (λ (u : State R V). Life w u sets on.0) b.begins on.1) in
      let count : length sets ≡ length (bases w.n w.independent) = sym A.counted ∙ W.count_all on.2 in
      let l = last_line 1 s.present h.others in
      record {
        all = W.all on.2;
        once = A.once;
        stepwise = A.stepwise;
        count = count;
        total = sym (A.totalled sets (reordered_refl sets)) ∙ W.total_all on.2;
        before = l.0;
        last = l.1;
        parted = h.whole ∙ l.2;
        numbered = ap (lines_text 1) h.whole
            ∙ l.3
            ∙ ap (λ (k : ℕ). lines_text 1 l.0 ++ (line_text k l.1 ++ codes "\n")) (omega (arith, ap (λ (ss : List ℕ). length ss) h.whole) ∙ count);
      }

-- count and total of a finished walk are those of the sets
pub ended_text : {R : Type 0} (w : Setting R Shift) {s t : State R Shift} {sets : List ℕ} → Begun w s → Ended w s t sets
    → lines_text 1 sets ++ total_line t.count t.total ≡ list_text w sets
ended_text w {t = t} {sets = sets} b e =
    let a = always w b e.life in
    λ i. lines_text 1 sets ++ total_line (a.counted i) (a.totalled sets (reordered_refl sets) i)

-- all lines and then the total
pub list_ended : {E R : Type 0} (w : Setting R Shift) {s t : State R Shift} {sets : List ℕ} (a b c : Option (List ℕ)) (before after : List ℕ) (r : Result (Unit {0}) E)
    → Begun w s → before ≡ [] → Holding a b after (before ++ lines_text 1 sets) → Ended w s t sets → Sends b c r (after ++ total_line t.count t.total) → Sends a c r (list_text w sets)
list_ended w {t = t} {sets = sets} a b c before after r begun clear h e k =
    sends_all {a = a} {b = b} c r (record {
      sent = h.sent;
      appended = h.appended;
      whole = sym (append_assoc h.sent after (total_line t.count t.total))
          ∙ ap (λ (l : List ℕ). l ++ total_line t.count t.total) (h.whole ∙ ap (λ (l : List ℕ). l ++ lines_text 1 sets) clear)
          ∙ ended_text w begun e;
    }) k

pub list_broken : {R : Type 0} (w : Setting R Shift) (sets : List ℕ) (a c : Option (List ℕ)) (before : List ℕ) → before ≡ [] → Broken a c (before ++ lines_text 1 sets) → Broken a c (list_text w sets)
list_broken w sets a c before clear k =
    breaks_longer (total_line (length sets) (total_of w sets)) (subst (λ (l : List ℕ). Broken a c (l ++ lines_text 1 sets)) clear k)
