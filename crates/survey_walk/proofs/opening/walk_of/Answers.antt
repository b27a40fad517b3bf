use Rattle.std.proofs.Common.{◌≡◌, length, refl, sym, ap, ◌∙◌, subst, arith, Result, Ok, Err, MatchResult, IsOk}
use Rattle.std.proofs.lemmas.Result.{MatchResult-at_ok}
use lib.ListN.{length-map}
use Rattle.labels.specs.Sets.{full}
use Rattle.graphic.specs.Edges.{graph}
use Rattle.graphic.specs.declared.graph.Graphic.{Graphic}
use Rattle.measure.specs.Shifts.{entries_of}
use Rattle.measure.specs.declared.value.Shift.{Shift}
use Rattle.tie_rule.specs.declared.closest.Closest.{Closest}
use Rattle.walk_laws.specs.Settings.{Setting}
use Rattle.walk_laws.specs.Steps.{begun}
use Rattle.walk_laws.specs.Law.{LawOfLife, SameAsG}
use Rattle.survey.specs.View.{sheet_of}
use Rattle.survey_walk.specs.Rigs.{edges_of, row_ends}
use Rattle.survey_walk.proofs.Entries.{full_within}
use Rattle.survey_walk.specs.Opened.{setting_for, survey_setting, closest}
use Rattle.survey_walk.proofs.opening.walk_of.Goals as goal

-- what cannot be refused is made
is_made : {A E : Type 0} (r : Result A E) (P : A → Type 0) (Q : E → Type 0) → MatchResult r P Q → ((e : E) → Q e → ⊥) → IsOk r
is_made (Ok x) P Q m h = refl
is_made (Err e) P Q m h = absurd (h e m)

pub unwrap-graphic-requires : goal.unwrap-graphic-requires
unwrap-graphic-requires c =
    let lawful = ((c.in_ok-survey.ensures.accepts _ (sheet_of c.in_ok-survey.survey)).0 (sym c.in_ok-survey.ensures.is)).0 in
    is_made c.graphic_of.result _ _ c.graphic_of.ensures (λ _ never. never lawful)

pub unwrap-shifts-requires : goal.unwrap-shifts-requires
unwrap-shifts-requires c = is_made c.shifts_of.result _ _ c.shifts_of.ensures (λ _ never. never)

pub returns : goal.returns
returns c =
    let told = c.begin.ensures in let read = c.in_ok-survey.ensures in let s = sheet_of c.in_ok-survey.survey in
    let accepted = (read.accepts c.args.text.now s).0 (sym read.is) in
    let graph_is = MatchResult-at_ok _ _ _ c.unwrap-graphic.ensures c.graphic_of.ensures in
    let shifts-are = MatchResult-at_ok _ _ _ c.unwrap-shifts.ensures c.shifts_of.ensures in
    let same : setting_for (graph c.unwrap-graphic.result) (entries_of c.unwrap-shifts.result) ≡ survey_setting s = λ i. setting_for (graph_is.1 i) (shifts-are i) in
    record {
      lawful = accepted.0;
      writes = accepted.1;
      points = ap (λ (g : Graphic). g.points) told.matroid ∙ graph_is.0;
      edges = ap graph told.matroid ∙ graph_is.1;
      shifts = ap entries_of told.measure ∙ shifts-are;
      open_all = full_within (length (edges_of s)) 64 (omega (arith, length-map s.rows row_ends, accepted.0.few_rows));
      begins = told.begun ∙ ap (λ (w : Setting Closest Shift). begun w 0 (full 64) closest) same;
      law = subst (λ (w : Setting Closest Shift). LawOfLife w 0 (full 64) closest) same told.law;
      algorithm = subst (λ (w : Setting Closest Shift). SameAsG w 0 (full 64) closest) same told.algorithm;
    }
