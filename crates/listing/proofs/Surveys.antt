-- What the walk of any survey hands out.
use Rattle.std.proofs.Common.{◌≡◌, ℕ, List, refl, sym, ap, ◌∙◌, arith, subst, Option, Result}
use lib.ListN.{length-map}
use Rattle.labels.specs.Sets.{full}
use Rattle.labels.proofs.Passing.{highest_below_is, highest_below_none}
use Rattle.binary_laws.proofs.Laws.{binary_is}
use Rattle.measure.specs.Group.{shifts_group}
use Rattle.measure.specs.Shifts.{Shifts, entries_of}
use Rattle.measure.specs.declared.value.Shift.{Shift}
use Rattle.measure.specs.declared.interface.Measure.{Ghosts as MeasureOf}
use Rattle.tie_rule.specs.declared.closest.Closest.{Closest}
use Rattle.tie_rule.specs.declared.rule.TieRule.{Ghosts as TieRuleOf}
use Rattle.matroid.specs.declared.interface.Matroid.{Ghosts as MatroidOf}
use Rattle.graphic.specs.Edges.{graph}
use Rattle.graphic.specs.declared.graph.Graphic.{Graphic}
use Rattle.survey_laws.specs.Laws.{AcceptsExactly}
use Rattle.survey_laws.specs.Sheets.{Sheet}
use Rattle.survey_laws.specs.Check.{Outcome, accepted, refused, check}
use Rattle.walk_laws.specs.Settings.{Setting, Sound}
use Rattle.walk_laws.specs.Steps.{State}
use Rattle.walk.specs.declared.state.Walk.{Walk}
use Rattle.walk.specs.States.{state_of}
use Rattle.walk_laws.proofs.LawOfLife.{law_of_life}
use Rattle.survey_walk.specs.Opened.{Opened, closest, setting_for, survey_setting}
use Rattle.survey_walk.specs.Rigs.{row_ends}
use Rattle.survey_walk.proofs.Entries.{full_within}
use Rattle.listing.specs.Texts.{list_text}
use Rattle.listing.specs.Hands.{Begun}
use Rattle.listing.specs.Batches.{WholeList}
use Rattle.outlet.specs.Sending.{Sends}
use Rattle.listing.specs.Program.{LinesAreBases, OneText, TextFor, TextOf, beginning}
use Rattle.listing.proofs.Going.{hands_one}
use Rattle.listing.proofs.Ends.{are_bases}

-- matroid, tie rule and measure of a survey show their laws
sound : (s : Sheet) → Sound (survey_setting s)
sound s = record {
  matroid = binary_is _ _;
  ties = record { picks = λ _ e c f l h. highest_below_is e c f l h; idle = λ _ e c none. (highest_below_none e c none, refl) };
  group = shifts_group;
}

pub begins : (s : Sheet) → Begun (survey_setting s) (beginning s)
begins s = record { offered = 0; opened = full 64; rule = closest; begins = refl; law = law_of_life (survey_setting s) (sound s) 0 (full 64) closest }

pub lines_are_bases : LinesAreBases
unfolding begins
lines_are_bases s sets lawful on =
    are_bases (survey_setting s) (begins s) (full_within _ 64 (omega (arith, length-map s.rows row_ends, lawful.few_rows))) on

one_of : (o : Outcome) (t u : List ℕ) → TextOf o t → TextOf o u → t ≡ u
one_of (accepted s) t u p q = p.2 ∙ ap (λ (ss : List ℕ). list_text (survey_setting s) ss) (hands_one (survey_setting s) _ p.0 q.0 p.1 q.1) ∙ sym q.2
one_of (refused w row) t u p q = p ∙ sym q

pub one_text : OneText
one_text input t u p q = one_of (check input) t u p q

-- the walk that a text opens, and its list
module _ {matroids : MatroidOf Graphic} {rules : TieRuleOf Closest} {measures : MeasureOf Shifts Shift} {text : List ℕ} {sheet : Sheet}
    {walk : Walk Graphic Closest Shifts Shift matroids rules measures} (o : Opened text sheet walk) where
  same : setting_for (graph walk.matroid) (entries_of walk.measure) ≡ survey_setting sheet
  same = λ i. setting_for (o.edges i) (o.shifts i)

  pub has_begun : Begun (setting_for (graph walk.matroid) (entries_of walk.measure)) (state_of walk)
  has_begun = subst (λ (v : Setting Closest Shift). Begun v (state_of walk)) (sym same) (subst (λ (t : State Closest Shift). Begun (survey_setting sheet) t) (sym o.begins) (begins sheet))

  pub accepts : AcceptsExactly → check text ≡ accepted sheet
  accepts exactly = (exactly text sheet).1 (o.lawful, o.writes)

  -- what is written of it is the text for the text that was read, or broke off in it
  pub its_list : {E : Type 0} {old new : Option (List ℕ)} {r : Result (Unit {0}) E} → AcceptsExactly
      → WholeList (setting_for (graph walk.matroid) (entries_of walk.measure)) old new r (state_of walk)
      → (t : List ℕ) × TextFor text t × Sends old new r t
  its_list {old = old} {new = new} {r = r} exactly list =
      let l = subst (λ (t : State Closest Shift). WholeList (survey_setting sheet) old new r t) o.begins
      (subst (λ (v : Setting Closest Shift). WholeList v old new r (state_of walk)) same list) in
      let t = list_text (survey_setting sheet) l.sets in
      (t, subst (λ (k : Outcome). TextOf k t) (sym (accepts exactly)) (l.sets, l.hands, refl), l.sends)
