use Rattle.std.proofs.Common.{ℕ, List, ◌++◌, codes, string_bytes, ap, ap₂, refl, sym, ◌∙◌, subst}
use Rattle.std.proofs.lemmas.Result.{err_from_is_err_and}
use Rattle.outlet.specs.Sending.{Broken, Holding, Passes}
use Rattle.walk.specs.States.{setting_of, state_of}
use Rattle.measure.specs.declared.value.Shift.{Shift}
use Rattle.measure.specs.declared.value.Word.{Word}
use Rattle.walk_laws.specs.declared.View.{View}
use Rattle.walk_laws.specs.Lives.{view_of}
use Rattle.described.specs.Files.{file_text, outcome, swaps_of}
use Rattle.walk_laws.specs.Settings.{Setting}
use Rattle.walk_laws.specs.Steps.{State, several}
use Rattle.described.specs.Files.{file_room}
use Rattle.described.specs.Walks.{total_text}
use Rattle.described.proofs.Whole.{by_beginning, alike, told, at_list, at_rank, at_total, at_file}
use Rattle.described.proofs.walking.write_walks.Goals as goal

pub returns-in_err-written : goal.returns-in_err-written
returns-in_err-written g c =
    let walk = c.begin-walk.result in
    let b = c.begin-walk.ensures in
    let steps = c.args.course.steps in
    let rank = c.rank-highest.result in
    let before = string_bytes c.args.out.now.held in
    let p = err_from_is_err_and c.from_residual.result c.from_residual.ensures.1 in (
      c.shifts.result,
      c.words-flips.result,
      rank,
      c.rank-highest.ensures,
      rw p.1 (told (λ (t : List ℕ). Broken (g.W.Write.contents c.args.out.now.writer) (g.W.Write.contents c.write_sets-written.new.out.writer) (before ++ t)) walk steps rank file_room b.matroid b.measure b.begun refl
          (at_list (setting_of _ _ _ walk) (state_of walk) steps rank _ file_room before c.in_err-written.ensures.lines)),
    )

pub returns-in_err-line : goal.returns-in_err-line
returns-in_err-line g c =
    let walk = c.begin-walk.result in
    let b = c.begin-walk.ensures in
    let steps = c.args.course.steps in
    let rank = c.rank-highest.result in
    let before = string_bytes c.args.out.now.held in
    let p = err_from_is_err_and c.from_residual-in_err-line.result c.from_residual-in_err-line.ensures.1 in (
      c.shifts.result,
      c.words-flips.result,
      rank,
      c.rank-highest.ensures,
      rw p.1 (told (λ (t : List ℕ). Broken (g.W.Write.contents c.args.out.now.writer) (g.W.Write.contents c.line.new.self.writer) (before ++ t)) walk steps rank file_room b.matroid b.measure b.begun refl
          (at_rank (setting_of _ _ _ walk) (state_of walk) steps rank _ file_room before (string_bytes c.write_sets-written.new.out.held) c.in_ok-written.ensures.lines c.in_err-line.ensures)),
    )

pub returns-in_err-write_totals : goal.returns-in_err-write_totals
returns-in_err-write_totals g c =
    let walk = c.begin-walk.result in
    let b = c.begin-walk.ensures in
    let b2 = c.begin-walk-2.ensures in
    let course = c.args.course in
    let rank = c.rank-highest.result in
    let before = string_bytes c.args.out.now.held in
    let matroid_is = c.close-matroid.ensures.matroid ∙ c.in_ok-written.ensures.keeps.matroid ∙ b.matroid in
    let lamps_is =
    by_beginning (λ (v : Setting g.row.R.Denot Word) (s : State g.row.R.Denot Word). (several v course.steps s).2.total.bits) c.begin-walk-2.result course.offered course.opened c.args.rule
    b2.matroid matroid_is b2.measure b2.begun in
    let total_is =
    ap₂ (λ (v : View Shift) (l : ℕ). total_text v.count v.total l) (c.close-matroid.ensures.view ∙ ap view_of c.in_ok-written.ensures.after)
    (ap (λ (v : View Word). v.total.bits) (c.close-matroid-2.ensures.view ∙ ap view_of c.advance_by.ensures.after)) in
    let p = err_from_is_err_and c.from_residual-in_err-write_totals.result c.from_residual-in_err-write_totals.ensures.1 in (
      c.shifts.result,
      c.words-flips.result,
      rank,
      c.rank-highest.ensures,
      rw p.1 (told (λ (t : List ℕ). Broken (g.W.Write.contents c.args.out.now.writer) (g.W.Write.contents c.write_totals.new.out.writer) (before ++ t)) walk course.steps rank file_room b.matroid b.measure b.begun lamps_is
          (at_total (setting_of _ _ _ walk) (state_of walk) course.steps rank _ file_room before (string_bytes c.write_sets-written.new.out.held) c.in_ok-written.ensures.lines (string_bytes c.line.new.self.held) c.in_ok-line.ensures
          (subst (λ (t : List ℕ). Broken (g.W.Write.contents c.line.new.self.writer) (g.W.Write.contents c.write_totals.new.out.writer) (string_bytes c.line.new.self.held ++ (t ++ codes "\n"))) total_is c.in_err-write_totals.ensures))),
    )

pub returns : goal.returns
returns g c =
    let walk = c.begin-walk.result in
    let b = c.begin-walk.ensures in
    let b2 = c.begin-walk-2.ensures in
    let b3 = c.begin-walk-3.ensures in
    let course = c.args.course in
    let rank = c.rank-highest.result in
    let before = string_bytes c.args.out.now.held in
    let rest = string_bytes c.write_totals.new.out.held in
    let after = string_bytes c.write_file-written.new.out.held in
    let lamps = (several (setting_of _ _ _ c.begin-walk-2.result) course.steps (state_of c.begin-walk-2.result)).2.total.bits in
    let matroid_is = c.close-matroid.ensures.matroid ∙ c.in_ok-written.ensures.keeps.matroid ∙ b.matroid in
    let lamps_is =
    by_beginning (λ (v : Setting g.row.R.Denot Word) (s : State g.row.R.Denot Word). (several v course.steps s).2.total.bits) c.begin-walk-2.result course.offered course.opened c.args.rule
    b2.matroid matroid_is b2.measure b2.begun in
    let bits_are = ap (λ (v : View Word). v.total.bits) (c.close-matroid-2.ensures.view ∙ ap view_of c.advance_by.ensures.after) in
    let total_is =
    ap₂ (λ (v : View Shift) (l : ℕ). total_text v.count v.total l) (c.close-matroid.ensures.view ∙ ap view_of c.in_ok-written.ensures.after) bits_are in
    let file_is =
    ap₂ (λ (n l : ℕ).
    let s = state_of c.begin-walk-3.result in
    let r = several (setting_of _ _ _ c.begin-walk-3.result) course.steps s in
    file_text (outcome file_room n s.present (swaps_of r.0)) r.2.total l)
    (c.size-n.ensures ∙ ap g.P.Matroid.size (sym b3.matroid)) bits_are
    ∙ alike (λ (v : Setting g.row.R.Denot Shift) (s : State g.row.R.Denot Shift). file_text (outcome file_room v.n s.present (swaps_of (several v course.steps s).0)) (several v course.steps s).2.total lamps)
    c.begin-walk-3.result walk course.offered course.opened c.args.rule
    b3.matroid b.matroid (c.close-matroid-2.ensures.matroid ∙ c.advance_by.ensures.keeps.matroid ∙ b2.matroid ∙ matroid_is)
    b3.measure b.measure (c.close-matroid.ensures.measure ∙ c.in_ok-written.ensures.keeps.measure ∙ b.measure)
    b3.begun b.begun in (
      c.shifts.result,
      c.words-flips.result,
      rank,
      c.rank-highest.ensures,
      told (λ (t : List ℕ). Passes (g.W.Write.contents c.args.out.now.writer) (g.W.Write.contents c.write_file-written.new.out.writer) c.write_file-written.result after (before ++ t)) walk course.steps rank file_room b.matroid b.measure b.begun lamps_is
          (at_file (setting_of _ _ _ walk) (state_of walk) course.steps rank lamps file_room before (string_bytes c.write_sets-written.new.out.held) c.in_ok-written.ensures.lines (string_bytes c.line.new.self.held) c.in_ok-line.ensures
          (g.W.Write.contents c.write_file-written.new.out.writer) rest after c.write_file-written.result
          (subst (λ (t : List ℕ). Holding (g.W.Write.contents c.line.new.self.writer) (g.W.Write.contents c.write_totals.new.out.writer) rest (string_bytes c.line.new.self.held ++ (t ++ codes "\n"))) total_is c.in_ok-write_totals.ensures)
          (subst (λ (t : List ℕ). Passes (g.W.Write.contents c.write_totals.new.out.writer) (g.W.Write.contents c.write_file-written.new.out.writer) c.write_file-written.result after (rest ++ (t ++ codes "\n"))) file_is c.write_file-written.ensures)),
    )
