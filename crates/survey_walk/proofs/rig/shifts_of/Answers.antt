use Rattle.std.proofs.Common.{◌<◌, ◌∷◌, [], ◌++◌, length, get_or, ℤ, pos, ◌∙◌, ap₂, arith, w64, SFits, rules}
use Rattle.std.proofs.lemmas.Int.{to_z-of_z}
use Rattle.measure.specs.Shifts.{entries_of, shift_of}
use Rattle.survey.specs.View.{rows_of, row_of}
use Rattle.survey.specs.declared.values.Row.{Row}
use Rattle.survey_walk.specs.Rigs.{row_shift}
use Rattle.survey_walk.proofs.Rows.{take_more}
use Rattle.survey_walk.proofs.rig.shifts_of.Goals as goal

pub loop-row-preserved : goal.loop-row-preserved
loop-row-preserved c =
    let kept = c.rows-row-items.result.now in let i = c.loop-row.row-index in let h : i < length kept = omega arith in
    let row : Row = get_or kept i (record { a = 0; b = 0; across = pos 0; along = pos 0 }) in
    let x : SFits w64 row.across = search rules in let y : SFits w64 row.along = search rules in
    take_more row_of kept (rows_of c.args.survey.now) c.rows-row-items.ensures.are i h row_shift _ _ _ c.loop-row.invariant
    (c.in_ok-add.ensures.cases.1
    ∙ ap₂ (λ (a b : ℤ). entries_of c.loop-row.shifts ++ (shift_of a b ∷ [])) (to_z-of_z w64 row.across x) (to_z-of_z w64 row.along y))
