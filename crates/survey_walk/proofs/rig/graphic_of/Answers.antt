use Rattle.std.proofs.Common.{◌<◌, length, refl, ap, ◌∙◌, arith}
use Rattle.std.proofs.lemmas.Result.{err_from_is_err_and}
use Rattle.graphic.specs.Edges.{graph}
use Rattle.labels.specs.Sets.{limit}
use Rattle.survey.specs.View.{rows_of, row_of}
use Rattle.survey_laws.specs.Sheets.{LawfulRow}
use Rattle.survey_walk.specs.Rigs.{row_ends}
use Rattle.survey_walk.proofs.Rows.{take_more, each_row, taken}
use Rattle.survey_walk.proofs.Entries.{never_refused}
use Rattle.survey_walk.proofs.rig.graphic_of.Goals as goal

pub returns-in_err-add : goal.returns-in_err-add
returns-in_err-add c =
    let p = err_from_is_err_and c.from_residual-in_err-add.result c.from_residual-in_err-add.ensures.1 in
    let s = c.args.survey.now in let inv = c.loop-row.invariant in let i = c.loop-row.row-index in
    let kept = c.rows-row-items.result.now in let are = c.rows-row-items.ensures.are in let h : i < length kept = omega arith in
    let small : length (graph c.loop-row.graphic) < limit =
    omega (arith, ap length inv.1, taken row_of kept (rows_of s) are i h row_ends, h, c.rows-row-items.ensures.few) in
    rw p.1 (λ L. let row = each_row row_of kept (rows_of s) are i h (LawfulRow s.points) _ L.each_row in
    never_refused s.points c.loop-row.graphic.points (length (graph c.loop-row.graphic)) _ _ c.in_err-add.field-0.0
    inv.0 c.in_err-add.ensures.answer row.ranges.a_is_point row.ranges.b_is_point small)

pub loop-row-preserved : goal.loop-row-preserved
loop-row-preserved c =
    let inv = c.loop-row.invariant in let kept = c.rows-row-items.result.now in let h : c.loop-row.row-index < length kept = omega arith in
    let more = c.in_ok-add.ensures.added refl in
    (more.points ∙ inv.0, take_more row_of kept (rows_of c.args.survey.now) c.rows-row-items.ensures.are c.loop-row.row-index h row_ends _ _ _ inv.1 more.edges)
