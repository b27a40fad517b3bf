use Rattle.std.proofs.Common.{rules, ◌≡◌, MatchOption}
use Rattle.entries.specs.Table.{entry_at, values}
use Rattle.graphic.specs.GraphsLemmas.{column_is}
use Rattle.graphic.proofs.independence.GraphicBinaryMatrixPLACES.column.Goals as goal

pub returns : goal.returns
returns c =
    let read : MatchOption (entry_at (values c.args.self.now.edges) c.args.label) (c.map_or.result ≡ 0) (λ e. c.map_or.result ≡ e.column) = search rules in
    column_is c.args.self.now c.args.label c.map_or.result read
