use Rattle.std.proofs.Common.{ap, ◌∙◌, Option}
use Rattle.std.specs.Option.{unwrap_or}
use Rattle.entries.specs.Table.{values}
use Rattle.entries.proofs.Places.{or_is}
use Rattle.entries.proofs.table.Entries.at.Goals as goal

pub returns : goal.returns
returns g c =
    c.unwrap_or.ensures ∙ ap (λ (o : Option g.row.V.Denot). unwrap_or o c.args.otherwise) c.get.ensures ∙ or_is (values c.args.self.now) c.args.otherwise c.args.label
