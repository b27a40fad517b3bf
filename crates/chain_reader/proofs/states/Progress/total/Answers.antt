use Rattle.std.proofs.Common.{sym, ◌∙◌}
use Rattle.chain_reader.proofs.Says.{total_says}
use Rattle.chain_reader.proofs.states.Progress.total.Goals as goal

pub returns : goal.returns
returns c =
    λ l body k f bytes.
    total_says l c.args.self c.args.total body c.args.spot c.with.result k (sym c.has.ensures ∙ c.if-has.false) f bytes c.with.ensures
