use Rattle.std.proofs.Common.{sym, refl, ap, ◌∙◌}
use Rattle.chain_lists.specs.Lists.{kind_length}
use Rattle.chain_reader.proofs.Says.{exchange_says}
use Rattle.chain_reader.proofs.states.Progress.exchange.Goals as goal

pub returns : goal.returns
returns c =
    λ l k.
    exchange_says l c.args.self _ _ c.args.found.body.now c.args.found.spot k (c.args.found.shaped ∙ ap kind_length c.requires) c.args.found.few
    (sym (c.is_empty.ensures l.totals k.stage.2) ∙ c.if-not-is_empty.false) refl refl
    (sym c.is_lawful.ensures ∙ c.if-not-is_lawful.false) c.after-present.ensures.lawful
