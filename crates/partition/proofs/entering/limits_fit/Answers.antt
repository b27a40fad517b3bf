use Rattle.std.proofs.Common.{rules, ◌≤◌, ◌↔◌, IsTrue}
use Rattle.std.specs.List.{All}
use Rattle.labels.specs.Sets.{limit}
use Rattle.partition.proofs.Limits.{fits_is}
use Rattle.partition.proofs.entering.limits_fit.Goals as goal

pub returns : goal.returns
returns c =
    let q : IsTrue c.all.result ↔ All (λ l. l ≤ limit) c.args.limits.now = search rules in
    fits_is c.args.limits.now c.all.result (search rules) q
