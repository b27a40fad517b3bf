use Rattle.std.proofs.Common.{sym, ◌∙◌}
use Rattle.binary_laws.proofs.Odd.{binary_odd}
use Rattle.binary_matroid.proofs.independence.BinaryMatroid.is_independent.Goals as goal

pub returns : goal.returns
returns c =
    let odd = binary_odd _ _ c.args.set in let is = c.is_independent.ensures in
    record { is = is; odd = (λ h. odd.0 (sym is ∙ h), λ N. is ∙ odd.1 N) }
