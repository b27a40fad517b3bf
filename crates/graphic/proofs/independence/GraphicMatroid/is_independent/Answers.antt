use Rattle.std.proofs.Common.{sym, ◌∙◌}
use Rattle.binary_laws.proofs.Odd.{graphic_odd}
use Rattle.graphic.specs.GraphsLemmas.{joined}
use Rattle.graphic.proofs.independence.GraphicMatroid.is_independent.Goals as goal

pub returns : goal.returns
returns c =
    let odd = graphic_odd _ _ _ (joined c.args.self.now) c.args.set in let is = c.is_independent.ensures in
    record { is = is; odd = (λ h. odd.0 (sym is ∙ h), λ N. is ∙ odd.1 N) }
