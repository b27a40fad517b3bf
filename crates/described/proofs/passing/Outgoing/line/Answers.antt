use Rattle.std.proofs.Common.{string_bytes}
use Rattle.std.proofs.lemmas.Result.{err_from_is_err_and}
use Rattle.described.proofs.Passed.{not_added}
use Rattle.described.proofs.passing.Outgoing.line.Goals as goal

pub returns-in_err-writeln : goal.returns-in_err-writeln
returns-in_err-writeln g c =
    let p = err_from_is_err_and c.from_residual.result c.from_residual.ensures.1 in
    not_added (g.D.Display.output c.args.line) _ (string_bytes c.args.self.now.held) _ c.from_residual.result p.0 p.1
