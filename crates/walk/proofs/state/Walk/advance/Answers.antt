use Rattle.std.proofs.Common.{sym, ap, ◌∙◌, Option}
use Rattle.walk_laws.specs.declared.Exchange.{Exchange}
use Rattle.walk_laws.specs.Lives.{advances}
use Rattle.walk.specs.States.{setting_of, state_of}
use Rattle.walk.proofs.Sound.{sound}
use Rattle.walk.proofs.Advance.{advance_none}
use Rattle.walk.proofs.state.Walk.advance.Goals as goal

pub returns-in_err-label-clause-step : goal.returns-in_err-label-clause-step
returns-in_err-label-clause-step g c =
    let s = c.args.self.now in
    let w = setting_of g.P.Matroid g.R.TieRule g.M.Measure s in
    let W = sound g.P.Matroid g.R.TieRule g.M.Measure s.matroid s.measure (g.met.P.Matroid.matroid s.matroid) g.met.R.TieRule.lawful g.met.M.Measure.lawful in
    advance_none w W (state_of s) s.based c.in_err-label.ensures.found ∙ ap (λ (x : Option Exchange). (x, state_of s)) (sym c.from_residual.ensures)

pub returns-in_err-label-clause-call : goal.returns-in_err-label-clause-call
returns-in_err-label-clause-call g c =
    let s = c.args.self.now in
    let w = setting_of g.P.Matroid g.R.TieRule g.M.Measure s in
    let W = sound g.P.Matroid g.R.TieRule g.M.Measure s.matroid s.measure (g.met.P.Matroid.matroid s.matroid) g.met.R.TieRule.lawful g.met.M.Measure.lawful in
    advances (advance_none w W (state_of s) s.based c.in_err-label.ensures.found ∙ ap (λ (x : Option Exchange). (x, state_of s)) (sym c.from_residual.ensures))

pub returns-clause-call : goal.returns-clause-call
returns-clause-call g c = advances c.exchange.ensures.step
