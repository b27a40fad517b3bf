use Rattle.std.proofs.Common.{rules, ℕ, length, sym, ap, ◌∙◌, arith}
use Rattle.labels.specs.Listed.{labels_in}
use Rattle.labels.proofs.Upwards.{labels_none}
use Rattle.labels.proofs.Member.{has_none}
use Rattle.label_words.proofs.Ascending.{next_is}
use Rattle.label_words.proofs.upwards.LabelsIterator.next.Goals as goal

pub returns-then-self-eq0-clause-steps : goal.returns-then-self-eq0-clause-steps
returns-then-self-eq0-clause-steps c =
    let none = sym c.self.view_is ∙ ap (λ (s : ℕ). labels_in s 64) c.if-self-eq0.true ∙ labels_none 0 64 (λ e _. has_none e) in
    (none, none)

pub returns-clause-steps : goal.returns-clause-steps
returns-clause-steps c = sym c.self.view_is ∙ next_is c.self.inside.rest (omega (arith, c.if-self-eq0.false)) (search rules)

pub returns-clause-goes : goal.returns-clause-goes
returns-clause-goes c =
    let q = ap (length {A = ℕ}) (sym c.self.view_is ∙ next_is c.self.inside.rest (omega (arith, c.if-self-eq0.false)) (search rules)) in
    record { on = λ _. (tt, tt, omega (arith, q)); keeps = tt; rests = λ _. tt }
