use Rattle.std.proofs.Common.{Bool, sym, ap, ◌∙◌, subst}
use Rattle.label_words.proofs.Held.{swap_is}
use Rattle.answer_laws.specs.Answers.{Right, noted}
use Rattle.answer_laws.proofs.Right.{noted_right}
use Rattle.answers.specs.Table.{known}
use Rattle.walk.proofs.Known.{either_right}
use Rattle.walk.proofs.candidates.ask.Goals as goal

pub returns-clause-known : goal.returns-clause-known
returns-clause-known g c =
    let f = g.P.Matroid.independent c.args.matroid.now in let t = c.args.present in let a = c.args.inside in let b = c.args.outside in
    let o = known c.args.answers.now in
    let same = c.is_independent-answer.ensures ∙ ap f (swap_is t a b _ c.requires.inside.0 c.requires.inside.1 c.requires.outside.0 c.requires.outside.1 c.swapped.ensures) in
    subst (Right f t) (sym c.note.ensures)
    (either_right f t _ _ o (subst (λ (r : Bool). Right f t (noted o a b r)) (sym same) (noted_right f t o a b c.requires.known)) c.requires.known)
