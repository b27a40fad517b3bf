use Rattle.answer_laws.proofs.Right.{none_right, noted_right, carried_right}
use Rattle.answer_laws.proofs.answers_hold.Goals as goal

pub returns : goal.returns
returns c = record {
  none = none_right;
  noted = noted_right;
  carried = λ n independent M t l m o T i p out U R. carried_right n independent M t l m o T i p out U R;
}
