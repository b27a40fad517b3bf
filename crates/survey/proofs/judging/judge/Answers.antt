use Rattle.std.proofs.Common.{rules}
use Rattle.survey_laws.specs.Check.{judged}
use Rattle.survey.proofs.judging.judge.Goals as goal

pub returns-in_err-row : goal.returns-in_err-row
unfolding judged
returns-in_err-row c = search rules

pub returns-then-row : goal.returns-then-row
unfolding judged
returns-then-row c = search rules

pub returns-then-has_pair : goal.returns-then-has_pair
unfolding judged
returns-then-has_pair c = search rules

pub returns : goal.returns
unfolding judged
returns c = search rules
