use Rattle.listing.proofs.Surveys.{lines_are_bases, one_text}
use Rattle.listing.proofs.program.list_survey.Goals as goal

pub returns-in_err-length-clause-one : goal.returns-in_err-length-clause-one
returns-in_err-length-clause-one g c = one_text

pub returns-in_err-length-clause-bases : goal.returns-in_err-length-clause-bases
returns-in_err-length-clause-bases g c = lines_are_bases

pub returns-clause-one : goal.returns-clause-one
returns-clause-one g c = one_text

pub returns-clause-bases : goal.returns-clause-bases
returns-clause-bases g c = lines_are_bases
