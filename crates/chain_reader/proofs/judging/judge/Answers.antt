use Rattle.chain_lists.specs.declared.Kind.TheVariants.{End}
use Rattle.chain_reader.specs.Reading.{Judged}
use Rattle.chain_reader.proofs.Says.{amid}
use Rattle.chain_reader.proofs.judging.judge.Goals as goal

pub returns-in-SoFar-End : goal.returns-in-SoFar-End
returns-in-SoFar-End c =
    λ b k.
    rw c.in-SoFar-End.is-1
    (amid (λ a. Judged a End c.args.found.body.now c.args.found.spot c.end.result) c.in-SoFar-End.is-0 k (λ l known. c.end.ensures l _ known))
