use Rattle.matroid_laws.proofs.Bases.{same_card, exchange, exchange_back}
use Rattle.matroid_laws.proofs.Tests.{base_tells, base_passes, bases_have, bases_are, bases_once}
use Rattle.matroid_laws.proofs.Greedy.{start_base, greedy_ranks}
use Rattle.matroid_laws.proofs.Uniform.{uniform_is}
use Rattle.matroid_laws.proofs.bases_hold.Goals as goal

pub returns : goal.returns
returns c = record {
  tested = λ n independent b. (base_tells n independent b, base_passes n independent b);
  listed = λ n independent M. (bases_once n independent M, λ b. (bases_are n independent M b, bases_have n independent M b));
  card = same_card;
  out = exchange;
  into = exchange_back;
  starts = start_base;
  ranks = greedy_ranks;
  uniform = uniform_is;
}
