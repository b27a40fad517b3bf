use Rattle.partition_laws.proofs.Classes.{partition_is, partition_means}
use Rattle.partition_laws.proofs.partition_matroids_hold.Goals as goal

pub returns : goal.returns
returns c = record { is = partition_is; means = partition_means }
