use Rattle.chain_laws.proofs.Law.{law}
use Rattle.chain_laws.proofs.files_hold.Goals as goal

pub returns : goal.returns
returns c = record { law = law }
