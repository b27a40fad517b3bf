-- The law of chain files.
use Rattle.chain_laws.specs.Laws.{LawOfFiles}
use Rattle.chain_laws.proofs.Verdicts.{one_list, not_both, one_refusal}
use Rattle.chain_laws.proofs.Sets.{one_file}

pub law : LawOfFiles
law = record { one_list = one_list; one_file = one_file; not_both = not_both; one_refusal = one_refusal }
