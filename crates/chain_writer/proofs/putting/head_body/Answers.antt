use Rattle.std.proofs.Common.{ℕ, List, ◌∷◌, ap, sym, ◌∙◌}
use Rattle.std.proofs.lemmas.List.{append-nil}
use Rattle.chain_lists.proofs.Bytes.{little_8}
use Rattle.chain_writer.proofs.putting.head_body.Goals as goal

pub returns : goal.returns
returns c =
    ap (λ (q : List ℕ). c.args.n ∷ q) (append-nil _ ∙ c.copy_from_slice.ensures.after ∙ c.to_le_bytes.ensures ∙ sym (little_8 c.args.start))
