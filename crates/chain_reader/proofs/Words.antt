-- Eight bytes of a body as a number.
use Rattle.std.proofs.Common.{◌≡◌, ℕ, ◌+◌, ◌<◌, ◌≤◌, List, length, get_or, take, drop, sym, ap, ◌∙◌, arith}
use Rattle.std.specs.List.{AllByRecursion}
use Rattle.std.proofs.lemmas.List.{length-drop, length-take-le}
use Rattle.std.proofs.ByRecursion.{All-from_get_or, All-take, All-drop}
use Rattle.chain_lists.specs.Lists.{little}
use Rattle.chain_lists.specs.Faults.{number_in}
use Rattle.chain_lists.proofs.Bytes.{little_number}

pub word_writes
    : (body : List ℕ) (i r : ℕ) → i + 8 ≤ length body → ((j : ℕ) → get_or body j 0 < 256) → r ≡ number_in (take 8 (drop i body))
    → little 8 r ≡ take 8 (drop i body)
word_writes body i r l bytes e =
    let long : length (take 8 (drop i body)) ≡ 8 = length-take-le 8 (drop i body) (omega (arith, length-drop i body)) in
    let each : AllByRecursion (λ b. b < 256) (take 8 (drop i body)) = All-take _ 8 _ (All-drop _ i body (All-from_get_or _ body 0 (λ j h. bytes j))) in
    ap (little 8) e ∙ ap (λ (k : ℕ). little k (number_in (take 8 (drop i body)))) (sym long) ∙ little_number _ each
