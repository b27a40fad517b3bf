-- Texts that are passed on, one behind the other.
use Rattle.std.proofs.Common.{◌≡◌, ℕ, ◌<◌, List, ◌++◌, codes, length, Option, Some, None, IfSome, Result, Ok, Err, OnOk, sym, subst, arith, length-append}
use Rattle.outlet.specs.Sending.{Passes}
use Rattle.outlet.proofs.Pieces.{breaks_here, holding_all}

-- no line was added
pub not_added : {E : Type 0} (o a : Option (List ℕ)) (held after : List ℕ) (r : Result (Unit {0}) E) (e : E) → r ≡ Err e
    → IfSome o (λ text. Passes a a r after (held ++ (text ++ codes "\n")))
not_added None a held after r e is = tt
not_added (Some text) a held after r e is =
    let all : List ℕ = held ++ (text ++ codes "\n") in
    let some : 0 < length all = omega (arith, length-append held (text ++ codes "\n"), length-append text (codes "\n")) in
    subst (λ (q : Result (Unit {0}) _). Passes a a q after all) (sym is) (breaks_here (holding_all a all) some)

-- what always holds, holds at an `Ok`
pub when_ok : {T E P : Type 0} (r : Result T E) → P → OnOk r P
when_ok (Ok x) p = p
when_ok (Err e) p = tt
