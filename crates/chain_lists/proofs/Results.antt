-- What is known of a result that goes through `ok` or `ok_or`.
use Rattle.std.proofs.Common.{◌≡◌, Some, None, Option, Ok, Err, Result, sym, subst}
use Rattle.std.proofs.lemmas.Option.{none-some}
use Rattle.std.specs.Option.{ok_or}
use Rattle.std.specs.Result.{MatchResult, result_ok}

pub ok_told : {T E : Type 0} (r : Result T E) (P : T → Type 0) (Q : E → Type 0) (x : T) → Some x ≡ result_ok r → MatchResult r P Q → P x
ok_told (Ok y) P Q x is h = let same : y ≡ x = cc in subst P same h
ok_told (Err e) P Q x is h = absurd (none-some x (sym is))

pub err_told : {T E : Type 0} (r : Result T E) (P : T → Type 0) (Q : E → Type 0) → None ≡ result_ok r → MatchResult r P Q → (e : E) × Q e
err_told (Ok y) P Q is h = absurd (none-some y is)
err_told (Err e) P Q is h = (e, h)

-- the error that `ok_or` gives where there is no value
pub ok_or_told : {T E : Type 0} (o : Option T) (e d : E) → o ≡ None → Err d ≡ ok_or o e → d ≡ e
ok_or_told None e d h is = cc
ok_or_told (Some x) e d h is = absurd (none-some x (sym h))
