-- How many digits a number has.
use Rattle.std.proofs.Common.{◌≡◌, ℕ, zero, suc, ◌+◌, ◌*◌, ◌/◌, ◌^◌, ◌<◌, ◌≤◌, length, decimal, arith}
use Rattle.std.proofs.lemmas.Fmt.{decimal_nonempty, length-decimal-le}
use Rattle.itoa.proofs.Decimal.{length_step_wide}

some : (k : ℕ) → 0 < 10 ^ k
some zero = omega arith
some (suc k) = omega (arith, some k)

more_than : (k n : ℕ) → 10 ^ k ≤ n → n < 2 ^ 64 → k < length (decimal n)
more_than zero n h l = decimal_nonempty n l
more_than (suc k) n h l =
    let ten : 10 ≤ n = omega (arith, some k) in
    omega (arith, length_step_wide n ten (omega arith), more_than k (n / 10) (omega arith) (omega arith))

pub one_more : (k n : ℕ) → 10 ^ k ≤ n → n < 10 * 10 ^ k → n < 2 ^ 64 → k + 1 ≡ length (decimal n)
one_more k n h g l = omega (arith, more_than k n h l, length-decimal-le (suc k) n (omega arith) (omega arith) l)

pub at_most : (n : ℕ) → n < 2 ^ 64 → length (decimal n) ≤ 20
at_most n l = length-decimal-le 20 n (omega arith) (omega arith) l
