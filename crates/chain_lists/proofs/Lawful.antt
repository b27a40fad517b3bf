-- What the tests for lawful heads and exchanges say.
use Rattle.std.proofs.Common.{◌≡◌, ℕ, ◌^◌, ◌<◌, ◌≤◌, true, arith}
use Rattle.labels.specs.Sets.{limit, differs, has}
use Rattle.chain_lists.specs.declared.Swap.{Swap}
use Rattle.chain_lists.specs.Lists.{lawful_head, lawful_swap}

pub swap_tells
    : (n t : ℕ) (x : Swap) → lawful_swap n t x ≡ true
    → (0 < x.low) × (x.low < x.high) × (x.high ≤ n) × (differs (has t x.high) (has t x.low) ≡ true)
swap_tells n t x h = grind arith

pub head_tells : (n s : ℕ) → lawful_head n s ≡ true → (n ≤ limit) × (s < 2 ^ n)
head_tells n s h = grind arith
