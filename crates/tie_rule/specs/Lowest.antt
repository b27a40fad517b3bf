-- The lowest of the labels of a set below a label, and whether there is one.
use Rattle.std.specs.Prelude.{◌≡◌, ℕ, ◌+◌, ◌-◌, ◌^◌, ◌<◌, ◌≤◌, true, false, cond, ◌&&◌, ◌⊎◌, ◌==◌, ◌≢◌, nat_lt}
use Rattle.std.proofs.Common.{ap, inl, inr, arith}
use Rattle.std.proofs.Math.Decide.{ℕ_discrete}
use Rattle.std.specs.Int.Count.{count_trailing_zeros}
use Rattle.std.proofs.lemmas.Bool.Decides.{nat_tests}
use Rattle.std.proofs.lemmas.Bool.{cases_Bool}
use Rattle.labels.specs.Sets.{has, no_label}
use Rattle.labels.proofs.Member.{has_none, has_pos}
use Rattle.labels.proofs.Words.{trailing_is}
use Rattle.labels.proofs.Find.{no_label_tells, no_label_passes}
use Rattle.labels.proofs.Passing.{FirstPassing, first_passing_is}
use Rattle.tie_rule.specs.Candidates.{lowest_below, some_below}

pub lowest_below_is : (e s f : ℕ) → f < e → has s f ≡ true → (lowest_below e s < e) × (has s (lowest_below e s) ≡ true)
lowest_below_is e s f l h = go (lowest_below e s) (first_passing_is (has s) (e - 1))
  where
    go : (x : ℕ) → FirstPassing (has s) (e - 1) x → (x < e) × (has s x ≡ true)
    go x (inl (z, none)) = let p = none f (has_pos s f h) (omega arith) in absurd (grind arith)
    go x (inr (a, b, m, low)) = (omega arith, m)

pub lowest_below_none : (e s : ℕ) → ((f : ℕ) → f < e → has s f ≡ false) → lowest_below e s ≡ 0
lowest_below_none e s none = go (lowest_below e s) (first_passing_is (has s) (e - 1))
  where
    go : (x : ℕ) → FirstPassing (has s) (e - 1) x → x ≡ 0
    go x (inl (z, _)) = z
    go x (inr (a, b, m, low)) = let p = none x (omega arith) in absurd (grind arith)

-- it is the one that no label of s below precedes
lowest_below_one : (e s f : ℕ) → f < e → has s f ≡ true → ((d : ℕ) → d < f → has s d ≡ false) → lowest_below e s ≡ f
lowest_below_one e s f l h a = go (lowest_below e s) (first_passing_is (has s) (e - 1))
  where
    pos : 1 ≤ f
    pos = has_pos s f h

    go : (x : ℕ) → FirstPassing (has s) (e - 1) x → x ≡ f
    go x (inl (z, none)) = let p = none f pos (omega arith) in absurd (grind arith)
    go x (inr (b, c, m, low)) =
        let p : (x < f → ⊥) = λ g. (let q = a x g in grind arith) in
        let r : (f < x → ⊥) = λ g. (let q = low f pos g in grind arith) in
        omega arith

pub some_below_none : (e s : ℕ) → ((f : ℕ) → f < e → has s f ≡ false) → some_below e s ≡ false
some_below_none e s none = let p = no_label_passes (has s) (e - 1) (λ f l g. none f (omega arith)) in grind arith

pub some_below_one : (e s f : ℕ) → f < e → has s f ≡ true → some_below e s ≡ true
some_below_one e s f l h = go (cases_Bool (no_label (has s) (e - 1)))
  where
    go : (no_label (has s) (e - 1) ≡ true) ⊎ (no_label (has s) (e - 1) ≡ false) → some_below e s ≡ true
    go (inl none) = let p = no_label_tells (has s) (e - 1) none f (has_pos s f h) (omega arith) in absurd (grind arith)
    go (inr some) = grind arith

-- the labels of s below e, as a word of w bits
module _ (w e s b : ℕ) (fits : b < 2 ^ w) (all : (f : ℕ) → has b f ≡ (nat_lt f e && has s f)) where
  pub none_found : b ≡ 0 → (f : ℕ) → f < e → has s f ≡ false
  none_found z f l = let x = all f in let y = has_none f in let u = ap (λ (t : ℕ). has t f) z in grind (arith, nat_tests)

  pub lowest_is : cond (b == 0) 0 (count_trailing_zeros w b + 1) ≡ lowest_below e s
  lowest_is = go (ℕ_discrete b 0)
    where
      go : Dec (b ≡ 0) → cond (b == 0) 0 (count_trailing_zeros w b + 1) ≡ lowest_below e s
      go (yes z) = let q = lowest_below_none e s (none_found z) in grind (arith, nat_tests)
      go (no z) =
          let low = trailing_is w b (omega arith) fits in
          let x = all (count_trailing_zeros w b + 1) in
          let under : count_trailing_zeros w b + 1 < e = grind (arith, nat_tests) in
          let member : has s (count_trailing_zeros w b + 1) ≡ true = grind (arith, nat_tests) in
          let q = lowest_below_one e s (count_trailing_zeros w b + 1) under member (λ f g. let y = all f in let v = low.1 f g in grind (arith, nat_tests)) in
          grind (arith, nat_tests)

  pub some_found : (b ≢ 0) → some_below e s ≡ true
  some_found some =
      let low = trailing_is w b (omega arith) fits in
      let x = all (count_trailing_zeros w b + 1) in
      some_below_one e s (count_trailing_zeros w b + 1) (grind (arith, nat_tests)) (grind (arith, nat_tests))
