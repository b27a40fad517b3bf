-- Numbers as bytes, and records cut out of what is left of a file.
use Rattle.std.proofs.Common.{◌≡◌, ℕ, zero, suc, ◌+◌, ◌-◌, ◌*◌, ◌/◌, ◌%◌, ◌^◌, ◌<◌, ◌≤◌, true, List, [], ◌∷◌, ◌++◌, length, take, drop, Some, refl, ap, ◌∙◌, arith}
use Rattle.std.specs.Int.{w16, w32, w64, from_le_bytes}
use Rattle.std.specs.List.{AllByRecursion}
use Rattle.std.proofs.lemmas.List.{length-append, take_at, drop_at}
use Rattle.std.proofs.lemmas.Bool.Decides.{nat_tests}
use Rattle.chain_lists.specs.declared.Kind.{Kind}
use Rattle.chain_lists.specs.declared.Kind.TheVariants.{Head, Exchange, End, ShiftTotal, LampTotal}
use Rattle.chain_lists.specs.Lists.{little, kind_length, framed}
use Rattle.chain_lists.specs.Faults.{number_in, stated, kind_in, body_in, complete}

-- ---- numbers

pub length_little : (k x : ℕ) → length (little k x) ≡ k
unfolding little
length_little zero x = refl
length_little (suc k) x = ap suc (length_little k (x / 256))

pub number_little : (k x : ℕ) → x < 256 ^ k → number_in (little k x) ≡ x
unfolding little
number_little zero x h = omega arith
number_little (suc k) x h = let e = number_little k (x / 256) (omega arith) in omega arith

pub word_little : (x : ℕ) → x < 2 ^ 64 → number_in (little 8 x) ≡ x
word_little x h = number_little 8 x h

pub little_number : (bs : List ℕ) → AllByRecursion (λ b. b < 256) bs → little (length bs) (number_in bs) ≡ bs
unfolding little
little_number [] h = refl
little_number (b ∷ bs) h =
    let l = h.0 in
    let p : (b + 256 * number_in bs) % 256 ≡ b = omega arith in
    let q : (b + 256 * number_in bs) / 256 ≡ number_in bs = omega arith in
    rw (p, q) (ap (λ l. b ∷ l) (little_number bs h.1))

-- as `to_le_bytes` writes them
pub little_2 : (x : ℕ) → little 2 x ≡ x % 256 ∷ x / 256 % 256 ∷ []
unfolding little
little_2 x = refl

pub little_4 : (x : ℕ) → little 4 x ≡ x % 256 ∷ x / 256 % 256 ∷ x / 65536 % 256 ∷ x / 16777216 % 256 ∷ []
unfolding little
little_4 x =
    let a : x / 256 / 256 ≡ x / 65536 = omega arith in
    let b : x / 65536 / 256 ≡ x / 16777216 = omega arith in
    rw (a, b)

pub little_8 : (x : ℕ)
    → little 8 x
    ≡ x % 256 ∷ x / 256 % 256 ∷ x / 65536 % 256 ∷ x / 16777216 % 256 ∷ x / 4294967296 % 256 ∷ x / 1099511627776 % 256 ∷ x / 281474976710656 % 256 ∷ x / 72057594037927936 % 256 ∷ []
unfolding little
little_8 x =
    let a : x / 256 / 256 ≡ x / 65536 = omega arith in
    let b : x / 65536 / 256 ≡ x / 16777216 = omega arith in
    let c : x / 16777216 / 256 ≡ x / 4294967296 = omega arith in
    let d : x / 4294967296 / 256 ≡ x / 1099511627776 = omega arith in
    let e : x / 1099511627776 / 256 ≡ x / 281474976710656 = omega arith in
    let f : x / 281474976710656 / 256 ≡ x / 72057594037927936 = omega arith in
    rw (a, b, c, d, e, f)

-- as `from_le_bytes` reads them
pub number_2 : (xs : List ℕ) → 2 ≤ length xs → from_le_bytes w16 (take 2 xs) ≡ number_in (take 2 xs)
number_2 [] h = absurd (omega arith)
number_2 (a ∷ []) h = absurd (omega arith)
number_2 (a ∷ b ∷ xs) h = omega arith

pub number_4 : (xs : List ℕ) → 4 ≤ length xs → from_le_bytes w32 (take 4 xs) ≡ number_in (take 4 xs)
number_4 [] h = absurd (omega arith)
number_4 (a ∷ []) h = absurd (omega arith)
number_4 (a ∷ b ∷ []) h = absurd (omega arith)
number_4 (a ∷ b ∷ c ∷ []) h = absurd (omega arith)
number_4 (a ∷ b ∷ c ∷ d ∷ xs) h = omega arith

pub number_8 : (xs : List ℕ) → 8 ≤ length xs → from_le_bytes w64 (take 8 xs) ≡ number_in (take 8 xs)
number_8 [] h = absurd (omega arith)
number_8 (a ∷ []) h = absurd (omega arith)
number_8 (a ∷ b ∷ []) h = absurd (omega arith)
number_8 (a ∷ b ∷ c ∷ []) h = absurd (omega arith)
number_8 (a ∷ b ∷ c ∷ d ∷ []) h = absurd (omega arith)
number_8 (a ∷ b ∷ c ∷ d ∷ e ∷ []) h = absurd (omega arith)
number_8 (a ∷ b ∷ c ∷ d ∷ e ∷ f ∷ []) h = absurd (omega arith)
number_8 (a ∷ b ∷ c ∷ d ∷ e ∷ f ∷ g ∷ []) h = absurd (omega arith)
number_8 (a ∷ b ∷ c ∷ d ∷ e ∷ f ∷ g ∷ i ∷ xs) h = omega arith

-- ---- a record at the front

pub length_framed : (k : Kind) (body : List ℕ) → length (framed k body) ≡ 6 + length body
unfolding little
length_framed k body = omega arith

pub stated_framed : (k : Kind) (body more : List ℕ) → stated (framed k body ++ more) ≡ kind_length k
unfolding little
stated_framed Head body more = refl
stated_framed Exchange body more = refl
stated_framed End body more = refl
stated_framed ShiftTotal body more = refl
stated_framed LampTotal body more = refl

pub kind_framed : (k : Kind) (body more : List ℕ) → kind_in (framed k body ++ more) ≡ Some k
unfolding little
kind_framed Head body more = refl
kind_framed Exchange body more = refl
kind_framed End body more = refl
kind_framed ShiftTotal body more = refl
kind_framed LampTotal body more = refl

pub drop_framed : (k : Kind) (body more : List ℕ) → drop (6 + length body) (framed k body ++ more) ≡ more
drop_framed k body more = drop_at (framed k body) more (6 + length body) (length_framed k body)

module _ (k : Kind) (body more : List ℕ) (long : length body + 2 ≡ kind_length k) where
  pub body_framed : body_in (framed k body ++ more) ≡ body
  unfolding little
  body_framed =
      let n : stated (framed k body ++ more) - 2 ≡ length body = omega (arith, stated_framed k body more) in
      ap (λ n. take n (body ++ more)) n ∙ take_at body more (length body) refl

  pub complete_framed : complete (framed k body ++ more) ≡ true
  unfolding complete little
  complete_framed =
      let s = stated_framed k body more in
      let l = length-append body more in
      grind (arith, nat_tests)
