-- What the loops of a walk answer, in the words of the specs.
use Rattle.std.proofs.Common.{◌≡◌, ℕ, zero, suc, ◌+◌, ◌-◌, ◌/◌, ◌^◌, ◌<◌, ◌≤◌, ◌⊎◌, min, leb, Bool, true, false, cond, not, eqb, ◌&&◌, List, ◌∷◌, Some, None, inl, inr, sym, refl, ap, ◌∙◌, subst, arith}
use lib.Bits.{bit_and, bit_xor, xor_lt}
use lib.Count.{count_trailing_zeros}
use Rattle.std.proofs.lemmas.Bool.{and_parts, both_ways, cases_Bool}
use Rattle.std.specs.List.{find, fold}
use Rattle.std.proofs.lemmas.Bool.Decides.{nat_tests}
use Rattle.labels.specs.Sets.{has, differs, full, swap}
use Rattle.labels.specs.Listed.{labels_in}
use Rattle.labels.proofs.Upwards.{FirstListed, find_listed, fold_labels}
use Rattle.labels.proofs.Member.{bit_up, has_difference, has_full, has_none, has_pos, has_xor}
use Rattle.labels.proofs.Card.{ext}
use Rattle.labels.proofs.Passing.{has_passing}
use Rattle.labels.proofs.Words.{and_not_is, trailing_is}
use Rattle.walk_laws.specs.Settings.{summed}
use Rattle.walk.specs.States.{Movable, partners, swappable}

-- ---- the value of a set

-- the label e adds its worth
abbrev pub gained : {V : Type 0} → (V → V → V) → (ℕ → V) → V → ℕ → V
gained sum worth v e = sum v (worth e)

pub summed_listed : {V : Type 0} (z : V) (sum : V → V → V) (worth : ℕ → V) (t n : ℕ) → summed z sum worth t n ≡ fold (gained sum worth) z (labels_in t n)
unfolding summed labels_in
summed_listed z sum worth t zero = refl
summed_listed {V} z sum worth t (suc n) =
    ap (λ (v : V). cond (has t (suc n)) (sum v (worth (suc n))) v) (summed_listed z sum worth t n) ∙ sym (fold_labels (gained sum worth) z t n)

pub side_in : (t e o : ℕ) → has t e ≡ true → differs (has t e) (has t o) ≡ true → has t o ≡ false
side_in t e o i d = grind arith

pub side_out : (t e o : ℕ) → has t e ≡ false → differs (has t e) (has t o) ≡ true → has t o ≡ true
side_out t e o i d = grind arith

-- ---- the label that moves

-- the label e has a partner
abbrev pub partnered_at : (ℕ → Bool) → ℕ → ℕ → Bool
partnered_at f t e = not (eqb (partners f t e) 0)

has_one : (c : ℕ) → not (eqb c 0) ≡ true → 0 < c
has_one c h = grind (arith, nat_tests)

has_none_left : (c : ℕ) → not (eqb c 0) ≡ false → c ≡ 0
has_none_left c h = grind (arith, nat_tests)

module _ (f : ℕ → Bool) (t a n : ℕ) where
  pub moves : (e c : ℕ) → find (partnered_at f t) (labels_in a n) ≡ Some e → c ≡ partners f t e → Movable n f t a e c
  moves e c q k =
      let h = subst (FirstListed (partnered_at f t) a n) q (find_listed (partnered_at f t) a n) in
      record {
        low = h.0;
        high = h.1;
        active_is = h.2;
        partners_are = k;
        some = subst (λ (x : ℕ). 0 < x) (sym k) (has_one (partners f t e) h.3);
        first = λ d l o. has_none_left (partners f t d) (h.4 d (has_pos a d o) l o);
      }

  pub none_moves : find (partnered_at f t) (labels_in a n) ≡ None → (d : ℕ) → 1 ≤ d → d ≤ n → has a d ≡ true → partners f t d ≡ 0
  none_moves q d l g o =
      let h = subst (FirstListed (partnered_at f t) a n) q (find_listed (partnered_at f t) a n) in has_none_left (partners f t d) (h d l g o)

pub found_at : (f : ℕ → Bool) (t e c : ℕ) (es : List ℕ) → c ≡ partners f t e → (c ≡ 0 → ⊥) → find (partnered_at f t) (e ∷ es) ≡ Some e
found_at f t e c es k some = ap (λ (b : Bool). cond b (Some e) (find (partnered_at f t) es)) (let z : not (eqb (partners f t e) 0) ≡ true = at (partners f t e) (λ x. some (k ∙ x)) in z)
  where
    at : (x : ℕ) → (x ≡ 0 → ⊥) → not (eqb x 0) ≡ true
    at x h = grind (arith, nat_tests)

pub passed : (f : ℕ → Bool) (t e c : ℕ) (es : List ℕ) → c ≡ partners f t e → c ≡ 0 → find (partnered_at f t) (e ∷ es) ≡ find (partnered_at f t) es
passed f t e c es k none = ap (λ (x : ℕ). cond (not (eqb x 0)) (Some e) (find (partnered_at f t) es)) (sym k ∙ none)

-- ---- the labels that need not be looked at

next_bit : (t i : ℕ) → 1 ≤ i → has (t / 2) i ≡ has t (i + 1)
unfolding has
next_bit t zero l = absurd (omega arith)
next_bit t (suc k) l = sym (bit_up t k) ∙ ap (has t) (let q : suc (suc k) ≡ suc k + 1 = omega arith in q)

-- label i is on the side of the next one
side_of_next : (t i : ℕ) → t < 2 ^ 64 → 1 ≤ i → i < count_trailing_zeros 64 (bit_xor t (t / 2)) + 1 → has t i ≡ has t (i + 1)
side_of_next t i h l k = same (has t i) (has t (i + 1)) (sym (has_xor t (t / 2) i ∙ ap (λ (b : Bool). differs (has t i) b) (next_bit t i l)) ∙ unchanged (bit_xor t (t / 2)) refl k)
  where
    same : (a b : Bool) → differs a b ≡ false → a ≡ b
    same true true d = refl
    same false false d = refl
    same true false d = d
    same false true d = sym d

    unchanged : (s : ℕ) → s ≡ bit_xor t (t / 2) → i < count_trailing_zeros 64 s + 1 → has s i ≡ false
    unchanged zero q k = has_none i
    unchanged (suc s) q k = (trailing_is 64 (suc s) (omega arith) (subst (λ (x : ℕ). x < 2 ^ 64) (sym q) (xor_lt 64 t (t / 2) h (omega arith)))).1 i k

sides_alike : (t o k : ℕ) → t < 2 ^ 64 → 1 ≤ o → o + k ≤ count_trailing_zeros 64 (bit_xor t (t / 2)) + 1 → has t o ≡ has t (o + k)
sides_alike t o zero h l g = ap (has t) (let q : o ≡ o + zero = omega arith in q)
sides_alike t o (suc k) h l g =
    sides_alike t o k h l (omega arith) ∙ side_of_next t (o + k) h (omega arith) (omega arith) ∙ ap (has t) (let q : o + k + 1 ≡ o + suc k = omega arith in q)

pub all_alike : (t d o r z : ℕ) → t < 2 ^ 64 → z ≡ count_trailing_zeros 64 (bit_xor t (t / 2)) → r ≡ full (min (z + 1) 64) → has r d ≡ true → 1 ≤ o → o < d → has t o ≡ has t d
all_alike t d o r z h q e i l k =
    let m : d ≤ min (z + 1) 64 = let f = has_full (min (z + 1) 64) d in let y = ap (λ (x : ℕ). has x d) e in grind (arith, nat_tests) in
    sides_alike t o (d - o) h l (omega arith) ∙ ap (has t) (let p : o + (d - o) ≡ d = omega arith in p)

-- a label with all labels below it on its own side has no partner
pub no_partner : (f : ℕ → Bool) (t d : ℕ) → ((o : ℕ) → 1 ≤ o → o < d → has t o ≡ has t d) → partners f t d ≡ 0
no_partner f t d same = ext (partners f t d) 0 (λ o. has_passing (swappable f t d) (d - 1) o ∙ go o (leb 1 o && leb o (d - 1)) refl ∙ sym (has_none o))
  where
    go : (o : ℕ) (b : Bool) → (leb 1 o && leb o (d - 1)) ≡ b → (b && swappable f t d o) ≡ false
    go o false e = refl
    go o true e = let a : 1 ≤ o = grind (arith, nat_tests) in let b : o ≤ d - 1 = grind (arith, nat_tests) in
        let s = same o a (omega (arith, a, b)) in ap (λ (k : Bool). differs k (has t o) && f (swap t d o)) (sym s) ∙ off (has t o) (f (swap t d o))
      where
        off : (x y : Bool) → (differs x x && y) ≡ false
        off true y = refl
        off false y = refl

-- what holds of some active labels holds of all, if the others have no partner
module _ (n : ℕ) (f : ℕ → Bool) (t a b : ℕ) (part : (d : ℕ) → has b d ≡ true → has a d ≡ true) (rest : (d : ℕ) → has a d ≡ true → has b d ≡ false → partners f t d ≡ 0) where
  either_way : (d : ℕ) → has a d ≡ true → (has b d ≡ true → partners f t d ≡ 0) → partners f t d ≡ 0
  either_way d i g = go (cases_Bool (has b d))
    where
      go : (has b d ≡ true) ⊎ (has b d ≡ false) → partners f t d ≡ 0
      go (inl h) = g h
      go (inr h) = rest d i h

  pub movable_of_all : (e c : ℕ) → Movable n f t b e c → Movable n f t a e c
  movable_of_all e c M = record {
    low = M.low;
    high = M.high;
    active_is = part e M.active_is;
    partners_are = M.partners_are;
    some = M.some;
    first = λ d l i. either_way d i (M.first d l);
  }

  pub none_of_all : ((d : ℕ) → 1 ≤ d → d ≤ n → has b d ≡ true → partners f t d ≡ 0) → (d : ℕ) → 1 ≤ d → d ≤ n → has a d ≡ true → partners f t d ≡ 0
  none_of_all g d l h i = either_way d i (g d l h)

-- the labels that are left once some are left out
pub of_left : (a k d : ℕ) → a < 2 ^ 64 → k < 2 ^ 64 → has (bit_and a (18446744073709551615 - k)) d ≡ (has a d && not (has k d))
of_left a k d h g = ap (λ (x : ℕ). has x d) (and_not_is 64 a k h g) ∙ has_difference a k d

module _ (f : ℕ → Bool) (t a k : ℕ) (h : a < 2 ^ 64) (g : k < 2 ^ 64) where
  pub part : (d : ℕ) → has (bit_and a (18446744073709551615 - k)) d ≡ true → has a d ≡ true
  part d i = (and_parts _ _ (sym (of_left a k d h g) ∙ i)).0

  pub rest : ((d o : ℕ) → has k d ≡ true → 1 ≤ o → o < d → has t o ≡ has t d) → (d : ℕ) → has a d ≡ true → has (bit_and a (18446744073709551615 - k)) d ≡ false → partners f t d ≡ 0
  rest same d i out = no_partner f t d (λ o. same d o (left_out (has a d) (has k d) i (sym (of_left a k d h g) ∙ out)))
    where
      left_out : (x y : Bool) → x ≡ true → (x && not y) ≡ false → y ≡ true
      left_out true true p q = refl
      left_out true false p q = sym q
      left_out false y p q = absurd (both_ways false refl p)
