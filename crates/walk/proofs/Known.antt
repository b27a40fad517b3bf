-- What a walk knows of the swaps of its present set.
use Rattle.std.proofs.Common.{◌≡◌, ℕ, ◌-◌, ◌^◌, ◌<◌, ◌≤◌, min, leb, ◌||◌, Bool, true, false, cond, not, ◌==◌, ◌&&◌, ◌⊎◌, sym, refl, ap, ◌∙◌, subst, ap₂, inl, inr, arith}
use Rattle.std.proofs.lemmas.Bool.{and_parts, both_ways, cases_Bool}
use Rattle.std.proofs.lemmas.Bool.Decides.{nat_tests}
use Rattle.labels.specs.Sets.{has, differs, difference, full, limit, passing, single, swap}
use native.Mathlib.Decide.{ℕ_discrete}
use lib.Bits.{bit_and, bit_or, or_lt}
use Rattle.labels.proofs.Member.{has_and, has_difference, has_full, has_or, has_pos, has_single}
use Rattle.labels.proofs.Card.{ext, within_back}
use Rattle.labels.proofs.Parts.{subset_below}
use Rattle.labels.proofs.Passing.{has_passing}
use Rattle.labels.proofs.Swap.{swap_comm}
use Rattle.matroid_laws.specs.Matroids.{IsMatroid}
use Rattle.answer_laws.specs.Answers.{Answers, Right, carried}
use Rattle.answer_laws.proofs.Right.{carried_right}
use Rattle.labels.proofs.Words.{and_not_is, has_outside}
use Rattle.label_words.specs.Words.{word_of}
use Rattle.label_words.proofs.Held.{word_in}
use Rattle.answers.specs.Table.{is_label}
use Rattle.answers.proofs.Columns.{Gathered}
use Rattle.tie_rule.specs.Laws.{TieLaws}
use Rattle.walk.specs.States.{partners, swappable}
use Rattle.walk_laws.specs.Steps.{entering, leaving}
use Rattle.walk_laws.specs.declared.Exchange.{Exchange}
use Rattle.walk.proofs.Turns.{side_in, side_out}

pub either_right : (independent : ℕ → Bool) (t : ℕ) (b : Bool) (x y : Answers) → Right independent t x → Right independent t y → Right independent t (cond b x y)
either_right independent t true x y X Y = X
either_right independent t false x y X Y = Y

-- ---- an exchange: the label e goes in and low comes out, or the other way round

entering_is : (t e : ℕ) (x : Exchange) → x.came ≡ not (has t e) → has t e ≡ true → (entering x ≡ x.low) × (leaving x ≡ x.high)
entering_is t e x c i =
    let z : x.came ≡ false = c ∙ ap not i in (ap (λ (b : Bool). cond b x.high x.low) z, ap (λ (b : Bool). cond b x.low x.high) z)

leaving_is : (t e : ℕ) (x : Exchange) → x.came ≡ not (has t e) → has t e ≡ false → (entering x ≡ x.high) × (leaving x ≡ x.low)
leaving_is t e x c i =
    let z : x.came ≡ true = c ∙ ap not i in (ap (λ (b : Bool). cond b x.high x.low) z, ap (λ (b : Bool). cond b x.low x.high) z)

label_is : (e : ℕ) → 1 ≤ e → e ≤ limit → is_label e ≡ true
label_is e l h = grind (arith, nat_tests)

module _ (n : ℕ) (independent : ℕ → Bool) (M : IsMatroid n independent) (few : n ≤ limit) (t e low : ℕ) (o : Answers)
    (T : independent t ≡ true) (below : low < e) (pos : 1 ≤ low) (high : e ≤ n) (apart : differs (has t e) (has t low) ≡ true)
    (U : independent (swap t e low) ≡ true) (R : Right independent t o) where
  -- l goes out and m comes in
  carries : (l m : ℕ) → 1 ≤ l → l ≤ limit → 1 ≤ m → m ≤ limit → has t l ≡ true → has t m ≡ false → swap t l m ≡ swap t e low
      → Right independent (swap t e low) (cond (is_label l && is_label m) (carried o t l m) o)
  carries l m a b c d i out same =
      subst (λ (k : Bool). Right independent (swap t e low) (cond k (carried o t l m) o)) (sym (ap₂ (λ (x y : Bool). x && y) (label_is l a b) (label_is m c d)))
      (subst (λ (s : ℕ). Right independent s (carried o t l m)) same
      (carried_right n independent M t l m o T i c out (ap independent same ∙ U) R))

  pub carries_on : (x : Exchange) → x.high ≡ e → x.low ≡ low → x.came ≡ not (has t e)
      → Right independent (swap t e low) (cond (is_label (leaving x) && is_label (entering x)) (carried o t (leaving x) (entering x)) o)
  carries_on x h k c = go (cases_Bool (has t e))
    where
      at : (l m : ℕ) → leaving x ≡ l → entering x ≡ m → Right independent (swap t e low) (cond (is_label l && is_label m) (carried o t l m) o)
          → Right independent (swap t e low) (cond (is_label (leaving x) && is_label (entering x)) (carried o t (leaving x) (entering x)) o)
      at l m p q r = subst (λ (i : ℕ). Right independent (swap t e low) (cond (is_label i && is_label (entering x)) (carried o t i (entering x)) o)) (sym p)
          (subst (λ (j : ℕ). Right independent (swap t e low) (cond (is_label l && is_label j) (carried o t l j) o)) (sym q) r)

      go : (has t e ≡ true) ⊎ (has t e ≡ false) → Right independent (swap t e low) (cond (is_label (leaving x) && is_label (entering x)) (carried o t (leaving x) (entering x)) o)
      go (inl i) =
          let w = entering_is t e x c i in
          at e low (w.1 ∙ h) (w.0 ∙ k) (carries e low (omega arith) (omega arith) pos (omega arith) i (side_in t e low i apart) refl)
      go (inr i) =
          let w = leaving_is t e x c i in
          at low e (w.1 ∙ k) (w.0 ∙ h) (carries low e pos (omega arith) (omega arith) (omega arith) (side_out t e low i apart) i (swap_comm t low e pos (omega arith)))

-- the rule's choice is a label that e can be swapped with
pub chosen_swaps : {R : Type 0} (choice : R → ℕ → ℕ → ℕ) (next : R → ℕ → ℕ → R) → TieLaws choice next → (independent : ℕ → Bool) (t : ℕ) (r : R) (e c low : ℕ)
    → low ≡ choice r e c → c ≡ partners independent t e → (f : ℕ) × (f < e) × (has c f ≡ true)
    → (differs (has t e) (has t low) ≡ true) × (independent (swap t e low) ≡ true)
chosen_swaps choice next L independent t r e c low q k (f, l, h) =
    and_parts _ _ (passes (swappable independent t e) (e - 1) c low k (ap (has c) q ∙ (L.picks r e c f l h).1))
  where
    passes : (p : ℕ → Bool) (n c low : ℕ) → c ≡ passing p n → has c low ≡ true → p low ≡ true
    passes p n c low k h = let w = has_passing p n low in let z = ap (λ (x : ℕ). has x low) k in grind arith

-- ---- the partners of a label, from what is known of it and what is asked

-- what y and n say of the labels `others` is right: those in y can be swapped with e, those in n cannot
pub record Tells (f : ℕ → Bool) (t e others y n : ℕ) : Type 0 where
  pub yes : (o : ℕ) → has others o ≡ true → has y o ≡ true → f (swap t e o) ≡ true
  pub no : (o : ℕ) → has others o ≡ true → has n o ≡ true → f (swap t e o) ≡ false

-- o is a label below e on the other side
abbrev pub Beside : ℕ → ℕ → ℕ → Type 0
Beside t e others = (o : ℕ) → has others o ≡ ((leb 1 o && leb o (e - 1)) && differs (has t e) (has t o))

pub beside_tells : (t e others o : ℕ) → Beside t e others → has others o ≡ true → (1 ≤ o) × (o ≤ e - 1) × (differs (has t e) (has t o) ≡ true)
beside_tells t e others o B h = let q = sym (B o) ∙ h in (grind (arith, nat_tests), grind (arith, nat_tests), grind (arith, nat_tests))

module _ (f : ℕ → Bool) (t e others : ℕ) (o : Answers) (l : 1 ≤ e) (B : Beside t e others) (R : Right f t o) where
  -- e is in the set
  pub row_tells : has t e ≡ true → (y n : ℕ) → ((a : ℕ) → has y a ≡ o.yes e a) → ((a : ℕ) → has n a ≡ o.no e a) → Tells f t e others y n
  row_tells i y n p q = record {
    yes = λ a h k. let b = beside_tells t e others a B h in R.yes e a i b.0 (side_in t e a i b.2) (sym (p a) ∙ k);
    no = λ a h k. let b = beside_tells t e others a B h in R.no e a i b.0 (side_in t e a i b.2) (sym (q a) ∙ k);
  }

  -- it is not
  pub column_tells : has t e ≡ false → (y n : ℕ) → ((a : ℕ) → has y a ≡ (has others a && o.yes a e)) → ((a : ℕ) → has n a ≡ (has others a && o.no a e)) → Tells f t e others y n
  column_tells i y n p q = record {
    yes = λ a h k. let b = beside_tells t e others a B h in
        ap f (swap_comm t e a l b.0) ∙ R.yes a e (side_out t e a i b.2) l i (and_parts _ _ (sym (p a) ∙ k)).1;
    no = λ a h k. let b = beside_tells t e others a B h in
        ap f (swap_comm t e a l b.0) ∙ R.no a e (side_out t e a i b.2) l i (and_parts _ _ (sym (q a) ∙ k)).1;
  }

-- the labels of which nothing is known are left to ask
module _ (f : ℕ → Bool) (t e others y n : ℕ) (T : Tells f t e others y n) (fits : others < 2 ^ 64) (fits_y : y < 2 ^ 64) (fits_n : n < 2 ^ 64) where
  abbrev pub unknown : ℕ
  unknown = bit_and others (18446744073709551615 - bit_or y n)

  unknown_is : unknown ≡ difference others (bit_or y n)
  unknown_is = and_not_is 64 others (bit_or y n) fits (or_lt 64 y n fits_y fits_n)

  has_unknown : (a : ℕ) → has unknown a ≡ (has others a && not (has y a || has n a))
  has_unknown a = ap (λ (x : ℕ). has x a) unknown_is ∙ has_difference others (bit_or y n) a ∙ ap (λ (k : Bool). has others a && not k) (has_or y n a)

  of_three : (i j k p : Bool) → (i ≡ true → j ≡ true → p ≡ true) → (i ≡ true → k ≡ true → p ≡ false) → (j && i) ≡ ((i && not (i && not (j || k))) && p)
  of_three true true true p u v = absurd (both_ways p (v refl refl) (u refl refl))
  of_three true true false p u v = sym (u refl refl)
  of_three true false true p u v = sym (v refl refl)
  of_three true false false p u v = refl
  of_three false true k p u v = refl
  of_three false false k p u v = refl

  pub known_first : Gathered (λ (a : ℕ). f (swap t e a)) others unknown (bit_and y others)
  known_first = record {
    fits = subset_below 64 unknown others (λ a h. (and_parts _ _ (sym (has_unknown a) ∙ h)).0) fits;
    within = λ a h. (and_parts _ _ (sym (has_unknown a) ∙ h)).0;
    found = λ a. has_and y others a ∙ of_three (has others a) (has y a) (has n a) (f (swap t e a)) (T.yes a) (T.no a)
        ∙ ap (λ (k : Bool). (has others a && not k) && f (swap t e a)) (sym (has_unknown a));
  }

-- in the end they are the partners
pub partners_are : (f : ℕ → Bool) (t e others found : ℕ) → Beside t e others → ((a : ℕ) → has found a ≡ (has others a && f (swap t e a))) → found ≡ partners f t e
partners_are f t e others found B h = ext found (partners f t e) (λ a.
    h a ∙ ap (λ (k : Bool). k && f (swap t e a)) (B a) ∙ grouped (leb 1 a && leb a (e - 1)) (differs (has t e) (has t a)) (f (swap t e a))
    ∙ sym (has_passing (swappable f t e) (e - 1) a))
  where
    grouped : (i d k : Bool) → ((i && d) && k) ≡ (i && (d && k))
    grouped true d k = refl
    grouped false d k = refl

-- the labels on the other side, as the code has them
pub beside_in : (t e w : ℕ) → has t e ≡ true → t < 2 ^ 64 → e ≤ 64 → w ≡ full (min (e - 1) 64) → Beside t e (bit_and (18446744073709551615 - t) w)
beside_in t e w i h g q o =
    let z : min (e - 1) 64 ≡ e - 1 = omega arith in let f = has_full (e - 1) o in
    ap (λ (x : ℕ). has (bit_and (18446744073709551615 - t) x) o) (q ∙ ap full z) ∙ has_and (18446744073709551615 - t) (full (e - 1)) o
    ∙ go (cases_Bool (leb 1 o && leb o (e - 1))) (has_outside t o h)
  where
    go : ((leb 1 o && leb o (e - 1)) ≡ true) ⊎ ((leb 1 o && leb o (e - 1)) ≡ false) → ((1 ≤ o) → o ≤ 64 → has (18446744073709551615 - t) o ≡ not (has t o))
        → (has (18446744073709551615 - t) o && has (full (e - 1)) o) ≡ ((leb 1 o && leb o (e - 1)) && differs (has t e) (has t o))
    go (inl p) u = let a : 1 ≤ o = grind (arith, nat_tests) in let b : o ≤ e - 1 = grind (arith, nat_tests) in let v = u a (omega (arith, b, g)) in let f = has_full (e - 1) o in grind (arith, nat_tests)
    go (inr p) u = let f = has_full (e - 1) o in grind (arith, nat_tests)

pub beside_out : (t e w : ℕ) → has t e ≡ false → e ≤ 64 → w ≡ full (min (e - 1) 64) → Beside t e (bit_and t w)
beside_out t e w i g q o =
    let z : min (e - 1) 64 ≡ e - 1 = omega arith in let f = has_full (e - 1) o in
    ap (λ (x : ℕ). has (bit_and t x) o) (q ∙ ap full z) ∙ has_and t (full (e - 1)) o ∙ grind (arith, nat_tests)

-- the swap of e with o, whichever of them is inside
pub swap_as : (t e o : ℕ) (p : ℕ × ℕ) → p ≡ (e, o) → swap t p.0 p.1 ≡ swap t e o
swap_as t e o p q = ap (λ (x : ℕ × ℕ). swap t x.0 x.1) q

pub swap_back : (t e o : ℕ) (p : ℕ × ℕ) → 1 ≤ e → 1 ≤ o → p ≡ (o, e) → swap t p.0 p.1 ≡ swap t e o
swap_back t e o p l k q = ap (λ (x : ℕ × ℕ). swap t x.0 x.1) q ∙ swap_comm t o e k l

-- one label more was asked for
pub found_more : (found x o a : ℕ) (k : Bool) → 1 ≤ o → o ≤ 64 → x ≡ bit_or found (word_of o) → true ≡ k → has x a ≡ cond (a == o) k (has found a)
found_more found x o a k l h q p =
    ap (λ (y : ℕ). has y a) (q ∙ ap (bit_or found) (word_in o l h)) ∙ has_or found (single o) a
    ∙ (let s = has_single o a l in let z : (has found a || has (single o) a) ≡ cond (a == o) true (has found a) = grind (arith, nat_tests) in z)
    ∙ ap (λ (j : Bool). cond (a == o) j (has found a)) p

pub found_same : (found o a : ℕ) (k : Bool) → has found o ≡ false → false ≡ k → has found a ≡ cond (a == o) k (has found a)
found_same found o a k out p = go (ℕ_discrete a o) ∙ ap (λ (j : Bool). cond (a == o) j (has found a)) p
  where
    go : Dec (a ≡ o) → has found a ≡ cond (a == o) false (has found a)
    go (yes z) = let w = ap (has found) z in grind (arith, nat_tests)
    go (no z) = grind (arith, nat_tests)

-- a label of a set of which not all are left to ask
pub in_word : (others e : ℕ) → others < 2 ^ 64 → has others e ≡ true → (1 ≤ e) × (e ≤ 64)
in_word others e h i = (has_pos others e i, within_back 64 others e h i)
