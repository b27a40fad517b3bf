-- The rows of a set, one by one, carried over a swap.
use Rattle.std.proofs.Common.{◌≡◌, ℕ, ◌-◌, ◌^◌, ◌<◌, ◌≤◌, Bool, true, false, cond, not, ◌&&◌, ◌||◌, ◌==◌, List, [], ◌∷◌, ◌⊎◌, length, slice_set, inl, inr, sym, refl, ap, ◌∙◌, ap₂, arith, length-set}
use lib.Bits.{bit_and, bit_or, bit_xor, or_lt}
use native.Mathlib.Decide.{ℕ_discrete}
use Rattle.std.proofs.lemmas.Bool.{cases_lt}
use Rattle.std.proofs.lemmas.Bool.Decides.{nat_tests}
use Rattle.labels.specs.Sets.{has, single, full, limit, difference, Subset}
use Rattle.labels.specs.Listed.{labels_in}
use Rattle.labels.proofs.Member.{has_full, has_none, has_pos, members}
use Rattle.labels.proofs.Upwards.{labels_none, labels_tell}
use Rattle.labels.proofs.Words.{and_not_is, single_below}
use Rattle.label_words.specs.Words.{word_of}
use Rattle.label_words.proofs.Ascending.{word_left}
use Rattle.label_words.proofs.Held.{word_in}
use Rattle.answer_laws.specs.Answers.{carried}
use Rattle.answers.specs.declared.row.Row.{Row}
use Rattle.answers.specs.Table.{known_in, row_of}
use Rattle.answers.proofs.Places.{known_is, row_put, row_other, row_none}
use Rattle.answers.proofs.Rows.{one_is}

-- what a row says once it is carried over, of the row r, the row g of the label l that went out, and m that came in
abbrev pub yes_carried : Row → Row → ℕ → ℕ → ℕ → Bool
yes_carried r g l m b = cond (b == l) (has r.yes m) (has r.yes b && (has r.no m || has g.no b) || has r.yes m && (has g.yes b && has r.no b))

abbrev pub no_carried : Row → Row → ℕ → ℕ → ℕ → Bool
no_carried r g l m b = cond (b == l) (has r.no m) (has r.no b && (has r.no m || has g.no b))

-- of the rows of the labels `others`, those not in `rest` are carried over
pub record Carrying (first : List Row) (g : Row) (l m others rest : ℕ) (rows : List Row) : Type 0 where
  pub fits : rest < 2 ^ 64
  pub within : Subset rest others
  pub whole : length rows ≡ length first
  pub yes : (a b : ℕ) → has (row_of rows a).yes b ≡ cond (has others a && not (has rest a)) (yes_carried (row_of first a) g l m b) (has (row_of first a).yes b)
  pub no : (a b : ℕ) → has (row_of rows a).no b ≡ cond (has others a && not (has rest a)) (no_carried (row_of first a) g l m b) (has (row_of first a).no b)

abbrev pub CarryingTo : (first : List Row) (g : Row) (l m others : ℕ) (left : List ℕ) (rows : List Row) → Type 0
CarryingTo first g l m others left rows = (rest : ℕ) × (left ≡ labels_in rest 64) × Carrying first g l m others rest rows

-- at first all of them are left
at_first : (x y : Bool) (s a : ℕ) → y ≡ cond (has s a && not (has s a)) x y
at_first x y s a = grind arith

pub starts : (first : List Row) (g : Row) (l m others : ℕ) → others < 2 ^ 64 → Carrying first g l m others others first
starts first g l m others h = record {
  fits = h;
  within = λ e i. i;
  whole = refl;
  yes = λ a b. at_first _ _ others a;
  no = λ a b. at_first _ _ others a;
}

-- of sets alone
pub rest_within : (s rest e : ℕ) → Subset rest s → has rest e ≡ true → Subset (bit_xor rest (single e)) s
rest_within s rest e p i f k = go (ℕ_discrete f e)
  where
    go : Dec (f ≡ e) → has s f ≡ true
    go (yes z) = ap (has s) z ∙ p e i
    go (no z) = let l = has_pos rest e i in let q = p f in grind (arith, members)

pub rest_other : (rest e a : ℕ) → has rest e ≡ true → (a ≡ e → ⊥) → has (bit_xor rest (single e)) a ≡ has rest a
rest_other rest e a i z = let l = has_pos rest e i in grind (arith, members)

pub rest_same : (rest e : ℕ) → has rest e ≡ true → has (bit_xor rest (single e)) e ≡ false
rest_same rest e i = let l = has_pos rest e i in grind (arith, members)

module _ (first : List Row) (g : Row) (l m others : ℕ) (e : ℕ) (left : List ℕ) (rows : List Row) (C : CarryingTo first g l m others (e ∷ left) rows) where
  abbrev rest : ℕ
  rest = C.0

  taken : (has rest e ≡ true) × (left ≡ labels_in (bit_xor rest (single e)) 64) × (bit_xor rest (single e) < 2 ^ 64)
  taken = word_left rest e left C.2.fits (sym C.1)

  pub turn_in : has others e ≡ true
  turn_in = C.2.within e taken.0

  -- the row of the label whose turn it is, is as it was
  off : (x y : Bool) → cond (has others e && not (has rest e)) x y ≡ y
  off x y = let i = taken.0 in grind arith

  module _ (r : Row) (low : 1 ≤ e) (few : e ≤ length first) (f : (b : ℕ) → has r.yes b ≡ yes_carried (row_of rows e) g l m b) (k : (b : ℕ) → has r.no b ≡ no_carried (row_of rows e) g l m b) where
    few' : e ≤ length rows
    few' = let w = C.2.whole in omega (arith, w)

    yes_was : (b : ℕ) → has (row_of rows e).yes b ≡ has (row_of first e).yes b
    yes_was b = C.2.yes e b ∙ off _ _

    no_was : (b : ℕ) → has (row_of rows e).no b ≡ has (row_of first e).no b
    no_was b = C.2.no e b ∙ off _ _

    bits : (p : Row → ℕ) (v : ℕ → ℕ → Bool)
        → ((a b : ℕ) → has (p (row_of rows a)) b ≡ cond (has others a && not (has rest a)) (v a b) (has (p (row_of first a)) b))
        → ((b : ℕ) → has (p r) b ≡ v e b)
        → (a b : ℕ) → has (p (row_of (slice_set rows (e - 1) r) a)) b ≡ cond (has others a && not (has (bit_xor rest (single e)) a)) (v a b) (has (p (row_of first a)) b)
    bits p v old new a b = go (ℕ_discrete a e)
      where
        go : Dec (a ≡ e) → has (p (row_of (slice_set rows (e - 1) r) a)) b ≡ cond (has others a && not (has (bit_xor rest (single e)) a)) (v a b) (has (p (row_of first a)) b)
        go (no z) =
            ap (λ (s : Row). has (p s) b) (row_other rows e r low few' a z) ∙ old a b
            ∙ ap (λ (k : Bool). cond (has others a && not k) (v a b) (has (p (row_of first a)) b)) (sym (rest_other rest e a taken.0 z))
        go (yes z) =
            ap (λ (i : ℕ). has (p (row_of (slice_set rows (e - 1) r) i)) b) z ∙ ap (λ (s : Row). has (p s) b) (row_put rows e r low few')
            ∙ new b ∙ sym (ap₂ (λ (i j : Bool). cond (i && not j) (v e b) (has (p (row_of first e)) b)) turn_in (rest_same rest e taken.0))
            ∙ ap (λ (i : ℕ). cond (has others i && not (has (bit_xor rest (single e)) i)) (v i b) (has (p (row_of first i)) b)) (sym z)

    pub goes_on : CarryingTo first g l m others left (slice_set rows (e - 1) r)
    goes_on = (
      bit_xor rest (single e),
      taken.1,
      record {
        fits = taken.2;
        within = rest_within others rest e C.2.within taken.0;
        whole = length-set rows (e - 1) r ∙ C.2.whole;
        yes = bits (λ (s : Row). s.yes) (λ a b. yes_carried (row_of first a) g l m b) C.2.yes
            (λ b. f b ∙ same_yes b);
        no = bits (λ (s : Row). s.no) (λ a b. no_carried (row_of first a) g l m b) C.2.no
            (λ b. k b ∙ same_no b);
      },
    )
      where
        same_yes : (b : ℕ) → yes_carried (row_of rows e) g l m b ≡ yes_carried (row_of first e) g l m b
        same_yes b = let p = yes_was b in let q = yes_was m in let u = no_was b in let v = no_was m in cc

        same_no : (b : ℕ) → no_carried (row_of rows e) g l m b ≡ no_carried (row_of first e) g l m b
        same_no b = let u = no_was b in let v = no_was m in cc

-- ---- the labels whose rows are carried

at_m : (a m : ℕ) (x y : Bool) → a ≡ m → cond (a == m) x y ≡ x
at_m a m x y z = grind (arith, nat_tests)

off_m : (a m : ℕ) (x y : Bool) → (a ≡ m → ⊥) → cond (a == m) x y ≡ y
off_m a m x y z = grind (arith, nat_tests)

abbrev pub others_of : ℕ → ℕ → ℕ
others_of set two = bit_and (bit_and set (18446744073709551615 - two)) (full limit)

others_few : (set two e : ℕ) → has (others_of set two) e ≡ true → e ≤ limit
others_few set two e h = let f = has_full limit e in grind (arith, members, nat_tests)

-- a label whose turn it is has a row
pub turn : (first : List Row) (g : Row) (l m set two e : ℕ) (left : List ℕ) (rows : List Row) → CarryingTo first g l m (others_of set two) (e ∷ left) rows → (1 ≤ e) × (e ≤ limit)
turn first g l m set two e left rows C =
    let h = turn_in first g l m (others_of set two) e left rows C in (has_pos (others_of set two) e h, others_few set two e h)

module _ (set two l m : ℕ) (fits : set < 2 ^ 64) (two_is : two ≡ bit_or (bit_or 0 (word_of l)) (word_of m)) (l_low : 1 ≤ l) (l_high : l ≤ limit) (m_low : 1 ≤ m) (m_high : m ≤ limit) where
  abbrev pair : ℕ
  pair = bit_or (single l) (single m)

  two_pair : two ≡ pair
  two_pair = two_is ∙ ap (λ (x : ℕ). bit_or x (word_of m)) (one_is l _ l_low (omega arith) refl) ∙ ap (bit_or (single l)) (word_in m m_low (omega arith))

  without : bit_and set (18446744073709551615 - two) ≡ difference set pair
  without = ap (λ (x : ℕ). bit_and set (18446744073709551615 - x)) two_pair ∙ and_not_is 64 set pair fits pair_fits
    where
      pair_fits : pair < 2 ^ 64
      pair_fits = or_lt 64 (single l) (single m) (single_below 64 l l_low (omega arith)) (single_below 64 m m_low (omega arith))

  is_other : (a : ℕ) → (a ≡ m → ⊥) → a ≤ limit → has (others_of set two) a ≡ (has set a && not (a == l))
  is_other a z h = ap (λ (x : ℕ). has (bit_and x (full limit)) a) without ∙ (let f = has_full limit a in let q = has_pos set a in grind (arith, members, nat_tests))

  module _ (first rows : List Row) (g r : Row) (whole : length first ≡ limit) (gone : g ≡ row_of first l)
      (C : CarryingTo first g l m (others_of set two) [] rows)
      (f : (b : ℕ) → has r.yes b ≡ (b == l || has g.yes b)) (k : (b : ℕ) → has r.no b ≡ (not (b == l) && has g.no b)) where
    none_left : (a : ℕ) → has C.0 a ≡ false
    none_left a = ap (λ (x : ℕ). has x a) (labels_tell C.0 0 64 C.2.fits (omega arith) (sym C.1 ∙ sym (labels_none 0 64 (λ e _. has_none e)))) ∙ has_none a

    few : m ≤ length rows
    few = let w = C.2.whole in omega (arith, w)

    -- a row that is carried or not, of a label other than m
    which : (a : ℕ) (x y : Bool) → (a ≡ m → ⊥) → (limit < a → x ≡ y)
        → cond (has (others_of set two) a && not (has C.0 a)) x y ≡ cond (has set a && not (a == l)) x y
    which a x y z out = go (cases_lt limit a)
      where
        go : (limit < a) ⊎ (a ≤ limit) → cond (has (others_of set two) a && not (has C.0 a)) x y ≡ cond (has set a && not (a == l)) x y
        go (inl h) = ap (λ (w : Bool). cond (has (others_of set two) a && not (has C.0 a)) w y) (out h) ∙ same _ y ∙ sym (ap (λ (w : Bool). cond (has set a && not (a == l)) w y) (out h) ∙ same _ y)
          where
            same : (c y : Bool) → cond c y y ≡ y
            same true y = refl
            same false y = refl
        go (inr h) = ap₂ (λ (u v : Bool). cond (u && not v) x y) (is_other a z h) (none_left a) ∙ last (has set a && not (a == l))
          where
            last : (c : Bool) → cond (c && true) x y ≡ cond c x y
            last true = refl
            last false = refl

    blank_yes : (a b : ℕ) → limit < a → yes_carried (row_of first a) g l m b ≡ has (row_of first a).yes b
    blank_yes a b h = let q = row_none first a (omega arith) in ap (λ (s : Row). yes_carried s g l m b) q ∙ go b ∙ sym (ap (λ (s : Row). has s.yes b) q)
      where
        go : (b : ℕ) → yes_carried (record { yes = 0; no = 0 }) g l m b ≡ has 0 b
        go b = let x = has_none b in let y = has_none m in grind (arith, nat_tests)

    blank_no : (a b : ℕ) → limit < a → no_carried (row_of first a) g l m b ≡ has (row_of first a).no b
    blank_no a b h = let q = row_none first a (omega arith) in ap (λ (s : Row). no_carried s g l m b) q ∙ go b ∙ sym (ap (λ (s : Row). has s.no b) q)
      where
        go : (b : ℕ) → no_carried (record { yes = 0; no = 0 }) g l m b ≡ has 0 b
        go b = let x = has_none b in let y = has_none m in grind (arith, nat_tests)

    pub ends : known_in (slice_set rows (m - 1) r) ≡ carried (known_in first) set l m
    ends = known_is _ _ yes_bits no_bits
      where
        yes_bits : (a b : ℕ) → has (row_of (slice_set rows (m - 1) r) a).yes b ≡ (carried (known_in first) set l m).yes a b
        yes_bits a b = go (ℕ_discrete a m)
          where
            go : Dec (a ≡ m) → has (row_of (slice_set rows (m - 1) r) a).yes b ≡ (carried (known_in first) set l m).yes a b
            go (yes z) = ap (λ (i : ℕ). has (row_of (slice_set rows (m - 1) r) i).yes b) z ∙ ap (λ (s : Row). has s.yes b) (row_put rows m r m_low few) ∙ f b
                ∙ ap (λ (s : Row). (b == l || has s.yes b)) gone ∙ sym (at_m a m _ _ z)
            go (no z) = ap (λ (s : Row). has s.yes b) (row_other rows m r m_low few a z) ∙ C.2.yes a b ∙ which a _ _ z (blank_yes a b)
                ∙ ap (λ (s : Row). cond (has set a && not (a == l)) (yes_carried (row_of first a) s l m b) (has (row_of first a).yes b)) gone ∙ sym (off_m a m _ _ z)

        no_bits : (a b : ℕ) → has (row_of (slice_set rows (m - 1) r) a).no b ≡ (carried (known_in first) set l m).no a b
        no_bits a b = go (ℕ_discrete a m)
          where
            go : Dec (a ≡ m) → has (row_of (slice_set rows (m - 1) r) a).no b ≡ (carried (known_in first) set l m).no a b
            go (yes z) = ap (λ (i : ℕ). has (row_of (slice_set rows (m - 1) r) i).no b) z ∙ ap (λ (s : Row). has s.no b) (row_put rows m r m_low few) ∙ k b
                ∙ ap (λ (s : Row). (not (b == l) && has s.no b)) gone ∙ sym (at_m a m _ _ z)
            go (no z) = ap (λ (s : Row). has s.no b) (row_other rows m r m_low few a z) ∙ C.2.no a b ∙ which a _ _ z (blank_no a b)
                ∙ ap (λ (s : Row). cond (has set a && not (a == l)) (no_carried (row_of first a) s l m b) (has (row_of first a).no b)) gone ∙ sym (off_m a m _ _ z)
