-- What the rows of some labels say of one label outside the set, gathered label by label.
use Rattle.std.proofs.Common.{◌≡◌, ℕ, ◌^◌, ◌<◌, ◌≤◌, ◌⊎◌, Bool, true, false, cond, not, ◌&&◌, ◌==◌, List, [], ◌∷◌, length, inl, inr, sym, refl, ap, ◌∙◌, ap₂, arith}
use lib.Bits.{bit_and, bit_xor}
use native.Mathlib.Decide.{ℕ_discrete}
use Rattle.std.proofs.lemmas.Bool.{cases_lt}
use Rattle.std.proofs.lemmas.Bool.Decides.{nat_tests}
use Rattle.labels.specs.Sets.{has, single, full, limit, Subset}
use Rattle.labels.specs.Listed.{labels_in}
use Rattle.labels.proofs.Member.{has_full, has_none, has_pos, members}
use Rattle.labels.proofs.Card.{within}
use Rattle.labels.proofs.Upwards.{labels_none, labels_tell}
use Rattle.label_words.proofs.Ascending.{word_left}
use Rattle.answers.specs.declared.row.Row.{Row}
use Rattle.answers.specs.Table.{row_of}
use Rattle.answers.proofs.Places.{row_none}
use Rattle.answers.proofs.Turns.{rest_within, rest_other, rest_same}

-- of the labels o, those not in `rest` have been looked at: those of them that pass are in x
pub record Gathered (p : ℕ → Bool) (o rest x : ℕ) : Type 0 where
  pub fits : rest < 2 ^ 64
  pub within : Subset rest o
  pub found : (a : ℕ) → has x a ≡ ((has o a && not (has rest a)) && p a)

pub gathered_none : (p : ℕ → Bool) (o : ℕ) → o < 2 ^ 64 → Gathered p o o 0
gathered_none p o h = record { fits = h; within = λ e i. i; found = λ a. has_none a ∙ sym (no_more (has o a) (p a)) }
  where
    no_more : (x y : Bool) → ((x && not x) && y) ≡ false
    no_more true y = refl
    no_more false y = refl

module _ (p : ℕ → Bool) (o rest x : ℕ) (G : Gathered p o rest x) where
  module _ (e : ℕ) (left : List ℕ) (h : e ∷ left ≡ labels_in rest 64) where
    taken : (has rest e ≡ true) × (left ≡ labels_in (bit_xor rest (single e)) 64) × (bit_xor rest (single e) < 2 ^ 64)
    taken = word_left rest e left G.fits (sym h)

    pub next_is : has rest e ≡ true
    next_is = taken.0

    pub looked_at : has o e ≡ true
    looked_at = G.within e taken.0

    pub left_is : left ≡ labels_in (bit_xor rest (single e)) 64
    left_is = taken.1

    pub not_yet : has x e ≡ false
    not_yet = G.found e ∙ ap (λ (k : Bool). (has o e && not k) && p e) taken.0 ∙ off (has o e) (p e)
      where
        off : (i j : Bool) → ((i && false) && j) ≡ false
        off true j = refl
        off false j = refl

    pub gathered_more : (y : ℕ) → ((a : ℕ) → has y a ≡ cond (a == e) (p e) (has x a)) → Gathered p o (bit_xor rest (single e)) y
    gathered_more y f = record { fits = taken.2; within = rest_within o rest e G.within taken.0; found = λ a. go a (ℕ_discrete a e) }
      where
        go : (a : ℕ) → Dec (a ≡ e) → has y a ≡ ((has o a && not (has (bit_xor rest (single e)) a)) && p a)
        go a (no z) =
            f a ∙ (let q = G.found a in let u : cond (a == e) (p e) (has x a) ≡ has x a = grind (arith, nat_tests) in u ∙ q)
            ∙ ap (λ (k : Bool). (has o a && not k) && p a) (sym (rest_other rest e a taken.0 z))
        go a (yes z) =
            f a ∙ (let u : cond (a == e) (p e) (has x a) ≡ p e = grind (arith, nat_tests) in u)
            ∙ sym (ap₂ (λ (i j : Bool). (i && not j) && p e) looked_at (rest_same rest e taken.0))
            ∙ ap (λ (i : ℕ). (has o i && not (has (bit_xor rest (single e)) i)) && p i) (sym z)

  pub gathered_all : [] ≡ labels_in rest 64 → (a : ℕ) → has x a ≡ (has o a && p a)
  gathered_all h a =
      G.found a
      ∙ ap (λ (k : Bool). (has o a && not k) && p a) (ap (λ (y : ℕ). has y a) (labels_tell rest 0 64 G.fits (omega arith) (sym h ∙ sym (labels_none 0 64 (λ e _. has_none e)))) ∙ has_none a)
      ∙ all (has o a) (p a)
    where
      all : (i j : Bool) → ((i && true) && j) ≡ (i && j)
      all true j = refl
      all false j = refl

-- the labels that have a row are enough
module _ (rows : List Row) (insides b : ℕ) (whole : length rows ≡ limit) where
  in_rows : (q : Row → ℕ) → q (record { yes = 0; no = 0 }) ≡ 0 → (a : ℕ)
      → (has (bit_and insides (full limit)) a && has (q (row_of rows a)) b) ≡ (has insides a && has (q (row_of rows a)) b)
  in_rows q z a = go (cases_lt limit a)
    where
      none : (i j k : Bool) → k ≡ false → (i && k) ≡ (j && k)
      none i j k e = ap (λ (k : Bool). i && k) e ∙ off i ∙ sym (ap (λ (k : Bool). j && k) e ∙ off j)
        where
          off : (i : Bool) → (i && false) ≡ false
          off true = refl
          off false = refl

      go : (limit < a) ⊎ (a ≤ limit) → (has (bit_and insides (full limit)) a && has (q (row_of rows a)) b) ≡ (has insides a && has (q (row_of rows a)) b)
      go (inl h) = none _ _ _ (ap (λ (r : Row). has (q r) b) (row_none rows a (omega (arith, whole))) ∙ ap (λ (y : ℕ). has y b) z ∙ has_none b)
      go (inr h) = ap (λ (i : Bool). i && has (q (row_of rows a)) b) (let f = has_full limit a in let w = has_pos insides a in grind (arith, members, nat_tests))

  pub yes_in_rows : (a : ℕ) → (has (bit_and insides (full limit)) a && has (row_of rows a).yes b) ≡ (has insides a && has (row_of rows a).yes b)
  yes_in_rows = in_rows (λ (r : Row). r.yes) refl

  pub no_in_rows : (a : ℕ) → (has (bit_and insides (full limit)) a && has (row_of rows a).no b) ≡ (has insides a && has (row_of rows a).no b)
  no_in_rows = in_rows (λ (r : Row). r.no) refl

-- a label that has a row
pub in_limit : (insides e : ℕ) → has (bit_and insides (full limit)) e ≡ true → (1 ≤ e) × (e ≤ limit)
in_limit insides e h = let f = has_full limit e in (has_pos _ e h, grind (arith, members, nat_tests))

pub limited : (insides : ℕ) → bit_and insides (full limit) < 2 ^ 64
limited insides = let h = within limit (bit_and insides (full limit)) (λ e m. (in_limit insides e m).1) in omega (arith, h)
