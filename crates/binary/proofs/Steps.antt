-- One turn of a reduction, and one turn through the labels.
use Rattle.std.proofs.Common.{◌≡◌, ℕ, suc, ◌+◌, ◌*◌, ◌/◌, ◌^◌, ◌<◌, ◌≤◌, true, false, ◌⊎◌, List, [], ◌∷◌, length, get_or, set, replicate, sym, ap, ◌∙◌, subst, inl, inr, arith, pow_pos}
use lib.Bits.{bit_and, bit_xor}
use native.Mathlib.Decide.{ℕ_discrete}
use native.Mathlib.Nat.{zero-div, div-eq_of_lt, lt-div-mul-add}
use Rattle.std.proofs.lemmas.Bool.{cases_Bool}
use Rattle.std.proofs.lemmas.Bool.Decides.{nat_tests}
use Rattle.std.proofs.lemmas.List.{length-replicate}
use Rattle.labels.specs.Sets.{has, single, insert, difference, Subset}
use Rattle.labels.proofs.Member.{has_pos, has_xor, has_none, members}
use Rattle.labels.proofs.Card.{ext, top_is, within_back}
use Rattle.labels.proofs.Order.{top_less}
use Rattle.labels.proofs.Words.{shift_tests}
use Rattle.labels.specs.Listed.{labels_in}
use Rattle.labels.proofs.Upwards.{labels_none, labels_tell}
use Rattle.label_words.proofs.Ascending.{word_left}
use Rattle.binary_laws.specs.Binary.{binary, LinearlyIndependent}
use Rattle.binary_laws.specs.Elimination.{places, pivot, Leading, Echelon, reduced, Grown, Vanishes}
use Rattle.binary_laws.proofs.Reduction.{reduced_none, reduced_step}
use Rattle.binary_laws.proofs.Laws.{means, meant, part_independent}
use Rattle.binary_laws.proofs.Table.{Table, pivot_is, blank_table, grown_length, grown_table, refuses}

-- the place i, from 0, of the highest digit of a word
pub leads : (x i : ℕ) → 2 ^ i ≤ x → x < 2 * 2 ^ i → Leading x (suc i)
leads x i least most = let r = top_is i x least (omega arith) in record { on = r.0; above = r.1 }

-- a pivot of the same highest place leaves less of a word
xor_less : (x p k : ℕ) → Leading x k → Leading p k → bit_xor x p < x
xor_less x p k X P = top_less (bit_xor x p) x k (record {
  apart = let a = X.on in let b = P.on in let c = has_xor x p k in grind arith;
  above = λ e l. let b = P.above e l in let c = has_xor x p e in grind arith;
}) X.on

-- a reduction of w by the table ps has come to x
pub record Reducing (ps qs : List ℕ) (w x : ℕ) : Type 0 where
  pub unchanged : qs ≡ ps
  pub falling : x ≤ w
  pub same : reduced (pivot ps) places x ≡ reduced (pivot ps) places w

module _ (ps qs : List ℕ) (w x : ℕ) (E : Echelon (pivot ps)) (R : Reducing ps qs w x) where
  pub at_end : x ≡ 0 → Vanishes ps w
  at_end z = sym R.same ∙ ap (reduced (pivot ps) places) z ∙ reduced_none (pivot ps) places

  -- the highest digit of what is left stands at i
  module _ (i : ℕ) (L : Leading x (suc i)) where
    -- no further up than the word has digits
    pub inside : (n : ℕ) → w < 2 ^ n → i < n
    inside n h = within_back n x (suc i) (omega (arith, R.falling)) L.on

    pub grows : w < 2 ^ length ps → get_or qs i 0 ≡ 0 → Grown ps w (set qs i x)
    grows h z = record {
      left = x;
      index = i;
      low = inside (length ps) h;
      same = R.same;
      leads = L;
      vacant = ap (λ (rs : List ℕ). get_or rs i 0) (sym R.unchanged) ∙ z;
      stored = ap (λ (rs : List ℕ). set rs i x) R.unchanged;
    }

    held : get_or qs i 0 ≡ pivot ps (suc i)
    held = ap (λ (rs : List ℕ). get_or rs i 0) R.unchanged ∙ sym (pivot_is ps i)

    -- whether there is a pivot is told by its digit at i
    pub vacant : bit_and (get_or qs i 0 / 2 ^ i) 1 ≡ 0 → get_or qs i 0 ≡ 0
    vacant z = go (E (suc i))
      where
        go : (pivot ps (suc i) ≡ 0) ⊎ Leading (pivot ps (suc i)) (suc i) → get_or qs i 0 ≡ 0
        go (inl z) = held ∙ z
        go (inr P) = let on : has (get_or qs i 0) (suc i) ≡ true = ap (λ (x : ℕ). has x (suc i)) held ∙ P.on in
            let t = shift_tests (get_or qs i 0) (suc i) (omega arith) in absurd (grind (arith, nat_tests))

    pub occupied : (bit_and (get_or qs i 0 / 2 ^ i) 1 ≡ 0 → ⊥) → get_or qs i 0 ≡ 0 → ⊥
    occupied f z = f (ap (λ (x : ℕ). bit_and (x / 2 ^ i) 1) z ∙ ap (λ (x : ℕ). bit_and x 1) (zero-div (2 ^ i)))

    pub falls : (get_or qs i 0 ≡ 0 → ⊥) → bit_xor x (get_or qs i 0) < x
    falls f = subst (λ (y : ℕ). bit_xor x y < x) (sym held) (go (E (suc i)))
      where
        go : (pivot ps (suc i) ≡ 0) ⊎ Leading (pivot ps (suc i)) (suc i) → bit_xor x (pivot ps (suc i)) < x
        go (inl z) = absurd (f (held ∙ z))
        go (inr P) = xor_less x (pivot ps (suc i)) (suc i) L P

    pub goes_on : w < 2 ^ places → (get_or qs i 0 ≡ 0 → ⊥) → Reducing ps qs w (bit_xor x (get_or qs i 0))
    goes_on h f = record {
      unchanged = R.unchanged;
      falling = omega (arith, falls f, R.falling);
      same = ap (λ (y : ℕ). reduced (pivot ps) places (bit_xor x y)) held
          ∙ reduced_step (pivot ps) E places (suc i) x (omega arith) (inside places h) ∙ R.same;
    }

-- ---- through the labels

-- the labels of s that are not in rest have been taken up, and have the table ps
pub record Scanned (n : ℕ) (v : ℕ → ℕ) (s rest : ℕ) (ps : List ℕ) : Type 0 where
  pub room : length ps ≤ places
  pub fits : rest < 2 ^ 64
  pub within : Subset rest s
  pub table : Table n v (difference s rest) (pivot ps)

-- of sets alone
none_taken : (s : ℕ) → difference s s ≡ 0
none_taken s = ext _ _ (λ e. grind (arith, members))

all_taken : (s rest : ℕ) → rest ≡ 0 → difference s rest ≡ s
all_taken s rest z = ext _ _ (λ e. let q = ap (λ (x : ℕ). has x e) z in grind (arith, members))

taken_more : (s rest e : ℕ) → Subset rest s → has rest e ≡ true → difference s (bit_xor rest (single e)) ≡ insert (difference s rest) e
taken_more s rest e p m = ext _ _ (λ f. let q = p f in let l = has_pos rest e m in go f (ℕ_discrete f e) q l)
  where
    go : (f : ℕ) → Dec (f ≡ e) → (has rest f ≡ true → has s f ≡ true) → 1 ≤ e → has (difference s (bit_xor rest (single e))) f ≡ has (insert (difference s rest) e) f
    go f (yes z) q l = let a = ap (has rest) z in grind (arith, members)
    go f (no z) q l = grind (arith, members)

taken_within : (s rest e : ℕ) → Subset rest s → has rest e ≡ true → Subset (insert (difference s rest) e) s
taken_within s rest e p m f i = go (ℕ_discrete f e)
  where
    go : Dec (f ≡ e) → has s f ≡ true
    go (yes z) = ap (has s) z ∙ p e m
    go (no z) = let l = has_pos rest e m in grind (arith, members)

rest_within : (s rest e : ℕ) → Subset rest s → has rest e ≡ true → Subset (bit_xor rest (single e)) s
rest_within s rest e p m f i = go (ℕ_discrete f e)
  where
    go : Dec (f ≡ e) → has s f ≡ true
    go (yes z) = ap (has s) z ∙ p e m
    go (no z) = let l = has_pos rest e m in let q = p f in grind (arith, members)

not_taken : (s rest e : ℕ) → has rest e ≡ true → has (difference s rest) e ≡ false
not_taken s rest e m = grind (arith, members)

pub answers_no : (n : ℕ) (v : ℕ → ℕ) (s : ℕ) → (LinearlyIndependent n v s → ⊥) → binary n v s ≡ false
answers_no n v s f = go (cases_Bool (binary n v s))
  where
    go : (binary n v s ≡ true) ⊎ (binary n v s ≡ false) → binary n v s ≡ false
    go (inr x) = x
    go (inl x) = absurd (f (means n v s x))

-- `s >> w`, where w is the width n
pub too_high : (n : ℕ) (v : ℕ → ℕ) (s w : ℕ) → w ≡ n → (s / 2 ^ w ≡ 0 → ⊥) → binary n v s ≡ false
too_high n v s w same f = answers_no n v s (λ F. f (div-eq_of_lt (subst (λ (k : ℕ). s < 2 ^ k) (sym same) F.inside)))

pub low : (n s w : ℕ) → w ≡ n → s / 2 ^ w ≡ 0 → s < 2 ^ n
low n s w same z =
    let h = lt-div-mul-add {a = s} {b = 2 ^ w} (pow_pos w) in let k = ap (λ (x : ℕ). x * 2 ^ w + 2 ^ w) z in
    let l : s < 2 ^ w = omega arith in subst (λ (k : ℕ). s < 2 ^ k) same l

pub scan_starts : (n : ℕ) (v : ℕ → ℕ) (s m : ℕ) → s < 2 ^ 64 → m ≤ places → Scanned n v s s (replicate m 0)
scan_starts n v s m h few = record {
  room = omega (arith, length-replicate {A = ℕ} m 0);
  fits = h;
  within = λ e m. m;
  table = subst (λ (t : ℕ). Table n v t (pivot (replicate m 0))) (sym (none_taken s)) (blank_table n v m);
}

-- the labels of s that are not in the list `left` have been taken up, and have the table ps
abbrev pub ScannedTo : (n : ℕ) (v : ℕ → ℕ) (s : ℕ) (left ps : List ℕ) → Type 0
ScannedTo n v s left ps = (rest : ℕ) × (left ≡ labels_in rest 64) × Scanned n v s rest ps

-- no label is left
pub scan_ends : (n : ℕ) (v : ℕ → ℕ) (s : ℕ) (ps : List ℕ) → (S : ScannedTo n v s [] ps) → binary n v s ≡ true
scan_ends n v s ps S = meant n v s (subst (LinearlyIndependent n v) (all_taken s S.0 (labels_tell S.0 0 64 S.2.fits (omega arith) (sym S.1 ∙ sym (labels_none 0 64 (λ e _. has_none e))))) S.2.table.independent)

module _ (n : ℕ) (v : ℕ → ℕ) (s : ℕ) (ps : List ℕ) (inside : s < 2 ^ n) (e : ℕ) (left : List ℕ) (S : ScannedTo n v s (e ∷ left) ps) where
  abbrev rest : ℕ
  rest = S.0

  taken : (has rest e ≡ true) × (left ≡ labels_in (bit_xor rest (single e)) 64) × (bit_xor rest (single e) < 2 ^ 64)
  taken = word_left rest e left S.2.fits (sym S.1)

  in_range : e ≤ n
  in_range = within_back n s e inside (S.2.within e taken.0)

  pub scan_refuses : (w : ℕ) → w ≡ v e → Vanishes ps w → binary n v s ≡ false
  scan_refuses w same z = answers_no n v s (λ F.
      refuses n v (difference s rest) (pivot ps) S.2.table e (has_pos rest e taken.0) in_range (not_taken s rest e taken.0)
      (ap (reduced (pivot ps) places) (sym same) ∙ z)
      (part_independent n v (insert (difference s rest) e) s (taken_within s rest e S.2.within taken.0) F))

  pub scan_goes_on : (w : ℕ) → w ≡ v e → (qs : List ℕ) → Grown ps w qs → ScannedTo n v s left qs
  scan_goes_on w same qs G = (
    bit_xor rest (single e),
    taken.1,
    record {
      room = omega (arith, grown_length ps w qs G, S.2.room);
      fits = taken.2;
      within = rest_within s rest e S.2.within taken.0;
      table = subst (λ (t : ℕ). Table n v t (pivot qs)) (sym (taken_more s rest e S.2.within taken.0))
          (grown_table n v (difference s rest) ps S.2.table S.2.room e (has_pos rest e taken.0) in_range (not_taken s rest e taken.0) qs (subst (λ (x : ℕ). Grown ps x qs) same G));
    },
  )
