-- What reduction by a table of pivots does.
use Rattle.std.proofs.Common.{◌≡◌, ℕ, zero, suc, ◌<◌, ◌≤◌, Bool, true, false, cond, ◌⊎◌, sym, refl, ap, ◌∙◌, ap₂, inl, inr, arith}
use native.Mathlib.Decide.{ℕ_discrete}
use lib.Bits.{bit_xor, xor_self, xor_zero_r}
use Rattle.std.proofs.lemmas.Bool.{both_ways}
use Rattle.labels.specs.Sets.{has, Subset}
use Rattle.labels.proofs.Member.{has_pos, has_xor, members}
use Rattle.labels.proofs.Card.{ext}
use Rattle.labels.proofs.Parts.{none_subset}
use Rattle.binary_laws.specs.Binary.{xor_sum}
use Rattle.binary_laws.specs.Elimination.{Leading, Echelon, cancelled, reduced}
use Rattle.binary_laws.proofs.Basics.{xor_subset}
use Rattle.binary_laws.proofs.Sums.{linear, mixed, xor_sum_empty}

cond_xor : (b : Bool) (x q : ℕ) → cond b (bit_xor x q) x ≡ bit_xor x (cond b q 0)
cond_xor true x q = refl
cond_xor false x q = sym (xor_zero_r x)

regroup : (x k r : ℕ) → bit_xor (bit_xor (bit_xor x k) r) k ≡ bit_xor x r
regroup x k r = ext _ _ (λ e. grind (arith, members))

module _ (p : ℕ → ℕ) where
  reduced_linear : (m x y : ℕ) → reduced p m (bit_xor x y) ≡ bit_xor (reduced p m x) (reduced p m y)
  unfolding reduced
  reduced_linear zero x y = refl
  reduced_linear (suc m) x y =
      ap (reduced p m) (
      cond_xor (has (bit_xor x y) (suc m)) (bit_xor x y) (p (suc m))
      ∙ mixed x y (p (suc m)) (has x (suc m)) (has y (suc m)) (has (bit_xor x y) (suc m)) (has_xor x y (suc m))
      ∙ ap₂ bit_xor (sym (cond_xor (has x (suc m)) x (p (suc m)))) (sym (cond_xor (has y (suc m)) y (p (suc m))))
      )
      ∙ reduced_linear m (cancelled p (suc m) x) (cancelled p (suc m) y)

  pub reduced_none : (m : ℕ) → reduced p m 0 ≡ 0
  reduced_none m = sym (ap (reduced p m) (xor_self 0)) ∙ reduced_linear m 0 0 ∙ xor_self (reduced p m 0)

  -- words that are reduced to 0 have a sum that is
  pub reduced_sum : (v : ℕ → ℕ) (m t n : ℕ) → ((e : ℕ) → has t e ≡ true → reduced p m (v e) ≡ 0) → reduced p m (xor_sum v n t) ≡ 0
  unfolding xor_sum
  reduced_sum v m t zero f = reduced_none m
  reduced_sum v m t (suc n) f =
      reduced_linear m (xor_sum v n t) (cond (has t (suc n)) (v (suc n)) 0) ∙ ap₂ bit_xor (reduced_sum v m t n f) (go (has t (suc n)) refl) ∙ xor_zero_r 0
    where
      go : (b : Bool) → has t (suc n) ≡ b → reduced p m (cond b (v (suc n)) 0) ≡ 0
      go true h = f (suc n) h
      go false h = reduced_none m

  -- what reduction takes away is a sum of words of t
  pub reduced_made : (v : ℕ → ℕ) (n t : ℕ) → ((k : ℕ) → (c : ℕ) × Subset c t × (xor_sum v n c ≡ p k)) → (m x : ℕ)
      → (c : ℕ) × Subset c t × (xor_sum v n c ≡ bit_xor x (reduced p m x))
  unfolding reduced
  reduced_made v n t f zero x = (0, none_subset t, xor_sum_empty v n ∙ sym (xor_self x))
  reduced_made v n t f (suc m) x = go (has x (suc m)) (reduced_made v n t f m)
    where
      go : (b : Bool) → ((x : ℕ) → (c : ℕ) × Subset c t × (xor_sum v n c ≡ bit_xor x (reduced p m x)))
          → (c : ℕ) × Subset c t × (xor_sum v n c ≡ bit_xor x (reduced p m (cond b (bit_xor x (p (suc m))) x)))
      go false ih = ih x
      go true ih = join (ih (bit_xor x (p (suc m)))) (f (suc m))
        where
          join : (c : ℕ) × Subset c t × (xor_sum v n c ≡ bit_xor (bit_xor x (p (suc m))) (reduced p m (bit_xor x (p (suc m)))))
              → (d : ℕ) × Subset d t × (xor_sum v n d ≡ p (suc m))
              → (c : ℕ) × Subset c t × (xor_sum v n c ≡ bit_xor x (reduced p m (bit_xor x (p (suc m)))))
          join (c, q, z) (d, r, w) = (
            bit_xor c d,
            xor_subset c d t q r,
            linear v n c d ∙ ap₂ bit_xor z w ∙ regroup x (p (suc m)) (reduced p m (bit_xor x (p (suc m)))),
          )

  -- a place that is off, or has no pivot, is left as it is
  cancelled_off : (k x : ℕ) → (p k ≡ 0) ⊎ (has x k ≡ false) → cancelled p k x ≡ x
  cancelled_off k x c = go (has x k) refl c
    where
      go : (b : Bool) → has x k ≡ b → (p k ≡ 0) ⊎ (has x k ≡ false) → cond b (bit_xor x (p k)) x ≡ x
      go false h c = refl
      go true h (inl z) = ap (bit_xor x) z ∙ xor_zero_r x
      go true h (inr z) = absurd (both_ways (has x k) z h)

  -- such places above k may be passed over
  reduced_skip : (m k x : ℕ) → k ≤ m → ((j : ℕ) → k < j → (p j ≡ 0) ⊎ (has x j ≡ false)) → reduced p m x ≡ reduced p k x
  unfolding reduced
  reduced_skip zero k x l f = ap (λ (j : ℕ). reduced p j x) (let z : 0 ≡ k = omega arith in z)
  reduced_skip (suc m) k x l f = go (ℕ_discrete k (suc m)) (λ h. reduced_skip m k x h f)
    where
      go : Dec (k ≡ suc m) → (k ≤ m → reduced p m x ≡ reduced p k x) → reduced p (suc m) x ≡ reduced p k x
      go (yes z) ih = ap (λ (j : ℕ). reduced p j x) (sym z)
      go (no z) ih = ap (reduced p m) (cancelled_off (suc m) x (f (suc m) (omega arith))) ∙ ih (omega arith)

  module _ (echelon : Echelon p) where
    cancelled_high : (k x j : ℕ) → k < j → has (cancelled p k x) j ≡ has x j
    cancelled_high k x j l = go (has x k) (echelon k)
      where
        go : (b : Bool) → (p k ≡ 0) ⊎ Leading (p k) k → has (cond b (bit_xor x (p k)) x) j ≡ has x j
        go false c = refl
        go true (inl z) = ap (λ (y : ℕ). has (bit_xor x y) j) z ∙ ap (λ (y : ℕ). has y j) (xor_zero_r x)
        go true (inr P) = let o = P.above j l in let z = has_xor x (p k) j in grind arith

    -- the places above m are left as they are
    pub reduced_high : (m x j : ℕ) → m < j → has (reduced p m x) j ≡ has x j
    unfolding reduced
    reduced_high zero x j l = refl
    reduced_high (suc m) x j l = reduced_high m (cancelled p (suc m) x) j (omega arith) ∙ cancelled_high (suc m) x j l

    -- a pivot is reduced to 0
    reduced_pivot : (m k : ℕ) → 1 ≤ k → k ≤ m → reduced p m (p k) ≡ 0
    unfolding reduced
    reduced_pivot m zero a b = absurd (omega arith)
    reduced_pivot m (suc k) a b = go (echelon (suc k))
      where
        go : (p (suc k) ≡ 0) ⊎ Leading (p (suc k)) (suc k) → reduced p m (p (suc k)) ≡ 0
        go (inl z) = ap (reduced p m) z ∙ reduced_none m
        go (inr P) =
            reduced_skip m (suc k) (p (suc k)) b (λ j l. inr (P.above j l))
            ∙ ap (λ (c : Bool). reduced p k (cond c (bit_xor (p (suc k)) (p (suc k))) (p (suc k)))) P.on
            ∙ ap (reduced p k) (xor_self (p (suc k))) ∙ reduced_none k

    -- so a pivot more or less in a word changes nothing
    pub reduced_step : (m k x : ℕ) → 1 ≤ k → k ≤ m → reduced p m (bit_xor x (p k)) ≡ reduced p m x
    reduced_step m k x a b = reduced_linear m x (p k) ∙ ap (bit_xor (reduced p m x)) (reduced_pivot m k a b) ∙ xor_zero_r (reduced p m x)

reduced_same : (p q : ℕ → ℕ) (m x : ℕ) → ((k : ℕ) → 1 ≤ k → k ≤ m → q k ≡ p k) → reduced q m x ≡ reduced p m x
unfolding reduced
reduced_same p q zero x f = refl
reduced_same p q (suc m) x f =
    ap (λ (y : ℕ). reduced q m (cond (has x (suc m)) (bit_xor x y) x)) (f (suc m) (omega arith) (omega arith))
    ∙ reduced_same p q m (cancelled p (suc m) x) (λ k l g. f k l (omega arith))

reduced_cond : (p : ℕ → ℕ) (m x y : ℕ) (b : Bool) → reduced p m (cond b (bit_xor y x) y) ≡ bit_xor (reduced p m y) (cond b (reduced p m x) 0)
reduced_cond p m x y true = reduced_linear p m y x
reduced_cond p m x y false = sym (xor_zero_r (reduced p m y))

-- one pivot more, x at its highest place k, which had none
module _ (p q : ℕ → ℕ) (echelon : Echelon p) (x k : ℕ) (none : p k ≡ 0) (leads : Leading x k) (new : q k ≡ x) (old : (j : ℕ) → (j ≡ k → ⊥) → q j ≡ p j) where
  pub reduced_more : (m y : ℕ) → 1 ≤ k → k ≤ m → reduced q m y ≡ bit_xor (reduced p m y) (cond (has (reduced p m y) k) (reduced p m x) 0)
  unfolding reduced
  reduced_more zero y l g = absurd (omega arith)
  reduced_more (suc m) y l g = go (ℕ_discrete k (suc m)) (λ y h. reduced_more m y l h)
    where
      go : Dec (k ≡ suc m) → ((y : ℕ) → k ≤ m → reduced q m y ≡ bit_xor (reduced p m y) (cond (has (reduced p m y) k) (reduced p m x) 0))
          → reduced q m (cancelled q (suc m) y)
          ≡ bit_xor (reduced p m (cancelled p (suc m) y)) (cond (has (reduced p m (cancelled p (suc m) y)) k) (reduced p m (cancelled p (suc m) x)) 0)
      go (no z) ih =
          let w = cancelled p (suc m) y in
          ap (λ (u : ℕ). reduced q m (cond (has y (suc m)) (bit_xor y u) y)) (old (suc m) (λ e. z (sym e)))
          ∙ ih w (omega arith)
          ∙ ap (λ (u : ℕ). bit_xor (reduced p m w) (cond (has (reduced p m w) k) (reduced p m u) 0)) (sym (cancelled_off p (suc m) x (inr (leads.above (suc m) (omega arith)))))
      go (yes z) ih =
          let vacant : p (suc m) ≡ 0 = ap p (sym z) ∙ none in
          ap (λ (u : ℕ). reduced q m (cond (has y (suc m)) (bit_xor y u) y)) (ap q (sym z) ∙ new)
          ∙ reduced_same p q m (cond (has y (suc m)) (bit_xor y x) y) (λ j a b. old j (λ e. omega arith))
          ∙ reduced_cond p m x y (has y (suc m))
          ∙ ap (λ (b : Bool). bit_xor (reduced p m y) (cond b (reduced p m x) 0)) (sym (reduced_high p echelon m y k (omega arith) ∙ ap (has y) z))
          ∙ ap₂ (λ (u w : ℕ). bit_xor (reduced p m u) (cond (has (reduced p m u) k) (reduced p m w) 0))
          (sym (cancelled_off p (suc m) y (inl vacant))) (sym (cancelled_off p (suc m) x (inl vacant)))

  -- what is left of x itself has the place k
  pub reduced_leads : (m : ℕ) → k ≤ m → has (reduced p m x) k ≡ true
  reduced_leads m g = go k refl leads.on
    where
      go : (j : ℕ) → j ≡ k → has x k ≡ true → has (reduced p m x) k ≡ true
      go zero z h = absurd (omega (arith, has_pos x k h))
      go (suc j) z h =
          ap (λ (u : ℕ). has u k) (reduced_skip p m j x (omega arith) (λ i l. off i l (ℕ_discrete i k)))
          ∙ reduced_high p echelon j x k (omega arith) ∙ h
        where
          off : (i : ℕ) → j < i → Dec (i ≡ k) → (p i ≡ 0) ⊎ (has x i ≡ false)
          off i l (yes w) = inl (ap p w ∙ none)
          off i l (no w) = inr (leads.above i (omega arith))
