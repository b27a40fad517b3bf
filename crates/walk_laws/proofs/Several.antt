-- The answers of a list.
use Rattle.std.proofs.Common.{◌≡◌, ℕ, zero, suc, ◌-◌, ◌<◌, ◌≤◌, List, [], ◌∷◌, ◌++◌, length, take, Some, None, Option, sym, refl, ap, ◌∙◌, arith}
use native.Mathlib.Nat.{sub-zero, suc-sub-suc}
use Rattle.walk_laws.specs.Law.{Follows, Inside, Listed, continued}
use Rattle.walk_laws.specs.Lives.{Runs, ends, goes, sets_of}
use Rattle.walk_laws.specs.Settings.{Setting, Sound}
use Rattle.walk_laws.specs.Steps.{State, go_on, in_front, several, step}
use Rattle.walk_laws.proofs.Future.{leads, stop_same}
use Rattle.walk_laws.specs.declared.Exchange.{Exchange}
use Rattle.walk_laws.specs.declared.Stop.TheVariants.{Finished, Full}
use Rattle.walk_laws.specs.declared.Stop.{Stop}

full_not_finished : (e : Stop) → e ≡ Full → e ≡ Finished → ⊥
full_not_finished e p q = let z : ◌≡◌ {A = ℕ} 0 1 = cc in omega arith

module _ {R V : Type 0} (w : Setting R V) where
  sets : (k : ℕ) (s : State R V) (F : List ℕ) → Runs w s F → sets_of (several w k s).0 ≡ take k F
  unfolding several
  sets zero s F u = refl
  sets (suc k) s F (ends p) = ap (λ (q : Option Exchange × State R V). sets_of (go_on w (several w k) q).0) p
  sets (suc k) s F (goes {t = t} {F = G} p u) =
      ap (λ (q : Option Exchange × State R V). sets_of (go_on w (several w k) q).0) p ∙ ap (λ (l : List ℕ). t.present ∷ l) (sets k t G u)

  finishes : (k : ℕ) (s : State R V) (F : List ℕ) → Runs w s F → (several w k s).1 ≡ Finished → length F < k
  unfolding several
  finishes zero s F u h = absurd (full_not_finished Full refl h)
  finishes (suc k) s F (ends p) h = omega arith
  finishes (suc k) s F (goes {t = t} {F = G} p u) h =
      let l = finishes k t G u (sym (ap (λ (q : Option Exchange × State R V). (go_on w (several w k) q).1) p) ∙ h) in omega arith

  fewer : (k : ℕ) (s : State R V) (F : List ℕ) → Runs w s F → length F < k → (several w k s).1 ≡ Finished
  unfolding several
  fewer zero s F u h = absurd (omega arith)
  fewer (suc k) s F (ends p) h = ap (λ (q : Option Exchange × State R V). (go_on w (several w k) q).1) p
  fewer (suc k) s F (goes {t = t} {F = G} p u) h =
      ap (λ (q : Option Exchange × State R V). (go_on w (several w k) q).1) p ∙ fewer k t G u (omega arith)

  pub inside : (k j : ℕ) (s : State R V) → j ≤ length (several w k s).0 → Inside w s k j
  unfolding several
  inside k zero s h = record { so_far = refl; not_ended = refl; onward = ap (λ (i : ℕ). several w i s) (sym (sub-zero k)) }
  inside zero (suc j) s h = absurd (omega arith)
  inside (suc k) (suc j) s h =
      let r = go (step w s) h (inside k j) in
      record { so_far = r.0; not_ended = r.1; onward = r.2 ∙ ap (λ (i : ℕ). continued w (several w (suc j) s) (several w i (several w (suc j) s).2)) (sym (suc-sub-suc k j)) }
    where
      go : (p : Option Exchange × State R V) → suc j ≤ length (go_on w (several w k) p).0 → ((t : State R V) → j ≤ length (several w k t).0 → Inside w t k j)
          → ((go_on w (several w j) p).0 ≡ take (suc j) (go_on w (several w k) p).0) × ((go_on w (several w j) p).1 ≡ Full)
          × (go_on w (several w k) p ≡ continued w (go_on w (several w j) p) (several w (k - j) (go_on w (several w j) p).2))
      go (None, t) g ih = absurd (omega arith)
      go (Some x, t) g ih =
          let r = ih t (omega arith) in
          (ap (λ (l : List (Exchange × ℕ)). (x, t.present) ∷ l) r.so_far, r.not_ended, ap (in_front w (x, t.present)) r.onward)

  module _ (W : Sound w) where
    ended : (k : ℕ) (s : State R V) → (several w k s).1 ≡ Finished → step w (several w k s).2 ≡ (None, (several w k s).2)
    unfolding several
    ended zero s h = absurd (full_not_finished Full refl h)
    ended (suc k) s h = go (step w s) refl h (ended k)
      where
        go : (p : Option Exchange × State R V) → step w s ≡ p → (go_on w (several w k) p).1 ≡ Finished
            → ((t : State R V) → (several w k t).1 ≡ Finished → step w (several w k t).2 ≡ (None, (several w k t).2))
            → step w (go_on w (several w k) p).2 ≡ (None, (go_on w (several w k) p).2)
        go (None, t) q g ih = ap (step w) (stop_same w W s t q) ∙ q
        go (Some x, t) q g ih = ih t g

    exchanges : (k : ℕ) (s : State R V) → Follows s.present (several w k s).0
    unfolding several
    exchanges zero s = tt
    exchanges (suc k) s = go (step w s) refl (exchanges k)
      where
        go : (p : Option Exchange × State R V) → step w s ≡ p → ((t : State R V) → Follows t.present (several w k t).0) → Follows s.present (go_on w (several w k) p).0
        go (None, t) q ih = tt
        go (Some x, t) q ih = (leads w W s t x q, ih t)

    pub listing : (s : State R V) (F : List ℕ) → Runs w s F → (k : ℕ) → Listed w s F k
    listing s F u k = record {
      sets = sets k s F u;
      exchanges = exchanges k s;
      finishes = (finishes k s F u, fewer k s F u);
      ended = ended k s;
      inside = λ j h. inside k j s h;
    }

-- ---- one turn of a list

module _ {R V : Type 0} (w : Setting R V) where
  pub several_more : (j : ℕ) (s u : State R V) (x : Exchange) → (several w j s).1 ≡ Full → step w (several w j s).2 ≡ (Some x, u)
      → several w (suc j) s ≡ ((several w j s).0 ++ ((x, u.present) ∷ []), Full, u)
  unfolding several
  several_more zero s u x f q = ap (go_on w (several w 0)) q
  several_more (suc j) s u x f q = go (step w s) f q (several_more j)
    where
      go : (p : Option Exchange × State R V) → (go_on w (several w j) p).1 ≡ Full → step w (go_on w (several w j) p).2 ≡ (Some x, u)
          → ((s u : State R V) (x : Exchange) → (several w j s).1 ≡ Full → step w (several w j s).2 ≡ (Some x, u)
          → several w (suc j) s ≡ ((several w j s).0 ++ ((x, u.present) ∷ []), Full, u))
          → go_on w (several w (suc j)) p ≡ ((go_on w (several w j) p).0 ++ ((x, u.present) ∷ []), Full, u)
      go (None, t) f q ih = absurd (full_not_finished Finished f refl)
      go (Some y, t) f q ih = ap (in_front w (y, t.present)) (ih t u x f q)

  pub several_stop : (j k : ℕ) (s u : State R V) → (several w j s).1 ≡ Full → step w (several w j s).2 ≡ (None, u) → j < k
      → several w k s ≡ ((several w j s).0, Finished, u)
  unfolding several
  several_stop j zero s u f q l = absurd (omega arith)
  several_stop zero (suc k) s u f q l = ap (go_on w (several w k)) q
  several_stop (suc j) (suc k) s u f q l = go (step w s) f q (several_stop j k)
    where
      go : (p : Option Exchange × State R V) → (go_on w (several w j) p).1 ≡ Full → step w (go_on w (several w j) p).2 ≡ (None, u)
          → ((s u : State R V) → (several w j s).1 ≡ Full → step w (several w j s).2 ≡ (None, u) → j < k → several w k s ≡ ((several w j s).0, Finished, u))
          → go_on w (several w k) p ≡ ((go_on w (several w j) p).0, Finished, u)
      go (None, t) f q ih = absurd (full_not_finished Finished f refl)
      go (Some y, t) f q ih = ap (in_front w (y, t.present)) (ih t u f q (omega arith))
