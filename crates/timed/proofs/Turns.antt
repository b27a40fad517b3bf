-- A walk for the benchmark, advance by advance.
use Rattle.std.proofs.Common.{◌≡◌, ℕ, ◌-◌, ◌<◌, suc, List, [], ◌∷◌, ◌++◌, length, Some, None, refl, ap, ◌∙◌, sym}
use Rattle.labels.specs.Sets.{full}
use Rattle.measure.specs.declared.value.Shift.{Shift}
use Rattle.tie_rule.specs.declared.closest.Closest.{Closest}
use Rattle.walk_laws.specs.declared.Exchange.{Exchange}
use Rattle.walk_laws.specs.declared.Stop.TheVariants.{Full}
use Rattle.walk_laws.specs.Settings.{Setting, total_of}
use Rattle.walk_laws.specs.Steps.{Several, State, begun, several, step}
use Rattle.walk_laws.specs.Lives.{Life, begins, calls, lists}
use Rattle.walk_laws.specs.Law.{LawOfLife}
use Rattle.walk_laws.proofs.Lists.{reordered_refl}
use Rattle.walk_laws.proofs.Several.{several_more, several_stop}
use Rattle.timed.specs.declared.Outcome.{Outcome}
use Rattle.timed.specs.Timed.{Tells, advances, digest_of, digested, handed}

digest_more : (d : ℕ) (xs : List (Exchange × ℕ)) (x : Exchange × ℕ) → digest_of d (xs ++ x ∷ []) ≡ digested (digest_of d xs) x.0
unfolding digest_of
digest_more d [] x = refl
digest_more d (y ∷ xs) x = digest_more (digested d y.0) xs x

module _ (w : Setting Closest Shift) (s₀ : State Closest Shift) (d₀ : ℕ) where
  -- after j advances
  pub record SoFar (j : ℕ) (s : State Closest Shift) (d : ℕ) : Type 0 where
    pub not_ended : (several w j s₀).1 ≡ Full
    pub reached : (several w j s₀).2 ≡ s
    pub digest : d ≡ digest_of d₀ (several w j s₀).0

  pub none_yet : (d : ℕ) → d ≡ d₀ → SoFar 0 s₀ d
  unfolding several digest_of
  none_yet d q = record { not_ended = refl; reached = refl; digest = q }

  module _ (j : ℕ) (s : State Closest Shift) (d : ℕ) (h : SoFar j s d) where
    pub one_more : (i : ℕ) (x : Exchange) (t : State Closest Shift) (e : ℕ) → i ≡ suc j → step w s ≡ (Some x, t) → e ≡ digested d x → SoFar i t e
    one_more i x t e next q k =
        let more = ap (λ (n : ℕ). several w n s₀) next ∙ several_more w j s₀ t x h.not_ended (ap (step w) h.reached ∙ q) in
        record {
          not_ended = ap (λ (p : Several w). p.1) more;
          reached = ap (λ (p : Several w). p.2) more;
          digest = k ∙ ap (λ (a : ℕ). digested a x) h.digest ∙ sym (digest_more d₀ (several w j s₀).0 (x, t.present)) ∙ sym (ap (λ (p : Several w). digest_of d₀ p.0) more);
        }

    pub finished : (k : ℕ) (t : State Closest Shift) → step w s ≡ (None, t) → j < k → ((several w k s₀).2 ≡ t) × (d ≡ digest_of d₀ (several w k s₀).0)
    finished k t q l =
        let stop = several_stop w j k s₀ t h.not_ended (ap (step w) h.reached ∙ q) l in
        (ap (λ (p : Several w). p.2) stop, h.digest ∙ sym (ap (λ (p : Several w). digest_of d₀ p.0) stop))

-- the state at the end, by the sets that were handed out
pub told : (w : Setting Closest Shift) (most : ℕ) → LawOfLife w 0 (full 64) (record {}) → ((advances w most).2.count ≡ length (handed w most)) × ((advances w most).2.total ≡ total_of w (handed w most))
told w most law =
    let s₀ = begun w 0 (full 64) (record {}) in
    let life : Life w s₀ (handed w most) (advances w most).2 = calls begins (lists refl) in
    let always = law.always (handed w most) (advances w most).2 life in
    (always.counted, always.totalled (handed w most) (reordered_refl (handed w most)))

pub tells : (w v : Setting Closest Shift) (most : ℕ) (s t : State Closest Shift) (o : Outcome) → LawOfLife w 0 (full 64) (record {}) → v ≡ w → s ≡ begun w 0 (full 64) (record {})
    → (several v (most - 1) s).2 ≡ t → o.digest ≡ digest_of s.present (several v (most - 1) s).0 → o.count ≡ t.count → o.across ≡ t.total.across → o.along ≡ t.total.along → Tells w most o
tells w v most s t o law p q end d c x y =
    let run : several v (most - 1) s ≡ advances w most = λ i. several (p i) (most - 1) (q i) in
    let last : t ≡ (advances w most).2 = sym end ∙ ap (λ (r : Several w). r.2) run in
    let known = told w most law in
    record {
      count = c ∙ ap (λ (r : State Closest Shift). r.count) last ∙ known.0;
      digest = d ∙ (λ i. digest_of (q i).present (run i).0);
      across = x ∙ ap (λ (r : State Closest Shift). r.total.across) last ∙ ap (λ (r : Shift). r.across) known.1;
      along = y ∙ ap (λ (r : State Closest Shift). r.total.along) last ∙ ap (λ (r : Shift). r.along) known.1;
      law = law;
    }
