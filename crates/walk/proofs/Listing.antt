-- A list, turn by turn.
use Rattle.std.proofs.Common.{◌≡◌, ℕ, ◌+◌, ◌<◌, List, [], ◌∷◌, ◌++◌, length, drop, Some, None, sym, refl, ap, ◌∙◌, subst, append_assoc, append-nil, add-one, length-append, drop-drop}
use Rattle.roll.specs.declared.lent.Roll.{Roll}
use Rattle.roll.specs.View.{filled}
use Rattle.walk_laws.specs.declared.Exchange.{Exchange}
use Rattle.walk_laws.specs.declared.Stop.TheVariants.{Finished, Full}
use Rattle.walk.specs.Lists.{ListedOn, free, entries_for}
use Rattle.walk_laws.specs.Settings.{Setting}
use Rattle.walk_laws.specs.Steps.{Several, State, several, step}
use Rattle.walk_laws.proofs.Several.{several_more, several_stop}
use Rattle.walk_laws.specs.Lives.{lists}

-- after j entries: so far it is a list with j free entries
pub record SoFar {R V E : Type 0} (w : Setting R V) (entry : Exchange → ℕ → E) (s₀ : State R V) (roll₀ : Roll E) (j : ℕ) (s : State R V) (roll : Roll E) : Type 0 where
  pub not_ended : (several w j s₀).1 ≡ Full
  pub reached : (several w j s₀).2 ≡ s
  pub entries : filled roll ≡ filled roll₀ ++ entries_for entry (several w j s₀).0
  pub long : length (several w j s₀).0 ≡ j

entries_more : {E : Type 0} (entry : Exchange → ℕ → E) (xs : List (Exchange × ℕ)) (x : Exchange × ℕ) → entries_for entry (xs ++ (x ∷ [])) ≡ entries_for entry xs ++ (entry x.0 x.1 ∷ [])
entries_more entry [] x = refl
entries_more {E} entry (y ∷ xs) x = ap (λ (l : List E). entry y.0 y.1 ∷ l) (entries_more entry xs x)

module _ {R V E : Type 0} (w : Setting R V) (entry : Exchange → ℕ → E) (s₀ : State R V) (roll₀ : Roll E) where
  pub so_far_none : SoFar w entry s₀ roll₀ 0 s₀ roll₀
  unfolding several
  so_far_none = record { not_ended = refl; reached = refl; entries = sym (append-nil (filled roll₀)); long = refl }

  module _ (j : ℕ) (s : State R V) (roll : Roll E) (h : SoFar w entry s₀ roll₀ j s roll) where
    pub so_far_more : (x : Exchange) (t : State R V) (roll' : Roll E) → step w s ≡ (Some x, t) → filled roll' ≡ filled roll ++ (entry x t.present ∷ [])
        → SoFar w entry s₀ roll₀ (j + 1) t roll'
    so_far_more x t roll' q f =
        let more = several_more w j s₀ t x h.not_ended (ap (step w) h.reached ∙ q) in
        let at = ap (λ (k : ℕ). several w k s₀) (add-one j) ∙ more in
        record {
          not_ended = ap (λ (p : Several w). p.1) at;
          reached = ap (λ (p : Several w). p.2) at;
          entries = f ∙ ap (λ (l : List E). l ++ (entry x t.present ∷ [])) h.entries
              ∙ append_assoc (filled roll₀) (entries_for entry (several w j s₀).0) (entry x t.present ∷ [])
              ∙ ap (λ (l : List E). filled roll₀ ++ l) (sym (entries_more entry (several w j s₀).0 (x, t.present)) ∙ sym (ap (λ (p : Several w). entries_for entry p.0) at));
          long = ap (λ (p : Several w). length p.0) at ∙ length-append (several w j s₀).0 ((x, t.present) ∷ []) ∙ ap (λ (k : ℕ). k + 1) h.long;
        }

    -- no entry is free
    pub listed_full : j ≡ free roll₀ → ListedOn w entry s₀ roll₀ j Full s roll
    listed_full e =
        let here : several w j s₀ ≡ ((several w j s₀).0, Full, s) = λ i. ((several w j s₀).0, h.not_ended i, h.reached i) in
        record {
          call = lists (subst (λ (k : ℕ). several w k s₀ ≡ ((several w k s₀).0, Full, s)) e here);
          entries = h.entries ∙ ap (λ (k : ℕ). filled roll₀ ++ entries_for entry (several w k s₀).0) e;
          number_is = sym h.long ∙ ap (λ (k : ℕ). length (several w k s₀).0) e;
        }

    -- the advance answers finished
    pub listed_finished : (t : State R V) → step w s ≡ (None, t) → j < free roll₀ → ListedOn w entry s₀ roll₀ j Finished t roll
    listed_finished t q l =
        let stop = several_stop w j (free roll₀) s₀ t h.not_ended (ap (step w) h.reached ∙ q) l in
        let same : (several w j s₀).0 ≡ (several w (free roll₀) s₀).0 = sym (ap (λ (p : Several w). p.0) stop) in
        record {
          call = lists (stop ∙ ap (λ (xs : List (Exchange × ℕ)). (xs, Finished, t)) same);
          entries = h.entries ∙ ap (λ (xs : List (Exchange × ℕ)). filled roll₀ ++ entries_for entry xs) same;
          number_is = sym h.long ∙ ap length same;
        }

-- what lies beyond one entry more
pub beyond_more : {E : Type 0} (u v : ℕ) (xs ys : List E) → v ≡ u + 1 → drop u xs ≡ drop u ys → drop v xs ≡ drop v ys
beyond_more {E} u v xs ys q h = at xs ∙ ap (drop 1) h ∙ sym (at ys)
  where
    at : (zs : List E) → drop v zs ≡ drop 1 (drop u zs)
    at zs = ap (λ (k : ℕ). drop k zs) q ∙ sym (drop-drop 1 u zs)
