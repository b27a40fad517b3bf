-- The law of the whole life, and beside it Algorithm G.
use Rattle.std.proofs.Common.{◌≡◌, ℕ, zero, suc, ◌^◌, ◌<◌, ◌≤◌, List, [], ◌∷◌, ◌++◌, length, take, Some, None, Option, sym, refl, ap, ◌∙◌, subst, ap₂, append_assoc, append-nil, arith}
use lib.Bits.{bit_and}
use Rattle.labels.specs.Sets.{full, Subset}
use Rattle.matroid_laws.specs.Matroids.{Base}
use Rattle.walk_laws.specs.declared.Exchange.{Exchange}
use Rattle.walk_laws.specs.AlgorithmG.{GState, g_of, g_of_step, g_steps}
use Rattle.walk_laws.specs.Lives.{Life, advances, begins, calls, lists, sets_of}
use Rattle.walk_laws.specs.Settings.{Setting, Sound}
use Rattle.walk_laws.specs.Steps.{State, begun, go_on, several, step}
use Rattle.walk_laws.proofs.Laws.{always_from, whole_from}
use Rattle.labels.proofs.Card.{ext, within}
use Rattle.walk_laws.proofs.Several.{inside}
use Rattle.labels.proofs.Member.{members}
use Rattle.matroid_laws.proofs.Greedy.{start_base}
use Rattle.walk_laws.specs.Law.{Always, LawOfLife, SameAsG, Whole}

-- of sets alone
all_of : (n o : ℕ) → Subset (full n) o → bit_and o (full n) ≡ full n
all_of n o p = ext _ _ (λ e. let q = p e in grind (arith, members))

within_full : (n o : ℕ) → bit_and o (full n) < 2 ^ n
within_full n o = within n (bit_and o (full n)) (λ e m. grind (arith, members))

module _ {R V : Type 0} (w : Setting R V) (W : Sound w) where
  -- once finished, a list hands out nothing
  stays : (k : ℕ) (s : State R V) → step w s ≡ (None, s) → ((several w k s).0 ≡ []) × ((several w k s).2 ≡ s)
  unfolding several
  stays zero s q = (refl, refl)
  stays (suc k) s q = (ap (λ (p : Option Exchange × State R V). (go_on w (several w k) p).0) q, ap (λ (p : Option Exchange × State R V). (go_on w (several w k) p).2) q)

  module _ (offered opened : ℕ) (r : R) where
    first_base : Base w.n w.independent (begun w offered opened r).present
    first_base = start_base w.n w.independent W.matroid offered

    always : (H : List ℕ) (s : State R V) → Life w (begun w offered opened r) H s → Always w H s
    always = always_from w W _ _ r first_base (within_full w.n opened)

    whole : Subset (full w.n) opened → (H : List ℕ) (s : State R V) → Life w (begun w offered opened r) H s → Whole w H s
    whole all = whole_from w W _ _ r first_base (within_full w.n opened) (all_of w.n opened all)

    inside_list : (H : List ℕ) (s : State R V) → Life w (begun w offered opened r) H s → (k j : ℕ) → j ≤ length (several w k s).0
        → Life w (begun w offered opened r) (H ++ sets_of (take j (several w k s).0)) (several w j s).2
    inside_list H s l k j h =
        subst (λ (z : List (Exchange × ℕ)). Life w (begun w offered opened r) (H ++ sets_of z) (several w j s).2) (inside w k j s h).so_far (calls l (lists {k = j} refl))

    pub law_of_life : LawOfLife w offered opened r
    law_of_life = record { always = always; whole = whole; inside = inside_list }

    module _ (all : Subset (full w.n) opened) where
      onward : (k : ℕ) (H : List ℕ) (s : State R V) → Life w (begun w offered opened r) H s
          → g_steps w k (g_of H s) ≡ g_of (H ++ sets_of (several w k s).0) (several w k s).2
      unfolding several
      onward zero H s l = ap (λ (L : List ℕ). g_of L s) (sym (append-nil H))
      onward (suc k) H s l = ap (λ (p : Option Exchange × GState R). g_steps w k p.1) (whole all H s l).as_g ∙ go (step w s) refl (onward k)
        where
          go : (p : Option Exchange × State R V) → step w s ≡ p
              → ((G : List ℕ) (t : State R V) → Life w (begun w offered opened r) G t → g_steps w k (g_of G t) ≡ g_of (G ++ sets_of (several w k t).0) (several w k t).2)
              → g_steps w k (g_of_step H p).1 ≡ g_of (H ++ sets_of (go_on w (several w k) p).0) (go_on w (several w k) p).2
          go (None, u) q ih =
              let same = (always H s l).still u q in
              let stop = stays k s (q ∙ ap (λ (v : State R V). (None, v)) same) in
              ap₂ (λ (L : List ℕ) (v : State R V). g_steps w k (g_of L v)) (append-nil H) same
              ∙ ih H s l
              ∙ ap₂ (λ (xs : List (Exchange × ℕ)) (v : State R V). g_of (H ++ sets_of xs) v) stop.0 (stop.1 ∙ sym same)
          go (Some x, u) q ih =
              ih (H ++ (u.present ∷ [])) u (calls l (advances q))
              ∙ ap (λ (L : List ℕ). g_of L (several w k u).2) (append_assoc H (u.present ∷ []) (sets_of (several w k u).0))

    pub same_as_g : SameAsG w offered opened r
    same_as_g all k = onward all k ((begun w offered opened r).present ∷ []) (begun w offered opened r) begins
