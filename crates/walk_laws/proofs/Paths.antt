-- A life is a row of single advances, and what they keep.
use Rattle.std.proofs.Common.{◌≡◌, ℕ, zero, suc, ◌+◌, ◌^◌, ◌<◌, ◌≤◌, List, [], ◌∷◌, ◌++◌, length, Some, None, Option, sym, refl, ap, ◌∙◌, subst, ap₂, append_assoc, append-nil, arith, length-append}
use Rattle.labels.proofs.Order.{reopened_less}
use Rattle.matroid_laws.specs.Matroids.{Base}
use Rattle.walk_laws.specs.Lives.{Call, Life, Runs, advances, begins, calls, lists, looks, sets_of}
use Rattle.walk_laws.proofs.Views.{Moved}
use Rattle.walk_laws.specs.Settings.{Setting, Sound, candidates, total_of, value_of}
use Rattle.walk_laws.specs.Steps.{Several, State, begin_at, go_on, several, step}
use Rattle.walk_laws.proofs.Future.{Moves, chosen_tells, move_is, moved, runs_on, stop_same}
use Rattle.walk_laws.proofs.Values.{total_last, total_single, value_exchange}
use Rattle.walk_laws.specs.declared.Exchange.{Exchange}

module _ {R V : Type 0} (w : Setting R V) where
  pub data PathOf (t a : ℕ) (r : R) : List ℕ → State R V → Type 0 where
    start : PathOf t a r (t ∷ []) (begin_at w t a r)
    onto : {H : List ℕ} {s s' : State R V} {x : Exchange} → PathOf t a r H s → step w s ≡ (Some x, s') → PathOf t a r (H ++ (s'.present ∷ [])) s'

  module _ (W : Sound w) (t a : ℕ) (r : R) where
    path_same : (H : List ℕ) (s s' : State R V) → s' ≡ s → PathOf t a r H s → PathOf t a r (H ++ []) s'
    path_same H s s' q p = subst (λ (G : List ℕ). PathOf t a r G s') (sym (append-nil H)) (subst (PathOf t a r H) (sym q) p)

    path_several : (k : ℕ) (H : List ℕ) (s : State R V) → PathOf t a r H s → PathOf t a r (H ++ sets_of (several w k s).0) (several w k s).2
    unfolding several
    path_several zero H s p = path_same H s s refl p
    path_several (suc k) H s p = go (step w s) refl (path_several k)
      where
        go : (q : Option Exchange × State R V) → step w s ≡ q
            → ((G : List ℕ) (u : State R V) → PathOf t a r G u → PathOf t a r (G ++ sets_of (several w k u).0) (several w k u).2)
            → PathOf t a r (H ++ sets_of (go_on w (several w k) q).0) (go_on w (several w k) q).2
        go (None, u) e ih = path_same H s u (stop_same w W s u e) p
        go (Some x, u) e ih =
            subst (λ (G : List ℕ). PathOf t a r G (several w k u).2) (append_assoc H (u.present ∷ []) (sets_of (several w k u).0))
            (ih (H ++ (u.present ∷ [])) u (onto p e))

    path_call : {H new : List ℕ} {s s' : State R V} {c : _} → PathOf t a r H s → Call w s c new s' → PathOf t a r (H ++ new) s'
    path_call {H} {s = s} p looks = path_same H s s refl p
    path_call {H} {s = s} {s' = s'} p (advances {x = None} q) = path_same H s s' (stop_same w W s s' q) p
    path_call p (advances {x = Some x} q) = onto p q
    path_call {H} {s = s} p (lists {k = k} q) =
        subst (λ (z : Several w). PathOf t a r (H ++ sets_of z.0) z.2) q (path_several k H s p)

    pub path_life : {H : List ℕ} {s : State R V} → Life w (begin_at w t a r) H s → PathOf t a r H s
    path_life begins = start
    path_life (calls l c) = path_call (path_life l) c

  -- ---- what is kept

  pub record Held (W : List ℕ) (H : List ℕ) (s : State R V) : Type 0 where
    pub base : Base w.n w.independent s.present
    pub last : (G : List ℕ) × (H ≡ G ++ (s.present ∷ []))
    pub counted : s.count ≡ length H
    pub valued : s.value ≡ value_of w s.present
    pub totalled : s.total ≡ total_of w H
    pub few : s.count + s.active ≤ 2 ^ w.n
    pub rest : (F : List ℕ) × Runs w s F × (H ++ F ≡ W)

  module _ (W : Sound w) where
    value_moved : (s : State R V) (e : ℕ) → Moved w s e → s.value ≡ value_of w s.present → (moved w s e).value ≡ value_of w (moved w s e).present
    value_moved s e m v =
        let c = chosen_tells w s e m in
        value_exchange w W.group s.present e (w.choice s.tie e (candidates w s.present e)) s.value v c.0 c.1 m.within c.2

    held_moved : (All H : List ℕ) (s : State R V) (e : ℕ) → Moved w s e → Held All H s → Held All (H ++ ((moved w s e).present ∷ [])) (moved w s e)
    held_moved All H s e m h = record {
      base = (chosen_tells w s e m).3;
      last = (H, refl);
      counted = omega (arith, length-append H ((moved w s e).present ∷ []), h.counted);
      valued = value_moved s e m h.valued;
      totalled = ap₂ w.sum h.totalled (value_moved s e m h.valued) ∙ sym (total_last w W.group H (moved w s e).present);
      few = omega (arith, h.few, reopened_less s.active e m.active);
      rest = go (runs_on w s (moved w s e) _ h.rest.0 m.does h.rest.1);
    }
      where
        go : (G : List ℕ) × (h.rest.0 ≡ (moved w s e).present ∷ G) × Runs w (moved w s e) G → (F : List ℕ) × Runs w (moved w s e) F × ((H ++ ((moved w s e).present ∷ [])) ++ F ≡ All)
        go (G, q, r) = (G, r, append_assoc H ((moved w s e).present ∷ []) G ∙ ap (λ (L : List ℕ). H ++ L) (sym q) ∙ h.rest.2)

    pub held : (t a : ℕ) (r : R) (F : List ℕ) → Base w.n w.independent t → a < 2 ^ w.n → Runs w (begin_at w t a r) F
        → {H : List ℕ} {s : State R V} → PathOf t a r H s → Held (t ∷ F) H s
    held t a r F T small f start = record {
      base = T;
      last = ([], refl);
      counted = refl;
      valued = refl;
      totalled = sym (total_single w W.group t);
      few = omega arith;
      rest = (F, f, refl);
    }
    held t a r F T small f (onto {H = H} {s = s} {s' = s'} {x = x} p q) = go (move_is w W s s' x q) (held t a r F T small f p)
      where
        go : Moves w s s' x → Held (t ∷ F) H s → Held (t ∷ F) (H ++ (s'.present ∷ [])) s'
        go (e, m, z, y) h = subst (λ (u : State R V). Held (t ∷ F) (H ++ (u.present ∷ [])) u) (sym z) (held_moved (t ∷ F) H s e m h)
