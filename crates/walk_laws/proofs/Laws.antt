-- The law of every life.
use Rattle.std.proofs.Common.{◌≡◌, ℕ, zero, suc, ◌-◌, ◌^◌, ◌<◌, ◌≤◌, Bool, true, false, cond, not, ◌&&◌, eqb, ◌⊎◌, List, [], ◌∷◌, ◌++◌, length, Some, None, sym, refl, ap, ◌∙◌, subst, inl, inr, append-nil, arith}
use Rattle.std.proofs.lemmas.Bool.Decides.{nat_tests}
use Rattle.std.proofs.lemmas.Bool.{cases_eq, false_from_ne_true, true≢false}
use Rattle.std.proofs.lemmas.List.{take_all}
use Rattle.labels.specs.Sets.{has, swap, TopDifference, first_passing, passing}
use Rattle.labels.specs.Families.{In, Once}
use Rattle.labels.proofs.Member.{has_none}
use Rattle.labels.proofs.Card.{ext}
use Rattle.labels.proofs.Order.{top, top_one}
use Rattle.labels.proofs.Parts.{in_full}
use Rattle.matroid_laws.specs.Matroids.{Base, is_base, bases}
use Rattle.matroid_laws.proofs.Tests.{base_tells, bases_have, bases_are, bases_once}
use Rattle.walk_laws.specs.Law.{Always, Listed, Reordered, Stepwise, Whole}
use Rattle.walk_laws.proofs.Future.{Future, chosen_tells, future, leads, moved, runs_off, runs_on, runs_one, stop_same}
use Rattle.walk_laws.proofs.Paths.{Held, held, path_life}
use Rattle.walk_laws.specs.Lives.{Life, sets_of}
use Rattle.walk_laws.proofs.Views.{Seen, fits_tells, reach_within, step_view}
use Rattle.walk_laws.specs.Settings.{Setting, Sound, candidates, fits}
use Rattle.walk_laws.specs.Steps.{State, after, begin_at, exchange_at, offers, several, step, step_at}
use Rattle.walk_laws.specs.AlgorithmG.{among, g_of, g_of_step, g_step, g_step_at, unvisited}
use Rattle.walk_laws.proofs.Lists.{among_passes, among_tells, in_either, in_left, in_right, once_apart, once_left, reordered_length, same_members, stepwise_left}
use Rattle.walk_laws.proofs.Ahead.{back_at, not_ahead, top_pos}
use Rattle.labels.proofs.Passing.{first_passing_same, has_passing, passing_same}
use Rattle.walk_laws.proofs.Values.{total_reordered}
use Rattle.walk_laws.proofs.Several.{listing}

-- of sets, lists and tests alone
keeps : (x y : Bool) → (x ≡ true → y ≡ false) → (x && not y) ≡ x
keeps true y h = ap not (h refl)
keeps false y h = refl

drops : (x y : Bool) → (x ≡ true → y ≡ true) → (x && not y) ≡ false
drops true y h = ap not (h refl)
drops false y h = refl

passing_none : (t : ℕ → Bool) (m : ℕ) → ((f : ℕ) → 1 ≤ f → f ≤ m → t f ≡ false) → passing t m ≡ 0
passing_none t m h = ext _ _ (λ f. let p = has_passing t m f in let q = has_none f in let r = h f in grind (arith, nat_tests))

module _ {R V : Type 0} (w : Setting R V) (W : Sound w) where
  -- F₀: the sets that the whole walk hands out after t
  module _ (t a : ℕ) (r : R) (T : Base w.n w.independent t) (F₀ : List ℕ) (whole : Future w (begin_at w t a r) F₀) where
    whole_once : Once (t ∷ F₀)
    whole_once = (λ i. not_ahead t _ ((whole.exact t).0 i).1, whole.once)

    whole_based : (b : ℕ) → (b ≡ t) ⊎ In b F₀ → Base w.n w.independent b
    whole_based b (inl q) = subst (Base w.n w.independent) (sym q) T
    whole_based b (inr i) = ((whole.exact b).0 i).0

    module _ (H : List ℕ) (s : State R V) (h : Held w (t ∷ F₀) H s) where
      -- what is still to come
      F : List ℕ
      F = h.rest.0

      split : H ++ F ≡ t ∷ F₀
      unfolding F
      split = h.rest.2

      ahead : Future w s F
      unfolding F
      ahead = let f = future w W s h.base in subst (Future w s) (runs_one w s f.0 h.rest.0 f.1.runs h.rest.1) f.1

      split_once : Once (H ++ F)
      split_once = subst Once (sym split) whole_once

      in_whole : (b : ℕ) → In b H → In b (t ∷ F₀)
      in_whole b i = subst (In b) split (in_left b H F i)

      lists : (k : ℕ) → Listed w s F k
      lists = listing w W s F ahead.runs

      always_at : Always w H s
      always_at = record {
        based = λ b i. whole_based b (in_whole b i);
        once = once_left H F split_once;
        stepwise = stepwise_left H F (subst Stepwise (sym split) whole.linked);
        last = h.last;
        counted = h.counted;
        valued = h.valued;
        totalled = λ G q. h.totalled ∙ total_reordered w W.group q;
        few = h.few;
        still = stop_same w W s;
        leads = λ x u q. leads w W s u x q;
        future = (F, ahead.runs, ahead.once, ahead.exact);
        lists = lists;
      }

      -- ---- where all of 1..n was open at the start
      module _ (wide : a ≡ 2 ^ w.n - 1) where
        all_in : (b : ℕ) → Base w.n w.independent b → In b (t ∷ F₀)
        all_in b B = go (cases_eq b t)
          where
            go : (b ≡ t) ⊎ (b ≡ t → ⊥) → (b ≡ t) ⊎ In b F₀
            go (inl q) = inl q
            go (inr n) =
                let d = top b t n in
                inr ((whole.exact b).1 (B, (d.0, d.1, ap (λ (x : ℕ). has x d.0) wide ∙ in_full w.n d.0 (top_pos b t d.0 d.1) (reach_within w W b t d.0 B T d.1))))

        here_or_ahead : (b : ℕ) → Base w.n w.independent b → In b H ⊎ In b F
        here_or_ahead b B = in_either b H F (subst (In b) (sym split) (all_in b B))

        present_in : In s.present H
        present_in = subst (In s.present) (sym h.last.1) (in_right s.present h.last.0 (s.present ∷ []) (inl refl))

        abbrev Behind : ℕ → Type 0
        Behind b = (b ≡ s.present) ⊎ ((d : ℕ) × TopDifference b s.present d × (has s.active d ≡ false))

        visited_in : (b : ℕ) → Base w.n w.independent b → Behind b → In b H
        visited_in b B (inl q) = subst (λ (x : ℕ). In x H) (sym q) present_in
        visited_in b B (inr (d, p, c)) = go (here_or_ahead b B)
          where
            clash : (d' : ℕ) × TopDifference b s.present d' × (has s.active d' ≡ true) → ⊥
            clash (d', p', o) = true≢false (sym o ∙ ap (has s.active) (top_one b s.present d' d p' p) ∙ c)

            go : In b H ⊎ In b F → In b H
            go (inl i) = i
            go (inr i) = absurd (clash ((ahead.exact b).0 i).1)

        done : step w s ≡ (None, s) → (b : ℕ) → Base w.n w.independent b → In b H
        done q b B = go (here_or_ahead b B)
          where
            go : In b H ⊎ In b F → In b H
            go (inl i) = i
            go (inr i) = absurd (subst (In b) (runs_off w s s F q ahead.runs) i)

        not_done : ((b : ℕ) → Base w.n w.independent b → In b H) → step w s ≡ (None, s)
        not_done all = go (step_view w W s)
          where
            go : Seen w s → step w s ≡ (None, s)
            go (inl (q, still)) = q
            go (inr (e, m)) =
                let c = runs_on w s (moved w s e) _ F m.does ahead.runs in
                let x = (moved w s e).present in
                absurd (once_apart x H F split_once (all x (chosen_tells w s e m).3) (subst (In x) (sym c.1) (inl refl)))

        reorders : step w s ≡ (None, s) → Reordered H (bases w.n w.independent)
        reorders q = same_members H (bases w.n w.independent) always_at.once (bases_once w.n w.independent W.matroid)
            (λ b. (λ i. bases_have w.n w.independent W.matroid b (always_at.based b i), λ i. done q b (bases_are w.n w.independent W.matroid b i)))

        list_done : (k : ℕ) → length F < k → (b : ℕ) → Base w.n w.independent b → In b (H ++ sets_of (several w k s).0)
        list_done k l b B = subst (λ (L : List ℕ). In b (H ++ L)) (sym (take_all k F (omega arith)) ∙ sym (lists k).sets) (subst (In b) (sym split) (all_in b B))

        fits_base : (e f : ℕ) → fits w s.present e f ≡ true → Base w.n w.independent (swap s.present e f)
        fits_base e f p = base_tells w.n w.independent _ (fits_tells (has s.present e) (has s.present f) (is_base w.n w.independent (swap s.present e f)) p).1

        -- a label's exchanges lead to visited bases if it is closed, and to new ones if it is open
        closed_in : (e f : ℕ) → 1 ≤ f → f < e → has s.active e ≡ false → fits w s.present e f ≡ true → among (swap s.present e f) H ≡ true
        closed_in e f l g c p = among_passes _ H (visited_in (swap s.present e f) (fits_base e f p) (inr (e, back_at s.present e f l g, c)))

        open_out : (e f : ℕ) → 1 ≤ f → f < e → has s.active e ≡ true → fits w s.present e f ≡ true → among (swap s.present e f) H ≡ false
        open_out e f l g o p = false_from_ne_true (among (swap s.present e f) H) (λ q. once_apart _ H F split_once (among_tells _ H q) ((ahead.exact _).1 (fits_base e f p, (e, back_at s.present e f l g, o))))

        same_offer : (e : ℕ) → 1 ≤ e → unvisited w H s.present e ≡ offers w s e
        unfolding unvisited candidates
        same_offer e l = go (has s.active e) refl
          where
            go : (b : Bool) → has s.active e ≡ b
                → passing (λ f. fits w s.present e f && not (among (swap s.present e f) H)) (e - 1) ≡ cond (has s.active e) (passing (fits w s.present e) (e - 1)) 0
            go true o = passing_same _ (fits w s.present e) (e - 1) (λ f k g. keeps (fits w s.present e f) _ (open_out e f k (omega arith) o))
                ∙ ap (λ (b : Bool). cond b (passing (fits w s.present e) (e - 1)) 0) (sym o)
            go false c = passing_none _ (e - 1) (λ f k g. drops (fits w s.present e f) _ (closed_in e f k (omega arith) c))
                ∙ ap (λ (b : Bool). cond b (passing (fits w s.present e) (e - 1)) 0) (sym c)

        -- an advance and a step of Algorithm G
        same_step : g_step w (g_of H s) ≡ g_of_step H (step w s)
        unfolding g_step step
        same_step =
            ap (g_step_at w (g_of H s)) (first_passing_same (λ e. not (eqb (unvisited w H s.present e) 0)) (λ e. not (eqb (offers w s e) 0)) w.n (λ e l g. ap (λ (c : ℕ). not (eqb c 0)) (same_offer e l)))
            ∙ at (first_passing (λ e. not (eqb (offers w s e) 0)) w.n)
          where
            at : (e : ℕ) → g_step_at w (g_of H s) e ≡ g_of_step H (step_at w s e)
            at zero = ap (λ (L : List ℕ). (None, g_of L s)) (sym (append-nil H))
            at (suc k) =
                ap (λ (c : ℕ). (Some (exchange_at w s (suc k) c), g_of (H ++ ((after w s (suc k) c).present ∷ [])) (after w s (suc k) c))) (same_offer (suc k) (omega arith))

        whole_at : Whole w H s
        whole_at = record {
          finishes = (done, not_done);
          all = reorders;
          count_all = λ q. h.counted ∙ reordered_length (reorders q);
          total_all = λ q. always_at.totalled _ (reorders q);
          list_all = λ k q b B. list_done k ((lists k).finishes.0 q) b B;
          as_g = same_step;
        }

  -- ---- the law of the walk that begins at the base t

  module _ (t a : ℕ) (r : R) (T : Base w.n w.independent t) (small : a < 2 ^ w.n) where
    pub always_from : (H : List ℕ) (s : State R V) → Life w (begin_at w t a r) H s → Always w H s
    always_from H s l =
        let f = future w W (begin_at w t a r) T in
        always_at t a r T f.0 f.1 H s (held w W t a r f.0 T small f.1.runs (path_life w W t a r l))

    pub whole_from : a ≡ 2 ^ w.n - 1 → (H : List ℕ) (s : State R V) → Life w (begin_at w t a r) H s → Whole w H s
    whole_from wide H s l =
        let f = future w W (begin_at w t a r) T in
        whole_at t a r T f.0 f.1 H s (held w W t a r f.0 T small f.1.runs (path_life w W t a r l)) wide
