-- A walk's list, from its beginning to its end.
use Rattle.std.proofs.Common.{◌≡◌, ℕ, zero, suc, ◌+◌, List, [], ◌∷◌, ◌++◌, length, refl, ap, sym, ◌∙◌, arith, Option, Some, None, append_assoc, append-nil, codes, subst, add-zero, ◌==◌}
use Rattle.std.proofs.Common.{not}
use Rattle.lines.specs.Text.{line_text}
use Rattle.walk_laws.specs.declared.Exchange.{Exchange}
use Rattle.walk_laws.specs.declared.Stop.{Stop}
use Rattle.walk_laws.specs.declared.Stop.TheVariants.{Finished}
use Rattle.walk_laws.specs.Settings.{Setting}
use Rattle.walk_laws.specs.Steps.{State, step, step_at, Several, several, go_on, offers}
use Rattle.labels.specs.Sets.{first_passing}
use Rattle.walk_laws.specs.Lives.{Life, begins, calls, Call, lists, listed, Runs, ends, sets_of}
use Rattle.walk_laws.proofs.Future.{no_both, runs_off, runs_on, runs_one}
use Rattle.outlet.specs.Sending.{Broken, Holding}
use Rattle.listing.specs.Texts.{lines_text}
use Rattle.listing.specs.Hands.{Begun, Hands, Ended}
use Rattle.outlet.proofs.Pieces.{goes_on, stops_in}

-- the lines of two lists, one after the other
pub lines_append : (n : ℕ) (xs ys : List ℕ) → lines_text n (xs ++ ys) ≡ lines_text n xs ++ lines_text (n + length xs) ys
lines_append n [] ys = rw add-zero refl
lines_append n (x ∷ xs) ys =
    ap (λ (t : List ℕ). (line_text n x ++ codes "\n") ++ t) (lines_append (suc n) xs ys)
    ∙ sym (append_assoc (line_text n x ++ codes "\n") (lines_text (suc n) xs) (lines_text (suc n + length xs) ys))
    ∙ ap (λ (k : ℕ). ((line_text n x ++ codes "\n") ++ lines_text (suc n) xs) ++ lines_text k ys) (omega arith)

module _ {a b : Option (List ℕ)} {text : List ℕ} (page : List ℕ) (n : ℕ) (xs ys : List ℕ) (h : Holding a b (page ++ lines_text n (xs ++ ys)) text) where
  held : Holding a b (page ++ (lines_text n xs ++ lines_text (n + length xs) ys)) text
  held = subst (λ (t : List ℕ). Holding a b (page ++ t) text) (lines_append n xs ys) h

  -- the page and the lines of xs were held back; now a page of them is
  pub passed : {c : Option (List ℕ)} {after : List ℕ} → Holding b c after (page ++ lines_text n xs) → Holding a c (after ++ lines_text (n + length xs) ys) text
  passed {after = after} k = goes_on page (lines_text n xs) (lines_text (n + length xs) ys) held after k

  -- it broke off in them
  pub broke : {c : Option (List ℕ)} → Broken b c (page ++ lines_text n xs) → Broken a c text
  broke k = stops_in page (lines_text n xs) (lines_text (n + length xs) ys) held k

module _ {R V : Type 0} (w : Setting R V) where
  -- of all sets that the walk from s₀ hands out, some were handed out, and the walk in the state s hands out the rest
  pub record Going (s₀ s : State R V) (all : List ℕ) (rest : List ℕ) : Type 0 where
    pub so_far : List ℕ
    pub life : Life w s₀ so_far s
    pub runs : Runs w s rest
    pub both : so_far ++ rest ≡ all

  -- no other sets are handed out
  pub hands_one : (s : State R V) (xs ys : List ℕ) → Hands w s xs → Hands w s ys → xs ≡ ys
  hands_one s xs ys h k = h.whole ∙ ap (λ (l : List ℕ). s.present ∷ l) (runs_one w s h.others k.others h.runs k.runs) ∙ sym k.whole

  still : (s t : State R V) → step w s ≡ (None, t) → t ≡ s
  unfolding step
  still s t q = go (first_passing (λ e. not (offers w s e == 0)) w.n) q
    where
      go : (k : ℕ) → step_at w s k ≡ (None, t) → t ≡ s
      go zero p = sym (ap (λ (x : Option Exchange × State R V). x.1) p)
      go (suc k) p = absurd (no_both _ _ _ (sym p))

  -- what a list hands out, and what is left
  pub runs_several : (k : ℕ) (s : State R V) (F : List ℕ) → Runs w s F → (G : List ℕ) × Runs w (several w k s).2 G × (F ≡ sets_of (several w k s).0 ++ G)
  unfolding several
  runs_several zero s F u = (F, u, refl)
  runs_several (suc k) s F u = go (step w s) refl (runs_several k)
    where
      go : (p : Option Exchange × State R V) → step w s ≡ p → ((t : State R V) (G : List ℕ) → Runs w t G → (H : List ℕ) × Runs w (several w k t).2 H × (G ≡ sets_of (several w k t).0 ++ H))
          → (G : List ℕ) × Runs w (go_on w (several w k) p).2 G × (F ≡ sets_of (go_on w (several w k) p).0 ++ G)
      go (None, t) q ih = ([], ends (ap (step w) (still s t q) ∙ q), runs_off w s t F q u)
      go (Some x, t) q ih =
          let r = runs_on w s t x F q u in let m = ih t r.0 r.2 in
          (m.0, m.1, r.1 ∙ ap (λ (l : List ℕ). t.present ∷ l) m.2)

  call_is : {s t : State R V} {k : ℕ} {xs : List (Exchange × ℕ)} {stop : Stop} {new : List ℕ} → Call w s (listed k xs stop) new t → several w k s ≡ (xs, stop, t)
  call_is (lists e) = e

  -- what a walk that begins hands out after its start
  pub handed_after : (s : State R V) → Begun w s → (F : List ℕ) × Runs w s F
  handed_after s b =
      let future = (b.law.always _ _ begins).future in
      subst (λ (t : State R V). (F : List ℕ) × Runs w t F) (sym b.begins) (future.0, future.1)

  pub counts_one : (s : State R V) → Begun w s → s.count ≡ 1
  counts_one s b = ap (λ (t : State R V). t.count) b.begins

  -- at the beginning
  pub going_first : (s : State R V) (F : List ℕ) → Runs w s F → Going s s (s.present ∷ F) F
  going_first s F u = record { so_far = s.present ∷ []; life = begins; runs = u; both = refl }

  -- a list goes on
  pub going_on : {s₀ s t : State R V} {all rest : List ℕ} {k : ℕ} {xs : List (Exchange × ℕ)} {stop : Stop} → Going s₀ s all rest
      → Call w s (listed k xs stop) (sets_of xs) t → (G : List ℕ) × Going s₀ t all G × (rest ≡ sets_of xs ++ G)
  going_on {s = s} {t = t} {rest = rest} {k = k} {xs = xs} h c =
      let e = call_is c in let m = runs_several k s rest h.runs in
      let left : rest ≡ sets_of xs ++ m.0 = m.2 ∙ ap (λ (p : Several w). sets_of p.0 ++ m.0) e in (
        m.0,
        record {
          so_far = h.so_far ++ sets_of xs;
          life = calls h.life c;
          runs = subst (λ (u : State R V). Runs w u m.0) (ap (λ (p : Several w). p.2) e) m.1;
          both = append_assoc h.so_far (sets_of xs) m.0 ∙ ap (λ (l : List ℕ). h.so_far ++ l) (sym left) ∙ h.both;
        },
        left,
      )

  -- a list that stopped finished
  pub going_off : {s₀ s t : State R V} {all rest : List ℕ} {k : ℕ} {xs : List (Exchange × ℕ)} → Begun w s₀ → Hands w s₀ all → Going s₀ s all rest
      → Call w s (listed k xs Finished) (sets_of xs) t → Ended w s₀ t all × (rest ≡ sets_of xs)
  going_off {s₀ = s₀} {s = s} {t = t} {all = all} {k = k} {xs = xs} b hands h c =
      let on = going_on h c in
      let e = call_is c in
      let life = subst (λ (u : State R V). Life w u h.so_far s) b.begins h.life in
      let over = ((b.law.always _ _ life).lists k).ended (ap (λ (p : Several w). p.1) e) in
      let over : step w t ≡ (None, t) = subst (λ (u : State R V). step w u ≡ (None, u)) (ap (λ (p : Several w). p.2) e) over in
      let none = runs_off w t t on.0 over on.1.runs in (
        record {
          hands = hands;
          life = subst (λ (l : List ℕ). Life w s₀ l t) (sym (append-nil on.1.so_far) ∙ ap (λ (l : List ℕ). on.1.so_far ++ l) (sym none) ∙ on.1.both) on.1.life;
          finished = over;
        },
        on.2 ∙ ap (λ (l : List ℕ). sets_of xs ++ l) none ∙ append-nil (sets_of xs),
      )
