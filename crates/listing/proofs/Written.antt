-- The lines of a walk's list, batch by batch.
use Rattle.std.proofs.Common.{◌≡◌, ℕ, ◌+◌, List, [], ◌∷◌, ◌++◌, length, refl, ap, arith, Option, Result, subst}
use Rattle.std.proofs.lemmas.List.{length-map}
use Rattle.walk_laws.specs.declared.Stop.{Stop}
use Rattle.walk_laws.specs.declared.Stop.TheVariants.{Finished}
use Rattle.walk_laws.specs.Settings.{Setting}
use Rattle.walk_laws.specs.Steps.{State}
use Rattle.walk_laws.specs.Lives.{Call, listed, sets_of}
use Rattle.outlet.specs.Sending.{Broken, Holding}
use Rattle.outlet.proofs.Pieces.{holding_as, holding_on}
use Rattle.listing.specs.Texts.{lines_text}
use Rattle.listing.specs.Hands.{Begun, Ended, Hands}
use Rattle.listing.specs.Batches.{Batch}
use Rattle.listing.proofs.Going.{Going, broke, counts_one, going_first, going_off, going_on, handed_after, passed}

module _ {R V : Type 0} (w : Setting R V) where
  -- of what a page held and the lines of the walk that began in the state s₀, a front was appended, the page holds more, and the walk in
  -- the state s hands out the rest
  pub record Written (a b : Option (List ℕ)) (before page : List ℕ) (s₀ s : State R V) : Type 0 where
    pub all : List ℕ
    pub hands : Hands w s₀ all
    pub rest : List ℕ
    pub going : Going w s₀ s all rest
    pub held : Holding a b (page ++ lines_text (s.count + 1) rest) (before ++ lines_text 1 all)

  -- it broke off in them
  pub record Stopped (a b : Option (List ℕ)) (before : List ℕ) (s₀ : State R V) : Type 0 where
    pub all : List ℕ
    pub hands : Hands w s₀ all
    pub broken : Broken a b (before ++ lines_text 1 all)

  module _ {s : State R V} (page : List ℕ) (chains : List ℕ) (begun : Begun w s) (start : chains ≡ s.present ∷ []) where
    -- what it hands out after its start
    abbrev others : List ℕ
    others = (handed_after w s begun).0

    all_held : (a : Option (List ℕ)) → Holding a a (page ++ lines_text 1 (chains ++ others)) (page ++ lines_text 1 (s.present ∷ others))
    all_held a = holding_as a (λ i. page ++ lines_text 1 (start i ++ others))

    -- the line of the start
    pub started : {a b : Option (List ℕ)} {after : List ℕ} → Holding a b after (page ++ lines_text 1 chains) → Written a b page after s s
    started {a = a} {b = b} {after = after} h = record {
      all = s.present ∷ others;
      hands = record { others = others; runs = (handed_after w s begun).1; whole = refl };
      rest = others;
      going = going_first w s others (handed_after w s begun).1;
      held = subst (λ (k : ℕ). Holding a b (after ++ lines_text k others) (page ++ lines_text 1 (s.present ∷ others)))
          (omega (arith, ap (λ (l : List ℕ). length l) start, counts_one w s begun))
          (passed page 1 chains others (all_held a) h);
    }

    pub not_started : {a b : Option (List ℕ)} → Broken a b (page ++ lines_text 1 chains) → Stopped a b page s
    not_started {a = a} h = record {
      all = s.present ∷ others;
      hands = record { others = others; runs = (handed_after w s begun).1; whole = refl };
      broken = broke page 1 chains others (all_held a) h;
    }

  module _ {E : Type 0} {a b c : Option (List ℕ)} {before page after : List ℕ} {s₀ s t : State R V} {r : Result Stop E} {v : Setting R V} (h : Written a b before page s₀ s) (same : v ≡ w) (k : Batch v b c page after r s t) where
    call : Call w s (listed k.room k.found k.stop) (sets_of k.found) t
    call = subst (λ (u : Setting R V). Call u s (listed k.room k.found k.stop) (sets_of k.found) t) same k.call

    abbrev left : List ℕ
    left = (going_on w h.going call).0

    batch_held : Holding a b (page ++ lines_text (s.count + 1) (sets_of k.found ++ left)) (before ++ lines_text 1 h.all)
    batch_held = subst (λ (l : List ℕ). Holding a b (page ++ lines_text (s.count + 1) l) (before ++ lines_text 1 h.all)) (going_on w h.going call).2 h.held

    -- a batch more
    pub batch_on : Holding b c after (page ++ lines_text (s.count + 1) (sets_of k.found)) → Written a c before after s₀ t
    batch_on p = record {
      all = h.all;
      hands = h.hands;
      rest = left;
      going = (going_on w h.going call).1;
      held = subst (λ (n : ℕ). Holding a c (after ++ lines_text n left) (before ++ lines_text 1 h.all))
          (omega (arith, length-map k.found (λ x. x.1), k.counted))
          (passed page (s.count + 1) (sets_of k.found) left batch_held p);
    }

    pub batch_off : Broken b c (page ++ lines_text (s.count + 1) (sets_of k.found)) → Stopped a c before s₀
    batch_off p = record { all = h.all; hands = h.hands; broken = broke page (s.count + 1) (sets_of k.found) left batch_held p }

    -- the last batch: what the page holds is all that is left
    pub batch_last : Begun w s₀ → k.stop ≡ Finished → Holding b c after (page ++ lines_text (s.count + 1) (sets_of k.found)) → Ended w s₀ t h.all × Holding a c after (before ++ lines_text 1 h.all)
    batch_last begun finished p =
        let off = going_off w begun h.hands h.going (subst (λ (e : Stop). Call w s (listed k.room k.found e) (sets_of k.found) t) finished call) in
        let held = subst (λ (l : List ℕ). Holding a b (page ++ lines_text (s.count + 1) l) (before ++ lines_text 1 h.all)) off.1 h.held in
        (off.0, holding_on p.sent after held p.appended p.whole)
