-- What is ahead of a set, before and after two labels change places: of sets alone.
use Rattle.std.proofs.Common.{◌≡◌, ℕ, zero, suc, ◌<◌, ◌≤◌, Bool, true, false, not, ◌⊎◌, sym, refl, ◌∙◌, subst, inl, inr, arith}
use Rattle.std.proofs.lemmas.Bool.Decides.{nat_tests}
use Rattle.std.proofs.lemmas.Bool.{cases_lt, cases_eq}
use Rattle.labels.specs.Sets.{has, insert, remove, swap, reopened, TopDifference}
use Rattle.labels.proofs.Member.{members, has_zero}
use Rattle.labels.proofs.Card.{ext}
use Rattle.labels.proofs.Order.{top, has_reopened}
use Rattle.walk_laws.specs.Law.{Ahead, Exchanged}

pub top_pos : (a b d : ℕ) → TopDifference a b d → 1 ≤ d
top_pos a b d t = go d t.apart
  where
    go : (d : ℕ) → has a d ≡ not (has b d) → 1 ≤ d
    go zero h = let p = has_zero a in let q = has_zero b in absurd (grind arith)
    go (suc d) h = omega arith

pub not_ahead : (t a : ℕ) → Ahead t a t → ⊥
not_ahead t a (d, p, h) = let q = p.apart in grind arith

-- the highest label of difference from t, when e and f < e of t change places
stays_over : (t e f b d : ℕ) → 1 ≤ f → f < e → e < d → TopDifference b t d → TopDifference b (swap t e f) d
stays_over t e f b d l g k p = record { apart = grind (arith, members); above = λ x m. grind (arith, members) }

back_over : (t e f b d : ℕ) → 1 ≤ f → f < e → e < d → TopDifference b (swap t e f) d → TopDifference b t d
back_over t e f b d l g k p = record { apart = grind (arith, members); above = λ x m. grind (arith, members) }

back_under : (t e f b d : ℕ) → 1 ≤ f → f < e → d < e → TopDifference b (swap t e f) d → TopDifference b t e
back_under t e f b d l g k p = record { apart = grind (arith, members); above = λ x m. grind (arith, members) }

pub back_at : (t e f : ℕ) → 1 ≤ f → f < e → TopDifference (swap t e f) t e
back_at t e f l g = record { apart = grind (arith, members); above = λ x m. grind (arith, members) }

under_at : (t e f b d : ℕ) → 1 ≤ f → f < e → TopDifference b t e → TopDifference b (swap t e f) d → d < e
under_at t e f b d l g p q = grind (arith, members)

-- what is ahead: the next set, and what is ahead of that
pub ahead_on : (t a e f b : ℕ) → 1 ≤ f → f < e → has a e ≡ true → ((d : ℕ) → d < e → TopDifference b t d → has a d ≡ true → ⊥)
    → Ahead t a b → (b ≡ swap t e f) ⊎ Ahead (swap t e f) (reopened a e) b
ahead_on t a e f b l g h low (d, p, i) = go (cases_lt d e) (cases_eq d e)
  where
    at-e : d ≡ e → (b ≡ swap t e f) ⊎ (b ≡ swap t e f → ⊥) → (b ≡ swap t e f) ⊎ Ahead (swap t e f) (reopened a e) b
    at-e q (inl same) = inl same
    at-e q (inr ne) = under (top b (swap t e f) ne)
      where
        under : (c : ℕ) × TopDifference b (swap t e f) c → (b ≡ swap t e f) ⊎ Ahead (swap t e f) (reopened a e) b
        under (c, r) =
            let k = under_at t e f b c l g (subst (TopDifference b t) q p) r in let c1 = top_pos b (swap t e f) c r in
            inr (c, r, has_reopened a e c (omega arith) ∙ grind (arith, nat_tests))

    go : (d < e) ⊎ (e ≤ d) → (d ≡ e) ⊎ (d ≡ e → ⊥) → (b ≡ swap t e f) ⊎ Ahead (swap t e f) (reopened a e) b
    go (inl k) c = absurd (low d k p i)
    go (inr k) (inl q) = at-e q (cases_eq b (swap t e f))
    go (inr k) (inr ne) =
        let m : e < d = omega arith in
        inr (d, stays_over t e f b d l g m p, has_reopened a e d (omega arith) ∙ grind (arith, nat_tests))

pub ahead_back : (t a e f b : ℕ) → 1 ≤ f → f < e → has a e ≡ true → (b ≡ swap t e f) ⊎ Ahead (swap t e f) (reopened a e) b → Ahead t a b
ahead_back t a e f b l g h (inl same) = (e, subst (λ (x : ℕ). TopDifference x t e) (sym same) (back_at t e f l g), h)
ahead_back t a e f b l g h (inr (d, p, i)) = go (cases_lt d e) (cases_eq d e)
  where
    go : (d < e) ⊎ (e ≤ d) → (d ≡ e) ⊎ (d ≡ e → ⊥) → Ahead t a b
    go (inl k) c = (e, back_under t e f b d l g k p, h)
    go (inr k) (inl q) = let z = has_reopened a e d (omega arith) in absurd (grind (arith, nat_tests))
    go (inr k) (inr ne) =
        let m : e < d = omega arith in let z = has_reopened a e d (omega arith) in
        (d, back_over t e f b d l g m p, grind (arith, nat_tests))

-- an exchange: one label gone and one come
pub swap_exchanges : (t e f : ℕ) → 1 ≤ f → f < e → has t e ≡ not (has t f) → Exchanged t (swap t e f)
swap_exchanges t e f l g h = go (has t e) refl
  where
    go : (b : Bool) → has t e ≡ b → Exchanged t (swap t e f)
    go true p = record {
      gone = e;
      come = f;
      was = p;
      left = grind (arith, members);
      was_not = grind arith;
      entered = grind (arith, members);
      others = λ x m k. grind (arith, members);
    }
    go false p = record {
      gone = f;
      come = e;
      was = grind arith;
      left = grind (arith, members);
      was_not = p;
      entered = grind (arith, members);
      others = λ x m k. grind (arith, members);
    }

-- T + d - f
pub swap_in : (t d f : ℕ) → 1 ≤ d → has t d ≡ false → has t f ≡ true → remove (insert t d) f ≡ swap t d f
swap_in t d f l i o = ext _ _ (λ x. grind (arith, members))

-- of two labels that differ, the one of b that is not in t lies below the highest label of difference
pub below_top : (b t d f : ℕ) → TopDifference b t d → has b f ≡ not (has t f) → has b f ≡ has t d → f < d
below_top b t d f p q r = grind arith
