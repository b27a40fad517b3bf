-- What going upwards keeps: an independent set to which no further label that was passed can be added.
use Rattle.std.proofs.Common.{◌≡◌, ℕ, zero, suc, ◌≤◌, Bool, true, false, cond, ◌&&◌, ◌⊎◌, refl, inl, inr, arith}
use Rattle.std.proofs.lemmas.Bool.{both_ways, cases_Bool, false_from_ne_true}
use Rattle.labels.specs.Sets.{has, insert, full, Subset, card}
use Rattle.labels.proofs.Member.{members}
use Rattle.labels.proofs.Passing.{one_more}
use Rattle.labels.proofs.Parts.{in_full, none_subset, insert_both, insert_more}
use Rattle.matroid_laws.specs.Matroids.{IsMatroid, Base, Rank}
use Rattle.matroid_laws.specs.Greedy.{joined, extended, greedy, start}
use Rattle.matroid_laws.proofs.Bases.{no_larger}

-- of sets alone
insert_has : (k e : ℕ) → 1 ≤ e → has (insert k e) e ≡ true
insert_has k e l = grind (arith, members)

insert_out : (k e f : ℕ) → 1 ≤ e → has (insert k e) f ≡ false → has k f ≡ false
insert_out k e f l o = grind (arith, members)

insert_old : (k s e f : ℕ) → 1 ≤ e → has s e ≡ true → (has k f ≡ true → has s f ≡ true) → has (insert k e) f ≡ true → has s f ≡ true
insert_old k s e f l m p x = grind (arith, members)

-- k is independent, holds k₀, has beyond k₀ only labels of s, and none of the labels of s among 1..m can be added
record Kept (independent : ℕ → Bool) (s k₀ m k : ℕ) : Type 0 where
  is_independent : independent k ≡ true
  holds : Subset k₀ k
  beyond : (e : ℕ) → has k e ≡ true → (has k₀ e ≡ true) ⊎ (has s e ≡ true)
  stuck : (e : ℕ) → 1 ≤ e → e ≤ m → has s e ≡ true → has k e ≡ false → independent (insert k e) ≡ false

module _ (n : ℕ) (independent : ℕ → Bool) (M : IsMatroid n independent) where
  -- a set with a dependent part is dependent
  pub dependent_grows : (s t : ℕ) → Subset s t → independent s ≡ false → independent t ≡ false
  dependent_grows s t p h = false_from_ne_true _ (λ i. both_ways _ h (M.hereditary s t p i))

  turn : (s k₀ m k : ℕ) → Kept independent s k₀ m k → Kept independent s k₀ (suc m) (joined independent s k (suc m))
  turn s k₀ m k P = go (has s (suc m)) refl (independent (insert k (suc m))) refl
    where
      stays : (has s (suc m) ≡ true → independent (insert k (suc m)) ≡ false) → Kept independent s k₀ (suc m) k
      stays last = record {
        is_independent = P.is_independent;
        holds = P.holds;
        beyond = P.beyond;
        stuck = one_more (λ (e : ℕ). has s e ≡ true → has k e ≡ false → independent (insert k e) ≡ false) m P.stuck (λ i _. last i);
      }

      go : (x : Bool) → has s (suc m) ≡ x → (y : Bool) → independent (insert k (suc m)) ≡ y → Kept independent s k₀ (suc m) (cond (x && y) (insert k (suc m)) k)
      go true p true q = record {
        is_independent = q;
        holds = insert_more k₀ k (suc m) (omega arith) P.holds;
        beyond = λ e h. old e h (cases_Bool (has k e));
        stuck = one_more (λ (e : ℕ). has s e ≡ true → has (insert k (suc m)) e ≡ false → independent (insert (insert k (suc m)) e) ≡ false) m later
            (λ i o. absurd (both_ways _ o (insert_has k (suc m) (omega arith))));
      }
        where
          old : (e : ℕ) → has (insert k (suc m)) e ≡ true → (has k e ≡ true) ⊎ (has k e ≡ false) → (has k₀ e ≡ true) ⊎ (has s e ≡ true)
          old e h (inl i) = P.beyond e i
          old e h (inr o) = inr (insert_old k s (suc m) e (omega arith) p (λ i. absurd (both_ways _ o i)) h)

          later : (e : ℕ) → 1 ≤ e → e ≤ m → has s e ≡ true → has (insert k (suc m)) e ≡ false → independent (insert (insert k (suc m)) e) ≡ false
          later e l g i o =
              dependent_grows (insert k e) (insert (insert k (suc m)) e) (insert_both k (insert k (suc m)) e l (insert_more k k (suc m) (omega arith) (λ f x. x)))
              (P.stuck e l g i (insert_out k (suc m) e (omega arith) o))
      go true p false q = stays (λ _. q)
      go false p y q = stays (λ i. absurd (both_ways _ p i))

  keeps : (s k₀ m : ℕ) → independent k₀ ≡ true → Kept independent s k₀ m (extended independent s k₀ m)
  unfolding extended
  keeps s k₀ zero h = record { is_independent = h; holds = λ e i. i; beyond = λ e i. inl i; stuck = λ e l g i o. absurd (omega arith) }
  keeps s k₀ (suc m) h = turn s k₀ m (extended independent s k₀ m) (keeps s k₀ m h)

  pub greedy_independent : (s : ℕ) → independent (greedy n independent s) ≡ true
  greedy_independent s = (keeps s 0 n M.empty).is_independent

  pub greedy_within : (s : ℕ) → Subset (greedy n independent s) s
  greedy_within s e h = go ((keeps s 0 n M.empty).beyond e h)
    where
      go : (has 0 e ≡ true) ⊎ (has s e ≡ true) → has s e ≡ true
      go (inl z) = none_subset s e z
      go (inr i) = i

  pub start_base : (offered : ℕ) → Base n independent (start n independent offered)
  start_base offered =
      let k = keeps (full n) (greedy n independent offered) n (greedy_independent offered) in
      record { is_independent = k.is_independent; full = λ e l g o. k.stuck e l g (in_full n e l g) o }

  -- an independent part of s is no larger than what greed keeps of s
  greedy_largest : (s t : ℕ) → Subset t s → independent t ≡ true → card t ≤ card (greedy n independent s)
  greedy_largest s t p a =
      no_larger n independent M (greedy n independent s) t (greedy_independent s) a (λ e l g m o. (keeps s 0 n M.empty).stuck e l g (p e m) o)

  pub greedy_ranks : (s : ℕ) → Rank independent s (card (greedy n independent s))
  greedy_ranks s = record {
    part = greedy n independent s;
    within = greedy_within s;
    is_independent = greedy_independent s;
    reached = refl;
    most = greedy_largest s;
  }
