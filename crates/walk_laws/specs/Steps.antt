-- What a walk holds, how it begins, and what an advance and a list do.
use Rattle.std.specs.Prelude.{ℕ, zero, suc, ◌+◌, cond, not, List, [], ◌∷◌, Some, None, Option, ◌==◌, bit_and}
use Rattle.labels.specs.Sets.{has, full, swap, reopened, first_passing}
use Rattle.matroid_laws.specs.Greedy.{start}
use Rattle.walk_laws.specs.declared.Exchange.{Exchange}
use Rattle.walk_laws.specs.declared.Stop.{Stop}
use Rattle.walk_laws.specs.declared.Stop.TheVariants.{Full, Finished}
use Rattle.walk_laws.specs.Settings.{Setting, candidates, value_of}

pub record State (R V : Type 0) : Type 0 where
  -- the present set
  pub present : ℕ
  -- the active labels
  pub active : ℕ
  pub count : ℕ
  pub value : V
  pub total : V
  -- the state of the tie rule
  pub tie : R

-- the label that comes in, and the one that goes out
abbrev pub entering : Exchange → ℕ
entering x = cond x.came x.high x.low

abbrev pub leaving : Exchange → ℕ
leaving x = cond x.came x.low x.high

module _ {R V : Type 0} (w : Setting R V) where
  -- at the set t, with the labels a active
  abbrev pub begin_at : ℕ → ℕ → R → State R V
  begin_at t a r = record { present = t; active = a; count = 1; value = value_of w t; total = value_of w t; tie = r }

  -- how a walk begins: at the start for the offered set, with those labels of 1..n active that were opened
  abbrev pub begun : ℕ → ℕ → R → State R V
  begun offered opened r = begin_at (start w.n w.independent offered) (bit_and opened (full w.n)) r

  -- the exchange at the label e, where the rule chooses from the set c
  abbrev pub exchange_at : State R V → ℕ → ℕ → Exchange
  exchange_at s e c = record { high = e; low = w.choice s.tie e c; came = not (has s.present e) }

  -- the value gains the worth that came and the opposite of the one that went
  abbrev pub value_after : State R V → Exchange → V
  value_after s x = w.sum (w.sum s.value (w.worth (entering x))) (w.opposite (w.worth (leaving x)))

  -- what it leaves
  abbrev pub after : State R V → ℕ → ℕ → State R V
  after s e c = record {
    present = swap s.present e (exchange_at s e c).low;
    active = reopened s.active e;
    count = s.count + 1;
    value = value_after s (exchange_at s e c);
    total = w.sum s.total (value_after s (exchange_at s e c));
    tie = w.next s.tie e c;
  }

  -- the candidates of an active label; of any other, none
  abbrev pub offers : State R V → ℕ → ℕ
  offers s e = cond (has s.active e) (candidates w s.present e) 0

  -- an advance at the label e (0: there is none): what it answers, and what it leaves
  abbrev pub step_at : State R V → ℕ → Option Exchange × State R V
  step_at s zero = (None, s)
  step_at s (suc k) = (Some (exchange_at s (suc k) (offers s (suc k))), after s (suc k) (offers s (suc k)))

  -- an advance: at the lowest active label that has a candidate
  unfoldable pub step : State R V → Option Exchange × State R V
  step s = step_at s (first_passing (λ e. not (offers s e == 0)) w.n)

  -- what a list does: each exchange with the set that it leads to, why it stopped, and the state left
  abbrev pub Several : Type 0
  Several = List (Exchange × ℕ) × Stop × State R V

  abbrev pub in_front : Exchange × ℕ → Several → Several
  in_front x r = (x ∷ r.0, r.1, r.2)

  abbrev pub go_on : (State R V → Several) → Option Exchange × State R V → Several
  go_on rest (None, s) = ([], Finished, s)
  go_on rest (Some x, s) = in_front (x, s.present) (rest s)

  -- a list with k free entries: it advances while there is a free entry, until it is finished
  unfoldable pub several : ℕ → State R V → Several
  several zero s = ([], Full, s)
  several (suc k) s = go_on (several k) (step s)
