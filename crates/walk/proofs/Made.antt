-- The states that begin and an exchange make.
use Rattle.std.proofs.Common.{◌≡◌, ℕ, ◌+◌, ◌^◌, ◌<◌, ◌≤◌, min, Bool, true, not, ap, ◌∙◌, arith, pow_mono}
use lib.Bits.{bit_and}
use Rattle.labels.specs.Sets.{full, limit, has, reopened, swap}
use Rattle.labels.proofs.Member.{members, has_pos}
use Rattle.labels.proofs.Card.{within}
use Rattle.matroid_laws.specs.Greedy.{start}
use Rattle.walk_laws.specs.Settings.{Setting, value_of}
use Rattle.walk_laws.specs.Steps.{State, begun, after, exchange_at, value_after}
use Rattle.walk_laws.specs.declared.Exchange.{Exchange}
use Rattle.tie_rule.specs.Laws.{TieLaws}
use Rattle.labels.proofs.Order.{reopened_less}

within_full : (n o : ℕ) → bit_and o (full n) < 2 ^ n
within_full n o = within n (bit_and o (full n)) (λ e m. grind (arith, members))

-- the labels of 1..n as the code has them
pub full_is : (n m x : ℕ) → n ≤ limit → m ≡ n → x ≡ full (min m 64) → x ≡ full n
full_is n m x l e h = let q : min m 64 ≡ n = omega arith in h ∙ ap full q

pub few_at_first : (n o x : ℕ) → n ≤ limit → x ≡ full n → 1 + bit_and o x ≤ 2 ^ limit
few_at_first n o x l h = let a = ap (bit_and o) h in let b = within_full n o in let c = pow_mono {i = n} {j = limit} l in omega arith

pub begun_is : {R V : Type 0} (w : Setting R V) (offered opened t a : ℕ) (v : V) (r : R)
    → t ≡ start w.n w.independent offered → a ≡ bit_and opened (full w.n) → v ≡ value_of w t
    → ◌≡◌ {A = State R V} (record { present = t; active = a; count = 1; value = v; total = v; tie = r }) (begun w offered opened r)
begun_is w offered opened t a v r p q e = λ i. record {
  present = p i;
  active = q i;
  count = 1;
  value = (e ∙ ap (value_of w) p) i;
  total = (e ∙ ap (value_of w) p) i;
  tie = r;
}

-- ---- an exchange

pub few_after : (count active e r : ℕ) → count + active ≤ 2 ^ limit → has active e ≡ true → r ≡ reopened active e → (count + 1) + r ≤ 2 ^ limit
few_after count active e r h a q = let l = reopened_less active e a in omega arith

-- the rule's choice is a label below e
pub chosen : {R : Type 0} (choice : R → ℕ → ℕ → ℕ) (next : R → ℕ → ℕ → R) → TieLaws choice next → (r : R) (e c low : ℕ) → low ≡ choice r e c
    → (f : ℕ) × (f < e) × (has c f ≡ true) → (1 ≤ low) × (low < e)
chosen choice next L r e c low q (f, l, h) =
    let p = L.picks r e c f l h in let o = has_pos c (choice r e c) p.1 in (omega arith, omega arith)

pub exchange_is : {R V : Type 0} (w : Setting R V) (s : State R V) (e c low : ℕ) (inside : Bool) → low ≡ w.choice s.tie e c → inside ≡ has s.present e
    → ◌≡◌ {A = Exchange} (record { high = e; low = low; came = not inside }) (exchange_at w s e c)
exchange_is w s e c low inside p q = λ i. record { high = e; low = p i; came = not (q i) }

pub after_is : {R V : Type 0} (w : Setting R V) (s : State R V) (e c low present active : ℕ) (x : Exchange) (value total : V) (tie : R)
    → low ≡ w.choice s.tie e c → x ≡ exchange_at w s e c → present ≡ swap s.present e low → active ≡ reopened s.active e
    → value ≡ value_after w s x → total ≡ w.sum s.total value → tie ≡ w.next s.tie e c
    → ◌≡◌ {A = State R V} (record { present = present; active = active; count = s.count + 1; value = value; total = total; tie = tie }) (after w s e c)
after_is w s e c low present active x value total tie l m p a v t n =
    let worth = v ∙ ap (value_after w s) m in
    λ i. record {
      present = (p ∙ ap (swap s.present e) l) i;
      active = a i;
      count = s.count + 1;
      value = worth i;
      total = (t ∙ ap (w.sum s.total) worth) i;
      tie = n i;
    }
