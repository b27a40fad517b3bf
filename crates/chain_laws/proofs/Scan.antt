-- A file read record by record: it has one verdict.
use Rattle.std.proofs.Common.{◌≡◌, ℕ, ◌+◌, true, cond, List, [], ◌∷◌, ◌++◌, length, get_or, take, drop, Some, None, Option, sym, refl, ap, ◌∙◌, arith, w64, to_z}
use Rattle.std.proofs.lemmas.Bool.{eq-eqb, false≢true}
use Rattle.std.proofs.lemmas.Option.{none-some}
use Rattle.chain_lists.specs.declared.Kind.{Kind}
use Rattle.chain_lists.specs.declared.Kind.TheVariants.{Head, Exchange, End, ShiftTotal, LampTotal}
use Rattle.chain_lists.specs.declared.Total.TheVariants.{Shift, Lamp}
use Rattle.chain_lists.specs.Lists.{ChainList, little, framed, kind_length, begun, with_swap, with_total}
use Rattle.chain_lists.specs.Faults.{Fault, cut_off, Beginning, nothing, so_far, ended, number_in, stated, kind_in, body_in, complete, due, swap_in, body_fault, kind_fault, fault_after}
use Rattle.chain_lists.proofs.Bytes.{stated_framed, kind_framed, body_framed, complete_framed, drop_framed}

-- ---- the beginning with one record more

-- by the record's kind and body; where it is not due it does not matter
abbrev pub next_by : Beginning → Kind → List ℕ → Beginning
next_by nothing k body = so_far (begun (get_or body 0 0) (number_in (drop 1 body)))
next_by (so_far c) Head body = so_far c
next_by (so_far c) Exchange body = so_far (with_swap c (swap_in body))
next_by (so_far c) End body = ended c
next_by (so_far c) ShiftTotal body = so_far (with_total c (Shift (to_z w64 (number_in (take 8 body))) (to_z w64 (number_in (drop 8 body)))))
next_by (so_far c) LampTotal body = so_far (with_total c (Lamp (number_in body)))
next_by (ended c) k body = ended c

abbrev pub next : Beginning → Option Kind → List ℕ → Beginning
next b None body = b
next b (Some k) body = next_by b k body

-- ---- reading on after a beginning

-- a list, or what is at fault after which beginning
pub data Verdict : Type 0 where
  accept : ChainList → Verdict
  refuse : Fault → Beginning → Verdict

-- what is left is at fault, or nothing is left after an end, or the next record is in order and the reading goes on behind it
pub data Scan : Beginning → List ℕ → Verdict → Type 0 where
  stops : {b : Beginning} {rest : List ℕ} {f : Fault} → fault_after b rest ≡ Some f → Scan b rest (refuse f b)
  ends : {c : ChainList} → Scan (ended c) [] (accept c)
  goes : {b : Beginning} {x : ℕ} {xs : List ℕ} {v : Verdict} → fault_after b (x ∷ xs) ≡ None
      → Scan (next b (kind_in (x ∷ xs)) (body_in (x ∷ xs))) (drop (4 + stated (x ∷ xs)) (x ∷ xs)) v → Scan b (x ∷ xs) v

pub one_verdict : {b : Beginning} {rest : List ℕ} {v w : Verdict} → Scan b rest v → Scan b rest w → v ≡ w
one_verdict (stops e) (stops e') = cc
one_verdict (stops e) ends = absurd (none-some _ e)
one_verdict (stops e) (goes e' s) = absurd (none-some _ (sym e' ∙ e))
one_verdict ends (stops e) = absurd (none-some _ e)
one_verdict ends ends = refl
one_verdict (goes e s) (stops e') = absurd (none-some _ (sym e ∙ e'))
one_verdict (goes e s) (goes e' s') = one_verdict s s'

-- ---- a record that is in order is read

module _ (k : Kind) (body more : List ℕ) (long : length body + 2 ≡ kind_length k) where
  -- nothing is wrong with it
  kind_none : (b : Beginning) → due b k ≡ true → body_fault b k body ≡ None
      → cond (complete (framed k body ++ more)) (kind_fault b (kind_in (framed k body ++ more)) (framed k body ++ more)) (Some cut_off) ≡ None
  kind_none b d e =
      rw (complete_framed k body more long, kind_framed k body more, eq-eqb _ _ (stated_framed k body more), d, body_framed k body more long) e

  no_fault : (b : Beginning) → due b k ≡ true → body_fault b k body ≡ None → fault_after b (framed k body ++ more) ≡ None
  unfolding little
  no_fault nothing d e = kind_none nothing d e
  no_fault (so_far c) d e = kind_none (so_far c) d e
  no_fault (ended c) d e = absurd (false≢true d)

  -- what is left is what stands behind it
  behind : drop (4 + stated (framed k body ++ more)) (framed k body ++ more) ≡ more
  behind =
      let n : 4 + stated (framed k body ++ more) ≡ 6 + length body = omega (arith, stated_framed k body more) in
      ap (λ n. drop n (framed k body ++ more)) n ∙ drop_framed k body more

  read_on : {v : Verdict} (b : Beginning) → Scan (next_by b k body) more v
      → Scan (next b (kind_in (framed k body ++ more)) (body_in (framed k body ++ more))) (drop (4 + stated (framed k body ++ more)) (framed k body ++ more)) v
  read_on b s = rw (kind_framed k body more, body_framed k body more long, behind) s

  pub step : {v : Verdict} (b : Beginning) → due b k ≡ true → body_fault b k body ≡ None → Scan (next_by b k body) more v → Scan b (framed k body ++ more) v
  unfolding little
  step b d e s = goes (no_fault b d e) (read_on b s)
