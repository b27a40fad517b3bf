-- A file that is filled, one advance of a walk after another.
use Rattle.std.proofs.Common.{◌≡◌, ℕ, suc, ◌≤◌, Bool, false, cond, ◌+◌, List, [], ◌∷◌, ◌++◌, ℤ, MatchResult, length, nat_le, Some, None, Option, Ok, Err, Result, ap, ap₂, subst, sym, ◌∙◌, refl, arith}
use Rattle.std.proofs.lemmas.Bool.Decides.{nat_tests}
use Rattle.std.proofs.lemmas.Option.{none-some}
use Rattle.chain_lists.specs.declared.Kind.TheVariants.{LampTotal}
use Rattle.chain_lists.specs.declared.Swap.{Swap}
use Rattle.chain_lists.specs.declared.Total.{Total}
use Rattle.chain_lists.specs.declared.Total.TheVariants.{Shift, Lamp}
use Rattle.chain_lists.specs.declared.TotalKinds.{TotalKinds}
use Rattle.chain_lists.specs.Lists.{ChainList, Holds, begun, lawful_swap, stands, swap_written, with_swap, with_total}
use Rattle.chain_lists.proofs.Growth.{length_swap_written}
use Rattle.chain_writer.specs.declared.states.Listing.{Listing}
use Rattle.chain_writer.specs.declared.states.Progress.{Progress}
use Rattle.chain_writer.specs.declared.states.WriterRefusal.{WriterRefusal}
use Rattle.chain_writer.specs.declared.states.WriterRefusal.TheVariants.{NoRoom, WrongExchange, SecondTotal}
use Rattle.chain_writer.specs.Writing.{OpenHolds, TotalsHolds, begin_refusal, exchange_refusal, held_back, put_at, swap_size, total_refusal}
use Rattle.chain_writer.proofs.Splice.{length_put}
use Rattle.measure.specs.declared.value.Shift.{Shift as ShiftOf}
use Rattle.walk_laws.specs.declared.Exchange.{Exchange}
use Rattle.walk_laws.specs.Settings.{Setting}
use Rattle.walk_laws.specs.Steps.{State, Several, several, step}
use Rattle.described.specs.Files.{filled, head_refusal, outcome, swap_of, swap_refusal, swaps_of, totalled, unless}
use Rattle.described.proofs.Onward.{several_goes, several_stops}

-- what is refused of a file that holds c
pub same_refusal : {out : List ℕ} {p : Progress Listing} {c : ChainList} (x : Swap) (room : ℕ) → OpenHolds out p c → length out ≡ room → exchange_refusal out p x ≡ swap_refusal room c x
same_refusal x room h long i =
    cond (lawful_swap (h.labels i) (h.set i) x) (cond (nat_le (h.holding.place i + (swap_size + held_back [])) (long i)) None (Some NoRoom)) (Some WrongExchange)

-- an exchange keeps the buffer's length
pub length_kept : {out : List ℕ} {p : Progress Listing} {c : ChainList} (x : Swap) (after : List ℕ) → OpenHolds out p c → after ≡ put_at p.at (swap_written x) out → length after ≡ length out
length_kept {out = out} {p = p} x after h e =
    ap length e
    ∙ length_put p.at (swap_written x) out (omega (arith, h.holding.room, ap held_back h.no_totals, length_swap_written x))

module _ {R V : Type 0} (w : Setting R V) (room : ℕ) (c : ChainList) (k : ℕ) (s : State R V) where
  module _ (j : ℕ) (t : State R V) (one : k ≡ suc j) where
    filled_next : (x : Exchange) → step w s ≡ (Some x, t)
        → filled room c (swaps_of (several w k s).0) ≡ unless (swap_refusal room c (swap_of x)) (length c.swaps) (filled room (with_swap c (swap_of x)) (swaps_of (several w j t).0))
    filled_next x q =
        ap (λ (i : ℕ). filled room c (swaps_of (several w i s).0)) one
        ∙ ap (λ (r : Several w). filled room c (swaps_of r.0)) (several_goes w j s t x q)

    pub filled_goes : (x : Exchange) → step w s ≡ (Some x, t) → swap_refusal room c (swap_of x) ≡ None
        → filled room c (swaps_of (several w k s).0) ≡ filled room (with_swap c (swap_of x)) (swaps_of (several w j t).0)
    filled_goes x q taken = filled_next x q ∙ ap (λ (o : Option WriterRefusal). unless o (length c.swaps) (filled room (with_swap c (swap_of x)) (swaps_of (several w j t).0))) taken

    pub filled_stops : (x : Exchange) (e : WriterRefusal) → step w s ≡ (Some x, t) → swap_refusal room c (swap_of x) ≡ Some e
        → filled room c (swaps_of (several w k s).0) ≡ Err (e, length c.swaps)
    filled_stops x e q refused = filled_next x q ∙ ap (λ (o : Option WriterRefusal). unless o (length c.swaps) (filled room (with_swap c (swap_of x)) (swaps_of (several w j t).0))) refused

    pub filled_ends : step w s ≡ (None, t) → filled room c (swaps_of (several w k s).0) ≡ Ok c
    filled_ends q =
        ap (λ (i : ℕ). filled room c (swaps_of (several w i s).0)) one
        ∙ ap (λ (r : Several w). filled room c (swaps_of r.0)) (several_stops w j s t q)

  pub filled_all : k ≡ 0 → filled room c (swaps_of (several w k s).0) ≡ Ok c
  unfolding several
  filled_all none = ap (λ (i : ℕ). filled room c (swaps_of (several w i s).0)) none

-- ---- the rest of a file

-- a buffer that a file was begun in has room for the head
pub head_fits : (n start : ℕ) (out : List ℕ) → begin_refusal n start out ≡ None → 65 ≤ length out
head_fits n start out e = grind (arith, nat_tests)

-- a total of lamps is not refused where there is none yet
pub lamps_taken : {out : List ℕ} {p : Progress TotalKinds} {d : ChainList} (across along : ℤ) (lamps : ℕ) (e : WriterRefusal)
    → d.totals ≡ [] → TotalsHolds out p (with_total d (Shift across along)) → total_refusal p (Lamp lamps) ≡ Some e → ⊥
lamps_taken {p = p} {d = d} across along lamps e none h refused =
    let mark : p.state.lamp ≡ false = h.marked.lamp ∙ ap (λ (ts : List Total). stands LampTotal (ts ++ Shift across along ∷ [])) none in
    none-some e (sym (ap (λ (m : Bool). cond m (Some SecondTotal) None) mark) ∙ refused)

-- what is not refused is taken
pub is_taken : (P : Type 0) {X : WriterRefusal → Type 0} (r : Result (Unit {0}) WriterRefusal) → ((e : WriterRefusal) → X e → ⊥) → MatchResult r (λ _. P) X → (u : Unit {0}) × (r ≡ Ok u)
is_taken P (Ok u) never h = (u, refl)
is_taken P (Err e) never h = absurd (never e h)

pub outcome_is : {room most s first : ℕ} {d : ChainList} (n : ℕ) (xs : List Swap) → room ≡ most → s ≡ first → head_refusal most n s ≡ None → filled room (begun n s) xs ≡ Ok d
    → outcome most n first xs ≡ Ok d
outcome_is {most = most} {s = s} n xs same set taken e =
    ap (λ (t : ℕ). outcome most n t xs) (sym set)
    ∙ ap (λ (o : Option WriterRefusal). unless o 0 (filled most (begun n s) xs)) taken
    ∙ ap (λ (m : ℕ). filled m (begun n s) xs) (sym same)
    ∙ e

-- the list with its totals, as the walk tells them
pub holds_totals : {bytes : List ℕ} {across along : ℤ} {total other : ShiftOf} (d : ChainList) (lamps : ℕ) → across ≡ total.across → along ≡ total.along → total ≡ other
    → Holds bytes (with_total (with_total d (Shift across along)) (Lamp lamps)) → Holds bytes (totalled d other lamps)
holds_totals {bytes = bytes} {total = total} d lamps a b same h =
    subst (λ (t : ShiftOf). Holds bytes (totalled d t lamps)) same
    (subst (λ (c : ChainList). Holds bytes c) (ap₂ (λ (x y : ℤ). with_total (with_total d (Shift x y)) (Lamp lamps)) a b) h)
