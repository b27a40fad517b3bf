-- When the calls of a trip are taken.
use Rattle.std.proofs.Common.{◌≡◌, ℕ, ◌+◌, ◌≤◌, Bool, true, false, cond, ◌&&◌, leb, List, length, Some, None, Option, Ok, Err, Result, sym, ap, ◌∙◌, arith}
use Rattle.std.specs.Option.{MatchOption}
use Rattle.std.specs.Result.{MatchResult, result_ok}
use Rattle.std.specs.Option.{is_none}
use Rattle.std.proofs.lemmas.Bool.{cond-false, cond-true}
use Rattle.chain_lists.specs.declared.Swap.{Swap}
use Rattle.chain_lists.specs.Lists.{begun, file_of, head_written, lawful_head, lawful_swap}
use Rattle.chain_lists.proofs.Growth.{front_begun, length_head_written}
use Rattle.chain_writer.specs.declared.states.Progress.{Progress}
use Rattle.chain_writer.specs.declared.states.Listing.{Listing}
use Rattle.chain_writer.specs.declared.states.WriterRefusal.{WriterRefusal}
use Rattle.chain_writer.specs.declared.states.WriterRefusal.TheVariants.{NoRoom, WrongExchange}
use Rattle.chain_writer.specs.Writing.{OpenHolds, begin_refusal, exchange_refusal, put_at}
use Rattle.chain_writer.proofs.Splice.{length_put}
use Rattle.chain_trip.specs.Trip.{lawful_trip, left_by, trip_of}

-- what is known of a read that cannot fail
pub read_told
    : {T E Q : Type 0} (A : Type 0) (r : Result T E) (o : Option T) (P : T → Type 0) → o ≡ result_ok r → Q → MatchResult r P (λ _. ⊥)
    → MatchOption o A (λ x. Q × P x)
read_told A (Ok x) o P is q h = rw is (q, h)
read_told A (Err e) o P is q h = absurd h

-- what is left, by cases
module _ (n s : ℕ) (x : Swap) (word : ℕ) (before : List ℕ) where
  pub left_head : lawful_trip n s x (length before) ≡ false → begin_refusal n s before ≡ None → left_by n s x word before ≡ put_at 0 (head_written n s) before
  left_head h k = cond-false _ _ _ h ∙ cond-true _ _ _ (ap is_none k)

  pub left_file : lawful_trip n s x (length before) ≡ true → left_by n s x word before ≡ put_at 0 (file_of (trip_of n s x word)) before
  left_file h = cond-true _ _ _ h

module _ (n s : ℕ) (x : Swap) (buf out : List ℕ) (p : Progress Listing) (begins : begin_refusal n s buf ≡ None) (bytes : out ≡ put_at 0 (head_written n s) buf) (holds : OpenHolds out p (begun n s)) where
  roomy : 65 ≤ length buf
  roomy = grind arith

  heads : lawful_head n s ≡ true
  heads = holds.holding.lawful.heads

  long : length out ≡ length buf
  long = ap length bytes ∙ length_put 0 (head_written n s) buf (omega (arith, roomy, length_head_written n s))

  place : p.at ≡ 15
  place = holds.holding.place ∙ ap length (front_begun n s) ∙ length_head_written n s

  -- the exchange is judged as the trip is
  judged : exchange_refusal out p x ≡ cond (lawful_swap n s x) (cond (leb 73 (length buf)) None (Some NoRoom)) (Some WrongExchange)
  judged =
      ap (λ (m : ℕ). cond (lawful_swap m p.state.present x) (cond (leb (p.at + 58) (length out)) None (Some NoRoom)) (Some WrongExchange)) holds.labels
      ∙ ap (λ (t : ℕ). cond (lawful_swap n t x) (cond (leb (p.at + 58) (length out)) None (Some NoRoom)) (Some WrongExchange)) holds.set
      ∙ ap (λ (a : ℕ). cond (lawful_swap n s x) (cond (leb (a + 58) (length out)) None (Some NoRoom)) (Some WrongExchange)) place
      ∙ ap (λ (l : ℕ). cond (lawful_swap n s x) (cond (leb 73 l) None (Some NoRoom)) (Some WrongExchange)) long

  pub refused_trip : {e : WriterRefusal} → exchange_refusal out p x ≡ Some e → lawful_trip n s x (length buf) ≡ false
  refused_trip {e} h = go (lawful_swap n s x) (leb 73 (length buf)) (sym judged ∙ h)
    where
      go : (a b : Bool) → cond a (cond b None (Some NoRoom)) (Some WrongExchange) ≡ Some e → (lawful_head n s && (a && b)) ≡ false
      go true true k = absurd (grind arith)
      go true false k = let p = heads in grind arith
      go false b k = let p = heads in grind arith

  pub taken_trip : exchange_refusal out p x ≡ None → lawful_trip n s x (length buf) ≡ true
  taken_trip h = go (lawful_swap n s x) (leb 73 (length buf)) (sym judged ∙ h)
    where
      go : (a b : Bool) → cond a (cond b None (Some NoRoom)) (Some WrongExchange) ≡ None → (lawful_head n s && (a && b)) ≡ true
      go true true k = let p = heads in grind arith
      go true false k = absurd (grind arith)
      go false b k = absurd (grind arith)
