-- From record to record: what a reader has read grows, or the file is refused where it stands.
use Rattle.std.proofs.Common.{◌≡◌, ℕ, ◌+◌, ◌==◌, Bool, false, cond, List, [], ◌∷◌, ◌++◌, length, Some, Option, sym, refl, ap, ◌∙◌, ap₂, arith}
use Rattle.std.proofs.lemmas.List.{append-nil, length-append}
use Rattle.std.proofs.lemmas.Bool.{eq-eqb}
use borrow.Author.Tests.{clash}
use Rattle.chain_lists.specs.declared.Kind.{Kind}
use Rattle.chain_lists.specs.declared.Spot.{Spot}
use Rattle.chain_lists.specs.Lists.{framed, kind_length}
use Rattle.chain_lists.specs.Faults.{Beginning, nothing, so_far, ended, LawfulBeginning, bytes_of, swaps_in, Fault, out_of_order, misshapen, cut_off, kind_in, body_in, due, body_fault, kind_fault, record_fault, fault_after, Refused}
use Rattle.chain_lists.proofs.Bytes.{length_framed, stated_framed, kind_framed, body_framed, complete_framed}
use Rattle.chain_records.specs.Records.{exchanges_in, behind}
use Rattle.chain_reader.specs.declared.states.Stage.{Stage}
use Rattle.chain_reader.specs.declared.states.Stage.TheVariants.{Nothing, SoFar, Ended}
use Rattle.chain_reader.specs.Reading.{Finished, StageAfter, end_of, order_fault}

-- refused at the end of what was read
abbrev pub refused_here
    : (file : List ℕ) (b : Beginning) (rest : List ℕ) (f : Fault) (at : Spot)
    → LawfulBeginning b → file ≡ bytes_of b ++ rest → at ≡ end_of b → fault_after b rest ≡ Some f → Refused file f at
refused_here file b rest f at L e p h =
    record {
      beginning = b;
      lawful = L;
      rest = rest;
      made = e;
      fault = h;
      byte = ap (λ (q : Spot). q.byte) p;
      before = ap (λ (q : Spot). q.before) p;
    }

-- after the end
pub ended_well : (file : List ℕ) (b : Beginning) (rest : List ℕ) → LawfulBeginning b → StageAfter b Ended → file ≡ bytes_of b ++ rest → rest ≡ [] → Finished file b
ended_well file nothing rest L st e z = absurd st
ended_well file (so_far c) rest L st e z = absurd st
ended_well file (ended c) rest L st e z =
    record { lawful = L; written = e ∙ ap (λ (ys : List ℕ). bytes_of (ended c) ++ ys) z ∙ append-nil (bytes_of (ended c)) }

-- bytes after the end
pub more_after_end : (b : Beginning) (rest : List ℕ) → StageAfter b Ended → (length rest == 0) ≡ false → fault_after b rest ≡ Some out_of_order
more_after_end nothing rest st h = absurd st
more_after_end (so_far c) rest st h = absurd st
more_after_end (ended c) [] st h = absurd (clash (sym h))
more_after_end (ended c) (x ∷ xs) st h = refl

-- before the end
pub no_end : (b : Beginning) (rest : List ℕ) (s : Stage) → StageAfter b s → (s ≡ Ended → ⊥) → rest ≡ [] → fault_after b rest ≡ Some out_of_order
no_end b rest s st n z = ap (fault_after b) z ∙ go b s st n
  where
    go : (a : Beginning) (s : Stage) → StageAfter a s → (s ≡ Ended → ⊥) → fault_after a [] ≡ Some out_of_order
    go nothing s st n = refl
    go (so_far c) s st n = refl
    go (ended c) Nothing st n = absurd st
    go (ended c) (SoFar p) st n = absurd st
    go (ended c) Ended st n = absurd (n refl)

pub fault_next : (b : Beginning) (rest : List ℕ) (s : Stage) → StageAfter b s → (s ≡ Ended → ⊥) → (rest ≡ [] → ⊥) → fault_after b rest ≡ record_fault b rest
fault_next b [] s st n z = absurd (z refl)
fault_next nothing (x ∷ xs) s st n z = refl
fault_next (so_far c) (x ∷ xs) s st n z = refl
fault_next (ended c) (x ∷ xs) Nothing st n z = absurd st
fault_next (ended c) (x ∷ xs) (SoFar p) st n z = absurd st
fault_next (ended c) (x ∷ xs) Ended st n z = absurd (n refl)

-- a record with a good frame
pub framed_fault
    : (b : Beginning) (k : Kind) (body more rest : List ℕ) → length body + 2 ≡ kind_length k → rest ≡ framed k body ++ more
    → record_fault b rest ≡ order_fault b k body
framed_fault b k body more rest l e =
    let xs : List ℕ = framed k body ++ more in
    ap (record_fault b) e
    ∙ ap (λ (t : Bool). cond t (kind_fault b (kind_in xs) xs) (Some cut_off)) (complete_framed k body more l)
    ∙ ap (λ (m : Option Kind). kind_fault b m xs) (kind_framed k body more)
    ∙ ap (λ (t : Bool). cond t (cond (due b k) (body_fault b k (body_in xs)) (Some out_of_order)) (Some misshapen)) (eq-eqb _ _ (stated_framed k body more))
    ∙ ap (λ (ys : List ℕ). order_fault b k ys) (body_framed k body more l)

pub framed_some : (k : Kind) (body more rest : List ℕ) → rest ≡ framed k body ++ more → rest ≡ [] → ⊥
framed_some k body more rest e z =
    let l : length rest ≡ length (framed k body) + length more = ap length e ∙ length-append (framed k body) more in
    omega (arith, l, length_framed k body, ap length z)

-- where the next record begins
pub goes_behind
    : (b a : Beginning) (k : Kind) (body : List ℕ) (at : Spot)
    → length body + 2 ≡ kind_length k → bytes_of a ≡ bytes_of b ++ framed k body → swaps_in a ≡ swaps_in b + exchanges_in k → at ≡ end_of b
    → behind at k ≡ end_of a
goes_behind b a k body at l e s p =
    let size : length (bytes_of a) ≡ length (bytes_of b) + (4 + kind_length k) =
    omega (arith, ap length e ∙ length-append (bytes_of b) (framed k body), length_framed k body, l) in
    ap (λ (q : Spot). behind q k) p ∙ ap₂ (λ (m n : ℕ). record { byte = m; before = n }) (sym size) (sym s)
