-- A file holds at most one list, or is refused for one reason at one place.
use Rattle.std.proofs.Common.{◌≡◌, ℕ, List, [], length, sym, ap, ◌∙◌, subst, arith}
use Rattle.std.proofs.lemmas.List.{append-nil}
use Rattle.chain_lists.specs.declared.Spot.{Spot}
use Rattle.chain_lists.specs.Lists.{ChainList, file_of, Holds}
use Rattle.chain_lists.specs.Faults.{Beginning, Fault, nothing, ended, Refused, bytes_of, swaps_in}
use Rattle.chain_laws.proofs.Scan.{accept, refuse, Scan, stops, ends, one_verdict}
use Rattle.chain_laws.proofs.Reading.{read_beginning}

-- a file that holds a list is read as it, and one that is refused is read up to its fault
holds_read : {file : List ℕ} {c : ChainList} → Holds file c → Scan nothing file (accept c)
holds_read {file} {c} H = subst (λ l. Scan nothing l (accept c)) (append-nil (file_of c) ∙ sym H.written) (read_beginning [] (ended c) H.lawful ends)

refused_read : {file : List ℕ} {f : Fault} {at : Spot} (R : Refused file f at) → Scan nothing file (refuse f R.beginning)
refused_read {file} {f} {at} R =
    rw R.made (read_beginning R.rest R.beginning R.lawful (stops R.fault))

pub one_list : (file : List ℕ) (c d : ChainList) → Holds file c → Holds file d → c ≡ d
one_list file c d H K = let e = one_verdict (holds_read H) (holds_read K) in cc

pub not_both : (file : List ℕ) (c : ChainList) (f : Fault) (at : Spot) → Holds file c → Refused file f at → ⊥
not_both file c f at H R = let e = one_verdict (holds_read H) (refused_read R) in let z : ◌≡◌ {A = ℕ} 0 1 = cc in omega arith

pub one_refusal
    : (file : List ℕ) (f g : Fault) (at by : Spot) (R : Refused file f at) (Q : Refused file g by)
    → (f ≡ g) × (at ≡ by) × (R.beginning ≡ Q.beginning)
one_refusal file f g at by R Q =
    let e = one_verdict (refused_read R) (refused_read Q) in
    let b : R.beginning ≡ Q.beginning = cc in
    let x : at.byte ≡ by.byte = R.byte ∙ ap (λ (a : Beginning). length (bytes_of a)) b ∙ sym Q.byte in
    let y : at.before ≡ by.before = R.before ∙ ap swaps_in b ∙ sym Q.before in
    let z : ◌≡◌ {A = Spot} (record { byte = at.byte; before = at.before }) (record { byte = by.byte; before = by.before }) = cc in
    (cc, z, b)
