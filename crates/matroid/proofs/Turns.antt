-- What the loops over labels answer, in the words of the specs.
use Rattle.std.proofs.Common.{◌≡◌, ℕ, zero, suc, ◌-◌, ◌^◌, ◌<◌, ◌≤◌, min, Bool, true, false, cond, not, ◌&&◌, ◌↔◌, sym, refl, ap, ◌∙◌, ap₂, arith}
use lib.Bits.{bit_or}
use Rattle.std.specs.List.{list_all, fold}
use Rattle.labels.specs.Sets.{has, insert, full, no_label}
use Rattle.labels.specs.Listed.{labels_in}
use Rattle.labels.proofs.Upwards.{fold_labels, no_label_listed}
use Rattle.labels.proofs.Find.{no_label_same}
use Rattle.labels.proofs.Words.{has_outside}
use Rattle.std.proofs.lemmas.Bool.Decides.{nat_tests}
use Rattle.label_words.specs.Words.{word_of}
use Rattle.label_words.proofs.Held.{word_in}
use Rattle.matroid_laws.specs.Matroids.{Base, is_base}
use Rattle.matroid_laws.proofs.Tests.{base_tells, base_passes}
use Rattle.matroid_laws.specs.Greedy.{joins, extended, greedy, start}

-- the label e joins h where the set stays independent
abbrev pub kept : (ℕ → Bool) → ℕ → ℕ → ℕ
kept f h e = cond (f (bit_or h (word_of e))) (bit_or h (word_of e)) h

pub extends : (f : ℕ → Bool) (s k n : ℕ) → n ≤ 64 → extended f s k n ≡ fold (kept f) k (labels_in s n)
unfolding extended labels_in
extends f s k zero h = refl
extends f s k (suc n) h = go (has s (suc n)) refl (extends f s k n (omega arith)) ∙ sym (fold_labels (kept f) k s n)
  where
    go : (b : Bool) → has s (suc n) ≡ b → extended f s k n ≡ fold (kept f) k (labels_in s n)
        → cond (b && f (insert (extended f s k n) (suc n))) (insert (extended f s k n) (suc n)) (extended f s k n) ≡ cond b (kept f (fold (kept f) k (labels_in s n)) (suc n)) (fold (kept f) k (labels_in s n))
    go true w ih =
        ap (λ (x : ℕ). cond (f (insert x (suc n))) (insert x (suc n)) x) ih
        ∙ ap (λ (z : ℕ). let y = fold (kept f) k (labels_in s n) in cond (f (bit_or y z)) (bit_or y z) y) (sym (word_in (suc n) (omega arith) h))
    go false w ih = ih

-- the second round of the start
pub start_is : (n m all kept r offered : ℕ) (f : ℕ → Bool) → n ≤ 64 → m ≡ n → all ≡ full (min m 64) → kept ≡ greedy n f offered → r ≡ extended f all kept n → r ≡ start n f offered
start_is n m all kept r offered f l z h k e =
    let q : min m 64 ≡ n = omega arith in
    e ∙ ap₂ (λ (a : ℕ) (b : ℕ). extended f a b n) (h ∙ ap full q) k

-- ---- the tests for labels that join, and for a base

-- the label e cannot join held
abbrev pub barred : (ℕ → Bool) → ℕ → ℕ → Bool
barred f held e = not (f (bit_or held (word_of e)))

pub none_joins_is : (n : ℕ) (f : ℕ → Bool) (s held : ℕ) → n ≤ 64 → no_label (joins f s held) n ≡ list_all (barred f held) (labels_in s n)
none_joins_is n f s held h =
    no_label_listed (joins f s held) (barred f held) s n (λ e l g. let z = ap (λ (x : ℕ). f (bit_or held x)) (word_in e l (omega arith)) in grind arith)

pub base_is : (n : ℕ) (f : ℕ → Bool) (b : ℕ) → n ≤ 64 → b < 2 ^ 64 → f b ≡ true → no_label (joins f (18446744073709551615 - b) b) n ≡ is_base n f b
base_is n f b h l t =
    let q = no_label_same (joins f (18446744073709551615 - b) b) (λ e. not (has b e) && f (insert b e)) n (λ e i g. let w = has_outside b e l i (omega arith) in grind (arith, nat_tests)) in
    grind arith

-- the test's answer, and what it means
pub tells_base : (n : ℕ) (f : ℕ → Bool) (b : ℕ) (r : Bool) → r ≡ is_base n f b → (r ≡ true) ↔ Base n f b
tells_base n f b r h = (λ p. base_tells n f b (sym h ∙ p), λ B. h ∙ base_passes n f b B)
