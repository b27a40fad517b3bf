-- A lawful row is admitted, and every label of a lawful survey fits a word.
use Rattle.std.proofs.Common.{◌≡◌, ℕ, ◌<◌, ◌≤◌, Bool, true, cond, ◌&&◌, ltb, Ok, Err, Result, ap, ◌∙◌, ap₂, arith}
use Rattle.std.proofs.lemmas.Bool.Decides.{nat_tests}
use Rattle.entry.specs.declared.EntryRefusal.{EntryRefusal}
use Rattle.entry.specs.declared.EntryRefusal.TheVariants.{OutOfRange, TooManyLabels}
use Rattle.labels.specs.Sets.{limit, full, Subset}
use Rattle.labels.proofs.Member.{members}
use Rattle.graphic.specs.Points.{in_range}
use Rattle.graphic.specs.Graphs.{admitted}

in_range_passes : (p a : ℕ) → 1 ≤ a → a ≤ p → in_range p a ≡ true
in_range_passes p a l g = grind (arith, nat_tests)

room : (n : ℕ) → n < limit → ltb n limit ≡ true
room n h = grind (arith, nat_tests)

not_both : (e : EntryRefusal) → ◌≡◌ {A = Result (Unit {0}) EntryRefusal} (Err e) (Ok tt) → ⊥
not_both e p = let z : ◌≡◌ {A = ℕ} 0 1 = cc in omega arith

pub never_refused : (p q n a b : ℕ) (e : EntryRefusal) → q ≡ p → Err e ≡ admitted q n a b → (1 ≤ a) × (a ≤ p) → (1 ≤ b) × (b ≤ p) → n < limit → ⊥
never_refused p q n a b e same h (l, g) (k, m) small =
    not_both e (h
    ∙ ap₂ (λ (x y : Bool). cond (x && y) (cond (ltb n limit) (Ok tt) (Err TooManyLabels)) (Err OutOfRange)) (in_range_passes q a l (omega arith)) (in_range_passes q b k (omega arith))
    ∙ ap (λ (x : Bool). cond x (Ok tt) (Err TooManyLabels)) (room n small))

pub full_within : (n m : ℕ) → n ≤ m → Subset (full n) (full m)
full_within n m h e i = grind (arith, members)
