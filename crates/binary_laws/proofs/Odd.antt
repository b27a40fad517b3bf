-- Independence by parity, of words and of edges.
use Rattle.std.proofs.Common.{◌≡◌, ℕ, ◌%◌, true, ◌↔◌, sym, refl, ◌∙◌}
use Rattle.binary_laws.specs.Binary.{binary, times, NoEvenPart}
use Rattle.binary_laws.specs.Graphic.{incidence, graphic, meets, Joined}
use Rattle.binary_laws.proofs.Even.{even_places, times_meets}
use Rattle.binary_laws.proofs.Laws.{means, meant}

-- by any count whose parity is that of the words
by_count : (n : ℕ) (v : ℕ → ℕ) (count : ℕ → ℕ → ℕ) → ((t k : ℕ) → times n v t k % 2 ≡ count t k % 2) → (s : ℕ) → (binary n v s ≡ true) ↔ NoEvenPart n count s
by_count n v count same s = (
  λ h. let F = means n v s h in
      record { inside = F.inside; odd = λ t p even. F.free t p ((even_places n v t).1 (λ k. same t k ∙ even k)) },
  λ N. meant n v s (record { inside = N.inside; free = λ t p z. N.odd t p (λ k. sym (same t k) ∙ (even_places n v t).0 z k) }),
)

pub binary_odd : (n : ℕ) (v : ℕ → ℕ) (s : ℕ) → (binary n v s ≡ true) ↔ NoEvenPart n (times n v) s
binary_odd n v s = by_count n v (times n v) (λ t k. refl) s

pub graphic_odd : (n : ℕ) (a b : ℕ → ℕ) → Joined n a b → (s : ℕ) → (graphic n a b s ≡ true) ↔ NoEvenPart n (meets n a b) s
graphic_odd n a b ok s = by_count n (incidence a b) (meets n a b) (times_meets n a b ok) s
