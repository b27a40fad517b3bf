-- Graphic matroids: label e is an edge that joins the points a e and b e, which are one point where it is a loop.
use Rattle.std.specs.Prelude.{◌≡◌, ℕ, ◌+◌, ◌≤◌, Bool, true, ◌&&◌, ◌↔◌, ◌==◌, bit_xor}
use Rattle.labels.specs.Sets.{has, single, card, passing}
use Rattle.binary_laws.specs.Binary.{binary, NoEvenPart}

-- the word of an edge has the places of its two points; that of a loop is 0
abbrev pub incidence : (ℕ → ℕ) → (ℕ → ℕ) → ℕ → ℕ
incidence a b e = bit_xor (single (a e)) (single (b e))

-- a set of edges is independent where it is so by the words of its edges
abbrev pub graphic : ℕ → (ℕ → ℕ) → (ℕ → ℕ) → ℕ → Bool
graphic n a b = binary n (incidence a b)

-- how often the edges of t meet the point k; a loop meets its point twice
abbrev pub meets : ℕ → (ℕ → ℕ) → (ℕ → ℕ) → ℕ → ℕ → ℕ
meets n a b t k = card (passing (λ e. has t e && a e == k) n) + card (passing (λ e. has t e && b e == k) n)

-- the ends of the edges 1..n are points, from 1 on
abbrev pub Joined : ℕ → (ℕ → ℕ) → (ℕ → ℕ) → Type 0
Joined n a b = (e : ℕ) → 1 ≤ e → e ≤ n → (1 ≤ a e) × (1 ≤ b e)

-- s is independent where each part of it, but the empty one, meets some point an odd number of times: where no part is a union of cycles
abbrev pub GraphicOdd : Type 0
GraphicOdd = (n : ℕ) (a b : ℕ → ℕ) → Joined n a b → (s : ℕ) → (graphic n a b s ≡ true) ↔ NoEvenPart n (meets n a b) s
