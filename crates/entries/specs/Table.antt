-- The values of the labels 1, 2, .., and the value of one label.
use Rattle.std.specs.Prelude.{◌≡◌, ℕ, zero, suc, ◌<◌, List, [], ◌∷◌, ◌++◌, length, take, None, Option, Result, MatchResult, slice_get, slice_index_or}
use Rattle.entry.specs.declared.EntryRefusal.{EntryRefusal}
use Rattle.entry.specs.declared.EntryRefusal.TheVariants.{TooManyLabels}
use Rattle.labels.specs.Sets.{limit}
use Rattle.entries.specs.declared.table.Entries.{Entries}

-- the values in use, in the order of their labels
abbrev pub values : {V : Type 0} → Entries V → List V
values t = take t.used t.places

-- the value of a label, which stands one place before its number; d where the label has none
abbrev pub entry_or : {V : Type 0} → List V → V → ℕ → V
entry_or vs d zero = d
entry_or vs d (suc k) = slice_index_or vs k d

-- the same, if there is one
abbrev pub entry_at : {V : Type 0} → List V → ℕ → Option V
entry_at vs zero = None
entry_at vs (suc k) = slice_get vs k

-- v was asked to be the value of the next label of t, whose values `of` tells: it is, or there can be no such label and nothing changed
abbrev pub Adds : {T V : Type 0} → (T → List V) → T → V → Result (Unit {0}) EntryRefusal → T → Type 0
Adds of t v r u = MatchResult r
    (λ _. (length (of t) < limit) × (of u ≡ of t ++ v ∷ []))
    (λ e. (length (of t) ≡ limit) × (e ≡ TooManyLabels) × (u ≡ t))
