-- The classes of the labels 1, 2, .. and the limits of the classes 1, 2, .., each as a list.
use Rattle.std.specs.Prelude.{◌≡◌, ℕ, suc, ◌<◌, Bool, cond, ◌&&◌, ltb, List, length, Ok, Err, Result, nat_eq, nat_le, nat_lt, slice_index}
use Rattle.entry.specs.declared.EntryRefusal.{EntryRefusal}
use Rattle.entry.specs.declared.EntryRefusal.TheVariants.{OutOfRange, TooManyLabels}
use Rattle.entries.specs.Table.{entry_or}
use Rattle.labels.specs.Sets.{limit, no_label, passing}
use Rattle.partition_laws.specs.Partition.{partition, WithinLimits}

-- how many classes there are
abbrev pub class_count : ℕ
class_count = 8

-- the class of label e; 0 where there is no such label
abbrev pub class_at : List ℕ → ℕ → ℕ
class_at cs e = entry_or cs 0 e

-- the limit of class i
abbrev pub limit_at : List ℕ → ℕ → ℕ
limit_at ls i = entry_or ls 0 i

-- the sets within 1..n that have no more labels of a class than its limit
abbrev pub limited : List ℕ → List ℕ → ℕ → Bool
limited cs ls = partition (length cs) class_count (class_at cs) (limit_at ls)

-- the same in words
abbrev pub InLimits : List ℕ → List ℕ → ℕ → Type 0
InLimits cs ls = WithinLimits (length cs) class_count (class_at cs) (limit_at ls)

-- the labels of class i
abbrev pub class_set : List ℕ → ℕ → ℕ
class_set cs i = passing (λ e. nat_eq (class_at cs e) i) (length cs)

-- the words ms hold the labels of the classes 1, 2, .. in turn
abbrev pub Masked : List ℕ → List ℕ → Type 0
Masked cs ms = (i : ℕ) → i < class_count → slice_index ms i ≡ class_set cs (suc i)

-- no limit is above the number of labels that there can be
abbrev pub limits_fit : List ℕ → Bool
limits_fit ls = no_label (λ i. ltb limit (limit_at ls i)) class_count

-- whether a label of class c may join n others, and else why not: a wrong class comes before a label too many
abbrev pub admitted : ℕ → ℕ → Result (Unit {0}) EntryRefusal
admitted n c = cond (nat_le 1 c && nat_le c class_count) (cond (nat_lt n limit) (Ok tt) (Err TooManyLabels)) (Err OutOfRange)
