-- What the classes have room for, and what they hold.
use Rattle.std.specs.Prelude.{ℕ, List, map}
use Rattle.partition.specs.declared.room.Room.{Room}

-- the limits of the classes 1, 2, ..
abbrev pub limits_by_class : List Room → List ℕ
limits_by_class = map (λ r. r.limit)

-- the labels of the classes 1, 2, .., each as a word
abbrev pub labels_by_class : List Room → List ℕ
labels_by_class = map (λ r. r.labels)
