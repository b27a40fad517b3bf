-- The classes that the code holds.
use Rattle.std.specs.Prelude.{◌≡◌, ℕ, List, [], ◌∷◌, ◌++◌}
use Rattle.entries.specs.Table.{values}
use Rattle.partition.specs.Rooms.{limits_by_class}
use Rattle.partition.specs.declared.classes.Partition.{Partition}

-- the classes of the labels 1, 2, ..
abbrev pub classes : Partition → List ℕ
classes p = values p.classes

-- the limits of the classes 1, 2, ..
abbrev pub limits : Partition → List ℕ
limits p = limits_by_class p.rooms

-- q is p and a label of class c, the next one
pub record Extended (p : Partition) (c : ℕ) (q : Partition) : Type 0 where
  pub limits_are : limits q ≡ limits p
  pub classes_are : classes q ≡ classes p ++ (c ∷ [])

-- q holds what p holds
pub record Unchanged (p q : Partition) : Type 0 where
  pub classes_are : q.classes ≡ p.classes
  pub rooms : q.rooms ≡ p.rooms
