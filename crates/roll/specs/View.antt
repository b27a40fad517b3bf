-- What a roll holds.
use Rattle.std.specs.Prelude.{◌≡◌, ℕ, ◌+◌, List, [], ◌∷◌, ◌++◌, length, take, drop, slice_set}
use Rattle.roll.specs.declared.lent.Roll.{Roll}

module _ {T : Type 0} where
  -- the entries
  abbrev pub filled : Roll T → List T
  filled r = take r.used r.room.now

  -- the buffer from place n on
  abbrev pub beyond : ℕ → Roll T → List T
  beyond n r = drop n r.room.now

  -- how many entries there can be
  abbrev pub size : Roll T → ℕ
  size r = length r.room.now

  -- one entry more, in the first free place
  abbrev pub Appends : Roll T → Roll T → T → Type 0
  Appends old new entry = (filled new ≡ filled old ++ entry ∷ [])
      × (new.room.now ≡ slice_set old.room.now old.used entry)
      × (new.used ≡ old.used + 1)
