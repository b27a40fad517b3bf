-- What was taken in of what a reader had.
use Rattle.std.specs.Prelude.{◌≡◌, ℕ, ◌<◌, ◌≤◌, List, length, take, Option, IfSome}
use Rattle.std.specs.Io.KnownBytes.{Consumes, IsAtEnd}

-- of a reader, these bytes were taken in, with room for so many: the first that it had, and all of them if there was room left
pub record Taken (old new : Option (List ℕ)) (room : ℕ) (input : List ℕ) : Type 0 where
  pub front : IfSome old (λ bytes. input ≡ take room bytes)
  -- the reader has lost them, and no others
  pub consumed : Consumes old new input
  pub most : length input ≤ room
  pub all : length input < room → IsAtEnd new

-- the reader has lost some bytes, which stand at the front of the buffer
pub record Lost (old new : Option (List ℕ)) (buffer : List ℕ) : Type 0 where
  pub number : ℕ
  pub within : number ≤ length buffer
  pub consumed : Consumes old new (take number buffer)
