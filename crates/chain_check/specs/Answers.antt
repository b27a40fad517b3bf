-- The answer to a chain file, from the bytes that are read to the bytes that are written.
use Rattle.std.specs.Prelude.{◌≡◌, ℕ, ◌+◌, ◌<◌, ◌≤◌, List, ◌++◌, length, codes, Option, Result, Ok, Err}
use Rattle.std.specs.Io.KnownBytes.{Appends, Keeps}
use Rattle.intake.specs.Taking.{Taken}
use Rattle.outlet.specs.Sending.{Broken}
use Rattle.chain_lists.specs.declared.Spot.{Spot}
use Rattle.chain_lists.specs.Faults.{Fault, Refused as IsRefused, ended}
use Rattle.chain_lists.specs.Lists.{ChainList, Holds}
use Rattle.chain_reader.specs.Text.{fault_text}
use Rattle.chain_check.specs.declared.answering.Answer.{Answer}
use Rattle.chain_check.specs.declared.answering.Answer.TheVariants.{Accepted, Refused}
use Rattle.chain_check.specs.declared.checking.Failure.{Failure}
use Rattle.chain_check.specs.declared.checking.Failure.TheVariants.{Reading, TooLong, NoMemory, Writing}
use Rattle.chain_check.specs.Lines.{lines_of}

-- ---- the text

-- the file holds a list: its records, all of them, and that it is accepted
pub record Accepting (file text : List ℕ) : Type 0 where
  pub list : ChainList
  pub holds : Holds file list
  pub whole : text ≡ lines_of (ended list) ++ codes "accepted\n"

-- the file is refused: the records of its lawful beginning, and the fault
pub record Refusing (file text : List ℕ) : Type 0 where
  pub fault : Fault
  pub at : Spot
  pub refused : IsRefused file fault at
  pub whole : text ≡ lines_of refused.beginning ++ (fault_text fault at ++ codes "\n")

-- the answer to the file, and its text
abbrev pub IsText : List ℕ → Answer → List ℕ → Type 0
IsText file Accepted text = Accepting file text
IsText file Refused text = Refusing file text

-- there is no other answer, and no other text
abbrev pub IsOnly : List ℕ → Answer → List ℕ → Type 0
IsOnly file a text = (other : Answer) (words : List ℕ) → IsText file other words → (other ≡ a) × (words ≡ text)

-- ---- the program

-- how many bytes a file has at most
abbrev pub most_input : ℕ
most_input = 4096

-- of the reader's bytes all were taken, as a file, and the text of its answer was dealt with so
pub record Answered (old new : Option (List ℕ)) (Did : Answer → List ℕ → Type 0) : Type 0 where
  pub file : List ℕ
  pub taken : Taken old new (most_input + 1) file
  pub fits : length file ≤ most_input
  pub answer : Answer
  pub text : List ℕ
  pub is_text : IsText file answer text
  pub only : IsOnly file answer text
  pub did : Did answer text

-- more bytes than a file has were taken of the reader
pub record Exceeds (old new : Option (List ℕ)) : Type 0 where
  pub bytes : List ℕ
  pub taken : Taken old new (most_input + 1) bytes
  pub more : most_input < length bytes

-- what the program did: the reader's bytes were i and are j, the writer's were o and are p
abbrev pub Does : Option (List ℕ) → Option (List ℕ) → Option (List ℕ) → Option (List ℕ) → Result Answer Failure → Type 0
Does i j o p (Ok a) = Answered i j (λ answer text. (a ≡ answer) × Appends o p text)
Does i j o p (Err (Writing e)) = Answered i j (λ _ text. Broken o p text)
Does i j o p (Err TooLong) = Exceeds i j × Keeps o p
Does i j o p (Err (Reading e)) = Keeps o p
Does i j o p (Err NoMemory) = Keeps o p
