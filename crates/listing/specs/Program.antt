-- The program: from the bytes that a reader has to the bytes that a writer holds.
use Rattle.std.specs.Prelude.{◌≡◌, ℕ, List, length, take, Option, Result, MatchResult, Ok, Err}
use Rattle.std.specs.Io.KnownBytes.{Appends, Keeps}
use Rattle.intake.specs.Taking.{Lost, Taken}
use Rattle.labels.specs.Sets.{full}
use Rattle.measure.specs.declared.value.Shift.{Shift}
use Rattle.tie_rule.specs.declared.closest.Closest.{Closest}
use Rattle.survey.specs.View.{wrong_of}
use Rattle.survey_laws.specs.Check.{Outcome, accepted, refused, check}
use Rattle.survey_laws.specs.Sheets.{Lawful, Sheet}
use Rattle.walk_laws.specs.Steps.{State, begun}
use Rattle.survey_walk.specs.Opened.{survey_setting, closest}
use Rattle.outlet.specs.Sending.{Broken}
use Rattle.listing.specs.declared.program.Answer.{Answer}
use Rattle.listing.specs.declared.program.Answer.TheVariants.{Listed, Refused}
use Rattle.listing.specs.declared.program.Failure.{Failure}
use Rattle.listing.specs.declared.program.Failure.TheVariants.{Reading, Writing}
use Rattle.listing.specs.Texts.{list_text, refused_line}
use Rattle.listing.specs.Hands.{AreBases, Hands}

-- how many bytes of an input are read
abbrev pub most_input : ℕ
most_input = 4096

-- ---- the text that answers an input

-- the state in which a survey's walk begins: from the empty set, and with all labels active
abbrev pub beginning : Sheet → State Closest Shift
beginning s = begun (survey_setting s) 0 (full 64) closest

-- these are the sets on the lines of a survey's list: those that its walk hands out, in order, until it is finished
abbrev pub OnLines : Sheet → List ℕ → Type 0
OnLines s sets = Hands (survey_setting s) (beginning s) sets

-- by what comes of the input: the list of a survey, or a refusal alone
abbrev pub TextOf : Outcome → List ℕ → Type 0
TextOf (accepted s) text = (sets : List ℕ) × OnLines s sets × (text ≡ list_text (survey_setting s) sets)
TextOf (refused w row) text = text ≡ refused_line w row

abbrev pub TextFor : List ℕ → List ℕ → Type 0
TextFor input text = TextOf (check input) text

-- an input has one such text and no other
abbrev pub OneText : Type 0
OneText = (input one other : List ℕ) → TextFor input one → TextFor input other → one ≡ other

-- the sets on the lines are the bases of the survey's graph
abbrev pub LinesAreBases : Type 0
LinesAreBases = (s : Sheet) (sets : List ℕ) → Lawful s → OnLines s sets → AreBases (survey_setting s) sets

-- ---- what the program did

-- the answer says what came of an input of n bytes
abbrev pub Says : Outcome → ℕ → Answer → Type 0
Says (accepted s) n Listed = Unit {0}
Says (accepted s) n (Refused why length) = ⊥
Says (refused w row) n Listed = ⊥
Says (refused w row) n (Refused why length) = (wrong_of why.fault ≡ w) × (why.row ≡ row) × (length ≡ n)

-- an input's text was appended and the answer says what came of it, or it broke off in that text
pub record Answers {E : Type 0} (old new : Option (List ℕ)) (r : Result Answer E) (input : List ℕ) : Type 0 where
  pub text : List ℕ
  pub is_text : TextFor input text
  pub cases : MatchResult r (λ a. Says (check input) (length input) a × Appends old new text) (λ _. Broken old new text)

-- of a reader an input was taken, which stands at the front of the buffer, and with its text was done so
pub record Answered (left rest : Option (List ℕ)) (buffer : List ℕ) (Did : List ℕ → List ℕ → Type 0) : Type 0 where
  pub input : List ℕ
  pub taken : Taken left rest most_input input
  pub kept : take (length input) buffer ≡ input
  pub text : List ℕ
  pub is_text : TextFor input text
  pub did : Did input text

-- the reader had the bytes `left` and has `rest`, and the writer held `old` and holds `new`
abbrev pub Does : Option (List ℕ) → Option (List ℕ) → List ℕ → Option (List ℕ) → Option (List ℕ) → Result Answer Failure → Type 0
Does left rest buffer old new (Ok a) = Answered left rest buffer (λ input text. Says (check input) (length input) a × Appends old new text)
Does left rest buffer old new (Err (Writing e)) = Answered left rest buffer (λ _ text. Broken old new text)
Does left rest buffer old new (Err (Reading e)) = Lost left rest buffer × Keeps old new
