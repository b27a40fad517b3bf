-- What the parts of the program do.
use Rattle.std.specs.Prelude.{◌≡◌, ℕ, ◌+◌, ◌<◌, List, ◌++◌, length, Option, Result, MatchResult}
use Rattle.measure.specs.declared.value.Shift.{Shift}
use Rattle.walk_laws.specs.declared.Exchange.{Exchange}
use Rattle.walk_laws.specs.declared.Stop.{Stop}
use Rattle.walk_laws.specs.declared.Stop.TheVariants.{Full}
use Rattle.walk_laws.specs.Settings.{Setting}
use Rattle.walk_laws.specs.Steps.{State}
use Rattle.walk_laws.specs.Lives.{Call, listed, sets_of}
use Rattle.outlet.specs.Sending.{Broken, Holding, Sends}
use Rattle.listing.specs.Texts.{lines_text, list_text}
use Rattle.listing.specs.Hands.{Ended, Hands}

module _ {R V : Type 0} (w : Setting R V) where
  -- a list led the walk from s to t, and the lines of its sets come after what the page held; or it broke off in them
  pub record Batch {E : Type 0} (old new : Option (List ℕ)) (before after : List ℕ) (r : Result Stop E) (s t : State R V) : Type 0 where
    pub room : ℕ
    pub found : List (Exchange × ℕ)
    pub stop : Stop
    pub call : Call w s (listed room found stop) (sets_of found) t
    pub counted : t.count ≡ s.count + length found
    pub full : stop ≡ Full → 0 < length found
    pub cases : MatchResult r
        (λ e. (e ≡ stop) × Holding old new after (before ++ lines_text (s.count + 1) (sets_of found)))
        (λ _. Broken old new (before ++ lines_text (s.count + 1) (sets_of found)))

  -- the lines of all sets that the walk hands out from s on come after what the page held, and the walk is finished in the state t; or it
  -- broke off in them
  pub record Chains {E : Type 0} (old new : Option (List ℕ)) (before after : List ℕ) (r : Result (Unit {0}) E) (s t : State R V) : Type 0 where
    pub sets : List ℕ
    pub hands : Hands w s sets
    pub cases : MatchResult r
        (λ _. Holding old new after (before ++ lines_text 1 sets) × Ended w s t sets)
        (λ _. Broken old new (before ++ lines_text 1 sets))

-- the whole list of the walk from s was appended, or it broke off in it
pub record WholeList {R E : Type 0} (w : Setting R Shift) (old new : Option (List ℕ)) (r : Result (Unit {0}) E) (s : State R Shift) : Type 0 where
  pub sets : List ℕ
  pub hands : Hands w s sets
  pub sends : Sends old new r (list_text w sets)
