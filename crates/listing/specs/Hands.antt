-- All sets that a walk hands out.
use Rattle.std.specs.Prelude.{◌≡◌, ℕ, List, [], ◌∷◌, ◌++◌, codes, length, None}
use Rattle.labels.specs.Families.{Once}
use Rattle.lines.specs.Text.{line_text}
use Rattle.matroid_laws.specs.Matroids.{bases}
use Rattle.walk_laws.specs.Settings.{Setting, total_of}
use Rattle.walk_laws.specs.Steps.{State, begun, step}
use Rattle.walk_laws.specs.Lives.{Life, Runs}
use Rattle.walk_laws.specs.Law.{LawOfLife, Reordered, Stepwise}
use Rattle.listing.specs.Texts.{lines_text}

module _ {R V : Type 0} (w : Setting R V) where
  -- a walk that begins in the state s hands out these sets, in order: its start, and what advances alone hand out until it is finished
  pub record Hands (s : State R V) (sets : List ℕ) : Type 0 where
    pub others : List ℕ
    pub runs : Runs w s others
    pub whole : sets ≡ s.present ∷ others

  -- s is a state in which a walk begins, and the law of its life holds
  pub record Begun (s : State R V) : Type 0 where
    pub offered : ℕ
    pub opened : ℕ
    pub rule : R
    pub begins : s ≡ begun w offered opened rule
    pub law : LawOfLife w offered opened rule

  -- the walk that began in the state s has handed out all of these sets and is in the state t
  pub record Ended (s t : State R V) (sets : List ℕ) : Type 0 where
    pub hands : Hands s sets
    pub life : Life w s sets t
    pub finished : step w t ≡ (None, t)

  -- the sets are the bases of the matroid, as the test for a base finds them without a walk, each once
  pub record AreBases (sets : List ℕ) : Type 0 where
    pub all : Reordered sets (bases w.n w.independent)
    pub once : Once sets
    -- each comes from the one before it by one exchange
    pub stepwise : Stepwise sets
    -- they are as many, and their total is the same
    pub count : length sets ≡ length (bases w.n w.independent)
    pub total : total_of w sets ≡ total_of w (bases w.n w.independent)
    -- the number on the last one's line is the number of bases
    pub before : List ℕ
    pub last : ℕ
    pub parted : sets ≡ before ++ last ∷ []
    pub numbered : lines_text 1 sets ≡ lines_text 1 before ++ (line_text (length (bases w.n w.independent)) last ++ codes "\n")
