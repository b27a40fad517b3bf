-- The law of the whole life of a walk.
use Rattle.std.specs.Prelude.{◌≡◌, ℕ, ◌+◌, ◌-◌, ◌^◌, ◌<◌, ◌≤◌, true, false, not, ◌↔◌, List, [], ◌∷◌, ◌++◌, length, take, Some, None, ◌≢◌}
use Rattle.labels.specs.Sets.{has, full, swap, Subset, TopDifference}
use Rattle.labels.specs.Families.{In, Once}
use Rattle.matroid_laws.specs.Matroids.{Base, bases}
use Rattle.walk_laws.specs.declared.Exchange.{Exchange}
use Rattle.walk_laws.specs.declared.Stop.TheVariants.{Full, Finished}
use Rattle.walk_laws.specs.Settings.{Setting, value_of, total_of}
use Rattle.walk_laws.specs.Steps.{State, Several, step, several, begun}
use Rattle.walk_laws.specs.Lives.{Life, Runs, sets_of}
use Rattle.walk_laws.specs.AlgorithmG.{g_step, g_steps, g_of, g_of_step}

-- t is s with exactly one label gone and one come
pub record Exchanged (s t : ℕ) : Type 0 where
  pub gone : ℕ
  pub come : ℕ
  pub was : has s gone ≡ true
  pub left : has t gone ≡ false
  pub was_not : has s come ≡ false
  pub entered : has t come ≡ true
  pub others : (e : ℕ) → (e ≢ gone) → (e ≢ come) → has t e ≡ has s e

-- the exchange x leads from s to t
pub record Leads (s : ℕ) (x : Exchange) (t : ℕ) : Type 0 where
  pub positive : 1 ≤ x.low
  pub lower : x.low < x.high
  pub high_was : has s x.high ≡ not x.came
  pub low_was : has s x.low ≡ x.came
  pub made : t ≡ swap s x.high x.low

-- each exchange leads from the set before it to the set beside it
abbrev pub Follows : ℕ → List (Exchange × ℕ) → Type 0
Follows s [] = Unit {0}
Follows s (x ∷ xs) = Leads s x.0 x.1 × Follows x.1 xs

-- each set of a list comes from the one before it by one exchange
abbrev pub Linked : ℕ → List ℕ → Type 0
Linked s [] = Unit {0}
Linked s (t ∷ ts) = Exchanged s t × Linked t ts

abbrev pub Stepwise : List ℕ → Type 0
Stepwise [] = Unit {0}
Stepwise (t ∷ ts) = Linked t ts

-- the same list in another order
pub data Reordered : List ℕ → List ℕ → Type 0 where
  none : Reordered [] []
  under : {x : ℕ} {xs ys : List ℕ} → Reordered xs ys → Reordered (x ∷ xs) (x ∷ ys)
  over : {x y : ℕ} {xs : List ℕ} → Reordered (x ∷ (y ∷ xs)) (y ∷ (x ∷ xs))
  chain : {xs ys zs : List ℕ} → Reordered xs ys → Reordered ys zs → Reordered xs zs

-- the highest label of difference of b from t is in a
abbrev pub Ahead : ℕ → ℕ → ℕ → Type 0
Ahead t a b = (d : ℕ) × TopDifference b t d × (has a d ≡ true)

module _ {R V : Type 0} (w : Setting R V) where
  -- b is a base still to come: its highest label of difference from the present base is active
  abbrev pub ToCome : State R V → ℕ → Type 0
  ToCome s b = Base w.n w.independent b × Ahead s.present s.active b

  -- two lists, one after the other
  abbrev pub continued : Several w → Several w → Several w
  continued a b = (a.0 ++ b.0, b.1, b.2)

  -- a list with k free entries, seen after its first j: so far it is a list with j, and it goes on as a list with k - j
  pub record Inside (s : State R V) (k j : ℕ) : Type 0 where
    pub so_far : (several w j s).0 ≡ take j (several w k s).0
    pub not_ended : (several w j s).1 ≡ Full
    pub onward : several w k s ≡ continued (several w j s) (several w (k - j) (several w j s).2)

  -- a list with k free entries, where F is still to come
  pub record Listed (s : State R V) (F : List ℕ) (k : ℕ) : Type 0 where
    -- its sets are the next ones, as many as there is room for
    pub sets : sets_of (several w k s).0 ≡ take k F
    -- each beside the exchange that led to it
    pub exchanges : Follows s.present (several w k s).0
    pub finishes : ((several w k s).1 ≡ Finished) ↔ (length F < k)
    pub ended : (several w k s).1 ≡ Finished → step w (several w k s).2 ≡ (None, (several w k s).2)
    pub inside : (j : ℕ) → j ≤ length (several w k s).0 → Inside s k j

  -- H was handed out and the walk is in the state s, whatever was active at the beginning
  pub record Always (H : List ℕ) (s : State R V) : Type 0 where
    -- only bases are handed out, and none twice
    pub based : (b : ℕ) → In b H → Base w.n w.independent b
    pub once : Once H
    -- two handed out one after the other differ by one label gone and one come
    pub stepwise : Stepwise H
    -- the present set is the last one handed out
    pub last : (G : List ℕ) × (H ≡ G ++ (s.present ∷ []))
    pub counted : s.count ≡ length H
    pub valued : s.value ≡ value_of w s.present
    pub totalled : (G : List ℕ) → Reordered H G → s.total ≡ total_of w G
    pub few : s.count + s.active ≤ 2 ^ w.n
    -- an advance that answers finished changes nothing, and one that answers an exchange has made it
    pub still : (t : State R V) → step w s ≡ (None, t) → t ≡ s
    pub leads : (x : Exchange) (t : State R V) → step w s ≡ (Some x, t) → Leads s.present x t.present
    -- further advances alone reach finished, and hand out the bases still to come, each once
    pub future : (F : List ℕ) × Runs w s F × Once F × ((b : ℕ) → In b F ↔ ToCome s b)
    pub lists : (k : ℕ) → Listed s future.0 k

  -- the same where all of 1..n was active at the beginning
  pub record Whole (H : List ℕ) (s : State R V) : Type 0 where
    -- an advance answers finished exactly when every base was handed out before it
    pub finishes : (step w s ≡ (None, s)) ↔ ((b : ℕ) → Base w.n w.independent b → In b H)
    -- then those handed out are the bases, each once, and count and total are theirs
    pub all : step w s ≡ (None, s) → Reordered H (bases w.n w.independent)
    pub count_all : step w s ≡ (None, s) → s.count ≡ length (bases w.n w.independent)
    pub total_all : step w s ≡ (None, s) → s.total ≡ total_of w (bases w.n w.independent)
    -- a list that stopped finished has handed out the last base
    pub list_all : (k : ℕ) → (several w k s).1 ≡ Finished → (b : ℕ) → Base w.n w.independent b → In b (H ++ sets_of (several w k s).0)
    -- an advance does what Algorithm G does next
    pub as_g : g_step w (g_of H s) ≡ g_of_step H (step w s)

  -- the law of the walk that begins with the offered set, the opened labels and the rule in the state r, over all its lives
  pub record LawOfLife (offered opened : ℕ) (r : R) : Type 0 where
    pub always : (H : List ℕ) (s : State R V) → Life w (begun w offered opened r) H s → Always H s
    pub whole : Subset (full w.n) opened → (H : List ℕ) (s : State R V) → Life w (begun w offered opened r) H s → Whole H s
    -- every point inside a list is the end of a life too, so all of this holds there
    pub inside : (H : List ℕ) (s : State R V) → Life w (begun w offered opened r) H s → (k j : ℕ) → j ≤ length (several w k s).0
        → Life w (begun w offered opened r) (H ++ sets_of (take j (several w k s).0)) (several w j s).2

  -- beside it: with all of 1..n opened, k advances leave what Algorithm G leaves after k steps
  abbrev pub SameAsG : ℕ → ℕ → R → Type 0
  SameAsG offered opened r = Subset (full w.n) opened → (k : ℕ)
      → g_steps w k (g_of ((begun w offered opened r).present ∷ []) (begun w offered opened r))
      ≡ g_of ((begun w offered opened r).present ∷ sets_of (several w k (begun w offered opened r)).0) (several w k (begun w offered opened r)).2
