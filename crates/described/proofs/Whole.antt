-- The lines of a matroid, part by part.
use Rattle.std.proofs.Common.{◌≡◌, ℕ, List, ◌++◌, codes, Option, Result, subst, sym, ◌∙◌}
use Rattle.outlet.specs.Sending.{Broken, Holding, Passes}
use Rattle.outlet.proofs.Pieces.{holding_all, goes_on, goes_last, stops_in}
use Rattle.matroid.specs.declared.interface.Matroid.{Ghosts as MatroidOf}
use Rattle.tie_rule.specs.declared.rule.TieRule.{Ghosts as TieRuleOf}
use Rattle.measure.specs.declared.interface.Measure.{Ghosts as MeasureOf}
use Rattle.measure.specs.declared.value.Shift.{Shift}
use Rattle.walk.specs.States.{setting, setting_of, state_of}
use Rattle.walk.specs.declared.state.Walk.{Walk}
use Rattle.walk_laws.specs.Settings.{Setting}
use Rattle.walk_laws.specs.Steps.{State, begun, several}
use Rattle.described.specs.Files.{file_text, outcome, swaps_of}
use Rattle.described.specs.Texts.{list_text}
use Rattle.described.specs.Walks.{rank_text, total_text, whole_text}

-- what is told of a walk that begins, by what it was made of
pub by_parts : {P R M V X : Type 0} {matroids : MatroidOf P} {rules : TieRuleOf R} {measures : MeasureOf M V} (F : Setting R V → State R V → X)
    (walk : Walk P R M V matroids rules measures) {m : P} {n : M} {s : State R V} → walk.matroid ≡ m → walk.measure ≡ n → state_of walk ≡ s
    → F (setting_of matroids rules measures walk) (state_of walk) ≡ F (setting matroids rules measures m n) s
by_parts {matroids = matroids} {rules = rules} {measures = measures} F walk a b e i = F (setting matroids rules measures (a i) (b i)) (e i)

pub by_beginning : {P R M V X : Type 0} {matroids : MatroidOf P} {rules : TieRuleOf R} {measures : MeasureOf M V} (F : Setting R V → State R V → X)
    (walk : Walk P R M V matroids rules measures) {m m' : P} {n : M} (offered opened : ℕ) (rule : R)
    → walk.matroid ≡ m → m ≡ m' → walk.measure ≡ n → state_of walk ≡ begun (setting matroids rules measures m n) offered opened rule
    → F (setting_of matroids rules measures walk) (state_of walk) ≡ F (setting matroids rules measures m' n) (begun (setting matroids rules measures m' n) offered opened rule)
by_beginning {matroids = matroids} {rules = rules} {measures = measures} F walk {n = n} offered opened rule a aa b e =
    by_parts F walk a b e ∙ λ i. F (setting matroids rules measures (aa i) n) (begun (setting matroids rules measures (aa i) n) offered opened rule)

-- of two walks that begin alike
pub alike : {P R M V X : Type 0} {matroids : MatroidOf P} {rules : TieRuleOf R} {measures : MeasureOf M V} (F : Setting R V → State R V → X)
    (walk other : Walk P R M V matroids rules measures) {m m' : P} {n n' : M} (offered opened : ℕ) (rule : R)
    → walk.matroid ≡ m → other.matroid ≡ m' → m ≡ m' → walk.measure ≡ n → other.measure ≡ n' → n ≡ n'
    → state_of walk ≡ begun (setting matroids rules measures m n) offered opened rule → state_of other ≡ begun (setting matroids rules measures m' n') offered opened rule
    → F (setting_of matroids rules measures walk) (state_of walk) ≡ F (setting_of matroids rules measures other) (state_of other)
alike {matroids = matroids} {rules = rules} {measures = measures} F walk other {m = m} {m' = m'} {n = n} {n' = n'} offered opened rule a b ab c d cd e f =
    by_parts F walk a c e
    ∙ (λ i. F (setting matroids rules measures (ab i) (cd i)) (begun (setting matroids rules measures (ab i) (cd i)) offered opened rule))
    ∙ sym (by_parts F other b d f)

-- the whole text of a walk that begins, by what the walk was made of
pub told : {P R M : Type 0} {matroids : MatroidOf P} {rules : TieRuleOf R} {measures : MeasureOf M Shift} (Q : List ℕ → Type 0)
    (walk : Walk P R M Shift matroids rules measures) {m : P} {n : M} {s : State R Shift} (steps rank room : ℕ) {lamps other : ℕ}
    → walk.matroid ≡ m → walk.measure ≡ n → state_of walk ≡ s → lamps ≡ other
    → Q (whole_text (setting_of matroids rules measures walk) (state_of walk) steps rank lamps room) → Q (whole_text (setting matroids rules measures m n) s steps rank other room)
told {matroids = matroids} {rules = rules} {measures = measures} Q walk steps rank room {lamps = lamps} a b e l =
    subst Q (λ i. whole_text (setting matroids rules measures (a i) (b i)) (e i) steps rank (l i) room)

module _ {R : Type 0} (w : Setting R Shift) (s : State R Shift) (steps rank lamps room : ℕ) where
  abbrev after_total : List ℕ
  after_total = file_text (outcome room w.n s.present (swaps_of (several w steps s).0)) (several w steps s).2.total lamps ++ codes "\n"

  abbrev after_rank : List ℕ
  after_rank = (total_text (several w steps s).2.count (several w steps s).2.total lamps ++ codes "\n") ++ after_total

  abbrev after_list : List ℕ
  after_list = (rank_text rank ++ codes "\n") ++ after_rank

  module _ {a : Option (List ℕ)} (before : List ℕ) where
    pub at_list : {b : Option (List ℕ)} → Broken a b (before ++ list_text w steps s) → Broken a b (before ++ whole_text w s steps rank lamps room)
    at_list k = stops_in before (list_text w steps s) after_list (holding_all a (before ++ whole_text w s steps rank lamps room)) k

    module _ {b : Option (List ℕ)} (held : List ℕ) (k : Holding a b held (before ++ list_text w steps s)) where
      past_list : Holding a b (held ++ after_list) (before ++ whole_text w s steps rank lamps room)
      past_list = goes_on before (list_text w steps s) after_list (holding_all a (before ++ whole_text w s steps rank lamps room)) held k

      pub at_rank : {c : Option (List ℕ)} → Broken b c (held ++ (rank_text rank ++ codes "\n")) → Broken a c (before ++ whole_text w s steps rank lamps room)
      at_rank l = stops_in held (rank_text rank ++ codes "\n") after_rank past_list l

      module _ {c : Option (List ℕ)} (more : List ℕ) (l : Holding b c more (held ++ (rank_text rank ++ codes "\n"))) where
        past_rank : Holding a c (more ++ after_rank) (before ++ whole_text w s steps rank lamps room)
        past_rank = goes_on held (rank_text rank ++ codes "\n") after_rank past_list more l

        pub at_total : {d : Option (List ℕ)} → Broken c d (more ++ (total_text (several w steps s).2.count (several w steps s).2.total lamps ++ codes "\n")) → Broken a d (before ++ whole_text w s steps rank lamps room)
        at_total m = stops_in more (total_text (several w steps s).2.count (several w steps s).2.total lamps ++ codes "\n") after_total past_rank m

        pub at_file : {E : Type 0} {d : Option (List ℕ)} (e : Option (List ℕ)) (rest after : List ℕ) (r : Result (Unit {0}) E)
            → Holding c d rest (more ++ (total_text (several w steps s).2.count (several w steps s).2.total lamps ++ codes "\n"))
            → Passes d e r after (rest ++ after_total) → Passes a e r after (before ++ whole_text w s steps rank lamps room)
        at_file e rest after r m f =
            goes_last e rest after_total after r (goes_on more (total_text (several w steps s).2.count (several w steps s).2.total lamps ++ codes "\n") after_total past_rank rest m) f
