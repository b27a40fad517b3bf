use Rattle.std.proofs.Common.{◌≡◌, ℕ, ◌<◌, [], ◌∷◌, ◌++◌, Some, None, refl, ap, ◌∙◌, subst, add-zero, sym, arith}
use Rattle.roll.specs.View.{filled, size}
use Rattle.walk_laws.specs.Settings.{Setting}
use Rattle.walk_laws.specs.Steps.{step}
use Rattle.walk_laws.specs.declared.Stop.TheVariants.{Full}
use Rattle.walk.specs.Lists.{ListedOn}
use Rattle.walk.specs.States.{setting, setting_of, state_of}
use Rattle.walk.proofs.Listing.{so_far_none, so_far_more, listed_full, beyond_more, listed_finished}
use Rattle.walk.proofs.state.Walk.list.Goals as goal

pub loop-appended-init : goal.loop-appended-init
loop-appended-init g c = (
  record { matroid = refl; measure = refl },
  sym (add-zero _),
  sym (add-zero _),
  refl,
  refl,
  refl,
  so_far_none (setting_of g.P.Matroid g.R.TieRule g.M.Measure c.args.self.now) g.E.Entry.entry (state_of c.args.self.now) c.args.roll.now,
)

pub loop-appended-preserved : goal.loop-appended-preserved
loop-appended-preserved g c =
    let inv = c.loop-appended.invariant in let told = c.in-Some.ensures in
    let roll = c.loop-appended.roll in let s = c.loop-appended.self in let first = c.args.self.now in
    let room : roll.used < size roll = omega (arith, c.loop-appended-test.true, c.free-free.ensures, inv.2, inv.4) in
    let more = c.append.ensures.added room in
    let same : setting_of g.P.Matroid g.R.TieRule g.M.Measure s ≡ setting_of g.P.Matroid g.R.TieRule g.M.Measure first =
    λ i. setting g.P.Matroid g.R.TieRule g.M.Measure (inv.0.matroid i) (inv.0.measure i) in (
      record { matroid = told.keeps.matroid ∙ inv.0.matroid; measure = told.keeps.measure ∙ inv.0.measure },
      omega (arith, told.cases, inv.1),
      omega (arith, more.2, inv.2),
      c.append.ensures.beyond ∙ beyond_more roll.used _ _ _ more.2 inv.3,
      c.append.ensures.size ∙ inv.4,
      c.append.ensures.lender ∙ inv.5,
      so_far_more (setting_of g.P.Matroid g.R.TieRule g.M.Measure first) g.E.Entry.entry (state_of first) c.args.roll.now c.loop-appended.appended (state_of s) roll inv.6
          c.in-Some.exchange (state_of c.advance.new.self) c.append.new.self
          (subst (λ (w : Setting g.row.R.Denot g.row.M-Value.Denot). step w (state_of s) ≡ (Some c.in-Some.exchange, state_of c.advance.new.self)) same told.step)
          (more.0 ∙ ap (λ (x : g.row.E.Denot). filled roll ++ (x ∷ [])) c.entry.ensures),
    )

pub returns-in_default-clause-listed : goal.returns-in_default-clause-listed
returns-in_default-clause-listed g c =
    let inv = c.loop-appended.invariant in let s = c.loop-appended.self in let first = c.args.self.now in
    let same : setting_of g.P.Matroid g.R.TieRule g.M.Measure s ≡ setting_of g.P.Matroid g.R.TieRule g.M.Measure first =
    λ i. setting g.P.Matroid g.R.TieRule g.M.Measure (inv.0.matroid i) (inv.0.measure i) in
    listed_finished (setting_of g.P.Matroid g.R.TieRule g.M.Measure first) g.E.Entry.entry (state_of first) c.args.roll.now
    c.loop-appended.appended (state_of s) c.loop-appended.roll inv.6 (state_of c.advance.new.self)
    (subst (λ (w : Setting g.row.R.Denot g.row.M-Value.Denot). step w (state_of s) ≡ (None, state_of c.advance.new.self)) same c.in_default.ensures.step)
    (omega (arith, c.loop-appended-test.true, c.free-free.ensures))

pub returns-clause-listed : goal.returns-clause-listed
returns-clause-listed g c =
    let w = setting_of g.P.Matroid g.R.TieRule g.M.Measure c.args.self.now in let roll = c.loop-appended.roll in
    let all : c.loop-appended.appended ≡ c.free-free.result = omega (arith, c.loop-appended-test.false, c.loop-appended.auto.appended-end) in
    subst (λ (k : ℕ). ListedOn w g.E.Entry.entry (state_of c.args.self.now) c.args.roll.now k Full (state_of c.loop-appended.self) roll) all
    (listed_full w g.E.Entry.entry (state_of c.args.self.now) c.args.roll.now c.loop-appended.appended (state_of c.loop-appended.self) roll
    c.loop-appended.invariant.6 (all ∙ c.free-free.ensures))
