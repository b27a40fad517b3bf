use Rattle.std.proofs.Common.{rules, ◌-◌, bit_and, sym, ap, ◌∙◌, arith}
use Rattle.std.specs.List.{find, list_all}
use Rattle.labels.proofs.Upwards.{among, first_among, labels_among, rest_among}
use Rattle.label_words.proofs.Ascending.{listed_to}
use Rattle.walk.proofs.Turns.{partnered_at, found_at, passed, moves, none_moves, movable_of_all, none_of_all, part, rest}
use Rattle.walk.proofs.candidates.movable.Goals as goal

pub loop-label-init : goal.loop-label-init
loop-label-init g c =
    let m = c.args.matroid.now in let active = bit_and c.args.active (18446744073709551615 - c.alike.result) in let few = g.met.P.Matroid.few m in let n = g.P.Matroid.size m in
    let all = c.into_iter-label-iterator.ensures.into_iter_gives ∙ c.labels_of-label-items.ensures ∙ listed_to active n _ _ (omega arith) c.size.ensures c.full_to.ensures in
    (ap (find (partnered_at (g.P.Matroid.independent m) c.args.present)) (sym all), ap (list_all (among n)) all ∙ labels_among active n n (omega arith), c.requires.known)

pub candidates-found-requires : goal.candidates-found-requires
candidates-found-requires g c =
    let m = c.args.matroid.now in let active = bit_and c.args.active (18446744073709551615 - c.alike.result) in let n = g.P.Matroid.size m in let few = g.met.P.Matroid.few m in
    let a = first_among n c.in-Some.label c.next.new.self (ap (list_all (among n)) (sym c.in-Some.ensures.steps) ∙ c.loop-label.invariant.1) in
    record { label = (a.0, omega (arith, a.1)); known = c.loop-label.invariant.2 }

pub loop-label-preserved : goal.loop-label-preserved
loop-label-preserved g c =
    let m = c.args.matroid.now in let active = bit_and c.args.active (18446744073709551615 - c.alike.result) in let f = g.P.Matroid.independent m in let t = c.args.present in let n = g.P.Matroid.size m in
    let steps = c.in-Some.ensures.steps in (
      c.loop-label.invariant.0 ∙ ap (find (partnered_at f t)) steps ∙ passed f t c.in-Some.label _ c.next.new.self c.candidates-found.ensures.found c.if-found-ne0.false,
      rest_among n c.in-Some.label c.next.new.self (ap (list_all (among n)) (sym steps) ∙ c.loop-label.invariant.1),
      c.candidates-found.ensures.known,
    )

pub returns-then-found-ne0-clause-found : goal.returns-then-found-ne0-clause-found
returns-then-found-ne0-clause-found g c =
    let m = c.args.matroid.now in let active = bit_and c.args.active (18446744073709551615 - c.alike.result) in let f = g.P.Matroid.independent m in let t = c.args.present in let n = g.P.Matroid.size m in
    movable_of_all n f t c.args.active active (part f t c.args.active c.alike.result c.ranges.active.fits (search rules)) (rest f t c.args.active c.alike.result c.ranges.active.fits (search rules) c.alike.ensures) _ _
    (moves f t active n c.in-Some.label c.candidates-found.result
    (c.loop-label.invariant.0 ∙ ap (find (partnered_at f t)) c.in-Some.ensures.steps ∙ found_at f t c.in-Some.label _ c.next.new.self c.candidates-found.ensures.found c.if-found-ne0.true)
    c.candidates-found.ensures.found)

pub returns-clause-found : goal.returns-clause-found
returns-clause-found g c =
    let m = c.args.matroid.now in let active = bit_and c.args.active (18446744073709551615 - c.alike.result) in let f = g.P.Matroid.independent m in let t = c.args.present in
    none_of_all (g.P.Matroid.size m) f t c.args.active active (part f t c.args.active c.alike.result c.ranges.active.fits (search rules)) (rest f t c.args.active c.alike.result c.ranges.active.fits (search rules) c.alike.ensures)
    (none_moves f t active (g.P.Matroid.size m) (c.loop-label.invariant.0 ∙ ap (find (partnered_at f t)) c.in-None.ensures.steps.0))
