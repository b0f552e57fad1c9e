use Rattle.std.proofs.Common.{◌<◌, List, ℕ, subst, sym, ◌∙◌}
use Rattle.crossbeam_utils.specs.Seq.{cell_view}
use Rattle.ff_sched.specs.laws.Words.{state_of}
use Rattle.ff_sched.specs.Unchoked.{Unchokes}
use Rattle.ff_sched.specs.declared.routes.Routes.{Routes}
use Rattle.ff_sched.proofs.Histories.{Later, later_looks, later_adds, later_known, later_spare, later_routes, later_stays, refuses}
use Rattle.ff_sched.proofs.cell.grant_as.Goals as goal

pub look-words-requires-clause-opened : goal.look-words-requires-clause-opened
look-words-requires-clause-opened g c = later_known _ _ c.loop.invariant.1 c.requires.opened

pub look-words-requires-clause-share : goal.look-words-requires-clause-share
look-words-requires-clause-share g c = later_spare _ _ c.loop.invariant.1 c.requires.share

pub add-requires-clause-opened : goal.add-requires-clause-opened
add-requires-clause-opened g c = later_known _ _ (later_looks _ _ _ _ c.loop.invariant.1 c.look-words.ensures.seen) c.requires.opened

pub add-requires-clause-share : goal.add-requires-clause-share
add-requires-clause-share g c = later_spare _ _ (later_looks _ _ _ _ c.loop.invariant.1 c.look-words.ensures.seen) c.requires.share

pub add-requires-clause-few : goal.add-requires-clause-few
add-requires-clause-few g c = c.look-words.ensures.seen.few (later_spare _ _ c.loop.invariant.1 c.requires.share)

pub add-requires-clause-may : goal.add-requires-clause-may
add-requires-clause-may g c =
    let v = cell_view c.args.seat.now in let u = cell_view c.look-words.new.seat in let words : List ℕ = c.look-words.result in
    let l : Later v u = later_looks v (cell_view c.loop.seat) u words c.loop.invariant.1 c.look-words.ensures.seen in
    subst (λ (r : Routes). (c.args.source < r.sources) × Unchokes r (state_of words) c.args.source) (c.requires.routes.0 ∙ sym (later_routes v u l))
    (c.requires.source, c.unchokes.ensures.yes c.if-not-unchokes.false)

pub returns-then-add-clause-answer : goal.returns-then-add-clause-answer
returns-then-add-clause-answer g c =
    let v = cell_view c.args.seat.now in let u = cell_view c.look-words.new.seat in let words : List ℕ = c.look-words.result in
    later_adds g.E.Named.event v u (cell_view c.add.new.seat) _ (later_looks v (cell_view c.loop.seat) u words c.loop.invariant.1 c.look-words.ensures.seen) (c.add.ensures.yes c.if-add.true)

pub loop-preserved : goal.loop-preserved
loop-preserved g c =
    let v = cell_view c.args.seat.now in let u = cell_view c.look-words.new.seat in let words : List ℕ = c.look-words.result in
    let l : Later v u = later_looks v (cell_view c.loop.seat) u words c.loop.invariant.1 c.look-words.ensures.seen in
    (c.add.ensures.cell ∙ c.look-words.ensures.cell ∙ c.loop.invariant.0, later_stays v u (cell_view c.add.new.seat) l (c.add.ensures.no c.if-add.false))

pub returns-then-not-unchokes-clause-answer : goal.returns-then-not-unchokes-clause-answer
returns-then-not-unchokes-clause-answer g c =
    let v = cell_view c.args.seat.now in let u = cell_view c.look-words.new.seat in let words : List ℕ = c.look-words.result in
    refuses v (cell_view c.loop.seat) u words c.args.source c.loop.invariant.1 c.look-words.ensures.seen (λ un. c.unchokes.ensures.no c.if-not-unchokes.true (subst (λ (r : Routes). Unchokes r (state_of words) c.args.source) (sym c.requires.routes.0) un))
