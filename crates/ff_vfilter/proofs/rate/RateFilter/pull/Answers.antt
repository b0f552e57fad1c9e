use Rattle.std.proofs.Common.{◌≡◌, ◌∙◌, sym, false, true}
use Rattle.ff_filter.proofs.Moves.{same_trans, same_gave, gave_same, same_waits}
use Rattle.ff_vfilter.specs.laws.RateViews.{rate_view}
use Rattle.ff_vfilter.proofs.Rating.{gave_there, waits_there}
use Rattle.ff_vfilter.proofs.rate.RateFilter.pull.Goals as goal

pub returns-in-Err-clause-unchanged : goal.returns-in-Err-clause-unchanged
returns-in-Err-clause-unchanged c =
    let first = c.args.self.now in
    let old = c.loop-error.self in
    let new = c.step.new.self in
    let u = rate_view first.head first.given first.showing first.input.queue.items first.input.after first.ended first.stopped in
    let v = rate_view old.head old.given old.showing old.input.queue.items old.input.after old.ended old.stopped in
    let w = rate_view new.head new.given new.showing new.input.queue.items new.input.after new.ended new.stopped in
    same_trans u v w c.loop-error.invariant.same c.in-Err.ensures.unchanged

pub returns-in-Ok-Gave-clause-gives : goal.returns-in-Ok-Gave-clause-gives
returns-in-Ok-Gave-clause-gives c x e =
    let first = c.args.self.now in
    let old = c.loop-error.self in
    let new = c.step.new.self in
    let u = rate_view first.head first.given first.showing first.input.queue.items first.input.after first.ended first.stopped in
    let v = rate_view old.head old.given old.showing old.input.queue.items old.input.after old.ended old.stopped in
    let last = c.settle.new.self in
    let w = rate_view new.head new.given new.showing new.input.queue.items new.input.after new.ended new.stopped in
    let z = rate_view last.head last.given last.showing last.input.queue.items last.input.after last.ended last.stopped in
    let gave = same_gave u v w c.args._port x c.requires.wanted c.loop-error.invariant.same (gave_there v w c.args._port x c.requires.there (c.step.ensures.gave x (cc (e, c.in-Ok-Gave.is)))) in
    gave_same u w z c.args._port x c.requires.wanted gave c.settle.ensures.same

pub returns-in-Ok-Waits-clause-waits : goal.returns-in-Ok-Waits-clause-waits
returns-in-Ok-Waits-clause-waits c e =
    let first = c.args.self.now in
    let old = c.loop-error.self in
    let new = c.step.new.self in
    let u = rate_view first.head first.given first.showing first.input.queue.items first.input.after first.ended first.stopped in
    let v = rate_view old.head old.given old.showing old.input.queue.items old.input.after old.ended old.stopped in
    let w = rate_view new.head new.given new.showing new.input.queue.items new.input.after new.ended new.stopped in
    same_waits u v w c.args._port c.requires.wanted c.loop-error.invariant.same (waits_there v w c.args._port c.requires.there (c.step.ensures.waits (cc (c.in-Ok-Waits.is))))

pub loop-error-preserved : goal.loop-error-preserved
loop-error-preserved c =
    let first = c.args.self.now in
    let old = c.loop-error.self in
    let new = c.step.new.self in
    let u = rate_view first.head first.given first.showing first.input.queue.items first.input.after first.ended first.stopped in
    let v = rate_view old.head old.given old.showing old.input.queue.items old.input.after old.ended old.stopped in
    let w = rate_view new.head new.given new.showing new.input.queue.items new.input.after new.ended new.stopped in
    record { same = same_trans u v w c.loop-error.invariant.same (c.step.ensures.same (cc (c.in-Ok-On.is))); going = c.step.ensures.on (cc (c.in-Ok-On.is)) }

pub returns-in-Err-clause-cleared : goal.returns-in-Err-clause-cleared
returns-in-Err-clause-cleared c h e =
    let on : false ≡ true = sym (c.in-Err.ensures.unchanged.ended 0 ∙ c.loop-error.invariant.going) ∙ e in
    cc

pub returns-in-Ok-Waits-clause-cleared : goal.returns-in-Ok-Waits-clause-cleared
returns-in-Ok-Waits-clause-cleared c h e =
    let waits = c.step.ensures.waits (cc (c.in-Ok-Waits.is)) in
    let on : false ≡ true = sym (waits.same.ended 0 ∙ c.loop-error.invariant.going) ∙ e in
    cc
