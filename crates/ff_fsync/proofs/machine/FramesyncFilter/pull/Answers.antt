use Rattle.std.proofs.Common.{◌≡◌, ◌∙◌, sym, true, false}
use Rattle.ff_filter.proofs.Moves.{same_trans, gave_same}
use Rattle.ff_fsync.specs.laws.Syncs.{seen}
use Rattle.ff_fsync.proofs.Showing.{gave_there, waits_there}
use Rattle.ff_fsync.proofs.machine.FramesyncFilter.pull.Goals as goal

pub returns-in-Ok-clause-gives : goal.returns-in-Ok-clause-gives
returns-in-Ok-clause-gives g c x e =
    let u = seen (g.S.Stack.shows c.args.self.now.stack) c.args.self.now in
    let v = seen (g.S.Stack.shows c.pull_on.new.self.stack) c.pull_on.new.self in
    let w = seen (g.S.Stack.shows c.settle.new.self.stack) c.settle.new.self in
    gave_there u w c.args._port x c.requires.there (gave_same u v w 0 x c.requires.wanted (c.pull_on.ensures.gives x (cc (e, c.in-Ok.is))) c.settle.ensures.same)

pub returns-in-Ok-clause-waits : goal.returns-in-Ok-clause-waits
returns-in-Ok-clause-waits g c e =
    let u = seen (g.S.Stack.shows c.args.self.now.stack) c.args.self.now in
    let v = seen (g.S.Stack.shows c.pull_on.new.self.stack) c.pull_on.new.self in
    let w = seen (g.S.Stack.shows c.settle.new.self.stack) c.settle.new.self in
    let waits = c.pull_on.ensures.waits (cc (e, c.in-Ok.is)) in
    waits_there u w c.args._port c.requires.there (record { same = same_trans u v w waits.same c.settle.ensures.same; nothing_left = waits.nothing_left })

pub returns-in-Err-clause-cleared : goal.returns-in-Err-clause-cleared
returns-in-Err-clause-cleared g c h e =
    let on : false ≡ true = sym (c.in-Err.ensures.unchanged.ended 0 ∙ c.if-self.false) ∙ e in
    cc
