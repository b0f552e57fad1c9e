use Rattle.ff_stream.specs.declared.item.Lane.TheVariants.{Frames}
use Rattle.ff_fsync.specs.laws.Syncs.{sides_of}
use Rattle.ff_fsync.proofs.Showing.{idle_stopped}
use Rattle.ff_fsync.proofs.machine.FramesyncFilter.stop.Goals as goal

pub returns-clause-stopped : goal.returns-clause-stopped
returns-clause-stopped g c =
    let s = c.args.self.now in
    let e = c.let_go.ensures in
    rw (e.stack, e.head, e.shortest, e.from, e.ended)
    (idle_stopped (g.S.Stack.shows s.stack) s.shortest (Frames s.head) s.from (sides_of s.inputs.items) (sides_of c.let_go.new.self.inputs.items) e.emptied.lanes
    e.emptied.shut s.ended s.stopped c.args._port c.requires.there)
