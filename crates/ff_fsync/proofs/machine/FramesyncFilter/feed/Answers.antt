use Rattle.std.proofs.Common.{ap, ◌∙◌, sym, subst, List}
use Rattle.ff_stream.specs.declared.item.Lane.TheVariants.{Frames}
use Rattle.ff_filter.specs.Made.{is_over}
use Rattle.ff_filter.specs.Views.{View, Same}
use Rattle.ff_fsync.specs.Sides.{Side, coming, sync_view}
use Rattle.ff_fsync.specs.laws.Syncs.{side_of, sides_of}
use Rattle.ff_filter.specs.Joins.{before}
use Rattle.ff_filter.proofs.Moves.{same_self}
use Rattle.ff_fsync.proofs.Showing.{fed_by}
use Rattle.ff_fsync.proofs.Finding.{side_there}
use Rattle.ff_fsync.proofs.Taken.{replaced, set_same, ports_there}
use Rattle.ff_fsync.proofs.machine.FramesyncFilter.feed.Goals as goal

pub feed-requires : goal.feed-requires
feed-requires g c =
    let s = c.args.self.now in
    record { going = ap (λ (i : Side). is_over i.after) (sym (side_there (Frames s.head) s.inputs.items c.args.port c.index_mut.result.now (ports_there s.inputs.items c.args.port c.requires.there) c.index_mut.ensures.value)) ∙ c.requires.open_before }

pub returns-in-Ok-clause-fed : goal.returns-in-Ok-clause-fed
returns-in-Ok-clause-fed g c =
    let s = c.args.self.now in
    let new = c.feed.new.self in
    let lt = ports_there s.inputs.items c.args.port c.requires.there in
    let was = side_there (Frames s.head) s.inputs.items c.args.port c.index_mut.result.now lt c.index_mut.ensures.value in
    fed_by (g.S.Stack.shows s.stack) s.shortest (Frames s.head) s.from (sides_of s.inputs.items) _ c.args.port (side_of new) c.args.item s.ended s.stopped
    (replaced (Frames s.head) s.inputs.items c.args.port new c.index_mut.result.now lt c.index_mut.ensures.value (ap (λ h. Frames h) c.feed.ensures.head))
    c.requires.open_before c.in-Ok.ensures.shut (λ t. c.in-Ok.ensures.taken t ∙ ap (λ (i : Side). coming i (before c.args.item t)) (sym was))

pub returns-in-Err-clause-unchanged : goal.returns-in-Err-clause-unchanged
returns-in-Err-clause-unchanged g c =
    let s = c.args.self.now in
    let same = set_same s.inputs.items c.args.port c.feed.new.self c.index_mut.result.now (ports_there s.inputs.items c.args.port c.requires.there) c.index_mut.ensures.value c.in-Err.ensures.unchanged in
    let v : View = sync_view (g.S.Stack.shows s.stack) s.shortest (Frames s.head) s.from (sides_of s.inputs.items) s.ended s.stopped in
    subst (λ (ss : List Side). Same v (sync_view (g.S.Stack.shows s.stack) s.shortest (Frames s.head) s.from ss s.ended s.stopped)) (sym same) (same_self v)

pub pass_over-requires-clause-there : goal.pass_over-requires-clause-there
pass_over-requires-clause-there g c = ports_there c.args.self.now.inputs.items c.args.port c.requires.there
