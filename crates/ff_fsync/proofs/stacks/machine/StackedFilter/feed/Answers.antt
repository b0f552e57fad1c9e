use Rattle.std.proofs.Common.{◌≡◌, ◌∙◌, ap, refl, subst}
use Rattle.ff_stream.specs.declared.item.Item.{Item}
use Rattle.ff_stream.specs.declared.item.Lane.TheVariants.{Frames}
use Rattle.ff_filter.specs.Views.{View, Fed}
use Rattle.ff_fsync.specs.Sides.{sync_view}
use Rattle.ff_fsync.specs.laws.Syncs.{sides_of}
use Rattle.ff_fsync.specs.stacks.Bases.{item_in, units_at, told_view}
use Rattle.ff_fsync.specs.stacks.Shapes.{stacked}
use Rattle.ff_fsync.proofs.StacksLemmas.Limiting.{fed_on, same_on}
use Rattle.ff_fsync.proofs.StacksLemmas.Telling.{told_fed, told_same}
use Rattle.ff_fsync.proofs.stacks.machine.StackedFilter.feed.Goals as goal

pub returns-in-Ok-clause-fed : goal.returns-in-Ok-clause-fed
returns-in-Ok-clause-fed c =
    let m = c.args.self.now in
    let us = m.units.items in
    let a = m.sync in
    let b = c.feed.new.self in
    let old : View = sync_view (stacked a.stack.shape) a.shortest (Frames a.head) a.from (sides_of a.inputs.items) a.ended a.stopped in
    let new : View = sync_view (stacked b.stack.shape) b.shortest (Frames b.head) b.from (sides_of b.inputs.items) b.ended b.stopped in
    let told : c.item_in.result ≡ item_in (units_at us c.args.port) c.args.item = c.item_in.ensures ∙ ap (λ n. item_in n c.args.item) c.units_of-units.ensures in
    let fed : Fed old new c.args.port (item_in (units_at us c.args.port) c.args.item) = subst (λ (y : Item). Fed old new c.args.port y) told c.in-Ok.ensures.fed in
    fed_on (Frames a.head) (Frames b.head) m.before (told_view us old) (told_view us new) refl refl c.args.port c.args.item (told_fed us old new c.args.port c.args.item fed)

pub returns-in-Err-clause-unchanged : goal.returns-in-Err-clause-unchanged
returns-in-Err-clause-unchanged c =
    let m = c.args.self.now in
    let us = m.units.items in
    let a = m.sync in
    let b = c.feed.new.self in
    let old : View = sync_view (stacked a.stack.shape) a.shortest (Frames a.head) a.from (sides_of a.inputs.items) a.ended a.stopped in
    let new : View = sync_view (stacked b.stack.shape) b.shortest (Frames b.head) b.from (sides_of b.inputs.items) b.ended b.stopped in
    same_on (Frames a.head) (Frames b.head) m.before (told_view us old) (told_view us new) refl refl (told_same us old new c.in-Err.ensures.unchanged)
