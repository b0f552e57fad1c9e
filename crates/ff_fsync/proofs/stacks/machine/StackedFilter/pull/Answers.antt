use Rattle.std.proofs.Common.{◌≡◌, ℕ, arith, refl, subst, sym}
use Rattle.ff_stream.specs.declared.item.Item.{Item}
use Rattle.ff_stream.specs.declared.item.Lane.TheVariants.{Frames}
use Rattle.ff_filter.specs.Views.{View, Gave}
use Rattle.ff_fsync.specs.Sides.{sync_view}
use Rattle.ff_fsync.specs.laws.Syncs.{sides_of}
use Rattle.ff_fsync.specs.stacks.Bases.{told_view}
use Rattle.ff_fsync.specs.laws.stacks.Limits.{limits_view}
use Rattle.ff_fsync.specs.stacks.Shapes.{stacked}
use Rattle.ff_fsync.specs.laws.stacks.Stacked.{seen}
use Rattle.ff_fsync.proofs.StacksLemmas.Limiting.{same_on, waits_on, gave_on}
use Rattle.ff_fsync.proofs.StacksLemmas.Telling.{told_same, told_waits, told_gave}
use Rattle.ff_fsync.proofs.stacks.machine.StackedFilter.pull.Goals as goal

pub returns-in-Err-clause-unchanged : goal.returns-in-Err-clause-unchanged
returns-in-Err-clause-unchanged c =
    let m = c.args.self.now in
    let us = m.units.items in
    let a = m.sync in
    let b = c.pull.new.self in
    let old : View = sync_view (stacked a.stack.shape) a.shortest (Frames a.head) a.from (sides_of a.inputs.items) a.ended a.stopped in
    let new : View = sync_view (stacked b.stack.shape) b.shortest (Frames b.head) b.from (sides_of b.inputs.items) b.ended b.stopped in
    let v : View = told_view us old in
    let w : View = told_view us new in
    same_on (Frames a.head) (Frames b.head) m.before v w refl refl (told_same us old new c.in-Err.ensures.unchanged)

pub returns-in-Ok-None-clause-waits : goal.returns-in-Ok-None-clause-waits
returns-in-Ok-None-clause-waits c e =
    let m = c.args.self.now in
    let us = m.units.items in
    let a = m.sync in
    let b = c.pull.new.self in
    let old : View = sync_view (stacked a.stack.shape) a.shortest (Frames a.head) a.from (sides_of a.inputs.items) a.ended a.stopped in
    let new : View = sync_view (stacked b.stack.shape) b.shortest (Frames b.head) b.from (sides_of b.inputs.items) b.ended b.stopped in
    let v : View = told_view us old in
    let w : View = told_view us new in
    waits_on (Frames a.head) (Frames b.head) m.before v w refl refl c.args.port (told_waits us old new c.args.port (c.pull.ensures.waits (cc (c.in-Ok-None.is))))

pub returns-in-Ok-Some-clause-gives : goal.returns-in-Ok-Some-clause-gives
returns-in-Ok-Some-clause-gives c x e =
    let m = c.args.self.now in
    let us = m.units.items in
    let a = m.sync in
    let b = c.pull.new.self in
    let item = c.in-Ok-Some.item in
    let old : View = sync_view (stacked a.stack.shape) a.shortest (Frames a.head) a.from (sides_of a.inputs.items) a.ended a.stopped in
    let new : View = sync_view (stacked b.stack.shape) b.shortest (Frames b.head) b.from (sides_of b.inputs.items) b.ended b.stopped in
    let v : View = told_view us old in
    let w : View = told_view us new in
    let u : View = seen c.pass.new.self in
    let port : c.args.port ≡ 0 = omega (arith, c.requires.there) in
    let is : c.pass.result ≡ x = cc (e) in
    let gave : Gave v w 0 item = told_gave us old new 0 item (subst (λ (q : ℕ). Gave old new q item) port (c.pull.ensures.gives item (cc (c.in-Ok-Some.is)))) in
    let passed : Gave (limits_view (Frames b.head) m.before v) u 0 c.pass.result = c.pass.ensures v refl gave in
    let there : Gave (limits_view (Frames a.head) m.before v) u 0 c.pass.result =
    gave_on (Frames a.head) (Frames b.head) m.before v w refl refl u 0 item c.pass.result gave passed in
    subst (λ (q : ℕ). Gave (limits_view (Frames a.head) m.before v) u q x) (sym port) (subst (λ (y : Item). Gave (limits_view (Frames a.head) m.before v) u 0 y) is there)
