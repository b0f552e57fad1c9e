use Rattle.std.proofs.Common.{◌≡◌, ◌∙◌, arith, subst, ◌+◌, suc}
use Rattle.ff_stream.specs.declared.item.Item.{Item}
use Rattle.ff_stream.specs.declared.item.Item.TheVariants.{Video}
use Rattle.ff_stream.specs.declared.item.Lane.TheVariants.{Frames}
use Rattle.ff_filter.specs.Views.{View, Gave}
use Rattle.ff_fsync.specs.Sides.{sync_view}
use Rattle.ff_fsync.specs.laws.Syncs.{sides_of, sides_sound}
use Rattle.ff_filter.proofs.Moves.{same_gave}
use Rattle.ff_fsync.proofs.Showing.{shown_gave}
use Rattle.ff_fsync.proofs.framesync.Framesync.pull_on.Goals as goal

pub returns-in_default-clause-gives : goal.returns-in_default-clause-gives
returns-in_default-clause-gives g c x e = c.close.ensures.gives x (cc (e))

pub returns-in-Ok-clause-gives : goal.returns-in-Ok-clause-gives
returns-in-Ok-clause-gives g c x e =
    let old = c.args.self.now in
    let new = c.show.new.self in
    let t = c.in-Some.time in
    let is : Video c.in-Ok.frame ≡ x = cc (e) in
    let u : View = sync_view (g.S.Stack.shows old.stack) old.shortest (Frames old.head) old.from (sides_of old.inputs.items) old.ended old.stopped in
    let v : View = sync_view (g.S.Stack.shows new.stack) new.shortest (Frames new.head) new.from (sides_of new.inputs.items) new.ended new.stopped in
    let next : suc t ≡ t + 1 = omega arith in
    let gave = shown_gave (g.S.Stack.shows new.stack) new.shortest (Frames new.head) (sides_of new.inputs.items) (sides_sound (Frames new.head) new.inputs.items) new.from t new.ended new.stopped c.in-Ok.frame
    (c.show.ensures.ended ∙ c.requires.going) c.show.ensures.due c.in-Ok.ensures.shows in
    let there = subst (λ n. Gave v (sync_view (g.S.Stack.shows new.stack) new.shortest (Frames new.head) n (sides_of new.inputs.items) new.ended new.stopped) 0 (Video c.in-Ok.frame)) next gave in
    subst (λ (y : Item). Gave u (sync_view (g.S.Stack.shows new.stack) new.shortest (Frames new.head) (t + 1) (sides_of new.inputs.items) new.ended new.stopped) 0 y) is
    (same_gave u v (sync_view (g.S.Stack.shows new.stack) new.shortest (Frames new.head) (t + 1) (sides_of new.inputs.items) new.ended new.stopped) 0 (Video c.in-Ok.frame) c.requires.wanted c.show.ensures.same there)
