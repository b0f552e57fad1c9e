use Rattle.std.proofs.Common.{◌≡◌, ap, ◌∙◌, sym, refl, subst, true}
use Rattle.ff_stream.specs.declared.item.Item.{Item}
use Rattle.ff_stream.specs.declared.item.Item.TheVariants.{End, Broken}
use Rattle.ff_stream.specs.declared.item.Lane.TheVariants.{Frames}
use Rattle.ff_filter.specs.Made.{mark_after}
use Rattle.ff_filter.specs.Views.{Gave}
use Rattle.ff_fsync.specs.Sides.{sync_view}
use Rattle.ff_fsync.specs.laws.Syncs.{sides_of, sides_sound}
use Rattle.ff_fsync.proofs.Showing.{closed_gave, none_waits}
use Rattle.ff_fsync.proofs.framesync.Framesync.close.Goals as goal

pub returns-in-More-clause-waits : goal.returns-in-More-clause-waits
returns-in-More-clause-waits g c e =
    let s = c.args.self.now in
    none_waits (g.S.Stack.shows s.stack) s.shortest (Frames s.head) (sides_of s.inputs.items) (sides_sound (Frames s.head) s.inputs.items) s.from s.ended s.stopped c.requires.none (sym c.mark.ensures ∙ ap mark_after c.in-More.is)

pub returns-in-Whole-clause-gives : goal.returns-in-Whole-clause-gives
returns-in-Whole-clause-gives g c x e =
    let s = c.args.self.now in
    let is : End ≡ x = cc (e) in
    subst (λ (y : Item). Gave (sync_view (g.S.Stack.shows s.stack) s.shortest (Frames s.head) s.from (sides_of s.inputs.items) s.ended s.stopped) (sync_view (g.S.Stack.shows s.stack) s.shortest (Frames s.head) s.from (sides_of s.inputs.items) true s.stopped) 0 y) is
    (closed_gave (g.S.Stack.shows s.stack) s.shortest (Frames s.head) (sides_of s.inputs.items) (sides_sound (Frames s.head) s.inputs.items) s.from s.ended s.stopped End refl c.requires.going c.requires.none (sym c.mark.ensures ∙ ap mark_after c.in-Whole.is))

pub returns-in-Broke-clause-gives : goal.returns-in-Broke-clause-gives
returns-in-Broke-clause-gives g c x e =
    let s = c.args.self.now in
    let is : Broken ≡ x = cc (e) in
    subst (λ (y : Item). Gave (sync_view (g.S.Stack.shows s.stack) s.shortest (Frames s.head) s.from (sides_of s.inputs.items) s.ended s.stopped) (sync_view (g.S.Stack.shows s.stack) s.shortest (Frames s.head) s.from (sides_of s.inputs.items) true s.stopped) 0 y) is
    (closed_gave (g.S.Stack.shows s.stack) s.shortest (Frames s.head) (sides_of s.inputs.items) (sides_sound (Frames s.head) s.inputs.items) s.from s.ended s.stopped Broken refl c.requires.going c.requires.none (sym c.mark.ensures ∙ ap mark_after c.in-Broke.is))
