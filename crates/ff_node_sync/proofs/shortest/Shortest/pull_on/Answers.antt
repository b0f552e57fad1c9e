use Rattle.std.proofs.Common.{◌≡◌, ◌≢◌, subst, refl}
use Rattle.ff_stream.specs.declared.item.Item.{Item}
use Rattle.ff_stream.specs.declared.item.Item.TheVariants.{End, Broken}
use Rattle.ff_stream.specs.Stream.{still_open, whole, broken}
use Rattle.ff_filter.specs.declared.after.After.TheVariants.{More, Whole, Broke}
use Rattle.ff_filter.specs.Views.{Gave}
use Rattle.ff_node_sync.specs.Lines.{lines_of, lanes_of, line_at, next_fate, view_of}
use Rattle.ff_node_sync.proofs.Moving.{fate_from, waits_open, gave_closing}
use Rattle.ff_node_sync.proofs.shortest.Shortest.pull_on.Goals as goal

pub returns-in-Some-More-clause-waits : goal.returns-in-Some-More-clause-waits
returns-in-Some-More-clause-waits c e =
    let ss = c.args.self.now.sides.items in
    let p = c.args.p in
    waits_open (lanes_of ss) (lines_of ss) p (fate_from c.next.result More (next_fate (lines_of ss) p (line_at (lines_of ss) p).waits) c.next.ensures
    (cc (c.in-Some-More.is, c.in-Some-More.field-0-is)))

pub returns-in-Some-Whole-clause-gives : goal.returns-in-Some-Whole-clause-gives
returns-in-Some-Whole-clause-gives c x e =
    let ss = c.args.self.now.sides.items in
    let ns = c.close.new.self.sides.items in
    let p = c.args.p in
    let fate = fate_from c.next.result Whole (next_fate (lines_of ss) p (line_at (lines_of ss) p).waits) c.next.ensures
    (cc (c.in-Some-Whole.is, c.in-Some-Whole.field-0-is)) in
    let closed : whole ≢ still_open = λ k. cc in
    let is : End ≡ x = cc (e) in
    subst (λ (y : Item). Gave (view_of ss) (view_of ns) p y) is (gave_closing ss ns p End whole c.close.ensures.lanes c.close.ensures.closed c.requires.going fate
    closed (λ t. refl) refl)

pub returns-in-Some-Broke-clause-gives : goal.returns-in-Some-Broke-clause-gives
returns-in-Some-Broke-clause-gives c x e =
    let ss = c.args.self.now.sides.items in
    let ns = c.close-in-Some-Broke.new.self.sides.items in
    let p = c.args.p in
    let fate = fate_from c.next.result Broke (next_fate (lines_of ss) p (line_at (lines_of ss) p).waits) c.next.ensures
    (cc (c.in-Some-Broke.is, c.in-Some-Broke.field-0-is)) in
    let closed : broken ≢ still_open = λ k. cc in
    let is : Broken ≡ x = cc (e) in
    subst (λ (y : Item). Gave (view_of ss) (view_of ns) p y) is (gave_closing ss ns p Broken broken c.close-in-Some-Broke.ensures.lanes
    c.close-in-Some-Broke.ensures.closed c.requires.going fate closed (λ t. refl) refl)
