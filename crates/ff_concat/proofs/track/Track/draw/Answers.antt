use Rattle.std.proofs.Common.{◌<◌, ◌≤◌, ℕ, refl, arith, length, subst}
use Rattle.ff_stream.specs.declared.item.Item.{Item}
use Rattle.ff_concat.specs.Concats.{begin_in}
use Rattle.ff_concat.specs.laws.Moves.{Gave}
use Rattle.ff_concat.proofs.Draws.{told_gave, zeros_made}
use Rattle.ff_concat.proofs.track.Track.draw.Goals as goal

near : (tick time : ℕ) → begin_in tick time ≤ 9223372036854775807
near tick time = omega arith

pub overflow_add-self : goal.overflow_add-self
overflow_add-self c =
    let t = c.args.self.now in
    let p = c.in-Ok-Some.ensures.some c.in-Ok-Some.frame (cc (c.in-Ok-Some.field-0-is)) in
    let s = t.shift in
    let n = near t.tick t.begin in
    omega (arith, p.1, s, n)

pub returns-in-Ok-None-clause-gives : goal.returns-in-Ok-None-clause-gives
returns-in-Ok-None-clause-gives c x e = c.next.ensures.gives x (cc (e))

pub returns-in-Ok-Some-clause-gives : goal.returns-in-Ok-Some-clause-gives
returns-in-Ok-Some-clause-gives c x e =
    let t = c.args.self.now in
    let rs = c.args.reaches.now in
    let ts = c.args.ticks.now in
    let q = c.args.number in
    let p = c.in-Ok-Some.ensures.some c.in-Ok-Some.frame (cc (c.in-Ok-Some.field-0-is)) in
    let inside : t.current < length t.backlogs.items = (let l = t.there in omega (arith, l)) in
    subst (λ (y : Item). Gave t c.give.new.self ts q rs y) (cc (e))
    (told_gave ts q t _ c.give.new.self rs c.in-Ok-Some.frame c.give.result c.requires.open refl refl refl c.give.ensures.told
    (λ ext. zeros_made ts q t rs inside c.in-Ok-Some.frame p.0 p.2 ext))
