use Rattle.std.proofs.Common.{◌≡◌, ◌∙◌, ◌+◌, Bool, Ok, true, false, sym, ap, subst}
use Rattle.ff_stream.specs.declared.item.Item.{Item}
use Rattle.ff_stream.specs.declared.item.Item.TheVariants.{End, Broken}
use Rattle.ff_node_demux.proofs.gens.GenSteps.{gen_going, GenGives, gen_frame, gen_long, gen_end}
use Rattle.ff_node_demux.proofs.gens.generator.GenMachine.pull.Goals as goal

pub returns-in_default-clause-gives : goal.returns-in_default-clause-gives
returns-in_default-clause-gives g c = λ x e past d out.
    let a = c.args.self.now in
    let left = g.G.FrameSource.left in
    let new = c.next_frame.new.self in
    let now = gen_going (left a.frames) a.head a.given a.ticket a.ended a.long past c.if-not-self.false c.if-self.false d.0 in
    let none = c.in_ok-frame.ensures.over.0 (ap Ok c.in_default.is) in
    let r = gen_end (left a.frames) (left new) a.head a.given past c.args._port c.requires none now.1 in
    let same : End ≡ x = cc (e) in
    let made = subst (λ (y : Item). GenGives (left new) a.head a.given true a.long past c.args._port y) same
    (subst (λ (b : Bool). GenGives (left new) a.head a.given true b past c.args._port End) (sym now.0) r) in
    ((made.0, d.1), made.1, made.2)

pub returns-then-is_long-clause-gives : goal.returns-then-is_long-clause-gives
returns-then-is_long-clause-gives g c = λ x e past d out.
    let a = c.args.self.now in
    let left = g.G.FrameSource.left in
    let new = c.next_frame.new.self in
    let now = gen_going (left a.frames) a.head a.given a.ticket a.ended a.long past c.if-not-self.false c.if-self.false d.0 in
    let next = c.in_ok-frame.ensures.gives c.in-Some.frame (ap Ok c.in-Some.is) in
    let r = gen_long (left a.frames) (left new) a.head a.given past c.args._port c.in-Some.frame c.requires next (sym c.is_long.ensures.is ∙ c.if-is_long.true) now.1 in
    let same : Broken ≡ x = cc (e) in
    let made = subst (λ (y : Item). GenGives (left new) a.head a.given true true past c.args._port y) same r in
    ((made.0, d.1), made.1, made.2)

pub returns-clause-gives : goal.returns-clause-gives
returns-clause-gives g c = λ x e past d out.
    let a = c.args.self.now in
    let left = g.G.FrameSource.left in
    let new = c.next_frame.new.self in
    let now = gen_going (left a.frames) a.head a.given a.ticket a.ended a.long past c.if-not-self.false c.if-self.false d.0 in
    let next = c.in_ok-frame.ensures.gives c.in-Some.frame (ap Ok c.in-Some.is) in
    let r = gen_frame (left a.frames) (left new) a.head a.given past c.args._port c.in-Some.frame c.requires next (sym c.is_long.ensures.is ∙ c.if-is_long.false) now.1 in
    let same : c.in-Some.frame ≡ x = cc (e) in
    let made = subst (λ (y : Item). GenGives (left new) a.head (a.given + 1) a.ended a.long past c.args._port y) same
    (subst (λ (b : Bool). GenGives (left new) a.head (a.given + 1) b a.long past c.args._port c.in-Some.frame) (sym c.if-self.false)
    (subst (λ (b : Bool). GenGives (left new) a.head (a.given + 1) false b past c.args._port c.in-Some.frame) (sym now.0) r)) in
    ((made.0, d.1), made.1, made.2)
