use Rattle.std.proofs.Common.{◌≡◌, inl, refl, subst}
use Rattle.ff_stream.specs.declared.item.Item.{Item}
use Rattle.ff_filter.specs.Views.{Gave, breaks}
use Rattle.ff_node_filter.specs.laws.StandLaws.{gives, open_gave, next_due, waits, none_due, stays, goes_on}
use Rattle.ff_node_filter.proofs.Notes.{noted, unnoted}
use Rattle.ff_node_filter.proofs.alone.AloneMachine.pull.Goals as goal

pub returns-in-Ok-Some-clause-shape : goal.returns-in-Ok-Some-clause-shape
returns-in-Ok-Some-clause-shape g c =
    let shape = (c.pull.ensures.gives c.in-Ok-Some.item (cc (c.in-Ok-Some.is))).ports in
    record { in_lanes = shape.ins; out_lanes = shape.outs; source = refl }

pub returns-in-Ok-Some-clause-gives : goal.returns-in-Ok-Some-clause-gives
returns-in-Ok-Some-clause-gives g c x e past s on =
    let v = g.F.Filter.view c.args.self.now.filter in
    let w = g.F.Filter.view c.pull.new.self in
    let hurt = c.args.self.now.hurt in
    let long = c.args.self.now.long in
    let h : Gave v w c.args.port x = c.pull.ensures.gives x (cc (e, c.in-Ok-Some.is)) in
    let same : c.in-Ok-Some.item ≡ x = cc (e) in
    let is : c.is_break.result ≡ breaks x = subst (λ (y : Item). c.is_break.result ≡ breaks y) same c.is_break.ensures in
    let go = goes_on v w hurt long past s c.args.port c.requires on in (
      gives v w hurt long past s c.args.port x c.requires go h _ (noted long hurt c.is_break.result x is) (unnoted long hurt c.is_break.result x is),
      open_gave v w hurt long past s c.args.port x c.requires go h,
      next_due v w hurt long past s c.args.port x c.requires go h,
    )

pub returns-in-Ok-None-clause-waits : goal.returns-in-Ok-None-clause-waits
returns-in-Ok-None-clause-waits g c e past s on =
    waits (g.F.Filter.view c.args.self.now.filter) (g.F.Filter.view c.pull.new.self) c.args.self.now.hurt c.args.self.now.long past s c.args.port (c.pull.ensures.waits (cc (c.in-Ok-None.is)))

pub returns-in-Ok-None-clause-none_due : goal.returns-in-Ok-None-clause-none_due
returns-in-Ok-None-clause-none_due g c e fine past s on =
    let v = g.F.Filter.view c.args.self.now.filter in
    let w = g.F.Filter.view c.pull.new.self in
    let go = goes_on v w c.args.self.now.hurt c.args.self.now.long past s c.args.port c.requires on in
    inl (none_due v w c.args.self.now.hurt c.args.self.now.long past s c.args.port c.requires go (c.pull.ensures.waits (cc (c.in-Ok-None.is))))

pub returns-in-Err-clause-unchanged : goal.returns-in-Err-clause-unchanged
returns-in-Err-clause-unchanged g c past s = stays (g.F.Filter.view c.args.self.now.filter) (g.F.Filter.view c.pull.new.self) c.args.self.now.hurt c.args.self.now.long past s c.in-Err.ensures.unchanged
