use Rattle.std.proofs.Common.{◌≡◌, ℕ, true, false, None, Some, Option, refl}
use Rattle.std.specs.Option.{is_some}
use Rattle.ff_node_codec.specs.laws.Lines.{line_at}
use Rattle.ff_node_codec.specs.laws.Puts.{ArePut}
use Rattle.ff_node_codec.specs.laws.Standing.{first_damage}
use Rattle.ff_node_codec.proofs.SpreadSteps.{put_at}
use Rattle.ff_node_codec.proofs.spread.Spread.put.Goals as goal

none_first : (d e : Option ℕ) → is_some d ≡ false → e ≡ first_damage d e
none_first None e h = refl
none_first (Some offset) e h = cc

some_first : (d e : Option ℕ) → is_some d ≡ true → d ≡ first_damage d e
some_first None e h = cc
some_first (Some offset) e h = refl

pub returns-then-is_none-clause-accepted : goal.returns-then-is_none-clause-accepted
returns-then-is_none-clause-accepted c lane_in lane_out f port x e lt p i once past s o v =
    let m = c.args.self.now in
    let puts : ArePut c.args.made c.args.after m.outs.items c.put_on_all.new.outs.items = c.in_ok-put_on_all.ensures.puts in
    put_at lane_in lane_out f _ _ m.closed m.damage past s port x c.args.made c.args.after c.args.damage c.args.damage c.closes-closes.result c.is_over-over.result _
    (line_at c.put_on_all.new.outs.items) c.is_over-over.ensures e lt o v p i once c.closes-closes.ensures
    (none_first m.damage c.args.damage c.if-is_none.ensures) puts.count puts.stopped puts.queues

pub returns-else-is_none-clause-accepted : goal.returns-else-is_none-clause-accepted
returns-else-is_none-clause-accepted c lane_in lane_out f port x e lt p i once past s o v =
    let m = c.args.self.now in
    let puts : ArePut c.args.made c.args.after m.outs.items c.put_on_all.new.outs.items = c.in_ok-put_on_all.ensures.puts in
    put_at lane_in lane_out f _ _ m.closed m.damage past s port x c.args.made c.args.after c.args.damage m.damage c.closes-closes.result c.is_over-over.result _
    (line_at c.put_on_all.new.outs.items) c.is_over-over.ensures e lt o v p i once c.closes-closes.ensures
    (some_first m.damage c.args.damage c.if-is_none.ensures) puts.count puts.stopped puts.queues
