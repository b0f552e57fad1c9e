use Rattle.std.proofs.Common.{◌≡◌, [], ◌∷◌, false, sym, ◌∙◌}
use Rattle.ff_stream.specs.declared.item.Lane.TheVariants.{Frames, Packets}
use Rattle.ff_node_codec.specs.Encoding.{encoded_item}
use Rattle.ff_node_codec.specs.laws.EncodeLaws.{encoding_carries, taken_frame}
use Rattle.ff_node_codec.specs.Making.{by_items}
use Rattle.ff_node_codec.specs.laws.Feeding.{StandsFed, IsFollowed}
use Rattle.ff_node_codec.specs.laws.Standing.{SpreadStands}
use Rattle.ff_node_codec.proofs.SpreadSteps.{fits_at, over_at, step_for, spread_same, on_ok}
use Rattle.ff_node_codec.proofs.enc.EncMachine.feed.Goals as goal

pub returns-then-is_closed-clause-accepted : goal.returns-then-is_closed-clause-accepted
returns-then-is_closed-clause-accepted g c past s o v =
    let m = c.args.self.now in
    let lane_in = Frames m.head in
    let lane_out = Packets (g.E.Encoder.coded m.encoder m.head) in
    let f = by_items (encoded_item (g.E.Encoder.made m.encoder)) in
    (s.0, over_at lane_in lane_out f _ _ m.spread.closed m.spread.damage past s.1 c.args._port c.args.item (sym c.is_closed.ensures ∙ c.if-is_closed.true) c.requires o v)

pub returns-in-Ok-clause-accepted : goal.returns-in-Ok-clause-accepted
returns-in-Ok-clause-accepted g c =
    let m = c.args.self.now in
    let lane_in = Frames m.head in
    let coded = g.E.Encoder.coded m.encoder m.head in
    let lane_out = Packets coded in
    let made = g.E.Encoder.made m.encoder in
    let takes = g.E.Encoder.takes m.encoder in
    let f = encoded_item made in
    let p = c.args._port in
    let x = c.args.item in
    let open_now : c.reserve.new.self.closed ≡ false = c.reserve.ensures.same.closed ∙ (sym c.is_closed.ensures ∙ c.if-is_closed.false) in
    on_ok c.follow.result (IsFollowed c.reserve.new.self c.follow.new.self c.in-Ok.step)
    (StandsFed (lane_in ∷ []) p x (λ past. g.E.Encoder.serves m.encoder m.head × SpreadStands lane_in lane_out (by_items f) m.spread past) (λ past. g.E.Encoder.serves m.encoder m.head × SpreadStands lane_in lane_out (by_items f) c.follow.new.self past))
    (λ h past s o v.
    let times = g.met.E.Encoder.keeps_times m.encoder m.head s.0 in
    let fits = fits_at lane_in lane_out (by_items f) _ _ m.spread.closed m.spread.damage past s.1 p x c.requires v in
    let taken = taken_frame m.head coded takes made times (λ y fits. g.met.E.Encoder.carries m.encoder m.head y s.0 fits) x fits in
    let carries = encoding_carries m.head coded takes made times (λ y fits. g.met.E.Encoder.carries m.encoder m.head y s.0 fits) in
    let step = step_for lane_in lane_out f x c.in-Ok.step carries fits (c.in-Ok.ensures.follows taken) in
    (s.0, h lane_in lane_out (by_items f) p x open_now c.requires step past (spread_same lane_in lane_out (by_items f) m.spread c.reserve.new.self past c.reserve.ensures.same s.1) o v))
    c.follow.ensures.accepted
