use Rattle.std.proofs.Common.{◌≡◌, [], ◌∷◌, false, sym, ◌∙◌, subst}
use Rattle.std.specs.Result.{OnErr, OnOk}
use Rattle.ff_frame.specs.declared.head.StreamHead.{StreamHead}
use Rattle.ff_stream.specs.Ports.{stream_at}
use Rattle.ff_stream.specs.declared.item.Lane.TheVariants.{Frames, Packets}
use Rattle.ff_net.specs.laws.Laws.{FaultStep}
use Rattle.ff_net.specs.Pasts.{Past}
use Rattle.ff_node_codec.specs.laws.CutFrames.{not_empty}
use Rattle.ff_node_codec.specs.declared.dec.Dec.{Dec}
use Rattle.ff_node_codec.specs.declared.spread.Spread.{Spread}
use Rattle.ff_node_codec.specs.laws.Coders.{dec_stands}
use Rattle.ff_node_codec.specs.Decoding.{decoded, cut_frames}
use Rattle.ff_node_codec.specs.laws.DecodeLaws.{decoding_carries, taken_packet}
use Rattle.ff_node_codec.specs.laws.Feeding.{StandsFed, IsFollowed}
use Rattle.ff_node_codec.specs.laws.Kinds.{dec_view, fares}
use Rattle.ff_node_codec.specs.laws.Standing.{IsSameSpread}
use Rattle.ff_node_codec.specs.laws.Steps.{IsCutTo}
use Rattle.ff_node_codec.proofs.CutSteps.{cut_step_for, has_spare, spared_shared, spared_cut}
use Rattle.ff_node_codec.proofs.SpreadSteps.{fits_at, over_at, open_made, spread_same, on_ok, on_err}
use Rattle.ff_node_codec.proofs.dec.DecMachine.feed.Goals as goal

-- the machine behind a step: its decoder and its spread may be others
abbrev behind : {D : Type 0} → Dec D → Spread → D → Dec D
behind m k d = record m { decoder = d; spread = k }

pub returns-then-is_closed-clause-accepted : goal.returns-then-is_closed-clause-accepted
returns-then-is_closed-clause-accepted g c past s o v =
    let m = c.args.self.now in
    let head = g.D.Decoder.head m.decoder in
    let f = cut_frames head (g.D.Decoder.made m.decoder) m.cut in
    (s.0, over_at (Packets head) (Frames head) f _ _ m.spread.closed m.spread.damage past s.1 c.args._port c.args.item (sym c.is_closed.ensures ∙ c.if-is_closed.true) c.requires o v)

pub follow-requires-clause-spare : goal.follow-requires-clause-spare
follow-requires-clause-spare g c le =
    has_spare c.args.item c.in-Ok-cut_step.left
    (c.in-Ok-cut_step.ensures.again c.args.item (c.in-Ok.ensures.spare (spared_shared c.is_shared.result c.is_uncut.result (c.is_shared.ensures le))))

pub returns-in-Ok-cut_step-clause-fares : goal.returns-in-Ok-cut_step-clause-fares
returns-in-Ok-cut_step-clause-fares g c =
    let m = c.args.self.now in
    let head = g.D.Decoder.head m.decoder in
    let view = dec_view g.D.Decoder.head g.D.Decoder.made in
    subst (λ d. FaultStep (view m) (view (behind m c.follow.new.self d))) (sym c.step.ensures.same)
    (fares (Packets head) (Frames head) m.spread c.follow.new.self _ _
    (λ offset e. c.follow.ensures.goes_on.stays offset (c.reserve.ensures.same.damage ∙ e)))

pub returns-in-Ok-cut_step-clause-accepted : goal.returns-in-Ok-cut_step-clause-accepted
returns-in-Ok-cut_step-clause-accepted g c =
    let m = c.args.self.now in
    let head = g.D.Decoder.head m.decoder in
    let lane_in = Packets head in
    let lane_out = Frames head in
    let made = g.D.Decoder.made m.decoder in
    let takes = g.D.Decoder.takes m.decoder in
    let f = cut_frames head made m.cut in
    let p = c.args._port in
    let x = c.args.item in
    let step = c.in-Ok.step in
    let left = c.in-Ok-cut_step.left in
    let was_open : m.spread.closed ≡ false = sym c.is_closed.ensures ∙ c.if-is_closed.false in
    let stands = dec_stands g.D.Decoder.head g.D.Decoder.made in
    subst (λ d. OnOk c.follow.result (StandsFed (lane_in ∷ []) p x (stands m) (stands (behind m c.follow.new.self d)))) (sym c.step.ensures.same)
    (on_ok c.follow.result (IsFollowed c.reserve.new.self c.follow.new.self left) _
    (λ h past s o v.
    let fits = fits_at lane_in lane_out f _ _ m.spread.closed m.spread.damage past s.1 p x c.requires v in
    let taken = taken_packet head takes made (λ q t. g.met.D.Decoder.carries m.decoder q t) x fits in
    let carries = decoding_carries head takes made (λ q t. g.met.D.Decoder.carries m.decoder q t) in
    let goes = not_empty head m.cut (decoded made (stream_at past.got 0))
    (open_made lane_in lane_out f _ _ m.spread.closed m.spread.damage past s.1 was_open) in
    let cut : IsCutTo head m.cut step left = subst (λ (k : StreamHead). IsCutTo k m.cut step left) s.0 c.in-Ok-cut_step.ensures.cut in
    let now = cut_step_for head made m.cut x step left goes carries fits (c.in-Ok.ensures.follows taken) cut in
    (s.0, h lane_in lane_out f p x (c.reserve.ensures.same.closed ∙ was_open) c.requires now past (spread_same lane_in lane_out f m.spread c.reserve.new.self past c.reserve.ensures.same s.1) o v))
    c.follow.ensures.accepted)

pub returns-in-Ok-cut_step-clause-refused : goal.returns-in-Ok-cut_step-clause-refused
returns-in-Ok-cut_step-clause-refused g c =
    c.follow.ensures.back c.args.item
    (λ le. c.in-Ok-cut_step.ensures.again c.args.item (c.in-Ok.ensures.spare (spared_shared c.is_shared.result c.is_uncut.result (c.is_shared.ensures le))))

pub returns-in-Ok-cut_step-clause-unchanged : goal.returns-in-Ok-cut_step-clause-unchanged
returns-in-Ok-cut_step-clause-unchanged g c =
    let m = c.args.self.now in
    let head = g.D.Decoder.head m.decoder in
    let lane_in = Packets head in
    let lane_out = Frames head in
    let f = cut_frames head (g.D.Decoder.made m.decoder) m.cut in
    let stands = dec_stands g.D.Decoder.head g.D.Decoder.made in
    subst (λ d. OnErr c.follow.result ((past : Past) → stands m past → stands (behind m c.follow.new.self d) past)) (sym c.step.ensures.same)
    (on_err c.follow.result (IsSameSpread c.reserve.new.self c.follow.new.self) _
    (λ same past s. (s.0, spread_same lane_in lane_out f c.reserve.new.self c.follow.new.self past same (spread_same lane_in lane_out f m.spread c.reserve.new.self past c.reserve.ensures.same s.1)))
    c.follow.ensures.same)

pub returns-in-Err-cut_step-clause-refused : goal.returns-in-Err-cut_step-clause-refused
returns-in-Err-cut_step-clause-refused g c =
    c.in-Err-cut_step.ensures.back c.args.item
    (λ e. c.in-Ok.ensures.spare (spared_cut c.is_shared.result c.is_uncut.result (c.is_uncut.ensures ∙ e)))

pub returns-in-Err-cut_step-clause-unchanged : goal.returns-in-Err-cut_step-clause-unchanged
returns-in-Err-cut_step-clause-unchanged g c past s =
    let m = c.args.self.now in
    let head = g.D.Decoder.head m.decoder in
    let f = cut_frames head (g.D.Decoder.made m.decoder) m.cut in
    subst (λ d. dec_stands g.D.Decoder.head g.D.Decoder.made (behind m c.reserve.new.self d) past) (sym c.step.ensures.same)
    (s.0, spread_same (Packets head) (Frames head) f m.spread c.reserve.new.self past c.reserve.ensures.same s.1)

pub returns-in-Err-clause-unchanged : goal.returns-in-Err-clause-unchanged
returns-in-Err-clause-unchanged g c past s =
    let m = c.args.self.now in
    let head = g.D.Decoder.head m.decoder in
    let f = cut_frames head (g.D.Decoder.made m.decoder) m.cut in
    subst (λ d. dec_stands g.D.Decoder.head g.D.Decoder.made (behind m c.reserve.new.self d) past) (sym c.step.ensures.same)
    (s.0, spread_same (Packets head) (Frames head) f m.spread c.reserve.new.self past c.reserve.ensures.same s.1)
