use Rattle.std.specs.Prelude.{Option}
use Rattle.std.proofs.Common.{subst}
use Rattle.ff_node_codec.specs.laws.codecs.AnyCoders.{any_head, any_frame}
use Rattle.ff_node_codec.specs.laws.Coders.{dec_stands}
use Rattle.ff_node_codec.specs.Decoding.{dec_task}
use Rattle.ff_stream.specs.declared.item.Item.{Item}
use Rattle.ff_net.specs.Pasts.{start}
use Rattle.ff_frame.specs.declared.packet.Pkt.{Pkt}
use Rattle.ff_run.proofs.build.parts.PartsKindsPart.decoder.Goals as goal

pub returns-clause-starts : goal.returns-clause-starts
returns-clause-starts g c =
    subst
    (λ (f : Pkt → Option Item). dec_stands any_head any_frame c.in_ok-dec.dec (start (dec_task c.args.head.now f c.args.cut c.args.outputs)))
    c.decoder_of.ensures.frame
    c.in_ok-dec.ensures.stands
