use Rattle.std.proofs.Common.{rules, ◌≡◌, false}
use Rattle.ff_stream.specs.declared.item.Item.TheVariants.{Video, Packet, Trailer, End, Broken}
use Rattle.ff_node_flac.specs.declared.shut.Shut.TheVariants as shut
use Rattle.ff_node_flac.specs.laws.Queues.{queue_ended}
use Rattle.ff_node_flac.proofs.EncoderSteps.{no_picture, no_packet, no_trailer, end_fed, break_fed, feeds_at}
use Rattle.ff_node_flac.proofs.enc.FlacEncMachine.feed.Goals as goal

pub returns-in-Video-clause-accepted : goal.returns-in-Video-clause-accepted
returns-in-Video-clause-accepted g c past s =
    let m = c.args.self.now in
    feeds_at m.head m.queue m.shut m.told m.over m.stopped m.long past c.args._port c.args.item (Video c.in-Video._frame) c.requires c.in-Video.is
    (λ o v. absurd (no_picture m.head m.queue m.shut m.told m.over m.stopped m.long past s c.in-Video._frame v))

pub returns-in-Packet-clause-accepted : goal.returns-in-Packet-clause-accepted
returns-in-Packet-clause-accepted g c past s =
    let m = c.args.self.now in
    feeds_at m.head m.queue m.shut m.told m.over m.stopped m.long past c.args._port c.args.item (Packet c.in-Packet._packet) c.requires c.in-Packet.is
    (λ o v. absurd (no_packet m.head m.queue m.shut m.told m.over m.stopped m.long past s c.in-Packet._packet v))

pub returns-in-Trailer-clause-accepted : goal.returns-in-Trailer-clause-accepted
returns-in-Trailer-clause-accepted g c past s =
    let m = c.args.self.now in
    feeds_at m.head m.queue m.shut m.told m.over m.stopped m.long past c.args._port c.args.item (Trailer c.in-Trailer._totals) c.requires c.in-Trailer.is
    (λ o v. absurd (no_trailer m.head m.queue m.shut m.told m.over m.stopped m.long past s c.in-Trailer._totals v))

pub returns-in-End-clause-accepted : goal.returns-in-End-clause-accepted
returns-in-End-clause-accepted g c past s =
    let m = c.args.self.now in
    feeds_at m.head c.end.new.self shut.Whole m.told m.over m.stopped m.long past c.args._port c.args.item End c.requires c.in-End.is
    (λ o v. end_fed m.head m.queue m.shut m.told m.over m.stopped m.long past s c.end.new.self o v c.end.ensures.still c.end.ensures.ended c.end.ensures.format)

pub returns-in-Broken-clause-accepted : goal.returns-in-Broken-clause-accepted
returns-in-Broken-clause-accepted g c past s =
    let m = c.args.self.now in
    let on : queue_ended m.queue ≡ false = search rules in
    feeds_at m.head m.queue shut.Broken m.told m.over m.stopped m.long past c.args._port c.args.item Broken c.requires c.in-Broken.is
    (λ o v. break_fed m.head m.queue m.shut m.told m.over m.stopped m.long past s o v on)
