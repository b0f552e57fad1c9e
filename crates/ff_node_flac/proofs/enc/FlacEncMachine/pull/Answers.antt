use Rattle.std.proofs.Common.{rules, ◌≡◌, ◌∙◌, true, false, Ok, ap, inl}
use Rattle.ff_stream.specs.Ports.{stream_at}
use Rattle.ff_stream.specs.declared.item.Item.TheVariants.{Packet, Trailer, End, Broken}
use Rattle.ff_net.specs.Pasts.{due, was_asked}
use Rattle.ff_node_flac.specs.laws.Encoders.{Encodes}
use Rattle.ff_node_flac.proofs.EncoderSteps.{packet_given, long_given, all_waits, totals_given, break_given, end_given, at_first, gives_at}
use Rattle.ff_node_flac.proofs.enc.FlacEncMachine.pull.Goals as goal

pub returns-then-self-2-clause-gives : goal.returns-then-self-2-clause-gives
returns-then-self-2-clause-gives g c x is past s on =
    let m = c.args.self.now in
    let same : End ≡ x = cc (is) in
    let goes : m.stopped ≡ false = search rules in
    let unended : m.over ≡ false = search rules in
    gives_at m.head m.queue m.shut m.told true m.stopped m.long past c.args._port x End c.requires same
    (end_given m.head m.queue m.shut m.told m.over m.stopped m.long past s c.if-self-2.true goes unended)

pub returns-in-Packet-clause-gives : goal.returns-in-Packet-clause-gives
returns-in-Packet-clause-gives g c x is past s on =
    let m = c.args.self.now in
    let p = c.in-Packet.packet in
    let same : Packet p ≡ x = cc (is) in
    let goes : m.stopped ≡ false = search rules in
    let unended : m.over ≡ false = search rules in
    gives_at m.head c.pull.new.self m.shut m.told m.over m.stopped m.long past c.args._port x (Packet p) c.requires same
    (packet_given m.head m.queue m.shut m.told m.over m.stopped m.long past s c.if-self-2.false goes unended p c.pull.new.self
    (c.in_ok-packet.ensures.gives p (ap Ok c.in-Packet.is)) c.pull.ensures.ended c.pull.ensures.format)

pub returns-in-TooLong-clause-gives : goal.returns-in-TooLong-clause-gives
returns-in-TooLong-clause-gives g c x is past s on =
    let m = c.args.self.now in
    let same : Broken ≡ x = cc (is) in
    let goes : m.stopped ≡ false = search rules in
    let unended : m.over ≡ false = search rules in
    gives_at m.head c.pull.new.self m.shut m.told true m.stopped true past c.args._port x Broken c.requires same
    (long_given m.head m.queue m.shut m.told m.over m.stopped m.long past s c.if-self-2.false goes unended c.pull.new.self
    (c.in_ok-packet.ensures.long (ap Ok c.in-TooLong.is)) c.pull.ensures.format)

pub returns-in-Open-clause-waits : goal.returns-in-Open-clause-waits
returns-in-Open-clause-waits g c is past s on =
    let m = c.args.self.now in
    let goes : m.stopped ≡ false = search rules in
    let unended : m.over ≡ false = search rules in
    at_first c.args._port c.requires (λ k. Encodes m.head c.pull.new.self m.shut m.told m.over m.stopped m.long (was_asked past k))
    ((all_waits m.head m.queue m.shut m.told m.over m.stopped m.long past s c.if-self-2.false goes unended c.pull.new.self c.in-Open.is
    (c.in_ok-packet.ensures.nothing (ap Ok c.in-Nothing.is)) c.pull.ensures.ended c.pull.ensures.format).0)

pub returns-in-Open-clause-none_due : goal.returns-in-Open-clause-none_due
returns-in-Open-clause-none_due g c is fine past s on =
    let m = c.args.self.now in
    let goes : m.stopped ≡ false = search rules in
    let unended : m.over ≡ false = search rules in
    inl (at_first c.args._port c.requires (λ k. stream_at past.gave k ≡ stream_at (due past) k)
    ((all_waits m.head m.queue m.shut m.told m.over m.stopped m.long past s c.if-self-2.false goes unended c.pull.new.self c.in-Open.is
    (c.in_ok-packet.ensures.nothing (ap Ok c.in-Nothing.is)) c.pull.ensures.ended c.pull.ensures.format).1))

pub returns-in-Whole-clause-gives : goal.returns-in-Whole-clause-gives
returns-in-Whole-clause-gives g c x is past s on =
    let m = c.args.self.now in
    let same : Trailer c.totals.result ≡ x = cc (is) in
    let goes : m.stopped ≡ false = search rules in
    let unended : m.over ≡ false = search rules in
    gives_at m.head c.totals.new.self m.shut true m.over m.stopped m.long past c.args._port x (Trailer c.totals.result) c.requires same
    (totals_given m.head m.queue m.shut m.told m.over m.stopped m.long past s c.if-self-2.false goes unended c.pull.new.self
    c.totals.new.self c.totals.result c.in-Whole.is
    (c.in_ok-packet.ensures.nothing (ap Ok c.in-Nothing.is)) c.pull.ensures.ended c.totals.ensures.is (c.totals.ensures.format ∙ c.pull.ensures.format))

pub returns-in-Broken-clause-gives : goal.returns-in-Broken-clause-gives
returns-in-Broken-clause-gives g c x is past s on =
    let m = c.args.self.now in
    let same : Broken ≡ x = cc (is) in
    let goes : m.stopped ≡ false = search rules in
    let unended : m.over ≡ false = search rules in
    gives_at m.head c.pull.new.self m.shut m.told true m.stopped m.long past c.args._port x Broken c.requires same
    (break_given m.head m.queue m.shut m.told m.over m.stopped m.long past s c.if-self-2.false goes unended c.pull.new.self c.in-Broken.is
    (c.in_ok-packet.ensures.nothing (ap Ok c.in-Nothing.is)) c.pull.ensures.ended c.pull.ensures.format)
