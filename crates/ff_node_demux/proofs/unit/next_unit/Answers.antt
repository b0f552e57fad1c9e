use Rattle.std.proofs.Common.{◌≡◌, ◌∙◌, ℕ, Ok, Some, false, sym, ap, subst, arith}
use Rattle.ff_stream.specs.declared.item.Item.TheVariants.{Packet}
use Rattle.ff_stream.specs.declared.item.Lane.TheVariants.{Packets}
use Rattle.ff_frame.specs.declared.packet.Pkt.{Pkt}
use Rattle.ff_reader.specs.Cutters.{GivesPacket, GaveAll}
use Rattle.ff_node_demux.specs.Demuxing.{passes_in_demux}
use Rattle.ff_node_demux.proofs.LimitSteps.{short_packet}
use Rattle.ff_node_demux.proofs.unit.next_unit.Goals as goal

pub returns-then-is_long-clause-long : goal.returns-then-is_long-clause-long
returns-then-is_long-clause-long g c = λ e.
    (c.in-Pkt.packet, c.in_ok-next_cut.ensures.gives c.in-Pkt.packet (ap Ok c.in-Pkt.is), sym c.is_long.ensures ∙ c.if-is_long.true)

pub returns-in-End-clause-all : goal.returns-in-End-clause-all
returns-in-End-clause-all g c = λ e.
    (c.in_ok-next_cut.ensures.stops (ap Ok c.in-End.is), c.in_ok-next_cut.ensures.ends (ap Ok c.in-End.is))

pub returns-in-Broken-clause-broken : goal.returns-in-Broken-clause-broken
returns-in-Broken-clause-broken g c = λ offset e.
    let same : c.in-Broken.offset ≡ offset = cc in
    let broken = ap Ok c.in-Broken.is in
    (c.in_ok-next_cut.ensures.stays c.in-Broken.offset broken, subst (λ (n : ℕ). GaveAll g.C.PacketCut.is c.args.cut.now (Some n)) same (c.in_ok-next_cut.ensures.breaks c.in-Broken.offset broken))

pub returns-else-is_long-clause-packet : goal.returns-else-is_long-clause-packet
returns-else-is_long-clause-packet g c = λ p e.
    let same : c.in-Pkt.packet ≡ p = cc in
    let short = sym c.is_long.ensures ∙ c.if-is_long.false in
    subst (λ (x : Pkt). GivesPacket g.C.PacketCut.is c.args.cut.now c.next_cut.new.self x
    × (passes_in_demux (Packets c.args.head.now) c.args.given (Packet x) ≡ false)) same
    (c.in_ok-next_cut.ensures.gives c.in-Pkt.packet (ap Ok c.in-Pkt.is), short)

pub returns-else-is_long-clause-within : goal.returns-else-is_long-clause-within
returns-else-is_long-clause-within g c = λ p e.
    let short = short_packet (Packets c.args.head.now) c.args.given c.in-Pkt.packet (sym c.is_long.ensures ∙ c.if-is_long.false) in
    let place = c.in_ok-next_cut.ensures.place c.in-Pkt.packet (ap Ok c.in-Pkt.is) in
    (omega (arith, short.1, place), short.0)
