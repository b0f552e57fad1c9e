use Rattle.std.proofs.Common.{◌≡◌, ◌≤◌, ◌∙◌, ◌+◌, ℕ, Ok, Some, None, true, false, refl, sym, ap, subst, arith}
use Rattle.ff_frame.specs.declared.head.StreamHead.{StreamHead}
use Rattle.ff_stream.specs.declared.item.Item.{Item}
use Rattle.ff_stream.specs.declared.item.Item.TheVariants.{Packet, End, Broken}
use Rattle.ff_stream.specs.declared.item.Lane.TheVariants.{Packets}
use Rattle.ff_net.specs.declared.fault.Fault.TheVariants.{Device, Damaged, TooLong}
use Rattle.ff_net.specs.Pasts.{Past, was_asked}
use Rattle.ff_reader.specs.Cutters.{KeepsCut}
use Rattle.ff_node_demux.specs.Demuxing.{DemuxStands, passes_in_demux}
use Rattle.ff_node_demux.specs.Exiting.{Exits}
use Rattle.ff_node_demux.proofs.DemuxSteps.{no_fault, Gives, gives_flags, flags, on_err, demux_packet, demux_long, demux_end, demux_break, demux_kept, demux_asked}
use Rattle.ff_node_demux.specs.laws.Reading.{Reads, FeedsOn}
use Rattle.ff_node_demux.proofs.ExitSteps.{exits_same}
use Rattle.ff_node_demux.proofs.ReadSteps.{reads_nothing, reads_kept, reads_piece, reads_packet, reads_over}
use Rattle.ff_node_demux.proofs.demux.DemuxMachine.pull.Goals as goal

pub returns-in_err-packet-clause-unchanged : goal.returns-in_err-packet-clause-unchanged
returns-in_err-packet-clause-unchanged g c =
    let K = g.C.PacketCut.is in
    let m = c.units.self in
    let a = c.args.self.now in
    let S = g.S.Source in
    let inv = c.units.invariant in
    let same : (past : Past) → DemuxStands K (S.left a.src) a.cut a.skip a.given a.ticket a.ended a.fault past
    × Exits a.input a.stopped a.told past.task.tells past.told past.stopped
    → DemuxStands K (S.left m.src) c.next_unit.new.cut m.skip m.given m.ticket m.ended m.fault past
    × Exits m.input m.stopped m.told past.task.tells past.told past.stopped =
    λ past d. (
      subst (λ k. DemuxStands K (S.left m.src) k m.skip m.given m.ticket m.ended m.fault past) (sym c.in_err-packet.ensures.err) (inv.stands past d.0),
      exits_same a.input m.input a.stopped m.stopped a.told m.told inv.input inv.stopped inv.told d.1,
    ) in
    on_err _ _ same

pub returns-in-Packet-clause-gives : goal.returns-in-Packet-clause-gives
returns-in-Packet-clause-gives g c = λ x e past d out.
    let K = g.C.PacketCut.is in
    let m = c.units.self in
    let a = c.args.self.now in
    let inv = c.units.invariant in
    let L = g.S.Source.left m.src in
    let new = c.next_unit.new.cut in
    let port = c.args._port in
    let p = c.in-Packet.packet in
    let now = flags K L m.cut m.skip m.given m.ticket m.ended m.fault past true false None inv.allowed inv.going inv.sound (inv.stands past d.0) in
    let u = c.in_ok-packet.ensures.packet p (ap Ok c.in-Packet.is) in
    let few : passes_in_demux (Packets (K.stream_head (K.head_of m.cut))) m.given (Packet p) ≡ false = subst (λ (h : StreamHead). passes_in_demux (Packets h) m.given (Packet p) ≡ false) (sym m.same_head) u.1 in
    let r = demux_packet K L m.cut new m.skip m.given past port p c.requires few c.next_unit.ensures.head c.next_unit.ensures.ended u.0 now in
    let same : Packet p ≡ x = cc (e) in
    let made =
    subst (λ (y : Item). Gives K L new m.skip (m.given + 1) m.ended m.fault past port y) same
    (gives_flags K L new m.skip (m.given + 1) past port (Packet p) false m.ended None m.fault (sym inv.going) (sym inv.sound) r) in
    ((made.0, exits_same a.input m.input a.stopped m.stopped a.told m.told inv.input inv.stopped inv.told d.1), made.1, made.2)

pub returns-in-Long-clause-gives : goal.returns-in-Long-clause-gives
returns-in-Long-clause-gives g c = λ x e past d out.
    let K = g.C.PacketCut.is in
    let m = c.units.self in
    let a = c.args.self.now in
    let inv = c.units.invariant in
    let L = g.S.Source.left m.src in
    let new = c.next_unit.new.cut in
    let port = c.args._port in
    let now = flags K L m.cut m.skip m.given m.ticket m.ended m.fault past true false None inv.allowed inv.going inv.sound (inv.stands past d.0) in
    let u = c.in_ok-packet.ensures.long (ap Ok c.in-Long.is) in
    let many : passes_in_demux (Packets (K.stream_head (K.head_of m.cut))) m.given (Packet u.0) ≡ true = subst (λ (h : StreamHead). passes_in_demux (Packets h) m.given (Packet u.0) ≡ true) (sym m.same_head) u.2 in
    let r = demux_long K L m.cut new m.skip m.given past port u.0 c.requires many c.next_unit.ensures.head c.next_unit.ensures.ended u.1 now in
    let same : Broken ≡ x = cc (e) in
    let made =
    subst (λ (y : Item). Gives K L new m.skip m.given true (Some TooLong) past port y) same r in
    ((made.0, exits_same a.input m.input a.stopped m.stopped a.told m.told inv.input inv.stopped inv.told d.1), made.1, made.2)

pub returns-in-End-clause-gives : goal.returns-in-End-clause-gives
returns-in-End-clause-gives g c = λ x e past d out.
    let K = g.C.PacketCut.is in
    let m = c.units.self in
    let a = c.args.self.now in
    let inv = c.units.invariant in
    let L = g.S.Source.left m.src in
    let new = c.next_unit.new.cut in
    let port = c.args._port in
    let now = flags K L m.cut m.skip m.given m.ticket m.ended m.fault past true false None inv.allowed inv.going inv.sound (inv.stands past d.0) in
    let u = c.in_ok-packet.ensures.all (ap Ok c.in-End.is) in
    let r = demux_end K L m.cut m.skip m.given past port c.requires u.1 now in
    let same : End ≡ x = cc (e) in
    let made =
    subst (λ (y : Item). Gives K L new m.skip m.given true m.fault past port y) same
    (subst (λ k. Gives K L k m.skip m.given true m.fault past port End) (sym u.0) (gives_flags K L m.cut m.skip m.given past port End true true None m.fault refl (sym inv.sound) r)) in
    ((made.0, exits_same a.input m.input a.stopped m.stopped a.told m.told inv.input inv.stopped inv.told d.1), made.1, made.2)

pub returns-in-Broken-clause-gives : goal.returns-in-Broken-clause-gives
returns-in-Broken-clause-gives g c = λ x e past d out.
    let K = g.C.PacketCut.is in
    let m = c.units.self in
    let a = c.args.self.now in
    let inv = c.units.invariant in
    let L = g.S.Source.left m.src in
    let port = c.args._port in
    let at = c.in-Broken.offset in
    let now = flags K L m.cut m.skip m.given m.ticket m.ended m.fault past true false None inv.allowed inv.going inv.sound (inv.stands past d.0) in
    let u = c.in_ok-packet.ensures.broken at (ap Ok c.in-Broken.is) in
    let r = demux_break K at L m.cut m.skip m.given past port c.requires u.1 now in
    let same : Broken ≡ x = cc (e) in
    let made =
    subst (λ (y : Item). Gives K L c.next_unit.new.cut m.skip m.given true (Some (Damaged at)) past port y) same
    (subst (λ k. Gives K L k m.skip m.given true (Some (Damaged at)) past port Broken) (sym u.0) r) in
    ((made.0, exits_same a.input m.input a.stopped m.stopped a.told m.told inv.input inv.stopped inv.told d.1), made.1, made.2)

pub units-preserved : goal.units-preserved
units-preserved g c =
    let K = g.C.PacketCut.is in
    let m = c.units.self in
    let inv = c.units.invariant in
    let S = g.S.Source in
    let w = c.in_ok-packet.ensures.wait (ap Ok c.in-Wait.is) in
    let a = c.args.self.now in
    let A = g.C.Demuxable.asks in
    let few : c.piece-wanted.result ≤ A m.cut = subst (λ k. c.piece-wanted.result ≤ A k) w.0 (omega (arith, c.piece-wanted.ensures.value)) in
    record {
      stands = λ past d.
          let one = subst (λ k. DemuxStands K (S.left m.src) k m.skip m.given m.ticket m.ended m.fault past) (sym w.0) (inv.stands past d) in
          let two = flags K (S.left m.src) c.next_unit.new.cut m.skip m.given m.ticket m.ended m.fault past m.ticket false m.fault refl inv.going refl one in
          flags K (S.left c.read_more.new.src) c.read_more.new.cut c.read_more.new.skip m.given m.ticket false m.fault past m.ticket m.ended m.fault refl (sym inv.going) refl
          (c.in-Ok.ensures.read m.given m.ticket m.fault past two);
      reads = reads_piece K A (S.left a.src) a.cut a.skip a.given a.ended (S.left m.src) (S.left c.read_more.new.src) m.cut c.read_more.new.cut m.skip c.read_more.new.skip m.given
          c.piece-wanted.result m.ended inv.going inv.number (c.in_ok-packet.ensures.undecided (ap Ok c.in-Wait.is)) few
          (subst (λ k. FeedsOn K c.piece-wanted.result (S.left m.src) k m.skip (S.left c.read_more.new.src) c.read_more.new.cut c.read_more.new.skip) w.0 c.in-Ok.ensures.fed) inv.reads;
      number = inv.number;
      going = inv.going;
      sound = inv.sound;
      allowed = inv.allowed;
      before = inv.before;
      unfailed = c.in-Ok.ensures.ok_faults ∙ inv.unfailed;
      name = c.read_more.ensures.name ∙ inv.name;
      input = inv.input;
      head = inv.head;
      stopped = inv.stopped;
      told = inv.told;
    }

pub returns-in-Err-Failed-clause-waits : goal.returns-in-Err-Failed-clause-waits
returns-in-Err-Failed-clause-waits g c = λ e past d out.
    let K = g.C.PacketCut.is in
    let m = c.units.self in
    let a = c.args.self.now in
    let inv = c.units.invariant in
    let S = g.S.Source in
    let w = c.in_ok-packet.ensures.wait (ap Ok c.in-Wait.is) in
    let f = c.in-Err-Failed.ensures in
    let one = subst (λ k. DemuxStands K (S.left m.src) k m.skip m.given m.ticket m.ended m.fault past) (sym w.0) (inv.stands past d.0) in
    let two = flags K (S.left m.src) c.next_unit.new.cut m.skip m.given m.ticket m.ended m.fault past m.ticket false m.fault refl inv.going refl one in
    let three = demux_kept K (S.left m.src) (S.left c.read_more.new.src) c.next_unit.new.cut c.read_more.new.cut m.skip m.given m.ticket m.fault (Some Device) past f.left
    c.read_more.ensures.head f.ended (λ x h. cc (h)) (λ h. inv.sound) f.cuts two in
    let four = demux_asked K (S.left c.read_more.new.src) c.read_more.new.cut m.skip m.given m.ticket false (Some Device) past c.args._port (λ h b. cc (h)) three in
    let five = flags K (S.left c.read_more.new.src) c.read_more.new.cut m.skip m.given m.ticket false (Some Device) (was_asked past c.args._port) m.ticket m.ended (Some Device) refl (sym inv.going) refl four in (
      subst (λ (k : ℕ). DemuxStands K (S.left c.read_more.new.src) c.read_more.new.cut k m.given m.ticket m.ended (Some Device) (was_asked past c.args._port)) (sym f.skip) five,
      exits_same a.input m.input a.stopped m.stopped a.told m.told inv.input inv.stopped inv.told d.1,
    )

pub returns-in-Err-NoMemory-clause-unchanged : goal.returns-in-Err-NoMemory-clause-unchanged
returns-in-Err-NoMemory-clause-unchanged g c = λ past d.
    let K = g.C.PacketCut.is in
    let m = c.units.self in
    let a = c.args.self.now in
    let inv = c.units.invariant in
    let S = g.S.Source in
    let w = c.in_ok-packet.ensures.wait (ap Ok c.in-Wait.is) in
    let f = c.in-Err-NoMemory.ensures in
    let one = subst (λ k. DemuxStands K (S.left m.src) k m.skip m.given m.ticket m.ended m.fault past) (sym w.0) (inv.stands past d.0) in
    let two = flags K (S.left m.src) c.next_unit.new.cut m.skip m.given m.ticket m.ended m.fault past m.ticket false None refl inv.going inv.sound one in
    let three = demux_kept K (S.left m.src) (S.left c.read_more.new.src) c.next_unit.new.cut c.read_more.new.cut m.skip m.given m.ticket None None past f.left
    c.read_more.ensures.head f.ended (λ x h. cc (h)) (λ h. refl) f.cuts two in
    let four = flags K (S.left c.read_more.new.src) c.read_more.new.cut m.skip m.given m.ticket false None past m.ticket m.ended m.fault refl (sym inv.going) (sym inv.sound) three in (
      subst (λ (k : ℕ). DemuxStands K (S.left c.read_more.new.src) c.read_more.new.cut k m.given m.ticket m.ended m.fault past) (sym f.skip) four,
      exits_same a.input m.input a.stopped m.stopped a.told m.told inv.input inv.stopped inv.told d.1,
    )

pub returns-then-self-clause-reads : goal.returns-then-self-clause-reads
returns-then-self-clause-reads g c = let a = c.args.self.now in reads_nothing g.C.PacketCut.is g.C.Demuxable.asks (g.S.Source.left a.src) a.cut a.skip a.given a.ended

pub returns-in_err-packet-clause-reads : goal.returns-in_err-packet-clause-reads
returns-in_err-packet-clause-reads g c =
    let a = c.args.self.now in
    let m = c.units.self in
    let left = g.S.Source.left in
    subst (λ k. Reads g.C.PacketCut.is g.C.Demuxable.asks (left a.src) a.cut a.skip a.given a.ended (left m.src) k m.skip m.given m.ended) (sym c.in_err-packet.ensures.err)
    c.units.invariant.reads

pub returns-in-Packet-clause-reads : goal.returns-in-Packet-clause-reads
returns-in-Packet-clause-reads g c =
    let a = c.args.self.now in
    let m = c.units.self in
    let left = g.S.Source.left in
    let p = c.in-Packet.packet in
    reads_packet g.C.PacketCut.is g.C.Demuxable.asks (left a.src) a.cut a.skip a.given a.ended (left m.src) m.cut c.next_unit.new.cut m.skip m.given m.ended p
    (c.in_ok-packet.ensures.packet p (ap Ok c.in-Packet.is)).0 c.units.invariant.reads

pub returns-in-Long-clause-reads : goal.returns-in-Long-clause-reads
returns-in-Long-clause-reads g c =
    let a = c.args.self.now in
    let m = c.units.self in
    let left = g.S.Source.left in
    reads_over g.C.PacketCut.is g.C.Demuxable.asks (left a.src) a.cut a.skip a.given a.ended (left m.src) m.cut c.next_unit.new.cut m.skip m.given m.ended
    c.units.invariant.reads

pub returns-in-End-clause-reads : goal.returns-in-End-clause-reads
returns-in-End-clause-reads g c =
    let a = c.args.self.now in
    let m = c.units.self in
    let left = g.S.Source.left in
    reads_over g.C.PacketCut.is g.C.Demuxable.asks (left a.src) a.cut a.skip a.given a.ended (left m.src) m.cut c.next_unit.new.cut m.skip m.given m.ended
    c.units.invariant.reads

pub returns-in-Broken-clause-reads : goal.returns-in-Broken-clause-reads
returns-in-Broken-clause-reads g c =
    let a = c.args.self.now in
    let m = c.units.self in
    let left = g.S.Source.left in
    reads_over g.C.PacketCut.is g.C.Demuxable.asks (left a.src) a.cut a.skip a.given a.ended (left m.src) m.cut c.next_unit.new.cut m.skip m.given m.ended
    c.units.invariant.reads

pub returns-in-Err-Failed-clause-reads : goal.returns-in-Err-Failed-clause-reads
returns-in-Err-Failed-clause-reads g c =
    let a = c.args.self.now in
    let m = c.units.self in
    let left = g.S.Source.left in
    let f = c.in-Err-Failed.ensures in
    let w = c.in_ok-packet.ensures.wait (ap Ok c.in-Wait.is) in
    reads_kept g.C.PacketCut.is g.C.Demuxable.asks (left a.src) a.cut a.skip a.given a.ended (left m.src) (left c.read_more.new.src) m.cut c.read_more.new.cut m.skip c.read_more.new.skip
    m.given m.ended f.left (subst (λ k. KeepsCut g.C.PacketCut.is k c.read_more.new.cut) w.0 f.cuts) f.skip c.units.invariant.reads

pub returns-in-Err-NoMemory-clause-reads : goal.returns-in-Err-NoMemory-clause-reads
returns-in-Err-NoMemory-clause-reads g c =
    let a = c.args.self.now in
    let m = c.units.self in
    let left = g.S.Source.left in
    let f = c.in-Err-NoMemory.ensures in
    let w = c.in_ok-packet.ensures.wait (ap Ok c.in-Wait.is) in
    reads_kept g.C.PacketCut.is g.C.Demuxable.asks (left a.src) a.cut a.skip a.given a.ended (left m.src) (left c.read_more.new.src) m.cut c.read_more.new.cut m.skip c.read_more.new.skip
    m.given m.ended f.left (subst (λ k. KeepsCut g.C.PacketCut.is k c.read_more.new.cut) w.0 f.cuts) f.skip c.units.invariant.reads

pub returns-then-is_some-clause-reads : goal.returns-then-is_some-clause-reads
returns-then-is_some-clause-reads g c = let a = c.args.self.now in reads_nothing g.C.PacketCut.is g.C.Demuxable.asks (g.S.Source.left a.src) a.cut a.skip a.given a.ended

pub returns-then-not-self-clause-reads : goal.returns-then-not-self-clause-reads
returns-then-not-self-clause-reads g c = let a = c.args.self.now in reads_nothing g.C.PacketCut.is g.C.Demuxable.asks (g.S.Source.left a.src) a.cut a.skip a.given a.ended

pub units-init : goal.units-init
units-init g c =
    let a = c.args.self.now in
    let none = no_fault a.fault (sym c.is_some.ensures ∙ c.if-is_some.false) in
    record {
      stands = λ past d. d;
      reads = reads_nothing g.C.PacketCut.is g.C.Demuxable.asks (g.S.Source.left a.src) a.cut a.skip a.given a.ended;
      number = refl;
      going = search;
      sound = none;
      allowed = search;
      before = none;
      unfailed = refl;
      name = refl;
      input = refl;
      head = refl;
      stopped = refl;
      told = refl;
    }
