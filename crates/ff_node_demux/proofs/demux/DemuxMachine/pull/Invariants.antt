use Rattle.std.proofs.Common.{◌≡◌, ◌+◌, ◌-◌, length, None, true, false, cond}
use Rattle.ff_net.specs.Pasts.{Past}
use Rattle.ff_node_demux.specs.Demuxing.{DemuxStands}
use Rattle.ff_node_demux.specs.laws.Reading.{Reads}
use Rattle.ff_node_demux.proofs.demux.DemuxMachine.pull.Given as goal

abbrev pub invariant-units : goal.invariant-units
invariant-units g l =
    let S = g.S.Source in
    let K = g.C.PacketCut.is in
    record {
      stands : (past : Past) → DemuxStands K (S.left l.initial.self.src) l.initial.self.cut l.initial.self.skip l.initial.self.given l.initial.self.ticket l.initial.self.ended l.initial.self.fault past
          → DemuxStands K (S.left l.self.src) l.self.cut l.self.skip l.self.given l.self.ticket l.self.ended l.self.fault past;
      reads : Reads K g.C.Demuxable.asks (S.left l.initial.self.src) l.initial.self.cut l.initial.self.skip l.initial.self.given l.initial.self.ended
          (S.left l.self.src) l.self.cut l.self.skip l.self.given l.self.ended;
      number : l.self.given ≡ l.initial.self.given;
      going : l.self.ended ≡ false;
      sound : l.self.fault ≡ None;
      allowed : l.self.ticket ≡ true;
      before : l.initial.self.fault ≡ None;
      unfailed : S.faults l.self.src ≡ S.faults l.initial.self.src;
      name : S.name l.self.src ≡ S.name l.initial.self.src;
      input : l.self.input ≡ l.initial.self.input;
      head : l.self.head ≡ l.initial.self.head;
      stopped : l.self.stopped ≡ l.initial.self.stopped;
      told : l.self.told ≡ l.initial.self.told;
    }

abbrev pub decreases-units : goal.decreases-units
decreases-units g l =
    let K = g.C.PacketCut.is in
    l.self.skip + (K.longest - length (K.waiting l.self.cut)) + cond (K.has_ended l.self.cut) 0 1
