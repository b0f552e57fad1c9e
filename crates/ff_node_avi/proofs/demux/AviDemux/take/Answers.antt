use Rattle.std.proofs.Common.{◌≡◌, ◌<◌, ◌∙◌, ◌+◌, ℕ, Option, Some, None, Ok, Err, true, false, refl, sym, ap, subst, arith}
use Rattle.ff_stream.specs.declared.item.Item.TheVariants.{Packet}
use Rattle.ff_frame.specs.declared.packet.Pkt.{Pkt}
use Rattle.ff_net.specs.declared.fault.Fault.TheVariants.{Damaged, TooLong}
use Rattle.ff_node_demux.proofs.DemuxSteps.{no_fault}
use Rattle.ff_node_avi.specs.declared.demux.Port.{Port}
use Rattle.ff_node_avi.specs.declared.reader.Told.TheVariants.{Packet as Found, End, Broken}
use Rattle.ff_node_avi.specs.declared.reader.ReadEnd.TheVariants.{Failed, NoMemory}
use Rattle.ff_node_avi.specs.Demuxing.{passes_at, port_of}
use Rattle.ff_node_avi.specs.Ported.{waits_at}
use Rattle.ff_node_avi.specs.laws.AviPorts.{of_two}
use Rattle.ff_node_avi.proofs.DemuxSteps.{flags, going_at, avi_unheld, avi_unit, avi_dropped, avi_long, avi_stop, not_true, not_false}
use Rattle.ff_node_avi.proofs.PieceSteps.{reads_nothing, avi_used, avi_over}
use Rattle.ff_node_avi.proofs.demux.AviDemux.take.Goals as goal

pub returns-then-passes-clause-stands : goal.returns-then-passes-clause-stands
returns-then-passes-clause-stands g c = λ past s.
    let m = c.args.self.now in
    let r = m.reader in
    let r' = c.next.new.self in
    let L = g.S.Source.left r.src in
    let L' = g.S.Source.left r'.src in
    let going = of_two m.first.going m.second.going in
    let closed = of_two m.first.closed m.second.closed in
    let t : m.ticket ≡ true = search in
    let e : m.ended ≡ false = search in
    let f = no_fault m.fault (sym c.is_some.ensures ∙ c.if-is_some.false) in
    let w = avi_unheld L r.cut r.skip m.ports m.given m.ended m.ticket m.waiting going closed m.fault past t s.0 in
    let now = flags L r.cut r.skip m.ports m.given m.ended false m.ticket true m.waiting None going closed m.fault None past e t w f s.0 in
    let stream = c.in-Ok-Packet.stream in
    let p = c.in-Ok-Packet.packet in
    let is : c.next.result ≡ Ok (Found c.in-Ok-Packet.stream c.in-Ok-Packet.packet) = cc in
    let many = subst (λ (q : ℕ). passes_at m.ports m.given (q, Packet p) ≡ true) c.port-port.ensures.value (sym c.passes.ensures.value ∙ c.if-passes.true) in
    let made = avi_long L r.cut r.skip m.ports m.given L' r'.cut r'.skip going closed past stream p (c.next.ensures.packet stream p is) many now in
    (flags L' r'.cut r'.skip m.ports m.given true true false false None m.waiting going closed (Some TooLong) (Some TooLong) past refl refl (sym w) refl made, s.1)

pub returns-then-not-port-clause-stands : goal.returns-then-not-port-clause-stands
returns-then-not-port-clause-stands g c = λ past s.
    let m = c.args.self.now in
    let r = m.reader in
    let r' = c.next.new.self in
    let L = g.S.Source.left r.src in
    let L' = g.S.Source.left r'.src in
    let going = of_two m.first.going m.second.going in
    let closed = of_two m.first.closed m.second.closed in
    let t : m.ticket ≡ true = search in
    let e : m.ended ≡ false = search in
    let f = no_fault m.fault (sym c.is_some.ensures ∙ c.if-is_some.false) in
    let w = avi_unheld L r.cut r.skip m.ports m.given m.ended m.ticket m.waiting going closed m.fault past t s.0 in
    let now = flags L r.cut r.skip m.ports m.given m.ended false m.ticket true m.waiting None going closed m.fault None past e t w f s.0 in
    let stream = c.in-Ok-Packet.stream in
    let p = c.in-Ok-Packet.packet in
    let is : c.next.result ≡ Ok (Found c.in-Ok-Packet.stream c.in-Ok-Packet.packet) = cc in
    let few = subst (λ (q : ℕ). passes_at m.ports m.given (q, Packet p) ≡ false) c.port-port.ensures.value (sym c.passes.ensures.value ∙ c.if-passes.false) in
    let within : c.port-port.result < 2 = omega arith in
    let stopped = not_true c.port.result.going c.if-not-port.true in
    let out = subst (λ (q : ℕ). going q ≡ false) c.port-port.ensures.value
    (going_at m.first m.second c.port-port.result within ∙ (ap (λ (q : Port). q.going) (sym c.port.ensures) ∙ stopped)) in
    let made = avi_unit L r.cut r.skip m.ports m.given L' r'.cut r'.skip None going closed past stream p (c.next.ensures.packet stream p is) few (λ w e. cc)
    (avi_dropped L r.cut r.skip m.ports m.given going (port_of m.ports stream) p out) now in
    (flags L' r'.cut r'.skip m.ports (m.given + 1) false m.ended false false None m.waiting going closed None m.fault past (sym e) refl (sym w) (sym f) made, s.1)

pub returns-else-not-port-clause-stands : goal.returns-else-not-port-clause-stands
returns-else-not-port-clause-stands g c = λ past s.
    let m = c.args.self.now in
    let r = m.reader in
    let r' = c.next.new.self in
    let L = g.S.Source.left r.src in
    let L' = g.S.Source.left r'.src in
    let going = of_two m.first.going m.second.going in
    let closed = of_two m.first.closed m.second.closed in
    let t : m.ticket ≡ true = search in
    let e : m.ended ≡ false = search in
    let f = no_fault m.fault (sym c.is_some.ensures ∙ c.if-is_some.false) in
    let w = avi_unheld L r.cut r.skip m.ports m.given m.ended m.ticket m.waiting going closed m.fault past t s.0 in
    let now = flags L r.cut r.skip m.ports m.given m.ended false m.ticket true m.waiting None going closed m.fault None past e t w f s.0 in
    let stream = c.in-Ok-Packet.stream in
    let p = c.in-Ok-Packet.packet in
    let k = c.port-port.result in
    let is : c.next.result ≡ Ok (Found c.in-Ok-Packet.stream c.in-Ok-Packet.packet) = cc in
    let few = subst (λ (q : ℕ). passes_at m.ports m.given (q, Packet p) ≡ false) c.port-port.ensures.value (sym c.passes.ensures.value ∙ c.if-passes.false) in
    let within : c.port-port.result < 2 = omega arith in
    let goes = not_false c.port.result.going c.if-not-port.false in
    let go : going k ≡ true = going_at m.first m.second k within ∙ (ap (λ (q : Port). q.going) (sym c.port.ensures) ∙ goes) in
    let made = avi_unit L r.cut r.skip m.ports m.given L' r'.cut r'.skip (Some (k, p)) going closed past stream p (c.next.ensures.packet stream p is) few
    (λ u e. (let same : k ≡ u.0 = ap (λ (o : Option (ℕ × Pkt)). elim o [ None ↦ k | Some v ↦ v.0 ]) e in subst (λ (q : ℕ). going q ≡ true) same go))
    (λ q h. ap (λ (i : ℕ). waits_at (Some (i, p)) q) c.port-port.ensures.value) now in (
      flags L' r'.cut r'.skip m.ports (m.given + 1) false m.ended false false (Some (k, p)) (Some (k, p)) going closed None m.fault past (sym e) refl refl (sym f)
          made,
      s.1,
    )

pub returns-in-Ok-End-clause-stands : goal.returns-in-Ok-End-clause-stands
returns-in-Ok-End-clause-stands g c = λ past s.
    let m = c.args.self.now in
    let r = m.reader in
    let r' = c.next.new.self in
    let L = g.S.Source.left r.src in
    let L' = g.S.Source.left r'.src in
    let going = of_two m.first.going m.second.going in
    let closed = of_two m.first.closed m.second.closed in
    let t : m.ticket ≡ true = search in
    let e : m.ended ≡ false = search in
    let f = no_fault m.fault (sym c.is_some.ensures ∙ c.if-is_some.false) in
    let w = avi_unheld L r.cut r.skip m.ports m.given m.ended m.ticket m.waiting going closed m.fault past t s.0 in
    let now = flags L r.cut r.skip m.ports m.given m.ended false m.ticket true m.waiting None going closed m.fault None past e t w f s.0 in
    let is : c.next.result ≡ Ok End = cc in
    let made = avi_stop L r.cut r.skip m.ports m.given L' r'.cut r'.skip going closed past None (c.next.ensures.end is) now in
    (flags L' r'.cut r'.skip m.ports m.given true true false false None m.waiting going closed None m.fault past refl refl (sym w) (sym f) made, s.1)

pub returns-in-Ok-Broken-clause-stands : goal.returns-in-Ok-Broken-clause-stands
returns-in-Ok-Broken-clause-stands g c = λ past s.
    let m = c.args.self.now in
    let r = m.reader in
    let r' = c.next.new.self in
    let L = g.S.Source.left r.src in
    let L' = g.S.Source.left r'.src in
    let going = of_two m.first.going m.second.going in
    let closed = of_two m.first.closed m.second.closed in
    let t : m.ticket ≡ true = search in
    let e : m.ended ≡ false = search in
    let f = no_fault m.fault (sym c.is_some.ensures ∙ c.if-is_some.false) in
    let w = avi_unheld L r.cut r.skip m.ports m.given m.ended m.ticket m.waiting going closed m.fault past t s.0 in
    let now = flags L r.cut r.skip m.ports m.given m.ended false m.ticket true m.waiting None going closed m.fault None past e t w f s.0 in
    let at = c.in-Ok-Broken.offset in
    let is : c.next.result ≡ Ok (Broken c.in-Ok-Broken.offset) = cc in
    let made = avi_stop L r.cut r.skip m.ports m.given L' r'.cut r'.skip going closed past (Some at) (c.next.ensures.broken at is) now in (
      flags L' r'.cut r'.skip m.ports m.given true true false false None m.waiting going closed (Some (Damaged at)) (Some (Damaged at)) past refl refl (sym w) refl
          made,
      s.1,
    )

pub returns-then-not-self-clause-reads : goal.returns-then-not-self-clause-reads
returns-then-not-self-clause-reads g c = let m = c.args.self.now in reads_nothing (g.S.Source.left m.reader.src) m.reader.cut m.reader.skip m.given m.ended

pub returns-then-self-clause-reads : goal.returns-then-self-clause-reads
returns-then-self-clause-reads g c = let m = c.args.self.now in reads_nothing (g.S.Source.left m.reader.src) m.reader.cut m.reader.skip m.given m.ended

pub returns-then-is_some-clause-reads : goal.returns-then-is_some-clause-reads
returns-then-is_some-clause-reads g c = let m = c.args.self.now in reads_nothing (g.S.Source.left m.reader.src) m.reader.cut m.reader.skip m.given m.ended

pub returns-then-passes-clause-reads : goal.returns-then-passes-clause-reads
returns-then-passes-clause-reads g c =
    let m = c.args.self.now in
    let left = g.S.Source.left in
    let e : m.ended ≡ false = search in
    let is : c.next.result ≡ Ok (Found c.in-Ok-Packet.stream c.in-Ok-Packet.packet) = cc in
    avi_over left m c.next.new.self (m.given + 1) m.ended
    (avi_used left m c.next.new.self c.next.result (Ok (Found c.in-Ok-Packet.stream c.in-Ok-Packet.packet)) e c.next.ensures.reads is)

pub returns-then-not-port-clause-reads : goal.returns-then-not-port-clause-reads
returns-then-not-port-clause-reads g c =
    let m = c.args.self.now in
    let left = g.S.Source.left in
    let e : m.ended ≡ false = search in
    let is : c.next.result ≡ Ok (Found c.in-Ok-Packet.stream c.in-Ok-Packet.packet) = cc in
    avi_used left m c.next.new.self c.next.result (Ok (Found c.in-Ok-Packet.stream c.in-Ok-Packet.packet)) e c.next.ensures.reads is

pub returns-else-not-port-clause-reads : goal.returns-else-not-port-clause-reads
returns-else-not-port-clause-reads g c =
    let m = c.args.self.now in
    let left = g.S.Source.left in
    let e : m.ended ≡ false = search in
    let is : c.next.result ≡ Ok (Found c.in-Ok-Packet.stream c.in-Ok-Packet.packet) = cc in
    avi_used left m c.next.new.self c.next.result (Ok (Found c.in-Ok-Packet.stream c.in-Ok-Packet.packet)) e c.next.ensures.reads is

pub returns-in-Ok-End-clause-reads : goal.returns-in-Ok-End-clause-reads
returns-in-Ok-End-clause-reads g c =
    let m = c.args.self.now in
    let left = g.S.Source.left in
    let e : m.ended ≡ false = search in
    let is : c.next.result ≡ Ok End = cc in
    avi_over left m c.next.new.self m.given m.ended (avi_used left m c.next.new.self c.next.result (Ok End) e c.next.ensures.reads is)

pub returns-in-Ok-Broken-clause-reads : goal.returns-in-Ok-Broken-clause-reads
returns-in-Ok-Broken-clause-reads g c =
    let m = c.args.self.now in
    let left = g.S.Source.left in
    let e : m.ended ≡ false = search in
    let is : c.next.result ≡ Ok (Broken c.in-Ok-Broken.offset) = cc in
    avi_over left m c.next.new.self m.given m.ended (avi_used left m c.next.new.self c.next.result (Ok (Broken c.in-Ok-Broken.offset)) e c.next.ensures.reads is)

pub returns-in-Err-Failed-clause-reads : goal.returns-in-Err-Failed-clause-reads
returns-in-Err-Failed-clause-reads g c =
    let m = c.args.self.now in
    let left = g.S.Source.left in
    let e : m.ended ≡ false = search in
    let is : c.next.result ≡ Err Failed = cc in
    avi_used left m c.next.new.self c.next.result (Err Failed) e c.next.ensures.reads is

pub returns-in-Err-NoMemory-clause-reads : goal.returns-in-Err-NoMemory-clause-reads
returns-in-Err-NoMemory-clause-reads g c =
    let m = c.args.self.now in
    let left = g.S.Source.left in
    let e : m.ended ≡ false = search in
    let is : c.next.result ≡ Err NoMemory = cc in
    avi_used left m c.next.new.self c.next.result (Err NoMemory) e c.next.ensures.reads is
