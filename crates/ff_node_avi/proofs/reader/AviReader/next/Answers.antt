use Rattle.std.proofs.Common.{refl, false, ◌≡◌, ◌∙◌, ℕ, Some, None, subst, arith}
use Rattle.ff_frame.specs.declared.cut.Cut.{Cut}
use Rattle.ff_frame.specs.declared.packet.Pkt.{Pkt}
use Rattle.ff_avi.specs.laws.Cuts.{Tells}
use Rattle.ff_node_avi.specs.Reading.{Reaches, Closes}
use Rattle.ff_node_avi.proofs.PieceSteps.{reads_nothing, reads_kept, reads_same, reads_piece, reads_packet, reads_err}
use Rattle.ff_node_avi.proofs.ReadSteps.{on_err, fed_told, kept_reach, lies_same, lies_packet, lies_over, nearer}
use Rattle.ff_node_avi.proofs.reader.AviReader.next.Goals as goal

pub invariant_of-self : goal.invariant_of-self
invariant_of-self g c =
    let m = c.units.self in
    record { some_piece = m.some_piece; one_piece = m.one_piece; fed = fed_told m.cut c.pull.new.self c.pull.result c.pull.ensures.ok c.pull.ensures.err m.fed }

pub invariant_of-self-in-Pkt-1 : goal.invariant_of-self-in-Pkt-1
invariant_of-self-in-Pkt-1 g c =
    let m = c.units.self in
    record { some_piece = m.some_piece; one_piece = m.one_piece; fed = fed_told m.cut c.pull.new.self c.pull.result c.pull.ensures.ok c.pull.ensures.err m.fed }

pub invariant_of-self-in-End : goal.invariant_of-self-in-End
invariant_of-self-in-End g c =
    let m = c.units.self in
    record { some_piece = m.some_piece; one_piece = m.one_piece; fed = fed_told m.cut c.pull.new.self c.pull.result c.pull.ensures.ok c.pull.ensures.err m.fed }

pub invariant_of-self-in-Broken-1 : goal.invariant_of-self-in-Broken-1
invariant_of-self-in-Broken-1 g c =
    let m = c.units.self in
    record { some_piece = m.some_piece; one_piece = m.one_piece; fed = fed_told m.cut c.pull.new.self c.pull.result c.pull.ensures.ok c.pull.ensures.err m.fed }

pub returns-in_err-stream-clause-stays : goal.returns-in_err-stream-clause-stays
returns-in_err-stream-clause-stays g c =
    let m = c.units.self in
    on_err c.from_residual.result _ (λ head used file n l.
    lies_same (g.S.Source.left m.src) m.cut m.skip c.pull.new.self c.pull.ensures.ended c.in_err-stream.ensures.err head used file n
    (c.units.invariant.stays head used file n l))

pub returns-in-Pkt-clause-packet : goal.returns-in-Pkt-clause-packet
returns-in-Pkt-clause-packet g c = λ stream p e head used file n l.
    let S = g.S.Source in
    let m = c.units.self in
    let new = c.pull.new.self in
    let s = c.in_ok-stream.stream in
    let q = c.in-Pkt.packet in
    let same_stream : s ≡ stream = cc (e) in
    let same_packet : q ≡ p = cc (e) in
    let t = subst (λ (told : Cut). Tells m.cut new s told) c.in-Pkt.is c.in_ok-stream.ensures.ok in
    let r = lies_packet (S.left m.src) m.cut m.skip new s q c.pull.ensures.ended t.0 in
    subst (λ (x : Pkt). Reaches (S.left m.src) m.cut m.skip (S.left m.src) new m.skip stream x) same_packet
    (subst (λ (k : ℕ). Reaches (S.left m.src) m.cut m.skip (S.left m.src) new m.skip k q) same_stream r) head used file n (c.units.invariant.stays head used file n l)

pub returns-in-End-clause-end : goal.returns-in-End-clause-end
returns-in-End-clause-end g c = λ e head used file n l.
    let m = c.units.self in
    let t = subst (λ (told : Cut). Tells m.cut c.pull.new.self c.in_ok-stream.stream told) c.in-End.is c.in_ok-stream.ensures.ok in
    lies_over (g.S.Source.left m.src) m.cut m.skip c.pull.new.self None c.pull.ensures.ended t.0 t.1 head used file n (c.units.invariant.stays head used file n l)

pub returns-in-Broken-clause-broken : goal.returns-in-Broken-clause-broken
returns-in-Broken-clause-broken g c = λ offset e head used file n l.
    let L = g.S.Source.left c.units.self.src in
    let m = c.units.self in
    let at = c.in-Broken.offset in
    let same : at ≡ offset = cc (e) in
    let t = subst (λ (told : Cut). Tells m.cut c.pull.new.self c.in_ok-stream.stream told) c.in-Broken.is c.in_ok-stream.ensures.ok in
    subst (λ (k : ℕ). Closes L m.cut m.skip (Some k)) same
    (lies_over L m.cut m.skip c.pull.new.self (Some at) c.pull.ensures.ended t.0 t.1) head used file n (c.units.invariant.stays head used file n l)

pub returns-in_err-stream-clause-reads : goal.returns-in_err-stream-clause-reads
returns-in_err-stream-clause-reads g c = λ given.
    let L = g.S.Source.left in
    let m = c.units.self in
    let a = c.args.self.now in
    reads_err (L a.src) a.cut a.skip given false (L m.src) c.pull.new.self m.skip given false c.from_residual.result c.from_residual.ensures.0
    (reads_same (L a.src) a.cut a.skip given false (L m.src) m.cut c.pull.new.self m.skip given false c.in_err-stream.ensures.err (c.units.invariant.reads given))

pub returns-in-Pkt-clause-reads : goal.returns-in-Pkt-clause-reads
returns-in-Pkt-clause-reads g c = λ given.
    let L = g.S.Source.left in
    let m = c.units.self in
    let a = c.args.self.now in
    let t = subst (λ (told : Cut). Tells m.cut c.pull.new.self c.in_ok-stream.stream told) c.in-Pkt.is c.in_ok-stream.ensures.ok in
    reads_packet (L a.src) a.cut a.skip given false (L m.src) m.cut c.pull.new.self m.skip given c.in_ok-stream.stream false c.in-Pkt.packet t.0
    (c.units.invariant.reads given)

pub returns-in-End-clause-reads : goal.returns-in-End-clause-reads
returns-in-End-clause-reads g c = λ given.
    let L = g.S.Source.left in
    let m = c.units.self in
    let a = c.args.self.now in
    let t = subst (λ (told : Cut). Tells m.cut c.pull.new.self c.in_ok-stream.stream told) c.in-End.is c.in_ok-stream.ensures.ok in
    reads_same (L a.src) a.cut a.skip given false (L m.src) m.cut c.pull.new.self m.skip given false t.0 (c.units.invariant.reads given)

pub returns-in-Broken-clause-reads : goal.returns-in-Broken-clause-reads
returns-in-Broken-clause-reads g c = λ given.
    let L = g.S.Source.left in
    let m = c.units.self in
    let a = c.args.self.now in
    let t = subst (λ (told : Cut). Tells m.cut c.pull.new.self c.in_ok-stream.stream told) c.in-Broken.is c.in_ok-stream.ensures.ok in
    reads_same (L a.src) a.cut a.skip given false (L m.src) m.cut c.pull.new.self m.skip given false t.0 (c.units.invariant.reads given)

pub returns-in_err-read_more-in-NotYet-clause-reads : goal.returns-in_err-read_more-in-NotYet-clause-reads
returns-in_err-read_more-in-NotYet-clause-reads g c = λ given.
    let L = g.S.Source.left in
    let m = c.units.self in
    let a = c.args.self.now in
    let cut = c.pull.new.self in
    let t = subst (λ (told : Cut). Tells m.cut cut c.in_ok-stream.stream told) c.in-NotYet.is c.in_ok-stream.ensures.ok in
    let kept = reads_same (L a.src) a.cut a.skip given false (L m.src) m.cut cut m.skip given false t.0 (c.units.invariant.reads given) in
    let e = c.in_err-read_more-in-NotYet.ensures in
    reads_err (L a.src) a.cut a.skip given false (L c.read_more.new.src) c.read_more.new.cut c.read_more.new.skip given false
    c.from_residual-in_err-read_more-in-NotYet.result c.from_residual-in_err-read_more-in-NotYet.ensures.0
    (reads_kept (L a.src) a.cut a.skip given false (L m.src) (L c.read_more.new.src) cut c.read_more.new.cut m.skip c.read_more.new.skip given false
    e.left e.cuts e.skip kept)

pub read_more-requires-clause-fed : goal.read_more-requires-clause-fed
read_more-requires-clause-fed g c = fed_told c.units.self.cut c.pull.new.self c.pull.result c.pull.ensures.ok c.pull.ensures.err c.units.self.fed

pub units-smaller : goal.units-smaller
units-smaller g c =
    let m = c.units.self in
    let cut = c.pull.new.self in
    let t = subst (λ (told : Cut). Tells m.cut cut c.in_ok-stream.stream told) c.in-NotYet.is c.in_ok-stream.ensures.ok in
    nearer m.cut cut c.read_more.new.cut m.skip c.read_more.new.skip (kept_reach m.cut cut t.0 m.fed) c.pull.ensures.ended t.1.0 (omega (arith, cut.near)) t.1.2
    c.in_ok-read_more-in-NotYet.ensures.nearer

pub units-init : goal.units-init
units-init g c =
    let a = c.args.self.now in
    record { reads = λ given. reads_nothing (g.S.Source.left a.src) a.cut a.skip given false; stays = λ head used file n l. l; unfailed = refl; name = refl }

pub units-preserved : goal.units-preserved
units-preserved g c =
    let S = g.S.Source in
    let m = c.units.self in
    let cut = c.pull.new.self in
    let t = subst (λ (told : Cut). Tells m.cut cut c.in_ok-stream.stream told) c.in-NotYet.is c.in_ok-stream.ensures.ok in
    record {
      reads = λ given.
          let a = c.args.self.now in
          let kept = reads_same (S.left a.src) a.cut a.skip given false (S.left m.src) m.cut cut m.skip given false t.0 (c.units.invariant.reads given) in
          reads_piece (S.left a.src) a.cut a.skip given false (S.left m.src) (S.left c.read_more.new.src) cut c.read_more.new.cut m.skip c.read_more.new.skip t.1.1
          c.in_ok-read_more-in-NotYet.ensures.feeds kept;
      stays = λ head used file n l. c.in_ok-read_more-in-NotYet.ensures.stays head used file n
          (lies_same (g.S.Source.left m.src) m.cut m.skip cut c.pull.ensures.ended t.0 head used file n (c.units.invariant.stays head used file n l));
      unfailed = c.in_ok-read_more-in-NotYet.ensures.ok_faults ∙ c.units.invariant.unfailed;
      name = c.in_ok-read_more-in-NotYet.ensures.name ∙ c.units.invariant.name;
    }

pub returns-in_err-read_more-in-NotYet-clause-stays : goal.returns-in_err-read_more-in-NotYet-clause-stays
returns-in_err-read_more-in-NotYet-clause-stays g c =
    let m = c.units.self in
    let cut = c.pull.new.self in
    let t = subst (λ (told : Cut). Tells m.cut cut c.in_ok-stream.stream told) c.in-NotYet.is c.in_ok-stream.ensures.ok in
    on_err c.from_residual-in_err-read_more-in-NotYet.result _ (λ head used file n l. c.in_err-read_more-in-NotYet.ensures.stays head used file n
    (lies_same (g.S.Source.left m.src) m.cut m.skip cut c.pull.ensures.ended t.0 head used file n (c.units.invariant.stays head used file n l)))
