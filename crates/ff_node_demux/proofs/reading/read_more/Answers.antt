use Rattle.std.proofs.Common.{◌∙◌, ℕ, [], take, subst, arith}
use Rattle.std.specs.Io.KnownBytes.{Consumes}
use Rattle.std.proofs.lemmas.List.{length-take}
use Rattle.ff_node_demux.proofs.DemuxSteps.{demux_read, demux_read_end}
use Rattle.ff_node_demux.proofs.ReadSteps.{fed_none, fed_piece}
use Rattle.ff_node_demux.proofs.reading.read_more.Goals as goal

pub returns-then-count-eq0-clause-read : goal.returns-then-count-eq0-clause-read
returns-then-count-eq0-clause-read g c = λ given ticket fault past d.
    let S = g.S.Source in
    let none = c.if-count-eq0.true in
    let got : Consumes (S.left c.args.src.now) (S.left c.read.new.self) [] = subst (λ (n : ℕ). Consumes (S.left c.args.src.now) (S.left c.read.new.self) (take n c.read.new.buf)) none c.in_ok-count.ensures.bytes.0 in
    demux_read_end g.C.PacketCut.is (S.left c.args.src.now) (S.left c.read.new.self) c.args.cut.now c.end.new.self c.args.skip.now given ticket fault past
    got (c.in_ok-count.ensures.bytes.1 none (omega (arith, c.requires.some, c.requires.wanted, c.in_ok-count.ensures.bound, length-take c.min-room.result c.args.piece.now))) (c.end.ensures.head
    ∙ c.reserve.ensures.same.same_head) (λ head fed n cuts. c.end.ensures.cuts head fed n (c.reserve.ensures.cuts head fed n cuts)) d

pub returns-clause-read : goal.returns-clause-read
returns-clause-read g c = λ given ticket fault past d.
    let S = g.S.Source in
    let eh = c.feed_piece.ensures.kept.same_head ∙ c.reserve.ensures.same.same_head in
    let ee = c.feed_piece.ensures.kept.same_end ∙ (c.reserve.ensures.same.same_end ∙ c.requires.going) in
    demux_read g.C.PacketCut.is (S.left c.args.src.now) (S.left c.read.new.self) c.args.cut.now c.feed_piece.new.cut c.args.skip.now c.feed_piece.new.skip given ticket fault past (take c.in_ok-count.count c.read.new.buf)
    c.in_ok-count.ensures.bytes.0 c.feed_piece.ensures.skip eh ee (λ head fed n cuts. c.feed_piece.ensures.cuts head fed n (c.reserve.ensures.cuts head fed n cuts)) d

pub returns-then-count-eq0-clause-fed : goal.returns-then-count-eq0-clause-fed
returns-then-count-eq0-clause-fed g c = λ head read n f.
    let S = g.S.Source in
    let K = g.C.PacketCut.is in
    let got : Consumes (S.left c.args.src.now) (S.left c.read.new.self) [] = subst (λ (n : ℕ). Consumes (S.left c.args.src.now) (S.left c.read.new.self) (take n c.read.new.buf)) c.if-count-eq0.true c.in_ok-count.ensures.bytes.0 in
    ([], got, omega arith, fed_none K c.args.cut.now c.end.new.self c.args.skip.now (λ h xs k cuts. c.end.ensures.cuts h xs k (c.reserve.ensures.cuts h xs k cuts)) head read n f)

pub returns-clause-fed : goal.returns-clause-fed
returns-clause-fed g c = λ head read n f.
    let K = g.C.PacketCut.is in
    let bytes = take c.in_ok-count.count c.read.new.buf in (
      bytes,
      c.in_ok-count.ensures.bytes.0,
      omega (arith, length-take c.in_ok-count.count c.read.new.buf, length-take c.min-room.result c.args.piece.now),
      fed_piece K c.args.cut.now c.feed_piece.new.cut c.args.skip.now c.feed_piece.new.skip bytes
          (λ h xs k cuts. c.feed_piece.ensures.cuts h xs k (c.reserve.ensures.cuts h xs k cuts)) c.feed_piece.ensures.skip head read n f,
    )
