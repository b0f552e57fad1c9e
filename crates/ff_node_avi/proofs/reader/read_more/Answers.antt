use Rattle.std.proofs.Common.{◌∙◌, ℕ, [], take, drop, inl, inr, refl, subst, arith}
use Rattle.std.specs.Io.KnownBytes.{Consumes}
use Rattle.std.proofs.lemmas.List.{length-take, length-drop}
use Rattle.ff_avi.specs.laws.Cuts.{KeepsCut}
use Rattle.ff_node_avi.proofs.PieceSteps.{fed_none, fed_piece}
use Rattle.ff_node_avi.proofs.ReadSteps.{fed_kept, fed_more, kept_reach, fed_reach, lies_kept, lies_fed, feeds_nothing}
use Rattle.ff_node_avi.proofs.reader.read_more.Goals as goal

pub returns-in_err-count-clause-stays : goal.returns-in_err-count-clause-stays
returns-in_err-count-clause-stays g c =
    let L = g.S.Source.left in
    let a = c.args in
    lies_kept (L a.src.now) (L c.read.new.self) a.cut.now c.reserve.new.self a.skip.now a.skip.now c.in_err-count.ensures.bytes refl
    c.reserve.ensures.ended c.reserve.ensures.cuts

pub returns-in_err-count-clause-fed : goal.returns-in_err-count-clause-fed
returns-in_err-count-clause-fed g c = fed_kept c.args.cut.now c.reserve.new.self c.reserve.ensures.cuts c.requires.fed

pub returns-then-count-eq0-clause-fed : goal.returns-then-count-eq0-clause-fed
returns-then-count-eq0-clause-fed g c =
    fed_kept c.args.cut.now c.end.new.self (λ head used fed n k. c.end.ensures.cuts head used fed n (c.reserve.ensures.cuts head used fed n k)) c.requires.fed

pub returns-then-count-eq0-clause-stays : goal.returns-then-count-eq0-clause-stays
returns-then-count-eq0-clause-stays g c =
    let L = g.S.Source.left in
    let a = c.args in
    let none = c.if-count-eq0.true in
    let some = c.requires.some in
    let got : Consumes (L a.src.now) (L c.read.new.self) [] =
    subst (λ (n : ℕ). Consumes (L a.src.now) (L c.read.new.self) (take n c.read.new.buf)) none c.in_ok-count.ensures.bytes.0 in
    lies_fed (L a.src.now) (L c.read.new.self) a.cut.now c.end.new.self a.skip.now a.skip.now [] got (omega arith)
    (inr (c.in_ok-count.ensures.bytes.1 none (omega (arith, some, c.in_ok-count.ensures.bound))))
    (feeds_nothing a.cut.now c.end.new.self a.skip.now (λ head used fed n k. c.end.ensures.cuts head used fed n (c.reserve.ensures.cuts head used fed n k)))

pub returns-then-count-eq0-clause-nearer : goal.returns-then-count-eq0-clause-nearer
returns-then-count-eq0-clause-nearer g c =
    let keeps : KeepsCut c.args.cut.now c.end.new.self = λ head used fed n k. c.end.ensures.cuts head used fed n (c.reserve.ensures.cuts head used fed n k) in
    inl (c.end.ensures.ended, refl, kept_reach c.args.cut.now c.end.new.self keeps c.requires.fed)

pub returns-clause-fed : goal.returns-clause-fed
returns-clause-fed g c =
    fed_more c.args.cut.now c.feed_piece.new.cut (drop c.args.skip.now (take c.in_ok-count.count c.read.new.buf))
    (λ head used fed n k. c.feed_piece.ensures.cuts head used fed n (c.reserve.ensures.cuts head used fed n k)) c.requires.fed

pub returns-clause-stays : goal.returns-clause-stays
returns-clause-stays g c =
    let L = g.S.Source.left in
    let a = c.args in
    lies_fed (L a.src.now) (L c.read.new.self) a.cut.now c.feed_piece.new.cut a.skip.now c.feed_piece.new.skip (take c.in_ok-count.count c.read.new.buf)
    c.in_ok-count.ensures.bytes.0 c.feed_piece.ensures.skip (inl (c.feed_piece.ensures.ended ∙ (c.reserve.ensures.ended ∙ c.requires.going)))
    (λ head used fed n k. c.feed_piece.ensures.cuts head used fed n (c.reserve.ensures.cuts head used fed n k))

pub returns-clause-nearer : goal.returns-clause-nearer
returns-clause-nearer g c =
    let a = c.args in
    let piece = take c.in_ok-count.count c.read.new.buf in
    let reach = fed_reach a.cut.now c.feed_piece.new.cut (drop a.skip.now piece)
    (λ head used fed n k. c.feed_piece.ensures.cuts head used fed n (c.reserve.ensures.cuts head used fed n k)) c.requires.fed in
    let some = c.if-count-eq0.false in
    inr (
      c.feed_piece.ensures.ended ∙ (c.reserve.ensures.ended ∙ c.requires.going),
      omega (arith, reach, some, c.feed_piece.ensures.skip, c.in_ok-count.ensures.bound, length-drop a.skip.now piece, length-take c.in_ok-count.count c.read.new.buf),
      omega (arith, c.feed_piece.ensures.skip),
    )

pub returns-then-count-eq0-clause-feeds : goal.returns-then-count-eq0-clause-feeds
returns-then-count-eq0-clause-feeds g c = λ head used read n f.
    let L = g.S.Source.left in
    let got : Consumes (L c.args.src.now) (L c.read.new.self) [] =
    subst (λ (n : ℕ). Consumes (L c.args.src.now) (L c.read.new.self) (take n c.read.new.buf)) c.if-count-eq0.true c.in_ok-count.ensures.bytes.0 in
    let keeps : KeepsCut c.args.cut.now c.end.new.self = λ h us xs k cuts. c.end.ensures.cuts h us xs k (c.reserve.ensures.cuts h us xs k cuts) in
    ([], got, omega arith, fed_none c.args.cut.now c.end.new.self c.args.skip.now keeps head used read n f)

pub returns-clause-feeds : goal.returns-clause-feeds
returns-clause-feeds g c = λ head used read n f.
    let few = c.requires.few in
    let bytes = take c.in_ok-count.count c.read.new.buf in (
      bytes,
      c.in_ok-count.ensures.bytes.0,
      omega (arith, few, length-take c.in_ok-count.count c.read.new.buf),
      fed_piece c.args.cut.now c.feed_piece.new.cut c.args.skip.now c.feed_piece.new.skip bytes
          (λ h us xs k cuts. c.feed_piece.ensures.cuts h us xs k (c.reserve.ensures.cuts h us xs k cuts)) c.feed_piece.ensures.skip head used read n f,
    )
