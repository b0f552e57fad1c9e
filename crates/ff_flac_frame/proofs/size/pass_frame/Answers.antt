use Rattle.std.proofs.Common.{List, Bool, sym, ap, ◌∙◌}
use Rattle.std.proofs.lemmas.Result.{err_from_is_err_and}
use Rattle.ff_bits.specs.Reading.{give}
use Rattle.ff_flac_frame.specs.Frame.{unpadded, frame}
use Rattle.ff_flac_frame.specs.laws.Parts.{header_of}
use Rattle.ff_flac_frame.proofs.PassedLemmas.{fails_on, fails_of, frame_behind}
use Rattle.ff_flac_frame.proofs.Seals.{pad_first, frame_first}
use Rattle.ff_flac_frame.proofs.size.pass_frame.Goals as goal

pub returns-in_err-header : goal.returns-in_err-header
returns-in_err-header c =
    let p = err_from_is_err_and c.from_residual.result c.from_residual.ensures.1 in
    let s = c.args.stream.now in
    let bytes = c.args.bytes.now in
    let start = c.args.reader.now in
    let end = c.in_err-header.field-0.0 in
    let body = fails_of end (unpadded s start) (λ f. f.header) c.in_err-header.ensures in
    let whole = frame_first s c.requires.stream bytes start c.requires.start end (pad_first s c.requires.stream bytes start c.requires.start end body) in
    rw (p.1, p.2) (fails_on end (frame s start) (λ f. give f.header) whole)

pub read_end-requires-clause-body : goal.read_end-requires-clause-body
read_end-requires-clause-body c =
    let s = c.args.stream.now in
    let b = frame_behind (unpadded s c.args.reader.now) (header_of c.in_ok-header.header) _ c.in_ok-header.ensures in
    (b.0, ap (λ (xs : List Bool). unpadded s xs) (sym c.requires.start) ∙ b.1)
