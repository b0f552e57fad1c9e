use Rattle.std.proofs.Common.{ap, sym, ◌∙◌, List, Bool}
use Rattle.std.proofs.lemmas.Result.{err_from_is_err_and}
use Rattle.ff_flac_frame.specs.Frame.{unpadded, frame}
use Rattle.ff_flac_frame.specs.laws.Parts.{read_of}
use Rattle.ff_flac_frame.proofs.Seals.{pad_first, frame_first}
use Rattle.ff_flac_frame.proofs.frame.read_frame.Goals as goal

pub returns-in_err-read : goal.returns-in_err-read
returns-in_err-read c =
    let p = err_from_is_err_and c.from_residual.result c.from_residual.ensures.1 in
    let s = c.args.stream.now in
    let end = c.in_err-read.field-0.0 in
    let pad = pad_first s c.requires.stream c.args.bytes.now c.args.reader.now c.requires.start end c.in_err-read.ensures in
    rw (p.1, p.2) (frame_first s c.requires.stream c.args.bytes.now c.args.reader.now c.requires.start end pad)

pub read_end-requires-clause-body : goal.read_end-requires-clause-body
read_end-requires-clause-body c = (read_of c.in_ok-read.read, ap (λ (xs : List Bool). unpadded c.args.stream.now xs) (sym c.requires.start) ∙ c.in_ok-read.ensures)

pub returns-in_err-read_end : goal.returns-in_err-read_end
returns-in_err-read_end c =
    let p = err_from_is_err_and c.from_residual-in_err-read_end.result c.from_residual-in_err-read_end.ensures.1 in
    let e = ap (λ (xs : List Bool). unpadded c.args.stream.now xs) (sym c.requires.start) ∙ c.in_ok-read.ensures in
    rw (p.1, p.2, c.requires.start) (c.in_err-read_end.ensures (read_of c.in_ok-read.read) e)

pub returns : goal.returns
returns c =
    let e = ap (λ (xs : List Bool). unpadded c.args.stream.now xs) (sym c.requires.start) ∙ c.in_ok-read.ensures in
    ap (λ (xs : List Bool). frame c.args.stream.now xs) c.requires.start ∙ c.in_ok-read_end.ensures (read_of c.in_ok-read.read) e
