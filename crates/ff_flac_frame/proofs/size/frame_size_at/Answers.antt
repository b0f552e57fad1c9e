use Rattle.std.proofs.Common.{◌∙◌, List, Bool, sym, ap, subst}
use Rattle.std.proofs.lemmas.Result.{err_from_is_err_and}
use Rattle.ff_flac_frame.specs.Frame.{Header, frame}
use Rattle.ff_flac_frame.specs.laws.Gives.{Fails}
use Rattle.ff_flac_frame.specs.laws.Parts.{header_of}
use Rattle.ff_flac_frame.proofs.PassedLemmas.{fails_of, frame_behind}
use Rattle.ff_flac_frame.proofs.Seals.{not_yet_from, never_from, begins}
use Rattle.ff_flac_frame.proofs.size.frame_size_at.Goals as goal

pub returns-in_err-header-clause-not_yet : goal.returns-in_err-header-clause-not_yet
returns-in_err-header-clause-not_yet c =
    let p = err_from_is_err_and c.from_residual.result c.from_residual.ensures.1 in
    let s = c.args.stream.now in
    let end = c.in_err-header.field-0.0 in
    let whole = fails_of end (frame s c.new-reader.result) (λ f. f.header) c.in_err-header.ensures in
    let f = subst (λ (xs : List Bool). Fails end (frame s xs)) c.new-reader.ensures.bits whole in
    rw (p.1, p.2) (λ k. not_yet_from s c.requires c.args.bytes.now end f (cc))

pub returns-in_err-header-clause-never : goal.returns-in_err-header-clause-never
returns-in_err-header-clause-never c =
    let p = err_from_is_err_and c.from_residual.result c.from_residual.ensures.1 in
    let s = c.args.stream.now in
    let end = c.in_err-header.field-0.0 in
    let whole = fails_of end (frame s c.new-reader.result) (λ f. f.header) c.in_err-header.ensures in
    let f = subst (λ (xs : List Bool). Fails end (frame s xs)) c.new-reader.ensures.bits whole in
    rw (p.1, p.2) (λ k. never_from s c.requires c.args.bytes.now end f (cc))

pub overflow_sub-result : goal.overflow_sub-result
overflow_sub-result c =
    let s = c.args.stream.now in
    let b = frame_behind (frame s c.new-reader.result) (header_of c.in_ok-header.header) _ c.in_ok-header.ensures in
    let e = ap (λ (xs : List Bool). frame s xs) (sym c.new-reader.ensures.bits) ∙ b.1 in
    (begins s c.requires c.args.bytes.now b.0 c.pass_frame.new.reader c.bytes_left.result e c.bytes_left.ensures).0

pub returns-clause-ok : goal.returns-clause-ok
returns-clause-ok c =
    let s = c.args.stream.now in
    let b = frame_behind (frame s c.new-reader.result) (header_of c.in_ok-header.header) _ c.in_ok-header.ensures in
    let e = ap (λ (xs : List Bool). frame s xs) (sym c.new-reader.ensures.bits) ∙ b.1 in
    (b.0, (begins s c.requires c.args.bytes.now b.0 c.pass_frame.new.reader c.bytes_left.result e c.bytes_left.ensures).1, ap (λ (h : Header). h.block) b.2)
