use Rattle.std.proofs.Common.{◌-◌, ◌∙◌, List, Bool, length, map, sym, ap, subst}
use Rattle.std.proofs.lemmas.Result.{err_from_is_err_and}
use Rattle.ff_flac_frame.specs.Frame.{frame, Begins}
use Rattle.ff_flac_frame.specs.declared.subframe.Subframe.{Subframe}
use Rattle.ff_flac_frame.specs.laws.Gives.{Fails}
use Rattle.ff_flac_frame.specs.laws.Parts.{header_of, part_of, read_of}
use Rattle.ff_flac_frame.proofs.Seals.{not_yet_from, never_from, begins}
use Rattle.ff_flac_frame.proofs.frame.frame_at.Goals as goal

pub returns-in_err-header-clause-not_yet : goal.returns-in_err-header-clause-not_yet
returns-in_err-header-clause-not_yet c =
    let p = err_from_is_err_and c.from_residual.result c.from_residual.ensures.1 in
    let f = subst (λ (xs : List Bool). Fails c.in_err-header.field-0.0 (frame c.args.stream.now xs)) c.new-reader.ensures.bits c.in_err-header.ensures in
    rw (p.1, p.2) (λ k. not_yet_from c.args.stream.now c.requires c.args.bytes.now c.in_err-header.field-0.0 f (cc))

pub returns-in_err-header-clause-never : goal.returns-in_err-header-clause-never
returns-in_err-header-clause-never c =
    let p = err_from_is_err_and c.from_residual.result c.from_residual.ensures.1 in
    let f = subst (λ (xs : List Bool). Fails c.in_err-header.field-0.0 (frame c.args.stream.now xs)) c.new-reader.ensures.bits c.in_err-header.ensures in
    rw (p.1, p.2) (λ k. never_from c.args.stream.now c.requires c.args.bytes.now c.in_err-header.field-0.0 f (cc))

pub overflow_sub-len : goal.overflow_sub-len
overflow_sub-len c =
    let e = ap (λ (xs : List Bool). frame c.args.stream.now xs) (sym c.new-reader.ensures.bits) ∙ c.in_ok-header.ensures in
    (begins c.args.stream.now c.requires c.args.bytes.now (read_of c.in_ok-header.field-0) c.read_frame.new.reader c.bytes_left.result e c.bytes_left.ensures).0

pub returns-clause-ok : goal.returns-clause-ok
returns-clause-ok c =
    let e = ap (λ (xs : List Bool). frame c.args.stream.now xs) (sym c.new-reader.ensures.bits) ∙ c.in_ok-header.ensures in
    let b = (begins c.args.stream.now c.requires c.args.bytes.now (read_of c.in_ok-header.field-0) c.read_frame.new.reader c.bytes_left.result e c.bytes_left.ensures).1 in (
      c.in_ok-header.field-0.header.number,
      subst (λ (ss : List Subframe). Begins c.args.stream.now c.args.bytes.now (record { header = header_of c.in_ok-header.field-0.header; parts = map part_of ss }) (length c.args.bytes.now - c.bytes_left.result)) (sym c.of.ensures) b,
    )
