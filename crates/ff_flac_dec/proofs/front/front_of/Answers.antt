use Rattle.std.proofs.Common.{◌≡◌, Err, sym, ap, ◌∙◌}
use Rattle.ff_flac_dec.specs.declared.front.Front.TheVariants.{Whole}
use Rattle.ff_flac_dec.proofs.UnitLaws.{unit_begins, begins_bounds, wait_is, other_is}
use Rattle.ff_flac_dec.proofs.front.front_of.Goals as goal

pub returns-in-Ok-clause-exact : goal.returns-in-Ok-clause-exact
returns-in-Ok-clause-exact c =
    let size = c.in-Ok.size in
    let f = c.in-Ok.ensures.ok in
    sym (unit_begins c.args.stream.now c.args.bytes.now f.0 size.len f.1 ∙ ap (Whole size.len) f.2)

pub returns-in-Ok-clause-bounds : goal.returns-in-Ok-clause-bounds
returns-in-Ok-clause-bounds c = λ len block is.
    let size = c.in-Ok.size in
    let f = c.in-Ok.ensures.ok in
    let l : size.len ≡ len = cc in
    let k : f.0.header.block ≡ block = cc in
    begins_bounds c.args.stream.now c.requires c.args.bytes.now f.0 size.len len block f.1 l k

pub returns-in-Err-NotYet-clause-exact : goal.returns-in-Err-NotYet-clause-exact
returns-in-Err-NotYet-clause-exact c = wait_is c.args.stream.now c.requires c.args.bytes.now (c.in-Err-NotYet.ensures.not_yet (ap Err c.in-Err-NotYet.field-0-is))

pub returns-in-Err-Never-clause-exact : goal.returns-in-Err-Never-clause-exact
returns-in-Err-Never-clause-exact c = other_is c.args.stream.now c.requires c.args.bytes.now (c.in-Err-Never.ensures.never (ap Err c.in-Err-Never.field-0-is))
