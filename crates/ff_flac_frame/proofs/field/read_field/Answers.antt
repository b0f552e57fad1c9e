use Rattle.std.proofs.Common.{◌∙◌, sym}
use Rattle.ff_flac_frame.specs.laws.Rules.{passes}
use Rattle.ff_flac_frame.proofs.FieldLemmas.{took, refused}
use Rattle.ff_flac_frame.proofs.field.read_field.Goals as goal

pub returns-then-is_passed-clause-reads : goal.returns-then-is_passed-clause-reads
returns-then-is_passed-clause-reads c =
    let t = c.in-Ok.ensures.taken in
    took c.args.n (passes c.args.rule) c.args.reader.now c.in-Ok.v _ t.enough t.value t.left (sym c.is_passed.ensures ∙ c.if-is_passed.true)

pub returns-else-is_passed-clause-reads : goal.returns-else-is_passed-clause-reads
returns-else-is_passed-clause-reads c =
    let t = c.in-Ok.ensures.taken in
    refused c.args.n (passes c.args.rule) c.args.reader.now c.in-Ok.v t.enough t.value (sym c.is_passed.ensures ∙ c.if-is_passed.false)
