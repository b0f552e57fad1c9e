use Rattle.std.proofs.Common.{arith}
use Rattle.ff_flac_frame.specs.laws.Rules.{passes}
use Rattle.ff_flac_frame.proofs.FieldLemmas.{more_comes, none_comes, has_room}
use Rattle.ff_flac_frame.proofs.field.in_part.Goals as goal

pub is_passed_by_some-requires-clause-room : goal.is_passed_by_some-requires-clause-room
is_passed_by_some-requires-clause-room c =
    let t = c.in-Ok.ensures.taken in
    has_room c.args.n (passes c.args.rule) c.args.reader.now c.in-Ok.v c.left-have.result (omega arith) (omega arith) t.enough t.value

pub returns-then-is_passed_by_some : goal.returns-then-is_passed_by_some
returns-then-is_passed_by_some c =
    let t = c.in-Ok.ensures.taken in
    more_comes c.args.n (passes c.args.rule) c.args.reader.now c.in-Ok.v c.left-have.result c.is_passed_by_some.result c.left-have.ensures (omega arith) t.value c.is_passed_by_some.ensures c.if-is_passed_by_some.true

pub returns-else-is_passed_by_some : goal.returns-else-is_passed_by_some
returns-else-is_passed_by_some c =
    let t = c.in-Ok.ensures.taken in
    none_comes c.args.n (passes c.args.rule) c.args.reader.now c.in-Ok.v c.left-have.result c.is_passed_by_some.result c.left-have.ensures (omega arith) t.value c.is_passed_by_some.ensures c.if-is_passed_by_some.false
