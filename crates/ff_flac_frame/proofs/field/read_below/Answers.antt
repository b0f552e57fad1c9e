use Rattle.std.proofs.Common.{◌≡◌, ℕ, ◌<◌, ◌≤◌, true, false, arith}
use Rattle.std.proofs.lemmas.Bool.Decides.{nat_tests}
use Rattle.ff_flac_frame.specs.Codes.{below}
use Rattle.ff_flac_frame.proofs.FieldLemmas.{took, refused}
use Rattle.ff_flac_frame.proofs.field.read_below.Goals as goal

is_below : (v limit : ℕ) → v < limit → below limit v ≡ true
is_below v limit h = grind (arith, nat_tests)

is_not_below : (v limit : ℕ) → limit ≤ v → below limit v ≡ false
is_not_below v limit h = grind (arith, nat_tests)

pub returns-then-v-limit-clause-reads : goal.returns-then-v-limit-clause-reads
returns-then-v-limit-clause-reads c =
    let t = c.in-Ok.ensures.taken in
    took c.args.n (below c.args.limit) c.args.reader.now c.in-Ok.v _ t.enough t.value t.left (is_below c.in-Ok.v c.args.limit c.if-v-limit.true)

pub returns-else-v-limit-clause-reads : goal.returns-else-v-limit-clause-reads
returns-else-v-limit-clause-reads c =
    let t = c.in-Ok.ensures.taken in
    refused c.args.n (below c.args.limit) c.args.reader.now c.in-Ok.v t.enough t.value (is_not_below c.in-Ok.v c.args.limit c.if-v-limit.false)
