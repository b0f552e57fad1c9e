use Rattle.std.proofs.Common.{◌≡◌}
use Rattle.std.specs.List.{All}
use Rattle.ff_time.proofs.CommonBases.{one_is_common_of}
use Rattle.ff_time.proofs.bases.common_base.Goals as goal

pub returns-then-are_one : goal.returns-then-are_one
returns-then-are_one c =
    let all : All (λ b. b ≡ c.index-bases-0.result) c.args.bases.now = c.are_one.ensures.0 c.if-are_one.true in
    one_is_common_of c.args.bases.now c.index-bases-0.result c.index-bases-0-then-are_one.result c.requires.some c.index-bases-0-then-are_one.is all
