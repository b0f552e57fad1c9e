use Rattle.std.proofs.Common.{◌≡◌, ◌++◌}
use Rattle.ff_selfrun.specs.generated.Generated.{picture}
use Rattle.ff_selfrun.proofs.generated.pictures.push_planes.Given as goal

abbrev pub invariant-bytes : goal.invariant-bytes
invariant-bytes l = l.out.items ≡ l.initial.out.items ++ picture l.number l.k
