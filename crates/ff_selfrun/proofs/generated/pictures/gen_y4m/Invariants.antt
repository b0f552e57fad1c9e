use Rattle.std.proofs.Common.{◌≡◌, ◌++◌}
use Rattle.ff_y4m.specs.Header.{header}
use Rattle.ff_selfrun.specs.generated.Generated.{picture_head, pictures}
use Rattle.ff_selfrun.proofs.generated.pictures.gen_y4m.Given as goal

abbrev pub invariant-pictures : goal.invariant-pictures
invariant-pictures l = l.bytes.items ≡ header picture_head ++ pictures l.number
