use Rattle.std.proofs.Common.{◌≡◌, ◌++◌}
use Rattle.ff_selfrun.specs.generated.Generated.{sound}
use Rattle.ff_selfrun.proofs.generated.sound.push_sound.Given as goal

abbrev pub invariant-frames : goal.invariant-frames
invariant-frames l = l.out.items ≡ l.initial.out.items ++ sound l.frame
