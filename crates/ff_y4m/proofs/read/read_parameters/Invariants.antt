use Rattle.std.proofs.Common.{◌≡◌, ◌-◌, drop, length}
use Rattle.ff_y4m.specs.Parameters.{no_parameters, AreSane}
use Rattle.ff_y4m.specs.Heads.{parameters}
use Rattle.ff_y4m.proofs.read.read_parameters.Given as goal

abbrev pub invariant-words : goal.invariant-words
invariant-words l = record {
  so_far : parameters 0 l.at l.so_far (drop l.at l.line) ≡ parameters 0 9 no_parameters (drop 9 l.line);
  sane : AreSane l.so_far;
}

abbrev pub decreases-words : goal.decreases-words
decreases-words l = length l.line - l.at
