use Rattle.std.proofs.Common.{◌≡◌, drop}
use Rattle.ff_y4m.specs.Lines.{begins}
use Rattle.ff_y4m.proofs.line.begins.Given as goal

abbrev pub invariant-bytes : goal.invariant-bytes
invariant-bytes l = begins (drop l.i l.word) (drop l.i l.bytes) ≡ begins l.word l.bytes
