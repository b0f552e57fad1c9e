use Rattle.std.proofs.Common.{◌≡◌, ◌-◌, drop}
use Rattle.ff_y4m.specs.Lines.{line_end}
use Rattle.ff_y4m.proofs.LineLaws.{moved}
use Rattle.ff_y4m.proofs.line.line_end.Given as goal

abbrev pub invariant-bytes : goal.invariant-bytes
invariant-bytes l = moved l.i (line_end (l.room - l.i) (drop l.i l.bytes)) ≡ line_end l.room l.bytes
