use Rattle.std.proofs.Common.{◌≡◌, drop}
use Rattle.ff_y4m.specs.Numbers.{first_place}
use Rattle.ff_y4m.proofs.LineLaws.{moved}
use Rattle.ff_y4m.proofs.number.place_of.Given as goal

abbrev pub invariant-bytes : goal.invariant-bytes
invariant-bytes l = moved l.i (first_place l.byte (drop l.i l.bytes)) ≡ first_place l.byte l.bytes
