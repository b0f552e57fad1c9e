-- A table of marks as the code has it.
use Rattle.std.specs.Prelude.{Bool, List, map}
use Rattle.std.specs.declared.alloc.Global.{Global}
use Rattle.std.specs.declared.vec.Vec.{Vec}

abbrev pub marks : List (Vec Bool Global) → List (List Bool)
marks rows = map (λ (v : Vec Bool Global). v.items) rows
