-- Rows of things, and a layout of the rows that code has.
use Rattle.std.specs.Prelude.{Bool, List, map}
use Rattle.std.specs.List.{flat_map}
use Rattle.std.specs.declared.alloc.Global.{Global}
use Rattle.std.specs.declared.vec.Vec.{Vec}
use Rattle.ff_frame.specs.declared.head.StreamHead.{StreamHead}
use Rattle.ff_plan_layout.specs.declared.layout.Laying.{Laying}
use Rattle.ff_plan_layout.specs.declared.layout.OutStream.{OutStream}
use Rattle.ff_plan_layout.specs.Layout.{Layout}

-- all things of these lists, in a row
abbrev pub flat : {X : Type 0} → List (List X) → List X
flat rows = flat_map (λ row. row) rows

-- the streams of each output
abbrev pub rows : List (Vec OutStream Global) → List (List OutStream)
rows outs = map (λ (v : Vec OutStream Global). v.items) outs

-- as a layout, for inputs with these heads
abbrev pub layout_in : List (List StreamHead) → Laying → Layout
layout_in heads l = record { heads = heads; made = l.made.items; graphs = l.graphs.items; outputs = rows l.outputs.items; texts = l.texts.items }
