-- What a node on which all streams of one output come together is there for.
use Rattle.std.specs.Prelude.{◌≡◌, Bool, true, false, List, map, length, None}
use Rattle.ff_frame.specs.declared.head.StreamHead.{StreamHead}
use Rattle.ff_stream.specs.declared.item.Lane.TheVariants.{Frames}
use Rattle.ff_filter.specs.Joins.{Ports}
use Rattle.ff_filter.specs.Views.{View, IsNew}
use Rattle.ff_net.specs.Pasts.{Task}
use Rattle.ff_node_filter.specs.Tasks.{filter_task}
use Rattle.ff_node_sync.specs.Lines.{head_base}
use Rattle.ff_node_sync.specs.Shortened.{shortened}

-- the streams of these heads: each up to the end of the shortest, or as they are
abbrev pub joint : Bool → List StreamHead → Ports → Ports
joint true hs = shortened (length hs) (head_base hs)
joint false hs = λ ss. ss

-- no limit cuts them, so such a node has no fault
abbrev pub joint_task : Bool → List StreamHead → Task
joint_task is_shortest hs = filter_task (length hs) (joint is_shortest hs) (λ ss. None)

-- nothing came: the streams of these heads come together so
pub record IsJointOf (is_shortest : Bool) (hs : List StreamHead) (v : View) : Type 0 where
  pub ins : v.ins ≡ map Frames hs
  pub outs : v.outs ≡ map Frames hs
  pub new : IsNew v
  pub rest : v.rest ≡ joint is_shortest hs
