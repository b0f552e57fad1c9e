-- What running does to each node.
use Rattle.std.specs.Prelude.{◌≡◌, ℕ, ◌<◌, true, List, slice_index_or, length}
use Rattle.ff_net.specs.laws.Nodes.{IsOf}
use Rattle.ff_net.specs.laws.Views.{View}
use Rattle.ff_sched.specs.laws.Passing.{Scheduler}
use Rattle.ff_net_threads.specs.declared.links.linked.Linked.{Linked}
use Rattle.ff_net_threads.specs.declared.links.worker.Back.{Back}
use Rattle.ff_net_threads.specs.laws.links.Nodes.{Follows, IsLawful, HasEnded, node_of}

module _ {M : Type 0} (view : M → View) where
  -- it was turned until it was done
  abbrev pub Ran : Linked M → Linked M → Type 0
  Ran old new = Follows view old new × HasEnded new

  -- and so was each, in order
  abbrev pub AllRan : List (Linked M) → List (Linked M) → Type 0
  AllRan olds news = (length news ≡ length olds) × ((i : ℕ) (d : Linked M) → i < length olds → Ran (slice_index_or olds i d) (slice_index_or news i d))

  -- each is lawful
  pub record AllLawful (nodes : List (Linked M)) : Type 0 where
    pub each : (i : ℕ) (d : Linked M) → i < length nodes → IsLawful view (slice_index_or nodes i d)

  -- the pass of each is of this cell, and each source one of the cell's
  pub record AllOf (cell : Scheduler) (nodes : List (Linked M)) : Type 0 where
    pub each : (i : ℕ) (d : Linked M) → i < length nodes → IsOf view cell (node_of (slice_index_or nodes i d))

  -- what came back is the node after some turns, and where it says so, it is done
  abbrev pub Came : Linked M → Back M → Type 0
  Came n b = Follows view n b.node × IsLawful view b.node × (b.done ≡ true → HasEnded b.node)
