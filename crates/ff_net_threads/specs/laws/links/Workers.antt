-- Which node a worker has.
use Rattle.std.specs.Prelude.{◌≡◌, ℕ, ◌<◌, List, length, slice_index_or}
use Rattle.ff_net.specs.laws.Views.{View}
use Rattle.ff_net_threads.specs.declared.links.linked.Linked.{Linked}
use Rattle.ff_net_threads.specs.declared.links.worker.Worker.{Worker}
use Rattle.ff_net_threads.specs.declared.links.worker.Worker.TheVariants.{Runs, Here}
use Rattle.ff_net_threads.specs.laws.links.Runs.{Came}

module _ {M : Type 0} (view : M → View) where
  -- the worker was given this node, or has what became of it
  abbrev pub Serves : Linked M → Worker M → Type 0
  Serves n (Runs h) = h.promise.0.value ≡ n
  Serves n (Here b) = Came view n b

  -- each worker has the node at its place
  abbrev pub AllServe : List (Linked M) → List (Worker M) → Type 0
  AllServe ns ws = (length ws ≡ length ns) × ((i : ℕ) (d : Linked M) (e : Worker M) → i < length ns → Serves (slice_index_or ns i d) (slice_index_or ws i e))
