-- What a machine shows to contracts, at one moment. All that is said of a machine from outside is said of its view.
use Rattle.std.specs.Prelude.{◌≡◌, ℕ, List, Option}
use Rattle.ff_stream.specs.declared.item.Lane.{Lane}
use Rattle.ff_net.specs.declared.fault.Fault.{Fault}
use Rattle.ff_net.specs.Pasts.{Past}

pub record View : Type 1 where
  -- the lanes of its inputs, and of its outputs
  pub in_lanes : List Lane
  pub out_lanes : List Lane
  -- its number, where it is a source
  pub source : Option ℕ
  -- what went wrong
  pub fault : Option Fault
  -- the name of its own source or sink, where it has one that has a name, and how often that has failed
  pub device : Option (List ℕ)
  pub failures : ℕ
  -- it holds a ticket
  pub holds : Type 0
  -- of a source: under how many of its tickets, from the first on, it has tried a unit
  pub tried : ℕ
  -- nothing more of an input can matter
  pub spent : ℕ → Type 0
  -- it can be where it is after this past
  pub stands : Past → Type 0

-- from one call to the next: the same lanes, and the same number where it is a source
pub record IsSameShape (old new : View) : Type 0 where
  pub in_lanes : new.in_lanes ≡ old.in_lanes
  pub out_lanes : new.out_lanes ≡ old.out_lanes
  pub source : new.source ≡ old.source
