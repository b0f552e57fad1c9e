-- What a function of one stream owes, so that what it gives of valid streams is valid with no limit behind it.
use Rattle.ff_stream.specs.declared.item.Lane.{Lane}
use Rattle.ff_stream.specs.Lanes.{IsValid}
use Rattle.ff_stream.specs.Ports.{IsUnbroken}
use Rattle.ff_filter.specs.Joins.{Flow}

-- of valid streams it gives valid ones, and of unbroken ones no break
pub record GivesValid (lane_in lane_out : Lane) (f : Flow → Flow) : Type 0 where
  pub valid : (s : Flow) → IsValid lane_in s → IsValid lane_out (f s)
  pub unbroken : (s : Flow) → IsValid lane_in s → IsUnbroken s → IsUnbroken (f s)
