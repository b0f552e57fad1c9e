-- What a function of one stream owes besides its laws, so that behind limits it gives valid streams.
use Rattle.ff_stream.specs.declared.item.Lane.{Lane}
use Rattle.ff_stream.specs.Lanes.{AreInShape, IsValid}
use Rattle.ff_stream.specs.Ports.{IsUnbroken}
use Rattle.ff_filter.specs.Joins.{Flow}

-- of valid streams it gives items in shape for its output, and of unbroken ones no break
pub record IsSound (lane_in lane_out : Lane) (f : Flow → Flow) : Type 0 where
  pub shape : (s : Flow) → IsValid lane_in s → AreInShape lane_out (f s).items
  pub unbroken : (s : Flow) → IsValid lane_in s → IsUnbroken s → IsUnbroken (f s)
