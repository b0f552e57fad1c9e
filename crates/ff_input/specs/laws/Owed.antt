-- What a format owes to whoever reads by its cut.
use Rattle.ff_reader.specs.Cutters.{Cutter}
use Rattle.ff_input.specs.declared.one_of.OneOf.TheVariants.{First, Other}
use Rattle.ff_input.specs.Either.{either_cutter}
use Rattle.ff_input.specs.laws.Shapes.{IsShaped}
use Rattle.ff_input.specs.laws.Streams.{HasStreams}

-- its packets are in shape for their lane, and its stream is one that is read
pub record Owes {H C : Type 0} (cutter : Cutter H C) : Type 0 where
  pub shaped : IsShaped cutter
  pub streams : HasStreams cutter

module _ {H K C D : Type 0} {one : Cutter H C} {other : Cutter K D} (a : Owes one) (b : Owes other) where
  shaped_either : IsShaped (either_cutter one other)
  shaped_either (First head) rest h = a.shaped head rest h
  shaped_either (Other head) rest h = b.shaped head rest h

  streams_either : HasStreams (either_cutter one other)
  streams_either (First head) h = a.streams head h
  streams_either (Other head) h = b.streams head h

  -- where each of two formats does, one of both does
  pub either_owes : Owes (either_cutter one other)
  either_owes = record { shaped = shaped_either; streams = streams_either }
