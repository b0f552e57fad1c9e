-- A source of frames, as the laws of machines see it. What gives its frames has these left, which is passed in.
use Rattle.std.specs.Prelude.{◌≡◌, ℕ, true, List, [], ◌∷◌, Option, Some}
use Rattle.ff_stream.specs.declared.item.Item.{Item}
use Rattle.ff_stream.specs.declared.item.Lane.{Lane}
use Rattle.ff_stream.specs.declared.item.Lane.TheVariants.{Frames}
use Rattle.ff_net.specs.declared.fault.Fault.{Fault}
use Rattle.ff_net.specs.Pasts.{Past}
use Rattle.ff_node_demux.specs.Exiting.{Exits}
use Rattle.ff_node_demux.specs.laws.SourceLaws.{tried_of}
use Rattle.ff_node_demux.specs.gens.Generating.{GenStands, length_fault}
use Rattle.ff_node_demux.specs.declared.gens.generator.Gen.{Gen}

module _ {G : Type 0} where
  abbrev pub gen_in_lanes : Gen G → List Lane
  gen_in_lanes m = []

  abbrev pub gen_out_lanes : Gen G → List Lane
  gen_out_lanes m = Frames m.head ∷ []

  abbrev pub gen_source : Gen G → Option ℕ
  gen_source m = Some m.number

  abbrev pub gen_fault : Gen G → Option Fault
  gen_fault m = length_fault m.long

  abbrev pub gen_holds : Gen G → Type 0
  gen_holds m = m.ticket ≡ true

  -- under how many of its tickets, from the first on, it has tried a frame
  abbrev pub gen_tried : Gen G → ℕ
  gen_tried m = tried_of m.given m.ended

  abbrev pub gen_spent : Gen G → ℕ → Type 0
  gen_spent m p = ⊥

  abbrev pub gen_stands : (G → List Item) → Gen G → Past → Type 0
  gen_stands left m past = GenStands (left m.frames) m.head m.given m.ticket m.ended m.long past
      × Exits m.number m.stopped m.told past.task.tells past.told past.stopped
