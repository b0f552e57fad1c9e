-- A demuxer of an AVI, as the laws of machines see it. What its source tells is passed in.
use Rattle.std.specs.Prelude.{◌≡◌, ◌⊎◌, ℕ, true, false, List, [], map, Option, Some, None, IsSome}
use Rattle.ff_stream.specs.declared.item.Item.{Item}
use Rattle.ff_stream.specs.declared.item.Lane.{Lane}
use Rattle.ff_stream.specs.declared.item.Lane.TheVariants.{Packets}
use Rattle.ff_stream.specs.Stream.{still_open, LiesBelow}
use Rattle.ff_stream.specs.Items.{with_item}
use Rattle.ff_stream.specs.Ports.{stream_at}
use Rattle.ff_net.specs.declared.fault.Fault.{Fault}
use Rattle.ff_net.specs.Pasts.{Past, IsIn, gave_item, was_asked, due}
use Rattle.ff_node_demux.specs.laws.SourceLaws.{tried_of}
use Rattle.ff_node_avi.specs.Demuxing.{heads_of, DemuxStands, Exits}
use Rattle.ff_avi.specs.declared.head.AviHead.{AviHead}
use Rattle.ff_node_avi.specs.laws.AviPorts.{of_two}
use Rattle.ff_node_avi.specs.laws.AviReading.{HasRead, Reads}
use Rattle.ff_node_avi.specs.declared.demux.AviDemux.{AviDemux}

module _ {S : Type 0} where
  abbrev pub avi_in_lanes : AviDemux S → List Lane
  avi_in_lanes m = []

  abbrev pub avi_out_lanes : AviDemux S → List Lane
  avi_out_lanes m = map Packets (heads_of m.ports)

  abbrev pub avi_source : AviDemux S → Option ℕ
  avi_source m = Some m.input

  abbrev pub avi_fault : AviDemux S → Option Fault
  avi_fault m = m.fault

  -- how often its source failed
  abbrev pub avi_failures : (S → ℕ) → AviDemux S → ℕ
  avi_failures faults m = faults m.reader.src

  -- the name of its source
  abbrev pub avi_device : (S → Option (List ℕ)) → AviDemux S → Option (List ℕ)
  avi_device name m = name m.reader.src

  -- it holds a ticket, or a unit that waits
  abbrev pub avi_holds : AviDemux S → Type 0
  avi_holds m = (m.ticket ≡ true) ⊎ IsSome m.waiting

  -- under how many of its tickets, from the first on, it has tried a unit
  abbrev pub avi_reads : AviDemux S → ℕ
  avi_reads m = tried_of m.given m.ended

  -- Of an input with this head, of which these streams are used, it has read these bytes.
  abbrev pub avi_has_read : AviDemux S → AviHead → List ℕ → List ℕ → Type 0
  avi_has_read m head used read = HasRead m.reader.cut m.reader.skip m.given m.ended head used read

  -- what a call reads that leaves it so
  abbrev pub avi_reads_on : (S → Option (List ℕ)) → AviDemux S → AviDemux S → Type 0
  avi_reads_on left m m' =
      Reads (left m.reader.src) m.reader.cut m.reader.skip m.given m.ended (left m'.reader.src) m'.reader.cut m'.reader.skip m'.given m'.ended

  -- it has read what it had read, and used as many units
  abbrev pub avi_reads_nothing : AviDemux S → AviDemux S → Type 0
  avi_reads_nothing m m' = (m'.reader ≡ m.reader) × (m'.given ≡ m.given) × (m'.ended ≡ m.ended)

  abbrev pub avi_spent : AviDemux S → ℕ → Type 0
  avi_spent m p = ⊥

  abbrev pub avi_stands : (S → Option (List ℕ)) → AviDemux S → Past → Type 0
  avi_stands left m past =
      DemuxStands (left m.reader.src) m.reader.cut m.reader.skip m.ports m.given m.ended m.ticket m.waiting (of_two m.first.going m.second.going) (of_two m.first.closed m.second.closed) m.fault past
      × Exits m.input m.told past.task.tells past.told

  -- the same input and ports
  pub record KeepsShape (old new : AviDemux S) : Type 0 where
    pub input : new.input ≡ old.input
    pub ports : new.ports ≡ old.ports
    pub told : new.told ≡ old.told

  -- an item is given at a port that wasn't stopped
  abbrev pub GivesItem : (S → Option (List ℕ)) → AviDemux S → AviDemux S → ℕ → Item → Type 0
  GivesItem left old new port x = (past : Past) → avi_stands left old past → (IsIn port past.stopped → ⊥)
      → avi_stands left new (gave_item past port x) × ((stream_at past.gave port).mark ≡ still_open)
      × LiesBelow (with_item (stream_at past.gave port) x) (stream_at (due past) port)

  -- nothing is given at a port that wasn't stopped, since nothing is due there once there is no ticket that could be used
  abbrev pub WaitsAt : (S → Option (List ℕ)) → AviDemux S → AviDemux S → ℕ → Type 0
  WaitsAt left old new port = (past : Past) → avi_stands left old past → (IsIn port past.stopped → ⊥)
      → ((old.fault ≡ None → old.ended ≡ false → old.ticket ≡ false) → avi_stands left new (was_asked past port))
      × ((old.ended ≡ false → old.ticket ≡ false) → stream_at past.gave port ≡ stream_at (due past) port)
