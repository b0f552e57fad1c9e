-- A demuxer, as the laws of machines see it. What its source tells is passed in.
use Rattle.std.specs.Prelude.{◌≡◌, ℕ, true, List, [], ◌∷◌, Option, Some}
use Rattle.ff_stream.specs.declared.item.Lane.{Lane}
use Rattle.ff_stream.specs.declared.item.Lane.TheVariants.{Packets}
use Rattle.ff_net.specs.declared.fault.Fault.{Fault}
use Rattle.ff_net.specs.Pasts.{Past}
use Rattle.ff_reader.specs.declared.cutter.PacketCut.{Ghosts}
use Rattle.ff_node_demux.specs.Demuxing.{DemuxStands}
use Rattle.ff_node_demux.specs.Exiting.{Exits}
use Rattle.ff_node_demux.specs.laws.Reading.{HasRead, Reads}
use Rattle.ff_node_demux.specs.laws.SourceLaws.{tried_of}
use Rattle.ff_node_demux.specs.declared.demux.Demux.{Demux}

module _ {S C H : Type 0} {G : Ghosts C H} where
  abbrev pub demux_in_lanes : Demux S C H G → List Lane
  demux_in_lanes m = []

  abbrev pub demux_out_lanes : Demux S C H G → List Lane
  demux_out_lanes m = Packets m.head ∷ []

  abbrev pub demux_source : Demux S C H G → Option ℕ
  demux_source m = Some m.input

  abbrev pub demux_fault : Demux S C H G → Option Fault
  demux_fault m = m.fault

  -- how often its source failed
  abbrev pub demux_failures : (S → ℕ) → Demux S C H G → ℕ
  demux_failures faults m = faults m.src

  -- the name of its source
  abbrev pub demux_device : (S → Option (List ℕ)) → Demux S C H G → Option (List ℕ)
  demux_device name m = name m.src

  -- Of an input with this head it has read these bytes. How many are asked for is passed in.
  abbrev pub demux_has_read : (C → ℕ) → Demux S C H G → H → List ℕ → Type 0
  demux_has_read asks m head read = HasRead G.is asks m.cut m.skip m.given m.ended head read

  -- what a call reads that leaves it so
  abbrev pub demux_reads_on : (S → Option (List ℕ)) → (C → ℕ) → Demux S C H G → Demux S C H G → Type 0
  demux_reads_on left asks m m' =
      Reads G.is asks (left m.src) m.cut m.skip m.given m.ended (left m'.src) m'.cut m'.skip m'.given m'.ended

  -- it has read what it had read, and given as many packets
  abbrev pub demux_reads_nothing : Demux S C H G → Demux S C H G → Type 0
  demux_reads_nothing m m' =
      (m'.src ≡ m.src) × (m'.cut ≡ m.cut) × (m'.skip ≡ m.skip) × (m'.given ≡ m.given) × (m'.ended ≡ m.ended)

  abbrev pub demux_holds : Demux S C H G → Type 0
  demux_holds m = m.ticket ≡ true

  -- under how many of its tickets, from the first on, it has tried a unit
  abbrev pub demux_reads : Demux S C H G → ℕ
  demux_reads m = tried_of m.given m.ended

  abbrev pub demux_spent : Demux S C H G → ℕ → Type 0
  demux_spent m p = ⊥

  abbrev pub demux_stands : (S → Option (List ℕ)) → Demux S C H G → Past → Type 0
  demux_stands left m past = DemuxStands G.is (left m.src) m.cut m.skip m.given m.ticket m.ended m.fault past
      × Exits m.input m.stopped m.told past.task.tells past.told past.stopped
