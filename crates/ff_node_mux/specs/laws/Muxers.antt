-- A muxer, as the laws of machines see it.
use Rattle.std.specs.Prelude.{◌≡◌, ℕ, ◌<◌, true, List, Option, length}
use Rattle.ff_time.specs.Fraction.{Fraction}
use Rattle.ff_stream.specs.declared.item.Lane.{Lane}
use Rattle.ff_node_mux.specs.merge.Queues.{Merging, merging}
use Rattle.ff_net.specs.declared.fault.Fault.{Fault}
use Rattle.ff_net.specs.Pasts.{Past}
use Rattle.ff_host.specs.declared.sink.Sink.{Ghosts as SinkGhosts}
use Rattle.ff_format.specs.Layouts.{Layout}
use Rattle.ff_format.specs.declared.writer.Writer.{Ghosts as WriterGhosts}
use Rattle.ff_node_mux.specs.Muxing.{MuxStands, head_bases, head_lanes}
use Rattle.ff_node_mux.specs.Telling.{TellsFed}
use Rattle.ff_node_mux.specs.declared.mux.Mux.{Mux}

module _ {K W : Type 0} {S : SinkGhosts K} {F : WriterGhosts W} where
  abbrev pub mux_sink : Mux K W S F → K
  mux_sink m = m.snk

  -- how its format writes
  abbrev pub mux_layout : Mux K W S F → Layout
  mux_layout m = F.layout m.writer

  -- the number of its first output stream, and the bases of the times of all
  abbrev pub mux_first : Mux K W S F → ℕ
  mux_first m = m.first

  abbrev pub mux_bases : Mux K W S F → List Fraction
  mux_bases m = head_bases m.heads.items

  -- what is still to come of its streams, as the machine shows it that interleaves them
  abbrev pub mux_merge : Mux K W S F → Merging
  mux_merge m = merging m.merge.queues.items

  -- what was written fits the past,
  abbrev pub mux_writes : Mux K W S F → Past → Type 0
  mux_writes m past = MuxStands (S.holds m.snk) (F.layout m.writer) (F.counts m.writer) m.totals m.heads.items m.unended m.begun (mux_merge m) m.fault past

  -- and what was told
  abbrev pub mux_stands : Mux K W S F → Past → Type 0
  mux_stands m past = mux_writes m past × TellsFed m.first (mux_bases m) m.events.items past.task.tells past.told past.feeds

  abbrev pub mux_in_lanes : Mux K W S F → List Lane
  mux_in_lanes m = head_lanes m.heads.items

  abbrev pub mux_fault : Mux K W S F → Option Fault
  mux_fault m = m.fault

  abbrev pub mux_spent : Mux K W S F → ℕ → Type 0
  mux_spent m p = (p < length m.heads.items) × ((mux_merge m).shut p ≡ true)
