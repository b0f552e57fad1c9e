use Rattle.std.specs.Prelude.{◌≡◌, ◌+◌, ◌<◌, ◌≤◌, ℕ, zero, suc, List, [], ◌∷◌, length, Option, IsSome, replicate}
use Rattle.std.proofs.Common.{ap, refl, arith, inl, inr, subst, sym, ◌∙◌}
use Rattle.ff_node_avi.specs.laws.AviOver as avi
use Rattle.ff_node_codec.specs.laws.codecs.AnyCoders.{any_head, any_coded}
use Rattle.ff_node_flac.specs.Coding.{coded_head}
use Rattle.ff_stream.specs.declared.item.Lane.{Lane}
use Rattle.ff_stream.specs.declared.item.Lane.TheVariants.{Frames, Packets}
use Rattle.ff_stream.specs.Ports.{stream_at}
use Rattle.ff_node_mux.specs.laws.Held.{part_by}
use Rattle.ff_node_mux.specs.laws.Mixing.{bases_long}
use Rattle.ff_node_mux.specs.Muxing.{head_bases, head_lanes}
use Rattle.ff_mux.specs.writers.AnyWriters.{layout_of}
use Rattle.ff_node_mux.specs.StreamEvents.{stream_events}
use Rattle.ff_time.specs.Fraction.{Fraction}
use Rattle.ff_frame.specs.declared.head.StreamHead.{StreamHead}
use Rattle.ff_run_plan.specs.Kinds.{AreOneStream, IsEndOf, IsSinkOf}
use Rattle.ff_run.specs.declared.build.part.Part.{Part}
use Rattle.ff_run.specs.build.Parts.{all_kinds, options_of}
use Rattle.ff_run.specs.laws.build.PartViews.{part_view}
use Rattle.ff_run.proofs.BuildLemmas.Sinks.{file_first, head_there, same_events, text_first}
use Rattle.ff_run.proofs.build.parts.PartsKindsPart.into_ends.Goals as goal

one_lane : (x : Lane) → (x ∷ []) ≡ [] → ⊥
one_lane x e = cc

no_lanes : (heads : List StreamHead) → 1 ≤ length heads → head_lanes heads ≡ [] → ⊥
no_lanes [] some e = omega (arith, some)
no_lanes (head ∷ heads) some e = cc

below_heads : (heads : List StreamHead) (p : ℕ) → p < length (head_bases heads) → p < length heads
below_heads heads p lt = let long = bases_long heads in omega (arith, lt, long)

some_lanes : (n : ℕ) (x : Lane) → 1 ≤ n → replicate n x ≡ [] → ⊥
some_lanes zero x some e = omega (arith, some)
some_lanes (suc n) x some e = cc

pub returns-in-Demux : goal.returns-in-Demux
returns-in-Demux g c =
    let S = g.Src.Source in
    let source = c.into_source.ensures in
    let GivesSource : Part g.row.Src.Denot g.row.Snk.Denot g.Snk.Sink → Type 0 =
    λ p. IsEndOf S.name S.faults (part_view S.left S.name S.faults p) c.into_source.result × ((part_view S.left S.name S.faults p).out_lanes ≡ [] → ⊥) in
    subst GivesSource (sym c.in-Demux.is) (
      record { name = source.name; faults = source.faults },
      one_lane (Packets c.in-Demux.m.head),
    )

pub returns-in-Avi : goal.returns-in-Avi
returns-in-Avi g c =
    let S = g.Src.Source in
    let source = c.into_source-in-Avi.ensures in
    let GivesSource : Part g.row.Src.Denot g.row.Snk.Denot g.Snk.Sink → Type 0 =
    λ p. IsEndOf S.name S.faults (part_view S.left S.name S.faults p) c.into_source-in-Avi.result × ((part_view S.left S.name S.faults p).out_lanes ≡ [] → ⊥) in
    subst GivesSource (sym c.in-Avi.is) (record { name = source.name; faults = source.faults }, avi.some_lanes c.in-Avi.m.ports)

pub returns-in-Dec : goal.returns-in-Dec
returns-in-Dec g c =
    let HasEnds : Part g.row.Src.Denot g.row.Snk.Denot g.Snk.Sink → Type 0 =
    λ p. ((part_view g.Src.Source.left g.Src.Source.name g.Src.Source.faults p).in_lanes ≡ [] → AreOneStream (part_view g.Src.Source.left g.Src.Source.name g.Src.Source.faults p).out_lanes) × ((part_view g.Src.Source.left g.Src.Source.name g.Src.Source.faults p).out_lanes ≡ [] → ⊥) in
    elim c.in-Dec.is [
      | inl w ↦ subst HasEnds (sym w.1) (λ e. absurd (one_lane (Packets (any_head w.0.decoder)) e), some_lanes (length w.0.spread.outs.items) (Frames (any_head w.0.decoder)) w.0.spread.some)
      | inr v ↦ elim v [
        | inl w ↦ subst HasEnds (sym w.1) (λ e. absurd (w.0.ins e), w.0.outs)
        | inr u ↦ elim u [
          | inl w ↦ subst HasEnds (sym w.1) (λ e. absurd (w.0.ins e), w.0.outs)
          | inr t ↦ elim t [
            | inl w ↦ subst HasEnds (sym w.1) (λ e. absurd (one_lane (Frames w.0.head) e), some_lanes (length w.0.spread.outs.items) (Packets (any_coded w.0.encoder w.0.head)) w.0.spread.some)
            | inr r ↦ elim r [
              | inl w ↦ subst HasEnds (sym w.1) (λ e. absurd (one_lane (Frames w.0.head) e), one_lane (Packets (coded_head w.0.head)))
              | inr w ↦ subst HasEnds (sym w.1) (λ e. (w.0.head, refl), one_lane (Frames w.0.head))
            ]
          ]
        ]
      ]
    ]

pub returns : goal.returns
returns g c =
    let K = g.Snk.Sink in
    let sink = c.into_sink.ensures in
    let GivesSink : Part g.row.Src.Denot g.row.Snk.Denot g.Snk.Sink → Type 0 =
    λ p. IsSinkOf all_kinds K.holds K.name K.faults (part_view g.Src.Source.left g.Src.Source.name g.Src.Source.faults p) c.into_sink.result × ((part_view g.Src.Source.left g.Src.Source.name g.Src.Source.faults p).in_lanes ≡ [] → ⊥) in
    subst GivesSink (sym c.in-Mux.is) (
      record {
        name = ap K.name sink.sink;
        faults = ap K.faults sink.sink;
        whole = λ past first out coded s is none w.
            let layout = layout_of out.format (options_of out) coded in
            let same = file_first layout coded past.got in
            let h = sink.whole past first (head_bases coded) layout s is none (λ p lt. w p (below_heads coded p lt)) in
            (subst (λ (o : Option (List ℕ)). IsSome o) same h.0, h.1 ∙ same);
        told = λ past first out coded p head s is at closed.
            let there = head_there coded p head at in
            same_events (first + p) (past.task.tells past.feeds)
            ∙ (sink.told past first (head_bases coded) (layout_of out.format (options_of out) coded) p s is there.0 closed
            ∙ ap (λ (b : Fraction). stream_events (first + p) b (stream_at past.got p)) there.1);
        part = λ past first out coded s is.
            let layout = layout_of out.format (options_of out) coded in
            part_by (K.holds c.into_sink.result) (text_first layout coded past.got) (file_first layout coded past.got)
            (sink.front past first (head_bases coded) layout s is);
      },
      no_lanes c.in-Mux.m.heads.items c.in-Mux.m.some,
    )
