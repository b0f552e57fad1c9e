-- What a part that is a source has to tell, and how much it has tried.
use Rattle.std.specs.Prelude.{◌≡◌, ℕ, List, Option, None, Some, refl}
use Rattle.std.proofs.Common.{sym, ◌∙◌}
use Rattle.ff_host.specs.declared.sink.Sink.{Ghosts as SinkGhosts}
use Rattle.ff_input.specs.Formats.{single_cutter}
use Rattle.ff_net.specs.laws.Views.{View}
use Rattle.ff_node_avi.specs.laws.AviLaws.{avi_few}
use Rattle.ff_node_avi.specs.laws.AviPorts.{of_two}
use Rattle.ff_node_avi.proofs.DemuxSteps as avi_steps
use Rattle.ff_node_demux.specs.laws.DemuxLaws.{demux_few}
use Rattle.ff_node_demux.specs.laws.gens.GenLaws.{gen_few}
use Rattle.ff_node_demux.proofs.ExitSteps.{exits_alone}
use Rattle.ff_run_plan.specs.Kinds.{TellsExit}
use Rattle.ff_source.specs.laws.Left.{left as frames_left}
use Rattle.ff_run.specs.laws.build.PartViews.{part_view}
use Rattle.ff_run.specs.declared.build.part.Part.{Part}
use Rattle.ff_run.specs.declared.build.part.Part.TheVariants as part

none_some : {P : Type 0} (n : ℕ) → None ≡ Some n → P
none_some n e = cc

-- a part that is no source
no_source : (v : View) → v.source ≡ None → TellsExit v
no_source v none = record {
  exits = λ past n s e. none_some n (sym none ∙ e);
  few = λ past n s e. none_some n (sym none ∙ e);
}

pub parts_exit : {S K : Type 0} {G : SinkGhosts K} (left named : S → Option (List ℕ)) (failed : S → ℕ) (m : Part S K G) → TellsExit (part_view left named failed m)
parts_exit {S} {K} {G} left named failed (part.Demux m) = record {
  exits = λ past n s e. exits_alone m.input m.stopped m.told past s.1 n e;
  few = λ past n s e. demux_few single_cutter (left m.src) m.cut m.skip m.given m.ticket m.ended m.fault past s.0;
}
parts_exit {S} {K} {G} left named failed (part.Avi m) = record {
  exits = λ past n s e. avi_steps.exits_alone m.input m.told past s.1 n e;
  few = λ past n s e.
      avi_few (left m.reader.src) m.reader.cut m.reader.skip m.ports m.given m.ended m.ticket m.waiting (of_two m.first.going m.second.going) (of_two m.first.closed m.second.closed) m.fault past s.0;
}
parts_exit {S} {K} {G} left named failed (part.Gen m) = record {
  exits = λ past n s e. exits_alone m.number m.stopped m.told past s.1 n e;
  few = λ past n s e. gen_few (frames_left m.frames) m.head m.given m.ticket m.ended m.long past s.0;
}
parts_exit {S} {K} {G} left named failed (part.Dec m) = no_source (part_view {G = G} left named failed (part.Dec m)) refl
parts_exit {S} {K} {G} left named failed (part.Graph m) = no_source (part_view {G = G} left named failed (part.Graph m)) refl
parts_exit {S} {K} {G} left named failed (part.Joint m) = no_source (part_view {G = G} left named failed (part.Joint m)) refl
parts_exit {S} {K} {G} left named failed (part.Enc m) = no_source (part_view {G = G} left named failed (part.Enc m)) refl
parts_exit {S} {K} {G} left named failed (part.FlacEnc m) = no_source (part_view {G = G} left named failed (part.FlacEnc m)) refl
parts_exit {S} {K} {G} left named failed (part.Mux m) = no_source (part_view {G = G} left named failed (part.Mux m)) refl
