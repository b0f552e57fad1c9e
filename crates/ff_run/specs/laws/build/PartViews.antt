-- A part is one of the machines. What a source has left, its name and its failures are passed in.
use Rattle.std.specs.Prelude.{ℕ, List, Option}
use Rattle.ff_node_codec.specs.laws.codecs.AnyCoders.{any_head, any_frame, any_serves, any_coded, any_packet}
use Rattle.ff_host.specs.declared.sink.Sink.{Ghosts as SinkGhosts}
use Rattle.ff_net.specs.laws.Views.{View}
use Rattle.ff_node_avi.specs.laws.AviViews.{avi_view}
use Rattle.ff_node_demux.specs.laws.DemuxViews.{demux_view}
use Rattle.ff_node_demux.specs.laws.gens.GenViews.{gen_view}
use Rattle.ff_source.specs.laws.Left.{left as frames_left}
use Rattle.ff_node_codec.specs.laws.Kinds.{dec_view, enc_view}
use Rattle.ff_node_flac.specs.laws.Machines as flac
use Rattle.ff_node_mux.specs.laws.Kinds.{mux_view}
use Rattle.ff_run.specs.laws.build.Throughs.{through_shown}
use Rattle.ff_run.specs.declared.build.part.Part.{Part}
use Rattle.ff_run.specs.declared.build.part.Part.TheVariants as part

-- what a part shows to contracts: what its kind shows
abbrev pub part_view : {S K : Type 0} {G : SinkGhosts K} → (S → Option (List ℕ)) → (S → Option (List ℕ)) → (S → ℕ) → Part S K G → View
part_view left named failed (part.Demux m) = demux_view left named failed m
part_view left named failed (part.Avi m) = avi_view left named failed m
part_view left named failed (part.Gen m) = gen_view frames_left m
part_view left named failed (part.Dec m) = dec_view any_head any_frame m
part_view left named failed (part.Graph m) = through_shown m
part_view left named failed (part.Joint m) = through_shown m
part_view left named failed (part.Enc m) = enc_view any_serves any_coded any_packet m
part_view left named failed (part.FlacEnc m) = flac.enc_view m
part_view left named failed (part.Mux m) = mux_view m
