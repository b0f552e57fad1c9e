use Rattle.std.proofs.Common.{◌≡◌, ◌++◌, drop, ℕ, List}
use Rattle.ff_frame.specs.declared.packet.Pkt.{Pkt}
use Rattle.ff_mux.specs.DigestTexts.{stream_lines_from}
use Rattle.ff_mux.specs.laws.writers.Writers.{HasStreams, streams_heads, streams_kind}
use Rattle.ff_mux.proofs.writers.digests.StreamsWriterWriter.tail.Given as goal

abbrev pub invariant-streams : goal.invariant-streams
invariant-streams l = (ps : List (ℕ × Pkt)) → HasStreams l.self ps
    → l.text.items ++ stream_lines_from (streams_kind l.self) l.i (drop l.i (streams_heads l.self)) ps
    ≡ stream_lines_from (streams_kind l.self) 0 (streams_heads l.self) ps
