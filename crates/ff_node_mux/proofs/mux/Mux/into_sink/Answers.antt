use Rattle.std.proofs.Common.{◌+◌, ap, ◌∙◌}
use Rattle.ff_stream.specs.Ports.{stream_at}
use Rattle.ff_net.specs.Pasts.{Task}
use Rattle.ff_node_mux.specs.laws.MuxLaws.{mux_holds_nothing, mux_holds, mux_holds_file, mux_holds_part, mux_lane}
use Rattle.ff_node_mux.specs.StreamEvents.{events_of}
use Rattle.ff_node_mux.proofs.Ones.{mux_holds_small}
use Rattle.ff_node_mux.proofs.StreamTells.{told_of_streams}
use Rattle.ff_node_mux.proofs.mux.Mux.into_sink.Goals as goal

pub returns-clause-fresh : goal.returns-clause-fresh
returns-clause-fresh g c = λ past s. mux_holds_nothing c.args.self past s.0

pub returns-clause-exact : goal.returns-clause-exact
returns-clause-exact g c = λ past first bases layout s is. mux_holds c.args.self past s.0 first bases layout is

pub returns-clause-whole : goal.returns-clause-whole
returns-clause-whole g c = λ past first bases layout s is. mux_holds_file c.args.self past s.0 first bases layout is

pub returns-clause-front : goal.returns-clause-front
returns-clause-front g c = λ past first bases layout s is. mux_holds_part c.args.self past s.0 first bases layout is

pub returns-clause-told : goal.returns-clause-told
returns-clause-told g c = λ past first bases layout p s is there closed.
    let lane = mux_lane c.args.self past s.0 first bases layout is p there in
    ap (λ (t : Task). events_of (first + p) (t.tells past.feeds)) is
    ∙ told_of_streams first p bases lane.0 (stream_at past.got p) past.feeds there lane.1 closed (s.0.1.feeds_are p)

pub returns-clause-small : goal.returns-clause-small
returns-clause-small g c = λ past first base layout s is. mux_holds_small c.args.self past s.0 first base layout is
