use Rattle.std.proofs.Common.{rules}
use Rattle.ff_stream.specs.edges.Ports.{leaves}
use Rattle.ff_stream.proofs.EdgesLemmas.First.{first_is, none_is}
use Rattle.ff_stream.proofs.edges.ports.at_output.Goals as goal

pub returns-then-is_at_output : goal.returns-then-is_at_output
returns-then-is_at_output c = first_is (leaves c.args.node c.args.port) c.args.edges.now c.loop-k.k c.index-edges-k.result (search rules) c.index-edges-k.is (search rules) c.loop-k.invariant

pub returns : goal.returns
returns c = none_is (leaves c.args.node c.args.port) c.args.edges.now c.loop-k.k c.loop-k-test.false c.loop-k.invariant
