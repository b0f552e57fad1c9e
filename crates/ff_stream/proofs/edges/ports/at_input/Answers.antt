use Rattle.std.proofs.Common.{rules}
use Rattle.ff_stream.specs.edges.Ports.{leads_to}
use Rattle.ff_stream.proofs.EdgesLemmas.First.{first_is, none_is}
use Rattle.ff_stream.proofs.edges.ports.at_input.Goals as goal

pub returns-then-is_at_input : goal.returns-then-is_at_input
returns-then-is_at_input c = first_is (leads_to c.args.node c.args.port) c.args.edges.now c.loop-k.k c.index-edges-k.result (search rules) c.index-edges-k.is (search rules) c.loop-k.invariant

pub returns : goal.returns
returns c = none_is (leads_to c.args.node c.args.port) c.args.edges.now c.loop-k.k c.loop-k-test.false c.loop-k.invariant
