use Rattle.std.proofs.Common.{◌≡◌, drop}
use Rattle.ff_graph.specs.Configured.{heads_into}
use Rattle.ff_graph.specs.laws.Pads.{heads_in}
use Rattle.ff_graph.proofs.Behind.{prefixed}
use Rattle.ff_graph.proofs.heads.heads_into.Given as goal

abbrev pub invariant-pads : goal.invariant-pads
invariant-pads l =
    prefixed l.found.items (heads_into l.opens l.given (heads_in l.heads) l.filter l.pad (drop l.pad l.sources))
    ≡ heads_into l.opens l.given (heads_in l.heads) l.filter 0 l.sources
