-- The numbers of output streams, which count over all outputs.
use Rattle.std.specs.Prelude.{ℕ, ◌-◌, ◌≤◌, ◌&&◌, nat_le, nat_lt, Bool, List, length}
use Rattle.ff_stream.specs.declared.edges.edge.Edge.{Edge}
use Rattle.ff_stream.specs.edges.Ports.{tally}
use Rattle.ff_plan.specs.declared.planned.Plan.{Plan}

-- the edge leads to a node from this number on, before that one
abbrev pub leads_between : ℕ → ℕ → Edge → Bool
leads_between low high e = nat_le low e.to && nat_lt e.to high

-- how many streams enter the nodes from this number on, before that one
abbrev pub streams_between : ℕ → ℕ → List Edge → ℕ
streams_between low high edges = tally (leads_between low high) edges

-- the number of the first stream of the Mux node k, where the Mux nodes stand from this number on: as many streams enter those before it
abbrev pub first_stream : ℕ → List Edge → ℕ → ℕ
first_stream muxes edges k = streams_between muxes k edges

-- so many outputs, which stand last, have at most 16 streams together
abbrev pub HasFewStreams : ℕ → Plan → Type 0
HasFewStreams outputs p = (k : ℕ) → streams_between (length p.nodes - outputs) k p.edges ≤ 16
