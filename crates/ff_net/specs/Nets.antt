-- A network of parts, and the meaning of the whole.
use Rattle.std.specs.Prelude.{ℕ, suc, ◌==◌, if◌then◌else◌, List, [], ◌∷◌, ◌++◌, map, Option}
use Rattle.ff_stream.specs.declared.item.Lane.{Lane}
use Rattle.ff_stream.specs.Ports.{nothing, stream_at}
use Rattle.ff_net.specs.Ways.{Flow}
use Rattle.ff_net.specs.Pasts.{IsIn, Units}

-- a node: its function, its units where it is a source, the lanes of its ports, and the edge at each port, by number
pub record Part : Type 0 where
  pub means : List Flow → List Flow
  pub source : Option Units
  pub in_lanes : List Lane
  pub out_lanes : List Lane
  pub ins : List ℕ
  pub outs : List ℕ

-- the streams on the edges, with these of a node's outputs on the edges that leave it
abbrev pub put_all : List ℕ → (ℕ → Flow) → (ℕ → Flow) → ℕ → Flow
put_all [] gives σ w = σ w
put_all (o ∷ os) gives σ w = if o == w then gives 0 else put_all os (λ p. gives (suc p)) σ w

abbrev pub solve_from : (ℕ → Flow) → List Part → ℕ → Flow
solve_from σ [] = σ
solve_from σ (n ∷ ns) = solve_from (put_all n.outs (stream_at (n.means (map σ n.ins))) σ) ns

-- the stream on each edge, from node 0 upward
abbrev pub solve : List Part → ℕ → Flow
solve ns = solve_from (λ w. nothing) ns

-- each edge that leads to a node leaves an earlier one
abbrev pub IsUpward : List ℕ → List Part → Type 0
IsUpward ws [] = Unit {0}
IsUpward ws (n ∷ ns) = ((w : ℕ) → IsIn w n.ins → IsIn w ws) × IsUpward (n.outs ++ ws) ns
