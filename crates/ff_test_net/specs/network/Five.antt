-- Five machines in a network with a fork and a join.
use Rattle.std.specs.Prelude.{◌≡◌, ℕ, ◌<◌, List, [], ◌∷◌, length, map, replicate, slice_index_or}
use Rattle.ff_stream.specs.declared.item.Lane.{Lane}
use Rattle.ff_stream.specs.declared.edges.edge.Edge.{Edge}
use Rattle.ff_test_machines.specs.declared.plain.Plain.{Plain}
use Rattle.ff_test_machines.specs.Plains.{IsBelow, plain_view}
use Rattle.ff_sched.specs.declared.routes.Routes.{Routes}
use Rattle.ff_sched.specs.laws.Routes.{AreRoutes}

-- the machine has so many inputs and outputs, all of this lane
abbrev pub HasPorts : Lane → ℕ → ℕ → Plain → Type 0
HasPorts lane ins outs m = ((plain_view m).in_lanes ≡ replicate ins lane) × ((plain_view m).out_lanes ≡ replicate outs lane)

abbrev pub five_ins : Lane → List (List Lane)
five_ins l = [] ∷ (l ∷ []) ∷ (l ∷ []) ∷ (l ∷ l ∷ []) ∷ (l ∷ []) ∷ []

abbrev pub five_outs : Lane → List (List Lane)
five_outs l = (l ∷ []) ∷ (l ∷ l ∷ []) ∷ (l ∷ []) ∷ (l ∷ []) ∷ [] ∷ []

-- the five, by the lanes of their ports
pub record AreFive (lane : Lane) (machines : List Plain) : Type 0 where
  pub ins : map (λ m. (plain_view m).in_lanes) machines ≡ five_ins lane
  pub outs : map (λ m. (plain_view m).out_lanes) machines ≡ five_outs lane
  pub below : (k : ℕ) (d : Plain) → k < length machines → IsBelow 1 (slice_index_or machines k d)

-- the routes of one source
pub record IsOneSource (routes : Routes) : Type 0 where
  pub one : routes.sources ≡ 1
  pub routed : AreRoutes routes

-- the source feeds the repeater; its first output goes on through the stopper, its second to the second input of the join
abbrev pub five_edges : Lane → List Edge
five_edges l = record { from = 0; out_port = 0; to = 1; in_port = 0; lane = l }
    ∷ record { from = 1; out_port = 0; to = 2; in_port = 0; lane = l }
    ∷ record { from = 1; out_port = 1; to = 3; in_port = 1; lane = l }
    ∷ record { from = 2; out_port = 0; to = 3; in_port = 0; lane = l }
    ∷ record { from = 3; out_port = 0; to = 4; in_port = 0; lane = l }
    ∷ []
