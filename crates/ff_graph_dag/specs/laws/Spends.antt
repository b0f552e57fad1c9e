-- Which inputs of a graph's filters are spent, by what the filters say, and which outputs are stopped for that.
use Rattle.std.specs.Prelude.{◌≡◌, ◌↔◌, ◌⊎◌, ℕ, ◌≤◌, ◌<◌, ◌||◌, Bool, true, false, List, [], ◌∷◌, length, slice_get, Option, None, Some}
use Rattle.std.proofs.Common.{arith}
use Rattle.std.proofs.Math.Bool.{Bool-set}
use Rattle.ff_stream.specs.Ports.{nothing, IsClosed}
use Rattle.ff_filter.specs.Joins.{silence}
use Rattle.ff_filter.specs.Views.{View}
use Rattle.ff_graph_dag.specs.declared.graph.Port.{Port}
use Rattle.ff_graph_dag.specs.declared.graph.Plan.{Plan}
use Rattle.ff_graph_dag.specs.declared.placed.Placed.{Placed}
use Rattle.ff_graph_dag.specs.laws.Dags.{Spot}
use Rattle.ff_graph_dag.specs.laws.Graphs.{spots, spot_at, wire_at, feed_at, port_shut, port_ended, port_stopped, InThere, OutThere}

abbrev pub spends_at : {F : Type 0} → (F → ℕ → Bool) → Option (Placed F) → ℕ → Bool
spends_at spends None i = false
spends_at spends (Some place) i = spends place.filter i

-- the filter there says that this input of it is spent
abbrev pub port_spent : {F : Type 0} → (F → ℕ → Bool) → List (Placed F) → Port → Bool
port_spent spends ps f = spends_at spends (slice_get ps f.filter) f.port

-- the filter to which an input of the graph leads says so
abbrev pub feed_spent : {F : Type 0} → (F → ℕ → Bool) → Plan → List (Placed F) → ℕ → Bool
feed_spent spends p ps i = port_spent spends ps (feed_at p i)

-- an output of a filter has closed, or was stopped
abbrev pub port_done : List Spot → Port → Bool
port_done ss f = port_ended ss f || port_stopped ss f

-- from this edge on, each output that feeds a spent input has closed or was stopped
abbrev pub SweptFrom : {F : Type 0} → (F → View) → (F → ℕ → Bool) → Plan → List (Placed F) → ℕ → Type 0
SweptFrom view spends p ps n = (w : ℕ) (f : Port) → n ≤ w → w < length p.wires.items → (wire_at p w).from ≡ Some f → port_spent spends ps (wire_at p w).to ≡ true
    → port_done (spots view ps) f ≡ true

-- Each output that feeds a spent input has closed or was stopped.
abbrev pub Swept : {F : Type 0} → (F → View) → (F → ℕ → Bool) → Plan → List (Placed F) → Type 0
Swept view spends p ps = (w : ℕ) (f : Port) → w < length p.wires.items → (wire_at p w).from ≡ Some f → port_spent spends ps (wire_at p w).to ≡ true
    → port_done (spots view ps) f ≡ true

pub Swept-prop : {F : Type 0} (view : F → View) (spends : F → ℕ → Bool) (p : Plan) (ps : List (Placed F)) → IsProp (Swept view spends p ps)
Swept-prop view spends p ps = hlevel Bool-set

-- There are outputs, of which this is told, and the filter to which an input leads says that the input there is spent.
abbrev pub leads_to_spent : {F : Type 0} → (F → ℕ → Bool) → Plan → List (Placed F) → List Bool → ℕ → Bool
leads_to_spent spends p ps [] i = false
leads_to_spent spends p ps (b ∷ bs) i = feed_spent spends p ps i

pub leads_on : {F : Type 0} (spends : F → ℕ → Bool) (p : Plan) (ps : List (Placed F)) (bs : List Bool) (i : ℕ) → leads_to_spent spends p ps bs i ≡ true
    → (0 < length bs) × (feed_spent spends p ps i ≡ true)
leads_on spends p ps [] i e = cc
leads_on spends p ps (b ∷ bs) i e = (omega arith, e)

-- the rule -----------------------------------------------------------------------------------------------------------

-- an output feeds an input of which this is said
abbrev pub Feeds : Plan → (Port → Bool) → Port → Type 0
Feeds p s f = (w : ℕ) × (w < length p.wires.items) × ((wire_at p w).from ≡ Some f) × (s (wire_at p w).to ≡ true)

-- An output of a filter counts as stopped where it has closed, it was stopped, or it feeds a spent input.
abbrev pub CountsAsStopped : Plan → List Spot → (Port → Bool) → Port → Type 0
CountsAsStopped p ss s f = (port_done ss f ≡ true) ⊎ Feeds p s f

-- an output of a filter is closed in what the filter was fed
abbrev pub IsClosedBy : List Spot → Port → Type 0
IsClosedBy ss f = IsClosed ((spot_at ss f.filter).view.rest silence f.port)

-- An input of a filter is spent where it has closed, or where the filter has outputs and each that doesn't count as stopped is closed in what
-- the filter was fed.
abbrev pub IsSpentThere : Plan → List Spot → (Port → Bool) → Port → Type 0
IsSpentThere p ss s f = (port_shut ss f ≡ true) ⊎ ((0 < length (spot_at ss f.filter).view.outs) × ((o : ℕ) → o < length (spot_at ss f.filter).view.outs
    → CountsAsStopped p ss s (record { filter = f.filter; port = o }) ⊎ IsClosedBy ss (record { filter = f.filter; port = o })))

-- of each input of a filter this says whether it is spent
abbrev pub SaysSpent : Plan → List Spot → (Port → Bool) → Type 0
SaysSpent p ss s = (f : Port) → f.filter < length ss → InThere ss f → (s f ≡ true) ↔ IsSpentThere p ss s f

-- nothing that was fed to a filter is still to come out of it, where it is wanted
abbrev pub AllGaveAll : List Spot → Type 0
AllGaveAll ss = (f : Port) → f.filter < length ss → OutThere ss f → port_stopped ss f ≡ false → (spot_at ss f.filter).view.rest silence f.port ≡ nothing
