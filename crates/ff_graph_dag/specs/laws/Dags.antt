-- Filters fed by filters: each edge has a number, and one stream.
use Rattle.std.specs.Prelude.{◌≡◌, ◌≢◌, ℕ, zero, suc, ◌<◌, ◌||◌, Bool, true, false, cond, List, [], ◌∷◌, length, Option, None, Some, is_some}
use Rattle.std.specs.Prelude.{slice_index_or}
use Rattle.std.proofs.Math.Nat.{ℕ_set}
use Rattle.ff_stream.specs.declared.item.Item.{Item}
use Rattle.ff_stream.specs.Ports.{nothing, IsClosed}
use Rattle.ff_net.specs.Nets.{put_all}
use Rattle.ff_filter.specs.Joins.{Ports, before_at}
use Rattle.ff_filter.specs.Views.{View, SamePorts, closes}
use Rattle.ff_filter.specs.laws.Held.{after_held, held_closes}
use Rattle.ff_graph_dag.specs.declared.graph.Node.{Node}
use Rattle.ff_graph_dag.specs.declared.placed.Placed.{Placed}

-- a filter in its place: what it still gives, and what is held before each input
pub record Spot : Type 0 where
  pub view : View
  pub held : List (Option Item)

abbrev pub spot_of : {F : Type 0} → (F → View) → Placed F → Spot
spot_of view p = record { view = view p.filter; held = p.held.items }

abbrev pub held_at : List (Option Item) → ℕ → Option Item
held_at hs i = slice_index_or hs i None

-- the closing item was fed there, or waits there
abbrev pub spot_shut : Spot → ℕ → Bool
spot_shut s i = s.view.shut i || held_closes (held_at s.held i)

-- the streams on these edges, by their place in the list
abbrev pub reads : List ℕ → Ports → Ports
reads [] σ i = nothing
reads (w ∷ ws) σ zero = σ w
reads (w ∷ ws) σ (suc i) = reads ws σ i

-- what comes to each input: what is held there, and then what its edge brings
abbrev pub comes : Spot → Node → Ports → Ports
comes s n σ i = after_held (held_at s.held i) (reads n.ins.items σ i)

-- what it still gives: nothing where the output isn't wanted
abbrev pub gives : Spot → Node → Ports → Ports
gives s n σ q = cond (s.view.stopped q) nothing (s.view.rest (comes s n σ) q)

-- the streams on the edges, with its own on those that leave it
abbrev pub after : Spot → Node → Ports → Ports
after s n σ = put_all n.outs.items (gives s n σ) σ

-- the streams on all edges, from the first filter to the last
abbrev pub solve_spots : Ports → List Spot → List Node → Ports
solve_spots σ [] ns = σ
solve_spots σ (s ∷ ss) [] = σ
solve_spots σ (s ∷ ss) (n ∷ ns) = solve_spots (after s n σ) ss ns

-- an edge isn't among these
abbrev pub Free : ℕ → List ℕ → Type 0
Free w [] = Unit {0}
Free w (u ∷ us) = (u ≢ w) × Free w us

-- an edge is at this place in the list, and at no other
abbrev pub StandsAt : ℕ → ℕ → List ℕ → Type 0
StandsAt w i [] = ⊥
StandsAt w zero (u ∷ us) = (u ≡ w) × Free w us
StandsAt w (suc i) (u ∷ us) = (u ≢ w) × StandsAt w i us

-- a filter has nothing to do with an edge
abbrev pub Untouched : ℕ → Node → Type 0
Untouched w n = Free w n.ins.items × Free w n.outs.items

abbrev pub AllUntouched : ℕ → List Node → Type 0
AllUntouched w [] = Unit {0}
AllUntouched w (n ∷ ns) = Untouched w n × AllUntouched w ns

-- an edge leads to this input, and no filter has to do with it but the one that it leaves
abbrev pub Reads : ℕ → ℕ → ℕ → List Node → Type 0
Reads w k i [] = ⊥
Reads w zero i (n ∷ ns) = StandsAt w i n.ins.items × Free w n.outs.items × AllUntouched w ns
Reads w (suc k) i (n ∷ ns) = Untouched w n × Reads w k i ns

-- an edge leaves this output, and no filter reads it
abbrev pub Leaves : ℕ → ℕ → ℕ → List Node → Type 0
Leaves w j q [] = ⊥
Leaves w zero q (n ∷ ns) = StandsAt w q n.outs.items × Free w n.ins.items × AllUntouched w ns
Leaves w (suc j) q (n ∷ ns) = Untouched w n × Leaves w j q ns

-- an edge leads from an output of filter j to an input of filter k, and nowhere else
abbrev pub Leads : ℕ → ℕ → ℕ → ℕ → ℕ → List Node → Type 0
Leads w j q k i [] = ⊥
Leads w j q zero i (n ∷ ns) = ⊥
Leads w zero q (suc k) i (n ∷ ns) = Free w n.ins.items × StandsAt w q n.outs.items × Reads w k i ns
Leads w (suc j) q (suc k) i (n ∷ ns) = Untouched w n × Leads w j q k i ns

-- whatever still comes, each output that is wanted was closed or closes
abbrev pub IsDecided : View → Type 0
IsDecided v = (ext : Ports) (q : ℕ) → q < length v.outs → v.stopped q ≡ false → v.ended q ≡ false → IsClosed (v.rest ext q)

-- what a call leaves --------------------------------------------------------------------------------------------

-- the input is there, and where an item waits, the closing one wasn't fed
pub record IsReady (s : Spot) (i : ℕ) : Type 0 where
  pub there : i < length s.view.ins
  pub unshut : is_some (held_at s.held i) ≡ true → s.view.shut i ≡ false

-- the same ports, and it gives the same for what its edges bring
pub record Alike (old new : Spot) : Type 0 where
  pub ports : SamePorts old.view new.view
  pub size : length new.held ≡ length old.held
  pub gives_is : (n : Node) (σ : Ports) (q : ℕ) → gives new n σ q ≡ gives old n σ q
  pub shut : (p : ℕ) → p < length old.view.ins → spot_shut new p ≡ spot_shut old p
  pub ended : (q : ℕ) → new.view.ended q ≡ old.view.ended q
  pub stopped : (q : ℕ) → new.view.stopped q ≡ old.view.stopped q
  pub decided : IsDecided old.view → IsDecided new.view

-- and the same waits before each input
pub record Kept (old new : Spot) : Type 0 where
  pub alike : Alike old new
  pub held : (p : ℕ) → held_at new.held p ≡ held_at old.held p
  pub rest : (ext : Ports) (q : ℕ) → old.view.stopped q ≡ false → new.view.rest ext q ≡ old.view.rest ext q
  pub fed : (p : ℕ) → new.view.shut p ≡ old.view.shut p

-- what waited before an input was fed
pub record Delivered (old new : Spot) (i : ℕ) : Type 0 where
  pub alike : Alike old new
  pub held_here : held_at new.held i ≡ None
  pub held_others : (p : ℕ) → p ≢ i → held_at new.held p ≡ held_at old.held p
  pub fed_others : (p : ℕ) → p < length old.view.ins → p ≢ i → new.view.shut p ≡ old.view.shut p

-- an item was put before an input
pub record Stored (old new : Spot) (i : ℕ) (x : Item) : Type 0 where
  pub ports : SamePorts old.view new.view
  pub size : length new.held ≡ length old.held
  pub after_is : (n : Node) (w : ℕ) → StandsAt w i n.ins.items → Free w n.outs.items → (σ : Ports) → after old n (before_at w x σ) ≡ before_at w x (after new n σ)
  pub shut_here : spot_shut new i ≡ (spot_shut old i || closes x)
  pub shut_others : (p : ℕ) → p ≢ i → spot_shut new p ≡ spot_shut old p
  pub held_here : held_at new.held i ≡ Some x
  pub held_others : (p : ℕ) → p ≢ i → held_at new.held p ≡ held_at old.held p
  pub view : new.view ≡ old.view

-- an item was given
pub record Pulled (old new : Spot) (q : ℕ) (x : Item) : Type 0 where
  pub ports : SamePorts old.view new.view
  pub held : new.held ≡ old.held
  pub after_is : (n : Node) (w : ℕ) → StandsAt w q n.outs.items → length n.outs.items ≡ length old.view.outs → (σ : Ports) → after old n σ ≡ before_at w x
      (after new n σ)
  pub fed : (p : ℕ) → new.view.shut p ≡ old.view.shut p
  pub open_before : old.view.ended q ≡ false
  pub ended_here : new.view.ended q ≡ closes x
  pub ended_others : (o : ℕ) → o < length old.view.outs → o ≢ q → new.view.ended o ≡ old.view.ended o
  pub stopped : (o : ℕ) → new.view.stopped o ≡ old.view.stopped o
  pub decided : IsDecided old.view → IsDecided new.view

-- an output isn't wanted any more
pub record Halted (old new : Spot) (q : ℕ) : Type 0 where
  pub ports : SamePorts old.view new.view
  pub held : new.held ≡ old.held
  pub gives_is : (n : Node) (σ : Ports) (o : ℕ) → o < length old.view.outs → o ≢ q → gives new n σ o ≡ gives old n σ o
  pub fed : (p : ℕ) → new.view.shut p ≡ old.view.shut p
  pub ended : (o : ℕ) → new.view.ended o ≡ old.view.ended o
  pub stopped_here : new.view.stopped q ≡ true
  pub stopped_others : (o : ℕ) → o < length old.view.outs → o ≢ q → new.view.stopped o ≡ old.view.stopped o
  pub decided : IsDecided old.view → IsDecided new.view

-- these are facts ---------------------------------------------------------------------------------------------

pub Free-prop : (w : ℕ) (us : List ℕ) → IsProp (Free w us)
Free-prop w [] = hlevel
Free-prop w (u ∷ us) = hlevel (Free-prop w us)

pub StandsAt-prop : (w i : ℕ) (us : List ℕ) → IsProp (StandsAt w i us)
StandsAt-prop w i [] = hlevel
StandsAt-prop w zero (u ∷ us) = hlevel (ℕ_set, Free-prop w us)
StandsAt-prop w (suc i) (u ∷ us) = hlevel (StandsAt-prop w i us)

pub AllUntouched-prop : (w : ℕ) (ns : List Node) → IsProp (AllUntouched w ns)
AllUntouched-prop w [] = hlevel
AllUntouched-prop w (n ∷ ns) = hlevel (Free-prop w n.ins.items, Free-prop w n.outs.items, AllUntouched-prop w ns)

pub Reads-prop : (w k i : ℕ) (ns : List Node) → IsProp (Reads w k i ns)
Reads-prop w k i [] = hlevel
Reads-prop w zero i (n ∷ ns) = hlevel (StandsAt-prop w i n.ins.items, Free-prop w n.outs.items, AllUntouched-prop w ns)
Reads-prop w (suc k) i (n ∷ ns) = hlevel (Free-prop w n.ins.items, Free-prop w n.outs.items, Reads-prop w k i ns)

pub Leaves-prop : (w j q : ℕ) (ns : List Node) → IsProp (Leaves w j q ns)
Leaves-prop w j q [] = hlevel
Leaves-prop w zero q (n ∷ ns) = hlevel (StandsAt-prop w q n.outs.items, Free-prop w n.ins.items, AllUntouched-prop w ns)
Leaves-prop w (suc j) q (n ∷ ns) = hlevel (Free-prop w n.ins.items, Free-prop w n.outs.items, Leaves-prop w j q ns)

pub Leads-prop : (w j q k i : ℕ) (ns : List Node) → IsProp (Leads w j q k i ns)
Leads-prop w j q k i [] = hlevel
Leads-prop w zero q zero i (n ∷ ns) = hlevel
Leads-prop w (suc j) q zero i (n ∷ ns) = hlevel
Leads-prop w zero q (suc k) i (n ∷ ns) = hlevel (Free-prop w n.ins.items, StandsAt-prop w q n.outs.items, Reads-prop w k i ns)
Leads-prop w (suc j) q (suc k) i (n ∷ ns) = hlevel (Free-prop w n.ins.items, Free-prop w n.outs.items, Leads-prop w j q k i ns)
