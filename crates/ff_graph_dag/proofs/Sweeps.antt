-- Edge by edge, from the last one down: each output that feeds a spent input has closed or was stopped.
use Rattle.std.proofs.Common.{◌≡◌, ◌≢◌, ℕ, zero, suc, ◌+◌, ◌-◌, ◌≤◌, ◌<◌, ◌==◌, ◌||◌, Bool, true, false, true≢false, not, List, [], ◌∷◌, length, Option, Some, None}
use Rattle.std.proofs.Common.{slice_get, slice_index_or, slice_set, refl, ap, sym, ◌∙◌, subst, arith}
use Rattle.std.proofs.lemmas.Bool.Decides.{nat_tests}
use Rattle.ff_filter.specs.Views.{View}
use Rattle.ff_filter.specs.laws.Held.{held_closes}
use Rattle.ff_graph_dag.specs.declared.graph.Port.{Port}
use Rattle.ff_graph_dag.specs.declared.graph.Wire.{Wire}
use Rattle.ff_graph_dag.specs.declared.graph.Plan.{Plan}
use Rattle.ff_graph_dag.specs.declared.placed.Placed.{Placed}
use Rattle.ff_graph_dag.specs.laws.Dags.{Spot, spot_of, held_at, Halted}
use Rattle.ff_graph_dag.specs.laws.Graphs.{spots, spot_at, wire_at, port_shut, port_ended, port_stopped, Sound}
use Rattle.ff_graph_dag.specs.laws.Readings.{left_true, right_true, spots_size}
use Rattle.ff_graph_dag.specs.laws.Spends.{spends_at, port_spent, port_done, SweptFrom, Swept}
use Rattle.ff_graph_dag.proofs.Moving.{spots_set, spot_is, from_there}
use Rattle.ff_graph_dag.proofs.Stopping.{ends, stops_else, stops_here}
use Rattle.ff_graph_dag.proofs.Carrying.{filter_there, source_there}

get_set_other : {A : Type 0} (xs : List A) (k m : ℕ) (x : A) → m ≢ k → slice_get (slice_set xs k x) m ≡ slice_get xs m
get_set_other [] k m x n = refl
get_set_other (y ∷ xs) zero zero x n = absurd (n refl)
get_set_other (y ∷ xs) zero (suc m) x n = refl
get_set_other (y ∷ xs) (suc k) zero x n = refl
get_set_other (y ∷ xs) (suc k) (suc m) x n = get_set_other xs k m x (λ e. n (ap (λ (j : ℕ). suc j) e))

pub got_at : {A : Type 0} (xs : List A) (k : ℕ) (d x : A) → k < length xs → x ≡ slice_index_or xs k d → slice_get xs k ≡ Some x
got_at [] k d x lt e = absurd (omega arith)
got_at (y ∷ xs) zero d x lt e = ap (λ z. Some z) (sym e)
got_at (y ∷ xs) (suc k) d x lt e = got_at xs k d x (omega arith) e

either_true : (a b : Bool) → (a || b) ≡ true → (P : Type 0) → (a ≡ true → P) → (b ≡ true → P) → P
either_true true b e P f g = f refl
either_true false b e P f g = g e

-- one edge more
pub swept_more : {F : Type 0} (view : F → View) (spends : F → ℕ → Bool) (p : Plan) (ps : List (Placed F)) (w : ℕ) → SweptFrom view spends p ps (w + 1)
    → ((f : Port) → (wire_at p w).from ≡ Some f → port_spent spends ps (wire_at p w).to ≡ true → port_done (spots view ps) f ≡ true) → SweptFrom view spends p ps w
swept_more view spends p ps w h here v f le lt k e = at (v == w) refl
  where
    at : (b : Bool) → (v == w) ≡ b → port_done (spots view ps) f ≡ true
    at true b =
        let same : v ≡ w = grind (arith, nat_tests) in
        here f (ap (λ (u : ℕ). (wire_at p u).from) (sym same) ∙ k) (ap (λ (u : ℕ). port_spent spends ps (wire_at p u).to) (sym same) ∙ e)
    at false b =
        let other : v ≢ w = grind (arith, nat_tests) in
        h v f (omega (arith, le, other)) lt k e

pub swept_all : {F : Type 0} (view : F → View) (spends : F → ℕ → Bool) (p : Plan) (ps : List (Placed F)) (n : ℕ) → n ≡ 0 → SweptFrom view spends p ps n
    → Swept view spends p ps
swept_all view spends p ps n z h w f lt k e = h w f (omega (arith, z)) lt k e

module _ {F : Type 0} (view : F → View) (spends : F → ℕ → Bool) (p : Plan) (ps : List (Placed F)) (w : ℕ) (e : Wire) (wlt : w < length p.wires.items)
    (is : wire_at p w ≡ e) (s : Sound p (spots view ps)) where
  from_is : (wire_at p w).from ≡ e.from
  from_is = ap (λ (x : Wire). x.from) is

  -- an input of the graph is fed by no filter
  pub swept_entry : e.from ≡ None → SweptFrom view spends p ps (w + 1) → SweptFrom view spends p ps w
  swept_entry none h = swept_more view spends p ps w h (λ f k sp. let clash : None ≡ Some f = sym none ∙ (sym from_is ∙ k) in cc)

  spent_there : (d t : Placed F) → t ≡ slice_index_or ps e.to.filter d → port_spent spends ps (wire_at p w).to ≡ spends t.filter e.to.port
  spent_there d t k = ap (λ (x : Wire). port_spent spends ps x.to) is
      ∙ ap (λ (o : Option (Placed F)). spends_at spends o e.to.port) (got_at ps e.to.filter d t (filter_there view p ps w e wlt is s) k)

  -- the input isn't spent, or has closed
  pub swept_needed : (d t : Placed F) → t ≡ slice_index_or ps e.to.filter d → (b : Bool) → b ≡ true
      → ((view t.filter).shut e.to.port ≡ false → b ≡ not (spends t.filter e.to.port)) → SweptFrom view spends p ps (w + 1) → SweptFrom view spends p ps w
  swept_needed d t k b need unspent h = swept_more view spends p ps w h (λ f from sp. at f from (sym (spent_there d t k) ∙ sp) ((view t.filter).shut e.to.port) refl)
    where
      clash : (c : Bool) → c ≡ true → b ≡ not c → (P : Type 0) → P
      clash true x y P = absurd (true≢false (sym need ∙ y))
      clash false x y P = cc

      at : (f : Port) → (wire_at p w).from ≡ Some f → spends t.filter e.to.port ≡ true → (c : Bool) → (view t.filter).shut e.to.port ≡ c
          → port_done (spots view ps) f ≡ true
      at f from sp false c = clash (spends t.filter e.to.port) sp (unspent c) (port_done (spots view ps) f ≡ true)
      at f from sp true c =
          let there : spot_at (spots view ps) e.to.filter ≡ spot_of view t = spot_is view ps e.to.filter d t (filter_there view p ps w e wlt is s) k in
          let shut : port_shut (spots view ps) e.to ≡ true = ap (λ (a : Spot). a.view.shut e.to.port || held_closes (held_at a.held e.to.port)) there
          ∙ left_true ((view t.filter).shut e.to.port) (held_closes (held_at t.held.items e.to.port)) c in
          let ended : port_ended (spots view ps) f ≡ true = sym (s.linked w f wlt from) ∙ (ap (λ (x : Wire). port_shut (spots view ps) x.to) is ∙ shut) in
          left_true (port_ended (spots view ps) f) (port_stopped (spots view ps) f) ended

  -- the output that the edge leaves was stopped
  module _ (f : Port) (from : e.from ≡ Some f) (d q r : Placed F) (k : q ≡ slice_index_or ps f.filter d) (g : Halted (spot_of view q) (spot_of view r) f.port) where
    abbrev cut : List (Placed F)
    cut = slice_set ps f.filter r

    way : (wire_at p w).from ≡ Some f
    way = from_is ∙ from

    jlt : f.filter < length (spots view ps)
    jlt = let lt = source_there view p ps w e wlt is s f from in omega (arith, lt, spots_size view ps)

    halts : Halted (spot_at (spots view ps) f.filter) (spot_of view r) f.port
    halts = subst (λ (a : Spot). Halted a (spot_of view r) f.port) (sym (spot_is view ps f.filter d q (source_there view p ps w e wlt is s f from) k)) g

    cut_is : spots view cut ≡ slice_set (spots view ps) f.filter (spot_of view r)
    cut_is = spots_set view ps f.filter r

    done_here : port_done (spots view cut) f ≡ true
    done_here = right_true (port_ended (spots view cut) f) (port_stopped (spots view cut) f)
        (ap (λ (ss : List Spot). port_stopped ss f) cut_is ∙ stops_here p (spots view ps) f (spot_of view r) jlt s halts)

    -- of a later edge
    module _ (v : ℕ) (o : Port) (later : w + 1 ≤ v) (vlt : v < length p.wires.items) (leaves : (wire_at p v).from ≡ Some o) where
      other : v ≢ w
      other = λ x. absurd (omega (arith, x, later))

      not_it : (wire_at p v).to.filter ≢ f.filter
      not_it = λ x. let up = s.framed.upward w v f (omega (arith, later)) vlt way in absurd (omega (arith, x, up))

      spent_same : port_spent spends cut (wire_at p v).to ≡ port_spent spends ps (wire_at p v).to
      spent_same = ap (λ (m : Option (Placed F)). spends_at spends m (wire_at p v).to.port) (get_set_other ps f.filter (wire_at p v).to.filter r not_it)

      ended_same : port_ended (spots view cut) o ≡ port_ended (spots view ps) o
      ended_same = ap (λ (ss : List Spot). port_ended ss o) cut_is ∙ ends p (spots view ps) f (spot_of view r) jlt s halts o.filter o.port

      stopped_same : port_stopped (spots view cut) o ≡ port_stopped (spots view ps) o
      stopped_same = ap (λ (ss : List Spot). port_stopped ss o) cut_is
          ∙ stops_else p (spots view ps) f (spot_of view r) jlt s halts o ((s.wired w wlt).froms f o v way leaves other) (from_there p (spots view ps) v o s vlt leaves)

      done_same : port_done (spots view cut) o ≡ port_done (spots view ps) o
      done_same = ap (λ (b : Bool). b || port_stopped (spots view cut) o) ended_same ∙ ap (λ (b : Bool). port_ended (spots view ps) o || b) stopped_same

    pub swept_halted : SweptFrom view spends p ps (w + 1) → SweptFrom view spends p cut w
    swept_halted h = swept_more view spends p cut w
        (λ v o later vlt leaves sp. done_same v o later vlt leaves ∙ h v o later vlt leaves (sym (spent_same v o later vlt leaves) ∙ sp))
        (λ o leaves sp. subst (λ (x : Port). port_done (spots view cut) x ≡ true) (same o leaves) done_here)
      where
        some_same : (a b : Port) → Some a ≡ Some b → a ≡ b
        some_same a b x = cc

        same : (o : Port) → (wire_at p w).from ≡ Some o → f ≡ o
        same o leaves = some_same f o (sym way ∙ leaves)

-- one step down the edges, of which so many are done
pub swept_step : {F : Type 0} (view : F → View) (spends : F → ℕ → Bool) (q p : Plan) (ps qs : List (Placed F)) (count done : ℕ) → q ≡ p → done < count
    → SweptFrom view spends p ps (count - done)
    → (SweptFrom view spends q ps ((count - 1) - done + 1) → SweptFrom view spends q qs ((count - 1) - done)) → SweptFrom view spends p qs (count - (done + 1))
swept_step view spends q p ps qs count done e lt h step w f le wlt k sp =
    let top : (count - 1) - done + 1 ≡ count - done = omega (arith, lt) in
    let low : (count - 1) - done ≡ count - (done + 1) = omega (arith, lt) in
    let went : SweptFrom view spends p ps ((count - 1) - done + 1) → SweptFrom view spends p qs ((count - 1) - done) = subst (λ (r : Plan).
    SweptFrom view spends r ps ((count - 1) - done + 1) → SweptFrom view spends r qs ((count - 1) - done)) e step in
    went (λ v o vle vlt leaves spent. h v o (omega (arith, top, vle)) vlt leaves spent) w f (omega (arith, low, le)) wlt k sp
