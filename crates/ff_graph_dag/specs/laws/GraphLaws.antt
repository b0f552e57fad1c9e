-- A graph of filters that grow and hide breaks does so too, and an output that was closed gives nothing more.
use Rattle.std.proofs.Common.{◌≡◌, ℕ, zero, suc, ◌<◌, ◌==◌, if◌then◌else◌, Bool, true, false, cond, List, [], ◌∷◌, length, Option, None, Some}
use Rattle.std.proofs.Common.{slice_index_or, refl, ap, sym, ◌∙◌, subst, arith}
use Rattle.ff_stream.specs.declared.item.Item.{Item}
use Rattle.ff_stream.specs.Stream.{LiesBelow, opened}
use Rattle.ff_stream.specs.Ports.{nothing}
use Rattle.ff_stream.specs.laws.Order.{below_self, below_trans}
use Rattle.ff_net.specs.Nets.{put_all}
use Rattle.ff_filter.specs.Joins.{Flow, Ports, one, EachBelow, all_opened, Grows, HidesBreaks, opened_joined}
use Rattle.ff_filter.specs.Views.{View}
use Rattle.ff_filter.specs.laws.Held.{after_held, held_keeps}
use Rattle.ff_graph_dag.specs.declared.graph.Node.{Node}
use Rattle.ff_graph_dag.specs.declared.graph.Port.{Port}
use Rattle.ff_graph_dag.specs.declared.graph.Plan.{Plan}
use Rattle.ff_graph_dag.specs.declared.placed.Placed.{Placed}
use Rattle.ff_graph_dag.specs.laws.Dags.{Spot, spot_of, held_at, reads, comes, gives, after, solve_spots, Free, StandsAt, AllUntouched, Leaves}
use Rattle.ff_graph_dag.specs.laws.Graphs.{spots, no_spot, spot_at, pad_at, edge_at, flag_at, port_ended, graph_view, Sound, IsPad}
use Rattle.ff_graph_dag.specs.laws.Readings.{is_same, is_other, spots_size, flag_is, read_is}

cond_keeps : (b : Bool) (r s : Flow) → LiesBelow r s → LiesBelow (cond b nothing r) (cond b nothing s)
cond_keeps true r s h = below_self nothing
cond_keeps false r s h = h

put_grows : (os : List ℕ) (g h σ τ : Ports) → EachBelow g h → EachBelow σ τ → EachBelow (put_all os g σ) (put_all os h τ)
put_grows [] g h σ τ a b u = b u
put_grows (o ∷ os) g h σ τ a b u = at (o == u) (a 0) (put_grows os (λ q. g (suc q)) (λ q. h (suc q)) σ τ (λ q. a (suc q)) b u)
  where
    at : (c : Bool) → LiesBelow (g 0) (h 0) → LiesBelow (put_all os (λ q. g (suc q)) σ u) (put_all os (λ q. h (suc q)) τ u)
        → LiesBelow (if c then g 0 else put_all os (λ q. g (suc q)) σ u) (if c then h 0 else put_all os (λ q. h (suc q)) τ u)
    at true x y = x
    at false x y = y

reads_grows : (ws : List ℕ) (σ τ : Ports) → EachBelow σ τ → EachBelow (reads ws σ) (reads ws τ)
reads_grows [] σ τ b i = below_self nothing
reads_grows (w ∷ ws) σ τ b zero = b w
reads_grows (w ∷ ws) σ τ b (suc i) = reads_grows ws σ τ b i

after_grows : (s : Spot) (n : Node) (σ τ : Ports) → Grows s.view.rest → EachBelow σ τ → EachBelow (after s n σ) (after s n τ)
after_grows s n σ τ m b = put_grows n.outs.items (gives s n σ) (gives s n τ) σ τ
    (λ q. cond_keeps (s.view.stopped q) (s.view.rest (comes s n σ) q) (s.view.rest (comes s n τ) q)
    (m (comes s n σ) (comes s n τ) (λ i. held_keeps (held_at s.held i) (reads n.ins.items σ i) (reads n.ins.items τ i) (reads_grows n.ins.items σ τ b i)) q)) b

-- whoever isn't told of breaks
cond_calm : (b : Bool) (r s : Flow) → LiesBelow (opened r) s → LiesBelow (opened (cond b nothing r)) (cond b nothing s)
cond_calm true r s h = below_self nothing
cond_calm false r s h = h

held_calm : (held : Option Item) (r s : Flow) → LiesBelow (opened r) s → LiesBelow (opened (after_held held r)) (after_held held s)
held_calm None r s h = h
held_calm (Some x) r s h = opened_joined (one x) r s h

put_calm : (os : List ℕ) (g h σ τ : Ports) → EachBelow (all_opened g) h → EachBelow (all_opened σ) τ → EachBelow (all_opened (put_all os g σ)) (put_all os h τ)
put_calm [] g h σ τ a b u = b u
put_calm (o ∷ os) g h σ τ a b u = at (o == u) (a 0) (put_calm os (λ q. g (suc q)) (λ q. h (suc q)) σ τ (λ q. a (suc q)) b u)
  where
    at : (c : Bool) → LiesBelow (opened (g 0)) (h 0) → LiesBelow (opened (put_all os (λ q. g (suc q)) σ u)) (put_all os (λ q. h (suc q)) τ u)
        → LiesBelow (opened (if c then g 0 else put_all os (λ q. g (suc q)) σ u)) (if c then h 0 else put_all os (λ q. h (suc q)) τ u)
    at true x y = x
    at false x y = y

reads_calm : (ws : List ℕ) (σ τ : Ports) → EachBelow (all_opened σ) τ → EachBelow (all_opened (reads ws σ)) (reads ws τ)
reads_calm [] σ τ b i = below_self nothing
reads_calm (w ∷ ws) σ τ b zero = b w
reads_calm (w ∷ ws) σ τ b (suc i) = reads_calm ws σ τ b i

after_calm : (s : Spot) (n : Node) (σ τ : Ports) → Grows s.view.rest → HidesBreaks s.view.rest → EachBelow (all_opened σ) τ → EachBelow (all_opened (after s n σ))
    (after s n τ)
after_calm s n σ τ m c b = put_calm n.outs.items (gives s n σ) (gives s n τ) σ τ
    (λ q. cond_calm (s.view.stopped q) (s.view.rest (comes s n σ) q) (s.view.rest (comes s n τ) q)
    (below_trans (opened (s.view.rest (comes s n σ) q)) (s.view.rest (all_opened (comes s n σ)) q) (s.view.rest (comes s n τ) q) (c (comes s n σ) q)
    (m (all_opened (comes s n σ)) (comes s n τ) (λ i. held_calm (held_at s.held i) (reads n.ins.items σ i) (reads n.ins.items τ i) (reads_calm n.ins.items σ τ b i))
    q))) b

-- what is on an edge that no filter changes any more
put_none : (os : List ℕ) (w : ℕ) (g σ : Ports) → Free w os → put_all os g σ w ≡ σ w
put_none [] w g σ f = refl
put_none (o ∷ os) w g σ f = ap (λ (b : Bool). if b then g 0 else put_all os (λ q. g (suc q)) σ w) (is_other o w f.0) ∙ put_none os w (λ q. g (suc q)) σ f.1

put_at : (os : List ℕ) (w q : ℕ) (g σ : Ports) → StandsAt w q os → put_all os g σ w ≡ g q
put_at [] w q g σ f = absurd f
put_at (o ∷ os) w zero g σ f = ap (λ (b : Bool). if b then g 0 else put_all os (λ q. g (suc q)) σ w) (is_same o w f.0)
put_at (o ∷ os) w (suc q) g σ f = ap (λ (b : Bool). if b then g 0 else put_all os (λ p. g (suc p)) σ w) (is_other o w f.0) ∙ put_at os w q (λ p. g (suc p)) σ f.1

solve_none : (ss : List Spot) (ns : List Node) (w : ℕ) (σ : Ports) → AllUntouched w ns → solve_spots σ ss ns w ≡ σ w
solve_none [] ns w σ f = refl
solve_none (s ∷ ss) [] w σ f = refl
solve_none (s ∷ ss) (n ∷ ns) w σ f = solve_none ss ns w (after s n σ) f.1 ∙ put_none n.outs.items w (gives s n σ) σ f.0.1

-- what holds of all that a filter gives on an output holds of its edge
solve_leaves : (Q : Flow → Type 0) (ss : List Spot) (ns : List Node) (j o : ℕ) (d : Spot) (w : ℕ) → j < length ss → Leaves w j o ns
    → ((n : Node) (σ : Ports) → Q (gives (slice_index_or ss j d) n σ o)) → (σ : Ports) → Q (solve_spots σ ss ns w)
solve_leaves Q [] ns j o d w lt f h σ = absurd (omega arith)
solve_leaves Q (s ∷ ss) [] j o d w lt f h σ = absurd f
solve_leaves Q (s ∷ ss) (n ∷ ns) zero o d w lt f h σ = subst Q (sym (solve_none ss ns w (after s n σ) f.2 ∙ put_at n.outs.items w o (gives s n σ) σ f.0)) (h n σ)
solve_leaves Q (s ∷ ss) (n ∷ ns) (suc j) o d w lt f h σ = solve_leaves Q ss ns j o d w (omega arith) f.1 h (after s n σ)

flag_in : (ps : List Port) (f : Port → Bool) (q : ℕ) → flag_at ps f q ≡ true → q < length ps
flag_in [] f q e = cc
flag_in (p ∷ ps) f zero e = omega arith
flag_in (p ∷ ps) f (suc q) e = let lt = flag_in ps f q e in omega (arith, lt)

-- filters that stand in a vector
module _ {F : Type 0} (view : F → View) where
  pub all_spots : (P : Spot → Type 0) → ((m : Placed F) → P (spot_of view m)) → (ps : List (Placed F)) (k : ℕ) → k < length ps → P (spot_at (spots view ps) k)
  all_spots P h [] k lt = absurd (omega arith)
  all_spots P h (p ∷ ps) zero lt = h p
  all_spots P h (p ∷ ps) (suc k) lt = all_spots P h ps k (omega arith)

  solve_grows : ((m : F) → Grows (view m).rest) → (ps : List (Placed F)) (ns : List Node) (σ τ : Ports) → EachBelow σ τ → EachBelow (solve_spots σ (spots view ps) ns)
      (solve_spots τ (spots view ps) ns)
  solve_grows g [] ns σ τ b = b
  solve_grows g (p ∷ ps) [] σ τ b = b
  solve_grows g (p ∷ ps) (n ∷ ns) σ τ b = solve_grows g ps ns (after (spot_of view p) n σ) (after (spot_of view p) n τ)
      (after_grows (spot_of view p) n σ τ (g p.filter) b)

  solve_calm : ((m : F) → Grows (view m).rest) → ((m : F) → HidesBreaks (view m).rest) → (ps : List (Placed F)) (ns : List Node) (σ τ : Ports)
      → EachBelow (all_opened σ) τ
      → EachBelow (all_opened (solve_spots σ (spots view ps) ns)) (solve_spots τ (spots view ps) ns)
  solve_calm g c [] ns σ τ b = b
  solve_calm g c (p ∷ ps) [] σ τ b = b
  solve_calm g c (p ∷ ps) (n ∷ ns) σ τ b = solve_calm g c ps ns (after (spot_of view p) n σ) (after (spot_of view p) n τ)
      (after_calm (spot_of view p) n σ τ (g p.filter) (c p.filter) b)

  pub graph_grows : ((m : F) → Grows (view m).rest) → (p : Plan) (ps : List (Placed F)) → Grows (graph_view p (spots view ps)).rest
  graph_grows g p ps rs ss h q = reads_grows p.edges.items (solve_spots rs (spots view ps) p.nodes.items) (solve_spots ss (spots view ps) p.nodes.items)
      (solve_grows g ps p.nodes.items rs ss h) q

  pub graph_hides : ((m : F) → Grows (view m).rest) → ((m : F) → HidesBreaks (view m).rest) → (p : Plan) (ps : List (Placed F))
      → HidesBreaks (graph_view p (spots view ps)).rest
  graph_hides g c p ps rs q = reads_calm p.edges.items (solve_spots rs (spots view ps) p.nodes.items) (solve_spots (all_opened rs) (spots view ps) p.nodes.items)
      (solve_calm g c ps p.nodes.items rs (all_opened rs) (λ u. below_self (opened (rs u)))) q

  pub graph_quiet : ((m : F) (q : ℕ) → (view m).ended q ≡ true → (ext : Ports) → (view m).rest ext q ≡ nothing) → (p : Plan) (ps : List (Placed F))
      → Sound p (spots view ps)
      → (q : ℕ) → (graph_view p (spots view ps)).ended q ≡ true → (ext : Ports) → (graph_view p (spots view ps)).rest ext q ≡ nothing
  graph_quiet h p ps s q e ext = read_is p.edges.items (edge_at p q) q (solve_spots ext (spots view ps) p.nodes.items) pad.edge
      ∙ solve_leaves (λ t. t ≡ nothing) (spots view ps) p.nodes.items (pad_at p q).filter (pad_at p q).port no_spot (edge_at p q) jlt pad.leaves none ext
    where
      qlt : q < length p.pads.items
      qlt = flag_in p.pads.items (port_ended (spots view ps)) q e

      pad : IsPad p q
      pad = s.pads q qlt

      jlt : (pad_at p q).filter < length (spots view ps)
      jlt = omega (arith, s.size, pad.there)

      ended : port_ended (spots view ps) (pad_at p q) ≡ true
      ended = sym (flag_is p.pads.items (port_ended (spots view ps)) q qlt) ∙ e

      silent : (ext : Ports) → (spot_at (spots view ps) (pad_at p q).filter).view.rest ext (pad_at p q).port ≡ nothing
      silent = all_spots (λ a. a.view.ended (pad_at p q).port ≡ true → (ext : Ports) → a.view.rest ext (pad_at p q).port ≡ nothing) (λ m. h m.filter (pad_at p q).port)
          ps (pad_at p q).filter (omega (arith, spots_size view ps, jlt)) ended

      either : (b : Bool) (t : Flow) → t ≡ nothing → cond b nothing t ≡ nothing
      either true t k = refl
      either false t k = k

      none : (n : Node) (σ : Ports) → gives (spot_at (spots view ps) (pad_at p q).filter) n σ (pad_at p q).port ≡ nothing
      none n σ = either ((spot_at (spots view ps) (pad_at p q).filter).view.stopped (pad_at p q).port) _
          (silent (comes (spot_at (spots view ps) (pad_at p q).filter) n σ))
