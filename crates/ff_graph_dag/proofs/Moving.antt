-- What one move leaves of a graph.
use Rattle.std.proofs.Common.{◌≡◌, ◌≢◌, ℕ, zero, suc, ◌+◌, ◌*◌, ◌<◌, ◌==◌, Bool, true, false, true≢false, cond, is_some, List, [], ◌∷◌, length}
use Rattle.std.proofs.Common.{Option, None, Some, slice_index_or, slice_set, refl, ap, sym, ◌∙◌, subst, arith}
use Rattle.std.proofs.lemmas.Bool.Decides.{nat_tests}
use Rattle.std.proofs.lemmas.List.{get_or-set_same, get_or-set_other}
use Rattle.ff_stream.specs.declared.item.Item.{Item}
use Rattle.ff_stream.specs.declared.item.Lane.{Lane}
use Rattle.ff_filter.specs.Joins.{Ports, silence}
use Rattle.ff_filter.specs.Views.{View, SamePorts, Same}
use Rattle.ff_graph_dag.specs.declared.graph.Node.{Node}
use Rattle.ff_graph_dag.specs.declared.graph.Port.{Port}
use Rattle.ff_graph_dag.specs.declared.graph.Plan.{Plan}
use Rattle.ff_graph_dag.specs.declared.placed.Placed.{Placed}
use Rattle.ff_graph_dag.specs.laws.Dags.{Spot, spot_of, held_at, reads, solve_spots, Alike, Kept, Delivered}
use Rattle.ff_graph_dag.specs.laws.Graphs.{spots, no_spot, spot_at, wire_at, flag_at, port_shut, port_ended, port_stopped, port_held, graph_view, Apart, Each, InThere}
use Rattle.ff_graph_dag.specs.laws.Graphs.{OutThere, Fits, Sound, IsCarried, begins, go_on, sum_below, to_go}
use Rattle.ff_graph_dag.proofs.Edges.{solve_same, kept_self}

-- lists ---------------------------------------------------------------------------------------------------------

pub spots_set : {F : Type 0} (view : F → View) (ps : List (Placed F)) (k : ℕ) (p : Placed F) → spots view (slice_set ps k p) ≡ slice_set (spots view ps) k
    (spot_of view p)
spots_set view [] k p = refl
spots_set view (q ∷ ps) zero p = refl
spots_set view (q ∷ ps) (suc k) p = ap (λ (ss : List Spot). spot_of view q ∷ ss) (spots_set view ps k p)

pub spot_is : {F : Type 0} (view : F → View) (ps : List (Placed F)) (k : ℕ) (d p : Placed F) → k < length ps → p ≡ slice_index_or ps k d
    → spot_at (spots view ps) k ≡ spot_of view p
spot_is view [] k d p lt e = absurd (omega arith)
spot_is view (q ∷ ps) zero d p lt e = ap (λ (r : Placed _). spot_of view r) (sym e)
spot_is view (q ∷ ps) (suc k) d p lt e = spot_is view ps k d p (omega arith) e

pub size_set : (ss : List Spot) (k : ℕ) (t : Spot) → length (slice_set ss k t) ≡ length ss
size_set [] k t = refl
size_set (s ∷ ss) zero t = refl
size_set (s ∷ ss) (suc k) t = ap (λ (n : ℕ). suc n) (size_set ss k t)

pub node_of : (ns : List Node) (k : ℕ) → k < length ns → Node
node_of [] k lt = absurd (omega arith)
node_of (n ∷ ns) zero lt = n
node_of (n ∷ ns) (suc k) lt = node_of ns k (omega arith)

-- what holds of the one that changed and of all others
pub each_by : (R : Spot → Spot → Type 0) → ((s : Spot) → R s s) → (ss : List Spot) (k : ℕ) (t : Spot) → k < length ss → R (spot_at ss k) t → (m : ℕ) → R (spot_at ss m)
    (spot_at (slice_set ss k t) m)
each_by R r ss k t lt h m = at (m == k) refl
  where
    at : (b : Bool) → (m == k) ≡ b → R (spot_at ss m) (spot_at (slice_set ss k t) m)
    at true e =
        let is : k ≡ m = grind (arith, nat_tests) in
        subst (λ (x : ℕ). R (spot_at ss x) (spot_at (slice_set ss k t) x)) is (subst (λ (s : Spot). R (spot_at ss k) s) (sym (get_or-set_same ss k t no_spot lt)) h)
    at false e =
        let other : m ≢ k = grind (arith, nat_tests) in
        subst (λ (s : Spot). R (spot_at ss m) s) (sym (get_or-set_other ss k m t no_spot other)) (r (spot_at ss m))

pub each_map : (P Q : Port → Type 0) → ((f : Port) → P f → Q f) → (ps : List Port) → Each P ps → Each Q ps
each_map P Q h [] e = tt
each_map P Q h (p ∷ ps) e = (h p e.0, each_map P Q h ps e.1)

pub each_both : (P Q R : Port → Type 0) → ((f : Port) → P f → Q f → R f) → (ps : List Port) → Each P ps → Each Q ps → Each R ps
each_both P Q R h [] e k = tt
each_both P Q R h (p ∷ ps) e k = (h p e.0 k.0, each_both P Q R h ps e.1 k.1)

pub each_all : (P : Port → Type 0) → ((f : Port) → P f) → (ps : List Port) → Each P ps
each_all P h [] = tt
each_all P h (p ∷ ps) = (h p, each_all P h ps)

pub flags : (ps : List Port) (f g : Port → Bool) → Each (λ p. f p ≡ g p) ps → (i : ℕ) → flag_at ps f i ≡ flag_at ps g i
flags [] f g e i = refl
flags (p ∷ ps) f g e zero = e.0
flags (p ∷ ps) f g e (suc i) = flags ps f g e.1 i

-- sums
pub sum_same : (n : ℕ) (f g : ℕ → ℕ) → ((v : ℕ) → v < n → f v ≡ g v) → sum_below n f ≡ sum_below n g
sum_same zero f g h = refl
sum_same (suc n) f g h = omega (arith, h n (omega arith), sum_same n f g (λ v lt. h v (omega arith)))

pub sum_less : (n w : ℕ) (f g : ℕ → ℕ) → w < n → ((v : ℕ) → v < n → v ≢ w → f v ≡ g v) → f w < g w → sum_below n f < sum_below n g
sum_less zero w f g lt h l = absurd (omega arith)
sum_less (suc n) w f g lt h l = at (λ vlt. sum_less n w f g vlt (λ v less m. h v (omega arith) m) l) (w == n) refl
  where
    at : (w < n → sum_below n f < sum_below n g) → (b : Bool) → (w == n) ≡ b → f n + sum_below n f < g n + sum_below n g
    at r true e =
        let is : w ≡ n = grind (arith, nat_tests) in
        let less : f n < g n = subst (λ (m : ℕ). f m < g m) is l in
        let rests : sum_below n f ≡ sum_below n g = sum_same n f g (λ v vlt. h v (omega arith) (omega (arith, is, vlt))) in
        omega (arith, less, rests)
    at r false e =
        let other : w ≢ n = grind (arith, nat_tests) in
        let here : f n ≡ g n = h n (omega arith) (λ x. other (sym x)) in
        omega (arith, here, r (omega (arith, other, lt)))

-- every filter looks the same ------------------------------------------------------------------------------------

abbrev pub AllAlike : List Spot → List Spot → Type 0
AllAlike ss ts = (m : ℕ) → Alike (spot_at ss m) (spot_at ts m)

alike_self : (s : Spot) → Alike s s
alike_self s = (kept_self s).alike

pub fits_alike : (s t : Spot) (n : Node) → SamePorts s.view t.view → length t.held ≡ length s.held → Fits s n → Fits t n
fits_alike s t n a z f = record {
  ins = f.ins ∙ ap (λ (ls : List Lane). length ls) (sym a.ins);
  outs = f.outs ∙ ap (λ (ls : List Lane). length ls) (sym a.outs);
  held = z ∙ (f.held ∙ ap (λ (ls : List Lane). length ls) (sym a.ins));
}

-- the end of an edge is there
pub to_there : (p : Plan) (ss : List Spot) (w : ℕ) → Sound p ss → w < length p.wires.items → InThere ss (wire_at p w).to
to_there p ss w s lt =
    let e = s.wired w lt in
    let n = node_of p.nodes.items (wire_at p w).to.filter e.to_there in
    let fit = s.fits (wire_at p w).to.filter n (omega (arith, s.size, e.to_there)) in
    let there = e.port_there n in
    omega (arith, fit.ins, there)

pub from_there : (p : Plan) (ss : List Spot) (w : ℕ) (f : Port) → Sound p ss → w < length p.wires.items → (wire_at p w).from ≡ Some f → OutThere ss f
from_there p ss w f s lt is =
    let e = s.wired w lt in
    let h = e.from_there f is in
    let below : f.filter < length p.nodes.items = omega (arith, h.0, e.to_there) in
    let n = node_of p.nodes.items f.filter below in
    let fit = s.fits f.filter n (omega (arith, s.size, below)) in
    let there = h.1 n in
    omega (arith, fit.outs, there)

abbrev pub Unshut : Plan → List Spot → Type 0
Unshut p ss = (w : ℕ) → w < length p.wires.items → port_held ss (wire_at p w).to ≡ true → (spot_at ss (wire_at p w).to.filter).view.shut (wire_at p w).to.port ≡ false

pub sound_alike : (p : Plan) (ss ts : List Spot) → Sound p ss → length ts ≡ length ss → AllAlike ss ts → Unshut p ts → Sound p ts
sound_alike p ss ts s z a u = record {
  framed = s.framed;
  wired = s.wired;
  pads = s.pads;
  size = z ∙ s.size;
  fits = λ k m lt. fits_alike (spot_at ss k) (spot_at ts k) (slice_index_or p.nodes.items k m) (a k).ports (a k).size (s.fits k m (omega (arith, z, lt)));
  feeds_there = each_map (InThere ss) (InThere ts) (λ f h. subst (λ (ls : List Lane). f.port < length ls) (sym (a f.filter).ports.ins) h) p.feeds.items s.feeds_there;
  pads_there = each_map (OutThere ss) (OutThere ts) (λ f h. subst (λ (ls : List Lane). f.port < length ls) (sym (a f.filter).ports.outs) h) p.pads.items s.pads_there;
  linked = λ w f lt e. (a (wire_at p w).to.filter).shut (wire_at p w).to.port (to_there p ss w s lt) ∙ (s.linked w f lt e ∙ sym ((a f.filter).ended f.port));
  idle = λ w f lt e on. (a (wire_at p w).to.filter).decided (s.idle w f lt e (sym ((a f.filter).stopped f.port) ∙ on));
  unshut = u;
}

pub same_alike : (p : Plan) (ss ts : List Spot) → Sound p ss → AllAlike ss ts → ((σ : Ports) → solve_spots σ ts p.nodes.items ≡ solve_spots σ ss p.nodes.items)
    → Same (graph_view p ss) (graph_view p ts)
same_alike p ss ts s a e = record {
  ports = record { ins = refl; outs = refl };
  rest = λ ext q o. ap (λ (σ : Ports). reads p.edges.items σ q) (e ext);
  shut = flags p.feeds.items (port_shut ts) (port_shut ss) (each_map (InThere ss) (λ f. port_shut ts f ≡ port_shut ss f) (λ f h. (a f.filter).shut f.port h)
      p.feeds.items s.feeds_there);
  ended = flags p.pads.items (port_ended ts) (port_ended ss) (each_all (λ f. port_ended ts f ≡ port_ended ss f) (λ f. (a f.filter).ended f.port) p.pads.items);
  stopped = flags p.pads.items (port_stopped ts) (port_stopped ss) (each_all (λ f. port_stopped ts f ≡ port_stopped ss f) (λ f. (a f.filter).stopped f.port)
      p.pads.items);
}

-- one filter was asked and is as it was ---------------------------------------------------------------------------

module _ (p : Plan) (ss : List Spot) (k : ℕ) (t : Spot) (lt : k < length ss) (s : Sound p ss) (h : Kept (spot_at ss k) t) where
  pub kept_carried : IsCarried ss (slice_set ss k t)
  kept_carried = record { size = size_set ss k t; kept = each_by Kept kept_self ss k t lt h }

  kept_alike : AllAlike ss (slice_set ss k t)
  kept_alike m = (kept_carried.kept m).alike

  pub kept_sound : Sound p (slice_set ss k t)
  kept_sound = sound_alike p ss (slice_set ss k t) s (size_set ss k t) kept_alike
      (λ w wlt e. (kept_carried.kept (wire_at p w).to.filter).fed (wire_at p w).to.port
      ∙ s.unshut w wlt (ap (λ (m : Option Item). is_some m) (sym ((kept_carried.kept (wire_at p w).to.filter).held (wire_at p w).to.port)) ∙ e))

  pub kept_same : Same (graph_view p ss) (graph_view p (slice_set ss k t))
  kept_same = same_alike p ss (slice_set ss k t) s kept_alike (solve_same ss p.nodes.items k no_spot t lt h.alike.gives_is)

-- what waited at the end of an edge was fed -------------------------------------------------------------------------

-- the same waits at another port
abbrev pub HeldElse : Port → List Spot → List Spot → Type 0
HeldElse g ss ts = (f : Port) → Apart f g → held_at (spot_at ts f.filter).held f.port ≡ held_at (spot_at ss f.filter).held f.port

-- what holds of another port, where one filter changed at one port
pub else_by : (P : Spot → Spot → ℕ → Type 0) → ((s : Spot) (i : ℕ) → P s s i) → (ss : List Spot) (k i : ℕ) (t : Spot) → k < length ss
    → ((q : ℕ) → q ≢ i → P (spot_at ss k) t q) → (f : Port) → Apart f (record { filter = k; port = i }) → P (spot_at ss f.filter) (spot_at (slice_set ss k t) f.filter)
    f.port
else_by P r ss k i t lt h f n = at (f.filter == k) refl
  where
    at : (b : Bool) → (f.filter == k) ≡ b → P (spot_at ss f.filter) (spot_at (slice_set ss k t) f.filter) f.port
    at true e =
        let is : k ≡ f.filter = grind (arith, nat_tests) in
        subst (λ (x : ℕ). P (spot_at ss x) (spot_at (slice_set ss k t) x) f.port) is (subst (λ (u : Spot). P (spot_at ss k) u f.port)
        (sym (get_or-set_same ss k t no_spot lt)) (h f.port (n (sym is))))
    at false e =
        let other : f.filter ≢ k = grind (arith, nat_tests) in
        subst (λ (u : Spot). P (spot_at ss f.filter) u f.port) (sym (get_or-set_other ss k f.filter t no_spot other)) (r (spot_at ss f.filter) f.port)

module _ (p : Plan) (ss : List Spot) (w : ℕ) (t : Spot) (wlt : w < length p.wires.items) (s : Sound p ss) (h : Delivered (spot_at ss (wire_at p w).to.filter) t
    (wire_at p w).to.port) where
  abbrev pub fed_port : Port
  fed_port = (wire_at p w).to

  abbrev pub fed_spots : List Spot
  fed_spots = slice_set ss fed_port.filter t

  lt : fed_port.filter < length ss
  lt = omega (arith, s.size, (s.wired w wlt).to_there)

  alike : AllAlike ss fed_spots
  alike = each_by Alike alike_self ss fed_port.filter t lt h.alike

  elsewhere : HeldElse fed_port ss fed_spots
  elsewhere = else_by (λ u v i. held_at v.held i ≡ held_at u.held i) (λ u i. refl) ss fed_port.filter fed_port.port t lt h.held_others

  fed_else : (f : Port) → Apart f fed_port → f.port < length (spot_at ss f.filter).view.ins → (spot_at fed_spots f.filter).view.shut f.port ≡
      (spot_at ss f.filter).view.shut f.port
  fed_else = else_by (λ u v i. i < length u.view.ins → v.view.shut i ≡ u.view.shut i) (λ u i l. refl) ss fed_port.filter fed_port.port t lt
      (λ q n l. h.fed_others q l n)

  empty_here : held_at (spot_at fed_spots fed_port.filter).held fed_port.port ≡ None
  empty_here = ap (λ (u : Spot). held_at u.held fed_port.port) (get_or-set_same ss fed_port.filter t no_spot lt) ∙ h.held_here

  unshut : Unshut p fed_spots
  unshut v vlt e = at (v == w) refl
    where
      at : (b : Bool) → (v == w) ≡ b → (spot_at fed_spots (wire_at p v).to.filter).view.shut (wire_at p v).to.port ≡ false
      at true b =
          let is : v ≡ w = grind (arith, nat_tests) in
          let none : port_held fed_spots (wire_at p v).to ≡ false = subst (λ (x : ℕ). port_held fed_spots (wire_at p x).to ≡ false) (sym is)
          (ap (λ (m : Option Item). is_some m) empty_here) in
          absurd (true≢false (sym e ∙ none))
      at false b =
          let other : v ≢ w = grind (arith, nat_tests) in
          let apart = (s.wired w wlt).tos v vlt other in
          fed_else (wire_at p v).to apart (to_there p ss v s vlt) ∙ s.unshut v vlt (ap (λ (m : Option Item). is_some m) (sym (elsewhere (wire_at p v).to apart)) ∙ e)

  solved : (σ : Ports) → solve_spots σ fed_spots p.nodes.items ≡ solve_spots σ ss p.nodes.items
  solved = solve_same ss p.nodes.items fed_port.filter no_spot t lt h.alike.gives_is

  pub delivered_sound : Sound p fed_spots
  delivered_sound = sound_alike p ss fed_spots s (size_set ss fed_port.filter t) alike unshut

  pub delivered_same : Same (graph_view p ss) (graph_view p fed_spots)
  delivered_same = same_alike p ss fed_spots s alike solved

  begins_same : (f : Option Port) (v : ℕ) → begins fed_spots f (length (solve_spots silence fed_spots p.nodes.items v).items) ≡ begins ss f
      (length (solve_spots silence ss p.nodes.items v).items)
  begins_same None v = refl
  begins_same (Some f) v = ap (λ (b : Bool). cond b 0 (suc (length (solve_spots silence fed_spots p.nodes.items v).items))) ((alike f.filter).ended f.port)
      ∙ ap (λ (σ : Ports). cond (port_ended ss f) 0 (suc (length (σ v).items))) (solved silence)

  pub delivered_less : port_held ss fed_port ≡ true → to_go p fed_spots < to_go p ss
  delivered_less e = sum_less (length p.wires.items) w (go_on p fed_spots) (go_on p ss) wlt others here
    where
      others : (v : ℕ) → v < length p.wires.items → v ≢ w → go_on p fed_spots v ≡ go_on p ss v
      others v vlt n =
          let held : port_held fed_spots (wire_at p v).to ≡ port_held ss (wire_at p v).to = ap (λ (m : Option Item). is_some m)
          (elsewhere (wire_at p v).to ((s.wired w wlt).tos v vlt n)) in
          ap (λ (n : ℕ). 2 * n + cond (port_held fed_spots (wire_at p v).to) 1 0) (begins_same (wire_at p v).from v)
          ∙ ap (λ (b : Bool). 2 * begins ss (wire_at p v).from (length (solve_spots silence ss p.nodes.items v).items) + cond b 1 0) held

      here : go_on p fed_spots w < go_on p ss w
      here =
          let none : port_held fed_spots fed_port ≡ false = ap (λ (m : Option Item). is_some m) empty_here in
          rw (none, e, begins_same (wire_at p w).from w) (omega arith)
