-- What edges come to that fit their nodes.
use Rattle.std.proofs.Common.{◌≡◌, ℕ, zero, suc, ◌+◌, ◌<◌, ◌⊎◌, inl, inr, true, List, [], ◌∷◌, ◌++◌, length, map, slice_index_or, Option, None, Some, refl, sym, ap, ◌∙◌, subst, arith}
use Rattle.std.proofs.lemmas.List.{length-map}
use Rattle.std.proofs.lemmas.List.Sums.{passes_at_first}
use Rattle.std.proofs.lemmas.Bool.Decides.{nat_tests}
use Rattle.ff_stream.specs.declared.item.Lane.{Lane}
use Rattle.ff_stream.specs.declared.edges.edge.Edge.{Edge}
use Rattle.ff_stream.specs.edges.Ports.{leads_to, leaves, edge_to, edge_from, at_ports}
use Rattle.ff_net.specs.Nets.{IsUpward}
use Rattle.ff_net.specs.laws.Nodes.{AreApart, HaveLanes}
use Rattle.ff_net.specs.Pasts.{Task, IsIn}
use Rattle.ff_net.specs.Ways.{lane_at}
use Rattle.ff_net_threads.specs.network.Fits.{Ports, edge_lanes, ins_at, outs_at, AreFit, part_at, parts_from, network}
use Rattle.ff_net_threads.proofs.NetworkLemmas.Each.{each_next, at_before, at_end, some_one}

in_left : (xs ys : List ℕ) (w : ℕ) → IsIn w xs → IsIn w (xs ++ ys)
in_left [] ys w i = absurd i
in_left (x ∷ xs) ys w (inl e) = inl e
in_left (x ∷ xs) ys w (inr i) = inr (in_left xs ys w i)

in_right : (xs ys : List ℕ) (w : ℕ) → IsIn w ys → IsIn w (xs ++ ys)
in_right [] ys w i = i
in_right (x ∷ xs) ys w i = inr (in_right xs ys w i)

in_one : (xs : List ℕ) (y w : ℕ) → IsIn w (xs ++ y ∷ []) → IsIn w xs ⊎ (y ≡ w)
in_one [] y w (inl e) = inr e
in_one [] y w (inr i) = absurd i
in_one (x ∷ xs) y w (inl e) = inl (inl e)
in_one (x ∷ xs) y w (inr i) = elim (in_one xs y w i) [ inl j ↦ inl (inr j) | inr e ↦ inr e ]

-- the port of a value
pub port_of : (f : ℕ → ℕ) (n w : ℕ) → IsIn w (at_ports f n) → (p : ℕ) × (p < n) × (f p ≡ w)
port_of f zero w i = absurd i
port_of f (suc n) w i = elim (in_one (at_ports f n) (f n) w i) [
  | inl j ↦ (let found = port_of f n w j in (found.0, omega (arith, found.1), found.2))
  | inr e ↦ (n, omega arith, e)
]

pub at_port : (f : ℕ → ℕ) (n p : ℕ) → p < n → IsIn (f p) (at_ports f n)
at_port f zero p lt = absurd (omega (arith, lt))
at_port f (suc n) p lt = each_next (λ q. IsIn (f q) (at_ports f n ++ f n ∷ [])) n (λ q l. in_left (at_ports f n) (f n ∷ []) (f q) (at_port f n q l)) (in_right (at_ports f n) (f n ∷ []) (f n) (inl refl)) p (omega (arith, lt))

length_more : {A : Type 0} (xs : List A) (y : A) → length (xs ++ y ∷ []) ≡ suc (length xs)
length_more [] y = refl
length_more (x ∷ xs) y = ap suc (length_more xs y)

pub count_ports : (f : ℕ → ℕ) (n : ℕ) → length (at_ports f n) ≡ n
count_ports f zero = refl
count_ports f (suc n) = length_more (at_ports f n) (f n) ∙ ap suc (count_ports f n)

-- the value at a port, by the list
pub nth_port : (f : ℕ → ℕ) (n p d : ℕ) → p < n → slice_index_or (at_ports f n) p d ≡ f p
nth_port f zero p d lt = absurd (omega (arith, lt))
nth_port f (suc n) p d lt =
    each_next (λ q. slice_index_or (at_ports f n ++ f n ∷ []) q d ≡ f q) n
    (λ q l. at_before (at_ports f n) (f n) d q (let c = count_ports f n in omega (arith, l, c)) ∙ nth_port f n q d l)
    (ap (λ (m : ℕ). slice_index_or (at_ports f n ++ f n ∷ []) m d) (sym (count_ports f n)) ∙ at_end (at_ports f n) (f n) d)
    p (omega (arith, lt))

at_map : {A B : Type 0} (f : A → B) (xs : List A) (k : ℕ) (d : A) (e : B) → k < length xs → slice_index_or (map f xs) k e ≡ f (slice_index_or xs k d)
at_map f [] k d e lt = absurd (omega (arith, lt))
at_map f (x ∷ xs) zero d e lt = refl
at_map f (x ∷ xs) (suc k) d e lt = at_map f xs k d e (omega (arith, lt))

-- a lane that is there has a number below the length
lane_there : (lanes : List Lane) (w : ℕ) (l : Lane) → lane_at lanes w ≡ Some l → w < length lanes
lane_there [] w l e = absurd (let no : None ≡ Some l = e in cc (no))
lane_there (x ∷ xs) zero l e = omega arith
lane_there (x ∷ xs) (suc w) l e = (let lt = lane_there xs w l e in omega (arith, lt))

-- where the values at all ports have these lanes, each is a number of the list
ports_there : (lanes ports : List Lane) (f : ℕ → ℕ) → map (lane_at lanes) (at_ports f (length ports)) ≡ map Some ports → (p : ℕ) → p < length ports → f p < length lanes
ports_there lanes ports f e p lt =
    let d : Lane = some_one ports p lt in
    let count : length (at_ports f (length ports)) ≡ length ports = count_ports f (length ports) in
    let here : slice_index_or (map (lane_at lanes) (at_ports f (length ports))) p None ≡ lane_at lanes (f p) = at_map (lane_at lanes) (at_ports f (length ports)) p 0 None (omega (arith, lt, count)) ∙ ap (lane_at lanes) (nth_port f (length ports) p 0 lt) in
    let there : slice_index_or (map (λ (l : Lane). Some l) ports) p None ≡ Some (slice_index_or ports p d) = at_map (λ (l : Lane). Some l) ports p d None lt in
    lane_there lanes (f p) (slice_index_or ports p d) (sym here ∙ (ap (λ (os : List (Option Lane)). slice_index_or os p None) e ∙ there))

from_is : (e : Edge) (j q : ℕ) → leaves j q e ≡ true → (e.from ≡ j) × (e.out_port ≡ q)
from_is e j q h = (grind (arith, nat_tests), grind (arith, nat_tests))

to_is : (e : Edge) (j q : ℕ) → leads_to j q e ≡ true → (e.to ≡ j) × (e.in_port ≡ q)
to_is e j q h = (grind (arith, nat_tests), grind (arith, nat_tests))

module _ (ports : Ports) (count : ℕ) (edges : List Edge) (fit : AreFit ports count edges) where
  lanes_count : length (edge_lanes edges) ≡ length edges
  lanes_count = length-map edges (λ (e : Edge). e.lane)

  -- each port has an edge
  pub in_there : (k p : ℕ) → k < count → p < length (ports.ins k) → edge_to edges k p < length edges
  in_there k p klt plt = (let lt = ports_there (edge_lanes edges) (ports.ins k) (edge_to edges k) (fit.ins k klt) p plt in let c = lanes_count in omega (arith, lt, c))

  pub out_there : (k q : ℕ) → k < count → q < length (ports.outs k) → edge_from edges k q < length edges
  out_there k q klt qlt = (let lt = ports_there (edge_lanes edges) (ports.outs k) (edge_from edges k) (fit.outs k klt) q qlt in let c = lanes_count in omega (arith, lt, c))

  pub ins_there : (k w : ℕ) → k < count → IsIn w (ins_at ports edges k) → w < length edges
  ins_there k w klt i = (let at = port_of (edge_to edges k) (length (ports.ins k)) w i in subst (λ (v : ℕ). v < length edges) at.2 (in_there k at.0 klt at.1))

  pub outs_there : (k w : ℕ) → k < count → IsIn w (outs_at ports edges k) → w < length edges
  outs_there k w klt i = (let at = port_of (edge_from edges k) (length (ports.outs k)) w i in subst (λ (v : ℕ). v < length edges) at.2 (out_there k at.0 klt at.1))

  -- the edge at an input names it, and so does that at an output
  names_in : (k p : ℕ) (d : Edge) → k < count → p < length (ports.ins k) → ((slice_index_or edges (edge_to edges k p) d).to ≡ k) × ((slice_index_or edges (edge_to edges k p) d).in_port ≡ p)
  names_in k p d klt plt = to_is (slice_index_or edges (edge_to edges k p) d) k p (passes_at_first (leads_to k p) edges d (in_there k p klt plt))

  names_out : (k q : ℕ) (d : Edge) → k < count → q < length (ports.outs k) → ((slice_index_or edges (edge_from edges k q) d).from ≡ k) × ((slice_index_or edges (edge_from edges k q) d).out_port ≡ q)
  names_out k q d klt qlt = from_is (slice_index_or edges (edge_from edges k q) d) k q (passes_at_first (leaves k q) edges d (out_there k q klt qlt))

  -- no edge leads to two ports, and none leaves two
  one_in : (j p k q : ℕ) → j < count → p < length (ports.ins j) → k < count → q < length (ports.ins k) → edge_to edges j p ≡ edge_to edges k q → (j ≡ k) × (p ≡ q)
  one_in j p k q jlt plt klt qlt same =
      let d = some_one edges (edge_to edges j p) (in_there j p jlt plt) in
      let a = names_in j p d jlt plt in
      let b = names_in k q d klt qlt in
      (sym a.0 ∙ (ap (λ (w : ℕ). (slice_index_or edges w d).to) same ∙ b.0), sym a.1 ∙ (ap (λ (w : ℕ). (slice_index_or edges w d).in_port) same ∙ b.1))

  one_out : (j p k q : ℕ) → j < count → p < length (ports.outs j) → k < count → q < length (ports.outs k) → edge_from edges j p ≡ edge_from edges k q → (j ≡ k) × (p ≡ q)
  one_out j p k q jlt plt klt qlt same =
      let d = some_one edges (edge_from edges j p) (out_there j p jlt plt) in
      let a = names_out j p d jlt plt in
      let b = names_out k q d klt qlt in
      (sym a.0 ∙ (ap (λ (w : ℕ). (slice_index_or edges w d).from) same ∙ b.0), sym a.1 ∙ (ap (λ (w : ℕ). (slice_index_or edges w d).out_port) same ∙ b.1))

  pub ins_once : (j k w : ℕ) → j < count → k < count → IsIn w (ins_at ports edges j) → IsIn w (ins_at ports edges k) → j ≡ k
  ins_once j k w jlt klt a b =
      let x = port_of (edge_to edges j) (length (ports.ins j)) w a in
      let y = port_of (edge_to edges k) (length (ports.ins k)) w b in
      (one_in j x.0 k y.0 jlt x.1 klt y.1 (x.2 ∙ sym y.2)).0

  pub outs_once : (j k w : ℕ) → j < count → k < count → IsIn w (outs_at ports edges j) → IsIn w (outs_at ports edges k) → j ≡ k
  outs_once j k w jlt klt a b =
      let x = port_of (edge_from edges j) (length (ports.outs j)) w a in
      let y = port_of (edge_from edges k) (length (ports.outs k)) w b in
      (one_out j x.0 k y.0 jlt x.1 klt y.1 (x.2 ∙ sym y.2)).0

  pub ins_apart : (k : ℕ) → k < count → AreApart (ins_at ports edges k)
  ins_apart k klt p q plt qlt same =
      let n = count_ports (edge_to edges k) (length (ports.ins k)) in
      let pl : p < length (ports.ins k) = omega (arith, plt, n) in
      let ql : q < length (ports.ins k) = omega (arith, qlt, n) in
      (one_in k p k q klt pl klt ql (sym (nth_port (edge_to edges k) (length (ports.ins k)) p 0 pl) ∙ (same ∙ nth_port (edge_to edges k) (length (ports.ins k)) q 0 ql))).1

  pub outs_apart : (k : ℕ) → k < count → AreApart (outs_at ports edges k)
  outs_apart k klt p q plt qlt same =
      let n = count_ports (edge_from edges k) (length (ports.outs k)) in
      let pl : p < length (ports.outs k) = omega (arith, plt, n) in
      let ql : q < length (ports.outs k) = omega (arith, qlt, n) in
      (one_out k p k q klt pl klt ql (sym (nth_port (edge_from edges k) (length (ports.outs k)) p 0 pl) ∙ (same ∙ nth_port (edge_from edges k) (length (ports.outs k)) q 0 ql))).1

  pub ins_have : (k : ℕ) → k < count → HaveLanes (ins_at ports edges k) (ports.ins k) (edge_lanes edges)
  ins_have k klt = record { lanes_are = fit.ins k klt; apart = ins_apart k klt }

  pub outs_have : (k : ℕ) → k < count → HaveLanes (outs_at ports edges k) (ports.outs k) (edge_lanes edges)
  outs_have k klt = record { lanes_are = fit.outs k klt; apart = outs_apart k klt }

  -- no edge leads back to the node that it leaves
  pub own_apart : (k w : ℕ) → k < count → IsIn w (ins_at ports edges k) → IsIn w (outs_at ports edges k) → ⊥
  own_apart k w klt a b =
      let x = port_of (edge_to edges k) (length (ports.ins k)) w a in
      let y = port_of (edge_from edges k) (length (ports.outs k)) w b in
      let f = fit.fed k x.0 klt x.1 in
      let once : f.0 ≡ k = (one_out f.0 f.1 k y.0 (let l = f.2 in omega (arith, l, klt)) f.3 klt y.1 (sym f.4 ∙ (x.2 ∙ sym y.2))).0 in
      (let l = f.2 in omega (arith, l, once))

  module _ (tasks : ℕ → Task) where
    -- all edges that leave a node before this one
    abbrev HasBefore : ℕ → List ℕ → Type 0
    HasBefore k ws = (j : ℕ) → j < k → (q : ℕ) → q < length (ports.outs j) → IsIn (edge_from edges j q) ws

    upward_from : (n k : ℕ) (ws : List ℕ) → k + n ≡ count → HasBefore k ws → IsUpward ws (parts_from (part_at tasks ports edges) k n)
    upward_from zero k ws e h = tt
    upward_from (suc n) k ws e h = (
      λ w i.
          let at = port_of (edge_to edges k) (length (ports.ins k)) w i in
          let f = fit.fed k at.0 (omega (arith, e)) at.1 in
          subst (λ (v : ℕ). IsIn v ws) (sym f.4 ∙ at.2) (h f.0 f.2 f.1 f.3),
      upward_from n (suc k) (outs_at ports edges k ++ ws) (omega (arith, e)) (λ j lt.
          each_next (λ i. (q : ℕ) → q < length (ports.outs i) → IsIn (edge_from edges i q) (outs_at ports edges k ++ ws)) k
          (λ i l q ql. in_right (outs_at ports edges k) ws (edge_from edges i q) (h i l q ql))
          (λ q ql. in_left (outs_at ports edges k) ws (edge_from edges k q) (at_port (edge_from edges k) (length (ports.outs k)) q ql)) j (omega (arith, lt))),
    )

    -- the network can be solved from node 0 on
    pub upward : IsUpward [] (network tasks ports edges count)
    upward = upward_from count 0 [] (omega arith) (λ j lt. absurd (omega (arith, lt)))
