-- A plan that was made from filters that feed one another: its edges fit together.
use Rattle.std.proofs.Common.{◌≡◌, ℕ, zero, suc, ◌+◌, ◌-◌, ◌<◌, ◌≤◌, ◌==◌, ◌&&◌, Bool, true, false, cond, List, [], ◌∷◌, ◌++◌, length, map, slice_get, slice_index_or, Option, None, Some, refl, ap, sym, ◌∙◌, subst, ◌⊎◌, inl, inr, arith}
use Rattle.std.proofs.lemmas.Bool.Decides.{nat_tests}
use Rattle.ff_graph_dag.specs.declared.graph.Node.{Node}
use Rattle.ff_graph_dag.specs.declared.graph.Port.{Port}
use Rattle.ff_graph_dag.specs.declared.graph.Wire.{Wire}
use Rattle.ff_graph_dag.specs.declared.graph.Plan.{Plan}
use Rattle.ff_graph_dag.specs.laws.Graphs.{ways_of}
use Rattle.ff_graph_dag.specs.laws.ties.Tied.{port_of, goal_of, leads_to, start_of, leaves, ins_of, outs_of, edge_in, edge_out, IsUpward, IsReached, IsTied}
use Rattle.ff_graph_dag.specs.laws.wiring.Wires.{feeder_at, outputs_at, entering, links_at, links_from, wires_of, ends_of, starts_of, is_at, edge_of, edges_up, ins_from, outs_from, numbers, IsWired, IsLinked}

-- lists ---------------------------------------------------------------------------------------------------------

some_same : {A : Type 0} (x y : A) → Some x ≡ Some y → x ≡ y
some_same x y e = cc

no_some : {A B : Type 0} (x : A) → None ≡ Some x → B
no_some x e = cc

got_below : {A : Type 0} (xs : List A) (k : ℕ) (x : A) → slice_get xs k ≡ Some x → k < length xs
got_below [] k x e = no_some x e
got_below (y ∷ xs) zero x e = omega arith
got_below (y ∷ xs) (suc k) x e = let h = got_below xs k x e in omega arith

-- an element of two lists, one behind the other
pub split : {A : Type 0} (xs ys : List A) (k : ℕ) (x : A) → slice_get (xs ++ ys) k ≡ Some x
    → (slice_get xs k ≡ Some x) ⊎ ((j : ℕ) × (k ≡ length xs + j) × (slice_get ys j ≡ Some x))
split [] ys k x e = let s : k ≡ 0 + k = omega arith in inr (k, s, e)
split (y ∷ xs) ys zero x e = inl e
split (y ∷ xs) ys (suc k) x e = elim (split xs ys k x e) as (λ _. (slice_get (y ∷ xs) (suc k) ≡ Some x)
    ⊎ ((j : ℕ) × (suc k ≡ length (y ∷ xs) + j) × (slice_get ys j ≡ Some x))) [
      | inl h ↦ inl h
      | inr h ↦ let a : k ≡ length xs + h.0 = h.1 in let s : suc k ≡ suc (length xs) + h.0 = omega arith in inr (h.0, s, h.2)
    ]

pub front : {A : Type 0} (xs ys : List A) (k : ℕ) (x : A) → slice_get xs k ≡ Some x → slice_get (xs ++ ys) k ≡ Some x
front [] ys k x e = no_some x e
front (y ∷ xs) ys zero x e = e
front (y ∷ xs) ys (suc k) x e = front xs ys k x e

pub back : {A : Type 0} (xs ys : List A) (j : ℕ) → slice_get (xs ++ ys) (length xs + j) ≡ slice_get ys j
back [] ys j = let s : 0 + j ≡ j = omega arith in ap (λ (n : ℕ). slice_get ys n) s
back (y ∷ xs) ys j = let s : suc (length xs) + j ≡ suc (length xs + j) = omega arith in ap (λ (n : ℕ). slice_get (y ∷ (xs ++ ys)) n) s ∙ back xs ys j

pub mapped : {A B : Type 0} (f : A → B) (xs : List A) (k : ℕ) (x : A) → slice_get xs k ≡ Some x → slice_get (map f xs) k ≡ Some (f x)
mapped f [] k x e = no_some x e
mapped f (y ∷ xs) zero x e = ap (λ z. Some (f z)) (some_same y x e)
mapped f (y ∷ xs) (suc k) x e = mapped f xs k x e

pub unmapped : {A B : Type 0} (f : A → B) (xs : List A) (k : ℕ) (y : B) → slice_get (map f xs) k ≡ Some y → (x : A) × (slice_get xs k ≡ Some x) × (f x ≡ y)
unmapped f [] k y e = no_some y e
unmapped f (x ∷ xs) zero y e = (x, refl, some_same (f x) y e)
unmapped f (x ∷ xs) (suc k) y e = unmapped f xs k y e

pub map_size : {A B : Type 0} (f : A → B) (xs : List A) → length (map f xs) ≡ length xs
map_size f [] = refl
map_size f (x ∷ xs) = ap (λ (n : ℕ). suc n) (map_size f xs)

number_at : (w n q : ℕ) → q < n → slice_get (numbers w n) q ≡ Some (w + q)
number_at w zero q lt = absurd (omega arith)
number_at w (suc n) zero lt = let e : w ≡ w + 0 = omega arith in ap (λ (m : ℕ). Some m) e
number_at w (suc n) (suc q) lt = let e : suc w + q ≡ w + suc q = omega arith in number_at (suc w) n q (omega arith) ∙ ap (λ (m : ℕ). Some m) e

pub numbers_size : (w n : ℕ) → length (numbers w n) ≡ n
numbers_size w zero = refl
numbers_size w (suc n) = ap (λ (m : ℕ). suc m) (numbers_size (suc w) n)

-- the first edge that has a port --------------------------------------------------------------------------------------

both : (a b : Bool) → (a && b) ≡ true → (a ≡ true) × (b ≡ true)
both true b e = (refl, e)
both false b e = cc

is_the : (g f : Port) → is_at (Some g) f ≡ true → g ≡ f
is_the g f e =
    let b = both (g.filter == f.filter) (g.port == f.port) e in
    let left : (g.filter == f.filter) ≡ true = b.0 in
    let right : (g.port == f.port) ≡ true = b.1 in
    let x : g.filter ≡ f.filter = grind (arith, nat_tests) in
    let y : g.port ≡ f.port = grind (arith, nat_tests) in
    λ j. record { filter = x j; port = y j }

pub at_itself : (f : Port) → is_at (Some f) f ≡ true
at_itself f =
    let x : (f.filter == f.filter) ≡ true = grind (arith, nat_tests) in
    let y : (f.port == f.port) ≡ true = grind (arith, nat_tests) in
    rw (x, y) refl

pub at_some : (p : Option Port) (f : Port) → is_at p f ≡ true → p ≡ Some f
at_some None f e = cc
at_some (Some g) f e = ap (λ (h : Port). Some h) (is_the g f e)

found : (ps : List (Option Port)) (f : Port) (v : ℕ) → slice_get ps v ≡ Some (Some f) → slice_get ps (edge_of ps f) ≡ Some (Some f)
found [] f v e = no_some (Some f) e
found (p ∷ ps) f v e = at (is_at p f) refl (λ u g. found ps f u g) v e
  where
    at : (b : Bool) → is_at p f ≡ b → ((u : ℕ) → slice_get ps u ≡ Some (Some f) → slice_get ps (edge_of ps f) ≡ Some (Some f))
        → (u : ℕ) → slice_get (p ∷ ps) u ≡ Some (Some f) → slice_get (p ∷ ps) (cond b 0 (suc (edge_of ps f))) ≡ Some (Some f)
    at true k r u g = ap (λ (q : Option Port). Some q) (at_some p f k)
    at false k r zero g =
        let no : true ≡ false = sym (at_itself f) ∙ (ap (λ (q : Option Port). is_at q f) (sym (some_same p (Some f) g)) ∙ k) in
        cc
    at false k r (suc u) g = r u g

-- the edges at so many ports
up_at : (ps : List (Option Port)) (k b n i : ℕ) → i < n → slice_get (edges_up ps k b n) i ≡ Some (edge_of ps (port_of k (b + i)))
up_at ps k b zero i lt = absurd (omega arith)
up_at ps k b (suc n) zero lt = let e : b ≡ b + 0 = omega arith in ap (λ (m : ℕ). Some (edge_of ps (port_of k m))) e
up_at ps k b (suc n) (suc i) lt = let e : suc b + i ≡ b + suc i = omega arith in up_at ps k (suc b) n i (omega arith) ∙ ap (λ (m : ℕ). Some (edge_of ps (port_of k m))) e

up_below : (ps : List (Option Port)) (k b n i w : ℕ) → slice_get (edges_up ps k b n) i ≡ Some w → i < n
up_below ps k b zero i w e = no_some w e
up_below ps k b (suc n) zero w e = omega arith
up_below ps k b (suc n) (suc i) w e = let h : i < n = up_below ps k (suc b) n i w e in omega arith

ins_at : (ps : List (Option Port)) (b : ℕ) (fed : List (List (Option Port))) (k : ℕ) → slice_index_or (ins_from ps b fed) k []
    ≡ edges_up ps (b + k) 0 (length (slice_index_or fed k []))
ins_at ps b [] k = refl
ins_at ps b (fs ∷ fed) zero = let e : b ≡ b + 0 = omega arith in ap (λ (m : ℕ). edges_up ps m 0 (length fs)) e
ins_at ps b (fs ∷ fed) (suc k) = let e : suc b + k ≡ b + suc k = omega arith in ins_at ps (suc b) fed k
    ∙ ap (λ (m : ℕ). edges_up ps m 0 (length (slice_index_or fed k []))) e

outs_at : (ps : List (Option Port)) (b : ℕ) (counts : List ℕ) (k : ℕ) → slice_index_or (outs_from ps b counts) k [] ≡ edges_up ps (b + k) 0 (outputs_at counts k)
outs_at ps b [] k = refl
outs_at ps b (n ∷ counts) zero = let e : b ≡ b + 0 = omega arith in ap (λ (m : ℕ). edges_up ps m 0 n) e
outs_at ps b (n ∷ counts) (suc k) = let e : suc b + k ≡ b + suc k = omega arith in outs_at ps (suc b) counts k
    ∙ ap (λ (m : ℕ). edges_up ps m 0 (outputs_at counts k)) e

up_zero : (ps : List (Option Port)) (k n i : ℕ) → i < n → slice_get (edges_up ps k 0 n) i ≡ Some (edge_of ps (port_of k i))
up_zero ps k n i lt = let s : 0 + i ≡ i = omega arith in up_at ps k 0 n i lt ∙ ap (λ (m : ℕ). Some (edge_of ps (port_of k m))) s

ins_zero : (ps : List (Option Port)) (fed : List (List (Option Port))) (k : ℕ) → slice_index_or (ins_from ps 0 fed) k []
    ≡ edges_up ps k 0 (length (slice_index_or fed k []))
ins_zero ps fed k = let s : 0 + k ≡ k = omega arith in ins_at ps 0 fed k ∙ ap (λ (m : ℕ). edges_up ps m 0 (length (slice_index_or fed k []))) s

outs_zero : (ps : List (Option Port)) (counts : List ℕ) (k : ℕ) → slice_index_or (outs_from ps 0 counts) k [] ≡ edges_up ps k 0 (outputs_at counts k)
outs_zero ps counts k = let s : 0 + k ≡ k = omega arith in outs_at ps 0 counts k ∙ ap (λ (m : ℕ). edges_up ps m 0 (outputs_at counts k)) s

ins_is : (ns : List Node) (k : ℕ) → ins_of (slice_get ns k) ≡ slice_index_or (map (λ n. n.ins.items) ns) k []
ins_is [] k = refl
ins_is (n ∷ ns) zero = refl
ins_is (n ∷ ns) (suc k) = ins_is ns k

outs_is : (ns : List Node) (k : ℕ) → outs_of (slice_get ns k) ≡ slice_index_or (map (λ n. n.outs.items) ns) k []
outs_is [] k = refl
outs_is (n ∷ ns) zero = refl
outs_is (n ∷ ns) (suc k) = outs_is ns k

-- the edges between filters -------------------------------------------------------------------------------------------

-- what an edge into a filter's inputs from number i on says
link_at : (k i : ℕ) (fs : List (Option Port)) (v : ℕ) (x : Wire) → slice_get (links_at k i fs) v ≡ Some x
    → (f : Port) × (j : ℕ) × (x ≡ record { from = Some f; to = port_of k (i + j) }) × (slice_get fs j ≡ Some (Some f))
link_at k i [] v x e = no_some x e
link_at k i (None ∷ fs) v x e =
    let h = link_at k (suc i) fs v x e in
    let s : suc i + h.1 ≡ i + suc h.1 = omega arith in
    (h.0, suc h.1, h.2 ∙ ap (λ (m : ℕ). let w : Wire = record { from = Some h.0; to = port_of k m } in w) s, h.3)
link_at k i (Some f ∷ fs) zero x e =
    let s : i ≡ i + 0 = omega arith in
    (f, 0, sym (some_same (record { from = Some f; to = port_of k i }) x e) ∙ ap (λ (m : ℕ). let w : Wire = record { from = Some f; to = port_of k m } in w) s, refl)
link_at k i (Some f ∷ fs) (suc v) x e =
    let h = link_at k (suc i) fs v x e in
    let s : suc i + h.1 ≡ i + suc h.1 = omega arith in
    (h.0, suc h.1, h.2 ∙ ap (λ (m : ℕ). let w : Wire = record { from = Some h.0; to = port_of k m } in w) s, h.3)

to_filter : (x : Wire) (f : Port) (k i : ℕ) → x ≡ record { from = Some f; to = port_of k i } → x.to.filter ≡ k
to_filter x f k i e = ap (λ (w : Wire). w.to.filter) e

to_port : (x : Wire) (f : Port) (k i : ℕ) → x ≡ record { from = Some f; to = port_of k i } → x.to.port ≡ i
to_port x f k i e = ap (λ (w : Wire). w.to.port) e

-- it leads there alone
apart_at : (k i : ℕ) (fs : List (Option Port)) (v w : ℕ) (x y : Wire) → slice_get (links_at k i fs) v ≡ Some x → slice_get (links_at k i fs) w ≡ Some y
    → x.to.port ≡ y.to.port → v ≡ w
apart_at k i [] v w x y e g s = no_some x e
apart_at k i (None ∷ fs) v w x y e g s = apart_at k (suc i) fs v w x y e g s
apart_at k i (Some f ∷ fs) zero zero x y e g s = refl
apart_at k i (Some f ∷ fs) zero (suc w) x y e g s =
    let h = link_at k (suc i) fs w y g in
    let own : x.to.port ≡ i = to_port x f k i (sym (some_same (record { from = Some f; to = port_of k i }) x e)) in
    let other : y.to.port ≡ suc i + h.1 = to_port y h.0 k (suc i + h.1) h.2 in
    absurd (omega arith)
apart_at k i (Some f ∷ fs) (suc v) zero x y e g s =
    let h = link_at k (suc i) fs v x e in
    let own : y.to.port ≡ i = to_port y f k i (sym (some_same (record { from = Some f; to = port_of k i }) y g)) in
    let other : x.to.port ≡ suc i + h.1 = to_port x h.0 k (suc i + h.1) h.2 in
    absurd (omega arith)
apart_at k i (Some f ∷ fs) (suc v) (suc w) x y e g s = ap (λ (n : ℕ). suc n) (apart_at k (suc i) fs v w x y e g s)

-- and stands there
stands_at : (k i : ℕ) (fs : List (Option Port)) (j : ℕ) (f : Port) → slice_get fs j ≡ Some (Some f)
    → (v : ℕ) × (slice_get (links_at k i fs) v ≡ Some (record { from = Some f; to = port_of k (i + j) }))
stands_at k i [] j f e = no_some (Some f) e
stands_at k i (None ∷ fs) zero f e = cc
stands_at k i (None ∷ fs) (suc j) f e =
    let h = stands_at k (suc i) fs j f e in
    let s : suc i + j ≡ i + suc j = omega arith in
    (h.0, h.1 ∙ ap (λ (m : ℕ). let w : Wire = record { from = Some f; to = port_of k m } in Some w) s)
stands_at k i (Some g ∷ fs) zero f e =
    let s : i ≡ i + 0 = omega arith in
    let same : g ≡ f = some_same g f (some_same (Some g) (Some f) e) in (
      0,
      ap (λ (h : Port). let w : Wire = record { from = Some h; to = port_of k i } in Some w) same
          ∙ ap (λ (m : ℕ). let w : Wire = record { from = Some f; to = port_of k m } in Some w) s,
    )
stands_at k i (Some g ∷ fs) (suc j) f e =
    let h = stands_at k (suc i) fs j f e in
    let s : suc i + j ≡ i + suc j = omega arith in
    (suc h.0, h.1 ∙ ap (λ (m : ℕ). let w : Wire = record { from = Some f; to = port_of k m } in Some w) s)

abbrev link_to : Port → ℕ → ℕ → Wire
link_to f k i = record { from = Some f; to = port_of k i }

port_zero : (f : Port) (k j : ℕ) → link_to f k (0 + j) ≡ link_to f k j
port_zero f k j = let s : 0 + j ≡ j = omega arith in ap (λ (m : ℕ). link_to f k m) s

link_zero : (k : ℕ) (fs : List (Option Port)) (v : ℕ) (x : Wire) → slice_get (links_at k 0 fs) v ≡ Some x
    → (f : Port) × (j : ℕ) × (x ≡ record { from = Some f; to = port_of k j }) × (slice_get fs j ≡ Some (Some f))
link_zero k fs v x e = let h = link_at k 0 fs v x e in (h.0, h.1, h.2 ∙ port_zero h.0 k h.1, h.3)

stands_zero : (k : ℕ) (fs : List (Option Port)) (j : ℕ) (f : Port) → slice_get fs j ≡ Some (Some f)
    → (v : ℕ) × (slice_get (links_at k 0 fs) v ≡ Some (record { from = Some f; to = port_of k j }))
stands_zero k fs j f e = let h = stands_at k 0 fs j f e in (h.0, h.1 ∙ ap (λ (w : Wire). Some w) (port_zero f k j))

-- of all filters, the first of which has number k
link_from : (k : ℕ) (fed : List (List (Option Port))) (v : ℕ) (x : Wire) → slice_get (links_from k fed) v ≡ Some x
    → (f : Port) × (l i : ℕ) × (x ≡ record { from = Some f; to = port_of (k + l) i }) × (slice_get (slice_index_or fed l []) i ≡ Some (Some f))
link_from k [] v x e = no_some x e
link_from k (fs ∷ fed) v x e = elim (split (links_at k 0 fs) (links_from (suc k) fed) v x e) as
    (λ _. (f : Port) × (l i : ℕ) × (x ≡ record { from = Some f; to = port_of (k + l) i }) × (slice_get (slice_index_or (fs ∷ fed) l []) i ≡ Some (Some f))) [
      | inl g ↦
          let h = link_zero k fs v x g in
          let s : k ≡ k + 0 = omega arith in
          (h.0, 0, h.1, h.2 ∙ ap (λ (m : ℕ). let w : Wire = record { from = Some h.0; to = port_of m h.1 } in w) s, h.3)
      | inr g ↦
          let h = link_from (suc k) fed g.0 x g.2 in
          let s : suc k + h.1 ≡ k + suc h.1 = omega arith in
          (h.0, suc h.1, h.2, h.3 ∙ ap (λ (m : ℕ). let w : Wire = record { from = Some h.0; to = port_of m h.2 } in w) s, h.4)
    ]

apart_from : (k : ℕ) (fed : List (List (Option Port))) (v w : ℕ) (x y : Wire) → slice_get (links_from k fed) v ≡ Some x → slice_get (links_from k fed) w ≡ Some y
    → x.to ≡ y.to → v ≡ w
apart_from k [] v w x y e g s = no_some x e
apart_from k (fs ∷ fed) v w x y e g s = elim (split (links_at k 0 fs) (links_from (suc k) fed) v x e) as (λ _. v ≡ w) [
  | inl a ↦ elim (split (links_at k 0 fs) (links_from (suc k) fed) w y g) as (λ _. v ≡ w) [
    | inl b ↦ apart_at k 0 fs v w x y a b (ap (λ (p : Port). p.port) s)
    | inr b ↦
        let m : x.to.filter ≡ y.to.filter = ap (λ (p : Port). p.filter) s in
        let h = link_zero k fs v x a in
        let i = link_from (suc k) fed b.0 y b.2 in
        let left : x.to.filter ≡ k = to_filter x h.0 k h.1 h.2 in
        let right : y.to.filter ≡ suc k + i.1 = to_filter y i.0 (suc k + i.1) i.2 i.3 in
        absurd (omega arith)
  ]
  | inr a ↦ elim (split (links_at k 0 fs) (links_from (suc k) fed) w y g) as (λ _. v ≡ w) [
    | inl b ↦
        let m : x.to.filter ≡ y.to.filter = ap (λ (p : Port). p.filter) s in
        let h = link_zero k fs w y b in
        let i = link_from (suc k) fed a.0 x a.2 in
        let left : y.to.filter ≡ k = to_filter y h.0 k h.1 h.2 in
        let right : x.to.filter ≡ suc k + i.1 = to_filter x i.0 (suc k + i.1) i.2 i.3 in
        absurd (omega arith)
    | inr b ↦
        let same : a.0 ≡ b.0 = apart_from (suc k) fed a.0 b.0 x y a.2 b.2 s in
        let p : v ≡ length (links_at k 0 fs) + a.0 = a.1 in
        let q : w ≡ length (links_at k 0 fs) + b.0 = b.1 in
        omega arith
  ]
]

stands_from : (k : ℕ) (fed : List (List (Option Port))) (l i : ℕ) (f : Port) → slice_get (slice_index_or fed l []) i ≡ Some (Some f)
    → (v : ℕ) × (slice_get (links_from k fed) v ≡ Some (record { from = Some f; to = port_of (k + l) i }))
stands_from k [] l i f e = no_some (Some f) e
stands_from k (fs ∷ fed) zero i f e =
    let h = stands_zero k fs i f e in
    let s : k ≡ k + 0 = omega arith in (
      h.0,
      front (links_at k 0 fs) (links_from (suc k) fed) h.0 (record { from = Some f; to = port_of k i }) h.1
          ∙ ap (λ (m : ℕ). let w : Wire = record { from = Some f; to = port_of m i } in Some w) s,
    )
stands_from k (fs ∷ fed) (suc l) i f e =
    let h = stands_from (suc k) fed l i f e in
    let s : suc k + l ≡ k + suc l = omega arith in (
      length (links_at k 0 fs) + h.0,
      back (links_at k 0 fs) (links_from (suc k) fed) h.0 ∙ (h.1
          ∙ ap (λ (m : ℕ). let w : Wire = record { from = Some f; to = port_of m i } in Some w) s),
    )

filter_zero : (f : Port) (k j : ℕ) → link_to f (0 + k) j ≡ link_to f k j
filter_zero f k j = let s : 0 + k ≡ k = omega arith in ap (λ (m : ℕ). link_to f m j) s

link_all : (fed : List (List (Option Port))) (v : ℕ) (x : Wire) → slice_get (links_from 0 fed) v ≡ Some x
    → (f : Port) × (l i : ℕ) × (x ≡ record { from = Some f; to = port_of l i }) × (slice_get (slice_index_or fed l []) i ≡ Some (Some f))
link_all fed v x e = let h = link_from 0 fed v x e in (h.0, h.1, h.2, h.3 ∙ filter_zero h.0 h.1 h.2, h.4)

stands_all : (fed : List (List (Option Port))) (l i : ℕ) (f : Port) → slice_get (slice_index_or fed l []) i ≡ Some (Some f)
    → (v : ℕ) × (slice_get (links_from 0 fed) v ≡ Some (record { from = Some f; to = port_of l i }))
stands_all fed l i f e = let h = stands_from 0 fed l i f e in (h.0, h.1 ∙ ap (λ (w : Wire). Some w) (filter_zero f l i))

-- later edges lead to later filters
rises : (k : ℕ) (fed : List (List (Option Port))) (v w : ℕ) (x y : Wire) → slice_get (links_from k fed) v ≡ Some x → slice_get (links_from k fed) w ≡ Some y
    → v ≤ w → x.to.filter ≤ y.to.filter
rises k [] v w x y e g le = no_some x e
rises k (fs ∷ fed) v w x y e g le = elim (split (links_at k 0 fs) (links_from (suc k) fed) v x e) as (λ _. x.to.filter ≤ y.to.filter) [
  | inl a ↦
      let h = link_zero k fs v x a in
      let left : x.to.filter ≡ k = to_filter x h.0 k h.1 h.2 in
      let i = link_from k (fs ∷ fed) w y g in
      let right : y.to.filter ≡ k + i.1 = to_filter y i.0 (k + i.1) i.2 i.3 in
      omega arith
  | inr a ↦ elim (split (links_at k 0 fs) (links_from (suc k) fed) w y g) as (λ _. x.to.filter ≤ y.to.filter) [
    | inl b ↦
        let lt : w < length (links_at k 0 fs) = got_below (links_at k 0 fs) w y b in
        let p : v ≡ length (links_at k 0 fs) + a.0 = a.1 in
        absurd (omega arith)
    | inr b ↦
        let p : v ≡ length (links_at k 0 fs) + a.0 = a.1 in
        let q : w ≡ length (links_at k 0 fs) + b.0 = b.1 in
        rises (suc k) fed a.0 b.0 x y a.2 b.2 (omega arith)
  ]
]

-- an element that is there
got_some : {A : Type 0} (xs : List A) (k : ℕ) → k < length xs → (x : A) × (slice_get xs k ≡ Some x)
got_some [] k lt = absurd (omega arith)
got_some (x ∷ xs) zero lt = (x, refl)
got_some (x ∷ xs) (suc k) lt = got_some xs k (omega arith)

goal_is : (ws : List Wire) (v : ℕ) (f : Port) → slice_get (ends_of ws) v ≡ Some (Some f) → goal_of (slice_get ws v) ≡ Some f
goal_is [] v f e = no_some (Some f) e
goal_is (x ∷ ws) zero f e = some_same (Some x.to) (Some f) e
goal_is (x ∷ ws) (suc v) f e = goal_is ws v f e

start_is : (ws : List Wire) (pads : List Port) (v : ℕ) (f : Port) → slice_get (starts_of ws pads) v ≡ Some (Some f)
    → start_of (slice_get ws v) (slice_get pads (v - length ws)) ≡ Some f
start_is [] pads v f e =
    let u = unmapped (λ (g : Port). Some g) pads v (Some f) e in
    let s : v - 0 ≡ v = omega arith in
    ap (λ (n : ℕ). slice_get pads n) s ∙ (u.1 ∙ u.2)
start_is (x ∷ ws) pads zero f e = some_same x.from (Some f) e
start_is (x ∷ ws) pads (suc v) f e =
    let s : suc v - suc (length ws) ≡ v - length ws = omega arith in
    ap (λ (n : ℕ). start_of (slice_get ws v) (slice_get pads n)) s ∙ start_is ws pads v f e

outs_size : (ps : List (Option Port)) (b : ℕ) (counts : List ℕ) → length (outs_from ps b counts) ≡ length counts
outs_size ps b [] = refl
outs_size ps b (n ∷ counts) = ap (λ (m : ℕ). suc m) (outs_size ps (suc b) counts)

outputs_below : (counts : List ℕ) (k o : ℕ) → o < outputs_at counts k → k < length counts
outputs_below [] k o lt = absurd (omega arith)
outputs_below (n ∷ counts) zero o lt = omega arith
outputs_below (n ∷ counts) (suc k) o lt = let h : k < length counts = outputs_below counts k o lt in omega arith

-- filters that feed one another ---------------------------------------------------------------------------------------

module _ (fed : List (List (Option Port))) (counts : List ℕ) (opens pads : List Port) (l : IsLinked fed counts opens pads) where
  abbrev pub all : List Wire
  all = wires_of fed opens

  abbrev pub ends : List (Option Port)
  ends = ends_of all

  abbrev starts : List (Option Port)
  starts = starts_of all pads

  inputs_size : length (entering opens) ≡ length opens
  inputs_size = map_size (λ f. record { from = None; to = f }) opens

  abbrev pub FromInput : ℕ → Wire → Type 0
  FromInput v x = (x.from ≡ None) × (slice_get opens v ≡ Some x.to)

  abbrev pub FromFilter : ℕ → Wire → Type 0
  FromFilter v x = (f : Port) × (x.from ≡ Some f) × (feeder_at fed x.to ≡ Some (Some f)) × (j : ℕ) × (v ≡ length opens + j) × (slice_get (links_from 0 fed) j ≡ Some x)

  enters : (v : ℕ) (x : Wire) → slice_get (entering opens) v ≡ Some x → FromInput v x
  enters v x e =
      let u = unmapped (λ (f : Port). let w : Wire = record { from = None; to = f } in w) opens v x e in
      (sym (ap (λ (w : Wire). w.from) u.2), u.1 ∙ ap (λ (w : Wire). Some w.to) u.2)

  -- each edge comes from an input of the graph, or from the output that feeds the input to which it leads
  pub wire_is : (v : ℕ) (x : Wire) → slice_get all v ≡ Some x → FromInput v x ⊎ FromFilter v x
  wire_is v x e = elim (split (entering opens) (links_from 0 fed) v x e) as (λ _. FromInput v x ⊎ FromFilter v x) [
    | inl a ↦ inl (enters v x a)
    | inr a ↦
        let h = link_all fed a.0 x a.2 in
        inr (h.0, ap (λ (w : Wire). w.from) h.3, ap (λ (w : Wire). feeder_at fed w.to) h.3 ∙ h.4, a.0, a.1 ∙ ap (λ (n : ℕ). n + a.0) inputs_size, a.2)
  ]

  none_some : {A : Type 0} (a : Option Port) (f : Port) → a ≡ None → a ≡ Some f → A
  none_some a f e g = no_some f (sym e ∙ g)

  feeder_is : (v : ℕ) (x : Wire) (f : Port) → slice_get all v ≡ Some x → x.from ≡ Some f → feeder_at fed x.to ≡ Some (Some f)
  feeder_is v x f e g = elim (wire_is v x e) as (λ _. feeder_at fed x.to ≡ Some (Some f)) [
    | inl a ↦ none_some x.from f a.0 g
    | inr a ↦ a.2 ∙ ap (λ (o : Option Port). Some o) (sym a.1 ∙ g)
  ]

  fed_there : (v : ℕ) (x : Wire) → slice_get all v ≡ Some x → (o : Option Port) × (feeder_at fed x.to ≡ Some o)
  fed_there v x e = elim (wire_is v x e) as (λ _. (o : Option Port) × (feeder_at fed x.to ≡ Some o)) [
    | inl a ↦ (None, l.opens_open v x.to a.1)
    | inr a ↦ (Some a.0, a.2)
  ]

  mixed : {A : Type 0} (v : ℕ) (a b f : Port) → slice_get opens v ≡ Some a → feeder_at fed b ≡ Some (Some f) → a ≡ b → A
  mixed v a b f e g s = no_some f (some_same None (Some f) (sym (l.opens_open v a e) ∙ (ap (λ (h : Port). feeder_at fed h) s ∙ g)))

  ends_once : (v w : ℕ) (x y : Wire) → slice_get all v ≡ Some x → slice_get all w ≡ Some y → x.to ≡ y.to → v ≡ w
  ends_once v w x y e g s = elim (wire_is v x e) as (λ _. v ≡ w) [
    | inl a ↦ elim (wire_is w y g) as (λ _. v ≡ w) [
      | inl b ↦ l.opens_once v w y.to (a.1 ∙ ap (λ (h : Port). Some h) s) b.1
      | inr b ↦ mixed v x.to y.to b.0 a.1 b.2 s
    ]
    | inr a ↦ elim (wire_is w y g) as (λ _. v ≡ w) [
      | inl b ↦ mixed w y.to x.to a.0 b.1 a.2 (sym s)
      | inr b ↦
          let i : a.3 ≡ b.3 = apart_from 0 fed a.3 b.3 x y a.5 b.5 s in
          let p : v ≡ length opens + a.3 = a.4 in
          let q : w ≡ length opens + b.3 = b.4 in
          omega arith
    ]
  ]

  pub upward : IsUpward all
  upward v w x y g le e h fr = elim (wire_is v x e) as (λ _. g.filter < y.to.filter) [
    | inl a ↦ none_some x.from g a.0 fr
    | inr a ↦ elim (wire_is w y h) as (λ _. g.filter < y.to.filter) [
      | inl b ↦
          let lt : w < length opens = got_below opens w y.to b.1 in
          let p : v ≡ length opens + a.3 = a.4 in
          absurd (omega arith)
      | inr b ↦
          let first : g.filter < x.to.filter = l.upward x.to g (feeder_is v x g e fr) in
          let p : v ≡ length opens + a.3 = a.4 in
          let q : w ≡ length opens + b.3 = b.4 in
          let less : a.3 ≤ b.3 = omega arith in
          let last : x.to.filter ≤ y.to.filter = rises 0 fed a.3 b.3 x y a.5 b.5 less in
          omega arith
    ]
  ]

  end_at : (v : ℕ) (x : Wire) → slice_get all v ≡ Some x → slice_get ends v ≡ Some (Some x.to)
  end_at v x e = mapped (λ (y : Wire). Some y.to) all v x e

  start_wire : (v : ℕ) (x : Wire) → slice_get all v ≡ Some x → slice_get starts v ≡ Some x.from
  start_wire v x e = front (map (λ (y : Wire). y.from) all) (map (λ (f : Port). Some f) pads) v x.from (mapped (λ (y : Wire). y.from) all v x e)

  start_pad : (q : ℕ) (f : Port) → slice_get pads q ≡ Some f → slice_get starts (length all + q) ≡ Some (Some f)
  start_pad q f e =
      ap (λ (n : ℕ). slice_get starts (n + q)) (sym (map_size (λ (y : Wire). y.from) all))
      ∙ (back (map (λ (y : Wire). y.from) all) (map (λ (g : Port). Some g) pads) q ∙ mapped (λ (g : Port). Some g) pads q f e)

  abbrev Starts : ℕ → Port → Type 0
  Starts v f = ((x : Wire) × (slice_get all v ≡ Some x) × (x.from ≡ Some f)) ⊎ ((q : ℕ) × (v ≡ length all + q) × (slice_get pads q ≡ Some f))

  start_cases : (v : ℕ) (f : Port) → slice_get starts v ≡ Some (Some f) → Starts v f
  start_cases v f e = elim (split (map (λ (y : Wire). y.from) all) (map (λ (g : Port). Some g) pads) v (Some f) e) as (λ _. Starts v f) [
    | inl a ↦ inl (unmapped (λ (y : Wire). y.from) all v (Some f) a)
    | inr a ↦
        let u = unmapped (λ (g : Port). Some g) pads a.0 (Some f) a.2 in
        inr (a.0, a.1 ∙ ap (λ (n : ℕ). n + a.0) (map_size (λ (y : Wire). y.from) all), u.1 ∙ u.2)
  ]

  pub starts_once : (v w : ℕ) (f : Port) → slice_get starts v ≡ Some (Some f) → slice_get starts w ≡ Some (Some f) → v ≡ w
  starts_once v w f e g = elim (start_cases v f e) as (λ _. v ≡ w) [
    | inl a ↦ elim (start_cases w f g) as (λ _. v ≡ w) [
      | inl b ↦ ends_once v w a.0 b.0 a.1 b.1 (l.once a.0.to b.0.to f (feeder_is v a.0 f a.1 a.2) (feeder_is w b.0 f b.1 b.2))
      | inr b ↦ absurd (l.pads_free b.0 a.0.to f b.2 (feeder_is v a.0 f a.1 a.2))
    ]
    | inr a ↦ elim (start_cases w f g) as (λ _. v ≡ w) [
      | inl b ↦ absurd (l.pads_free a.0 b.0.to f a.2 (feeder_is w b.0 f b.1 b.2))
      | inr b ↦ a.1 ∙ (ap (λ (n : ℕ). length all + n) (l.pads_once a.0 b.0 f a.2 b.2) ∙ sym b.1)
    ]
  ]

  -- an edge stands at each port
  pub edge_into : (a f : Port) → feeder_at fed a ≡ Some (Some f) → (v : ℕ) × (slice_get all v ≡ Some (record { from = Some f; to = a }))
  edge_into a f e =
      let h = stands_all fed a.filter a.port f e in
      (length (entering opens) + h.0, back (entering opens) (links_from 0 fed) h.0 ∙ h.1)

  entry_into : (i : ℕ) (a : Port) → slice_get opens i ≡ Some a → slice_get all i ≡ Some (record { from = None; to = a })
  entry_into i a e = front (entering opens) (links_from 0 fed) i (record { from = None; to = a })
      (mapped (λ (f : Port). let w : Wire = record { from = None; to = f } in w) opens i a e)

  input_end : (a : Port) (o : Option Port) → feeder_at fed a ≡ Some o → (v : ℕ) × (slice_get ends v ≡ Some (Some a))
  input_end a None e = let h = l.opens_all a e in (h.0, end_at h.0 (record { from = None; to = a }) (entry_into h.0 a h.1))
  input_end a (Some f) e = let h = edge_into a f e in (h.0, end_at h.0 (record { from = Some f; to = a }) h.1)

  output_start : (f : Port) → f.port < outputs_at counts f.filter → (v : ℕ) × (slice_get starts v ≡ Some (Some f))
  output_start f lt = elim (l.pads_all f lt) as (λ _. (v : ℕ) × (slice_get starts v ≡ Some (Some f))) [
    | inl a ↦ let h = edge_into a.0 f a.1 in (h.0, start_wire h.0 (record { from = Some f; to = a.0 }) h.1)
    | inr a ↦ (length all + a.0, start_pad a.0 f a.1)
  ]

  -- the plan of these edges
  module _ (p : Plan) (w : IsWired fed counts opens pads p) where
    pub wire_there : (v : ℕ) (x : Wire) → slice_get p.wires.items v ≡ Some x → slice_get all v ≡ Some x
    wire_there v x e = sym (ap (λ (ws : List Wire). slice_get ws v) w.wires) ∙ e

    in_is : (f : Port) → edge_in p f ≡ slice_get (edges_up ends f.filter 0 (length (slice_index_or fed f.filter []))) f.port
    in_is f = ap (λ (ws : List ℕ). slice_get ws f.port) (ins_is p.nodes.items f.filter
        ∙ (ap (λ (ls : List (List ℕ)). slice_index_or ls f.filter []) w.ins ∙ ins_zero ends fed f.filter))

    out_is : (f : Port) → edge_out p f ≡ slice_get (edges_up starts f.filter 0 (outputs_at counts f.filter)) f.port
    out_is f = ap (λ (ws : List ℕ). slice_get ws f.port) (outs_is p.nodes.items f.filter
        ∙ (ap (λ (ls : List (List ℕ)). slice_index_or ls f.filter []) w.outs ∙ outs_zero starts counts f.filter))

    -- the edge at an input that is there
    pub in_edge : (f : Port) (o : Option Port) → feeder_at fed f ≡ Some o → edge_in p f ≡ Some (edge_of ends f)
    in_edge f o e = in_is f ∙ up_zero ends f.filter (length (slice_index_or fed f.filter [])) f.port (got_below (slice_index_or fed f.filter []) f.port o e)

    out_edge : (f : Port) → f.port < outputs_at counts f.filter → edge_out p f ≡ Some (edge_of starts f)
    out_edge f lt = out_is f ∙ up_zero starts f.filter (outputs_at counts f.filter) f.port lt

    pub in_fed : (f : Port) (v : ℕ) → edge_in p f ≡ Some v → (o : Option Port) × (feeder_at fed f ≡ Some o)
    in_fed f v e = got_some (slice_index_or fed f.filter []) f.port (up_below ends f.filter 0 (length (slice_index_or fed f.filter [])) f.port v (sym (in_is f) ∙ e))

    pub out_counted : (f : Port) (v : ℕ) → edge_out p f ≡ Some v → f.port < outputs_at counts f.filter
    out_counted f v e = up_below starts f.filter 0 (outputs_at counts f.filter) f.port v (sym (out_is f) ∙ e)

    goal_at : (v : ℕ) (f : Port) → slice_get ends v ≡ Some (Some f) → leads_to p v ≡ Some f
    goal_at v f e = ap (λ (ws : List Wire). goal_of (slice_get ws v)) w.wires ∙ goal_is all v f e

    start_at : (v : ℕ) (f : Port) → slice_get starts v ≡ Some (Some f) → leaves p v ≡ Some f
    start_at v f e = ap (λ (ws : List Wire). start_of (slice_get ws v) (slice_get p.pads.items (v - length ws))) w.wires
        ∙ (ap (λ (fs : List Port). start_of (slice_get all v) (slice_get fs (v - length all))) w.pads ∙ start_is all pads v f e)

    in_end : (f : Port) (v : ℕ) → edge_in p f ≡ Some v → leads_to p v ≡ Some f
    in_end f v e =
        let h = in_fed f v e in
        let i = input_end f h.0 h.1 in
        let s : v ≡ edge_of ends f = some_same v (edge_of ends f) (sym e ∙ in_edge f h.0 h.1) in
        goal_at v f (ap (λ (n : ℕ). slice_get ends n) s ∙ found ends f i.0 i.1)

    pub out_start : (f : Port) (v : ℕ) → edge_out p f ≡ Some v → leaves p v ≡ Some f
    out_start f v e =
        let lt = out_counted f v e in
        let i = output_start f lt in
        let s : v ≡ edge_of starts f = some_same v (edge_of starts f) (sym e ∙ out_edge f lt) in
        start_at v f (ap (λ (n : ℕ). slice_get starts n) s ∙ found starts f i.0 i.1)

    to_there : (v : ℕ) (x : Wire) → slice_get all v ≡ Some x → edge_in p x.to ≡ Some v
    to_there v x e =
        let h = fed_there v x e in
        let u = unmapped (λ (y : Wire). Some y.to) all (edge_of ends x.to) (Some x.to) (found ends x.to v (end_at v x e)) in
        in_edge x.to h.0 h.1 ∙ ap (λ (n : ℕ). Some n) (ends_once (edge_of ends x.to) v u.0 x u.1 e (some_same u.0.to x.to u.2))

    pub from_there : (v : ℕ) (f : Port) → f.port < outputs_at counts f.filter → slice_get starts v ≡ Some (Some f) → edge_out p f ≡ Some v
    from_there v f lt e = out_edge f lt ∙ ap (λ (n : ℕ). Some n) (starts_once (edge_of starts f) v f (found starts f v e) e)

    size : length p.wires.items ≡ length all
    size = ap length w.wires

    pub pad_at : (q : ℕ) (f : Port) → slice_get p.pads.items q ≡ Some f → slice_get pads q ≡ Some f
    pad_at q f e = sym (ap (λ (fs : List Port). slice_get fs q) w.pads) ∙ e

    pad_edge : (q : ℕ) (f : Port) → slice_get pads q ≡ Some f → edge_out p f ≡ Some (length p.wires.items + q)
    pad_edge q f e = from_there (length all + q) f (l.pads_there q f e) (start_pad q f e) ∙ ap (λ (n : ℕ). Some (n + q)) (sym size)

    pad_number : (q : ℕ) (f : Port) → slice_get pads q ≡ Some f → slice_get p.edges.items q ≡ Some (length p.wires.items + q)
    pad_number q f e = ap (λ (ns : List ℕ). slice_get ns q) w.edges ∙ (number_at (length all) (length pads) q (got_below pads q f e)
        ∙ ap (λ (n : ℕ). Some (n + q)) (sym size))

    pub entry_at : (i : ℕ) (f : Port) → slice_get p.feeds.items i ≡ Some f → slice_get p.wires.items i ≡ Some (record { from = None; to = f })
    entry_at i f e = ap (λ (ws : List Wire). slice_get ws i) w.wires ∙ entry_into i f (sym (ap (λ (fs : List Port). slice_get fs i) w.feeds) ∙ e)

    only_inputs : (v : ℕ) (x : Wire) → slice_get all v ≡ Some x → x.from ≡ None → v < length opens
    only_inputs v x e g = elim (wire_is v x e) as (λ _. v < length opens) [
      | inl a ↦ got_below opens v x.to a.1
      | inr a ↦ none_some x.from a.0 g a.1
    ]

    pub wires_upward : IsUpward p.wires.items
    wires_upward = subst IsUpward (sym w.wires) upward

    pub nodes_size : length p.nodes.items ≡ length counts
    nodes_size = sym (map_size (λ (m : Node). m.outs.items) p.nodes.items) ∙ (ap length w.outs ∙ outs_size starts 0 counts)

    pub pads_within : (q : ℕ) (f : Port) → slice_get p.pads.items q ≡ Some f → f.filter < length p.nodes.items
    pads_within q f e =
        let lt : f.filter < length counts = outputs_below counts f.filter f.port (l.pads_there q f (pad_at q f e)) in
        let n : length p.nodes.items ≡ length counts = nodes_size in
        omega (arith, n, lt)

    pub tied_so : length opens ≡ length p.ins.items → length pads ≡ length p.outs.items → length p.ways.items ≡ length p.pads.items
        → ((q : ℕ) (f : Port) → slice_get p.pads.items q ≡ Some f → (needed : List Bool) × IsReached p (ways_of p q) f needed) → IsTied p
    tied_so i o z r = record {
      inputs = ap length w.feeds ∙ i;
      outputs = ap length w.pads ∙ o;
      ways = z;
      edges = ap length w.edges ∙ (numbers_size (length all) (length pads) ∙ sym (ap length w.pads));
      ins_back = λ k j v e. in_end (port_of k j) v e;
      outs_back = λ k j v e. out_start (port_of k j) v e;
      tos = λ v x e. to_there v x (wire_there v x e);
      froms = λ v x f e g.
          let h = feeder_is v x f (wire_there v x e) g in
          (l.upward x.to f h, from_there v f (l.there x.to f h) (start_wire v x (wire_there v x e) ∙ ap (λ (a : Option Port). Some a) g));
      pads = λ q f e. (pad_edge q f (pad_at q f e), pad_number q f (pad_at q f e));
      feeds = entry_at;
      only = λ v x e g. subst (λ (n : ℕ). v < n) (sym (ap length w.feeds)) (only_inputs v x (wire_there v x e) g);
      upward = wires_upward;
      reached = r;
    }
