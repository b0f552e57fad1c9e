-- Edges that go upward.
use Rattle.std.proofs.Common.{◌≡◌, ℕ, zero, suc, ◌+◌, ◌<◌, Bool, true, false, List, [], ◌∷◌, length, slice_index_or, refl, sym, ap, ◌∙◌, subst, arith}
use Rattle.std.specs.List.{position_or_len, AllByRecursion}
use Rattle.std.proofs.lemmas.Bool.Decides.{nat_tests}
use Rattle.ff_stream.specs.declared.edges.edge.Edge.{Edge}
use Rattle.ff_plan.specs.Wires.{Wire, edges_behind, edges_of}
use Rattle.ff_stream.specs.edges.Ports.{leads_to, edge_to, shape_of, IsFed}
use Rattle.ff_plan.specs.laws.Laws.{GoUpward, IsUp}
use Rattle.ff_stream.specs.edges.Ports.{HasIns, HasOuts}
use Rattle.ff_plan_layout.proofs.Tests.{hit, miss}

-- the element at the first place that passes does pass
first_of : {A : Type 0} (p : A → Bool) (x : A) (xs : List A) (d : A) (b : Bool) → p x ≡ b → (position_or_len p xs < length xs → p (slice_index_or xs (position_or_len p xs) d) ≡ true) → position_or_len p (x ∷ xs) < length (x ∷ xs) → p (slice_index_or (x ∷ xs) (position_or_len p (x ∷ xs)) d) ≡ true
first_of p x xs d true e rest lt = ap (λ (k : ℕ). p (slice_index_or (x ∷ xs) k d)) (hit p x xs e) ∙ e
first_of p x xs d false e rest lt =
    let next_is = miss p x xs e in
    let one_more : 1 + position_or_len p xs ≡ suc (position_or_len p xs) = omega arith in
    ap (λ (k : ℕ). p (slice_index_or (x ∷ xs) k d)) (next_is ∙ one_more) ∙ rest (omega (arith, lt, next_is))

pub first_passes : {A : Type 0} (p : A → Bool) (xs : List A) (d : A) → position_or_len p xs < length xs → p (slice_index_or xs (position_or_len p xs) d) ≡ true
first_passes p [] d lt = absurd (omega (arith, lt))
first_passes p (x ∷ xs) d lt = first_of p x xs d (p x) refl (λ l. first_passes p xs d l) lt

pub some_of : {A : Type 0} (xs : List A) (k : ℕ) → k < length xs → A
some_of [] k lt = absurd (omega (arith, lt))
some_of (x ∷ xs) zero lt = x
some_of (x ∷ xs) (suc k) lt = some_of xs k (omega (arith, lt))

up_behind : (count : ℕ) (before ws : List Wire) → AllByRecursion (IsUp count) ws → (w : ℕ) (d : Edge) → w < length (edges_behind before ws)
    → ((slice_index_or (edges_behind before ws) w d).from < (slice_index_or (edges_behind before ws) w d).to) × ((slice_index_or (edges_behind before ws) w d).to < count)
up_behind count before [] up w d lt = absurd (omega (arith, lt))
up_behind count before (x ∷ ws) up zero d lt = up.0
up_behind count before (x ∷ ws) up (suc w) d lt = up_behind count (x ∷ before) ws up.1 w d (omega (arith, lt))

pub go_upward : (count : ℕ) (wires : List Wire) → AllByRecursion (IsUp count) wires → GoUpward count (edges_of wires)
go_upward count wires up = record { upward = λ w d lt. (up_behind count [] wires up w d lt).0; in_range = λ w d lt. (up_behind count [] wires up w d lt).1 }

to_is : (e : Edge) (k p : ℕ) → leads_to k p e ≡ true → e.to ≡ k
to_is e k p h = grind (arith, nat_tests)

pub is_fed : (count : ℕ) (edges : List Edge) → ((k : ℕ) → HasIns edges k) → ((k : ℕ) → HasOuts edges k) → GoUpward count edges → IsFed (shape_of edges) count edges
is_fed count edges ins outs up k p klt plt =
    let w = edge_to edges k p in
    let wlt : w < length edges = (ins k).there p plt in
    let d = some_of edges w wlt in
    let e = slice_index_or edges w d in
    let to_k : e.to ≡ k = to_is e k p (first_passes (leads_to k p) edges d wlt) in
    let below : e.from < e.to = up.upward w d wlt in
    (e.from, e.out_port, subst (λ (n : ℕ). e.from < n) to_k below, (outs e.from).range w d wlt refl, sym ((outs e.from).at w d wlt refl))
