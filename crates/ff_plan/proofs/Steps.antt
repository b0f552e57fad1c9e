-- What the code that numbers ports keeps.
use Rattle.std.proofs.Common.{◌≡◌, ℕ, zero, suc, ◌+◌, ◌<◌, ◌==◌, Bool, true, false, cond, List, [], ◌∷◌, ◌++◌, take, length, slice_index_or, refl, ap, ◌∙◌, arith}
use Rattle.std.proofs.lemmas.Bool.Decides.{nat_tests}
use Rattle.ff_stream.specs.declared.edges.edge.Edge.{Edge}
use Rattle.ff_plan.specs.Wires.{Wire, leaves_node, enters_node, port_or, edge_behind, edges_behind, edges_of}
use Rattle.ff_stream.specs.edges.Ports.{tally}

-- one more element
pub take_next : {A : Type 0} (xs : List A) (n : ℕ) (d : A) → n < length xs → take (n + 1) xs ≡ take n xs ++ slice_index_or xs n d ∷ []
take_next [] n d lt = absurd (omega (arith, lt))
take_next (x ∷ xs) zero d lt = refl
take_next (x ∷ xs) (suc n) d lt = (let one : suc n + 1 ≡ suc (n + 1) = omega arith in ap (λ (k : ℕ). take k (x ∷ xs)) one ∙ ap (λ (ys : List _). x ∷ ys) (take_next xs n d (omega (arith, lt))))

tally_end : {A : Type 0} (p : A → Bool) (xs : List A) (x : A) → tally p (xs ++ x ∷ []) ≡ tally p xs + cond (p x) 1 0
tally_end p [] x = end (p x) where
  end : (b : Bool) → cond b 1 0 ≡ 0 + cond b 1 0
  end true = refl
  end false = refl
tally_end p (y ∷ ys) x = step (p y) (tally_end p ys x) where
  step : (b : Bool) → tally p (ys ++ x ∷ []) ≡ tally p ys + cond (p x) 1 0 → cond b (suc (tally p (ys ++ x ∷ []))) (tally p (ys ++ x ∷ [])) ≡ cond b (suc (tally p ys)) (tally p ys) + cond (p x) 1 0
  step true e = omega (arith, e)
  step false e = e

pub tally_next : {A : Type 0} (p : A → Bool) (xs : List A) (n : ℕ) (d : A) (b : Bool) → n < length xs → p (slice_index_or xs n d) ≡ b → tally p (take (n + 1) xs) ≡ tally p (take n xs) + cond b 1 0
tally_next p xs n d b lt e = ap (λ (ys : List _). tally p ys) (take_next xs n d lt) ∙ (tally_end p (take n xs) (slice_index_or xs n d) ∙ ap (λ (c : Bool). tally p (take n xs) + cond c 1 0) e)

-- the wires in front of others, the last first
all_behind : List Wire → List Wire → List Wire
all_behind before [] = before
all_behind before (w ∷ ws) = all_behind (w ∷ before) ws

edges_end : (before ws : List Wire) (w : Wire) → edges_behind before (ws ++ w ∷ []) ≡ edges_behind before ws ++ edge_behind (all_behind before ws) w ∷ []
unfolding all_behind
edges_end before [] w = refl
edges_end before (v ∷ ws) w = ap (λ (es : List Edge). edge_behind before v ∷ es) (edges_end (v ∷ before) ws w)

count_step : (a t r : ℕ) (b : Bool) → t ≡ cond b (suc a) a + r → t ≡ a + cond b (suc r) r
count_step a t r true e = omega (arith, e)
count_step a t r false e = e

leave_count : (k : ℕ) (before ws : List Wire) → tally (leaves_node k) (all_behind before ws) ≡ tally (leaves_node k) before + tally (λ (e : Edge). e.from == k) (edges_behind before ws)
unfolding all_behind
leave_count k before [] = omega arith
leave_count k before (w ∷ ws) = count_step (tally (leaves_node k) before) (tally (leaves_node k) (all_behind (w ∷ before) ws)) (tally (λ (e : Edge). e.from == k) (edges_behind (w ∷ before) ws)) (w.from == k) (leave_count k (w ∷ before) ws)

enter_count : (k : ℕ) (before ws : List Wire) → tally (enters_node k) (all_behind before ws) ≡ tally (enters_node k) before + tally (λ (e : Edge). e.to == k) (edges_behind before ws)
unfolding all_behind
enter_count k before [] = omega arith
enter_count k before (w ∷ ws) = count_step (tally (enters_node k) before) (tally (enters_node k) (all_behind (w ∷ before) ws)) (tally (λ (e : Edge). e.to == k) (edges_behind (w ∷ before) ws)) (w.to == k) (enter_count k (w ∷ before) ws)

-- the next edge, by the edges so far
abbrev pub next_edge : List Edge → Wire → Edge
next_edge es w = record { from = w.from; out_port = port_or (tally (λ (e : Edge). e.from == w.from) es) w.port; to = w.to; in_port = tally (λ (e : Edge). e.to == w.to) es; lane = w.lane }

pub edges_next : (ws : List Wire) (n : ℕ) (d : Wire) → n < length ws → edges_of (take (n + 1) ws) ≡ edges_of (take n ws) ++ next_edge (edges_of (take n ws)) (slice_index_or ws n d) ∷ []
edges_next ws n d lt =
    let w = slice_index_or ws n d in
    let front = take n ws in
    let outs : tally (leaves_node w.from) (all_behind [] front) ≡ tally (λ (e : Edge). e.from == w.from) (edges_of front) = (let e = leave_count w.from [] front in omega (arith, e)) in
    let ins : tally (enters_node w.to) (all_behind [] front) ≡ tally (λ (e : Edge). e.to == w.to) (edges_of front) = (let e = enter_count w.to [] front in omega (arith, e)) in
    ap (λ (xs : List Wire). edges_of xs) (take_next ws n d lt) ∙ (edges_end [] front w ∙
    (ap (λ (k : ℕ). edges_of front ++ record { from = w.from; out_port = port_or k w.port; to = w.to; in_port = tally (enters_node w.to) (all_behind [] front); lane = w.lane } ∷ []) outs
    ∙ ap (λ (k : ℕ). edges_of front ++ record { from = w.from; out_port = port_or (tally (λ (e : Edge). e.from == w.from) (edges_of front)) w.port; to = w.to; in_port = k; lane = w.lane } ∷ []) ins))
