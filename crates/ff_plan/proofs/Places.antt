-- The node at a number.
use Rattle.std.proofs.Common.{◌≡◌, ℕ, zero, suc, ◌+◌, ◌<◌, List, [], ◌∷◌, ◌++◌, map, length, Some, refl, ap, ◌∙◌, arith}
use Rattle.std.specs.Prelude.{slice_get}
use Rattle.std.specs.List.{range_with_len}
use Rattle.ff_plan.specs.declared.planned.PlanNode.{PlanNode}
use Rattle.ff_plan.specs.declared.planned.PlanNode.TheVariants as node
use Rattle.ff_plan_layout.specs.Layout.{Layout, used, used_inputs, placed}
use Rattle.ff_plan.specs.Nodes.{start_node, nodes_of, output_numbers, mux_at}
use Rattle.ff_plan_layout.proofs.Sizes.{map_length, range_length}

get_behind : {A : Type 0} (xs ys : List A) (m n : ℕ) → m ≡ length xs + n → slice_get (xs ++ ys) m ≡ slice_get ys n
get_behind [] ys m n e = ap (λ (k : ℕ). slice_get ys k) (omega (arith, e))
get_behind (x ∷ xs) ys zero n e = absurd (omega (arith, e))
get_behind (x ∷ xs) ys (suc m) n e = get_behind xs ys m n (omega (arith, e))

get_number : (f : ℕ → PlanNode) (a n i : ℕ) → i < n → slice_get (map f (range_with_len a n)) i ≡ Some (f (a + i))
get_number f a zero i lt = absurd (omega (arith, lt))
get_number f a (suc n) zero lt = ap (λ (k : ℕ). Some (f k)) (omega arith)
get_number f a (suc n) (suc i) lt = get_number f (a + 1) n i (omega (arith, lt)) ∙ ap (λ (k : ℕ). Some (f k)) (omega arith)

pub mux_is : (l : Layout) (o : ℕ) → o < length l.outputs → slice_get (nodes_of l) (mux_at l o) ≡ Some (node.Mux o)
mux_is l o lt =
    let a = map (λ i. node.Demux i) (used_inputs l) in let b = map (start_node (length l.heads)) (used l) in let c = map (λ g. node.Graph g.graph) l.graphs in
    let d = map (λ o. node.Shortest o) (output_numbers l) in let e = map (λ p. node.Enc p.output p.stream) (placed l) in let f = map (λ o. node.Mux o) (output_numbers l) in
    let la = map_length (λ i. node.Demux i) (used_inputs l) in let lb = map_length (start_node (length l.heads)) (used l) in let lc = map_length (λ g. node.Graph g.graph) l.graphs in
    let ld = map_length (λ o. node.Shortest o) (output_numbers l) in let le = map_length (λ p. node.Enc p.output p.stream) (placed l) in
    let lr = range_length 0 (length l.outputs) in let m4 = length e + o in let m3 = length d + m4 in let m2 = length c + m3 in let m1 = length b + m2 in
    get_behind a (b ++ (c ++ (d ++ (e ++ f)))) (mux_at l o) m1 (omega (arith, la, lb, lc, ld, lr, le))
    ∙ (get_behind b (c ++ (d ++ (e ++ f))) m1 m2 refl ∙ (get_behind c (d ++ (e ++ f)) m2 m3 refl ∙ (get_behind d (e ++ f) m3 m4 refl ∙ (get_behind e f m4 o refl ∙ (get_number (λ o. node.Mux o) 0 (length l.outputs) o lt ∙ ap (λ (k : ℕ). Some (node.Mux k)) (let e : 0 + o ≡ o = omega arith in e))))))
