-- One more edge at the ports of a filter, and one more number.
use Rattle.std.proofs.Common.{◌≡◌, ℕ, suc, ◌+◌, ◌-◌, ◌<◌, List, [], ◌∷◌, ◌++◌, Option, ap, sym, ◌∙◌, append_assoc, arith}
use Rattle.ff_graph_dag.specs.declared.graph.Port.{Port}
use Rattle.ff_graph_dag.specs.laws.wiring.Wires.{edge_of, edges_up, numbers}

one_more : (i : ℕ) → i + 1 ≡ suc i
one_more i = omega arith

next_up : (ps : List (Option Port)) (k i n : ℕ) → i < n → edges_up ps k i (n - i) ≡ edge_of ps (record { filter = k; port = i }) ∷ edges_up ps k (suc i) (n - suc i)
next_up ps k i n lt = let e : n - i ≡ suc (n - suc i) = omega arith in ap (λ (m : ℕ). edges_up ps k i m) e

pub pushed : (ps : List (Option Port)) (k i n : ℕ) (items now : List ℕ) (v : ℕ) → i < n → now ≡ items ++ v ∷ [] → v ≡ edge_of ps (record { filter = k; port = i })
    → items ++ edges_up ps k i (n - i) ≡ edges_up ps k 0 n → now ++ edges_up ps k (i + 1) (n - (i + 1)) ≡ edges_up ps k 0 n
pushed ps k i n items now v lt push is was =
    let rest : List ℕ = edges_up ps k (suc i) (n - suc i) in
    ap (λ (j : ℕ). now ++ edges_up ps k j (n - j)) (one_more i)
    ∙ (ap (λ (xs : List ℕ). xs ++ rest) push ∙ (append_assoc items (v ∷ []) rest ∙ (ap (λ (x : ℕ). items ++ (x ∷ rest)) is
    ∙ (ap (λ (ys : List ℕ). items ++ ys) (sym (next_up ps k i n lt)) ∙ was))))

next_number : (w n : ℕ) → w < n → numbers w (n - w) ≡ w ∷ numbers (suc w) (n - suc w)
next_number w n lt = let e : n - w ≡ suc (n - suc w) = omega arith in ap (λ (m : ℕ). numbers w m) e

pub counted : (a w n : ℕ) (items now : List ℕ) → w < n → now ≡ items ++ w ∷ [] → items ++ numbers w (n - w) ≡ numbers a (n - a)
    → now ++ numbers (w + 1) (n - (w + 1)) ≡ numbers a (n - a)
counted a w n items now lt push was =
    let rest : List ℕ = numbers (suc w) (n - suc w) in
    ap (λ (j : ℕ). now ++ numbers j (n - j)) (one_more w)
    ∙ (ap (λ (xs : List ℕ). xs ++ rest) push ∙ (append_assoc items (w ∷ []) rest
    ∙ (ap (λ (ys : List ℕ). items ++ ys) (sym (next_number w n lt)) ∙ was)))
