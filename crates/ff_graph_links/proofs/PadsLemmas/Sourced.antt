-- The sources of input pads, one more.
use Rattle.std.proofs.Common.{◌≡◌, ℕ, suc, ◌+◌, ◌-◌, ◌<◌, List, [], ◌∷◌, ◌++◌, Option, ap, sym, ◌∙◌, append_assoc, arith}
use Rattle.ff_graph_links.specs.declared.pads.drawn.Pad.{Pad}
use Rattle.ff_graph_links.specs.pads.Links.{Seen, source_of, sources_up}

next_up : (ds : List Seen) (k : ℕ) (d : Seen) (i n : ℕ) → i < n → sources_up ds k d i (n - i) ≡ source_of ds k d i ∷ sources_up ds k d (suc i) (n - suc i)
next_up ds k d i n lt = let e : n - i ≡ suc (n - suc i) = omega arith in ap (λ (m : ℕ). sources_up ds k d i m) e

one_more : (i : ℕ) → i + 1 ≡ suc i
one_more i = omega arith

pub pushed : (ds : List Seen) (k : ℕ) (d : Seen) (i n : ℕ) (items now all : List (Option Pad)) (v : Option Pad) → i < n → now ≡ items ++ v ∷ [] → v ≡ source_of ds k d i
    → items ++ sources_up ds k d i (n - i) ≡ all → now ++ sources_up ds k d (i + 1) (n - (i + 1)) ≡ all
pushed ds k d i n items now all v lt push is was =
    let rest : List (Option Pad) = sources_up ds k d (suc i) (n - suc i) in
    ap (λ (j : ℕ). now ++ sources_up ds k d j (n - j)) (one_more i)
    ∙ (ap (λ (xs : List (Option Pad)). xs ++ rest) push ∙ (append_assoc items (v ∷ []) rest ∙ (ap (λ (x : Option Pad). items ++ (x ∷ rest)) is
    ∙ (ap (λ (ys : List (Option Pad)). items ++ ys) (sym (next_up ds k d i n lt)) ∙ was))))
