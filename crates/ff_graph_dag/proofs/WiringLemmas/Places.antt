-- The place of a pad among others is its position there.
use Rattle.std.proofs.Common.{◌≡◌, ℕ, suc, ◌+◌, cond, List, refl, ap, arith}
use Rattle.std.specs.List.{position_or_len}
use Rattle.std.proofs.lemmas.List.Recursion.{is_position_or_len}
use Rattle.ff_graph_links.specs.declared.pads.drawn.Pad.{Pad}
use Rattle.ff_graph_dag.specs.wiring.Flows.{same_pad, pad_place}

one_more : (n : ℕ) → suc n ≡ 1 + n
one_more n = omega arith

pub positions : (p : Pad) (pads : List Pad) → pad_place pads p ≡ position_or_len (same_pad p) pads
positions p pads = is_position_or_len (λ (qs : List Pad). pad_place qs p) (same_pad p) refl
    (λ q qs. ap (λ (n : ℕ). cond (same_pad p q) 0 n) (one_more (pad_place qs p))) pads
