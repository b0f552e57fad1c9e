-- Heads behind others, and filters one by one.
use Rattle.std.proofs.Common.{◌≡◌, ℕ, zero, suc, ◌+◌, ◌<◌, Bool, true, false, arith, length, drop, get_or, slice_get, Result, Err, sym, ◌∙◌, List, [], ◌∷◌, ◌++◌, Option, None, Some, slice_set, refl, ap, append_assoc, drop-cons}
use Rattle.std.specs.declared.vec.Vec.{Vec}
use Rattle.ff_frame.specs.declared.head.StreamHead.{StreamHead}
use Rattle.ff_frame.specs.declared.config.ConfigError.{ConfigError}
use Rattle.ff_graph_links.specs.declared.pads.drawn.Pad.{Pad}
use Rattle.ff_graph_links.specs.pads.Links.{Seen}
use Rattle.ff_filters.specs.Configured.{Filtered}
use Rattle.ff_graph.specs.Configured.{Made, Refused, and_head, made_of, behind, make_from, OpenOut, feeds_one, unless_fed, outs_at}
use Rattle.ff_graph.specs.laws.Pads.{heads_in}

-- these in front
abbrev pub prefixed : List StreamHead → Option (List StreamHead) → Option (List StreamHead)
prefixed xs None = None
prefixed xs (Some ys) = Some (xs ++ ys)

pub one_more : (xs : List StreamHead) (h : StreamHead) (o : Option (List StreamHead)) → prefixed (xs ++ h ∷ []) o ≡ prefixed xs (and_head (Some h) o)
one_more xs h None = refl
one_more xs h (Some ys) = ap (λ (zs : List StreamHead). Some zs) (append_assoc xs (h ∷ []) ys)

-- heads of one more filter
pub heads-set : {A : Type 0} (vs : List (Vec StreamHead A)) (k : ℕ) (v : Vec StreamHead A) → heads_in (slice_set vs k v) ≡ slice_set (heads_in vs) k v.items
heads-set [] k v = refl
heads-set (w ∷ vs) zero v = refl
heads-set (w ∷ vs) (suc k) v = ap (λ (hs : List (List StreamHead)). w.items ∷ hs) (heads-set vs k v)

-- the next filter of an order is refused
pub refused_there : (ds : List Seen) (given : List (Option StreamHead)) (made : Made) (order : List ℕ) (at : ℕ) (why : ConfigError) (r : Result Made Refused)
    → at < length order → made_of ds given made.heads (get_or order at 0) (slice_get ds (get_or order at 0)) ≡ Err why
    → make_from ds given made (drop at order) ≡ r → r ≡ Err (record { filter = get_or order at 0; kind = why })
refused_there ds given made order at why r lt refused so_far =
    sym so_far ∙ ap (λ (ks : List ℕ). make_from ds given made ks) (drop-cons order at 0 lt)
    ∙ ap (λ (q : Result Filtered ConfigError). behind made (get_or order at 0) q (λ m. make_from ds given m (drop (suc at) order))) refused

-- ---- open output pads

behind_one : (b : Bool) (o : OpenOut) (os : List OpenOut) → unless_fed b o [] ++ os ≡ unless_fed b o os
behind_one true o os = refl
behind_one false o os = refl

one_on : (q : ℕ) → q + 1 ≡ suc q
one_on q = omega arith

-- the next pad of a filter
pub more_outs : (sources : List (List (Option Pad))) (labels : List (List ℕ)) (k q : ℕ) (hs : List StreamHead) (h : StreamHead) (items now all : List OpenOut)
    → q < length hs → h ≡ get_or hs q h
    → now ≡ items ++ unless_fed (feeds_one sources (record { filter = k; pad = q })) (record { at = record { filter = k; pad = q }; label = slice_get labels q; head = h }) []
    → items ++ outs_at sources labels k q (drop q hs) ≡ all → now ++ outs_at sources labels k (q + 1) (drop (q + 1) hs) ≡ all
more_outs sources labels k q hs h items now all lt is put so_far =
    let pad : Pad = record { filter = k; pad = q } in
    let out : OpenOut = record { at = pad; label = slice_get labels q; head = h } in
    let rest : List OpenOut = outs_at sources labels k (suc q) (drop (suc q) hs) in
    let next : drop q hs ≡ h ∷ drop (suc q) hs = drop-cons hs q h lt ∙ ap (λ (x : StreamHead). x ∷ drop (suc q) hs) (sym is) in
    ap (λ (n : ℕ). now ++ outs_at sources labels k n (drop n hs)) (one_on q)
    ∙ ap (λ (xs : List OpenOut). xs ++ rest) put
    ∙ append_assoc items (unless_fed (feeds_one sources pad) out []) rest
    ∙ ap (λ (xs : List OpenOut). items ++ xs) (behind_one (feeds_one sources pad) out rest)
    ∙ ap (λ (xs : List StreamHead). items ++ outs_at sources labels k q xs) (sym next)
    ∙ so_far
