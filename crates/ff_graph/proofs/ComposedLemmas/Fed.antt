-- Which output pads feed an input pad.
use Rattle.std.proofs.Common.{◌≡◌, ℕ, zero, suc, ◌==◌, ◌&&◌, ◌||◌, Bool, true, false, List, [], ◌∷◌, slice_get, Option, None, Some}
use Rattle.std.proofs.Common.{refl, ap, sym, ◌∙◌, ◌⊎◌, inl, inr}
use Rattle.std.specs.List.{list_any}
use Rattle.ff_graph_links.specs.declared.pads.drawn.Pad.{Pad}
use Rattle.ff_graph.specs.Configured.{is_pad, feeds_one}
use Rattle.ff_graph_dag.specs.wiring.Flows.{source_at, same_pad}
use Rattle.ff_graph.proofs.ComposedLemmas.Elements.{some_same, no_some, or_got, or_none, there_or_not, both, is_it, it_is}

abbrev pub pad_of : ℕ → ℕ → Pad
pad_of k i = record { filter = k; pad = i }

any_at : {A : Type 0} (test : A → Bool) (xs : List A) → list_any test xs ≡ true → (k : ℕ) × (x : A) × (slice_get xs k ≡ Some x) × (test x ≡ true)
any_at test [] e = cc
any_at {A = A} test (x ∷ xs) e = at (test x) refl e (λ h. any_at test xs h)
  where
    at : (b : Bool) → test x ≡ b → (b || list_any test xs) ≡ true
        → (list_any test xs ≡ true → (k : ℕ) × (y : A) × (slice_get xs k ≡ Some y) × (test y ≡ true))
        → (k : ℕ) × (y : A) × (slice_get (x ∷ xs) k ≡ Some y) × (test y ≡ true)
    at true t h on = (0, x, refl, t)
    at false t h on = let more = on h in (suc more.0, more.1, more.2, more.3)

any_here : {A : Type 0} (test : A → Bool) (xs : List A) (k : ℕ) (x : A) → slice_get xs k ≡ Some x → test x ≡ true → list_any test xs ≡ true
any_here test [] k x e t = no_some x e
any_here test (y ∷ xs) zero x e t = (let h : test y ≡ true = ap test (some_same y x e) ∙ t in ap (λ (b : Bool). b || list_any test xs) h)
any_here test (y ∷ xs) (suc k) x e t = or_true (test y) (list_any test xs) (any_here test xs k x e t)
  where
    or_true : (a b : Bool) → b ≡ true → (a || b) ≡ true
    or_true true b h = refl
    or_true false b h = h

the_pad : (p q : Pad) → same_pad p q ≡ true → p ≡ q
the_pad p q e =
    let h = both (p.filter == q.filter) (p.pad == q.pad) e in
    let x : p.filter ≡ q.filter = is_it p.filter q.filter h.0 in
    let y : p.pad ≡ q.pad = is_it p.pad q.pad h.1 in
    λ j. record { filter = x j; pad = y j }

is_the : (p : Pad) (s : Option Pad) → is_pad p s ≡ true → s ≡ Some p
is_the p None e = cc
is_the p (Some q) e = ap (λ (r : Pad). Some r) (sym (the_pad p q e))

itself : (p : Pad) → is_pad p (Some p) ≡ true
itself p = ap (λ (b : Bool). b && (p.pad == p.pad)) (it_is p.filter p.filter refl) ∙ it_is p.pad p.pad refl

pub feeds : (sources : List (List (Option Pad))) (p : Pad) → feeds_one sources p ≡ true → (f i : ℕ) × (source_at sources f i ≡ Some (Some p))
feeds sources p e =
    let row = any_at (λ (ss : List (Option Pad)). list_any (is_pad p) ss) sources e in
    let one = any_at (is_pad p) row.1 row.3 in (
      row.0,
      one.0,
      ap (λ (ss : List (Option Pad)). slice_get ss one.0) (or_got sources row.0 [] row.1 row.2) ∙ one.2 ∙ ap (λ (s : Option Pad). Some s) (is_the p one.1 one.3),
    )

pub is_fed : (sources : List (List (Option Pad))) (p : Pad) (f i : ℕ) → source_at sources f i ≡ Some (Some p) → feeds_one sources p ≡ true
is_fed sources p f i e = at (there_or_not (slice_get sources f))
  where
    at : (slice_get sources f ≡ None) ⊎ ((ss : List (Option Pad)) × (slice_get sources f ≡ Some ss)) → feeds_one sources p ≡ true
    at (inl none) = no_some (Some p) (sym (ap (λ (ss : List (Option Pad)). slice_get ss i) (or_none sources f [] none)) ∙ e)
    at (inr h) =
        any_here (λ (ss : List (Option Pad)). list_any (is_pad p) ss) sources f h.0 h.1
        (any_here (is_pad p) h.0 i (Some p) (sym (ap (λ (ss : List (Option Pad)). slice_get ss i) (or_got sources f [] h.0 h.1)) ∙ e) (itself p))
