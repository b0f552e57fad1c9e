-- The input pads of a drawing that no filter feeds: each once, and no others.
use Rattle.std.proofs.Common.{◌≡◌, ℕ, zero, suc, ◌+◌, List, [], ◌∷◌, length, slice_get, Option, None, Some, refl, ap, sym, ◌∙◌, inl, inr, arith}
use Rattle.ff_graph_links.specs.declared.pads.drawn.Pad.{Pad}
use Rattle.ff_graph_links.specs.pads.Links.{opens_at, opens_from}
use Rattle.ff_graph_dag.specs.wiring.Flows.{source_at}
use Rattle.ff_graph_dag.proofs.WiringLemmas.Tying.{split, front, back}

some_same : {A : Type 0} (x y : A) → Some x ≡ Some y → x ≡ y
some_same x y e = cc

no_some : {A B : Type 0} (x : A) → None ≡ Some x → B
no_some x e = cc

abbrev pub pad_of : ℕ → ℕ → Pad
pad_of k i = record { filter = k; pad = i }

open_at : (k i : ℕ) (ss : List (Option Pad)) (n : ℕ) (p : Pad) → slice_get (opens_at k i ss) n ≡ Some p → (j : ℕ) × (p ≡ pad_of k (i + j)) × (slice_get ss j ≡ Some None)
open_at k i [] n p e = no_some p e
open_at k i (Some s ∷ ss) n p e =
    let h = open_at k (suc i) ss n p e in
    let z : suc i + h.0 ≡ i + suc h.0 = omega arith in
    (suc h.0, h.1 ∙ ap (λ (m : ℕ). pad_of k m) z, h.2)
open_at k i (None ∷ ss) zero p e =
    let z : i ≡ i + 0 = omega arith in
    (0, sym (some_same (pad_of k i) p e) ∙ ap (λ (m : ℕ). pad_of k m) z, refl)
open_at k i (None ∷ ss) (suc n) p e =
    let h = open_at k (suc i) ss n p e in
    let z : suc i + h.0 ≡ i + suc h.0 = omega arith in
    (suc h.0, h.1 ∙ ap (λ (m : ℕ). pad_of k m) z, h.2)

apart_at : (k i : ℕ) (ss : List (Option Pad)) (n m : ℕ) (p q : Pad) → slice_get (opens_at k i ss) n ≡ Some p → slice_get (opens_at k i ss) m ≡ Some q → p.pad ≡ q.pad
    → n ≡ m
apart_at k i [] n m p q e g s = no_some p e
apart_at k i (Some r ∷ ss) n m p q e g s = apart_at k (suc i) ss n m p q e g s
apart_at k i (None ∷ ss) zero zero p q e g s = refl
apart_at k i (None ∷ ss) zero (suc m) p q e g s =
    let h = open_at k (suc i) ss m q g in
    let own : p.pad ≡ i = ap (λ (r : Pad). r.pad) (sym (some_same (pad_of k i) p e)) in
    let other : q.pad ≡ suc i + h.0 = ap (λ (r : Pad). r.pad) h.1 in
    absurd (omega arith)
apart_at k i (None ∷ ss) (suc n) zero p q e g s =
    let h = open_at k (suc i) ss n p e in
    let own : q.pad ≡ i = ap (λ (r : Pad). r.pad) (sym (some_same (pad_of k i) q g)) in
    let other : p.pad ≡ suc i + h.0 = ap (λ (r : Pad). r.pad) h.1 in
    absurd (omega arith)
apart_at k i (None ∷ ss) (suc n) (suc m) p q e g s = ap (λ (x : ℕ). suc x) (apart_at k (suc i) ss n m p q e g s)

stands_at : (k i : ℕ) (ss : List (Option Pad)) (j : ℕ) → slice_get ss j ≡ Some None → (n : ℕ) × (slice_get (opens_at k i ss) n ≡ Some (pad_of k (i + j)))
stands_at k i [] j e = no_some None e
stands_at k i (Some s ∷ ss) zero e = cc
stands_at k i (Some s ∷ ss) (suc j) e =
    let h = stands_at k (suc i) ss j e in
    let z : suc i + j ≡ i + suc j = omega arith in
    (h.0, h.1 ∙ ap (λ (m : ℕ). Some (pad_of k m)) z)
stands_at k i (None ∷ ss) zero e = let z : i ≡ i + 0 = omega arith in (0, ap (λ (m : ℕ). Some (pad_of k m)) z)
stands_at k i (None ∷ ss) (suc j) e =
    let h = stands_at k (suc i) ss j e in
    let z : suc i + j ≡ i + suc j = omega arith in
    (suc h.0, h.1 ∙ ap (λ (m : ℕ). Some (pad_of k m)) z)

zero_in : (k j : ℕ) → pad_of k (0 + j) ≡ pad_of k j
zero_in k j = let z : 0 + j ≡ j = omega arith in ap (λ (m : ℕ). pad_of k m) z

-- of all filters, the first of which has number k
open_from : (k : ℕ) (sources : List (List (Option Pad))) (n : ℕ) (p : Pad) → slice_get (opens_from k sources) n ≡ Some p
    → (f i : ℕ) × (p ≡ pad_of (k + f) i) × (source_at sources f i ≡ Some None)
open_from k [] n p e = no_some p e
open_from k (ss ∷ rest) n p e = elim (split (opens_at k 0 ss) (opens_from (suc k) rest) n p e) as
    (λ _. (f i : ℕ) × (p ≡ pad_of (k + f) i) × (source_at (ss ∷ rest) f i ≡ Some None)) [
      | inl g ↦
          let h = open_at k 0 ss n p g in
          let z : k ≡ k + 0 = omega arith in
          (0, h.0, h.1 ∙ (zero_in k h.0 ∙ ap (λ (m : ℕ). pad_of m h.0) z), h.2)
      | inr g ↦
          let h = open_from (suc k) rest g.0 p g.2 in
          let z : suc k + h.0 ≡ k + suc h.0 = omega arith in
          (suc h.0, h.1, h.2 ∙ ap (λ (m : ℕ). pad_of m h.1) z, h.3)
    ]

apart_from : (k : ℕ) (sources : List (List (Option Pad))) (n m : ℕ) (p : Pad) → slice_get (opens_from k sources) n ≡ Some p → slice_get (opens_from k sources) m ≡ Some p
    → n ≡ m
apart_from k [] n m p e g = no_some p e
apart_from k (ss ∷ rest) n m p e g = elim (split (opens_at k 0 ss) (opens_from (suc k) rest) n p e) as (λ _. n ≡ m) [
  | inl a ↦ elim (split (opens_at k 0 ss) (opens_from (suc k) rest) m p g) as (λ _. n ≡ m) [
    | inl b ↦ apart_at k 0 ss n m p p a b refl
    | inr b ↦
        let h = open_at k 0 ss n p a in
        let i = open_from (suc k) rest b.0 p b.2 in
        let left : p.filter ≡ k = ap (λ (r : Pad). r.filter) h.1 in
        let right : p.filter ≡ suc k + i.0 = ap (λ (r : Pad). r.filter) i.2 in
        absurd (omega arith)
  ]
  | inr a ↦ elim (split (opens_at k 0 ss) (opens_from (suc k) rest) m p g) as (λ _. n ≡ m) [
    | inl b ↦
        let h = open_at k 0 ss m p b in
        let i = open_from (suc k) rest a.0 p a.2 in
        let left : p.filter ≡ k = ap (λ (r : Pad). r.filter) h.1 in
        let right : p.filter ≡ suc k + i.0 = ap (λ (r : Pad). r.filter) i.2 in
        absurd (omega arith)
    | inr b ↦
        let same : a.0 ≡ b.0 = apart_from (suc k) rest a.0 b.0 p a.2 b.2 in
        let x : n ≡ length (opens_at k 0 ss) + a.0 = a.1 in
        let y : m ≡ length (opens_at k 0 ss) + b.0 = b.1 in
        omega arith
  ]
]

stands_from : (k : ℕ) (sources : List (List (Option Pad))) (f i : ℕ) → source_at sources f i ≡ Some None
    → (n : ℕ) × (slice_get (opens_from k sources) n ≡ Some (pad_of (k + f) i))
stands_from k [] f i e = no_some None e
stands_from k (ss ∷ rest) zero i e =
    let h = stands_at k 0 ss i e in
    let z : k ≡ k + 0 = omega arith in
    (h.0, front (opens_at k 0 ss) (opens_from (suc k) rest) h.0 (pad_of k (0 + i)) h.1 ∙ (ap (λ (r : Pad). Some r) (zero_in k i) ∙ ap (λ (m : ℕ). Some (pad_of m i)) z))
stands_from k (ss ∷ rest) (suc f) i e =
    let h = stands_from (suc k) rest f i e in
    let z : suc k + f ≡ k + suc f = omega arith in
    (length (opens_at k 0 ss) + h.0, back (opens_at k 0 ss) (opens_from (suc k) rest) h.0 ∙ (h.1 ∙ ap (λ (m : ℕ). Some (pad_of m i)) z))

zero_from : (f i : ℕ) → pad_of (0 + f) i ≡ pad_of f i
zero_from f i = let z : 0 + f ≡ f = omega arith in ap (λ (m : ℕ). pad_of m i) z

module _ (sources : List (List (Option Pad))) where
  pub opens_open : (n : ℕ) (p : Pad) → slice_get (opens_from 0 sources) n ≡ Some p → source_at sources p.filter p.pad ≡ Some None
  opens_open n p e =
      let h = open_from 0 sources n p e in
      ap (λ (r : Pad). source_at sources r.filter r.pad) (h.2 ∙ zero_from h.0 h.1) ∙ h.3

  pub opens_once : (n m : ℕ) (p : Pad) → slice_get (opens_from 0 sources) n ≡ Some p → slice_get (opens_from 0 sources) m ≡ Some p → n ≡ m
  opens_once n m p e g = apart_from 0 sources n m p e g

  pub opens_all : (p : Pad) → source_at sources p.filter p.pad ≡ Some None → (n : ℕ) × (slice_get (opens_from 0 sources) n ≡ Some p)
  opens_all p e =
      let h = stands_from 0 sources p.filter p.pad e in
      (h.0, h.1 ∙ ap (λ (r : Pad). Some r) (zero_from p.filter p.pad))
