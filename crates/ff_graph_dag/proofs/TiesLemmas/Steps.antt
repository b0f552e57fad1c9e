-- One more edge, one more filter.
use Rattle.std.proofs.Common.{◌≡◌, ◌≢◌, ℕ, zero, suc, ◌+◌, ◌<◌, ◌≤◌, ◌==◌, ◌||◌, Bool, true, false, List, [], ◌∷◌, ◌++◌, length, slice_get, slice_set, cond, ◌⊎◌, inl, inr, Option, None, Some, refl, ap, sym, ◌∙◌, arith}
use Rattle.std.proofs.lemmas.Bool.Decides.{nat_tests}
use Rattle.std.specs.declared.vec.Vec.{Vec}
use Rattle.ff_graph_dag.specs.declared.graph.Port.{Port}
use Rattle.ff_graph_dag.specs.declared.graph.Wire.{Wire}
use Rattle.ff_graph_dag.specs.laws.Graphs.{among}
use Rattle.ff_graph_dag.specs.laws.ties.Tied.{is_needed, wire_needed, ways_at, with_start, with_feeder, IsUpward}

or_assoc : (a b c : Bool) → (a || (b || c)) ≡ ((a || b) || c)
or_assoc true b c = refl
or_assoc false b c = refl

or_false : (b : Bool) → (b || false) ≡ b
or_false true = refl
or_false false = refl

among_more : (ws : List ℕ) (e w : ℕ) → among (ws ++ e ∷ []) w ≡ (among ws w || (e == w))
among_more [] e w = or_false (e == w)
among_more (v ∷ ws) e w = ap (λ (b : Bool). (v == w) || b) (among_more ws e w) ∙ or_assoc (v == w) (among ws w) (e == w)

not_same : (e w : ℕ) → e ≢ w → (e == w) ≡ false
not_same e w n = grind (arith, nat_tests)

module _ (needed : List Bool) (wires : List Wire) (ws : List ℕ) (e top : ℕ) (y : Wire) (next : top ≡ suc e) (here : slice_get wires e ≡ Some y)
    (above : (w : ℕ) → top ≤ w → among ws w ≡ wire_needed needed (slice_get wires w)) (below : (w : ℕ) → w < top → among ws w ≡ false) where
  own : wire_needed needed (slice_get wires e) ≡ is_needed needed y.to.filter
  own = ap (λ (o : Option Wire). wire_needed needed o) here

  -- the edge is on the way
  pub more_above : (now : List ℕ) → now ≡ ws ++ e ∷ [] → is_needed needed y.to.filter ≡ true → (w : ℕ) → e ≤ w → among now w ≡ wire_needed needed (slice_get wires w)
  more_above now push on w le = ap (λ (us : List ℕ). among us w) push ∙ (among_more ws e w ∙ at (e == w) refl)
    where
      at : (b : Bool) → (e == w) ≡ b → (among ws w || (e == w)) ≡ wire_needed needed (slice_get wires w)
      at true q =
          let is : e ≡ w = grind (arith, nat_tests) in
          let was : among ws w ≡ false = below w (omega arith) in
          rw (was, q) (sym (ap (λ (v : ℕ). wire_needed needed (slice_get wires v)) (sym is) ∙ (own ∙ on)))
      at false q =
          let other : e ≢ w = grind (arith, nat_tests) in
          rw q (or_false (among ws w) ∙ above w (omega arith))

  pub more_below : (now : List ℕ) → now ≡ ws ++ e ∷ [] → (w : ℕ) → w < e → among now w ≡ false
  more_below now push w lt =
      let other : (e == w) ≡ false = not_same e w (λ k. absurd (omega arith)) in
      ap (λ (us : List ℕ). among us w) push ∙ (among_more ws e w ∙ rw (below w (omega arith), other) refl)

  -- the edge isn't on the way
  pub less_above : is_needed needed y.to.filter ≡ false → (w : ℕ) → e ≤ w → among ws w ≡ wire_needed needed (slice_get wires w)
  less_above off w le = at (e == w) refl
    where
      at : (b : Bool) → (e == w) ≡ b → among ws w ≡ wire_needed needed (slice_get wires w)
      at true q =
          let is : e ≡ w = grind (arith, nat_tests) in
          below w (omega arith) ∙ sym (ap (λ (v : ℕ). wire_needed needed (slice_get wires v)) (sym is) ∙ (own ∙ off))
      at false q =
          let other : e ≢ w = grind (arith, nat_tests) in
          above w (omega arith)

-- one more way
pub ways_old : {A : Type 0} (vs : List (Vec ℕ A)) (v : Vec ℕ A) (j : ℕ) → j < length vs → ways_at (vs ++ v ∷ []) j ≡ ways_at vs j
ways_old [] v j lt = absurd (omega arith)
ways_old (u ∷ vs) v zero lt = refl
ways_old (u ∷ vs) v (suc j) lt = ways_old vs v j (omega arith)

pub ways_last : {A : Type 0} (vs : List (Vec ℕ A)) (v : Vec ℕ A) (j : ℕ) → length vs ≡ j → ways_at (vs ++ v ∷ []) j ≡ v.items
ways_last [] v zero e = refl
ways_last [] v (suc j) e = absurd (omega arith)
ways_last (u ∷ vs) v zero e = absurd (omega arith)
ways_last (u ∷ vs) v (suc j) e = ways_last vs v j (omega arith)

pub one_longer : {B : Type 0} (xs : List B) (x : B) → length (xs ++ x ∷ []) ≡ length xs + 1
one_longer [] x = refl
one_longer (y ∷ xs) x = let h : length (xs ++ x ∷ []) ≡ length xs + 1 = one_longer xs x in omega arith

-- the needed filters ------------------------------------------------------------------------------------------------

pub set_here : (bs : List Bool) (k : ℕ) → k < length bs → is_needed (slice_set bs k true) k ≡ true
set_here [] k lt = absurd (omega arith)
set_here (b ∷ bs) zero lt = refl
set_here (b ∷ bs) (suc k) lt = set_here bs k (omega arith)

set_other : (bs : List Bool) (k j : ℕ) → j ≢ k → is_needed (slice_set bs k true) j ≡ is_needed bs j
set_other [] k j n = refl
set_other (b ∷ bs) zero zero n = absurd (n refl)
set_other (b ∷ bs) zero (suc j) n = refl
set_other (b ∷ bs) (suc k) zero n = refl
set_other (b ∷ bs) (suc k) (suc j) n = set_other bs k j (λ e. n (ap (λ (i : ℕ). suc i) e))

set_keeps : (bs : List Bool) (k j : ℕ) → is_needed bs j ≡ true → is_needed (slice_set bs k true) j ≡ true
set_keeps [] k j e = e
set_keeps (b ∷ bs) zero zero e = refl
set_keeps (b ∷ bs) zero (suc j) e = e
set_keeps (b ∷ bs) (suc k) zero e = e
set_keeps (b ∷ bs) (suc k) (suc j) e = set_keeps bs k j e

pub set_size : (bs : List Bool) (k : ℕ) → length (slice_set bs k true) ≡ length bs
set_size [] k = refl
set_size (b ∷ bs) zero = refl
set_size (b ∷ bs) (suc k) = ap (λ (n : ℕ). suc n) (set_size bs k)

needed_below : (bs : List Bool) (k : ℕ) → is_needed bs k ≡ true → k < length bs
needed_below [] k e = cc
needed_below (b ∷ bs) zero e = omega arith
needed_below (b ∷ bs) (suc k) e = let h : k < length bs = needed_below bs k e in omega arith

some_same : {A : Type 0} (x y : A) → Some x ≡ Some y → x ≡ y
some_same x y e = cc

start_keeps : (bs : List Bool) (o : Option Port) (j : ℕ) → is_needed bs j ≡ true → is_needed (with_start bs o) j ≡ true
start_keeps bs None j e = e
start_keeps bs (Some g) j e = set_keeps bs g.filter j e

pub feeder_keeps : (bs : List Bool) (x : Wire) (j : ℕ) → is_needed bs j ≡ true → is_needed (with_feeder bs x) j ≡ true
feeder_keeps bs x j e = at (is_needed bs x.to.filter)
  where
    at : (b : Bool) → is_needed (cond b (with_start bs x.from) bs) j ≡ true
    at true = start_keeps bs x.from j e
    at false = e

-- what feeds a needed filter is needed, for the edges from this one on
abbrev pub ClosedAbove : List Wire → List Bool → ℕ → Type 0
ClosedAbove ws bs e = (w : ℕ) (x : Wire) (g : Port) → e ≤ w → slice_get ws w ≡ Some x → is_needed bs x.to.filter ≡ true → x.from ≡ Some g → is_needed bs g.filter ≡ true

module _ (ws : List Wire) (up : IsUpward ws) (bs : List Bool) (top e : ℕ) (y : Wire) (next : top ≡ suc e) (here : slice_get ws e ≡ Some y)
    (was : ClosedAbove ws bs top) where
  -- the edge itself, or a later one
  split : (w : ℕ) (x : Wire) → e ≤ w → slice_get ws w ≡ Some x → (x ≡ y) ⊎ (top ≤ w)
  split w x le gx = at (e == w) refl
    where
      at : (b : Bool) → (e == w) ≡ b → (x ≡ y) ⊎ (top ≤ w)
      at true q =
          let is : e ≡ w = grind (arith, nat_tests) in
          inl (some_same x y (sym gx ∙ (ap (λ (v : ℕ). slice_get ws v) (sym is) ∙ here)))
      at false q = let other : e ≢ w = grind (arith, nat_tests) in inr (omega arith)

  none_more : is_needed bs y.to.filter ≡ false → ClosedAbove ws bs e
  none_more off w x g le gx n fr = elim (split w x le gx) as (λ _. is_needed bs g.filter ≡ true) [
    | inl s ↦ let no : true ≡ false = sym n ∙ (ap (λ (z : Wire). is_needed bs z.to.filter) s ∙ off) in cc
    | inr l ↦ was w x g l gx n fr
  ]

  bare_more : y.from ≡ None → ClosedAbove ws bs e
  bare_more bare w x g le gx n fr = elim (split w x le gx) as (λ _. is_needed bs g.filter ≡ true) [
    | inl s ↦ let no : Some g ≡ None = sym fr ∙ (ap (λ (z : Wire). z.from) s ∙ bare) in cc
    | inr l ↦ was w x g l gx n fr
  ]

  one_more : (h : Port) → y.from ≡ Some h → is_needed bs y.to.filter ≡ true → ClosedAbove ws (slice_set bs h.filter true) e
  one_more h from on w x g le gx n fr =
      let first : h.filter < y.to.filter = up e e y y h (omega arith) here here from in
      let below : h.filter < x.to.filter = up e w y x h le here gx from in
      let there : h.filter < length bs = let l : y.to.filter < length bs = needed_below bs y.to.filter on in omega arith in
      let old : is_needed bs x.to.filter ≡ true = sym (set_other bs h.filter x.to.filter (λ k. absurd (omega (arith, k, below)))) ∙ n in
      elim (split w x le gx) as (λ _. is_needed (slice_set bs h.filter true) g.filter ≡ true) [
        | inl s ↦
            let same : g ≡ h = some_same g h (sym fr ∙ (ap (λ (z : Wire). z.from) s ∙ from)) in
            ap (λ (f : Port). is_needed (slice_set bs h.filter true) f.filter) same ∙ set_here bs h.filter there
        | inr l ↦ set_keeps bs h.filter g.filter (was w x g l gx old fr)
      ]

  pub closed_more : ClosedAbove ws (with_feeder bs y) e
  closed_more = at (is_needed bs y.to.filter) refl
    where
      start : (o : Option Port) → y.from ≡ o → is_needed bs y.to.filter ≡ true → ClosedAbove ws (with_start bs o) e
      start None k on = bare_more k
      start (Some h) k on = one_more h k on

      at : (b : Bool) → is_needed bs y.to.filter ≡ b → ClosedAbove ws (cond b (with_start bs y.from) bs) e
      at true k = start y.from refl k
      at false k = none_more k

pub feeder_size : (bs : List Bool) (x : Wire) → length (with_feeder bs x) ≡ length bs
feeder_size bs x = at (is_needed bs x.to.filter) x.from
  where
    at : (b : Bool) (o : Option Port) → length (cond b (with_start bs o) bs) ≡ length bs
    at true None = refl
    at true (Some g) = set_size bs g.filter
    at false o = refl
