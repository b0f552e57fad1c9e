-- The open input pads of a drawing: each stands once, and nothing feeds it.
use Rattle.std.proofs.Common.{◌≡◌, ℕ, zero, suc, ◌+◌, ◌<◌, Bool, true, false, List, [], ◌∷◌, ◌++◌, Option, None, Some, refl, sym, ap, subst, ◌∙◌, arith}
use Rattle.std.specs.Prelude.{slice_get, slice_index_or, cond}
use Rattle.std.specs.List.{AllByRecursion}
use Rattle.std.proofs.lemmas.Bool.Decides.{nat_tests}
use Rattle.ff_frame.specs.declared.head.StreamHead.{StreamHead}
use Rattle.ff_graph_links.specs.declared.pads.drawn.Pad.{Pad}
use Rattle.ff_graph_links.specs.pads.Links.{opens_at, opens_from}
use Rattle.ff_graph_dag.specs.wiring.Flows.{pad_place, same_pad}
use Rattle.ff_graph.specs.Configured.{and_head, head_into, heads_into}
use Rattle.ff_plan_rules.proofs.Lists.{some_same, no_some, all_at, all_more, all_joined}

pub same_self : (p : Pad) → same_pad p p ≡ true
same_self p = grind (arith, nat_tests)

pub same_pads : (p q : Pad) → same_pad p q ≡ true → p ≡ q
same_pads p q e =
    let f : p.filter ≡ q.filter = grind (arith, nat_tests) in
    let g : p.pad ≡ q.pad = grind (arith, nat_tests) in
    ap (λ (n : ℕ). let r : Pad = record { filter = n; pad = p.pad } in r) f ∙ ap (λ (n : ℕ). let r : Pad = record { filter = q.filter; pad = n } in r) g

other_pad : (p q : Pad) → q.pad < p.pad → same_pad p q ≡ false
other_pad p q lt = grind (arith, nat_tests)

other_filter : (p q : Pad) → q.filter < p.filter → same_pad p q ≡ false
other_filter p q lt = grind (arith, nat_tests)

-- ---- each stands once

abbrev AreApart : List Pad → Type 0
AreApart [] = Unit {0}
AreApart (p ∷ ps) = AllByRecursion (λ q. same_pad q p ≡ false) ps × AreApart ps

place_there : (j : ℕ) (p : Pad) (ps : List Pad) → AreApart ps → slice_get ps j ≡ Some p → pad_place ps p ≡ j
place_there j p [] a e = absurd (no_some p e)
place_there zero p (q ∷ ps) a e =
    let same : p ≡ q = sym (some_same q p e) in
    ap (λ (b : Bool). cond b 0 (suc (pad_place ps p))) (subst (λ (r : Pad). same_pad p r ≡ true) same (same_self p))
place_there (suc j) p (q ∷ ps) a e =
    ap (λ (b : Bool). cond b 0 (suc (pad_place ps p))) (all_at (λ (r : Pad). same_pad r q ≡ false) ps j p a.0 e) ∙ ap (λ (n : ℕ). suc n) (place_there j p ps a.1 e)

apart_joined : (k : ℕ) (xs ys : List Pad) → AllByRecursion (λ (p : Pad). p.filter ≡ k) xs → AllByRecursion (λ (p : Pad). k < p.filter) ys → AreApart xs → AreApart ys
    → AreApart (xs ++ ys)
apart_joined k [] ys here above a b = b
apart_joined k (x ∷ xs) ys here above a b = (
  all_joined (λ (q : Pad). same_pad q x ≡ false) xs ys a.0
      (all_more (λ (p : Pad). k < p.filter) (λ (q : Pad). same_pad q x ≡ false) ys (λ q lt. other_filter q x (let is = here.0 in omega (arith, lt, is))) above),
  apart_joined k xs ys here.1 above a.1 b,
)

-- an open input pad of filter k, among those from number i on
record IsAt (k i : ℕ) (ss : List (Option Pad)) (p : Pad) : Type 0 where
  filter : p.filter ≡ k
  number : ℕ
  pad : p.pad ≡ i + number
  open_ : slice_get ss number ≡ Some None

next_at : (k i : ℕ) (s : Option Pad) (ss : List (Option Pad)) (p : Pad) → IsAt k (suc i) ss p → IsAt k i (s ∷ ss) p
next_at k i s ss p a = record { filter = a.filter; number = suc a.number; pad = (let e = a.pad in omega (arith, e)); open_ = a.open_ }

are_at : (k i : ℕ) (ss : List (Option Pad)) → AllByRecursion (IsAt k i ss) (opens_at k i ss)
are_at k i [] = tt
are_at k i (None ∷ ss) = (
  record { filter = refl; number = 0; pad = omega arith; open_ = refl },
  all_more (IsAt k (suc i) ss) (IsAt k i (None ∷ ss)) (opens_at k (suc i) ss) (next_at k i None ss) (are_at k (suc i) ss),
)
are_at k i (Some q ∷ ss) = all_more (IsAt k (suc i) ss) (IsAt k i (Some q ∷ ss)) (opens_at k (suc i) ss) (next_at k i (Some q) ss) (are_at k (suc i) ss)

at_apart : (k i : ℕ) (ss : List (Option Pad)) → AreApart (opens_at k i ss)
at_apart k i [] = tt
at_apart k i (None ∷ ss) = (
  all_more (IsAt k (suc i) ss) (λ (q : Pad). same_pad q (record { filter = k; pad = i }) ≡ false) (opens_at k (suc i) ss)
      (λ q a. other_pad q (record { filter = k; pad = i }) (let e = a.pad in omega (arith, e))) (are_at k (suc i) ss),
  at_apart k (suc i) ss,
)
at_apart k i (Some q ∷ ss) = at_apart k (suc i) ss

-- an open input pad of one of these filters, of which the first has number k
pub record IsOpen (k : ℕ) (sources : List (List (Option Pad))) (p : Pad) : Type 0 where
  pub number : ℕ
  pub filter : p.filter ≡ k + number
  pub unfed : slice_get (slice_index_or sources number []) p.pad ≡ Some None

at_open : (k : ℕ) (ss : List (Option Pad)) (rest : List (List (Option Pad))) (p : Pad) → IsAt k 0 ss p → IsOpen k (ss ∷ rest) p
at_open k ss rest p a = record {
  number = 0;
  filter = (let e = a.filter in omega (arith, e));
  unfed = (let e : a.number ≡ p.pad = (let f = a.pad in omega (arith, f)) in subst (λ (n : ℕ). slice_get ss n ≡ Some None) e a.open_);
}

next_open : (k : ℕ) (ss : List (Option Pad)) (rest : List (List (Option Pad))) (p : Pad) → IsOpen (suc k) rest p → IsOpen k (ss ∷ rest) p
next_open k ss rest p o = record { number = suc o.number; filter = (let e = o.filter in omega (arith, e)); unfed = o.unfed }

pub are_open : (k : ℕ) (sources : List (List (Option Pad))) → AllByRecursion (IsOpen k sources) (opens_from k sources)
are_open k [] = tt
are_open k (ss ∷ rest) =
    all_joined (IsOpen k (ss ∷ rest)) (opens_at k 0 ss) (opens_from (suc k) rest)
    (all_more (IsAt k 0 ss) (IsOpen k (ss ∷ rest)) (opens_at k 0 ss) (at_open k ss rest) (are_at k 0 ss))
    (all_more (IsOpen (suc k) rest) (IsOpen k (ss ∷ rest)) (opens_from (suc k) rest) (next_open k ss rest) (are_open (suc k) rest))

are_apart : (k : ℕ) (sources : List (List (Option Pad))) → AreApart (opens_from k sources)
are_apart k [] = tt
are_apart k (ss ∷ rest) =
    apart_joined k (opens_at k 0 ss) (opens_from (suc k) rest)
    (all_more (IsAt k 0 ss) (λ (p : Pad). p.filter ≡ k) (opens_at k 0 ss) (λ p a. a.filter) (are_at k 0 ss))
    (all_more (IsOpen (suc k) rest) (λ (p : Pad). k < p.filter) (opens_from (suc k) rest) (λ p o. let e = o.filter in omega (arith, e)) (are_open (suc k) rest))
    (at_apart k 0 ss) (are_apart (suc k) rest)

-- the place of an open input pad is where it stands
pub place_is : (sources : List (List (Option Pad))) (j : ℕ) (p : Pad) → slice_get (opens_from 0 sources) j ≡ Some p → pad_place (opens_from 0 sources) p ≡ j
place_is sources j p e = place_there j p (opens_from 0 sources) (are_apart 0 sources) e

-- ---- where each input pad has a head, one that nothing feeds is given one

and_some : (a : Option StreamHead) (b : Option (List StreamHead)) (xs : List StreamHead) → and_head a b ≡ Some xs
    → (h : StreamHead) × (hs : List StreamHead) × (a ≡ Some h) × (b ≡ Some hs)
and_some None b xs e = absurd (no_some xs e)
and_some (Some h) None xs e = absurd (no_some xs e)
and_some (Some h) (Some hs) xs e = (h, hs, refl, refl)

pub given_there : (opens : List Pad) (given : List (Option StreamHead)) (heads : List (List StreamHead)) (k i n : ℕ) (ss : List (Option Pad)) (xs : List StreamHead)
    → heads_into opens given heads k i ss ≡ Some xs → slice_get ss n ≡ Some None
    → (h : StreamHead) × (slice_index_or given (pad_place opens (record { filter = k; pad = i + n })) None ≡ Some h)
given_there opens given heads k i n [] xs e open_ = absurd (no_some None open_)
given_there opens given heads k i zero (s ∷ ss) xs e open_ =
    let both = and_some (head_into opens given heads (record { filter = k; pad = i }) s) (heads_into opens given heads k (suc i) ss) xs e in
    let none : s ≡ None = some_same s None open_ in
    let here : i ≡ i + 0 = omega arith in (
      both.0,
      ap (λ (m : ℕ). slice_index_or given (pad_place opens (record { filter = k; pad = m })) None) (sym here)
          ∙ (ap (λ (t : Option Pad). head_into opens given heads (record { filter = k; pad = i }) t) (sym none) ∙ both.2),
    )
given_there opens given heads k i (suc n) (s ∷ ss) xs e open_ =
    let both = and_some (head_into opens given heads (record { filter = k; pad = i }) s) (heads_into opens given heads k (suc i) ss) xs e in
    let h = given_there opens given heads k (suc i) n ss both.1 both.3 open_ in
    let more : suc i + n ≡ i + suc n = omega arith in
    (h.0, subst (λ (m : ℕ). slice_index_or given (pad_place opens (record { filter = k; pad = m })) None ≡ Some h.0) more h.1)
