-- What graphs whose labels have no fault give and take: each given label once.
use Rattle.std.proofs.Common.{◌≡◌, ℕ, zero, suc, ◌+◌, ◌<◌, ◌≤◌, ◌&&◌, ◌||◌, Bool, true, false, not, cond, List, [], ◌∷◌, ◌++◌, length, Option, Some, None, refl, sym, ap, ◌∙◌, subst, arith, append_assoc}
use Rattle.std.specs.Prelude.{slice_get, nat_lt}
use Rattle.std.specs.List.{find, flat_map, position_or_len}
use Rattle.std.specs.Str.{bytes_eq}
use Rattle.std.proofs.lemmas.Bool.Decides.{nat_tests}
use Rattle.ff_lang.specs.declared.graph.Filter.{Filter}
use Rattle.ff_lang.specs.declared.graph.Graph.{Graph}
use Rattle.ff_stream.specs.edges.Ports.{tally}
use Rattle.ff_graph_links.specs.declared.labels.fault.LabelFault.{LabelFault}
use Rattle.ff_graph_links.specs.declared.labels.fault.LabelFault.TheVariants as label_fault
use Rattle.ff_graph_links.specs.labels.Labels.{is_one_of, filters_of, ins_of, outs_of, taken_in, given_in}
use Rattle.ff_graph_links.specs.labels.Names.{or_else, where_so, twice, unknown_label, filter_fault, filters_fault, graphs_fault, all_given, own_fault, twice_in, labels_fault as names_fault}
use Rattle.ff_plan_layout.specs.declared.error.PlanError.TheVariants as fault
use Rattle.ff_graph_links.specs.labels.Clear.{IsClear}
use Rattle.ff_plan_layout.specs.Labels.{giver, refused, refusal_of}
use Rattle.ff_plan_layout.specs.LaidOut.{unused_of}
use Rattle.ff_plan_layout.proofs.Among.{never}
use Rattle.ff_plan_layout.proofs.Counts.{tally_joined, tally_any, tally_not_any, any_tally, not_any_tally, same_text}
use Rattle.ff_plan_layout.proofs.Kept.{nothing, same_some}
use Rattle.ff_plan_layout.proofs.Tests.{hit, miss, tally_hit}

-- ---- no fault

no_first : (o p : Option LabelFault) → or_else o p ≡ None → o ≡ None
no_first None p h = refl
no_first (Some e) p h = h

no_second : (o p : Option LabelFault) → or_else o p ≡ None → p ≡ None
no_second None p h = h
no_second (Some e) p h = absurd (nothing e (sym h))

not_so : (b : Bool) (e : LabelFault) → where_so b e ≡ None → b ≡ false
not_so true e h = absurd (nothing e (sym h))
not_so false e h = refl

pub no_refusal : (o : Option LabelFault) → refused o ≡ None → o ≡ None
no_refusal None h = refl
no_refusal (Some e) h = absurd (nothing (refusal_of e) (sym h))

-- ---- a label that stands once

on_left : (a b : Bool) → a ≡ true → (a && b) ≡ false → b ≡ false
on_left true b e h = h
on_left false b e h = absurd (never e)

module _ (label : List ℕ) where
  abbrev pub often : List (List ℕ) → ℕ
  often ls = tally (bytes_eq label) ls

  twice_few : (all : Bool) (given before labels : List (List ℕ)) → (all || is_one_of label given) ≡ true → twice all given before labels ≡ None → often before ≤ 1 → often (before ++ labels) ≤ 1
  twice_few all given before [] counts h few = (let j = tally_joined (bytes_eq label) before [] in omega (arith, j, few))
  twice_few all given before (l ∷ ls) counts h few =
      let first = not_so ((all || is_one_of l given) && is_one_of l before) (label_fault.LabelTwice l) (no_first _ (twice all given (before ++ l ∷ []) ls) h) in
      let rest = twice_few all given (before ++ l ∷ []) ls counts (no_second (where_so ((all || is_one_of l given) && is_one_of l before) (label_fault.LabelTwice l)) _ h) in
      let here : often (before ++ l ∷ []) ≤ 1 = step (bytes_eq label l) refl first in
      subst (λ (k : List (List ℕ)). often k ≤ 1) (append_assoc before (l ∷ []) ls) (rest here) where
        step : (b : Bool) → bytes_eq label l ≡ b → ((all || is_one_of l given) && is_one_of l before) ≡ false → often (before ++ l ∷ []) ≤ 1
        step true e off =
            let same : label ≡ l = same_text label l e in
            let new : is_one_of label before ≡ false = on_left (all || is_one_of label given) (is_one_of label before) counts (subst (λ (t : List ℕ). ((all || is_one_of t given) && is_one_of t before) ≡ false) (sym same) off) in
            let none = tally_not_any (bytes_eq label) before new in
            let j = tally_joined (bytes_eq label) before (l ∷ []) in
            let one = tally_hit (bytes_eq label) l [] e in
            omega (arith, none, j, one)
        step false e off =
            let j = tally_joined (bytes_eq label) before (l ∷ []) in
            let zero_ : often (l ∷ []) ≡ 0 = ap (λ (b : Bool). cond b 1 0) e in
            omega (arith, j, zero_, few)

  module _ (known stream : List ℕ → Bool) (given : List (List ℕ)) where
    outs_few : (g f : ℕ) (ins outs : List (List ℕ)) (fs : List Filter) → filters_fault known stream given g f ins outs fs ≡ None → often outs ≤ 1 → often (outs ++ outs_of fs) ≤ 1
    outs_few g f ins outs [] h few = (let j = tally_joined (bytes_eq label) outs [] in omega (arith, j, few))
    outs_few g f ins outs (x ∷ xs) h few =
        let here = no_first (filter_fault known stream given g f ins outs x) (filters_fault known stream given g (f + 1) (ins ++ x.ins) (outs ++ x.outs) xs) h in
        let rest = no_second (filter_fault known stream given g f ins outs x) (filters_fault known stream given g (f + 1) (ins ++ x.ins) (outs ++ x.outs) xs) h in
        let two = no_second (unknown_label stream given x.ins) (or_else (twice false given ins x.ins) (twice true given outs x.outs)) (no_second (where_so (not (known x.name)) (label_fault.UnknownFilter g f)) (or_else (unknown_label stream given x.ins) (or_else (twice false given ins x.ins) (twice true given outs x.outs))) here) in
        let own = twice_few true given outs x.outs refl (no_second (twice false given ins x.ins) (twice true given outs x.outs) two) few in
        subst (λ (k : List (List ℕ)). often k ≤ 1) (append_assoc outs x.outs (outs_of xs)) (outs_few g (f + 1) (ins ++ x.ins) (outs ++ x.outs) xs rest own)

    ins_few : (g f : ℕ) (ins outs : List (List ℕ)) (fs : List Filter) → is_one_of label given ≡ true → filters_fault known stream given g f ins outs fs ≡ None → often ins ≤ 1 → often (ins ++ ins_of fs) ≤ 1
    ins_few g f ins outs [] is h few = (let j = tally_joined (bytes_eq label) ins [] in omega (arith, j, few))
    ins_few g f ins outs (x ∷ xs) is h few =
        let here = no_first (filter_fault known stream given g f ins outs x) (filters_fault known stream given g (f + 1) (ins ++ x.ins) (outs ++ x.outs) xs) h in
        let rest = no_second (filter_fault known stream given g f ins outs x) (filters_fault known stream given g (f + 1) (ins ++ x.ins) (outs ++ x.outs) xs) h in
        let two = no_second (unknown_label stream given x.ins) (or_else (twice false given ins x.ins) (twice true given outs x.outs)) (no_second (where_so (not (known x.name)) (label_fault.UnknownFilter g f)) (or_else (unknown_label stream given x.ins) (or_else (twice false given ins x.ins) (twice true given outs x.outs))) here) in
        let own = twice_few false given ins x.ins is (no_first (twice false given ins x.ins) (twice true given outs x.outs) two) few in
        subst (λ (k : List (List ℕ)). often k ≤ 1) (append_assoc ins x.ins (ins_of xs)) (ins_few g (f + 1) (ins ++ x.ins) (outs ++ x.outs) xs is rest own)

    all_outs_few : (n : ℕ) (ins outs : List (List ℕ)) (gs : List Graph) → graphs_fault known stream given n ins outs gs ≡ None → often outs ≤ 1 → often (outs ++ flat_map given_in gs) ≤ 1
    all_outs_few n ins outs [] h few = (let j = tally_joined (bytes_eq label) outs [] in omega (arith, j, few))
    all_outs_few n ins outs (g ∷ gs) h few =
        let own = outs_few n 0 ins outs (filters_of g) (no_first (filters_fault known stream given n 0 ins outs (filters_of g)) (graphs_fault known stream given (n + 1) (ins ++ taken_in g) (outs ++ given_in g) gs) h) few in
        let rest = no_second (filters_fault known stream given n 0 ins outs (filters_of g)) (graphs_fault known stream given (n + 1) (ins ++ taken_in g) (outs ++ given_in g) gs) h in
        subst (λ (k : List (List ℕ)). often k ≤ 1) (append_assoc outs (given_in g) (flat_map given_in gs)) (all_outs_few (n + 1) (ins ++ taken_in g) (outs ++ given_in g) gs rest own)

    all_ins_few : (n : ℕ) (ins outs : List (List ℕ)) (gs : List Graph) → is_one_of label given ≡ true → graphs_fault known stream given n ins outs gs ≡ None → often ins ≤ 1 → often (ins ++ flat_map taken_in gs) ≤ 1
    all_ins_few n ins outs [] is h few = (let j = tally_joined (bytes_eq label) ins [] in omega (arith, j, few))
    all_ins_few n ins outs (g ∷ gs) is h few =
        let own = ins_few n 0 ins outs (filters_of g) is (no_first (filters_fault known stream given n 0 ins outs (filters_of g)) (graphs_fault known stream given (n + 1) (ins ++ taken_in g) (outs ++ given_in g) gs) h) few in
        let rest = no_second (filters_fault known stream given n 0 ins outs (filters_of g)) (graphs_fault known stream given (n + 1) (ins ++ taken_in g) (outs ++ given_in g) gs) h in
        subst (λ (k : List (List ℕ)). often k ≤ 1) (append_assoc ins (taken_in g) (flat_map taken_in gs)) (all_ins_few (n + 1) (ins ++ taken_in g) (outs ++ given_in g) gs is rest own)

  pub part_few : (f : Graph → List (List ℕ)) (gs : List Graph) (g : ℕ) (text : Graph) → slice_get gs g ≡ Some text → often (f text) ≤ often (flat_map f gs)
  part_few f [] g text at = absurd (nothing text at)
  part_few f (x ∷ xs) zero text at =
      let j = tally_joined (bytes_eq label) (f x) (flat_map f xs) in
      let same : often (f x) ≡ often (f text) = ap (λ (t : Graph). often (f t)) (same_some x text at) in
      omega (arith, j, same)
  part_few f (x ∷ xs) (suc g) text at = (let j = tally_joined (bytes_eq label) (f x) (flat_map f xs) in let r = part_few f xs g text at in omega (arith, j, r))

  -- the graph that gives it is the only one
  giver_place : (gs : List Graph) (g : ℕ) (text : Graph) → slice_get gs g ≡ Some text → is_one_of label (given_in text) ≡ true → often (flat_map given_in gs) ≤ 1
      → (position_or_len (λ x. is_one_of label (given_in x)) gs ≡ g) × (g < length gs)
  giver_place [] g text at h few = absurd (nothing text at)
  giver_place (x ∷ xs) zero text at h few =
      (hit (λ (y : Graph). is_one_of label (given_in y)) x xs (subst (λ (t : Graph). is_one_of label (given_in t) ≡ true) (sym (same_some x text at)) h), omega arith)
  giver_place (x ∷ xs) (suc g) text at h few =
      let j = tally_joined (bytes_eq label) (given_in x) (flat_map given_in xs) in
      let rest = giver_place xs g text at h (omega (arith, j, few)) in
      let there = tally_any (bytes_eq label) (given_in text) h in
      let part = part_few given_in xs g text at in
      let none : often (given_in x) ≡ 0 = omega (arith, j, few, there, part) in
      let off = not_any_tally (bytes_eq label) (given_in x) none in
      let m = miss (λ (y : Graph). is_one_of label (given_in y)) x xs off in
      let at_ = rest.0 in let lt = rest.1 in
      (omega (arith, m, at_), omega (arith, lt))

  pub giver_is : (gs : List Graph) (g : ℕ) (text : Graph) → slice_get gs g ≡ Some text → is_one_of label (given_in text) ≡ true → often (flat_map given_in gs) ≤ 1 → giver gs label ≡ Some g
  giver_is gs g text at h few =
      let r = giver_place gs g text at h few in
      let place_ = position_or_len (λ x. is_one_of label (given_in x)) gs in
      let e = r.0 in let lt = r.1 in
      let on : nat_lt place_ (length gs) ≡ true = grind (arith, nat_tests, e, lt) in
      ap (λ (b : Bool). cond b (Some place_) None) on ∙ ap (λ (k : ℕ). Some k) e

  pub given_among : (gs : List Graph) (g : ℕ) (text : Graph) → slice_get gs g ≡ Some text → is_one_of label (given_in text) ≡ true → is_one_of label (flat_map given_in gs) ≡ true
  given_among gs g text at h = any_tally (bytes_eq label) (flat_map given_in gs) (let t = tally_any (bytes_eq label) (given_in text) h in let p = part_few given_in gs g text at in omega (arith, t, p))

module _ (known stream : List ℕ → Bool) (graphs : List Graph) (fine : names_fault known stream graphs ≡ None) where
  pub given_once : (label : List ℕ) → often label (flat_map given_in graphs) ≤ 1
  given_once label = all_outs_few label known stream (all_given graphs) 0 [] [] graphs fine (omega arith)

  pub taken_once : (label : List ℕ) → is_one_of label (flat_map given_in graphs) ≡ true → often label (flat_map taken_in graphs) ≤ 1
  taken_once label is = all_ins_few label known stream (all_given graphs) 0 [] [] graphs is fine (omega arith)

  pub clear : (g : ℕ) (text : Graph) → slice_get graphs g ≡ Some text → IsClear text
  clear g text at = λ label is.
      (let a = given_once label in let b = taken_once label (given_among label graphs g text at is) in
      let c = part_few label given_in graphs g text at in let d = part_few label taken_in graphs g text at in
      (omega (arith, a, c), omega (arith, b, d)))

-- ---- a simple graph

module _ (label : List ℕ) where
  own_outs_few : (ins outs : List (List ℕ)) (fs : List Filter) → twice_in ins outs fs ≡ None → often label outs ≤ 1 → often label (outs ++ outs_of fs) ≤ 1
  own_outs_few ins outs [] h few = (let j = tally_joined (bytes_eq label) outs [] in omega (arith, j, few))
  own_outs_few ins outs (x ∷ xs) h few =
      let here = no_first (own_fault ins outs x) (twice_in (ins ++ x.ins) (outs ++ x.outs) xs) h in
      let rest = no_second (own_fault ins outs x) (twice_in (ins ++ x.ins) (outs ++ x.outs) xs) h in
      let own = twice_few label true [] outs x.outs refl (no_second (twice true [] ins x.ins) (twice true [] outs x.outs) here) few in
      subst (λ (k : List (List ℕ)). often label k ≤ 1) (append_assoc outs x.outs (outs_of xs)) (own_outs_few (ins ++ x.ins) (outs ++ x.outs) xs rest own)

  own_ins_few : (ins outs : List (List ℕ)) (fs : List Filter) → twice_in ins outs fs ≡ None → often label ins ≤ 1 → often label (ins ++ ins_of fs) ≤ 1
  own_ins_few ins outs [] h few = (let j = tally_joined (bytes_eq label) ins [] in omega (arith, j, few))
  own_ins_few ins outs (x ∷ xs) h few =
      let here = no_first (own_fault ins outs x) (twice_in (ins ++ x.ins) (outs ++ x.outs) xs) h in
      let rest = no_second (own_fault ins outs x) (twice_in (ins ++ x.ins) (outs ++ x.outs) xs) h in
      let own = twice_few label true [] ins x.ins refl (no_first (twice true [] ins x.ins) (twice true [] outs x.outs) here) few in
      subst (λ (k : List (List ℕ)). often label k ≤ 1) (append_assoc ins x.ins (ins_of xs)) (own_ins_few (ins ++ x.ins) (outs ++ x.outs) xs rest own)

pub own_clear : (g : Graph) → twice_in [] [] (filters_of g) ≡ None → IsClear g
own_clear g h = λ label is. (own_outs_few label [] [] (filters_of g) h (omega arith), own_ins_few label [] [] (filters_of g) h (omega arith))

-- ---- each given label is used

pub no_unused : (used given : List (List ℕ)) → unused_of (find (λ l. not (is_one_of l used)) given) ≡ None → (label : List ℕ) → is_one_of label given ≡ true → is_one_of label used ≡ true
no_unused used [] h label is = absurd (never is)
no_unused used (l ∷ ls) h label is = step (is_one_of l used) refl h (λ k j. no_unused used ls k label j) where
  first : is_one_of l used ≡ true → (b : Bool) → bytes_eq label l ≡ b → (b || is_one_of label ls) ≡ true → (is_one_of label ls ≡ true → is_one_of label used ≡ true) → is_one_of label used ≡ true
  first on true e k rest = subst (λ (t : List ℕ). is_one_of t used ≡ true) (sym (same_text label l e)) on
  first on false e k rest = rest k

  step : (b : Bool) → is_one_of l used ≡ b → unused_of (cond (not b) (Some l) (find (λ t. not (is_one_of t used)) ls)) ≡ None
      → (unused_of (find (λ t. not (is_one_of t used)) ls) ≡ None → is_one_of label ls ≡ true → is_one_of label used ≡ true) → is_one_of label used ≡ true
  step true e k more = first e (bytes_eq label l) refl is (λ j. more k j)
  step false e k more = absurd (nothing (fault.UnusedLabel l) (sym k))
