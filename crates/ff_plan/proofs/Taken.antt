-- What the outputs of any plan take.
use Rattle.std.proofs.Common.{◌≡◌, inl, inr, ℕ, zero, suc, ◌+◌, ◌<◌, ◌≤◌, ◌&&◌, Bool, true, false, not, List, [], ◌∷◌, ◌++◌, map, length, Some, refl, sym, ap, ◌∙◌, subst, arith}
use Rattle.std.proofs.lemmas.Bool.Decides.{nat_tests}
use Rattle.std.specs.Prelude.{Ok, nat_lt, slice_get, slice_index_or}
use Rattle.std.specs.List.{AllByRecursion}
use Rattle.ff_graph_links.specs.labels.Order.{ComeInOrder, graph_order, feeds}
use Rattle.ff_frame.specs.declared.head.StreamHead.{StreamHead}
use Rattle.ff_words.specs.declared.job.Job.{Job}
use Rattle.ff_words.specs.declared.job.OutputJob.{OutputJob}
use Rattle.ff_plan.specs.declared.planned.Plan.{Plan}
use Rattle.ff_plan_layout.specs.declared.error.PlanError.TheVariants as fault
use Rattle.ff_plan_layout.specs.Labels.{taken_labels}
use Rattle.ff_plan_layout.specs.Layout.{Layout}
use Rattle.ff_plan.specs.Nodes.{plan_of}
use Rattle.ff_plan_layout.specs.Order.{numbers}
use Rattle.ff_plan_layout.specs.Pads.{unlabelled}
use Rattle.ff_plan_layout.specs.LaidOut.{labels_of, graphs_of, layout_of, laid_out, outputs_from}
use Rattle.ff_plan.specs.Planned.{planned}
use Rattle.ff_plan_layout.specs.Rules.{Rules, Planned, behind}
use Rattle.ff_plan_layout.specs.Streams.{Inside, graph_of, some_or, asked, chosen, is_pad, is_graph, simple_of, takes, takes_head, most_streams, passed, passed_from, as_asked, all_passed, front_with}
use Rattle.ff_plan_layout.specs.Choice.{kind_of}
use Rattle.ff_plan.specs.laws.Taken.{AreTaken, OutputsFit}
use Rattle.ff_plan.proofs.EndFits.{at_fit, is_at, rows_count, stream_coded}
use Rattle.ff_plan_layout.proofs.Graphed.{Walked, walked, inside_of}
use Rattle.ff_plan_layout.proofs.Kept.{nothing, same_some, at_below}
use Rattle.ff_plan_layout.proofs.Sizes.{map_length}
use Rattle.ff_plan_layout.proofs.Outs.{was_false, not_false, IsPassed, all_passed_is}
use Rattle.ff_plan_layout.proofs.Results.{not_ok, same_ok, behind_ok}
use Rattle.ff_plan.specs.laws.Sound.{KeepsTaken}
use Rattle.ff_plan_layout.specs.declared.layout.InPad.{InPad}
use Rattle.ff_plan_layout.specs.declared.layout.OutStream.{OutStream}
use Rattle.ff_plan_layout.specs.declared.layout.Passed.{Passed}

both_true : (a b : Bool) → (a && b) ≡ true → (a ≡ true) × (b ≡ true)
both_true true true h = (refl, refl)
both_true true false h = absurd (let t : false ≡ true = h in grind (arith, nat_tests))
both_true false b h = absurd (let t : false ≡ true = h in grind (arith, nat_tests))

less_true : (a b : ℕ) → nat_lt a b ≡ true → a < b
less_true a b h = grind (arith, nat_tests)

module _ (rules : Rules) (keeps : KeepsTaken rules) where
  module _ (out : OutputJob) (o : ℕ) where
    abbrev most : ℕ
    most = most_streams out.format

    abbrev IsTaken : Passed → Type 0
    IsTaken p = takes_head out p.what.head ≡ true

    -- each stream behind the first n finds room
    abbrev HasRoom : ℕ → List Passed → Type 0
    HasRoom n [] = Unit {0}
    HasRoom n (p ∷ ps) = (n < most) × HasRoom (n + 1) ps

    takes_both : (n : ℕ) (i : InPad) → takes out n i ≡ true → (takes_head out i.head ≡ true) × (n < most)
    takes_both n i h =
        let own = not (is_pad i.source && is_graph (simple_of out (kind_of i.head))) in
        let r = both_true (takes_head out i.head && nat_lt n most) own h in
        let q = both_true (takes_head out i.head) (nat_lt n most) r.0 in
        (q.0, less_true n most q.1)

    was_taken : (g n : ℕ) (i : InPad) (p : Passed) → passed rules out o g n i ≡ Ok p → takes out n i ≡ true
    was_taken g n i p h = not_false (takes out n i) (was_false (not (takes out n i)) (fault.Takes o n) (behind (passed_from rules out g i i.source) (as_asked out o n)) p h)

    one_passed : (g n : ℕ) (i : InPad) (p : Passed) → passed rules out o g n i ≡ Ok p → IsPassed rules out g i p
    one_passed g n i p h = (all_passed_is rules out o g n (i ∷ []) (p ∷ [])
        (ap (λ (r : Planned Passed). behind r (λ q. front_with (q ∷ []) (all_passed rules out o (g + length (graph_of q)) (n + 1) []))) h)).0

    one_taken : (g : ℕ) (i : InPad) (p : Passed) → takes_head out i.head ≡ true → IsPassed rules out g i p → IsTaken p
    one_taken g i p h (inl e) = subst IsTaken e h
    one_taken g i p h (inr f) = subst IsTaken f.is (keeps out f.text i.head f.made f.outs h)

    row_taken : (g n : ℕ) (is : List InPad) (ps : List Passed) → all_passed rules out o g n is ≡ Ok ps → AllByRecursion IsTaken ps × HasRoom n ps × (length ps ≡ length is)
    row_taken g n [] ps h = subst (λ (qs : List Passed). AllByRecursion IsTaken qs × HasRoom n qs × (length qs ≡ 0)) (same_ok [] ps h) (tt, tt, refl)
    row_taken g n (i ∷ is) ps h =
        let first = behind_ok (passed rules out o g n i) (λ p. front_with (p ∷ []) (all_passed rules out o (g + length (graph_of p)) (n + 1) is)) ps h in
        let rest = behind_ok (all_passed rules out o (g + length (graph_of first.0)) (n + 1) is) (λ ys. Ok (first.0 ∷ [] ++ ys)) ps first.2 in
        let t = takes_both n i (was_taken g n i first.0 first.1) in
        let r = row_taken (g + length (graph_of first.0)) (n + 1) is rest.0 rest.1 in
        subst (λ (qs : List Passed). AllByRecursion IsTaken qs × HasRoom n qs × (length qs ≡ suc (length is))) (same_ok (first.0 ∷ rest.0) ps rest.2)
        ((one_taken g i first.0 t.0 (one_passed g n i first.0 first.1), r.0), (t.1, r.1), ap suc r.2)

    room_long : (n : ℕ) (ps : List Passed) → n ≤ most → HasRoom n ps → n + length ps ≤ most
    room_long n [] le h = omega (arith, le)
    room_long n (p ∷ ps) le h = (let lt = h.0 in let r = room_long (n + 1) ps (omega (arith, lt)) h.1 in omega (arith, r))

    some_long : (is pads : List InPad) → some_or o is ≡ Ok pads → 1 ≤ length pads
    some_long [] pads h = absurd (not_ok _ pads h)
    some_long (i ∷ is) pads h = subst (λ (qs : List InPad). 1 ≤ length qs) (same_ok (i ∷ is) pads h) (omega arith)

    -- the streams of the output
    abbrev RowTaken : List Passed → Type 0
    RowTaken ps = (1 ≤ length ps) × (length ps ≤ most) × AllByRecursion IsTaken ps

    row_is_taken : (inside : Inside) (g : ℕ) (used : List (List ℕ)) (before pads : List InPad) (ps : List Passed) → chosen inside out o used before ≡ Ok pads → all_passed rules out o g 0 pads ≡ Ok ps → RowTaken ps
    row_is_taken inside g used before pads ps c h =
        let new = behind_ok (asked inside out o used before out.maps) (λ new. some_or o (before ++ new)) pads c in
        let some = some_long (before ++ new.0) pads new.2 in
        let r = row_taken g 0 pads ps h in
        let long = r.2 in
        let few = room_long 0 ps (omega arith) r.1 in
        (omega (arith, some, long), omega (arith, few), r.0)

  rows_taken : (inside : Inside) (o g : ℕ) (used : List (List ℕ)) (before : List InPad) (outs : List OutputJob) (rows : List (List Passed)) → outputs_from rules inside o g used before outs ≡ Ok rows
      → (t : ℕ) (out : OutputJob) → slice_get outs t ≡ Some out → RowTaken out (o + t) (slice_index_or rows t [])
  rows_taken inside o g used before [] rows h t out at = absurd (nothing out at)
  rows_taken inside o g used before (x ∷ outs) rows h t out at =
      let pads = behind_ok (chosen inside x o used before) (λ pads. behind (all_passed rules x o g 0 pads) (λ ps. front_with (ps ∷ []) (outputs_from rules inside (o + 1) (g + graphs_of ps) (labels_of x ++ used) [] outs))) rows h in
      let ps = behind_ok (all_passed rules x o g 0 pads.0) (λ ps. front_with (ps ∷ []) (outputs_from rules inside (o + 1) (g + graphs_of ps) (labels_of x ++ used) [] outs)) rows pads.2 in
      let rest = behind_ok (outputs_from rules inside (o + 1) (g + graphs_of ps.0) (labels_of x ++ used) [] outs) (λ ys. Ok (ps.0 ∷ [] ++ ys)) rows ps.2 in
      subst (λ (qs : List (List Passed)). RowTaken out (o + t) (slice_index_or qs t [])) (same_ok (ps.0 ∷ rest.0) rows rest.2)
      (step t at ps.0 rest.0 (row_is_taken x o inside g used before pads.0 ps.0 pads.1 ps.1) (λ u f. rows_taken inside (o + 1) (g + graphs_of ps.0) (labels_of x ++ used) [] outs rest.0 rest.1 u out f)) where
        step : (t : ℕ) → slice_get (x ∷ outs) t ≡ Some out → (ps : List Passed) (rest : List (List Passed)) → RowTaken x o ps
            → ((u : ℕ) → slice_get outs u ≡ Some out → RowTaken out (o + 1 + u) (slice_index_or rest u [])) → RowTaken out (o + t) (slice_index_or (ps ∷ rest) t [])
        step zero at ps rest here later = subst (λ (y : OutputJob). RowTaken y o ps) (same_some x out at) here
        step (suc u) at ps rest here later = later u at

  -- ---- by the heads of all outputs

  index_heads : (rows : List (List Passed)) (o : ℕ) → slice_index_or (map (λ (row : List OutStream). map (λ (s : OutStream). s.head) row) (map (λ (ps : List Passed). map (λ (p : Passed). p.what) ps) rows)) o []
      ≡ map (λ (s : OutStream). s.head) (map (λ (p : Passed). p.what) (slice_index_or rows o []))
  index_heads [] o = refl
  index_heads (ps ∷ rows) zero = refl
  index_heads (ps ∷ rows) (suc o) = index_heads rows o

  heads_taken : (out : OutputJob) (ps : List Passed) → AllByRecursion (λ (p : Passed). takes_head out p.what.head ≡ true) ps
      → AllByRecursion (λ h. takes_head out h ≡ true) (map (λ (s : OutStream). s.head) (map (λ (p : Passed). p.what) ps))
  heads_taken out [] all = tt
  heads_taken out (p ∷ ps) all = (all.0, heads_taken out ps all.1)

  heads_long : (ps : List Passed) → length (map (λ (s : OutStream). s.head) (map (λ (p : Passed). p.what) ps)) ≡ length ps
  heads_long [] = refl
  heads_long (p ∷ ps) = ap suc (heads_long ps)

  module _ (job : Job) (heads : List (List StreamHead)) (l : Layout) (come : ComeInOrder (feeds job.graphs) (length job.graphs) [] (graph_order job.graphs))
      (w : Walked rules job heads l) where
    abbrev whole : Layout
    whole = layout_of rules job heads w.made w.rows

    abbrev by_output : List (List StreamHead)
    by_output = map (λ (row : List OutStream). map (λ (s : OutStream). s.head) row) whole.outputs

    own_row : (o : ℕ) (out : OutputJob) → slice_get job.outputs o ≡ Some out → RowTaken out (0 + o) (slice_index_or w.rows o [])
    own_row o out at = rows_taken (inside_of heads job w.made) 0 (length job.graphs) (taken_labels job.graphs) (unlabelled w.made (numbers job.graphs)) job.outputs w.rows w.rows_are o out at

    are_taken : AreTaken job.outputs by_output
    are_taken = record {
      some = λ o lt. (let out = at_below job.outputs o lt in let some = (own_row o out.0 out.1).0 in
          subst (λ (hs : List StreamHead). 1 ≤ length hs) (sym (index_heads w.rows o)) (let long = heads_long (slice_index_or w.rows o []) in omega (arith, some, long)));
      few = λ o out at. (let few = (own_row o out at).1 in
          subst (λ (hs : List StreamHead). length hs ≤ most_streams out.format) (sym (index_heads w.rows o)) (let long = heads_long (slice_index_or w.rows o []) in omega (arith, few, long)));
      each = λ o out at. subst (λ (hs : List StreamHead). AllByRecursion (λ h. takes_head out h ≡ true) hs) (sym (index_heads w.rows o)) (heads_taken out (slice_index_or w.rows o []) (own_row o out at).2);
    }

    outputs_count : length by_output ≡ length job.outputs
    outputs_count =
        map_length (λ (row : List OutStream). map (λ (s : OutStream). s.head) row) whole.outputs
        ∙ (map_length (λ (ps : List Passed). map (λ (p : Passed). p.what) ps) w.rows
        ∙ rows_count rules (inside_of heads job w.made) (length job.graphs) (taken_labels job.graphs) (unlabelled w.made (numbers job.graphs)) job.outputs w.rows w.outputs)

    whole_fit : OutputsFit job.outputs (plan_of whole)
    whole_fit = record {
      ends = record { heads = by_output; count = outputs_count; fit = λ k d e. at_fit rules job heads l come w k d (is_at whole k d e); coded = λ o j lt. stream_coded whole o j lt };
      taken = are_taken;
    }

  pub outputs_fit : (job : Job) (heads : List (List StreamHead)) (p : Plan) → ComeInOrder (feeds job.graphs) (length job.graphs) [] (graph_order job.graphs) → planned rules job heads ≡ Ok p
      → OutputsFit job.outputs p
  outputs_fit job heads p come h =
      let at = behind_ok (laid_out rules job heads) (λ l. Ok (plan_of l)) p h in
      let w = walked rules job heads at.0 come at.1 in
      subst (λ (q : Plan). OutputsFit job.outputs q) (ap (λ (l : Layout). plan_of l) w.is ∙ same_ok (plan_of at.0) p at.2) (whole_fit job heads at.0 come w)
