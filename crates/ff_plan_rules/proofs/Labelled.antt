-- The labels that a drawing takes and gives stand at its open pads.
use Rattle.std.proofs.Common.{◌≡◌, ℕ, zero, suc, ◌+◌, ◌≤◌, Bool, true, false, not, cond, List, [], ◌∷◌, map, length, Option, None, Some, refl, sym, ap, subst, ◌∙◌, arith}
use Rattle.std.specs.Prelude.{slice_get, slice_index_or, is_some}
use Rattle.std.specs.List.{AllByRecursion, filter}
use Rattle.std.specs.Str.{bytes_eq}
use Rattle.ff_frame.specs.declared.head.StreamHead.{StreamHead}
use Rattle.ff_words.specs.declared.maps.map.Kind.{Kind}
use Rattle.ff_graph_links.specs.declared.pads.drawn.Pad.{Pad}
use Rattle.ff_graph_links.specs.pads.Links.{Seen, giver_from, source_by, source_of, sources_up, sources_of, sources_from, opens_at, opens_from}
use Rattle.ff_stream.specs.edges.Ports.{tally}
use Rattle.ff_graph_links.specs.labels.Labels.{is_one_of}
use Rattle.ff_graph.specs.Opens.{open_in, open_ins_at, open_pads}
use Rattle.ff_graph.specs.Configured.{OpenOut, feeds_one, unless_fed, outs_at, outs_from}
use Rattle.ff_plan_layout.specs.laws.Graphs.{asks}
use Rattle.ff_plan_layout.specs.Pads.{has_label, label_is}
use Rattle.ff_plan_layout.specs.declared.open_pads.OpenIn.{OpenIn}
use Rattle.ff_plan_layout.specs.declared.open_pads.SourcePad.{SourcePad}
use Rattle.ff_plan_rules.specs.Rules.{input_as, output_as}
use Rattle.ff_plan_rules.proofs.Lists.{never, tally_joined, tally_map, tally_left, turn_text}
use Rattle.ff_plan_rules.proofs.Given.{all_ins, all_outs, HasPads, giver_some}

-- none of so many
none_of : (b : Bool) → ◌≡◌ {A = ℕ} 0 (cond b 0 0)
none_of true = refl
none_of false = refl

both_of : (b : Bool) (m n : ℕ) → cond b 0 m + cond b 0 n ≡ cond b 0 (m + n)
both_of true m n = omega arith
both_of false m n = refl

-- ---- input pads

module _ (ds : List Seen) (label : List ℕ) where
  abbrev asked_at : Pad → Bool
  asked_at p = asks label (input_as (open_in p (slice_get ds p.filter)))

  at_pad : (k i : ℕ) (d : Seen) (l : Option (List ℕ)) → slice_get ds k ≡ Some d → slice_get d.filter.ins i ≡ l
      → (r : Bool) → ((x : Kind) (s : Option SourcePad) → (let o : OpenIn = record { label = l; kind = x; source = s } in asks label o) ≡ r) → asked_at (record { filter = k; pad = i }) ≡ r
  at_pad k i d l e f r is =
      let p : Pad = record { filter = k; pad = i } in
      let own : OpenIn = input_as (open_in p (Some d)) in
      ap (λ (o : Option Seen). asks label (input_as (open_in p o))) e
      ∙ (ap (λ (o : Option (List ℕ)). let n : OpenIn = record { label = o; kind = own.kind; source = own.source } in asks label n) f ∙ is own.kind own.source)

  -- one pad more, which has this label
  with_label : (k i : ℕ) (l : List ℕ) (ss : List (Option Pad)) (rest : List (List ℕ)) → asked_at (record { filter = k; pad = i }) ≡ bytes_eq label l
      → tally asked_at (opens_at k (suc i) ss) ≡ tally (bytes_eq label) rest → (o : Option Pad) (b : Bool) → is_some o ≡ b
      → tally asked_at (opens_at k i (o ∷ ss)) ≡ tally (bytes_eq label) (cond (not b) (l ∷ rest) rest)
  with_label k i l ss rest own was None true e = absurd (never (sym e))
  with_label k i l ss rest own was None false e =
      ap (λ (b : Bool). cond b (suc (tally asked_at (opens_at k (suc i) ss))) (tally asked_at (opens_at k (suc i) ss))) own
      ∙ ap (λ (n : ℕ). cond (bytes_eq label l) (suc n) n) was
  with_label k i l ss rest own was (Some q) true e = was
  with_label k i l ss rest own was (Some q) false e = absurd (never e)

  without_label : (k i : ℕ) (ss : List (Option Pad)) (n : ℕ) → asked_at (record { filter = k; pad = i }) ≡ false
      → tally asked_at (opens_at k (suc i) ss) ≡ n → (o : Option Pad) → tally asked_at (opens_at k i (o ∷ ss)) ≡ n
  without_label k i ss n own was None =
      ap (λ (b : Bool). cond b (suc (tally asked_at (opens_at k (suc i) ss))) (tally asked_at (opens_at k (suc i) ss))) own ∙ was
  without_label k i ss n own was (Some q) = was

  ins_up : (k : ℕ) (d : Seen) (i n : ℕ) (ls : List (List ℕ)) → slice_get ds k ≡ Some d → ((j : ℕ) → slice_get d.filter.ins (i + j) ≡ slice_get ls j) → length ls ≤ n
      → tally asked_at (opens_at k i (sources_up ds k d i n)) ≡ tally (bytes_eq label) (filter (λ l. not (is_one_of l (all_outs ds))) ls)
  ins_up k d i zero [] e same long = refl
  ins_up k d i zero (l ∷ ls) e same long = absurd (omega (arith, long))
  ins_up k d i (suc n) [] e same long =
      let here : i + 0 ≡ i = omega arith in
      let none : slice_get d.filter.ins i ≡ None = subst (λ (m : ℕ). slice_get d.filter.ins m ≡ None) here (same 0) in
      without_label k i (sources_up ds k d (suc i) n) 0 (at_pad k i d None e none false (λ x s. refl))
      (ins_up k d (suc i) n [] e (λ j. let more : i + suc j ≡ suc i + j = omega arith in
      subst (λ (m : ℕ). slice_get d.filter.ins m ≡ None) more (same (suc j))) (omega arith)) (source_of ds k d i)
  ins_up k d i (suc n) (l ∷ ls) e same long =
      let here : i + 0 ≡ i = omega arith in
      let own : slice_get d.filter.ins i ≡ Some l = subst (λ (m : ℕ). slice_get d.filter.ins m ≡ Some l) here (same 0) in
      ap (λ (o : Option Pad). tally asked_at (opens_at k i (o ∷ sources_up ds k d (suc i) n))) (ap (λ (o : Option (List ℕ)). source_by ds k d i o) own)
      ∙ with_label k i l (sources_up ds k d (suc i) n) (filter (λ t. not (is_one_of t (all_outs ds))) ls)
      (at_pad k i d (Some l) e own (bytes_eq label l) (λ x s. turn_text l label))
      (ins_up k d (suc i) n ls e (λ j. let more : i + suc j ≡ suc i + j = omega arith in
      subst (λ (m : ℕ). slice_get d.filter.ins m ≡ slice_get ls j) more (same (suc j))) (omega (arith, long)))
      (giver_from 0 ds l) (is_one_of l (all_outs ds)) (giver_some 0 ds l)

  ins_from : (k : ℕ) (rest : List Seen) → ((j : ℕ) → slice_get ds (k + j) ≡ slice_get rest j) → AllByRecursion HasPads rest
      → tally asked_at (opens_from k (sources_from ds k rest)) ≡ cond (is_one_of label (all_outs ds)) 0 (tally (bytes_eq label) (all_ins rest))
  ins_from k [] same all = none_of (is_one_of label (all_outs ds))
  ins_from k (d ∷ rest) same all =
      let here : k + 0 ≡ k = omega arith in
      let own : slice_get ds k ≡ Some d = subst (λ (m : ℕ). slice_get ds m ≡ Some d) here (same 0) in
      let first = ins_up k d 0 d.inputs d.filter.ins own (λ j. let z : 0 + j ≡ j = omega arith in ap (λ (m : ℕ). slice_get d.filter.ins m) z) all.0
      ∙ tally_left label (λ l. is_one_of l (all_outs ds)) d.filter.ins in
      let others = ins_from (suc k) rest (λ j. let more : k + suc j ≡ suc k + j = omega arith in
      subst (λ (m : ℕ). slice_get ds m ≡ slice_get rest j) more (same (suc j))) all.1 in
      let b = is_one_of label (all_outs ds) in
      let joined = tally_joined (bytes_eq label) d.filter.ins (all_ins rest) in
      let sum = both_of b (tally (bytes_eq label) d.filter.ins) (tally (bytes_eq label) (all_ins rest)) in
      tally_joined asked_at (opens_at k 0 (sources_of ds k d)) (opens_from (suc k) (sources_from ds (suc k) rest))
      ∙ (ap (λ (n : ℕ). n + tally asked_at (opens_from (suc k) (sources_from ds (suc k) rest))) first
      ∙ (ap (λ (n : ℕ). cond b 0 (tally (bytes_eq label) d.filter.ins) + n) others
      ∙ (sum ∙ ap (λ (n : ℕ). cond b 0 n) (sym joined))))

  -- the open input pads have the labels that no pad gives
  pub ins_are : AllByRecursion HasPads ds
      → tally (asks label) (map input_as (open_ins_at ds (open_pads ds))) ≡ tally (bytes_eq label) (filter (λ l. not (is_one_of l (all_outs ds))) (all_ins ds))
  ins_are all =
      tally_map (asks label) input_as (open_ins_at ds (open_pads ds))
      ∙ (tally_map (λ i. asks label (input_as i)) (λ (p : Pad). open_in p (slice_get ds p.filter)) (open_pads ds)
      ∙ (ins_from 0 ds (λ j. let z : 0 + j ≡ j = omega arith in ap (λ (m : ℕ). slice_get ds m) z) all
      ∙ sym (tally_left label (λ l. is_one_of l (all_outs ds)) (all_ins ds))))

-- ---- output pads

same_if : (t : Bool) (m n : ℕ) → t ≡ true → cond t 0 m ≡ cond t 0 n
same_if true m n e = refl
same_if false m n e = absurd (never (sym e))

more_if : (t : Bool) (m n : ℕ) → t ≡ false → m ≡ cond t 0 n → suc m ≡ cond t 0 (suc n)
more_if true m n e f = absurd (never e)
more_if false m n e f = ap (λ (x : ℕ). suc x) f

module _ (label : List ℕ) (sources : List (List (Option Pad))) (t : Bool) where
  abbrev has : OpenOut → Bool
  has o = has_label label (output_as o)

  -- a pad feeds another if so, where it has the label
  abbrev IsFedSo : ℕ → List (List ℕ) → Type 0
  IsFedSo k labels = (q : ℕ) (l : List ℕ) → slice_get labels q ≡ Some l → bytes_eq label l ≡ true → feeds_one sources (record { filter = k; pad = q }) ≡ t

  no_label : (out : OpenOut) (others : List OpenOut) (n : ℕ) → out.label ≡ None → tally has others ≡ n → (fed : Bool) → tally has (unless_fed fed out others) ≡ n
  no_label out others n none was true = was
  no_label out others n none was false =
      ap (λ (b : Bool). cond b (suc (tally has others)) (tally has others)) (ap (λ (o : Option (List ℕ)). label_is label o) none) ∙ was

  some_label : (out : OpenOut) (others : List OpenOut) (l : List ℕ) (n : ℕ) → out.label ≡ Some l → tally has others ≡ cond t 0 n
      → (fed b : Bool) → bytes_eq label l ≡ b → (b ≡ true → fed ≡ t) → tally has (unless_fed fed out others) ≡ cond t 0 (cond b (suc n) n)
  some_label out others l n some was true true e is = was ∙ same_if t n (suc n) (sym (is refl))
  some_label out others l n some was true false e is = was
  some_label out others l n some was false b e is =
      ap (λ (x : Bool). cond x (suc (tally has others)) (tally has others)) (ap (λ (o : Option (List ℕ)). label_is label o) some ∙ (turn_text l label ∙ e))
      ∙ open_ b is
    where
      open_ : (b : Bool) → (b ≡ true → false ≡ t) → cond b (suc (tally has others)) (tally has others) ≡ cond t 0 (cond b (suc n) n)
      open_ true is = more_if t (tally has others) n (sym (is refl)) was
      open_ false is = was

  outs_up : (k : ℕ) (labels : List (List ℕ)) → IsFedSo k labels → (q : ℕ) (hs : List StreamHead) (ls : List (List ℕ))
      → ((j : ℕ) → slice_get labels (q + j) ≡ slice_get ls j) → length ls ≤ length hs
      → tally has (outs_at sources labels k q hs) ≡ cond t 0 (tally (bytes_eq label) ls)
  outs_up k labels fed q [] [] same long = none_of t
  outs_up k labels fed q [] (l ∷ ls) same long = absurd (omega (arith, long))
  outs_up k labels fed q (h ∷ hs) [] same long =
      let here : q + 0 ≡ q = omega arith in
      let none : slice_get labels q ≡ None = subst (λ (m : ℕ). slice_get labels m ≡ None) here (same 0) in
      no_label (record { at = record { filter = k; pad = q }; label = slice_get labels q; head = h }) (outs_at sources labels k (suc q) hs) (cond t 0 0) none
      (outs_up k labels fed (suc q) hs [] (λ j. let more : q + suc j ≡ suc q + j = omega arith in
      subst (λ (m : ℕ). slice_get labels m ≡ None) more (same (suc j))) (omega arith)) (feeds_one sources (record { filter = k; pad = q }))
  outs_up k labels fed q (h ∷ hs) (l ∷ ls) same long =
      let here : q + 0 ≡ q = omega arith in
      let own : slice_get labels q ≡ Some l = subst (λ (m : ℕ). slice_get labels m ≡ Some l) here (same 0) in
      some_label (record { at = record { filter = k; pad = q }; label = slice_get labels q; head = h }) (outs_at sources labels k (suc q) hs) l (tally (bytes_eq label) ls) own
      (outs_up k labels fed (suc q) hs ls (λ j. let more : q + suc j ≡ suc q + j = omega arith in
      subst (λ (m : ℕ). slice_get labels m ≡ slice_get ls j) more (same (suc j))) (omega (arith, long)))
      (feeds_one sources (record { filter = k; pad = q })) (bytes_eq label l) refl (fed q l own)

  pub outs_are : (k : ℕ) (ds : List Seen) (heads : List (List StreamHead))
      → ((m : ℕ) (d : Seen) → slice_get ds m ≡ Some d → IsFedSo (k + m) d.filter.outs)
      → ((m : ℕ) (d : Seen) → slice_get ds m ≡ Some d → length d.filter.outs ≤ length (slice_index_or heads m []))
      → length heads ≡ length ds → tally has (outs_from sources k ds heads) ≡ cond t 0 (tally (bytes_eq label) (all_outs ds))
  outs_are k [] heads fed long size = none_of t
  outs_are k (d ∷ ds) [] fed long size = absurd (omega (arith, size))
  outs_are k (d ∷ ds) (hs ∷ heads) fed long size =
      let here : k + 0 ≡ k = omega arith in
      let first = outs_up k d.filter.outs (subst (λ (m : ℕ). IsFedSo m d.filter.outs) here (fed 0 d refl)) 0 hs d.filter.outs
      (λ j. let z : 0 + j ≡ j = omega arith in ap (λ (m : ℕ). slice_get d.filter.outs m) z) (long 0 d refl) in
      let others = outs_are (suc k) ds heads
      (λ m x e. let more : k + suc m ≡ suc k + m = omega arith in subst (λ (n : ℕ). IsFedSo n x.filter.outs) more (fed (suc m) x e))
      (λ m x e. long (suc m) x e) (omega (arith, size)) in
      let joined = tally_joined (bytes_eq label) d.filter.outs (all_outs ds) in
      tally_joined has (outs_at sources d.filter.outs k 0 hs) (outs_from sources (suc k) ds heads)
      ∙ (ap (λ (n : ℕ). n + tally has (outs_from sources (suc k) ds heads)) first
      ∙ (ap (λ (n : ℕ). cond t 0 (tally (bytes_eq label) d.filter.outs) + n) others
      ∙ (both_of t (tally (bytes_eq label) d.filter.outs) (tally (bytes_eq label) (all_outs ds)) ∙ ap (λ (n : ℕ). cond t 0 n) (sym joined))))
