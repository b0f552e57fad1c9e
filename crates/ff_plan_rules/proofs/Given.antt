-- Which labels feed which pads: where a label is given once, its pad feeds another if some filter takes it.
use Rattle.std.proofs.Common.{◌≡◌, ℕ, zero, suc, ◌+◌, ◌-◌, ◌≤◌, nat_lt, Bool, true, false, ◌||◌, cond, List, [], ◌∷◌, map, length, Option, None, Some, refl, sym, ap, subst, ◌∙◌, arith}
use Rattle.std.specs.Prelude.{slice_get, is_some}
use Rattle.std.specs.List.{AllByRecursion, list_any}
use Rattle.std.specs.Str.{bytes_eq}
use Rattle.std.proofs.lemmas.Option.{slice_get_within}
use Rattle.std.proofs.lemmas.List.Folds.{list_any-append}
use Rattle.ff_lang.specs.declared.graph.Filter.{Filter}
use Rattle.ff_graph_links.specs.declared.pads.drawn.Pad.{Pad}
use Rattle.ff_graph_links.specs.pads.Links.{Seen, place_from, pad_or, giver_from, next_pad, chained, source_by, source_of, sources_up, sources_of, sources_from}
use Rattle.ff_stream.specs.edges.Ports.{tally}
use Rattle.ff_graph_links.specs.labels.Labels.{is_one_of, ins_of, outs_of}
use Rattle.ff_graph_dag.specs.wiring.Flows.{same_pad}
use Rattle.ff_graph.specs.Opens.{sources_in}
use Rattle.ff_graph.specs.Configured.{is_pad, feeds_one}
use Rattle.ff_plan_rules.proofs.Lists.{never, some_same, no_some, any_there, tally_any, tally_joined, same_text, text_self}
use Rattle.ff_plan_rules.proofs.OpenPads.{same_self, same_pads}

-- the filters as they are written, and their labels
abbrev pub written : List Seen → List Filter
written ds = map (λ (d : Seen). d.filter) ds

abbrev pub all_ins : List Seen → List (List ℕ)
all_ins ds = ins_of (written ds)

abbrev pub all_outs : List Seen → List (List ℕ)
all_outs ds = outs_of (written ds)

-- no filter has more labels at its inputs than pads
abbrev pub HasPads : Seen → Type 0
HasPads d = length d.filter.ins ≤ d.inputs

-- ---- a label is given by some pad

place_some : (n : ℕ) (ls : List (List ℕ)) (l : List ℕ) → is_some (place_from n ls l) ≡ is_one_of l ls
place_some n [] l = refl
place_some n (m ∷ ls) l = step (bytes_eq l m) (place_some (suc n) ls l) where
  step : (b : Bool) → is_some (place_from (suc n) ls l) ≡ is_one_of l ls → is_some (cond b (Some n) (place_from (suc n) ls l)) ≡ (b || is_one_of l ls)
  step true e = refl
  step false e = e

pub giver_some : (k : ℕ) (ds : List Seen) (l : List ℕ) → is_some (giver_from k ds l) ≡ is_one_of l (all_outs ds)
giver_some k [] l = refl
giver_some k (d ∷ ds) l =
    step (place_from 0 d.filter.outs l) (is_one_of l d.filter.outs) (place_some 0 d.filter.outs l) (giver_some (suc k) ds l)
    ∙ sym (list_any-append (bytes_eq l) d.filter.outs (all_outs ds))
  where
    step : (o : Option ℕ) (b : Bool) → is_some o ≡ b → is_some (giver_from (suc k) ds l) ≡ is_one_of l (all_outs ds)
        → is_some (pad_or k o (giver_from (suc k) ds l)) ≡ (b || is_one_of l (all_outs ds))
    step None true e more = absurd (never (sym e))
    step None false e more = more
    step (Some q) true e more = refl
    step (Some q) false e more = absurd (never e)

or_right : (b c : Bool) → c ≡ true → (b || c) ≡ true
or_right true c e = refl
or_right false c e = e

pub some_given : (ds : List Seen) (k q : ℕ) (d : Seen) (l : List ℕ) → slice_get ds k ≡ Some d → slice_get d.filter.outs q ≡ Some l → is_one_of l (all_outs ds) ≡ true
some_given [] k q d l e f = absurd (no_some d e)
some_given (x ∷ ds) zero q d l e f =
    list_any-append (bytes_eq l) x.filter.outs (all_outs ds)
    ∙ ap (λ (b : Bool). b || is_one_of l (all_outs ds))
    (any_there (bytes_eq l) x.filter.outs q l (subst (λ (y : Seen). slice_get y.filter.outs q ≡ Some l) (sym (some_same x d e)) f) (text_self l))
some_given (x ∷ ds) (suc k) q d l e f =
    list_any-append (bytes_eq l) x.filter.outs (all_outs ds) ∙ or_right (is_one_of l x.filter.outs) (is_one_of l (all_outs ds)) (some_given ds k q d l e f)

-- ---- the pad that gives it

record IsPlace (n : ℕ) (ls : List (List ℕ)) (l : List ℕ) (q : ℕ) : Type 0 where
  number : ℕ
  is : q ≡ n + number
  there : slice_get ls number ≡ Some l

place_where : (n : ℕ) (ls : List (List ℕ)) (l : List ℕ) (q : ℕ) → place_from n ls l ≡ Some q → IsPlace n ls l q
place_where n [] l q e = absurd (no_some q e)
place_where n (m ∷ ls) l q e = step (bytes_eq l m) refl e (place_where (suc n) ls l q) where
  step : (b : Bool) → bytes_eq l m ≡ b → cond b (Some n) (place_from (suc n) ls l) ≡ Some q → (place_from (suc n) ls l ≡ Some q → IsPlace (suc n) ls l q) → IsPlace n (m ∷ ls) l q
  step true h f more = (let s = some_same n q f in record { number = 0; is = omega (arith, s); there = ap (λ (t : List ℕ). Some t) (sym (same_text l m h)) })
  step false h f more = (let p = more f in record { number = suc p.number; is = (let i = p.is in omega (arith, i)); there = p.there })

record IsGiver (k : ℕ) (ds : List Seen) (l : List ℕ) (p : Pad) : Type 0 where
  number : ℕ
  own : Seen
  filter : p.filter ≡ k + number
  there : slice_get ds number ≡ Some own
  label : slice_get own.filter.outs p.pad ≡ Some l

giver_where : (k : ℕ) (ds : List Seen) (l : List ℕ) (p : Pad) → giver_from k ds l ≡ Some p → IsGiver k ds l p
giver_where k [] l p e = absurd (no_some p e)
giver_where k (d ∷ ds) l p e = step (place_from 0 d.filter.outs l) refl e (giver_where (suc k) ds l p) where
  step : (o : Option ℕ) → place_from 0 d.filter.outs l ≡ o → pad_or k o (giver_from (suc k) ds l) ≡ Some p
      → (giver_from (suc k) ds l ≡ Some p → IsGiver (suc k) ds l p) → IsGiver k (d ∷ ds) l p
  step None h f more =
      let g = more f in
      record { number = suc g.number; own = g.own; filter = (let i = g.filter in omega (arith, i)); there = g.there; label = g.label }
  step (Some q) h f more =
      let w = place_where 0 d.filter.outs l q h in
      let same : (let r : Pad = record { filter = k; pad = q } in r) ≡ p = some_same (record { filter = k; pad = q }) p f in
      let at : w.number ≡ p.pad = (let i : q ≡ 0 + w.number = w.is in let j : q ≡ p.pad = ap (λ (r : Pad). r.pad) same in omega (arith, i, j)) in
      record {
        number = 0;
        own = d;
        filter = (let i : k ≡ p.filter = ap (λ (r : Pad). r.filter) same in omega (arith, i));
        there = refl;
        label = subst (λ (n : ℕ). slice_get d.filter.outs n ≡ Some l) at w.there;
      }

-- the pad at which it stands, where it stands once

flat_any : (ds : List Seen) (m q : ℕ) (d : Seen) (l : List ℕ) → slice_get ds m ≡ Some d → slice_get d.filter.outs q ≡ Some l → 1 ≤ tally (bytes_eq l) (all_outs ds)
flat_any [] m q d l e f = absurd (no_some d e)
flat_any (x ∷ ds) zero q d l e f =
    let j = tally_joined (bytes_eq l) x.filter.outs (all_outs ds) in
    let t = tally_any (bytes_eq l) x.filter.outs q l (subst (λ (y : Seen). slice_get y.filter.outs q ≡ Some l) (sym (some_same x d e)) f) (text_self l) in
    omega (arith, j, t)
flat_any (x ∷ ds) (suc m) q d l e f =
    let j = tally_joined (bytes_eq l) x.filter.outs (all_outs ds) in
    let t = flat_any ds m q d l e f in
    omega (arith, j, t)

place_none : (n : ℕ) (ls : List (List ℕ)) (l : List ℕ) → tally (bytes_eq l) ls ≡ 0 → place_from n ls l ≡ None
place_none n [] l e = refl
place_none n (m ∷ ls) l e = step (bytes_eq l m) e (place_none (suc n) ls l) where
  step : (b : Bool) → cond b (suc (tally (bytes_eq l) ls)) (tally (bytes_eq l) ls) ≡ 0 → (tally (bytes_eq l) ls ≡ 0 → place_from (suc n) ls l ≡ None)
      → cond b (Some n) (place_from (suc n) ls l) ≡ None
  step true f more = absurd (omega (arith, f))
  step false f more = more f

place_one : (n q : ℕ) (ls : List (List ℕ)) (l : List ℕ) → slice_get ls q ≡ Some l → tally (bytes_eq l) ls ≤ 1 → place_from n ls l ≡ Some (n + q)
place_one n q [] l e few = absurd (no_some l e)
place_one n zero (m ∷ ls) l e few =
    let is : bytes_eq l m ≡ true = subst (λ (t : List ℕ). bytes_eq l t ≡ true) (sym (some_same m l e)) (text_self l) in
    let here : n ≡ n + 0 = omega arith in
    ap (λ (b : Bool). cond b (Some n) (place_from (suc n) ls l)) is ∙ ap (λ (i : ℕ). Some i) here
place_one n (suc q) (m ∷ ls) l e few = step (bytes_eq l m) few (place_one (suc n) q ls l e) where
  step : (b : Bool) → cond b (suc (tally (bytes_eq l) ls)) (tally (bytes_eq l) ls) ≤ 1 → (tally (bytes_eq l) ls ≤ 1 → place_from (suc n) ls l ≡ Some (suc n + q))
      → cond b (Some n) (place_from (suc n) ls l) ≡ Some (n + suc q)
  step true f others = (let t = tally_any (bytes_eq l) ls q l e (text_self l) in absurd (omega (arith, t, f)))
  step false f others = (let more : suc n + q ≡ n + suc q = omega arith in others f ∙ ap (λ (i : ℕ). Some i) more)

pub giver_one : (k m q : ℕ) (ds : List Seen) (d : Seen) (l : List ℕ) → slice_get ds m ≡ Some d → slice_get d.filter.outs q ≡ Some l → tally (bytes_eq l) (all_outs ds) ≤ 1
    → giver_from k ds l ≡ Some (record { filter = k + m; pad = q })
giver_one k m q [] d l e f few = absurd (no_some d e)
giver_one k zero q (x ∷ ds) d l e f few =
    let j = tally_joined (bytes_eq l) x.filter.outs (all_outs ds) in
    let here : k ≡ k + 0 = omega arith in
    let own : slice_get x.filter.outs q ≡ Some l = subst (λ (y : Seen). slice_get y.filter.outs q ≡ Some l) (sym (some_same x d e)) f in
    let first : 0 + q ≡ q = omega arith in
    ap (λ (o : Option ℕ). pad_or k o (giver_from (suc k) ds l)) (place_one 0 q x.filter.outs l own (omega (arith, j, few)) ∙ ap (λ (i : ℕ). Some i) first)
    ∙ ap (λ (i : ℕ). let o : Option Pad = Some (record { filter = i; pad = q }) in o) here
giver_one k (suc m) q (x ∷ ds) d l e f few =
    let j = tally_joined (bytes_eq l) x.filter.outs (all_outs ds) in
    let t = flat_any ds m q d l e f in
    let more : suc k + m ≡ k + suc m = omega arith in
    ap (λ (o : Option ℕ). pad_or k o (giver_from (suc k) ds l)) (place_none 0 x.filter.outs l (omega (arith, j, t, few)))
    ∙ (giver_one (suc k) m q ds d l e f (omega (arith, j, few)) ∙ ap (λ (i : ℕ). let o : Option Pad = Some (record { filter = i; pad = q }) in o) more)

-- ---- what a pad with a label feeds takes the label

record IsLeft (ds : List Seen) (p : Pad) : Type 0 where
  own : Seen
  there : slice_get ds p.filter ≡ Some own
  behind : length own.filter.outs ≤ p.pad

next_left : (ds : List Seen) (j i : ℕ) (o : Option Seen) (p : Pad) → slice_get ds j ≡ o → next_pad j o i ≡ Some p → IsLeft ds p
next_left ds j i None p h e = absurd (no_some p e)
next_left ds j i (Some d) p h e = step (nat_lt (length d.filter.outs + i) d.outputs) e where
  step : (b : Bool) → cond b (Some (record { filter = j; pad = length d.filter.outs + i })) None ≡ Some p → IsLeft ds p
  step true f =
      let same : (let r : Pad = record { filter = j; pad = length d.filter.outs + i } in r) ≡ p = some_same (record { filter = j; pad = length d.filter.outs + i }) p f in
      record {
        own = d;
        there = subst (λ (n : ℕ). slice_get ds n ≡ Some d) (ap (λ (r : Pad). r.filter) same) h;
        behind = (let g : length d.filter.outs + i ≡ p.pad = ap (λ (r : Pad). r.pad) same in omega (arith, g));
      }
  step false f = absurd (no_some p f)

chained_left : (ds : List Seen) (k : ℕ) (d : Seen) (i : ℕ) (p : Pad) → chained ds k d i ≡ Some p → IsLeft ds p
chained_left ds k d i p e = step d.follows e where
  step : (b : Bool) → cond b (next_pad (k - 1) (slice_get ds (k - 1)) i) None ≡ Some p → IsLeft ds p
  step true f = next_left ds (k - 1) i (slice_get ds (k - 1)) p refl f
  step false f = absurd (no_some p f)

module _ (ds : List Seen) (p : Pad) (b : Seen) (label : List ℕ) (is : slice_get ds p.filter ≡ Some b) (at : slice_get b.filter.outs p.pad ≡ Some label) where
  own_is : (x : Seen) → slice_get ds p.filter ≡ Some x → x ≡ b
  own_is x e = some_same x b (sym e ∙ is)

  source_label : (k i : ℕ) (d : Seen) → source_of ds k d i ≡ Some p → slice_get d.filter.ins i ≡ Some label
  source_label k i d e = step (slice_get d.filter.ins i) e where
    step : (o : Option (List ℕ)) → source_by ds k d i o ≡ Some p → o ≡ Some label
    step (Some l) f =
        let g = giver_where 0 ds l p f in
        let there : slice_get ds p.filter ≡ Some g.own =
        (let n : g.number ≡ p.filter = (let h = g.filter in omega (arith, h)) in subst (λ (m : ℕ). slice_get ds m ≡ Some g.own) n g.there) in
        let same : slice_get b.filter.outs p.pad ≡ Some l = subst (λ (x : Seen). slice_get x.filter.outs p.pad ≡ Some l) (own_is g.own there) g.label in
        sym same ∙ at
    step None f =
        let c = chained_left ds k d (i - length d.filter.ins) p f in
        let far : length b.filter.outs ≤ p.pad = subst (λ (x : Seen). length x.filter.outs ≤ p.pad) (own_is c.own c.there) c.behind in
        let near = slice_get_within b.filter.outs p.pad label at in
        absurd (omega (arith, far, near))

  -- it feeds a pad of one of these filters, so one of them takes it
  up_taken : (k : ℕ) (d : Seen) (i n : ℕ) → list_any (is_pad p) (sources_up ds k d i n) ≡ true → is_one_of label d.filter.ins ≡ true
  up_taken k d i zero e = absurd (never (sym e))
  up_taken k d i (suc n) e = step (source_of ds k d i) refl e (up_taken k d (suc i) n) where
    found : (q : Pad) (c : Bool) → same_pad p q ≡ c → source_of ds k d i ≡ Some q → (c || list_any (is_pad p) (sources_up ds k d (suc i) n)) ≡ true
        → (list_any (is_pad p) (sources_up ds k d (suc i) n) ≡ true → is_one_of label d.filter.ins ≡ true) → is_one_of label d.filter.ins ≡ true
    found q true f g h more =
        any_there (bytes_eq label) d.filter.ins i label (source_label k i d (g ∙ ap (λ (r : Pad). Some r) (sym (same_pads p q f)))) (text_self label)
    found q false f g h more = more h

    step : (o : Option Pad) → source_of ds k d i ≡ o → (is_pad p o || list_any (is_pad p) (sources_up ds k d (suc i) n)) ≡ true
        → (list_any (is_pad p) (sources_up ds k d (suc i) n) ≡ true → is_one_of label d.filter.ins ≡ true) → is_one_of label d.filter.ins ≡ true
    step None g h more = more h
    step (Some q) g h more = found q (same_pad p q) refl g h more

  pub fed_taken : (k : ℕ) (rest : List Seen) → list_any (λ ss. list_any (is_pad p) ss) (sources_from ds k rest) ≡ true → is_one_of label (all_ins rest) ≡ true
  fed_taken k [] e = absurd (never (sym e))
  fed_taken k (d ∷ rest) e =
      list_any-append (bytes_eq label) d.filter.ins (all_ins rest) ∙ step (list_any (is_pad p) (sources_of ds k d)) refl e (fed_taken (suc k) rest)
    where
      step : (c : Bool) → list_any (is_pad p) (sources_of ds k d) ≡ c → (c || list_any (λ ss. list_any (is_pad p) ss) (sources_from ds (suc k) rest)) ≡ true
          → (list_any (λ ss. list_any (is_pad p) ss) (sources_from ds (suc k) rest) ≡ true → is_one_of label (all_ins rest) ≡ true)
          → (is_one_of label d.filter.ins || is_one_of label (all_ins rest)) ≡ true
      step true f h more = ap (λ (x : Bool). x || is_one_of label (all_ins rest)) (up_taken k d 0 d.inputs f)
      step false f h more = or_right (is_one_of label d.filter.ins) (is_one_of label (all_ins rest)) (more h)

-- ---- a label that a filter takes is fed by the pad that gives it

module _ (ds : List Seen) (p : Pad) (label : List ℕ) (gives : giver_from 0 ds label ≡ Some p) where
  up_fed : (k : ℕ) (d : Seen) (i n : ℕ) (ls : List (List ℕ)) → ((j : ℕ) → slice_get d.filter.ins (i + j) ≡ slice_get ls j) → length ls ≤ n → is_one_of label ls ≡ true
      → list_any (is_pad p) (sources_up ds k d i n) ≡ true
  up_fed k d i n [] same long e = absurd (never (sym e))
  up_fed k d i zero (l ∷ ls) same long e = absurd (omega (arith, long))
  up_fed k d i (suc n) (l ∷ ls) same long e =
      step (bytes_eq label l) refl e (up_fed k d (suc i) n ls (λ j. let more : i + suc j ≡ suc i + j = omega arith in
      subst (λ (m : ℕ). slice_get d.filter.ins m ≡ slice_get ls j) more (same (suc j))) (omega (arith, long))) where
        step : (c : Bool) → bytes_eq label l ≡ c → (c || is_one_of label ls) ≡ true → (is_one_of label ls ≡ true → list_any (is_pad p) (sources_up ds k d (suc i) n) ≡ true)
            → (is_pad p (source_of ds k d i) || list_any (is_pad p) (sources_up ds k d (suc i) n)) ≡ true
        step true f h others =
            let here : i + 0 ≡ i = omega arith in
            let own : slice_get d.filter.ins i ≡ Some label =
            subst (λ (m : ℕ). slice_get d.filter.ins m ≡ Some l) here (same 0) ∙ ap (λ (t : List ℕ). Some t) (sym (same_text label l f)) in
            let source : source_of ds k d i ≡ Some p = ap (λ (o : Option (List ℕ)). source_by ds k d i o) own ∙ gives in
            ap (λ (o : Option Pad). is_pad p o || list_any (is_pad p) (sources_up ds k d (suc i) n)) source
            ∙ ap (λ (x : Bool). x || list_any (is_pad p) (sources_up ds k d (suc i) n)) (same_self p)
        step false f h others = or_right (is_pad p (source_of ds k d i)) (list_any (is_pad p) (sources_up ds k d (suc i) n)) (others h)

  pub taken_fed : (k : ℕ) (rest : List Seen) → AllByRecursion HasPads rest → is_one_of label (all_ins rest) ≡ true
      → list_any (λ ss. list_any (is_pad p) ss) (sources_from ds k rest) ≡ true
  taken_fed k [] all e = absurd (never (sym e))
  taken_fed k (d ∷ rest) all e =
      step (is_one_of label d.filter.ins) refl (sym (list_any-append (bytes_eq label) d.filter.ins (all_ins rest)) ∙ e) (taken_fed (suc k) rest all.1) where
        step : (c : Bool) → is_one_of label d.filter.ins ≡ c → (c || is_one_of label (all_ins rest)) ≡ true
            → (is_one_of label (all_ins rest) ≡ true → list_any (λ ss. list_any (is_pad p) ss) (sources_from ds (suc k) rest) ≡ true)
            → (list_any (is_pad p) (sources_of ds k d) || list_any (λ ss. list_any (is_pad p) ss) (sources_from ds (suc k) rest)) ≡ true
        step true f h others =
            let own = up_fed k d 0 d.inputs d.filter.ins (λ j. let z : 0 + j ≡ j = omega arith in ap (λ (m : ℕ). slice_get d.filter.ins m) z) all.0 f in
            ap (λ (x : Bool). x || list_any (λ ss. list_any (is_pad p) ss) (sources_from ds (suc k) rest)) own
        step false f h others =
            or_right (list_any (is_pad p) (sources_of ds k d)) (list_any (λ ss. list_any (is_pad p) ss) (sources_from ds (suc k) rest)) (others h)

-- a pad with a label that stands once feeds another if the label is taken
pub fed_is : (ds : List Seen) (k q : ℕ) (d : Seen) (label : List ℕ) → slice_get ds k ≡ Some d → slice_get d.filter.outs q ≡ Some label → tally (bytes_eq label) (all_outs ds) ≤ 1
    → AllByRecursion HasPads ds → feeds_one (sources_in ds) (record { filter = k; pad = q }) ≡ is_one_of label (all_ins ds)
fed_is ds k q d label e f few all = step (feeds_one (sources_in ds) (record { filter = k; pad = q })) (is_one_of label (all_ins ds)) refl refl where
  gives : giver_from 0 ds label ≡ Some (record { filter = k; pad = q })
  gives = (let z : 0 + k ≡ k = omega arith in giver_one 0 k q ds d label e f few ∙ ap (λ (i : ℕ). let o : Option Pad = Some (record { filter = i; pad = q }) in o) z)

  step : (a b : Bool) → feeds_one (sources_in ds) (record { filter = k; pad = q }) ≡ a → is_one_of label (all_ins ds) ≡ b → a ≡ b
  step true true g h = refl
  step false false g h = refl
  step true false g h = absurd (never (sym (fed_taken ds (record { filter = k; pad = q }) d label e f 0 ds g) ∙ h))
  step false true g h = absurd (never (sym (taken_fed ds (record { filter = k; pad = q }) label gives 0 ds all h) ∙ g))
