-- Filters of a simple graph behind filters: their labels and their names.
use Rattle.std.proofs.Common.{◌≡◌, ℕ, ◌+◌, Bool, Option, None, List, [], ◌∷◌, ◌++◌, length, not, sym, ap, ◌∙◌, subst, arith, append_assoc}
use Rattle.std.proofs.lemmas.List.{append-nil}
use Rattle.ff_lang.specs.declared.graph.Filter.{Filter}
use Rattle.ff_graph_links.specs.declared.labels.fault.LabelFault.{LabelFault}
use Rattle.ff_graph_links.specs.declared.labels.fault.LabelFault.TheVariants as fault
use Rattle.ff_graph_links.specs.labels.Labels.{ins_of, outs_of}
use Rattle.ff_graph_links.specs.labels.Names.{or_else, where_so, own_fault, twice_in, unknown_filter, IsFaultOf}
use Rattle.ff_graph_links.proofs.LabelsLemmas.Faults.{fault_first, or_assoc}

twice_append : (ins outs : List (List ℕ)) (xs ys : List Filter) → twice_in ins outs (xs ++ ys) ≡ or_else (twice_in ins outs xs) (twice_in (ins ++ ins_of xs) (outs ++ outs_of xs) ys)
twice_append ins outs [] ys =
    ap (λ (l : List (List ℕ)). twice_in l outs ys) (sym (append-nil ins)) ∙ ap (λ (l : List (List ℕ)). twice_in (ins ++ []) l ys) (sym (append-nil outs))
twice_append ins outs (x ∷ xs) ys =
    let here = own_fault ins outs x in
    let few = twice_in (ins ++ x.ins) (outs ++ x.outs) xs in
    ap (λ (o : Option LabelFault). or_else here o)
    (twice_append (ins ++ x.ins) (outs ++ x.outs) xs ys
    ∙ (ap (λ (l : List (List ℕ)). or_else few (twice_in l ((outs ++ x.outs) ++ outs_of xs) ys)) (append_assoc ins x.ins (ins_of xs))
    ∙ ap (λ (l : List (List ℕ)). or_else few (twice_in (ins ++ ins_of (x ∷ xs)) l ys)) (append_assoc outs x.outs (outs_of xs))))
    ∙ or_assoc here few (twice_in (ins ++ ins_of (x ∷ xs)) (outs ++ outs_of (x ∷ xs)) ys)

own_on : (ins outs : List (List ℕ)) (front fs rest : List Filter) (whole : Option LabelFault) → front ≡ fs ++ rest → twice_in ins outs front ≡ whole
    → or_else (twice_in ins outs fs) (twice_in (ins ++ ins_of fs) (outs ++ outs_of fs) rest) ≡ whole
own_on ins outs front fs rest whole here is = sym (ap (λ (l : List Filter). twice_in ins outs l) here ∙ twice_append ins outs fs rest) ∙ is

pub own_fault_in : (ins outs : List (List ℕ)) (front fs rest : List Filter) (whole : Option LabelFault) (e : LabelFault) → front ≡ fs ++ rest → twice_in ins outs front ≡ whole
    → IsFaultOf (twice_in ins outs fs) e → IsFaultOf whole e
own_fault_in ins outs front fs rest whole e here is wrong =
    subst (λ (o : Option LabelFault). IsFaultOf o e) (own_on ins outs front fs rest whole here is)
    (fault_first (twice_in ins outs fs) (twice_in (ins ++ ins_of fs) (outs ++ outs_of fs) rest) e wrong)

pub own_fine : (ins outs ins_new outs_new : List (List ℕ)) (front fs rest : List Filter) (whole : Option LabelFault) → front ≡ fs ++ rest → twice_in ins outs front ≡ whole
    → twice_in ins outs fs ≡ None → ins_new ≡ ins ++ ins_of fs → outs_new ≡ outs ++ outs_of fs → twice_in ins_new outs_new rest ≡ whole
own_fine ins outs ins_new outs_new front fs rest whole here is none e f =
    let after = twice_in (ins ++ ins_of fs) (outs ++ outs_of fs) rest in
    ap (λ (l : List (List ℕ)). twice_in l outs_new rest) e
    ∙ (ap (λ (l : List (List ℕ)). twice_in (ins ++ ins_of fs) l rest) f
    ∙ (sym (ap (λ (o : Option LabelFault). or_else o after) none) ∙ own_on ins outs front fs rest whole here is))

unknown_append : (known : List ℕ → Bool) (g f : ℕ) (xs ys : List Filter) → unknown_filter known g f (xs ++ ys) ≡ or_else (unknown_filter known g f xs) (unknown_filter known g (f + length xs) ys)
unknown_append known g f [] ys = ap (λ (k : ℕ). unknown_filter known g k ys) (omega arith)
unknown_append known g f (x ∷ xs) ys =
    let here = where_so (not (known x.name)) (fault.UnknownFilter g f) in
    let few = unknown_filter known g (f + 1) xs in
    ap (λ (o : Option LabelFault). or_else here o)
    (unknown_append known g (f + 1) xs ys ∙ ap (λ (k : ℕ). or_else few (unknown_filter known g k ys)) (omega arith))
    ∙ or_assoc here few (unknown_filter known g (f + length (x ∷ xs)) ys)

unknown_on : (known : List ℕ → Bool) (g first : ℕ) (front fs rest : List Filter) (whole : Option LabelFault) → front ≡ fs ++ rest → unknown_filter known g first front ≡ whole
    → or_else (unknown_filter known g first fs) (unknown_filter known g (first + length fs) rest) ≡ whole
unknown_on known g first front fs rest whole here is = sym (ap (λ (l : List Filter). unknown_filter known g first l) here ∙ unknown_append known g first fs rest) ∙ is

pub unknown_in : (known : List ℕ → Bool) (g first : ℕ) (front fs rest : List Filter) (whole : Option LabelFault) (e : LabelFault) → front ≡ fs ++ rest → unknown_filter known g first front ≡ whole
    → IsFaultOf (unknown_filter known g first fs) e → IsFaultOf whole e
unknown_in known g first front fs rest whole e here is wrong =
    subst (λ (o : Option LabelFault). IsFaultOf o e) (unknown_on known g first front fs rest whole here is)
    (fault_first (unknown_filter known g first fs) (unknown_filter known g (first + length fs) rest) e wrong)

pub known_on : (known : List ℕ → Bool) (g first : ℕ) (front fs rest : List Filter) (whole : Option LabelFault) → front ≡ fs ++ rest → unknown_filter known g first front ≡ whole
    → unknown_filter known g first fs ≡ None → unknown_filter known g (first + length fs) rest ≡ whole
known_on known g first front fs rest whole here is none =
    sym (ap (λ (o : Option LabelFault). or_else o (unknown_filter known g (first + length fs) rest)) none) ∙ unknown_on known g first front fs rest whole here is
