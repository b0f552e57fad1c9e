-- The first of several faults.
use Rattle.std.proofs.Common.{◌≡◌, inl, inr, ℕ, ◌+◌, Bool, Option, Some, None, zero, suc, ◌<◌, drop, get_or, List, [], ◌∷◌, ◌++◌, length, refl, sym, ap, ◌∙◌, arith, append_assoc, subst, length-append}
use Rattle.std.proofs.lemmas.List.{append-nil}
use Rattle.std.proofs.lemmas.List.Concat.{flat_map-append}
use Rattle.std.specs.List.{flat_map}
use Rattle.ff_lang.specs.declared.graph.Chain.{Chain}
use Rattle.ff_lang.specs.declared.graph.Filter.{Filter}
use Rattle.ff_graph_links.specs.declared.labels.fault.LabelFault.{LabelFault}
use Rattle.ff_graph_links.specs.labels.Labels.{ins_of, outs_of}
use Rattle.ff_graph_links.specs.labels.Names.{or_else, filter_fault, filters_fault, IsFaultOf}

pub fault_first : (o p : Option LabelFault) (e : LabelFault) → IsFaultOf o e → IsFaultOf (or_else o p) e
fault_first o p e (inl memory) = inl memory
fault_first o p e (inr is) = inr (ap (λ (x : Option LabelFault). or_else x p) is)

pub fault_second : (o p : Option LabelFault) (e : LabelFault) → o ≡ None → IsFaultOf p e → IsFaultOf (or_else o p) e
fault_second o p e none (inl memory) = inl memory
fault_second o p e none (inr is) = inr (ap (λ (x : Option LabelFault). or_else x p) none ∙ is)

pub or_assoc : (a b c : Option LabelFault) → or_else a (or_else b c) ≡ or_else (or_else a b) c
or_assoc None b c = refl
or_assoc (Some e) b c = refl

-- filters behind filters
pub faults_append : (known stream : List ℕ → Bool) (given : List (List ℕ)) (g f : ℕ) (ins outs : List (List ℕ)) (xs ys : List Filter)
    → filters_fault known stream given g f ins outs (xs ++ ys)
    ≡ or_else (filters_fault known stream given g f ins outs xs) (filters_fault known stream given g (f + length xs) (ins ++ ins_of xs) (outs ++ outs_of xs) ys)
faults_append known stream given g f ins outs [] ys =
    ap (λ (k : ℕ). filters_fault known stream given g k ins outs ys) (omega arith)
    ∙ (ap (λ (l : List (List ℕ)). filters_fault known stream given g (f + 0) l outs ys) (sym (append-nil ins))
    ∙ ap (λ (l : List (List ℕ)). filters_fault known stream given g (f + 0) (ins ++ []) l ys) (sym (append-nil outs)))
faults_append known stream given g f ins outs (x ∷ xs) ys =
    let here = filter_fault known stream given g f ins outs x in
    let few = filters_fault known stream given g (f + 1) (ins ++ x.ins) (outs ++ x.outs) xs in
    ap (λ (o : Option LabelFault). or_else here o)
    (faults_append known stream given g (f + 1) (ins ++ x.ins) (outs ++ x.outs) xs ys
    ∙ (ap (λ (k : ℕ). or_else few (filters_fault known stream given g k ((ins ++ x.ins) ++ ins_of xs) ((outs ++ x.outs) ++ outs_of xs) ys)) (omega arith)
    ∙ (ap (λ (l : List (List ℕ)). or_else few (filters_fault known stream given g (f + length (x ∷ xs)) l ((outs ++ x.outs) ++ outs_of xs) ys)) (append_assoc ins x.ins (ins_of xs))
    ∙ ap (λ (l : List (List ℕ)). or_else few (filters_fault known stream given g (f + length (x ∷ xs)) (ins ++ ins_of (x ∷ xs)) l ys)) (append_assoc outs x.outs (outs_of xs)))))
    ∙ or_assoc here few (filters_fault known stream given g (f + length (x ∷ xs)) (ins ++ ins_of (x ∷ xs)) (outs ++ outs_of (x ∷ xs)) ys)

-- ---- a chain on

drop_next : {A : Type 0} (xs : List A) (n : ℕ) (d : A) → n < length xs → drop n xs ≡ get_or xs n d ∷ drop (n + 1) xs
drop_next [] n d lt = absurd (omega (arith, lt))
drop_next (x ∷ xs) zero d lt = refl
drop_next {A} (x ∷ xs) (suc n) d lt =
    (let one : suc (n + 1) ≡ suc n + 1 = omega arith in drop_next xs n d (omega (arith, lt)) ∙ ap (λ (k : ℕ). get_or xs n d ∷ drop k (x ∷ xs)) one)

abbrev pub filters_from : List Chain → List Filter
filters_from chains = flat_map (λ (c : Chain). c.filters) chains

pub filters_next : (chains : List Chain) (n : ℕ) (x : Chain) (fs : List Filter) → n < length chains → x ≡ get_or chains n x → fs ≡ x.filters
    → filters_from (drop n chains) ≡ fs ++ filters_from (drop (n + 1) chains)
filters_next chains n x fs lt at is =
    let rest = filters_from (drop (n + 1) chains) in
    ap (λ (l : List Chain). filters_from l) (drop_next chains n x lt)
    ∙ ap (λ (l : List Filter). l ++ rest) (sym (ap (λ (c : Chain). c.filters) at) ∙ sym is)

pub chain_on : (known stream : List ℕ → Bool) (given : List (List ℕ)) (g first : ℕ) (ins outs : List (List ℕ)) (front fs rest : List Filter) (whole : Option LabelFault) → front ≡ fs ++ rest
    → filters_fault known stream given g first ins outs front ≡ whole
    → or_else (filters_fault known stream given g first ins outs fs) (filters_fault known stream given g (first + length fs) (ins ++ ins_of fs) (outs ++ outs_of fs) rest) ≡ whole
chain_on known stream given g first ins outs front fs rest whole here is =
    sym (ap (λ (l : List Filter). filters_fault known stream given g first ins outs l) here ∙ faults_append known stream given g first ins outs fs rest) ∙ is

pub chain_fault : (known stream : List ℕ → Bool) (given : List (List ℕ)) (g first : ℕ) (ins outs : List (List ℕ)) (front fs rest : List Filter) (whole : Option LabelFault) (e : LabelFault) → front ≡ fs ++ rest
    → filters_fault known stream given g first ins outs front ≡ whole → IsFaultOf (filters_fault known stream given g first ins outs fs) e → IsFaultOf whole e
chain_fault known stream given g first ins outs front fs rest whole e here is fault =
    let after = filters_fault known stream given g (first + length fs) (ins ++ ins_of fs) (outs ++ outs_of fs) rest in
    subst (λ (o : Option LabelFault). IsFaultOf o e) (chain_on known stream given g first ins outs front fs rest whole here is)
    (fault_first (filters_fault known stream given g first ins outs fs) after e fault)

pub chain_fine : (known stream : List ℕ → Bool) (given : List (List ℕ)) (g first : ℕ) (ins outs ins_new outs_new : List (List ℕ)) (front fs rest : List Filter) (whole : Option LabelFault) → front ≡ fs ++ rest
    → filters_fault known stream given g first ins outs front ≡ whole → filters_fault known stream given g first ins outs fs ≡ None → ins_new ≡ ins ++ ins_of fs → outs_new ≡ outs ++ outs_of fs
    → filters_fault known stream given g (first + length fs) ins_new outs_new rest ≡ whole
chain_fine known stream given g first ins outs ins_new outs_new front fs rest whole here is none e f =
    let after = filters_fault known stream given g (first + length fs) (ins ++ ins_of fs) (outs ++ outs_of fs) rest in
    ap (λ (l : List (List ℕ)). filters_fault known stream given g (first + length fs) l outs_new rest) e
    ∙ (ap (λ (l : List (List ℕ)). filters_fault known stream given g (first + length fs) (ins ++ ins_of fs) l rest) f
    ∙ (sym (ap (λ (o : Option LabelFault). or_else o after) none) ∙ chain_on known stream given g first ins outs front fs rest whole here is))

pub ins_on : (ins now whole : List (List ℕ)) (front fs rest : List Filter) → front ≡ fs ++ rest → ins ++ ins_of front ≡ whole → now ≡ ins ++ ins_of fs → now ++ ins_of rest ≡ whole
ins_on ins now whole front fs rest here is e =
    ap (λ (l : List (List ℕ)). l ++ ins_of rest) e
    ∙ (append_assoc ins (ins_of fs) (ins_of rest)
    ∙ (sym (ap (λ (l : List (List ℕ)). ins ++ l) (ap (λ (l : List Filter). ins_of l) here ∙ flat_map-append (λ (f : Filter). f.ins) fs rest)) ∙ is))

pub outs_on : (outs now whole : List (List ℕ)) (front fs rest : List Filter) → front ≡ fs ++ rest → outs ++ outs_of front ≡ whole → now ≡ outs ++ outs_of fs → now ++ outs_of rest ≡ whole
outs_on outs now whole front fs rest here is e =
    ap (λ (l : List (List ℕ)). l ++ outs_of rest) e
    ∙ (append_assoc outs (outs_of fs) (outs_of rest)
    ∙ (sym (ap (λ (l : List (List ℕ)). outs ++ l) (ap (λ (l : List Filter). outs_of l) here ∙ flat_map-append (λ (f : Filter). f.outs) fs rest)) ∙ is))

pub count_on : (first total : ℕ) (front fs rest : List Filter) → front ≡ fs ++ rest → first + length front ≡ total → first + length fs + length rest ≡ total
count_on first total front fs rest here is =
    let long : length front ≡ length fs + length rest = ap (λ (l : List Filter). length l) here ∙ length-append fs rest in
    omega (arith, long, is)
