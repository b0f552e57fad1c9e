-- A label that a graph gives stands at one of its input pads at most.
use Rattle.std.proofs.Common.{◌≡◌, ℕ, zero, suc, ◌+◌, ◌≤◌, ◌||◌, Bool, true, false, cond, List, [], ◌∷◌, ◌++◌, map, slice_get, Some}
use Rattle.std.proofs.Common.{refl, ap, sym, ◌∙◌, arith}
use Rattle.std.proofs.lemmas.Slice.Eq.{bytes_eq-Decides}
use Rattle.std.specs.Str.{bytes_eq}
use Rattle.ff_lang.specs.declared.graph.Filter.{Filter}
use Rattle.ff_stream.specs.edges.Ports.{tally}
use Rattle.ff_graph_links.specs.labels.Labels.{is_one_of, ins_of, outs_of}
use Rattle.ff_graph_links.specs.pads.Links.{Seen}
use Rattle.ff_graph.proofs.ComposedLemmas.Elements.{some_same, no_some, mapped}
use Rattle.ff_graph.proofs.ComposedLemmas.Feeding.{OnceTaken}

-- ---- how many there are

module _ {A : Type 0} (p : A → Bool) where
  tally_append : (xs ys : List A) → tally p (xs ++ ys) ≡ tally p xs + tally p ys
  tally_append [] ys = (let z : tally p ys ≡ 0 + tally p ys = omega arith in z)
  tally_append (x ∷ xs) ys = at (p x) (tally_append xs ys)
    where
      at : (b : Bool) → tally p (xs ++ ys) ≡ tally p xs + tally p ys
          → cond b (suc (tally p (xs ++ ys))) (tally p (xs ++ ys)) ≡ cond b (suc (tally p xs)) (tally p xs) + tally p ys
      at true h = omega (arith, h)
      at false h = h

  tally_some : (xs : List A) (k : ℕ) (x : A) → slice_get xs k ≡ Some x → p x ≡ true → 1 ≤ tally p xs
  tally_some [] k x e t = no_some x e
  tally_some (y ∷ xs) zero x e t =
      let own : p y ≡ true = ap p (some_same y x e) ∙ t in
      let h : tally p (y ∷ xs) ≡ suc (tally p xs) = ap (λ (b : Bool). cond b (suc (tally p xs)) (tally p xs)) own in
      omega (arith, h)
  tally_some (y ∷ xs) (suc k) x e t = at (p y) (tally_some xs k x e t)
    where
      at : (b : Bool) → 1 ≤ tally p xs → 1 ≤ cond b (suc (tally p xs)) (tally p xs)
      at true h = omega (arith, h)
      at false h = h

  tally_own : (x : A) (xs : List A) → p x ≡ true → tally p (x ∷ xs) ≡ suc (tally p xs)
  tally_own x xs t = ap (λ (b : Bool). cond b (suc (tally p xs)) (tally p xs)) t

  tally_rest : (x : A) (xs : List A) → tally p xs ≤ tally p (x ∷ xs)
  tally_rest x xs = at (p x)
    where
      at : (b : Bool) → tally p xs ≤ cond b (suc (tally p xs)) (tally p xs)
      at true = omega arith
      at false = omega arith

  -- one place
  tally_one : (xs : List A) (i j : ℕ) (x y : A) → tally p xs ≤ 1 → slice_get xs i ≡ Some x → p x ≡ true → slice_get xs j ≡ Some y → p y ≡ true → i ≡ j
  tally_one [] i j x y le e t g s = no_some x e
  tally_one (z ∷ xs) zero zero x y le e t g s = refl
  tally_one (z ∷ xs) zero (suc j) x y le e t g s =
      let own = tally_own z xs (ap p (some_same z x e) ∙ t) in
      let more = tally_some xs j y g s in
      absurd (omega (arith, own, more, le))
  tally_one (z ∷ xs) (suc i) zero x y le e t g s =
      let own = tally_own z xs (ap p (some_same z y g) ∙ s) in
      let more = tally_some xs i x e t in
      absurd (omega (arith, own, more, le))
  tally_one (z ∷ xs) (suc i) (suc j) x y le e t g s =
      let rest = tally_rest z xs in
      ap (λ (n : ℕ). suc n) (tally_one xs i j x y (omega (arith, rest, le)) e t g s)

-- ---- the labels at the input pads of filters

module _ (p : List ℕ → Bool) where
  some_of : (fs : List Filter) (f i : ℕ) (a : Filter) (l : List ℕ) → slice_get fs f ≡ Some a → slice_get a.ins i ≡ Some l → p l ≡ true → 1 ≤ tally p (ins_of fs)
  some_of [] f i a l e g t = no_some a e
  some_of (b ∷ fs) zero i a l e g t =
      let own : slice_get b.ins i ≡ Some l = ap (λ (x : Filter). slice_get x.ins i) (some_same b a e) ∙ g in
      let more = tally_some p b.ins i l own t in
      let sum = tally_append p b.ins (ins_of fs) in
      omega (arith, more, sum)
  some_of (b ∷ fs) (suc f) i a l e g t =
      let more = some_of fs f i a l e g t in
      let sum = tally_append p b.ins (ins_of fs) in
      omega (arith, more, sum)

  one_place : (fs : List Filter) (f i g j : ℕ) (a b : Filter) (l m : List ℕ) → tally p (ins_of fs) ≤ 1
      → slice_get fs f ≡ Some a → slice_get a.ins i ≡ Some l → p l ≡ true → slice_get fs g ≡ Some b → slice_get b.ins j ≡ Some m → p m ≡ true → (f ≡ g) × (i ≡ j)
  one_place [] f i g j a b l m le ea el tl eb em tm = no_some a ea
  one_place (x ∷ fs) zero i zero j a b l m le ea el tl eb em tm =
      let sum = tally_append p x.ins (ins_of fs) in (
        refl,
        tally_one p x.ins i j l m (omega (arith, sum, le)) (ap (λ (y : Filter). slice_get y.ins i) (some_same x a ea) ∙ el) tl
            (ap (λ (y : Filter). slice_get y.ins j) (some_same x b eb) ∙ em) tm,
      )
  one_place (x ∷ fs) zero i (suc g) j a b l m le ea el tl eb em tm =
      let sum = tally_append p x.ins (ins_of fs) in
      let own = tally_some p x.ins i l (ap (λ (y : Filter). slice_get y.ins i) (some_same x a ea) ∙ el) tl in
      let more = some_of fs g j b m eb em tm in
      absurd (omega (arith, sum, own, more, le))
  one_place (x ∷ fs) (suc f) i zero j a b l m le ea el tl eb em tm =
      let sum = tally_append p x.ins (ins_of fs) in
      let own = tally_some p x.ins j m (ap (λ (y : Filter). slice_get y.ins j) (some_same x b eb) ∙ em) tm in
      let more = some_of fs f i a l ea el tl in
      absurd (omega (arith, sum, own, more, le))
  one_place (x ∷ fs) (suc f) i (suc g) j a b l m le ea el tl eb em tm =
      let sum = tally_append p x.ins (ins_of fs) in
      let h = one_place fs f i g j a b l m (omega (arith, sum, le)) ea el tl eb em tm in
      (ap (λ (n : ℕ). suc n) h.0, h.1)

-- ---- and at their output pads

or_left : (a b : Bool) → a ≡ true → (a || b) ≡ true
or_left true b e = refl
or_left false b e = cc

or_right : (a b : Bool) → b ≡ true → (a || b) ≡ true
or_right true b e = refl
or_right false b e = e

one_of : (label : List ℕ) (xs : List (List ℕ)) (k : ℕ) → slice_get xs k ≡ Some label → is_one_of label xs ≡ true
one_of label [] k e = no_some label e
one_of label (x ∷ xs) zero e =
    or_left (bytes_eq label x) (is_one_of label xs) ((bytes_eq-Decides label x).1 (sym (some_same x label e)))
one_of label (x ∷ xs) (suc k) e = or_right (bytes_eq label x) (is_one_of label xs) (one_of label xs k e)

in_front : (label : List ℕ) (xs ys : List (List ℕ)) → is_one_of label xs ≡ true → is_one_of label (xs ++ ys) ≡ true
in_front label [] ys e = cc
in_front label (x ∷ xs) ys e = at (bytes_eq label x) e (λ h. in_front label xs ys h)
  where
    at : (b : Bool) → (b || is_one_of label xs) ≡ true → (is_one_of label xs ≡ true → is_one_of label (xs ++ ys) ≡ true) → (b || is_one_of label (xs ++ ys)) ≡ true
    at true h on = refl
    at false h on = on h

behind : (label : List ℕ) (xs ys : List (List ℕ)) → is_one_of label ys ≡ true → is_one_of label (xs ++ ys) ≡ true
behind label [] ys e = e
behind label (x ∷ xs) ys e = or_right (bytes_eq label x) (is_one_of label (xs ++ ys)) (behind label xs ys e)

is_given : (label : List ℕ) (fs : List Filter) (h o : ℕ) (c : Filter) → slice_get fs h ≡ Some c → slice_get c.outs o ≡ Some label → is_one_of label (outs_of fs) ≡ true
is_given label [] h o c e g = no_some c e
is_given label (x ∷ fs) zero o c e g =
    in_front label x.outs (outs_of fs) (one_of label x.outs o (ap (λ (y : Filter). slice_get y.outs o) (some_same x c e) ∙ g))
is_given label (x ∷ fs) (suc h) o c e g = behind label x.outs (outs_of fs) (is_given label fs h o c e g)

-- ---- of filters as they are drawn

abbrev pub filters_in : List Seen → List Filter
filters_in ds = map (λ d. d.filter) ds

filter_at : (ds : List Seen) (k : ℕ) (d : Seen) → slice_get ds k ≡ Some d → slice_get (filters_in ds) k ≡ Some d.filter
filter_at ds k d e = mapped (λ (x : Seen). x.filter) ds k d e

pub taken_once : (ds : List Seen) → ((label : List ℕ) → is_one_of label (outs_of (filters_in ds)) ≡ true → tally (bytes_eq label) (ins_of (filters_in ds)) ≤ 1)
    → OnceTaken ds
taken_once ds clear f i g j h o a b c label ea la eb lb ec lc =
    let own : bytes_eq label label ≡ true = (bytes_eq-Decides label label).1 refl in
    one_place (bytes_eq label) (filters_in ds) f i g j a.filter b.filter label label
    (clear label (is_given label (filters_in ds) h o c.filter (filter_at ds h c ec) lc))
    (filter_at ds f a ea) la own (filter_at ds g b eb) lb own
