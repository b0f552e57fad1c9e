-- The places of the grants of an input, and the first so many of them.
use Rattle.std.proofs.Common.{◌≡◌, ℕ, zero, suc, ◌+◌, ◌-◌, ◌<◌, ◌≤◌, Bool, true, false, cond, List, [], ◌∷◌, ◌++◌, length, map, take, drop, get_or, slice_get, slice_index_or, Some, refl, sym, ap, ◌∙◌, subst, arith, add-one}
use Rattle.std.specs.Prelude.{nat_eq}
use Rattle.std.proofs.lemmas.Bool.Decides.{nat_tests}
use mathlib.Core.List.{IsPrefix}
use Rattle.ff_frame.specs.declared.event.Event.{Event}
use Rattle.ff_frame.specs.declared.event.Event.TheVariants.{Grant, Sent, Finished, Best, Exited}
use Rattle.ff_sched.specs.Bits.{upto}
use Rattle.std.specs.declared.alloc.Global.{Global}
use Rattle.std.specs.declared.vec.Vec.{Vec}
use Rattle.ff_run_plan.specs.Reads.{is_grant_of, grants_from, grants_of, places_in}

none_at : {A : Type 0} (n : ℕ) (x : A) → slice_get [] n ≡ Some x → ⊥
none_at zero x e = cc
none_at (suc n) x e = cc

same_number : (j i : ℕ) → nat_eq j i ≡ true → j ≡ i
same_number j i e = grind (arith, nat_tests)

itself : (i : ℕ) → nat_eq i i ≡ true
itself i = grind (arith, nat_tests)

grant_is : (i : ℕ) (e : Event) → is_grant_of i e ≡ true → e ≡ Grant i
grant_is i (Grant s) is = ap Grant (same_number s i is)
grant_is i (Sent j t) is = absurd cc
grant_is i (Finished j) is = absurd cc
grant_is i (Best g k) is = absurd cc
grant_is i (Exited s) is = absurd cc

-- ---- what the places hold

-- the place of a grant among these events, the first of which stands at this place
abbrev pub IsFrom : ℕ → ℕ → List Event → ℕ → Type 0
IsFrom i at es p = (k : ℕ) × (p ≡ at + k) × (slice_get es k ≡ Some (Grant i))

further : (i at : ℕ) (e : Event) (es : List Event) (p : ℕ) → IsFrom i (suc at) es p → IsFrom i at (e ∷ es) p
further i at e es p f = (let is = f.1 in (suc f.0, omega (arith, is), f.2))

one_held : (i at : ℕ) (e : Event) (es : List Event) (rest : List ℕ) (b : Bool) → is_grant_of i e ≡ b → ((n p : ℕ) → slice_get rest n ≡ Some p → IsFrom i (suc at) es p)
    → (n p : ℕ) → slice_get (cond b (at ∷ rest) rest) n ≡ Some p → IsFrom i at (e ∷ es) p
one_held i at e es rest true is held zero p h = (let same : Some at ≡ Some p = h in let at_p : at ≡ p = cc in (0, omega (arith, at_p), ap (λ (x : Event). Some x) (grant_is i e is)))
one_held i at e es rest true is held (suc n) p h = further i at e es p (held n p h)
one_held i at e es rest false is held n p h = further i at e es p (held n p h)

pub holds_grant : (i at : ℕ) (es : List Event) (n p : ℕ) → slice_get (grants_from i at es) n ≡ Some p → IsFrom i at es p
holds_grant i at [] n p h = absurd (none_at n p h)
holds_grant i at (e ∷ es) n p h = one_held i at e es (grants_from i (suc at) es) (is_grant_of i e) refl (holds_grant i (suc at) es) n p h

-- ---- they rise

abbrev pub IsRising : List ℕ → Type 0
IsRising ps = (n p q : ℕ) → slice_get ps n ≡ Some p → slice_get ps (suc n) ≡ Some q → p < q

one_rises : (at : ℕ) (rest : List ℕ) (b : Bool) → ((n p : ℕ) → slice_get rest n ≡ Some p → at < p) → IsRising rest → IsRising (cond b (at ∷ rest) rest)
one_rises at rest true above rises zero p q a c = (let same : Some at ≡ Some p = a in let at_p : at ≡ p = cc in let up = above 0 q c in omega (arith, at_p, up))
one_rises at rest true above rises (suc n) p q a c = rises n p q a c
one_rises at rest false above rises n p q a c = rises n p q a c

grants_rise : (i at : ℕ) (es : List Event) → IsRising (grants_from i at es)
grants_rise i at [] = λ n p q a c. absurd (none_at n p a)
grants_rise i at (e ∷ es) =
    one_rises at (grants_from i (suc at) es) (is_grant_of i e) (λ n p h. (let f = holds_grant i (suc at) es n p h in let is = f.1 in omega (arith, is))) (grants_rise i (suc at) es)

-- ---- places of grants that rise are no more than there are

rises_on : (p : ℕ) (ps : List ℕ) → IsRising (p ∷ ps) → IsRising ps
rises_on p ps rises n a b x y = rises (suc n) a b x y

above_first : (p : ℕ) (ps : List ℕ) → IsRising (p ∷ ps) → (n q : ℕ) → slice_get ps n ≡ Some q → p < q
above_first p [] rises n q h = absurd (none_at n q h)
above_first p (r ∷ ps) rises zero q h = rises 0 p q refl h
above_first p (r ∷ ps) rises (suc n) q h = (let up = rises 0 p r refl refl in let on = above_first r ps (rises_on p (r ∷ ps) rises) n q h in omega (arith, up, on))

-- a place that isn't the first is one further on
nearer : (i at : ℕ) (e : Event) (es : List Event) (p : ℕ) → at < p → IsFrom i at (e ∷ es) p → IsFrom i (suc at) es p
nearer i at e es p lt (zero, is, h) = absurd (omega (arith, lt, is))
nearer i at e es p lt (suc k, is, h) = (k, omega (arith, is), h)

longer : (at n : ℕ) (rest : List ℕ) (b : Bool) → n ≤ length rest → n ≤ length (cond b (at ∷ rest) rest)
longer at n rest true le = omega (arith, le)
longer at n rest false le = le

with_first : (i at : ℕ) (e : Event) (n : ℕ) (rest : List ℕ) → e ≡ Grant i → n ≤ length rest → suc n ≤ length (cond (is_grant_of i e) (at ∷ rest) rest)
with_first i at e n rest is le =
    subst (λ (b : Bool). suc n ≤ length (cond b (at ∷ rest) rest)) (sym (ap (is_grant_of i) is ∙ itself i)) (omega (arith, le))

all_above : (at p : ℕ) (ps : List ℕ) → at < p → IsRising (p ∷ ps) → (n q : ℕ) → slice_get (p ∷ ps) n ≡ Some q → at < q
all_above at p ps lt rises zero q x = (let same : Some p ≡ Some q = x in let p_q : p ≡ q = cc in omega (arith, lt, p_q))
all_above at p ps lt rises (suc n) q x = (let up = above_first p ps rises n q x in omega (arith, lt, up))

one_more : (i at : ℕ) (e : Event) (es : List Event) (p : ℕ) (ps : List ℕ) → ((n q : ℕ) → slice_get (p ∷ ps) n ≡ Some q → IsFrom i at (e ∷ es) q) → IsRising (p ∷ ps)
    → ((qs : List ℕ) → ((n q : ℕ) → slice_get qs n ≡ Some q → IsFrom i (suc at) es q) → IsRising qs → length qs ≤ length (grants_from i (suc at) es))
    → IsFrom i at (e ∷ es) p → length (p ∷ ps) ≤ length (grants_from i at (e ∷ es))
one_more i at e es p ps held rises on (zero, is, h) =
    with_first i at e (length ps) (grants_from i (suc at) es) (let same : Some e ≡ Some (Grant i) = h in cc)
    (on ps (λ n q x. nearer i at e es q (let up = above_first p ps rises n q x in omega (arith, up, is)) (held (suc n) q x)) (rises_on p ps rises))
one_more i at e es p ps held rises on (suc k, is, h) =
    longer at (length (p ∷ ps)) (grants_from i (suc at) es) (is_grant_of i e)
    (on (p ∷ ps) (λ n q x. nearer i at e es q (all_above at p ps (omega (arith, is)) rises n q x) (held n q x)) rises)

pub no_more : (i at : ℕ) (es : List Event) (ps : List ℕ) → ((n p : ℕ) → slice_get ps n ≡ Some p → IsFrom i at es p) → IsRising ps → length ps ≤ length (grants_from i at es)
no_more i at es [] held rises = omega arith
no_more i at [] (p ∷ ps) held rises = absurd (let f = held 0 p refl in none_at f.0 (Grant i) f.2)
no_more i at (e ∷ es) (p ∷ ps) held rises = one_more i at e es p ps held rises (λ qs h r. no_more i (suc at) es qs h r) (held 0 p refl)

-- ---- the first of them

pub taken : {A : Type 0} (t : ℕ) (xs : List A) (n : ℕ) (x : A) → slice_get (take t xs) n ≡ Some x → slice_get xs n ≡ Some x
taken zero [] n x e = absurd (none_at n x e)
taken zero (y ∷ ys) n x e = absurd (none_at n x e)
taken (suc t) [] n x e = absurd (none_at n x e)
taken (suc t) (y ∷ ys) zero x e = e
taken (suc t) (y ∷ ys) (suc n) x e = taken t ys n x e

pub front : {A : Type 0} (t : ℕ) (xs : List A) → IsPrefix (take t xs) xs
front zero [] = ([], refl)
front zero (x ∷ xs) = (x ∷ xs, refl)
front (suc t) [] = ([], refl)
front {A} (suc t) (x ∷ xs) = (let rest = front t xs in (rest.0, ap (λ (ys : List A). x ∷ ys) rest.1))

pub taken_rise : (t : ℕ) (xs : List ℕ) → IsRising xs → IsRising (take t xs)
taken_rise t xs rises n p q a c = rises n p q (taken t xs n p a) (taken t xs (suc n) q c)

pub first_rise : (i t : ℕ) (es : List Event) → IsRising (take t (grants_of i es))
first_rise i t es = taken_rise t (grants_of i es) (grants_rise i 0 es)

pub first_held : (i t : ℕ) (es : List Event) (n p : ℕ) → slice_get (take t (grants_of i es)) n ≡ Some p → slice_get es p ≡ Some (Grant i)
first_held i t es n p h =
    let f = holds_grant i 0 es n p (taken t (grants_of i es) n p h) in
    let is = f.1 in
    subst (λ (k : ℕ). slice_get es k ≡ Some (Grant i)) (let same : f.0 ≡ p = omega (arith, is) in same) f.2

-- ---- of each input

pub at_upto : (f : ℕ → List ℕ) (s n i : ℕ) → i < n → slice_index_or (map f (upto s n)) i [] ≡ f (s + i)
at_upto f s zero i lt = absurd (omega (arith, lt))
at_upto f s (suc n) zero lt = ap f (omega arith)
at_upto f s (suc n) (suc i) lt = at_upto f (suc s) n i (omega (arith, lt)) ∙ ap f (omega arith)

pub beyond_upto : (f : ℕ → List ℕ) (s n i : ℕ) → n ≤ i → slice_index_or (map f (upto s n)) i [] ≡ []
beyond_upto f s zero i le = refl
beyond_upto f s (suc n) zero le = absurd (omega (arith, le))
beyond_upto f s (suc n) (suc i) le = beyond_upto f (suc s) n i (omega (arith, le))

pub long_upto : (f : ℕ → List ℕ) (s n : ℕ) → length (map f (upto s n)) ≡ n
long_upto f s zero = refl
long_upto f s (suc n) = ap suc (long_upto f (suc s) n)

upto_end : (f : ℕ → List ℕ) (s n : ℕ) → map f (upto s (suc n)) ≡ map f (upto s n) ++ f (s + n) ∷ []
upto_end f s zero = ap (λ (k : ℕ). f k ∷ []) (omega arith)
upto_end f s (suc n) = ap (λ (xs : List (List ℕ)). f s ∷ xs) (upto_end f (suc s) n ∙ ap (λ (k : ℕ). map f (upto (suc s) n) ++ f k ∷ []) (omega arith))

pub upto_more : (f : ℕ → List ℕ) (n : ℕ) → map f (upto 0 (n + 1)) ≡ map f (upto 0 n) ++ f n ∷ []
upto_more f n = ap (λ (k : ℕ). map f (upto 0 k)) (add-one n) ∙ (upto_end f 0 n ∙ ap (λ (k : ℕ). map f (upto 0 n) ++ f k ∷ []) (omega arith))

-- ---- one event more

-- what is still to be taken of the events from this one on
abbrev pub still : ℕ → ℕ → ℕ → ℕ → List Event → List ℕ
still i count taken at events = take (count - taken) (grants_from i at (drop at events))

take_one : (count n at : ℕ) (rest : List ℕ) → n < count → take (count - n) (at ∷ rest) ≡ at ∷ take (count - (n + 1)) rest
take_one count n at rest lt = ap (λ (k : ℕ). take k (at ∷ rest)) (let one : count - n ≡ suc (count - (n + 1)) = omega (arith, lt) in one)

take_none : {A : Type 0} (count n : ℕ) (xs : List A) → count ≤ n → take (count - n) xs ≡ []
take_none count n [] le = ap (λ (k : ℕ). take k []) (let none : count - n ≡ zero = omega (arith, le) in none)
take_none count n (x ∷ xs) le = ap (λ (k : ℕ). take k (x ∷ xs)) (let none : count - n ≡ zero = omega (arith, le) in none)

drop_at : (events : List Event) (at : ℕ) (d : Event) → at < length events → drop at events ≡ get_or events at d ∷ drop (suc at) events
drop_at [] at d lt = absurd (omega (arith, lt))
drop_at (e ∷ es) zero d lt = refl
drop_at (e ∷ es) (suc at) d lt = drop_at es at d (omega (arith, lt))

module _ (i count n at : ℕ) (events : List Event) (d : Event) (lt : at < length events) where
  opened : still i count n at events ≡ take (count - n) (cond (is_grant_of i (get_or events at d)) (at ∷ grants_from i (suc at) (drop (suc at) events)) (grants_from i (suc at) (drop (suc at) events)))
  opened = ap (λ (es : List Event). take (count - n) (grants_from i at es)) (drop_at events at d lt)

  next : take (count - n) (grants_from i (suc at) (drop (suc at) events)) ≡ still i count n (at + 1) events
  next = ap (λ (k : ℕ). take (count - n) (grants_from i k (drop k events))) (sym (add-one at))

  -- a grant that is taken
  pub one_taken : n < count → is_grant_of i (get_or events at d) ≡ true → still i count n at events ≡ at ∷ still i count (n + 1) (at + 1) events
  one_taken few is =
      opened
      ∙ (ap (λ (b : Bool). take (count - n) (cond b (at ∷ grants_from i (suc at) (drop (suc at) events)) (grants_from i (suc at) (drop (suc at) events)))) is
      ∙ (take_one count n at (grants_from i (suc at) (drop (suc at) events)) few
      ∙ ap (λ (k : ℕ). at ∷ take (count - (n + 1)) (grants_from i k (drop k events))) (sym (add-one at))))

  -- another event
  pub one_passed : is_grant_of i (get_or events at d) ≡ false → still i count n at events ≡ still i count n (at + 1) events
  one_passed is =
      opened
      ∙ (ap (λ (b : Bool). take (count - n) (cond b (at ∷ grants_from i (suc at) (drop (suc at) events)) (grants_from i (suc at) (drop (suc at) events)))) is
      ∙ next)

  -- or none is to be taken any more
  pub all_taken : count ≤ n → still i count n at events ≡ still i count n (at + 1) events
  all_taken many =
      take_none count n (grants_from i at (drop at events)) many
      ∙ sym (take_none count n (grants_from i (at + 1) (drop (at + 1) events)) many)

-- the places of one input more
pub place_more : (all : List (Vec ℕ Global)) (v : Vec ℕ Global) → places_in (all ++ v ∷ []) ≡ places_in all ++ v.items ∷ []
place_more [] v = refl
place_more (x ∷ all) v = ap (λ (xs : List (List ℕ)). x.items ∷ xs) (place_more all v)
