-- Framesync: streams further on show no less, and what was shown stays.
use Rattle.std.specs.Prelude.{◌≡◌, ◌≢◌, ℕ, zero, suc, ◌+◌, ◌-◌, ◌<◌, ◌≤◌, ◌⊎◌, Bool, true, false, ◌||◌, ◌&&◌, not, nat_lt, nat_le, nat_eq, List, [], ◌∷◌, ◌++◌, length, refl}
use Rattle.std.proofs.Common.{inl, inr, ap, sym, ◌∙◌, subst, arith}
use Rattle.std.proofs.lemmas.Bool.{cases_Bool, cases_order, cases_lt, le-leb, lt-leb, lt-ltb, ltb-true, leb-true, or_cases, or_left, or_right, or_from, and_from, and_parts, and_left, and_right, not-true, not_from_false}
use Rattle.ff_stream.specs.Stream.{Mark, still_open, whole, broken, Stream, LiesBelow, is_open, is_whole, is_broken}
use Rattle.ff_stream.specs.Ports.{IsClosed}
use Rattle.ff_stream.specs.laws.Order.{below_trans, closed_below, prefix_self}
use Rattle.ff_fsync.specs.Events.{events, events_enough, events_some, events_found}
use Rattle.ff_fsync.specs.Ranges.{all_to, any_to, all_at, all_from, any_at, any_from, not_any, fails_from, all_same, any_same, list_same}
use Rattle.ff_fsync.specs.Synced.{is_empty, some_of, each_of, last_of, later_of, past, past_to, ended_mark, all_ended, Timing, starts, begun, reached, is_known, is_ready, is_shown, pictures, horizon, outlasts, ends_with, is_complete, allows, may_come, goes_on}
use Rattle.ff_fsync.specs.laws.Rising.{Rises, some_append, last_append, some_found, none_last, rises_past, none_starts, none_begun, past_starts, past_reached}

-- input by input
abbrev pub EachBelow : {A : Type 0} → (ℕ → Stream A) → (ℕ → Stream A) → Type 0
EachBelow rs ss = (p : ℕ) → LiesBelow (rs p) (ss p)

or_nothing : (b : Bool) → (b || false) ≡ b
or_nothing true = refl
or_nothing false = refl

pub whole_is : (m : Mark) → is_whole m ≡ true → m ≡ whole
whole_is still_open e = cc
whole_is whole e = refl
whole_is broken e = cc

pub open_is : (m : Mark) → is_open m ≡ true → m ≡ still_open
open_is still_open e = refl
open_is whole e = cc
open_is broken e = cc

pub broken_is : (m : Mark) → is_broken m ≡ true → m ≡ broken
broken_is still_open e = cc
broken_is whole e = cc
broken_is broken e = refl

pub closed_is : (m : Mark) → m ≢ still_open → is_broken m ≡ false → m ≡ whole
closed_is still_open c e = absurd (c refl)
closed_is whole c e = refl
closed_is broken c e = cc

pub clash : {X : Type 0} (b : Bool) → b ≡ true → b ≡ false → X
clash b t f = let c : true ≡ false = sym t ∙ f in cc

module _ {A : Type 0} where
  pub whole_stays : (r s : Stream A) → LiesBelow r s → is_whole r.mark ≡ true → r ≡ s
  whole_stays r s h w = closed_below r s h (λ o. let c : whole ≡ still_open = sym (whole_is r.mark w) ∙ o in cc)

  pub past_at : (at : ℕ → A → ℕ) (n : ℕ) (ss : ℕ → Stream A) (p : ℕ) → p < n → past (at p) (ss p).items ≤ past_to at n ss
  past_at at zero ss p lt = absurd (omega arith)
  past_at at (suc n) ss p lt = elim (cases_order p n) as (λ _. past (at p) (ss p).items ≤ past_to at (suc n) ss) [
    | inl same ↦ subst (λ q. past (at q) (ss q).items ≤ past_to at (suc n) ss) (sym same) (omega arith)
    | inr (inl less) ↦ (let le = past_at at n ss p less in omega (arith, le))
    | inr (inr more) ↦ absurd (omega arith)
  ]

  each_some : (f g : A → Bool) (xs : List A) (c : Bool) → ((x : A) → f x ≡ true → g x ≡ true → c ≡ true) → each_of f xs ≡ true → some_of g xs ≡ true → c ≡ true
  each_some f g [] c h e s = cc
  each_some f g (x ∷ xs) c h e s = let b = and_parts (f x) (each_of f xs) e in elim (or_cases (g x) (some_of g xs) s) as (λ _. c ≡ true) [
    | inl here ↦ h x b.0 here
    | inr there ↦ each_some f g xs c h b.1 there
  ]

  pub each_take : (f : A → Bool) (xs ys : List A) → each_of f (xs ++ ys) ≡ true → each_of f xs ≡ true
  each_take f [] ys e = refl
  each_take f (x ∷ xs) ys e = let b = and_parts (f x) (each_of f (xs ++ ys)) e in and_from (f x) (each_of f xs) b.0 (each_take f xs ys b.1)

  pub each_found : (f g : A → Bool) (xs : List A) → ((x : A) → f x ≡ true → g x ≡ true) → each_of f xs ≡ true → each_of g xs ≡ true
  each_found f g [] h e = refl
  each_found f g (x ∷ xs) h e = let b = and_parts (f x) (each_of f xs) e in and_from (g x) (each_of g xs) (h x b.0) (each_found f g xs h b.1)

  empty_is : (xs : List A) → is_empty xs ≡ true → xs ≡ []
  empty_is [] e = refl
  empty_is (x ∷ xs) e = cc

  empty_below : (xs ys : List A) → is_empty (xs ++ ys) ≡ true → is_empty xs ≡ true
  empty_below [] ys e = refl
  empty_below (x ∷ xs) ys e = cc

  module _ (k : Timing A) where
    abbrev pub Risen : (ℕ → Stream A) → Type 0
    Risen ss = (p : ℕ) → Rises (k.at p) 0 (ss p).items

    -- up to a time, the two show the same of input p
    pub record Alike (rs ss : ℕ → Stream A) (u p : ℕ) : Type 0 where
      pub starts_same : starts k rs u p ≡ starts k ss u p
      pub ready_same : is_ready k rs u p ≡ is_ready k ss u p
      pub last_same : last_of (λ x. nat_le (k.at p x) u) (rs p).items ≡ last_of (λ x. nat_le (k.at p x) u) (ss p).items

    same_alike : (rs ss : ℕ → Stream A) (u p : ℕ) → rs p ≡ ss p → Alike rs ss u p
    same_alike rs ss u p e = record {
      starts_same = ap (λ (s : Stream A). some_of (λ x. nat_eq (k.at p x) u) s.items) e;
      ready_same = ap (λ (s : Stream A). some_of (λ x. nat_le (k.at p x) u) s.items && (some_of (λ x. nat_le u (k.at p x)) s.items || (is_whole s.mark && not k.shortest))) e;
      last_same = ap (λ (s : Stream A). last_of (λ x. nat_le (k.at p x) u) s.items) e;
    }

    pub reached_sooner : (ss : ℕ → Stream A) (t u p : ℕ) → u ≤ t → reached k ss t p ≡ true → reached k ss u p ≡ true
    reached_sooner ss t u p le e = some_found (λ x. nat_le t (k.at p x)) (λ x. nat_le u (k.at p x)) (ss p).items (λ x h. le-leb u (k.at p x) (let l = leb-true t (k.at p x) h in omega (arith, l))) e

    pub reached_above : (rs ss : ℕ → Stream A) (u p : ℕ) → LiesBelow (rs p) (ss p) → reached k rs u p ≡ true → reached k ss u p ≡ true
    reached_above rs ss u p (inl same) e = subst (λ (s : Stream A). some_of (λ x. nat_le u (k.at p x)) s.items ≡ true) same e
    reached_above rs ss u p (inr h) e = subst (λ (xs : List A). some_of (λ x. nat_le u (k.at p x)) xs ≡ true) h.1.1
        (some_append (λ x. nat_le u (k.at p x)) (rs p).items h.1.0 ∙ or_left _ _ e)

    frozen : (rs ss : ℕ → Stream A) (t u p : ℕ) → LiesBelow (rs p) (ss p) → Rises (k.at p) 0 (ss p).items → ((rs p).mark ≡ still_open → reached k rs t p ≡ true) → u ≤ t → Alike rs ss u p
    frozen rs ss t u p (inl same) rising held le = same_alike rs ss u p same
    frozen rs ss t u p (inr h) rising held le =
        let xs = (rs p).items in
        let zs = h.1.0 in
        let goes : xs ++ zs ≡ (ss p).items = h.1.1 in
        let late = rises_past (k.at p) 0 t xs zs (subst (λ (ys : List A). Rises (k.at p) 0 ys) (sym goes) rising) (held h.0) in
        let begun_same : begun k rs u p ≡ begun k ss u p =
        sym (ap (λ (ys : List A). some_of (λ x. nat_le (k.at p x) u) ys) (sym goes) ∙ (some_append (λ x. nat_le (k.at p x) u) xs zs ∙ (ap (λ b. some_of (λ x. nat_le (k.at p x) u) xs || b) (none_begun (k.at p) (suc t) u zs late (omega (arith, le))) ∙ or_nothing _))) in
        let here : reached k rs u p ≡ true = reached_sooner rs t u p le (held h.0) in
        let there : reached k ss u p ≡ true = reached_above rs ss u p (inr h) here in
        record {
          starts_same = sym (ap (λ (ys : List A). some_of (λ x. nat_eq (k.at p x) u) ys) (sym goes) ∙ (some_append (λ x. nat_eq (k.at p x) u) xs zs ∙ (ap (λ b. some_of (λ x. nat_eq (k.at p x) u) xs || b) (none_starts (k.at p) (suc t) u zs late (omega (arith, le))) ∙ or_nothing _)));
          ready_same = rw (begun_same, here, there) refl;
          last_same = sym (ap (λ (ys : List A). last_of (λ x. nat_le (k.at p x) u) ys) (sym goes) ∙ (last_append (λ x. nat_le (k.at p x) u) xs zs
              ∙ ap (λ (ys : List A). later_of ys (last_of (λ x. nat_le (k.at p x) u) xs)) (none_last (λ x. nat_le (k.at p x) u) zs (none_begun (k.at p) (suc t) u zs late (omega (arith, le))))));
        }

    -- up to a time that each open input has reached, both show the same
    pub alike_shown : (rs ss : ℕ → Stream A) (u : ℕ) → ((p : ℕ) → p < k.inputs → Alike rs ss u p) → is_shown k rs u ≡ is_shown k ss u
    alike_shown rs ss u h = rw (any_same k.inputs (starts k rs u) (starts k ss u) (λ p lt. (h p lt).starts_same), all_same k.inputs (is_ready k rs u) (is_ready k ss u) (λ p lt. (h p lt).ready_same)) refl

    pub alike_pictures : (rs ss : ℕ → Stream A) (u : ℕ) → ((p : ℕ) → p < k.inputs → Alike rs ss u p) → pictures k rs u ≡ pictures k ss u
    alike_pictures rs ss u h = list_same k.inputs (λ p. last_of (λ x. nat_le (k.at p x) u) (rs p).items) (λ p. last_of (λ x. nat_le (k.at p x) u) (ss p).items) (λ p lt. (h p lt).last_same)

    -- each open input has reached a time
    abbrev pub AllReached : (ℕ → Stream A) → ℕ → Type 0
    AllReached rs t = (p : ℕ) → p < k.inputs → (rs p).mark ≡ still_open → reached k rs t p ≡ true

    all_alike : (rs ss : ℕ → Stream A) (t u : ℕ) → EachBelow rs ss → Risen ss → AllReached rs t → u ≤ t → (p : ℕ) → p < k.inputs → Alike rs ss u p
    all_alike rs ss t u h rising held le p lt = frozen rs ss t u p (h p) (rising p) (held p lt) le

    pub ready_at : (rs : ℕ → Stream A) (t : ℕ) → is_shown k rs t ≡ true → (p : ℕ) → p < k.inputs → (begun k rs t p ≡ true) × (is_known k rs t p ≡ true)
    ready_at rs t e p lt =
        let all = all_at k.inputs (is_ready k rs t) ((and_parts (any_to k.inputs (starts k rs t)) (all_to k.inputs (is_ready k rs t)) e).1) p lt in
        and_parts (begun k rs t p) (is_known k rs t p) all

    pub known_open : (rs : ℕ → Stream A) (t p : ℕ) → is_known k rs t p ≡ true → is_whole (rs p).mark ≡ false → reached k rs t p ≡ true
    known_open rs t p e w = elim (or_cases (reached k rs t p) (is_whole (rs p).mark && not k.shortest) e) as (λ _. reached k rs t p ≡ true) [
      | inl r ↦ r
      | inr b ↦ clash (is_whole (rs p).mark) ((and_parts (is_whole (rs p).mark) (not k.shortest) b).0) w
    ]

    open_not_whole : (m : Mark) → m ≡ still_open → is_whole m ≡ false
    open_not_whole m e = ap is_whole e

    pub shown_reached : (rs : ℕ → Stream A) (t : ℕ) → is_shown k rs t ≡ true → AllReached rs t
    shown_reached rs t e p lt o = known_open rs t p ((ready_at rs t e p lt).1) (open_not_whole (rs p).mark o)

    pub shown_stays : (rs ss : ℕ → Stream A) (t : ℕ) → EachBelow rs ss → Risen ss → is_shown k rs t ≡ true → (is_shown k ss t ≡ true) × (pictures k rs t ≡ pictures k ss t)
    shown_stays rs ss t h rising e =
        let alike = all_alike rs ss t t h rising (shown_reached rs t e) (omega arith) in
        (sym (alike_shown rs ss t alike) ∙ e, alike_pictures rs ss t alike)

    -- nothing is shown behind a time that is new
    pub shown_in_order : (rs ss : ℕ → Stream A) (t u : ℕ) → EachBelow rs ss → Risen ss → is_shown k ss t ≡ true → is_shown k rs t ≡ false → t < u → is_shown k rs u ≡ false
    shown_in_order rs ss t u h rising e n lt = elim (cases_Bool (is_shown k rs u)) [
      | inl s ↦ (
          let alike = all_alike rs ss u t h rising (shown_reached rs u s) (omega (arith, lt)) in
          clash (is_shown k rs t) (alike_shown rs ss t alike ∙ e) n
          )
      | inr f ↦ f
    ]

    pub shown_below : (ss : ℕ → Stream A) (t : ℕ) → is_shown k ss t ≡ true → t < horizon k ss
    shown_below ss t e =
        let s = any_at k.inputs (starts k ss t) ((and_parts (any_to k.inputs (starts k ss t)) (all_to k.inputs (is_ready k ss t)) e).0) in
        let lt = past_starts (k.at s.0) (ss s.0).items t s.2 in
        let le = past_at k.at k.inputs ss s.0 s.1 in
        omega (arith, lt, le)

    -- whatever is past it makes no difference
    pub shown_enough : {B : Type 0} (f : ℕ → B) (from j : ℕ) (ss : ℕ → Stream A) → horizon k ss ≤ from + j → events (is_shown k ss) f from (horizon k ss - from) ≡ events (is_shown k ss) f from j
    shown_enough f from j ss le = sym (events_enough (is_shown k ss) f from (horizon k ss - from) j (omega (arith, le)) (λ t b e. let lt = shown_below ss t e in omega (arith, b, lt)))

    outlasts_reached : (ss : ℕ → Stream A) (t p q : ℕ) → outlasts k ss p q ≡ true → reached k ss t p ≡ true → reached k ss t q ≡ true
    outlasts_reached ss t p q o r = each_some (λ x. reached k ss (k.at p x) q) (λ x. nat_le t (k.at p x)) (ss p).items (reached k ss t q)
        (λ x a b. reached_sooner ss (k.at p x) t q (leb-true t (k.at p x) b) a) o r

    -- what an input with which the output ends has come to
    pub record Ends (ss : ℕ → Stream A) (p : ℕ) : Type 0 where
      pub is_all : is_whole (ss p).mark ≡ true
      pub how : (k.shortest ≡ true) ⊎ (is_empty (ss p).items ≡ true)
      pub others : (q : ℕ) → q < k.inputs → (is_whole (ss q).mark ≡ true) ⊎ (outlasts k ss p q ≡ true)

    pub ends_at : (ss : ℕ → Stream A) (p : ℕ) → ends_with k ss p ≡ true → Ends ss p
    ends_at ss p e =
        let a = and_parts (is_whole (ss p).mark) ((k.shortest || is_empty (ss p).items) && all_to k.inputs (λ q. is_whole (ss q).mark || outlasts k ss p q)) e in
        let b = and_parts (k.shortest || is_empty (ss p).items) (all_to k.inputs (λ q. is_whole (ss q).mark || outlasts k ss p q)) a.1 in
        record {
          is_all = a.0;
          how = or_cases k.shortest (is_empty (ss p).items) b.0;
          others = λ q lt. or_cases (is_whole (ss q).mark) (outlasts k ss p q) (all_at k.inputs (λ r. is_whole (ss r).mark || outlasts k ss p r) b.1 q lt);
        }

    or_of : (a b : Bool) → (a ≡ true) ⊎ (b ≡ true) → (a || b) ≡ true
    or_of a b (inl e) = or_left a b e
    or_of a b (inr e) = or_right a b e

    pub ends_from : (ss : ℕ → Stream A) (p : ℕ) → Ends ss p → ends_with k ss p ≡ true
    ends_from ss p e = and_from _ _ e.is_all (and_from _ _ (or_of _ _ e.how) (all_from k.inputs (λ q. is_whole (ss q).mark || outlasts k ss p q) (λ q lt. or_of _ _ (e.others q lt))))

    pub complete_cases : (ss : ℕ → Stream A) → is_complete k ss ≡ true → ((p : ℕ) → p < k.inputs → is_whole (ss p).mark ≡ true) ⊎ ((p : ℕ) × (p < k.inputs) × Ends ss p)
    complete_cases ss e = elim (or_cases (all_to k.inputs (λ p. is_whole (ss p).mark)) (any_to k.inputs (ends_with k ss)) e) as (λ _. ((p : ℕ) → p < k.inputs → is_whole (ss p).mark ≡ true) ⊎ ((p : ℕ) × (p < k.inputs) × Ends ss p)) [
      | inl all ↦ inl (all_at k.inputs (λ p. is_whole (ss p).mark) all)
      | inr some ↦ (let s = any_at k.inputs (ends_with k ss) some in inr (s.0, s.1, ends_at ss s.0 s.2))
    ]

    pub complete_all : (ss : ℕ → Stream A) → ((p : ℕ) → p < k.inputs → is_whole (ss p).mark ≡ true) → is_complete k ss ≡ true
    complete_all ss h = or_left (all_to k.inputs (λ p. is_whole (ss p).mark)) (any_to k.inputs (ends_with k ss)) (all_from k.inputs (λ p. is_whole (ss p).mark) h)

    pub complete_ends : (ss : ℕ → Stream A) (p : ℕ) → p < k.inputs → Ends ss p → is_complete k ss ≡ true
    complete_ends ss p lt e = or_right (all_to k.inputs (λ p. is_whole (ss p).mark)) (any_to k.inputs (ends_with k ss)) (any_from k.inputs (ends_with k ss) p lt (ends_from ss p e))

    outlasts_above : (rs ss : ℕ → Stream A) (p q : ℕ) → EachBelow rs ss → rs p ≡ ss p → outlasts k rs p q ≡ true → outlasts k ss p q ≡ true
    outlasts_above rs ss p q h same o =
        each_found (λ x. reached k rs (k.at p x) q) (λ x. reached k ss (k.at p x) q) (ss p).items (λ x e. reached_above rs ss (k.at p x) q (h q) e)
        (subst (λ (s : Stream A). each_of (λ x. reached k rs (k.at p x) q) s.items ≡ true) same o)

    -- what is whole stays
    pub complete_stays : (rs ss : ℕ → Stream A) → EachBelow rs ss → is_complete k rs ≡ true → is_complete k ss ≡ true
    complete_stays rs ss h e = elim (complete_cases rs e) as (λ _. is_complete k ss ≡ true) [
      | inl all ↦ complete_all ss (λ p lt. subst (λ (s : Stream A). is_whole s.mark ≡ true) (whole_stays (rs p) (ss p) (h p) (all p lt)) (all p lt))
      | inr s ↦ (
          let p = s.0 in
          let r = s.2 in
          let same : rs p ≡ ss p = whole_stays (rs p) (ss p) (h p) r.is_all in
          complete_ends ss p s.1 (record {
            is_all = subst (λ (s : Stream A). is_whole s.mark ≡ true) same r.is_all;
            how = elim (r.how) as (λ _. (k.shortest ≡ true) ⊎ (is_empty (ss p).items ≡ true)) [ inl a ↦ inl a | inr b ↦ inr (subst (λ (s : Stream A). is_empty s.items ≡ true) same b) ];
            others = λ q lt. elim (r.others q lt) as (λ _. (is_whole (ss q).mark ≡ true) ⊎ (outlasts k ss p q ≡ true)) [
              | inl w ↦ inl (subst (λ (s : Stream A). is_whole s.mark ≡ true) (whole_stays (rs q) (ss q) (h q) w) w)
              | inr o ↦ inr (outlasts_above rs ss p q h same o)
            ];
          })
          )
    ]

    not_ready : (ss : ℕ → Stream A) (t p : ℕ) → p < k.inputs → is_ready k ss t p ≡ false → is_shown k ss t ≡ false
    not_ready ss t p lt e = and_right (any_to k.inputs (starts k ss t)) (all_to k.inputs (is_ready k ss t)) (fails_from k.inputs (is_ready k ss t) p lt e)

    -- past the end of an input with which the output ends, nothing is shown
    ends_before : (ss : ℕ → Stream A) (t p : ℕ) → (k.shortest ≡ true) ⊎ (is_empty (ss p).items ≡ true) → reached k ss t p ≡ false → is_ready k ss t p ≡ false
    ends_before ss t p (inl s) r = and_right (begun k ss t p) (is_known k ss t p) (or_from (reached k ss t p) (is_whole (ss p).mark && not k.shortest) r (and_right (is_whole (ss p).mark) (not k.shortest) (ap not s)))
    ends_before ss t p (inr e) r = and_left (begun k ss t p) (is_known k ss t p) (subst (λ (xs : List A). some_of (λ x. nat_le (k.at p x) t) xs ≡ false) (sym (empty_is (ss p).items e)) refl)

    pub complete_alike : (rs ss : ℕ → Stream A) → EachBelow rs ss → Risen ss → is_complete k rs ≡ true → (t : ℕ) → is_shown k rs t ≡ is_shown k ss t
    complete_alike rs ss h rising e t = elim (complete_cases rs e) as (λ _. is_shown k rs t ≡ is_shown k ss t) [
      | inl all ↦ alike_shown rs ss t (λ p lt. same_alike rs ss t p (whole_stays (rs p) (ss p) (h p) (all p lt)))
      | inr s ↦ (
          let p = s.0 in
          let r = s.2 in
          let same : rs p ≡ ss p = whole_stays (rs p) (ss p) (h p) r.is_all in
          elim (cases_Bool (reached k rs t p)) as (λ _. is_shown k rs t ≡ is_shown k ss t) [
            | inl here ↦ alike_shown rs ss t (all_alike rs ss t t h rising (λ q lt o. elim (r.others q lt) as (λ _. reached k rs t q ≡ true) [
              | inl w ↦ clash (is_whole (rs q).mark) w (open_not_whole (rs q).mark o)
              | inr l ↦ outlasts_reached rs t p q l here
            ]) (omega arith))
            | inr past ↦ (
                let mine = ends_before rs t p r.how past in
                not_ready rs t p s.1 mine ∙ sym (not_ready ss t p s.1 (sym ((same_alike rs ss t p same).ready_same) ∙ mine))
                )
          ]
          )
    ]

    -- what comes further, and what may become whole ------------------------------------------------------------------

    pub ended_above : (ss : ℕ → Stream A) → EachBelow ss (all_ended ss)
    ended_above ss p = at (ss p).items (ss p).mark
      where
        at : (xs : List A) (m : Mark) → LiesBelow (record { items = xs; mark = m }) (record { items = xs; mark = ended_mark m })
        at xs still_open = inr (refl, prefix_self xs)
        at xs whole = inl refl
        at xs broken = inl refl

    unbroken_ended : (r s : Stream A) → LiesBelow r s → is_whole (ended_mark s.mark) ≡ true → is_whole (ended_mark r.mark) ≡ true
    unbroken_ended r s (inl e) w = subst (λ (t : Stream A). is_whole (ended_mark t.mark) ≡ true) (sym e) w
    unbroken_ended r s (inr h) w = ap (λ m. is_whole (ended_mark m)) h.0

    whole_ended : (m : Mark) → is_whole m ≡ true → is_whole (ended_mark m) ≡ true
    whole_ended still_open e = cc
    whole_ended whole e = refl
    whole_ended broken e = cc

    empty_sooner : (r s : Stream A) → LiesBelow r s → is_empty s.items ≡ true → is_empty r.items ≡ true
    empty_sooner r s (inl e) w = subst (λ (t : Stream A). is_empty t.items ≡ true) (sym e) w
    empty_sooner r s (inr h) w = empty_below r.items h.1.0 (subst (λ (xs : List A). is_empty xs ≡ true) (sym h.1.1) w)

    each_sooner : (f : A → Bool) (r s : Stream A) → LiesBelow r s → each_of f s.items ≡ true → each_of f r.items ≡ true
    each_sooner f r s (inl e) w = subst (λ (t : Stream A). each_of f t.items ≡ true) (sym e) w
    each_sooner f r s (inr h) w = each_take f r.items h.1.0 (subst (λ (xs : List A). each_of f xs ≡ true) (sym h.1.1) w)

    -- of the streams above, none that becomes whole does so sooner than those whose open inputs end
    pub complete_sooner : (rs ss : ℕ → Stream A) → EachBelow rs ss → is_complete k ss ≡ true → is_complete k (all_ended rs) ≡ true
    complete_sooner rs ss h e = elim (complete_cases ss e) as (λ _. is_complete k (all_ended rs) ≡ true) [
      | inl all ↦ complete_all (all_ended rs) (λ p lt. unbroken_ended (rs p) (ss p) (h p) (whole_ended (ss p).mark (all p lt)))
      | inr s ↦ (
          let p = s.0 in
          let r = s.2 in
          complete_ends (all_ended rs) p s.1 (record {
            is_all = unbroken_ended (rs p) (ss p) (h p) (whole_ended (ss p).mark r.is_all);
            how = elim (r.how) as (λ _. (k.shortest ≡ true) ⊎ (is_empty (rs p).items ≡ true)) [ inl a ↦ inl a | inr b ↦ inr (empty_sooner (rs p) (ss p) (h p) b) ];
            others = λ q lt. elim (r.others q lt) as (λ _. (is_whole (ended_mark (rs q).mark) ≡ true) ⊎ (outlasts k (all_ended rs) p q ≡ true)) [
              | inl w ↦ inl (unbroken_ended (rs q) (ss q) (h q) (whole_ended (ss q).mark w))
              | inr o ↦ by_below p q (h q) o
            ];
          })
          )
    ]
      where
        by_below : (p q : ℕ) → LiesBelow (rs q) (ss q) → outlasts k ss p q ≡ true → (is_whole (ended_mark (rs q).mark) ≡ true) ⊎ (outlasts k (all_ended rs) p q ≡ true)
        by_below p q (inl same) o = inr (each_sooner (λ x. reached k rs (k.at p x) q) (rs p) (ss p) (h p)
            (subst (λ (s : Stream A). each_of (λ x. some_of (λ y. nat_le (k.at p x) (k.at q y)) s.items) (ss p).items ≡ true) (sym same) o))
        by_below p q (inr g) o = inl (ap (λ m. is_whole (ended_mark m)) g.0)

    first_begun : (at : A → ℕ) (t lo : ℕ) (x : A) (xs : List A) → Rises at lo (x ∷ xs) → some_of (λ y. nat_le (at y) t) (x ∷ xs) ≡ true → nat_le (at x) t ≡ true
    first_begun at t lo x xs r e = elim (cases_lt t (at x)) as (λ _. nat_le (at x) t ≡ true) [
      | inl less ↦ clash (some_of (λ y. nat_le (at y) t) (x ∷ xs)) e (rw (lt-leb (at x) t less) (none_begun at (suc (at x)) t xs r.1 (omega (arith, less))))
      | inr le ↦ le-leb (at x) t le
    ]

    begun_sooner : (at : A → ℕ) (t : ℕ) (xs ys : List A) → Rises at 0 (xs ++ ys) → some_of (λ y. nat_le (at y) t) (xs ++ ys) ≡ true → (is_empty xs ≡ true) ⊎ (some_of (λ y. nat_le (at y) t) xs ≡ true)
    begun_sooner at t [] ys r e = inl refl
    begun_sooner at t (x ∷ xs) ys r e = inr (or_left (nat_le (at x) t) (some_of (λ y. nat_le (at y) t) xs) (first_begun at t 0 x (xs ++ ys) r e))

    -- what makes an input no hindrance
    abbrev pub Allows : (ℕ → Stream A) → ℕ → ℕ → Type 0
    Allows ss t p = (is_ready k ss t p ≡ true) ⊎ ((is_open (ss p).mark ≡ true) × ((is_empty (ss p).items ≡ true) ⊎ (begun k ss t p ≡ true)))

    pub allows_cases : (ss : ℕ → Stream A) (t p : ℕ) → allows k ss t p ≡ true → Allows ss t p
    allows_cases ss t p e = elim (or_cases (is_ready k ss t p) (is_open (ss p).mark && (is_empty (ss p).items || begun k ss t p)) e) as (λ _. Allows ss t p) [
      | inl r ↦ inl r
      | inr o ↦ (let b = and_parts (is_open (ss p).mark) (is_empty (ss p).items || begun k ss t p) o in inr (b.0, or_cases (is_empty (ss p).items) (begun k ss t p) b.1))
    ]

    pub allows_from : (ss : ℕ → Stream A) (t p : ℕ) → Allows ss t p → allows k ss t p ≡ true
    allows_from ss t p (inl r) = or_left _ _ r
    allows_from ss t p (inr o) = or_right _ _ (and_from _ _ o.0 (or_of _ _ o.1))

    begun_of : (ss : ℕ → Stream A) (t p : ℕ) → Allows ss t p → (is_empty (ss p).items ≡ true) ⊎ (begun k ss t p ≡ true)
    begun_of ss t p (inl r) = inr ((and_parts (begun k ss t p) (is_known k ss t p) r).0)
    begun_of ss t p (inr o) = o.1

    -- an input that is no hindrance was none
    allows_at : (rs ss : ℕ → Stream A) (t p : ℕ) → LiesBelow (rs p) (ss p) → Rises (k.at p) 0 (ss p).items → Allows ss t p → allows k rs t p ≡ true
    allows_at rs ss t p (inl same) rising a = allows_from rs t p (subst (λ (s : Stream A).
        ((some_of (λ x. nat_le (k.at p x) t) s.items && (some_of (λ x. nat_le t (k.at p x)) s.items || (is_whole s.mark && not k.shortest))) ≡ true)
        ⊎ ((is_open s.mark ≡ true) × ((is_empty s.items ≡ true) ⊎ (some_of (λ x. nat_le (k.at p x) t) s.items ≡ true)))) (sym same) a)
    allows_at rs ss t p (inr h) rising a = allows_from rs t p (inr (
      ap is_open h.0,
      elim (begun_of ss t p a) as (λ _. (is_empty (rs p).items ≡ true) ⊎ (begun k rs t p ≡ true)) [
        | inl e ↦ inl (empty_sooner (rs p) (ss p) (inr h) e)
        | inr e ↦ begun_sooner (k.at p) t (rs p).items h.1.0 (subst (λ (xs : List A). Rises (k.at p) 0 xs) (sym h.1.1) rising) (subst (λ (xs : List A). some_of (λ x. nat_le (k.at p x) t) xs ≡ true) (sym h.1.1) e)
      ],
    ))

    -- a time at which something further is shown is one at which it might come
    pub further_may_come : (rs ss : ℕ → Stream A) (t : ℕ) → EachBelow rs ss → Risen ss → is_shown k ss t ≡ true → is_shown k rs t ≡ false → may_come k rs t ≡ true
    further_may_come rs ss t h rising e n = and_from _ _ some_behind (all_from k.inputs (allows k rs t) (λ p lt. let r = ready_at ss t e p lt in allows_at rs ss t p (h p) (rising p) (inl (and_from _ _ r.0 r.1))))
      where
        some_behind : any_to k.inputs (λ p. is_open (rs p).mark && not (reached k rs t p)) ≡ true
        some_behind = elim (cases_Bool (any_to k.inputs (λ p. is_open (rs p).mark && not (reached k rs t p)))) [
          | inl s ↦ s
          | inr f ↦ (
              let all : AllReached rs t = λ p lt o. elim (cases_Bool (reached k rs t p)) [
                | inl r ↦ r
                | inr r ↦ clash (is_open (rs p).mark && not (reached k rs t p)) (rw (o, r) refl) (not_any k.inputs (λ q. is_open (rs q).mark && not (reached k rs t q)) f p lt)
              ] in
              clash (is_shown k rs t) (alike_shown rs ss t (all_alike rs ss t t h rising all (omega arith)) ∙ e) n
              )
        ]

    open_below : (r s : Stream A) → LiesBelow r s → is_open s.mark ≡ true → is_open r.mark ≡ true
    open_below r s (inl e) o = subst (λ (t : Stream A). is_open t.mark ≡ true) (sym e) o
    open_below r s (inr h) o = ap is_open h.0

    pub may_come_sooner : (rs ss : ℕ → Stream A) (t : ℕ) → EachBelow rs ss → Risen ss → may_come k ss t ≡ true → may_come k rs t ≡ true
    may_come_sooner rs ss t h rising e =
        let b = and_parts (any_to k.inputs (λ p. is_open (ss p).mark && not (reached k ss t p))) (all_to k.inputs (allows k ss t)) e in
        let s = any_at k.inputs (λ p. is_open (ss p).mark && not (reached k ss t p)) b.0 in
        let p = s.0 in
        let o = and_parts (is_open (ss p).mark) (not (reached k ss t p)) s.2 in
        let behind : reached k rs t p ≡ false = elim (cases_Bool (reached k rs t p)) [ inl r ↦ clash (reached k ss t p) (reached_above rs ss t p (h p) r) (not-true (reached k ss t p) o.1) | inr r ↦ r ] in
        and_from _ _
        (any_from k.inputs (λ q. is_open (rs q).mark && not (reached k rs t q)) p s.1 (and_from _ _ (open_below (rs p) (ss p) (h p) o.0) (not_from_false (reached k rs t p) behind)))
        (all_from k.inputs (allows k rs t) (λ q lt. allows_at rs ss t q (h q) (rising q) (allows_cases ss t q (all_at k.inputs (allows k ss t) b.1 q lt))))

    -- where an input broke off, what may come lies before its end
    pub may_come_below : (ss : ℕ → Stream A) (t p : ℕ) → p < k.inputs → is_broken (ss p).mark ≡ true → may_come k ss t ≡ true → t < horizon k ss
    may_come_below ss t p lt b e =
        let all = all_at k.inputs (allows k ss t) ((and_parts (any_to k.inputs (λ p. is_open (ss p).mark && not (reached k ss t p))) (all_to k.inputs (allows k ss t)) e).1) p lt in
        let m : (ss p).mark ≡ broken = broken_is (ss p).mark b in
        let known : is_known k ss t p ≡ true = elim (allows_cases ss t p all) as (λ _. is_known k ss t p ≡ true) [
          | inl r ↦ (and_parts (begun k ss t p) (is_known k ss t p) r).1
          | inr o ↦ clash (is_open (ss p).mark) o.0 (ap is_open m)
        ] in
        let less = past_reached (k.at p) (ss p).items t (known_open ss t p known (ap is_whole m)) in
        let le = past_at k.at k.inputs ss p lt in
        omega (arith, less, le)

    pub goes_on_by : (ss : ℕ → Stream A) (t p : ℕ) → p < k.inputs → is_broken (ss p).mark ≡ true → may_come k ss t ≡ true → goes_on k ss ≡ true
    goes_on_by ss t p lt b e = or_right (is_complete k (all_ended ss)) _ (lt-ltb 0 _ (events_some (may_come k ss) 0 (horizon k ss) t (omega arith) (let l = may_come_below ss t p lt b e in omega (arith, l)) e))

    pub goes_on_cases : (ss : ℕ → Stream A) → goes_on k ss ≡ true → (is_complete k (all_ended ss) ≡ true) ⊎ ((t : ℕ) × (may_come k ss t ≡ true))
    goes_on_cases ss e = elim (or_cases (is_complete k (all_ended ss)) (nat_lt 0 (length (events (may_come k ss) (λ t. t) 0 (horizon k ss)))) e) as (λ _. (is_complete k (all_ended ss) ≡ true) ⊎ ((t : ℕ) × (may_come k ss t ≡ true))) [
      | inl c ↦ inl c
      | inr s ↦ (let f = events_found (may_come k ss) 0 (horizon k ss) (ltb-true 0 _ s) in inr (f.0, f.2))
    ]

    -- where streams above are whole or show something further, these go on
    pub goes_on_for : (rs ss : ℕ → Stream A) → EachBelow rs ss → Risen ss → (p : ℕ) → p < k.inputs → is_broken (rs p).mark ≡ true → (is_complete k ss ≡ true) ⊎ ((t : ℕ) × (is_shown k ss t ≡ true) × (is_shown k rs t ≡ false)) → goes_on k rs ≡ true
    goes_on_for rs ss h rising p lt b (inl c) = or_left _ _ (complete_sooner rs ss h c)
    goes_on_for rs ss h rising p lt b (inr f) = goes_on_by rs f.0 p lt b (further_may_come rs ss f.0 h rising f.1 f.2)

    below_trans_ended : (rs ss : ℕ → Stream A) → EachBelow rs ss → EachBelow rs (all_ended ss)
    below_trans_ended rs ss h p = below_trans (rs p) (ss p) (all_ended ss p) (h p) (ended_above ss p)

    pub goes_on_sooner : (rs ss : ℕ → Stream A) → EachBelow rs ss → Risen ss → (p : ℕ) → p < k.inputs → is_broken (rs p).mark ≡ true → goes_on k ss ≡ true → goes_on k rs ≡ true
    goes_on_sooner rs ss h rising p lt b e = elim (goes_on_cases ss e) as (λ _. goes_on k rs ≡ true) [
      | inl c ↦ or_left _ _ (complete_sooner rs (all_ended ss) (below_trans_ended rs ss h) c)
      | inr f ↦ goes_on_by rs f.0 p lt b (may_come_sooner rs ss f.0 h rising f.1)
    ]

    whole_closed : (m : Mark) → m ≢ still_open → is_whole (ended_mark m) ≡ true → is_whole m ≡ true
    whole_closed still_open n e = absurd (n refl)
    whole_closed whole n e = e
    whole_closed broken n e = e

    -- closed streams have ended already
    pub complete_closed : (ss : ℕ → Stream A) → ((p : ℕ) → p < k.inputs → IsClosed (ss p)) → is_complete k (all_ended ss) ≡ true → is_complete k ss ≡ true
    complete_closed ss c e = elim (complete_cases (all_ended ss) e) as (λ _. is_complete k ss ≡ true) [
      | inl all ↦ complete_all ss (λ p lt. whole_closed (ss p).mark (c p lt) (all p lt))
      | inr s ↦ complete_ends ss s.0 s.1 (record {
        is_all = whole_closed (ss s.0).mark (c s.0 s.1) (s.2).is_all;
        how = (s.2).how;
        others = λ q lt. elim ((s.2).others q lt) as (λ _. (is_whole (ss q).mark ≡ true) ⊎ (outlasts k ss s.0 q ≡ true)) [ inl w ↦ inl (whole_closed (ss q).mark (c q lt) w) | inr o ↦ inr o ];
      })
    ]

    -- only the inputs count
    pub shown_here : (rs ss : ℕ → Stream A) (t : ℕ) → ((p : ℕ) → p < k.inputs → rs p ≡ ss p) → is_shown k rs t ≡ is_shown k ss t
    shown_here rs ss t h = alike_shown rs ss t (λ p lt. same_alike rs ss t p (h p lt))

    pub pictures_here : (rs ss : ℕ → Stream A) (t : ℕ) → ((p : ℕ) → p < k.inputs → rs p ≡ ss p) → pictures k rs t ≡ pictures k ss t
    pictures_here rs ss t h = alike_pictures rs ss t (λ p lt. same_alike rs ss t p (h p lt))

    pub complete_here : (rs ss : ℕ → Stream A) → ((p : ℕ) → p < k.inputs → rs p ≡ ss p) → is_complete k rs ≡ true → is_complete k ss ≡ true
    complete_here rs ss h e = elim (complete_cases rs e) as (λ _. is_complete k ss ≡ true) [
      | inl all ↦ complete_all ss (λ p lt. subst (λ (s : Stream A). is_whole s.mark ≡ true) (h p lt) (all p lt))
      | inr s ↦ (
          let p = s.0 in
          let same = h p s.1 in
          complete_ends ss p s.1 (record {
            is_all = subst (λ (s : Stream A). is_whole s.mark ≡ true) same (s.2).is_all;
            how = elim ((s.2).how) as (λ _. (k.shortest ≡ true) ⊎ (is_empty (ss p).items ≡ true)) [ inl a ↦ inl a | inr b ↦ inr (subst (λ (s : Stream A). is_empty s.items ≡ true) same b) ];
            others = λ q lt. elim ((s.2).others q lt) as (λ _. (is_whole (ss q).mark ≡ true) ⊎ (outlasts k ss p q ≡ true)) [
              | inl w ↦ inl (subst (λ (s : Stream A). is_whole s.mark ≡ true) (h q lt) w)
              | inr o ↦ inr (subst (λ (s : Stream A). each_of (λ x. some_of (λ y. nat_le (k.at p x) (k.at q y)) (ss q).items) s.items ≡ true) same
                  (subst (λ (s : Stream A). each_of (λ x. some_of (λ y. nat_le (k.at p x) (k.at q y)) s.items) (rs p).items ≡ true) (h q lt) o))
            ];
          })
          )
    ]
