-- What no longer matters is let go: nothing that is still shown changes.
use Rattle.std.specs.Prelude.{◌≡◌, ℕ, suc, ◌+◌, ◌<◌, ◌≤◌, ◌⊎◌, Bool, true, false, ◌||◌, ◌&&◌, not, nat_le, nat_eq, List, [], ◌∷◌, ◌++◌, refl}
use Rattle.std.proofs.Common.{inl, inr, ap, sym, ◌∙◌, subst, arith}
use Rattle.std.proofs.lemmas.Bool.{cases_Bool, cases_lt, or_left, or_right, and_parts, and_from, and_left, le-leb, lt-leb, ne_eqb, false_from_ne_true}
use Rattle.ff_stream.specs.Stream.{Stream, is_open, is_whole, is_broken}
use Rattle.ff_stream.specs.laws.Order.{same_stream}
use Rattle.ff_fsync.specs.Events.{events_same}
use Rattle.ff_fsync.specs.Ranges.{all_to, any_to, all_at, all_from, any_at, any_from, none_from, all_same, any_same}
use Rattle.ff_fsync.specs.Synced.{is_empty, some_of, each_of, last_of, later_of, pick, all_ended, ended_mark, mark_by, Timing, starts, begun, reached, is_known, is_ready, is_shown, pictures, horizon, outlasts, is_complete, allows, may_come, goes_on, synced_mark, synced_from}
use Rattle.ff_fsync.specs.laws.Rising.{Rises, some_append, last_append, rises_drop}
use Rattle.ff_fsync.specs.laws.SyncLaws.{open_is, Risen, Alike, AllReached, clash, alike_shown, alike_pictures, reached_sooner, complete_cases, complete_all, complete_ends, shown_enough, goes_on_cases, goes_on_by}

same_bool : (a b : Bool) → (a ≡ true → b ≡ true) → (b ≡ true → a ≡ true) → a ≡ b
same_bool true b f g = sym (f refl)
same_bool false true f g = g refl
same_bool false false f g = refl

module _ {A : Type 0} where
  -- before an item by a time, others are let go
  pub record Drops (at : A → ℕ) (t : ℕ) (r s : Stream A) : Type 0 where
    pub gone : List A
    pub first : A
    pub others : List A
    pub was : r.items ≡ gone ++ first ∷ others
    pub now : s.items ≡ first ∷ others
    pub by : at first ≤ t
    pub mark : r.mark ≡ s.mark

  module _ (at : A → ℕ) where
    -- each of the first ones is before the next
    gone_before : (lo : ℕ) (xs : List A) (z : A) (ys : List A) (f : A → Bool) → Rises at lo (xs ++ z ∷ ys) → ((x : A) → at x < at z → f x ≡ false) → some_of f xs ≡ false
    gone_before lo [] z ys f r h = refl
    gone_before lo (x ∷ xs) z ys f r h =
        let rest = gone_before (suc (at x)) xs z ys f r.1 h in
        let lt : at x < at z = (rises_drop at (suc (at x)) xs (z ∷ ys) r.1).0 in
        rw (h x (omega (arith, lt))) rest

    gone_each : (lo : ℕ) (xs : List A) (z : A) (ys : List A) (f : A → Bool) → Rises at lo (xs ++ z ∷ ys) → ((x : A) → at x < at z → f x ≡ true) → each_of f (z ∷ ys) ≡ true → each_of f (xs ++ z ∷ ys) ≡ true
    gone_each lo [] z ys f r h e = e
    gone_each lo (x ∷ xs) z ys f r h e =
        let lt : at x < at z = (rises_drop at (suc (at x)) xs (z ∷ ys) r.1).0 in
        and_from _ _ (h x (omega (arith, lt))) (gone_each (suc (at x)) xs z ys f r.1 h e)

  each_drop : (f : A → Bool) (xs ys : List A) → each_of f (xs ++ ys) ≡ true → each_of f ys ≡ true
  each_drop f [] ys e = e
  each_drop f (x ∷ xs) ys e = each_drop f xs ys ((and_parts (f x) (each_of f (xs ++ ys)) e).1)

  later_some : (xs ys : List A) → is_empty xs ≡ false → later_of xs ys ≡ xs
  later_some [] ys e = cc
  later_some (x ∷ xs) ys e = refl

  later_left : (xs ys : List A) → is_empty ys ≡ false → is_empty (later_of xs ys) ≡ false
  later_left [] ys e = e
  later_left (x ∷ xs) ys e = refl

  module _ (k : Timing A) (t : ℕ) (rs ss : ℕ → Stream A) (risen : Risen k rs) (how : (p : ℕ) → p < k.inputs → (rs p ≡ ss p) ⊎ Drops (k.at p) t (rs p) (ss p)) where
    rise_of : (p : ℕ) (d : Drops (k.at p) t (rs p) (ss p)) → Rises (k.at p) 0 (d.gone ++ d.first ∷ d.others)
    rise_of p d = subst (λ (xs : List A). Rises (k.at p) 0 xs) d.was (risen p)

    drop_some : (p : ℕ) (d : Drops (k.at p) t (rs p) (ss p)) (f : A → Bool) → ((x : A) → k.at p x < k.at p d.first → f x ≡ false) → some_of f (rs p).items ≡ some_of f (ss p).items
    drop_some p d f h =
        ap (λ (xs : List A). some_of f xs) d.was ∙ (some_append f d.gone (d.first ∷ d.others)
        ∙ (ap (λ b. b || some_of f (d.first ∷ d.others)) (gone_before (k.at p) 0 d.gone d.first d.others f (rise_of p d) h)
        ∙ ap (λ (xs : List A). some_of f xs) (sym d.now)))

    mark_same : (p : ℕ) → p < k.inputs → (rs p).mark ≡ (ss p).mark
    mark_same p lt = elim (how p lt) as (λ _. (rs p).mark ≡ (ss p).mark) [ inl e ↦ ap (λ (s : Stream A). s.mark) e | inr d ↦ d.mark ]

    some_here : (p : ℕ) (d : Drops (k.at p) t (rs p) (ss p)) (f : A → Bool) → f d.first ≡ true → (some_of f (rs p).items ≡ true) × (some_of f (ss p).items ≡ true)
    some_here p d f e = (
      ap (λ (xs : List A). some_of f xs) d.was ∙ (some_append f d.gone (d.first ∷ d.others) ∙ or_right (some_of f d.gone) _ (or_left (f d.first) _ e)),
      ap (λ (xs : List A). some_of f xs) d.now ∙ or_left (f d.first) _ e,
    )

    -- who has reached a time has reached it still
    drop_reached : (u p : ℕ) → p < k.inputs → reached k rs u p ≡ reached k ss u p
    drop_reached u p lt = elim (how p lt) as (λ _. reached k rs u p ≡ reached k ss u p) [
      | inl e ↦ ap (λ (s : Stream A). some_of (λ x. nat_le u (k.at p x)) s.items) e
      | inr d ↦ elim (cases_lt (k.at p d.first) u) as (λ _. reached k rs u p ≡ reached k ss u p) [
        | inl less ↦ drop_some p d (λ x. nat_le u (k.at p x)) (λ x l. lt-leb u (k.at p x) (omega (arith, l, less)))
        | inr le ↦ (let b = some_here p d (λ x. nat_le u (k.at p x)) (le-leb u (k.at p d.first) le) in b.0 ∙ sym b.1)
      ]
    ]

    drop_begun : (u p : ℕ) → p < k.inputs → t ≤ u → begun k rs u p ≡ begun k ss u p
    drop_begun u p lt le = elim (how p lt) as (λ _. begun k rs u p ≡ begun k ss u p) [
      | inl e ↦ ap (λ (s : Stream A). some_of (λ x. nat_le (k.at p x) u) s.items) e
      | inr d ↦ (let b = some_here p d (λ x. nat_le (k.at p x) u) (le-leb (k.at p d.first) u (omega (arith, d.by, le))) in b.0 ∙ sym b.1)
    ]

    drop_starts : (u p : ℕ) → p < k.inputs → t ≤ u → starts k rs u p ≡ starts k ss u p
    drop_starts u p lt le = elim (how p lt) as (λ _. starts k rs u p ≡ starts k ss u p) [
      | inl e ↦ ap (λ (s : Stream A). some_of (λ x. nat_eq (k.at p x) u) s.items) e
      | inr d ↦ drop_some p d (λ x. nat_eq (k.at p x) u) (λ x l. ne_eqb (k.at p x) u (λ e. omega (arith, e, l, d.by, le)))
    ]

    drop_ready : (u p : ℕ) → p < k.inputs → t ≤ u → is_ready k rs u p ≡ is_ready k ss u p
    drop_ready u p lt le = rw (drop_begun u p lt le, drop_reached u p lt, mark_same p lt) refl

    drop_last : (u p : ℕ) → p < k.inputs → t ≤ u → last_of (λ x. nat_le (k.at p x) u) (rs p).items ≡ last_of (λ x. nat_le (k.at p x) u) (ss p).items
    drop_last u p lt le = elim (how p lt) as (λ _. last_of (λ x. nat_le (k.at p x) u) (rs p).items ≡ last_of (λ x. nat_le (k.at p x) u) (ss p).items) [
      | inl e ↦ ap (λ (s : Stream A). last_of (λ x. nat_le (k.at p x) u) s.items) e
      | inr d ↦ (
          let f : A → Bool = λ x. nat_le (k.at p x) u in
          let here : f d.first ≡ true = le-leb (k.at p d.first) u (omega (arith, d.by, le)) in
          let found : is_empty (last_of f (d.first ∷ d.others)) ≡ false = later_left (last_of f d.others) (pick (f d.first) d.first) (ap (λ b. is_empty (pick b d.first)) here) in
          ap (λ (xs : List A). last_of f xs) d.was ∙ (last_append f d.gone (d.first ∷ d.others) ∙ (later_some (last_of f (d.first ∷ d.others)) (last_of f d.gone) found ∙ ap (λ (xs : List A). last_of f xs) (sym d.now)))
          )
    ]

    drop_alike : (u p : ℕ) → p < k.inputs → t ≤ u → Alike k rs ss u p
    drop_alike u p lt le = record { starts_same = drop_starts u p lt le; ready_same = drop_ready u p lt le; last_same = drop_last u p lt le }

    pub drop_shown : (u : ℕ) → t ≤ u → is_shown k rs u ≡ is_shown k ss u
    drop_shown u le = alike_shown k rs ss u (λ p lt. drop_alike u p lt le)

    pub drop_pictures : (u : ℕ) → t ≤ u → pictures k rs u ≡ pictures k ss u
    drop_pictures u le = alike_pictures k rs ss u (λ p lt. drop_alike u p lt le)

    some_drop : (f : A → Bool) (p : ℕ) → p < k.inputs → some_of f (ss p).items ≡ true → some_of f (rs p).items ≡ true
    some_drop f p lt e = elim (how p lt) as (λ _. some_of f (rs p).items ≡ true) [
      | inl same ↦ subst (λ (s : Stream A). some_of f s.items ≡ true) (sym same) e
      | inr d ↦ ap (λ (xs : List A). some_of f xs) d.was ∙ (some_append f d.gone (d.first ∷ d.others) ∙ or_right (some_of f d.gone) _ (ap (λ (xs : List A). some_of f xs) (sym d.now) ∙ e))
    ]

    -- what is shown is no more than before
    pub drop_no_more : (u : ℕ) → is_shown k ss u ≡ true → is_shown k rs u ≡ true
    drop_no_more u e =
        let b = and_parts (any_to k.inputs (starts k ss u)) (all_to k.inputs (is_ready k ss u)) e in
        let s = any_at k.inputs (starts k ss u) b.0 in
        and_from _ _ (any_from k.inputs (starts k rs u) s.0 s.1 (some_drop (λ x. nat_eq (k.at s.0 x) u) s.0 s.1 s.2))
        (all_from k.inputs (is_ready k rs u) (λ p lt.
        let r = and_parts (begun k ss u p) (is_known k ss u p) (all_at k.inputs (is_ready k ss u) b.1 p lt) in
        and_from _ _ (some_drop (λ x. nat_le (k.at p x) u) p lt r.0) (rw (drop_reached u p lt, mark_same p lt) r.1)))

    empty_same : (p : ℕ) → p < k.inputs → is_empty (rs p).items ≡ is_empty (ss p).items
    empty_same p lt = elim (how p lt) as (λ _. is_empty (rs p).items ≡ is_empty (ss p).items) [
      | inl e ↦ ap (λ (s : Stream A). is_empty s.items) e
      | inr d ↦ ap (λ (xs : List A). is_empty xs) d.was ∙ (at d.first d.others d.gone ∙ ap (λ (xs : List A). is_empty xs) (sym d.now))
    ]
      where
        at : (z : A) (zs xs : List A) → is_empty (xs ++ z ∷ zs) ≡ false
        at z zs [] = refl
        at z zs (x ∷ xs) = refl

    fun_same : (f g : A → Bool) → ((x : A) → f x ≡ g x) → f ≡ g
    fun_same f g h i x = h x i

    reach_same : (p q : ℕ) → q < k.inputs → (let f : A → Bool = λ x. reached k rs (k.at p x) q in f) ≡ (let g : A → Bool = λ x. reached k ss (k.at p x) q in g)
    reach_same p q lt = fun_same (λ x. reached k rs (k.at p x) q) (λ x. reached k ss (k.at p x) q) (λ x. drop_reached (k.at p x) q lt)

    outlasts_fewer : (p q : ℕ) → p < k.inputs → q < k.inputs → outlasts k rs p q ≡ true → outlasts k ss p q ≡ true
    outlasts_fewer p q lt lq e = let f : A → Bool = λ x. reached k ss (k.at p x) q in
        let e' : each_of f (rs p).items ≡ true = subst (λ (g : A → Bool). each_of g (rs p).items ≡ true) (reach_same p q lq) e in
        elim (how p lt) as (λ _. each_of f (ss p).items ≡ true) [
          | inl same ↦ subst (λ (s : Stream A). each_of f s.items ≡ true) same e'
          | inr d ↦ ap (λ (xs : List A). each_of f xs) d.now ∙ each_drop f d.gone (d.first ∷ d.others) (ap (λ (xs : List A). each_of f xs) (sym d.was) ∙ e')
        ]

    outlasts_more : (p q : ℕ) → p < k.inputs → q < k.inputs → outlasts k ss p q ≡ true → outlasts k rs p q ≡ true
    outlasts_more p q lt lq e = let f : A → Bool = λ x. reached k rs (k.at p x) q in
        let e' : each_of f (ss p).items ≡ true = subst (λ (g : A → Bool). each_of g (ss p).items ≡ true) (sym (reach_same p q lq)) e in
        elim (how p lt) as (λ _. each_of f (rs p).items ≡ true) [
          | inl same ↦ subst (λ (s : Stream A). each_of f s.items ≡ true) (sym same) e'
          | inr d ↦ (
              let now : each_of f (d.first ∷ d.others) ≡ true = ap (λ (xs : List A). each_of f xs) (sym d.now) ∙ e' in
              let first : reached k rs (k.at p d.first) q ≡ true = (and_parts (f d.first) (each_of f d.others) now).0 in
              ap (λ (xs : List A). each_of f xs) d.was
              ∙ gone_each (k.at p) 0 d.gone d.first d.others f (rise_of p d) (λ x l. reached_sooner k rs (k.at p d.first) (k.at p x) q (omega (arith, l)) first) now
              )
        ]

    whole_same : (p : ℕ) → p < k.inputs → is_whole (rs p).mark ≡ is_whole (ss p).mark
    whole_same p lt = ap is_whole (mark_same p lt)

    pub drop_complete : is_complete k rs ≡ is_complete k ss
    drop_complete = same_bool (is_complete k rs) (is_complete k ss) there back
      where
        there : is_complete k rs ≡ true → is_complete k ss ≡ true
        there e = elim (complete_cases k rs e) as (λ _. is_complete k ss ≡ true) [
          | inl all ↦ complete_all k ss (λ p lt. sym (whole_same p lt) ∙ all p lt)
          | inr s ↦ complete_ends k ss s.0 s.1 (record {
            is_all = sym (whole_same s.0 s.1) ∙ (s.2).is_all;
            how = elim ((s.2).how) as (λ _. (k.shortest ≡ true) ⊎ (is_empty (ss s.0).items ≡ true)) [ inl a ↦ inl a | inr b ↦ inr (sym (empty_same s.0 s.1) ∙ b) ];
            others = λ q lt. elim ((s.2).others q lt) as (λ _. (is_whole (ss q).mark ≡ true) ⊎ (outlasts k ss s.0 q ≡ true)) [ inl w ↦ inl (sym (whole_same q lt) ∙ w) | inr o ↦ inr (outlasts_fewer s.0 q s.1 lt o) ];
          })
        ]

        back : is_complete k ss ≡ true → is_complete k rs ≡ true
        back e = elim (complete_cases k ss e) as (λ _. is_complete k rs ≡ true) [
          | inl all ↦ complete_all k rs (λ p lt. whole_same p lt ∙ all p lt)
          | inr s ↦ complete_ends k rs s.0 s.1 (record {
            is_all = whole_same s.0 s.1 ∙ (s.2).is_all;
            how = elim ((s.2).how) as (λ _. (k.shortest ≡ true) ⊎ (is_empty (rs s.0).items ≡ true)) [ inl a ↦ inl a | inr b ↦ inr (empty_same s.0 s.1 ∙ b) ];
            others = λ q lt. elim ((s.2).others q lt) as (λ _. (is_whole (rs q).mark ≡ true) ⊎ (outlasts k rs s.0 q ≡ true)) [ inl w ↦ inl (whole_same q lt ∙ w) | inr o ↦ inr (outlasts_more s.0 q s.1 lt o) ];
          })
        ]

    drop_allows : (u p : ℕ) → p < k.inputs → t ≤ u → allows k rs u p ≡ allows k ss u p
    drop_allows u p lt le = rw (drop_begun u p lt le, drop_reached u p lt, mark_same p lt, empty_same p lt) refl

    behind_same : (u : ℕ) → any_to k.inputs (λ p. is_open (rs p).mark && not (reached k rs u p)) ≡ any_to k.inputs (λ p. is_open (ss p).mark && not (reached k ss u p))
    behind_same u = any_same k.inputs (λ p. is_open (rs p).mark && not (reached k rs u p)) (λ p. is_open (ss p).mark && not (reached k ss u p)) (λ p lt. rw (mark_same p lt, drop_reached u p lt) refl)

  -- the same for the streams whose open inputs end
  pub ended_drops : (k : Timing A) (t : ℕ) (rs ss : ℕ → Stream A) → ((p : ℕ) → p < k.inputs → (rs p ≡ ss p) ⊎ Drops (k.at p) t (rs p) (ss p)) → (p : ℕ) → p < k.inputs → (all_ended rs p ≡ all_ended ss p) ⊎ Drops (k.at p) t (all_ended rs p) (all_ended ss p)
  ended_drops k t rs ss how p lt = elim (how p lt) as (λ _. (all_ended rs p ≡ all_ended ss p) ⊎ Drops (k.at p) t (all_ended rs p) (all_ended ss p)) [
    | inl e ↦ inl (ap (λ (s : Stream A). let r : Stream A = record { items = s.items; mark = ended_mark s.mark } in r) e)
    | inr d ↦ inr (record { gone = d.gone; first = d.first; others = d.others; was = d.was; now = d.now; by = d.by; mark = ap ended_mark d.mark })
  ]

  module _ (k : Timing A) (t : ℕ) (rs ss : ℕ → Stream A) (risen : Risen k rs) (how : (p : ℕ) → p < k.inputs → (rs p ≡ ss p) ⊎ Drops (k.at p) t (rs p) (ss p)) (came : AllReached k rs t) where
    -- up to the time nothing further may come, and behind it the same
    may_come_same : (u : ℕ) → may_come k rs u ≡ may_come k ss u
    may_come_same u = elim (cases_lt t u) as (λ _. may_come k rs u ≡ may_come k ss u) [
      | inl less ↦ rw (behind_same k t rs ss risen how u, all_same k.inputs (allows k rs u) (allows k ss u) (λ p lt. drop_allows k t rs ss risen how u p lt (omega (arith, less)))) refl
      | inr le ↦ (
          let none : any_to k.inputs (λ p. is_open (rs p).mark && not (reached k rs u p)) ≡ false =
          none_from k.inputs (λ p. is_open (rs p).mark && not (reached k rs u p)) (λ p lt. elim (cases_Bool (is_open (rs p).mark)) as (λ _. (is_open (rs p).mark && not (reached k rs u p)) ≡ false) [
            | inl o ↦ rw (reached_sooner k rs t u p le (came p lt (open_is (rs p).mark o)), o) refl
            | inr c ↦ and_left _ _ c
          ]) in
          and_left _ _ none ∙ sym (and_left _ _ (sym (behind_same k t rs ss risen how u) ∙ none))
          )
    ]

    lost_same : any_to k.inputs (λ p. is_broken (rs p).mark) ≡ any_to k.inputs (λ p. is_broken (ss p).mark)
    lost_same = any_same k.inputs (λ p. is_broken (rs p).mark) (λ p. is_broken (ss p).mark) (λ p lt. ap is_broken (mark_same k t rs ss risen how p lt))

    ended_same : is_complete k (all_ended rs) ≡ is_complete k (all_ended ss)
    ended_same = drop_complete k t (all_ended rs) (all_ended ss) risen (ended_drops k t rs ss how)

    goes_on_same : any_to k.inputs (λ p. is_broken (rs p).mark) ≡ true → goes_on k rs ≡ goes_on k ss
    goes_on_same l = same_bool (goes_on k rs) (goes_on k ss)
        (λ e. elim (goes_on_cases k rs e) as (λ _. goes_on k ss ≡ true) [
          | inl c ↦ or_left _ _ (sym ended_same ∙ c)
          | inr f ↦ (let s = any_at k.inputs (λ p. is_broken (ss p).mark) (sym lost_same ∙ l) in goes_on_by k ss f.0 s.0 s.1 s.2 (sym (may_come_same f.0) ∙ f.1))
        ])
        (λ e. elim (goes_on_cases k ss e) as (λ _. goes_on k rs ≡ true) [
          | inl c ↦ or_left _ _ (ended_same ∙ c)
          | inr f ↦ (let s = any_at k.inputs (λ p. is_broken (rs p).mark) l in goes_on_by k rs f.0 s.0 s.1 s.2 (may_come_same f.0 ∙ f.1))
        ])

    mark_by_same : (w b g g' : Bool) → (b ≡ true → g ≡ g') → mark_by w b g ≡ mark_by w b g'
    mark_by_same true b g g' h = refl
    mark_by_same false true g g' h = ap (λ x. mark_by false true x) (h refl)
    mark_by_same false false g g' h = refl

    pub drop_mark : synced_mark k rs ≡ synced_mark k ss
    drop_mark = mark_by_same (is_complete k rs) (any_to k.inputs (λ p. is_broken (rs p).mark)) (goes_on k rs) (goes_on k ss) goes_on_same
        ∙ rw (drop_complete k t rs ss risen how, lost_same) refl

    -- where nothing is shown before the time, all that is shown is the same
    pub drop_synced : {B : Type 0} (show : ℕ → List A → B) (from : ℕ) → ((u : ℕ) → from ≤ u → u < t → is_shown k rs u ≡ false) → synced_from k show from rs ≡ synced_from k show from ss
    drop_synced {B} show from none =
        let j = horizon k rs + horizon k ss in
        let same : (u : ℕ) → from ≤ u → is_shown k rs u ≡ is_shown k ss u = λ u le. elim (cases_lt u t) as (λ _. is_shown k rs u ≡ is_shown k ss u) [
          | inl less ↦ none u le less ∙ sym (false_from_ne_true (is_shown k ss u) (λ e. clash (is_shown k rs u) (drop_no_more k t rs ss risen how u e) (none u le less)))
          | inr ge ↦ drop_shown k t rs ss risen how u ge
        ] in
        let says : (u : ℕ) → from ≤ u → is_shown k rs u ≡ true → show u (pictures k rs u) ≡ show u (pictures k ss u) = λ u le e. elim (cases_lt u t) as (λ _. show u (pictures k rs u) ≡ show u (pictures k ss u)) [
          | inl less ↦ clash (is_shown k rs u) e (none u le less)
          | inr ge ↦ ap (show u) (drop_pictures k t rs ss risen how u ge)
        ] in
        let items : (synced_from k show from rs).items ≡ (synced_from k show from ss).items =
        shown_enough k (λ u. show u (pictures k rs u)) from j rs (omega arith)
        ∙ (events_same (is_shown k rs) (is_shown k ss) (λ u. show u (pictures k rs u)) (λ u. show u (pictures k ss u)) from j same says
        ∙ sym (shown_enough k (λ u. show u (pictures k ss u)) from j ss (omega arith))) in
        same_stream (synced_from k show from rs) (synced_from k show from ss) items drop_mark
