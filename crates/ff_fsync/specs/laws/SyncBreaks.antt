-- Framesync keeps the broken rule.
use Rattle.std.specs.Prelude.{◌≡◌, ℕ, zero, suc, ◌+◌, ◌<◌, ◌≤◌, Bool, true, false, ◌||◌, ◌&&◌, not, nat_le, nat_eq, List, [], ◌∷◌, ◌++◌, length, map, refl}
use Rattle.std.proofs.Common.{inl, inr, ap, sym, ◌∙◌, subst, arith}
use Rattle.std.proofs.lemmas.Bool.{cases_Bool, and_parts, and_from, or_left, or_right, or_parts, leb-false, le-leb, eq-eqb, cases_lt, not-true, false_from_ne_true}
use Rattle.ff_stream.specs.Stream.{still_open, whole, broken, Stream, LiesBelow, opened, is_open, is_whole, is_broken}
use Rattle.ff_stream.specs.Ports.{stream_at, AllBelow, nothing}
use Rattle.ff_stream.specs.laws.Order.{stream_at-opened}
use Rattle.ff_stream.specs.laws.Breaks.{IsBrokenOff, KeepsBrokenRule}
use Rattle.ff_fsync.specs.Events.{events, events_longer}
use Rattle.ff_fsync.specs.Ranges.{all_to, any_to, all_at, all_from, any_at, any_from}
use Rattle.ff_fsync.specs.Synced.{is_empty, some_of, all_ended, mark_by, Timing, starts, begun, reached, is_known, is_ready, is_shown, pictures, horizon, is_complete, allows, may_come, goes_on, synced}
use Rattle.ff_fsync.specs.laws.Rising.{Rises, some_append}
use Rattle.ff_fsync.specs.laws.SyncLaws.{complete_here, shown_here, EachBelow, Risen, Allows, allows_cases, clash, broken_is, open_is, shown_stays, shown_below, shown_reached, shown_enough, ended_above, goes_on_cases}
use Rattle.ff_fsync.specs.laws.SyncStreams.{opened_at, items_same, stuck_shown, stuck_incomplete, items_opened, complete_opened}

-- so many streams, each of items at rising times
abbrev pub AreRisen : {A : Type 0} → Timing A → List (Stream A) → Type 0
AreRisen k ss = (length ss ≡ k.inputs) × Risen k (stream_at ss)

module _ {A : Type 0} where
  -- an item more, where the stream is open and has none at or after its time
  abbrev pub filled_at : Bool → A → Stream A → Stream A
  filled_at true x s = record { items = s.items ++ x ∷ []; mark = s.mark }
  filled_at false x s = s

  filled_above : (b : Bool) (x : A) (s : Stream A) → (b ≡ true → s.mark ≡ still_open) → LiesBelow s (filled_at b x s)
  filled_above true x s o = inr (o refl, (x ∷ [], refl))
  filled_above false x s o = inl refl

  rises_more : (at : A → ℕ) (lo : ℕ) (xs : List A) (x : A) → lo ≤ at x → Rises at lo xs → some_of (λ y. nat_le (at x) (at y)) xs ≡ false → Rises at lo (xs ++ x ∷ [])
  rises_more at lo [] x le r n = (le, tt)
  rises_more at lo (y ∷ ys) x le r n =
      let b = or_parts (nat_le (at x) (at y)) (some_of (λ z. nat_le (at x) (at z)) ys) n in
      (r.0, rises_more at (suc (at y)) ys x (leb-false (at x) (at y) b.0) r.1 b.1)

  module _ (k : Timing A) (fill : ℕ → ℕ → A) (fills : (p t : ℕ) → k.at p (fill p t) ≡ t) where
    -- each open input that hasn't come to this time has an item then
    abbrev filled : ℕ → (ℕ → Stream A) → ℕ → Stream A
    filled t ss p = filled_at (is_open (ss p).mark && not (reached k ss t p)) (fill p t) (ss p)

    fills_above : (t : ℕ) (ss : ℕ → Stream A) → EachBelow ss (filled t ss)
    fills_above t ss p = filled_above (is_open (ss p).mark && not (reached k ss t p)) (fill p t) (ss p) (λ e. open_is (ss p).mark ((and_parts (is_open (ss p).mark) (not (reached k ss t p)) e).0))

    fills_rising : (t : ℕ) (ss : ℕ → Stream A) → Risen k ss → Risen k (filled t ss)
    fills_rising t ss rising p = at (is_open (ss p).mark && not (reached k ss t p)) refl
      where
        at : (b : Bool) → (is_open (ss p).mark && not (reached k ss t p)) ≡ b → Rises (k.at p) 0 (filled_at b (fill p t) (ss p)).items
        at true e = rises_more (k.at p) 0 (ss p).items (fill p t) (let l : zero ≤ k.at p (fill p t) = omega arith in l) (rising p)
            (subst (λ u. some_of (λ y. nat_le u (k.at p y)) (ss p).items ≡ false) (sym (fills p t)) (not-true (reached k ss t p) ((and_parts (is_open (ss p).mark) (not (reached k ss t p)) e).1)))
        at false e = rising p

    filled_ready : (t : ℕ) (ss : ℕ → Stream A) (p : ℕ) (b : Bool) → (is_open (ss p).mark && not (reached k ss t p)) ≡ b → Allows k ss t p
        → (some_of (λ x. nat_le (k.at p x) t) (filled_at b (fill p t) (ss p)).items ≡ true)
        × ((some_of (λ x. nat_le t (k.at p x)) (filled_at b (fill p t) (ss p)).items || (is_whole (filled_at b (fill p t) (ss p)).mark && not k.shortest)) ≡ true)
    filled_ready t ss p true e a =
        let x = fill p t in
        let here : k.at p x ≡ t = fills p t in (
          some_append (λ y. nat_le (k.at p y) t) (ss p).items (x ∷ []) ∙ or_right _ _ (or_left _ _ (le-leb (k.at p x) t (omega (arith, here)))),
          or_left _ _ (some_append (λ y. nat_le t (k.at p y)) (ss p).items (x ∷ []) ∙ or_right _ _ (or_left _ _ (le-leb t (k.at p x) (omega (arith, here))))),
        )
    filled_ready t ss p false e (inl r) = and_parts (begun k ss t p) (is_known k ss t p) r
    filled_ready t ss p false e (inr o) =
        let there : reached k ss t p ≡ true = elim (cases_Bool (reached k ss t p)) [ inl r ↦ r | inr r ↦ clash (is_open (ss p).mark && not (reached k ss t p)) (rw (o.0, r) refl) e ] in
        (elim (o.1) as (λ _. begun k ss t p ≡ true) [ inl z ↦ clash (reached k ss t p) there (no_item (ss p).items z) | inr g ↦ g ], or_left _ _ there)
      where
        no_item : (xs : List A) → is_empty xs ≡ true → some_of (λ x. nat_le t (k.at p x)) xs ≡ false
        no_item [] z = refl
        no_item (x ∷ xs) z = cc

    filled_starts : (t : ℕ) (ss : ℕ → Stream A) (p : ℕ) (b : Bool) → b ≡ true → some_of (λ x. nat_eq (k.at p x) t) (filled_at b (fill p t) (ss p)).items ≡ true
    filled_starts t ss p true e = some_append (λ y. nat_eq (k.at p y) t) (ss p).items (fill p t ∷ []) ∙ or_right _ _ (or_left _ _ (eq-eqb (k.at p (fill p t)) t (fills p t)))
    filled_starts t ss p false e = cc

    -- where something may come at a time, it comes with an item of each open input that hasn't come to it
    fills_shown : (t : ℕ) (ss : ℕ → Stream A) → may_come k ss t ≡ true → (is_shown k (filled t ss) t ≡ true) × (is_shown k ss t ≡ false)
    fills_shown t ss e =
        let b = and_parts (any_to k.inputs (λ p. is_open (ss p).mark && not (reached k ss t p))) (all_to k.inputs (allows k ss t)) e in
        let s = any_at k.inputs (λ p. is_open (ss p).mark && not (reached k ss t p)) b.0 in
        let o = and_parts (is_open (ss s.0).mark) (not (reached k ss t s.0)) s.2 in (
          and_from _ _
              (any_from k.inputs (starts k (filled t ss) t) s.0 s.1 (filled_starts t ss s.0 (is_open (ss s.0).mark && not (reached k ss t s.0)) s.2))
              (all_from k.inputs (is_ready k (filled t ss) t) (λ p lt. let r = filled_ready t ss p (is_open (ss p).mark && not (reached k ss t p)) refl (allows_cases k ss t p (all_at k.inputs (allows k ss t) b.1 p lt)) in and_from _ _ r.0 r.1)),
          false_from_ne_true (is_shown k ss t) (λ g. clash (reached k ss t s.0) (shown_reached k ss t g s.0 s.1 (open_is (ss s.0).mark o.0)) (not-true (reached k ss t s.0) o.1)),
        )

    -- the rule ---------------------------------------------------------------------------------------------------------

    -- the streams of the first so many ports, as a list
    abbrev listed_at : ℕ → (ℕ → Stream A) → List (Stream A)
    listed_at zero ss = []
    listed_at (suc n) ss = ss 0 ∷ listed_at n (λ p. ss (suc p))

    length-listed_at : (n : ℕ) (ss : ℕ → Stream A) → length (listed_at n ss) ≡ n
    length-listed_at zero ss = refl
    length-listed_at (suc n) ss = let e = length-listed_at n (λ p. ss (suc p)) in omega (arith, e)

    listed_here : (n : ℕ) (ss : ℕ → Stream A) (p : ℕ) → p < n → stream_at (listed_at n ss) p ≡ ss p
    listed_here zero ss p lt = absurd (omega arith)
    listed_here (suc n) ss zero lt = refl
    listed_here (suc n) ss (suc p) lt = listed_here n (λ q. ss (suc q)) p (omega arith)

    none_past : (ss : List (Stream A)) (p : ℕ) → length ss ≤ p → stream_at ss p ≡ nothing
    none_past [] p le = refl
    none_past (s ∷ ss) zero le = absurd (omega (arith, le))
    none_past (s ∷ ss) (suc p) le = none_past ss p (omega (arith, le))

    module _ (ss : List (Stream A)) (long : length ss ≡ k.inputs) (ws : ℕ → Stream A) where
      abbrev listed : List (Stream A)
      listed = listed_at k.inputs ws

      listed_past : (p : ℕ) → k.inputs ≤ p → stream_at listed p ≡ stream_at ss p
      listed_past p le = none_past listed p (let e = length-listed_at k.inputs ws in omega (arith, e, le)) ∙ sym (none_past ss p (omega (arith, long, le)))

      listed_above : ((p : ℕ) → LiesBelow (stream_at ss p) (ws p)) → AllBelow ss listed
      listed_above h p = elim (cases_lt p k.inputs) as (λ _. LiesBelow (stream_at ss p) (stream_at listed p)) [
        | inl lt ↦ subst (λ (s : Stream A). LiesBelow (stream_at ss p) s) (sym (listed_here k.inputs ws p lt)) (h p)
        | inr le ↦ inl (sym (listed_past p le))
      ]

      listed_risen : Risen k (stream_at ss) → Risen k ws → AreRisen k listed
      listed_risen r h = (
        length-listed_at k.inputs ws,
        λ p. elim (cases_lt p k.inputs) as (λ _. Rises (k.at p) 0 (stream_at listed p).items) [
          | inl lt ↦ subst (λ (s : Stream A). Rises (k.at p) 0 s.items) (sym (listed_here k.inputs ws p lt)) (h p)
          | inr le ↦ subst (λ (s : Stream A). Rises (k.at p) 0 s.items) (sym (listed_past p le)) (r p)
        ],
      )

    module _ {B : Type 0} (show : ℕ → List A → B) where
      abbrev means : List (Stream A) → Stream B
      means ss = synced k show (stream_at ss)

      whole_by : (w b g : Bool) → mark_by w b g ≡ whole → w ≡ true
      whole_by true b g e = refl
      whole_by false true true e = cc
      whole_by false true false e = cc
      whole_by false false g e = cc

      whole_from : (w b g : Bool) → w ≡ true → mark_by w b g ≡ whole
      whole_from true b g e = refl
      whole_from false b g e = cc

      broken_by : (w b g : Bool) → mark_by w b g ≡ broken → (w ≡ false) × (b ≡ true) × (g ≡ false)
      broken_by true b g e = cc
      broken_by false true true e = cc
      broken_by false true false e = (refl, refl, refl)
      broken_by false false g e = cc

      broken_from : (w b g : Bool) → w ≡ false → b ≡ true → g ≡ false → mark_by w b g ≡ broken
      broken_from w b g e f h = rw (e, f, h) refl

      opened_is : (ss : List (Stream A)) → stream_at (map opened ss) ≡ opened_at (stream_at ss)
      opened_is ss i p = stream_at-opened ss p i

      broken_off : (ss : List (Stream A)) → AreRisen k ss → (means ss).mark ≡ broken → IsBrokenOff (AreRisen k) means ss
      broken_off ss risen e =
          let b = broken_by (is_complete k (stream_at ss)) (any_to k.inputs (λ p. is_broken (stream_at ss p).mark)) (goes_on k (stream_at ss)) e in
          let s = any_at k.inputs (λ p. is_broken (stream_at ss p).mark) b.1 in
          record {
            input = (s.0, broken_is (stream_at ss s.0).mark s.2);
            not_whole = λ w. let c : whole ≡ broken = sym w ∙ e in cc;
            no_further = λ ts r h. (
              sym (items_same k show 0 (stream_at ss) (stream_at ts) h r.1 (stuck_shown k show (stream_at ss) (stream_at ts) h r.1 b.1 b.2)),
              λ w. clash (is_complete k (stream_at ts)) (whole_by _ _ _ w) (stuck_incomplete k show (stream_at ss) (stream_at ts) h r.1 b.1 b.2),
            );
          }

      no_going_on : (ss : List (Stream A)) → AreRisen k ss → IsBrokenOff (AreRisen k) means ss → goes_on k (stream_at ss) ≡ false
      no_going_on ss risen off = false_from_ne_true (goes_on k (stream_at ss)) (λ g. elim (goes_on_cases k (stream_at ss) g) as (λ _. ⊥) [
        | inl c ↦ (
            let ws : ℕ → Stream A = all_ended (stream_at ss) in
            let ts = listed ss risen.0 ws in
            let done = complete_here k ws (stream_at ts) (λ p lt. sym (listed_here k.inputs ws p lt)) c in
            (off.no_further ts (listed_risen ss risen.0 ws risen.1 risen.1) (listed_above ss risen.0 ws (ended_above k (stream_at ss)))).1 (whole_from _ _ _ done)
            )
        | inr f ↦ (
            let t = f.0 in
            let ws : ℕ → Stream A = filled t (stream_at ss) in
            let ts = listed ss risen.0 ws in
            let above = listed_above ss risen.0 ws (fills_above t (stream_at ss)) in
            let rising = listed_risen ss risen.0 ws risen.1 (fills_rising t (stream_at ss) risen.1) in
            let s = fills_shown t (stream_at ss) f.1 in
            let there : is_shown k (stream_at ts) t ≡ true = sym (shown_here k ws (stream_at ts) t (λ p lt. sym (listed_here k.inputs ws p lt))) ∙ s.0 in
            let j = horizon k (stream_at ss) + horizon k (stream_at ts) in
            let lt = shown_below k (stream_at ts) t there in
            let longer = events_longer (is_shown k (stream_at ss)) (is_shown k (stream_at ts)) (λ u. show u (pictures k (stream_at ss) u)) (λ u. show u (pictures k (stream_at ts) u)) 0 j
            (λ u e. (shown_stays k (stream_at ss) (stream_at ts) u above rising.1 e).0) t (omega arith) (omega (arith, lt)) there s.1 in
            let same : length (means ts).items ≡ length (means ss).items = ap length ((off.no_further ts rising above).0) in
            let a : length (means ss).items ≡ length (events (is_shown k (stream_at ss)) (λ u. show u (pictures k (stream_at ss) u)) 0 j) = ap length (shown_enough k (λ u. show u (pictures k (stream_at ss) u)) 0 j (stream_at ss) (omega arith)) in
            let b : length (means ts).items ≡ length (events (is_shown k (stream_at ts)) (λ u. show u (pictures k (stream_at ts) u)) 0 j) = ap length (shown_enough k (λ u. show u (pictures k (stream_at ts) u)) 0 j (stream_at ts) (omega arith)) in
            omega (arith, longer, same, a, b)
            )
      ])

      -- the broken rule, of items at rising times: a break counts as open without a further item, and the output is broken
      -- exactly where nothing further can come of the inputs, nor the output become whole
      pub synced-keeps : KeepsBrokenRule (AreRisen k) means
      synced-keeps = record {
        items = λ ss risen. sym (items_opened k show 0 (stream_at ss)) ∙ ap (λ (r : ℕ → Stream A). (synced k show r).items) (sym (opened_is ss));
        wholeness = λ ss risen.
            let same : is_complete k (stream_at (map opened ss)) ≡ is_complete k (stream_at ss) = ap (λ (r : ℕ → Stream A). is_complete k r) (opened_is ss) ∙ complete_opened k show (stream_at ss) in (
              λ e. whole_from _ _ _ (same ∙ whole_by _ _ _ e),
              λ e. whole_from _ _ _ (sym same ∙ whole_by _ _ _ e),
            );
        breaks = λ ss risen. (
          broken_off ss risen,
          λ off. broken_from _ _ _
              (false_from_ne_true (is_complete k (stream_at ss)) (λ c. off.not_whole (whole_from _ _ _ c)))
              (any_from k.inputs (λ p. is_broken (stream_at ss p).mark) off.input.0 (here ss risen off.input.0 off.input.1) (ap is_broken off.input.1))
              (no_going_on ss risen off),
        );
      }
        where
          here : (ss : List (Stream A)) → AreRisen k ss → (p : ℕ) → (stream_at ss p).mark ≡ broken → p < k.inputs
          here ss risen p e = elim (cases_lt p k.inputs) as (λ _. p < k.inputs) [
            | inl lt ↦ lt
            | inr le ↦ absurd (let none : still_open ≡ broken = sym (ap (λ (s : Stream A). s.mark) (none_past ss p (omega (arith, risen.0, le)))) ∙ e in cc)
          ]
