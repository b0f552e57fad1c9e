-- The laws of the machine of framesync.
use Rattle.std.specs.Prelude.{◌≡◌, ◌≢◌, ℕ, suc, ◌≤◌, ◌⊎◌, Bool, true, false, ◌||◌, not, cond, nat_lt, nat_le, List, [], ◌∷◌, ◌++◌, length, map, refl}
use Rattle.std.proofs.Common.{inl, inr, ap, sym, ◌∙◌, subst, arith, append_assoc}
use Rattle.std.proofs.lemmas.Bool.{cases_Bool, and_parts, or_cases, or_left, or_right, leb-true, eqb-true}
use Rattle.std.proofs.lemmas.Bool.Decides.{nat_tests}
use Rattle.std.proofs.lemmas.List.{append-nil}
use mathlib.Core.List.{IsPrefix}
use Rattle.ff_frame.specs.declared.video.VFrame.{VFrame}
use Rattle.ff_stream.specs.declared.item.Item.{Item}
use Rattle.ff_stream.specs.declared.item.Lane.{Lane}
use Rattle.ff_stream.specs.Stream.{Mark, still_open, whole, broken, LiesBelow, opened, is_open}
use Rattle.ff_stream.specs.Ports.{nothing, IsClosed}
use Rattle.ff_stream.specs.laws.Order.{below_self, prefix_self, nothing_below}
use Rattle.ff_filter.specs.declared.after.After.{After}
use Rattle.ff_filter.specs.declared.after.After.TheVariants.{More, Whole, Broke}
use Rattle.ff_filter.specs.Joins.{Flow, Ports, silence, Grows, HidesBreaks}
use Rattle.ff_filter.specs.Made.{behind, is_over, mark_after}
use Rattle.ff_filter.specs.Shifts.{start_ticks}
use Rattle.ff_filter.specs.Views.{Settles, IsSpent, IsOver, AllDone}
use Rattle.ff_fsync.specs.Events.{put_if}
use Rattle.ff_fsync.specs.Synced.{some_of, synced_mark, synced_from}
use Rattle.ff_fsync.specs.laws.Rising.{Rises}
use Rattle.ff_fsync.specs.laws.SyncLaws.{EachBelow, Risen}
use Rattle.ff_fsync.specs.laws.SyncStreams.{opened_at, synced-below, synced-opened, synced-closes}
use Rattle.ff_fsync.specs.Sides.{fits_at, next_by, kept_from, kept, Side, side_at, coming, streams, standing, timing, shown_as, left_to_show, sync_view, is_done, sync_spent, fills_to, Sound, is_picture}

-- what is kept rises, and more items keep more
pub kept_rises : (lo : ℕ) (xs : List Item) → Rises start_ticks lo (kept_from lo xs)
kept_rises lo [] = tt
kept_rises lo (x ∷ xs) = at (fits_at lo x) refl (λ n. kept_rises n xs)
  where
    at : (b : Bool) → fits_at lo x ≡ b → ((n : ℕ) → Rises start_ticks n (kept_from n xs)) → Rises start_ticks lo (put_if b x (kept_from (next_by b lo x) xs))
    at true e more = (leb-true lo (start_ticks x) ((and_parts (is_picture x) (nat_le lo (start_ticks x)) e).1), more (suc (start_ticks x)))
    at false e more = more lo

put_prefix : (b : Bool) (x : Item) (xs ys : List Item) → IsPrefix xs ys → IsPrefix (put_if b x xs) (put_if b x ys)
put_prefix true x xs ys p = (p.0, ap (λ (zs : List Item). x ∷ zs) p.1)
put_prefix false x xs ys p = p

kept_prefix : (lo : ℕ) (xs ys : List Item) → IsPrefix xs ys → IsPrefix (kept_from lo xs) (kept_from lo ys)
kept_prefix lo [] ys p = (kept_from lo ys, refl)
kept_prefix lo (x ∷ xs) [] p = let c : x ∷ (xs ++ p.0) ≡ [] = p.1 in cc
kept_prefix lo (x ∷ xs) (y ∷ ys) p =
    let c : x ∷ (xs ++ p.0) ≡ y ∷ ys = p.1 in
    let rest : xs ++ p.0 ≡ ys = cc (c) in
    let first : x ≡ y = cc (c) in
    subst (λ (z : Item). IsPrefix (kept_from lo (x ∷ xs)) (kept_from lo (z ∷ ys))) first
    (put_prefix (fits_at lo x) x _ _ (kept_prefix (next_by (fits_at lo x) lo x) xs ys (p.0, rest)))

kept_below : (lo : ℕ) (r s : Flow) → LiesBelow r s → LiesBelow (kept lo r) (kept lo s)
kept_below lo r s (inl e) = inl (ap (λ (t : Flow). kept lo t) e)
kept_below lo r s (inr h) = inr (h.0, kept_prefix lo r.items s.items h.1)

-- behind items that fill up to a time, others from there on rise
pub fills_rise : (lo hi : ℕ) (xs ys : List Item) → fills_to lo xs hi ≡ true → Rises start_ticks hi ys → Rises start_ticks lo (xs ++ ys)
fills_rise lo hi [] ys e r = subst (λ n. Rises start_ticks n ys) (sym (eqb-true lo hi e)) r
fills_rise lo hi (x ∷ xs) ys e r = let b = and_parts (nat_le lo (start_ticks x)) (fills_to (suc (start_ticks x)) xs hi) e in
    (leb-true lo (start_ticks x) b.0, fills_rise (suc (start_ticks x)) hi xs ys b.1 r)

-- the time up to which they fill is just past the last of them
pub fills_reach : (lo hi t : ℕ) (xs : List Item) → fills_to lo xs hi ≡ true → nat_lt t hi ≡ (nat_lt t lo || some_of (λ x. nat_le t (start_ticks x)) xs)
fills_reach lo hi t [] e = let same = eqb-true lo hi e in subst (λ n. nat_lt t n ≡ (nat_lt t lo || false)) same (at (nat_lt t lo))
  where
    at : (b : Bool) → b ≡ (b || false)
    at true = refl
    at false = refl
fills_reach lo hi t (x ∷ xs) e =
    let b = and_parts (nat_le lo (start_ticks x)) (fills_to (suc (start_ticks x)) xs hi) e in
    let le = leb-true lo (start_ticks x) b.0 in
    fills_reach (suc (start_ticks x)) hi t xs b.1 ∙ at (start_ticks x) (some_of (λ x. nat_le t (start_ticks x)) xs) le
  where
    at : (a : ℕ) (c : Bool) → lo ≤ a → (nat_lt t (suc a) || c) ≡ (nat_lt t lo || (nat_le t a || c))
    at a true le = grind (arith, nat_tests)
    at a false le = grind (arith, nat_tests)

coming_below : (s : Side) (r t : Flow) → LiesBelow r t → LiesBelow (coming s r) (coming s t)
coming_below s r t h = at s.after
  where
    at : (a : After) → LiesBelow (let u : Flow = behind a (kept s.next r) in record { items = s.waits ++ u.items; mark = u.mark }) (let u : Flow = behind a (kept s.next t) in record { items = s.waits ++ u.items; mark = u.mark })
    at More = elim (kept_below s.next r t h) as (λ _. LiesBelow (let u : Flow = kept s.next r in record { items = s.waits ++ u.items; mark = u.mark }) (let u : Flow = kept s.next t in record { items = s.waits ++ u.items; mark = u.mark })) [
      | inl e ↦ inl (ap (λ (u : Flow). record { items = s.waits ++ u.items; mark = u.mark }) e)
      | inr g ↦ inr (g.0, (g.1.0, append_assoc s.waits (kept_from s.next r.items) g.1.0 ∙ ap (λ (zs : List Item). s.waits ++ zs) g.1.1))
    ]
    at Whole = inl refl
    at Broke = inl refl

coming_opened : (s : Side) (r : Flow) → LiesBelow (opened (coming s r)) (coming s (opened r))
coming_opened s r = at s.after
  where
    at : (a : After) → LiesBelow (opened (let u : Flow = behind a (kept s.next r) in record { items = s.waits ++ u.items; mark = u.mark })) (let u : Flow = behind a (kept s.next (opened r)) in record { items = s.waits ++ u.items; mark = u.mark })
    at More = inl refl
    at Whole = inl refl
    at Broke = inr (refl, prefix_self _)

pub coming_risen : (s : Side) (t : Flow) → fills_to 0 s.waits s.next ≡ true → Rises start_ticks 0 (coming s t).items
coming_risen s t e = at s.after
  where
    at : (a : After) → Rises start_ticks 0 (s.waits ++ (behind a (kept s.next t)).items)
    at More = fills_rise 0 s.next s.waits (kept_from s.next t.items) e (kept_rises s.next t.items)
    at Whole = fills_rise 0 s.next s.waits [] e tt
    at Broke = fills_rise 0 s.next s.waits [] e tt

coming_closed : (s : Side) (t : Flow) → (is_over s.after ≡ true) ⊎ IsClosed t → IsClosed (coming s t)
coming_closed s t h = at s.after h
  where
    at : (a : After) → (is_over a ≡ true) ⊎ IsClosed t → (behind a (kept s.next t)).mark ≢ still_open
    at More (inl e) = cc
    at More (inr c) = c
    at Whole g = λ e. cc
    at Broke g = λ e. cc

-- what came so far is what comes where nothing more does
pub standing_is : (lane : Lane) (ss : List Side) → streams lane ss silence ≡ standing lane ss
standing_is lane ss i p = at (side_at lane ss p).waits (side_at lane ss p).after (side_at lane ss p).next i
  where
    at : (xs : List Item) (a : After) (n : ℕ) → coming (record { lane = lane; waits = xs; after = a; next = n }) nothing ≡ record { items = xs; mark = mark_after a }
    at xs More n = ap (λ (zs : List Item). let r : Flow = record { items = zs; mark = still_open } in r) (append-nil xs)
    at xs Whole n = ap (λ (zs : List Item). let r : Flow = record { items = zs; mark = whole } in r) (append-nil xs)
    at xs Broke n = ap (λ (zs : List Item). let r : Flow = record { items = zs; mark = broken } in r) (append-nil xs)

cond_below : (b : Bool) (r s : Flow) → LiesBelow r s → LiesBelow (cond b nothing r) (cond b nothing s)
cond_below true r s h = below_self nothing
cond_below false r s h = h

cond_calm : (b : Bool) (r s : Flow) → LiesBelow (opened r) s → LiesBelow (opened (cond b nothing r)) (cond b nothing s)
cond_calm true r s h = below_self nothing
cond_calm false r s h = h

cond_closed : (b : Bool) (r : Flow) → IsClosed r → (b ≡ true) ⊎ IsClosed (cond b nothing r)
cond_closed true r c = inl refl
cond_closed false r c = inr c

cond_quiet : (b : Bool) (s : Flow) → b ≡ true → cond b nothing s ≡ nothing
cond_quiet true s t = refl
cond_quiet false s t = cc

closed_cond : (b : Bool) (s : Flow) → IsClosed (cond b nothing s) → IsClosed s
closed_cond true s c = absurd (c refl)
closed_cond false s c = c

not_open : (m : Mark) → not (is_open m) ≡ true → m ≢ still_open
not_open still_open e = cc
not_open whole e = λ o. cc
not_open broken e = λ o. cc

open_not : (m : Mark) → m ≢ still_open → not (is_open m) ≡ true
open_not still_open c = absurd (c refl)
open_not whole c = refl
open_not broken c = refl

module _ (shows : ℕ → List VFrame → VFrame) (shortest : Bool) (lane : Lane) (from : ℕ) (ss : List Side) (sound : Sound lane ss) where
  pub all_risen : (ext : Ports) → Risen (timing shortest ss) (streams lane ss ext)
  all_risen ext p = coming_risen (side_at lane ss p) (ext p) (sound p)

  pub all_below : (rs ts : Ports) → ((p : ℕ) → LiesBelow (rs p) (ts p)) → EachBelow (streams lane ss rs) (streams lane ss ts)
  all_below rs ts h p = coming_below (side_at lane ss p) (rs p) (ts p) (h p)

  -- what came so far lies below all that may still come
  pub standing_below : (ext : Ports) → EachBelow (standing lane ss) (streams lane ss ext)
  standing_below ext p = subst (λ (u : ℕ → Flow). LiesBelow (u p) (streams lane ss ext p)) (standing_is lane ss) (all_below silence ext (λ q. nothing_below (ext q)) p)

  module _ (ended stopped : Bool) where
    pub sync-grows : Grows (sync_view shows shortest lane from ss ended stopped).rest
    sync-grows rs ts h q = cond_below ended _ _ (synced-below (timing shortest ss) (shown_as shows) from (streams lane ss rs) (streams lane ss ts) (all_below rs ts h) (all_risen ts))

    pub sync-hides : HidesBreaks (sync_view shows shortest lane from ss ended stopped).rest
    sync-hides rs q =
        let k = timing shortest ss in
        let a : ℕ → Flow = streams lane ss rs in
        let b : ℕ → Flow = streams lane ss (λ p. opened (rs p)) in
        cond_calm ended (synced_from k (shown_as shows) from a) (synced_from k (shown_as shows) from b)
        (subst (λ (u : Flow). LiesBelow u (synced_from k (shown_as shows) from b)) (sym (synced-opened k (shown_as shows) from a))
        (synced-below k (shown_as shows) from (opened_at a) b (λ p. coming_opened (side_at lane ss p) (rs p)) (all_risen (λ p. opened (rs p)))))

    lanes : (rs : List Side) → length (map (λ (s : Side). s.lane) rs) ≡ length rs
    lanes [] = refl
    lanes (s ∷ rs) = let e = lanes rs in omega (arith, e)

    pub sync-settles : Settles (sync_view shows shortest lane from ss ended stopped)
    sync-settles ext h q lt on = cond_closed ended _ (synced-closes (timing shortest ss) (shown_as shows) from (streams lane ss ext)
        (λ p l. coming_closed (side_at lane ss p) (ext p) (h p (let e = lanes ss in omega (arith, l, e)))))

    pub sync-quiet : (q : ℕ) → ended ≡ true → (ext : Ports) → (sync_view shows shortest lane from ss ended stopped).rest ext q ≡ nothing
    sync-quiet q e ext = cond_quiet ended _ e

    done_closed : is_done shortest lane ss ≡ true → IsClosed (left_to_show shows shortest lane from ss silence)
    done_closed e = subst (λ (u : ℕ → Flow). synced_mark (timing shortest ss) u ≢ still_open) (sym (standing_is lane ss)) (not_open (synced_mark (timing shortest ss) (standing lane ss)) e)

    closed_done : IsClosed (left_to_show shows shortest lane from ss silence) → is_done shortest lane ss ≡ true
    closed_done c = open_not (synced_mark (timing shortest ss) (standing lane ss)) (subst (λ (u : ℕ → Flow). synced_mark (timing shortest ss) u ≢ still_open) (standing_is lane ss) c)

    pub sync-spent_only : (p : ℕ) → sync_spent shortest lane ss ended stopped p ≡ true → IsSpent (sync_view shows shortest lane from ss ended stopped) p
    sync-spent_only p e = elim (or_cases stopped (ended || (is_over (side_at lane ss p).after || is_done shortest lane ss)) e) as (λ _. IsSpent (sync_view shows shortest lane from ss ended stopped) p) [
      | inl s ↦ inr (omega arith, λ q lt on. (let c : true ≡ false = sym s ∙ on in cc))
      | inr a ↦ elim (or_cases ended (is_over (side_at lane ss p).after || is_done shortest lane ss) a) as (λ _. IsSpent (sync_view shows shortest lane from ss ended stopped) p) [
        | inl d ↦ inr (omega arith, λ q lt on. inl d)
        | inr b ↦ elim (or_cases (is_over (side_at lane ss p).after) (is_done shortest lane ss) b) as (λ _. IsSpent (sync_view shows shortest lane from ss ended stopped) p) [
          | inl o ↦ inl o
          | inr d ↦ inr (omega arith, λ q lt on. cond_closed ended _ (done_closed d))
        ]
      ]
    ]

    over_by : IsOver (sync_view shows shortest lane from ss ended stopped) 0 → (ended ≡ true) ⊎ (is_done shortest lane ss ≡ true)
    over_by (inl e) = inl e
    over_by (inr c) = inr (closed_done (closed_cond ended (left_to_show shows shortest lane from ss silence) c))

    spent_by : (p : ℕ) → (ended ≡ true) ⊎ (is_done shortest lane ss ≡ true) → sync_spent shortest lane ss ended stopped p ≡ true
    spent_by p (inl e) = or_right stopped _ (or_left ended _ e)
    spent_by p (inr d) = or_right stopped _ (or_right ended _ (or_right (is_over (side_at lane ss p).after) _ d))

    pub sync-spent_if : (p : ℕ) → IsSpent (sync_view shows shortest lane from ss ended stopped) p → sync_spent shortest lane ss ended stopped p ≡ true
    sync-spent_if p (inl s) = or_right stopped _ (or_right ended _ (or_left (is_over (side_at lane ss p).after) _ s))
    sync-spent_if p (inr o) = elim (cases_Bool stopped) as (λ _. sync_spent shortest lane ss ended stopped p ≡ true) [
      | inl s ↦ or_left stopped _ s
      | inr f ↦ spent_by p (over_by (o.1 0 (omega arith) f))
    ]

    pub sync-shut_spent : (p : ℕ) → is_over (side_at lane ss p).after ≡ true → sync_spent shortest lane ss ended stopped p ≡ true
    sync-shut_spent p s = sync-spent_if p (inl s)

    pub sync-done_spent : (p : ℕ) → AllDone (sync_view shows shortest lane from ss ended stopped) → sync_spent shortest lane ss ended stopped p ≡ true
    sync-done_spent p d = elim (d 0 (omega arith)) as (λ _. sync_spent shortest lane ss ended stopped p ≡ true) [ inl e ↦ spent_by p (inl e) | inr s ↦ or_left stopped _ s ]
