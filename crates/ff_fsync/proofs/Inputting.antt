-- What is known of an input's pictures by their times.
use Rattle.std.specs.Prelude.{◌≡◌, ℕ, suc, ◌+◌, ◌<◌, ◌≤◌, Bool, true, false, ◌||◌, ◌&&◌, not, min, nat_lt, nat_le, nat_eq, List, [], ◌∷◌, ◌++◌, length, take, drop, refl}
use Rattle.std.proofs.Common.{inl, inr, ap, sym, ◌∙◌, subst, arith, get_or, append_assoc}
use Rattle.std.proofs.lemmas.Bool.{cases_lt, and_parts, and_from, or_left, or_right, le-leb, lt-leb, le-ltb, eq-eqb, ne_eqb, leb-true, leb-false, eqb-true}
use Rattle.std.proofs.lemmas.Bool.Decides.{nat_tests}
use Rattle.std.proofs.lemmas.List.{map-append, take_more, take-append-drop}
use Rattle.std.proofs.Math.Seq.{drop-cons}
use Rattle.ff_frame.specs.declared.video.VFrame.{VFrame}
use Rattle.ff_stream.specs.declared.item.Item.{Item}
use Rattle.ff_stream.specs.declared.item.Item.TheVariants.{Audio, Video, Packet, Trailer, End, Broken}
use Rattle.ff_stream.specs.declared.item.Lane.TheVariants.{Frames}
use Rattle.ff_stream.specs.Times.{ticks}
use Rattle.ff_filter.specs.declared.after.After.{After}
use Rattle.ff_filter.specs.declared.after.After.TheVariants.{More, Whole, Broke}
use Rattle.ff_filter.specs.Joins.{Flow, before}
use Rattle.ff_filter.specs.Made.{is_over, mark_after}
use Rattle.ff_filter.specs.Shifts.{start_ticks}
use Rattle.ff_filter.specs.Views.{closes}
use Rattle.ff_frame.specs.declared.head.StreamHead.{StreamHead}
use Rattle.ff_stream.specs.Stream.{is_open, is_whole}
use Rattle.ff_fsync.specs.Events.{put_if}
use Rattle.ff_fsync.specs.Synced.{each_of, later_of, pick}
use Rattle.ff_fsync.specs.laws.Rising.{Rises, some_append, none_last, none_starts, none_begun}
use Rattle.ff_fsync.specs.Sides.{Side, coming, kept, kept_from, fits_at, next_by, fills_to}
use Rattle.ff_fsync.specs.laws.SideLaws.{fills_reach}
use Rattle.ff_fsync.specs.laws.Inputs.{items_of, side_by, starts_at, begun_by, reaches, last_by, Trims, IsNextStart, second_by, GoesTo, IsLastBy}

pub reaches_is : (xs : List Item) (next t : ℕ) → fills_to 0 xs next ≡ true → nat_lt t next ≡ reaches xs t
reaches_is xs next t e = fills_reach 0 next t xs e ∙ ap (λ b. b || reaches xs t) (le-ltb t 0 (omega arith))

pub rises_of : (lo : ℕ) (xs : List Item) (next : ℕ) → fills_to lo xs next ≡ true → Rises start_ticks lo xs
rises_of lo [] next e = tt
rises_of lo (x ∷ xs) next e = let b = and_parts (nat_le lo (start_ticks x)) (fills_to (suc (start_ticks x)) xs next) e in (leb-true lo (start_ticks x) b.0, rises_of (suc (start_ticks x)) xs next b.1)

-- the first picture is the earliest
first_is : (x : Item) (xs : List Item) (lo u : ℕ) → Rises start_ticks lo (x ∷ xs) → begun_by (x ∷ xs) u ≡ nat_le (start_ticks x) u
first_is x xs lo u r = elim (cases_lt u (start_ticks x)) as (λ _. begun_by (x ∷ xs) u ≡ nat_le (start_ticks x) u) [
  | inl less ↦ none_begun start_ticks (start_ticks x) u (x ∷ xs) (let le : start_ticks x ≤ start_ticks x = omega arith in le, r.1) less ∙ sym (lt-leb (start_ticks x) u less)
  | inr le ↦ or_left (nat_le (start_ticks x) u) (begun_by xs u) (le-leb (start_ticks x) u le) ∙ sym (le-leb (start_ticks x) u le)
]

pub front_begun : (fs : List VFrame) (f : VFrame) (next u : ℕ) → 0 < length fs → f ≡ get_or fs 0 f → fills_to 0 (items_of fs) next ≡ true → begun_by (items_of fs) u ≡ nat_le (ticks f.pts) u
front_begun [] f next u lt e r = absurd (omega (arith, lt))
front_begun (g ∷ fs) f next u lt e r = subst (λ (h : VFrame). begun_by (items_of (g ∷ fs)) u ≡ nat_le (ticks h.pts) u) (sym e) (first_is (Video g) (items_of fs) 0 u (rises_of 0 (items_of (g ∷ fs)) next r))

fills_more : (lo hi : ℕ) (xs : List Item) (x : Item) → fills_to lo xs hi ≡ true → hi ≤ start_ticks x → fills_to lo (xs ++ x ∷ []) (suc (start_ticks x)) ≡ true
fills_more lo hi [] x e le = let same = eqb-true lo hi e in and_from _ _ (le-leb lo (start_ticks x) (omega (arith, same, le))) (eq-eqb (suc (start_ticks x)) (suc (start_ticks x)) refl)
fills_more lo hi (y ∷ ys) x e le = let b = and_parts (nat_le lo (start_ticks y)) (fills_to (suc (start_ticks y)) ys hi) e in and_from _ _ b.0 (fills_more (suc (start_ticks y)) hi ys x b.1 le)

pub push_fills : (fs gs : List VFrame) (f : VFrame) (next start : ℕ) → fills_to 0 (items_of fs) next ≡ true → next ≤ start → start ≡ ticks f.pts → gs ≡ fs ++ f ∷ [] → fills_to 0 (items_of gs) (start + 1) ≡ true
push_fills fs gs f next start e le same is =
    let more = fills_more 0 next (items_of fs) (Video f) e (omega (arith, le, same)) in
    let last : suc (ticks f.pts) ≡ start + 1 = omega (arith, same) in
    subst (λ n. fills_to 0 (items_of gs) n ≡ true) last (subst (λ (hs : List VFrame). fills_to 0 (items_of hs) (suc (ticks f.pts)) ≡ true) (sym is)
    (subst (λ (xs : List Item). fills_to 0 xs (suc (ticks f.pts)) ≡ true) (sym (map-append Video fs (f ∷ []))) more))

-- a picture that starts in time is taken in
pub push_takes : (head head' : StreamHead) (fs gs : List VFrame) (a a' : After) (f : VFrame) (next start : ℕ) → head' ≡ head → a ≡ More → a' ≡ a → next ≤ start → start ≡ ticks f.pts → gs ≡ fs ++ f ∷ []
    → (t : Flow) → coming (side_by head' gs a' (start + 1)) t ≡ coming (side_by head fs a next) (before (Video f) t)
push_takes head head' fs gs a a' f next start sh going sa le same is t =
    let fit : fits_at next (Video f) ≡ true = le-leb next (ticks f.pts) (omega (arith, le, same)) in
    let xs : List Item = kept_from (start + 1) t.items in
    let long : next_by true next (Video f) ≡ start + 1 = let e : suc (ticks f.pts) ≡ start + 1 = omega (arith, same) in e in
    let items : items_of gs ++ xs ≡ items_of fs ++ kept_from next (Video f ∷ t.items) =
    ap (λ (hs : List VFrame). items_of hs ++ xs) is ∙ (ap (λ (ys : List Item). ys ++ xs) (map-append Video fs (f ∷ [])) ∙ (append_assoc (items_of fs) (Video f ∷ []) xs
    ∙ ap (λ (ys : List Item). items_of fs ++ ys) (sym (ap (λ b. put_if b (Video f) (kept_from (next_by b next (Video f)) t.items)) fit ∙ ap (λ n. Video f ∷ kept_from n t.items) long)))) in
    rw (sa, going) (ap (λ (ys : List Item). let r : Flow = record { items = ys; mark = t.mark } in r) items)

-- an item that is no such picture is let go
pub drops_takes : (side side' : Side) (x : Item) → closes x ≡ false → fits_at side.next x ≡ false → side' ≡ side → side.after ≡ More → (t : Flow) → coming side' t ≡ coming side (before x t)
drops_takes side side' x c fit same going t = ap (λ (s : Side). coming s t) same ∙ at x c fit
  where
    -- of an item that closes nothing
    next_is : (x : Item) → closes x ≡ false → (before x t) ≡ record { items = x ∷ t.items; mark = t.mark }
    next_is (Audio f) c = refl
    next_is (Video f) c = refl
    next_is (Packet f) c = refl
    next_is (Trailer f) c = refl
    next_is End c = cc
    next_is Broken c = cc

    at : (x : Item) → closes x ≡ false → fits_at side.next x ≡ false → coming side t ≡ coming side (before x t)
    at x c fit = rw going (sym (ap (λ (u : Flow). let r : Flow = kept side.next u in let q : Flow = record { items = side.waits ++ r.items; mark = r.mark } in q) (next_is x c)
        ∙ ap (λ b. let q : Flow = record { items = side.waits ++ put_if b x (kept_from (next_by b side.next x) t.items); mark = t.mark } in q) fit))

-- the closing item
pub end_takes : (side : Side) → side.after ≡ More → (t : Flow) → coming (record { lane = side.lane; waits = side.waits; after = Whole; next = side.next }) t ≡ coming side (before End t)
end_takes side going t = rw going refl

pub broken_takes : (side : Side) → side.after ≡ More → (t : Flow) → coming (record { lane = side.lane; waits = side.waits; after = Broke; next = side.next }) t ≡ coming side (before Broken t)
broken_takes side going t = rw going refl

pub more_is : (a : After) → is_over a ≡ false → a ≡ More
more_is More e = refl
more_is Whole e = cc
more_is Broke e = cc

-- the place of a picture among the others
pub split_at : (fs : List VFrame) (i : ℕ) (f : VFrame) → i < length fs → f ≡ get_or fs i f → fs ≡ take i fs ++ f ∷ drop (suc i) fs
split_at fs i f lt e = sym (take-append-drop i fs) ∙ ap (λ (gs : List VFrame). take i fs ++ gs) (drop-cons fs i f lt ∙ ap (λ (g : VFrame). g ∷ drop (suc i) fs) (sym e))

split_rises : (lo : ℕ) (xs : List Item) (x : Item) (ys : List Item) → Rises start_ticks lo (xs ++ x ∷ ys) → Rises start_ticks (suc (start_ticks x)) ys
split_rises lo [] x ys r = r.1
split_rises lo (z ∷ zs) x ys r = split_rises (suc (start_ticks z)) zs x ys r.1

pub next_start : (fs : List VFrame) (next i lo : ℕ) (f : VFrame) → fills_to 0 (items_of fs) next ≡ true → i < length fs → f ≡ get_or fs i f → ((u : ℕ) → lo ≤ u → starts_at (items_of (take i fs)) u ≡ false) → lo ≤ ticks f.pts → IsNextStart (items_of fs) lo (ticks f.pts)
next_start fs next i lo f e lt is none le =
    let sooner : List Item = items_of (take i fs) in
    let bs : List Item = items_of (drop (suc i) fs) in
    let split : items_of fs ≡ sooner ++ Video f ∷ bs = ap (λ (gs : List VFrame). items_of gs) (split_at fs i f lt is) ∙ map-append Video (take i fs) (f ∷ drop (suc i) fs) in
    let late = split_rises 0 sooner (Video f) bs (subst (λ (xs : List Item). Rises start_ticks 0 xs) split (rises_of 0 (items_of fs) next e)) in
    record {
      late = le;
      here = ap (λ (xs : List Item). starts_at xs (ticks f.pts)) split ∙ (some_append (λ x. nat_eq (start_ticks x) (ticks f.pts)) sooner (Video f ∷ bs) ∙ or_right (starts_at sooner (ticks f.pts)) _ (or_left (nat_eq (ticks f.pts) (ticks f.pts)) _ (eq-eqb (ticks f.pts) (ticks f.pts) refl)));
      none = λ u a b. ap (λ (xs : List Item). starts_at xs u) split ∙ (some_append (λ x. nat_eq (start_ticks x) u) sooner (Video f ∷ bs)
          ∙ rw (none u a, ne_eqb (ticks f.pts) u (λ c. omega (arith, c, b))) (none_starts start_ticks (suc (ticks f.pts)) u bs late (omega (arith, b))));
    }

pub none_more : (fs : List VFrame) (i lo : ℕ) (f : VFrame) → i < length fs → f ≡ get_or fs i f → ((u : ℕ) → lo ≤ u → starts_at (items_of (take i fs)) u ≡ false) → ticks f.pts < lo → (u : ℕ) → lo ≤ u → starts_at (items_of (take (i + 1) fs)) u ≡ false
none_more fs i lo f lt is none less u le =
    let more : take (i + 1) fs ≡ take i fs ++ f ∷ [] = take_more fs i f lt ∙ ap (λ (g : VFrame). take i fs ++ g ∷ []) (sym is) in
    ap (λ (gs : List VFrame). starts_at (items_of gs) u) more ∙ (ap (λ (xs : List Item). starts_at xs u) (map-append Video (take i fs) (f ∷ []))
    ∙ (some_append (λ x. nat_eq (start_ticks x) u) (items_of (take i fs)) (Video f ∷ []) ∙ rw (none u le, ne_eqb (ticks f.pts) u (λ c. omega (arith, c, less, le))) refl))

-- Pictures are let go before the last one by a time --------------------------------------------------------------------

pub second_here : (fs : List VFrame) (f : VFrame) (t : ℕ) → 1 < length fs → f ≡ get_or fs 1 f → second_by fs t ≡ nat_le (ticks f.pts) t
second_here [] f t lt e = absurd (omega (arith, lt))
second_here (g ∷ []) f t lt e = absurd (omega (arith, lt))
second_here (g ∷ h ∷ fs) f t lt e = ap (λ (x : VFrame). nat_le (ticks x.pts) t) (sym e)

pub second_none : (fs : List VFrame) (t : ℕ) → length fs ≤ 1 → second_by fs t ≡ false
second_none [] t le = refl
second_none (g ∷ []) t le = refl
second_none (g ∷ h ∷ fs) t le = absurd (omega (arith, le))

fills_tail : (lo next : ℕ) (x : Item) (xs : List Item) → fills_to lo (x ∷ xs) next ≡ true → (start_ticks x < next) × (fills_to (suc (start_ticks x)) xs next ≡ true)
fills_tail lo next x xs e =
    let b = and_parts (nat_le lo (start_ticks x)) (fills_to (suc (start_ticks x)) xs next) e in
    (reach (suc (start_ticks x)) xs b.1, b.1)
  where
    reach : (n : ℕ) (ys : List Item) → fills_to n ys next ≡ true → n ≤ next
    reach n [] f = let same = eqb-true n next f in omega (arith, same)
    reach n (y ∷ ys) f = let c = and_parts (nat_le n (start_ticks y)) (fills_to (suc (start_ticks y)) ys next) f in let l = reach (suc (start_ticks y)) ys c.1 in let m = leb-true n (start_ticks y) c.0 in omega (arith, l, m)

fills_lower : (lo : ℕ) (x : Item) (xs : List Item) (next : ℕ) → fills_to lo (x ∷ xs) next ≡ true → fills_to 0 (x ∷ xs) next ≡ true
fills_lower lo x xs next e = and_from _ _ (le-leb 0 (start_ticks x) (omega arith)) ((and_parts (nat_le lo (start_ticks x)) (fills_to (suc (start_ticks x)) xs next) e).1)

-- one more is let go
pub trims_more : (old fs gs : List VFrame) (t next : ℕ) (x : VFrame) → GoesTo old fs t → second_by fs t ≡ true → fs ≡ x ∷ gs → fills_to 0 (items_of fs) next ≡ true
    → GoesTo old gs t × (fills_to 0 (items_of gs) next ≡ true) × (length gs < length fs)
trims_more old [] gs t next x r s e f = cc
trims_more old (g ∷ []) gs t next x r s e f = cc
trims_more old (g ∷ h ∷ fs) gs t next x r s e f =
    let c : g ∷ h ∷ fs ≡ x ∷ gs = e in
    let rest : h ∷ fs ≡ gs = cc (c) in
    subst (λ (hs : List VFrame). GoesTo old hs t × (fills_to 0 (items_of hs) next ≡ true) × (length hs < length (g ∷ h ∷ fs))) rest (
      record { gone = r.gone ++ g ∷ []; is = r.is ∙ sym (append_assoc r.gone (g ∷ []) (h ∷ fs)); begun = or_left (nat_le (ticks h.pts) t) _ s },
      fills_lower (suc (ticks g.pts)) (Video h) (items_of fs) next ((fills_tail 0 next (Video g) (items_of (h ∷ fs)) f).1),
      omega arith,
    )

-- the first of those that are left is the last by the time
pub trimmed : (head : StreamHead) (a : After) (old fs : List VFrame) (t next : ℕ) → GoesTo old fs t → second_by fs t ≡ false → fills_to 0 (items_of fs) next ≡ true
    → Trims t (side_by head old a next) (side_by head fs a next) × IsLastBy fs t
trimmed head a old [] t next r s f = let c : false ≡ true = r.begun in cc
trimmed head a old (g ∷ fs) t next r s f = (
  record {
    lane = refl;
    after = refl;
    next = refl;
    gone = items_of r.gone;
    first = Video g;
    others = items_of fs;
    was = ap (λ (hs : List VFrame). items_of hs) r.is ∙ map-append Video r.gone (g ∷ fs);
    now = refl;
    by = first;
  },
  record { frame = g; others = fs; is = refl; last = ap (λ (xs : List Item). later_of xs (pick (nat_le (ticks g.pts) t) (Video g))) (none_behind fs s (fills_tail 0 next (Video g) (items_of fs) f).1) ∙ ap (λ b. pick b (Video g)) (le-leb (ticks g.pts) t first) },
)
  where
    first : ticks g.pts ≤ t
    first = leb-true (ticks g.pts) t (sym (first_is (Video g) (items_of fs) 0 t (rises_of 0 (items_of (g ∷ fs)) next f)) ∙ r.begun)

    none_behind : (fs : List VFrame) → second_by (g ∷ fs) t ≡ false → fills_to (suc (ticks g.pts)) (items_of fs) next ≡ true → last_by (items_of fs) t ≡ []
    none_behind [] s f = refl
    none_behind (h ∷ fs) s f =
        let r = rises_of (suc (ticks g.pts)) (items_of (h ∷ fs)) next f in
        let late = leb-false (ticks h.pts) t s in
        none_last (λ x. nat_le (start_ticks x) t) (items_of (h ∷ fs)) (none_begun start_ticks (ticks h.pts) t (items_of (h ∷ fs)) (let le : ticks h.pts ≤ ticks h.pts = omega arith in le, r.1) late)

pub trimmed_as : (head head' : StreamHead) (a a' : After) (next next' : ℕ) (old fs : List VFrame) (t : ℕ) → head' ≡ head → a' ≡ a → next' ≡ next → GoesTo old fs t → second_by fs t ≡ false → fills_to 0 (items_of fs) next' ≡ true
    → Trims t (side_by head old a next) (side_by head' fs a' next')
trimmed_as head head' a a' next next' old fs t sh sa sn r s f =
    let d = (trimmed head' a' old fs t next' r s f).0 in
    record { lane = ap (λ (h : StreamHead). Frames h) sh; after = sa; next = sn; gone = d.gone; first = d.first; others = d.others; was = d.was; now = d.now; by = d.by }

lesser : (t a b : ℕ) → nat_lt t (min a b) ≡ (nat_lt t a && nat_lt t b)
lesser t a b = grind (arith, nat_tests)

pub bound_by : (xs : List Item) (next bound least t : ℕ) (rest : Bool) → fills_to 0 xs next ≡ true → least ≡ min bound next → rest ≡ false → nat_lt t least ≡ (nat_lt t bound && (reaches xs t || rest))
bound_by xs next bound least t rest e l n = ap (λ m. nat_lt t m) l ∙ (lesser t bound next ∙ (ap (λ b. nat_lt t bound && b) (reaches_is xs next t e) ∙ rw n (ap (λ b. nat_lt t bound && b) (at (reaches xs t)))))
  where
    at : (b : Bool) → b ≡ (b || false)
    at true = refl
    at false = refl

-- whether another input has come as far
each_before : (lo hi n : ℕ) (x : Item) (xs : List Item) → fills_to lo (x ∷ xs) hi ≡ true → each_of (λ y. nat_lt (start_ticks y) n) (x ∷ xs) ≡ nat_le hi n
each_before lo hi n x [] e =
    let b = and_parts (nat_le lo (start_ticks x)) (fills_to (suc (start_ticks x)) [] hi) e in
    let same = eqb-true (suc (start_ticks x)) hi b.1 in
    subst (λ h. (nat_lt (start_ticks x) n && true) ≡ nat_le h n) same (at (start_ticks x))
  where
    at : (a : ℕ) → (nat_lt a n && true) ≡ nat_le (suc a) n
    at a = grind (arith, nat_tests)
each_before lo hi n x (y ∷ ys) e =
    let t = fills_tail lo hi x (y ∷ ys) e in
    ap (λ b. nat_lt (start_ticks x) n && b) (each_before (suc (start_ticks x)) hi n y ys t.1) ∙ at (start_ticks x) t.0
  where
    at : (a : ℕ) → a < hi → (nat_lt a n && nat_le hi n) ≡ nat_le hi n
    at a lt = grind (arith, nat_tests)

each_same : (f g : Item → Bool) (xs : List Item) → ((x : Item) → f x ≡ g x) → each_of f xs ≡ each_of g xs
each_same f g [] h = refl
each_same f g (x ∷ xs) h = rw (h x, each_same f g xs h) refl

pub outlasts_is : (xs ys : List Item) (m n : ℕ) → fills_to 0 xs m ≡ true → fills_to 0 ys n ≡ true → each_of (λ x. reaches ys (start_ticks x)) xs ≡ nat_le m n
outlasts_is [] ys m n e f = let same = eqb-true 0 m e in sym (le-leb m n (omega (arith, same)))
outlasts_is (x ∷ xs) ys m n e f =
    each_same (λ z. reaches ys (start_ticks z)) (λ z. nat_lt (start_ticks z) n) (x ∷ xs) (λ z. sym (reaches_is ys n (start_ticks z) f)) ∙ each_before 0 m n x xs e

pub bound_whole : (xs : List Item) (next bound least t : ℕ) (a : After) (shortest : Bool) → fills_to 0 xs next ≡ true → least ≡ min bound next → a ≡ Whole → shortest ≡ true
    → nat_lt t least ≡ (nat_lt t bound && (is_open (mark_after a) || (reaches xs t || (is_whole (mark_after a) && not shortest))))
bound_whole xs next bound least t a shortest e l is short = rw (is, short) (bound_by xs next bound least t (true && not true) e l refl)

pub bound_broke : (xs : List Item) (next bound least t : ℕ) (a : After) (shortest : Bool) → fills_to 0 xs next ≡ true → least ≡ min bound next → a ≡ Broke
    → nat_lt t least ≡ (nat_lt t bound && (is_open (mark_after a) || (reaches xs t || (is_whole (mark_after a) && not shortest))))
bound_broke xs next bound least t a shortest e l is = rw is (bound_by xs next bound least t (false && not shortest) e l refl)
