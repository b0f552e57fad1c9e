-- What each call of the machine of framesync does to how it is seen.
use Rattle.std.specs.Prelude.{◌≡◌, ◌≢◌, ℕ, suc, ◌-◌, ◌<◌, ◌≤◌, ◌⊎◌, Bool, true, false, ◌||◌, cond, List, [], ◌∷◌, ◌++◌, length, map, refl}
use Rattle.std.proofs.Common.{inl, inr, ap, sym, ◌∙◌, subst, arith, append_assoc}
use Rattle.std.proofs.lemmas.Bool.{cases_Bool, cases_eq, eq-eqb, ne_eqb}
use Rattle.ff_frame.specs.declared.video.VFrame.{VFrame}
use Rattle.ff_stream.specs.declared.item.Item.{Item}
use Rattle.ff_stream.specs.declared.item.Item.TheVariants.{Audio, Video, Packet, Trailer, End, Broken}
use Rattle.ff_stream.specs.declared.item.Lane.{Lane}
use Rattle.ff_stream.specs.Stream.{Mark, still_open, whole, broken, Stream}
use Rattle.ff_stream.specs.Ports.{nothing}
use Rattle.ff_stream.specs.laws.Order.{closed_below, same_stream}
use Rattle.ff_filter.specs.declared.after.After.{After}
use Rattle.ff_filter.specs.Joins.{Flow, Ports, silence, one, before, before_at, before_if}
use Rattle.ff_filter.specs.Made.{behind, is_over}
use Rattle.ff_filter.specs.Shifts.{start_ticks}
use Rattle.ff_filter.specs.Views.{View, Same, Fed, Gave, Waits, Stopped, closes}
use Rattle.ff_filter.proofs.Moves.{same_self}
use Rattle.ff_fsync.specs.Events.{events, events_none, events_first}
use Rattle.ff_fsync.specs.Synced.{Timing, is_shown, pictures, horizon, synced_mark, synced_from}
use Rattle.ff_fsync.specs.laws.SyncLaws.{EachBelow, Risen, clash, shown_stays, shown_in_order, shown_below, shown_reached}
use Rattle.ff_fsync.specs.laws.SyncStreams.{synced-below}
use Rattle.ff_fsync.specs.Sides.{time_among, Side, side_at, coming, kept, streams, standing, timing, shown_as, left_to_show, sync_view, Sound}
use Rattle.ff_fsync.specs.laws.SideLaws.{all_risen, standing_below, standing_is}
use Rattle.ff_fsync.specs.laws.Inputs.{Trims}
use Rattle.ff_fsync.specs.laws.Syncs.{IsDue}
use Rattle.ff_fsync.proofs.Dropping.{Drops, drop_synced}

no_other : (q : ℕ) → q < 1 → q ≢ 0 → ⊥
no_other q lt n = let z : q ≡ 0 = omega arith in n z

pub gave_there : (v w : View) (p : ℕ) (x : Item) → p < 1 → Gave v w 0 x → Gave v w p x
gave_there v w p x lt g = let z : 0 ≡ p = omega arith in subst (λ (q : ℕ). Gave v w q x) z g

pub waits_there : (v w : View) (p : ℕ) → p < 1 → Waits v w 0 → Waits v w p
waits_there v w p lt g = let z : 0 ≡ p = omega arith in subst (λ (q : ℕ). Waits v w q) z g

module _ {A : Type 0} (k : Timing A) (rs ss : ℕ → Stream A) (h : EachBelow rs ss) (rising : Risen k ss) where
  pub due_above : (from t : ℕ) → IsDue k from rs t → IsDue k from ss t
  due_above from t d = record {
    late = d.late;
    shown = (shown_stays k rs ss t h rising d.shown).0;
    first = λ u le lt. elim (cases_Bool (is_shown k ss u)) as (λ _. is_shown k ss u ≡ false) [
      | inl e ↦ clash (is_shown k rs t) d.shown (shown_in_order k rs ss u t h rising e (d.first u le lt) lt)
      | inr f ↦ f
    ];
  }

first_shown : (k : Timing Item) (show : ℕ → List Item → Item) (from : ℕ) (ss : ℕ → Flow) (t : ℕ) (f : VFrame) → IsDue k from ss t → show t (pictures k ss t) ≡ Video f
    → synced_from k show from ss ≡ before (Video f) (synced_from k show (suc t) ss)
first_shown k show from ss t f d e =
    let lt = shown_below k ss t d.shown in
    let late = d.late in
    let r = events_first (is_shown k ss) (λ u. show u (pictures k ss u)) from (horizon k ss - from) t late (omega (arith, lt, late)) d.first d.shown in
    let long : r.0 ≡ horizon k ss - suc t = omega (arith, r.1, lt, late) in
    same_stream (synced_from k show from ss) (before (Video f) (synced_from k show (suc t) ss))
    (r.2 ∙ (ap (λ (x : Item). x ∷ events (is_shown k ss) (λ u. show u (pictures k ss u)) (suc t) r.0) e ∙ ap (λ j. Video f ∷ events (is_shown k ss) (λ u. show u (pictures k ss u)) (suc t) j) long)) refl

none_shown : (k : Timing Item) (show : ℕ → List Item → Item) (from : ℕ) (ss : ℕ → Flow) → ((u : ℕ) → from ≤ u → is_shown k ss u ≡ false) → synced_from k show from ss ≡ record { items = []; mark = synced_mark k ss }
none_shown k show from ss none = same_stream (synced_from k show from ss) (record { items = []; mark = synced_mark k ss })
    (events_none (is_shown k ss) (λ u. show u (pictures k ss u)) from (horizon k ss - from) none) refl

module _ (shows : ℕ → List VFrame → VFrame) (shortest : Bool) (lane : Lane) (ss : List Side) (sound : Sound lane ss) where
  -- a picture was shown
  pub shown_gave : (from t : ℕ) (ended stopped : Bool) (f : VFrame) → ended ≡ false → IsDue (timing shortest ss) from (standing lane ss) t → shown_as shows t (pictures (timing shortest ss) (standing lane ss) t) ≡ Video f
      → Gave (sync_view shows shortest lane from ss ended stopped) (sync_view shows shortest lane (suc t) ss ended stopped) 0 (Video f)
  shown_gave from t ended stopped f going due says =
      let k = timing shortest ss in
      record {
        ports = record { ins = refl; outs = refl };
        open_before = going;
        rest_here = λ ext.
            let all : ℕ → Flow = streams lane ss ext in
            let h = standing_below shows shortest lane from ss sound ext in
            let r = all_risen shows shortest lane from ss sound ext in
            rw going (first_shown k (shown_as shows) from all t f (due_above k (standing lane ss) all h r from t due)
            (sym (ap (shown_as shows t) ((shown_stays k (standing lane ss) all t h r due.shown).1)) ∙ says));
        rest_others = λ ext o lt n w. absurd (no_other o lt n);
        shut = λ p. refl;
        ended_here = going;
        ended_others = λ o lt n. refl;
        stopped = λ o. refl;
      }

  closed_all : (from : ℕ) (ext : Ports) (m : Mark) → m ≢ still_open → ((u : ℕ) → from ≤ u → is_shown (timing shortest ss) (standing lane ss) u ≡ false) → synced_mark (timing shortest ss) (standing lane ss) ≡ m
      → left_to_show shows shortest lane from ss ext ≡ record { items = []; mark = m }
  closed_all from ext m c none e =
      let k = timing shortest ss in
      let here : synced_from k (shown_as shows) from (standing lane ss) ≡ record { items = []; mark = m } = none_shown k (shown_as shows) from (standing lane ss) none ∙ ap (λ (n : Mark). let r : Flow = record { items = []; mark = n } in r) e in
      let below = synced-below k (shown_as shows) from (standing lane ss) (streams lane ss ext) (standing_below shows shortest lane from ss sound ext) (all_risen shows shortest lane from ss sound ext) in
      sym (closed_below (synced_from k (shown_as shows) from (standing lane ss)) (left_to_show shows shortest lane from ss ext) below (λ o. c (sym e ∙ o))) ∙ here

  -- the closing item was given
  pub closed_gave : (from : ℕ) (ended stopped : Bool) (x : Item) → closes x ≡ true → ended ≡ false → ((u : ℕ) → from ≤ u → is_shown (timing shortest ss) (standing lane ss) u ≡ false)
      → synced_mark (timing shortest ss) (standing lane ss) ≡ (one x).mark
      → Gave (sync_view shows shortest lane from ss ended stopped) (sync_view shows shortest lane from ss true stopped) 0 x
  closed_gave from ended stopped x c going none e = record {
    ports = record { ins = refl; outs = refl };
    open_before = going;
    rest_here = λ ext. rw going (at x c e ext);
    rest_others = λ ext o lt n w. absurd (no_other o lt n);
    shut = λ p. refl;
    ended_here = sym c;
    ended_others = λ o lt n. absurd (no_other o lt n);
    stopped = λ o. refl;
  }
    where
      at : (x : Item) → closes x ≡ true → synced_mark (timing shortest ss) (standing lane ss) ≡ (one x).mark → (ext : Ports) → left_to_show shows shortest lane from ss ext ≡ before x nothing
      at (Audio f) c e ext = cc
      at (Video f) c e ext = cc
      at (Packet f) c e ext = cc
      at (Trailer f) c e ext = cc
      at End c e ext = closed_all from ext whole (λ o. cc) none e
      at Broken c e ext = closed_all from ext broken (λ o. cc) none e

  -- nothing is due
  pub none_waits : (from : ℕ) (ended stopped : Bool) → ((u : ℕ) → from ≤ u → is_shown (timing shortest ss) (standing lane ss) u ≡ false) → synced_mark (timing shortest ss) (standing lane ss) ≡ still_open
      → Waits (sync_view shows shortest lane from ss ended stopped) (sync_view shows shortest lane from ss ended stopped) 0
  none_waits from ended stopped none e = record {
    same = same_self (sync_view shows shortest lane from ss ended stopped);
    nothing_left = at ended;
  }
    where
      at : (b : Bool) → cond b nothing (left_to_show shows shortest lane from ss silence) ≡ nothing
      at true = refl
      at false = ap (λ (u : ℕ → Flow). synced_from (timing shortest ss) (shown_as shows) from u) (standing_is lane ss)
          ∙ (none_shown (timing shortest ss) (shown_as shows) from (standing lane ss) none ∙ ap (λ (n : Mark). let r : Flow = record { items = []; mark = n } in r) e)

-- one input changes, and all others stay
pub record Replaced (lane : Lane) (ss ts : List Side) (p : ℕ) (s : Side) : Type 0 where
  pub long : length ts ≡ length ss
  pub lanes : map (λ (s : Side). s.lane) ts ≡ map (λ (s : Side). s.lane) ss
  pub here : side_at lane ts p ≡ s
  pub others : (q : ℕ) → q ≢ p → side_at lane ts q ≡ side_at lane ss q

pub timing_same : (shortest : Bool) (ss ts : List Side) → length ts ≡ length ss → timing shortest ts ≡ timing shortest ss
timing_same shortest ss ts e = ap (λ n. let r : Timing Item = record { inputs = n; at = time_among; shortest = shortest } in r) e

-- an item was fed
pub fed_by : (shows : ℕ → List VFrame → VFrame) (shortest : Bool) (lane : Lane) (from : ℕ) (ss ts : List Side) (p : ℕ) (s : Side) (x : Item) (ended stopped : Bool) → Replaced lane ss ts p s
    → is_over (side_at lane ss p).after ≡ false → is_over s.after ≡ closes x → ((t : Flow) → coming s t ≡ coming (side_at lane ss p) (before x t))
    → Fed (sync_view shows shortest lane from ss ended stopped) (sync_view shows shortest lane from ts ended stopped) p x
fed_by shows shortest lane from ss ts p s x ended stopped r going shut takes =
    record {
      ports = record { ins = r.lanes; outs = refl };
      rest = λ ext q on. ap (λ (u : Flow). cond ended nothing u)
          (ap (λ (k : Timing Item). synced_from k (shown_as shows) from (streams lane ts ext)) (timing_same shortest ss ts r.long)
          ∙ ap (λ (u : ℕ → Flow). synced_from (timing shortest ss) (shown_as shows) from u) (all ext));
      shut_here = ap (λ (s : Side). is_over s.after) r.here ∙ (shut ∙ sym (ap (λ b. b || closes x) going));
      shut_others = λ i lt n. ap (λ (s : Side). is_over s.after) (r.others i n);
      ended = λ q. refl;
      stopped = λ q. refl;
    }
  where
    at : (ext : Ports) (q : ℕ) → streams lane ts ext q ≡ streams lane ss (before_at p x ext) q
    at ext q = elim (cases_eq q p) as (λ _. streams lane ts ext q ≡ streams lane ss (before_at p x ext) q) [
      | inl e ↦ subst (λ i. streams lane ts ext i ≡ streams lane ss (before_at p x ext) i) (sym e)
          (ap (λ (s : Side). coming s (ext p)) r.here ∙ (takes (ext p) ∙ ap (λ b. coming (side_at lane ss p) (before_if b x (ext p))) (sym (eq-eqb p p refl))))
      | inr n ↦ ap (λ (s : Side). coming s (ext q)) (r.others q n) ∙ ap (λ b. coming (side_at lane ss q) (before_if b x (ext q))) (sym (ne_eqb q p n))
    ]

    all : (ext : Ports) → streams lane ts ext ≡ streams lane ss (before_at p x ext)
    all ext i q = at ext q i

trims_drop : (t : ℕ) (s r : Side) (u : Flow) → Trims t s r → Drops start_ticks t (coming s u) (coming r u)
trims_drop t s r u d =
    let rest : Side → Flow = λ i. behind i.after (kept i.next u) in
    let same : rest r ≡ rest s = ap (λ (a : After). behind a (kept r.next u)) d.after ∙ ap (λ n. behind s.after (kept n u)) d.next in
    record {
      gone = d.gone;
      first = d.first;
      others = d.others ++ (rest s).items;
      was = ap (λ (xs : List Item). xs ++ (rest s).items) d.was ∙ append_assoc d.gone (d.first ∷ d.others) (rest s).items;
      now = ap (λ (xs : List Item). xs ++ (rest r).items) d.now ∙ ap (λ (f : Flow). d.first ∷ (d.others ++ f.items)) same;
      by = d.by;
      mark = sym (ap (λ (f : Flow). f.mark) same);
    }

-- where each input stayed or was trimmed by the time of what is due, nothing that can be seen changed
pub trims_same : (shows : ℕ → List VFrame → VFrame) (shortest : Bool) (lane : Lane) (from t : ℕ) (ss ts : List Side) (ended stopped : Bool) → Sound lane ss
    → length ts ≡ length ss → map (λ (s : Side). s.lane) ts ≡ map (λ (s : Side). s.lane) ss
    → ((q : ℕ) → (side_at lane ts q ≡ side_at lane ss q) ⊎ Trims t (side_at lane ss q) (side_at lane ts q))
    → IsDue (timing shortest ss) from (standing lane ss) t
    → Same (sync_view shows shortest lane from ss ended stopped) (sync_view shows shortest lane from ts ended stopped)
trims_same shows shortest lane from t ss ts ended stopped sound long lanes how due = record {
  ports = record { ins = lanes; outs = refl };
  rest = λ ext q on. ap (λ (u : Flow). cond ended nothing u)
      (ap (λ (k : Timing Item). synced_from k (shown_as shows) from (streams lane ts ext)) (timing_same shortest ss ts long) ∙ sym (same ext));
  shut = λ p. elim (how p) as (λ _. is_over (side_at lane ts p).after ≡ is_over (side_at lane ss p).after) [ inl e ↦ ap (λ (s : Side). is_over s.after) e | inr d ↦ ap is_over d.after ];
  ended = λ q. refl;
  stopped = λ q. refl;
}
  where
    same : (ext : Ports) → left_to_show shows shortest lane from ss ext ≡ synced_from (timing shortest ss) (shown_as shows) from (streams lane ts ext)
    same ext =
        let k = timing shortest ss in
        let h = standing_below shows shortest lane from ss sound ext in
        let r = all_risen shows shortest lane from ss sound ext in
        let d = due_above k (standing lane ss) (streams lane ss ext) h r from t due in
        drop_synced k t (streams lane ss ext) (streams lane ts ext) r
        (λ p lt. elim (how p) as (λ _. (streams lane ss ext p ≡ streams lane ts ext p) ⊎ Drops start_ticks t (streams lane ss ext p) (streams lane ts ext p)) [
          | inl e ↦ inl (sym (ap (λ (s : Side). coming s (ext p)) e))
          | inr g ↦ inr (trims_drop t (side_at lane ss p) (side_at lane ts p) (ext p) g)
        ])
        (shown_reached k (streams lane ss ext) t d.shown) (shown_as shows) from d.first

-- where nobody wants it -----------------------------------------------------------------------------------------------

unwanted_same : (ended stopped : Bool) (r s : Flow) → (ended || stopped) ≡ true → stopped ≡ false → cond ended nothing r ≡ cond ended nothing s
unwanted_same true stopped r s e on = refl
unwanted_same false stopped r s e on = let clash : true ≡ false = sym e ∙ on in cc

-- an item was let go
pub idle_fed : (shows : ℕ → List VFrame → VFrame) (shortest : Bool) (lane : Lane) (from : ℕ) (ss ts : List Side) (p : ℕ) (s : Side) (x : Item) (ended stopped : Bool)
    → Replaced lane ss ts p s → is_over (side_at lane ss p).after ≡ false → is_over s.after ≡ closes x → (ended || stopped) ≡ true
    → Fed (sync_view shows shortest lane from ss ended stopped) (sync_view shows shortest lane from ts ended stopped) p x
idle_fed shows shortest lane from ss ts p s x ended stopped r going shut unwanted = record {
  ports = record { ins = r.lanes; outs = refl };
  rest = λ ext q on. unwanted_same ended stopped (left_to_show shows shortest lane from ts ext) (left_to_show shows shortest lane from ss (before_at p x ext)) unwanted on;
  shut_here = ap (λ (s : Side). is_over s.after) r.here ∙ (shut ∙ sym (ap (λ b. b || closes x) going));
  shut_others = λ i lt n. ap (λ (s : Side). is_over s.after) (r.others i n);
  ended = λ q. refl;
  stopped = λ q. refl;
}

module _ (shows : ℕ → List VFrame → VFrame) (shortest : Bool) (lane : Lane) (from : ℕ) (ss ts : List Side)
    (lanes : map (λ (s : Side). s.lane) ts ≡ map (λ (s : Side). s.lane) ss) (shut : (q : ℕ) → (side_at lane ts q).after ≡ (side_at lane ss q).after) where
  -- an output that has ended gives nothing, whatever waits
  pub idle_same : (ended stopped : Bool) → ended ≡ true → Same (sync_view shows shortest lane from ss ended stopped) (sync_view shows shortest lane from ts ended stopped)
  idle_same ended stopped e = record {
    ports = record { ins = lanes; outs = refl };
    rest = λ ext q on. rw e refl;
    shut = λ p. ap is_over (shut p);
    ended = λ q. refl;
    stopped = λ q. refl;
  }

  pub idle_stopped : (ended stopped : Bool) (q : ℕ) → q < 1 → Stopped (sync_view shows shortest lane from ss ended stopped) (sync_view shows shortest lane from ts ended true) q
  idle_stopped ended stopped q there = record {
    ports = record { ins = lanes; outs = refl };
    stopped_here = refl;
    stopped_others = λ o lt n. absurd (let z : o ≡ q = omega (arith, lt, there) in n z);
    rest_others = λ ext o lt n on. absurd (let z : o ≡ q = omega (arith, lt, there) in n z);
    shut = λ p. ap is_over (shut p);
    ended = λ o. refl;
  }
