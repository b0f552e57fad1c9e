-- The pictures of each input before the last one by a time are let go.
use Rattle.std.specs.Prelude.{◌≡◌, ◌≢◌, ℕ, zero, suc, ◌+◌, ◌<◌, ◌≤◌, ◌⊎◌, Bool, true, Result, Ok, Err, IfOk, List, [], ◌∷◌, map, length, refl}
use Rattle.std.proofs.Common.{inl, inr, ap, sym, ◌∙◌, subst, arith, get_or, set}
use Rattle.std.proofs.lemmas.Bool.{cases_lt, cases_eq, false_from_ne_true}
use Rattle.std.proofs.lemmas.List.{length-set}
use Rattle.ff_frame.specs.declared.video.VFrame.{VFrame}
use Rattle.ff_frame.specs.declared.head.StreamHead.{StreamHead}
use Rattle.ff_stream.specs.declared.item.Item.{Item}
use Rattle.ff_stream.specs.declared.item.Item.TheVariants.{Video}
use Rattle.ff_stream.specs.declared.item.Lane.{Lane}
use Rattle.ff_stream.specs.declared.item.Lane.TheVariants.{Frames}
use Rattle.ff_filter.specs.Joins.{Flow}
use Rattle.ff_filter.specs.Made.{mark_after}
use Rattle.ff_filter.specs.Shifts.{start_ticks}
use Rattle.ff_fsync.specs.declared.input.Input.{Input}
use Rattle.ff_fsync.specs.Synced.{is_shown, Timing}
use Rattle.ff_fsync.specs.laws.SyncLaws.{clash, Risen, ready_at}
use Rattle.ff_fsync.specs.Sides.{Side, side_at, frames_of}
use Rattle.ff_fsync.specs.laws.Inputs.{items_of, emptied, begun_by, Trims, IsLastBy, IsLed}
use Rattle.ff_fsync.specs.laws.Syncs.{side_of, sides_of, sides_sound, standing_of, timing_of, IsDue, AreTrimmed, AreLed, AreEmptied}
use Rattle.ff_fsync.proofs.Inputting.{rises_of}
use Rattle.ff_fsync.proofs.Finding.{side_there, long_sides}
use Rattle.ff_fsync.proofs.Dropping.{Drops, drop_shown, drop_no_more}
use Rattle.ff_fsync.proofs.Showing.{timing_same, Replaced}

pub set_here : (lane : Lane) (is : List Input) (p : ℕ) (i : Input) → p < length is → side_at lane (sides_of (set is p i)) p ≡ side_of i
set_here lane [] p i lt = absurd (omega (arith, lt))
set_here lane (j ∷ is) zero i lt = refl
set_here lane (j ∷ is) (suc p) i lt = set_here lane is p i (omega (arith, lt))

pub set_others : (lane : Lane) (is : List Input) (p q : ℕ) (i : Input) → q ≢ p → side_at lane (sides_of (set is p i)) q ≡ side_at lane (sides_of is) q
set_others lane [] p q i n = refl
set_others lane (j ∷ is) zero zero i n = absurd (n refl)
set_others lane (j ∷ is) zero (suc q) i n = refl
set_others lane (j ∷ is) (suc p) zero i n = refl
set_others lane (j ∷ is) (suc p) (suc q) i n = set_others lane is p q i (λ e. n (ap suc e))

pub set_lanes : (is : List Input) (p : ℕ) (i j : Input) → p < length is → j ≡ get_or is p j → (side_of i).lane ≡ (side_of j).lane → map (λ (s : Side). s.lane) (sides_of (set is p i)) ≡ map (λ (s : Side). s.lane) (sides_of is)
set_lanes [] p i j lt e l = refl
set_lanes (k ∷ is) zero i j lt e l = ap (λ (x : Lane). x ∷ map (λ (s : Side). s.lane) (sides_of is)) (l ∙ ap (λ (x : Input). (side_of x).lane) e)
set_lanes (k ∷ is) (suc p) i j lt e l = ap (λ (xs : List Lane). (side_of k).lane ∷ xs) (set_lanes is p i j (omega (arith, lt)) e l)

pub replaced : (lane : Lane) (is : List Input) (p : ℕ) (i j : Input) → p < length is → j ≡ get_or is p j → (side_of i).lane ≡ (side_of j).lane → Replaced lane (sides_of is) (sides_of (set is p i)) p (side_of i)
replaced lane is p i j lt e l = record {
  long = long_sides (set is p i) ∙ (length-set is p i ∙ sym (long_sides is));
  lanes = set_lanes is p i j lt e l;
  here = set_here lane is p i lt;
  others = λ q n. set_others lane is p q i n;
}

pub led_none : (head : StreamHead) (is : List Input) (t : ℕ) → AreLed head is is t 0
led_none head is t = record { long = refl; lanes = refl; done = λ q lt. absurd (omega arith); others = λ q le. refl; led = λ q lt. absurd (omega arith) }

led_by_last : (fs : List VFrame) (t : ℕ) → IsLastBy fs t → IsLed (items_of fs) t
led_by_last fs t last = record { frame = last.frame; others = items_of last.others; is = ap (λ (gs : List VFrame). items_of gs) last.is; last = last.last }

pub led_more : (head : StreamHead) (old is : List Input) (t p : ℕ) (i j : Input) → AreLed head old is t p → p < length is → j ≡ get_or is p j → Trims t (side_of j) (side_of i) → IsLastBy i.queue.items t → AreLed head old (set is p i) t (p + 1)
led_more head old is t p i j h lt e d last = record {
  long = length-set is p i ∙ h.long;
  lanes = set_lanes is p i j lt e d.lane ∙ h.lanes;
  done = λ q l. elim (cases_eq q p) as (λ _. Trims t (side_at (Frames head) (sides_of old) q) (side_at (Frames head) (sides_of (set is p i)) q)) [
    | inl same ↦ subst (λ r. Trims t (side_at (Frames head) (sides_of old) r) (side_at (Frames head) (sides_of (set is p i)) r)) (sym same)
        (subst (λ (s : Side). Trims t s (side_at (Frames head) (sides_of (set is p i)) p)) (sym (side_there (Frames head) is p j lt e) ∙ h.others p (omega arith))
        (subst (λ (s : Side). Trims t (side_of j) s) (sym (set_here (Frames head) is p i lt)) d))
    | inr n ↦ subst (λ (s : Side). Trims t (side_at (Frames head) (sides_of old) q) s) (sym (set_others (Frames head) is p q i n)) (h.done q (omega (arith, l, n)))
  ];
  others = λ q le. set_others (Frames head) is p q i (λ same. omega (arith, same, le)) ∙ h.others q (omega (arith, le));
  led = λ q l. elim (cases_eq q p) as (λ _. IsLed (side_at (Frames head) (sides_of (set is p i)) q).waits t) [
    | inl same ↦ subst (λ r. IsLed (side_at (Frames head) (sides_of (set is p i)) r).waits t) (sym same)
        (subst (λ (s : Side). IsLed s.waits t) (sym (set_here (Frames head) is p i lt)) (led_by_last i.queue.items t last))
    | inr n ↦ subst (λ (s : Side). IsLed s.waits t) (sym (set_others (Frames head) is p q i n)) (h.led q (omega (arith, l, n)))
  ];
}

pub trimmed_of : (head : StreamHead) (old new : List Input) (t n : ℕ) → AreLed head old new t n → AreTrimmed head old new t
trimmed_of head old new t n h = record {
  long = long_sides new ∙ (h.long ∙ sym (long_sides old));
  lanes = h.lanes;
  sides = λ q. elim (cases_lt q n) as (λ _. (side_at (Frames head) (sides_of new) q ≡ side_at (Frames head) (sides_of old) q) ⊎ Trims t (side_at (Frames head) (sides_of old) q) (side_at (Frames head) (sides_of new) q)) [ inl lt ↦ inr (h.done q lt) | inr le ↦ inl (h.others q le) ];
}

-- the input has begun, as it was when the time was found
pub begun_still : (head : StreamHead) (shortest : Bool) (old is : List Input) (from t p : ℕ) (j : Input) → IsDue (timing_of shortest old) from (standing_of head old) t → AreLed head old is t p → p < length is → j ≡ get_or is p j → begun_by (items_of j.queue.items) t ≡ true
begun_still head shortest old is from t p j due h lt e =
    let b = (ready_at (timing_of shortest old) (standing_of head old) t due.shown p (let l = long_sides old in let m = h.long in omega (arith, l, m, lt))).0 in
    ap (λ (s : Side). begun_by s.waits t) (sym (side_there (Frames head) is p j lt e) ∙ h.others p (omega arith)) ∙ b

stand_drop : (t : ℕ) (s r : Side) → Trims t s r → Drops start_ticks t (let a : Flow = record { items = s.waits; mark = mark_after s.after } in a) (let b : Flow = record { items = r.waits; mark = mark_after r.after } in b)
stand_drop t s r d = record { gone = d.gone; first = d.first; others = d.others; was = d.was; now = d.now; by = d.by; mark = sym (ap mark_after d.after) }

-- what is due is due still
pub due_still : (head : StreamHead) (shortest : Bool) (old new : List Input) (from t : ℕ) → AreTrimmed head old new t → IsDue (timing_of shortest old) from (standing_of head old) t → IsDue (timing_of shortest new) from (standing_of head new) t
due_still head shortest old new from t h due =
    let k = timing_of shortest old in
    let risen : Risen k (standing_of head old) = λ p. rises_of 0 (side_at (Frames head) (sides_of old) p).waits (side_at (Frames head) (sides_of old) p).next (sides_sound (Frames head) old p) in
    let how : (p : ℕ) → p < k.inputs → (standing_of head old p ≡ standing_of head new p) ⊎ Drops start_ticks t (standing_of head old p) (standing_of head new p) = λ p lt. elim (h.sides p) as (λ _. (standing_of head old p ≡ standing_of head new p) ⊎ Drops start_ticks t (standing_of head old p) (standing_of head new p)) [
      | inl e ↦ inl (sym (ap (λ (s : Side). let a : Flow = record { items = s.waits; mark = mark_after s.after } in a) e))
      | inr d ↦ inr (stand_drop t (side_at (Frames head) (sides_of old) p) (side_at (Frames head) (sides_of new) p) d)
    ] in
    subst (λ (c : Timing Item). IsDue c from (standing_of head new) t) (sym (timing_same shortest (sides_of old) (sides_of new) h.long)) (record {
      late = due.late;
      shown = sym (drop_shown k t (standing_of head old) (standing_of head new) risen how t (omega arith)) ∙ due.shown;
      first = λ u le lt. false_from_ne_true (is_shown k (standing_of head new) u) (λ e. clash (is_shown k (standing_of head old) u) (drop_no_more k t (standing_of head old) (standing_of head new) risen how u e) (due.first u le lt));
    })

pub frames_back : (fs : List VFrame) → frames_of (map Video fs) ≡ fs
frames_back [] = refl
frames_back (f ∷ fs) = ap (λ (gs : List VFrame). f ∷ gs) (frames_back fs)

pub set_same : (is : List Input) (p : ℕ) (i j : Input) → p < length is → j ≡ get_or is p j → side_of i ≡ side_of j → sides_of (set is p i) ≡ sides_of is
set_same [] p i j lt e s = refl
set_same (k ∷ is) zero i j lt e s = ap (λ (x : Side). x ∷ sides_of is) (s ∙ ap (λ (x : Input). side_of x) e)
set_same (k ∷ is) (suc p) i j lt e s = ap (λ (xs : List Side). side_of k ∷ xs) (set_same is p i j (omega (arith, lt)) e s)

long_lanes : (is : List Input) → length (map (λ (s : Side). s.lane) (sides_of is)) ≡ length is
long_lanes [] = refl
long_lanes (i ∷ is) = let e = long_lanes is in omega (arith, e)

pub ports_there : (is : List Input) (p : ℕ) → p < length (map (λ (s : Side). s.lane) (sides_of is)) → p < length is
ports_there is p lt = let e = long_lanes is in omega (arith, lt, e)

pub if_ok : {A E : Type 0} (r : Result A E) (P Q : A → Type 0) → ((x : A) → P x → Q x) → IfOk r P → IfOk r Q
if_ok (Ok x) P Q h p = h x p
if_ok (Err e) P Q h p = tt

-- nothing waits of the inputs ---------------------------------------------------------------------------------------

past_empty : (lane : Lane) (is : List Input) (p : ℕ) → length is ≤ p → (side_at lane (sides_of is) p).waits ≡ []
past_empty lane [] p le = refl
past_empty lane (i ∷ is) zero le = absurd (omega (arith, le))
past_empty lane (i ∷ is) (suc p) le = past_empty lane is p (omega (arith, le))

pub emptied_none : (head : StreamHead) (is : List Input) → AreEmptied head is is 0
emptied_none head is = record { long = refl; lanes = refl; shut = λ q. refl; done = λ q lt. absurd (omega arith) }

pub emptied_more : (head : StreamHead) (old is : List Input) (p : ℕ) (i j : Input) → AreEmptied head old is p → p < length is → j ≡ get_or is p j
    → side_of i ≡ emptied (side_of j) → AreEmptied head old (set is p i) (p + 1)
emptied_more head old is p i j h lt e d = record {
  long = length-set is p i ∙ h.long;
  lanes = set_lanes is p i j lt e (ap (λ (s : Side). s.lane) d) ∙ h.lanes;
  shut = λ q. elim (cases_eq q p) as (λ _. (side_at (Frames head) (sides_of (set is p i)) q).after ≡ (side_at (Frames head) (sides_of old) q).after) [
    | inl same ↦ subst (λ r. (side_at (Frames head) (sides_of (set is p i)) r).after ≡ (side_at (Frames head) (sides_of old) r).after) (sym same)
        (ap (λ (s : Side). s.after) (set_here (Frames head) is p i lt ∙ d) ∙ (ap (λ (s : Side). s.after) (sym (side_there (Frames head) is p j lt e)) ∙ h.shut p))
    | inr n ↦ ap (λ (s : Side). s.after) (set_others (Frames head) is p q i n) ∙ h.shut q
  ];
  done = λ q l. elim (cases_eq q p) as (λ _. (side_at (Frames head) (sides_of (set is p i)) q).waits ≡ []) [
    | inl same ↦ subst (λ r. (side_at (Frames head) (sides_of (set is p i)) r).waits ≡ []) (sym same) (ap (λ (s : Side). s.waits) (set_here (Frames head) is p i lt ∙ d))
    | inr n ↦ ap (λ (s : Side). s.waits) (set_others (Frames head) is p q i n) ∙ h.done q (omega (arith, l, n))
  ];
}

pub emptied_to : (head : StreamHead) (old new : List Input) (m n : ℕ) → AreEmptied head old new n → m ≤ n → AreEmptied head old new m
emptied_to head old new m n h le = record { long = h.long; lanes = h.lanes; shut = h.shut; done = λ q lt. h.done q (omega (arith, lt, le)) }

pub all_empty : (head : StreamHead) (old new : List Input) (n : ℕ) → AreEmptied head old new n → length new ≤ n → (p : ℕ) → (side_at (Frames head) (sides_of new) p).waits ≡ []
all_empty head old new n h le p = elim (cases_lt p n) as (λ _. (side_at (Frames head) (sides_of new) p).waits ≡ []) [
  | inl lt ↦ h.done p lt
  | inr gt ↦ past_empty (Frames head) new p (omega (arith, le, gt))
]

-- one of them was passed an item that it let go
pub empty_still : (lane : Lane) (is : List Input) (p : ℕ) (i j : Input) → p < length is → j ≡ get_or is p j → i.queue.items ≡ j.queue.items
    → ((q : ℕ) → (side_at lane (sides_of is) q).waits ≡ []) → (q : ℕ) → (side_at lane (sides_of (set is p i)) q).waits ≡ []
empty_still lane is p i j lt e same h q = elim (cases_eq q p) as (λ _. (side_at lane (sides_of (set is p i)) q).waits ≡ []) [
  | inl z ↦ subst (λ r. (side_at lane (sides_of (set is p i)) r).waits ≡ []) (sym z)
      (ap (λ (s : Side). s.waits) (set_here lane is p i lt) ∙ (ap (λ (fs : List VFrame). items_of fs) same ∙ (ap (λ (s : Side). s.waits) (sym (side_there lane is p j lt e)) ∙ h p)))
  | inr n ↦ ap (λ (s : Side). s.waits) (set_others lane is p q i n) ∙ h q
]
