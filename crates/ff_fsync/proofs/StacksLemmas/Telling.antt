-- Streams told in units of another base, and what each call does to how a filter of such streams is seen.
use Rattle.std.specs.Prelude.{◌≡◌, ℕ, zero, suc, ◌<◌, ◌≤◌, length, ◌==◌, ◌||◌, Bool, true, false, pos, ◌-◌, cond, nat_eq, List, [], ◌∷◌, refl}
use Rattle.std.proofs.Common.{ap, ◌∙◌, subst, arith, get_or}
use Rattle.std.proofs.lemmas.Bool.{eqb-true}
use Rattle.ff_frame.specs.declared.video.VFrame.{VFrame}
use Rattle.ff_stream.specs.declared.item.Item.{Item}
use Rattle.ff_stream.specs.declared.item.Item.TheVariants.{Audio, Video, Packet, Trailer, End, Broken}
use Rattle.ff_filter.specs.Joins.{Flow, Ports, before, before_if, before_at}
use Rattle.ff_filter.specs.Views.{View, Same, Fed, Gave, Waits, Stopped, closes}
use Rattle.ff_fsync.specs.stacks.Bases.{start_in, end_in, item_in, told_in, units_at, all_told, told_view, times_of, item_at}

pub closes_in : (n : ℕ) (x : Item) → closes (item_in n x) ≡ closes x
closes_in n (Audio f) = refl
closes_in n (Video f) = refl
closes_in n (Packet p) = refl
closes_in n (Trailer t) = refl
closes_in n End = refl
closes_in n Broken = refl

told_before : (n : ℕ) (x : Item) (s : Flow) → before (item_in n x) (told_in n s) ≡ told_in n (before x s)
told_before n (Audio f) s = refl
told_before n (Video f) s = refl
told_before n (Packet p) s = refl
told_before n (Trailer t) s = refl
told_before n End s = refl
told_before n Broken s = refl

before_told : (us : List ℕ) (p : ℕ) (x : Item) (ext : Ports) (q : ℕ)
    → before_at p (item_in (units_at us p) x) (all_told us ext) q ≡ all_told us (before_at p x ext) q
before_told us p x ext q = at (q == p) refl
  where
    at : (b : Bool) → q == p ≡ b → before_if b (item_in (units_at us p) x) (told_in (units_at us q) (ext q)) ≡ told_in (units_at us q) (before_if b x (ext q))
    at true e =
        subst (λ r. before (item_in (units_at us r) x) (told_in (units_at us q) (ext q)) ≡ told_in (units_at us q) (before x (ext q)))
        (eqb-true q p e) (told_before (units_at us q) x (ext q))
    at false e = refl

all_before : (us : List ℕ) (p : ℕ) (x : Item) (ext : Ports) → before_at p (item_in (units_at us p) x) (all_told us ext) ≡ all_told us (before_at p x ext)
all_before us p x ext = λ i q. before_told us p x ext q i

module _ (us : List ℕ) (v w : View) where
  pub told_same : Same v w → Same (told_view us v) (told_view us w)
  told_same h = record {
    ports = record { ins = h.ports.ins; outs = h.ports.outs };
    rest = λ ext q on. h.rest (all_told us ext) q on;
    shut = h.shut;
    ended = h.ended;
    stopped = h.stopped;
  }

  pub told_fed : (p : ℕ) (x : Item) → Fed v w p (item_in (units_at us p) x) → Fed (told_view us v) (told_view us w) p x
  told_fed p x h = record {
    ports = record { ins = h.ports.ins; outs = h.ports.outs };
    rest = λ ext q on. h.rest (all_told us ext) q on ∙ ap (λ (ss : Ports). v.rest ss q) (all_before us p x ext);
    shut_here = h.shut_here ∙ ap (λ b. v.shut p || b) (closes_in (units_at us p) x);
    shut_others = h.shut_others;
    ended = h.ended;
    stopped = h.stopped;
  }

  pub told_waits : (q : ℕ) → Waits v w q → Waits (told_view us v) (told_view us w) q
  told_waits q h = record { same = told_same h.same; nothing_left = h.nothing_left }

  pub told_gave : (q : ℕ) (x : Item) → Gave v w q x → Gave (told_view us v) (told_view us w) q x
  told_gave q x h = record {
    ports = record { ins = h.ports.ins; outs = h.ports.outs };
    open_before = h.open_before;
    rest_here = λ ext. h.rest_here (all_told us ext);
    rest_others = λ ext o lt ne on. h.rest_others (all_told us ext) o lt ne on;
    shut = h.shut;
    ended_here = h.ended_here;
    ended_others = h.ended_others;
    stopped = h.stopped;
  }

  pub told_stopped : (q : ℕ) → Stopped v w q → Stopped (told_view us v) (told_view us w) q
  told_stopped q h = record {
    ports = record { ins = h.ports.ins; outs = h.ports.outs };
    stopped_here = h.stopped_here;
    stopped_others = h.stopped_others;
    rest_others = λ ext o lt ne on. h.rest_others (all_told us ext) o lt ne on;
    shut = h.shut;
    ended = h.ended;
  }

abbrev frame_at : VFrame → VFrame → VFrame
frame_at f g = record g { pts = f.pts; duration = f.duration }

-- what was told in other units is told as before by its times
pub back_again : (n : ℕ) (x : Item) → item_at (times_of x) (item_in n x) ≡ x
back_again n (Audio f) = refl
back_again n (Video f) = at (nat_eq n 1)
  where
    at : (b : Bool) → Video (frame_at f (cond b f (record f { pts = pos (start_in n f); duration = pos (end_in n f - start_in n f) }))) ≡ Video f
    at true = refl
    at false = refl
back_again n (Packet p) = refl
back_again n (Trailer t) = refl
back_again n End = refl
back_again n Broken = refl

pub units_there : (us : List ℕ) (p d : ℕ) → p < length us → get_or us p d ≡ units_at us p
units_there [] p d lt = absurd (omega (arith, lt))
units_there (u ∷ us) zero d lt = refl
units_there (u ∷ us) (suc p) d lt = units_there us p d (omega (arith, lt))

pub units_none : (us : List ℕ) (p : ℕ) → length us ≤ p → units_at us p ≡ 1
units_none [] p le = refl
units_none (u ∷ us) zero le = absurd (omega (arith, le))
units_none (u ∷ us) (suc p) le = units_none us p (omega (arith, le))
