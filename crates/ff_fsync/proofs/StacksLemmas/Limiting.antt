-- What each call does to how a filter is seen, with the limits behind it.
use Rattle.std.specs.Prelude.{◌≡◌, ◌≢◌, ℕ, ◌+◌, ◌<◌, Bool, true, false, cond, [], ◌∷◌, length, Result, Ok, Err, OnOk, OnErr, refl}
use Rattle.std.proofs.Common.{ap, sym, ◌∙◌, subst, arith}
use Rattle.ff_stream.specs.declared.item.Item.{Item}
use Rattle.ff_stream.specs.declared.item.Item.TheVariants.{Audio, Video, Packet, Trailer, End, Broken}
use Rattle.ff_stream.specs.declared.item.Lane.{Lane}
use Rattle.ff_stream.specs.Stream.{still_open, broken}
use Rattle.ff_stream.specs.Within.{passes_limits}
use Rattle.ff_filter.specs.Joins.{Flow, joined, before}
use Rattle.ff_filter.specs.laws.Limits.{limited, limit_step, run_next}
use Rattle.ff_filter.specs.laws.Runs.{no_more}
use Rattle.ff_filter.specs.Views.{View, Same, Fed, Gave, Waits, Stopped, closes}
use Rattle.ff_fsync.specs.laws.stacks.Limits.{limits_view}

data_then : (x : Item) (t : Flow) → closes x ≡ false → joined (record { items = x ∷ []; mark = still_open }) t ≡ before x t
data_then (Audio f) t c = refl
data_then (Video f) t c = refl
data_then (Packet f) t c = refl
data_then (Trailer f) t c = refl
data_then End t c = cc
data_then Broken t c = cc

last_then : (x : Item) (s t : Flow) → closes x ≡ true → before x s ≡ before x t
last_then (Audio f) s t c = cc
last_then (Video f) s t c = cc
last_then (Packet f) s t c = cc
last_then (Trailer f) s t c = cc
last_then End s t c = refl
last_then Broken s t c = refl

module _ (passes : ℕ → Item → Bool) (n : ℕ) where
  step_by : (x : Item) (t : Flow) → closes x ≡ false → limited passes n (before x t)
      ≡ joined (cond (passes n x) (record { items = []; mark = broken }) (record { items = x ∷ []; mark = still_open })) (limited passes (n + 1) t)
  step_by x t c = run_next (limit_step passes) no_more n x t c

  pub limited_on : (x : Item) (t : Flow) → closes x ≡ false → passes n x ≡ false → limited passes n (before x t) ≡ before x (limited passes (n + 1) t)
  limited_on x t c p =
      step_by x t c
      ∙ (ap (λ (b : Bool). joined (cond b (record { items = []; mark = broken }) (record { items = x ∷ []; mark = still_open })) (limited passes (n + 1) t)) p
      ∙ data_then x (limited passes (n + 1) t) c)

  pub limited_off : (x : Item) (t u : Flow) → closes x ≡ false → passes n x ≡ true → limited passes n (before x t) ≡ before Broken u
  limited_off x t u c p =
      step_by x t c
      ∙ ap (λ (b : Bool). joined (cond b (record { items = []; mark = broken }) (record { items = x ∷ []; mark = still_open })) (limited passes (n + 1) t)) p

  pub limited_last : (x : Item) (t u : Flow) → closes x ≡ true → limited passes n (before x t) ≡ before x u
  limited_last (Audio f) t u c = cc
  limited_last (Video f) t u c = cc
  limited_last (Packet f) t u c = cc
  limited_last (Trailer f) t u c = cc
  limited_last End t u c = refl
  limited_last Broken t u c = refl

module _ (lane : Lane) (n : ℕ) where
  pub limits_same : (v w : View) → Same v w → Same (limits_view lane n v) (limits_view lane n w)
  limits_same v w h = record {
    ports = record { ins = h.ports.ins; outs = h.ports.outs };
    rest = λ ext q on. ap (λ (s : Flow). limited (passes_limits lane) n s) (h.rest ext q on);
    shut = h.shut;
    ended = h.ended;
    stopped = h.stopped;
  }

  pub limits_fed : (v w : View) (p : ℕ) (x : Item) → Fed v w p x → Fed (limits_view lane n v) (limits_view lane n w) p x
  limits_fed v w p x h = record {
    ports = record { ins = h.ports.ins; outs = h.ports.outs };
    rest = λ ext q on. ap (λ (s : Flow). limited (passes_limits lane) n s) (h.rest ext q on);
    shut_here = h.shut_here;
    shut_others = h.shut_others;
    ended = h.ended;
    stopped = h.stopped;
  }

  pub limits_waits : (v w : View) (q : ℕ) → Waits v w q → Waits (limits_view lane n v) (limits_view lane n w) q
  limits_waits v w q h = record {
    same = limits_same v w h.same;
    nothing_left = ap (λ (s : Flow). limited (passes_limits lane) n s) h.nothing_left;
  }

  pub limits_stopped : (v w : View) (q : ℕ) → Stopped v w q → Stopped (limits_view lane n v) (limits_view lane n w) q
  limits_stopped v w q h = record {
    ports = record { ins = h.ports.ins; outs = h.ports.outs };
    stopped_here = h.stopped_here;
    stopped_others = h.stopped_others;
    rest_others = λ ext o lt ne on. ap (λ (s : Flow). limited (passes_limits lane) n s) (h.rest_others ext o lt ne on);
    shut = h.shut;
    ended = h.ended;
  }

  -- an item was given that passes no limit, or that closes the stream
  pub limits_gave : (m : ℕ) (v w : View) (q : ℕ) (x : Item)
      → ((t : Flow) → limited (passes_limits lane) n (before x t) ≡ before x (limited (passes_limits lane) m t))
      → ((o : ℕ) → o < length v.outs → o ≢ q → ⊥) → Gave v w q x → Gave (limits_view lane n v) (limits_view lane m w) q x
  limits_gave m v w q x says alone h = record {
    ports = record { ins = h.ports.ins; outs = h.ports.outs };
    open_before = h.open_before;
    rest_here = λ ext. ap (λ (s : Flow). limited (passes_limits lane) n s) (h.rest_here ext) ∙ says (w.rest ext q);
    rest_others = λ ext o lt ne on. absurd (alone o lt ne);
    shut = h.shut;
    ended_here = h.ended_here;
    ended_others = h.ended_others;
    stopped = h.stopped;
  }

  -- in place of one that passes a limit the output breaks off; `u` is `w` with its output closed
  pub limits_cut : (v w u : View) (q : ℕ) (x : Item) → closes x ≡ false → passes_limits lane n x ≡ true
      → ((o : ℕ) → o < length v.outs → o ≢ q → ⊥) → Gave v w q x
      → u.ins ≡ w.ins → u.outs ≡ w.outs → u.shut ≡ w.shut → u.stopped ≡ w.stopped → u.ended q ≡ true
      → Gave (limits_view lane n v) u q Broken
  limits_cut v w u q x c p alone h ins outs shut stopped ended = record {
    ports = record { ins = ins ∙ h.ports.ins; outs = outs ∙ h.ports.outs };
    open_before = h.open_before;
    rest_here = λ ext. ap (λ (s : Flow). limited (passes_limits lane) n s) (h.rest_here ext) ∙ limited_off (passes_limits lane) n x (w.rest ext q) (u.rest ext q) c p;
    rest_others = λ ext o lt ne on. absurd (alone o lt ne);
    shut = λ i. ap (λ (f : ℕ → Bool). f i) shut ∙ h.shut i;
    ended_here = ended;
    ended_others = λ o lt ne. absurd (alone o lt ne);
    stopped = λ o. ap (λ (f : ℕ → Bool). f o) stopped ∙ h.stopped o;
  }

-- there is no other output
pub alone_at : (v : View) (q : ℕ) → length v.outs ≡ 1 → q < length v.outs → (o : ℕ) → o < length v.outs → o ≢ q → ⊥
alone_at v q e there o lt ne = let same : o ≡ q = omega arith in ne same

-- the same where the head of the output is that of each
module _ (l k : Lane) (n : ℕ) (v w : View) (old : v.outs ≡ l ∷ []) (new : w.outs ≡ k ∷ []) where
  one_lane : w.outs ≡ v.outs → l ≡ k
  one_lane e = let all : l ∷ [] ≡ k ∷ [] = sym old ∙ (sym e ∙ new) in cc

  pub fed_on : (p : ℕ) (x : Item) → Fed v w p x → Fed (limits_view l n v) (limits_view k n w) p x
  fed_on p x h = subst (λ (j : Lane). Fed (limits_view l n v) (limits_view j n w) p x) (one_lane h.ports.outs) (limits_fed l n v w p x h)

  pub same_on : Same v w → Same (limits_view l n v) (limits_view k n w)
  same_on h = subst (λ (j : Lane). Same (limits_view l n v) (limits_view j n w)) (one_lane h.ports.outs) (limits_same l n v w h)

  pub waits_on : (q : ℕ) → Waits v w q → Waits (limits_view l n v) (limits_view k n w) q
  waits_on q h = subst (λ (j : Lane). Waits (limits_view l n v) (limits_view j n w) q) (one_lane h.same.ports.outs) (limits_waits l n v w q h)

  pub stopped_on : (q : ℕ) → Stopped v w q → Stopped (limits_view l n v) (limits_view k n w) q
  stopped_on q h = subst (λ (j : Lane). Stopped (limits_view l n v) (limits_view j n w) q) (one_lane h.ports.outs) (limits_stopped l n v w q h)

  pub gave_on : (u : View) (q : ℕ) (x y : Item) → Gave v w q x → Gave (limits_view k n v) u q y → Gave (limits_view l n v) u q y
  gave_on u q x y h g = subst (λ (j : Lane). Gave (limits_view j n v) u q y) (sym (one_lane h.ports.outs)) g

pub on_ok : {A E : Type 0} (r : Result A E) (P Q : Type 0) → (P → Q) → OnOk r P → OnOk r Q
on_ok (Ok a) P Q h p = h p
on_ok (Err e) P Q h p = tt

pub on_err : {A E : Type 0} (r : Result A E) (P Q : Type 0) → (P → Q) → OnErr r P → OnErr r Q
on_err (Ok a) P Q h p = tt
on_err (Err e) P Q h p = h p
