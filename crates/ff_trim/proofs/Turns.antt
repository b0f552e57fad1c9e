-- What one step towards an output of a filter with cuts behind its outputs came to.
use Rattle.std.proofs.Common.{◌≡◌, ℕ, ◌<◌, true, false, Option, None, Some, Result, Ok, Err, OnErr, List, length, set, sym, subst, arith}
use Rattle.std.proofs.lemmas.List.{length-set}
use Rattle.std.specs.declared.alloc.AllocError.{AllocError}
use Rattle.ff_stream.specs.declared.item.Item.{Item}
use Rattle.ff_stream.specs.Ports.{nothing}
use Rattle.ff_filter.specs.Joins.{Ports}
use Rattle.ff_filter.specs.Views.{View, Same, Gave, Waits}
use Rattle.ff_trim.specs.declared.tap.Tap.{Tap}
use Rattle.ff_trim.specs.declared.tap.Turn.{Turn}
use Rattle.ff_trim.specs.declared.tap.Turn.TheVariants.{Gave as Turned, Waits as Idle, On}
use Rattle.ff_trim.specs.laws.Taps.{Way, way_of, ways_of, way_at, cut_view, Tied, IsTurn, IsPut, IsKept, IsResumed, IsKeptStill, to_go}
use Rattle.ff_trim.proofs.Ways.{replaced, long_ways}
use Rattle.ff_trim.proofs.Moving.{put_same, put_gave, put_less, kept_same, resumed_same, resumed_gave, resumed_less, again_same, on_err}

module _ (v w : View) (ts us : List Tap) (q : ℕ) (long : length us ≡ length ts) where
  pub failed : (e : AllocError) → Same (cut_view v ts) (cut_view w us) → IsTurn v ts w us q (Err e)
  failed e s = record { on = λ k. cc; less = λ k. cc; gave = λ y k. cc; waits = λ k. cc; unchanged = s; long = long }

  pub waited : Waits (cut_view v ts) (cut_view w us) q → IsTurn v ts w us q (Ok Idle)
  waited h = record { on = λ k. cc; less = λ k. cc; gave = λ y k. cc; waits = λ k. h; unchanged = tt; long = long }

  pub gave : (x : Item) → Gave (cut_view v ts) (cut_view w us) q x → IsTurn v ts w us q (Ok (Turned x))
  gave x g = record {
    on = λ k. cc;
    less = λ k. cc;
    gave = λ y k. (let same : x ≡ y = cc in subst (λ (z : Item). Gave (cut_view v ts) (cut_view w us) q z) same g);
    waits = λ k. cc;
    unchanged = tt;
    long = long;
  }

-- the filter's item went to the cut
pub put_turn : (v w : View) (ts : List Tap) (q : ℕ) (o n : Tap) (x : Item) (came : Result Turn AllocError) → q < length ts → Gave v w q x → Tied v (ways_of ts)
    → way_at (ways_of ts) q ≡ way_of o → (way_at (ways_of ts) q).ended ≡ false → (w.ended q ≡ true → (ext : Ports) → w.rest ext q ≡ nothing)
    → (came ≡ Ok On → IsPut (way_of o) (way_of n) x None) → ((y : Item) → came ≡ Ok (Turned y) → IsPut (way_of o) (way_of n) x (Some y))
    → (came ≡ Ok Idle → ⊥) → OnErr came (IsKept (way_of o) (way_of n) x) → IsTurn v ts w (set ts q n) q came
put_turn v w ts q o n x came lt g t is going quiet on gave due kept =
    let also = long_ways ts in
    let there : q < length (ways_of ts) = omega (arith, lt, also) in
    let r = replaced ts q n lt in
    let put : (given : Option Item) → IsPut (way_of o) (way_of n) x given → IsPut (way_at (ways_of ts) q) (way_of n) x given =
    λ given p. subst (λ (a : Way). IsPut a (way_of n) x given) (sym is) p in
    record {
      on = λ e. put_same v w (ways_of ts) (ways_of (set ts q n)) q (way_of n) x there g r t (put None (on e));
      less = λ e. subst (λ (a : Way). to_go w a q < to_go v (way_at (ways_of ts) q) q) (sym r.here)
          (put_less v w (ways_of ts) (ways_of (set ts q n)) q (way_of n) x there g r t None quiet (put None (on e)));
      gave = λ y e. put_gave v w (ways_of ts) (ways_of (set ts q n)) q (way_of n) x there g r t y going (put (Some y) (gave y e));
      waits = λ e. absurd (due e);
      unchanged = on_err came kept (λ k. kept_same v w (ways_of ts) (ways_of (set ts q n)) q (way_of n) x there g r t
          (subst (λ (a : Way). IsKept a (way_of n) x) (sym is) k));
      long = length-set ts q n;
    }

-- the item that waited before the cut went to it
pub resumed_turn : (v : View) (ts : List Tap) (q : ℕ) (o n : Tap) (came : Result Turn AllocError) → q < length ts → Tied v (ways_of ts)
    → way_at (ways_of ts) q ≡ way_of o → (way_at (ways_of ts) q).ended ≡ false
    → (came ≡ Ok On → IsResumed (way_of o) (way_of n) None) → ((y : Item) → came ≡ Ok (Turned y) → IsResumed (way_of o) (way_of n) (Some y))
    → (came ≡ Ok Idle → ⊥) → OnErr came (IsKeptStill (way_of o) (way_of n)) → IsTurn v ts v (set ts q n) q came
resumed_turn v ts q o n came lt t is going on gave due kept =
    let also = long_ways ts in
    let there : q < length (ways_of ts) = omega (arith, lt, also) in
    let r = replaced ts q n lt in
    let resumed : (given : Option Item) → IsResumed (way_of o) (way_of n) given → IsResumed (way_at (ways_of ts) q) (way_of n) given =
    λ given p. subst (λ (a : Way). IsResumed a (way_of n) given) (sym is) p in
    record {
      on = λ e. resumed_same v (ways_of ts) (ways_of (set ts q n)) q (way_of n) there r t (resumed None (on e));
      less = λ e. subst (λ (a : Way). to_go v a q < to_go v (way_at (ways_of ts) q) q) (sym r.here)
          (resumed_less v (ways_of ts) (ways_of (set ts q n)) q (way_of n) there r t None (resumed None (on e)));
      gave = λ y e. resumed_gave v (ways_of ts) (ways_of (set ts q n)) q (way_of n) there r t y going (resumed (Some y) (gave y e));
      waits = λ e. absurd (due e);
      unchanged = on_err came kept (λ k. again_same v (ways_of ts) (ways_of (set ts q n)) q (way_of n) there r t
          (subst (λ (a : Way). IsKeptStill a (way_of n)) (sym is) k));
      long = length-set ts q n;
    }
