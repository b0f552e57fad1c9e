-- What each call of a filter with cuts behind its outputs does to how it is seen.
use Rattle.std.proofs.Common.{◌≡◌, ◌≢◌, ℕ, suc, ◌<◌, inl, inr, Bool, true, false, cond, ◌||◌, Option, None, Some, is_some, Result, Ok, Err, OnOk, OnErr, List, [], ◌∷◌, map, length, refl, ap, sym, ◌∙◌, subst, arith}
use Rattle.std.proofs.lemmas.Bool.{cases_eq}
use Rattle.ff_frame.specs.declared.head.StreamHead.{StreamHead}
use Rattle.ff_stream.specs.declared.item.Item.{Item}
use Rattle.ff_stream.specs.declared.item.Item.TheVariants.{Audio, Video, Packet, Trailer, End, Broken}
use Rattle.ff_stream.specs.declared.item.Lane.{Lane}
use Rattle.ff_stream.specs.declared.item.Lane.TheVariants.{Frames}
use Rattle.ff_stream.specs.Ports.{nothing}
use Rattle.ff_filter.specs.declared.after.After.{After}
use Rattle.ff_filter.specs.declared.after.After.TheVariants.{More, Whole, Broke}
use Rattle.ff_filter.specs.Joins.{Flow, Ports, silence, before, before_at}
use Rattle.ff_filter.specs.Made.{left, is_over}
use Rattle.ff_filter.specs.Views.{View, SamePorts, Same, Fed, Gave, Waits, Stopped, IsNew, closes}
use Rattle.ff_filter.specs.laws.Held.{after_held, held_closes}
use Rattle.ff_filter.specs.laws.StepperLaws.{or_left, or_right}
use Rattle.std.specs.declared.alloc.AllocError.{AllocError}
use Rattle.ff_trim.specs.declared.counted.OutputCut.{OutputCut}
use Rattle.ff_trim.specs.declared.tap.Tap.{Tap}
use Rattle.ff_trim.specs.declared.tap.Turn.{Turn}
use Rattle.ff_trim.specs.declared.tap.Turn.TheVariants.{Gave as Turned, Waits as Idle, On}
use Rattle.ff_trim.specs.laws.Taps.{Way, ways_of, way_at, still_cut, cutting_view, cut_view, IsTied, Tied, to_go, IsPut, IsKept, IsResumed, IsKeptStill, IsShut, IsLeft, AreNewWays, IsCutting}
use Rattle.ff_trim.proofs.Ways.{Replaced, there_or, runs_nothing}

-- something was done at output q of a filter; the others go on as before
pub record Moves (v w : View) (q : ℕ) : Type 0 where
  pub ports : SamePorts v w
  pub shut : (p : ℕ) → w.shut p ≡ v.shut p
  pub rest : (ext : Ports) (o : ℕ) → o < length v.outs → o ≢ q → v.stopped o ≡ false → w.rest ext o ≡ v.rest ext o
  pub ended : (o : ℕ) → o < length v.outs → o ≢ q → w.ended o ≡ v.ended o
  pub stopped : (o : ℕ) → o < length v.outs → o ≢ q → w.stopped o ≡ v.stopped o

pub moves_same : (v w : View) (q : ℕ) → Same v w → Moves v w q
moves_same v w q s = record {
  ports = s.ports;
  shut = s.shut;
  rest = λ ext o lt ne on. s.rest ext o on;
  ended = λ o lt ne. s.ended o;
  stopped = λ o lt ne. s.stopped o;
}

pub moves_gave : (v w : View) (q : ℕ) (x : Item) → Gave v w q x → Moves v w q
moves_gave v w q x g = record {
  ports = g.ports;
  shut = g.shut;
  rest = g.rest_others;
  ended = g.ended_others;
  stopped = λ o lt ne. g.stopped o;
}

pub moves_stopped : (v w : View) (q : ℕ) → Stopped v w q → Moves v w q
moves_stopped v w q s = record {
  ports = s.ports;
  shut = s.shut;
  rest = s.rest_others;
  ended = λ o lt ne. s.ended o;
  stopped = s.stopped_others;
}

-- nothing is left behind an output that was closed
left_ended : (b : Bool) (a : After) (s : Flow) → b ≡ true → left [] b a s ≡ nothing
left_ended true a s e = refl
left_ended false a s e = cc

-- where an output is closed or there is none, what comes doesn't matter; else the filter's is wanted
still_same : (v : View) (ws : List Way) (t : Tied v ws) (o : ℕ) (r s : Flow) → (way_at ws o).stopped ≡ false
    → (o < length v.outs → v.stopped o ≡ false → r ≡ s) → still_cut (way_at ws o) r ≡ still_cut (way_at ws o) s
still_same v ws t o r s on h = elim (there_or ws o) as (λ _. still_cut (way_at ws o) r ≡ still_cut (way_at ws o) s) [
  | inl lt ↦ at (way_at ws o).ended refl lt
  | inr none ↦ subst (λ (w : Way). still_cut w r ≡ still_cut w s) (sym none) refl
]
  where
    at : (b : Bool) → (way_at ws o).ended ≡ b → o < length ws → still_cut (way_at ws o) r ≡ still_cut (way_at ws o) s
    at true e lt = left_ended (way_at ws o).ended (way_at ws o).after ((way_at ws o).runs (after_held (way_at ws o).held r)) e
        ∙ sym (left_ended (way_at ws o).ended (way_at ws o).after ((way_at ws o).runs (after_held (way_at ws o).held s)) e)
    at false e lt =
        let long = t.long in
        ap (λ (u : Flow). still_cut (way_at ws o) u)
        (h (omega (arith, lt, long)) ((t.each o lt).stops ∙ (ap (λ b. b || (way_at ws o).ended) on ∙ e)))

module _ (v w : View) (ws us : List Way) (q : ℕ) (n : Way) (m : Moves v w q) (r : Replaced ws us q n) (t : Tied v ws) where
  others : (ext : Ports) (o : ℕ) → o ≢ q → (way_at ws o).stopped ≡ false → still_cut (way_at us o) (w.rest ext o) ≡ still_cut (way_at ws o) (v.rest ext o)
  others ext o ne on = ap (λ (x : Way). still_cut x (w.rest ext o)) (r.others o ne)
      ∙ still_same v ws t o (w.rest ext o) (v.rest ext o) on (λ lt z. m.rest ext o lt ne z)

  at_way : {A : Type 0} (F : Way → A) → F n ≡ F (way_at ws q) → (o : ℕ) → F (way_at us o) ≡ F (way_at ws o)
  at_way {A} F h o = elim (cases_eq o q) as (λ _. F (way_at us o) ≡ F (way_at ws o)) [
    | inl e ↦ subst (λ k. F (way_at us k) ≡ F (way_at ws k)) (sym e) (ap F r.here ∙ h)
    | inr ne ↦ ap F (r.others o ne)
  ]

  pub tied_by : IsTied w n q → Tied w us
  tied_by here = record {
    long = ap (λ (ls : List Lane). length ls) m.ports.outs ∙ (t.long ∙ sym r.long);
    each = λ o lt. elim (cases_eq o q) as (λ _. IsTied w (way_at us o) o) [
      | inl e ↦ subst (λ k. IsTied w (way_at us k) k) (sym e) (subst (λ (x : Way). IsTied w x q) (sym r.here) here)
      | inr ne ↦ (
          let one = r.long in
          let two = t.long in
          let less : o < length ws = omega (arith, lt, one) in
          let out : o < length v.outs = omega (arith, less, two) in
          let i = t.each o less in
          subst (λ (x : Way). IsTied w x o) (sym (r.others o ne)) (record {
            stops = m.stopped o out ne ∙ i.stops;
            over = λ e. i.over (sym (m.ended o out ne) ∙ e);
            held_open = i.held_open;
          }))
    ];
  }

  pub same_by : n.ended ≡ (way_at ws q).ended → n.stopped ≡ (way_at ws q).stopped
      → ((ext : Ports) → still_cut n (w.rest ext q) ≡ still_cut (way_at ws q) (v.rest ext q))
      → Same (cutting_view v ws) (cutting_view w us)
  same_by ends stops h = record {
    ports = record { ins = m.ports.ins; outs = m.ports.outs };
    rest = λ ext o on. elim (cases_eq o q) as (λ _. still_cut (way_at us o) (w.rest ext o) ≡ still_cut (way_at ws o) (v.rest ext o)) [
      | inl e ↦ subst (λ k. still_cut (way_at us k) (w.rest ext k) ≡ still_cut (way_at ws k) (v.rest ext k)) (sym e)
          (ap (λ (x : Way). still_cut x (w.rest ext q)) r.here ∙ h ext)
      | inr ne ↦ others ext o ne on
    ];
    shut = m.shut;
    ended = at_way (λ x. x.ended) ends;
    stopped = at_way (λ x. x.stopped) stops;
  }

  pub gave_by : (x : Item) → (way_at ws q).ended ≡ false → n.ended ≡ closes x → n.stopped ≡ (way_at ws q).stopped
      → ((ext : Ports) → still_cut (way_at ws q) (v.rest ext q) ≡ before x (still_cut n (w.rest ext q)))
      → Gave (cutting_view v ws) (cutting_view w us) q x
  gave_by x going ends stops h = record {
    ports = record { ins = m.ports.ins; outs = m.ports.outs };
    open_before = going;
    rest_here = λ ext. h ext ∙ ap (λ (y : Way). before x (still_cut y (w.rest ext q))) (sym r.here);
    rest_others = λ ext o lt ne on. others ext o ne on;
    shut = m.shut;
    ended_here = ap (λ (y : Way). y.ended) r.here ∙ ends;
    ended_others = λ o lt ne. ap (λ (y : Way). y.ended) (r.others o ne);
    stopped = at_way (λ y. y.stopped) stops;
  }

  pub stopped_by : n.ended ≡ (way_at ws q).ended → n.stopped ≡ true → Stopped (cutting_view v ws) (cutting_view w us) q
  stopped_by ends stops = record {
    ports = record { ins = m.ports.ins; outs = m.ports.outs };
    stopped_here = ap (λ (y : Way). y.stopped) r.here ∙ stops;
    stopped_others = λ o lt ne. ap (λ (y : Way). y.stopped) (r.others o ne);
    rest_others = λ ext o lt ne on. others ext o ne on;
    shut = m.shut;
    ended = at_way (λ y. y.ended) ends;
  }

-- the filter's item went to the cut
module _ (v w : View) (ws us : List Way) (q : ℕ) (n : Way) (x : Item) (lt : q < length ws) (g : Gave v w q x) (r : Replaced ws us q n) (t : Tied v ws) where
  moved : Moves v w q
  moved = moves_gave v w q x g

  kept_stops : n.ended ≡ (way_at ws q).ended → n.stopped ≡ (way_at ws q).stopped → w.stopped q ≡ (n.stopped || n.ended)
  kept_stops ends stops = g.stopped q ∙ ((t.each q lt).stops ∙ (ap (λ b. b || (way_at ws q).ended) (sym stops) ∙ ap (λ b. n.stopped || b) (sym ends)))

  pub put_tied : (given : Option Item) → IsPut (way_at ws q) n x given → Tied w us
  put_tied given p = tied_by v w ws us q n moved r t (record {
    stops = kept_stops p.ended p.stopped;
    over = λ e. p.over (sym g.ended_here ∙ e);
    held_open = ap held_closes p.held;
  })

  pub put_same : IsPut (way_at ws q) n x None → Same (cutting_view v ws) (cutting_view w us)
  put_same p = same_by v w ws us q n moved r t p.ended p.stopped
      (λ ext. sym (p.rest (w.rest ext q)) ∙ ap (λ (s : Flow). still_cut (way_at ws q) s) (sym (g.rest_here ext)))

  pub put_gave : (y : Item) → (way_at ws q).ended ≡ false → IsPut (way_at ws q) n x (Some y) → Gave (cutting_view v ws) (cutting_view w us) q y
  put_gave y going p = gave_by v w ws us q n moved r t y going (p.ended ∙ (going ∙ sym p.goes_on)) p.stopped
      (λ ext. ap (λ (s : Flow). still_cut (way_at ws q) s) (g.rest_here ext) ∙ p.rest (w.rest ext q))

  pub kept_tied : IsKept (way_at ws q) n x → Tied w us
  kept_tied k = tied_by v w ws us q n moved r t (record {
    stops = kept_stops k.ended k.stopped;
    over = λ e. absurd (let clash : false ≡ true = sym k.goes_on ∙ (sym g.ended_here ∙ e) in cc);
    held_open = ap held_closes k.held ∙ k.goes_on;
  })

  pub kept_same : IsKept (way_at ws q) n x → Same (cutting_view v ws) (cutting_view w us)
  kept_same k = same_by v w ws us q n moved r t k.ended k.stopped
      (λ ext. k.rest (w.rest ext q) ∙ ap (λ (s : Flow). still_cut (way_at ws q) s) (sym (g.rest_here ext)))

  one_more : (x : Item) (s : Flow) → closes x ≡ false → length (before x s).items ≡ suc (length s.items)
  one_more (Audio f) s c = refl
  one_more (Video f) s c = refl
  one_more (Packet p) s c = refl
  one_more (Trailer p) s c = refl
  one_more End s c = cc
  one_more Broken s c = cc

  pub put_less : (given : Option Item) → (w.ended q ≡ true → (ext : Ports) → w.rest ext q ≡ nothing) → IsPut (way_at ws q) n x given → to_go w n q < to_go v (way_at ws q) q
  put_less given quiet p = at (closes x) refl
    where
      none_held : ◌≡◌ {A = ℕ} (cond (is_some n.held) 1 0) 0
      none_held = ap (λ (h : Option Item). cond (is_some h) 1 0) p.held

      was_open : ◌≡◌ {A = ℕ} (cond (v.ended q) 0 1) 1
      was_open = ap (λ b. cond b 0 1) g.open_before

      at : (b : Bool) → closes x ≡ b → to_go w n q < to_go v (way_at ws q) q
      at true e =
          let over : w.ended q ≡ true = g.ended_here ∙ e in
          let none : length (w.rest silence q).items ≡ 0 = ap (λ (s : Flow). length s.items) (quiet over silence) in
          let done : ◌≡◌ {A = ℕ} (cond (w.ended q) 0 1) 0 = ap (λ b. cond b 0 1) over in
          omega (arith, none, done, none_held, was_open)
      at false e =
          let more : length (v.rest silence q).items ≡ suc (length (w.rest silence q).items) = ap (λ (s : Flow). length s.items) (g.rest_here silence) ∙ one_more x (w.rest silence q) e in
          let going : ◌≡◌ {A = ℕ} (cond (w.ended q) 0 1) 1 = ap (λ b. cond b 0 1) (g.ended_here ∙ e) in
          omega (arith, more, going, none_held, was_open)

  -- whatever came of it, the filter and the cuts stay tied
  pub put_any : (res : Result Turn AllocError) → (res ≡ Ok On → IsPut (way_at ws q) n x None) → ((y : Item) → res ≡ Ok (Turned y) → IsPut (way_at ws q) n x (Some y))
      → (res ≡ Ok Idle → ⊥) → OnErr res (IsKept (way_at ws q) n x) → Tied w us
  put_any (Ok On) on gave due kept = put_tied None (on refl)
  put_any (Ok (Turned y)) on gave due kept = put_tied (Some y) (gave y refl)
  put_any (Ok Idle) on gave due kept = absurd (due refl)
  put_any (Err e) on gave due kept = kept_tied kept

-- the item that waited before the cut went to it
module _ (v : View) (ws us : List Way) (q : ℕ) (n : Way) (lt : q < length ws) (r : Replaced ws us q n) (t : Tied v ws) where
  stays : Moves v v q
  stays = record { ports = record { ins = refl; outs = refl }; shut = λ p. refl; rest = λ ext o l ne on. refl; ended = λ o l ne. refl; stopped = λ o l ne. refl }

  still_stops : n.ended ≡ (way_at ws q).ended → n.stopped ≡ (way_at ws q).stopped → v.stopped q ≡ (n.stopped || n.ended)
  still_stops ends stops = (t.each q lt).stops ∙ (ap (λ b. b || (way_at ws q).ended) (sym stops) ∙ ap (λ b. n.stopped || b) (sym ends))

  still_going : is_over (way_at ws q).after ≡ false → v.ended q ≡ true → is_over n.after ≡ true
  still_going going e = absurd (let clash : false ≡ true = sym going ∙ (t.each q lt).over e in cc)

  pub resumed_tied : (given : Option Item) → IsResumed (way_at ws q) n given → Tied v us
  resumed_tied given p = tied_by v v ws us q n stays r t (record { stops = still_stops p.ended p.stopped; over = still_going p.going; held_open = ap held_closes p.held })

  pub resumed_same : IsResumed (way_at ws q) n None → Same (cutting_view v ws) (cutting_view v us)
  resumed_same p = same_by v v ws us q n stays r t p.ended p.stopped (λ ext. sym (p.rest (v.rest ext q)))

  pub resumed_gave : (y : Item) → (way_at ws q).ended ≡ false → IsResumed (way_at ws q) n (Some y) → Gave (cutting_view v ws) (cutting_view v us) q y
  resumed_gave y going p = gave_by v v ws us q n stays r t y going (p.ended ∙ (going ∙ sym p.goes_on)) p.stopped (λ ext. p.rest (v.rest ext q))

  pub resumed_less : (given : Option Item) → IsResumed (way_at ws q) n given → to_go v n q < to_go v (way_at ws q) q
  resumed_less given p =
      let none : ◌≡◌ {A = ℕ} (cond (is_some n.held) 1 0) 0 = ap (λ (h : Option Item). cond (is_some h) 1 0) p.held in
      let one : ◌≡◌ {A = ℕ} (cond (is_some (way_at ws q).held) 1 0) 1 = ap (λ b. cond b 1 0) p.was_held in
      omega (arith, none, one)

  pub again_tied : IsKeptStill (way_at ws q) n → Tied v us
  again_tied k = tied_by v v ws us q n stays r t (record { stops = still_stops k.ended k.stopped; over = still_going k.going; held_open = k.held_open })

  pub again_same : IsKeptStill (way_at ws q) n → Same (cutting_view v ws) (cutting_view v us)
  again_same k = same_by v v ws us q n stays r t k.ended k.stopped (λ ext. k.rest (v.rest ext q))

  pub resumed_any : (res : Result Turn AllocError) → (res ≡ Ok On → IsResumed (way_at ws q) n None) → ((y : Item) → res ≡ Ok (Turned y) → IsResumed (way_at ws q) n (Some y))
      → (res ≡ Ok Idle → ⊥) → OnErr res (IsKeptStill (way_at ws q) n) → Tied v us
  resumed_any (Ok On) on gave due kept = resumed_tied None (on refl)
  resumed_any (Ok (Turned y)) on gave due kept = resumed_tied (Some y) (gave y refl)
  resumed_any (Ok Idle) on gave due kept = absurd (due refl)
  resumed_any (Err e) on gave due kept = again_tied kept

-- the filter was told that nothing more is wanted at an output
module _ (v w : View) (ws us : List Way) (q : ℕ) (n : Way) (lt : q < length ws) (s : Stopped v w q) (r : Replaced ws us q n) (t : Tied v ws) where
  pub shut_tied : (x : Item) → IsShut (way_at ws q) n x → Tied w us
  shut_tied x h = tied_by v w ws us q n (moves_stopped v w q s) r t (record {
    stops = s.stopped_here ∙ sym (or_right n.stopped n.ended h.ended);
    over = λ e. ap is_over h.after ∙ (t.each q lt).over (sym (s.ended q) ∙ e);
    held_open = ap held_closes h.held ∙ (t.each q lt).held_open;
  })

  pub shut_gave : (x : Item) → IsShut (way_at ws q) n x → Gave (cutting_view v ws) (cutting_view w us) q x
  shut_gave x h = gave_by v w ws us q n (moves_stopped v w q s) r t x h.open_before (h.ended ∙ sym h.closes) h.stopped (λ ext. h.rest (v.rest ext q) (w.rest ext q))

  pub left_tied : IsLeft (way_at ws q) n → Tied w us
  left_tied h = tied_by v w ws us q n (moves_stopped v w q s) r t (record {
    stops = s.stopped_here ∙ sym (or_left n.stopped n.ended h.stopped);
    over = λ e. ap is_over h.after ∙ (t.each q lt).over (sym (s.ended q) ∙ e);
    held_open = ap held_closes h.held ∙ (t.each q lt).held_open;
  })

  pub left_stopped : IsLeft (way_at ws q) n → Stopped (cutting_view v ws) (cutting_view w us) q
  left_stopped h = stopped_by v w ws us q n (moves_stopped v w q s) r t h.ended h.stopped

-- a call of the filter that changed none of its outputs
module _ (v w : View) (ws : List Way) (t : Tied v ws) where
  pub tied_kept : SamePorts v w → ((q : ℕ) → w.ended q ≡ v.ended q) → ((q : ℕ) → w.stopped q ≡ v.stopped q) → Tied w ws
  tied_kept ports ended stopped = record {
    long = ap (λ (ls : List Lane). length ls) ports.outs ∙ t.long;
    each = λ q lt. let i = t.each q lt in record { stops = stopped q ∙ i.stops; over = λ e. i.over (sym (ended q) ∙ e); held_open = i.held_open };
  }

  pub fed_cut : (p : ℕ) (x : Item) → Fed v w p x → Fed (cutting_view v ws) (cutting_view w ws) p x
  fed_cut p x f = record {
    ports = record { ins = f.ports.ins; outs = f.ports.outs };
    rest = λ ext o on. still_same v ws t o (w.rest ext o) (v.rest (before_at p x ext) o) on (λ lt z. f.rest ext o z);
    shut_here = f.shut_here;
    shut_others = f.shut_others;
    ended = λ q. refl;
    stopped = λ q. refl;
  }

  pub same_cut : Same v w → Same (cutting_view v ws) (cutting_view w ws)
  same_cut s = record {
    ports = record { ins = s.ports.ins; outs = s.ports.outs };
    rest = λ ext o on. still_same v ws t o (w.rest ext o) (v.rest ext o) on (λ lt z. s.rest ext o z);
    shut = s.shut;
    ended = λ q. refl;
    stopped = λ q. refl;
  }

pub on_ok : {A : Type 0} {E : Type 0} {P Q : Type 0} → (r : Result A E) → OnOk r P → (P → Q) → OnOk r Q
on_ok (Ok a) h f = f h
on_ok (Err e) h f = h

pub on_err : {A : Type 0} {E : Type 0} {P Q : Type 0} → (r : Result A E) → OnErr r P → (P → Q) → OnErr r Q
on_err (Ok a) h f = h
on_err (Err e) h f = f h

pub not_over : (a : After) → is_over a ≡ false → a ≡ More
not_over More e = refl
not_over Whole e = cc
not_over Broke e = cc

pub not_held : (h : Option Item) → is_some h ≡ false → h ≡ None
not_held None e = refl
not_held (Some x) e = cc

more_open : (a : After) (s : Flow) → is_over a ≡ false → s ≡ nothing → left [] false a s ≡ nothing
more_open More s e h = h
more_open Whole s e h = cc
more_open Broke s e h = cc

none_held : (h : Option Item) (s : Flow) → is_some h ≡ false → after_held h s ≡ s
none_held None s e = refl
none_held (Some x) s e = cc

-- the filter gives nothing
pub waits_cut : (v w : View) (ts : List Tap) (q : ℕ) → Tied v (ways_of ts) → (way_at (ways_of ts) q).ended ≡ false → is_over (way_at (ways_of ts) q).after ≡ false
    → is_some (way_at (ways_of ts) q).held ≡ false → Waits v w q → Waits (cut_view v ts) (cut_view w ts) q
waits_cut v w ts q t going more free h =
    let o = way_at (ways_of ts) q in
    record {
      same = same_cut v w (ways_of ts) t h.same;
      nothing_left = ap (λ b. left [] b o.after (o.runs (after_held o.held (v.rest silence q)))) going
          ∙ more_open o.after (o.runs (after_held o.held (v.rest silence q))) more
          (ap (λ (s : Flow). o.runs s) (none_held o.held (v.rest silence q) free ∙ h.nothing_left) ∙ runs_nothing ts q);
    }

-- the output was closed
pub waits_closed : (v : View) (ws : List Way) (q : ℕ) → (way_at ws q).ended ≡ true → Waits (cutting_view v ws) (cutting_view v ws) q
waits_closed v ws q e = record {
  same = record { ports = record { ins = refl; outs = refl }; rest = λ ext o on. refl; shut = λ p. refl; ended = λ o. refl; stopped = λ o. refl };
  nothing_left = left_ended (way_at ws q).ended (way_at ws q).after ((way_at ws q).runs (after_held (way_at ws q).held (v.rest silence q))) e;
}

-- nothing was done yet
long_map : (hs : List StreamHead) → length (map Frames hs) ≡ length hs
long_map [] = refl
long_map (h ∷ hs) = ap suc (long_map hs)

pub new_tied : (hs : List StreamHead) (cs : List OutputCut) (v : View) (ws : List Way) → IsNew v → v.outs ≡ map Frames hs → AreNewWays hs cs ws → Tied v ws
new_tied hs cs v ws n outs a = record {
  long = ap (λ (ls : List Lane). length ls) outs ∙ (long_map hs ∙ sym a.long);
  each = λ q lt. record {
    stops = n.stopped q ∙ sym (ap (λ b. b || (way_at ws q).ended) (a.stopped q) ∙ a.ended q);
    over = λ e. absurd (let clash : false ≡ true = sym (n.ended q) ∙ e in cc);
    held_open = ap held_closes (a.held q);
  };
}

pub new_cutting : (hs : List StreamHead) (cs : List OutputCut) (v : View) (ws : List Way) → IsNew v → AreNewWays hs cs ws → IsCutting hs cs v (cutting_view v ws)
new_cutting hs cs v ws n a = record {
  ins = refl;
  outs = refl;
  rest = λ ext q. a.cuts q (v.rest ext q);
  new = record { shut = n.shut; ended = a.ended; stopped = a.stopped };
}
