-- What an output makes after it gave an item, and where it gives none.
use Rattle.std.proofs.Common.{◌≡◌, ℕ, suc, ◌+◌, ◌-◌, ◌*◌, ◌<◌, ◌≤◌, Bool, true, false, List, [], ◌∷◌, cond, length, refl, ap, sym, ◌∙◌, subst, arith}
use Rattle.ff_frame.specs.declared.head.StreamHead.{StreamHead}
use Rattle.ff_stream.specs.declared.item.Item.{Item}
use Rattle.ff_stream.specs.declared.item.Item.TheVariants.{Broken}
use Rattle.ff_stream.specs.declared.item.Lane.TheVariants.{Frames}
use Rattle.ff_stream.specs.Stream.{broken, still_open, LiesBelow}
use Rattle.ff_stream.specs.Ports.{nothing}
use Rattle.ff_stream.specs.laws.Order.{nothing_below, closed_below}
use Rattle.ff_stream.specs.Within.{passes_limits}
use Rattle.ff_filter.specs.declared.after.After.TheVariants.{More, Whole, Broke}
use Rattle.ff_filter.specs.Joins.{Flow, Ports, before, silence}
use Rattle.ff_filter.specs.laws.Limits.{limited}
use Rattle.ff_filter.specs.Made.{waiting, mark_after}
use Rattle.ff_filter.specs.Views.{closes}
use Rattle.ff_concat.specs.declared.reach.Reach.{Reach}
use Rattle.ff_concat.specs.declared.track.Track.{Track}
use Rattle.ff_concat.specs.Silences.{filled}
use Rattle.ff_concat.specs.Tails.{Tail, together, latest}
use Rattle.ff_concat.specs.Concats.{begin_in, in_order, later}
use Rattle.ff_concat.specs.laws.ConcatLaws.{cut_off}
use Rattle.ff_concat.specs.laws.TrackLaws.{made_keeps}
use Rattle.ff_concat.specs.laws.Tracks.{after_at, tails, own, output_of, still_made, still_gives}
use Rattle.ff_concat.specs.laws.Queues.{queue_at}
use Rattle.ff_concat.specs.laws.Standing.{bare, StandsAs, IsPassed}
use Rattle.ff_concat.specs.laws.Moves.{IsUnchanged, Told, Taken, Gave, Waits, GoesOn}
use Rattle.ff_concat.proofs.Losing.{behind_silent}
use Rattle.ff_concat.proofs.Same.{gives_eq, unchanged_gives}
use Rattle.ff_concat.proofs.Steps.{item_next, zeros_next, bare_is}

-- an output that isn't over makes what it gives
pub open_gives : (tick_list : List ℕ) (q : ℕ) (t : Track) (rs : List Reach) (ext : Ports) → t.ended ≡ false
    → still_gives tick_list q t rs ext ≡ still_made tick_list q t.head t.tick t.backlogs.items t.before t.current t.begin t.end rs ext
open_gives tick_list q t rs ext e =
    ap (λ (b : Bool). cond b nothing (still_made tick_list q t.head t.tick t.backlogs.items t.before t.current t.begin t.end rs ext)) e

-- an item was told: it is given, and then what is made behind it
pub told_gave : (tick_list : List ℕ) (q : ℕ) (t z new : Track) (rs : List Reach) (x y : Item) → t.ended ≡ false → z.head ≡ t.head → length z.backlogs.items ≡ length t.backlogs.items
    → z.stopped ≡ t.stopped → Told z new x y
    → ((ext : Ports) → still_made tick_list q t.head t.tick t.backlogs.items t.before t.current t.begin t.end rs ext
    ≡ limited (passes_limits (Frames z.head)) z.before (before x (in_order tick_list (output_of z.head z.tick q) (length z.backlogs.items - z.current) z.current z.begin z.end
    (own z.backlogs.items rs (length tick_list) q ext) (tails rs ext))))
    → Gave t new tick_list q rs y
told_gave tick_list q t z new rs x y o h l s told made = record {
  head = told.head ∙ h;
  backlogs = ap (λ v. length v.items) told.backlogs ∙ l;
  open_before = o;
  gives = λ ext.
      let w = length tick_list in
      let r : Flow = in_order tick_list (output_of z.head z.tick q) (length z.backlogs.items - z.current) z.current z.begin z.end (own z.backlogs.items rs w q ext) (tails rs ext) in
      open_gives tick_list q t rs ext o
      ∙ (made ext
      ∙ (told.made r
      ∙ ap (λ (f : Flow). before y f)
      (sym (gives_eq tick_list q new.ended new.ended new.head z.head new.tick z.tick new.before new.before (length new.backlogs.items - new.current) (length z.backlogs.items - z.current)
      new.current z.current new.begin z.begin new.end z.end (own new.backlogs.items rs w q ext) (own z.backlogs.items rs w q ext) (tails rs ext) (tails rs ext)
      refl told.head told.tick refl (ap (λ v. length v.items - new.current) told.backlogs ∙ ap (λ (n : ℕ). length z.backlogs.items - n) told.current) told.current told.begin told.end
      (ap (λ v. own v.items rs w q ext) told.backlogs) refl))));
  ended = told.ended;
  stopped = told.stopped ∙ s;
}

alike_made : (tick_list : List ℕ) (q : ℕ) (h h' : StreamHead) (k k' b b' n n' c c' g g' e e' : ℕ) (o : ℕ → Flow) (u : ℕ → Tail) (x : Item)
    → h ≡ h' → k ≡ k' → b ≡ b' → n ≡ n' → c ≡ c' → g ≡ g' → e ≡ e'
    → limited (passes_limits (Frames h)) b (before x (in_order tick_list (output_of h k q) n c g e o u))
    ≡ limited (passes_limits (Frames h')) b' (before x (in_order tick_list (output_of h' k' q) n' c' g' e' o u))
alike_made tick_list q h h' k k' b b' n n' c c' g g' e e' o u x p1 p2 p3 p4 p5 p6 p7 =
    ap (λ (y : StreamHead). limited (passes_limits (Frames y)) b (before x (in_order tick_list (output_of y k q) n c g e o u))) p1
    ∙ (ap (λ (y : ℕ). limited (passes_limits (Frames h')) b (before x (in_order tick_list (output_of h' y q) n c g e o u))) p2
    ∙ (ap (λ (y : ℕ). limited (passes_limits (Frames h')) y (before x (in_order tick_list (output_of h' k' q) n c g e o u))) p3
    ∙ (ap (λ (y : ℕ). limited (passes_limits (Frames h')) b' (before x (in_order tick_list (output_of h' k' q) y c g e o u))) p4
    ∙ (ap (λ (y : ℕ). limited (passes_limits (Frames h')) b' (before x (in_order tick_list (output_of h' k' q) n' y g e o u))) p5
    ∙ (ap (λ (y : ℕ). limited (passes_limits (Frames h')) b' (before x (in_order tick_list (output_of h' k' q) n' c' y e o u))) p6
    ∙ ap (λ (y : ℕ). limited (passes_limits (Frames h')) b' (before x (in_order tick_list (output_of h' k' q) n' c' g' y o u))) p7)))))

module _ (tick_list : List ℕ) (q : ℕ) (t : Track) (rs : List Reach) (inside : t.current < length t.backlogs.items) where
  more : length t.backlogs.items - t.current ≡ suc (length t.backlogs.items - (t.current + 1))
  more = omega (arith, inside)

  -- an item of the current segment was taken out
  pub item_made : (z : Track) (x : Item) → Taken t z x → filled t.head t.end t.by ≡ [] → (ext : Ports)
      → still_made tick_list q t.head t.tick t.backlogs.items t.before t.current t.begin t.end rs ext
      ≡ limited (passes_limits (Frames z.head)) z.before (before (later t.by x) (in_order tick_list (output_of z.head z.tick q)
      (length z.backlogs.items - z.current) z.current z.begin z.end
      (own z.backlogs.items rs (length tick_list) q ext) (tails rs ext)))
  item_made z x taken none ext =
      let w = length tick_list in
      let k = t.current in
      let bs = t.backlogs.items in
      let out = output_of t.head t.tick q in
      let n = length bs - (k + 1) in
      let o = own bs rs w q ext in
      let o' = own z.backlogs.items rs w q ext in
      let u = tails rs ext in
      let l = taken.alike in
      let empty : filled t.head t.end (begin_in t.tick t.begin) ≡ [] = ap (λ (i : ℕ). filled t.head t.end i) (sym t.shift) ∙ none in
      let a = after_at rs (k * w + q) in
      let e = ext (k * w + q) in
      let here : o k ≡ before x (o' k) = ap (λ (xs : List Item). waiting xs a e) taken.here in
      let others : (j : ℕ) → k + 1 ≤ j → o j ≡ o' j =
      λ j le. ap (λ (xs : List Item). waiting xs (after_at rs (j * w + q)) (ext (j * w + q)))
      (sym (taken.others j (λ s. let f : k + 1 ≤ k = subst (λ (i : ℕ). k + 1 ≤ i) s le in absurd (omega (arith, f))))) in
      let long : suc n ≡ length z.backlogs.items - z.current = sym more ∙ sym (ap (λ (i : ℕ). i - z.current) l.backlogs ∙ ap (λ (i : ℕ). length bs - i) l.current) in
      ap (λ (f : Flow). limited (passes_limits (Frames t.head)) t.before f)
      (ap (λ (i : ℕ). in_order tick_list out i k t.begin t.end o u) more
      ∙ (item_next tick_list out n k t.begin t.end o o' u x taken.goes_on empty here others
      ∙ ap (λ (i : ℕ). before (later i x) (in_order tick_list out (suc n) k t.begin t.end o' u)) (sym t.shift)))
      ∙ alike_made tick_list q t.head z.head t.tick z.tick t.before z.before (suc n) (length z.backlogs.items - z.current) k z.current t.begin z.begin t.end z.end o' u (later t.by x)
      (sym l.head) (sym l.tick) (sym l.before) long (sym l.current) (sym l.begin) (sym l.end)

  -- a frame of zeros was made
  pub zeros_made : (x : Item) → closes x ≡ false → filled t.head t.end t.by ≡ x ∷ filled t.head (t.end + 1024) t.by → (ext : Ports)
      → still_made tick_list q t.head t.tick t.backlogs.items t.before t.current t.begin t.end rs ext
      ≡ limited (passes_limits (Frames t.head)) t.before (before x (in_order tick_list (output_of t.head t.tick q)
      (length t.backlogs.items - t.current) t.current t.begin (t.end + 1024)
      (own t.backlogs.items rs (length tick_list) q ext) (tails rs ext)))
  zeros_made x c first ext =
      let w = length tick_list in
      let k = t.current in
      let bs = t.backlogs.items in
      let out = output_of t.head t.tick q in
      let n = length bs - (k + 1) in
      let o = own bs rs w q ext in
      let u = tails rs ext in
      let next : filled t.head t.end (begin_in t.tick t.begin) ≡ x ∷ filled t.head (t.end + 1024) (begin_in t.tick t.begin) =
      subst (λ (i : ℕ). filled t.head t.end i ≡ x ∷ filled t.head (t.end + 1024) i) t.shift first in
      ap (λ (f : Flow). limited (passes_limits (Frames t.head)) t.before f)
      (ap (λ (i : ℕ). in_order tick_list out i k t.begin t.end o u) more
      ∙ (zeros_next tick_list out n k t.begin t.end (t.end + 1024) o u x c next
      ∙ ap (λ (i : ℕ). before x (in_order tick_list out i k t.begin (t.end + 1024) o u)) (sym more)))

  -- nothing waits of the current segment
  bare_made : filled t.head t.end t.by ≡ [] → queue_at t.backlogs.items t.current ≡ []
      → still_made tick_list q t.head t.tick t.backlogs.items t.before t.current t.begin t.end rs silence
      ≡ limited (passes_limits (Frames t.head)) t.before (bare t rs (length tick_list) q
      (in_order tick_list (output_of t.head t.tick q) (length t.backlogs.items - (t.current + 1)) (t.current + 1)
      (t.begin + latest tick_list (length tick_list) (t.current * length tick_list) (tails rs silence))
      (begin_in t.tick t.begin + (tails rs silence (t.current * length tick_list + q)).end)
      (own t.backlogs.items rs (length tick_list) q silence) (tails rs silence)))
  bare_made none empty =
      let w = length tick_list in
      let k = t.current in
      let bs = t.backlogs.items in
      let out = output_of t.head t.tick q in
      let n = length bs - (k + 1) in
      let o = own bs rs w q silence in
      let u = tails rs silence in
      let a = after_at rs (k * w + q) in
      let here : o k ≡ record { items = []; mark = mark_after a } = ap (λ (xs : List Item). waiting xs a nothing) empty ∙ behind_silent a in
      ap (λ (f : Flow). limited (passes_limits (Frames t.head)) t.before f)
      (ap (λ (i : ℕ). in_order tick_list out i k t.begin t.end o u) more
      ∙ bare_is tick_list out n k t.begin t.end o u (mark_after a) (ap (λ (i : ℕ). filled t.head t.end i) (sym t.shift) ∙ none) here)

  pub more_made : filled t.head t.end t.by ≡ [] → queue_at t.backlogs.items t.current ≡ [] → StandsAs More t rs (length tick_list) q
      → still_made tick_list q t.head t.tick t.backlogs.items t.before t.current t.begin t.end rs silence ≡ nothing
  more_made none empty s = bare_made none empty ∙ ap (λ (f : Flow). limited (passes_limits (Frames t.head)) t.before f) (s _)

  pub broke_made : q < length tick_list → filled t.head t.end t.by ≡ [] → queue_at t.backlogs.items t.current ≡ [] → StandsAs Broke t rs (length tick_list) q → (ext : Ports)
      → still_made tick_list q t.head t.tick t.backlogs.items t.before t.current t.begin t.end rs ext ≡ cut_off
  broke_made there none empty s ext =
      let r : Flow = still_made tick_list q t.head t.tick t.backlogs.items t.before t.current t.begin t.end rs silence in
      let u : Flow = still_made tick_list q t.head t.tick t.backlogs.items t.before t.current t.begin t.end rs ext in
      let e : r ≡ cut_off = bare_made none empty ∙ ap (λ (f : Flow). limited (passes_limits (Frames t.head)) t.before f) (s _) in
      let below : LiesBelow r u = made_keeps tick_list q t rs there silence ext (λ p. nothing_below (ext p)) in
      sym (closed_below r u below (λ c. let clash : broken ≡ still_open = sym (ap (λ (f : Flow). f.mark) e) ∙ c in cc)) ∙ e

-- it broke off
pub broke_gave : (tick_list : List ℕ) (q : ℕ) (t z new : Track) (rs : List Reach) → q < length tick_list → t.ended ≡ false → IsUnchanged t z
    → z.current < length z.backlogs.items → filled z.head z.end z.by ≡ [] → queue_at z.backlogs.items z.current ≡ [] → StandsAs Broke z rs (length tick_list) q
    → new.head ≡ z.head → new.backlogs ≡ z.backlogs → new.ended ≡ true → new.stopped ≡ z.stopped → (y : Item) → Broken ≡ y → Gave t new tick_list q rs y
broke_gave tick_list q t z new rs there o u lt none empty s h bs e st y is = subst (λ (x : Item). Gave t new tick_list q rs x) is (record {
  head = h ∙ u.alike.head;
  backlogs = ap (λ v. length v.items) bs ∙ u.alike.backlogs;
  open_before = o;
  gives = λ ext. sym (unchanged_gives tick_list q t z rs ext u)
      ∙ (open_gives tick_list q z rs ext (u.alike.ended ∙ o) ∙ broke_made tick_list q z rs lt there none empty s ext);
  ended = e;
  stopped = st ∙ u.alike.stopped;
})

-- all that is due was given
pub more_waits : (tick_list : List ℕ) (q : ℕ) (t z : Track) (rs : List Reach) → t.ended ≡ false → IsUnchanged t z → GoesOn t z tick_list q rs
    → z.current < length z.backlogs.items → filled z.head z.end z.by ≡ [] → queue_at z.backlogs.items z.current ≡ [] → StandsAs More z rs (length tick_list) q
    → Waits t z tick_list q rs
more_waits tick_list q t z rs o u g lt none empty s = record {
  goes_on = g;
  nothing_left = sym (unchanged_gives tick_list q t z rs silence u) ∙ (open_gives tick_list q z rs silence (u.alike.ended ∙ o) ∙ more_made tick_list q z rs lt none empty s);
}

-- it went on, and then gave an item, or waits
pub then_gave : (tick_list : List ℕ) (q : ℕ) (t u v : Track) (rs : List Reach) (x : Item) → GoesOn t u tick_list q rs → Gave u v tick_list q rs x → Gave t v tick_list q rs x
then_gave tick_list q t u v rs x g h = record {
  head = h.head ∙ g.head;
  backlogs = h.backlogs ∙ g.backlogs;
  open_before = sym g.ended ∙ h.open_before;
  gives = λ ext. sym (g.gives ext) ∙ h.gives ext;
  ended = h.ended;
  stopped = h.stopped ∙ g.stopped;
}

pub then_goes_on : (tick_list : List ℕ) (q : ℕ) (t u v : Track) (rs : List Reach) → GoesOn t u tick_list q rs → GoesOn u v tick_list q rs → GoesOn t v tick_list q rs
then_goes_on tick_list q t u v rs g h = record {
  head = h.head ∙ g.head;
  backlogs = h.backlogs ∙ g.backlogs;
  gives = λ ext. h.gives ext ∙ g.gives ext;
  ended = h.ended ∙ g.ended;
  stopped = h.stopped ∙ g.stopped;
}

pub then_waits : (tick_list : List ℕ) (q : ℕ) (t u v : Track) (rs : List Reach) → GoesOn t u tick_list q rs → Waits u v tick_list q rs → Waits t v tick_list q rs
then_waits tick_list q t u v rs g h = record {
  goes_on = then_goes_on tick_list q t u v rs g h.goes_on;
  nothing_left = sym (g.gives silence) ∙ h.nothing_left;
}

-- where it stands whole, the segment is passed
pub passed_back : (t z : Track) (rs : List Reach) (w q : ℕ) → IsUnchanged t z → filled t.head t.end t.by ≡ [] → queue_at z.backlogs.items z.current ≡ []
    → StandsAs Whole z rs w q → IsPassed t rs w q
passed_back t z rs w q u none empty s = record {
  no_zeros = none;
  no_items = sym (u.queues t.current) ∙ (ap (λ (k : ℕ). queue_at z.backlogs.items k) (sym u.alike.current) ∙ empty);
  stands = (
    ap (λ (k : ℕ). after_at rs (k * w + q)) (sym u.alike.current) ∙ s.0,
    ap (λ (k : ℕ). together w (k * w) (tails rs silence)) (sym u.alike.current) ∙ s.1,
  );
}
