-- What comes on an input of sound, and what it changes.
use Rattle.std.proofs.Common.{◌≡◌, ◌≢◌, ℕ, zero, suc, ℤ, ◌-◌, ◌<◌, inl, inr, Bool, true, false, ◌||◌, Option, Some, None, List, [], ◌++◌}
use Rattle.std.proofs.Common.{length, map, refl, ap, sym, ◌∙◌, subst, arith, set, get_or, append_assoc, append-nil}
use Rattle.std.proofs.lemmas.Bool.{cases_eq, eq-eqb, ne_eqb}
use Rattle.std.proofs.lemmas.List.{length-set}
use Rattle.ff_stream.specs.declared.item.Item.{Item}
use Rattle.ff_stream.specs.declared.item.Item.TheVariants.{Audio, Video, Packet, Trailer, End, Broken}
use Rattle.ff_stream.specs.declared.item.Lane.TheVariants.{Frames}
use Rattle.ff_stream.specs.Stream.{whole, broken, Stream}
use Rattle.ff_stream.specs.Times.{start_of}
use Rattle.ff_stream.specs.Within.{passes_limits}
use Rattle.ff_filter.specs.declared.after.After.{After}
use Rattle.ff_filter.specs.declared.after.After.TheVariants.{More, Whole, Broke}
use Rattle.ff_filter.specs.Joins.{Flow, Ports, before, before_if, before_at}
use Rattle.ff_filter.specs.laws.Limits.{limited}
use Rattle.ff_filter.specs.Made.{is_over, left, closing}
use Rattle.ff_filter.specs.Views.{Same, Fed, closes}
use Rattle.ff_joins.specs.declared.join.Join.{Join}
use Rattle.ff_joins.specs.declared.sound_inlet.SoundInlet.{SoundInlet}
use Rattle.ff_joins.specs.Joined.{Row, rows_of, row_stream, first_start, joined_rows}
use Rattle.ff_joins.specs.laws.Lots.{Lot, lots, lot_of, lane_of, last_port, rows_kept, row_then, comes, all_come, start_after, frame_on, has_started_by, has_started}
use Rattle.ff_joins.specs.laws.Lots.{no_rows, still_joined, lots_view}
use Rattle.ff_joins.specs.laws.JoinSeen.{join_seen}
use Rattle.ff_joins.proofs.Framing.{lots_here, lots_others, lots_same, lanes_same}

-- an item of which the rows were kept
pub data_taken : (rows rows' : List Row) (c : ℕ) (x : Item) (t : Flow) → closes x ≡ false → rows' ≡ rows ++ rows_of c x
    → row_then rows' More (row_stream c t) ≡ row_then rows More (row_stream c (before x t))
data_taken rows rows' c (Audio f) t n e = shifted rows rows' (rows_of c (Audio f)) (row_stream c t) e
  where
    shifted : (rs rs' qs : List Row) (s : Stream Row) → rs' ≡ rs ++ qs → row_then rs' More s ≡ row_then rs More
        (let r : Stream Row = record { items = qs ++ s.items; mark = s.mark } in r)
    shifted rs rs' qs s e = ap (λ (zs : List Row). let r : Stream Row = record { items = zs; mark = s.mark } in r) (ap (λ (zs : List Row). zs ++ s.items) e
        ∙ append_assoc rs qs s.items)
data_taken rows rows' c (Video f) t n e = ap (λ (zs : List Row). row_then zs More (row_stream c t)) (e ∙ append-nil rows)
data_taken rows rows' c (Packet f) t n e = ap (λ (zs : List Row). row_then zs More (row_stream c t)) (e ∙ append-nil rows)
data_taken rows rows' c (Trailer f) t n e = ap (λ (zs : List Row). row_then zs More (row_stream c t)) (e ∙ append-nil rows)
data_taken rows rows' c End t n e = cc
data_taken rows rows' c Broken t n e = cc

-- an item that closes
pub close_taken : (rows : List Row) (c : ℕ) (x : Item) (a : After) (t : Flow) → closing x ≡ Some a → row_then rows a (row_stream c t) ≡ row_then rows More
    (row_stream c (before x t))
close_taken rows c (Audio f) a t e = cc
close_taken rows c (Video f) a t e = cc
close_taken rows c (Packet f) a t e = cc
close_taken rows c (Trailer f) a t e = cc
close_taken rows c End a t e = closes_as rows a Whole t (same e) (ap (λ (zs : List Row). let r : Stream Row = record { items = zs; mark = whole } in r) (sym
    (append-nil rows)))
  where
    same : closing End ≡ Some a → a ≡ Whole
    same h = cc (h)

    closes_as : (rs : List Row) (b d : After) (u : Flow) → b ≡ d → row_then rs d (row_stream c u) ≡ row_then rs More (row_stream c (before End u)) → row_then rs b
        (row_stream c u) ≡ row_then rs More (row_stream c (before End u))
    closes_as rs b d u i h = ap (λ (k : After). row_then rs k (row_stream c u)) i ∙ h
close_taken rows c Broken a t e = closes_as rows a Broke t (same e) (ap (λ (zs : List Row). let r : Stream Row = record { items = zs; mark = broken } in r) (sym
    (append-nil rows)))
  where
    same : closing Broken ≡ Some a → a ≡ Broke
    same h = cc (h)

    closes_as : (rs : List Row) (b d : After) (u : Flow) → b ≡ d → row_then rs d (row_stream c u) ≡ row_then rs More (row_stream c (before Broken u)) → row_then rs b
        (row_stream c u) ≡ row_then rs More (row_stream c (before Broken u))
    closes_as rs b d u i h = ap (λ (k : After). row_then rs k (row_stream c u)) i ∙ h

pub open_is : (a : After) → is_over a ≡ false → a ≡ More
open_is More e = refl
open_is Whole e = cc
open_is Broke e = cc

-- the start of the first item, with the next one
start_next : (first : Option ℤ) (p : ℕ) (x : Item) (ext : Ports) → start_after (has_started_by first p (start_of x)) (ext 0) ≡ start_after first (before_at p x ext 0)
start_next (Some z) p x ext = refl
start_next None zero x ext = at x
  where
    at : (y : Item) → start_of y ≡ first_start (before y (ext 0)).items
    at (Audio f) = refl
    at (Video f) = refl
    at (Packet f) = refl
    at (Trailer f) = refl
    at End = refl
    at Broken = refl
start_next None (suc p) x ext = ap (λ (b : Bool). first_start (before_if b x (ext 0)).items) (sym (ne_eqb 0 (suc p) (λ e. let f : 0 ≡ suc p = e in absurd (omega
    (arith, f)))))

pub started_by : (first : Option ℤ) (p : ℕ) (z : ℤ) (l l' : Lot) → has_started first l ≡ true → (p ≢ 0 → l' ≡ l) → has_started (has_started_by first p z) l' ≡ true
started_by (Some y) p z l l' s same = refl
started_by None zero z l l' s same = refl
started_by None (suc p) z l l' s same = ap (λ (k : Lot). no_rows (rows_kept k)) (same (λ e. let f : suc p ≡ 0 = e in absurd (omega (arith, f)))) ∙ s

module _ (m : Join) (p : ℕ) (i j : SoundInlet) (x : Item) (lt : p < length m.inlets.items) (here : j ≡ get_or m.inlets.items p j) (head : i.head ≡ j.head) where
  abbrev is : List SoundInlet
  is = m.inlets.items

  lanes : map lane_of (set is p i) ≡ map lane_of is
  lanes = lanes_same is p i j here head

  last : last_port (set is p i) ≡ last_port is
  last = ap (λ (k : ℕ). k - 1) (length-set is p i)

  -- the item was kept
  pub fed_kept : ((t : Flow) → comes (lot_of i) t ≡ comes (lots is p) (before x t)) → is_over i.after ≡ closes x → is_over (lots is p).after ≡ false
      → Fed (join_seen m) (lots_view (map lane_of (set is p i)) m.head (last_port (set is p i)) (has_started_by m.first p (start_of x)) m.given (lots
      (set is p i)) m.ended m.stopped m.after) p x
  fed_kept taken shut going = record {
    ports = record { ins = lanes; outs = refl };
    rest = λ ext q on. ap (λ (r : Flow). left [] m.ended m.after r) (
        ap (λ (k : ℕ). still_joined m.head k (has_started_by m.first p (start_of x)) m.given (lots (set is p i)) ext) last
        ∙ (ap (λ (z : ℤ). made z (all_come (lots (set is p i)) ext)) (start_next m.first p x ext)
        ∙ ap (λ (ss : ℕ → Stream Row). made (start_after m.first (before_at p x ext 0)) ss) (λ k o. come_next ext o k)));
    shut_here = ap (λ (l : Lot). is_over l.after) (lots_here is p i lt) ∙ (shut ∙ sym (ap (λ (b : Bool). b || closes x) going));
    shut_others = λ o l n. ap (λ (k : Lot). is_over k.after) (lots_others is p o i n);
    ended = λ q. refl;
    stopped = λ q. refl;
  }
    where
      made : ℤ → (ℕ → Stream Row) → Flow
      made z ss = limited (passes_limits (Frames m.head)) m.given (joined_rows (last_port is) (frame_on m.head m.given z) ss)

      come_next : (ext : Ports) (o : ℕ) → all_come (lots (set is p i)) ext o ≡ all_come (lots is) (before_at p x ext) o
      come_next ext o = elim (cases_eq o p) as (λ _. all_come (lots (set is p i)) ext o ≡ all_come (lots is) (before_at p x ext) o) [
        | inl same ↦ subst (λ r. all_come (lots (set is p i)) ext r ≡ all_come (lots is) (before_at p x ext) r) (sym same)
            (ap (λ (l : Lot). comes l (ext p)) (lots_here is p i lt) ∙ (taken (ext p) ∙ ap (λ (b : Bool). comes (lots is p) (before_if b x (ext p))) (sym
            (eq-eqb p p refl))))
        | inr n ↦ ap (λ (l : Lot). comes l (ext o)) (lots_others is p o i n) ∙ ap (λ (b : Bool). comes (lots is o) (before_if b x (ext o))) (sym (ne_eqb o p n))
      ]

  -- it was refused
  pub same_kept : lot_of i ≡ lot_of j
      → Same (join_seen m) (lots_view (map lane_of (set is p i)) m.head (last_port (set is p i)) m.first m.given (lots (set is p i)) m.ended m.stopped m.after)
  same_kept e = record {
    ports = record { ins = lanes; outs = refl };
    rest = λ ext q on.
        ap (λ (k : ℕ). left [] m.ended m.after (still_joined m.head k m.first m.given (lots (set is p i)) ext)) last
        ∙ ap (λ (ks : ℕ → Lot). left [] m.ended m.after (still_joined m.head (last_port is) m.first m.given ks ext)) (λ k o. lots_same is p o i j here e k);
    shut = λ o. ap (λ (l : Lot). is_over l.after) (lots_same is p o i j here e);
    ended = λ q. refl;
    stopped = λ q. refl;
  }

  over_left : (a : After) (b : Bool) (r s : Flow) → (b || is_over a) ≡ true → left [] b a r ≡ left [] b a s
  over_left More true r s e = refl
  over_left More false r s e = cc
  over_left Whole true r s e = refl
  over_left Whole false r s e = refl
  over_left Broke true r s e = refl
  over_left Broke false r s e = refl

  over_done : (b d : Bool) → (b || d) ≡ true → b ≡ false → d ≡ true
  over_done true d e f = cc
  over_done false d e f = e

  -- only that it closed the input
  pub fed_over : is_over i.after ≡ closes x → is_over (lots is p).after ≡ false → (m.stopped || (m.ended || is_over m.after)) ≡ true
      → Fed (join_seen m) (lots_view (map lane_of (set is p i)) m.head (last_port (set is p i)) m.first m.given (lots (set is p i)) m.ended m.stopped m.after) p x
  fed_over shut going done = record {
    ports = record { ins = lanes; outs = refl };
    rest = λ ext q on. over_left m.after m.ended (still_joined m.head (last_port (set is p i)) m.first m.given (lots (set is p i)) ext)
        (still_joined m.head (last_port is) m.first m.given (lots is) (before_at p x ext)) (over_done m.stopped (m.ended || is_over m.after) done on);
    shut_here = ap (λ (l : Lot). is_over l.after) (lots_here is p i lt) ∙ (shut ∙ sym (ap (λ (b : Bool). b || closes x) going));
    shut_others = λ o l n. ap (λ (k : Lot). is_over k.after) (lots_others is p o i n);
    ended = λ q. refl;
    stopped = λ q. refl;
  }

-- nothing changes where it closes nothing
pub fed_none : (m : Join) (p : ℕ) (x : Item) → closes x ≡ false → is_over (lots m.inlets.items p).after ≡ false → (m.stopped || (m.ended || is_over m.after)) ≡ true
    → Fed (join_seen m) (join_seen m) p x
fed_none m p x goes_on going done = record {
  ports = record { ins = refl; outs = refl };
  rest = λ ext q on. over m.after m.ended (still_joined m.head (last_port m.inlets.items) m.first m.given (lots m.inlets.items) ext)
      (still_joined m.head (last_port m.inlets.items) m.first m.given (lots m.inlets.items) (before_at p x ext)) (on_done m.stopped (m.ended || is_over m.after) done on);
  shut_here = going ∙ sym (ap (λ (b : Bool). b || closes x) going ∙ goes_on);
  shut_others = λ o l n. refl;
  ended = λ q. refl;
  stopped = λ q. refl;
}
  where
    over : (a : After) (b : Bool) (r s : Flow) → (b || is_over a) ≡ true → left [] b a r ≡ left [] b a s
    over More true r s e = refl
    over More false r s e = cc
    over Whole true r s e = refl
    over Whole false r s e = refl
    over Broke true r s e = refl
    over Broke false r s e = refl

    on_done : (b d : Bool) → (b || d) ≡ true → b ≡ false → d ≡ true
    on_done true d e f = cc
    on_done false d e f = e
