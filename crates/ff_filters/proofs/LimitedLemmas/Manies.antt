-- Filters of several inputs are behind limits.
use Rattle.std.proofs.Common.{◌≡◌, ℕ, zero, suc, ℤ, ◌+◌, ◌-◌, ◌<◌, Bool, true, false, nat_le, Option, Some, None, Result, Ok, List, [], ◌∷◌, length, get_or, map}
use Rattle.std.proofs.Common.{refl, sym, ap, subst, ◌∙◌, arith}
use Rattle.std.proofs.lemmas.List.Elements.{All-nil, All-cons}
use Rattle.ff_time.specs.Fraction.{IsBase}
use Rattle.ff_frame.specs.declared.config.ConfigError.{ConfigError}
use Rattle.ff_frame.specs.declared.config.ConfigError.TheVariants.{Mismatch, BadSize}
use Rattle.ff_frame.specs.declared.head.StreamHead.{StreamHead}
use Rattle.ff_frame.specs.Heads.{base_of_head}
use Rattle.ff_stream.specs.declared.item.Item.{Item}
use Rattle.ff_stream.specs.declared.item.Lane.{Lane}
use Rattle.ff_stream.specs.declared.item.Lane.TheVariants.{Frames}
use Rattle.ff_stream.specs.Ports.{stream_at}
use Rattle.ff_stream.specs.Lanes.{IsValid}
use Rattle.ff_stream.specs.Within.{within, passes_limits}
use Rattle.ff_stream.specs.laws.WithinLaws.{within_valid}
use Rattle.ff_net.specs.Ways.{lane_at, IsValidOn, AreValid}
use Rattle.ff_filter.specs.declared.after.After.TheVariants.{More}
use Rattle.ff_filter.specs.Joins.{Flow, Ports, Grows, HidesBreaks, grows_after, hides_after}
use Rattle.ff_filter.specs.laws.Limits.{limited, limited_is}
use Rattle.ff_filter.specs.Options.{is_sound, Checked}
use Rattle.ff_filter.specs.Views.{View}
use Rattle.ff_fsync.specs.Sides.{Sound, sync_view}
use Rattle.ff_fsync.specs.laws.SideLaws.{sync-grows, sync-hides}
use Rattle.ff_fsync.specs.declared.stacks.shape.Direction.{Direction}
use Rattle.ff_fsync.specs.declared.stacks.options.StackSettings.{StackSettings}
use Rattle.ff_fsync.specs.stacks.Bases.{bases_of, units_on, all_told, told_view}
use Rattle.ff_fsync.specs.laws.stacks.StackedLaws.{told-grows, told-hides}
use Rattle.ff_fsync.specs.stacks.Heads.{stack_fault}
use Rattle.ff_fsync.specs.laws.stacks.Limits.{limits-grows, limits-hides}
use Rattle.ff_fsync.specs.stacks.Shapes.{stacked, shape_of}
use Rattle.ff_fsync.specs.stacks.Stacks.{StackOf, stack_on, stacked_of, stack_view, AreStreamsOf}
use Rattle.ff_fsync.proofs.StacksLemmas.Seeing.{none_came, stack_seen}
use Rattle.ff_fsync.proofs.StacksLemmas.Exact.{AreBased}
use Rattle.ff_fsync.proofs.StacksLemmas.Valid.{stacks_in_shape, stacks_unbroken}
use Rattle.ff_joins.specs.Arguments.{each_head}
use Rattle.ff_joins.specs.laws.JoinBreaks.{lost_by}
use Rattle.ff_joins.specs.Joined.{Row, row_stream, joined_rows, first_start, sound_frame, side_to_side}
use Rattle.ff_joins.specs.JoinOptions.{AreAlike, is_like, channels_in, with_channels, rate_of, bits_of, channels_of}
use Rattle.ff_joins.specs.JoinView.{channels_at, join_view}
use Rattle.ff_joins.specs.laws.Lots.{Lot, all_come, frame_on, lots_view}
use Rattle.ff_joins.specs.laws.LotLaws.{lots-grows, lots-hides}
use Rattle.ff_joins.proofs.JoinHeads.{join_valid}
use Rattle.ff_node_filter.specs.Tasks.{ported}
use Rattle.ff_filters.specs.limited.Cuts.{AreStreamHeads}
use Rattle.ff_filters.specs.Configured.{stacked_as, checked, joined_as}
use Rattle.ff_filters.proofs.Parting.{unless_ok}
use Rattle.ff_filters.proofs.LimitedLemmas.Opening.{Owes, one_within}

-- the only output is valid
one_valid : (head : StreamHead) (f : Ports → Ports) (ss : List Flow) → IsValid (Frames head) (f (stream_at ss) 0) → AreValid (Frames head ∷ []) (ported 1 f ss)
one_valid head f ss v zero = v
one_valid head f ss v (suc q) = refl

-- ---- stacks

sound_none : (lane : Lane) (hs : List StreamHead) → Sound lane (none_came hs)
sound_none lane [] p = refl
sound_none lane (h ∷ hs) zero = refl
sound_none lane (h ∷ hs) (suc p) = sound_none lane hs p

streams_of : (hs : List StreamHead) (ss : Ports) → ((p : ℕ) → IsValidOn (lane_at (map Frames hs) p) (ss p)) → AreStreamsOf hs ss
streams_of [] ss v = tt
streams_of (h ∷ hs) ss v = (v 0, streams_of hs (λ p. ss (suc p)) (λ p. v (suc p)))

abbrev sync_before : StackOf → View
sync_before m = sync_view (stacked (shape_of m.direction m.head)) m.shortest (Frames m.head) 0 (none_came m.heads) false false

before_grows : (m : StackOf) → Grows (sync_before m).rest
before_grows m = sync-grows (stacked (shape_of m.direction m.head)) m.shortest (Frames m.head) 0 (none_came m.heads) (sound_none (Frames m.head) m.heads) false false

before_hides : (m : StackOf) → HidesBreaks (sync_before m).rest
before_hides m = sync-hides (stacked (shape_of m.direction m.head)) m.shortest (Frames m.head) 0 (none_came m.heads) (sound_none (Frames m.head) m.heads) false false

stack_before : StackOf → View
stack_before m = told_view (units_on m.heads m.head) (sync_view (stacked (shape_of m.direction m.head)) m.shortest (Frames m.head) 0 (none_came m.heads) false false)

stack_grows : (m : StackOf) → Grows (stack_view m).rest
unfolding stack_before
stack_grows m =
    subst (λ (v : View). Grows v.rest) (stack_seen m)
    (limits-grows (Frames m.head) 0 (stack_before m)
    (grows_after (all_told (units_on m.heads m.head)) (sync_before m).rest (told-grows (units_on m.heads m.head)) (before_grows m)))

stack_hides : (m : StackOf) → HidesBreaks (stack_view m).rest
unfolding stack_before
stack_hides m =
    subst (λ (v : View). HidesBreaks v.rest) (stack_seen m)
    (limits-hides (Frames m.head) 0 (stack_before m)
    (hides_after (all_told (units_on m.heads m.head)) (sync_before m).rest (told-hides (units_on m.heads m.head)) (before_hides m) (before_grows m)))

same_ok : {X : Type 0} (x y : X) → (let r : Result X ConfigError = Ok x in r) ≡ Ok y → x ≡ y
same_ok x y e = cc

are_based : (heads : List StreamHead) → AreStreamHeads heads → AreBased heads
are_based [] timed = All-nil IsBase
are_based (h ∷ hs) timed = All-cons IsBase (base_of_head h) (bases_of hs) timed.0.base (are_based hs timed.1)

pub stack_owes : (d : Direction) (heads : List StreamHead) (s : StackSettings) (m : StackOf) → AreStreamHeads heads → stacked_as d heads s ≡ Ok m
    → Owes (stack_view m).ins (stack_view m).outs (stack_view m).rest
stack_owes d [] s m timed e = cc
stack_owes d (h ∷ hs) s m timed e =
    let k = unless_ok (stack_fault d h (h ∷ hs)) (Ok (stack_on d h (h ∷ hs) s.shortest)) m e in
    let n = stack_on d h (h ∷ hs) s.shortest in
    subst (λ (x : StackOf). Owes (stack_view x).ins (stack_view x).outs (stack_view x).rest) (same_ok n m k.1)
    (record {
      grows = stack_grows n;
      hides = stack_hides n;
      keeps = λ ss v. one_valid n.head (stack_view n).rest ss
          (within_valid (Frames n.head) (stacked_of n (stream_at ss)) (stacks_in_shape d h hs s.shortest (stream_at ss) (are_based (h ∷ hs) timed) k.0 (streams_of (h ∷ hs) (stream_at ss) v)));
      free = λ ss q. stacked_of n ss;
      within_limits = one_within (stack_view n).ins n.head (stacked_of n) (λ ss v u. stacks_unbroken n (stream_at ss) u);
    })

-- ---- sound side by side

checked_back : {X : Type 0} (c : Bool) (e : ConfigError) (q : Result X ConfigError) (next : Result X ConfigError → Type 0) (x : X) → checked c e q ≡ Ok x
    → (q ≡ Ok x → next (Ok x)) → Checked c e next (Ok x)
checked_back true e q next x h on = on h
checked_back false e q next x h on = cc

alike : (heads : List StreamHead) (head : StreamHead) → joined_as heads ≡ Ok head → AreAlike heads (Ok head)
alike [] head e = cc
alike (h ∷ hs) head e =
    checked_back (each_head (is_like h) hs) Mismatch _ _ head e
    (λ k. checked_back (nat_le (channels_in (h ∷ hs)) 8) BadSize (Ok (with_channels h (channels_in (h ∷ hs)))) (λ u. u ≡ Ok (with_channels h (channels_in (h ∷ hs))))
    head k (λ l. sym l))

number_same : (head : StreamHead) (z : ℤ) → (λ (i : ℕ) (rows : List Row). frame_on head 0 z i rows) ≡ sound_frame z (rate_of head) (bits_of head) (channels_of head)
number_same head z j i rows = sound_frame z (rate_of head) (bits_of head) (channels_of head) (e j) rows
  where
    e : 0 + i ≡ i
    e = omega arith

abbrev empty_lots : List StreamHead → ℕ → Lot
empty_lots hs p = record { channels = channels_at hs p; count = 0; samples = []; after = More }

abbrev lots_before : List StreamHead → StreamHead → View
lots_before hs head = lots_view (map Frames hs) head (length hs - 1) None 0 (empty_lots hs) false false More

rest_same : (hs : List StreamHead) (head : StreamHead) → (lots_before hs head).rest ≡ (join_view hs head).rest
rest_same hs head i ext q =
    let passes = passes_limits (Frames head) in
    let n = length hs - 1 in
    (ap (λ (make : ℕ → List Row → Item). limited passes 0 (joined_rows n make (all_come (empty_lots hs) ext))) (number_same head (first_start (ext 0).items))
    ∙ limited_is passes (joined_rows n (sound_frame (first_start (ext 0).items) (rate_of head) (bits_of head) (channels_of head)) (all_come (empty_lots hs) ext))) i

join_grows : (hs : List StreamHead) (head : StreamHead) → Grows (join_view hs head).rest
join_grows hs head = subst (λ (f : Ports → Ports). Grows f) (rest_same hs head) (lots-grows (map Frames hs) head (length hs - 1) None 0 (empty_lots hs) false false
    More refl)

join_hides : (hs : List StreamHead) (head : StreamHead) → HidesBreaks (join_view hs head).rest
join_hides hs head = subst (λ (f : Ports → Ports). HidesBreaks f) (rest_same hs head)
    (lots-hides (map Frames hs) head (length hs - 1) None 0 (empty_lots hs) false false More refl)

lane_of_head : (hs : List StreamHead) (p : ℕ) (d : StreamHead) → p < length hs → lane_at (map Frames hs) p ≡ Some (Frames (get_or hs p d))
lane_of_head [] p d lt = absurd (omega arith)
lane_of_head (h ∷ hs) zero d lt = refl
lane_of_head (h ∷ hs) (suc p) d lt = lane_of_head hs p d (omega (arith, lt))

pub join_owes : (heads : List StreamHead) (head : StreamHead) → each_head is_sound heads ≡ true → joined_as heads ≡ Ok head
    → Owes (join_view heads head).ins (join_view heads head).outs (join_view heads head).rest
join_owes [] head k e = cc
join_owes (h ∷ hs) head k e = record {
  grows = join_grows (h ∷ hs) head;
  hides = join_hides (h ∷ hs) head;
  keeps = λ ss v.
      let one_less : length hs ≡ length (h ∷ hs) - 1 = omega arith in
      one_valid head (join_view (h ∷ hs) head).rest ss
      (subst (λ (n : ℕ). IsValid (Frames head) (within (passes_limits (Frames head))
      (side_to_side n (channels_at (h ∷ hs)) (rate_of head) (bits_of head) (channels_of head) (stream_at ss)))) one_less
      (join_valid h hs head (stream_at ss) k (alike (h ∷ hs) head e)
      (λ p lt. subst (λ (o : Option Lane). IsValidOn o (stream_at ss p)) (lane_of_head (h ∷ hs) p h lt) (v p))));
  free = λ ss q. side_to_side (length (h ∷ hs) - 1) (channels_at (h ∷ hs)) (rate_of head) (bits_of head) (channels_of head) ss;
  within_limits = one_within (join_view (h ∷ hs) head).ins head
      (side_to_side (length (h ∷ hs) - 1) (channels_at (h ∷ hs)) (rate_of head) (bits_of head) (channels_of head))
      (λ ss v u b. let l = lost_by (length (h ∷ hs) - 1) (λ p. row_stream (channels_at (h ∷ hs) p) (stream_at ss p)) b in u l.0 l.1.is);
}
