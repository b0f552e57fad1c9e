-- What a source does at each call.
use Rattle.std.proofs.Common.{◌≡◌, ◌≢◌, ℕ, zero, suc, ◌+◌, ◌<◌, ◌≤◌, ◌⊎◌, inl, inr, Bool, true, false, List, [], ◌∷◌, ◌++◌, length, take, slice_index_or, refl, ap, sym, ◌∙◌, subst, arith}
use Rattle.std.proofs.lemmas.List.{take_more}
use Rattle.ff_frame.specs.declared.head.StreamHead.TheVariants.{Audio as AudioHead, Video as VideoHead}
use Rattle.ff_stream.specs.declared.item.Item.{Item}
use Rattle.ff_stream.specs.declared.item.Item.TheVariants.{Audio, Video, Packet, Trailer, End, Broken}
use Rattle.ff_stream.specs.declared.item.Lane.{Lane}
use Rattle.ff_stream.specs.declared.item.Lane.TheVariants.{Frames, Packets}
use Rattle.ff_stream.specs.Stream.{still_open, whole_stream, LiesBelow}
use Rattle.ff_stream.specs.Items.{Closes, with_item}
use Rattle.ff_stream.specs.Lanes.{FitsLane, IsValid}
use Rattle.ff_stream.specs.Ports.{stream_at}
use Rattle.ff_net.specs.Ways.{Flow}
use Rattle.ff_net.specs.Pasts.{Past, due, gave_item, was_asked}
use Rattle.ff_net.proofs.Flows.{stream_at-with_item_same, stream_at-with_item_other}
use Rattle.ff_test_machines.specs.Lists.{given_of, Lists}
use Rattle.ff_test_machines.specs.ListLaws.{cut_before, cut_after, lists_due}

pub fits_goes_on : (lane : Lane) (x : Item) → FitsLane lane x → Closes x → ⊥
fits_goes_on lane (Audio f) h c = c
fits_goes_on lane (Video f) h c = c
fits_goes_on lane (Packet f) h c = c
fits_goes_on lane (Trailer f) h c = c
fits_goes_on (Frames (AudioHead tb rate bits channels codec)) End h c = h
fits_goes_on (Packets (AudioHead tb rate bits channels codec)) End h c = h
fits_goes_on (Frames (AudioHead tb rate bits channels codec)) Broken h c = h
fits_goes_on (Packets (AudioHead tb rate bits channels codec)) Broken h c = h
fits_goes_on (Frames (VideoHead tb format width height sar_num sar_den)) End h c = h
fits_goes_on (Packets (VideoHead tb format width height sar_num sar_den)) End h c = h
fits_goes_on (Frames (VideoHead tb format width height sar_num sar_den)) Broken h c = h
fits_goes_on (Packets (VideoHead tb format width height sar_num sar_den)) Broken h c = h

pub item_added : (t : Flow) (x : Item) → (Closes x → ⊥) → with_item t x ≡ record { items = t.items ++ x ∷ []; mark = t.mark }
item_added t (Audio f) c = refl
item_added t (Video f) c = refl
item_added t (Packet f) c = refl
item_added t (Trailer f) c = refl
item_added t End c = absurd (c tt)
item_added t Broken c = absurd (c tt)

-- an item more was given
pub given_more : (lane : Lane) (items : List Item) (next : ℕ) (x : Item) → IsValid lane (whole_stream items) → next < length items → slice_index_or items next x ≡ x → with_item (given_of items next false) x ≡ given_of items (next + 1) false
given_more lane items next x v lt is =
    let fits : FitsLane lane x = subst (λ (y : Item). FitsLane lane y) is (v.shape.each next x lt).fits in
    let more : take (next + 1) items ≡ take next items ++ x ∷ [] = take_more items next x lt ∙ ap (λ (y : Item). take next items ++ y ∷ []) is in
    item_added (given_of items next false) x (fits_goes_on lane x fits) ∙ ap (λ (xs : List Item). let s : Flow = record { items = xs; mark = still_open } in s) (sym more)

pub only_out : (p : ℕ) → p < 1 → p ≡ 0
only_out p lt = omega arith

-- at the end nothing more is due
pub over_at : (lane : Lane) (items : List Item) (next : ℕ) (ticket failed : Bool) (past : Past) (p : ℕ) → p < 1 → Lists lane items next true ticket failed past → stream_at past.gave p ≡ stream_at (due past) p
over_at lane items next ticket failed past zero lt s =
    let all : next ≡ length items = s.at_end refl in
    s.gave ∙ (ap (λ (k : ℕ). given_of items k true) all ∙ sym (lists_due lane items next true ticket failed past s ∙ cut_after (length past.allowed) items (omega (arith, s.tickets, all))))
over_at lane items next ticket failed past (suc p) lt s = absurd (omega arith)

-- without a ticket nothing more is due
pub waits_at : (lane : Lane) (items : List Item) (next : ℕ) (failed : Bool) (past : Past) (p : ℕ) → p < 1 → Lists lane items next false false failed past → stream_at past.gave p ≡ stream_at (due past) p
waits_at lane items next failed past zero lt s =
    let n : length past.allowed ≡ next = omega (arith, s.tickets) in
    s.gave ∙ (ap (λ (k : ℕ). given_of items k false) (sym n) ∙ sym (lists_due lane items next false false failed past s ∙ cut_before (length past.allowed) items (omega (arith, n, s.in_range))))
waits_at lane items next failed past (suc p) lt s = absurd (omega arith)

pub asked_in : (lane : Lane) (items : List Item) (next : ℕ) (ended ticket failed : Bool) (past : Past) (p : ℕ) → Lists lane items next ended ticket failed past → (ticket ≡ true → (ended ≡ true) ⊎ (failed ≡ true)) → Lists lane items next ended ticket failed (was_asked past p)
asked_in lane items next ended ticket failed past p s h = record { means = s.means; cause = s.cause; source = s.source; got = s.got; valid = s.valid; gave = s.gave; beyond = s.beyond; tickets = s.tickets; in_range = s.in_range; at_end = s.at_end; asked = λ t i. h t }

-- the device failed
pub fails_at : (lane : Lane) (items : List Item) (next : ℕ) (ended ticket : Bool) (past : Past) (p : ℕ) → Lists lane items next ended ticket false past → Lists lane items next ended ticket true (was_asked past p)
fails_at lane items next ended ticket past p s = record { means = s.means; cause = s.cause; source = s.source; got = s.got; valid = s.valid; gave = s.gave; beyond = s.beyond; tickets = s.tickets; in_range = s.in_range; at_end = s.at_end; asked = λ t i. inr refl }

pub list_gives : (lane : Lane) (items : List Item) (next : ℕ) (failed : Bool) (past : Past) (p : ℕ) (x : Item) → p < 1 → next < length items → slice_index_or items next x ≡ x → Lists lane items next false true failed past
    → Lists lane items (next + 1) false false failed (gave_item past p x) × ((stream_at past.gave p).mark ≡ still_open) × LiesBelow (with_item (stream_at past.gave p) x) (stream_at (due past) p)
list_gives lane items next failed past zero x lt less is s =
    let n : length past.allowed ≡ next + 1 = omega (arith, s.tickets) in
    let grown : with_item (stream_at past.gave 0) x ≡ given_of items (next + 1) false = ap (λ (t : Flow). with_item t x) s.gave ∙ given_more lane items next x s.valid less is in (
      record {
        means = s.means;
        cause = s.cause;
        source = s.source;
        got = s.got;
        valid = s.valid;
        gave = stream_at-with_item_same past.gave 0 x ∙ grown;
        beyond = λ q le. let other : q ≢ 0 = omega (arith, le) in stream_at-with_item_other past.gave 0 q x other ∙ s.beyond q le;
        tickets = omega (arith, n);
        in_range = omega (arith, less);
        at_end = λ e. cc;
        asked = λ e i. cc;
      },
      ap (λ (t : Flow). t.mark) s.gave,
      inl (grown ∙ (ap (λ (k : ℕ). given_of items k false) (sym n) ∙ sym (lists_due lane items next false true failed past s ∙ cut_before (length past.allowed) items (omega (arith, n, less))))),
    )
list_gives lane items next failed past (suc p) x lt less is s = absurd (omega arith)

pub list_ends : (lane : Lane) (items : List Item) (next : ℕ) (failed : Bool) (past : Past) (p : ℕ) → p < 1 → length items ≤ next → Lists lane items next false true failed past
    → Lists lane items next true false failed (gave_item past p End) × ((stream_at past.gave p).mark ≡ still_open) × LiesBelow (with_item (stream_at past.gave p) End) (stream_at (due past) p)
list_ends lane items next failed past zero lt over s =
    let all : next ≡ length items = omega (arith, over, s.in_range) in
    let n : length past.allowed ≡ next + 1 = omega (arith, s.tickets) in
    let grown : with_item (stream_at past.gave 0) End ≡ given_of items next true = ap (λ (t : Flow). with_item t End) s.gave in (
      record {
        means = s.means;
        cause = s.cause;
        source = s.source;
        got = s.got;
        valid = s.valid;
        gave = stream_at-with_item_same past.gave 0 End ∙ grown;
        beyond = λ q le. let other : q ≢ 0 = omega (arith, le) in stream_at-with_item_other past.gave 0 q End other ∙ s.beyond q le;
        tickets = omega (arith, n);
        in_range = s.in_range;
        at_end = λ e. all;
        asked = λ e i. cc;
      },
      ap (λ (t : Flow). t.mark) s.gave,
      inl (grown ∙ (ap (λ (k : ℕ). given_of items k true) all ∙ sym (lists_due lane items next false true failed past s ∙ cut_after (length past.allowed) items (omega (arith, n, all))))),
    )
list_ends lane items next failed past (suc p) lt over s = absurd (omega arith)
