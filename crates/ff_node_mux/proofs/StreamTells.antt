-- What a muxer was fed, and has to tell of that, by its whole streams.
use Rattle.std.proofs.Common.{◌≡◌, ◌≢◌, ℕ, zero, suc, ◌+◌, ◌<◌, ◌≤◌, Bool, List, [], ◌∷◌, ◌++◌, map, length, inl, inr, refl, ap, sym, ◌∙◌, subst, arith, append-nil, get_or}
use Rattle.std.specs.Prelude.{All, if◌then◌else◌}
use Rattle.std.proofs.lemmas.Bool.{cases_eq, cases_lt, eq-eqb, ne_eqb}
use Rattle.std.proofs.lemmas.List.{map-append}
use Rattle.std.proofs.lemmas.List.Concat.{flat_map-append}
use Rattle.std.proofs.lemmas.List.Elements.{All-head, All-tail, filter-append}
use Rattle.ff_time.specs.Fraction.{Fraction}
use Rattle.ff_frame.specs.Heads.{base_of_head}
use Rattle.ff_frame.specs.declared.head.StreamHead.{StreamHead}
use Rattle.ff_frame.specs.declared.head.StreamHead.TheVariants.{Audio as AudioHead, Video as VideoHead}
use Rattle.ff_frame.specs.declared.event.Event.{Event}
use Rattle.ff_frame.specs.declared.event.Event.TheVariants.{Sent, Finished}
use Rattle.ff_stream.specs.declared.item.Item.{Item}
use Rattle.ff_stream.specs.declared.item.Item.TheVariants.{Audio, Video, Packet, Trailer, End, Broken}
use Rattle.ff_stream.specs.declared.item.Lane.TheVariants.{Packets}
use Rattle.ff_stream.specs.Lanes.{FitsPackets, IsItemFor}
use Rattle.ff_stream.specs.Stream.{Mark, still_open, whole, broken}
use Rattle.ff_stream.specs.Items.{with_item}
use Rattle.ff_node_mux.specs.merge.Merges.{packets_of}
use Rattle.ff_node_mux.specs.merge.Queues.{base_at}
use Rattle.ff_net.specs.Pasts.{Feed}
use Rattle.ff_net.specs.Ways.{Flow}
use Rattle.ff_node_mux.specs.laws.Feeding.{feed_of, closing_feeds, feeds_of, feeds_at}
use Rattle.ff_node_mux.specs.Muxing.{head_bases}
use Rattle.ff_node_mux.specs.StreamEvents.{sent, stream_events, events_of, is_event_of, ToldOfStreams, ToldOfOne}
use Rattle.ff_node_mux.specs.Telling.{micros_of, told_by, told_at, mux_tells}

module _ (p : ℕ) where
  -- nothing closes an open stream
  open_feeds : (s : Flow) → s.mark ≡ still_open → feeds_of p s ≡ map (feed_of p) s.items
  open_feeds s o = ap (λ (m : Mark). map (feed_of p) s.items ++ closing_feeds p m) o ∙ append-nil (map (feed_of p) s.items)

  closed_by : (s : Flow) (x : Item) → s.mark ≡ still_open → map (feed_of p) s.items ++ feed_of p x ∷ [] ≡ feeds_of p s ++ feed_of p x ∷ []
  closed_by s x o = ap (λ (fs : List Feed). fs ++ feed_of p x ∷ []) (sym (open_feeds s o))

  one_more : (s : Flow) (x : Item) → s.mark ≡ still_open
      → feeds_of p (record { items = s.items ++ x ∷ []; mark = s.mark }) ≡ feeds_of p s ++ feed_of p x ∷ []
  one_more s x o =
      open_feeds (record { items = s.items ++ x ∷ []; mark = s.mark }) o
      ∙ (map-append (feed_of p) s.items (x ∷ []) ∙ closed_by s x o)

  -- an item was fed to an open stream
  pub feeds_more : (s : Flow) (x : Item) → s.mark ≡ still_open → feeds_of p (with_item s x) ≡ feeds_of p s ++ feed_of p x ∷ []
  feeds_more s (Audio f) o = one_more s (Audio f) o
  feeds_more s (Video f) o = one_more s (Video f) o
  feeds_more s (Packet k) o = one_more s (Packet k) o
  feeds_more s (Trailer t) o = one_more s (Trailer t) o
  feeds_more s End o = closed_by s End o
  feeds_more s Broken o = closed_by s Broken o

no_end : (head : StreamHead) → FitsPackets head End → ⊥
no_end (AudioHead tb rate bits channels codec) fits = fits
no_end (VideoHead tb format width height sar_num sar_den) fits = fits

no_break : (head : StreamHead) → FitsPackets head Broken → ⊥
no_break (AudioHead tb rate bits channels codec) fits = fits
no_break (VideoHead tb format width height sar_num sar_den) fits = fits

-- ---- which stream tells

number_on : (first p : ℕ) → suc first + p ≡ first + suc p
number_on first p = omega arith

no_number : (first : ℕ) → first ≡ first + 0
no_number first = omega arith

-- an item on an input is told by the output stream of its number
pub told_at_is : (first : ℕ) (bases : List Fraction) (p : ℕ) (x : Item) → p < length bases → told_at first bases p x ≡ told_by (first + p) (base_at bases p) x
told_at_is first [] p x lt = absurd (omega (arith, lt))
told_at_is first (base ∷ bases) zero x lt = ap (λ (j : ℕ). told_by j base x) (no_number first)
told_at_is first (base ∷ bases) (suc p) x lt =
    told_at_is (suc first) bases p x (omega (arith, lt)) ∙ ap (λ (j : ℕ). told_by j (base_at bases p) x) (number_on first p)

-- by the head of the stream
pub told_of_head : (first : ℕ) (heads : List StreamHead) (p : ℕ) (head : StreamHead) (x : Item) → p < length heads → head ≡ get_or heads p head
    → told_by (first + p) (base_of_head head) x ≡ told_at first (head_bases heads) p x
told_of_head first [] p head x lt e = absurd (omega (arith, lt))
told_of_head first (h ∷ heads) zero head x lt e =
    ap (λ (j : ℕ). told_by j (base_of_head head) x) (sym (no_number first)) ∙ ap (λ (k : StreamHead). told_by first (base_of_head k) x) e
told_of_head first (h ∷ heads) (suc p) head x lt e =
    ap (λ (j : ℕ). told_by j (base_of_head head) x) (sym (number_on first p)) ∙ told_of_head (suc first) heads p head x (omega (arith, lt)) e

told_at_behind : (first : ℕ) (bases : List Fraction) (p : ℕ) (x : Item) → length bases ≤ p → told_at first bases p x ≡ []
told_at_behind first [] p x le = refl
told_at_behind first (base ∷ bases) zero x le = absurd (omega (arith, le))
told_at_behind first (base ∷ bases) (suc p) x le = told_at_behind (suc first) bases p x (omega (arith, le))

-- all that a stream tells is of it,
all_its : (j : ℕ) (base : Fraction) (x : Item) → events_of j (told_by j base x) ≡ told_by j base x
all_its j base (Audio f) = refl
all_its j base (Video f) = refl
all_its j base (Packet p) =
    ap (λ (b : Bool). if b then Sent j (micros_of base p.dts) ∷ [] else []) (eq-eqb j j refl)
all_its j base (Trailer t) = refl
all_its j base End = ap (λ (b : Bool). if b then Finished j ∷ [] else []) (eq-eqb j j refl)
all_its j base Broken = ap (λ (b : Bool). if b then Finished j ∷ [] else []) (eq-eqb j j refl)

-- and nothing that another tells
none_its : (i j : ℕ) (base : Fraction) (x : Item) → i ≢ j → events_of j (told_by i base x) ≡ []
none_its i j base (Audio f) ne = refl
none_its i j base (Video f) ne = refl
none_its i j base (Packet p) ne =
    ap (λ (b : Bool). if b then Sent i (micros_of base p.dts) ∷ [] else []) (ne_eqb i j ne)
none_its i j base (Trailer t) ne = refl
none_its i j base End ne = ap (λ (b : Bool). if b then Finished i ∷ [] else []) (ne_eqb i j ne)
none_its i j base Broken ne = ap (λ (b : Bool). if b then Finished i ∷ [] else []) (ne_eqb i j ne)

module _ (first : ℕ) (bases : List Fraction) (p : ℕ) (there : p < length bases) where
  its_own : (x : Item) → events_of (first + p) (told_at first bases p x) ≡ told_at first bases p x
  its_own x = subst (λ (es : List Event). events_of (first + p) es ≡ es) (sym (told_at_is first bases p x there)) (all_its (first + p) (base_at bases p) x)

  of_others : (q : ℕ) (x : Item) → q ≢ p → events_of (first + p) (told_at first bases q x) ≡ []
  of_others q x ne = elim (cases_lt q (length bases)) as (λ _. events_of (first + p) (told_at first bases q x) ≡ []) [
    | inl lt ↦ ap (events_of (first + p)) (told_at_is first bases q x lt) ∙ none_its (first + q) (first + p) (base_at bases q) x (λ e. ne (omega (arith, e)))
    | inr le ↦ ap (events_of (first + p)) (told_at_behind first bases q x le)
  ]

  -- what it tells of all that was fed is what is told of what was fed on its input
  told_of_its : (feeds : List Feed) → events_of (first + p) (mux_tells first bases feeds) ≡ mux_tells first bases (feeds_at p feeds)
  told_of_its [] = refl
  told_of_its (f ∷ feeds) =
      filter-append (is_event_of (first + p)) (told_at first bases f.port f.item) (mux_tells first bases feeds)
      ∙ (elim (cases_eq f.port p) as (λ _. events_of (first + p) (told_at first bases f.port f.item) ++ events_of (first + p) (mux_tells first bases feeds)
      ≡ mux_tells first bases (feeds_at p (f ∷ feeds))) [
        | inl same ↦ (
            let own : events_of (first + p) (told_at first bases f.port f.item) ≡ told_at first bases f.port f.item =
            subst (λ (q : ℕ). events_of (first + p) (told_at first bases q f.item) ≡ told_at first bases q f.item) (sym same) (its_own f.item) in
            ap (λ (es : List Event). es ++ events_of (first + p) (mux_tells first bases feeds)) own
            ∙ (ap (λ (es : List Event). told_at first bases f.port f.item ++ es) (told_of_its feeds)
            ∙ ap (λ (b : Bool). mux_tells first bases (if b then f ∷ feeds_at p feeds else feeds_at p feeds)) (sym (eq-eqb f.port p same)))
            )
        | inr ne ↦ ap (λ (es : List Event). es ++ events_of (first + p) (mux_tells first bases feeds)) (of_others f.port f.item ne)
            ∙ (told_of_its feeds
            ∙ ap (λ (b : Bool). mux_tells first bases (if b then f ∷ feeds_at p feeds else feeds_at p feeds)) (sym (ne_eqb f.port p ne)))
      ])

  -- of the items of a valid stream each packet is told as it was sent
  told_of_items : (head : StreamHead) (xs : List Item) → All (IsItemFor (Packets head)) xs
      → mux_tells first bases (map (feed_of p) xs) ≡ map (sent (first + p) (base_at bases p)) (packets_of xs)
  told_of_items head [] each = refl
  told_of_items head (x ∷ xs) each =
      ap (λ (es : List Event). es ++ mux_tells first bases (map (feed_of p) xs)) (told_at_is first bases p x there)
      ∙ (ap (λ (es : List Event). told_by (first + p) (base_at bases p) x ++ es) (told_of_items head xs (All-tail (IsItemFor (Packets head)) x xs each))
      ∙ one x (All-head (IsItemFor (Packets head)) x xs each))
    where
      one : (x : Item) → IsItemFor (Packets head) x → told_by (first + p) (base_at bases p) x ++ map (sent (first + p) (base_at bases p)) (packets_of xs)
          ≡ map (sent (first + p) (base_at bases p)) (packets_of (x ∷ xs))
      one (Audio f) is = refl
      one (Video f) is = refl
      one (Packet k) is = refl
      one (Trailer t) is = refl
      one End is = absurd (no_end head is.fits)
      one Broken is = absurd (no_break head is.fits)

  told_of_end : (m : Mark) → m ≢ still_open → mux_tells first bases (closing_feeds p m) ≡ Finished (first + p) ∷ []
  told_of_end still_open closed = absurd (closed refl)
  told_of_end whole closed = append-nil (told_at first bases p End) ∙ told_at_is first bases p End there
  told_of_end broken closed = append-nil (told_at first bases p Broken) ∙ told_at_is first bases p Broken there

pub told_of_streams : ToldOfStreams
told_of_streams first p bases head s feeds there v closed fed =
    told_of_its first bases p there feeds
    ∙ (ap (mux_tells first bases) fed
    ∙ (flat_map-append (λ (f : Feed). told_at first bases f.port f.item) (map (feed_of p) s.items) (closing_feeds p s.mark)
    ∙ (ap (λ (es : List Event). es ++ mux_tells first bases (closing_feeds p s.mark)) (told_of_items first bases p there head s.items v.shape.each)
    ∙ ap (λ (es : List Event). map (sent (first + p) (base_at bases p)) (packets_of s.items) ++ es) (told_of_end first bases p there s.mark closed))))

-- with one input each event is of the one stream
pub told_of_one : ToldOfOne
told_of_one first base [] = refl
told_of_one first base (f ∷ feeds) =
    filter-append (is_event_of first) (told_at first (base ∷ []) f.port f.item) (mux_tells first (base ∷ []) feeds)
    ∙ (ap (λ (es : List Event). es ++ events_of first (mux_tells first (base ∷ []) feeds)) (one f.port)
    ∙ ap (λ (es : List Event). told_at first (base ∷ []) f.port f.item ++ es) (told_of_one first base feeds))
  where
    one : (p : ℕ) → events_of first (told_at first (base ∷ []) p f.item) ≡ told_at first (base ∷ []) p f.item
    one zero = all_its first base f.item
    one (suc p) = refl

-- of a stream that has closed something is told
pub something_told : (stream : ℕ) (base : Fraction) (s : Flow) → [] ≡ stream_events stream base s → ⊥
something_told stream base s e = ends_so (map (sent stream base) (packets_of s.items)) (Finished stream) e
  where
    ends_so : (xs : List Event) (last : Event) → [] ≡ xs ++ last ∷ [] → ⊥
    ends_so [] last same = cc
    ends_so (x ∷ xs) last same = cc
