-- What the part that writes streams of packets does at each item.
use Rattle.std.proofs.Common.{◌≡◌, ◌≢◌, ◌↔◌, ◌⊎◌, inl, inr, ℕ, zero, suc, ◌<◌, ◌≤◌, ◌+◌, Bool, true, false, ◌||◌, ◌==◌, List, [], ◌∷◌, ◌++◌, length, Option, Some, None, is_some, refl, ap, sym, ◌∙◌, subst, arith, append_assoc, append-nil}
use Rattle.std.specs.Prelude.{if◌then◌else◌, IsNone, IfSome}
use Rattle.std.proofs.lemmas.Bool.{cases_Bool, cases_eq, eq-eqb, ne_eqb}
use Rattle.std.proofs.lemmas.List.Elements.{filter-append}
use Rattle.ff_time.specs.Fraction.{Fraction}
use Rattle.ff_frame.specs.declared.head.StreamHead.{StreamHead}
use Rattle.ff_frame.specs.declared.event.Event.{Event}
use Rattle.ff_frame.specs.declared.totals.Totals.{Totals}
use Rattle.ff_stream.specs.declared.item.Item.{Item}
use Rattle.ff_stream.specs.Stream.{still_open, whole, Stream, LiesBelow}
use Rattle.ff_stream.specs.laws.Order.{with_item_above, below_self, below_trans}
use Rattle.ff_stream.specs.declared.item.Lane.TheVariants.{Packets}
use Rattle.ff_stream.specs.laws.LaneLaws.{nothing_valid}
use Rattle.ff_stream.specs.Ports.{nothing, stream_at, AllBelow, IsClosed}
use Rattle.ff_filter.specs.Views.{closes}
use Rattle.ff_filter.specs.Joins.{Ports, silence, before_at, joined}
use Rattle.ff_node_mux.specs.merge.Merges.{Placed, packets_in, interleaved}
use Rattle.ff_node_mux.specs.merge.Queues.{Merging, IsNew, Same, base_at}
use Rattle.ff_net.specs.declared.fault.Fault.{Fault}
use Rattle.ff_net.specs.declared.fault.Fault.TheVariants.{TooLarge}
use Rattle.ff_net.specs.Ways.{Flow, lane_at, IsValidOn, AreValid, with_item_at}
use Rattle.ff_net.specs.Pasts.{Past, Feed, fed, start, was_told}
use Rattle.ff_net.specs.laws.Laws.{IsOfInputs}
use Rattle.ff_net.proofs.Flows.{stream_at-with_item_same, stream_at-with_item_other}
use Rattle.ff_format.specs.Layouts.{Layout, body, written, text_of, fits, with_last}
use Rattle.ff_node_mux.specs.laws.Feeding.{feed_of, is_feed_of, feeds_of, feeds_at}
use Rattle.ff_node_mux.specs.laws.Growing.{causes_grow, held_open, open_text, written_more}
use Rattle.ff_node_mux.specs.laws.Mixing.{bases_long, lanes_long, mixed_grows, whole_to}
use Rattle.ff_node_mux.specs.Muxing.{head_bases, head_lanes, are_whole, count_open, whole_if, mixed, totals_of, totals_in, totals_on, left_with, text_for, file_for, size_for, cause_for, mux_task, unpatched, file, and_then, HoldsOf, HoldsSmall, MuxStands}
use Rattle.ff_node_mux.specs.laws.Writing.{text_before, WroteOn, StuckOn}
use Rattle.ff_node_mux.proofs.Joining.{all_or_open, count_fed, mixed_nothing, open_none, then_on, then_silence}
use Rattle.ff_node_mux.proofs.StreamTells.{feeds_more}
use Rattle.ff_node_mux.proofs.Texts.{prefixed, ended, totals_more, something, closes_iff, closed_then, small_cause, large_cause, fits_none}

-- an event was told
pub mux_told : (holds : Option (List ℕ)) (layout : Layout) (counts : List Placed → Type 0) (totals : Option Totals) (heads : List StreamHead) (unended : ℕ) (begun : Bool)
    (merge : Merging) (fault : Option Fault) (past : Past) (e : Event) → MuxStands holds layout counts totals heads unended begun merge fault past
    → MuxStands holds layout counts totals heads unended begun merge fault (was_told past e)
mux_told holds layout counts totals heads unended begun merge fault past e (bytes, s) = (
  bytes,
  record {
    task = s.task;
    valid = s.valid;
    gave = s.gave;
    not_begun = s.not_begun;
    has_begun = s.has_begun;
    open_are = s.open_are;
    closed_is = s.closed_is;
    feeds_are = s.feeds_are;
    told = s.told;
    totals_are = s.totals_are;
    fresh = s.fresh;
    merges = s.merges;
    counted = s.counted;
    small = s.small;
    exact = s.exact;
    finished_is = s.finished_is;
    front = s.front;
    caused = s.caused;
  },
)

-- nothing that can be seen of the merge changed
pub mux_same : (holds : Option (List ℕ)) (layout : Layout) (counts : List Placed → Type 0) (totals : Option Totals) (heads : List StreamHead) (unended : ℕ) (begun : Bool)
    (merge merge' : Merging) (fault : Option Fault) (past : Past) → Same merge merge' → MuxStands holds layout counts totals heads unended begun merge fault past
    → MuxStands holds layout counts totals heads unended begun merge' fault past
mux_same holds layout counts totals heads unended begun merge merge' fault past same (bytes, s) = (
  bytes,
  record {
    task = s.task;
    valid = s.valid;
    gave = s.gave;
    not_begun = s.not_begun;
    has_begun = s.has_begun;
    open_are = s.open_are;
    closed_is = λ p. subst (λ (b : Bool). b ≡ true ↔ IsClosed (stream_at past.got p)) (sym (same.shut p)) (s.closed_is p);
    feeds_are = s.feeds_are;
    told = s.told;
    totals_are = s.totals_are;
    fresh = s.fresh;
    merges = λ e ext. s.merges e ext ∙ ap (λ (ys : List Placed). (mixed (head_bases heads) past.got).items ++ ys) (sym (same.rest ext));
    counted = s.counted;
    small = s.small;
    exact = s.exact;
    finished_is = s.finished_is;
    front = s.front;
    caused = s.caused;
  },
)

nothing_below : (bases : List Fraction) → 1 ≤ length bases → are_whole (length bases) [] ≡ false
nothing_below bases some = elim (cases_Bool (are_whole (length bases) [])) as (λ _. are_whole (length bases) [] ≡ false) [
  | inl t ↦ absurd (let e : still_open ≡ whole = whole_to (length bases) [] t 0 some in cc)
  | inr f ↦ f
]

-- nothing was fed to a muxer whose sink holds nothing, whose writer counted nothing, and whose merge is new
pub mux_begins : (holds : Option (List ℕ)) (layout : Layout) (counts : List Placed → Type 0) (heads : List StreamHead) (unended : ℕ) (merge : Merging) (first : ℕ)
    → holds ≡ Some [] → counts [] → 1 ≤ length heads → unended ≡ length heads → IsNew (head_bases heads) merge
    → MuxStands holds layout counts None heads unended false merge None (start (mux_task layout first (head_bases heads)))
mux_begins holds layout counts heads unended merge first told counted some all new =
    let bases = head_bases heads in
    let none : (mixed bases []).items ≡ [] = mixed_nothing bases [] (λ p. refl) in
    let size : size_for layout (mixed bases []) ≡ 0 = ap (λ (ys : List Placed). length (body layout ys)) none in
    let ongoing = nothing_below bases (subst (λ n. 1 ≤ n) (sym (bases_long heads)) some) in
    let small : fits layout.longest (size_for layout (mixed bases [])) ≡ true = ap (fits layout.longest) size ∙ fits_none layout.longest in (
      [],
      record {
        task = refl;
        valid = nothing_valid_on heads;
        gave = λ p. refl;
        not_begun = λ e p. refl;
        has_begun = λ e n. cc;
        open_are = all ∙ (sym (bases_long heads) ∙ sym (open_none (length bases)));
        closed_is = λ p. ((λ e. let t : false ≡ true = sym (new.shut p) ∙ e in cc), (λ n. absurd (n refl)));
        feeds_are = λ p. refl;
        told = told;
        totals_are = no_totals heads;
        fresh = λ e. (refl, refl);
        merges = λ e ext. ap (interleaved (length bases) (base_at bases)) (λ i p. packets_in (nothing_then (ext p) i))
            ∙ (sym (new.rest ext) ∙ ap (λ (ys : List Placed). ys ++ merge.rest ext) (sym none));
        counted = λ e. subst counts (sym none) counted;
        small = λ e. small;
        exact = λ e b. cc;
        finished_is = λ e w. let t : false ≡ true = sym ongoing ∙ w in cc;
        front = (mixed bases [], below_self (mixed bases []), small_cause layout (mixed bases []) small, inl (text_for layout (mixed bases []), refl));
        caused = λ c e i. let clash : None ≡ Some c = e in cc;
      },
    )
  where
    nothing_valid_on : (heads : List StreamHead) (p : ℕ) → IsValidOn (lane_at (head_lanes heads) p) nothing
    nothing_valid_on [] p = refl
    nothing_valid_on (head ∷ heads) zero = nothing_valid (Packets head)
    nothing_valid_on (head ∷ heads) (suc p) = nothing_valid_on heads p

    no_totals : (heads : List StreamHead) → None ≡ totals_in (head_bases heads) []
    no_totals [] = refl
    no_totals (head ∷ heads) = refl

    nothing_then : (t : Flow) → joined nothing t ≡ t
    nothing_then t = refl

totals_then : (heads : List StreamHead) (got : List Flow) (p : ℕ) (x : Item) → p < length heads
    → totals_in (head_bases heads) (with_item_at got p x) ≡ totals_on p (totals_in (head_bases heads) got) x
totals_then [] got p x lt = absurd (omega (arith, lt))
totals_then (head ∷ heads) got zero x lt = ap totals_of (stream_at-with_item_same got 0 x) ∙ totals_more (stream_at got 0) x
totals_then (head ∷ heads) got (suc p) x lt = ap totals_of (stream_at-with_item_other got (suc p) 0 x (λ e. cc))

feeds_then : (feeds : List Feed) (got : List Flow) (p : ℕ) (x : Item) → (stream_at got p).mark ≡ still_open
    → ((q : ℕ) → feeds_at q feeds ≡ feeds_of q (stream_at got q)) → (q : ℕ)
    → feeds_at q (feeds ++ feed_of p x ∷ []) ≡ feeds_of q (stream_at (with_item_at got p x) q)
feeds_then feeds got p x o h q =
    filter-append (is_feed_of q) feeds (feed_of p x ∷ []) ∙ (elim (cases_eq q p) as (λ _. feeds_at q feeds ++ feeds_at q (feed_of p x ∷ []) ≡ feeds_of q (stream_at (with_item_at got p x) q)) [
      | inl same ↦ subst (λ r. feeds_at r feeds ++ feeds_at r (feed_of p x ∷ []) ≡ feeds_of r (stream_at (with_item_at got p x) r)) (sym same)
          (ap (λ (b : Bool). feeds_at p feeds ++ (if b then feed_of p x ∷ [] else [])) (eq-eqb p p refl)
          ∙ (ap (λ (fs : List Feed). fs ++ feed_of p x ∷ []) (h p)
          ∙ (sym (feeds_more p (stream_at got p) x o) ∙ ap (feeds_of p) (sym (stream_at-with_item_same got p x)))))
      | inr ne ↦ ap (λ (b : Bool). feeds_at q feeds ++ (if b then feed_of p x ∷ [] else [])) (ne_eqb p q (λ e. ne (sym e)))
          ∙ (append-nil (feeds_at q feeds) ∙ (h q ∙ ap (feeds_of q) (sym (stream_at-with_item_other got p q x ne))))
    ])

all_above : (got : List Flow) (p : ℕ) (x : Item) → (stream_at got p).mark ≡ still_open → AllBelow got (with_item_at got p x)
all_above got p x o q = elim (cases_eq q p) as (λ _. LiesBelow (stream_at got q) (stream_at (with_item_at got p x) q)) [
  | inl same ↦ subst (λ r. LiesBelow (stream_at got r) (stream_at (with_item_at got p x) r)) (sym same)
      (subst (λ (t : Flow). LiesBelow (stream_at got p) t) (sym (stream_at-with_item_same got p x)) (with_item_above (stream_at got p) x o))
  | inr ne ↦ subst (λ (t : Flow). LiesBelow (stream_at got q) t) (sym (stream_at-with_item_other got p q x ne)) (below_self (stream_at got q))
]

-- streams of which one is open are mixed to one that is open
not_all : (n : ℕ) (got : List Flow) (p : ℕ) → p < n → (stream_at got p).mark ≡ still_open → are_whole n got ≡ false
not_all n got p lt o = elim (cases_Bool (are_whole n got)) as (λ _. are_whole n got ≡ false) [
  | inl t ↦ absurd (let e : still_open ≡ whole = sym o ∙ whole_to n got t p lt in cc)
  | inr f ↦ f
]

below_open : (r t : Stream Placed) → LiesBelow r t → t.mark ≡ still_open → r.mark ≡ still_open
below_open r t (inl e) o = ap (λ (s : Stream Placed). s.mark) e ∙ o
below_open r t (inr b) o = b.0

module _ (holds now : Option (List ℕ)) (layout : Layout) (counts counts' : List Placed → Type 0) (totals totals' : Option Totals) (heads : List StreamHead)
    (unended unended' : ℕ) (begun : Bool) (merge merge' : Merging) (fault : Option Fault) (past : Past) (port : ℕ) (x : Item)
    (s : MuxStands holds layout counts totals heads unended begun merge fault past)
    (keeps : totals' ≡ totals_on port totals x) (left : unended' ≡ left_with unended x)
    (lt : port < length (head_lanes heads)) (o : (stream_at past.got port).mark ≡ still_open)
    (v : AreValid (head_lanes heads) (fed past port x).got)
    (shut_here : merge'.shut port ≡ (merge.shut port || closes x)) (shut_others : (q : ℕ) → q ≢ port → merge'.shut q ≡ merge.shut q) where
  abbrev bases : List Fraction
  bases = head_bases heads

  there : port < length heads
  there = subst (λ n. port < n) (lanes_long heads) lt

  inside : port < length bases
  inside = subst (λ n. port < n) (sym (bases_long heads)) there

  abbrev then_got : List Flow
  then_got = with_item_at past.got port x

  abbrev was : Stream Placed
  was = mixed bases past.got

  abbrev is : Stream Placed
  is = mixed bases then_got

  open_now : unended' ≡ count_open (length bases) then_got
  open_now = left ∙ (ap (λ (k : ℕ). left_with k x) s.1.open_are ∙ count_fed (length bases) past.got port x o inside)

  -- none is left open just where each is whole
  ends : (unended' == 0) ≡ are_whole (length bases) then_got
  ends = ap (λ (k : ℕ). k == 0) open_now ∙ all_or_open (length bases) then_got

  closed_now : (q : ℕ) → merge'.shut q ≡ true ↔ IsClosed (stream_at then_got q)
  closed_now q = elim (cases_eq q port) as (λ _. merge'.shut q ≡ true ↔ IsClosed (stream_at then_got q)) [
    | inl same ↦ subst (λ r. merge'.shut r ≡ true ↔ IsClosed (stream_at then_got r)) (sym same)
        (subst (λ (b : Bool). b ≡ true ↔ IsClosed (stream_at then_got port)) (sym shut_here)
        (subst (λ (t : Flow). (merge.shut port || closes x) ≡ true ↔ IsClosed t) (sym (stream_at-with_item_same past.got port x))
        (closed_then (merge.shut port) (closes x) (stream_at past.got port) x (s.1.closed_is port).0 o (closes_iff x))))
    | inr ne ↦ subst (λ (b : Bool). b ≡ true ↔ IsClosed (stream_at then_got q)) (sym (shut_others q ne))
        (subst (λ (t : Flow). merge.shut q ≡ true ↔ IsClosed t) (sym (stream_at-with_item_other past.got port q x ne)) (s.1.closed_is q))
  ]

  -- an item was fed to an open stream
  fed_one : (fault' : Option Fault) (bytes : List ℕ) → now ≡ Some bytes
      → (fault' ≡ None → (ext : Ports) → interleaved (length bases) (base_at bases) (and_then then_got ext) ≡ is.items ++ merge'.rest ext)
      → (fault' ≡ None → counts' is.items) → (fault' ≡ None → fits layout.longest (size_for layout is) ≡ true)
      → (fault' ≡ None → are_whole (length bases) then_got ≡ false → bytes ≡ unpatched layout bases then_got)
      → (fault' ≡ None → are_whole (length bases) then_got ≡ true → file layout bases then_got ≡ Some bytes)
      → HoldsSmall layout (totals_in bases then_got) bytes is → ((c : Fault) → fault' ≡ Some c → IsOfInputs c → cause_for layout is ≡ Some c)
      → MuxStands now layout counts' totals' heads unended' true merge' fault' (fed past port x)
  fed_one fault' bytes told merges counted small exact finished_is front caused = (
    bytes,
    record {
      task = s.1.task;
      valid = v;
      gave = s.1.gave;
      not_begun = λ e. cc;
      has_begun = λ e n. something (stream_at past.got port) x (sym (stream_at-with_item_same past.got port x) ∙ n port);
      open_are = open_now;
      closed_is = closed_now;
      feeds_are = feeds_then past.feeds past.got port x o s.1.feeds_are;
      told = told;
      totals_are = keeps ∙ (ap (λ (t : Option Totals). totals_on port t x) s.1.totals_are ∙ sym (totals_then heads past.got port x there));
      fresh = λ e. cc;
      merges = merges;
      counted = counted;
      small = small;
      exact = λ e b. exact e;
      finished_is = finished_is;
      front = front;
      caused = caused;
    },
  )

  above : LiesBelow was is
  above = mixed_grows bases past.got then_got (all_above past.got port x o)

  was_open : was.mark ≡ still_open
  was_open = ap whole_if (not_all (length bases) past.got port inside o)

  -- with a fault nothing is written
  pub mux_after : is_some fault ≡ true → now ≡ holds → MuxStands now layout counts' totals' heads unended' true merge' fault (fed past port x)
  mux_after some same =
      let clash : fault ≡ None → ⊥ = λ e. let b : false ≡ true = sym (ap is_some e) ∙ some in cc in
      let r = s.1.front.0 in
      fed_one fault s.0 (same ∙ s.1.told) (λ e. absurd (clash e)) (λ e. absurd (clash e)) (λ e. absurd (clash e)) (λ e w. absurd (clash e)) (λ e w. absurd (clash e)) (
        r,
        below_trans r was is s.1.front.1 above,
        s.1.front.2,
        held_open layout (totals_in bases past.got) (totals_in bases then_got) s.0 r (below_open r was s.1.front.1 was_open) s.1.front.3,
      )
      (λ c e i. causes_grow layout bases past.got then_got c (all_above past.got port x o) (s.1.caused c e i))

  -- without one the merge took the item in
  module _ (none : fault ≡ None) (merge_fed : Merging) (fed_rest : (ext : Ports) → merge_fed.rest ext ≡ merge.rest (before_at port x ext)) where
    goes_on : (ext : Ports) → interleaved (length bases) (base_at bases) (and_then then_got ext) ≡ was.items ++ merge_fed.rest ext
    goes_on ext =
        ap (interleaved (length bases) (base_at bases)) (then_on past.got port x ext o)
        ∙ (s.1.merges none (before_at port x ext) ∙ ap (λ (ys : List Placed). was.items ++ ys) (sym (fed_rest ext)))

    -- what was decided was counted
    was_counted : counts was.items
    was_counted = s.1.counted none

    -- what is decided now
    now_decided : is.items ≡ was.items ++ merge_fed.rest silence
    now_decided = ap (interleaved (length bases) (base_at bases)) (sym (then_silence then_got)) ∙ goes_on silence

    -- what stands, and the text before the packets where nothing stands, is what is written
    stands : s.0 ++ text_before begun layout ≡ written layout was.items
    stands = elim (cases_Bool begun) as (λ _. s.0 ++ text_before begun layout ≡ written layout was.items) [
      | inl b ↦ ap (λ (k : Bool). s.0 ++ text_before k layout) b
          ∙ (append-nil s.0 ∙ (s.1.exact none b (not_all (length bases) past.got port inside o) ∙ open_text layout was was_open))
      | inr f ↦ ap (λ (k : Bool). s.0 ++ text_before k layout) f
          ∙ (ap (λ (w : List ℕ). w ++ layout.header) (s.1.fresh f).0
          ∙ (sym (append-nil layout.header) ∙ ap (λ (ys : List Placed). written layout ys) (sym (mixed_nothing bases past.got (s.1.not_begun f)))))
    ]

    -- and with further packets
    stands_with : (ys : List Placed) → s.0 ++ (text_before begun layout ++ body layout ys) ≡ written layout (was.items ++ ys)
    stands_with ys =
        sym (append_assoc s.0 (text_before begun layout) (body layout ys))
        ∙ (ap (λ (w : List ℕ). w ++ body layout ys) stands ∙ sym (written_more layout was.items ys))

    -- all was written
    mux_wrote : WroteOn layout merge_fed merge' holds now counts counts' begun (unended' == 0) totals' → MuxStands now layout counts' totals' heads unended' true merge' None (fed past port x)
    mux_wrote w = fed_one None bytes (ended holds now s.0 ((text_before begun layout ++ body layout w.packets) ++ w.tail) w.replaced s.1.told w.ends)
        (λ e ext. goes_on ext ∙ (ap (λ (ys : List Placed). was.items ++ ys) (w.rest ext)
        ∙ (sym (append_assoc was.items w.packets (merge'.rest ext)) ∙ ap (λ (ys : List Placed). ys ++ merge'.rest ext) (sym items))))
        (λ e. subst counts' (sym items) (w.counted was.items was_counted))
        (λ e. fitting) (λ e f. still f) (λ e t. done t) (is, below_self is, small_cause layout is fitting, held) (λ c e i. let clash : None ≡ Some c = e in cc)
      where
        bytes : List ℕ
        bytes = with_last w.replaced (s.0 ++ ((text_before begun layout ++ body layout w.packets) ++ w.tail))

        items : is.items ≡ was.items ++ w.packets
        items = now_decided ∙ (ap (λ (ys : List Placed). was.items ++ ys) (w.rest silence)
            ∙ (ap (λ (ys : List Placed). was.items ++ (w.packets ++ ys)) w.nothing_left ∙ ap (λ (ys : List Placed). was.items ++ ys) (append-nil w.packets)))

        fitting : fits layout.longest (size_for layout is) ≡ true
        fitting = ap (λ (ys : List Placed). fits layout.longest (length (body layout ys))) items ∙ w.within was.items was_counted (s.1.small none)

        text : s.0 ++ ((text_before begun layout ++ body layout w.packets) ++ w.tail) ≡ written layout is.items ++ w.tail
        text = sym (append_assoc s.0 (text_before begun layout ++ body layout w.packets) w.tail)
            ∙ (ap (λ (t : List ℕ). t ++ w.tail) (stands_with w.packets) ∙ ap (λ (ys : List Placed). written layout ys ++ w.tail) (sym items))

        still : are_whole (length bases) then_got ≡ false → bytes ≡ unpatched layout bases then_got
        still f = let m = w.more (ends ∙ f) in
            ap (λ (r : Option (ℕ × List ℕ)). with_last r (s.0 ++ ((text_before begun layout ++ body layout w.packets) ++ w.tail))) m.1
            ∙ (text ∙ (ap (λ (p : List ℕ). written layout is.items ++ p) m.0 ∙ (append-nil (written layout is.items) ∙ sym (open_text layout is (ap whole_if f)))))

        whole_text : are_whole (length bases) then_got ≡ true → text_of layout is.items ≡ s.0 ++ ((text_before begun layout ++ body layout w.packets) ++ w.tail)
        whole_text t = sym (text ∙ ap (λ (p : List ℕ). written layout is.items ++ p)
            ((w.all (ends ∙ t) was.items was_counted).0 ∙ ap layout.tail (sym items)))

        done : are_whole (length bases) then_got ≡ true → file layout bases then_got ≡ Some bytes
        done t =
            let all = w.all (ends ∙ t) was.items was_counted in
            let totals_is : totals_in bases then_got ≡ totals' = totals_then heads past.got port x there
            ∙ (ap (λ (k : Option Totals). totals_on port k x) (sym s.1.totals_are) ∙ sym keeps) in
            ap (λ (b : Bool). file_for layout (totals_in bases then_got) (record { items = is.items; mark = whole_if b })) t
            ∙ (ap (λ (b : Bool). if b then Some (with_last (layout.last (size_for layout is) (totals_in bases then_got)) (text_of layout is.items)) else None) fitting
            ∙ (ap (λ (ys : List Placed). Some (with_last (layout.last (length (body layout ys)) (totals_in bases then_got)) (text_of layout is.items))) items
            ∙ (ap (λ (k : Option Totals). Some (with_last (layout.last (length (body layout (was.items ++ w.packets))) k) (text_of layout is.items))) totals_is
            ∙ (ap (λ (r : Option (ℕ × List ℕ)). Some (with_last r (text_of layout is.items))) (sym all.1)
            ∙ ap (λ (b : List ℕ). Some (with_last w.replaced b)) (whole_text t)))))

        held : HoldsOf layout (totals_in bases then_got) bytes is
        held = elim (cases_Bool (are_whole (length bases) then_got)) as (λ _. HoldsOf layout (totals_in bases then_got) bytes is) [
          | inl t ↦ inr (done t)
          | inr f ↦ inl ([], append-nil bytes ∙ still f)
        ]

    -- a front of it
    mux_stuck : (f : Fault) → (IsOfInputs f → f ≡ TooLarge)
        → StuckOn layout merge_fed holds now counts begun (unended' == 0) f → MuxStands now layout counts' totals' heads unended' true merge' (Some f) (fed past port x)
    mux_stuck f kinds w = fed_one (Some f) (s.0 ++ front.0) front.3 (λ e. absurd (clash e)) (λ e. absurd (clash e)) (λ e. absurd (clash e))
        (λ e n. absurd (clash e)) (λ e n. absurd (clash e)) (held w.tails)
        (λ c e i. let same : f ≡ c = cc in subst (λ (k : Fault). cause_for layout is ≡ Some k) same (caused (subst IsOfInputs (sym same) i)))
      where
        clash : Some f ≡ None → ⊥
        clash e = cc

        front : (front rest : List ℕ) × (((text_before begun layout ++ body layout w.packets) ++ w.tail) ≡ front ++ rest) × (now ≡ Some (s.0 ++ front))
        front = prefixed holds now s.0 ((text_before begun layout ++ body layout w.packets) ++ w.tail) s.1.told w.front

        items : is.items ≡ (was.items ++ w.packets) ++ w.others
        items = now_decided ∙ (ap (λ (ys : List Placed). was.items ++ ys) w.rest ∙ sym (append_assoc was.items w.packets w.others))

        counted_small : fits layout.longest (length (body layout (was.items ++ w.packets))) ≡ true
        counted_small = w.within was.items was_counted (s.1.small none)

        caused : IsOfInputs f → cause_for layout is ≡ Some f
        caused i =
            let e = kinds i in
            large_cause layout is (ap (λ (ys : List Placed). fits layout.longest (length (body layout ys))) now_decided ∙ w.large e was.items was_counted)
            ∙ ap (λ (c : Fault). Some c) (sym e)

        -- the bytes and the rest of what was to be written
        text : (s.0 ++ front.0) ++ front.1 ≡ written layout (was.items ++ w.packets) ++ w.tail
        text = append_assoc s.0 front.0 front.1 ∙ (ap (λ (t : List ℕ). s.0 ++ t) (sym front.2)
            ∙ (sym (append_assoc s.0 (text_before begun layout ++ body layout w.packets) w.tail) ∙ ap (λ (t : List ℕ). t ++ w.tail) (stands_with w.packets)))

        held : ((w.tail ≡ []) ⊎ (((unended' == 0) ≡ true) × (w.others ≡ []) × ((ps : List Placed) → counts ps → w.tail ≡ layout.tail (ps ++ w.packets))))
            → HoldsSmall layout (totals_in bases then_got) (s.0 ++ front.0) is
        held (inl e) =
            let r : Stream Placed = record { items = was.items ++ w.packets; mark = still_open } in (
              r,
              inr (refl, (w.others, sym items)),
              small_cause layout r counted_small,
              inl (front.1, text ∙ (ap (λ (p : List ℕ). written layout (was.items ++ w.packets) ++ p) e ∙ append-nil (written layout (was.items ++ w.packets)))),
            )
        held (inr a) =
            let all : is.items ≡ was.items ++ w.packets = items ∙ (ap (λ (ys : List Placed). (was.items ++ w.packets) ++ ys) a.1 ∙ append-nil (was.items ++ w.packets)) in
            let tail : w.tail ≡ layout.tail is.items = a.2 was.items was_counted ∙ ap layout.tail (sym all) in (
              is,
              below_self is,
              small_cause layout is (ap (λ (ys : List Placed). fits layout.longest (length (body layout ys))) all ∙ counted_small),
              inl (
                front.1,
                text ∙ (ap (λ (ys : List Placed). written layout ys ++ w.tail) (sym all)
                    ∙ (ap (λ (p : List ℕ). written layout is.items ++ p) tail
                    ∙ sym (ap (λ (b : Bool). text_for layout (record { items = is.items; mark = whole_if b })) (sym ends ∙ a.0)))),
              ),
            )

    -- whatever came of it
    pub mux_fed : (fault' : Option Fault) → (IsNone fault' → WroteOn layout merge_fed merge' holds now counts counts' begun (unended' == 0) totals')
        → IfSome fault' (λ f. StuckOn layout merge_fed holds now counts begun (unended' == 0) f) → IfSome fault' (λ f. IsOfInputs f → f ≡ TooLarge)
        → MuxStands now layout counts' totals' heads unended' true merge' fault' (fed past port x)
    mux_fed None wrote stuck kinds = mux_wrote (wrote refl)
    mux_fed (Some f) wrote stuck kinds = mux_stuck f kinds stuck
