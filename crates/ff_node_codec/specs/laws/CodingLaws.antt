-- What becomes of whole streams that are coded.
use Rattle.std.specs.Prelude.{◌≡◌, ◌↔◌, ℕ, zero, suc, ◌==◌, not, ◌&&◌, cond, is_some, Bool, true, false, List, [], ◌∷◌, ◌++◌, map, Option, None, Some, IsSome, refl}
use Rattle.std.proofs.Common.{inl, inr, ap, sym, ◌∙◌, subst}
use mathlib.Core.List.{IsPrefix}
use Rattle.ff_time.specs.declared.cut.TimeCut.{TimeCut}
use Rattle.ff_frame.specs.Heads.{base_of_head}
use Rattle.ff_frame.specs.declared.head.StreamHead.{StreamHead}
use Rattle.ff_frame.specs.declared.head.StreamHead.TheVariants.{Audio as AudioHead, Video as VideoHead}
use Rattle.ff_frame.specs.declared.packet.Pkt.{Pkt}
use Rattle.ff_stream.specs.declared.item.Item.{Item}
use Rattle.ff_stream.specs.declared.item.Item.TheVariants.{Audio, Video, Packet, Trailer, End, Broken}
use Rattle.ff_stream.specs.Stream.{Mark, still_open, whole, broken, whole_stream, LiesBelow, opened, opened_mark}
use Rattle.ff_stream.specs.Ports.{stream_at, AllBelow, IsClosed, IsUnbroken}
use Rattle.ff_stream.specs.laws.Order.{prefix_self, closed_below, stream_at-opened, whole_if_closed}
use Rattle.ff_stream.specs.laws.Breaks.{IsBrokenOff, KeepsBrokenRule}
use Rattle.ff_filter.specs.declared.range.Range.{Range}
use Rattle.ff_net.specs.Ways.{Flow}
use Rattle.ff_trim.specs.Cuts.{is_uncut, is_empty, range_in, from_range, kept, cut}
use Rattle.ff_trim.proofs.Limiting.{cut-settles, cut_breaks}
use Rattle.ff_node_codec.specs.Making.{Outcome, and_items, made_items, or_damage, damage_in, mark_by, made_stream}
use Rattle.ff_node_codec.specs.laws.MakingLaws.{made_below, made_closed}
use Rattle.ff_node_codec.specs.laws.CutFrames.{none_left}
use Rattle.ff_node_codec.specs.Decoding.{frame_or_damage, decoded_item, decoded, if_broken, cut_frames}

-- ---- the broken rule

-- nothing of the one stream breaks off
abbrev pub IsUndamaged : (Item → Outcome) → List Flow → Type 0
IsUndamaged f ss = damage_in f (stream_at ss 0).items ≡ None

opened_whole : (m : Mark) → (m ≡ whole) ↔ (opened_mark m ≡ whole)
opened_whole still_open = (λ e. cc, λ e. cc)
opened_whole whole = (λ e. refl, λ e. refl)
opened_whole broken = (λ e. cc, λ e. cc)

whole_by : (d : Option ℕ) (m : Mark) → (mark_by d m ≡ whole) ↔ (mark_by d (opened_mark m) ≡ whole)
whole_by None m = opened_whole m
whole_by (Some offset) m = (λ e. cc, λ e. cc)

-- the streams, with the first one whole where it stands
ended : Flow → List Flow → List Flow
ended s [] = record { items = s.items; mark = whole } ∷ []
ended s (r ∷ ss) = record { items = s.items; mark = whole } ∷ ss

ended_first : (s : Flow) (ss : List Flow) → stream_at (ended s ss) 0 ≡ record { items = s.items; mark = whole }
unfolding ended
ended_first s [] = refl
ended_first s (r ∷ ss) = refl

ended_above : (s : Flow) (ss : List Flow) → s ≡ stream_at ss 0 → s.mark ≡ still_open → AllBelow ss (ended s ss)
unfolding ended
ended_above s [] e o zero = inr (refl, (s.items, refl))
ended_above s [] e o (suc p) = inl refl
ended_above s (r ∷ ss) e o zero =
    inr
    (ap (λ (x : Flow). x.mark) (sym e) ∙ o, subst (λ (xs : List Item). IsPrefix r.items xs) (ap (λ (x : Flow). x.items) (sym e)) (prefix_self r.items))
ended_above s (r ∷ ss) e o (suc p) = inl refl

module _ (f : Item → Outcome) where
  abbrev out : List Flow → Flow
  out ss = made_stream f (stream_at ss 0)

  own_mark : (ss : List Flow) → IsUndamaged f ss → (out ss).mark ≡ (stream_at ss 0).mark
  own_mark ss none = ap (λ (d : Option ℕ). mark_by d (stream_at ss 0).mark) none

  breaks_off : (ss : List Flow) → IsUndamaged f ss → (out ss).mark ≡ broken → IsBrokenOff (IsUndamaged f) out ss
  breaks_off ss none e = record {
    input = (0, sym (own_mark ss none) ∙ e);
    not_whole = λ w. let clash : broken ≡ whole = sym e ∙ w in cc;
    no_further = λ ts n above.
        let was : (stream_at ss 0).mark ≡ broken = sym (own_mark ss none) ∙ e in
        let same : stream_at ss 0 ≡ stream_at ts 0 =
        closed_below (stream_at ss 0) (stream_at ts 0) (above 0) (λ o. let clash : broken ≡ still_open = sym was ∙ o in cc) in (
          ap (λ (s : Flow). made_items f s.items) (sym same),
          λ w. let clash : broken ≡ whole = sym e ∙ (ap (λ (s : Flow). (made_stream f s).mark) same ∙ w) in cc,
        );
  }

  is_broken : (ss : List Flow) → IsUndamaged f ss → (m : Mark) → (stream_at ss 0).mark ≡ m → IsBrokenOff (IsUndamaged f) out ss
      → (out ss).mark ≡ broken
  is_broken ss none whole e b = absurd (b.not_whole (own_mark ss none ∙ e))
  is_broken ss none broken e b = own_mark ss none ∙ e
  is_broken ss none still_open e b =
      let first = ended_first (stream_at ss 0) ss in
      let later : IsUndamaged f (ended (stream_at ss 0) ss) = ap (λ (s : Flow). damage_in f s.items) first ∙ none in
      let closes : (out (ended (stream_at ss 0) ss)).mark ≡ whole = own_mark (ended (stream_at ss 0) ss) later ∙ ap (λ (s : Flow). s.mark) first in
      absurd ((b.no_further (ended (stream_at ss 0) ss) later (ended_above (stream_at ss 0) ss refl e)).1 closes)

  -- where nothing is damaged, what is made of one stream keeps the rule
  pub made_keeps_broken_rule : KeepsBrokenRule (IsUndamaged f) out
  made_keeps_broken_rule = record {
    items = λ ss none. ap (λ (s : Flow). made_items f s.items) (sym (stream_at-opened ss 0));
    wholeness =
        λ ss none. subst (λ (s : Flow). ((out ss).mark ≡ whole) ↔ ((made_stream f s).mark ≡ whole)) (sym (stream_at-opened ss 0)) (whole_by (damage_in f (stream_at ss 0).items) (stream_at ss 0).mark);
    breaks = λ ss none. (breaks_off ss none, is_broken ss none (stream_at ss 0).mark refl);
  }

-- where nothing ever is, whatever the stream
pub always_keeps_broken_rule : (f : Item → Outcome) → ((ss : List Flow) → IsUndamaged f ss)
    → KeepsBrokenRule (λ ss. Unit {0}) (λ ss. made_stream f (stream_at ss 0))
always_keeps_broken_rule f none =
    let rule = made_keeps_broken_rule f in
    record {
      items = λ ss u. rule.items ss (none ss);
      wholeness = λ ss u. rule.wholeness ss (none ss);
      breaks = λ ss u. (
        λ e. let b =
            (rule.breaks ss (none ss)).0 e in record { input = b.input; not_whole = b.not_whole; no_further = λ ts v above. b.no_further ts (none ts) above },
        λ b. (rule.breaks ss (none ss)).1 (record { input = b.input; not_whole = b.not_whole; no_further = λ ts v above. b.no_further ts tt above }),
      );
    }

-- ---- damage

-- where the stream broke off, nothing more is made, however it goes on
pub ends_at_damage : (f : Item → Outcome) (r s : Flow) (offset : ℕ) → damage_in f r.items ≡ Some offset → LiesBelow r s
    → made_stream f s ≡ made_stream f r
ends_at_damage f r s offset d b =
    let closed : (made_stream f r).mark ≡ still_open → ⊥ =
    λ o. (let clash : broken ≡ still_open = sym (ap (λ (k : Option ℕ). mark_by k r.mark) d) ∙ o in cc) in
    sym (closed_below (made_stream f r) (made_stream f s) (made_below f r s b) closed)

-- ---- item by item

-- packets as items
abbrev pub packets_in : List Pkt → List Item
packets_in packets = map (λ p. Packet p) packets

abbrev some_frame : Item → Option Item
some_frame x = Some x

abbrev some_packet : Pkt → Option Pkt
some_packet p = Some p

module _ (made : Pkt → Option Item) where
  -- packets of which each has its frame, and then others
  pub frames_before : (packets : List Pkt) (frames : List Item) (more : List Item) → map made packets ≡ map some_frame frames
      → (made_items (decoded_item made) (packets_in packets ++ more) ≡ frames ++ made_items (decoded_item made) more) × (damage_in (decoded_item made) (packets_in packets ++ more) ≡ damage_in (decoded_item made) more)
  frames_before [] [] more e = (refl, refl)
  frames_before [] (x ∷ frames) more e = cc
  frames_before (p ∷ packets) [] more e = cc
  frames_before (p ∷ packets) (x ∷ frames) more e =
      let first : made p ≡ Some x = cc (e) in
      let rest : map made packets ≡ map some_frame frames = cc (e) in
      let r = frames_before packets frames more rest in (
        ap (λ (o : Option Item). and_items (frame_or_damage p o) (made_items (decoded_item made) (packets_in packets ++ more))) first
            ∙ ap (λ (xs : List Item). x ∷ xs) r.0,
        ap (λ (o : Option Item). or_damage (frame_or_damage p o) (damage_in (decoded_item made) (packets_in packets ++ more))) first ∙ r.1,
      )

  -- a packet that has none
  pub none_behind : (p : Pkt) (more : List Item) → made p ≡ None
      → (made_items (decoded_item made) (Packet p ∷ more) ≡ []) × (damage_in (decoded_item made) (Packet p ∷ more) ≡ Some p.pos)
  none_behind p more e = (
    ap (λ (o : Option Item). and_items (frame_or_damage p o) (made_items (decoded_item made) more)) e,
    ap (λ (o : Option Item). or_damage (frame_or_damage p o) (damage_in (decoded_item made) more)) e,
  )

  -- where every packet has a frame, nothing is damaged
  pub never_damaged : ((p : Pkt) → IsSome (made p)) → (xs : List Item) → damage_in (decoded_item made) xs ≡ None
  never_damaged all [] = refl
  never_damaged all (Audio f ∷ xs) = never_damaged all xs
  never_damaged all (Video f ∷ xs) = never_damaged all xs
  never_damaged all (Packet p ∷ xs) = by (made p) (all p) (never_damaged all xs)
    where
      by : (o : Option Item) → IsSome o → damage_in (decoded_item made) xs ≡ None
          → or_damage (frame_or_damage p o) (damage_in (decoded_item made) xs) ≡ None
      by (Some x) i e = e
      by None i e = cc
  never_damaged all (Trailer t ∷ xs) = never_damaged all xs
  never_damaged all (End ∷ xs) = never_damaged all xs
  never_damaged all (Broken ∷ xs) = never_damaged all xs

-- ---- cuts

-- damage of what isn't broken is none
pub unbroken_fault : (m : Mark) (d : Option ℕ) → (m ≡ broken → ⊥) → if_broken m d ≡ None
unbroken_fault still_open d e = refl
unbroken_fault whole d e = refl
unbroken_fault broken d e = absurd (e refl)

module _ (head : StreamHead) (c : TimeCut) where
  -- with no start and no length a stream stays as it is
  pub uncut_is : (s : Flow) → c.start ≡ 0 → c.length ≡ None → cut head c s ≡ s
  uncut_is s start length =
      ap (λ (l : Option ℕ). cond (is_empty l) (whole_stream []) (kept head c s)) length
      ∙ (ap (λ (n : ℕ). cond ((n == 0) && not (is_some c.length)) s (from_range head (range_in (base_of_head head) c) s)) start
      ∙ ap (λ (l : Option ℕ). cond (not (is_some l)) s (from_range head (range_in (base_of_head head) c) s)) length)

module _ (head : StreamHead) (made : Pkt → Option Item) (c : TimeCut) (s : Flow) where
  -- and what is damaged is so
  pub uncut_damage : c.start ≡ 0 → c.length ≡ None → (cut_frames head made c).damage s ≡ damage_in (decoded_item made) s.items
  uncut_damage start length =
      ap (λ (r : Flow). if_broken r.mark (damage_in (decoded_item made) s.items)) (uncut_is head c (decoded made s) start length)
      ∙ by (damage_in (decoded_item made) s.items)
    where
      by : (d : Option ℕ) → if_broken (mark_by d s.mark) d ≡ d
      by None = none_left s.mark
      by (Some offset) = refl

  -- a cut that is over at once leaves no damage
  pub at_once_fault : c.length ≡ Some 0 → (cut_frames head made c).damage s ≡ None
  at_once_fault e =
      ap (λ (l : Option ℕ). if_broken (cond (is_empty l) (whole_stream []) (kept head c (decoded made s))).mark (damage_in (decoded_item made) s.items)) e

-- ---- the broken rule of cut frames

opened_whole_by : (b : Bool) (m : Mark) → (cond b whole m ≡ whole) ↔ (cond b whole (opened_mark m) ≡ whole)
opened_whole_by true m = (λ e. refl, λ e. refl)
opened_whole_by false m = opened_whole m

-- whoever isn't told of a break sees the same items left, and as whole
abbrev IsSeenSo : Flow → Flow → Type 0
IsSeenSo a b = (a.items ≡ b.items) × ((a.mark ≡ whole) ↔ (b.mark ≡ whole))

range_seen : (head : StreamHead) (range : Range) (s : Flow) → IsSeenSo (from_range head range s) (from_range head range (opened s))
range_seen (AudioHead tb rate bits channels codec) range s = (refl, opened_whole_by _ s.mark)
range_seen (VideoHead tb format width height sar_num sar_den) range s = (refl, opened_whole_by _ s.mark)

cut_seen : (head : StreamHead) (c : TimeCut) (s : Flow) → IsSeenSo (cut head c s) (cut head c (opened s))
cut_seen head c s = by (is_empty c.length) (is_uncut c)
  where
    range : Range
    range = range_in (base_of_head head) c

    by : (a b : Bool)
        → IsSeenSo (cond a (whole_stream []) (cond b s (from_range head range s))) (cond a (whole_stream []) (cond b (opened s) (from_range head range (opened s))))
    by true b = (refl, (λ e. refl, λ e. refl))
    by false true = (refl, opened_whole s.mark)
    by false false = range_seen head range s

module _ (head : StreamHead) (made : Pkt → Option Item) (c : TimeCut) where
  abbrev f : Item → Outcome
  f = decoded_item made

  abbrev left : List Flow → Flow
  left ss = cut head c (decoded made (stream_at ss 0))

  decoded_opened : (ss : List Flow) → IsUndamaged f ss → decoded made (stream_at (map opened ss) 0) ≡ opened (decoded made (stream_at ss 0))
  decoded_opened ss none = ap (λ (s : Flow). decoded made s) (stream_at-opened ss 0) ∙ by (damage_in f (stream_at ss 0).items) none
    where
      items : List Item
      items = made_items f (stream_at ss 0).items

      by : (d : Option ℕ) → d ≡ None
          → ◌≡◌ {A = Flow} (record { items = items; mark = mark_by d (opened_mark (stream_at ss 0).mark) })
          (record { items = items; mark = opened_mark (mark_by d (stream_at ss 0).mark) })
      by None e = refl
      by (Some offset) e = cc

  left_seen : (ss : List Flow) → IsUndamaged f ss → IsSeenSo (left ss) (left (map opened ss))
  left_seen ss none = subst (λ (s : Flow). IsSeenSo (left ss) (cut head c s)) (sym (decoded_opened ss none)) (cut_seen head c (decoded made (stream_at ss 0)))

  -- what is left is broken only where the input is
  left_breaks : (ss : List Flow) → IsUndamaged f ss → (left ss).mark ≡ broken → (stream_at ss 0).mark ≡ broken
  left_breaks ss none e = sym (own_mark f ss none) ∙ cut_breaks head c (decoded made (stream_at ss 0)) e

  left_closes : (ss : List Flow) → IsClosed (stream_at ss 0) → IsClosed (left ss)
  left_closes ss k = cut-settles head c (decoded made (stream_at ss 0)) (made_closed f (stream_at ss 0) k)

  left_breaks_off : (ss : List Flow) → IsUndamaged f ss → (left ss).mark ≡ broken → IsBrokenOff (IsUndamaged f) left ss
  left_breaks_off ss none e = record {
    input = (0, left_breaks ss none e);
    not_whole = λ w. let clash : broken ≡ whole = sym e ∙ w in cc;
    no_further = λ ts n above.
        let same : stream_at ss 0 ≡ stream_at ts 0 =
        closed_below (stream_at ss 0) (stream_at ts 0) (above 0) (λ o. let clash : broken ≡ still_open = sym (left_breaks ss none e) ∙ o in cc) in (
          ap (λ (s : Flow). (cut head c (decoded made s)).items) (sym same),
          λ w. let clash : broken ≡ whole = sym e ∙ (ap (λ (s : Flow). (cut head c (decoded made s)).mark) same ∙ w) in cc,
        );
  }

  left_broken : (ss : List Flow) → IsUndamaged f ss → (m : Mark) → (left ss).mark ≡ m → IsBrokenOff (IsUndamaged f) left ss → (left ss).mark ≡ broken
  left_broken ss none whole e b = absurd (b.not_whole e)
  left_broken ss none broken e b = e
  left_broken ss none still_open e b = by (stream_at ss 0).mark refl
    where
      by : (m : Mark) → (stream_at ss 0).mark ≡ m → (left ss).mark ≡ broken
      by whole o = absurd (left_closes ss (λ z. let clash : whole ≡ still_open = sym o ∙ z in cc) e)
      by broken o = absurd (left_closes ss (λ z. let clash : broken ≡ still_open = sym o ∙ z in cc) e)
      by still_open o =
          let ts = ended (stream_at ss 0) ss in
          let first : stream_at ts 0 ≡ record { items = (stream_at ss 0).items; mark = whole } = ended_first (stream_at ss 0) ss in
          let shut : (stream_at ts 0).mark ≡ whole = ap (λ (s : Flow). s.mark) first in
          let later : IsUndamaged f ts = ap (λ (s : Flow). damage_in f s.items) first ∙ none in
          let closes : IsClosed (left ts) = left_closes ts (λ z. let clash : whole ≡ still_open = sym shut ∙ z in cc) in
          let fine : IsUnbroken (left ts) = λ z. let clash : whole ≡ broken = sym shut ∙ left_breaks ts later z in cc in
          absurd ((b.no_further ts later (ended_above (stream_at ss 0) ss refl o)).1 (whole_if_closed (left ts) closes fine))

  -- where nothing is damaged, what is left keeps the rule
  pub left_keeps_broken_rule : KeepsBrokenRule (IsUndamaged f) left
  left_keeps_broken_rule = record {
    items = λ ss none. (left_seen ss none).0;
    wholeness = λ ss none. (left_seen ss none).1;
    breaks = λ ss none. (left_breaks_off ss none, left_broken ss none (left ss).mark refl);
  }
