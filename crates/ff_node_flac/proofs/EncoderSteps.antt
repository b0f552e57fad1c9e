-- What the encoder does at each call.
use Rattle.std.proofs.Common.{◌≡◌, ℕ, zero, suc, ◌+◌, ◌<◌, inl, inr, Bool, true, false, cond, List, [], ◌∷◌, ◌++◌, length, All, refl, sym, ap, ◌∙◌, subst, arith, append_assoc, append-nil}
use mathlib.Core.List.{IsPrefix}
use Rattle.ff_frame.specs.Audio.{IsAudio}
use Rattle.ff_frame.specs.declared.audio.AFrame.{AFrame}
use Rattle.ff_frame.specs.declared.packet.Pkt.{Pkt}
use Rattle.ff_frame.specs.declared.totals.Totals.{Totals}
use Rattle.ff_frame.specs.declared.head.StreamHead.{StreamHead}
use Rattle.ff_frame.specs.declared.head.StreamHead.TheVariants.{Audio as AudioHead, Video as VideoHead}
use Rattle.ff_stream.specs.declared.item.Item.{Item}
use Rattle.ff_stream.specs.declared.item.Item.TheVariants.{Audio, Video, Packet, Trailer, End, Broken}
use Rattle.ff_stream.specs.declared.item.Lane.TheVariants.{Frames}
use Rattle.ff_stream.specs.Items.{with_item}
use Rattle.ff_stream.specs.Lanes.{FitsFrames, IsItemFor, IsValid}
use Rattle.ff_stream.specs.laws.Order.{same_stream, below_trans, with_item_above, prefix_self}
use Rattle.ff_stream.specs.Ports.{stream_at, IsClosed, IsUnbroken}
use Rattle.ff_stream.specs.Stream.{Mark, still_open, whole, broken, LiesBelow, is_whole}
use Rattle.ff_stream.specs.Within.{some_pass, before_pass}
use Rattle.ff_stream.specs.laws.WithinLaws.{within_same}
use Rattle.ff_flac_enc.specs.declared.format.Format.{Format}
use Rattle.ff_flac_enc.specs.Gathered.{EndInTime, blocks_due}
use Rattle.ff_flac_enc.specs.Totals.{totals_of}
use Rattle.ff_net.specs.Pasts.{Past, fed, gave_item, was_asked, due}
use Rattle.ff_net.specs.Ways.{Flow, AreValid}
use Rattle.ff_net.proofs.Flows.{stream_at-with_item_same, stream_at-with_item_other}
use Rattle.ff_node_flac.specs.declared.queue.Queue.{Queue}
use Rattle.ff_node_flac.specs.declared.shut.Shut.{Shut}
use Rattle.ff_node_flac.specs.declared.shut.Shut.TheVariants as shut
use Rattle.ff_node_flac.specs.Packets.{coded_bits, at_coded, packet_of, packets_from, trailer_of, items_of, added_from}
use Rattle.ff_node_flac.specs.Coding.{CanCode, sounds, blocks_in, all_coded, passes_in_flac, flac_coded, is_long}
use Rattle.ff_node_flac.specs.laws.CodingLaws.{sounds_more, packets_more, items_above, coded_above, long_stays, coded_in_time}
use Rattle.ff_node_flac.specs.laws.Encoders.{mark_of, IsFormatOf, StandsAt, Encodes}
use Rattle.ff_node_flac.specs.laws.EncoderLaws.{due_is}
use Rattle.ff_node_flac.specs.laws.Kept.{IsTaken}
use Rattle.ff_node_flac.specs.laws.Queues.{format_of_queue, queue_ended, Queues, HasGivenAll, GivesNext, IsTooLong}
use Rattle.ff_node_flac.proofs.Gathers.{prefix_first}

-- ---- limits

module _ {A : Type 0} (passes : ℕ → A → Bool) where
  -- where none passes, all stay, whatever comes behind
  none_front : (n : ℕ) (xs ys : List A) → some_pass passes n xs ≡ false → IsPrefix xs (before_pass passes n (xs ++ ys))
  none_front n [] ys e = (before_pass passes n ys, refl)
  none_front n (x ∷ xs) ys e = pick (passes n x) e (none_front (n + 1) xs ys)
    where
      pick : (b : Bool) → cond b true (some_pass passes (n + 1) xs) ≡ false → (some_pass passes (n + 1) xs ≡ false → IsPrefix xs (before_pass passes (n + 1) (xs ++ ys)))
          → IsPrefix (x ∷ xs) (cond b [] (x ∷ before_pass passes (n + 1) (xs ++ ys)))
      pick true e rest = absurd cc
      pick false e rest = let r = rest e in (r.0, ap (λ (zs : List A). x ∷ zs) r.1)

  -- one more that doesn't pass
  none_more : (n : ℕ) (xs : List A) (y : A) → some_pass passes n xs ≡ false → passes (n + length xs) y ≡ false → some_pass passes n (xs ++ y ∷ []) ≡ false
  none_more n [] y e f = let here : n + 0 ≡ n = omega arith in ap (λ (b : Bool). cond b true false) (subst (λ (k : ℕ). passes k y ≡ false) here f)
  none_more n (x ∷ xs) y e f =
      let next : n + length (x ∷ xs) ≡ (n + 1) + length xs = omega arith in
      pick (passes n x) e (λ r. none_more (n + 1) xs y r (subst (λ (k : ℕ). passes k y ≡ false) next f))
    where
      pick : (b : Bool) → cond b true (some_pass passes (n + 1) xs) ≡ false → (some_pass passes (n + 1) xs ≡ false → some_pass passes (n + 1) (xs ++ y ∷ []) ≡ false)
          → cond b true (some_pass passes (n + 1) (xs ++ y ∷ [])) ≡ false
      pick true e rest = absurd cc
      pick false e rest = rest e

  -- the first that passes
  stops_at : (n : ℕ) (xs ys : List A) (y : A) → some_pass passes n xs ≡ false → passes (n + length xs) y ≡ true
      → (before_pass passes n (xs ++ y ∷ ys) ≡ xs) × (some_pass passes n (xs ++ y ∷ ys) ≡ true)
  stops_at n [] ys y e f =
      let here : n + 0 ≡ n = omega arith in
      let now : passes n y ≡ true = subst (λ (k : ℕ). passes k y ≡ true) here f in
      (ap (λ (b : Bool). cond b [] (y ∷ before_pass passes (n + 1) ys)) now, ap (λ (b : Bool). cond b true (some_pass passes (n + 1) ys)) now)
  stops_at n (x ∷ xs) ys y e f =
      let next : n + length (x ∷ xs) ≡ (n + 1) + length xs = omega arith in
      pick (passes n x) e (λ r. stops_at (n + 1) xs ys y r (subst (λ (k : ℕ). passes k y ≡ true) next f))
    where
      pick : (b : Bool) → cond b true (some_pass passes (n + 1) xs) ≡ false
          → (some_pass passes (n + 1) xs ≡ false → (before_pass passes (n + 1) (xs ++ y ∷ ys) ≡ xs) × (some_pass passes (n + 1) (xs ++ y ∷ ys) ≡ true))
          → (cond b [] (x ∷ before_pass passes (n + 1) (xs ++ y ∷ ys)) ≡ x ∷ xs) × (cond b true (some_pass passes (n + 1) (xs ++ y ∷ ys)) ≡ true)
      pick true e rest = absurd cc
      pick false e rest = let r = rest e in (ap (λ (zs : List A). x ∷ zs) r.0, r.1)

pub count_packets : (n : ℕ) (bs : List AFrame) → length (packets_from n bs) ≡ length bs
count_packets n [] = refl
count_packets n (b ∷ bs) = ap suc (count_packets (n + 1) bs)

packets_one : (bs : List AFrame) (b : AFrame) → packets_from 0 (bs ++ b ∷ []) ≡ packets_from 0 bs ++ Packet (packet_of b (length bs)) ∷ []
packets_one bs b = packets_more 0 bs (b ∷ []) ∙ ap (λ (n : ℕ). packets_from 0 bs ++ Packet (packet_of b n) ∷ []) (let e : 0 + length bs ≡ length bs = omega arith in e)

-- ---- items of the lane

last_item : (P : Item → Type 0) (xs : List Item) (x : Item) → All P (xs ++ x ∷ []) → P x
last_item P [] x a = a zero x (omega arith)
last_item P (y ∷ xs) x a = last_item P xs x (λ k d lt. a (suc k) d (omega (arith, lt)))

taken_of : (head : StreamHead) (f : AFrame) (format : Format) → CanCode head → IsFormatOf head format → FitsFrames head (Audio f)
    → IsAudio f.bits f.channels f.samples × IsTaken format f
taken_of (AudioHead tb rate bits channels codec) f format can is t =
    (t.audio, record { rate_is = t.rate_is ∙ sym is.0; bits_are = ap coded_bits t.bits_are ∙ sym is.1; channels_are = t.channels_are ∙ sym is.2 })
taken_of (VideoHead tb format width height sar_num sar_den) f format' can is t = absurd can

sound_alone : (head : StreamHead) → CanCode head → ((v : _) → FitsFrames head (Video v) → ⊥) × ((p : Pkt) → FitsFrames head (Packet p) → ⊥) × ((t : Totals)
    → FitsFrames head (Trailer t) → ⊥)
sound_alone (AudioHead tb rate bits channels codec) can = (λ v t. t, λ p t. t, λ x t. t)
sound_alone (VideoHead tb format width height sar_num sar_den) can = absurd can

open_alone : (c : Shut) → mark_of c ≡ still_open → c ≡ shut.Open
open_alone shut.Open e = refl
open_alone shut.Whole e = cc
open_alone shut.Broken e = cc

module _ (head : StreamHead) (queue : Queue) (closed : Shut) (told over stopped long : Bool) (past : Past)
    (s : Encodes head queue closed told over stopped long past) where
  abbrev got : Flow
  got = stream_at past.got 0

  abbrev gave : Flow
  gave = stream_at past.gave 0

  got_of : (x : Item) → stream_at (fed past 0 x).got 0 ≡ with_item got x
  got_of x = stream_at-with_item_same past.got 0 x

  gave_of : (x : Item) → stream_at (gave_item past 0 x).gave 0 ≡ with_item gave x
  gave_of x = stream_at-with_item_same past.gave 0 x

  valid_with : (x : Item) → AreValid (Frames head ∷ []) (fed past 0 x).got → IsValid (Frames head) (with_item got x)
  valid_with x v = subst (λ (t : Flow). IsValid (Frames head) t) (got_of x) (v 0)

  -- an item was fed
  fed_to : (x : Item) (queue' : Queue) (closed' : Shut) → got.mark ≡ still_open → AreValid (Frames head ∷ []) (fed past 0 x).got
      → mark_of closed' ≡ (with_item got x).mark → format_of_queue queue' ≡ format_of_queue queue
      → (stopped ≡ false → over ≡ false → StandsAt queue' told (with_item got x) gave)
      → Encodes head queue' closed' told over stopped long (fed past 0 x)
  fed_to x queue' closed' o v e fmt st =
      let above = with_item_above got x o in
      record {
        can = s.can;
        format = subst (λ (f : Format). IsFormatOf head f) (sym fmt) s.format;
        means = s.means;
        cause = s.cause;
        plain = s.plain;
        silent = s.silent;
        valid = v;
        closed_is = e ∙ sym (ap (λ (t : Flow). t.mark) (got_of x));
        below =
            subst (λ (t : Flow). LiesBelow gave (flac_coded t)) (sym (got_of x))
            (below_trans gave (flac_coded got) (flac_coded (with_item got x)) s.below (coded_above head got (with_item got x) s.can (s.valid 0) above));
        beyond = s.beyond;
        stops = s.stops;
        over_is = s.over_is;
        open_is = s.open_is;
        long_is = λ l. subst (λ (t : Flow). is_long t ≡ true) (sym (got_of x)) (long_stays head got (with_item got x) s.can (s.valid 0) above (s.long_is l));
        unbroken = λ l u. s.unbroken l (λ b. let clash : still_open ≡ broken = sym o ∙ b in cc);
        asked = λ a b i. absurd i;
        state = λ a b. subst (λ (t : Flow). StandsAt queue' told t gave) (sym (got_of x)) (st a b);
      }

  -- where it was coding, it goes on
  goes_on_at : (t : Bool) (queue' : Queue) (later : Flow) → got.mark ≡ still_open → StandsAt queue t got gave
      → ((done : List AFrame) → Queues queue (sounds got.items) done → Queues queue' (sounds later.items) done)
      → queue_ended queue' ≡ is_whole later.mark → StandsAt queue' t later gave
  goes_on_at true queue' later o st f e = absurd (let clash : still_open ≡ whole = sym o ∙ st.0 in cc)
  goes_on_at false queue' later o st f e = (st.0, f st.0 st.1, e, st.3, st.4)

  pub frame_fed : (f : AFrame) (queue' : Queue) → closed ≡ shut.Open → got.mark ≡ still_open → AreValid (Frames head ∷ []) (fed past 0 (Audio f)).got
      → ((fed' done : List AFrame) → Queues queue fed' done → EndInTime (fed' ++ at_coded f ∷ []) → Queues queue' (fed' ++ at_coded f ∷ []) done)
      → queue_ended queue' ≡ false → format_of_queue queue' ≡ format_of_queue queue → Encodes head queue' closed told over stopped long (fed past 0 (Audio f))
  frame_fed f queue' c o v next e fmt =
      let more : sounds (got.items ++ Audio f ∷ []) ≡ sounds got.items ++ at_coded f ∷ [] = sounds_more got.items (Audio f ∷ []) in
      let time = subst (λ (fs : List AFrame). EndInTime fs) more (coded_in_time head (with_item got (Audio f)) s.can (valid_with (Audio f) v)) in
      fed_to (Audio f) queue' closed o v s.closed_is fmt
      (λ a b. goes_on_at told queue' (with_item got (Audio f)) o (s.state a b)
      (λ done q. subst (λ (fs : List AFrame). Queues queue' fs done) (sym more) (next (sounds got.items) done q time))
      (e ∙ sym (ap is_whole o)))

  -- a frame that isn't wanted
  pub frame_over : (f : AFrame) → got.mark ≡ still_open → AreValid (Frames head ∷ []) (fed past 0 (Audio f)).got → (stopped ≡ false → over ≡ false → ⊥)
      → Encodes head queue closed told over stopped long (fed past 0 (Audio f))
  frame_over f o v never = fed_to (Audio f) queue closed o v s.closed_is refl (λ a b. absurd (never a b))

  pub frame_taken : (f : AFrame) → AreValid (Frames head ∷ []) (fed past 0 (Audio f)).got → IsAudio f.bits f.channels f.samples × IsTaken (format_of_queue queue) f
  frame_taken f v = taken_of head f (format_of_queue queue) s.can s.format (last_item (IsItemFor (Frames head)) got.items (Audio f) (valid_with
      (Audio f) v).shape.each).fits

  pub no_picture : (f : _) → AreValid (Frames head ∷ []) (fed past 0 (Video f)).got → ⊥
  no_picture f v = (sound_alone head s.can).0 f (last_item (IsItemFor (Frames head)) got.items (Video f) (valid_with (Video f) v).shape.each).fits

  pub no_packet : (p : Pkt) → AreValid (Frames head ∷ []) (fed past 0 (Packet p)).got → ⊥
  no_packet p v = (sound_alone head s.can).1 p (last_item (IsItemFor (Frames head)) got.items (Packet p) (valid_with (Packet p) v).shape.each).fits

  pub no_trailer : (t : Totals) → AreValid (Frames head ∷ []) (fed past 0 (Trailer t)).got → ⊥
  no_trailer t v = (sound_alone head s.can).2 t (last_item (IsItemFor (Frames head)) got.items (Trailer t) (valid_with (Trailer t) v).shape.each).fits

  pub end_fed : (queue' : Queue) → got.mark ≡ still_open → AreValid (Frames head ∷ []) (fed past 0 End).got
      → ((fed' done : List AFrame) → Queues queue fed' done → Queues queue' fed' done) → queue_ended queue' ≡ true → format_of_queue queue' ≡ format_of_queue queue
      → Encodes head queue' shut.Whole told over stopped long (fed past 0 End)
  end_fed queue' o v still e fmt =
      fed_to End queue' shut.Whole o v refl fmt (λ a b. goes_on_at told queue' (with_item got End) o (s.state a b) (λ done q. still (sounds got.items) done q) e)

  pub break_fed : got.mark ≡ still_open → AreValid (Frames head ∷ []) (fed past 0 Broken).got → queue_ended queue ≡ false
      → Encodes head queue shut.Broken told over stopped long (fed past 0 Broken)
  break_fed o v e = fed_to Broken queue shut.Broken o v refl refl (λ a b. goes_on_at told queue (with_item got Broken) o (s.state a b) (λ done q. q) e)

  -- the queue goes on by itself
  pub kept_on : (queue' : Queue) → ((fed' done : List AFrame) → Queues queue fed' done → Queues queue' fed' done) → queue_ended queue' ≡ queue_ended queue
      → format_of_queue queue' ≡ format_of_queue queue → Encodes head queue' closed told over stopped long past
  kept_on queue' still e fmt = record {
    can = s.can;
    format = subst (λ (f : Format). IsFormatOf head f) (sym fmt) s.format;
    means = s.means;
    cause = s.cause;
    plain = s.plain;
    silent = s.silent;
    valid = s.valid;
    closed_is = s.closed_is;
    below = s.below;
    beyond = s.beyond;
    stops = s.stops;
    over_is = s.over_is;
    open_is = s.open_is;
    long_is = s.long_is;
    unbroken = s.unbroken;
    asked = s.asked;
    state = λ a b. at told (s.state a b);
  }
    where
      at : (t : Bool) → StandsAt queue t got gave → StandsAt queue' t got gave
      at true st = st
      at false st = (st.0, still (sounds got.items) st.0 st.1, e ∙ st.2, st.3, st.4)

  -- an item was given
  gave_to : (x : Item) (queue' : Queue) (told' over' long' : Bool) → LiesBelow (with_item gave x) (flac_coded got) → (over' ≡ true → IsClosed (with_item gave x))
      → (over' ≡ false → (with_item gave x).mark ≡ still_open) → (long' ≡ true → is_long got ≡ true) → (long' ≡ false → IsUnbroken got → IsUnbroken (with_item gave x))
      → format_of_queue queue' ≡ format_of_queue queue → (stopped ≡ false → over' ≡ false → StandsAt queue' told' got (with_item gave x))
      → Encodes head queue' closed told' over' stopped long' (gave_item past 0 x)
  gave_to x queue' told' over' long' below shut on long_is unbroken fmt st = record {
    can = s.can;
    format = subst (λ (f : Format). IsFormatOf head f) (sym fmt) s.format;
    means = s.means;
    cause = s.cause;
    plain = s.plain;
    silent = s.silent;
    valid = s.valid;
    closed_is = s.closed_is;
    below = subst (λ (t : Flow). LiesBelow t (flac_coded got)) (sym (gave_of x)) below;
    beyond = λ q le. stream_at-with_item_other past.gave 0 q x (omega (arith, le)) ∙ s.beyond q le;
    stops = s.stops;
    over_is = λ o. subst (λ (t : Flow). IsClosed t) (sym (gave_of x)) (shut o);
    open_is = λ o. ap (λ (t : Flow). t.mark) (gave_of x) ∙ on o;
    long_is = long_is;
    unbroken = λ l u. subst (λ (t : Flow). IsUnbroken t) (sym (gave_of x)) (unbroken l u);
    asked = λ a b i. absurd i;
    state = λ a b. subst (λ (t : Flow). StandsAt queue' told' got t) (sym (gave_of x)) (st a b);
  }

  due_first : stream_at (due past) 0 ≡ flac_coded got
  due_first = ap (λ (ss : List Flow). stream_at ss 0) (due_is head queue closed told over stopped long past s)

  abbrev IsGivenBy : Queue → Bool → Bool → Bool → Item → Type 0
  IsGivenBy queue' told' over' long' x =
      Encodes head queue' closed told' over' stopped long' (gave_item past 0 x) × (gave.mark ≡ still_open) × LiesBelow (with_item gave x) (stream_at (due past) 0)

  given_by : (x : Item) (queue' : Queue) (told' over' long' : Bool) → over ≡ false → LiesBelow (with_item gave x) (flac_coded got)
      → Encodes head queue' closed told' over' stopped long' (gave_item past 0 x) → IsGivenBy queue' told' over' long' x
  given_by x queue' told' over' long' on below e = (e, s.open_is on, subst (λ (t : Flow). LiesBelow (with_item gave x) t) (sym due_first) below)

  coding : told ≡ false → stopped ≡ false → over ≡ false → StandsAt queue false got gave
  coding e goes on = subst (λ (t : Bool). StandsAt queue t got gave) e (s.state goes on)

  count_from : (done : List AFrame) → length done ≡ 0 + length (packets_from 0 done)
  count_from done = let c = count_packets 0 done in omega (arith, c)

  pub packet_given : told ≡ false → stopped ≡ false → over ≡ false → (p : Pkt) (queue' : Queue)
      → ((fed' done : List AFrame) → Queues queue fed' done → GivesNext queue' p fed' done) → queue_ended queue' ≡ queue_ended queue
      → format_of_queue queue' ≡ format_of_queue queue → IsGivenBy queue' told over long (Packet p)
  packet_given e goes on p queue' next ended fmt =
      let st = coding e goes on in
      let n = next (sounds got.items) st.0 st.1 in
      let done = st.0 ++ n.block ∷ [] in
      let packets : packets_from 0 done ≡ packets_from 0 st.0 ++ Packet p ∷ [] =
      packets_one st.0 n.block ∙ ap (λ (q : Pkt). packets_from 0 st.0 ++ Packet q ∷ []) (sym n.is) in
      let items : gave.items ++ Packet p ∷ [] ≡ packets_from 0 done = ap (λ (xs : List Item). xs ++ Packet p ∷ []) st.3 ∙ sym packets in
      let none : some_pass passes_in_flac 0 (packets_from 0 done) ≡ false =
      subst (λ (xs : List Item). some_pass passes_in_flac 0 xs ≡ false) (sym packets)
      (none_more passes_in_flac 0 (packets_from 0 st.0) (Packet p) st.4 (subst (λ (k : ℕ). passes_in_flac k (Packet p) ≡ false) (count_from st.0) n.told)) in
      let due : IsPrefix done (blocks_in got) =
      subst (λ (b : Bool). IsPrefix done (blocks_due b (sounds got.items))) (ended ∙ st.2) (prefix_first done _ _ n.stands.due) in
      let above = items_above (is_whole got.mark) done (blocks_in got) due in
      let front : IsPrefix (packets_from 0 done) (before_pass passes_in_flac 0 (all_coded got).items) =
      subst (λ (xs : List Item). IsPrefix (packets_from 0 done) (before_pass passes_in_flac 0 xs)) above.1 (none_front passes_in_flac 0
      (packets_from 0 done) above.0 none) in
      let open_now = s.open_is on in
      let below : LiesBelow (with_item gave (Packet p)) (flac_coded got) =
      inr (open_now, subst (λ (xs : List Item). IsPrefix xs (before_pass passes_in_flac 0 (all_coded got).items)) (sym items) front) in
      given_by (Packet p) queue' told over long on below
      (gave_to (Packet p) queue' told over long below (λ o. absurd (let clash : true ≡ false = sym o ∙ on in cc)) (λ o. open_now) s.long_is
      (λ l u b. let clash : still_open ≡ broken = sym open_now ∙ b in cc) fmt
      (λ a b. subst (λ (t : Bool). StandsAt queue' t got (with_item gave (Packet p))) (sym e) (done, n.stands, ended ∙ st.2, items, none)))

  pub long_given : told ≡ false → stopped ≡ false → over ≡ false → (queue' : Queue)
      → ((fed' done : List AFrame) → Queues queue fed' done → IsTooLong queue fed' done) → format_of_queue queue' ≡ format_of_queue queue
      → IsGivenBy queue' told true true Broken
  long_given e goes on queue' next fmt =
      let st = coding e goes on in
      let t = next (sounds got.items) st.0 st.1 in
      let y = packet_of t.block (length st.0) in
      let done = st.0 ++ t.block ∷ [] in
      let due : IsPrefix done (blocks_in got) = subst (λ (b : Bool). IsPrefix done (blocks_due b (sounds got.items))) st.2 t.due in
      let above = items_above (is_whole got.mark) done (blocks_in got) due in
      let all : packets_from 0 st.0 ++ Packet y ∷ above.0 ≡ (all_coded got).items =
      sym (append_assoc (packets_from 0 st.0) (Packet y ∷ []) above.0) ∙ (ap (λ (xs : List Item). xs ++ above.0) (sym (packets_one st.0 t.block)) ∙ above.1) in
      let stop = stops_at passes_in_flac 0 (packets_from 0 st.0) above.0 (Packet y) st.4 (subst
      (λ (k : ℕ). passes_in_flac k (Packet y) ≡ true) (count_from st.0) t.long) in
      let cut : is_long got ≡ true = subst (λ (xs : List Item). some_pass passes_in_flac 0 xs ≡ true) all stop.1 in
      let same : with_item gave Broken ≡ flac_coded got =
      same_stream (with_item gave Broken) (flac_coded got) (st.3
      ∙ (sym stop.0 ∙ ap (λ (xs : List Item). before_pass passes_in_flac 0 xs) all)) (sym (ap (λ (b : Bool). cond b broken got.mark) cut)) in
      given_by Broken queue' told true true on (inl same)
      (gave_to Broken queue' told true true (inl same) (λ o c. cc) (λ o. absurd cc) (λ l. cut) (λ l. absurd cc) fmt (λ a b. absurd cc))

  none_all : (w : Bool) (done : List AFrame) → some_pass passes_in_flac 0 (packets_from 0 done) ≡ false
      → some_pass passes_in_flac 0 (packets_from 0 done ++ trailer_of w done) ≡ false
  none_all true done e = none_more passes_in_flac 0 (packets_from 0 done) (Trailer _) e refl
  none_all false done e = subst (λ (xs : List Item). some_pass passes_in_flac 0 xs ≡ false) (sym (append-nil (packets_from 0 done))) e

  -- all packets that are due were given
  record AllGiven (queue' : Queue) : Type 0 where
    done : List AFrame
    stands : Queues queue' (sounds got.items) done
    ended : queue_ended queue' ≡ is_whole got.mark
    items : gave.items ≡ packets_from 0 done
    none : some_pass passes_in_flac 0 (packets_from 0 done) ≡ false
    all : (all_coded got).items ≡ packets_from 0 done ++ trailer_of (is_whole got.mark) done
    uncut : is_long got ≡ false

  all_given : told ≡ false → stopped ≡ false → over ≡ false → (queue' : Queue)
      → ((fed' done : List AFrame) → Queues queue fed' done → Queues queue' fed' done × HasGivenAll queue' fed' done) → queue_ended queue' ≡ queue_ended queue
      → AllGiven queue'
  all_given e goes on queue' next ended =
      let st = coding e goes on in
      let n = next (sounds got.items) st.0 st.1 in
      let due : blocks_in got ≡ st.0 = subst (λ (b : Bool). blocks_due b (sounds got.items) ≡ st.0) (ended ∙ st.2) n.1 in
      let all = ap (λ (bs : List AFrame). items_of (is_whole got.mark) bs) due in
      record {
        done = st.0;
        stands = n.0;
        ended = ended ∙ st.2;
        items = st.3;
        none = st.4;
        all = all;
        uncut = subst (λ (xs : List Item). some_pass passes_in_flac 0 xs ≡ false) (sym all) (none_all (is_whole got.mark) st.0 st.4);
      }

  pub all_waits : told ≡ false → stopped ≡ false → over ≡ false → (queue' : Queue) → closed ≡ shut.Open
      → ((fed' done : List AFrame) → Queues queue fed' done → Queues queue' fed' done × HasGivenAll queue' fed' done) → queue_ended queue' ≡ queue_ended queue
      → format_of_queue queue' ≡ format_of_queue queue
      → Encodes head queue' closed told over stopped long (was_asked past 0) × (gave ≡ stream_at (due past) 0)
  all_waits e goes on queue' c next ended fmt =
      let a = all_given e goes on queue' next ended in
      let got_open : got.mark ≡ still_open = sym s.closed_is ∙ ap mark_of c in
      let plain : (all_coded got).items ≡ packets_from 0 a.done =
      a.all ∙ (ap (λ (m : Mark). packets_from 0 a.done ++ trailer_of (is_whole m) a.done) got_open ∙ append-nil (packets_from 0 a.done)) in
      let same : gave ≡ flac_coded got =
      same_stream gave (all_coded got) (a.items ∙ sym plain) (s.open_is on ∙ sym got_open) ∙ sym (within_same passes_in_flac (all_coded got) a.uncut) in
      let k = kept_on queue' (λ fed' done q. (next fed' done q).0) ended fmt in (
        record {
          can = k.can;
          format = k.format;
          means = k.means;
          cause = k.cause;
          plain = k.plain;
          silent = k.silent;
          valid = k.valid;
          closed_is = k.closed_is;
          below = k.below;
          beyond = k.beyond;
          stops = k.stops;
          over_is = k.over_is;
          open_is = k.open_is;
          long_is = k.long_is;
          unbroken = k.unbroken;
          asked = λ x y i. same;
          state = k.state;
        },
        same ∙ sym due_first,
      )

  pub totals_given : told ≡ false → stopped ≡ false → over ≡ false → (queue' queue'' : Queue) (totals : Totals) → closed ≡ shut.Whole
      → ((fed' done : List AFrame) → Queues queue fed' done → Queues queue' fed' done × HasGivenAll queue' fed' done) → queue_ended queue' ≡ queue_ended queue
      → ((fed' done : List AFrame) → Queues queue' fed' done → totals ≡ totals_of (added_from 0 done)) → format_of_queue queue'' ≡ format_of_queue queue
      → IsGivenBy queue'' true over long (Trailer totals)
  totals_given e goes on queue' queue'' totals c next ended are fmt =
      let a = all_given e goes on queue' next ended in
      let got_whole : got.mark ≡ whole = sym s.closed_is ∙ ap mark_of c in
      let open_now = s.open_is on in
      let items : gave.items ++ Trailer totals ∷ [] ≡ (all_coded got).items =
      ap (λ (xs : List Item). xs ++ Trailer totals ∷ []) a.items
      ∙ (ap (λ (t : Totals). packets_from 0 a.done ++ Trailer t ∷ []) (are (sounds got.items) a.done a.stands)
      ∙ sym (a.all ∙ ap (λ (m : Mark). packets_from 0 a.done ++ trailer_of (is_whole m) a.done) got_whole)) in
      let below : LiesBelow (with_item gave (Trailer totals)) (flac_coded got) =
      subst (λ (t : Flow). LiesBelow (with_item gave (Trailer totals)) t) (sym (within_same passes_in_flac (all_coded got) a.uncut))
      (inr (open_now, subst (λ (xs : List Item). IsPrefix (gave.items ++ Trailer totals ∷ []) xs) items (prefix_self (gave.items ++ Trailer totals ∷ [])))) in
      given_by (Trailer totals) queue'' true over long on below
      (gave_to (Trailer totals) queue'' true over long below (λ o. absurd (let clash : true ≡ false = sym o ∙ on in cc)) (λ o. open_now) s.long_is
      (λ l u b. let clash : still_open ≡ broken = sym open_now ∙ b in cc) fmt (λ x y. (got_whole, items, a.uncut)))

  pub break_given : told ≡ false → stopped ≡ false → over ≡ false → (queue' : Queue) → closed ≡ shut.Broken
      → ((fed' done : List AFrame) → Queues queue fed' done → Queues queue' fed' done × HasGivenAll queue' fed' done) → queue_ended queue' ≡ queue_ended queue
      → format_of_queue queue' ≡ format_of_queue queue → IsGivenBy queue' told true long Broken
  break_given e goes on queue' c next ended fmt =
      let a = all_given e goes on queue' next ended in
      let got_broken : got.mark ≡ broken = sym s.closed_is ∙ ap mark_of c in
      let plain : (all_coded got).items ≡ packets_from 0 a.done =
      a.all ∙ (ap (λ (m : Mark). packets_from 0 a.done ++ trailer_of (is_whole m) a.done) got_broken ∙ append-nil (packets_from 0 a.done)) in
      let same : with_item gave Broken ≡ flac_coded got =
      same_stream (with_item gave Broken) (all_coded got) (a.items ∙ sym plain) (sym got_broken) ∙ sym (within_same passes_in_flac (all_coded got) a.uncut) in
      given_by Broken queue' told true long on (inl same)
      (gave_to Broken queue' told true long (inl same) (λ o c. cc) (λ o. absurd cc) s.long_is (λ l u. absurd (u got_broken)) fmt (λ x y. absurd cc))

  pub end_given : told ≡ true → stopped ≡ false → over ≡ false → IsGivenBy queue told true long End
  end_given e goes on =
      let st : StandsAt queue true got gave = subst (λ (t : Bool). StandsAt queue t got gave) e (s.state goes on) in
      let same : with_item gave End ≡ flac_coded got =
      same_stream (with_item gave End) (all_coded got) st.1 (sym st.0) ∙ sym (within_same passes_in_flac (all_coded got) st.2) in
      given_by End queue told true long on (inl same)
      (gave_to End queue told true long (inl same) (λ o c. cc) (λ o. absurd cc) s.long_is (λ l u b. cc) refl (λ x y. absurd cc))

-- the only port
pub at_first : (p : ℕ) → p < 1 → (P : ℕ → Type 0) → P 0 → P p
at_first zero lt P h = h
at_first (suc p) lt P h = absurd (omega (arith, lt))

-- it gave this item on this port
abbrev pub Gives : StreamHead → Queue → Shut → Bool → Bool → Bool → Bool → Past → ℕ → Item → Type 0
Gives head q c told over stopped long past k x =
    Encodes head q c told over stopped long (gave_item past k x) × ((stream_at past.gave k).mark ≡ still_open)
    × LiesBelow (with_item (stream_at past.gave k) x) (stream_at (due past) k)

pub gives_at : (head : StreamHead) (q : Queue) (c : Shut) (told over stopped long : Bool) (past : Past) (k : ℕ) (x y : Item) → k < 1 → y ≡ x
    → Gives head q c told over stopped long past 0 y → Gives head q c told over stopped long past k x
gives_at head q c told over stopped long past k x y lt e h =
    at_first k lt (λ j. Gives head q c told over stopped long past j x) (subst (λ (z : Item). Gives head q c told over stopped long past 0 z) e h)

-- it was fed this item on this port
abbrev pub Feeds : StreamHead → Queue → Shut → Bool → Bool → Bool → Bool → Past → ℕ → Item → Type 0
Feeds head q c told over stopped long past k x =
    (stream_at past.got k).mark ≡ still_open → AreValid (Frames head ∷ []) (fed past k x).got → Encodes head q c told over stopped long (fed past k x)

pub feeds_at : (head : StreamHead) (q : Queue) (c : Shut) (told over stopped long : Bool) (past : Past) (k : ℕ) (x y : Item) → k < 1 → x ≡ y
    → Feeds head q c told over stopped long past 0 y → Feeds head q c told over stopped long past k x
feeds_at head q c told over stopped long past k x y lt e h =
    at_first k lt (λ j. Feeds head q c told over stopped long past j x) (subst (λ (z : Item). Feeds head q c told over stopped long past 0 z) (sym e) h)
