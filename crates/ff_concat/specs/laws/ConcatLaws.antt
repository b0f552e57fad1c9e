-- The laws of segments one after another.
use Rattle.std.specs.Prelude.{◌≡◌, ◌≢◌, ℕ, zero, suc, ◌+◌, ◌*◌, ◌<◌, ◌≤◌, ◌⊎◌, Bool, true, false, ◌&&◌, ◌==◌, cond, max, slice_index, List, [], ◌∷◌, map, length, refl}
use Rattle.std.proofs.Common.{inl, inr, ap, sym, ◌∙◌, subst, arith}
use Rattle.std.proofs.lemmas.Bool.{cases_eq, and_parts, and_from}
use Rattle.ff_frame.specs.declared.head.StreamHead.{StreamHead}
use Rattle.ff_frame.specs.declared.head.StreamHead.TheVariants.{Audio as AudioHead, Video as VideoHead}
use Rattle.ff_stream.specs.declared.item.Item.{Item}
use Rattle.ff_stream.specs.declared.item.Item.TheVariants.{Audio, Video, Packet, Trailer, End, Broken}
use Rattle.ff_stream.specs.Stream.{Mark, still_open, whole, broken, LiesBelow, opened, map_stream}
use Rattle.ff_stream.specs.Ports.{IsClosed}
use Rattle.ff_stream.specs.laws.Order.{below_self, nothing_below}
use Rattle.ff_filter.specs.Joins.{Flow, before}
use Rattle.ff_filter.specs.Options.{is_video}
use Rattle.ff_filter.specs.Views.{closes}
use Rattle.ff_concat.specs.Following.{followed_at, followed, led_by}
use Rattle.ff_concat.specs.laws.FollowingLaws.{followed_keeps, then_keeps, then_calm, then_closed, led_calm}
use Rattle.ff_concat.specs.Silences.{filled}
use Rattle.ff_concat.specs.Tails.{Tail, both, together, latest}
use Rattle.ff_concat.specs.Concats.{moved, later, begin_in, Output, is_lost_at, is_lost, let_through, in_order}

-- a stream that breaks off before its first item
abbrev pub cut_off : Flow
cut_off = record { items = []; mark = broken }

-- an item that closes nothing, and then a stream
pub data_before : (x : Item) (t : Flow) → closes x ≡ false → before x t ≡ record { items = x ∷ t.items; mark = t.mark }
data_before (Audio f) t c = refl
data_before (Video f) t c = refl
data_before (Packet p) t c = refl
data_before (Trailer p) t c = refl
data_before End t c = cc
data_before Broken t c = cc

pub later-closes : (n : ℕ) (x : Item) → closes (later n x) ≡ closes x
later-closes n x = at (n == 0)
  where
    moved-closes : (x : Item) → closes (moved n x) ≡ closes x
    moved-closes (Audio f) = refl
    moved-closes (Video f) = refl
    moved-closes (Packet p) = refl
    moved-closes (Trailer p) = refl
    moved-closes End = refl
    moved-closes Broken = refl

    at : (b : Bool) → closes (cond b x (moved n x)) ≡ closes x
    at true = refl
    at false = moved-closes x

-- a mark further on
abbrev pub MarkBelow : Mark → Mark → Type 0
MarkBelow m n = (m ≡ n) ⊎ (m ≡ still_open)

-- how far a stream has come, further on
abbrev pub TailBelow : Tail → Tail → Type 0
TailBelow a b = (a ≡ b) ⊎ (a.mark ≡ still_open)

-- where the one is whole, the other is the same
abbrev pub KeepsWhole : Tail → Tail → Type 0
KeepsWhole a b = a.mark ≡ whole → a ≡ b

pub below_whole : (a b : Tail) → TailBelow a b → KeepsWhole a b
below_whole a b (inl e) w = e
below_whole a b (inr o) w = let clash : still_open ≡ whole = sym o ∙ w in cc

tail_mark : (a b : Tail) → TailBelow a b → MarkBelow a.mark b.mark
tail_mark a b (inl e) = inl (ap (λ (t : Tail). t.mark) e)
tail_mark a b (inr o) = inr o

both-broken : (m : Mark) → both m broken ≡ broken
both-broken still_open = refl
both-broken whole = refl
both-broken broken = refl

open_right : (m n : Mark) → MarkBelow (both m still_open) (both m n)
open_right still_open n = inr refl
open_right whole n = inr refl
open_right broken n = inl refl

open_left : (m n o : Mark) → MarkBelow n o → MarkBelow (both still_open n) (both m o)
open_left m still_open o h = inr refl
open_left m whole o h = inr refl
open_left m broken o (inl e) = inl (sym (both-broken m) ∙ ap (λ (k : Mark). both m k) e)
open_left m broken o (inr e) = cc

pub both-keeps : (m n o p : Mark) → MarkBelow m n → MarkBelow o p → MarkBelow (both m o) (both n p)
both-keeps m n o p (inl e) (inl f) = inl (ap (λ (k : Mark). both k o) e ∙ ap (λ (k : Mark). both n k) f)
both-keeps m n o p (inl e) (inr f) = subst (λ (k : Mark). MarkBelow (both m k) (both n p)) (sym f)
    (subst (λ (k : Mark). MarkBelow (both m still_open) (both k p)) e (open_right m p))
both-keeps m n o p (inr e) h = subst (λ (k : Mark). MarkBelow (both k o) (both n p)) (sym e) (open_left n o p h)

whole_parts : (m n : Mark) → both m n ≡ whole → (m ≡ whole) × (n ≡ whole)
whole_parts still_open still_open e = cc
whole_parts still_open whole e = cc
whole_parts still_open broken e = cc
whole_parts whole n e = (refl, e)
whole_parts broken n e = cc

pub together-keeps : (w p : ℕ) (ts us : ℕ → Tail) → ((j : ℕ) → TailBelow (ts j) (us j)) → MarkBelow (together w p ts) (together w p us)
together-keeps zero p ts us h = inl refl
together-keeps (suc w) p ts us h = both-keeps (together w p ts) (together w p us) (ts (p + w)).mark (us (p + w)).mark (together-keeps w p ts us h)
    (tail_mark (ts (p + w)) (us (p + w)) (h (p + w)))

pub whole_at : (w p : ℕ) (ts : ℕ → Tail) → together w p ts ≡ whole → (j : ℕ) → j < w → (ts (p + j)).mark ≡ whole
whole_at zero p ts e j lt = absurd (omega arith)
whole_at (suc w) p ts e j lt =
    let parts = whole_parts (together w p ts) (ts (p + w)).mark e in
    elim (cases_eq j w) as (λ _. (ts (p + j)).mark ≡ whole) [
      | inl same ↦ subst (λ (i : ℕ). (ts (p + i)).mark ≡ whole) (sym same) parts.1
      | inr n ↦ whole_at w p ts parts.0 j (omega arith)
    ]

pub together-same : (w p : ℕ) (ts us : ℕ → Tail) → ((j : ℕ) → j < w → ts (p + j) ≡ us (p + j)) → together w p ts ≡ together w p us
together-same zero p ts us h = refl
together-same (suc w) p ts us h =
    ap (λ (m : Mark). both m (ts (p + w)).mark) (together-same w p ts us (λ j lt. h j (omega (arith, lt))))
    ∙ ap (λ (t : Tail). both (together w p us) t.mark) (h w (omega arith))

pub latest-same : (tick_list : List ℕ) (w p : ℕ) (ts us : ℕ → Tail) → ((j : ℕ) → j < w → ts (p + j) ≡ us (p + j)) → latest tick_list w p ts ≡ latest tick_list w p us
latest-same tick_list zero p ts us h = refl
latest-same tick_list (suc w) p ts us h =
    ap (λ (n : ℕ). max n ((ts (p + w)).end * slice_index tick_list w)) (latest-same tick_list w p ts us (λ j lt. h j (omega (arith, lt))))
    ∙ ap (λ (t : Tail). max (latest tick_list w p us) (t.end * slice_index tick_list w)) (h w (omega arith))

-- where the streams of a segment are whole, they are the same further on
pub same_whole : (w p : ℕ) (ts us : ℕ → Tail) → ((j : ℕ) → KeepsWhole (ts j) (us j)) → together w p ts ≡ whole → (j : ℕ) → j < w → ts (p + j) ≡ us (p + j)
same_whole w p ts us h e j lt = h (p + j) (whole_at w p ts e j lt)

lost_open : (xs : List Item) (m : Mark) (b : Bool) → is_lost_at xs still_open m b ≡ false
lost_open [] m b = refl
lost_open (x ∷ xs) m b = refl

lost_by : (m : Mark) (b : Bool) → b ≡ true → is_lost_at [] whole m b ≡ true
lost_by still_open b e = e
lost_by whole b e = e
lost_by broken b e = refl

lost_same : (xs : List Item) (k m n : Mark) (b c : Bool) → MarkBelow m n → (b ≡ true → c ≡ true) → is_lost_at xs k m b ≡ true → is_lost_at xs k n c ≡ true
lost_same (x ∷ xs) k m n b c h f e = cc
lost_same [] still_open m n b c h f e = cc
lost_same [] broken m n b c h f e = refl
lost_same [] whole broken n b c (inl g) f e = subst (λ (o : Mark). is_lost_at [] whole o c ≡ true) g refl
lost_same [] whole broken n b c (inr g) f e = cc
lost_same [] whole still_open n b c h f e = lost_by n c (f e)
lost_same [] whole whole n b c h f e = lost_by n c (f e)

lost_at-keeps : (r s : Flow) (m n : Mark) (b c : Bool) → LiesBelow r s → MarkBelow m n → (b ≡ true → c ≡ true) → is_lost_at r.items r.mark m b ≡ true
    → is_lost_at s.items s.mark n c ≡ true
lost_at-keeps r s m n b c (inl g) h f e = subst (λ (t : Flow). is_lost_at t.items t.mark n c ≡ true) g (lost_same r.items r.mark m n b c h f e)
lost_at-keeps r s m n b c (inr g) h f e =
    let clash : true ≡ false = sym e ∙ (ap (λ (k : Mark). is_lost_at r.items k m b) g.0 ∙ lost_open r.items m b) in cc

-- what is lost stays lost
pub is_lost-keeps : (w n k : ℕ) (rs ss : ℕ → Flow) (ts us : ℕ → Tail) → ((j : ℕ) → LiesBelow (rs j) (ss j)) → ((j : ℕ) → TailBelow (ts j) (us j))
    → is_lost w n k rs ts ≡ true → is_lost w n k ss us ≡ true
is_lost-keeps w zero k rs ss ts us h g e = cc
is_lost-keeps w (suc n) k rs ss ts us h g e =
    lost_at-keeps (rs k) (ss k) (together w (k * w) ts) (together w (k * w) us) (is_lost w n (k + 1) rs ts) (is_lost w n (k + 1) ss us) (h k)
    (together-keeps w (k * w) ts us g) (λ f. is_lost-keeps w n (k + 1) rs ss ts us h g f) e

pub is_lost-same : (w n k : ℕ) (rs ss : ℕ → Flow) (ts : ℕ → Tail) → ((j : ℕ) → k ≤ j → rs j ≡ ss j) → is_lost w n k rs ts ≡ is_lost w n k ss ts
is_lost-same w zero k rs ss ts h = refl
is_lost-same w (suc n) k rs ss ts h =
    ap (λ (b : Bool). is_lost_at (rs k).items (rs k).mark (together w (k * w) ts) b) (is_lost-same w n (k + 1) rs ss ts (λ j le. h j (omega (arith, le))))
    ∙ ap (λ (s : Flow). is_lost_at s.items s.mark (together w (k * w) ts) (is_lost w n (k + 1) ss ts)) (h k (omega arith))

no_fill : (head : StreamHead) (a b : ℕ) → is_video head ≡ true → filled head a b ≡ []
no_fill (AudioHead tb rate bits channels codec) a b v = cc
no_fill (VideoHead tb format width height sar_num sar_den) a b v = refl

through_off : (m : Mark) (b : Bool) (t : Flow) → b ≡ true → t ≡ cut_off → let_through m b t ≡ cut_off
through_off whole b t e f = f
through_off broken b t e f = refl
through_off still_open true t e f = refl
through_off still_open false t e f = cc

lost_then : (f : Item → Item) (xs : List Item) (k m : Mark) (v b : Bool) (next : Flow) → v ≡ true → is_lost_at xs k m b ≡ true → (b ≡ true → next ≡ cut_off)
    → followed_at (map f xs) k (let_through m (v && b) next) ≡ cut_off
lost_then f (x ∷ xs) k m v b next u e g = cc
lost_then f [] still_open m v b next u e g = cc
lost_then f [] broken m v b next u e g = refl
lost_then f [] whole broken v b next u e g = refl
lost_then f [] whole still_open v b next u e g = through_off still_open (v && b) next (and_from v b u e) (g e)
lost_then f [] whole whole v b next u e g = g e

-- what is lost gives nothing
pub lost_is : (tick_list : List ℕ) (out : Output) (n k time end : ℕ) (own : ℕ → Flow) (ts : ℕ → Tail) → is_video out.head ≡ true
    → is_lost (length tick_list) n k own ts ≡ true → in_order tick_list out n k time end own ts ≡ cut_off
lost_is tick_list out zero k time end own ts v e = cc
lost_is tick_list out (suc n) k time end own ts v e =
    let w = length tick_list in
    let c = begin_in out.tick time in
    let next = in_order tick_list out n (k + 1) (time + latest tick_list w (k * w) ts) (c + (ts (k * w + out.number)).end) own ts in
    let lost = is_lost w n (k + 1) own ts in
    ap (λ (zs : List Item). led_by zs (followed (map_stream (later c) (own k)) (let_through (together w (k * w) ts) (is_video out.head && lost) next)))
    (no_fill out.head end c v)
    ∙ lost_then (later c) (own k).items (own k).mark (together w (k * w) ts) (is_video out.head) lost next v e
    (λ f. lost_is tick_list out n (k + 1) (time + latest tick_list w (k * w) ts) (c + (ts (k * w + out.number)).end) own ts v f)

through_keeps : (m n : Mark) (b c : Bool) (s t : Flow) → MarkBelow m n → (m ≡ whole → LiesBelow s t) → (b ≡ true → c ≡ true) → (c ≡ true → t ≡ cut_off)
    → LiesBelow (let_through m b s) (let_through n c t)
through_keeps whole n b c s t (inl e) h f g = subst (λ (k : Mark). LiesBelow s (let_through k c t)) e (h refl)
through_keeps whole n b c s t (inr e) h f g = cc
through_keeps broken n b c s t (inl e) h f g = subst (λ (k : Mark). LiesBelow cut_off (let_through k c t)) e (below_self cut_off)
through_keeps broken n b c s t (inr e) h f g = cc
through_keeps still_open n true c s t e h f g = inl (sym (through_off n c t (f refl) (g (f refl))))
through_keeps still_open n false c s t e h f g = nothing_below (let_through n c t)

through_calm : (m n : Mark) (b c : Bool) (s t : Flow) → (m ≡ whole → (n ≡ whole) × LiesBelow (opened s) t) → LiesBelow (opened (let_through m b s)) (let_through n c t)
through_calm whole n b c s t h = let e = h refl in subst (λ (k : Mark). LiesBelow (opened s) (let_through k c t)) (sym e.0) e.1
through_calm broken n b c s t h = nothing_below (let_through n c t)
through_calm still_open n true c s t h = nothing_below (let_through n c t)
through_calm still_open n false c s t h = nothing_below (let_through n c t)

through_closed : (m : Mark) (b : Bool) (t : Flow) → m ≢ still_open → IsClosed t → IsClosed (let_through m b t)
through_closed whole b t o c = c
through_closed broken b t o c = λ e. cc
through_closed still_open b t o c = absurd (o refl)

module _ (tick_list : List ℕ) (out : Output) where
  -- streams further on give streams further on
  pub in_order-keeps : out.number < length tick_list → (n k time end : ℕ) (rs ss : ℕ → Flow) (ts us : ℕ → Tail) → ((j : ℕ) → LiesBelow (rs j) (ss j))
      → ((j : ℕ) → TailBelow (ts j) (us j)) → LiesBelow (in_order tick_list out n k time end rs ts) (in_order tick_list out n k time end ss us)
  in_order-keeps there zero k time end rs ss ts us h g = below_self (in_order tick_list out zero k time end rs ts)
  in_order-keeps there (suc n) k time end rs ss ts us h g =
      let w = length tick_list in
      let p = k * w in
      let c = begin_in out.tick time in
      let lr = is_lost w n (k + 1) rs ts in
      let ls = is_lost w n (k + 1) ss us in
      let r = in_order tick_list out n (k + 1) (time + latest tick_list w p ts) (c + (ts (p + out.number)).end) rs ts in
      let s = in_order tick_list out n (k + 1) (time + latest tick_list w p us) (c + (us (p + out.number)).end) ss us in
      let more : together w p ts ≡ whole → LiesBelow r s =
      λ e.
      let same = same_whole w p ts us (λ j. below_whole (ts j) (us j) (g j)) e in
      let long = latest-same tick_list w p ts us same in
      let here = same out.number there in
      subst (λ (l : ℕ). LiesBelow r (in_order tick_list out n (k + 1) (time + l) (c + (us (p + out.number)).end) ss us)) long
      (subst (λ (t : Tail). LiesBelow r (in_order tick_list out n (k + 1) (time + latest tick_list w p ts) (c + t.end) ss us)) here
      (in_order-keeps there n (k + 1) (time + latest tick_list w p ts) (c + (ts (p + out.number)).end) rs ss ts us h g)) in
      let lost : (is_video out.head && lr) ≡ true → (is_video out.head && ls) ≡ true =
      λ e. let a = and_parts (is_video out.head) lr e in and_from (is_video out.head) ls a.0 (is_lost-keeps w n (k + 1) rs ss ts us h g a.1) in
      let off : (is_video out.head && ls) ≡ true → s ≡ cut_off =
      λ e. let a = and_parts (is_video out.head) ls e in lost_is tick_list out n (k + 1) (time + latest tick_list w p us) (c + (us (p + out.number)).end) ss us a.0 a.1 in
      followed_keeps (filled out.head end c) whole (followed (map_stream (later c) (rs k)) (let_through (together w p ts) (is_video out.head && lr) r))
      (followed (map_stream (later c) (ss k)) (let_through (together w p us) (is_video out.head && ls) s))
      (then_keeps (later c) (rs k) (ss k) (let_through (together w p ts) (is_video out.head && lr) r) (let_through (together w p us) (is_video out.head && ls) s) (h k)
      (through_keeps (together w p ts) (together w p us) (is_video out.head && lr) (is_video out.head && ls) r s (together-keeps w p ts us g) more lost off))

  -- whoever isn't told of the breaks gets no less
  pub in_order-calm : out.number < length tick_list → (n k time end : ℕ) (rs ss : ℕ → Flow) (ts us : ℕ → Tail) → ((j : ℕ) → LiesBelow (opened (rs j)) (ss j))
      → ((j : ℕ) → KeepsWhole (ts j) (us j)) → LiesBelow (opened (in_order tick_list out n k time end rs ts)) (in_order tick_list out n k time end ss us)
  in_order-calm there zero k time end rs ss ts us h g = below_self (in_order tick_list out zero k time end rs ts)
  in_order-calm there (suc n) k time end rs ss ts us h g =
      let w = length tick_list in
      let p = k * w in
      let c = begin_in out.tick time in
      let lr = is_video out.head && is_lost w n (k + 1) rs ts in
      let ls = is_video out.head && is_lost w n (k + 1) ss us in
      let r = in_order tick_list out n (k + 1) (time + latest tick_list w p ts) (c + (ts (p + out.number)).end) rs ts in
      let s = in_order tick_list out n (k + 1) (time + latest tick_list w p us) (c + (us (p + out.number)).end) ss us in
      let more : together w p ts ≡ whole → (together w p us ≡ whole) × LiesBelow (opened r) s =
      λ e.
      let same = same_whole w p ts us g e in
      let long = latest-same tick_list w p ts us same in
      let here = same out.number there in (
        sym (together-same w p ts us same) ∙ e,
        subst (λ (l : ℕ). LiesBelow (opened r) (in_order tick_list out n (k + 1) (time + l) (c + (us (p + out.number)).end) ss us)) long
            (subst (λ (t : Tail). LiesBelow (opened r) (in_order tick_list out n (k + 1) (time + latest tick_list w p ts) (c + t.end) ss us)) here
            (in_order-calm there n (k + 1) (time + latest tick_list w p ts) (c + (ts (p + out.number)).end) rs ss ts us h g)),
      ) in
      led_calm (filled out.head end c) (followed (map_stream (later c) (rs k)) (let_through (together w p ts) lr r))
      (followed (map_stream (later c) (ss k)) (let_through (together w p us) ls s))
      (then_calm (later c) (rs k) (ss k) (let_through (together w p ts) lr r) (let_through (together w p us) ls s) (h k)
      (through_calm (together w p ts) (together w p us) lr ls r s more))

  -- where all inputs close, so does the output
  pub in_order-closed : (n k time end : ℕ) (own : ℕ → Flow) (ts : ℕ → Tail)
      → ((j : ℕ) → k ≤ j → j < k + n → IsClosed (own j) × (together (length tick_list) (j * length tick_list) ts ≢ still_open))
      → IsClosed (in_order tick_list out n k time end own ts)
  in_order-closed zero k time end own ts h = λ e. cc
  in_order-closed (suc n) k time end own ts h =
      let w = length tick_list in
      let p = k * w in
      let c = begin_in out.tick time in
      let here = h k (omega arith) (omega arith) in
      let lost = is_video out.head && is_lost w n (k + 1) own ts in
      let next = in_order tick_list out n (k + 1) (time + latest tick_list w p ts) (c + (ts (p + out.number)).end) own ts in
      then_closed (later c) (own k) (let_through (together w p ts) lost next) here.0
      (through_closed (together w p ts) lost next here.1
      (in_order-closed n (k + 1) (time + latest tick_list w p ts) (c + (ts (p + out.number)).end) own ts (λ j le lt. h j (omega (arith, le)) (omega (arith, lt)))))

  -- only the streams of its own from segment k on matter
  pub in_order-same : (n k time end : ℕ) (rs ss : ℕ → Flow) (ts : ℕ → Tail) → ((j : ℕ) → k ≤ j → rs j ≡ ss j)
      → in_order tick_list out n k time end rs ts ≡ in_order tick_list out n k time end ss ts
  in_order-same zero k time end rs ss ts h = refl
  in_order-same (suc n) k time end rs ss ts h =
      let w = length tick_list in
      let p = k * w in
      let c = begin_in out.tick time in
      let lr = is_lost w n (k + 1) rs ts in
      let ls = is_lost w n (k + 1) ss ts in
      let r = in_order tick_list out n (k + 1) (time + latest tick_list w p ts) (c + (ts (p + out.number)).end) rs ts in
      let s = in_order tick_list out n (k + 1) (time + latest tick_list w p ts) (c + (ts (p + out.number)).end) ss ts in
      ap (λ (x : Flow). led_by (filled out.head end c) (followed (map_stream (later c) x) (let_through (together w p ts) (is_video out.head && lr) r)))
      (h k (omega arith))
      ∙ (ap (λ (b : Bool). led_by (filled out.head end c) (followed (map_stream (later c) (ss k)) (let_through (together w p ts) (is_video out.head && b) r)))
      (is_lost-same w n (k + 1) rs ss ts (λ j le. h j (omega (arith, le))))
      ∙ ap (λ (x : Flow). led_by (filled out.head end c) (followed (map_stream (later c) (ss k)) (let_through (together w p ts) (is_video out.head && ls) x)))
      (in_order-same n (k + 1) (time + latest tick_list w p ts) (c + (ts (p + out.number)).end) rs ss ts (λ j le. h j (omega (arith, le)))))
