-- An output that stands open gives more where its open inputs go on far enough.
use Rattle.std.proofs.Common.{◌≡◌, ◌≢◌, ◌⊎◌, ℕ, zero, suc, ◌+◌, ◌*◌, ◌<◌, ◌≤◌, min, max, Bool, true, false, List, [], ◌∷◌, ◌++◌, map, length, refl}
use Rattle.std.proofs.Common.{inl, inr, ap, sym, ◌∙◌, subst, arith}
use Rattle.std.specs.Prelude.{◌&&◌, slice_index}
use Rattle.std.specs.Int.{div_ceil}
use Rattle.std.proofs.lemmas.Bool.{cases_lt}
use Rattle.std.proofs.lemmas.Grind.{div_ceil_times}
use Rattle.std.proofs.lemmas.List.{length-append}
use Rattle.std.proofs.Math.Nat.{mul-le-mul_right}
use Rattle.ff_frame.specs.declared.head.StreamHead.{StreamHead}
use Rattle.ff_frame.specs.declared.head.StreamHead.TheVariants.{Audio as AudioHead, Video as VideoHead}
use Rattle.ff_stream.specs.declared.item.Item.{Item}
use Rattle.ff_stream.specs.Stream.{Mark, still_open, whole, broken, LiesBelow}
use Rattle.ff_stream.specs.Ports.{nothing}
use Rattle.ff_stream.specs.Times.{end_ticks}
use Rattle.ff_filter.specs.Joins.{Flow, Ports}
use Rattle.ff_filter.specs.Options.{is_video}
use Rattle.ff_concat.specs.Following.{followed_at, led_by}
use Rattle.ff_concat.specs.Silences.{filled}
use Rattle.ff_concat.specs.Tails.{Tail, last_end, tail_of, both, together, latest}
use Rattle.ff_concat.specs.Concats.{later, begin_in, Output, is_lost_at, is_lost, let_through}
use Rattle.ff_concat.specs.laws.ConcatLaws.{latest-same, whole_at}
use Rattle.ff_concat.specs.laws.Breaks.{EndInTime}
use Rattle.ff_concat.proofs.Zeros.{frames_next}
use Rattle.ff_concat.proofs.Blind.{tails_of, own_of, rest_of}

-- ---- inputs that go on: each open one with one more item, and it is whole then

abbrev pub gone_at : Mark → Item → Flow → Flow
gone_at still_open x s = record { items = s.items ++ x ∷ []; mark = whole }
gone_at whole x s = s
gone_at broken x s = s

abbrev pub gone_on : Item → Flow → Flow
gone_on x s = gone_at s.mark x s

gone_same : (x : Item) (s : Flow) → s.mark ≡ whole → gone_on x s ≡ s
gone_same x s e = ap (λ (m : Mark). gone_at m x s) e

gone_whole : (x : Item) (s : Flow) → s.mark ≢ broken → (gone_on x s).mark ≡ whole
gone_whole x s u = at s.mark refl
  where
    at : (m : Mark) → s.mark ≡ m → (gone_at m x s).mark ≡ whole
    at still_open e = refl
    at whole e = e
    at broken e = absurd (u e)

pub gone_below : (x : Item) (s : Flow) → LiesBelow s (gone_on x s)
gone_below x s = at s.mark refl
  where
    at : (m : Mark) → s.mark ≡ m → LiesBelow s (gone_at m x s)
    at still_open e = inr (e, (x ∷ [], refl))
    at whole e = inl refl
    at broken e = inl refl

-- more comes than nothing: an item, or the end
abbrev Starts : Flow → Type 0
Starts t = (0 < length t.items) ⊎ (t.mark ≡ whole)

-- more comes: an item more, or the end
abbrev pub GoesOn : Flow → Flow → Type 0
GoesOn s t = (length s.items < length t.items) ⊎ (t.mark ≡ whole)

-- items before both
goes_behind : (xs : List Item) (s t : Flow) → GoesOn s t → GoesOn (led_by xs s) (led_by xs t)
goes_behind xs s t (inl lt) = inl (let a = length-append xs s.items in let b = length-append xs t.items in omega (arith, lt, a, b))
goes_behind xs s t (inr e) = inr e

starts_behind : (xs : List Item) (t : Flow) → Starts t → Starts (led_by xs t)
starts_behind xs t (inl lt) = inl (let a = length-append xs t.items in omega (arith, lt, a))
starts_behind xs t (inr e) = inr e

not_broken : (m n : Mark) → both m n ≢ broken → (m ≢ broken) × (n ≢ broken)
not_broken still_open still_open u = (λ f. cc, λ f. cc)
not_broken still_open whole u = (λ f. cc, λ f. cc)
not_broken still_open broken u = absurd (u refl)
not_broken whole n u = (λ f. cc, u)
not_broken broken n u = absurd (u refl)

-- where none of a segment is broken, all are whole as they go on
all_gone : (x : Item) (w p : ℕ) (ss ts : Ports) → ((j : ℕ) → j < w → ts (p + j) ≡ gone_on x (ss (p + j))) → together w p (tails_of ss) ≢ broken
    → together w p (tails_of ts) ≡ whole
all_gone x zero p ss ts h u = refl
all_gone x (suc w) p ss ts h u =
    let parts = not_broken (together w p (tails_of ss)) (ss (p + w)).mark u in
    let before = all_gone x w p ss ts (λ j lt. h j (omega (arith, lt))) parts.0 in
    let last : (ts (p + w)).mark ≡ whole = ap (λ (s : Flow). s.mark) (h w (omega arith)) ∙ gone_whole x (ss (p + w)) parts.1 in
    ap (λ (m : Mark). both m (ts (p + w)).mark) before ∙ last

end_behind : (e : ℕ) (xs : List Item) (x : Item) → last_end e (xs ++ x ∷ []) ≡ end_ticks x
end_behind e [] x = refl
end_behind e (y ∷ ys) x = end_behind (end_ticks y) ys x

open_or_whole : (m n : Mark) → both m n ≡ still_open → (m ≡ still_open) ⊎ (n ≡ still_open)
open_or_whole still_open n e = inl refl
open_or_whole whole n e = inr e
open_or_whole broken n e = cc

-- where one of a segment is open, the segment ends no earlier than the item with which it goes on
long_gone : (tick_list : List ℕ) (x : Item) (w p : ℕ) (ss ts : Ports) → ((j : ℕ) → j < w → ts (p + j) ≡ gone_on x (ss (p + j)))
    → ((j : ℕ) → j < w → 0 < slice_index tick_list j) → together w p (tails_of ss) ≡ still_open → end_ticks x ≤ latest tick_list w p (tails_of ts)
long_gone tick_list x zero p ss ts h some o = cc
long_gone tick_list x (suc w) p ss ts h some o = elim (open_or_whole (together w p (tails_of ss)) (ss (p + w)).mark o) as (λ _. end_ticks x ≤ latest tick_list (suc w) p (tails_of ts)) [
  | inl before ↦ (
      let less = long_gone tick_list x w p ss ts (λ j lt. h j (omega (arith, lt))) (λ j lt. some j (omega (arith, lt))) before in
      let m : latest tick_list w p (tails_of ts) ≤ max (latest tick_list w p (tails_of ts)) ((tails_of ts (p + w)).end * slice_index tick_list w) = omega arith in
      omega (arith, less, m)
      )
  | inr last ↦ (
      let is : ts (p + w) ≡ gone_at still_open x (ss (p + w)) = h w (omega arith) ∙ ap (λ (m : Mark). gone_at m x (ss (p + w))) last in
      let end : (tails_of ts (p + w)).end ≡ end_ticks x = ap (λ (s : Flow). last_end 0 s.items) is ∙ end_behind 0 (ss (p + w)).items x in
      let tick : 0 < slice_index tick_list w = some w (omega arith) in
      let one : 1 * (tails_of ts (p + w)).end ≤ slice_index tick_list w * (tails_of ts (p + w)).end = mul-le-mul_right (tails_of ts (p + w)).end tick in
      let turned : slice_index tick_list w * (tails_of ts (p + w)).end ≡ (tails_of ts (p + w)).end * slice_index tick_list w = omega arith in
      let m : (tails_of ts (p + w)).end * slice_index tick_list w ≤ max (latest tick_list w p (tails_of ts)) ((tails_of ts (p + w)).end * slice_index tick_list w) = omega arith in
      omega (arith, one, turned, end, m)
      )
]

gone_on_longer : (x : Item) (s : Flow) (f : Item → Item) (t u : Flow) → s.mark ≡ still_open
    → GoesOn (followed_at (map f s.items) s.mark t) (followed_at (map f (gone_on x s).items) (gone_on x s).mark u)
gone_on_longer x s f t u o =
    subst (λ (r : Flow). GoesOn (followed_at (map f s.items) s.mark t) (followed_at (map f r.items) r.mark u)) (sym (ap (λ (m : Mark). gone_at m x s) o))
    (subst (λ (m : Mark). GoesOn (followed_at (map f s.items) m t) (followed_at (map f (s.items ++ x ∷ [])) whole u)) (sym o)
    (inl (let a = length-append (map f (s.items ++ x ∷ [])) u.items in let b = longer f s.items in omega (arith, a, b))))
  where
    longer : (f : Item → Item) (xs : List Item) → length (map f (xs ++ x ∷ [])) ≡ length (map f xs) + 1
    longer f [] = omega arith
    longer f (y ∷ ys) = let r = longer f ys in omega (arith, r)

filled_some : (head : StreamHead) (a b : ℕ) → is_video head ≡ false → a < b → 0 < length (filled head a b)
filled_some (VideoHead tb format width height sar_num sar_den) a b v lt = cc
filled_some (AudioHead tb rate bits channels codec) a b v lt =
    subst (λ (xs : List Item). 0 < length xs) (sym (frames_next rate bits channels a b lt)) (omega arith)

-- a time that is far enough is past the last time of 64 bits
at_last : (tick time : ℕ) → 0 < tick → tick * 9223372036854775808 ≤ time → begin_in tick time ≡ 9223372036854775807
at_last tick time some far =
    let b = div_ceil time tick in
    let le : time ≤ b * tick = (div_ceil_times time tick some).0 in
    elim (cases_lt b 9223372036854775808) as (λ _. min b 9223372036854775807 ≡ 9223372036854775807) [
      | inl less ↦ absurd (
          let step : (b + 1) * tick ≤ 9223372036854775808 * tick = mul-le-mul_right tick (let s : b + 1 ≤ 9223372036854775808 = omega (arith, less) in s) in
          omega (arith, le, far, step, some)
          )
      | inr at_least ↦ omega (arith, at_least)
    ]

module _ (tick_list : List ℕ) (out : Output) (there : out.number < length tick_list) where
  -- ---- inputs that go on

  module _ (x : Item) (many : ℕ) (ss ts : Ports) (gone : (p : ℕ) → p < many → ts p ≡ gone_on x (ss p)) where
    inside : (n k j : ℕ) → (suc n + k) * length tick_list ≤ many → j < length tick_list → k * length tick_list + j < many
    inside n k j le lt =
        let w = length tick_list in
        let more : (k + 1) * w ≤ (suc n + k) * w = mul-le-mul_right w (let s : k + 1 ≤ suc n + k = omega arith in s) in
        let one : (k + 1) * w ≡ k * w + w = omega arith in
        omega (arith, le, lt, more, one)

    fewer : (n k : ℕ) → (suc n + k) * length tick_list ≤ many → (n + (k + 1)) * length tick_list ≤ many
    fewer n k le = let same : n + (k + 1) ≡ suc n + k = omega arith in subst (λ (m : ℕ). m * length tick_list ≤ many) (sym same) le

    gone_so : (n k : ℕ) → (suc n + k) * length tick_list ≤ many → (j : ℕ) → j < length tick_list
        → ts (k * length tick_list + j) ≡ gone_on x (ss (k * length tick_list + j))
    gone_so n k le j lt = gone (k * length tick_list + j) (inside n k j le lt)

    -- a segment that isn't lost, where of the segments behind something comes unless they are lost
    segment_starts : (n k time end : ℕ) → (suc n + k) * length tick_list ≤ many
        → (is_lost (length tick_list) n (k + 1) (own_of tick_list out there ss) (tails_of ss) ≡ false → (t e : ℕ) → Starts (rest_of tick_list out there n (k + 1) t e ts))
        → is_lost (length tick_list) (suc n) k (own_of tick_list out there ss) (tails_of ss) ≡ false → Starts (rest_of tick_list out there (suc n) k time end ts)
    segment_starts n k time end le further e =
        starts_behind (filled out.head end (begin_in out.tick time)) _
        (at (own_of tick_list out there ss k).items (own_of tick_list out there ss k).mark (together (length tick_list) (k * length tick_list) (tails_of ss)) refl refl refl e)
      where
        own : Flow
        own = own_of tick_list out there ts k

        next : Flow
        next = rest_of tick_list out there n (k + 1) (time + latest tick_list (length tick_list) (k * length tick_list) (tails_of ts))
            (begin_in out.tick time + (tails_of ts (k * length tick_list + out.number)).end) ts

        lost : Bool
        lost = is_lost (length tick_list) n (k + 1) (own_of tick_list out there ts) (tails_of ts)

        behind : Flow
        behind = let_through (together (length tick_list) (k * length tick_list) (tails_of ts)) (is_video out.head && lost) next

        some : (y : Item) (ys : List Item) → own.items ≡ y ∷ ys → Starts (followed_at (map (later (begin_in out.tick time)) own.items) own.mark behind)
        some y ys is = by own.mark
          where
            by : (m : Mark) → Starts (followed_at (map (later (begin_in out.tick time)) own.items) m behind)
            by m = subst (λ (zs : List Item). Starts (followed_at (map (later (begin_in out.tick time)) zs) m behind)) (sym is) (each m)
              where
                each : (m : Mark) → Starts (followed_at (map (later (begin_in out.tick time)) (y ∷ ys)) m behind)
                each still_open = inl (omega arith)
                each whole = inl (omega arith)
                each broken = inl (omega arith)

        here : own ≡ gone_on x (own_of tick_list out there ss k)
        here = gone_so n k le out.number there

        passes : together (length tick_list) (k * length tick_list) (tails_of ss) ≢ broken
            → (own_of tick_list out there ss k).mark ≡ whole → is_lost (length tick_list) n (k + 1) (own_of tick_list out there ss) (tails_of ss) ≡ false
            → Starts (followed_at (map (later (begin_in out.tick time)) own.items) own.mark behind)
        passes calm is more =
            let all : together (length tick_list) (k * length tick_list) (tails_of ts) ≡ whole =
            all_gone x (length tick_list) (k * length tick_list) ss ts (gone_so n k le) calm in
            let through : behind ≡ next = ap (λ (m : Mark). let_through m (is_video out.head && lost) next) all in
            let mark : own.mark ≡ whole = ap (λ (s : Flow). s.mark) (here ∙ gone_same x (own_of tick_list out there ss k) is) ∙ is in
            subst (λ (m : Mark). Starts (followed_at (map (later (begin_in out.tick time)) own.items) m behind)) (sym mark)
            (starts_behind (map (later (begin_in out.tick time)) own.items) behind
            (subst (λ (t : Flow). Starts t) (sym through) (further more _ _)))

        grown : (y : Item) (ys : List Item) (m : Mark) → (own_of tick_list out there ss k).items ≡ y ∷ ys → (own_of tick_list out there ss k).mark ≡ m
            → Starts (followed_at (map (later (begin_in out.tick time)) own.items) own.mark behind)
        grown y ys still_open items mark =
            some y (ys ++ x ∷ []) (ap (λ (s : Flow). s.items) (here ∙ ap (λ (m : Mark). gone_at m x (own_of tick_list out there ss k)) mark) ∙ ap (λ (zs : List Item). zs ++ x ∷ []) items)
        grown y ys whole items mark =
            some y ys (ap (λ (s : Flow). s.items) (here ∙ ap (λ (m : Mark). gone_at m x (own_of tick_list out there ss k)) mark) ∙ items)
        grown y ys broken items mark =
            some y ys (ap (λ (s : Flow). s.items) (here ∙ ap (λ (m : Mark). gone_at m x (own_of tick_list out there ss k)) mark) ∙ items)

        at : (xs : List Item) (m t : Mark) → (own_of tick_list out there ss k).items ≡ xs → (own_of tick_list out there ss k).mark ≡ m → together (length tick_list) (k * length tick_list) (tails_of ss) ≡ t
            → is_lost_at xs m t (is_lost (length tick_list) n (k + 1) (own_of tick_list out there ss) (tails_of ss)) ≡ false
            → Starts (followed_at (map (later (begin_in out.tick time)) own.items) own.mark behind)
        at (y ∷ ys) m t items mark seg h = grown y ys m items mark
        at [] still_open t items mark seg h =
            some x [] (ap (λ (s : Flow). s.items) (here ∙ ap (λ (m : Mark). gone_at m x (own_of tick_list out there ss k)) mark) ∙ ap (λ (zs : List Item). zs ++ x ∷ []) items)
        at [] broken t items mark seg h = cc
        at [] whole broken items mark seg h = cc
        at [] whole still_open items mark seg h = passes (λ b. let clash : broken ≡ still_open = sym b ∙ seg in cc) mark h
        at [] whole whole items mark seg h = passes (λ b. let clash : broken ≡ whole = sym b ∙ seg in cc) mark h

    -- of what isn't lost, something comes
    video_starts : (n k time end : ℕ) → (n + k) * length tick_list ≤ many → is_lost (length tick_list) n k (own_of tick_list out there ss) (tails_of ss) ≡ false
        → Starts (rest_of tick_list out there n k time end ts)
    video_starts zero k time end le e = inr refl
    video_starts (suc n) k time end le e =
        segment_starts n k time end le (λ h t f. video_starts n (k + 1) t f (fewer n k le) h) e

    module _ (some : (j : ℕ) → j < length tick_list → 0 < slice_index tick_list j) (ticking : 0 < out.tick) (far : out.tick * 9223372036854775808 ≤ end_ticks x) where
      -- behind a segment that is open, zeros come; or pictures, where they aren't lost
      open_starts : (n k time end : ℕ) → (suc n + k) * length tick_list ≤ many
          → (is_video out.head ≡ false → begin_in out.tick time + (tails_of ss (k * length tick_list + out.number)).end < 9223372036854775807)
          → together (length tick_list) (k * length tick_list) (tails_of ss) ≡ still_open → own_of tick_list out there ts k ≡ own_of tick_list out there ss k
          → (is_video out.head && is_lost (length tick_list) n (k + 1) (own_of tick_list out there ss) (tails_of ss)) ≡ false
          → Starts (rest_of tick_list out there n (k + 1) (time + latest tick_list (length tick_list) (k * length tick_list) (tails_of ts))
          (begin_in out.tick time + (tails_of ts (k * length tick_list + out.number)).end) ts)
      open_starts zero k time end le room o same calm = inr refl
      open_starts (suc n) k time end le room o same calm = by (is_video out.head) refl calm
        where
          late : ℕ
          late = time + latest tick_list (length tick_list) (k * length tick_list) (tails_of ts)

          stop : ℕ
          stop = begin_in out.tick time + (tails_of ts (k * length tick_list + out.number)).end

          further : Flow
          further = followed_at (map (later (begin_in out.tick late)) (own_of tick_list out there ts (k + 1)).items) (own_of tick_list out there ts (k + 1)).mark
              (let_through (together (length tick_list) ((k + 1) * length tick_list) (tails_of ts))
              (is_video out.head && is_lost (length tick_list) n (k + 1 + 1) (own_of tick_list out there ts) (tails_of ts))
              (rest_of tick_list out there n (k + 1 + 1) (late + latest tick_list (length tick_list) ((k + 1) * length tick_list) (tails_of ts))
              (begin_in out.tick late + (tails_of ts ((k + 1) * length tick_list + out.number)).end) ts))

          by : (v : Bool) → is_video out.head ≡ v → (v && is_lost (length tick_list) (suc n) (k + 1) (own_of tick_list out there ss) (tails_of ss)) ≡ false
              → Starts (led_by (filled out.head stop (begin_in out.tick late)) further)
          by true video calm = video_starts (suc n) (k + 1) late stop (fewer (suc n) k le) calm
          by false audio calm =
              let long = long_gone tick_list x (length tick_list) (k * length tick_list) ss ts (gone_so (suc n) k le) some o in
              let last : begin_in out.tick late ≡ 9223372036854775807 = at_last out.tick late ticking (omega (arith, far, long)) in
              let end : stop ≡ begin_in out.tick time + (tails_of ss (k * length tick_list + out.number)).end =
              ap (λ (s : Flow). begin_in out.tick time + (tail_of s).end) same in
              let lt : stop < begin_in out.tick late = (let r = room audio in omega (arith, r, last, end)) in
              let given = filled_some out.head stop (begin_in out.tick late) audio lt in
              inl (let a = length-append (filled out.head stop (begin_in out.tick late)) further.items in omega (arith, given, a))

      segment_goes : (n k time end : ℕ) → (suc n + k) * length tick_list ≤ many
          → (is_video out.head ≡ false → begin_in out.tick time + (tails_of ss (k * length tick_list + out.number)).end < 9223372036854775807)
          → ((t e : ℕ) → t ≡ time + latest tick_list (length tick_list) (k * length tick_list) (tails_of ss) → (rest_of tick_list out there n (k + 1) t e ss).mark ≡ still_open
          → GoesOn (rest_of tick_list out there n (k + 1) t e ss) (rest_of tick_list out there n (k + 1) t e ts))
          → (rest_of tick_list out there (suc n) k time end ss).mark ≡ still_open → GoesOn (rest_of tick_list out there (suc n) k time end ss) (rest_of tick_list out there (suc n) k time end ts)
      segment_goes n k time end le room further o =
          goes_behind (filled out.head end (begin_in out.tick time)) (followed_at (map (later (begin_in out.tick time)) (own_of tick_list out there ss k).items) (own_of tick_list out there ss k).mark through)
          (followed_at (map (later (begin_in out.tick time)) (own_of tick_list out there ts k).items) (own_of tick_list out there ts k).mark passed)
          (at (own_of tick_list out there ss k).mark refl o)
        where
          w : ℕ
          w = length tick_list

          here : own_of tick_list out there ts k ≡ gone_on x (own_of tick_list out there ss k)
          here = gone_so n k le out.number there

          next : Flow
          next = rest_of tick_list out there n (k + 1) (time + latest tick_list w (k * w) (tails_of ss)) (begin_in out.tick time + (tails_of ss (k * w + out.number)).end) ss

          more : Flow
          more = rest_of tick_list out there n (k + 1) (time + latest tick_list w (k * w) (tails_of ts)) (begin_in out.tick time + (tails_of ts (k * w + out.number)).end) ts

          through : Flow
          through = let_through (together w (k * w) (tails_of ss)) (is_video out.head && is_lost w n (k + 1) (own_of tick_list out there ss) (tails_of ss)) next

          passed : Flow
          passed = let_through (together w (k * w) (tails_of ts)) (is_video out.head && is_lost w n (k + 1) (own_of tick_list out there ts) (tails_of ts)) more

          -- where the segment isn't broken, the next one comes
          passes : together w (k * w) (tails_of ss) ≢ broken → passed ≡ more
          passes calm = ap (λ (m : Mark). let_through m (is_video out.head && is_lost w n (k + 1) (own_of tick_list out there ts) (tails_of ts)) more)
              (all_gone x w (k * w) ss ts (gone_so n k le) calm)

          -- where the segment was whole, nothing of it changes
          same_next : together w (k * w) (tails_of ss) ≡ whole
              → more ≡ rest_of tick_list out there n (k + 1) (time + latest tick_list w (k * w) (tails_of ss)) (begin_in out.tick time + (tails_of ss (k * w + out.number)).end) ts
          same_next e =
              let each : (j : ℕ) → j < w → tails_of ts (k * w + j) ≡ tails_of ss (k * w + j) =
              λ j lt. ap (λ (s : Flow). tail_of s) (gone_so n k le j lt ∙ gone_same x (ss (k * w + j)) (whole_at w (k * w) (tails_of ss) e j lt)) in
              ap (λ (l : ℕ). rest_of tick_list out there n (k + 1) (time + l) (begin_in out.tick time + (tails_of ts (k * w + out.number)).end) ts)
              (latest-same tick_list w (k * w) (tails_of ts) (tails_of ss) each)
              ∙ ap (λ (t : Tail). rest_of tick_list out there n (k + 1) (time + latest tick_list w (k * w) (tails_of ss)) (begin_in out.tick time + t.end) ts) (each out.number there)

          behind : (t : Mark) (b : Bool) → together w (k * w) (tails_of ss) ≡ t → (is_video out.head && is_lost w n (k + 1) (own_of tick_list out there ss) (tails_of ss)) ≡ b
              → own_of tick_list out there ts k ≡ own_of tick_list out there ss k → (let_through t b next).mark ≡ still_open → GoesOn (let_through t b next) passed
          behind whole b seg lost same h =
              subst (λ (f : Flow). GoesOn next f) (sym (passes (λ e. let clash : broken ≡ whole = sym e ∙ seg in cc) ∙ same_next seg)) (further _ _ refl h)
          behind broken b seg lost same h = cc
          behind still_open true seg lost same h = cc
          behind still_open false seg lost same h =
              subst (λ (f : Flow). GoesOn nothing f) (sym (passes (λ e. let clash : broken ≡ still_open = sym e ∙ seg in cc)))
              (open_starts n k time end le room seg same lost)

          at : (m : Mark) → (own_of tick_list out there ss k).mark ≡ m → (followed_at (map (later (begin_in out.tick time)) (own_of tick_list out there ss k).items) m through).mark ≡ still_open
              → GoesOn (followed_at (map (later (begin_in out.tick time)) (own_of tick_list out there ss k).items) (own_of tick_list out there ss k).mark through)
              (followed_at (map (later (begin_in out.tick time)) (own_of tick_list out there ts k).items) (own_of tick_list out there ts k).mark passed)
          at still_open mark h =
              subst (λ (s : Flow). GoesOn (followed_at (map (later (begin_in out.tick time)) (own_of tick_list out there ss k).items) (own_of tick_list out there ss k).mark through)
              (followed_at (map (later (begin_in out.tick time)) s.items) s.mark passed)) (sym here)
              (gone_on_longer x (own_of tick_list out there ss k) (later (begin_in out.tick time)) through passed mark)
          at broken mark h = cc
          at whole mark h =
              let same : own_of tick_list out there ts k ≡ own_of tick_list out there ss k = here ∙ gone_same x (own_of tick_list out there ss k) mark in
              subst (λ (s : Flow). GoesOn (followed_at (map (later (begin_in out.tick time)) (own_of tick_list out there ss k).items) (own_of tick_list out there ss k).mark through)
              (followed_at (map (later (begin_in out.tick time)) s.items) s.mark passed)) (sym same)
              (subst (λ (m : Mark). GoesOn (followed_at (map (later (begin_in out.tick time)) (own_of tick_list out there ss k).items) m through)
              (followed_at (map (later (begin_in out.tick time)) (own_of tick_list out there ss k).items) m passed)) (sym mark)
              (goes_behind (map (later (begin_in out.tick time)) (own_of tick_list out there ss k).items) through passed
              (behind (together w (k * w) (tails_of ss)) (is_video out.head && is_lost w n (k + 1) (own_of tick_list out there ss) (tails_of ss)) refl refl same h)))

      -- an output that stands open gives more where each open input goes on far enough
      pub goes_on : (n k time end : ℕ) → (n + k) * length tick_list ≤ many → (is_video out.head ≡ false → EndInTime tick_list out n k time (tails_of ss))
          → (rest_of tick_list out there n k time end ss).mark ≡ still_open → GoesOn (rest_of tick_list out there n k time end ss) (rest_of tick_list out there n k time end ts)
      goes_on zero k time end le room o = cc
      goes_on (suc n) k time end le room o =
          segment_goes n k time end le (λ a. (room a).0)
          (λ t e is h. goes_on n (k + 1) t e (fewer n k le)
          (λ a. subst (λ (u : ℕ). EndInTime tick_list out n (k + 1) u (tails_of ss)) (sym is) (room a).1) h) o
