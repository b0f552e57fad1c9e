-- Whether an output is cut, segment by segment; and what it gives where its next item ends too late.
use Rattle.std.proofs.Common.{◌≡◌, ℕ, suc, ◌+◌, ◌-◌, ◌*◌, ◌<◌, ◌^◌, Bool, true, false, ◌||◌, cond, nat_lt, List, [], ◌∷◌, ◌++◌, map, length}
use Rattle.std.proofs.Common.{refl, ap, sym, ◌∙◌, subst, arith}
use Rattle.std.specs.Prelude.{◌&&◌, min}
use Rattle.std.proofs.lemmas.Bool.{or_right}
use Rattle.std.proofs.lemmas.List.{length-map}
use Rattle.ff_stream.specs.declared.item.Item.{Item}
use Rattle.ff_stream.specs.declared.item.Item.TheVariants.{Broken}
use Rattle.ff_stream.specs.declared.item.Lane.TheVariants.{Frames}
use Rattle.ff_stream.specs.Stream.{Mark, still_open, broken}
use Rattle.ff_stream.specs.Ports.{nothing}
use Rattle.ff_stream.specs.Within.{some_pass, passes_limits}
use Rattle.ff_filter.specs.declared.after.After.{After}
use Rattle.ff_filter.specs.declared.after.After.TheVariants.{More, Whole, Broke}
use Rattle.ff_filter.specs.Joins.{Flow, Ports, silence, before_all, joined}
use Rattle.ff_filter.specs.Made.{mark_after, waiting, behind}
use Rattle.ff_filter.specs.Options.{is_video}
use Rattle.ff_filter.specs.Views.{none_closes}
use Rattle.ff_filter.specs.laws.Runs.{run_at, no_more}
use Rattle.ff_filter.specs.laws.Limits.{limit_step, limited}
use Rattle.ff_concat.specs.declared.reach.Reach.{Reach}
use Rattle.ff_concat.specs.declared.track.Track.{Track}
use Rattle.ff_concat.specs.Following.{followed_at}
use Rattle.ff_concat.specs.Silences.{filled}
use Rattle.ff_concat.specs.Tails.{together, latest}
use Rattle.ff_concat.specs.Concats.{later, begin_in, is_lost, let_through, in_order}
use Rattle.ff_concat.specs.laws.ConcatLaws.{data_before, cut_off}
use Rattle.ff_concat.specs.laws.Cuts.{goes_on, followed_items, in_order-passes}
use Rattle.ff_concat.specs.laws.Late.{is_late, first_late}
use Rattle.ff_concat.specs.laws.Queues.{queue_at}
use Rattle.ff_concat.specs.laws.Tracks.{after_at, end_at, tail_on, tails, own, output_of, still_made, cut_from}
use Rattle.ff_concat.specs.laws.Moves.{Gave}
use Rattle.ff_concat.proofs.Losing.{queue_open, first_open, later_open, behind_silent, waiting_mark}
use Rattle.ff_concat.proofs.Draws.{open_gives}
use Rattle.ff_concat.proofs.Steps.{cut_same}

-- what waits, and nothing behind it
waiting_items : (xs : List Item) (a : After) → none_closes xs ≡ true → (waiting xs a nothing).items ≡ xs
waiting_items [] a e = ap (λ (t : Flow). t.items) (behind_silent a)
waiting_items (x ∷ xs) a e =
    ap (λ (t : Flow). t.items) (data_before x (before_all xs (behind a nothing)) (first_open x xs e))
    ∙ ap (λ (ys : List Item). x ∷ ys) (waiting_items xs a (later_open x xs e))

end_silent : (e : ℕ) (a : After) → (tail_on e a nothing).end ≡ e
end_silent e More = refl
end_silent e Whole = refl
end_silent e Broke = refl

-- of three, the first is so
pub at_first : (x a b c : Bool) → x ≡ (a || (b || c)) → a ≡ true → true ≡ x
at_first x true b c e h = sym e
at_first x false b c e h = cc

-- the second
pub at_second : (x a b c : Bool) → x ≡ (a || (b || c)) → a ≡ false → b ≡ true → true ≡ x
at_second x true b c e h i = cc
at_second x false true c e h i = sym e
at_second x false false c e h i = cc

-- all hangs on the third
pub at_third : (x a b g r : Bool) → x ≡ (a || (b || (g && r))) → a ≡ false → b ≡ false → (g && r) ≡ x
at_third x true b g r e h i = cc
at_third x false true g r e h i = cc
at_third x false false g r e h i = sym e

module _ (tick_list : List ℕ) (q : ℕ) (t : Track) (rs : List Reach) where
  -- of a segment: one of the zeros before it passes, or one of its items; or it goes on, and one behind it does
  pub cut_step : (i k time end : ℕ) → k < length t.backlogs.items
      → cut_from tick_list q t rs i k time end
      ≡ (some_pass (passes_limits (Frames t.head)) i (filled t.head end (begin_in t.tick time))
      || (some_pass (passes_limits (Frames t.head)) (i + length (filled t.head end (begin_in t.tick time)))
      (map (later (begin_in t.tick time)) (queue_at t.backlogs.items k))
      || (goes_on (mark_after (after_at rs (k * length tick_list + q))) (together (length tick_list) (k * length tick_list) (tails rs silence))
      && cut_from tick_list q t rs
      (i + length (filled t.head end (begin_in t.tick time)) + length (map (later (begin_in t.tick time)) (queue_at t.backlogs.items k))) (k + 1)
      (time + latest tick_list (length tick_list) (k * length tick_list) (tails rs silence)) (begin_in t.tick time + end_at rs (k * length tick_list + q)))))
  cut_step i k time end there =
      let w = length tick_list in
      let p = k * w in
      let bs = t.backlogs.items in
      let out = output_of t.head t.tick q in
      let n = length bs - (k + 1) in
      let o = own bs rs w q silence in
      let u = tails rs silence in
      let c = begin_in t.tick time in
      let passes = passes_limits (Frames t.head) in
      let zs = filled t.head end c in
      let m = together w p u in
      let more : length bs - k ≡ suc n = omega (arith, there) in
      let items = waiting_items (queue_at bs k) (after_at rs (p + q)) (queue_open bs k) in
      let mark = waiting_mark (queue_at bs k) (after_at rs (p + q)) (queue_open bs k) in
      let far = end_silent (end_at rs (p + q)) (after_at rs (p + q)) in
      ap (λ (j : ℕ). some_pass passes i (in_order tick_list out j k time end o u).items) more
      ∙ (in_order-passes tick_list out passes i n k time end o u
      ∙ (ap (λ (xs : List Item). some_pass passes i zs || (some_pass passes (i + length zs) (map (later c) xs)
      || (goes_on (o k).mark m && some_pass passes (i + length zs + length (map (later c) xs))
      (in_order tick_list out n (k + 1) (time + latest tick_list w p u) (c + (u (p + q)).end) o u).items))) items
      ∙ (ap (λ (a : Mark). some_pass passes i zs || (some_pass passes (i + length zs) (map (later c) (queue_at bs k))
      || (goes_on a m && some_pass passes (i + length zs + length (map (later c) (queue_at bs k)))
      (in_order tick_list out n (k + 1) (time + latest tick_list w p u) (c + (u (p + q)).end) o u).items))) mark
      ∙ ap (λ (e : ℕ). some_pass passes i zs || (some_pass passes (i + length zs) (map (later c) (queue_at bs k))
      || (goes_on (mark_after (after_at rs (p + q))) m && some_pass passes (i + length zs + length (map (later c) (queue_at bs k)))
      (in_order tick_list out n (k + 1) (time + latest tick_list w p u) (c + e) o u).items))) far)))

  -- the same, where it is known when the segment begins and how many zeros stand before it
  pub cut_on : (i k time end by zeros : ℕ) → k < length t.backlogs.items → by ≡ begin_in t.tick time → zeros ≡ length (filled t.head end by)
      → cut_from tick_list q t rs i k time end
      ≡ (some_pass (passes_limits (Frames t.head)) i (filled t.head end by)
      || (some_pass (passes_limits (Frames t.head)) (i + zeros) (map (later by) (queue_at t.backlogs.items k))
      || (goes_on (mark_after (after_at rs (k * length tick_list + q))) (together (length tick_list) (k * length tick_list) (tails rs silence))
      && cut_from tick_list q t rs (i + zeros + length (queue_at t.backlogs.items k)) (k + 1)
      (time + latest tick_list (length tick_list) (k * length tick_list) (tails rs silence)) (by + end_at rs (k * length tick_list + q)))))
  cut_on i k time end by zeros there begins count =
      let w = length tick_list in
      let xs = queue_at t.backlogs.items k in
      let passes = passes_limits (Frames t.head) in
      let shape : ℕ → ℕ → ℕ → Bool = λ c z l. some_pass passes i (filled t.head end c) || (some_pass passes (i + z) (map (later c) xs)
      || (goes_on (mark_after (after_at rs (k * w + q))) (together w (k * w) (tails rs silence))
      && cut_from tick_list q t rs (i + z + l) (k + 1) (time + latest tick_list w (k * w) (tails rs silence)) (c + end_at rs (k * w + q)))) in
      cut_step i k time end there
      ∙ (ap (λ (c : ℕ). shape c (length (filled t.head end c)) (length (map (later c) xs))) (sym begins)
      ∙ (ap (λ (z : ℕ). shape by z (length (map (later by) xs))) (sym count)
      ∙ ap (λ (l : ℕ). shape by zeros l) (length-map xs (later by))))

  -- a sum of times that is cut
  pub cut_time : (i k time end : ℕ) → cut_from tick_list q t rs i k (min time 340282366920938463463374607431768211455) end ≡ cut_from tick_list q t rs i k time end
  cut_time i k time end = ap (λ (s : Flow). some_pass (passes_limits (Frames t.head)) i s.items)
      (cut_same tick_list (output_of t.head t.tick q) t.some t.small (length t.backlogs.items - k) k time end
      (own t.backlogs.items rs (length tick_list) q silence) (tails rs silence))

  -- its first item passes a limit
  cut_first : (passes : ℕ → Item → Bool) (n : ℕ) (s : Flow) (x : Item) (zs : List Item) → s.items ≡ x ∷ zs → passes n x ≡ true → limited passes n s ≡ cut_off
  cut_first passes n s x zs e p =
      ap (λ (ys : List Item). run_at (limit_step passes) no_more n ys s.mark) e
      ∙ ap (λ (b : Bool). joined (cond b (record { items = []; mark = broken }) (record { items = x ∷ []; mark = still_open }))
      (run_at (limit_step passes) no_more (n + 1) zs s.mark)) p

  late_made : (xs : List Item) → t.current < length t.backlogs.items → queue_at t.backlogs.items t.current ≡ xs → first_late t.head t.by xs ≡ true
      → filled t.head t.end t.by ≡ [] → (ext : Ports) → still_made tick_list q t.head t.tick t.backlogs.items t.before t.current t.begin t.end rs ext ≡ cut_off
  late_made [] inside e l none ext = cc
  late_made (x ∷ xs) inside e l none ext =
      let w = length tick_list in
      let k = t.current in
      let p = k * w in
      let bs = t.backlogs.items in
      let out = output_of t.head t.tick q in
      let n = length bs - (k + 1) in
      let o = own bs rs w q ext in
      let u = tails rs ext in
      let c = begin_in t.tick t.begin in
      let a = after_at rs (p + q) in
      let passes = passes_limits (Frames t.head) in
      let more : length bs - k ≡ suc n = omega (arith, inside) in
      let goes : none_closes (x ∷ xs) ≡ true = ap none_closes (sym e) ∙ queue_open bs k in
      let ys = (before_all xs (behind a (ext (p + q)))).items in
      let here : (o k).items ≡ x ∷ ys = ap (λ (zs : List Item). (waiting zs a (ext (p + q))).items) e
      ∙ ap (λ (s : Flow). s.items) (data_before x (before_all xs (behind a (ext (p + q)))) (first_open x xs goes)) in
      let lost = is_video t.head && is_lost w n (k + 1) o u in
      let m = together w p u in
      let next = in_order tick_list out n (k + 1) (t.begin + latest tick_list w p u) (c + (u (p + q)).end) o u in
      let rest = map (later c) ys ++ cond (goes_on (o k).mark m) next.items [] in
      let empty : filled t.head t.end c ≡ [] = ap (λ (i : ℕ). filled t.head t.end i) (sym t.shift) ∙ none in
      let items : (in_order tick_list out (suc n) k t.begin t.end o u).items ≡ later c x ∷ rest =
      ap (λ (zs : List Item). zs ++ (followed_at (map (later c) (o k).items) (o k).mark (let_through m lost next)).items) empty
      ∙ (followed_items (map (later c) (o k).items) (o k).mark m lost next
      ∙ ap (λ (zs : List Item). map (later c) zs ++ cond (goes_on (o k).mark m) next.items []) here) in
      let late : is_late t.head c x ≡ true = ap (λ (i : ℕ). is_late t.head i x) (sym t.shift) ∙ l in
      ap (λ (i : ℕ). limited passes t.before (in_order tick_list out i k t.begin t.end o u)) more
      ∙ cut_first passes t.before (in_order tick_list out (suc n) k t.begin t.end o u) (later c x) rest items
      (or_right (nat_lt (2 ^ 40) (t.before + 1)) (is_late t.head c x) late)

-- it breaks off, where the next item ends too late
pub late_gave : (tick_list : List ℕ) (q : ℕ) (t new : Track) (rs : List Reach) → t.ended ≡ false → t.current < length t.backlogs.items → filled t.head t.end t.by ≡ []
    → first_late t.head t.by (queue_at t.backlogs.items t.current) ≡ true → new.head ≡ t.head → new.backlogs ≡ t.backlogs → new.ended ≡ true → new.stopped ≡ t.stopped
    → (y : Item) → Broken ≡ y → Gave t new tick_list q rs y
late_gave tick_list q t new rs o inside none late h bs e st y is = subst (λ (x : Item). Gave t new tick_list q rs x) is (record {
  head = h;
  backlogs = ap (λ v. length v.items) bs;
  open_before = o;
  gives = λ ext. open_gives tick_list q t rs ext o ∙ late_made tick_list q t rs (queue_at t.backlogs.items t.current) inside refl late none ext;
  ended = e;
  stopped = st;
})
