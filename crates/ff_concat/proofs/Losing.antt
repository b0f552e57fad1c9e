-- Whether of the segments behind nothing can come.
use Rattle.std.proofs.Common.{◌≡◌, ◌≢◌, ℕ, zero, suc, ◌+◌, ◌-◌, ◌*◌, ◌<◌, Bool, true, false, List, [], ◌∷◌, length, refl, ap, sym, ◌∙◌, arith}
use Rattle.ff_stream.specs.declared.item.Item.{Item}
use Rattle.ff_stream.specs.declared.item.Item.TheVariants.{Audio, Video, Packet, Trailer, End, Broken}
use Rattle.ff_stream.specs.Stream.{Mark, whole, broken}
use Rattle.ff_stream.specs.Ports.{nothing}
use Rattle.ff_filter.specs.declared.after.After.{After}
use Rattle.ff_filter.specs.declared.after.After.TheVariants.{More, Whole, Broke}
use Rattle.ff_filter.specs.Joins.{Flow, silence, before, before_all}
use Rattle.ff_filter.specs.Made.{mark_after, waiting, behind}
use Rattle.ff_filter.specs.Views.{closes, none_closes}
use Rattle.ff_concat.specs.declared.backlog.Backlog.{Backlog}
use Rattle.ff_concat.specs.declared.reach.Reach.{Reach}
use Rattle.ff_concat.specs.Tails.{together}
use Rattle.ff_concat.specs.Concats.{is_lost, is_lost_at}
use Rattle.ff_concat.specs.laws.Closing.{closes_at, is_closed}
use Rattle.ff_concat.specs.laws.ConcatLaws.{data_before}
use Rattle.ff_concat.specs.declared.track.Track.{Track}
use Rattle.ff_filter.specs.Options.{is_video}
use Rattle.std.specs.Prelude.{◌&&◌}
use Rattle.ff_concat.specs.laws.Tracks.{after_at, tails, own, closed_from}
use Rattle.ff_concat.specs.laws.Queues.{queue_at}
use Rattle.ff_concat.specs.laws.Standing.{lost_from}

pub queue_open : (bs : List Backlog) (k : ℕ) → none_closes (queue_at bs k) ≡ true
queue_open [] k = refl
queue_open (b ∷ bs) zero = b.unclosed
queue_open (b ∷ bs) (suc k) = queue_open bs k

pub first_open : (x : Item) (xs : List Item) → none_closes (x ∷ xs) ≡ true → closes x ≡ false
first_open (Audio f) xs e = refl
first_open (Video f) xs e = refl
first_open (Packet p) xs e = refl
first_open (Trailer p) xs e = refl
first_open End xs e = cc
first_open Broken xs e = cc

-- what comes where nothing more does
pub behind_silent : (a : After) → behind a nothing ≡ record { items = []; mark = mark_after a }
behind_silent More = refl
behind_silent Whole = refl
behind_silent Broke = refl

some_lost : (x : Item) (s : Flow) (m : Mark) (b : Bool) → closes x ≡ false → is_lost_at (before x s).items (before x s).mark m b ≡ false
some_lost x s m b c = ap (λ (t : Flow). is_lost_at t.items t.mark m b) (data_before x s c)

queue_lost : (xs : List Item) (a : After) (m : Mark) (b : Bool) → none_closes xs ≡ true → xs ≢ [] → is_lost_at (waiting xs a nothing).items (waiting xs a nothing).mark m b ≡ false
queue_lost [] a m b e n = absurd (n refl)
queue_lost (x ∷ xs) a m b e n = some_lost x (before_all xs (behind a nothing)) m b (first_open x xs e)

module _ (bs : List Backlog) (rs : List Reach) (w q k : ℕ) (there : k < length bs) where
  step : lost_from bs rs w q k
      ≡ is_lost_at (own bs rs w q silence k).items (own bs rs w q silence k).mark (together w (k * w) (tails rs silence)) (lost_from bs rs w q (k + 1))
  step = let e : length bs - k ≡ suc (length bs - (k + 1)) = omega (arith, there) in ap (λ (n : ℕ). is_lost w n k (own bs rs w q silence) (tails rs silence)) e

  -- an item waits
  pub lost_not : queue_at bs k ≢ [] → lost_from bs rs w q k ≡ false
  lost_not n = step ∙ queue_lost (queue_at bs k) (after_at rs (k * w + q)) (together w (k * w) (tails rs silence)) (lost_from bs rs w q (k + 1)) (queue_open bs k) n

  -- none does
  pub lost_bare : queue_at bs k ≡ [] → (a : After) → after_at rs (k * w + q) ≡ a
      → lost_from bs rs w q k ≡ is_lost_at [] (mark_after a) (together w (k * w) (tails rs silence)) (lost_from bs rs w q (k + 1))
  lost_bare e a f =
      let m = together w (k * w) (tails rs silence) in
      let b = lost_from bs rs w q (k + 1) in
      step
      ∙ (ap (λ (xs : List Item). is_lost_at (waiting xs (after_at rs (k * w + q)) nothing).items (waiting xs (after_at rs (k * w + q)) nothing).mark m b) e
      ∙ (ap (λ (c : After). is_lost_at (behind c nothing).items (behind c nothing).mark m b) f
      ∙ ap (λ (s : Flow). is_lost_at s.items s.mark m b) (behind_silent a)))

  -- its own stream is whole, and those of its segment aren't broken
  pub lost_on : queue_at bs k ≡ [] → after_at rs (k * w + q) ≡ Whole → (a : After) → mark_after a ≡ together w (k * w) (tails rs silence) → a ≢ Broke
      → lost_from bs rs w q (k + 1) ≡ lost_from bs rs w q k
  lost_on e f a g n =
      sym (lost_bare e Whole f ∙ (ap (λ (m : Mark). is_lost_at [] whole m (lost_from bs rs w q (k + 1))) (sym g) ∙ at a n (lost_from bs rs w q (k + 1))))
    where
      at : (a : After) → a ≢ Broke → (b : Bool) → is_lost_at [] whole (mark_after a) b ≡ b
      at More n b = refl
      at Whole n b = refl
      at Broke n b = absurd (n refl)

  pub lost_break : queue_at bs k ≡ [] → after_at rs (k * w + q) ≡ Whole → broken ≡ together w (k * w) (tails rs silence) → lost_from bs rs w q k ≡ true
  lost_break e f g = lost_bare e Whole f ∙ ap (λ (m : Mark). is_lost_at [] whole m (lost_from bs rs w q (k + 1))) (sym g)

before_mark : (x : Item) (s : Flow) → closes x ≡ false → (before x s).mark ≡ s.mark
before_mark x s c = ap (λ (t : Flow). t.mark) (data_before x s c)

pub later_open : (x : Item) (xs : List Item) → none_closes (x ∷ xs) ≡ true → none_closes xs ≡ true
later_open (Audio f) xs e = e
later_open (Video f) xs e = e
later_open (Packet p) xs e = e
later_open (Trailer p) xs e = e
later_open End xs e = cc
later_open Broken xs e = cc

-- behind what waits a stream stands as its input does
pub waiting_mark : (xs : List Item) (a : After) → none_closes xs ≡ true → (waiting xs a nothing).mark ≡ mark_after a
waiting_mark [] a e = ap (λ (t : Flow). t.mark) (behind_silent a)
waiting_mark (x ∷ xs) a e = before_mark x (before_all xs (behind a nothing)) (first_open x xs e) ∙ waiting_mark xs a (later_open x xs e)

-- whether the output has closed from a segment on
pub closed_step : (t : Track) (rs : List Reach) (w q k : ℕ) → k < length t.backlogs.items → (a : After) → after_at rs (k * w + q) ≡ a
    → closed_from t rs w q k
    ≡ closes_at (mark_after a) (together w (k * w) (tails rs silence)) (is_video t.head && lost_from t.backlogs.items rs w q (k + 1)) (closed_from t rs w q (k + 1))
closed_step t rs w q k there a e =
    let bs = t.backlogs.items in
    let m = together w (k * w) (tails rs silence) in
    let lost = is_video t.head && lost_from bs rs w q (k + 1) in
    let next = closed_from t rs w q (k + 1) in
    let more : length bs - k ≡ suc (length bs - (k + 1)) = omega (arith, there) in
    ap (λ (n : ℕ). is_closed w (is_video t.head) n k (own bs rs w q silence) (tails rs silence)) more
    ∙ (ap (λ (n : Mark). closes_at n m lost next) (waiting_mark (queue_at bs k) (after_at rs (k * w + q)) (queue_open bs k))
    ∙ ap (λ (c : After). closes_at (mark_after c) m lost next) e)
