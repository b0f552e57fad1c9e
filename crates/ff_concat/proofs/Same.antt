-- Outputs whose fields are equal give the same.
use Rattle.std.proofs.Common.{◌≡◌, ℕ, ◌+◌, ◌-◌, ◌*◌, ◌<◌, Bool, List, cond, length, refl, ap, sym, ◌∙◌, arith}
use Rattle.ff_frame.specs.declared.head.StreamHead.{StreamHead}
use Rattle.ff_stream.specs.declared.item.Lane.TheVariants.{Frames}
use Rattle.ff_stream.specs.Ports.{nothing}
use Rattle.ff_stream.specs.Within.{passes_limits}
use Rattle.ff_filter.specs.Joins.{Flow, Ports}
use Rattle.ff_filter.specs.laws.Limits.{limited}
use Rattle.ff_filter.specs.Made.{waiting}
use Rattle.ff_concat.specs.declared.reach.Reach.{Reach}
use Rattle.ff_concat.specs.declared.track.Track.{Track}
use Rattle.ff_concat.specs.Tails.{Tail}
use Rattle.ff_concat.specs.Silences.{filled}
use Rattle.ff_concat.specs.Concats.{begin_in, in_order}
use Rattle.ff_concat.specs.laws.Tracks.{after_at, tails, own, output_of, still_gives}
use Rattle.ff_concat.specs.laws.Moves.{IsAlike, IsUnchanged, GoesOn}

module _ (tick_list : List ℕ) (q : ℕ) where
  -- what is given of these
  abbrev pub gives : Bool → StreamHead → ℕ → ℕ → ℕ → ℕ → ℕ → ℕ → (ℕ → Flow) → (ℕ → Tail) → Flow
  gives ended head tick before n current begin end own ts =
      cond ended nothing (limited (passes_limits (Frames head)) before (in_order tick_list (output_of head tick q) n current begin end own ts))

  pub gives_eq : (d d' : Bool) (h h' : StreamHead) (k k' b b' n n' c c' g g' e e' : ℕ) (o o' : ℕ → Flow) (ts ts' : ℕ → Tail)
      → d ≡ d' → h ≡ h' → k ≡ k' → b ≡ b' → n ≡ n' → c ≡ c' → g ≡ g' → e ≡ e' → o ≡ o' → ts ≡ ts' → gives d h k b n c g e o ts ≡ gives d' h' k' b' n' c' g' e' o' ts'
  gives_eq d d' h h' k k' b b' n n' c c' g g' e e' o o' ts ts' p1 p2 p3 p4 p5 p6 p7 p8 p9 p10 =
      ap (λ (x : Bool). gives x h k b n c g e o ts) p1
      ∙ (ap (λ (x : StreamHead). gives d' x k b n c g e o ts) p2
      ∙ (ap (λ (x : ℕ). gives d' h' x b n c g e o ts) p3
      ∙ (ap (λ (x : ℕ). gives d' h' k' x n c g e o ts) p4
      ∙ (ap (λ (x : ℕ). gives d' h' k' b' x c g e o ts) p5
      ∙ (ap (λ (x : ℕ). gives d' h' k' b' n' x g e o ts) p6
      ∙ (ap (λ (x : ℕ). gives d' h' k' b' n' c' x e o ts) p7
      ∙ (ap (λ (x : ℕ). gives d' h' k' b' n' c' g' x o ts) p8
      ∙ (ap (λ (x : ℕ → Flow). gives d' h' k' b' n' c' g' e' x ts) p9
      ∙ ap (λ (x : ℕ → Tail). gives d' h' k' b' n' c' g' e' o' x) p10))))))))

-- where all but what waits is alike, and the same comes on each stream
pub alike_gives : (tick_list : List ℕ) (q : ℕ) (s t : Track) (rs ss : List Reach) (ext more : Ports) → IsAlike s t
    → own t.backlogs.items rs (length tick_list) q ext ≡ own s.backlogs.items ss (length tick_list) q more → tails rs ext ≡ tails ss more
    → still_gives tick_list q t rs ext ≡ still_gives tick_list q s ss more
alike_gives tick_list q s t rs ss ext more a o u =
    gives_eq tick_list q t.ended s.ended t.head s.head t.tick s.tick t.before s.before (length t.backlogs.items - t.current) (length s.backlogs.items - s.current)
    t.current s.current t.begin s.begin t.end s.end
    (own t.backlogs.items rs (length tick_list) q ext) (own s.backlogs.items ss (length tick_list) q more) (tails rs ext) (tails ss more)
    a.ended a.head a.tick a.before (ap (λ (n : ℕ). n - t.current) a.backlogs ∙ ap (λ (n : ℕ). length s.backlogs.items - n) a.current) a.current a.begin a.end o u

-- nothing changed that can be seen
pub unchanged_gives : (tick_list : List ℕ) (q : ℕ) (s t : Track) (rs : List Reach) (ext : Ports) → IsUnchanged s t
    → still_gives tick_list q t rs ext ≡ still_gives tick_list q s rs ext
unchanged_gives tick_list q s t rs ext u =
    alike_gives tick_list q s t rs rs ext ext u.alike
    (λ i k. let w = length tick_list in waiting (u.queues k i) (after_at rs (k * w + q)) (ext (k * w + q))) refl

pub unchanged_goes_on : (tick_list : List ℕ) (q : ℕ) (s t : Track) (rs : List Reach) → IsUnchanged s t → GoesOn s t tick_list q rs
unchanged_goes_on tick_list q s t rs u = record {
  head = u.alike.head;
  backlogs = u.alike.backlogs;
  gives = λ ext. unchanged_gives tick_list q s t rs ext u;
  ended = u.alike.ended;
  stopped = u.alike.stopped;
}

-- it begins where it began
pub alike_by : (s t : Track) → IsAlike s t → t.by ≡ s.by
alike_by s t a = t.shift ∙ (ap (λ (n : ℕ). begin_in n t.begin) a.tick ∙ (ap (λ (n : ℕ). begin_in s.tick n) a.begin ∙ sym s.shift))

pub alike_filled : (s t : Track) → IsAlike s t → filled t.head t.end t.by ≡ filled s.head s.end s.by
alike_filled s t a = ap (λ (h : StreamHead). filled h t.end t.by) a.head ∙ (ap (λ (n : ℕ). filled s.head n t.by) a.end ∙ ap (λ (n : ℕ). filled s.head s.end n) (alike_by s t a))

pub alike_inside : (s t : Track) → IsAlike s t → s.current < length s.backlogs.items → t.current < length t.backlogs.items
alike_inside s t a lt = let c = a.current in let l = a.backlogs in omega (arith, c, l, lt)
