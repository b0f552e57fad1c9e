-- How the machine of segments one after another is seen.
use Rattle.std.specs.Prelude.{ℕ, zero, suc, ◌+◌, ◌-◌, ◌*◌, Bool, true, false, ◌||◌, ◌&&◌, List, [], ◌∷◌, cond, length, map}
use Rattle.ff_frame.specs.declared.head.StreamHead.{StreamHead}
use Rattle.ff_stream.specs.declared.item.Lane.{Lane}
use Rattle.ff_stream.specs.declared.item.Lane.TheVariants.{Frames}
use Rattle.ff_stream.specs.Stream.{whole, broken}
use Rattle.ff_stream.specs.Ports.{nothing}
use Rattle.ff_stream.specs.Within.{some_pass, passes_limits}
use Rattle.ff_filter.specs.declared.after.After.{After}
use Rattle.ff_filter.specs.declared.after.After.TheVariants.{More, Whole, Broke}
use Rattle.ff_filter.specs.Joins.{Flow, Ports, silence}
use Rattle.ff_filter.specs.Options.{is_video}
use Rattle.ff_filter.specs.laws.Limits.{limited}
use Rattle.ff_filter.specs.Made.{waiting, is_over}
use Rattle.ff_filter.specs.Views.{View}
use Rattle.ff_concat.specs.declared.backlog.Backlog.{Backlog}
use Rattle.ff_concat.specs.declared.reach.Reach.{Reach}
use Rattle.ff_concat.specs.declared.track.Track.{Track}
use Rattle.ff_concat.specs.declared.concat.Concat.{Concat}
use Rattle.ff_concat.specs.Tails.{Tail, last_end}
use Rattle.ff_concat.specs.Concats.{Output, in_order}
use Rattle.ff_concat.specs.ConcatOptions.{repeated}
use Rattle.ff_concat.specs.laws.Closing.{is_closed}
use Rattle.ff_concat.specs.laws.Queues.{queue_at}

-- where the items of input p end so far, and how it stands
abbrev pub end_at : List Reach → ℕ → ℕ
end_at [] p = 0
end_at (r ∷ rs) zero = r.end
end_at (r ∷ rs) (suc p) = end_at rs p

abbrev pub after_at : List Reach → ℕ → After
after_at [] p = More
after_at (r ∷ rs) zero = r.after
after_at (r ∷ rs) (suc p) = after_at rs p

-- how far a stream comes that ends at e so far, and then goes on as t
abbrev pub tail_on : ℕ → After → Flow → Tail
tail_on e More t = record { end = last_end e t.items; mark = t.mark }
tail_on e Whole t = record { end = e; mark = whole }
tail_on e Broke t = record { end = e; mark = broken }

abbrev pub tails : List Reach → Ports → ℕ → Tail
tails rs ext p = tail_on (end_at rs p) (after_at rs p) (ext p)

-- of segments of w streams, what waits of that of number q, and what comes behind it
abbrev pub own : List Backlog → List Reach → ℕ → ℕ → Ports → ℕ → Flow
own bs rs w q ext k = waiting (queue_at bs k) (after_at rs (k * w + q)) (ext (k * w + q))

abbrev pub output_of : StreamHead → ℕ → ℕ → Output
output_of head tick q = record { head = head; tick = tick; number = q }

-- what output q still makes of the current segment and those behind it, within the limits
abbrev pub still_made : List ℕ → ℕ → StreamHead → ℕ → List Backlog → ℕ → ℕ → ℕ → ℕ → List Reach → Ports → Flow
still_made tick_list q head tick bs before current begin end rs ext =
    limited (passes_limits (Frames head)) before
    (in_order tick_list (output_of head tick q) (length bs - current) current begin end (own bs rs (length tick_list) q ext) (tails rs ext))

-- the same, unless its closing item was given
abbrev pub still_gives : List ℕ → ℕ → Track → List Reach → Ports → Flow
still_gives tick_list q t rs ext = cond t.ended nothing (still_made tick_list q t.head t.tick t.backlogs.items t.before t.current t.begin t.end rs ext)

-- of the track of number i; where there is none, nothing
abbrev pub gives_at : List ℕ → ℕ → List Track → ℕ → List Reach → Ports → Flow
gives_at tick_list q [] i rs ext = nothing
gives_at tick_list q (t ∷ ts) zero rs ext = still_gives tick_list q t rs ext
gives_at tick_list q (t ∷ ts) (suc i) rs ext = gives_at tick_list q ts i rs ext

abbrev pub ended_at : List Track → ℕ → Bool
ended_at [] q = false
ended_at (t ∷ ts) zero = t.ended
ended_at (t ∷ ts) (suc q) = ended_at ts q

abbrev pub stopped_at : List Track → ℕ → Bool
stopped_at [] q = false
stopped_at (t ∷ ts) zero = t.stopped
stopped_at (t ∷ ts) (suc q) = stopped_at ts q

-- what came so far closes the output, but for the limits
abbrev pub closed_from : Track → List Reach → ℕ → ℕ → ℕ → Bool
closed_from t rs w q k = is_closed w (is_video t.head) (length t.backlogs.items - k) k (own t.backlogs.items rs w q silence) (tails rs silence)

-- From segment k on, which begins at `time`, one of the items that came or of the zeros between them passes a limit. So many
-- were given before, up to `end`.
abbrev pub cut_from : List ℕ → ℕ → Track → List Reach → ℕ → ℕ → ℕ → ℕ → Bool
cut_from tick_list q t rs before k time end = some_pass (passes_limits (Frames t.head)) before
    (in_order tick_list (output_of t.head t.tick q) (length t.backlogs.items - k) k time end
    (own t.backlogs.items rs (length tick_list) q silence) (tails rs silence)).items

-- nothing more is to come of output q: it isn't wanted, or was closed, or what came so far closes it
abbrev pub is_done : List ℕ → Track → List Reach → ℕ → Bool
is_done tick_list t rs q =
    t.stopped || (t.ended || (cut_from tick_list q t rs t.before t.current t.begin t.end || closed_from t rs (length tick_list) q t.current))

-- the same of each of these outputs, the first of which is output q
abbrev pub each_done : List ℕ → ℕ → List Track → List Reach → Bool
each_done tick_list q [] rs = true
each_done tick_list q (t ∷ ts) rs = is_done tick_list t rs q && each_done tick_list (q + 1) ts rs

abbrev pub lanes_of : List Track → List Lane
lanes_of ts = map (λ (t : Track). Frames t.head) ts

-- n segments, with a list of how many units a tick of each stream has, how far the inputs have come, and the outputs
abbrev pub view_of : List ℕ → ℕ → List Reach → List Track → View
view_of tick_list n rs ts = record {
  ins = repeated n (lanes_of ts);
  outs = lanes_of ts;
  rest = λ ext q. gives_at tick_list q ts q rs ext;
  shut = λ p. is_over (after_at rs p);
  ended = λ q. ended_at ts q;
  stopped = λ q. stopped_at ts q;
}

abbrev pub concat_view : Concat → View
concat_view m = view_of m.ticks.items m.segments m.reaches.items m.tracks.items
