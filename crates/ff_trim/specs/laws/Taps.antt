-- How a filter with a cut behind each output is seen.
use Rattle.std.specs.Prelude.{◌≡◌, ℕ, zero, suc, ◌+◌, ◌*◌, ◌<◌, Bool, true, false, ◌||◌, cond, Option, None, Some, is_some, List, [], ◌∷◌, map, length}
use Rattle.std.specs.Prelude.{Result, Ok, OnErr}
use Rattle.std.specs.declared.alloc.AllocError.{AllocError}
use Rattle.ff_stream.specs.declared.item.Item.{Item}
use Rattle.ff_stream.specs.declared.item.Lane.{Lane}
use Rattle.ff_stream.specs.declared.item.Lane.TheVariants.{Frames}
use Rattle.ff_stream.specs.Ports.{nothing}
use Rattle.ff_filter.specs.declared.after.After.{After}
use Rattle.ff_filter.specs.declared.after.After.TheVariants.{More}
use Rattle.ff_filter.specs.Joins.{Flow, Ports, silence, before}
use Rattle.ff_filter.specs.Made.{left, is_over}
use Rattle.ff_filter.specs.Views.{View, IsNew, Same, Gave, Waits, closes}
use Rattle.ff_filter.specs.laws.Held.{after_held, held_closes}
use Rattle.ff_filter.specs.Shifts.{shifted}
use Rattle.ff_vfilter.specs.Trims.{trimmed}
use Rattle.ff_afilter.specs.Trims.{sound_trimmed}
use Rattle.ff_frame.specs.declared.head.StreamHead.{StreamHead}
use Rattle.ff_trim.specs.Cuts.{counted, output_cut, cut_at, cut_each}
use Rattle.ff_trim.specs.declared.counted.FirstOf.{FirstOf}
use Rattle.ff_trim.specs.declared.counted.OutputCut.{OutputCut}
use Rattle.ff_trim.specs.declared.cut.Cut.{Cut}
use Rattle.ff_trim.specs.declared.cut.Cut.TheVariants.{Uncut, Sound, Pictures}
use Rattle.ff_trim.specs.declared.tap.Tap.{Tap}
use Rattle.ff_trim.specs.declared.tap.Turn.{Turn}
use Rattle.ff_trim.specs.declared.tap.Turn.TheVariants.{Gave as Turned, Waits as Idle, On}

-- what a cut makes of what comes
abbrev pub runs_of : Cut → Flow → Flow
runs_of (Uncut m) s = s
runs_of (Sound m start) s = shifted (Some start) (sound_trimmed m.range s)
runs_of (Pictures m start) s = shifted (Some start) (trimmed m.range s)

-- the same, with the number of frames that are still to come
abbrev pub runs_first : FirstOf → Flow → Flow
runs_first m s = counted m.left (runs_of m.cut s)

abbrev pub lane_of : Cut → Lane
lane_of (Uncut m) = Frames m.head
lane_of (Sound m start) = Frames m.head
lane_of (Pictures m start) = Frames m.head

-- one output: what its cut makes of what comes, an item that waits before the cut, how the output stands behind it
pub record Way : Type 0 where
  pub runs : Flow → Flow
  pub held : Option Item
  pub after : After
  pub ended : Bool
  pub stopped : Bool

-- an output that isn't there
abbrev pub no_way : Way
no_way = record { runs = λ s. nothing; held = None; after = More; ended = false; stopped = false }

abbrev pub way_of : Tap → Way
way_of t = record { runs = λ s. runs_first t.cut s; held = t.held; after = t.after; ended = t.ended; stopped = t.stopped }

abbrev pub ways_of : List Tap → List Way
ways_of ts = map way_of ts

abbrev pub way_at : List Way → ℕ → Way
way_at [] q = no_way
way_at (w ∷ ws) zero = w
way_at (w ∷ ws) (suc q) = way_at ws q

-- what is still given where this comes: nothing where the closing item was given
abbrev pub still_cut : Way → Flow → Flow
still_cut w s = left [] w.ended w.after (w.runs (after_held w.held s))

-- a filter that is seen so, with these cuts behind its outputs
abbrev pub cutting_view : View → List Way → View
cutting_view v ws = record {
  ins = v.ins;
  outs = v.outs;
  rest = λ ext q. still_cut (way_at ws q) (v.rest ext q);
  shut = v.shut;
  ended = λ q. (way_at ws q).ended;
  stopped = λ q. (way_at ws q).stopped;
}

abbrev pub cut_view : View → List Tap → View
cut_view v ts = cutting_view v (ways_of ts)

-- What ties an output of the filter to the cut behind it: the filter is told that nothing more is wanted once the output is
-- closed or isn't wanted, and where it has closed so has the cut.
pub record IsTied (v : View) (w : Way) (q : ℕ) : Type 0 where
  pub stops : v.stopped q ≡ (w.stopped || w.ended)
  pub over : v.ended q ≡ true → is_over w.after ≡ true
  pub held_open : held_closes w.held ≡ false

pub record Tied (v : View) (ws : List Way) : Type 0 where
  pub long : length v.outs ≡ length ws
  pub each : (q : ℕ) → q < length ws → IsTied v (way_at ws q) q

-- how much is still to go from the filter to the cut of an output
abbrev pub to_go : View → Way → ℕ → ℕ
to_go v w q = 2 * (length (v.rest silence q).items + cond (v.ended q) 0 1) + cond (is_some w.held) 1 0

-- One step towards output q came to this: it goes on, nearer to the end, an item was given, or nothing is due; where there was no
-- memory nothing has changed.
pub record IsTurn (v : View) (ts : List Tap) (w : View) (us : List Tap) (q : ℕ) (came : Result Turn AllocError) : Type 0 where
  pub on : came ≡ Ok On → Same (cut_view v ts) (cut_view w us)
  pub less : came ≡ Ok On → to_go w (way_at (ways_of us) q) q < to_go v (way_at (ways_of ts) q) q
  pub gave : (y : Item) → came ≡ Ok (Turned y) → Gave (cut_view v ts) (cut_view w us) q y
  pub waits : came ≡ Ok Idle → Waits (cut_view v ts) (cut_view w us) q
  pub unchanged : OnErr came (Same (cut_view v ts) (cut_view w us))
  pub long : length us ≡ length ts

-- an item was taken to a cut, and nothing or this was given for it
pub record IsPut (old new : Way) (x : Item) (given : Option Item) : Type 0 where
  pub rest : (s : Flow) → still_cut old (before x s) ≡ after_held given (still_cut new s)
  pub goes_on : held_closes given ≡ false
  pub ended : new.ended ≡ old.ended
  pub stopped : new.stopped ≡ old.stopped
  pub over : closes x ≡ true → is_over new.after ≡ true
  pub held : new.held ≡ None

-- an item was refused by a cut, and waits before it
pub record IsKept (old new : Way) (x : Item) : Type 0 where
  pub rest : (s : Flow) → still_cut new s ≡ still_cut old (before x s)
  pub goes_on : closes x ≡ false
  pub ended : new.ended ≡ old.ended
  pub stopped : new.stopped ≡ old.stopped
  pub held : new.held ≡ Some x

-- the item that waited before a cut was tried again, and nothing or this was given for it
pub record IsResumed (old new : Way) (given : Option Item) : Type 0 where
  pub rest : (s : Flow) → still_cut old s ≡ after_held given (still_cut new s)
  pub goes_on : held_closes given ≡ false
  pub going : is_over old.after ≡ false
  pub ended : new.ended ≡ old.ended
  pub stopped : new.stopped ≡ old.stopped
  pub was_held : is_some old.held ≡ true
  pub held : new.held ≡ None

-- it was refused again
pub record IsKeptStill (old new : Way) : Type 0 where
  pub rest : (s : Flow) → still_cut new s ≡ still_cut old s
  pub going : is_over old.after ≡ false
  pub held_open : held_closes new.held ≡ false
  pub ended : new.ended ≡ old.ended
  pub stopped : new.stopped ≡ old.stopped

-- the closing item was given
pub record IsShut (old new : Way) (x : Item) : Type 0 where
  pub rest : (s t : Flow) → still_cut old s ≡ before x (still_cut new t)
  pub closes : closes x ≡ true
  pub open_before : old.ended ≡ false
  pub ended : new.ended ≡ true
  pub after : new.after ≡ old.after
  pub held : new.held ≡ old.held
  pub stopped : new.stopped ≡ old.stopped

-- the output isn't wanted any more
pub record IsLeft (old new : Way) : Type 0 where
  pub after : new.after ≡ old.after
  pub held : new.held ≡ old.held
  pub ended : new.ended ≡ old.ended
  pub stopped : new.stopped ≡ true

-- nothing came to an output of this head with this cut
pub record IsNewWay (h : StreamHead) (c : OutputCut) (w : Way) : Type 0 where
  pub cuts : (s : Flow) → still_cut w s ≡ output_cut h c s
  pub held : w.held ≡ None
  pub ended : w.ended ≡ false
  pub stopped : w.stopped ≡ false

-- so many outputs of these heads with these cuts, to which nothing came
pub record AreNewWays (hs : List StreamHead) (cs : List OutputCut) (ws : List Way) : Type 0 where
  pub long : length ws ≡ length hs
  pub cuts : (q : ℕ) (s : Flow) → still_cut (way_at ws q) s ≡ cut_at hs cs q s
  pub held : (q : ℕ) → (way_at ws q).held ≡ None
  pub ended : (q : ℕ) → (way_at ws q).ended ≡ false
  pub stopped : (q : ℕ) → (way_at ws q).stopped ≡ false

-- Nothing was done: a filter that was seen as v when nothing was done to it, with a cut behind each output, which have these heads.
pub record IsCutting (hs : List StreamHead) (cs : List OutputCut) (v w : View) : Type 0 where
  pub ins : w.ins ≡ v.ins
  pub outs : w.outs ≡ v.outs
  pub rest : (ext : Ports) (q : ℕ) → w.rest ext q ≡ cut_each hs cs v.rest ext q
  pub new : IsNew w
