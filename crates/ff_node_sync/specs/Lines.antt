-- How the machine that shortens is seen.
use Rattle.std.specs.Prelude.{◌≡◌, ℕ, zero, suc, Bool, true, false, ◌||◌, ◌&&◌, cond, Option, None, Some, List, [], ◌∷◌, ◌++◌, map, length}
use Rattle.ff_time.specs.Fraction.{Fraction}
use Rattle.ff_frame.specs.declared.head.StreamHead.{StreamHead}
use Rattle.ff_frame.specs.Heads.{base_of_head}
use Rattle.ff_stream.specs.declared.item.Item.{Item}
use Rattle.ff_stream.specs.declared.item.Lane.{Lane}
use Rattle.ff_stream.specs.declared.item.Lane.TheVariants.{Frames}
use Rattle.ff_stream.specs.Stream.{Mark, still_open, whole, broken}
use Rattle.ff_stream.specs.Ports.{nothing}
use Rattle.ff_filter.specs.declared.after.After.{After}
use Rattle.ff_filter.specs.declared.after.After.TheVariants.{More}
use Rattle.ff_filter.specs.Joins.{Flow, Ports}
use Rattle.ff_filter.specs.Made.{behind, is_over, mark_after}
use Rattle.ff_filter.specs.Views.{View, IsNew}
use Rattle.ff_node_sync.specs.declared.side.Side.{Side}
use Rattle.ff_node_sync.specs.Shortened.{Fate, Kept, Held, furthest, kept_by, fate_to, shortened}

-- one stream: its time base, what waits of it, how it stands behind that, its latest end, and how its output stands
pub record Line : Type 0 where
  pub base : Fraction
  pub waits : List Item
  pub after : After
  pub reach : ℕ
  pub ended : Bool
  pub stopped : Bool

-- a stream of which nothing came
abbrev pub new_line : Fraction → Line
new_line base = record { base = base; waits = []; after = More; reach = 0; ended = false; stopped = false }

abbrev pub line_of : Side → Line
line_of s = record { base = base_of_head s.head; waits = s.queue.items; after = s.after; reach = s.reach; ended = s.ended; stopped = s.stopped }

abbrev pub line_at : List Line → ℕ → Line
line_at [] p = new_line (record { num = 1; den = 1 })
line_at (l ∷ ls) zero = l
line_at (l ∷ ls) (suc p) = line_at ls p

abbrev pub lines_of : List Side → List Line
lines_of ss = map line_of ss

abbrev pub lanes_of : List Side → List Lane
lanes_of ss = map (λ (s : Side). Frames s.head) ss

-- what waits, and what comes behind it
abbrev pub came : Line → Flow → Flow
came l t = let r : Flow = behind l.after t in record { items = l.waits ++ r.items; mark = r.mark }

abbrev pub bases : List Line → ℕ → Fraction
bases ls q = (line_at ls q).base

-- how far a stream reaches, and how it stands, with what still comes
abbrev pub end_with : Line → Flow → ℕ
end_with l t = furthest l.reach (behind l.after t).items

abbrev pub mark_with : Line → Flow → Mark
mark_with l t = (behind l.after t).mark

abbrev pub ends_with : List Line → Ports → ℕ → ℕ
ends_with ls ext q = end_with (line_at ls q) (ext q)

abbrev pub marks_with : List Line → Ports → ℕ → Mark
marks_with ls ext q = mark_with (line_at ls q) (ext q)

-- what is still kept of stream p
abbrev pub still_kept : List Line → Ports → ℕ → Flow
still_kept ls ext p = kept_by (fate_to (bases ls) (ends_with ls ext) (marks_with ls ext) p (length ls)) (came (line_at ls p) (ext p)).items
    (came (line_at ls p) (ext p)).mark

abbrev pub shortest_view : List Lane → List Line → View
shortest_view lanes ls = record {
  ins = lanes;
  outs = lanes;
  rest = λ ext q. cond (line_at ls q).ended nothing (still_kept ls ext q);
  shut = λ p. is_over (line_at ls p).after;
  ended = λ q. (line_at ls q).ended;
  stopped = λ q. (line_at ls q).stopped;
}

abbrev pub view_of : List Side → View
view_of ss = shortest_view (lanes_of ss) (lines_of ss)

-- the time base of a head number p
abbrev pub head_base : List StreamHead → ℕ → Fraction
head_base [] p = record { num = 1; den = 1 }
head_base (h ∷ hs) zero = base_of_head h
head_base (h ∷ hs) (suc p) = head_base hs p

-- so many streams, of these heads, of which nothing came
pub record AreNew (hs : List StreamHead) (ss : List Side) : Type 0 where
  pub lanes : lanes_of ss ≡ map Frames hs
  pub long : length ss ≡ length hs
  pub lines : (q : ℕ) → line_at (lines_of ss) q ≡ new_line (head_base hs q)

-- nothing came: each of these streams is shortened by the others
pub record IsShortest (hs : List StreamHead) (v : View) : Type 0 where
  pub ins : v.ins ≡ map Frames hs
  pub outs : v.outs ≡ map Frames hs
  pub new : IsNew v
  pub rest : (ext : Ports) (p : ℕ) → v.rest ext p ≡ shortened (length hs) (head_base hs) ext p

-- how far each stream reaches by what came so far, and how it stands
abbrev pub reaches : List Line → ℕ → ℕ
reaches ls q = (line_at ls q).reach

abbrev pub stands : List Line → ℕ → Mark
stands ls q = mark_after (line_at ls q).after

-- what becomes of an item of stream p, by what came so far
abbrev pub fate_now : List Line → ℕ → Item → Fate
fate_now ls p = fate_to (bases ls) (reaches ls) (stands ls) p (length ls)

-- the next item of stream p is kept; or how the output stands where it isn't, or there is none
abbrev pub next_fate : List Line → ℕ → List Item → Fate
next_fate ls p [] = Held (mark_after (line_at ls p).after)
next_fate ls p (x ∷ xs) = fate_now ls p x

abbrev pub fate_is : Option After → Fate
fate_is None = Kept
fate_is (Some a) = Held (mark_after a)

-- how output p stands behind what is kept of all that came
abbrev pub mark_now : List Line → ℕ → Mark
mark_now ls p = (kept_by (fate_now ls p) (line_at ls p).waits (mark_after (line_at ls p).after)).mark

abbrev pub is_closed : Mark → Bool
is_closed still_open = false
is_closed whole = true
is_closed broken = true

-- output p is closed by what came, was closed, or isn't wanted
abbrev pub is_done : List Line → ℕ → Bool
is_done ls p = (line_at ls p).stopped || ((line_at ls p).ended || is_closed (mark_now ls p))

abbrev pub done_to : List Line → ℕ → Bool
done_to ls zero = true
done_to ls (suc n) = done_to ls n && is_done ls n

-- nothing more of input p can matter
abbrev pub shortest_spent : List Line → ℕ → Bool
shortest_spent ls p = is_over (line_at ls p).after || done_to ls (length ls)
