-- How streams that are given as they are are seen.
use Rattle.std.specs.Prelude.{◌≡◌, ℕ, zero, suc, Bool, true, ◌||◌, ◌&&◌, cond, false, List, map, length}
use Rattle.ff_frame.specs.declared.head.StreamHead.{StreamHead}
use Rattle.ff_stream.specs.declared.item.Item.{Item}
use Rattle.ff_stream.specs.declared.item.Lane.{Lane}
use Rattle.ff_stream.specs.declared.item.Lane.TheVariants.{Frames}
use Rattle.ff_stream.specs.Ports.{nothing}
use Rattle.ff_filter.specs.Joins.{Flow, Ports, before}
use Rattle.ff_filter.specs.Made.{is_over}
use Rattle.ff_filter.specs.Views.{View, IsNew, closes}
use Rattle.ff_node_sync.specs.declared.side.Side.{Side}
use Rattle.ff_node_sync.specs.Lines.{Line, line_at, lines_of, lanes_of, came}

-- what is still given of a stream that goes on as t; nothing where its closing item was given
abbrev pub still_came : Line → Flow → Flow
still_came l t = cond l.ended nothing (came l t)

-- an item was given: what was still to come was that item and then what is
pub record IsGiven (old new : Line) (x : Item) : Type 0 where
  pub open_before : old.ended ≡ false
  pub rest : (t : Flow) → still_came old t ≡ before x (still_came new t)
  pub ended : new.ended ≡ closes x
  pub base : new.base ≡ old.base
  pub after : new.after ≡ old.after
  pub stopped : new.stopped ≡ old.stopped

-- of what came nothing was left, and nothing changed
pub record IsHeld (old new : Line) : Type 0 where
  pub same : new ≡ old
  pub nothing_left : still_came old nothing ≡ nothing

abbrev pub straight_view : List Lane → List Line → View
straight_view lanes ls = record {
  ins = lanes;
  outs = lanes;
  rest = λ ext q. still_came (line_at ls q) (ext q);
  shut = λ p. is_over (line_at ls p).after;
  ended = λ q. (line_at ls q).ended;
  stopped = λ q. (line_at ls q).stopped;
}

abbrev pub straight_of : List Side → View
straight_of ss = straight_view (lanes_of ss) (lines_of ss)

-- nothing came: each of these streams is given as it is
pub record IsStraight (hs : List StreamHead) (v : View) : Type 0 where
  pub ins : v.ins ≡ map Frames hs
  pub outs : v.outs ≡ map Frames hs
  pub new : IsNew v
  pub rest : (ext : Ports) (p : ℕ) → v.rest ext p ≡ ext p

-- output p is closed by what came, was closed, or isn't wanted
abbrev pub is_through : List Line → ℕ → Bool
is_through ls p = (line_at ls p).stopped || ((line_at ls p).ended || is_over (line_at ls p).after)

abbrev pub through_to : List Line → ℕ → Bool
through_to ls zero = true
through_to ls (suc n) = through_to ls n && is_through ls n

-- nothing more of input p can matter
abbrev pub straight_spent : List Line → ℕ → Bool
straight_spent ls p = is_over (line_at ls p).after || through_to ls (length ls)
