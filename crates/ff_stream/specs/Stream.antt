-- Streams: what has come so far on a way from one part of a run to the next, and whether more may come.
use Rattle.std.specs.Prelude.{◌≡◌, ◌⊎◌, Bool, true, false, List, map}
use mathlib.Core.List.{IsPrefix}

-- more may come, or all has come, or what came was cut off by damage
pub data Mark : Type 0 where
  still_open : Mark
  whole : Mark
  broken : Mark

abbrev pub is_open : Mark → Bool
is_open still_open = true
is_open whole = false
is_open broken = false

abbrev pub is_whole : Mark → Bool
is_whole still_open = false
is_whole whole = true
is_whole broken = false

abbrev pub is_broken : Mark → Bool
is_broken still_open = false
is_broken whole = false
is_broken broken = true

abbrev pub has_closed : Mark → Bool
has_closed still_open = false
has_closed whole = true
has_closed broken = true

pub record Stream (A : Type 0) : Type 0 where
  pub items : List A
  pub mark : Mark

-- r lies below s: it is s, or it is open and s goes on from it
abbrev pub LiesBelow : {A : Type 0} → Stream A → Stream A → Type 0
LiesBelow r s = (r ≡ s) ⊎ ((r.mark ≡ still_open) × IsPrefix r.items s.items)

abbrev pub opened_mark : Mark → Mark
opened_mark still_open = still_open
opened_mark whole = whole
opened_mark broken = still_open

-- the stream as one sees it who isn't told of a break
abbrev pub opened : {A : Type 0} → Stream A → Stream A
opened s = record { items = s.items; mark = opened_mark s.mark }

-- a whole stream of these items
abbrev pub whole_stream : {A : Type 0} → List A → Stream A
whole_stream xs = record { items = xs; mark = whole }

-- the stream of what a function makes of each item
abbrev pub map_stream : {A B : Type 0} → (A → B) → Stream A → Stream B
map_stream f s = record { items = map f s.items; mark = s.mark }
