-- What is made of a stream, item by item.
use Rattle.std.specs.Prelude.{ℕ, List, [], ◌∷◌, Option, None, Some}
use Rattle.ff_stream.specs.declared.item.Item.{Item}
use Rattle.ff_stream.specs.Stream.{Mark, broken}
use Rattle.ff_net.specs.declared.fault.Fault.{Fault}
use Rattle.ff_net.specs.declared.fault.Fault.TheVariants.{Damaged}
use Rattle.ff_net.specs.Ways.{Flow}

-- an item gives an item, or nothing, or breaks the stream off, as the input that it was read from is damaged at an offset
pub data Outcome : Type 0 where
  gives : Item → Outcome
  passes : Outcome
  breaks : ℕ → Outcome

abbrev pub and_items : Outcome → List Item → List Item
and_items (gives y) ys = y ∷ ys
and_items passes ys = ys
and_items (breaks offset) ys = []

-- what items give, up to the first that breaks the stream off
abbrev pub made_items : (Item → Outcome) → List Item → List Item
made_items f [] = []
made_items f (x ∷ xs) = and_items (f x) (made_items f xs)

abbrev pub or_damage : Outcome → Option ℕ → Option ℕ
or_damage (gives y) d = d
or_damage passes d = d
or_damage (breaks offset) d = Some offset

-- the damage of the first item that breaks the stream off
abbrev pub damage_in : (Item → Outcome) → List Item → Option ℕ
damage_in f [] = None
damage_in f (x ∷ xs) = or_damage (f x) (damage_in f xs)

abbrev pub mark_by : Option ℕ → Mark → Mark
mark_by None m = m
mark_by (Some offset) m = broken

-- broken before the first item that breaks it off, and else with its own mark
abbrev pub made_stream : (Item → Outcome) → Flow → Flow
made_stream f s = record { items = made_items f s.items; mark = mark_by (damage_in f s.items) s.mark }

-- what is made of the stream of an input; and where that breaks it off, since the input is damaged there
pub record Making : Type 0 where
  pub stream : Flow → Flow
  pub damage : Flow → Option ℕ

-- what is made item by item
abbrev pub by_items : (Item → Outcome) → Making
by_items f = record { stream = λ s. made_stream f s; damage = λ s. damage_in f s.items }

-- a damaged input is a fault
abbrev pub fault_by : Option ℕ → Option Fault
fault_by None = None
fault_by (Some offset) = Some (Damaged offset)
