-- What is done on the outputs for an item that is fed.
use Rattle.std.specs.Prelude.{◌≡◌, ℕ, ◌⊎◌, Option, None, Some}
use Rattle.ff_time.specs.declared.cut.TimeCut.{TimeCut}
use Rattle.ff_frame.specs.declared.head.StreamHead.{StreamHead}
use Rattle.ff_stream.specs.declared.item.Item.{Item}
use Rattle.ff_stream.specs.declared.item.Item.TheVariants.{Broken}
use Rattle.ff_stream.specs.Items.{Closes}
use Rattle.ff_stream.specs.Ports.{nothing}
use Rattle.ff_filter.specs.declared.after.After.TheVariants.{More}
use Rattle.ff_filter.specs.Joins.{Flow, one}
use Rattle.ff_filter.specs.Made.{made_of}
use Rattle.ff_trim.specs.Cuts.{kept}
use Rattle.ff_node_codec.specs.declared.step.Step.{Step}
use Rattle.ff_node_codec.specs.declared.step.Step.TheVariants.{Puts, Passes}
use Rattle.ff_node_codec.specs.Making.{Outcome, gives, passes, breaks, Making}

-- what a step puts on each output
abbrev pub puts_of : Step → Flow
puts_of (Puts made after damage spare) = made_of (Some made) after
puts_of Passes = nothing

-- the damage that it found
abbrev pub damage_of : Step → Option ℕ
damage_of (Puts made after damage spare) = damage
damage_of Passes = None

-- behind an item that closes an output nothing is put
abbrev pub ClosesOnce : Step → Type 0
ClosesOnce (Puts made after damage spare) = Closes made → after ≡ More
ClosesOnce Passes = Unit {0}

-- the step puts what is made of this item
pub record IsStepFor (f : Making) (x : Item) (step : Step) : Type 0 where
  pub puts : puts_of step ≡ f.stream (one x)
  pub damage : damage_of step ≡ f.damage (one x)
  pub once : ClosesOnce step

-- ---- what is made item by item

-- an item that is given is put as it is; damage breaks the outputs off
abbrev pub IsPutFor : Outcome → Item → Option ℕ → Type 0
IsPutFor (gives y) made damage = (made ≡ y) × (damage ≡ None)
IsPutFor passes made damage = ⊥
IsPutFor (breaks offset) made damage = (made ≡ Broken) × (damage ≡ Some offset)

-- what closes the input is put itself
abbrev pub IsPut : (Item → Outcome) → Item → Item → Option ℕ → Type 0
IsPut f x made damage = (Closes x × (made ≡ x) × (damage ≡ None)) ⊎ ((Closes x → ⊥) × IsPutFor (f x) made damage)

-- the step for this item
abbrev pub FollowsFrom : (Item → Outcome) → Item → Step → Type 0
FollowsFrom f x (Puts made after damage spare) = (after ≡ More) × IsPut f x made damage
FollowsFrom f x Passes = (Closes x → ⊥) × (f x ≡ passes)

-- ---- cuts

-- what is left of this frame is put
pub record IsLeft (head : StreamHead) (c : TimeCut) (frame : Item) (now : Step) : Type 0 where
  pub puts : puts_of now ≡ kept head c (one frame)
  pub damage : damage_of now ≡ None
  pub once : ClosesOnce now

-- a step, cut: what is left of a frame is put, and what closes the outputs stays as it is
abbrev pub IsCutTo : StreamHead → TimeCut → Step → Step → Type 0
IsCutTo head c (Puts made after damage spare) now =
    (Closes made → now ≡ Puts made after damage spare) × (after ≡ More → damage ≡ None → (Closes made → ⊥) → IsLeft head c made now)
IsCutTo head c Passes now = now ≡ Passes

-- ---- items that come back

-- it has the item, to give it back
abbrev pub GivesBack : Item → Step → Type 0
GivesBack x (Puts made after damage spare) = spare ≡ Some x
GivesBack x Passes = Unit {0}

-- it has an item to give back, where one may have to be
abbrev pub HasSpare : Step → Type 0
HasSpare (Puts made after damage spare) = (x : Item) × (spare ≡ Some x)
HasSpare Passes = Unit {0}
