-- How a filter is seen: what it still gives for what is still to come; and what each call does to that.
use Rattle.std.specs.Prelude.{◌≡◌, ◌≢◌, ℕ, ◌<◌, ◌⊎◌, Bool, true, false, ◌||◌, List, [], ◌∷◌, cond, length}
use Rattle.ff_stream.specs.declared.item.Item.{Item}
use Rattle.ff_stream.specs.declared.item.Item.TheVariants.{Audio, Video, Packet, Trailer, End, Broken}
use Rattle.ff_stream.specs.declared.item.Lane.{Lane}
use Rattle.ff_stream.specs.Ports.{nothing, IsClosed}
use Rattle.ff_filter.specs.Joins.{Ports, silence, before, before_at}

-- nothing comes after the item
abbrev pub closes : Item → Bool
closes (Audio f) = false
closes (Video f) = false
closes (Packet p) = false
closes (Trailer t) = false
closes End = true
closes Broken = true

-- the item says that the rest was lost
abbrev pub breaks : Item → Bool
breaks (Audio f) = false
breaks (Video f) = false
breaks (Packet p) = false
breaks (Trailer t) = false
breaks End = false
breaks Broken = true

-- something may come after each of these items
abbrev pub none_closes : List Item → Bool
none_closes [] = true
none_closes (x ∷ xs) = cond (closes x) false (none_closes xs)

-- how a filter is seen
pub record View : Type 0 where
  pub ins : List Lane
  pub outs : List Lane
  -- what it still gives on each output, where these streams come on its inputs
  pub rest : Ports → Ports
  -- the closing item was fed there
  pub shut : ℕ → Bool
  -- the closing item was given there
  pub ended : ℕ → Bool
  -- the output isn't wanted any more
  pub stopped : ℕ → Bool

pub record SamePorts (old new : View) : Type 0 where
  pub ins : new.ins ≡ old.ins
  pub outs : new.outs ≡ old.outs

-- nothing that can be seen changed
pub record Same (old new : View) : Type 0 where
  pub ports : SamePorts old new
  pub rest : (ext : Ports) (q : ℕ) → old.stopped q ≡ false → new.rest ext q ≡ old.rest ext q
  pub shut : (p : ℕ) → new.shut p ≡ old.shut p
  pub ended : (q : ℕ) → new.ended q ≡ old.ended q
  pub stopped : (q : ℕ) → new.stopped q ≡ old.stopped q

pub record Fed (old new : View) (p : ℕ) (x : Item) : Type 0 where
  pub ports : SamePorts old new
  pub rest : (ext : Ports) (q : ℕ) → old.stopped q ≡ false → new.rest ext q ≡ old.rest (before_at p x ext) q
  pub shut_here : new.shut p ≡ (old.shut p || closes x)
  pub shut_others : (i : ℕ) → i < length old.ins → i ≢ p → new.shut i ≡ old.shut i
  pub ended : (q : ℕ) → new.ended q ≡ old.ended q
  pub stopped : (q : ℕ) → new.stopped q ≡ old.stopped q

pub record Gave (old new : View) (q : ℕ) (x : Item) : Type 0 where
  pub ports : SamePorts old new
  pub open_before : old.ended q ≡ false
  pub rest_here : (ext : Ports) → old.rest ext q ≡ before x (new.rest ext q)
  pub rest_others : (ext : Ports) (o : ℕ) → o < length old.outs → o ≢ q → old.stopped o ≡ false → new.rest ext o ≡ old.rest ext o
  pub shut : (p : ℕ) → new.shut p ≡ old.shut p
  pub ended_here : new.ended q ≡ closes x
  pub ended_others : (o : ℕ) → o < length old.outs → o ≢ q → new.ended o ≡ old.ended o
  pub stopped : (o : ℕ) → new.stopped o ≡ old.stopped o

-- all that is due was given
pub record Waits (old new : View) (q : ℕ) : Type 0 where
  pub same : Same old new
  pub nothing_left : old.rest silence q ≡ nothing

pub record Stopped (old new : View) (q : ℕ) : Type 0 where
  pub ports : SamePorts old new
  pub stopped_here : new.stopped q ≡ true
  pub stopped_others : (o : ℕ) → o < length old.outs → o ≢ q → new.stopped o ≡ old.stopped o
  pub rest_others : (ext : Ports) (o : ℕ) → o < length old.outs → o ≢ q → old.stopped o ≡ false → new.rest ext o ≡ old.rest ext o
  pub shut : (p : ℕ) → new.shut p ≡ old.shut p
  pub ended : (o : ℕ) → new.ended o ≡ old.ended o

-- the output is closed in what was fed so far
abbrev pub IsOver : View → ℕ → Type 0
IsOver v q = (v.ended q ≡ true) ⊎ IsClosed (v.rest silence q)

-- the input has closed, or there are outputs and each that is wanted is over
abbrev pub IsSpent : View → ℕ → Type 0
IsSpent v p = (v.shut p ≡ true) ⊎ ((0 < length v.outs) × ((q : ℕ) → q < length v.outs → v.stopped q ≡ false → IsOver v q))

-- where no more comes on any input, each output closes
abbrev pub Settles : View → Type 0
Settles v = (ext : Ports) → ((p : ℕ) → p < length v.ins → (v.shut p ≡ true) ⊎ IsClosed (ext p)) → (q : ℕ) → q < length v.outs → v.stopped q ≡ false
    → (v.ended q ≡ true) ⊎ IsClosed (v.rest ext q)

-- each output was closed, or isn't wanted
abbrev pub AllDone : View → Type 0
AllDone v = (q : ℕ) → q < length v.outs → (v.ended q ≡ true) ⊎ (v.stopped q ≡ true)

-- nothing was fed, given or stopped
pub record IsNew (v : View) : Type 0 where
  pub shut : (p : ℕ) → v.shut p ≡ false
  pub ended : (q : ℕ) → v.ended q ≡ false
  pub stopped : (q : ℕ) → v.stopped q ≡ false
