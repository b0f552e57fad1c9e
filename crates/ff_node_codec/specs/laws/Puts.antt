-- What functions of all outputs say.
use Rattle.std.specs.Prelude.{◌≡◌, ℕ, ◌<◌, List, ◌∷◌, ◌++◌, length, true, false, Some}
use Rattle.ff_stream.specs.declared.item.Item.{Item}
use Rattle.ff_filter.specs.declared.after.After.{After}
use Rattle.ff_node_codec.specs.declared.ready.Ready.{Ready}
use Rattle.ff_node_codec.specs.laws.Lines.{line_at, next_at, closing_items}

-- the last output that is wanted
pub record IsLast (outs : List Ready) (last : ℕ) : Type 0 where
  pub there : last < length outs
  pub wanted : (line_at outs last).stopped ≡ false
  pub no_later : (q : ℕ) → last < q → q < length outs → (line_at outs q).stopped ≡ true

-- this item is to be put next on each output below this one that is wanted
abbrev pub AreNext : Item → ℕ → List Ready → Type 0
AreNext made end outs = (q : ℕ) → q < end → (line_at outs q).stopped ≡ false → next_at outs q ≡ Some made

-- this item was put on each output that is wanted, and behind it what closes the output, if it is over
pub record ArePut (made : Item) (after : After) (old new : List Ready) : Type 0 where
  pub count : length new ≡ length old
  pub stopped : (q : ℕ) → (line_at new q).stopped ≡ (line_at old q).stopped
  pub queues : (q : ℕ) → q < length old → (line_at old q).stopped ≡ false → (line_at new q).queue ≡ (line_at old q).queue ++ made ∷ closing_items after
