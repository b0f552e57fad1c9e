-- What becomes of a function of streams where an input breaks off.
use Rattle.std.specs.Prelude.{◌≡◌, ◌≢◌, ◌↔◌, ℕ, List, map}
use Rattle.ff_stream.specs.Stream.{Stream, whole, broken, opened}
use Rattle.ff_stream.specs.Ports.{stream_at, AllBelow}

-- an input is broken, the output isn't whole, and however the inputs go on, it gets no further item and isn't made whole
pub record IsBrokenOff {A B : Type 0} (meant : List (Stream A) → Type 0) (f : List (Stream A) → Stream B) (ss : List (Stream A)) : Type 0 where
  pub input : (p : ℕ) × ((stream_at ss p).mark ≡ broken)
  pub not_whole : (f ss).mark ≢ whole
  pub no_further : (ts : List (Stream A)) → meant ts → AllBelow ss ts → ((f ts).items ≡ (f ss).items) × ((f ts).mark ≢ whole)

-- the broken rule, of the inputs that are meant: a broken input counts as open without a further item, and the output
-- is broken exactly where it is broken off
pub record KeepsBrokenRule {A B : Type 0} (meant : List (Stream A) → Type 0) (f : List (Stream A) → Stream B) : Type 0 where
  pub items : (ss : List (Stream A)) → meant ss → (f ss).items ≡ (f (map opened ss)).items
  pub wholeness : (ss : List (Stream A)) → meant ss → ((f ss).mark ≡ whole) ↔ ((f (map opened ss)).mark ≡ whole)
  pub breaks : (ss : List (Stream A)) → meant ss → ((f ss).mark ≡ broken) ↔ IsBrokenOff meant f ss
