-- Lists of streams, one for each port.
use Rattle.std.specs.Prelude.{◌≡◌, ◌≢◌, ℕ, zero, suc, List, [], ◌∷◌, map}
use Rattle.ff_stream.specs.Stream.{Stream, still_open, whole, broken, LiesBelow, opened}

-- the stream that all begin with: nothing came yet
abbrev pub nothing : {A : Type 0} → Stream A
nothing = record { items = []; mark = still_open }

abbrev pub IsClosed : {A : Type 0} → Stream A → Type 0
IsClosed s = s.mark ≢ still_open

abbrev pub IsWhole : {A : Type 0} → Stream A → Type 0
IsWhole s = s.mark ≡ whole

abbrev pub IsUnbroken : {A : Type 0} → Stream A → Type 0
IsUnbroken s = s.mark ≢ broken

-- the stream of a port; at a port that isn't there nothing came
abbrev pub stream_at : {A : Type 0} → List (Stream A) → ℕ → Stream A
stream_at [] p = nothing
stream_at (s ∷ ss) zero = s
stream_at (s ∷ ss) (suc p) = stream_at ss p

-- each stream lies below that of the same port
abbrev pub AllBelow : {A : Type 0} → List (Stream A) → List (Stream A) → Type 0
AllBelow rs ss = (p : ℕ) → LiesBelow (stream_at rs p) (stream_at ss p)

-- no stream is broken
abbrev pub AllUnbroken : {A : Type 0} → List (Stream A) → Type 0
AllUnbroken ss = (p : ℕ) → IsUnbroken (stream_at ss p)

-- of the streams that are meant: streams further on give streams further on
abbrev pub IsMonotone : {A B : Type 0} → (List (Stream A) → Type 0) → (List (Stream A) → List (Stream B)) → Type 0
IsMonotone {A} meant f = (rs ss : List (Stream A)) → meant rs → meant ss → AllBelow rs ss → AllBelow (f rs) (f ss)

-- of the streams that are meant: whoever isn't told of the breaks in the inputs gets no less
abbrev pub IsCalm : {A B : Type 0} → (List (Stream A) → Type 0) → (List (Stream A) → List (Stream B)) → Type 0
IsCalm {A} meant f = (rs : List (Stream A)) → meant rs → AllBelow (map opened (f rs)) (f (map opened rs))
