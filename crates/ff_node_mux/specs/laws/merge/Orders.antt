-- When placed packets stand in order, and which of them are of one stream.
use Rattle.std.specs.Prelude.{◌≡◌, ℕ, ◌<◌, ◌⊎◌, ◌==◌, Bool, true, false, List, [], ◌∷◌}
use Rattle.ff_time.specs.Fraction.{Fraction}
use Rattle.ff_frame.specs.declared.packet.Pkt.{Pkt}
use Rattle.ff_stream.specs.Stream.{Stream, LiesBelow}
use Rattle.ff_node_mux.specs.merge.Merges.{Placed, is_sooner}

-- y goes after x: it isn't sooner; and it is later, or of a higher stream
abbrev pub GoesAfter : (ℕ → Fraction) → Placed → Placed → Type 0
GoesAfter base x y = (is_sooner base y x ≡ false) × ((is_sooner base x y ≡ true) ⊎ (x.0 < y.0))

-- the first of these, if there is one, goes after x
abbrev pub StartsAfter : (ℕ → Fraction) → Placed → List Placed → Type 0
StartsAfter base x [] = Unit {0}
StartsAfter base x (y ∷ ys) = GoesAfter base x y

-- each packet goes after the one before
abbrev pub InOrder : (ℕ → Fraction) → List Placed → Type 0
InOrder base [] = Unit {0}
InOrder base (x ∷ xs) = StartsAfter base x xs × InOrder base xs

abbrev pub put_packet : Bool → Pkt → List Pkt → List Pkt
put_packet true p ps = p ∷ ps
put_packet false p ps = ps

-- those of stream q, in order
abbrev pub of_stream : ℕ → List Placed → List Pkt
of_stream q [] = []
of_stream q (x ∷ xs) = put_packet (x.0 == q) x.1 (of_stream q xs)

-- each of these streams lies below that of the same number
abbrev pub AllBelow : (ℕ → Stream Pkt) → (ℕ → Stream Pkt) → Type 0
AllBelow rs ss = (p : ℕ) → LiesBelow (rs p) (ss p)
