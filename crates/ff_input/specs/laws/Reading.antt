-- What a cut wants of its input: more only where what it was fed leaves its next packet undecided, or how its packets end.
use Rattle.std.specs.Prelude.{◌≡◌, ◌≢◌, ◌⊎◌, ℕ, List, ◌++◌, None, slice_get}
use Rattle.ff_reader.specs.Cutters.{Cutter}

-- the bytes of a piece, where the rest of a packet is no reason for more
abbrev pub piece_size : ℕ
piece_size = 65536

module _ {H C : Type 0} (cutter : Cutter H C) where
  -- These bytes behind the head leave the packet of this number undecided: with some bytes more it is another than if they were all,
  -- or is one at all. Or they have none of this number, and with some bytes more the packets break off elsewhere, or don't. There, and
  -- nowhere else, a cut answers NotYet.
  abbrev pub IsUndecided : H → List ℕ → ℕ → Type 0
  IsUndecided head fed n = (more : List ℕ) × ((slice_get (cutter.demuxed head (fed ++ more)) n ≢ slice_get (cutter.demuxed head fed) n)
      ⊎ ((slice_get (cutter.demuxed head fed) n ≡ None) × (cutter.broken_at head (fed ++ more) ≢ cutter.broken_at head fed)))

  -- whatever a cut was fed and gave, that leaves its next packet undecided
  abbrev pub LeavesOpen : C → Type 0
  LeavesOpen cut = (head : H) (fed : List ℕ) (n : ℕ) → cutter.IsHead head → cutter.cuts cut head fed n → IsUndecided head fed n
