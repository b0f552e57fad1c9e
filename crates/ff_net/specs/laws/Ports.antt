-- The ports of a node, by number.
use Rattle.std.specs.Prelude.{◌≡◌, ℕ, ◌<◌, true, List, map, length, slice_index_or, None, is_some, false}
use Rattle.ff_net.specs.declared.ports.InPort.{InPort}
use Rattle.ff_net.specs.declared.ports.OutPort.{OutPort}

-- a port; where there is none, one that is done
abbrev pub in_at : List InPort → ℕ → InPort
in_at ports p = slice_index_or ports p (record { wire = 0; done = true })

abbrev pub out_at : List OutPort → ℕ → OutPort
out_at ports p = slice_index_or ports p (record { wire = 0; held = None; done = true })

-- each input was finished
abbrev pub AreFinished : List InPort → Type 0
AreFinished ports = (p : ℕ) → p < length ports → (in_at ports p).done ≡ true

-- nothing more goes on any output
abbrev pub AreDone : List OutPort → Type 0
AreDone ports = (q : ℕ) → q < length ports → (out_at ports q).done ≡ true

abbrev pub in_wires : List InPort → List ℕ
in_wires ports = map (λ p. p.wire) ports

abbrev pub out_wires : List OutPort → List ℕ
out_wires ports = map (λ p. p.wire) ports

-- some output that goes on holds an item
pub record SomeHeld (ports : List OutPort) : Type 0 where
  pub place : ℕ
  pub there : place < length ports
  pub goes_on : (out_at ports place).done ≡ false
  pub held : is_some (out_at ports place).held ≡ true

-- no output that goes on holds an item
abbrev pub NoneHeld : List OutPort → Type 0
NoneHeld ports = (q : ℕ) → q < length ports → (out_at ports q).done ≡ false → (out_at ports q).held ≡ None
