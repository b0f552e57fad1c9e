-- A filter as a machine: what it shows, and its fault.
use Rattle.std.specs.Prelude.{◌≡◌, ℕ, ◌<◌, Bool, true, false, Option, None, Some, length, refl}
use Rattle.std.proofs.Common.{◌∙◌}
use Rattle.ff_net.specs.declared.fault.Fault.{Fault}
use Rattle.ff_net.specs.declared.fault.Fault.TheVariants.{TooLong}
use Rattle.ff_net.specs.laws.Views.{View as NetView}
use Rattle.ff_filter.specs.Views.{View}
use Rattle.ff_node_filter.specs.Tasks.{Stands}

-- its only fault is that a limit cut what it gives
abbrev pub fault_by : Bool → Option Fault
fault_by true = Some TooLong
fault_by false = None

-- what a filter that is seen so shows as a machine; `hurt` says that a break was fed, `long` that one was given before
abbrev pub alone_view : View → (ℕ → Bool) → Bool → Bool → NetView
alone_view v spends hurt long = record {
  in_lanes = v.ins;
  out_lanes = v.outs;
  source = None;
  fault = fault_by long;
  device = None;
  failures = 0;
  holds = ⊥;
  tried = 0;
  spent = λ p. (p < length v.ins) × (spends p ≡ true);
  stands = λ past. Stands v hurt long past;
}

pub not_too_long : (long : Bool) → fault_by long ≡ None → long ≡ false
not_too_long true e = cc
not_too_long false e = refl

pub fault_caused : (long : Bool) (c : Fault) (cause : Option Fault) → (long ≡ true → cause ≡ Some TooLong) → fault_by long ≡ Some c → cause ≡ Some c
fault_caused true c cause h e = h refl ∙ e
fault_caused false c cause h e = cc
