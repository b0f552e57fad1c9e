-- Where the ports of an AVI's demuxer stand.
use Rattle.std.specs.Prelude.{ℕ, zero, suc, ◌==◌, ◌||◌, ◌&&◌, not, Bool, false, if◌then◌else◌, Option, is_some}
use Rattle.ff_net.specs.declared.fault.Fault.{Fault}
use Rattle.ff_node_avi.specs.declared.demux.Port.{Port}

abbrev pub port_at : Port → Port → ℕ → Port
port_at first second p = if p == 0 then first else second

-- what is said of two ports, by number; there are two at most
abbrev pub of_two : Bool → Bool → ℕ → Bool
of_two first second zero = first
of_two first second (suc zero) = second
of_two first second (suc (suc p)) = false

-- a port gives nothing more
abbrev pub is_past : Port → Bool
is_past port = port.closed || not port.going

-- there is a fault, or no port gives anything more
abbrev pub is_over : Port → Port → Option Fault → Bool
is_over first second fault = is_some fault || (is_past first && is_past second)
