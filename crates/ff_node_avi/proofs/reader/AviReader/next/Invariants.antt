use Rattle.std.proofs.Common.{◌≡◌, ◌+◌, ◌-◌, ◌^◌, ℕ, false, cond}
use Rattle.ff_avi.specs.laws.Cuts.{has_ended}
use Rattle.ff_node_avi.specs.Reading.{Stays, reach_of}
use Rattle.ff_node_avi.specs.laws.AviReading.{Reads}
use Rattle.ff_node_avi.proofs.reader.AviReader.next.Given as goal

abbrev pub invariant-units : goal.invariant-units
invariant-units g l =
    let S = g.S.Source in
    record {
      reads : (given : ℕ) → Reads (S.left l.initial.self.src) l.initial.self.cut l.initial.self.skip given false (S.left l.self.src) l.self.cut l.self.skip given false;
      stays : Stays (S.left l.initial.self.src) l.initial.self.cut l.initial.self.skip (S.left l.self.src) l.self.cut l.self.skip;
      unfailed : S.faults l.self.src ≡ S.faults l.initial.self.src;
      name : S.name l.self.src ≡ S.name l.initial.self.src;
    }

abbrev pub decreases-units : goal.decreases-units
decreases-units g l = l.self.skip + (2 ^ 42 - reach_of l.self.cut) + cond (has_ended l.self.cut) 0 1
