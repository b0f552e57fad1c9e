use Rattle.std.proofs.Common.{◌≤◌, drop, length}
use Rattle.std.specs.List.{AllByRecursion}
use Rattle.ff_plan_layout.proofs.limits.have_few_maps.Given as goal

abbrev pub invariant-loop-out : goal.invariant-loop-out
invariant-loop-out l = record {
  yes : AllByRecursion (λ out. length out.maps ≤ 16) (drop l.out-index l.outs) → AllByRecursion (λ out. length out.maps ≤ 16) l.outs;
  no : AllByRecursion (λ out. length out.maps ≤ 16) l.outs → AllByRecursion (λ out. length out.maps ≤ 16) (drop l.out-index l.outs);
}
