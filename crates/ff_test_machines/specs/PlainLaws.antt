-- The laws of a machine: those of its kind.
use Rattle.ff_net.specs.laws.Laws.{Laws}
use Rattle.ff_test_machines.specs.declared.plain.Plain.{Plain}
use Rattle.ff_test_machines.specs.declared.plain.Plain.TheVariants.{Source, Relay, Join}
use Rattle.ff_test_machines.specs.Kinds.{source_laws, relay_laws, join_laws}
use Rattle.ff_test_machines.specs.Plains.{plain_view}

pub plain_laws : (m : Plain) → Laws (plain_view m)
plain_laws (Source m) = source_laws m
plain_laws (Relay m) = relay_laws m
plain_laws (Join m) = join_laws m
