-- The history of a run of a plan, from that of a run of its parts.
use Rattle.std.proofs.Common.{◌≡◌, ℕ, ◌<◌, Bool, true, false, List, [], ◌∷◌, length, map, replicate, Option, Some, None, IfSome, IsSome, is_some, refl, sym, ap, ◌∙◌, subst, slice_get, arith}
use Rattle.ff_frame.specs.declared.event.Event.{Event}
use Rattle.ff_frame.specs.declared.head.StreamHead.{StreamHead}
use Rattle.ff_stream.specs.declared.edges.edge.Edge.{Edge}
use Rattle.ff_stream.specs.Ports.{stream_at}
use Rattle.ff_net.specs.laws.Views.{View}
use Rattle.ff_net.specs.Ways.{Flow}
use Rattle.ff_files.specs.declared.work.WorkEnd.{WorkEnd}
use Rattle.ff_files.specs.Works.{HasLog}
use Rattle.ff_plan.specs.declared.planned.Plan.{Plan}
use Rattle.ff_plan.specs.declared.planned.PlanNode.{PlanNode}
use Rattle.ff_sched.specs.declared.routes.Routes.{Routes}
use Rattle.ff_sched.specs.Bits.{upto, mark_at}
use Rattle.ff_sched.specs.State.{State}
use Rattle.ff_net_threads.specs.declared.network.run.NodeFault.{NodeFault}
use Rattle.ff_run_plan.specs.Asked.{Asked}
use Rattle.ff_run_plan.specs.Openings.{is_unused, IsOpening, or_memory}
use Rattle.ff_run_plan.specs.declared.fault.RunFault.{RunFault}
use Rattle.ff_run_plan.specs.Kinds.{KindsOf}
use Rattle.ff_run_plan.specs.Histories.{state_at, state_before, TellsAll}
use Rattle.ff_run_plan.specs.Reads.{IsLogOf}
use Rattle.ff_run_plan.specs.declared.reads.RunLog.{RunLog}
use Rattle.ff_run_plan.specs.Meaning.{coded_in, events_by, mux_node, number_in, streams_into}

-- lists mapped alike
map_same : {A B : Type 0} (f g : A → B) (xs : List A) → ((x : A) → f x ≡ g x) → map f xs ≡ map g xs
map_same f g [] same = refl
map_same f g (x ∷ xs) same = ap (λ y. y ∷ map f xs) (same x) ∙ ap (λ ys. g x ∷ ys) (map_same f g xs same)

-- the state before a run is known by the nodes and the routes
pub opening_is : (nodes : List PlanNode) (routes : Routes) (state : State) → IsOpening nodes routes state → state ≡ state_at nodes routes
opening_is nodes routes state o =
    o.state_is
    ∙ ap (λ (marks : List Bool). record { last = replicate 16 None; finished = replicate 16 false; exited = marks; best = replicate 16 0; count = 0 })
    (map_same (mark_at o.unused) (is_unused nodes routes.sources) (upto 0 16) o.exact)

-- what is so of a history that is there
pub if_some_more : {L : Type 0} (P Q : L → Type 0) (o : Option L) → ((l : L) → P l → Q l) → IfSome o P → IfSome o Q
if_some_more P Q None f p = tt
if_some_more P Q (Some l) f p = f l p

pub if_some_both : {L : Type 0} (P Q R : L → Type 0) (o : Option L) → ((l : L) → P l → Q l → R l) → IfSome o P → IfSome o Q → IfSome o R
if_some_both P Q R None f p q = tt
if_some_both P Q R (Some l) f p q = f l p q

-- what is so of a history is so of that of the log
pub of_log : (P : List Event → Type 0) (history : Option (List Event)) (o : Option RunLog) → IfSome o (λ log. history ≡ Some log.history) → IfSome history P → IfSome o (λ log. P log.history)
of_log P history None same h = tt
of_log P history (Some log) same h = subst (λ (x : Option (List Event)). IfSome x P) same h

-- where there is none, all is so of it
pub none_known : {L : Type 0} (P : L → Type 0) (o : Option L) → o ≡ None → IfSome o P
none_known P None e = tt
none_known P (Some l) e = absurd (let bad : Some l ≡ None = e in cc)

-- no fault is reported only where there is a history, and one that is then is that of the run
pub or_memory_told : (f : Option NodeFault) (told : Bool) → or_memory f told ≡ None → told ≡ true
or_memory_told (Some f) told e = absurd cc
or_memory_told None true e = refl
or_memory_told None false e = absurd cc

pub or_memory_none : (f : Option NodeFault) (told : Bool) → or_memory f told ≡ None → f ≡ None
or_memory_none (Some f) told e = absurd cc
or_memory_none None told e = refl

pub some_told : {L : Type 0} (o : Option L) → is_some o ≡ true → IsSome o
some_told o e = e

pub or_memory_same : (f : Option NodeFault) → or_memory f true ≡ f
or_memory_same None = refl
or_memory_same (Some f) = refl

pub with_history : {L : Type 0} (P : Option NodeFault → L → Type 0) (o : Option L) (f g : Option NodeFault) (told : Bool) → told ≡ is_some o → g ≡ or_memory f told → IfSome o (P f) → IfSome o (P g)
with_history P None f g told is e h = tt
with_history P (Some l) f g told is e h = subst (λ x. P x l) (sym (e ∙ (ap (or_memory f) is ∙ or_memory_same f))) h

-- what is so of a history that has to be there
pub has_log : {L : Type 0} (P Q : L → Type 0) (o : Option L) → IsSome o → IfSome o P → ((l : L) → P l → Q l) → HasLog Q o
has_log P Q None some p f = absurd (let bad : false ≡ true = some in cc)
has_log P Q (Some l) some p f = f l p

-- the state before the run of a plan
pub state_is : (plan : Plan) (nodes : List PlanNode) (routes : Routes) (state : State) → nodes ≡ plan.nodes → routes ≡ plan.routes → IsOpening nodes plan.routes state → state ≡ state_before plan
state_is plan nodes routes state n r o = opening_is plan.nodes plan.routes state (subst (λ (ns : List PlanNode). IsOpening ns plan.routes state) n o)

pub log_for : {H S K M : Type 0} (is : KindsOf H) (left named : S → Option (List ℕ)) (failed : S → ℕ) (holds called : K → Option (List ℕ)) (faulted : K → ℕ) (view : M → View)
    (asked asked' : Asked) (heads : List H) (edges edges' : List Edge) (nodes nodes' : List PlanNode) (srcs : List S) (snks : List K) (claims : Bool)
    (routes routes' : Routes) (state state' : State) (end : WorkEnd RunFault) (srcs' : List S) (snks' : List K) (log : RunLog)
    → asked ≡ asked' → edges ≡ edges' → nodes ≡ nodes' → routes ≡ routes' → state ≡ state'
    → IsLogOf is left named failed holds called faulted view asked heads edges nodes srcs snks claims routes state end srcs' snks' log
    → IsLogOf is left named failed holds called faulted view asked' heads edges' nodes' srcs snks claims routes' state' end srcs' snks' log
log_for is left named failed holds called faulted view asked asked' heads edges edges' nodes nodes' srcs snks claims routes routes' state state' end srcs' snks' log o e n r s h =
    subst (λ (x : State). IsLogOf is left named failed holds called faulted view asked' heads edges' nodes' srcs snks claims routes' x end srcs' snks' log) s
    (subst (λ (x : Routes). IsLogOf is left named failed holds called faulted view asked' heads edges' nodes' srcs snks claims x state end srcs' snks' log) r
    (subst (λ (x : List PlanNode). IsLogOf is left named failed holds called faulted view asked' heads edges' x srcs snks claims routes state end srcs' snks' log) n
    (subst (λ (x : List Edge). IsLogOf is left named failed holds called faulted view asked' heads x nodes srcs snks claims routes state end srcs' snks' log) e
    (subst (λ (x : Asked). IsLogOf is left named failed holds called faulted view x heads edges nodes srcs snks claims routes state end srcs' snks' log) o h))))

-- where each output stream has events, a history that has none isn't that of a plan with an output
pub tells_some : {H : Type 0} (is : KindsOf H) (asked : Asked) (heads : List H) (bytes : List (List ℕ)) (nodes : List PlanNode) (edges : List Edge)
    → ((n : ℕ) (coded : StreamHead) (s : Flow) → [] ≡ is.events n coded s → ⊥) → 0 < length asked.outputs → TellsAll is asked heads bytes nodes edges [] → ⊥
tells_some is asked heads bytes nodes edges some lt t =
    by_head (number_in is asked heads bytes nodes edges 0 0) (stream_at (streams_into is asked heads bytes nodes edges (mux_node is asked heads bytes nodes edges 0)) 0)
    (slice_get (coded_in is asked heads bytes nodes edges 0) 0) (t.streams 0 0 lt (let one = t.some 0 lt in omega (arith, one)))
  where
    by_head : (n : ℕ) (s : Flow) (head : Option StreamHead) → [] ≡ events_by is asked heads bytes nodes edges n head s → ⊥
    by_head n s None e = cc
    by_head n s (Some coded) e = some n coded s e
