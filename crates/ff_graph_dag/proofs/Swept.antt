-- Calls that end with a sweep, of which nothing can be seen.
use Rattle.std.proofs.Common.{◌≡◌, ℕ, ◌<◌, Bool, List, length, Option, Result, Ok, Err, OnOk, OnErr, slice_index_or, ap, sym, ◌∙◌}
use Rattle.ff_stream.specs.declared.item.Item.{Item}
use Rattle.ff_filter.specs.Views.{View, Same, Fed}
use Rattle.ff_graph_dag.specs.declared.graph.Port.{Port}
use Rattle.ff_graph_dag.specs.declared.graph.Plan.{Plan}
use Rattle.ff_graph_dag.specs.declared.placed.Placed.{Placed}
use Rattle.ff_graph_dag.specs.laws.Graphs.{feed_at}
use Rattle.ff_graph_dag.specs.laws.Spends.{spends_at, port_spent, feed_spent}
use Rattle.ff_graph_dag.proofs.Sweeps.{got_at}

pub fed_same : (u v w : View) (p : ℕ) (x : Item) → Fed u v p x → Same v w → Fed u w p x
fed_same u v w p x f s = record {
  ports = record { ins = s.ports.ins ∙ f.ports.ins; outs = s.ports.outs ∙ f.ports.outs };
  rest = λ ext q on. s.rest ext q (f.stopped q ∙ on) ∙ f.rest ext q on;
  shut_here = s.shut p ∙ f.shut_here;
  shut_others = λ i lt n. s.shut i ∙ f.shut_others i lt n;
  ended = λ q. s.ended q ∙ f.ended q;
  stopped = λ q. s.stopped q ∙ f.stopped q;
}

pub on_ok : {A E : Type 0} (r : Result A E) (P Q : Type 0) → (P → Q) → OnOk r P → OnOk r Q
on_ok (Ok a) P Q f h = f h
on_ok (Err e) P Q f h = h

pub on_err : {A E : Type 0} (r : Result A E) (P Q : Type 0) → (P → Q) → OnErr r P → OnErr r Q
on_err (Ok a) P Q f h = h
on_err (Err e) P Q f h = f h

-- what the filter says to which an input of the graph leads
pub spent_is : {F : Type 0} (spends : F → ℕ → Bool) (p : Plan) (ps : List (Placed F)) (i : ℕ) (f : Port) (d a : Placed F) → feed_at p i ≡ f → f.filter < length ps
    → a ≡ slice_index_or ps f.filter d → spends a.filter f.port ≡ feed_spent spends p ps i
spent_is spends p ps i f d a is lt k = sym (ap (λ (e : Port). port_spent spends ps e) is ∙ ap (λ (o : Option (Placed _)). spends_at spends o f.port)
    (got_at ps f.filter d a lt k))
