use Rattle.std.proofs.Common.{◌≡◌, ℕ, ◌++◌, ◌∷◌, [], List, take, sym, ap, ◌∙◌}
use Rattle.ff_run_plan.specs.Reads.{grants_of, places_in, tried_in, first_reads}
use Rattle.ff_run_plan.proofs.Grants.{upto_more, place_more}
use Rattle.ff_run_plan.proofs.reads.all_reads.Goals as goal

pub loop-source-preserved : goal.loop-source-preserved
loop-source-preserved g c =
    let view = g.M.Machine.view in
    let nodes = c.args.nodes.now in
    let parts = c.args.parts.now in
    let events = c.args.events.now in
    let i = c.loop-source.source in
    let f : ℕ → List ℕ = λ j. take (tried_in view j nodes parts) (grants_of j events) in
    let places : c.in_ok-places.places.items ≡ f i = c.in_ok-places.ensures ∙ ap (λ (n : ℕ). take n (grants_of i events)) c.tried-count.ensures in
    ap places_in c.in_ok-push.ensures.items
    ∙ (place_more c.loop-source.all.items c.in_ok-places.places
    ∙ (ap (λ (xs : List (List ℕ)). xs ++ c.in_ok-places.places.items ∷ []) c.loop-source.invariant
    ∙ (ap (λ (x : List ℕ). first_reads view i nodes parts events ++ x ∷ []) places ∙ sym (upto_more f i))))
