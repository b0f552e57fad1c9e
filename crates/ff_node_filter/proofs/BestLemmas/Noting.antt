-- One feed more.
use Rattle.std.proofs.Common.{◌≡◌, ℕ, ℤ, Bool, Option, None, Some, List, [], ◌∷◌, ◌++◌, length, refl, ap, sym, ◌∙◌, inl, inr, append_assoc}
use Rattle.std.specs.Prelude.{unwrap_or}
use Rattle.ff_time.specs.Fraction.{Fraction}
use Rattle.ff_frame.specs.declared.event.Event.{Event}
use Rattle.ff_stream.specs.declared.item.Item.{Item}
use Rattle.ff_stream.specs.declared.item.Item.TheVariants.{Audio, Video, Packet, Trailer, End, Broken}
use Rattle.ff_stream.specs.Items.{with_item}
use Rattle.ff_stream.specs.Times.{end_of}
use Rattle.ff_stream.specs.Ports.{stream_at}
use Rattle.ff_net.specs.Ways.{Flow, with_item_at}
use Rattle.ff_net.specs.Pasts.{Feed}
use Rattle.ff_net.proofs.Flows.{stream_at-with_item_same, stream_at-with_item_other, same_or_not}
use Rattle.ff_node_filter.specs.declared.best.input.Input.{Input}
use Rattle.ff_node_filter.specs.declared.best.lead.Lead.{Lead}
use Rattle.ff_node_filter.specs.best.Bests.{last_end, end_in, closed_in, is_over, base_at, earliest_to, best_of, streams_on, best_on, events_on, turned, best_after, best_events}
use Rattle.ff_node_filter.specs.best.Inputs.{bases_of, end_at, closed_at, kept_to, Keeps}
use Rattle.ff_node_filter.specs.laws.best.Leads.{Tells, IsSame}
use Rattle.ff_node_filter.specs.laws.best.Ends.{ends_at, end_behind, closed_behind}
use Rattle.ff_node_filter.proofs.BestLemmas.Placing.{bases_long}

pub streams_on-more : (ss : List Flow) (fs : List Feed) (f : Feed) → streams_on ss (fs ++ f ∷ []) ≡ with_item_at (streams_on ss fs) f.port f.item
streams_on-more ss [] f = refl
streams_on-more ss (g ∷ fs) f = streams_on-more (with_item_at ss g.port g.item) fs f

pub best_on-more : (bases : List Fraction) (ss : List Flow) (was : ℕ) (fs : List Feed) (f : Feed)
    → best_on bases ss was (fs ++ f ∷ []) ≡ best_of bases (with_item_at (streams_on ss fs) f.port f.item) (best_on bases ss was fs)
best_on-more bases ss was [] f = refl
best_on-more bases ss was (g ∷ fs) f = best_on-more bases (with_item_at ss g.port g.item) (best_of bases (with_item_at ss g.port g.item) was) fs f

append_nil : (xs : List Event) → xs ++ [] ≡ xs
append_nil [] = refl
append_nil (x ∷ xs) = ap (λ (ys : List Event). x ∷ ys) (append_nil xs)

pub events_on-append : (graph : ℕ) (bases : List Fraction) (ss : List Flow) (was : ℕ) (fs gs : List Feed)
    → events_on graph bases ss was (fs ++ gs) ≡ events_on graph bases ss was fs ++ events_on graph bases (streams_on ss fs) (best_on bases ss was fs) gs
events_on-append graph bases ss was [] gs = refl
events_on-append graph bases ss was (f ∷ fs) gs =
    let now = with_item_at ss f.port f.item in
    let is = best_of bases now was in
    ap (λ (es : List Event). turned graph was is ++ es) (events_on-append graph bases now is fs gs)
    ∙ sym (append_assoc (turned graph was is) (events_on graph bases now is fs) (events_on graph bases (streams_on now fs) (best_on bases now is fs) gs))

pub events_on-more : (graph : ℕ) (bases : List Fraction) (ss : List Flow) (was : ℕ) (fs : List Feed) (f : Feed)
    → events_on graph bases ss was (fs ++ f ∷ []) ≡ events_on graph bases ss was fs
    ++ turned graph (best_on bases ss was fs) (best_of bases (with_item_at (streams_on ss fs) f.port f.item) (best_on bases ss was fs))
events_on-more graph bases ss was fs f = events_on-append graph bases ss was fs (f ∷ [])
    ∙ ap (λ (es : List Event). events_on graph bases ss was fs ++ es) (append_nil (turned graph (best_on bases ss was fs) (best_of bases (with_item_at (streams_on ss fs) f.port f.item) (best_on bases ss was fs))))

-- the end of the last item, and whether the input has closed, behind one item more
last_more : (before : Option ℤ) (xs : List Item) (x : Item) → last_end before (xs ++ x ∷ []) ≡ Some (end_of x)
last_more before [] x = refl
last_more before (y ∷ xs) x = last_more (Some (end_of y)) xs x

end_more : (s : Flow) (x : Item) → last_end None (with_item s x).items ≡ end_behind (ends_at x) (last_end None s.items)
end_more s (Audio f) = last_more None s.items (Audio f)
end_more s (Video f) = last_more None s.items (Video f)
end_more s (Packet p) = last_more None s.items (Packet p)
end_more s (Trailer t) = last_more None s.items (Trailer t)
end_more s End = refl
end_more s Broken = refl

closed_more : (s : Flow) (x : Item) → is_over (with_item s x).mark ≡ closed_behind (ends_at x) (is_over s.mark)
closed_more s (Audio f) = refl
closed_more s (Video f) = refl
closed_more s (Packet p) = refl
closed_more s (Trailer t) = refl
closed_more s End = refl
closed_more s Broken = refl

-- what is kept of the inputs, with one item more
pub keeps_on : (is js : List Input) (ss : List Flow) (p : ℕ) (x : Item) → end_at js p ≡ end_behind (ends_at x) (end_at is p) → closed_at js p ≡ closed_behind (ends_at x) (closed_at is p)
    → ((q : ℕ) → (q ≡ p → ⊥) → end_at js q ≡ end_at is q) → ((q : ℕ) → (q ≡ p → ⊥) → closed_at js q ≡ closed_at is q)
    → Keeps is ss → Keeps js (with_item_at ss p x)
keeps_on is js ss p x e c es cs k = record {
  ends = λ q. elim (same_or_not q p) as (λ _. end_at js q ≡ end_in (with_item_at ss p x) q) [
    | inl same ↦ ap (λ (i : ℕ). end_at js i) same ∙ (e ∙ (ap (λ (o : Option ℤ). end_behind (ends_at x) o) (k.ends p) ∙ (sym (end_more (stream_at ss p) x)
        ∙ (ap (λ (s : Flow). last_end None s.items) (sym (stream_at-with_item_same ss p x)) ∙ ap (λ (i : ℕ). end_in (with_item_at ss p x) i) (sym same)))))
    | inr n ↦ es q n ∙ (k.ends q ∙ ap (λ (s : Flow). last_end None s.items) (sym (stream_at-with_item_other ss p q x n)))
  ];
  closed = λ q. elim (same_or_not q p) as (λ _. closed_at js q ≡ closed_in (with_item_at ss p x) q) [
    | inl same ↦ ap (λ (i : ℕ). closed_at js i) same ∙ (c ∙ (ap (λ (o : Bool). closed_behind (ends_at x) o) (k.closed p) ∙ (sym (closed_more (stream_at ss p) x)
        ∙ (ap (λ (s : Flow). is_over s.mark) (sym (stream_at-with_item_same ss p x)) ∙ ap (λ (i : ℕ). closed_in (with_item_at ss p x) i) (sym same)))))
    | inr n ↦ cs q n ∙ (k.closed q ∙ ap (λ (s : Flow). is_over s.mark) (sym (stream_at-with_item_other ss p q x n)))
  ];
}

-- the best input by what is kept of the streams is that of the streams
pub kept_best : (is : List Input) (bases : List Fraction) (ss : List Flow) (was : ℕ) → Keeps is ss → bases_of is ≡ bases → unwrap_or (kept_to is (length is)) was ≡ best_of bases ss was
kept_best is bases ss was k b =
    let ends : end_at is ≡ end_in ss = λ i p. k.ends p i in
    let closed : closed_at is ≡ closed_in ss = λ i p. k.closed p i in
    ap (λ (es : ℕ → Option ℤ). unwrap_or (earliest_to (base_at (bases_of is)) es (closed_at is) (length is)) was) ends
    ∙ (ap (λ (cs : ℕ → Bool). unwrap_or (earliest_to (base_at (bases_of is)) (end_in ss) cs (length is)) was) closed
    ∙ (ap (λ (n : ℕ). unwrap_or (earliest_to (base_at (bases_of is)) (end_in ss) (closed_in ss) n) was) (sym (bases_long is))
    ∙ ap (λ (bs : List Fraction). best_of bs ss was) b))

pub same_tells : (old new : Lead) → IsSame old new → (graph : ℕ) (bases : List Fraction) (told : List Event) (feeds : List Feed) → Tells graph bases old told feeds → Tells graph bases new told feeds
same_tells old new s graph bases told feeds t = record {
  graph_is = s.graph ∙ t.graph_is;
  bases_are = ap (λ (is : List Input). bases_of is) s.inputs ∙ t.bases_are;
  best = s.best ∙ t.best;
  keeps = rw s.inputs t.keeps;
  all = ap (λ (es : List Event). told ++ es) s.waiting ∙ t.all;
}

pub tells_on : (old new : Lead) (port : ℕ) (x : Item)
    → ((ss : List Flow) → Keeps old.inputs.items ss → Keeps new.inputs.items (with_item_at ss port x))
    → bases_of new.inputs.items ≡ bases_of old.inputs.items → new.graph ≡ old.graph
    → new.best ≡ unwrap_or (kept_to new.inputs.items (length new.inputs.items)) old.best
    → new.waiting.items ≡ old.waiting.items ++ turned old.graph old.best new.best
    → (graph : ℕ) (bases : List Fraction) (told : List Event) (feeds : List Feed) → Tells graph bases old told feeds
    → Tells graph bases new told (feeds ++ record { port = port; item = x } ∷ [])
tells_on old new port x keeps same g b w graph bases told feeds t =
    let f : Feed = record { port = port; item = x } in
    let kept = keeps (streams_on [] feeds) t.keeps in
    let now : List Flow = with_item_at (streams_on [] feeds) port x in
    let is : new.best ≡ best_of bases now (best_after bases feeds) =
    b ∙ (kept_best new.inputs.items bases now old.best kept (same ∙ t.bases_are) ∙ ap (λ (i : ℕ). best_of bases now i) t.best) in
    record {
      graph_is = g ∙ t.graph_is;
      bases_are = same ∙ t.bases_are;
      best = is ∙ sym (best_on-more bases [] 0 feeds f);
      keeps = rw (streams_on-more [] feeds f) kept;
      all =
          ap (λ (es : List Event). told ++ es) w ∙ (sym (append_assoc told old.waiting.items (turned old.graph old.best new.best))
          ∙ (ap (λ (es : List Event). es ++ turned old.graph old.best new.best) t.all
          ∙ (ap (λ (i : ℕ). best_events graph bases feeds ++ turned i old.best new.best) t.graph_is
          ∙ (ap (λ (i : ℕ). best_events graph bases feeds ++ turned graph i new.best) t.best
          ∙ (ap (λ (i : ℕ). best_events graph bases feeds ++ turned graph (best_after bases feeds) i) is
          ∙ sym (events_on-more graph bases [] 0 feeds f))))));
    }
