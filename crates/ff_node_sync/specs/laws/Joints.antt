-- The streams of one output together, whether shortened or as they are: how they are seen, their laws as those of a filter, and of a machine.
use Rattle.std.specs.Prelude.{◌≡◌, ℕ, ◌<◌, Bool, true, length}
use Rattle.ff_stream.specs.Ports.{nothing}
use Rattle.ff_net.specs.laws.Laws.{Laws}
use Rattle.ff_net.specs.laws.Views.{View as NetView}
use Rattle.ff_filter.specs.Joins.{Ports, Grows, HidesBreaks}
use Rattle.ff_filter.specs.Views.{View, Settles, IsSpent, AllDone}
use Rattle.ff_node_filter.specs.declared.alone.Alone.{Alone}
use Rattle.ff_node_filter.specs.laws.Alones.{alone_view}
use Rattle.ff_node_filter.specs.laws.AloneLaws.{alone_laws}
use Rattle.ff_node_sync.specs.declared.joint.Joint.{Joint}
use Rattle.ff_node_sync.specs.declared.joint.Joint.TheVariants.{Shortest, Straight}
use Rattle.ff_node_sync.specs.Lines.{lines_of, lanes_of, view_of, shortest_spent}
use Rattle.ff_node_sync.specs.laws.Straights.{straight_of, straight_spent}
use Rattle.ff_node_sync.specs.laws.ShortLaws.{shortest-grows, shortest-hides, shortest-settles, shortest-quiet}
use Rattle.ff_node_sync.specs.laws.ShortLaws.{shortest-spent_only, shortest-shut_spent, shortest-done_spent}
use Rattle.ff_node_sync.specs.laws.StraightLaws.{straight-grows, straight-hides, straight-settles, straight-quiet}
use Rattle.ff_node_sync.specs.laws.StraightLaws.{straight-spent_only, straight-shut_spent, straight-done_spent}

abbrev pub joint_view : Joint → View
joint_view (Shortest m) = view_of m.sides.items
joint_view (Straight m) = straight_of m.sides.items

-- nothing more of an input can matter
abbrev pub joint_spends : Joint → ℕ → Bool
joint_spends (Shortest m) p = shortest_spent (lines_of m.sides.items) p
joint_spends (Straight m) p = straight_spent (lines_of m.sides.items) p

-- ---- as a filter

pub joint-grows : (m : Joint) → Grows (joint_view m).rest
joint-grows (Shortest m) = shortest-grows (lanes_of m.sides.items) (lines_of m.sides.items)
joint-grows (Straight m) = straight-grows (lanes_of m.sides.items) (lines_of m.sides.items)

pub joint-hides : (m : Joint) → HidesBreaks (joint_view m).rest
joint-hides (Shortest m) = shortest-hides (lanes_of m.sides.items) (lines_of m.sides.items)
joint-hides (Straight m) = straight-hides (lanes_of m.sides.items) (lines_of m.sides.items)

pub joint-settles : (m : Joint) → Settles (joint_view m)
joint-settles (Shortest m) = shortest-settles m.sides.items
joint-settles (Straight m) = straight-settles m.sides.items

pub joint-quiet : (m : Joint) (q : ℕ) → (joint_view m).ended q ≡ true → (ext : Ports) → (joint_view m).rest ext q ≡ nothing
joint-quiet (Shortest m) q e ext = shortest-quiet (lanes_of m.sides.items) (lines_of m.sides.items) q e ext
joint-quiet (Straight m) q e ext = straight-quiet (lanes_of m.sides.items) (lines_of m.sides.items) q e ext

pub joint-spent_only : (m : Joint) (p : ℕ) → p < length (joint_view m).ins → joint_spends m p ≡ true → IsSpent (joint_view m) p
joint-spent_only (Shortest m) p lt e = shortest-spent_only m.sides.items p lt e
joint-spent_only (Straight m) p lt e = straight-spent_only m.sides.items p lt e

pub joint-shut_spent : (m : Joint) (p : ℕ) → p < length (joint_view m).ins → (joint_view m).shut p ≡ true → joint_spends m p ≡ true
joint-shut_spent (Shortest m) p lt e = shortest-shut_spent (lanes_of m.sides.items) (lines_of m.sides.items) p e
joint-shut_spent (Straight m) p lt e = straight-shut_spent (lanes_of m.sides.items) (lines_of m.sides.items) p e

pub joint-done_spent : (m : Joint) (p : ℕ) → p < length (joint_view m).ins → 0 < length (joint_view m).outs → AllDone (joint_view m)
    → joint_spends m p ≡ true
joint-done_spent (Shortest m) p lt z d = shortest-done_spent m.sides.items p d
joint-done_spent (Straight m) p lt z d = straight-done_spent m.sides.items p d

-- ---- as a machine of its own

abbrev pub joint_shown : Alone Joint → NetView
joint_shown m = alone_view (joint_view m.filter) (λ p. joint_spends m.filter p) m.hurt m.long

pub joint_laws : (m : Alone Joint) → Laws (joint_shown m)
joint_laws m = alone_laws (joint_view m.filter) (λ p. joint_spends m.filter p) m.hurt m.long (joint-spent_only m.filter) (joint-shut_spent m.filter)
    (joint-done_spent m.filter)
