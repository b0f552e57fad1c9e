-- The rule of the cell: one legal history, of which each pass has its own entries.
use Rattle.std.specs.Prelude.{◌≡◌, ℕ, ◌+◌, ◌-◌, ◌<◌, ◌≤◌, ◌^◌, Bool, true, false, List, [], ◌∷◌, ◌++◌}
use Rattle.std.specs.Prelude.{length, slice_index, All, nat_eq, if◌then◌else◌}
use mathlib.Core.Option.{some}
use lib.ListN.{get_elem?}
use Rattle.ff_frame.specs.declared.event.Event.{Event}
use Rattle.ff_sched.specs.declared.logged.Logged.{Logged}
use Rattle.ff_sched.specs.declared.routes.Routes.{Routes}
use Rattle.ff_sched.specs.declared.rule.View.{View}
use Rattle.ff_sched.specs.State.{State, nothing}
use Rattle.ff_sched.specs.laws.Routes.{no_routes}
use Rattle.ff_sched.specs.Events.{fold}
use Rattle.ff_sched.specs.laws.Words.{state_of}
use Rattle.ff_sched.specs.Unchoked.{Unchokes}
use Rattle.ff_sched.specs.Histories.{IsLegal, StandsIn, logged, weigh, numbered, StartsWith}

abbrev pub total : (View → ℕ) → List View → ℕ
total f [] = 0
total f (v ∷ vs) = f v + total f vs

abbrev pub view : Bool → Routes → State → ℕ → List Event → View
view opened routes opening share seen =
    record { opened = opened; routes = routes; opening = opening; share = share; seen = seen; sights = []; mine = [] }

abbrev pub first : View
first = view false no_routes nothing (2 ^ 62) []

-- what is left of a pass that gave a part of its share away, and the pass that got it
abbrev pub less : View → ℕ → View
less v n = record v { share = v.share - n }

abbrev pub fresh : View → ℕ → View
fresh v n = view v.opened v.routes v.opening n v.seen

-- what is left of a pass that gave all away
abbrev pub spent : View → View
spent v = view v.opened v.routes v.opening 0 []

abbrev pub nobody : View
nobody = view false no_routes nothing 0 []

-- of two passes the one whose opening state is known
abbrev pub keeper : View → View → View
keeper v w = if nat_eq v.share 0 then w else v

-- what two passes know together. What they saw becomes sights, and it goes on with what the keeper saw
abbrev pub joined : View → View → View
joined v w = record (keeper v w) {
  share = v.share + w.share;
  sights = v.seen ∷ w.seen ∷ (v.sights ++ w.sights);
  mine = v.mine ++ w.mine;
}

-- what a pass knows of the history
pub record Fits (routes : Routes) (opening : State) (log : List Event) (v : View) : Type 0 where
  pub opened : 0 < v.share → v.opened ≡ true → (v.routes ≡ routes) × (v.opening ≡ opening)
  pub seen : StartsWith log v.seen
  pub sights : All (StartsWith log) v.sights
  pub spare : length v.mine ≤ v.share
  pub stand : All (StandsIn log) v.mine

-- There is one legal history, which leaves the state of the words. The entries of all passes are its events at their places,
-- each once
pub record Kept (words : List ℕ) (views : List View) : Type 0 where
  pub routes : Routes
  pub opening : State
  pub log : List Event
  pub folded : state_of words ≡ fold opening log
  pub counted : slice_index words 18 ≡ length log
  pub legal : IsLegal routes opening log
  pub shares : total (λ v. v.share) views ≡ 2 ^ 62
  pub entries : (h : Logged → ℕ) → total (λ v. weigh h v.mine) views ≡ weigh h (numbered 0 log)
  pub each : (pass : ℕ) (v : View) → get_elem? views pass ≡ some v → Fits routes opening log v

-- the words are those of the opening state, which the pass now knows, and the routes
abbrev pub Opens : Routes → View → List ℕ → View → Type 0
Opens routes v after w = w ≡ record v { opened = true; routes = routes; opening = state_of after }

-- the history so far was seen, and nothing was added
pub record Looks (v : View) (words : List ℕ) (w : View) : Type 0 where
  pub same : w ≡ record v { seen = w.seen }
  pub more : StartsWith w.seen v.seen
  pub legal : IsLegal v.routes v.opening w.seen
  pub folded : state_of words ≡ fold v.opening w.seen
  pub few : length v.mine < v.share → slice_index words 18 < 2 ^ 62

-- the event was added behind all that had been seen, at this place, and to the pass's own
pub record Adds (e : Event) (v : View) (place : ℕ) (w : View) : Type 0 where
  pub same : w ≡ record v { seen = w.seen; mine = v.mine ++ logged place e ∷ [] }
  pub between : List Event
  pub seen : w.seen ≡ (v.seen ++ between) ++ e ∷ []
  pub at : length (v.seen ++ between) ≡ place
  pub legal : IsLegal v.routes v.opening w.seen

-- what an exchange tells: where the words stayed, nothing changed, and where they count one more, the event was added
abbrev pub Exchanges : Event → View → List ℕ → List ℕ → View → Type 0
Exchanges e v before after w = (before ≡ after → w ≡ v)
    × (slice_index after 18 ≡ slice_index before 18 + 1 → Adds e v (slice_index before 18) w)

-- what a pass that has the whole share knows: its entries are the events of the history that it sees now, each at its
-- place and once, and all sights are fronts of that history
pub record HasAll (v : View) (w : View) : Type 0 where
  pub same : w ≡ record v { seen = w.seen }
  pub legal : IsLegal w.routes w.opening w.seen
  pub more : StartsWith w.seen v.seen
  pub sights : All (StartsWith w.seen) v.sights
  pub stand : All (StandsIn w.seen) w.mine
  pub once : (h : Logged → ℕ) → weigh h w.mine ≡ weigh h (numbered 0 w.seen)

-- nothing was added, and the state is that of all that is seen now, and does not unchoke the source
pub record Refuses (v : View) (source : ℕ) (state : State) (w : View) : Type 0 where
  pub same : w ≡ record v { seen = w.seen }
  pub more : StartsWith w.seen v.seen
  pub folded : state ≡ fold v.opening w.seen
  pub choked : Unchokes v.routes state source → ⊥
