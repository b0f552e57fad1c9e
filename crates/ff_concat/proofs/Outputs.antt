-- What a step of one output does to the whole machine.
use Rattle.std.proofs.Common.{◌≡◌, ℕ, ◌<◌, true, List, length, get_or, set, refl, inl, inr, ap, sym, ◌∙◌, subst}
use Rattle.std.proofs.lemmas.Bool.{cases_eq}
use Rattle.ff_stream.specs.declared.item.Item.{Item}
use Rattle.ff_stream.specs.declared.item.Lane.{Lane}
use Rattle.ff_filter.specs.Joins.{Flow, before, silence}
use Rattle.ff_filter.specs.Views as views
use Rattle.ff_filter.specs.Views.{Same, Stopped}
use Rattle.ff_concat.specs.declared.reach.Reach.{Reach}
use Rattle.ff_concat.specs.declared.track.Track.{Track}
use Rattle.ff_concat.specs.ConcatOptions.{repeated}
use Rattle.ff_concat.specs.laws.Tracks.{gives_at, ended_at, stopped_at, view_of}
use Rattle.ff_concat.specs.laws.Moves.{GoesOn, Gave, Waits}
use Rattle.ff_concat.proofs.Lookups.{gives_read, gives_set, gives_other, ended_read, ended_set, ended_other, stopped_read, stopped_set, stopped_other, lanes_set}

module _ (tick_list : List ℕ) (n : ℕ) (rs : List Reach) (ts : List Track) (i : ℕ) (t t' : Track) (lt : i < length ts) (is : t ≡ get_or ts i t) where
  ports : t'.head ≡ t.head → views.SamePorts (view_of tick_list n rs ts) (view_of tick_list n rs (set ts i t'))
  ports h = let lanes = lanes_set ts i t t' lt is h in record { ins = ap (λ (ls : List Lane). repeated n ls) lanes; outs = lanes }

  ended_kept : t'.ended ≡ t.ended → (q : ℕ) → ended_at (set ts i t') q ≡ ended_at ts q
  ended_kept e q = elim (cases_eq q i) as (λ _. ended_at (set ts i t') q ≡ ended_at ts q) [
    | inl same ↦ subst (λ (j : ℕ). ended_at (set ts i t') j ≡ ended_at ts j) (sym same) (ended_set ts i t' lt ∙ (e ∙ sym (ended_read ts i t lt is)))
    | inr k ↦ ended_other ts i q t' k
  ]

  stopped_kept : t'.stopped ≡ t.stopped → (q : ℕ) → stopped_at (set ts i t') q ≡ stopped_at ts q
  stopped_kept e q = elim (cases_eq q i) as (λ _. stopped_at (set ts i t') q ≡ stopped_at ts q) [
    | inl same ↦ subst (λ (j : ℕ). stopped_at (set ts i t') j ≡ stopped_at ts j) (sym same) (stopped_set ts i t' lt ∙ (e ∙ sym (stopped_read ts i t lt is)))
    | inr k ↦ stopped_other ts i q t' k
  ]

  pub set_same : GoesOn t t' tick_list i rs → Same (view_of tick_list n rs ts) (view_of tick_list n rs (set ts i t'))
  set_same g = record {
    ports = ports g.head;
    rest = λ ext q on. elim (cases_eq q i) as (λ _. gives_at tick_list q (set ts i t') q rs ext ≡ gives_at tick_list q ts q rs ext) [
      | inl same ↦ subst (λ (j : ℕ). gives_at tick_list j (set ts i t') j rs ext ≡ gives_at tick_list j ts j rs ext) (sym same)
          (gives_set tick_list i rs ext ts i t' lt ∙ (g.gives ext ∙ sym (gives_read tick_list i rs ext ts i t lt is)))
      | inr k ↦ gives_other tick_list q rs ext ts i q t' k
    ];
    shut = λ p. refl;
    ended = ended_kept g.ended;
    stopped = stopped_kept g.stopped;
  }

  pub set_gave : (x : Item) → Gave t t' tick_list i rs x → views.Gave (view_of tick_list n rs ts) (view_of tick_list n rs (set ts i t')) i x
  set_gave x g = record {
    ports = ports g.head;
    open_before = ended_read ts i t lt is ∙ g.open_before;
    rest_here = λ ext. gives_read tick_list i rs ext ts i t lt is ∙ (g.gives ext ∙ ap (λ (f : Flow). before x f) (sym (gives_set tick_list i rs ext ts i t' lt)));
    rest_others = λ ext o l k on. gives_other tick_list o rs ext ts i o t' k;
    shut = λ p. refl;
    ended_here = ended_set ts i t' lt ∙ g.ended;
    ended_others = λ o l k. ended_other ts i o t' k;
    stopped = stopped_kept g.stopped;
  }

  pub set_waits : Waits t t' tick_list i rs → views.Waits (view_of tick_list n rs ts) (view_of tick_list n rs (set ts i t')) i
  set_waits w = record {
    same = set_same w.goes_on;
    nothing_left = gives_read tick_list i rs silence ts i t lt is ∙ w.nothing_left;
  }

  pub set_stopped : t'.head ≡ t.head → t'.ended ≡ t.ended → t'.stopped ≡ true → Stopped (view_of tick_list n rs ts) (view_of tick_list n rs (set ts i t')) i
  set_stopped h e s = record {
    ports = ports h;
    stopped_here = stopped_set ts i t' lt ∙ s;
    stopped_others = λ o l k. stopped_other ts i o t' k;
    rest_others = λ ext o l k on. gives_other tick_list o rs ext ts i o t' k;
    shut = λ p. refl;
    ended = ended_kept e;
  }
