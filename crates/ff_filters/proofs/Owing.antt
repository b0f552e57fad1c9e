-- What every filter owes, as one record by its definition: what is proved of graphs takes it whole.
use Rattle.std.proofs.Common.{◌≡◌, ◌⊎◌, inl, inr, ℕ, ◌≤◌, nat_le, Bool, true, false, Result, Ok, Err, List, [], ◌∷◌, length, map, refl, sym, ap, subst, ◌∙◌, arith}
use Rattle.std.specs.List.{AllByRecursion, Contains}
use Rattle.std.proofs.lemmas.List.Elements.{All-contains, All-from_recursion}
use Rattle.ff_time.specs.Fraction.{Fraction, IsBase}
use Rattle.ff_frame.specs.declared.config.ConfigError.{ConfigError}
use Rattle.ff_frame.specs.declared.config.ConfigError.TheVariants.{NoMemory}
use Rattle.ff_frame.specs.declared.head.StreamHead.{StreamHead}
use Rattle.ff_stream.specs.declared.item.Lane.TheVariants.{Frames}
use Rattle.ff_lang.specs.declared.graph.Arg.{Arg}
use Rattle.ff_filter.specs.Options.{is_sound, IsRefused}
use Rattle.ff_filter.specs.Views.{View, IsNew}
use Rattle.ff_filter.specs.laws.spread.Many.{AreMade}
use Rattle.ff_vfilter.specs.Sizes.{sized}
use Rattle.ff_vfilter.specs.FpsOptions.{fps_head}
use Rattle.ff_afilter.specs.Channels.{mono_head, channels_in}
use Rattle.ff_fsync.specs.declared.stacks.shape.Direction.{Direction}
use Rattle.ff_fsync.specs.stacks.Bases.{in_common}
use Rattle.ff_fsync.specs.stacks.Heads.{with_length}
use Rattle.ff_joins.specs.JoinOptions.{channels_in as all_channels, with_channels}
use Rattle.ff_filters.specs.Configured.{Filtered, filtered}
use Rattle.ff_filters.specs.Definitions.{Definition, Relation, joining, merging, sharing, one, several}
use Rattle.ff_filters.specs.limited.Cuts.{AreStreamHeads}
use Rattle.ff_filters.proofs.LimitedLemmas.Opening.{Owes}
use Rattle.ff_filters.proofs.Refusing.{HasReason}

-- ---- what becomes of a head

-- of one of several heads, or of the first
pub data Becomes : List StreamHead → StreamHead → Type 0 where
  among : (hs : List StreamHead) (h : StreamHead) → Contains hs h → Becomes hs h
  resized : (h : StreamHead) (hs : List StreamHead) (w k : ℕ) → Becomes (h ∷ hs) (sized h w k)
  paced : (h : StreamHead) (hs : List StreamHead) (base : Fraction) → IsBase base → Becomes (h ∷ hs) (fps_head (h, base))
  mono : (h : StreamHead) (hs : List StreamHead) → Becomes (h ∷ hs) (mono_head h)
  longer : (h : StreamHead) (hs : List StreamHead) (d : Direction) (n : ℕ) → Becomes (h ∷ hs) (with_length d n (in_common (h ∷ hs) h))
  joined : (h : StreamHead) (hs : List StreamHead) → nat_le (all_channels (h ∷ hs)) 8 ≡ true → Becomes (h ∷ hs) (with_channels h (all_channels (h ∷ hs)))

pub itself : (h : StreamHead) (hs : List StreamHead) → Becomes (h ∷ hs) h
itself h hs = among (h ∷ hs) h (0, omega arith, refl)

-- what is so of a head stays so of what becomes of it
pub record IsKept (P : StreamHead → Type 0) : Type 0 where
  pub sized_too : (h : StreamHead) (w k : ℕ) → P h → P (sized h w k)
  pub paced_too : (h : StreamHead) (base : Fraction) → IsBase base → P h → P (fps_head (h, base))
  pub mono_too : (h : StreamHead) → P h → P (mono_head h)
  pub longer_too : (d : Direction) (n : ℕ) (h : StreamHead) (hs : List StreamHead) → AllByRecursion P (h ∷ hs) → P (with_length d n (in_common (h ∷ hs) h))
  pub joined_too : (h : StreamHead) (hs : List StreamHead) → nat_le (all_channels (h ∷ hs)) 8 ≡ true → P h → P (with_channels h (all_channels (h ∷ hs)))

becomes_so : (P : StreamHead → Type 0) → IsKept P → {hs : List StreamHead} {k : StreamHead} → Becomes hs k → AllByRecursion P hs → P k
becomes_so P keeps (among hs h there) all = All-contains P hs h (All-from_recursion P hs all) there
becomes_so P keeps (resized h hs w k) all = keeps.sized_too h w k all.0
becomes_so P keeps (paced h hs base is) all = keeps.paced_too h base is all.0
becomes_so P keeps (mono h hs) all = keeps.mono_too h all.0
becomes_so P keeps (longer h hs d n) all = keeps.longer_too d n h hs all
becomes_so P keeps (joined h hs few) all = keeps.joined_too h hs few all.0

all_so : (P : StreamHead → Type 0) → IsKept P → (hs ks : List StreamHead) → AllByRecursion (λ k. Becomes hs k) ks → AllByRecursion P hs → AllByRecursion P ks
all_so P keeps hs [] are all = tt
all_so P keeps hs (k ∷ ks) are all = (becomes_so P keeps are.0 all, all_so P keeps hs ks are.1 all)

-- ---- what a filter that isn't refused gives

-- as many outputs as its arguments say; or, where they are apart, one for each channel of its only input
abbrev pub Counted : Bool → StreamHead → List StreamHead → ℕ → ℕ → Type 0
Counted false first others given said = given ≡ said
Counted true first others given said = (others ≡ []) × (is_sound first ≡ true) × (given ≡ channels_in first) × (said ≡ 0)

-- on streams of these heads
pub record Gives (d : Definition) (args : List Arg) (heads : List StreamHead) (f : Filtered) : Type 0 where
  pub first : StreamHead
  pub others : List StreamHead
  pub fed : heads ≡ first ∷ others
  pub ins : f.view.ins ≡ map Frames heads
  pub outs : f.view.outs ≡ map Frames f.outs
  pub new : IsNew f.view
  pub owes : AreStreamHeads heads → Owes f.view.ins f.view.outs f.view.rest
  pub become : AllByRecursion (λ k. Becomes (first ∷ others) k) f.outs
  pub count : Counted d.is_apart first others (length f.outs) (d.outputs args)

-- one to 16 output pads, or none that is linked without a label
abbrev pub AreFew : Bool → ℕ → Type 0
AreFew false n = (1 ≤ n) × (n ≤ 16)
AreFew true n = n ≡ 0

-- what a filter that is seen so is
abbrev pub seen_so : View → List StreamHead → Result Filtered ConfigError
seen_so v outs = Ok (record { view = v; outs = outs })

pub record Owed (d : Definition) (r : Relation) : Type 0 where
  -- what it makes and why it refuses, is what the function says
  pub made : (args : List Arg) (heads : List StreamHead) (v : View) (outs : List StreamHead) → r.Makes args heads v outs → d.by args heads ≡ seen_so v outs
  pub refused : (args : List Arg) (heads : List StreamHead) (e : ConfigError) → r.Refuses args heads e → (e ≡ NoMemory) ⊎ (d.by args heads ≡ Err e)
  pub reason : (args : List Arg) (heads : List StreamHead) → HasReason (d.by args heads)
  -- how many pads it has
  pub inputs : (args : List Arg) → d.inputs args ≤ 16
  pub outputs : (args : List Arg) → AreFew d.is_apart (d.outputs args)
  pub gives : (args : List Arg) (heads : List StreamHead) (f : Filtered) → d.by args heads ≡ Ok f → Gives d args heads f

-- what is so of the heads of its inputs, is so of those of its outputs
pub kept_by : (P : StreamHead → Type 0) → IsKept P → (d : Definition) (args : List Arg) (heads : List StreamHead) (f : Filtered) → Gives d args heads f
    → AllByRecursion P heads → AllByRecursion P f.outs
kept_by P keeps d args heads f g all = all_so P keeps (g.first ∷ g.others) f.outs g.become (subst (λ (hs : List StreamHead). AllByRecursion P hs) g.fed all)

-- ---- whoever is configured so owes it

module _ {X : Type 0} (shown : X → View) (outs : X → List StreamHead) where
  at_each : (G : Filtered → Type 0) (by : Result X ConfigError) (f : Filtered)
      → ((m : X) → by ≡ Ok m → G (record { view = shown m; outs = outs m })) → filtered shown outs by ≡ Ok f → G f
  at_each G (Ok m) f each e = (let same : (let g : Filtered = record { view = shown m; outs = outs m } in g) ≡ f = cc in subst G same (each m refl))
  at_each G (Err x) f each e = cc

  made_so : (is : Result X ConfigError → Type 0) (by : Result X ConfigError) → ((r : Result X ConfigError) → is r → by ≡ r) → (v : View) (hs : List StreamHead)
      → AreMade is shown outs v hs → filtered shown outs by ≡ seen_so v hs
  made_so is by same v hs h =
      ap (filtered shown outs) (same (Ok h.0) h.1)
      ∙ (ap (λ (w : View). seen_so w (outs h.0)) (sym h.2) ∙ ap (λ (ks : List StreamHead). seen_so v ks) (sym h.3))

  refused_so : (is : Result X ConfigError → Type 0) (by : Result X ConfigError) → ((r : Result X ConfigError) → is r → by ≡ r) → (e : ConfigError)
      → IsRefused is e → (e ≡ NoMemory) ⊎ (filtered shown outs by ≡ Err e)
  refused_so is by same e (inl short) = inl short
  refused_so is by same e (inr h) = inr (ap (filtered shown outs) (same (Err e) h))

  reason_so : (r : Result X ConfigError) → HasReason r → HasReason (filtered shown outs r)
  reason_so (Ok m) h = tt
  reason_so (Err e) h = h

-- of one output, of this head
pub record GivesOne (heads : List StreamHead) (v : View) (k : StreamHead) : Type 0 where
  pub first : StreamHead
  pub others : List StreamHead
  pub fed : heads ≡ first ∷ others
  pub ins : v.ins ≡ map Frames heads
  pub outs : v.outs ≡ Frames k ∷ []
  pub new : IsNew v
  pub owes : AreStreamHeads heads → Owes v.ins v.outs v.rest
  pub becomes : Becomes (first ∷ others) k

module _ {X : Type 0} (is : List Arg → List StreamHead → Result X ConfigError → Type 0) (by : List Arg → List StreamHead → Result X ConfigError)
    (same : (args : List Arg) (heads : List StreamHead) (r : Result X ConfigError) → is args heads r → by args heads ≡ r)
    (so : (args : List Arg) (heads : List StreamHead) → HasReason (by args heads)) where
  pub joining_owed : (inputs outputs : List Arg → ℕ) (is_apart : Bool) (takes_sound : List Arg → ℕ → Bool) (shown : List StreamHead → X → View)
      (outs : X → List StreamHead) → ((args : List Arg) → inputs args ≤ 16) → ((args : List Arg) → AreFew is_apart (outputs args))
      → ((args : List Arg) (heads : List StreamHead) (m : X) → by args heads ≡ Ok m
      → Gives (joining inputs outputs is_apart takes_sound by shown outs) args heads (record { view = shown heads m; outs = outs m }))
      → Owed (joining inputs outputs is_apart takes_sound by shown outs) (several is shown outs)
  joining_owed inputs outputs is_apart takes_sound shown outs few some each = record {
    made = λ args heads v hs h. made_so (shown heads) outs (is args heads) (by args heads) (same args heads) v hs h;
    refused = λ args heads e h. refused_so (shown heads) outs (is args heads) (by args heads) (same args heads) e h;
    reason = λ args heads. reason_so (shown heads) outs (by args heads) (so args heads);
    inputs = few;
    outputs = some;
    gives = λ args heads f e. at_each (shown heads) outs (λ (g : Filtered). Gives (joining inputs outputs is_apart takes_sound by shown outs) args heads g)
        (by args heads) f (each args heads) e;
  }

  pub merging_owed : (inputs : List Arg → ℕ) (takes_sound : List Arg → ℕ → Bool) (shown : List StreamHead → X → View) (head : X → StreamHead)
      → ((args : List Arg) → inputs args ≤ 16)
      → ((args : List Arg) (heads : List StreamHead) (m : X) → by args heads ≡ Ok m → GivesOne heads (shown heads m) (head m))
      → Owed (merging inputs takes_sound by shown head) (one is shown head)
  merging_owed inputs takes_sound shown head few each =
      joining_owed inputs (λ args. 1) false takes_sound shown (λ m. head m ∷ []) few (λ args. (omega arith, omega arith))
      (λ args heads m k. let o = each args heads m k in record {
        first = o.first;
        others = o.others;
        fed = o.fed;
        ins = o.ins;
        outs = o.outs;
        new = o.new;
        owes = o.owes;
        become = (o.becomes, tt);
        count = refl;
      })

  pub sharing_owed : (outputs : List Arg → ℕ) (is_apart takes_sound : Bool) (shown : X → View) (outs : X → List StreamHead)
      → ((args : List Arg) → AreFew is_apart (outputs args))
      → ((args : List Arg) (heads : List StreamHead) (m : X) → by args heads ≡ Ok m
      → Gives (sharing outputs is_apart takes_sound by shown outs) args heads (record { view = shown m; outs = outs m }))
      → Owed (sharing outputs is_apart takes_sound by shown outs) (several is (λ heads. shown) outs)
  sharing_owed outputs is_apart takes_sound shown outs few each =
      joining_owed (λ args. 1) outputs is_apart (λ args pad. takes_sound) (λ heads. shown) outs (λ args. omega arith) few each
