-- Filters that were made one after another, seen from the end.
use Rattle.std.proofs.Common.{◌≡◌, ◌≢◌, ℕ, zero, suc, ◌<◌, Bool, true, false, if◌then◌else◌, List, [], ◌∷◌, ◌++◌, length, replicate, slice_get, slice_index_or}
use Rattle.std.proofs.Common.{slice_set, Option, None, Some, Result, Ok, Err, refl, ap, sym, ◌∙◌, subst, ◌⊎◌, inl, inr, append_assoc}
use Rattle.std.proofs.lemmas.List.{append-nil, length-replicate}
use Rattle.std.specs.List.{AllByRecursion}
use Rattle.ff_frame.specs.declared.config.ConfigError.{ConfigError}
use Rattle.ff_frame.specs.declared.config.ConfigError.TheVariants as fault
use Rattle.ff_frame.specs.declared.head.StreamHead.{StreamHead}
use Rattle.ff_filter.specs.Views.{View}
use Rattle.ff_graph_links.specs.declared.pads.drawn.Pad.{Pad}
use Rattle.ff_graph_links.specs.pads.Links.{Seen}
use Rattle.ff_filters.specs.declared.name.FilterName.{FilterName}
use Rattle.ff_filters.specs.Names.{filter_named}
use Rattle.ff_filters.specs.Configured.{Filtered}
use Rattle.ff_filters.specs.Makes.{configured_as}
use Rattle.ff_graph.specs.Configured.{Made, Refused, head_at, head_into, heads_into, and_head, is_misfit, is_surplus, made_as, made_of, with_made, behind}
use Rattle.ff_graph.specs.Configured.{make_from, none_made}
use Rattle.ff_graph.specs.Opens.{open_pads, sources_in}
use Rattle.ff_graph.proofs.Refusals.{AreThere}
use Rattle.ff_graph_dag.specs.wiring.Flows.{Absent, pad_place}
use Rattle.ff_graph.proofs.ComposedLemmas.Elements.{some_same, no_some, same_or_not, set_here, set_there, set_size}
use Rattle.ff_graph.specs.composed.Pads.{HasChannel}
use Rattle.ff_filters.proofs.Owing.{IsKept}
use Rattle.ff_filters.proofs.Owed.{kept_too}
use Rattle.ff_concat.specs.laws.Fed.{CanFollow}
use Rattle.ff_graph.proofs.ComposedLemmas.Timed.{follows_is_kept, heard_is_kept}

-- ---- one filter

-- a filter as its own function made it
pub record IsOne (ds : List Seen) (given : List (Option StreamHead)) (heads : List (List StreamHead)) (k : ℕ) (d : Seen) (f : Filtered) : Type 0 where
  pub name : FilterName
  pub named : filter_named d.filter.name ≡ Some name
  pub ins : List StreamHead
  pub comes : heads_into (open_pads ds) given heads k 0 (slice_index_or (sources_in ds) k []) ≡ Some ins
  pub enough : is_surplus name d ins ≡ false
  pub is : configured_as name d.filter.args ins ≡ Ok f

pub was_made : (ds : List Seen) (given : List (Option StreamHead)) (heads : List (List StreamHead)) (k : ℕ) (d : Seen) (f : Filtered)
    → made_of ds given heads k (Some d) ≡ Ok f → IsOne ds given heads k d f
was_made ds given heads k d f e =
    named (filter_named d.filter.name) refl (is_misfit ds (open_pads ds) k d) (heads_into (open_pads ds) given heads k 0 (slice_index_or (sources_in ds) k [])) refl e
  where
    on : (name : FilterName) → filter_named d.filter.name ≡ Some name → (hs : List StreamHead)
        → heads_into (open_pads ds) given heads k 0 (slice_index_or (sources_in ds) k []) ≡ Some hs
        → (b : Bool) → is_surplus name d hs ≡ b → (if b then Err fault.Pads else configured_as name d.filter.args hs) ≡ Ok f → IsOne ds given heads k d f
    on name n hs c true s h = cc
    on name n hs c false s h = record { name = name; named = n; ins = hs; comes = c; enough = s; is = h }

    named : (o : Option FilterName) → filter_named d.filter.name ≡ o → (misfit : Bool) → (hs : Option (List StreamHead))
        → heads_into (open_pads ds) given heads k 0 (slice_index_or (sources_in ds) k []) ≡ hs → made_as o misfit d hs ≡ Ok f → IsOne ds given heads k d f
    named None n m hs c h = cc
    named (Some name) n true hs c h = cc
    named (Some name) n false None c h = cc
    named (Some name) n false (Some hs) c h = on name n hs c (is_surplus name d hs) refl h

-- ---- what filters keep of heads

module _ (P : StreamHead → Type 0) where
  -- it is so of the heads that stand there
  abbrev pub AllSo : List (List StreamHead) → Type 0
  AllSo heads = (p : Pad) (h : StreamHead) → head_at heads p ≡ Some h → P h

  -- and of those that are given
  abbrev pub GivenSo : List (Option StreamHead) → Type 0
  GivenSo given = (n : ℕ) (h : StreamHead) → slice_index_or given n None ≡ Some h → P h

  pub so_at : (hs : List StreamHead) (i : ℕ) (h : StreamHead) → AllByRecursion P hs → slice_get hs i ≡ Some h → P h
  so_at [] i h t e = no_some h e
  so_at (x ∷ hs) zero h t e = subst P (some_same x h e) t.0
  so_at (x ∷ hs) (suc i) h t e = so_at hs i h t.1 e

  into_so : (opens : List Pad) (given : List (Option StreamHead)) (heads : List (List StreamHead)) (p : Pad) (from : Option Pad) (h : StreamHead)
      → GivenSo given → AllSo heads → head_into opens given heads p from ≡ Some h → P h
  into_so opens given heads p None h g a e = g (pad_place opens p) h e
  into_so opens given heads p (Some from) h g a e = a from h e

  ins_so : (opens : List Pad) (given : List (Option StreamHead)) (heads : List (List StreamHead)) (k i : ℕ) (ss : List (Option Pad)) (ins : List StreamHead)
      → GivenSo given → AllSo heads → heads_into opens given heads k i ss ≡ Some ins → AllByRecursion P ins
  ins_so opens given heads k i [] ins g a e = (let none : [] ≡ ins = cc in subst (λ (hs : List StreamHead). AllByRecursion P hs) none tt)
  ins_so opens given heads k i (from ∷ ss) ins g a e =
      at (head_into opens given heads (record { filter = k; pad = i }) from) refl (heads_into opens given heads k (suc i) ss) refl e
      (λ hs h. ins_so opens given heads k (suc i) ss hs g a h)
    where
      at : (o : Option StreamHead) → head_into opens given heads (record { filter = k; pad = i }) from ≡ o → (os : Option (List StreamHead))
          → heads_into opens given heads k (suc i) ss ≡ os → and_head o os ≡ Some ins
          → ((hs : List StreamHead) → heads_into opens given heads k (suc i) ss ≡ Some hs → AllByRecursion P hs) → AllByRecursion P ins
      at None q os r h on = cc
      at (Some x) q None r h on = cc
      at (Some x) q (Some hs) r h on =
          (let same : x ∷ hs ≡ ins = some_same (x ∷ hs) ins h in
          subst (λ (ys : List StreamHead). AllByRecursion P ys) same
          (into_so opens given heads (record { filter = k; pad = i }) from x g a q, on hs r))

  more_so : (heads : List (List StreamHead)) (k : ℕ) (outs : List StreamHead) → k < length heads → AllSo heads → AllByRecursion P outs
      → AllSo (slice_set heads k outs)
  more_so heads k outs lt a t p h e = at (same_or_not k p.filter)
    where
      at : (k ≡ p.filter) ⊎ (k ≢ p.filter) → P h
      at (inl same) =
          so_at outs p.pad h t
          (sym (ap (λ (hs : List StreamHead). slice_get hs p.pad)
          (ap (λ (n : ℕ). slice_index_or (slice_set heads k outs) n []) (sym same) ∙ set_here heads k outs [] lt)) ∙ e)
      at (inr other) = a p h (sym (ap (λ (hs : List StreamHead). slice_get hs p.pad) (set_there heads k p.filter outs [] other)) ∙ e)

  then_so : IsKept P → (ds : List Seen) (given : List (Option StreamHead)) (made : Made) (k : ℕ) (d : Seen) (f : Filtered) → k < length made.heads
      → made_of ds given made.heads k (Some d) ≡ Ok f → (GivenSo given → AllSo made.heads) → GivenSo given → AllSo (with_made made k f).heads
  then_so keeps ds given made k d f lt e so g =
      let one : IsOne ds given made.heads k d f = was_made ds given made.heads k d f e in
      more_so made.heads k f.outs lt (so g)
      (kept_too P keeps one.name d.filter.args one.ins f
      (ins_so (open_pads ds) given made.heads k 0 (slice_index_or (sources_in ds) k []) one.ins g (so g) one.comes) one.is)

-- ---- one after another

-- filter k is there, and was made where these filters had heads, which stay
pub record IsMade (ds : List Seen) (given : List (Option StreamHead)) (final : List (List StreamHead)) (k : ℕ) (v : View) : Type 0 where
  pub own : Seen
  pub there : slice_get ds k ≡ Some own
  pub heads : List (List StreamHead)
  pub filter : Filtered
  pub made : IsOne ds given heads k own filter
  pub view : filter.view ≡ v
  pub outs : slice_index_or final k [] ≡ filter.outs
  pub stays : (p : Pad) (h : StreamHead) → head_at heads p ≡ Some h → head_at final p ≡ Some h
  pub follow : GivenSo CanFollow given → AllByRecursion CanFollow made.ins
  pub heard : GivenSo HasChannel given → AllByRecursion HasChannel made.ins

abbrev pub AreMade : List Seen → List (Option StreamHead) → List (List StreamHead) → List ℕ → List View → Type 0
AreMade ds given final [] [] = Unit {0}
AreMade ds given final [] (v ∷ vs) = ⊥
AreMade ds given final (k ∷ ks) [] = ⊥
AreMade ds given final (k ∷ ks) (v ∷ vs) = IsMade ds given final k v × AreMade ds given final ks vs

-- none stands twice
abbrev pub NoneTwice : List ℕ → Type 0
NoneTwice [] = Unit {0}
NoneTwice (k ∷ ks) = Absent k ks × NoneTwice ks

-- what was made behind others
pub record IsBehind (ds : List Seen) (given : List (Option StreamHead)) (made : Made) (ks : List ℕ) (final : Made) : Type 0 where
  pub views : List View
  pub all : final.views ≡ made.views ++ views
  pub each : AreMade ds given final.heads ks views
  pub size : length final.heads ≡ length made.heads
  pub stays : (j : ℕ) → Absent j ks → slice_index_or final.heads j [] ≡ slice_index_or made.heads j []

-- these have no heads yet
abbrev pub AreBare : Made → List ℕ → Type 0
AreBare made ks = (i j : ℕ) → slice_get ks i ≡ Some j → slice_index_or made.heads j [] ≡ []

-- so far filters kept what was so of the heads that were given
abbrev pub AreSo : List (Option StreamHead) → List (List StreamHead) → Type 1
AreSo given heads = (P : StreamHead → Type 0) → IsKept P → GivenSo P given → AllSo P heads

one_more : (ds : List Seen) (given : List (Option StreamHead)) (made : Made) (k : ℕ) (ks : List ℕ) (d : Seen) (f : Filtered) (final : Made) → slice_get ds k ≡ Some d
    → made_of ds given made.heads k (Some d) ≡ Ok f → k < length made.heads → Absent k ks → AreBare made (k ∷ ks) → AreSo given made.heads
    → IsBehind ds given (with_made made k f) ks final → IsBehind ds given made (k ∷ ks) final
one_more ds given made k ks d f final there is lt absent bare so b =
    record {
      views = f.view ∷ b.views;
      all = b.all ∙ append_assoc made.views (f.view ∷ []) b.views;
      each = (own, b.each);
      size = b.size ∙ set_size made.heads k f.outs;
      stays = stays;
    }
  where
    stays : (j : ℕ) → Absent j (k ∷ ks) → slice_index_or final.heads j [] ≡ slice_index_or made.heads j []
    stays j none =
        (let other : k ≢ j = (λ e. none 0 (ap (λ (n : ℕ). Some n) e)) in
        b.stays j (λ i e. none (suc i) e) ∙ set_there made.heads k j f.outs [] other)

    kept : (p : Pad) (h : StreamHead) → head_at made.heads p ≡ Some h → head_at final.heads p ≡ Some h
    kept p h e =
        (let none : Absent p.filter (k ∷ ks) =
        (λ i s. let no : None ≡ Some h = sym (ap (λ (hs : List StreamHead). slice_get hs p.pad) (bare i p.filter s)) ∙ e in cc) in
        ap (λ (hs : List StreamHead). slice_get hs p.pad) (stays p.filter none) ∙ e)

    ins_are : (P : StreamHead → Type 0) → IsKept P → GivenSo P given → AllByRecursion P (was_made ds given made.heads k d f is).ins
    ins_are P keeps g =
        ins_so P (open_pads ds) given made.heads k 0 (slice_index_or (sources_in ds) k []) (was_made ds given made.heads k d f is).ins g (so P keeps g)
        (was_made ds given made.heads k d f is).comes

    own : IsMade ds given final.heads k f.view
    own =
        record {
          own = d;
          there = there;
          heads = made.heads;
          filter = f;
          made = was_made ds given made.heads k d f is;
          view = refl;
          outs = b.stays k absent ∙ set_here made.heads k f.outs [] lt;
          stays = kept;
          follow = ins_are CanFollow follows_is_kept;
          heard = ins_are HasChannel heard_is_kept;
        }

more_bare : (made : Made) (k : ℕ) (ks : List ℕ) (f : Filtered) → Absent k ks → AreBare made (k ∷ ks) → AreBare (with_made made k f) ks
more_bare made k ks f absent bare i j e =
    let other : k ≢ j = (λ s. absent i (e ∙ ap (λ (n : ℕ). Some n) (sym s))) in
    set_there made.heads k j f.outs [] other ∙ bare (suc i) j e

there_still : (n m : ℕ) (ks : List ℕ) → n ≡ m → AreThere n ks → AreThere m ks
there_still n m ks e h = subst (λ (x : ℕ). AreThere x ks) e h

pub made_behind : (ds : List Seen) (given : List (Option StreamHead)) (made : Made) (ks : List ℕ) (final : Made) → make_from ds given made ks ≡ Ok final
    → NoneTwice ks → AreThere (length made.heads) ks → AreBare made ks → AreSo given made.heads → IsBehind ds given made ks final
made_behind ds given made [] final e once there bare so =
    let same : made ≡ final = ok_same made final e in
    record {
      views = [];
      all = ap (λ (m : Made). m.views) (sym same) ∙ sym (append-nil made.views);
      each = tt;
      size = ap (λ (m : Made). length m.heads) (sym same);
      stays = λ j none. ap (λ (m : Made). slice_index_or m.heads j []) (sym same);
    }
  where
    ok_same : (x y : Made) → (let r : Result Made Refused = Ok x in r) ≡ Ok y → x ≡ y
    ok_same x y h = cc
made_behind ds given made (k ∷ ks) final e once there bare so =
    at (slice_get ds k) refl (made_of ds given made.heads k (slice_get ds k)) refl e
    (λ f h t. made_behind ds given (with_made made k f) ks final h once.1 (there_still (length made.heads) (length (slice_set made.heads k f.outs)) ks
    (sym (set_size made.heads k f.outs)) there.1) (more_bare made k ks f once.0 bare) t)
  where
    found : (o : Option Seen) (f : Filtered) → slice_get ds k ≡ o → made_of ds given made.heads k o ≡ Ok f
        → (AreSo given (with_made made k f).heads → IsBehind ds given (with_made made k f) ks final) → IsBehind ds given made (k ∷ ks) final
    found None f s h b = cc
    found (Some d) f s h b = one_more ds given made k ks d f final s h there.0 once.0 bare so (b (λ P keeps. then_so P keeps ds given made k d f there.0 h (so P keeps)))

    at : (o : Option Seen) → slice_get ds k ≡ o → (r : Result Filtered ConfigError) → made_of ds given made.heads k (slice_get ds k) ≡ r
        → behind made k r (λ m. make_from ds given m ks) ≡ Ok final
        → ((f : Filtered) → make_from ds given (with_made made k f) ks ≡ Ok final → AreSo given (with_made made k f).heads
        → IsBehind ds given (with_made made k f) ks final)
        → IsBehind ds given made (k ∷ ks) final
    at o s (Err why) q h on = cc
    at o s (Ok f) q h on = found o f s (ap (λ (x : Option Seen). made_of ds given made.heads k x) (sym s) ∙ q) (on f h)

none_there : (n j : ℕ) → slice_index_or (replicate n (let hs : List StreamHead = [] in hs)) j [] ≡ []
none_there zero j = refl
none_there (suc n) zero = refl
none_there (suc n) (suc j) = none_there n j

none_size : (ds : List Seen) → length ds ≡ length (none_made ds).heads
none_size ds = sym (length-replicate (length ds) (let hs : List StreamHead = [] in hs))

none_so : (P : StreamHead → Type 0) (ds : List Seen) → AllSo P (none_made ds).heads
none_so P ds p h e =
    let no : None ≡ Some h = sym (ap (λ (hs : List StreamHead). slice_get hs p.pad) (none_there (length ds) p.filter)) ∙ e in cc

-- from the first filter on
pub all_made : (ds : List Seen) (given : List (Option StreamHead)) (ks : List ℕ) (final : Made) → make_from ds given (none_made ds) ks ≡ Ok final
    → NoneTwice ks → AreThere (length ds) ks → AreMade ds given final.heads ks final.views × (length final.heads ≡ length ds)
all_made ds given ks final e once there =
    let b : IsBehind ds given (none_made ds) ks final =
    made_behind ds given (none_made ds) ks final e once (there_still (length ds) (length (none_made ds).heads) ks (none_size ds) there)
    (λ i j s. none_there (length ds) j) (λ P keeps g. none_so P ds) in
    (subst (λ (vs : List View). AreMade ds given final.heads ks vs) (sym b.all) b.each, b.size ∙ sym (none_size ds))
