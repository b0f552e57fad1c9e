-- Bytes that are told, flags, and how many bytes of packets a format holds.
use Rattle.std.proofs.Common.{◌≡◌, ◌≢◌, ◌↔◌, ℕ, ◌<◌, ◌≤◌, ◌+◌, Bool, true, false, ◌||◌, if◌then◌else◌, List, [], ◌∷◌, ◌++◌, length, Option, Some, None, is_some, refl, ap, sym, ◌∙◌, arith, append-nil, length-append}
use Rattle.std.specs.Prelude.{nat_le}
use Rattle.std.specs.Io.KnownBytes.{Appends}
use Rattle.std.proofs.lemmas.Bool.Decides.{nat_tests}
use Rattle.ff_host.specs.Files.{patched}
use Rattle.ff_lists.specs.Appends.{AppendsPrefix}
use Rattle.ff_frame.specs.declared.totals.Totals.{Totals}
use Rattle.ff_stream.specs.declared.item.Item.{Item}
use Rattle.ff_stream.specs.declared.item.Item.TheVariants.{Audio, Video, Packet, Trailer, End, Broken}
use Rattle.ff_stream.specs.Stream.{still_open, Stream}
use Rattle.ff_stream.specs.Items.{Closes, with_item}
use Rattle.ff_stream.specs.laws.Order.{with_item_open, with_item_closed}
use Rattle.ff_stream.specs.Ports.{nothing, IsClosed}
use Rattle.ff_filter.specs.Views.{closes}
use Rattle.ff_node_mux.specs.merge.Merges.{Placed}
use Rattle.ff_net.specs.declared.fault.Fault.{Fault}
use Rattle.ff_net.specs.declared.fault.Fault.TheVariants.{TooLarge}
use Rattle.ff_net.specs.Ways.{Flow}
use Rattle.ff_format.specs.Layouts.{Layout, body, fits, with_last, IsBeyond}
use Rattle.ff_node_mux.specs.laws.Growing.{body_more}
use Rattle.ff_node_mux.specs.Muxing.{totals_with, totals_after, totals_of, size_for, cause_for}
use Rattle.ff_node_mux.specs.laws.Writing.{Replaces, EndsAs}

-- ---- bytes that are told

pub appended : (holds now : Option (List ℕ)) (b xs : List ℕ) → holds ≡ Some b → Appends holds now xs → now ≡ Some (b ++ xs)
appended None now b xs e a = cc
appended (Some y) None b xs e a = absurd a
appended (Some y) (Some z) b xs e a = let same : y ≡ b = cc in ap (λ (w : List ℕ). Some w) (a ∙ ap (λ w. w ++ xs) same)

pub prefixed : (holds now : Option (List ℕ)) (b xs : List ℕ) → holds ≡ Some b → AppendsPrefix holds now xs
    → (front rest : List ℕ) × (xs ≡ front ++ rest) × (now ≡ Some (b ++ front))
prefixed None now b xs e a = cc
prefixed (Some y) None b xs e a = absurd a
prefixed (Some y) (Some z) b xs e a = let same : y ≡ b = cc in (a.0, a.1, a.2, ap (λ (w : List ℕ). Some w) (a.3 ∙ ap (λ w. w ++ a.0) same))

replaced_then : (before now : Option (List ℕ)) (b : List ℕ) (replaced : Option (ℕ × List ℕ)) → before ≡ Some b → Replaces before now replaced
    → now ≡ Some (with_last replaced b)
replaced_then before now b None e r = r ∙ e
replaced_then None now b (Some p) e r = cc
replaced_then (Some y) None b (Some p) e r = absurd r
replaced_then (Some y) (Some z) b (Some p) e r = let same : y ≡ b = cc in ap (λ (w : List ℕ). Some w) (r ∙ ap (λ w. patched w p.0 p.1) same)

pub ended : (holds now : Option (List ℕ)) (b xs : List ℕ) (replaced : Option (ℕ × List ℕ)) → holds ≡ Some b → EndsAs holds now xs replaced
    → now ≡ Some (with_last replaced (b ++ xs))
ended holds now b xs replaced e a = replaced_then a.0 now (b ++ xs) replaced (appended holds a.0 b xs e a.1) a.2

-- nothing was added
pub adds_none : (held : Option (List ℕ)) → Appends held held []
adds_none None = tt
adds_none (Some b) = sym (append-nil b)

pub front_none : (held : Option (List ℕ)) → AppendsPrefix held held []
front_none None = tt
front_none (Some b) = ([], [], refl, sym (append-nil b))

-- ---- flags

not_empty : (xs : List Item) (x : Item) → xs ++ x ∷ [] ≢ []
not_empty [] x e = cc
not_empty (y ∷ xs) x e = cc

pub something : (s : Flow) (x : Item) → with_item s x ≢ nothing
something s (Audio f) e = not_empty s.items (Audio f) (ap (λ (t : Flow). t.items) e)
something s (Video f) e = not_empty s.items (Video f) (ap (λ (t : Flow). t.items) e)
something s (Packet p) e = not_empty s.items (Packet p) (ap (λ (t : Flow). t.items) e)
something s (Trailer x) e = not_empty s.items (Trailer x) (ap (λ (t : Flow). t.items) e)
something s End e = let m = ap (λ (t : Flow). t.mark) e in cc
something s Broken e = let m = ap (λ (t : Flow). t.mark) e in cc

-- an item closes its stream
pub closes_iff : (x : Item) → closes x ≡ true ↔ Closes x
closes_iff (Audio f) = (λ e. cc, λ c. absurd c)
closes_iff (Video f) = (λ e. cc, λ c. absurd c)
closes_iff (Packet p) = (λ e. cc, λ c. absurd c)
closes_iff (Trailer t) = (λ e. cc, λ c. absurd c)
closes_iff End = (λ e. tt, λ c. refl)
closes_iff Broken = (λ e. tt, λ c. refl)

pub closed_then : (closed closes : Bool) (s : Flow) (x : Item) → (closed ≡ true → IsClosed s) → s.mark ≡ still_open → (closes ≡ true ↔ Closes x)
    → ((closed || closes) ≡ true) ↔ IsClosed (with_item s x)
closed_then true closes s x c o h = absurd (c refl o)
closed_then false true s x c o h = (λ e. with_item_closed s x (h.0 refl), λ n. refl)
closed_then false false s x c o h = (λ e. cc, λ n. absurd (n (with_item_open s x (λ k. let t : false ≡ true = h.1 k in cc) o)))

pub none_is : (o : Option Fault) → is_some o ≡ false → o ≡ None
none_is None e = refl
none_is (Some c) e = cc

-- ---- totals

totals_snoc : (totals : Option Totals) (xs : List Item) (x : Item) → totals_after totals (xs ++ x ∷ []) ≡ totals_with (totals_after totals xs) x
totals_snoc totals [] x = refl
totals_snoc totals (y ∷ xs) x = totals_snoc (totals_with totals y) xs x

-- of a stream with one item more
pub totals_more : (s : Flow) (x : Item) → totals_of (with_item s x) ≡ totals_with (totals_of s) x
totals_more s (Audio f) = totals_snoc None s.items (Audio f)
totals_more s (Video f) = totals_snoc None s.items (Video f)
totals_more s (Packet p) = totals_snoc None s.items (Packet p)
totals_more s (Trailer t) = totals_snoc None s.items (Trailer t)
totals_more s End = refl
totals_more s Broken = refl

-- ---- sizes

module _ (layout : Layout) where
  -- of packets and further ones
  pub size_then : (xs ys : List Placed) → length (body layout (xs ++ ys)) ≡ length (body layout xs) + length (body layout ys)
  size_then xs ys = ap length (body_more layout xs ys) ∙ length-append (body layout xs) (body layout ys)

  pub small_cause : (t : Stream Placed) → fits layout.longest (size_for layout t) ≡ true → cause_for layout t ≡ None
  small_cause t f = ap (λ (v : Bool). let r : Option Fault = if v then None else Some TooLarge in r) f

  pub large_cause : (t : Stream Placed) → fits layout.longest (size_for layout t) ≡ false → cause_for layout t ≡ Some TooLarge
  large_cause t f = ap (λ (v : Bool). let r : Option Fault = if v then None else Some TooLarge in r) f

pub fits_none : (longest : Option ℕ) → fits longest 0 ≡ true
fits_none None = refl
fits_none (Some most) = grind (arith, nat_tests)

pub beyond_fits : (longest : Option ℕ) (n : ℕ) → IsBeyond longest n → fits longest n ≡ false
beyond_fits None n b = absurd b
beyond_fits (Some most) n b = grind (arith, nat_tests)

pub within_fits : (longest : Option ℕ) (n : ℕ) → (IsBeyond longest n → ⊥) → fits longest n ≡ true
within_fits None n b = refl
within_fits (Some most) n b = pick (nat_le n most) refl
  where
    pick : (v : Bool) → nat_le n most ≡ v → v ≡ true
    pick true e = refl
    pick false e = let lt : most < n = grind (arith, nat_tests) in absurd (b lt)

-- what is beyond stays so
pub still_beyond : (longest : Option ℕ) (m n : ℕ) → fits longest m ≡ false → m ≤ n → fits longest n ≡ false
still_beyond None m n f le = cc
still_beyond (Some most) m n f le = grind (arith, nat_tests)
