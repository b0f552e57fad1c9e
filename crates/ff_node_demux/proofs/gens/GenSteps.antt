-- What a source of frames does at each step.
use Rattle.std.proofs.Common.{◌≡◌, ℕ, zero, suc, ◌+◌, ◌<◌, ◌≤◌, ◌⊎◌, inl, inr, Bool, true, false, cond, List, [], ◌∷◌, ◌++◌, drop, length, Some, refl, sym, ap, subst, ◌∙◌, arith, length-append, le_trans, add-one}
use Rattle.std.specs.Prelude.{slice_get}
use Rattle.std.proofs.lemmas.List.Elements.{All-drop, All-same, All-head}
use Rattle.ff_frame.specs.declared.head.StreamHead.{StreamHead}
use Rattle.ff_frame.specs.declared.head.StreamHead.TheVariants.{Audio as AudioHead, Video as VideoHead}
use Rattle.ff_frame.specs.declared.event.Event.{Event}
use Rattle.ff_frame.specs.declared.event.Ticket.{Ticket}
use Rattle.ff_stream.specs.declared.item.Item.{Item}
use Rattle.ff_stream.specs.declared.item.Item.TheVariants.{Audio, Video, Packet, Trailer, End, Broken}
use Rattle.ff_stream.specs.declared.item.Lane.TheVariants.{Frames}
use Rattle.ff_stream.specs.Stream.{Mark, still_open, whole, broken, LiesBelow}
use Rattle.ff_stream.specs.Items.{Closes, with_item}
use Rattle.ff_stream.specs.Lanes.{AreInShape, IsItemFor, FitsFrames}
use Rattle.ff_stream.specs.Ports.{stream_at}
use Rattle.ff_stream.specs.Within.{before_pass, passes_limits}
use Rattle.ff_net.specs.laws.Laws.{IsPending}
use Rattle.ff_net.specs.Ways.{Flow}
use Rattle.ff_net.specs.Pasts.{Past, start, due, gave_item, was_asked, was_allowed, was_stopped, was_told}
use Rattle.ff_node_demux.specs.Exiting.{Exits}
use Rattle.ff_node_demux.specs.laws.SourceLaws.{source_gives, source_ends, source_waits, source_over}
use Rattle.ff_node_demux.specs.gens.Generating.{limited_frames, are_too_long, frames_task, GenStands}
use Rattle.ff_node_demux.specs.laws.gens.GenLaws.{frames_closed}
use Rattle.ff_node_demux.proofs.LimitSteps.{before_get, before_stop, before_all}

on_port : (P : ℕ → Type 0) (port : ℕ) → port < 1 → P 0 → P port
on_port P port lt p = subst P (let z : 0 ≡ port = omega arith in z) p

-- a frame closes no stream
frame_open : (head : StreamHead) (x : Item) → FitsFrames head x → Closes x → ⊥
frame_open (AudioHead tb rate bits channels codec) (Audio f) fits c = c
frame_open (AudioHead tb rate bits channels codec) (Video f) fits c = fits
frame_open (AudioHead tb rate bits channels codec) (Packet p) fits c = fits
frame_open (AudioHead tb rate bits channels codec) (Trailer t) fits c = fits
frame_open (AudioHead tb rate bits channels codec) End fits c = fits
frame_open (AudioHead tb rate bits channels codec) Broken fits c = fits
frame_open (VideoHead tb format width height sar_num sar_den) (Audio f) fits c = fits
frame_open (VideoHead tb format width height sar_num sar_den) (Video f) fits c = c
frame_open (VideoHead tb format width height sar_num sar_den) (Packet p) fits c = fits
frame_open (VideoHead tb format width height sar_num sar_den) (Trailer t) fits c = fits
frame_open (VideoHead tb format width height sar_num sar_den) End fits c = fits
frame_open (VideoHead tb format width height sar_num sar_den) Broken fits c = fits

open_item : (x : Item) → (Closes x → ⊥) → (r : Flow) → with_item r x ≡ record { items = r.items ++ x ∷ []; mark = r.mark }
open_item (Audio f) o r = refl
open_item (Video f) o r = refl
open_item (Packet p) o r = refl
open_item (Trailer t) o r = refl
open_item End o r = absurd (o tt)
open_item Broken o r = absurd (o tt)

first_left : (xs : List Item) (n : ℕ) (x : Item) (rest : List Item) → drop n xs ≡ x ∷ rest → (slice_get xs n ≡ Some x) × (drop (suc n) xs ≡ rest)
first_left [] zero x rest e = cc
first_left [] (suc n) x rest e = cc
first_left (y ∷ ys) zero x rest e = (cc, cc)
first_left (y ∷ ys) (suc n) x rest e = first_left ys n x rest e

-- the next of what is left
next_left : (xs : List Item) (n : ℕ) (x : Item) (rest : List Item) → drop n xs ≡ x ∷ rest → (slice_get xs n ≡ Some x) × (drop (n + 1) xs ≡ rest)
next_left xs n x rest e = let h = first_left xs n x rest e in (h.0, ap (λ (k : ℕ). drop k xs) (add-one n) ∙ h.1)

none_left : (xs : List Item) (n : ℕ) → drop n xs ≡ [] → n ≤ length xs → length xs ≡ n
none_left [] zero e le = refl
none_left [] (suc n) e le = absurd (omega (arith, le))
none_left (y ∷ ys) zero e le = cc
none_left (y ∷ ys) (suc n) e le = let r = none_left ys n e (omega (arith, le)) in omega (arith, r)

few_kept : (passes : ℕ → Item → Bool) (k : ℕ) (xs : List Item) → length (before_pass passes k xs) ≤ length xs
few_kept passes k [] = omega arith
few_kept passes k (x ∷ xs) = pick (passes k x) (few_kept passes (k + 1) xs)
  where
    pick : (b : Bool) → length (before_pass passes (k + 1) xs) ≤ length xs → length (cond b [] (x ∷ before_pass passes (k + 1) xs)) ≤ suc (length xs)
    pick true h = omega arith
    pick false h = omega (arith, h)

-- an item or the end was given on the one port, and so the state
abbrev pub GenGives : List Item → StreamHead → ℕ → Bool → Bool → Past → ℕ → Item → Type 0
GenGives left head given ended long past port x =
    GenStands left head given false ended long (gave_item past port x) × ((stream_at past.gave port).mark ≡ still_open)
    × LiesBelow (with_item (stream_at past.gave port) x) (stream_at (due past) port)

-- a frame within the limits
pub gen_frame : (left left' : List Item) (head : StreamHead) (given : ℕ) (past : Past) (port : ℕ) (x : Item) → port < 1 → left ≡ x ∷ left'
    → passes_limits (Frames head) given x ≡ false → GenStands left head given true false false past
    → GenGives left' head (given + 1) false false past port x
gen_frame left left' head given past port x lt next short (frames, s) =
    let at = next_left frames given x left' (sym (s.rest refl) ∙ next) in
    let item = All-head (IsItemFor (Frames head)) x left' (All-same (IsItemFor (Frames head)) (x ∷ left') (drop given frames) (sym (sym (s.rest refl) ∙ next)) (All-drop (IsItemFor (Frames head)) given frames s.shape.each)) in
    let get = before_get (passes_limits (Frames head)) 0 frames given x at.0 s.sources.in_range (ap (λ (i : ℕ). passes_limits (Frames head) i x) (omega arith) ∙ short) in
    let r = source_gives (limited_frames head frames) given past x get (open_item x (frame_open head x item.fits)) s.sources in
    on_port (λ (q : ℕ). GenGives left' head (given + 1) false false past q x) port lt (
      (
        frames,
        record {
          shape = s.shape;
          sources = r.now;
          cause = s.cause;
          rest = λ e. sym at.1;
          long_is = refl;
          idle = λ e i. refl;
        },
      ),
      r.unclosed,
      r.below,
    )

-- a frame that passes a limit
pub gen_long : (left left' : List Item) (head : StreamHead) (given : ℕ) (past : Past) (port : ℕ) (x : Item) → port < 1 → left ≡ x ∷ left'
    → passes_limits (Frames head) given x ≡ true → GenStands left head given true false false past
    → GenGives left' head given true true past port Broken
gen_long left left' head given past port x lt next many (frames, s) =
    let at = next_left frames given x left' (sym (s.rest refl) ∙ next) in
    let stop = before_stop (passes_limits (Frames head)) 0 frames given x at.0 s.sources.in_range (ap (λ (i : ℕ). passes_limits (Frames head) i x) (omega arith) ∙ many) in
    let mark : (limited_frames head frames).mark ≡ broken = ap (λ (b : Bool). cond b broken whole) stop.1 in
    let r = source_ends (limited_frames head frames) given past Broken stop.0 (λ y. ap (λ (m : Mark). record { items = y.items; mark = m }) (sym mark)) s.sources in
    on_port (λ (q : ℕ). GenGives left' head given true true past q Broken) port lt (
      (
        frames,
        record {
          shape = s.shape;
          sources = r.now;
          cause = s.cause;
          rest = λ e. cc;
          long_is = sym stop.1;
          idle = λ e i. refl;
        },
      ),
      r.unclosed,
      r.below,
    )

-- all frames were given
pub gen_end : (left left' : List Item) (head : StreamHead) (given : ℕ) (past : Past) (port : ℕ) → port < 1 → left ≡ []
    → GenStands left head given true false false past
    → GenGives left' head given true false past port End
gen_end left left' head given past port lt none (frames, s) =
    let size = none_left frames given (sym (s.rest refl) ∙ none) (le_trans s.sources.in_range (few_kept (passes_limits (Frames head)) 0 frames)) in
    let all = before_all (passes_limits (Frames head)) 0 frames given size s.sources.in_range in
    let mark : (limited_frames head frames).mark ≡ whole = ap (λ (b : Bool). cond b broken whole) all.1 in
    let r = source_ends (limited_frames head frames) given past End all.0 (λ y. ap (λ (m : Mark). record { items = y.items; mark = m }) (sym mark)) s.sources in
    on_port (λ (q : ℕ). GenGives left' head given true false past q End) port lt (
      (
        frames,
        record {
          shape = s.shape;
          sources = r.now;
          cause = s.cause;
          rest = λ e. cc;
          long_is = sym all.1;
          idle = λ e i. refl;
        },
      ),
      r.unclosed,
      r.below,
    )

-- nothing was given where there was no ticket, or nothing more to give
pub gen_asked : (left : List Item) (head : StreamHead) (given : ℕ) (ticket ended long : Bool) (past : Past) (port : ℕ) → (ended ≡ false → ticket ≡ false)
    → GenStands left head given ticket ended long past → GenStands left head given ticket ended long (was_asked past port)
gen_asked left head given ticket ended long past port none (frames, s) =
    let l = s.sources in (
      frames,
      record {
        shape = s.shape;
        sources = record { means = l.means; source = l.source; fed_nothing = l.fed_nothing; gave = l.gave; others = l.others; tickets = l.tickets; in_range = l.in_range; at_end = l.at_end; closed = l.closed };
        cause = s.cause;
        rest = s.rest;
        long_is = s.long_is;
        idle = λ e i. none e;
      },
    )

-- with no ticket, and after the end, all that is due was given
pub gen_waits : (left : List Item) (head : StreamHead) (given : ℕ) (ended long : Bool) (past : Past) (port : ℕ) → port < 1 → ended ≡ false
    → GenStands left head given false ended long past → stream_at past.gave port ≡ stream_at (due past) port
gen_waits left head given true long past port lt e d = cc
gen_waits left head given false long past port lt e (frames, s) =
    on_port (λ (q : ℕ). stream_at past.gave q ≡ stream_at (due past) q) port lt (source_waits (limited_frames head frames) given past s.sources)

pub gen_over : (left : List Item) (head : StreamHead) (given : ℕ) (ticket long : Bool) (past : Past) (port : ℕ) → port < 1
    → GenStands left head given ticket true long past → stream_at past.gave port ≡ stream_at (due past) port
gen_over left head given ticket long past port lt (frames, s) =
    on_port (λ (q : ℕ). stream_at past.gave q ≡ stream_at (due past) q) port lt (source_over (limited_frames head frames) given ticket past s.sources)

-- a ticket
pub gen_allowed : (left : List Item) (head : StreamHead) (given : ℕ) (ended long : Bool) (past : Past) (t : Ticket)
    → GenStands left head given false ended long past → GenStands left head given true ended long (was_allowed past t)
gen_allowed left head given ended long past t (frames, s) =
    let l = s.sources in (
      frames,
      record {
        shape = s.shape;
        sources = record { means = l.means; source = l.source; fed_nothing = l.fed_nothing; gave = l.gave; others = l.others; tickets = omega (arith, l.tickets, length-append past.allowed (t ∷ [])); in_range = l.in_range; at_end = l.at_end; closed = l.closed };
        cause = s.cause;
        rest = s.rest;
        long_is = s.long_is;
        idle = λ e i. absurd i;
      },
    )

pub gen_stopped : (left : List Item) (head : StreamHead) (given : ℕ) (ticket ended long : Bool) (past : Past) (port : ℕ)
    → GenStands left head given ticket ended long past → GenStands left head given ticket ended long (was_stopped past port)
gen_stopped left head given ticket ended long past port (frames, s) =
    let l = s.sources in (
      frames,
      record {
        shape = s.shape;
        sources = record { means = l.means; source = l.source; fed_nothing = l.fed_nothing; gave = l.gave; others = l.others; tickets = l.tickets; in_range = l.in_range; at_end = l.at_end; closed = l.closed };
        cause = s.cause;
        rest = s.rest;
        long_is = s.long_is;
        idle = s.idle;
      },
    )

pub gen_told : (left : List Item) (head : StreamHead) (given : ℕ) (ticket ended long : Bool) (past : Past) (e : Event)
    → GenStands left head given ticket ended long past → GenStands left head given ticket ended long (was_told past e)
gen_told left head given ticket ended long past e (frames, s) =
    let l = s.sources in (
      frames,
      record {
        shape = s.shape;
        sources = record { means = l.means; source = l.source; fed_nothing = l.fed_nothing; gave = l.gave; others = l.others; tickets = l.tickets; in_range = l.in_range; at_end = l.at_end; closed = l.closed };
        cause = s.cause;
        rest = s.rest;
        long_is = s.long_is;
        idle = s.idle;
      },
    )

-- nothing was done yet
pub gen_start : (number : ℕ) (head : StreamHead) (frames : List Item) → AreInShape (Frames head) frames
    → GenStands frames head 0 false false false (start (frames_task number head frames))
gen_start number head frames shape = (
  frames,
  record {
    shape = shape;
    sources = record { means = refl; source = refl; fed_nothing = λ p. refl; gave = refl; others = λ p. refl; tickets = refl; in_range = omega arith; at_end = λ e. cc; closed = frames_closed head frames };
    cause = refl;
    rest = λ e. refl;
    long_is = refl;
    idle = λ e i. absurd i;
  },
)

module _ (left : List Item) (head : StreamHead) (given : ℕ) (ticket ended long : Bool) (past : Past) (d : GenStands left head given ticket ended long past)
    (number : ℕ) (stopped told : Bool) (x : Exits number stopped told past.task.tells past.told past.stopped) where
  mark_is : (b : Bool) → ended ≡ b → (stream_at past.gave 0).mark ≡ cond b (limited_frames head d.0).mark still_open
  mark_is b e = ap (λ (r : Flow). r.mark) d.1.sources.gave ∙ ap (λ (c : Bool). cond c (limited_frames head d.0).mark still_open) e

  -- it gives no more where its output has closed or was stopped
  pub gen_over_pending : (ended ≡ true) ⊎ (stopped ≡ true) → (q : ℕ) → IsPending 1 past q → ⊥
  gen_over_pending o (suc q) p = let lt : suc q < 1 = p.there in omega (arith, lt)
  gen_over_pending (inl e) zero p = frames_closed head d.0 (sym (mark_is true e) ∙ p.unclosed)
  gen_over_pending (inr s) zero p = p.goes_on (x.stopped_is.0 s)

  -- else its output goes on
  pub gen_goes_on : ended ≡ false → stopped ≡ false → IsPending 1 past 0
  gen_goes_on e s = record { there = omega arith; goes_on = λ i. (let t = x.stopped_is.1 i in cc); unclosed = mark_is false e }

-- with a ticket and before the end, no frame was too long yet
pub gen_going : (left : List Item) (head : StreamHead) (given : ℕ) (ticket ended long : Bool) (past : Past) → ticket ≡ true → ended ≡ false
    → GenStands left head given ticket ended long past → (long ≡ false) × GenStands left head given true false false past
gen_going left head given ticket ended long past t e d =
    let short : long ≡ false = d.1.long_is ∙ ap (λ (b : Bool). cond b (are_too_long head d.0) false) e in (
      short,
      subst (λ (b : Bool). GenStands left head given true false b past) short
          (subst (λ (b : Bool). GenStands left head given true b long past) e
          (subst (λ (b : Bool). GenStands left head given b ended long past) t d)),
    )
