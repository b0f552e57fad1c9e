-- What is written of what is decided, and how the end changes bytes that may be known.
use Rattle.std.specs.Prelude.{◌≡◌, ◌≢◌, ℕ, ◌+◌, ◌||◌, ◌⊎◌, Bool, true, false, cond, List, [], ◌++◌, length, Option, Some, None}
use Rattle.std.specs.Io.KnownBytes.{Appends}
use Rattle.ff_filter.specs.Joins.{Ports, silence, before_at}
use Rattle.ff_filter.specs.Views.{closes}
use Rattle.ff_stream.specs.declared.item.Item.{Item}
use Rattle.ff_host.specs.Files.{Patches}
use Rattle.ff_node_mux.specs.merge.Merges.{Placed}
use Rattle.ff_node_mux.specs.merge.Queues.{Merging}
use Rattle.ff_lists.specs.Appends.{AppendsPrefix}
use Rattle.ff_net.specs.declared.fault.Fault.{Fault}
use Rattle.ff_net.specs.declared.fault.Fault.TheVariants.{TooLarge}
use Rattle.ff_frame.specs.declared.totals.Totals.{Totals}
use Rattle.ff_format.specs.Layouts.{Layout, body, fits}

-- what stands before the packets, where nothing was written yet
abbrev pub text_before : Bool → Layout → List ℕ
text_before begun layout = cond begun [] layout.header

-- bytes that may be known are replaced from a place on
abbrev pub Replaces : Option (List ℕ) → Option (List ℕ) → Option (ℕ × List ℕ) → Type 0
Replaces before now None = now ≡ before
Replaces before now (Some p) = Patches before now p.0 p.1

-- they gain these, and then some of all of them are replaced
abbrev pub EndsAs : Option (List ℕ) → Option (List ℕ) → List ℕ → Option (ℕ × List ℕ) → Type 0
EndsAs before now bytes replaced = (between : Option (List ℕ)) × Appends before between bytes × Replaces between now replaced

-- An item of a stream came; where no failure came before, the merge goes on from it.
pub record Took (old new : Merging) (failed : Bool) (stream : ℕ) (x : Item) : Type 0 where
  pub bases : new.bases ≡ old.bases
  pub rest : failed ≡ false → (ext : Ports) → new.rest ext ≡ old.rest (before_at stream x ext)
  pub shut_here : new.shut stream ≡ (old.shut stream || closes x)
  pub shut_others : (p : ℕ) → p ≢ stream → new.shut p ≡ old.shut p

-- no other stream closed, and the streams are the same
pub record Alike (old new : Merging) : Type 0 where
  pub bases : new.bases ≡ old.bases
  pub shut : (p : ℕ) → new.shut p ≡ old.shut p

-- The packets that were counted being within what the format holds, they are so with these too.
abbrev pub StaysWithin : Layout → (List Placed → Type 0) → List Placed → Type 0
StaysWithin layout counts ys = (ps : List Placed) → counts ps → fits layout.longest (length (body layout ps)) ≡ true
    → fits layout.longest (length (body layout (ps ++ ys))) ≡ true

-- these packets came out of the merge next, were counted, and were written
pub record Wrote (layout : Layout) (old new : Merging) (before now : Option (List ℕ)) (counts counts' : List Placed → Type 0) (ys : List Placed) : Type 0 where
  pub rest : (ext : Ports) → old.rest ext ≡ ys ++ new.rest ext
  pub text : Appends before now (body layout ys)
  pub counted : (ps : List Placed) → counts ps → counts' (ps ++ ys)
  pub within : StaysWithin layout counts ys

-- all that is decided was written
pub record WroteAll (layout : Layout) (old new : Merging) (before now : Option (List ℕ)) (counts counts' : List Placed → Type 0) : Type 0 where
  pub packets : List Placed
  pub wrote : Wrote layout old new before now counts counts' packets
  pub nothing_left : new.rest silence ≡ []

-- Of what is decided the packets in front were counted, and a front of their text was written; TooLarge comes only where all of it
-- would be more bytes than the format holds.
pub record Stuck (layout : Layout) (old : Merging) (before now : Option (List ℕ)) (counts : List Placed → Type 0) (fault : Fault) : Type 0 where
  pub packets : List Placed
  pub others : List Placed
  pub rest : old.rest silence ≡ packets ++ others
  pub front : AppendsPrefix before now (body layout packets)
  pub within : StaysWithin layout counts packets
  pub large : fault ≡ TooLarge → (ps : List Placed) → counts ps → fits layout.longest (length (body layout (ps ++ old.rest silence))) ≡ false

-- What stands before the packets was written, where nothing was written yet, all that is decided, and where each stream is whole what
-- follows the packets and what takes the place of bytes.
pub record WroteOn (layout : Layout) (old new : Merging) (before now : Option (List ℕ))
    (counts counts' : List Placed → Type 0) (begun whole : Bool) (totals : Option Totals) : Type 0 where
  pub packets : List Placed
  pub rest : (ext : Ports) → old.rest ext ≡ packets ++ new.rest ext
  pub nothing_left : new.rest silence ≡ []
  pub counted : (ps : List Placed) → counts ps → counts' (ps ++ packets)
  pub within : StaysWithin layout counts packets
  pub tail : List ℕ
  pub replaced : Option (ℕ × List ℕ)
  pub ends : EndsAs before now ((text_before begun layout ++ body layout packets) ++ tail) replaced
  pub more : whole ≡ false → (tail ≡ []) × (replaced ≡ None)
  pub all : whole ≡ true → (ps : List Placed) → counts ps
      → (tail ≡ layout.tail (ps ++ packets)) × (replaced ≡ layout.last (length (body layout (ps ++ packets))) totals)

-- only a front of that was written
pub record StuckOn (layout : Layout) (old : Merging) (before now : Option (List ℕ)) (counts : List Placed → Type 0) (begun whole : Bool) (fault : Fault) : Type 0 where
  pub packets : List Placed
  pub others : List Placed
  pub rest : old.rest silence ≡ packets ++ others
  pub tail : List ℕ
  pub front : AppendsPrefix before now ((text_before begun layout ++ body layout packets) ++ tail)
  pub tails : (tail ≡ []) ⊎ ((whole ≡ true) × (others ≡ []) × ((ps : List Placed) → counts ps → tail ≡ layout.tail (ps ++ packets)))
  pub within : StaysWithin layout counts packets
  pub large : fault ≡ TooLarge → (ps : List Placed) → counts ps → fits layout.longest (length (body layout (ps ++ old.rest silence))) ≡ false
