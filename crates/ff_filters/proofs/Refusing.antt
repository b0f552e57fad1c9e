-- Why a filter is refused is never that there was no memory.
use Rattle.std.proofs.Common.{◌≡◌, ℕ, ◌+◌, ◌==◌, nat_eq, nat_le, Bool, true, false, ◌||◌, is_some, cond, Option, Some, None, Result, Ok, Err, List, [], ◌∷◌, length}
use Rattle.std.specs.Prelude.{IfErr, IfSome}
use Rattle.ff_frame.specs.declared.config.ConfigError.{ConfigError}
use Rattle.ff_frame.specs.declared.config.ConfigError.TheVariants.{Pads, Kind, Mismatch, BadSize, NoMemory}
use Rattle.ff_frame.specs.declared.head.StreamHead.{StreamHead}
use Rattle.ff_frame.specs.declared.head.StreamHead.TheVariants.{Audio, Video}
use Rattle.ff_lang.specs.declared.graph.Arg.{Arg}
use Rattle.ff_filter.specs.Options.{is_sound, is_video, Manual, option_of, only_head}
use Rattle.ff_vfilter.specs.declared.crop.CropSettings.{CropSettings}
use Rattle.ff_vfilter.specs.declared.pad.PadSettings.{PadSettings}
use Rattle.ff_vfilter.specs.Crops.{crop_part, can_crop}
use Rattle.ff_vfilter.specs.Pads.{pad_of, can_pad}
use Rattle.ff_fsync.specs.declared.stacks.shape.Direction.{Direction}
use Rattle.ff_fsync.specs.declared.stacks.options.StackSettings.{StackSettings}
use Rattle.ff_fsync.specs.stacks.Options.{counted, stack_manual}
use Rattle.ff_fsync.specs.stacks.Heads.{input_fault, stack_fault, has_size}
use Rattle.ff_concat.specs.Arguments.{concat_manual, concat_set, concat_start}
use Rattle.ff_concat.proofs.Agreeing.{concat-so as segments-so}
use Rattle.ff_joins.specs.JoinOptions.{channels_in, inputs_said, is_like, join_manual}
use Rattle.ff_joins.specs.Arguments.{each_head}
use Rattle.ff_filters.specs.ReadBy.{and_then, unless, taken_by, given_by, read_by, configured_by}
use Rattle.ff_filters.specs.SetBy.{set_stack, set_join}
use Rattle.ff_filters.specs.Configured.{cropped_as, padded_as, stacked_as, stack_by, concat_by, joined_as, join_by}

-- it is a reason
abbrev pub IsReason : ConfigError → Type 0
IsReason e = e ≡ NoMemory → ⊥

abbrev pub HasReason : {X : Type 0} → Result X ConfigError → Type 0
HasReason r = IfErr r IsReason

pub if_so : {X : Type 0} (c : Bool) (r q : Result X ConfigError) → HasReason r → HasReason q → HasReason (cond c r q)
if_so true r q h k = h
if_so false r q h k = k

goes_on : {A X : Type 0} (next : A → Result X ConfigError) (r : Result A ConfigError) → HasReason r → ((a : A) → HasReason (next a)) → HasReason (and_then next r)
goes_on next (Ok a) h on = on a
goes_on next (Err e) h on = h

unless-so : {X : Type 0} (o : Option ConfigError) (r : Result X ConfigError) → IfSome o IsReason → HasReason r → HasReason (unless o r)
unless-so None r h k = k
unless-so (Some e) r h k = h

some_if : (c : Bool) (o : Option ConfigError) (e : ConfigError) → IfSome o IsReason → IsReason e → IfSome (cond c o (Some e)) IsReason
some_if true o e h k = h
some_if false o e h k = k

one_head : (wanted : StreamHead → Bool) (heads : List StreamHead) → HasReason (only_head wanted heads)
one_head wanted [] = λ e. cc
one_head wanted (h ∷ []) = if_so (wanted h) (Ok h) (Err Kind) tt (λ e. cc)
one_head wanted (h ∷ i ∷ hs) = λ e. cc

taken : {T : Type 0} (others : T → Result T ConfigError) (o : Option T) → ((t : T) → HasReason (others t)) → HasReason (taken_by others o)
taken others None on = λ e. cc
taken others (Some t) on = on t

given : {T : Type 0} (set : ℕ → Option T) (others : T → Result T ConfigError) (o : Option ℕ) → ((t : T) → HasReason (others t)) → HasReason (given_by set others o)
given set others None on = λ e. cc
given set others (Some option) on = taken others (set option) on

read : {S T : Type 0} (manual : Manual S) (set : T → ℕ → List ℕ → Option T) (keyed : Bool) (place : ℕ) (t : T) (args : List Arg)
    → HasReason (read_by manual set keyed place t args)
read manual set keyed place t [] = tt
read manual set keyed place t (a ∷ others) =
    given (λ option. set t option a.value) (λ u. read_by manual set (keyed || is_some a.key) (place + 1) u others) (option_of manual keyed place a.key)
    (λ u. read manual set (keyed || is_some a.key) (place + 1) u others)

pub configured-so : {S T X : Type 0} (wanted : StreamHead → Bool) (manual : Manual S) (set : T → ℕ → List ℕ → Option T) (t : T)
    (made : StreamHead → T → Result X ConfigError) (args : List Arg) (heads : List StreamHead)
    → ((head : StreamHead) (u : T) → HasReason (made head u)) → HasReason (configured_by wanted manual set t made args heads)
configured-so wanted manual set t made args heads on =
    goes_on (λ head. and_then (made head) (read_by manual set false 0 t args)) (only_head wanted heads) (one_head wanted heads)
    (λ head. goes_on (made head) (read_by manual set false 0 t args) (read manual set false 0 t args) (on head))

pub cropped-so : (head : StreamHead) (s : CropSettings) → HasReason (cropped_as head s)
cropped-so (Audio tb rate bits channels codec) s = λ e. cc
cropped-so (Video tb format width height sar_num sar_den) s = if_so (can_crop width height (crop_part format width height s)) _ _ tt (λ e. cc)

pub padded-so : (head : StreamHead) (s : PadSettings) → HasReason (padded_as head s)
padded-so (Audio tb rate bits channels codec) s = λ e. cc
padded-so (Video tb format width height sar_num sar_den) s =
    if_so (can_pad (pad_of (Video tb format width height sar_num sar_den) format width height s)) _ _ tt (λ e. cc)

planned : (d : Direction) (heads : List StreamHead) (s : StackSettings) → HasReason (stacked_as d heads s)
planned d [] s = λ e. cc
planned d (h ∷ hs) s =
    unless-so (stack_fault d h (h ∷ hs)) _
    (some_if _ (cond (has_size d h (h ∷ hs)) None (Some BadSize)) Mismatch (some_if (has_size d h (h ∷ hs)) None BadSize tt (λ e. cc)) (λ e. cc)) tt

pub stack-so : (d : Direction) (args : List Arg) (heads : List StreamHead) → HasReason (stack_by d args heads)
stack-so d args heads =
    unless-so (input_fault (counted false 0 2 args) is_video heads) _
    (some_if (nat_eq (length heads) (counted false 0 2 args)) _ Pads (some_if _ None Kind tt (λ e. cc)) (λ e. cc))
    (goes_on (stacked_as d heads) (read_by stack_manual set_stack false 0 (record { inputs = 2; shortest = false }) args)
    (read stack_manual set_stack false 0 (record { inputs = 2; shortest = false }) args) (planned d heads))

pub concat-so : (args : List Arg) (heads : List StreamHead) → HasReason (concat_by args heads)
concat-so args heads =
    segments-so IsReason args heads (read_by concat_manual concat_set false 0 (concat_start args) args) (λ e. cc) (λ e. cc) (λ e. cc)
    (read concat_manual concat_set false 0 (concat_start args) args)

joined : (heads : List StreamHead) → HasReason (joined_as heads)
joined [] = λ e. cc
joined (h ∷ hs) = if_so (each_head (is_like h) hs) _ _ (if_so (nat_le (channels_in (h ∷ hs)) 8) _ _ tt (λ e. cc)) (λ e. cc)

pub join-so : (args : List Arg) (heads : List StreamHead) → HasReason (join_by args heads)
join-so args heads =
    if_so (length heads == inputs_said args) _ _
    (if_so (each_head is_sound heads) _ _
    (goes_on (λ s. joined_as heads) (read_by join_manual set_join false 0 (record { inputs = 2 }) args)
    (read join_manual set_join false 0 (record { inputs = 2 }) args) (λ s. joined heads))
    (λ e. cc)) (λ e. cc)
