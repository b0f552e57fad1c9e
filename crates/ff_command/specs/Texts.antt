-- The line of a fault, and the numbers of a status and of the program's end.
use Rattle.std.specs.Prelude.{ℕ, List, [], ◌++◌, codes, decimal}
use Rattle.ff_lists.specs.Text.{line}
use Rattle.ff_frame.specs.declared.config.ConfigError.{ConfigError}
use Rattle.ff_frame.specs.declared.config.ConfigError.TheVariants as config
use Rattle.ff_words.specs.declared.error.WordKind.{WordKind}
use Rattle.ff_words.specs.declared.error.WordKind.TheVariants as word
use Rattle.ff_plan_layout.specs.declared.error.PlanError.{PlanError}
use Rattle.ff_plan_layout.specs.declared.error.PlanError.TheVariants as refusal
use Rattle.ff_command.specs.declared.report.Status.{Status}
use Rattle.ff_command.specs.declared.report.Status.TheVariants as status
use Rattle.ff_command.specs.declared.report.Line.{Line}
use Rattle.ff_command.specs.declared.report.Line.TheVariants as became

-- what is wrong at a word
abbrev pub word_fault : WordKind → List ℕ
word_fault word.UnknownOption = codes "unknown option"
word_fault word.MissingValue = codes "missing value"
word_fault word.BadValue = codes "bad value"
word_fault (word.BadTime at) = codes "bad time at " ++ decimal at
word_fault (word.BadMap at) = codes "bad map at " ++ decimal at
word_fault (word.BadGraph at) = codes "bad graph at " ++ decimal at
word_fault word.Misplaced = codes "misplaced option"
word_fault word.TooMany = codes "too many"
word_fault word.NoInput = codes "no input"
word_fault word.NoOutput = codes "no output"
word_fault word.SameName = codes "same name"

-- why a filter can't be had
abbrev pub filter_fault : ConfigError → List ℕ
filter_fault config.UnknownFilter = codes "unknown filter"
filter_fault config.UnknownOption = codes "unknown option"
filter_fault config.BadOption = codes "bad option"
filter_fault config.Kind = codes "wrong kind"
filter_fault config.Pads = codes "wrong number of pads"
filter_fault config.Mismatch = codes "mismatch"
filter_fault config.BadSize = codes "bad size"
filter_fault config.NoMemory = codes "out of memory"

-- why there is no plan
abbrev pub plan_fault : PlanError → List ℕ
plan_fault (refusal.NoStream output map) = codes "output " ++ decimal output ++ codes " map " ++ decimal map ++ codes ": no stream"
plan_fault (refusal.NoStreams output) = codes "output " ++ decimal output ++ codes ": no streams"
plan_fault (refusal.UnknownLabel label) = codes "unknown label " ++ label
plan_fault (refusal.UnusedLabel label) = codes "unused label " ++ label
plan_fault (refusal.LabelTwice label) = codes "label " ++ label ++ codes " used twice"
plan_fault (refusal.Loop graph) = codes "loop in graph " ++ decimal graph
plan_fault (refusal.Config graph filter kind) = codes "graph " ++ decimal graph ++ codes " filter " ++ decimal filter ++ codes ": " ++ filter_fault kind
plan_fault (refusal.Takes output stream) = codes "output " ++ decimal output ++ codes " stream " ++ decimal stream ++ codes ": not taken"
plan_fault refusal.TooManyStreams = codes "too many streams"
plan_fault refusal.TooManyGraphs = codes "too many graphs"
plan_fault refusal.TooManySources = codes "too many sources"
plan_fault refusal.NoMemory = codes "out of memory"

-- what is wrong, with the name of the file of a device's fault
abbrev pub status_fault : Status → List ℕ → List ℕ
status_fault status.Fine name = []
status_fault (status.Words place kind) name = codes "word " ++ decimal place ++ codes ": " ++ word_fault kind
status_fault (status.Plan why) name = codes "plan: " ++ plan_fault why
status_fault (status.Device file) name = codes "device fault on " ++ name
status_fault (status.Damaged input offset) name = codes "input " ++ decimal input ++ codes ": damaged at offset " ++ decimal offset
status_fault (status.TooLong node) name = codes "node " ++ decimal node ++ codes ": stream too long"
status_fault (status.TooLarge output) name = codes "output " ++ decimal output ++ codes ": file too large"
status_fault (status.Unsupported input offset) name = codes "input " ++ decimal input ++ codes ": unsupported at offset " ++ decimal offset
status_fault status.NoMemory name = codes "out of memory"

-- the line that is logged for a status other than Fine
abbrev pub fault_text : Status → List ℕ → List ℕ
fault_text status name = line (codes "ffmpeg: " ++ status_fault status name)

-- the number of a status
abbrev pub number_of : Status → ℕ
number_of status.Fine = 0
number_of (status.Words place kind) = 1
number_of (status.Plan why) = 2
number_of (status.Device file) = 3
number_of (status.Damaged input offset) = 4
number_of (status.TooLong node) = 5
number_of (status.Unsupported input offset) = 6
number_of (status.TooLarge output) = 7
number_of status.NoMemory = 9

-- the number that the program ends with: that of the status, or 3 where a text that was asked for couldn't be logged
abbrev pub exit_number_of : Status → Line → ℕ
exit_number_of status.Fine became.Failed = 3
exit_number_of answer became_of_it = number_of answer
