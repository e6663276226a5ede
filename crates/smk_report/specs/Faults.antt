-- The texts of faults, and the statuses with which they end a call.
use Rattle.std.specs.Prelude.{ℕ, [], ◌∷◌, ◌++◌, decimal, codes, Option, Some, None}
use Rattle.smk_store.specs.declared.fault.StoreFault.{StoreFault}
use Rattle.smk_store.specs.declared.fault.StoreFault.TheVariants as store
use Rattle.smk_flow.specs.declared.fault.FlowFault.{FlowFault}
use Rattle.smk_flow.specs.declared.fault.FlowFault.TheVariants as rules
use Rattle.smk_eval_values.specs.declared.fault.ValueFault.{ValueFault}
use Rattle.smk_eval_values.specs.declared.fault.ValueFault.TheVariants as value
use Rattle.smk_flaws.specs.declared.flaw.FileFlaw.{FileFlaw}
use Rattle.smk_flaws.specs.declared.flaw.FileFlaw.TheVariants as file_flaw
use Rattle.smk_flaws.specs.declared.flaw.SaidFlaw.{SaidFlaw}
use Rattle.smk_flaws.specs.declared.flaw.SaidFlaw.TheVariants.{Value, Rules}
use Rattle.smk_flaws.specs.declared.flaw.Flaw.{Flaw}
use Rattle.smk_flaws.specs.declared.flaw.Flaw.TheVariants as flaw
use Rattle.smk_flaws.specs.declared.fault.LoadFault.{LoadFault}
use Rattle.smk_flaws.specs.declared.fault.LoadFault.TheVariants as load
use Rattle.smk_report.specs.declared.fault.Fault.{Fault}
use Rattle.smk_report.specs.declared.fault.Fault.TheVariants as fault
use Rattle.smk_report.specs.Lines.{Text, joined}

-- a file and a line of it
abbrev pub at_line : Text → ℕ → Text
at_line file row = file ++ (codes ":" ++ decimal row)

-- what is said of a file that isn't read
abbrev pub file_words : FileFlaw → Text
file_words (file_flaw.BadIndent file row) = at_line file row ++ codes ": indentation does not fit"
file_words (file_flaw.OpenText file row) = at_line file row ++ codes ": text is not closed"
file_words (file_flaw.BadByte file row) = at_line file row ++ codes ": byte not allowed"
file_words (file_flaw.Unexpected file row) = at_line file row ++ codes ": not expected here"
file_words (file_flaw.Unsupported file row word) = at_line file row ++ (codes ": not supported: " ++ word)
file_words (file_flaw.Doubled file row word) = at_line file row ++ (codes ": given twice: " ++ word)
file_words (file_flaw.IncludeDepth file) = codes "includes too deep: " ++ file
file_words (file_flaw.NoFile file) = codes "no file " ++ file
file_words (file_flaw.TooBig file) = codes "file too big: " ++ file

-- what is said of an expression without a value, in a statement of this file, line and rule
abbrev pub value_words : Text → ℕ → Text → ValueFault → Text
value_words file row rule (value.BadFlag word) = at_line file row ++ (codes ": does not stand in " ++ (rule ++ (codes ": " ++ word)))
value_words file row rule (value.UnknownName name) = at_line file row ++ (codes ": unknown name: " ++ name)
value_words file row rule (value.NoKey key) = at_line file row ++ (codes ": no configuration for " ++ key)
value_words file row rule (value.BadConfig key) = codes "bad configuration:  " ++ key
value_words file row rule value.UnequalZip = at_line file row ++ codes ": zip over unequal lists"
value_words file row rule value.TooMany = at_line file row ++ codes ": expand gives too many"
value_words file row rule value.OutOfMemory = codes "out of memory"

-- what is said of rules and clauses that make no workflow
abbrev pub rules_words : FlowFault → Text
rules_words (rules.DoubledRule file row name) = at_line file row ++ (codes ": rule given twice: " ++ name)
rules_words (rules.BadPattern file row text) = at_line file row ++ (codes ": not a path pattern: " ++ text)
rules_words (rules.BadConstraint file row name) = at_line file row ++ (codes ": not a constraint: " ++ name)
rules_words (rules.UnequalWildcards file row rule) = at_line file row ++ (codes ": unequal wildcards in " ++ rule)
rules_words (rules.UnknownWildcard file row rule name) = at_line file row ++ (codes ": unknown wildcard in " ++ (rule ++ (codes ": " ++ name)))
rules_words (rules.BadFlag file row rule word) = at_line file row ++ (codes ": does not stand in " ++ (rule ++ (codes ": " ++ word)))
rules_words (rules.UnknownName file row name) = at_line file row ++ (codes ": unknown name: " ++ name)
rules_words (rules.ContradictoryOrder a b) = codes "contradictory order: " ++ (a ++ (codes " and " ++ b))
rules_words rules.OutOfMemory = codes "out of memory"

-- what is said of what files say
abbrev pub said_words : SaidFlaw → Text
said_words (Value file row rule f) = value_words file row rule f
said_words (Rules f) = rules_words f

-- what is said of a workflow
abbrev pub flaw_words : Flaw → Text
flaw_words (flaw.File f) = file_words f
flaw_words (flaw.Said f) = said_words f
flaw_words (flaw.BadConfig file) = codes "bad configuration: " ++ (file ++ codes " ")

-- what is said of a fault
abbrev pub fault_words : Fault → Text
fault_words (fault.Workflow f) = flaw_words f
fault_words (fault.NoRule path) = codes "no rule for " ++ path
fault_words (fault.NoInput path rule wanted) = codes "no input for " ++ (path ++ (codes ": rule " ++ (rule ++ (codes " wants " ++ wanted))))
fault_words (fault.Ambiguous path a b) = codes "ambiguous: " ++ (path ++ (codes " by " ++ (a ++ (codes " and " ++ b))))
fault_words (fault.Deep path) = codes "chain too deep: " ++ path
fault_words (fault.TooManyPaths count) = codes "too many paths"
fault_words (fault.Clash path other) = codes "clash: " ++ (path ++ (codes " and " ++ other))
fault_words (fault.MissingMember path) = codes "not in its directory: " ++ path
fault_words (fault.NoCommand rule) = codes "no command: " ++ rule
fault_words fault.Locked = codes "locked"
fault_words (fault.StampSeen path) = codes "time seen before: " ++ path
fault_words fault.Serials = codes "no serial left"
fault_words (fault.Incomplete paths) = codes "incomplete: " ++ joined (codes " ") paths
fault_words (fault.Protected path) = codes "protected: " ++ path
fault_words (fault.AboveLimit rule path name asked bound) = codes "above limit: " ++ (rule ++ (codes " " ++ (path ++ (codes " asks " ++ (decimal asked ++ (codes " of " ++ (name ++ (codes ", bound " ++ decimal bound))))))))
fault_words (fault.UnknownField rule word) = codes "unknown field in " ++ (rule ++ (codes ": " ++ word))
fault_words (fault.TooLong rule bytes) = codes "too long: " ++ rule
fault_words (fault.JobFailed rule path code) = codes "job failed: " ++ (rule ++ (codes " " ++ (path ++ (codes ": status " ++ decimal code))))
fault_words (fault.NoOutput rule path missing) = codes "job failed: " ++ (rule ++ (codes " " ++ (path ++ (codes ": no output " ++ missing))))
fault_words (fault.WrongKind rule path wrong) = codes "job failed: " ++ (rule ++ (codes " " ++ (path ++ (codes ": wrong kind " ++ wrong))))
fault_words fault.BadWords = codes "words not read"
fault_words fault.NoCores = codes "no --cores"
fault_words (fault.BadTarget word) = codes "not a target: " ++ word
fault_words (fault.BadMember rule path bad) = codes "job failed: " ++ (rule ++ (codes " " ++ (path ++ (codes ": bad member " ++ bad))))
fault_words fault.Device = codes "device failed"
fault_words fault.Output = codes "output failed"
fault_words fault.OutOfMemory = codes "out of memory"

-- the line of a fault
abbrev pub fault_text : Fault → Text
fault_text f = codes "smk: " ++ (fault_words f ++ 10 ∷ [])

abbrev pub fault_status : Fault → ℕ
fault_status (fault.Workflow f) = 3
fault_status (fault.NoRule path) = 3
fault_status (fault.NoInput path rule wanted) = 3
fault_status (fault.Ambiguous path a b) = 3
fault_status (fault.Deep path) = 3
fault_status (fault.TooManyPaths count) = 3
fault_status (fault.Clash path other) = 3
fault_status (fault.MissingMember path) = 3
fault_status (fault.NoCommand rule) = 3
fault_status fault.Locked = 3
fault_status (fault.StampSeen path) = 3
fault_status fault.Serials = 3
fault_status (fault.Incomplete paths) = 3
fault_status (fault.Protected path) = 3
fault_status (fault.AboveLimit rule path name asked bound) = 3
fault_status (fault.UnknownField rule word) = 3
fault_status (fault.TooLong rule bytes) = 3
fault_status (fault.JobFailed rule path code) = 1
fault_status (fault.NoOutput rule path missing) = 1
fault_status (fault.WrongKind rule path wrong) = 1
fault_status fault.BadWords = 2
fault_status fault.NoCores = 2
fault_status (fault.BadTarget word) = 3
fault_status (fault.BadMember rule path bad) = 1
fault_status fault.Device = 4
fault_status fault.Output = 6
fault_status fault.OutOfMemory = 5

-- the status of an outcome: 0 without a fault
abbrev pub status_of : Option Fault → ℕ
status_of None = 0
status_of (Some f) = fault_status f

-- the fault of a call that has this one of its workflow
abbrev pub of_load : LoadFault → Fault
of_load (load.Flawed f) = fault.Workflow f
of_load load.Device = fault.Device
of_load load.OutOfMemory = fault.OutOfMemory

-- the fault of a call that has this one of its store
abbrev pub of_store : StoreFault → Fault
of_store (store.StampSeen p) = fault.StampSeen p
of_store store.Device = fault.Device
of_store store.OutOfMemory = fault.OutOfMemory
