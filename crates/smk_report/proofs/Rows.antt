-- The line and the status of each fault, computed.
use Rattle.std.proofs.Common.{◌≡◌, ℕ, [], ◌∷◌, ◌++◌, codes, refl}
use Rattle.std.specs.Fmt.{digits}
use Rattle.smk_flow.specs.declared.fault.FlowFault.{FlowFault}
use Rattle.smk_flow.specs.declared.fault.FlowFault.TheVariants as rules
use Rattle.smk_eval_values.specs.declared.fault.ValueFault.{ValueFault}
use Rattle.smk_eval_values.specs.declared.fault.ValueFault.TheVariants as value
use Rattle.smk_flaws.specs.declared.flaw.FileFlaw.{FileFlaw}
use Rattle.smk_flaws.specs.declared.flaw.FileFlaw.TheVariants as file_flaw
use Rattle.smk_flaws.specs.declared.flaw.SaidFlaw.TheVariants.{Value, Rules}
use Rattle.smk_flaws.specs.declared.flaw.Flaw.TheVariants as flaw
use Rattle.smk_report.specs.declared.fault.Fault.{Fault}
use Rattle.smk_report.specs.declared.fault.Fault.TheVariants as fault
use Rattle.smk_report.specs.Lines.{Text}
use Rattle.smk_report.specs.Faults.{fault_text, fault_status}

abbrev file : Text
file = codes "Snakefile"

-- the fault of a file that isn't read
abbrev of_file : FileFlaw → Fault
of_file f = fault.Workflow (flaw.File f)

-- of an expression without a value, in a statement of this rule
abbrev of_value : Text → ValueFault → Fault
of_value rule f = fault.Workflow (flaw.Said (Value file 12 rule f))

-- of rules and clauses that make no workflow
abbrev of_rules : FlowFault → Fault
of_rules f = fault.Workflow (flaw.Said (Rules f))

-- a fault with its status and what its line says
abbrev Ends : Fault → ℕ → Text → Type 0
Ends f status text = (fault_status f ≡ status) × (fault_text f ≡ codes "smk: " ++ (text ++ 10 ∷ []))

pub is_bad_indent : Ends (of_file (file_flaw.BadIndent file 12)) 3 (codes "Snakefile:12: indentation does not fit")
unfolding digits
is_bad_indent = (refl, refl)

pub is_open_text : Ends (of_file (file_flaw.OpenText file 12)) 3 (codes "Snakefile:12: text is not closed")
unfolding digits
is_open_text = (refl, refl)

pub is_bad_byte : Ends (of_file (file_flaw.BadByte file 12)) 3 (codes "Snakefile:12: byte not allowed")
unfolding digits
is_bad_byte = (refl, refl)

pub is_unexpected : Ends (of_file (file_flaw.Unexpected file 12)) 3 (codes "Snakefile:12: not expected here")
unfolding digits
is_unexpected = (refl, refl)

pub is_unsupported : Ends (of_file (file_flaw.Unsupported file 12 (codes "run"))) 3 (codes "Snakefile:12: not supported: run")
unfolding digits
is_unsupported = (refl, refl)

pub is_doubled : Ends (of_file (file_flaw.Doubled file 12 (codes "input"))) 3 (codes "Snakefile:12: given twice: input")
unfolding digits
is_doubled = (refl, refl)

pub is_bad_pattern : Ends (of_rules (rules.BadPattern file 12 (codes "a{"))) 3 (codes "Snakefile:12: not a path pattern: a{")
unfolding digits
is_bad_pattern = (refl, refl)

pub is_bad_constraint : Ends (of_rules (rules.BadConstraint file 12 (codes "s"))) 3 (codes "Snakefile:12: not a constraint: s")
unfolding digits
is_bad_constraint = (refl, refl)

pub is_doubled_rule : Ends (of_rules (rules.DoubledRule file 12 (codes "r"))) 3 (codes "Snakefile:12: rule given twice: r")
unfolding digits
is_doubled_rule = (refl, refl)

pub is_unequal_wildcards : Ends (of_rules (rules.UnequalWildcards file 12 (codes "r"))) 3 (codes "Snakefile:12: unequal wildcards in r")
unfolding digits
is_unequal_wildcards = (refl, refl)

pub is_unknown_wildcard : Ends (of_rules (rules.UnknownWildcard file 12 (codes "r") (codes "s"))) 3 (codes "Snakefile:12: unknown wildcard in r: s")
unfolding digits
is_unknown_wildcard = (refl, refl)

pub is_bad_flag : Ends (of_value (codes "r") (value.BadFlag (codes "temp"))) 3 (codes "Snakefile:12: does not stand in r: temp")
unfolding digits
is_bad_flag = (refl, refl)

pub is_bad_config : Ends (fault.Workflow (flaw.BadConfig (codes "c.json"))) 3 (codes "bad configuration: c.json ")
is_bad_config = (refl, refl)

-- of a key
pub is_bad_setting : Ends (of_value [] (value.BadConfig (codes "a.b"))) 3 (codes "bad configuration:  a.b")
unfolding digits
is_bad_setting = (refl, refl)

-- of rules
pub is_bad_rule_flag : Ends (of_rules (rules.BadFlag file 12 (codes "r") (codes "temp"))) 3 (codes "Snakefile:12: does not stand in r: temp")
unfolding digits
is_bad_rule_flag = (refl, refl)

-- of a clause
pub is_unknown_rule : Ends (of_rules (rules.UnknownName file 12 (codes "x"))) 3 (codes "Snakefile:12: unknown name: x")
unfolding digits
is_unknown_rule = (refl, refl)

pub is_no_key : Ends (of_value [] (value.NoKey (codes "a.b"))) 3 (codes "Snakefile:12: no configuration for a.b")
unfolding digits
is_no_key = (refl, refl)

pub is_unknown_name : Ends (of_value [] (value.UnknownName (codes "X"))) 3 (codes "Snakefile:12: unknown name: X")
unfolding digits
is_unknown_name = (refl, refl)

pub is_unequal_zip : Ends (of_value [] value.UnequalZip) 3 (codes "Snakefile:12: zip over unequal lists")
unfolding digits
is_unequal_zip = (refl, refl)

pub is_too_many : Ends (of_value [] value.TooMany) 3 (codes "Snakefile:12: expand gives too many")
unfolding digits
is_too_many = (refl, refl)

pub is_include_depth : Ends (of_file (file_flaw.IncludeDepth (codes "i.smk"))) 3 (codes "includes too deep: i.smk")
is_include_depth = (refl, refl)

pub is_contradictory_order : Ends (of_rules (rules.ContradictoryOrder (codes "x") (codes "y"))) 3 (codes "contradictory order: x and y")
is_contradictory_order = (refl, refl)

pub is_no_rule : Ends (fault.NoRule (codes "p")) 3 (codes "no rule for p")
is_no_rule = (refl, refl)

pub is_no_input : Ends (fault.NoInput (codes "p") (codes "r") (codes "q")) 3 (codes "no input for p: rule r wants q")
is_no_input = (refl, refl)

pub is_ambiguous : Ends (fault.Ambiguous (codes "p") (codes "x") (codes "y")) 3 (codes "ambiguous: p by x and y")
is_ambiguous = (refl, refl)

pub is_deep : Ends (fault.Deep (codes "p")) 3 (codes "chain too deep: p")
is_deep = (refl, refl)

pub is_too_many_paths : Ends (fault.TooManyPaths 100001) 3 (codes "too many paths")
unfolding digits
is_too_many_paths = (refl, refl)

pub is_clash : Ends (fault.Clash (codes "p") (codes "q")) 3 (codes "clash: p and q")
is_clash = (refl, refl)

pub is_missing_member : Ends (fault.MissingMember (codes "p")) 3 (codes "not in its directory: p")
is_missing_member = (refl, refl)

pub is_no_command : Ends (fault.NoCommand (codes "r")) 3 (codes "no command: r")
is_no_command = (refl, refl)

pub is_locked : Ends (fault.Locked) 3 (codes "locked")
is_locked = (refl, refl)

pub is_stamp_seen : Ends (fault.StampSeen (codes "p")) 3 (codes "time seen before: p")
is_stamp_seen = (refl, refl)

pub is_serials : Ends (fault.Serials) 3 (codes "no serial left")
is_serials = (refl, refl)

pub is_incomplete : Ends (fault.Incomplete (codes "p" ∷ codes "q" ∷ [])) 3 (codes "incomplete: p q")
is_incomplete = (refl, refl)

pub is_protected : Ends (fault.Protected (codes "p")) 3 (codes "protected: p")
is_protected = (refl, refl)

pub is_above_limit : Ends (fault.AboveLimit (codes "r") (codes "p") (codes "mem_mb") 20 10) 3 (codes "above limit: r p asks 20 of mem_mb, bound 10")
unfolding digits
is_above_limit = (refl, refl)

pub is_unknown_field : Ends (fault.UnknownField (codes "r") (codes "{inputs}")) 3 (codes "unknown field in r: {inputs}")
is_unknown_field = (refl, refl)

pub is_too_long : Ends (fault.TooLong (codes "r") 120001) 3 (codes "too long: r")
unfolding digits
is_too_long = (refl, refl)

pub is_job_failed : Ends (fault.JobFailed (codes "r") (codes "p") 137) 1 (codes "job failed: r p: status 137")
unfolding digits
is_job_failed = (refl, refl)

pub is_no_output : Ends (fault.NoOutput (codes "r") (codes "p") (codes "q")) 1 (codes "job failed: r p: no output q")
is_no_output = (refl, refl)

pub is_wrong_kind : Ends (fault.WrongKind (codes "r") (codes "p") (codes "q")) 1 (codes "job failed: r p: wrong kind q")
is_wrong_kind = (refl, refl)

pub is_bad_words : Ends (fault.BadWords) 2 (codes "words not read")
is_bad_words = (refl, refl)

pub is_no_cores : Ends (fault.NoCores) 2 (codes "no --cores")
is_no_cores = (refl, refl)

pub is_no_file : Ends (of_file (file_flaw.NoFile (codes "Snakefile"))) 3 (codes "no file Snakefile")
is_no_file = (refl, refl)

pub is_too_big : Ends (of_file (file_flaw.TooBig (codes "Snakefile"))) 3 (codes "file too big: Snakefile")
is_too_big = (refl, refl)

pub is_bad_target : Ends (fault.BadTarget (codes "w")) 3 (codes "not a target: w")
is_bad_target = (refl, refl)

pub is_bad_member : Ends (fault.BadMember (codes "r") (codes "p") (codes "q")) 1 (codes "job failed: r p: bad member q")
is_bad_member = (refl, refl)

pub is_device : Ends (fault.Device) 4 (codes "device failed")
is_device = (refl, refl)

pub is_output : Ends (fault.Output) 6 (codes "output failed")
is_output = (refl, refl)

pub is_out_of_memory : Ends (fault.OutOfMemory) 5 (codes "out of memory")
is_out_of_memory = (refl, refl)
