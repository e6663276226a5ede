-- The workflow of a working folder, as its files stand there.
use Rattle.std.specs.Prelude.{◌≡◌, ◌⊎◌, ℕ, true, List, [], ◌∷◌, if◌then◌else◌, Option, Some, None, Result, Ok, Err}
use Rattle.std.specs.List.{flat_map}
use Rattle.std.specs.Str.{is_utf8}
use Rattle.serde_json.specs.Data.{Members, no_members, put, string}
use Rattle.smk_base.specs.declared.tree.Pair.{Pair}
use Rattle.smk_base.specs.Path.{is_path}
use Rattle.smk_config.specs.Settings.{configured, over}
use Rattle.smk_parse_tree.specs.declared.syntax.Form.{Form}
use Rattle.smk_parse_tree.specs.declared.syntax.Form.TheVariants.{Assign, Rule, Order, LocalRules, ConfigFile, Include, Container, Limits}
use Rattle.smk_flow.specs.Flows.{Flow}
use Rattle.smk_flow.specs.Checks.{IsWorkflow}
use Rattle.smk_eval_files.specs.declared.files.ReadFile.{ReadFile}
use Rattle.smk_eval_files.specs.Texts.{Entry, whole}
use Rattle.smk_eval_files.specs.Looks.{Nodes}
use Rattle.smk_eval_files.specs.Reading.{bytes_at, files_at}
use Rattle.smk_flaws.specs.declared.flaw.FileFlaw.TheVariants.{NoFile}
use Rattle.smk_flaws.specs.declared.flaw.Flaw.TheVariants.{File, BadConfig}
use Rattle.smk_flaws.specs.declared.fault.EvalFault.{EvalFault}
use Rattle.smk_flaws.specs.declared.fault.LoadFault.{LoadFault}
use Rattle.smk_flaws.specs.declared.fault.LoadFault.TheVariants.{Flawed}
use Rattle.smk_flaws.specs.Faults.{of_eval}
use Rattle.smk_eval.specs.Statements.{evaluated, FailsChecks}
use Rattle.smk_eval.specs.Faults.{and_then, from_files, from_said, is_told}
use Rattle.smk_eval.specs.Waiting.{waited}

-- ## Configurations

abbrev pub config_of : Form → List (List ℕ)
config_of (Assign name x) = []
config_of (Rule form) = []
config_of (Order names) = []
config_of (LocalRules names) = []
config_of (ConfigFile t) = t ∷ []
config_of (Include t) = []
config_of (Container t) = []
config_of (Limits items) = []

-- the texts of the `configfile` statements, in order
abbrev pub config_files : List Entry → List (List ℕ)
config_files = flat_map (λ (e : Entry). config_of e.statement.form)

abbrev pub object_or : List ℕ → Option Members → Result Members LoadFault
object_or file None = Err (Flawed (BadConfig file))
object_or file (Some members) = Ok members

-- the configuration that the bytes of a file are
abbrev pub config_in : List ℕ → List ℕ → Result Members LoadFault
config_in file source = object_or file (if is_utf8 source then configured source else None)

-- the path from the working folder that a text names
abbrev pub config_path : List ℕ → Result (List ℕ) LoadFault
config_path t = if is_path t then Ok t else Err (Flawed (File (NoFile t)))

-- the configuration in the file at this path
abbrev pub config_file : Nodes → List ℕ → Result Members LoadFault
config_file nodes path = and_then (from_files (bytes_at nodes path)) (config_in path)

abbrev pub config_at : Nodes → List ℕ → Result Members LoadFault
config_at nodes t = and_then (config_path t) (config_file nodes)

-- a configuration with that of one more file over it
abbrev pub with_config : Nodes → Members → List ℕ → Result Members LoadFault
with_config nodes was t = and_then (config_at nodes t) (λ m. Ok (over m was))

-- the configurations of these files, later ones over earlier ones
abbrev pub configs : Nodes → Members → List (List ℕ) → Result Members LoadFault
configs nodes was [] = Ok was
configs nodes was (t ∷ ts) = and_then (with_config nodes was t) (λ now. configs nodes now ts)

-- with the texts that are set, later ones over earlier ones
abbrev pub with_sets : Members → List Pair → Members
with_sets was [] = was
with_sets was (p ∷ ps) = with_sets (put p.name (string p.value) was) ps

-- ## The workflow

-- the rules and the clauses that these files say with this configuration, for whose commands the shell waits
abbrev pub said_in : Members → List ReadFile → Result Flow LoadFault
said_in config files = and_then (from_said (evaluated config files)) waited

-- the same with the configurations that they name
abbrev pub said_by : Nodes → List Pair → List ReadFile → Result Flow LoadFault
said_by nodes sets files = and_then (configs nodes no_members (config_files (whole files))) (λ m. said_in (with_sets m sets) files)

-- the same of the file at this path with its includes: files first, then configurations, then statements
abbrev pub loaded : Nodes → List ℕ → List Pair → Result Flow LoadFault
loaded nodes file sets = and_then (from_files (files_at nodes file)) (said_by nodes sets)

-- Rules and clauses, where they are said, make no workflow, and this is their first fault.
abbrev pub FailsAs : Result Flow LoadFault → LoadFault → Type 0
FailsAs (Ok flow) f = (e : EvalFault) × (FailsChecks (Ok flow) e) × (f ≡ of_eval e)
FailsAs (Err e) f = ⊥

-- The answer is the workflow that is said and passes all checks, or the first fault, unless the device failed or memory was short.
abbrev pub Gives : Result Flow LoadFault → Result Flow LoadFault → Type 0
Gives said (Ok flow) = (said ≡ Ok flow) × IsWorkflow flow.rules flow.orders
Gives said (Err f) = is_told f ≡ true → (said ≡ Err f) ⊎ FailsAs said f
