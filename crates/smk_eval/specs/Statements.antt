-- What files read as: what their statements lead to, in order, and the workflow that this is.
use Rattle.std.specs.Prelude.{◌≡◌, ℕ, Bool, true, false, List, [], ◌∷◌, ◌++◌, map, bytes_eq, if◌then◌else◌, Option, Some, None, Result, Ok, Err}
use Rattle.std.specs.List.{list_any}
use Rattle.serde_json.specs.Data.{Members}
use Rattle.smk_base.specs.declared.tree.Pair.{Pair}
use Rattle.smk_parse_tree.specs.declared.syntax.Form.{Form}
use Rattle.smk_parse_tree.specs.declared.syntax.Form.TheVariants.{Assign, Rule, Order, LocalRules, ConfigFile, Include, Container, Limits}
use Rattle.smk_parse_tree.specs.declared.syntax.OutputPick.{OutputPick}
use Rattle.smk_parse_tree.specs.declared.syntax.Expr.{Expr}
use Rattle.smk_parse_tree.specs.declared.syntax.RuleForm.{RuleForm}
use Rattle.smk_parse_tree.specs.declared.syntax.ItemForm.{ItemForm}
use Rattle.smk_eval_values.specs.declared.value.Value.{Value}
use Rattle.smk_eval_values.specs.declared.fault.ValueFault.{ValueFault}
use Rattle.smk_eval_values.specs.declared.fault.ValueFault.TheVariants as of_value
use Rattle.smk_eval_values.specs.Expressions.{Scope, Valued, value_in}
use Rattle.smk_flow.specs.declared.rule.RulePart.{RulePart}
use Rattle.smk_flow.specs.declared.rule.Clause.{Clause}
use Rattle.smk_flow.specs.declared.fault.FlowFault.{FlowFault}
use Rattle.smk_flow.specs.Flows.{Flow}
use Rattle.smk_flow.specs.Checks.{rule_in, IsFault}
use Rattle.smk_eval_rules.specs.Rules.{rule_of, global_limits, with_globals}
use Rattle.smk_eval_rules.specs.Outputs.{outputs_of}
use Rattle.smk_eval_files.specs.declared.files.ReadFile.{ReadFile}
use Rattle.smk_eval_files.specs.Texts.{Entry, whole}
use Rattle.smk_flaws.specs.declared.flaw.SaidFlaw.TheVariants as flaw
use Rattle.smk_flaws.specs.declared.fault.EvalFault.{EvalFault}
use Rattle.smk_flaws.specs.declared.fault.EvalFault.TheVariants as fault
use Rattle.smk_flaws.specs.Faults.{of_flow}
use Rattle.smk_eval.specs.Settings.{config_value}

abbrev pub and_then : {A B : Type 0} → Result A EvalFault → (A → Result B EvalFault) → Result B EvalFault
and_then (Ok a) next = next a
and_then (Err f) next = Err f

-- The answer is what is meant, a value or a fault, unless memory was short.
abbrev pub Tells : {A : Type 0} → Result A EvalFault → Result A EvalFault → Type 0
Tells (Ok a) meant = meant ≡ Ok a
Tells (Err f) meant = ((f ≡ fault.OutOfMemory) → ⊥) → meant ≡ Err f

-- What the statements so far lead to: the values of constants by name, the rules in order, the constraints of the whole file, later ones
-- first, and the clauses of `ruleorder`, in order.
pub record State : Type 0 where
  pub constant : List ℕ → Option Value
  pub rules : List RulePart
  pub limits : List Pair
  pub orders : List Clause

abbrev pub begun : State
begun = record { constant = λ name. None; rules = []; limits = []; orders = [] }

-- ## What names stand for after these statements

abbrev pub outputs_in : List ℕ → Option RulePart → OutputPick → Valued
outputs_in name None pick = Err (of_value.UnknownName name)
outputs_in name (Some part) pick = outputs_of part pick

abbrev pub scope : Members → State → Scope
scope config s =
    record { constant = s.constant; outputs = λ name pick. outputs_in name (rule_in s.rules name) pick; config = config_value config }

-- ## One statement

-- the fault of a statement, which stands in this file and line, and in this rule where it is one
abbrev pub told : List ℕ → ℕ → List ℕ → ValueFault → EvalFault
told file line rule of_value.OutOfMemory = fault.OutOfMemory
told file line rule f = fault.Flawed (flaw.Value file line rule f)

abbrev pub made : {A : Type 0} → List ℕ → ℕ → List ℕ → Result A ValueFault → (A → State) → Result State EvalFault
made file line rule (Ok a) now = Ok (now a)
made file line rule (Err f) now = Err (told file line rule f)

-- a later value holds for what follows
abbrev pub with_constant : List ℕ → State → Value → State
with_constant name s v = record s { constant = λ q. if bytes_eq name q then Some v else s.constant q }

abbrev pub with_rule : State → RulePart → State
with_rule s part = record s { rules = s.rules ++ part ∷ [] }

abbrev pub with_limits : State → List Pair → State
with_limits s more = record s { limits = more ++ s.limits }

abbrev pub with_order : State → List ℕ → ℕ → List (List ℕ) → State
with_order s file line names = record s { orders = s.orders ++ record { names = names; file = file; line = line } ∷ [] }

-- the value of a constant; a value that doesn't stand there is told with the constant's name
abbrev pub assigned : Members → State → List ℕ → Expr → Valued
assigned config s name x = value_in name (scope config s) x

abbrev pub ruled : Members → State → List ℕ → ℕ → RuleForm → Result RulePart ValueFault
ruled config s file line form = rule_of (scope config s) [] form file line

abbrev pub limited : Members → State → List ItemForm → Result (List Pair) ValueFault
limited config s items = global_limits (scope config s) items

-- what the statements lead to with one of this form more
abbrev pub stated : Members → State → List ℕ → ℕ → Form → Result State EvalFault
stated config s file line (Assign name x) = made file line [] (assigned config s name x) (with_constant name s)
stated config s file line (Rule form) = made file line form.name (ruled config s file line form) (with_rule s)
stated config s file line (Order names) = Ok (with_order s file line names)
stated config s file line (LocalRules names) = Ok s
stated config s file line (ConfigFile t) = Ok s
stated config s file line (Include t) = Ok s
stated config s file line (Container t) = Ok s
stated config s file line (Limits items) = made file line [] (limited config s items) (with_limits s)

-- ## All statements

-- The first fault in their order is told.
abbrev pub all_stated : Members → State → List Entry → Result State EvalFault
all_stated config s [] = Ok s
all_stated config s (e ∷ es) = and_then (stated config s e.file e.statement.line e.statement.form) (λ now. all_stated config now es)

-- ## The default target

abbrev pub is_default : RulePart → Bool
is_default part = part.default_target

-- the rule, marked as the default target where it is to be
abbrev pub marked : Bool → RulePart → RulePart
marked false part = part
marked true part = record part { default_target = true }

abbrev pub stands_in : List ℕ → RulePart → Bool
stands_in file part = bytes_eq part.file file

-- the rules, the first that stands in this file marked as the default target
abbrev pub first_marked : List ℕ → List RulePart → List RulePart
first_marked file [] = []
first_marked file (part ∷ parts) = if stands_in file part then marked true part ∷ parts else part ∷ first_marked file parts

-- Where no rule says that it is the default target, that is the first of the file to begin with, whatever its includes have above.
abbrev pub with_default : List ℕ → List RulePart → List RulePart
with_default file parts = if list_any is_default parts then parts else first_marked file parts

-- the file to begin with
abbrev pub main_file : List ReadFile → List ℕ
main_file [] = []
main_file (f ∷ fs) = f.file

-- ## What is said

-- The constraints of the whole file hold in all rules, also in those above.
abbrev pub flow_of : List ℕ → State → Flow
flow_of file s = record { rules = with_default file (map (with_globals s.limits) s.rules); orders = s.orders }

-- the rules and the clauses that the files say, or the first fault of a statement
abbrev pub evaluated : Members → List ReadFile → Result Flow EvalFault
evaluated config files = and_then (all_stated config begun (whole files)) (λ s. Ok (flow_of (main_file files) s))

-- ## The checked workflow

-- Rules and clauses, where they are said, make no workflow, and this is their first fault.
abbrev pub FailsChecks : Result Flow EvalFault → EvalFault → Type 0
FailsChecks (Ok flow) f = (g : FlowFault) × (IsFault flow.rules flow.orders g) × (f ≡ of_flow g)
FailsChecks (Err e) f = ⊥
