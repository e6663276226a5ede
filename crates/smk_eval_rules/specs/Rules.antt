-- The rule that a rule's form makes.
use Rattle.std.specs.Prelude.{ℕ, Bool, false, not, List, [], ◌∷◌, ◌++◌, map, filter, codes, bytes_eq, if◌then◌else◌, Some, None, Result, Ok}
use Rattle.std.specs.List.{list_any}
use Rattle.smk_base.specs.declared.tree.Pair.{Pair}
use Rattle.smk_parse_tree.specs.declared.syntax.RuleForm.{RuleForm}
use Rattle.smk_parse_tree.specs.declared.syntax.DirectiveForm.{DirectiveForm}
use Rattle.smk_parse_tree.specs.declared.syntax.ItemForm.{ItemForm}
use Rattle.smk_eval_values.specs.declared.fault.ValueFault.{ValueFault}
use Rattle.smk_eval_values.specs.Expressions.{Scope, Named, and_then, named_in}
use Rattle.smk_flow.specs.declared.rule.RulePart.{RulePart}
use Rattle.smk_eval_rules.specs.declared.directive.Directive.{Directive}
use Rattle.smk_eval_rules.specs.declared.directive.Directive.TheVariants as is
use Rattle.smk_eval_rules.specs.declared.logs.NamedRule.{NamedRule}
use Rattle.smk_eval_rules.specs.declared.logs.Logs.{Logs}
use Rattle.smk_eval_rules.specs.Logs.{all_logs, with_places}
use Rattle.smk_eval_rules.specs.Items.{each_item, input, output, param, limit, all_resources, one_number, one_text, one_truth, greatest}

-- the directive of a word other than `log`; all that are read and ignored are one
unfoldable pub directive_of : List ℕ → Directive
directive_of w =
    if bytes_eq w (codes "input") then is.Input
    else (if bytes_eq w (codes "output") then is.Output
    else (if bytes_eq w (codes "params") then is.Params
    else (if bytes_eq w (codes "threads") then is.Threads
    else (if bytes_eq w (codes "priority") then is.Priority
    else (if bytes_eq w (codes "resources") then is.Resources
    else (if bytes_eq w (codes "wildcard_constraints") then is.Limits
    else (if bytes_eq w (codes "shell") then is.Shell
    else (if bytes_eq w (codes "default_target") then is.DefaultTarget else is.Ignored))))))))

-- what a rule has before its directives
abbrev pub begun_part : RuleForm → List ℕ → ℕ → RulePart
begun_part form file line =
    record {
      name = form.name;
      checkpoint = form.checkpoint;
      inputs = [];
      outputs = [];
      params = [];
      logs = [];
      threads = 1;
      amounts = [];
      words = [];
      priority = 0;
      limits = [];
      default_target = false;
      command = None;
      file = file;
      line = line;
    }

abbrev pub begun : RuleForm → List ℕ → ℕ → NamedRule
begun form file line = record { part = begun_part form file line; logs = [] }

-- the rule with what a directive of this word says
abbrev pub said : Directive → List ℕ → RulePart → List Named → Result RulePart ValueFault
said is.Input word p items = and_then (each_item (input word) items) (λ x. Ok (record p { inputs = x }))
said is.Output word p items = and_then (each_item (output word) items) (λ x. Ok (record p { outputs = x }))
said is.Params word p items = and_then (each_item (param word) items) (λ x. Ok (record p { params = x }))
said is.Threads word p items = and_then (one_number word 1 4096 items) (λ x. Ok (record p { threads = x }))
said is.Priority word p items = and_then (one_number word 0 greatest items) (λ x. Ok (record p { priority = x }))
said is.Resources word p items = and_then (all_resources word items) (λ x. Ok (record p { amounts = x.amounts; words = x.words }))
said is.Limits word p items = and_then (each_item (limit word) items) (λ x. Ok (record p { limits = x }))
said is.Shell word p items = and_then (one_text word items) (λ x. Ok (record p { command = Some x }))
said is.DefaultTarget word p items = and_then (one_truth word items) (λ x. Ok (record p { default_target = x }))
said is.Ignored word p items = Ok p

-- with what a directive says that isn't `log`
abbrev pub with_other : Scope → RulePart → DirectiveForm → Result RulePart ValueFault
with_other s p d = said (directive_of d.word) d.word p (map (named_in d.word s) d.items)

-- with the logs of a directive
abbrev pub with_logs : RulePart → Logs → NamedRule
with_logs p logs = record { part = record p { logs = logs.texts }; logs = logs.items }

abbrev pub with_directive : Scope → NamedRule → DirectiveForm → Result NamedRule ValueFault
with_directive s r d =
    if bytes_eq d.word (codes "log") then and_then (all_logs d.word (map (named_in d.word s) d.items)) (λ x. Ok (with_logs r.part x))
    else and_then (with_other s r.part d) (λ p. Ok (record { part = p; logs = r.logs }))

-- directives in order, up to the first fault
abbrev pub with_directives : Scope → NamedRule → List DirectiveForm → Result NamedRule ValueFault
with_directives s p [] = Ok p
with_directives s p (d ∷ ds) = and_then (with_directive s p d) (λ now. with_directives s now ds)

abbrev pub is_among : List Pair → List ℕ → Bool
is_among limits name = list_any (λ (p : Pair). bytes_eq p.name name) limits

-- those that have other names than these
abbrev pub others : List Pair → List Pair → List Pair
others limits = filter (λ (g : Pair). not (is_among limits g.name))

-- a rule with the constraints of the whole file for all names but those of its own constraints
abbrev pub with_globals : List Pair → RulePart → RulePart
with_globals globals p = record p { limits = p.limits ++ others p.limits globals }

-- The rule of a form that stands in this file, its first line being this one, or the first fault of its directives. Its command has the
-- places of logs in the stead of their names.
abbrev pub rule_of : Scope → List Pair → RuleForm → List ℕ → ℕ → Result RulePart ValueFault
rule_of s globals form file line = and_then (with_directives s (begun form file line) form.directives) (λ r. Ok (with_globals globals (with_places r)))

-- the constraints that a statement of the whole file gives
abbrev pub global_limits : Scope → List ItemForm → Result (List Pair) ValueFault
global_limits s items = each_item (limit (codes "wildcard_constraints")) (map (named_in (codes "wildcard_constraints") s) items)
