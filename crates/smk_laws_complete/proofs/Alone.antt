-- Items of inputs gather alone, from the values of items to the workflow of files.
use Rattle.std.proofs.Common.{◌≡◌, ◌⊎◌, ℕ, Bool, true, false, List, [], ◌∷◌, ◌++◌, map, refl, sym, ap, subst, inl, inr, Some, Result, Ok, Err, is_some, true≢false}
use Rattle.std.specs.List.{list_any}
use Rattle.std.specs.Prelude.{bytes_eq, codes, if◌then◌else◌}
use Rattle.serde_json.specs.Data.{Members, no_members}
use Rattle.smk_base.specs.declared.tree.Pair.{Pair}
use Rattle.smk_world.specs.Trees.{IsIn}
use Rattle.smk_parse_tree.specs.declared.syntax.RuleForm.{RuleForm}
use Rattle.smk_parse_tree.specs.declared.syntax.DirectiveForm.{DirectiveForm}
use Rattle.smk_parse_tree.specs.declared.syntax.Form.{Form}
use Rattle.smk_parse_tree.specs.declared.syntax.Form.TheVariants.{Assign, Rule, Order, LocalRules, ConfigFile, Include, Container, Limits}
use Rattle.smk_eval_values.specs.declared.value.Value.{Value}
use Rattle.smk_eval_values.specs.declared.value.Value.TheVariants.{Word, Number, Truth, Many, Flagged as HasFlags, Gathered as IsGathered}
use Rattle.smk_eval_values.specs.declared.fault.ValueFault.{ValueFault}
use Rattle.smk_eval_values.specs.Expressions.{Scope, Named, named_in, each}
use Rattle.smk_eval_values.specs.Expressions as values
use Rattle.smk_flow.specs.declared.rule.InPart.{InPart}
use Rattle.smk_flow.specs.declared.rule.RulePart.{RulePart}
use Rattle.smk_flow.specs.Flows.{Flow}
use Rattle.smk_eval_rules.specs.declared.logs.NamedRule.{NamedRule}
use Rattle.smk_eval_rules.specs.Logs.{all_logs, with_places}
use Rattle.smk_eval_rules.specs.Items.{added, all_resources, each_item, greatest, input, limit, one_number, one_text, one_truth, output, param, written}
use Rattle.smk_eval_rules.specs.Rules.{begun, directive_of, rule_of, said, with_directive, with_directives, with_globals, with_logs, with_other}
use Rattle.smk_flaws.specs.declared.fault.EvalFault.{EvalFault}
use Rattle.smk_flaws.specs.declared.fault.LoadFault.{LoadFault}
use Rattle.smk_eval_files.specs.declared.files.ReadFile.{ReadFile}
use Rattle.smk_eval_files.specs.Texts.{Entry, whole}
use Rattle.smk_eval_files.specs.Reading.{files_at}
use Rattle.smk_eval.specs.Faults as load
use Rattle.smk_eval.specs.Faults.{from_files, from_said}
use Rattle.smk_eval.specs.Loading.{config_files, configs, said_by, said_in, with_sets}
use Rattle.smk_eval.specs.Waiting.{all_wait, waited}
use Rattle.smk_eval.specs.Statements as statements
use Rattle.smk_eval.specs.Statements.{State, all_stated, assigned, evaluated, first_marked, flow_of, is_default, limited, made, main_file, marked, ruled, stands_in, stated, with_constant, with_default, with_limits, with_rule}
use Rattle.smk_laws_plan.proofs.CurrentLists.{in_either, map_in}
use Rattle.smk_laws_complete.specs.Reading.{ReadFlowsGatherAlone}

-- ## Results

ok_same : {A F : Type 0} (a b : A) → ◌≡◌ {A = Result A F} (Ok a) (Ok b) → a ≡ b
ok_same a b h = cc

err_ok : {A F : Type 0} (f : F) (a : A) → ◌≡◌ {A = Result A F} (Err f) (Ok a) → ⊥
err_ok f a h = cc

then_ok : {A B : Type 0} (r : Result A ValueFault) (next : A → Result B ValueFault) (b : B) → values.and_then r next ≡ Ok b → (a : A) × (r ≡ Ok a) × (next a ≡ Ok b)
then_ok (Ok a) next b h = (a, refl, h)
then_ok (Err f) next b h = absurd (err_ok f b h)

stated_ok : {A B : Type 0} (r : Result A EvalFault) (next : A → Result B EvalFault) (b : B) → statements.and_then r next ≡ Ok b → (a : A) × (r ≡ Ok a) × (next a ≡ Ok b)
stated_ok (Ok a) next b h = (a, refl, h)
stated_ok (Err f) next b h = absurd (err_ok f b h)

loaded_ok : {A B : Type 0} (r : Result A LoadFault) (next : A → Result B LoadFault) (b : B) → load.and_then r next ≡ Ok b → (a : A) × (r ≡ Ok a) × (next a ≡ Ok b)
loaded_ok (Ok a) next b h = (a, refl, h)
loaded_ok (Err f) next b h = absurd (err_ok f b h)

said_ok : {A : Type 0} (r : Result A EvalFault) (a : A) → from_said r ≡ Ok a → r ≡ Ok a
said_ok (Ok x) a h = ap Ok (ok_same x a h)
said_ok (Err f) a h = absurd (err_ok _ a h)

made_ok :
    {A : Type 0} (file : List ℕ) (line : ℕ) (rule : List ℕ) (r : Result A ValueFault) (now : A → State) (s : State) →
    made file line rule r now ≡ Ok s → (a : A) × (r ≡ Ok a) × (now a ≡ s)
made_ok file line rule (Ok a) now s h = (a, refl, ok_same (now a) s h)
made_ok file line rule (Err f) now s h = absurd (err_ok _ s h)

-- ## Items

abbrev IsAlone : InPart → Type 0
IsAlone i = is_some i.gather ≡ true → i.texts ≡ []

abbrev All : {A : Type 0} → (A → Type 0) → List A → Type 0
All P xs = (x : _) → IsIn xs x → P x

written_alone : (name : List ℕ) (ts : List (List ℕ)) → IsAlone (written name ts)
written_alone name ts g = absurd (true≢false (sym g))

input_alone : (word name : List ℕ) (v : Value) (i : InPart) → input word name v ≡ Ok i → IsAlone i
input_alone word name (Word t) i h = subst IsAlone (ok_same (written name (t ∷ [])) i h) (written_alone name (t ∷ []))
input_alone word name (Many ts) i h = subst IsAlone (ok_same (written name ts) i h) (written_alone name ts)
input_alone word name (IsGathered g) i h = subst IsAlone (ok_same _ i h) (λ some. refl)
input_alone word name (Number n) i h = absurd (err_ok _ i h)
input_alone word name (Truth b) i h = absurd (err_ok _ i h)
input_alone word name (HasFlags f) i h = absurd (err_ok _ i h)

grown : {A : Type 0} (P : A → Type 0) (xs : List A) (x : A) (now : List A) → All P xs → P x → xs ++ x ∷ [] ≡ now → All P now
grown P xs x now all one same = subst (All P) same (λ y i. go y (in_either y xs (x ∷ []) i))
  where
    go : (y : _) → IsIn xs y ⊎ IsIn (x ∷ []) y → P y
    go y (inl i) = all y i
    go y (inr (inl e)) = subst P (sym e) one
    go y (inr (inr i)) = absurd i

module _ {X : Type 0} (P : X → Type 0) (make : List ℕ → Value → Result X ValueFault) (good : (name : List ℕ) (v : Value) (x : X) → make name v ≡ Ok x → P x) where
  abbrev take : List X → Named → Value → Result (List X) ValueFault
  take made i v = added made (make i.name v)

  all_items : (so_far : List X) (items : List Named) (out : List X) → All P so_far → each (λ (i : Named). i.value) take so_far items ≡ Ok out → All P out
  all_items so_far [] out all h = subst (All P) (ok_same so_far out h) all
  all_items so_far (n ∷ ns) out all h =
      let v = then_ok n.value (λ v. values.and_then (take so_far n v) (λ now. each (λ (i : Named). i.value) take now ns)) out h in
      let next = then_ok (take so_far n v.0) (λ now. each (λ (i : Named). i.value) take now ns) out v.2 in
      let one = then_ok (make n.name v.0) (λ x. Ok (so_far ++ x ∷ [])) next.0 next.1 in
      all_items next.0 ns out (grown P so_far one.0 next.0 all (good n.name v.0 one.0 one.1) (ok_same _ next.0 one.2)) next.2

-- ## Rules

abbrev RuleIs : RulePart → Type 0
RuleIs p = All IsAlone p.inputs

-- a rule with something else changed has the same inputs
kept : {A : Type 0} (r : Result A ValueFault) (change : A → RulePart) (p q : RulePart) →
    ((a : A) → (change a).inputs ≡ p.inputs) → RuleIs p → values.and_then r (λ a. Ok (change a)) ≡ Ok q → RuleIs q
kept r change p q same all h =
    let a = then_ok r (λ a. Ok (change a)) q h in
    subst RuleIs (ok_same (change a.0) q a.2) (subst (All IsAlone) (sym (same a.0)) all)

-- what holds of both holds of the one that a test picks
tested : {D : Type 0} {x y : D} (P : D → Type 0) (b : Bool) → P x → P y → P (if b then x else y)
tested P true first second = first
tested P false first second = second

module _ (w : List ℕ) (p q : RulePart) (items : List Named) (all : RuleIs p) where
  inputs_alone : values.and_then (each_item (input w) items) (λ x. Ok (record p { inputs = x })) ≡ Ok q → RuleIs q
  inputs_alone h =
      let r = then_ok (each_item (input w) items) (λ x. Ok (record p { inputs = x })) q h in
      subst RuleIs (ok_same (record p { inputs = r.0 }) q r.2) (all_items IsAlone (input w) (input_alone w) [] items r.0 (λ x i. absurd i) r.1)

  -- a directive, by its word
  said_alone : said (directive_of w) w p items ≡ Ok q → RuleIs q
  unfolding directive_of
  said_alone =
      tested (λ d. said d w p items ≡ Ok q → RuleIs q) (bytes_eq w (codes "input")) inputs_alone
      (tested (λ d. said d w p items ≡ Ok q → RuleIs q) (bytes_eq w (codes "output")) (kept (each_item (output w) items) (λ x. record p { outputs = x }) p q (λ a. refl) all)
      (tested (λ d. said d w p items ≡ Ok q → RuleIs q) (bytes_eq w (codes "params")) (kept (each_item (param w) items) (λ x. record p { params = x }) p q (λ a. refl) all)
      (tested (λ d. said d w p items ≡ Ok q → RuleIs q) (bytes_eq w (codes "threads")) (kept (one_number w 1 4096 items) (λ x. record p { threads = x }) p q (λ a. refl) all)
      (tested (λ d. said d w p items ≡ Ok q → RuleIs q) (bytes_eq w (codes "priority")) (kept (one_number w 0 greatest items) (λ x. record p { priority = x }) p q (λ a. refl) all)
      (tested (λ d. said d w p items ≡ Ok q → RuleIs q) (bytes_eq w (codes "resources")) (kept (all_resources w items) (λ x. record p { amounts = x.amounts; words = x.words }) p q (λ a. refl) all)
      (tested (λ d. said d w p items ≡ Ok q → RuleIs q) (bytes_eq w (codes "wildcard_constraints")) (kept (each_item (limit w) items) (λ x. record p { limits = x }) p q (λ a. refl) all)
      (tested (λ d. said d w p items ≡ Ok q → RuleIs q) (bytes_eq w (codes "shell")) (kept (one_text w items) (λ x. record p { command = Some x }) p q (λ a. refl) all)
      (tested (λ d. said d w p items ≡ Ok q → RuleIs q) (bytes_eq w (codes "default_target")) (kept (one_truth w items) (λ x. record p { default_target = x }) p q (λ a. refl) all)
      (λ h. subst RuleIs (ok_same p q h) all)))))))))

abbrev NamedIs : NamedRule → Type 0
NamedIs r = RuleIs r.part

directive_alone : (s : Scope) (r q : NamedRule) (d : DirectiveForm) → NamedIs r → with_directive s r d ≡ Ok q → NamedIs q
directive_alone s r q d all = tested (λ x. x ≡ Ok q → NamedIs q) (bytes_eq d.word (codes "log")) logs others
  where
    logs : values.and_then (all_logs d.word (map (named_in d.word s) d.items)) (λ x. Ok (with_logs r.part x)) ≡ Ok q → NamedIs q
    logs h =
        let x = then_ok (all_logs d.word (map (named_in d.word s) d.items)) (λ x. Ok (with_logs r.part x)) q h in
        subst NamedIs (ok_same (with_logs r.part x.0) q x.2) all

    others : values.and_then (with_other s r.part d) (λ p. Ok (record { part = p; logs = r.logs })) ≡ Ok q → NamedIs q
    others h =
        let x = then_ok (with_other s r.part d) (λ p. Ok (record { part = p; logs = r.logs })) q h in
        subst NamedIs (ok_same (record { part = x.0; logs = r.logs }) q x.2) (said_alone d.word r.part x.0 (map (named_in d.word s) d.items) all x.1)

directives_alone : (s : Scope) (r q : NamedRule) (ds : List DirectiveForm) → NamedIs r → with_directives s r ds ≡ Ok q → NamedIs q
directives_alone s r q [] all h = subst NamedIs (ok_same r q h) all
directives_alone s r q (d ∷ ds) all h =
    let x = then_ok (with_directive s r d) (λ now. with_directives s now ds) q h in
    directives_alone s x.0 q ds (directive_alone s r x.0 d all x.1) x.2

rule_alone : (s : Scope) (globals : List Pair) (form : RuleForm) (file : List ℕ) (line : ℕ) (q : RulePart) → rule_of s globals form file line ≡ Ok q → RuleIs q
rule_alone s globals form file line q h =
    let r = then_ok (with_directives s (begun form file line) form.directives) (λ r. Ok (with_globals globals (with_places r))) q h in
    subst RuleIs (ok_same (with_globals globals (with_places r.0)) q r.2) (directives_alone s (begun form file line) r.0 form.directives (λ x i. absurd i) r.1)

-- ## The default target

first_alone : (file : List ℕ) (parts : List RulePart) → All RuleIs parts → All RuleIs (first_marked file parts)
first_alone file [] all = all
first_alone file (x ∷ parts) all = go (stands_in file x) (first_alone file parts (λ y j. all y (inr j)))
  where
    go : (b : Bool) → All RuleIs (first_marked file parts) → All RuleIs (if b then marked true x ∷ parts else x ∷ first_marked file parts)
    go true more p (inl e) = subst RuleIs (sym e) (all x (inl refl))
    go true more p (inr i) = all p (inr i)
    go false more p (inl e) = subst RuleIs (sym e) (all x (inl refl))
    go false more p (inr i) = more p i

default_alone : (file : List ℕ) (parts : List RulePart) → All RuleIs parts → All RuleIs (with_default file parts)
default_alone file parts all = go (list_any is_default parts)
  where
    go : (b : Bool) → All RuleIs (if b then parts else first_marked file parts)
    go true = all
    go false = first_alone file parts all

-- ## Statements

abbrev StateIs : State → Type 0
StateIs s = All RuleIs s.rules

module _ (config : Members) where
  stated_alone : (s t : State) (file : List ℕ) (line : ℕ) (form : Form) → StateIs s → stated config s file line form ≡ Ok t → StateIs t
  stated_alone s t file line (Assign name x) all h =
      subst StateIs (made_ok file line [] (assigned config s name x) (with_constant name s) t h).2 all
  stated_alone s t file line (Rule form) all h =
      let r = made_ok file line form.name (ruled config s file line form) (with_rule s) t h in
      subst StateIs r.2 (grown RuleIs s.rules r.0 (s.rules ++ r.0 ∷ []) all (rule_alone (statements.scope config s) [] form file line r.0 r.1) refl)
  stated_alone s t file line (Order names) all h = subst StateIs (ok_same _ t h) all
  stated_alone s t file line (LocalRules names) all h = subst StateIs (ok_same s t h) all
  stated_alone s t file line (ConfigFile text) all h = subst StateIs (ok_same s t h) all
  stated_alone s t file line (Include text) all h = subst StateIs (ok_same s t h) all
  stated_alone s t file line (Container text) all h = subst StateIs (ok_same s t h) all
  stated_alone s t file line (Limits items) all h = subst StateIs (made_ok file line [] (limited config s items) (with_limits s) t h).2 all

  all_alone : (s t : State) (es : List Entry) → StateIs s → all_stated config s es ≡ Ok t → StateIs t
  all_alone s t [] all h = subst StateIs (ok_same s t h) all
  all_alone s t (e ∷ es) all h =
      let r = stated_ok (stated config s e.file e.statement.line e.statement.form) (λ now. all_stated config now es) t h in
      all_alone r.0 t es (stated_alone s r.0 e.file e.statement.line e.statement.form all r.1) r.2

  evaluated_alone : (files : List ReadFile) (flow : Flow) → evaluated config files ≡ Ok flow → All RuleIs flow.rules
  evaluated_alone files flow h =
      let r = stated_ok (all_stated config statements.begun (whole files)) (λ s. Ok (flow_of (main_file files) s)) flow h in
      subst (λ (f : Flow). All RuleIs f.rules) (ok_same (flow_of (main_file files) r.0) flow r.2)
      (default_alone (main_file files) (map (with_globals (r.0).limits) (r.0).rules) (globals r.0 (all_alone statements.begun r.0 (whole files) (λ x i. absurd i) r.1)))
    where
      globals : (s : State) → StateIs s → All RuleIs (map (with_globals s.limits) s.rules)
      globals s all p i =
          let r = map_in (with_globals s.limits) s.rules p i in
          subst RuleIs (sym r.2) (all r.0 r.1)

pub read_flows_gather_alone : ReadFlowsGatherAlone
read_flows_gather_alone nodes file sets flow read part item is_part is_item gathers =
    let files = loaded_ok (from_files (files_at nodes file)) (said_by nodes sets) flow read.0 in
    let config = loaded_ok (configs nodes no_members (config_files (whole files.0))) (λ m. said_in (with_sets m sets) files.0) flow files.2 in
    let said = loaded_ok (from_said (evaluated (with_sets config.0 sets) files.0)) waited flow config.2 in
    let same = ok_same said.0 flow (loaded_ok (all_wait (said.0).rules) (λ done. Ok said.0) flow said.2).2 in
    subst (λ (f : Flow). All RuleIs f.rules) same
    (evaluated_alone (with_sets config.0 sets) files.0 said.0 (said_ok (evaluated (with_sets config.0 sets) files.0) said.0 said.1)) part is_part item is_item gathers
