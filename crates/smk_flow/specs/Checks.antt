-- When rules and clauses make a workflow, and otherwise which fault is told.
--
-- Rules are looked at in order, each by the same checks in the same order; then the clauses. The first thing that is wrong is the fault.
use Rattle.std.specs.Prelude.{◌≡◌, ◌⊎◌, Bool, true, false, ◌&&◌, ◌||◌, not, List, [], ◌∷◌, ◌++◌, map, filter, length, bytes_eq, nat_eq, if◌then◌else◌, Option, Some, None, option_map, is_some, is_none, ℕ, ◌==◌, nat_lt, codes}
use Rattle.std.specs.List.{list_any, list_all, flat_map, find}
use Rattle.smk_base.specs.declared.tree.Pair.{Pair}
use Rattle.smk_world.specs.declared.recipe.Values.{Values}
use Rattle.smk_pattern.specs.Shapes.{Text}
use Rattle.smk_pattern.specs.Grammar.{is_name, is_balanced}
use Rattle.smk_pattern.specs.Reading.{pieces, names_in}
use Rattle.smk_pattern.specs.Written.{is_written, is_bare, IsBadLimit, AreLimits}
use Rattle.smk_flow.specs.declared.rule.RulePart.{RulePart}
use Rattle.smk_flow.specs.declared.rule.InPart.{InPart}
use Rattle.smk_flow.specs.declared.rule.GatherPart.{GatherPart}
use Rattle.smk_flow.specs.declared.rule.FlaggedText.{FlaggedText}
use Rattle.smk_flow.specs.declared.rule.Flag.{Flag}
use Rattle.smk_flow.specs.declared.rule.Flag.TheVariants.{Temp, Protected, Folder}
use Rattle.smk_flow.specs.declared.rule.Clause.{Clause}
use Rattle.smk_flow.specs.declared.fault.FlowFault.{FlowFault}
use Rattle.smk_flow.specs.Flows.{outs, makes_folder, is_temp}

abbrev pub has : List Text → Text → Bool
has names name = list_any (bytes_eq name) names

-- ## The texts of a rule

-- the names that stand in a text, each once; none where its braces aren't balanced
abbrev pub names_of : Text → List Text
names_of t = if is_balanced 0 t then names_in (pieces t) else []

abbrev pub or_nothing : Option GatherPart → List GatherPart
or_nothing None = []
or_nothing (Some g) = g ∷ []

-- what a rule gathers, in the order of its inputs
abbrev pub gather_parts : RulePart → List GatherPart
gather_parts part = flat_map (λ (i : InPart). or_nothing i.gather) part.inputs

-- A text that is read as a pattern: one for whose names the rule's constraints count, or one in which no constraint stands.
pub data Written : Type 0 where
  limited : Text → Written
  bare : Text → Written

abbrev pub in_texts : InPart → List Written
in_texts i = map bare i.texts ++ flat_map (λ (g : GatherPart). limited g.listed ∷ bare g.wanted ∷ []) (or_nothing i.gather)

abbrev pub out_texts : RulePart → List Text
out_texts part = map (λ (o : FlaggedText). o.text) (outs part)

-- all of them in order: of the outputs, of the logs, of the inputs
abbrev pub texts_of : RulePart → List Written
texts_of part = map limited (out_texts part) ++ (map bare part.logs ++ flat_map in_texts part.inputs)

-- The text is read as a pattern, and its constraints by `regex`.
abbrev pub IsRead : List Pair → Written → Type 0
IsRead limits (limited t) = (is_written t ≡ true) × AreLimits limits (pieces t) (names_in (pieces t))
IsRead limits (bare t) = (is_written t && list_all is_bare (pieces t)) ≡ true

-- It isn't, and this is the fault.
abbrev pub IsUnread : RulePart → Written → FlowFault → Type 0
IsUnread part (limited t) fault =
    ((is_written t ≡ false) × (fault ≡ FlowFault.BadPattern part.file part.line t))
    ⊎ ((name : Text) × (is_written t ≡ true) × IsBadLimit part.limits (pieces t) (names_in (pieces t)) name
    × (fault ≡ FlowFault.BadConstraint part.file part.line name))
IsUnread part (bare t) fault =
    ((is_written t && list_all is_bare (pieces t)) ≡ false) × (fault ≡ FlowFault.BadPattern part.file part.line t)

-- all of these texts are read
abbrev pub AreRead : List Pair → List Written → Type 0
AreRead limits [] = Unit {0}
AreRead limits (w ∷ ws) = IsRead limits w × AreRead limits ws

-- the first of these texts that isn't read gives the fault
abbrev pub AreUnread : RulePart → List Written → FlowFault → Type 0
AreUnread part [] fault = ⊥
AreUnread part (w ∷ ws) fault = IsUnread part w fault ⊎ (IsRead part.limits w × AreUnread part ws fault)

-- ## Wildcards

-- the same names, in whatever order
abbrev pub are_same : List Text → List Text → Bool
are_same a b = list_all (has b) a && list_all (has a) b

-- the names of the first of these texts
abbrev pub wildcards_of : List Text → List Text
wildcards_of [] = []
wildcards_of (t ∷ ts) = names_of t

-- each of them has the names of the first
abbrev pub are_all_same : List Text → Bool
are_all_same ts = list_all (λ t. are_same (wildcards_of ts) (names_of t)) ts

-- the wildcards of a rule: those of its outputs, which all have the same ones
abbrev pub wildcards : RulePart → List Text
wildcards part = wildcards_of (out_texts part)

-- those of these names that aren't known
abbrev pub unknown_in : List Text → List Text → List Text
unknown_in known names = filter (λ name. not (has known name)) names

-- in what is wanted, beside the names of what is listed
abbrev pub wanted_unknown : List Text → Option GatherPart → List Text
wanted_unknown known None = []
wanted_unknown known (Some g) = unknown_in (names_of g.listed ++ known) (names_of g.wanted)

abbrev pub input_unknown : List Text → InPart → List Text
input_unknown known i = flat_map (λ t. unknown_in known (names_of t)) i.texts ++ wanted_unknown known i.gather

-- What stands behind the last brace that opens, after one more byte; nothing where a brace has closed since.
abbrev pub begun_after : ℕ → Option Text → Option Text
begun_after b begun = if b == 123 then Some [] else (if b == 125 then None else option_map (λ t. t ++ b ∷ []) begun)

-- the name that this byte ends
abbrev pub closing : ℕ → Option Text → List Text
closing b None = []
closing b (Some t) = if b == 125 && is_name t then t ∷ [] else []

abbrev pub names_after : Text → Option Text → List Text
names_after [] begun = []
names_after (b ∷ t) begun = closing b begun ++ names_after t (begun_after b begun)

-- the names that stand in braces in a text that isn't read as a pattern
abbrev pub word_names : Text → List Text
word_names t = names_after t None

abbrev pub words_unknown : List Text → Text → List Text
words_unknown known t = unknown_in known (word_names t)

-- the rule of this name among these
abbrev pub rule_in : List RulePart → Text → Option RulePart
rule_in rules name = find (λ (r : RulePart). bytes_eq r.name name) rules

abbrev pub wildcards_at : Option RulePart → List Text
wildcards_at None = []
wildcards_at (Some part) = wildcards part

-- of the checkpoint that is gathered from; `above` gives the rules above by their names
abbrev pub checkpoint_unknown : (Text → Option RulePart) → List Text → GatherPart → List Text
checkpoint_unknown above known g = unknown_in known (wildcards_at (above g.checkpoint))

-- the names in a rule's logs, inputs, parameters, resources, and of its checkpoints that aren't known
abbrev pub unknown_beside : (Text → Option RulePart) → List Text → RulePart → List Text
unknown_beside above known part =
    flat_map (λ t. unknown_in known (names_of t)) part.logs
    ++ (flat_map (input_unknown known) part.inputs
    ++ (flat_map (λ (v : Values). flat_map (words_unknown known) v.values) part.params
    ++ (flat_map (λ (w : Pair). words_unknown known w.value) part.words
    ++ flat_map (checkpoint_unknown above known) (gather_parts part))))

-- the wildcards in a rule that its outputs don't have
abbrev pub unknown : (Text → Option RulePart) → RulePart → List Text
unknown above part = unknown_beside above (wildcards part) part

-- ## Flags

abbrev pub flag_word : Flag → Text
flag_word Temp = codes "temp"
flag_word Protected = codes "protected"
flag_word Folder = codes "directory"

-- they don't stand together
abbrev pub excludes : Flag → Flag → Bool
excludes Temp Temp = true
excludes Temp Protected = true
excludes Temp Folder = false
excludes Protected Temp = true
excludes Protected Protected = true
excludes Protected Folder = true
excludes Folder Temp = false
excludes Folder Protected = true
excludes Folder Folder = true

-- a flag that may not stand after these
abbrev pub is_bad_flag : Bool → List Flag → Flag → Bool
is_bad_flag checkpoint before flag = list_any (excludes flag) before || (checkpoint && is_temp flag)

abbrev pub bad_flags : Bool → List Flag → List Flag → List Text
bad_flags checkpoint before [] = []
bad_flags checkpoint before (flag ∷ flags) =
    (if is_bad_flag checkpoint before flag then flag_word flag ∷ [] else []) ++ bad_flags checkpoint (before ++ flag ∷ []) flags

-- a checkpoint with one directory as its only directory output
abbrev pub is_source : Option RulePart → Bool
is_source None = false
is_source (Some part) = part.checkpoint && nat_eq (length (filter makes_folder (outs part))) 1

-- What is gathered comes from a checkpoint above, for a rule with outputs, and what it lists has wildcards of its own.
abbrev pub is_gather : (Text → Option RulePart) → RulePart → GatherPart → Bool
is_gather above part g =
    nat_lt 0 (length (outs part)) && (is_source (above g.checkpoint) && not (list_any (has (wildcards part)) (names_of g.listed)))

-- the word for what is gathered otherwise
abbrev pub bad_gather : (Text → Option RulePart) → RulePart → GatherPart → List Text
bad_gather above part g = if is_gather above part g then [] else codes "from_checkpoint" ∷ []

-- the words of flags and gathers that don't stand where they are
abbrev pub bad_words : (Text → Option RulePart) → RulePart → List Text
bad_words above part =
    flat_map (λ (o : FlaggedText). bad_flags part.checkpoint [] o.flags) (outs part) ++ flat_map (bad_gather above part) (gather_parts part)

-- ## A rule

abbrev pub first_as : (Text → FlowFault) → List Text → Option FlowFault
first_as fault [] = None
first_as fault (t ∷ ts) = Some (fault t)

abbrev pub or_else : Option FlowFault → Option FlowFault → Option FlowFault
or_else None later = later
or_else (Some fault) later = Some fault

-- the fault of a rule whose outputs and logs don't all have the same wildcards
abbrev pub unequal : RulePart → Option FlowFault
unequal part = if are_all_same (out_texts part ++ part.logs) then None else Some (FlowFault.UnequalWildcards part.file part.line part.name)

-- the fault of a rule with a wildcard that its outputs don't have
abbrev pub unknown_fault : (Text → Option RulePart) → RulePart → Option FlowFault
unknown_fault above part = first_as (FlowFault.UnknownWildcard part.file part.line part.name) (unknown above part)

-- the fault of a rule with a flag or a gather that doesn't stand where it is
abbrev pub flag_fault : (Text → Option RulePart) → RulePart → Option FlowFault
flag_fault above part = first_as (FlowFault.BadFlag part.file part.line part.name) (bad_words above part)

-- what is wrong with a rule whose texts are read
abbrev pub rule_fault : (Text → Option RulePart) → RulePart → Option FlowFault
rule_fault above part = or_else (unequal part) (or_else (unknown_fault above part) (flag_fault above part))

-- a rule passes after these
pub record Passes (above : Text → Option RulePart) (part : RulePart) : Type 0 where
  pub name : is_some (above part.name) ≡ false
  pub texts : AreRead part.limits (texts_of part)
  pub checks : rule_fault above part ≡ None

-- a rule doesn't pass, and this is its first fault
pub data Fails (above : Text → Option RulePart) (part : RulePart) (fault : FlowFault) : Type 0 where
  doubled : is_some (above part.name) ≡ true → fault ≡ FlowFault.DoubledRule part.file part.line part.name → Fails above part fault
  unread : is_some (above part.name) ≡ false → AreUnread part (texts_of part) fault → Fails above part fault
  wrong : is_some (above part.name) ≡ false → AreRead part.limits (texts_of part) → rule_fault above part ≡ Some fault → Fails above part fault

-- all of these rules pass, the ones above first
abbrev pub AllPass : List RulePart → List RulePart → Type 0
AllPass above [] = Unit {0}
AllPass above (part ∷ parts) = Passes (rule_in above) part × AllPass (above ++ part ∷ []) parts

-- the first of these rules that doesn't pass gives the fault
abbrev pub OneFails : List RulePart → List RulePart → FlowFault → Type 0
OneFails above [] fault = ⊥
OneFails above (part ∷ parts) fault = Fails (rule_in above) part fault ⊎ (Passes (rule_in above) part × OneFails (above ++ part ∷ []) parts fault)

-- ## Clauses

-- those of these names that are no rule's
abbrev pub strangers : (Text → Option RulePart) → List Text → List Text
strangers rules names = filter (λ name. is_none (rules name)) names

-- the first name in these clauses that is no rule's
abbrev pub stranger : (Text → Option RulePart) → List Clause → Option FlowFault
stranger rules [] = None
stranger rules (c ∷ cs) = or_else (first_as (FlowFault.UnknownName c.file c.line) (strangers rules c.names)) (stranger rules cs)

-- the second of two names stands after the first place of the first
abbrev pub has_before : Text → Text → List Text → Bool
has_before a b [] = false
has_before a b (name ∷ names) = if bytes_eq a name then has names b else has_before a b names

-- The first may not stand before the second: it is the same name, or a clause has it after the second.
abbrev pub is_against : List Clause → Text → Text → Bool
is_against orders b a = bytes_eq a b || list_any (λ (c : Clause). has_before b a c.names) orders

-- with a name, the ones before it in its clause that may not stand before it
abbrev pub against : List Clause → List Text → Text → List Text
against orders before b = filter (is_against orders b) before

-- the first of these names, each with those before it in its clause, that contradicts a clause
abbrev pub contradiction_in : List Clause → List Text → List Text → Option FlowFault
contradiction_in orders before [] = None
contradiction_in orders before (b ∷ names) =
    or_else (first_as (λ a. FlowFault.ContradictoryOrder a b) (against orders before b)) (contradiction_in orders (before ++ b ∷ []) names)

abbrev pub contradiction : List Clause → List Clause → Option FlowFault
contradiction orders [] = None
contradiction orders (c ∷ cs) = or_else (contradiction_in orders [] c.names) (contradiction orders cs)

-- ## A workflow

-- nothing is wrong with the rules and the clauses
pub record IsWorkflow (rules : List RulePart) (orders : List Clause) : Type 0 where
  pub rules_pass : AllPass [] rules
  pub known : stranger (rule_in rules) orders ≡ None
  pub settled : contradiction orders orders ≡ None

-- something is, and this is the first fault
abbrev pub IsFault : List RulePart → List Clause → FlowFault → Type 0
IsFault rules orders fault =
    OneFails [] rules fault ⊎ (AllPass [] rules × (or_else (stranger (rule_in rules) orders) (contradiction orders orders) ≡ Some fault))
