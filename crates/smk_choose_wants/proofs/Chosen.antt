-- A chosen job's texts are paths, and its rule is there.
use Rattle.std.proofs.Common.{◌≡◌, ◌≢◌, ℕ, zero, suc, ◌<◌, ◌≤◌, ◌&&◌, not, Bool, true, false, cond, List, [], ◌∷◌, ◌++◌, length, map, Option, Some, None, get_or, nat_lt, slice_get, refl, sym, ap, ◌∙◌, arith}
use Rattle.std.proofs.lemmas.Option.{same_Some, none-some}
use Rattle.std.proofs.lemmas.Bool.Decides.{nat_tests}
use Rattle.std.specs.List.{list_all, list_any}
use Rattle.smk_base.specs.Path.{is_path}
use Rattle.smk_base.proofs.Places.{and_first}
use Rattle.smk_world.specs.Trees.{Path}
use Rattle.smk_pattern.specs.Shapes.{Text}
use Rattle.smk_flow.specs.declared.rule.RulePart.{RulePart}
use Rattle.smk_flow.specs.declared.fault.JobFault.{JobFault}
use Rattle.smk_flow.specs.declared.workflow.Rule.{Rule}
use Rattle.smk_flow.specs.PatternsOf.{rule_of}
use Rattle.smk_flow.specs.Flows.{Flow, Candidate, outputs, logs, first_wants}
use Rattle.smk_flow.specs.Jobs.{path_texts, path_fault}
use Rattle.smk_choose.specs.declared.choice.Making.{Making}
use Rattle.smk_choose.specs.declared.choice.Chosen.TheVariants as told
use Rattle.smk_choose.specs.Choose.{Sources, Make, as_member, as_output, or_else, candidates, is_apart, avail, choose}
use Rattle.smk_choose.specs.Told.{making}
use Rattle.smk_choose.proofs.Picked.{chosen_candidate, chosen_placed, chosen_is_viable, all_pass}
use Rattle.smk_choose_wants.proofs.Composed.{all_front}
use Rattle.smk_choose_wants.specs.Wants.{IsChosen, candidate_of}

avail_path : (flow : Flow) (sources : Sources) (n : ℕ) (t : Text) → avail flow sources (suc n) t ≡ true → is_path t ≡ true
avail_path flow sources n t e = go (is_path t) e
  where
    go : (b : Bool) →
        elim b as (λ _. Bool) [
          | false ↦ false
          | true ↦ elim (sources.is t) as (λ _. Bool) [
            | true ↦ true
            | false ↦ list_any (λ c. list_all (avail flow sources n) (first_wants flow c)) (candidates flow sources t)
          ]
        ] ≡ true → b ≡ true
    go true e = refl
    go false e = e

-- what has only texts of which a test says that they are paths has no fault
no_fault : (test : Text → Bool) → ((t : Text) → test t ≡ true → is_path t ≡ true) → (ts rest : List Text) → list_all test ts ≡ true → path_fault rest ≡ None →
    path_fault (ts ++ rest) ≡ None
no_fault test path [] rest all none = none
no_fault test path (t ∷ ts) rest all none = go (test t) refl all (no_fault test path ts rest)
  where
    go : (b : Bool) → test t ≡ b → (b && list_all test ts) ≡ true → (list_all test ts ≡ true → path_fault rest ≡ None → path_fault (ts ++ rest) ≡ None) →
        path_fault ((t ∷ ts) ++ rest) ≡ None
    go true is all more = ap (λ (b : Bool). cond b (path_fault (ts ++ rest)) (Some (JobFault.NotPath t))) (path t is) ∙ more all none
    go false is all more = absurd (cc)

append_none : (ts : List Text) → ts ++ [] ≡ ts
append_none [] = refl
append_none (t ∷ ts) = ap (λ us. t ∷ us) (append_none ts)

-- The outputs, the logs, the inputs that are written out and the gathered directories of a chosen job are paths.
pub chosen_paths : (flow : Flow) (sources : Sources) (p : Path) (c : Candidate) → choose flow sources p ≡ Make c → path_fault (path_texts flow c) ≡ None
chosen_paths flow sources p c e =
    let free : Text → Bool = λ q. is_path q && not (sources.holds q) in
    let apart : is_apart flow sources c ≡ true = chosen_candidate flow sources p c (λ d. is_apart flow sources d ≡ true) (all_pass (is_apart flow sources) (or_else (as_member flow p) (as_output flow p))) e in
    let parts = all_front free (outputs flow c) (logs flow c) apart in
    let known : path_fault (first_wants flow c) ≡ None =
    ap path_fault (sym (append_none (first_wants flow c)))
    ∙ no_fault (avail flow sources 199) (avail_path flow sources 198) (first_wants flow c) [] (chosen_is_viable flow sources p c e) refl in
    let path : (t : Text) → free t ≡ true → is_path t ≡ true = λ t. and_first (is_path t) (not (sources.holds t)) in
    no_fault free path (outputs flow c) (logs flow c ++ first_wants flow c) parts.0 (no_fault free path (logs flow c) (first_wants flow c) parts.1 known)

within : (parts : List RulePart) (n : ℕ) (part : RulePart) → slice_get parts n ≡ Some part → n < length parts
within [] n part e = absurd (cc)
within (p ∷ parts) zero part e = omega arith
within (p ∷ parts) (suc n) part e = let more : n < length parts = within parts n part e in omega (arith, more)

pub not_memory : (f : JobFault) (t : Text) → f ≡ JobFault.NotPath t → f ≢ JobFault.OutOfMemory
not_memory f t e = λ is. absurd (cc)

abbrev at_rule : Flow → Making → Option RulePart
at_rule flow m = slice_get flow.rules m.rule

-- the job of the rule with that number and these values is this one
pub is_candidate : (flow : Flow) (c : Candidate) (m : Making) (part : RulePart) → slice_get flow.rules c.rule ≡ Some c.part → m ≡ making c →
    slice_get flow.rules m.rule ≡ Some part → candidate_of m part ≡ c
is_candidate flow c m part placed is at =
    ap (λ (x : Making). candidate_of x part) is
    ∙ ap (λ (q : RulePart). candidate_of (making c) q) (same_Some part c.part (sym at ∙ ap (at_rule flow) is ∙ placed))

less : (m n : ℕ) → true ≡ nat_lt m n → m < n
less m n h = grind (arith, nat_tests)

not_less : (m n : ℕ) → false ≡ nat_lt m n → n ≤ m
not_less m n h = grind (arith, nat_tests)

there_at : (rules : List RulePart) (n : ℕ) (r : Rule) → n < length (map rule_of rules) → r ≡ get_or (map rule_of rules) n r → Some r.part ≡ slice_get rules n
there_at [] n r lt at = absurd (omega (arith, lt))
there_at (p ∷ rules) zero r lt at = ap (λ (x : Rule). Some x.part) at
there_at (p ∷ rules) (suc n) r lt at = there_at rules n r (omega (arith, lt)) at

none_at : (rules : List RulePart) (n : ℕ) → length (map rule_of rules) ≤ n → None ≡ slice_get rules n
none_at [] n le = refl
none_at (p ∷ rules) zero le = absurd (omega (arith, le))
none_at (p ∷ rules) (suc n) le = none_at rules n (omega (arith, le))

-- the rule at a number, where it is looked up with its patterns
pub part_found : (rules : List RulePart) (kept : List Rule) (n : ℕ) (r : Rule) → kept ≡ map rule_of rules → true ≡ nat_lt n (length kept) → r ≡ get_or kept n r →
    Some r.part ≡ slice_get rules n
part_found rules kept n r is lt at =
    there_at rules n r (less n (length (map rule_of rules)) (lt ∙ ap (λ (rs : List Rule). nat_lt n (length rs)) is)) (at ∙ ap (λ (rs : List Rule). get_or rs n r) is)

pub part_lacking : (rules : List RulePart) (kept : List Rule) (n : ℕ) → kept ≡ map rule_of rules → false ≡ nat_lt n (length kept) → None ≡ slice_get rules n
part_lacking rules kept n is lt = none_at rules n (not_less n (length (map rule_of rules)) (lt ∙ ap (λ (rs : List Rule). nat_lt n (length rs)) is))

-- the job of the rule that is found is the one that is meant
pub part_is : (flow : Flow) (c : Candidate) (m : Making) (part : RulePart) → Some part ≡ slice_get flow.rules m.rule → slice_get flow.rules c.rule ≡ Some c.part →
    m ≡ making c → candidate_of m part ≡ c
part_is flow c m part at placed is = is_candidate flow c m part placed is (sym at)

pub no_part : (flow : Flow) (c : Candidate) (m : Making) → None ≡ slice_get flow.rules m.rule → slice_get flow.rules c.rule ≡ Some c.part → m ≡ making c → ⊥
no_part flow c m at placed is = none-some c.part (at ∙ ap (at_rule flow) is ∙ placed)

-- the rule of a choice is there
pub rule_there : (flow : Flow) (m : Making) (chosen : IsChosen flow m) → slice_get flow.rules m.rule ≡ Some chosen.candidate.part
rule_there flow m chosen = ap (at_rule flow) chosen.is ∙ chosen_placed flow chosen.sources chosen.path chosen.candidate chosen.chosen

pub rule_missing : (flow : Flow) (m : Making) → IsChosen flow m → None ≡ slice_get flow.rules m.rule → ⊥
rule_missing flow m chosen at = none-some chosen.candidate.part (at ∙ rule_there flow m chosen)

pub rule_within : (flow : Flow) (m : Making) → IsChosen flow m → m.rule < length flow.rules
rule_within flow m chosen = within flow.rules m.rule chosen.candidate.part (rule_there flow m chosen)

-- the texts of a choice's job are paths
pub declared_paths : (flow : Flow) (m : Making) (part : RulePart) → IsChosen flow m → slice_get flow.rules m.rule ≡ Some part →
    path_fault (path_texts flow (candidate_of m part)) ≡ None
declared_paths flow m part chosen at =
    ap (λ (c : Candidate). path_fault (path_texts flow c))
    (is_candidate flow chosen.candidate m part (chosen_placed flow chosen.sources chosen.path chosen.candidate chosen.chosen) chosen.is at)
    ∙ chosen_paths flow chosen.sources chosen.path chosen.candidate chosen.chosen

-- so the job of a choice has no fault
pub no_fault_there : (flow : Flow) (m : Making) (part : RulePart) (f : JobFault) → IsChosen flow m → slice_get flow.rules m.rule ≡ Some part →
    path_fault (path_texts flow (candidate_of m part)) ≡ Some f → ⊥
no_fault_there flow m part f chosen at e = none-some f (sym (declared_paths flow m part chosen at) ∙ e)
