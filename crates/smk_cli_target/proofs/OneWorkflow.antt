-- Files are one workflow, or else something is wrong with them.
use Rattle.std.proofs.Common.{◌≡◌, ◌⊎◌, sym, ap, subst, inl, inr, ◌∙◌, Result, Ok, Err, arith}
use Rattle.smk_flow.specs.Checks.{IsWorkflow}
use Rattle.smk_flow.specs.Flows.{Flow}
use Rattle.smk_flow.proofs.NoFault.{no_fault}
use Rattle.smk_flaws.specs.declared.fault.LoadFault.{LoadFault}
use Rattle.smk_eval.specs.Loading.{loaded, FailsAs}
use Rattle.smk_cli_target.specs.Files.{IsNoFile, IsFaulty, NoFaultyWorkflow, OneWorkflow}

pub ok_same : {A E : Type 0} (a b : A) → ◌≡◌ {A = Result A E} (Ok a) (Ok b) → a ≡ b
ok_same a b h = cc

pub err_same : {A E : Type 0} (d e : E) → ◌≡◌ {A = Result A E} (Err d) (Err e) → d ≡ e
err_same d e h = cc

pub ok_err : {A E : Type 0} (a : A) (e : E) → ◌≡◌ {A = Result A E} (Ok a) (Err e) → ⊥
ok_err a e h = grind arith

pub one_workflow : OneWorkflow
one_workflow w entry a b x y =
    let files = ok_same x.file y.file (sym x.is_file ∙ y.is_file) in
    ok_same a b (sym x.gives.0 ∙ (ap (λ file. loaded entry.nodes file w.sets) files ∙ y.gives.0))

-- what passes all checks fails none
no_failure :
    (said : Result Flow LoadFault) (flow : Flow) (e : LoadFault) →
    said ≡ Ok flow → IsWorkflow flow.rules flow.orders → (said ≡ Err e) ⊎ FailsAs said e → ⊥
no_failure said flow e is good (inl h) = ok_err flow e (sym is ∙ h)
no_failure said flow e is good (inr h) =
    let fails = subst (λ s. FailsAs s e) is h in no_fault flow.rules flow.orders fails.1.0 good fails.1.1

pub no_faulty_workflow : NoFaultyWorkflow
no_faulty_workflow w entry flow f x (IsNoFile g none) = ok_err x.file g (sym x.is_file ∙ none)
no_faulty_workflow w entry flow f x (IsFaulty file e is told gives) =
    let files = ok_same file x.file (sym is ∙ x.is_file) in
    no_failure (loaded entry.nodes file w.sets) flow e (ap (λ p. loaded entry.nodes p w.sets) files ∙ x.gives.0) x.gives.1 (gives told)
