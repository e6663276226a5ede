-- What is refused of the commands of a kept plan, as it is looked for and as a plan has it.
use Rattle.std.proofs.Common.{◌≡◌, ℕ, zero, suc, Bool, true, false, not, List, [], ◌∷◌, ◌++◌, map, length, refl, sym, ap, ◌∙◌, Option, Some, None, arith}
use Rattle.std.specs.Prelude.{nat_lt, min, if◌then◌else◌}
use Rattle.std.specs.List.{flat_map, slice_get, zip}
use Rattle.smk_world.specs.Trees.{among}
use Rattle.smk_flow.specs.declared.job.Job.{Job}
use Rattle.smk_flow.specs.Flows.{Flow, rule_name}
use Rattle.smk_format.specs.Commands.{missing, command, excess}
use Rattle.smk_format.specs.Refused.{fault_at, fault_in, state_fault, command_fault, or_later}
use Rattle.smk_record.specs.declared.record.Record.{Record}
use Rattle.smk_store.specs.Images.{Image}
use Rattle.smk_trigger.specs.declared.reason.State.{State}
use Rattle.smk_trigger.specs.declared.reason.State.TheVariants.{Open, Dirty, Restore, Clean}
use Rattle.smk_pick.specs.declared.settings.Settings.{Settings}
use Rattle.smk_plan.specs.States.{Plan, Progress, job_path}
use Rattle.smk_plan_live.specs.declared.phase.Phase.{Phase}
use Rattle.smk_plan_live.specs.declared.phase.Phase.TheVariants.{Waiting, Running, Closed}
use Rattle.smk_plan_live.specs.Phases.{has_begun}
use Rattle.smk_report.specs.Lines.{Text}
use Rattle.smk_report.specs.declared.fault.Fault.{Fault}
use Rattle.smk_report.specs.declared.fault.Fault.TheVariants as fault
use Rattle.smk_drive.specs.Moments.{Rules}
use Rattle.smk_drive.specs.Refusals.{has_nul, of_command, too_long}
use Rattle.smk_laws_turns.specs.Resting.{if_begun, if_waiting, looked_as}

-- a run by this workflow and these settings, with the commands as they are written
abbrev pub rules_by : Bool → (List ℕ → Option Record) → Flow → Settings → Rules
rules_by nolock read flow settings = record { flow = flow; settings = settings; nolock = nolock; read = read; missing = missing; command = command }

abbrev pub listed : Option Fault → List Fault
listed None = []
listed (Some f) = f ∷ []

too_long_same : (rule text : Text) → too_long rule text ≡ listed (fault_at rule None (excess text))
too_long_same rule text = by (has_nul text) (nat_lt 120000 (length text))
  where
    by : (b c : Bool) → (if b then fault.TooLong rule 0 ∷ [] else (if c then fault.TooLong rule (length text) ∷ [] else [])) ≡ listed (fault_at rule None (if b then Some 0 else (if c then Some (length text) else None)))
    by true c = refl
    by false true = refl
    by false false = refl

-- the state by which a job's command is looked at, by whether it has begun
abbrev by_begun : Bool → State → State
by_begun true s = if_begun s
by_begun false s = if_waiting s

looked_so : (s : State) (p : Phase) → looked_as (s, p) ≡ by_begun (has_begun p) s
looked_so s Waiting = refl
looked_so s Running = refl
looked_so s Closed = refl

-- ## One job

module _ (nolock : Bool) (read : List ℕ → Option Record) (flow : Flow) (settings : Settings) (image : Image) (progress : Progress) (plan : Plan) where
  abbrev pub refusals : Job × State → List Fault
  refusals e = of_command (rules_by nolock read flow settings) image progress plan e (missing e.0)

  abbrev text_of : Job → Text
  text_of j = command j (min j.threads settings.cores)

  abbrev as_looked : Job → State → Option Text → List Fault
  as_looked j s m = listed (fault_in s (rule_name flow j.rule) m (excess (text_of j)))

  -- the text is looked at unless the job has begun
  abbrev unless_begun : Job → Bool → List Fault
  unless_begun j b = if not b then too_long (rule_name flow j.rule) (text_of j) else []

  one_by :
      (j : Job) (s : State) (m : Option Text) (b : Bool) → among progress.begun (job_path j) ≡ b →
      of_command (rules_by nolock read flow settings) image progress plan (j, s) m ≡ as_looked j (by_begun b s) m
  one_by j Open (Some word) true h = refl
  one_by j Open (Some word) false h = refl
  one_by j Open None true h = refl
  one_by j Open None false h = refl
  one_by j (Dirty reasons) (Some word) true h = refl
  one_by j (Dirty reasons) (Some word) false h = refl
  one_by j (Dirty reasons) None true h = ap (unless_begun j) h
  one_by j (Dirty reasons) None false h = ap (unless_begun j) h ∙ too_long_same (rule_name flow j.rule) (text_of j)
  one_by j Restore (Some word) true h = refl
  one_by j Restore (Some word) false h = refl
  one_by j Restore None true h = ap (unless_begun j) h
  one_by j Restore None false h = ap (unless_begun j) h ∙ too_long_same (rule_name flow j.rule) (text_of j)
  one_by j Clean (Some word) true h = refl
  one_by j Clean (Some word) false h = refl
  one_by j Clean None true h = refl
  one_by j Clean None false h = refl

  one_so :
      (j : Job) (s : State) (p : Phase) → among progress.begun (job_path j) ≡ has_begun p →
      refusals (j, s) ≡ listed (state_fault flow settings.cores j (looked_as (s, p)))
  one_so j s p h = one_by j s (missing j) (has_begun p) h ∙ ap (λ x. as_looked j x (missing j)) (sym (looked_so s p))

  -- ## All jobs

  -- the jobs have begun as their phases say
  abbrev pub HaveBegunSo : List Job → List Phase → Type 0
  HaveBegunSo jobs phases =
      (n : ℕ) (j : Job) (p : Phase) → slice_get jobs n ≡ Some j → slice_get phases n ≡ Some p → among progress.begun (job_path j) ≡ has_begun p

  abbrev faults_of : Job × State → List Fault
  faults_of e = listed (state_fault flow settings.cores e.0 e.1)

  -- what is refused of commands is what is found
  pub all_so :
      (jobs : List Job) (states : List State) (phases : List Phase) → length phases ≡ length jobs → HaveBegunSo jobs phases →
      flat_map refusals (zip jobs states) ≡ flat_map faults_of (zip jobs (map looked_as (zip states phases)))
  all_so [] states phases same so = refl
  all_so (j ∷ jobs) [] phases same so = refl
  all_so (j ∷ jobs) (s ∷ states) [] same so = absurd (omega (arith, same))
  all_so (j ∷ jobs) (s ∷ states) (p ∷ phases) same so =
      ap (λ fs. fs ++ flat_map refusals (zip jobs states)) (one_so j s p (so zero j p refl refl))
      ∙ ap (λ fs. listed (state_fault flow settings.cores j (looked_as (s, p))) ++ fs)
      (all_so jobs states phases (let e : length phases ≡ length jobs = omega (arith, same) in e) (λ n k q at is. so (suc n) k q at is))

-- ## The first that is found

some_none : (f : Fault) → Some f ≡ None → ⊥
some_none f e = cc

none_some : (f : Fault) → None ≡ Some f → ⊥
none_some f e = cc

same_some : (f g : Fault) → Some f ≡ Some g → f ≡ g
same_some f g e = cc

module _ (flow : Flow) (cores : ℕ) where
  abbrev pub found_in : Job × State → List Fault
  found_in e = listed (state_fault flow cores e.0 e.1)

  -- where none is found nothing is refused
  pub none_found : (es : List (Job × State)) → command_fault flow cores es ≡ None → flat_map found_in es ≡ []
  none_found [] h = refl
  none_found (e ∷ es) h = go (state_fault flow cores e.0 e.1) h (none_found es)
    where
      go :
          (o : Option Fault) → or_later o (command_fault flow cores es) ≡ None → (command_fault flow cores es ≡ None → flat_map found_in es ≡ []) →
          listed o ++ flat_map found_in es ≡ []
      go None k again = again k
      go (Some f) k again = absurd (some_none f k)

  pub record IsFirst (f : Fault) (fs : List Fault) : Type 0 where
    pub rest : List Fault
    pub is : fs ≡ f ∷ rest

  -- the first that is found is refused first
  pub first_found : (es : List (Job × State)) (f : Fault) → command_fault flow cores es ≡ Some f → IsFirst f (flat_map found_in es)
  first_found [] f h = absurd (none_some f h)
  first_found (e ∷ es) f h = go (state_fault flow cores e.0 e.1) h (first_found es f)
    where
      go :
          (o : Option Fault) → or_later o (command_fault flow cores es) ≡ Some f → (command_fault flow cores es ≡ Some f → IsFirst f (flat_map found_in es)) →
          IsFirst f (listed o ++ flat_map found_in es)
      go None k again = again k
      go (Some g) k again = record { rest = flat_map found_in es; is = ap (λ x. x ∷ flat_map found_in es) (same_some g f k) }
