-- A round, from what was found to the commands of the plan that has come.
use Rattle.std.proofs.Common.{◌≡◌, ◌≢◌, ◌⊎◌, inl, inr, ℕ, Bool, true, false, List, [], ◌++◌, refl, sym, ap, subst, ◌∙◌, Option, Some, None, Result, Ok, Err}
use Rattle.std.specs.Prelude.{IfErr, OnErr, OnOk}
use Rattle.std.proofs.lemmas.List.{append-nil}
use Rattle.smk_world.specs.declared.event.Event.{Event}
use Rattle.smk_world.specs.Devices.{AreLooks, Device, HasActed, HasLooked, WhereTold}
use Rattle.smk_world.specs.Trees.{Act}
use Rattle.smk_world.specs.World.{World, run}
use Rattle.smk_world.proofs.Devices.{acted_as}
use Rattle.smk_record.specs.declared.record.Record.{Record}
use Rattle.smk_record.specs.Spelling.{ReadsRecords}
use Rattle.smk_flow.specs.Flows.{Flow}
use Rattle.smk_store.specs.Stores.{Known}
use Rattle.smk_chain.specs.declared.jobs.Jobs.{Jobs}
use Rattle.smk_pick.specs.declared.settings.Settings.{Settings}
use Rattle.smk_plan.specs.declared.seen.Sight.{Sight}
use Rattle.smk_plan_live.specs.Lives.{IsLive}
use Rattle.smk_report.specs.declared.fault.Fault.{Fault}
use Rattle.smk_report.specs.declared.fault.Fault.TheVariants as fault
use Rattle.smk_plan_preview.specs.Faults.{device_failed, is_sink, is_told}
use Rattle.smk_plan_preview.specs.Faults as preview
use Rattle.smk_drive_step.specs.Crews.{is_device}
use Rattle.smk_laws_turns.specs.Growing.{IsBeside, IsMoreOf, IsMoreRefusal}
use Rattle.smk_laws_turns.specs.Resting.{refused_command}
use Rattle.smk_laws_turns.specs.Hubs.{Parts}
use Rattle.smk_laws_turns.specs.Turning.{faulted}
use Rattle.smk_laws_turns.specs.GrowingRounds as growing
use Rattle.smk_laws_turns.specs.GrowingRounds.{HasGrownOn, IsGrownBy, IsMoreFor, OfJobs, OfPlan}
use Rattle.smk_drive_close.specs.Rounds.{Grows, IsGrowthRefused, IsRefused, IsRound, IsRoundOn, IsTakenIn, LacksMemory, LookFails}
use Rattle.smk_drive_close.proofs.Faults.{kinds, quiet_failed, same_device, told_quiet}

-- looks were made, and this is so where they were
looked_with :
    (act : Act) (a b : Device) (failure : Bool) (Q : World → Type 0) → HasLooked act a b failure → WhereTold a Q → HasActed act (λ w es. AreLooks failure es × Q w) a b failure
looked_with act a b failure Q looked told =
    record {
      did = λ w1 e. let d = looked.acted.did w1 e in (d.0, d.1, (d.2.0, d.2.1, (d.2.2, told d.0 d.1), d.2.3));
      stays = looked.acted.stays;
      cause = looked.acted.cause;
      running = looked.acted.running;
      children = looked.acted.children;
    }

err_ok : (f : Fault) (u : Unit {0}) → ◌≡◌ {A = Result (Unit {0}) Fault} (Err f) (Ok u) → ⊥
err_ok f u e = cc

one_fault : (f g : Fault) → ◌≡◌ {A = Result (Unit {0}) Fault} (Err f) (Err g) → f ≡ g
one_fault f g e = cc

module _ (act : Act) (flow : Flow) (settings : Settings) (h k : Parts) where
  -- ## What was found

  -- by whichever rules, this is what the plan is to grow by
  abbrev IsMoreIn : Jobs → List Known → List Sight → World → Type 0
  IsMoreIn jobs store fresh w = (read : List ℕ → Option Record) → ReadsRecords read → IsBeside read w → IsMoreOf read flow settings w h.live jobs store fresh

  more_for : (jobs : Jobs) (store : List Known) (fresh : List Sight) (w : World) → IsMoreIn jobs store fresh w → IsMoreFor flow settings w h jobs store fresh
  more_for jobs store fresh w more = λ rules by beside. more rules.read by.reads beside

  round_of :
      (jobs : Jobs) (store : List Known) (fresh : List Sight) (w : World) (es : List Event) (r : Result (Unit {0}) Fault) →
      IsLive k.live → OnOk r (IsTakenIn jobs store fresh h k) → OnErr r (k ≡ h) →
      IfErr r (λ f. (f ≡ fault.OutOfMemory) ⊎ IsGrowthRefused flow jobs store fresh h.live f) →
      IfErr r (λ f. (is_device f ≡ false) × (f ≢ fault.Output)) →
      AreLooks false es → IsMoreFor flow settings w h jobs store fresh → IsRound flow settings w h k r es
  round_of jobs store fresh w es (Ok u) alive taken same refused quiet looks told =
      Grows es looks (record { jobs = jobs; store = store; fresh = fresh; told = told; grown = taken.grown; alive = alive; is = taken.is })
  round_of jobs store fresh w es (Err f) alive taken same (inl memory) quiet looks told =
      subst (λ (x : Fault). IsRound flow settings w h k (Err x) es) (sym memory) (LacksMemory es looks same)
  round_of jobs store fresh w es (Err f) alive taken same (inr refused) quiet looks told =
      IsRefused f es quiet.0 looks (OfPlan jobs store fresh refused.refusal told refused.refused refused.is) same

  pub found_round :
      (jobs : Jobs) (store : List Known) (fresh : List Sight) (r : Result (Unit {0}) Fault) (a b : Device) →
      HasLooked act a b false → WhereTold a (IsMoreIn jobs store fresh) →
      IsLive k.live → OnOk r (IsTakenIn jobs store fresh h k) → OnErr r (k ≡ h) →
      IfErr r (λ f. (f ≡ fault.OutOfMemory) ⊎ IsGrowthRefused flow jobs store fresh h.live f) →
      IfErr r (λ f. (is_device f ≡ false) × (f ≢ fault.Output)) → HasActed act (λ w es. IsRound flow settings w h k r es) a b (device_failed r)
  found_round jobs store fresh r a b looked told alive taken same refused quiet =
      acted_as act (λ w es. AreLooks false es × IsMoreIn jobs store fresh w) (λ w es. IsRound flow settings w h k r es) a b false (device_failed r)
      (sym (quiet_failed r quiet))
      (λ w es now. round_of jobs store fresh w es r alive taken same refused quiet now.0 (more_for jobs store fresh w now.1))
      (looked_with act a b false (IsMoreIn jobs store fresh) looked told)

  -- ## The commands

  has_grown : (w : World) (es : List Event) (r : Result (Unit {0}) Fault) (u : Unit {0}) → IsRound flow settings w h k r es → r ≡ Ok u → AreLooks false es × IsGrownBy flow settings w h k
  has_grown w es r u (Grows looks l g) is = (l, g)
  has_grown w es r u (IsRefused f looks quiet l refused same) is = absurd (err_ok f u is)
  has_grown w es r u (LookFails looks l same) is = absurd (err_ok fault.Device u is)
  has_grown w es r u (LacksMemory looks l same) is = absurd (err_ok fault.OutOfMemory u is)

  module _ (commands : refused_command flow settings h.live ≡ None) (known : h.live.plan.known ≢ []) where
    grown_then : (w : World) (es more : List Event) (n : Parts) → AreLooks false es → IsGrownBy flow settings w h k → HasGrownOn flow settings (run w es) k n more → HasGrownOn flow settings w h n (es ++ more)
    grown_then w es more n looks grown next = growing.Grows w h k n es more commands known looks grown next

    checked_of :
        (w : World) (es : List Event) (r : Result (Unit {0}) Fault) →
        IfErr r (λ f. (f ≡ fault.OutOfMemory) ⊎ (refused_command flow settings k.live ≡ Some f)) →
        IfErr r (λ f. (is_device f ≡ false) × (f ≢ fault.Output)) →
        AreLooks false es × IsGrownBy flow settings w h k → IsRoundOn flow settings w h k r es
    checked_of w es (Ok u) bad quiet grown = grown
    checked_of w es (Err f) (inl memory) quiet grown =
        subst (HasGrownOn flow settings w h (faulted f k)) (append-nil es)
        (grown_then w es [] (faulted f k) grown.0 grown.1
        (subst (λ (x : Fault). HasGrownOn flow settings (run w es) k (faulted x k) []) (sym memory) (growing.LacksMemory (run w es) k [] refl)))
    checked_of w es (Err f) (inr some) quiet grown =
        subst (HasGrownOn flow settings w h (faulted f k)) (append-nil es) (grown_then w es [] (faulted f k) grown.0 grown.1 (growing.IsBarred (run w es) k f quiet.0 some))

    pub checked_round :
        (before r : Result (Unit {0}) Fault) (u : Unit {0}) (a b : Device) →
        before ≡ Ok u → HasActed act (λ w es. IsRound flow settings w h k before es) a b (device_failed before) →
        IfErr r (λ f. (f ≡ fault.OutOfMemory) ⊎ (refused_command flow settings k.live ≡ Some f)) →
        IfErr r (λ f. (is_device f ≡ false) × (f ≢ fault.Output)) → HasActed act (λ w es. IsRoundOn flow settings w h k r es) a b (device_failed r)
    checked_round before r u a b is acted bad quiet =
        acted_as act (λ w es. IsRound flow settings w h k before es) (λ w es. IsRoundOn flow settings w h k r es) a b (device_failed before) (device_failed r)
        (ap device_failed is ∙ sym (quiet_failed r quiet)) (λ w es now. checked_of w es r bad quiet (has_grown w es before u now is)) acted

    -- the round itself has ended with a fault
    ended_of : (w : World) (es : List Event) (r : Result (Unit {0}) Fault) (f : Fault) → IsRound flow settings w h k r es → r ≡ Err f → HasGrownOn flow settings w h (faulted f k) es
    ended_of w es r f (Grows looks l g) is = absurd (err_ok f tt (sym is))
    ended_of w es r f (IsRefused g looks quiet l refused same) is =
        subst (λ (x : Fault). HasGrownOn flow settings w h (faulted x k) es) (one_fault g f is)
        (subst (λ (x : Parts). HasGrownOn flow settings w h (faulted g x) es) (sym same) (growing.IsRefused w h g looks quiet commands known l refused))
    ended_of w es r f (LookFails looks l same) is =
        subst (λ (x : Fault). HasGrownOn flow settings w h (faulted x k) es) (one_fault fault.Device f is)
        (subst (λ (x : Parts). HasGrownOn flow settings w h (faulted fault.Device x) es) (sym same) (growing.LookFails w h looks l))
    ended_of w es r f (LacksMemory looks l same) is =
        subst (λ (x : Fault). HasGrownOn flow settings w h (faulted x k) es) (one_fault fault.OutOfMemory f is)
        (subst (λ (x : Parts). HasGrownOn flow settings w h (faulted fault.OutOfMemory x) es) (sym same) (growing.LacksMemory w h looks l))

    pub ended_round :
        (before : Result (Unit {0}) Fault) (f : Fault) (a b : Device) →
        before ≡ Err f → HasActed act (λ w es. IsRound flow settings w h k before es) a b (device_failed before) →
        HasActed act (λ w es. IsRoundOn flow settings w h k (Err f) es) a b (device_failed {T = Unit {0}} (Err f))
    ended_round before f a b is acted =
        acted_as act (λ w es. IsRound flow settings w h k before es) (λ w es. IsRoundOn flow settings w h k (Err f) es) a b (device_failed before)
        (device_failed {T = Unit {0}} (Err f)) (ap device_failed is) (λ w es now. ended_of w es before f now is) acted

-- ## Nothing was found

module _ (act : Act) (flow : Flow) (settings : Settings) (h : Parts) where
  -- by whichever rules, the derivation is refused
  abbrev IsBadIn : Fault → World → Type 0
  IsBadIn f w = (read : List ℕ → Option Record) → ReadsRecords read → IsBeside read w → is_told f ≡ true → IsMoreRefusal read flow settings w h.live f

  unfound_of :
      (f : Fault) (w : World) (es : List Event) → (f ≡ fault.Device) ⊎ ((f ≡ fault.OutOfMemory) ⊎ (is_told f ≡ true)) →
      AreLooks (preview.is_device f) es → IsBadIn f w → IsRound flow settings w h h (Err f) es
  unfound_of f w es (inl device) looks bad =
      subst (λ (x : Fault). IsRound flow settings w h h (Err x) es) (sym device)
      (LookFails es (subst (λ (x : Fault). AreLooks (preview.is_device x) es) device looks) refl)
  unfound_of f w es (inr (inl memory)) looks bad =
      subst (λ (x : Fault). IsRound flow settings w h h (Err x) es) (sym memory)
      (LacksMemory es (subst (λ (x : Fault). AreLooks (preview.is_device x) es) memory looks) refl)
  unfound_of f w es (inr (inr told)) looks bad =
      let quiet = told_quiet f told in
      IsRefused f es quiet (subst (λ b. AreLooks b es) (sym (same_device f) ∙ quiet) looks) (OfJobs (λ rules by beside. bad rules.read by.reads beside told)) refl

  pub unfound_round :
      (f : Fault) (a b : Device) → is_sink f ≡ false → HasLooked act a b (preview.is_device f) → WhereTold a (IsBadIn f) →
      HasActed act (λ w es. IsRound flow settings w h h (Err f) es) a b (preview.is_device f)
  unfound_round f a b none looked told =
      acted_as act (λ w es. AreLooks (preview.is_device f) es × IsBadIn f w) (λ w es. IsRound flow settings w h h (Err f) es) a b (preview.is_device f) (preview.is_device f) refl
      (λ w es now. unfound_of f w es (kinds f none) now.0 now.1) (looked_with act a b (preview.is_device f) (IsBadIn f) looked told)
