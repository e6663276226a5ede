-- What is so of what is kept, be a world told or not, once a fault came or a job has begun.
use Rattle.std.proofs.Common.{◌≡◌, ◌≢◌, ◌⊎◌, ℕ, Bool, true, false, ◌&&◌, ◌||◌, [], ◌∷◌, ◌++◌, refl, sym, ap, subst, ◌∙◌, inl, inr, Option, Some, None, Result, Ok, Err, true≢false}
use Rattle.std.specs.Prelude.{IfErr, is_ok}
use Rattle.std.specs.List.{slice_get}
use Rattle.std.proofs.Math.Bool.{and-true, or-false, or-true}
use Rattle.std.proofs.lemmas.Option.{same_Some}
use Rattle.smk_world.specs.Trees.{IsIn}
use Rattle.smk_flow.specs.declared.job.Job.{Job}
use Rattle.smk_flow.specs.Flows.{Flow}
use Rattle.smk_chain.specs.declared.jobs.Jobs.{Jobs}
use Rattle.smk_pick.specs.declared.settings.Settings.{Settings}
use Rattle.smk_report.specs.Lines.{done_line}
use Rattle.smk_report.specs.declared.fault.Fault.{Fault}
use Rattle.smk_report.specs.declared.fault.Fault.TheVariants as fault
use Rattle.smk_run.specs.Runs.{is_output, is_output_fault}
use Rattle.smk_drive.specs.Reports.{named_job}
use Rattle.smk_drive_step.specs.declared.children.Child.{Child}
use Rattle.smk_drive_step.specs.declared.halt.Halt.{Halt}
use Rattle.smk_drive_step.specs.Crews.{halted_by, is_device, or_later}
use Rattle.smk_laws_turns.specs.Hubs.{Parts, asks_in}
use Rattle.smk_laws_turns.specs.Turning.{faulted}
use Rattle.smk_drive_hub.specs.Keeping.{heeded}
use Rattle.smk_drive_hub.specs.Turned.{IsSoundHalt, IsSteady}
use Rattle.smk_laws_begins.specs.Noting.{HasNoted, told_and_put}
use Rattle.smk_laws_begins.proofs.Picked.{holds_moved}
use Rattle.smk_laws_begins.proofs.Places.{asks_more, in_place}

-- ## Faults

came : {f : Fault} → Some f ≡ None → ⊥
came e = cc

device_is : (f : Fault) → f ≡ fault.Device → is_device f ≡ true
device_is f e = ap is_device e

later_is : (o : Option Fault) (f : Fault) → o ≡ None → Some (or_later o f) ≡ Some f
later_is None f e = refl
later_is (Some g) f e = absurd (came e)

-- a fault that comes first is told rightly
pub sound_by : (q : Halt) (f : Fault) → q.fault ≡ None → IsSoundHalt (halted_by f q)
sound_by q f none =
    record {
      some = λ waits none. came none;
      device = λ is.
          ap (λ b. q.only_waits || b) (device_is f (same_Some f fault.Device (sym (later_is q.fault f none) ∙ is))) ∙ or-true q.only_waits;
    }

pub steady_by : (flow : Flow) (settings : Settings) (h : Parts) (f : Fault) → h.halt.fault ≡ None → IsSteady flow settings h → IsSteady flow settings (faulted f h)
steady_by flow settings h f none steady = record { room = steady.room; halt = sound_by h.halt f none; lines = steady.lines; silent = λ e. λ n. came n }

-- ## Once a job has begun

module _
    (flow : Flow) (settings : Settings) (h k : Parts) (number : ℕ) (draws : Bool) (child : Child) (told put : Result (Unit {0}) Fault) (none : h.halt.fault ≡ None)
    (noted : HasNoted flow settings h k number draws child told put) (j : Job) (is : slice_get h.live.base.jobs.jobs number ≡ Some j) (number_is : child.job ≡ number)
    (done : child.done ≡ done_line (named_job flow j)) where
  -- by the answer, the halt
  pub halts :
      (P : Halt → Type 0) → P h.halt → ((f : Fault) → is_device f ≡ false → P (halted_by f h.halt)) → P k.halt
  halts P well halted = subst P (sym noted.halted) (go told put noted.plan.quiet noted.lost)
    where
      go : (told put : Result (Unit {0}) Fault) → IfErr told (λ f. (is_device f ≡ false) × (f ≢ fault.Output)) → IfErr put (λ f. f ≡ fault.Output) →
          P (heeded (told_and_put told put) h).halt
      go (Ok a) (Ok b) quiet lost = well
      go (Ok a) (Err f) quiet lost = halted f (ap is_device lost)
      go (Err f) (Ok b) quiet lost = halted f quiet.0
      go (Err f) (Err g) quiet lost = halted fault.OutOfMemory refl

  pub waits_same : k.halt.only_waits ≡ (h.halt.only_waits || false)
  waits_same =
      halts (λ q. q.only_waits ≡ (h.halt.only_waits || false)) (sym (or-false h.halt.only_waits)) (λ f other. ap (λ b. h.halt.only_waits || b) other)

  lines_now :
      IsSteady flow settings h → (c : Child) → IsIn k.places (Some c) → (i : Job) → slice_get k.live.base.jobs.jobs c.job ≡ Some i → c.done ≡ done_line (named_job flow i)
  lines_now steady c there i has = go (in_place h.places k.places child c noted.placed there)
    where
      was : slice_get h.live.base.jobs.jobs c.job ≡ Some i
      was = subst (λ jobs. slice_get jobs c.job ≡ Some i) (ap (λ (x : Jobs). x.jobs) noted.plan.jobs_stay) has

      go : (c ≡ child) ⊎ IsIn h.places (Some c) → c.done ≡ done_line (named_job flow i)
      go (inr old) = steady.lines c old i was
      go (inl e) =
          let at : slice_get h.live.base.jobs.jobs number ≡ Some i = sym (ap (slice_get h.live.base.jobs.jobs) (ap (λ (x : Child). x.job) e ∙ number_is)) ∙ was in
          ap (λ (x : Child). x.done) e ∙ (done ∙ ap (λ x. done_line (named_job flow x)) (same_Some j i (sym is ∙ at)))

  silent_then : IsSteady flow settings h → k.telling ≡ false → k.halt.fault ≢ None
  silent_then steady e = subst (λ (q : Halt). q.fault ≢ None) (sym noted.halted) (go told put (sym noted.telling ∙ e))
    where
      go : (told put : Result (Unit {0}) Fault) → (h.telling && is_ok put) ≡ false → (heeded (told_and_put told put) h).halt.fault ≢ None
      go (Ok a) (Ok b) e = steady.silent (sym (and-true h.telling) ∙ e)
      go (Ok a) (Err f) e = λ n. came n
      go (Err f) (Ok b) e = λ n. came n
      go (Err f) (Err g) e = λ n. came n

  pub steady_now : IsSteady flow settings h → IsSteady flow settings k
  steady_now steady =
      record {
        room =
            holds_moved settings.cores settings.bounds k.room (asks_in h.places ++ child.ask ∷ []) (asks_in k.places) (asks_more h.places k.places child noted.placed)
            (noted.room settings.cores settings.bounds (asks_in h.places) steady.room);
        halt = halts IsSoundHalt steady.halt (λ f other. sound_by h.halt f none);
        lines = lines_now steady;
        silent = silent_then steady;
      }

  pub silent_now : (h.telling ≡ false) ⊎ (is_output put ≡ true) → k.telling ≡ false
  silent_now (inl e) = noted.telling ∙ ap (λ b. b && is_ok put) e
  silent_now (inr e) = noted.telling ∙ (ap (λ b. h.telling && b) (lost put e) ∙ and_none h.telling)
    where
      lost : (r : Result (Unit {0}) Fault) → is_output r ≡ true → is_ok r ≡ false
      lost (Ok u) e = absurd (true≢false (sym e))
      lost (Err f) e = refl

      and_none : (b : Bool) → (b && false) ≡ false
      and_none true = refl
      and_none false = refl

  pub output_now : k.halt.fault ≡ Some fault.Output → (h.halt.fault ≡ Some fault.Output) ⊎ (is_output put ≡ true)
  output_now e = go told put noted.plan.quiet noted.lost (sym (ap (λ (q : Halt). q.fault) noted.halted) ∙ e)
    where
      memory_not : fault.OutOfMemory ≡ fault.Output → ⊥
      memory_not e = cc

      go : (told put : Result (Unit {0}) Fault) → IfErr told (λ f. (is_device f ≡ false) × (f ≢ fault.Output)) → IfErr put (λ f. f ≡ fault.Output) →
          (heeded (told_and_put told put) h).halt.fault ≡ Some fault.Output → (h.halt.fault ≡ Some fault.Output) ⊎ (is_output put ≡ true)
      go (Ok a) (Ok b) quiet lost e = inl e
      go (Ok a) (Err f) quiet lost e = inr (ap is_output_fault lost)
      go (Err f) (Ok b) quiet lost e = absurd (quiet.1 (same_Some f fault.Output (sym (later_is h.halt.fault f none) ∙ e)))
      go (Err f) (Err g) quiet lost e = absurd (memory_not (same_Some fault.OutOfMemory fault.Output (sym (later_is h.halt.fault fault.OutOfMemory none) ∙ e)))
