-- From the reads of sources and the calls with which a job begins to how it began.
use Rattle.std.proofs.Common.{All, ◌≡◌, inl, inr, ℕ, ◌≤◌, Bool, true, false, List, ◌++◌, refl, ap, sym, subst, ◌∙◌, arith, Option, None, Result, Ok, Err}
use Rattle.std.proofs.lemmas.List.{append-nil}
use Rattle.smk_base.specs.Path.{is_path}
use Rattle.smk_world.specs.declared.event.Event.{Event}
use Rattle.smk_world.specs.declared.event.WorkFault.{WorkFault}
use Rattle.smk_world.specs.declared.event.WorkFault.TheVariants as work
use Rattle.smk_world.specs.World.{World, run, in_paths, is_within, owned_paths}
use Rattle.smk_world.specs.Calls.{Rose, any_overlap, device_failed, owned_now, used_now}
use Rattle.smk_world.specs.Devices.{Device, WhereTold, HasActed, HasLooked, AreLooks}
use Rattle.smk_world.specs.Runs.{Follows}
use Rattle.smk_world.specs.Trees.{Act, Each}
use Rattle.smk_world.proofs.Runs.{did_both}
use Rattle.smk_record.specs.declared.record.Stamp.{Stamp}
use Rattle.smk_flow.specs.declared.job.Job.{Job}
use Rattle.smk_job.specs.declared.fault.BeginFault.{BeginFault}
use Rattle.smk_job.specs.declared.fault.BeginFault.TheVariants.{TooLong, Device as DeviceFault, OutOfMemory}
use Rattle.smk_job.specs.Jobs.{HasBegun, IsBegunFor, LetsBegin, Underway, begin_failed, too_long, underway}
use Rattle.smk_job.specs.Starts.{HasStarted, begun_child, with_child}
use Rattle.smk_job.proofs.Acts.{acted_in}
use Rattle.smk_job.proofs.Starts.{started_acted}
use Rattle.smk_run.specs.Runs.{AreWritable}
use Rattle.smk_drive_step.specs.Stamping.{AreDigested}
use Rattle.smk_drive_step.specs.Beginning.{HasRead, HasTakenUp, unread}

further : (a b c : ℕ) → a ≤ b → Rose b c → Rose a c
further a b c le (inl lt) = inl (omega (arith, le, lt))
further a b c le (inr e) = inr e

-- a child may have been started, after other calls
started_after : (act : Act) (P Q R : World → List Event → Type 0) (child : Option ℕ) (a b c : Device) (f : Bool)
    → ((w : World) (es fs : List Event) → Follows act w es → P w es → Follows act (run w es) fs → Q (run w es) fs → R w (es ++ fs))
    → HasActed act P a b false → HasStarted act Q child b c f → HasStarted act R child a c f
started_after act P Q R child a b c f both first second =
    record {
      did = did_both act P Q R a.world b.world c.world first.did second.did both;
      stays = λ quiet some. second.stays quiet (first.stays refl some);
      cause = record {
        later = omega (arith, first.cause.later, second.cause.later);
        rose = λ failure. further a.faults b.faults c.faults first.cause.later (second.cause.rose failure);
      };
      running = second.running ∙ ap (with_child child) first.running;
    }

-- looks leave room for a job
pub still_lets : {act : Act} {a b : Device} {f : Bool} (j : Job)
    → HasLooked act a b f → WhereTold a (λ w. LetsBegin w j.recipe j.logs) → WhereTold b (λ w. LetsBegin w j.recipe j.logs)
still_lets j h lets = λ w at.
    let u = h.acted.children w at in
    let l = lets u.0 u.1 in
    record {
      inputs = subst (λ cs. All (λ p. is_within p (owned_now cs) ≡ false) (in_paths j.recipe)) (sym u.2) l.inputs;
      apart = subst (λ cs. any_overlap (owned_paths j.recipe j.logs) (used_now cs) ≡ false) (sym u.2) l.apart;
      own_apart = l.own_apart;
      users = subst (λ cs. Each (λ p. is_path p ≡ true) (used_now cs)) (sym u.2) l.users;
    }

module _ (act : Act) (j : Job) (known : List Stamp) (made : ℕ) (command : List ℕ) where
  -- sources were read
  was_read : (stamps : List Stamp) (a b : Device)
      → HasLooked act a b false → WhereTold a (λ w. AreDigested w (in_paths j.recipe) known stamps) → AreWritable made j.recipe stamps
      → HasActed act (HasRead j known made stamps) a b false
  was_read stamps a b h told writable =
      acted_in act (λ w es. AreLooks false es) (HasRead j known made stamps) a b false false refl
      (λ w es at only. record { only_read = only; stamped = told w at; writable = writable }) h.acted

  taken : (stamps : List Stamp) (r : Result Underway BeginFault) → IsBegunFor j.recipe j.logs stamps made r → (w v : World) (es fs : List Event)
      → HasRead j known made stamps w es → HasBegun j.recipe j.logs command r v fs → HasTakenUp j known made command r w (es ++ fs)
  taken stamps (Ok going) for w v es fs read begun =
      let same : going.stamps ≡ stamps = ap (λ (u : Underway). u.stamps) for.going in
      record {
        reads = es;
        beginning = fs;
        events = refl;
        read = subst (λ ss. HasRead j known made ss w es) (sym same) read;
        is = for.going ∙ ap (λ ss. underway j.recipe j.logs ss made going.number) (sym same);
        short = subst (λ ss. too_long made j.recipe ss ≡ None) (sym same) for.long;
        calls = begun.0;
        started = begun.1;
      }
  taken stamps (Err (TooLong bytes)) for w v es fs read begun =
      subst (λ gs. HasTakenUp j known made command (Err (TooLong bytes)) w gs) (sym (append-nil es) ∙ ap (λ gs. es ++ gs) (sym begun))
      (record { stamps = stamps; read = read; long = for.long })
  taken stamps (Err DeviceFault) for w v es fs read begun =
      inr (record { stamps = stamps; reads = es; beginning = fs; events = refl; read = read; short = for.long; calls = begun })
  taken stamps (Err OutOfMemory) for w v es fs read begun = subst (AreLooks false) (sym (append-nil es) ∙ ap (λ gs. es ++ gs) (sym begun)) read.only_read

  -- the sources were read, and then the job began, or didn't
  pub taken_up : (stamps : List Stamp) (r : Result Underway BeginFault) (a b c : Device)
      → HasLooked act a b false → WhereTold a (λ w. AreDigested w (in_paths j.recipe) known stamps) → AreWritable made j.recipe stamps
      → IsBegunFor j.recipe j.logs stamps made r → HasStarted act (HasBegun j.recipe j.logs command r) (begun_child r) b c (begin_failed r)
      → HasStarted act (HasTakenUp j known made command r) (begun_child r) a c (begin_failed r)
  taken_up stamps r a b c looked told writable for begun =
      started_after act (HasRead j known made stamps) (HasBegun j.recipe j.logs command r)
      (HasTakenUp j known made command r) (begun_child r) a b c (begin_failed r)
      (λ w es fs follows read follows2 h. taken stamps r for w (run w es) es fs read h) (was_read stamps a b looked told writable) begun

  -- the sources weren't read
  pub not_read : (why : WorkFault) (a b : Device) → HasLooked act a b (device_failed {T = List Stamp} (Err why))
      → HasStarted act (HasTakenUp j known made command (Err (unread why))) None a b (begin_failed {T = Underway} (Err (unread why)))
  not_read work.Failed a b h =
      started_acted act (HasTakenUp j known made command (Err DeviceFault)) a b true
      (acted_in act (λ w es. AreLooks true es) (HasTakenUp j known made command (Err DeviceFault)) a b true true refl (λ w es at only. inl only) h.acted)
  not_read work.OutOfMemory a b h =
      started_acted act (HasTakenUp j known made command (Err OutOfMemory)) a b false
      (acted_in act (λ w es. AreLooks false es) (HasTakenUp j known made command (Err OutOfMemory)) a b false false refl (λ w es at only. only) h.acted)

  pub not_read_as : (why : WorkFault) (fault : BeginFault) (a b : Device) → fault ≡ unread why → HasLooked act a b (device_failed {T = List Stamp} (Err why))
      → HasStarted act (HasTakenUp j known made command (Err fault)) (begun_child (Err fault)) a b (begin_failed {T = Underway} (Err fault))
  not_read_as why fault a b is h =
      subst (λ f. HasStarted act (HasTakenUp j known made command (Err f)) None a b (begin_failed {T = Underway} (Err f))) (sym is) (not_read why a b h)
