-- A child is waited for and its job is closed, or left, as a run of the protocol.
use Rattle.std.proofs.Common.{◌≡◌, ◌≢◌, ◌⊎◌, inl, inr, ℕ, Bool, true, false, List, [], ◌∷◌, ◌++◌, map, find, length, refl, sym, ap, subst, Some, None, Err}
use Rattle.std.specs.Prelude.{if◌then◌else◌}
use Rattle.smk_world.specs.declared.event.Change.{Change}
use Rattle.smk_world.specs.declared.event.Ended.{Ended}
use Rattle.smk_world.specs.declared.event.Event.{Event}
use Rattle.smk_world.specs.Folders.{IsTree}
use Rattle.smk_world.specs.World.{World, IsFormed, out_paths}
use Rattle.smk_world.specs.Runs.{Follows}
use Rattle.smk_world.specs.Requests.{IsCutShort}
use Rattle.smk_world.specs.Trees.{Path, IsIn, folders_of, outs_of}
use Rattle.smk_record.specs.declared.record.Record.{Record}
use Rattle.smk_record.specs.Spelling.{ReadsRecords}
use Rattle.smk_store.specs.Soundness.{Outside}
use Rattle.smk_store_members.specs.Members.{AllIsFound}
use Rattle.smk_store_members.proofs.Trees.{tree_found}
use Rattle.smk_laws_protocol.specs.Protocol.{OpenJob, RunState, Running, Ended as EndedPhase, Runs, Step, Go, Wait}
use Rattle.smk_laws_protocol.proofs.Basics.{each_in, each_of}
use Rattle.smk_job.specs.Jobs.{Underway, abandon_requests, bare_bytes, is_long, too_long}
use Rattle.smk_job.specs.Sights.{HasFinished}
use Rattle.smk_job.specs.declared.fault.CloseFault.TheVariants as close
use Rattle.smk_run.specs.declared.ending.Ending.{Ending}
use Rattle.smk_run.specs.declared.ending.Ending.TheVariants.{Good, Status, NoOutput, WrongKind, BadMember}
use Rattle.smk_run.specs.Closings.{wait_event, IsClosedBy}
use Rattle.smk_run.specs.Runs.{AreWritable}
use Rattle.smk_laws_job.specs.Laws.{HasOwnFolder, IsRecordable, MayFinish, stopped}
use Rattle.smk_laws_job.proofs.FinishRuns.{abandoning_runs, finishing_parts, finishing_runs, looking_runs, losing_runs}
use Rattle.smk_laws_job.proofs.Parts.{abandoning_fails}
use Rattle.smk_laws_plan.proofs.CurrentLists.{in_map}
use Rattle.smk_laws_moments.specs.Opened.{opened}

-- ## What may be recorded

none_found : {A : Type 0} (f : A → Bool) (xs : List A) (x : A) → find f xs ≡ None → IsIn xs x → f x ≡ false
none_found {A = A} f [] x h i = absurd i
none_found {A = A} f (y ∷ xs) x h i = go (f y) refl h i (none_found f xs x)
  where
    no : {n : A} → Some n ≡ None → ⊥
    no k = cc

    go : (b : Bool) → f y ≡ b → (if b then Some y else find f xs) ≡ None → IsIn (y ∷ xs) x → (find f xs ≡ None → IsIn xs x → f x ≡ false) → f x ≡ false
    go true e k i again = absurd (no k)
    go false e k (inl same) again = subst (λ z. f z ≡ false) (sym same) e
    go false e k (inr more) again = again k more

none_long : (made : ℕ) (g : Underway) (p : Path) → too_long made g.recipe g.stamps ≡ None → IsIn (out_paths g.recipe) p →
    is_long (length (bare_bytes made g.recipe g.stamps p)) ≡ false
none_long made g p short i =
    let long = λ (q : Path). length (bare_bytes made g.recipe g.stamps q) in
    none_found is_long (map long (out_paths g.recipe)) (long p) short (in_map long (out_paths g.recipe) p i)

-- The job of a child that has ended may be finished, where its records can be written.
pub may_finish : (o : Outside) (w : World) (g : Underway) (kept : List (Path × Record)) (status : ℕ) → ReadsRecords o.read
    → AreWritable g.made g.recipe g.stamps → too_long g.made g.recipe g.stamps ≡ None → IsFormed w → IsTree w → HasOwnFolder w →
    MayFinish o w (opened g kept (EndedPhase status))
may_finish o w g kept status reads writable short formed tree free =
    record {
      reads = reads;
      records = each_of (IsRecordable (opened g kept (EndedPhase status))) (out_paths g.recipe)
          (λ p i. record {
            valid = each_in (λ q. _) (out_paths g.recipe) p writable.valid i;
            writable = each_in (λ q. _) (out_paths g.recipe) p writable.writable i;
            short = none_long g.made g p short i;
          });
      found = each_of (AllIsFound w.nodes) (folders_of g.recipe) (λ p i. tree_found w tree p);
      formed = formed;
      own_folder = free;
    }

module _ (o : Outside) (s : RunState) (js ks : List OpenJob) (g : Underway) (kept : List (Path × Record)) where
  -- ## Waits

  -- the state once the child has ended with this status
  abbrev pub waited : ℕ → RunState
  waited status = record s { jobs = js ++ opened g kept (EndedPhase status) ∷ ks }

  pub wait_step : (w : World) (ended : Ended) (left : List Change) → s.jobs ≡ js ++ opened g kept (Running g.number) ∷ ks → ended.number ≡ g.number →
      Step o s w (wait_event ended left) (waited ended.status)
  wait_step w ended left at is =
      Go (wait_event ended left) js ks (opened g kept (Running g.number)) (EndedPhase ended.status) at (inr tt)
      (Wait ended.number ended.status (ap Running (sym is)))

  -- ## Closing

  -- the state once the job is closed
  abbrev pub closed : RunState
  closed = record s { jobs = js ++ ks }

  module _ (calm : s.faulted ≡ false) (makes : out_paths g.recipe ≢ []) where
    pub closed_runs : (how : Ending) (status : ℕ) (w : World) (es : List Event) → MayFinish o w (opened g kept (EndedPhase status)) → Follows o.act w es →
        IsClosedBy g how status w es
        → Runs o (waited status) w es closed
    closed_runs Good status w es may follows (zero_status, done) =
        finishing_runs o (waited status) js ks (opened g kept (EndedPhase status)) g.number w es refl calm (ap EndedPhase zero_status) may follows done
    closed_runs (Status n) status w es may follows (is, other, done) =
        abandoning_runs o (waited status) js ks (opened g kept (EndedPhase status)) g.number status w es refl calm refl makes follows done
    closed_runs (NoOutput p) status w es may follows (zero_status, h) =
        losing_runs o (waited status) js ks (opened g kept (EndedPhase status)) g.number (close.NoOutput p) w es refl calm (ap EndedPhase zero_status) makes
        follows h
    closed_runs (WrongKind p) status w es may follows (zero_status, h) =
        losing_runs o (waited status) js ks (opened g kept (EndedPhase status)) g.number (close.WrongKind p) w es refl calm (ap EndedPhase zero_status) makes
        follows h
    closed_runs (BadMember p) status w es may follows (zero_status, h) =
        losing_runs o (waited status) js ks (opened g kept (EndedPhase status)) g.number (close.BadMember p) w es refl calm (ap EndedPhase zero_status) makes
        follows h

    -- there was no memory for it
    pub left_runs : (status : ℕ) (w : World) (es : List Event) → Follows o.act w es → HasFinished g (Err close.OutOfMemory) w es →
        Runs o (waited status) w es (waited status)
    left_runs status w es follows h = looking_runs o (waited status) (outs_of g.recipe) w es calm h

    -- a call failed
    pub broken_runs : (status : ℕ) (w : World) (es : List Event) → MayFinish o w (opened g kept (EndedPhase status)) → Follows o.act w es
        → ((status ≡ 0) × HasFinished g (Err close.Device) w es) ⊎ ((status ≢ 0) × IsCutShort (abandon_requests g) es) →
        Runs o (waited status) w es (stopped o (waited status))
    broken_runs status w es may follows (inl (zero_status, unclosed)) =
        finishing_parts o (waited status) js ks (opened g kept (EndedPhase status)) g.number w es refl calm (ap EndedPhase zero_status) may follows unclosed
    broken_runs status w es may follows (inr (other, cut)) =
        abandoning_fails o (waited status) js ks (opened g kept (EndedPhase status)) g.number status w es refl calm refl makes follows cut
