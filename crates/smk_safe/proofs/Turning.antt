-- A turn is a run of the protocol, and so are turns one after another.
use Rattle.std.proofs.Common.{◌≡◌, ◌≢◌, ◌⊎◌, inl, inr, ℕ, true, false, ◌||◌, List, [], ◌∷◌, ◌++◌, refl, ap, sym, subst, ◌∙◌, Option, Some, None, Result, Ok, Err, true≢false}
use Rattle.std.specs.List.{list_any}
use Rattle.std.proofs.lemmas.List.{append-nil}
use Rattle.std.proofs.lemmas.List.Folds.{list_any-append}
use Rattle.smk_base.specs.Path.{overlaps}
use Rattle.smk_world.specs.declared.event.Call.TheVariants.{Waited}
use Rattle.smk_world.specs.declared.event.Change.{Change}
use Rattle.smk_world.specs.declared.event.Child.{Child}
use Rattle.smk_world.specs.declared.event.Ended.{Ended}
use Rattle.smk_world.specs.declared.event.Event.{Event}
use Rattle.smk_world.specs.declared.event.Failed.{Failed}
use Rattle.smk_world.specs.declared.event.WorkFault.{WorkFault}
use Rattle.smk_world.specs.declared.event.WorkFault.TheVariants.{Failed as FailedFault, OutOfMemory as MemoryFault}
use Rattle.smk_world.specs.World.{World, IsFormed, Throughout, after, run, in_paths, is_within, out_paths}
use Rattle.smk_world.specs.Calls.{HasOwners, owned_now, started_numbers, failed}
use Rattle.smk_world.specs.Runs.{Follows}
use Rattle.smk_world.specs.Requests.{HasDone}
use Rattle.smk_world.specs.Trees.{Path, Each, IsIn, outs_of}
use Rattle.smk_world.proofs.Names.{formed_run, formed_after}
use Rattle.smk_world.proofs.Owners.{numbered_run, owned_after, owned_run}
use Rattle.smk_world.proofs.Runs.{throughout_start}
use Rattle.smk_record.specs.declared.record.Record.{Record}
use Rattle.smk_record.specs.Spelling.{ReadsRecords}
use Rattle.smk_store.specs.Images.{Image, stands, is_source, core_at, seen}
use Rattle.smk_store.specs.Soundness.{Outside}
use Rattle.smk_laws_protocol.specs.Protocol.{OpenJob, Phase, RunState, Running, Ended as EndedPhase, MayBegin, HasSerial, IsKept, IsAtHand, Runs, Done, Next, Step, Go, FailWait, Wait, outputs, own, begun_with, now}
use Rattle.smk_laws_protocol.proofs.Basics.{each_on}
use Rattle.smk_laws_protocol.proofs.ProtocolHolds.{numbered_alone}
use Rattle.smk_job.specs.Jobs.{begin_requests, abandon_requests, finish_requests}
use Rattle.smk_job.specs.declared.fault.CloseFault.{CloseFault}
use Rattle.smk_job.specs.declared.fault.CloseFault.TheVariants as fault
use Rattle.smk_job.specs.Jobs.{IsPart}
use Rattle.smk_laws_job.specs.Laws.{HasOwnFolder, IsRecordable, MayFinish, stopped}
use Rattle.smk_job.specs.Sights.{IsAbandoned}
use Rattle.smk_laws_job.proofs.Beginning.{beginning_runs}
use Rattle.smk_laws_job.proofs.FinishRuns.{finishing_runs, finishing_parts, looking_runs, losing_runs, abandoning_runs}
use Rattle.smk_laws_job.proofs.Parts.{beginning_fails, abandoning_fails}
use Rattle.smk_job.proofs.Launching.{before_start, before_files}
use Rattle.smk_run.specs.declared.ending.Ending.{Ending}
use Rattle.smk_run.specs.declared.ending.Ending.TheVariants.{Good, Status, NoOutput, WrongKind, BadMember}
use Rattle.smk_run.specs.declared.stop.Stop.{Stop}
use Rattle.smk_run.specs.declared.stop.Stop.TheVariants as stop
use Rattle.smk_record.specs.declared.record.Stamp.{Stamp}
use Rattle.smk_run.specs.Digesting.{HasReadPart, HasInputs}
use Rattle.smk_run.specs.Stamps.{Serials, look_at, looks}
use Rattle.smk_run.specs.Closings.{wait_event, HasSettled}
use Rattle.smk_run.specs.Turns.{Course, Unbegun, Unstarted, Unclosed, Closed, Turn, found, as_underway, HasGoneOn, HasGone, HasStampedAnd, IsTurnBy, is_begun, is_closed}
use Rattle.smk_run.proofs.Calls.{each_append, digested_each, stamped_each}
use Rattle.smk_safe.proofs.Done.{follows_split}
use Rattle.smk_run.proofs.Telling.{started_after}
use Rattle.smk_safe.proofs.Starting.{has_ended}
use Rattle.smk_safe.specs.Turning.{IsAtRest, opened, MayComeNext, AllAreFound, has_failure, TurnIsRun, ComeInTurn, TurnsAreRun}
use Rattle.smk_safe.proofs.Joining.{runs_then, throughout_later, throughout_first, throughout_on, IsLooking, lookings, AreLooks, looks_by, look_all, look_part, read_part, looks_same, now_same}
use Rattle.smk_safe.proofs.Quiet.{IsQuiet, quiet_then, done_quiet, digested_quiet, stamped_quiet, seen_quiet, wrong_quiet, looked_quiet}

-- ## In a world that reads the same

pub begin_as : (o : Outside) (s : RunState) (w v : World) (j : OpenJob) → now o v ≡ now o w → MayBegin o s w j → MayBegin o s v j
begin_as o s w v j e h = record {
  paths = h.paths;
  apart = h.apart;
  from_open = h.from_open;
  from_inputs = h.from_inputs;
  no_source = subst (λ (i : Image). (q : Path) → is_source i q ≡ true → list_any (overlaps q) (own j) ≡ false) (sym e) h.no_source;
  no_clash = subst (λ (i : Image). (q : Path) → (stands (i.kept q) || i.marked q) ≡ true → list_any (overlaps q) (own j) ≡ true → IsIn (outputs j) q) (sym e) h.no_clash;
  at_hand = subst (λ (i : Image). Each (IsAtHand o i) (begun_with j)) (sym e) h.at_hand;
  each_stamped = h.each_stamped;
  kept_own = h.kept_own;
}

pub serial_as : (o : Outside) (s : RunState) (w v : World) (j : OpenJob) (top : ℕ) → now o v ≡ now o w → HasSerial o s w j top → HasSerial o s v j top
serial_as o s w v j top e (inl h) = inl h
serial_as o s w v j top e (inr (some, kept, is)) = inr (
  some,
  each_on (IsKept o w j) (IsKept o v j)
      (λ p k. record {
        found = k.found;
        stands = subst (λ (i : Image). core_at i p ≡ Some k.found) (sym e) k.stands;
        unmarked = subst (λ (i : Image). i.marked p ≡ false) (sym e) k.unmarked;
        kept = k.kept;
        again = k.again;
      }) (outputs j) kept,
  is,
)

-- where no child runs none owns a place in the engine's folder
none_owned : (w : World) → w.children ≡ [] → HasOwners w → HasOwnFolder w
none_owned w none owners q at is = true≢false (sym (owners q is) ∙ ap (λ cs. is_within q (owned_now cs)) none)

looking_one : (m : Option ℕ) (p : Path) → Each IsLooking (look_at m p)
looking_one (Some serial) p = tt
looking_one None p = (tt, tt)

all_looking : (made : Serials) (ps : List Path) → Each IsLooking (looks made ps)
all_looking made [] = tt
all_looking made (p ∷ ps) = each_append IsLooking (look_at (made p) p) (looks made ps) (looking_one (made p) p) (all_looking made ps)

-- ## The open job

abbrev running : RunState → Turn → List (Path × Record) → ℕ → ℕ → RunState
running s t kept top number = record s { jobs = (record (opened t kept) { phase = Running number }) ∷ s.jobs; top = top }

abbrev ended_with : RunState → Turn → List (Path × Record) → ℕ → ℕ → RunState
ended_with s t kept top status = record s { jobs = (record (opened t kept) { phase = EndedPhase status }) ∷ s.jobs; top = top }

pub recordable_as : (t : Turn) (kept kept2 : List (Path × Record)) (phase : Phase) (ps : List Path)
    → Each (IsRecordable (opened t kept)) ps → Each (IsRecordable (record (opened t kept2) { phase = phase })) ps
recordable_as t kept kept2 phase ps h =
    each_on (IsRecordable (opened t kept)) (IsRecordable (record (opened t kept2) { phase = phase })) (λ p r. record { valid = r.valid; writable = r.writable; short = r.short }) ps h

-- ## The end of the job

module _ (o : Outside) (s : RunState) (t : Turn) (kept : List (Path × Record)) (top number : ℕ) (calm : s.faulted ≡ false) (makes : out_paths t.job.recipe ≢ []) where
  abbrev job_with : ℕ → OpenJob
  job_with status = record (opened t kept) { phase = EndedPhase status }

  -- the job is closed
  abbrev IsClosedRun : ℕ → World → List Event → Type 0
  IsClosedRun status v es = Runs o (ended_with s t kept top status) v es (record s { top = top }) × IsQuiet es

  lost : (status : ℕ) (v : World) (es : List Event) (f : CloseFault) → Follows o.act v es → status ≡ 0 → IsAbandoned (as_underway t number) f v es → IsClosedRun status v es
  lost status v es f follows zero_status h = (
    losing_runs o (ended_with s t kept top status) [] s.jobs (job_with status) number f v es refl calm (ap EndedPhase zero_status) makes follows h,
    quiet_then es h.looks h.rest h.events (wrong_quiet v.nodes (outs_of t.job.recipe) f h.looks h.seen) (done_quiet (abandon_requests (as_underway t number)) h.rest h.done),
  )

  closed_run : (ending : Ending) (status : ℕ) (v : World) (es : List Event)
      → MayFinish o v (job_with status) → Follows o.act v es → HasSettled (as_underway t number) (Ok ending) status v es → IsClosedRun status v es
  closed_run Good status v es may follows (zero_status, (members, seen)) = (
    finishing_runs o (ended_with s t kept top status) [] s.jobs (job_with status) number v es refl calm (ap EndedPhase zero_status) may follows (members, seen),
    quiet_then es seen.looks seen.rest seen.events (seen_quiet v.nodes (outs_of t.job.recipe) members seen.looks seen.seen) (done_quiet (finish_requests (as_underway t number) members) seen.rest seen.done),
  )
  closed_run (Status n) status v es may follows (is, other, done) = (
    abandoning_runs o (ended_with s t kept top status) [] s.jobs (job_with status) number status v es refl calm refl makes follows done,
    done_quiet (abandon_requests (as_underway t number)) es done,
  )
  closed_run (NoOutput p) status v es may follows h = lost status v es (fault.NoOutput p) follows h.0 h.1
  closed_run (WrongKind p) status v es may follows h = lost status v es (fault.WrongKind p) follows h.0 h.1
  closed_run (BadMember p) status v es may follows h = lost status v es (fault.BadMember p) follows h.0 h.1

  -- it is left open
  abbrev IsOpenRun : RunState → World → List Event → Type 0
  IsOpenRun from v es = (end : RunState) × Runs o from v es end × (has_failure es ≡ true → end.faulted ≡ true)

  left_open : (f : WorkFault) (status : ℕ) (v : World) (es : List Event)
      → MayFinish o v (job_with status) → Follows o.act v es → HasSettled (as_underway t number) (Err f) status v es → IsOpenRun (ended_with s t kept top status) v es
  left_open FailedFault status v es may follows (inl (zero_status, unclosed)) = (
    stopped o (ended_with s t kept top status),
    finishing_parts o (ended_with s t kept top status) [] s.jobs (job_with status) number v es refl calm (ap EndedPhase zero_status) may follows unclosed,
    λ bad. refl,
  )
  left_open FailedFault status v es may follows (inr (other, cut)) = (
    stopped o (ended_with s t kept top status),
    abandoning_fails o (ended_with s t kept top status) [] s.jobs (job_with status) number status v es refl calm refl makes follows cut,
    λ bad. refl,
  )
  left_open MemoryFault status v es may follows (zero_status, looked) = (
    ended_with s t kept top status,
    looking_runs o (ended_with s t kept top status) (outs_of t.job.recipe) v es calm looked,
    λ bad. absurd (true≢false (sym bad ∙ looked_quiet (outs_of t.job.recipe) es looked)),
  )

  -- ## The wait for its child

  waits : (u : World) (ended : Ended) (left : List Change) → ended.number ≡ number → Step o (running s t kept top number) u (wait_event ended left) (ended_with s t kept top ended.status)
  waits u ended left is =
      Go (wait_event ended left) [] s.jobs (record (opened t kept) { phase = Running number }) (EndedPhase ended.status) refl (inl calm)
      (Wait ended.number ended.status (ap Running (sym is)))

  wait_fails : (u : World) (e : Failed) → Step o (running s t kept top number) u (record { call = Waited (Err e); left = [] }) (stopped o (running s t kept top number))
  wait_fails u e = FailWait (record { call = Waited (Err e); left = [] }) e refl

  -- from the start of the command on: what holds as a job is finished, after each answer to the wait
  abbrev MayFinishAfter : World → List Event → Type 0
  MayFinishAfter u es =
      (ended : Ended) (left : List Change) (rest : List Event) → es ≡ wait_event ended left ∷ rest → MayFinish o (after u (wait_event ended left)) (job_with ended.status)

  gone_closed : (ending : Ending) (u : World) (es : List Event) → MayFinishAfter u es → Follows o.act u es → HasGoneOn (as_underway t number) (Closed ending) u es
      → Runs o (running s t kept top number) u es (record s { top = top }) × IsQuiet es
  gone_closed ending u es may follows h =
      let wait = wait_event h.ended h.left in
      let f = subst (Follows o.act u) h.events follows in
      let r = closed_run ending h.ended.status (after u wait) h.rest (may h.ended h.left h.rest h.events) f.1 h.then_did in
      subst (λ l. Runs o (running s t kept top number) u l (record s { top = top }) × IsQuiet l) (sym h.events)
      (Next (running s t kept top number) (ended_with s t kept top h.ended.status) (record s { top = top }) u wait h.rest (waits u h.ended h.left h.is_it) r.0, r.1)

  gone_open : (u : World) (es : List Event) → MayFinishAfter u es → Follows o.act u es → HasGoneOn (as_underway t number) Unclosed u es → IsOpenRun (running s t kept top number) u es
  gone_open u es may follows (f, inl (is, (e, events))) =
      let wait : Event = record { call = Waited (Err e); left = [] } in
      let end = stopped o (running s t kept top number) in
      subst (IsOpenRun (running s t kept top number) u) (sym events)
      (end, Next (running s t kept top number) end end u wait [] (wait_fails u e) (Done end (after u wait)), λ bad. refl)
  gone_open u es may follows (f, inr h) =
      let wait = wait_event h.ended h.left in
      let g = subst (Follows o.act u) h.events follows in
      let r = left_open f h.ended.status (after u wait) h.rest (may h.ended h.left h.rest h.events) g.1 h.then_did in
      subst (IsOpenRun (running s t kept top number) u) (sym h.events)
      (r.0, Next (running s t kept top number) (ended_with s t kept top h.ended.status) r.0 u wait h.rest (waits u h.ended h.left h.is_it) r.1, r.2)

later_bad : (es first rest : List Event) → es ≡ first ++ rest → IsQuiet first → has_failure es ≡ true → has_failure rest ≡ true
later_bad es first rest e quiet bad =
    sym (list_any-append (λ (x : Event). failed x.call) first rest ∙ ap (λ b. b || has_failure rest) quiet) ∙ sym (ap has_failure e) ∙ bad

-- ## From the start

-- what holds once the inputs have been looked at
record IsSet (o : Outside) (s : RunState) (t : Turn) (kept : List (Path × Record)) (top : ℕ) (w : World) : Type 0 where
  pub formed : IsFormed w
  pub none_runs : w.children ≡ []
  pub owners : HasOwners w
  pub may : MayBegin o s w (opened t kept)
  pub serial : HasSerial o s w (opened t kept) top
  pub records : Each (IsRecordable (opened t kept)) (out_paths t.job.recipe)

module _ (o : Outside) (s : RunState) (t : Turn) (kept : List (Path × Record)) (top : ℕ) (rest : IsAtRest s) (makes : out_paths t.job.recipe ≢ []) (reads : ReadsRecords o.read) where
  begun_run : (number : ℕ) (w : World) (first : List Event) → IsSet o s t kept top w → Follows o.act w first
      → HasDone (begin_requests t.job.recipe t.job.logs t.command) first → started_numbers first ≡ number ∷ [] → Runs o s w first (running s t kept top number)
  begun_run number w first set follows done started =
      beginning_runs o s (opened t kept) top number t.command w first rest.calm rest.steady set.may set.serial refl makes (none_owned w set.none_runs set.owners) follows done started

  -- as the job may be finished
  finish_from : (number : ℕ) (w : World) (first : List Event) (after_it : List Event) → IsSet o s t kept top w → Follows o.act w (first ++ after_it)
      → HasDone (begin_requests t.job.recipe t.job.logs t.command) first → started_numbers first ≡ number ∷ []
      → Throughout (run w first) after_it (AllAreFound (t ∷ [])) → MayFinishAfter o s t kept top number rest.calm makes (run w first) after_it
  finish_from number w first after_it set follows done started found_all ended left later events =
      let u = run w first in
      let wait = wait_event ended left in
      let v = after u wait in
      let split = follows_split o.act w first after_it follows in
      let next = subst (Follows o.act u) events split.1 in
      let numbered_w = numbered_alone w set.none_runs in
      let numbered_u = numbered_run o.act w first split.0 numbered_w in
      let owners_u = owned_run o.act w first split.0 numbered_w set.owners in
      let child : Child = record { number = number; recipe = t.job.recipe; logs = t.job.logs } in
      let one : u.children ≡ child ∷ [] =
      started_after (before_start t.job.recipe t.job.logs) t.job.recipe t.job.logs t.command number w first (before_files t.job.recipe t.job.logs) done started
      ∙ ap (λ cs. cs ++ child ∷ []) set.none_runs in
      let alone : v.children ≡ [] = (has_ended o.act t.job.recipe t.job.logs number u ended left one next.0.lets).children in
      record {
        reads = reads;
        records = recordable_as t kept kept (EndedPhase ended.status) (out_paths t.job.recipe) set.records;
        found = (throughout_start (AllAreFound (t ∷ [])) v later (subst (λ l. Throughout u l (AllAreFound (t ∷ []))) events found_all).1).0;
        formed = formed_after u wait (formed_run w first set.formed);
        own_folder = none_owned v alone (owned_after u wait numbered_u owners_u);
      }

  gone_run : (c : Course) (w : World) (es : List Event) → is_begun c ≡ true → IsSet o s t kept top w → Throughout w es (AllAreFound (t ∷ [])) → Follows o.act w es → HasGone t c w es
      → (end : RunState) × Runs o s w es end × (is_closed c ≡ true → end ≡ record s { top = top }) × (has_failure es ≡ true → end.faulted ≡ true)
  gone_run Unbegun w es begun set all follows h = absurd (true≢false (sym begun))
  gone_run Unstarted w es begun set all follows h = (
    record (stopped o s) { top = top },
    beginning_fails o s (opened t kept) top t.command w es rest.calm rest.steady set.may set.serial refl makes (none_owned w set.none_runs set.owners) follows h,
    λ closed. absurd (true≢false (sym closed)),
    λ bad. refl,
  )
  gone_run Unclosed w es begun set all follows h =
      let f = subst (Follows o.act w) h.events follows in
      let split = follows_split o.act w h.first h.rest f in
      let later = throughout_later (AllAreFound (t ∷ [])) w h.first h.rest (subst (λ l. Throughout w l (AllAreFound (t ∷ []))) h.events all) in
      let may = finish_from h.number w h.first h.rest set f h.begun h.started later in
      let r = gone_open o s t kept top h.number rest.calm makes (run w h.first) h.rest may split.1 h.then_did in (
        r.0,
        subst (λ l. Runs o s w l r.0) (sym h.events)
            (runs_then o r.0 h.rest s (running s t kept top h.number) w h.first (begun_run h.number w h.first set split.0 h.begun h.started) r.1),
        λ closed. absurd (true≢false (sym closed)),
        λ bad. r.2 (later_bad es h.first h.rest h.events (done_quiet (begin_requests t.job.recipe t.job.logs t.command) h.first h.begun) bad),
      )
  gone_run (Closed ending) w es begun set all follows h =
      let f = subst (Follows o.act w) h.events follows in
      let split = follows_split o.act w h.first h.rest f in
      let later = throughout_later (AllAreFound (t ∷ [])) w h.first h.rest (subst (λ l. Throughout w l (AllAreFound (t ∷ []))) h.events all) in
      let may = finish_from h.number w h.first h.rest set f h.begun h.started later in
      let r = gone_closed o s t kept top h.number rest.calm makes ending (run w h.first) h.rest may split.1 h.then_did in
      let end : RunState = record s { top = top } in (
        end,
        subst (λ l. Runs o s w l end) (sym h.events)
            (runs_then o end h.rest s (running s t kept top h.number) w h.first (begun_run h.number w h.first set split.0 h.begun h.started) r.0),
        λ closed. refl,
        λ bad. absurd (true≢false (sym bad ∙ quiet_then es h.first h.rest h.events (done_quiet (begin_requests t.job.recipe t.job.logs t.command) h.first h.begun) r.1)),
      )

  set_after : (w : World) (seen : List Event) → MayComeNext o s w t kept top → is_begun t.course ≡ true → AreLooks o seen → Follows o.act w seen → IsSet o s t kept top (run w seen)
  set_after w seen next begun looks follows =
      let same = looks_same o w seen looks follows in
      let now_is = now_same o w (run w seen) same in
      record {
        formed = formed_run w seen next.formed;
        none_runs = same.children ∙ next.none_runs;
        owners = owned_run o.act w seen follows (numbered_alone w next.none_runs) next.owners;
        may = begin_as o s w (run w seen) (opened t kept) now_is (next.begins begun);
        serial = serial_as o s w (run w seen) (opened t kept) top now_is (next.serial begun);
        records = next.records begun;
      }

  begun_turn : (made : Serials) (c : Course) (w : World) (es : List Event) → is_begun c ≡ true → ((v : World) (seen : List Event) → v ≡ run w seen → AreLooks o seen → Follows o.act w seen → IsSet o s t kept top v)
      → Throughout w es (AllAreFound (t ∷ [])) → Follows o.act w es → HasStampedAnd made t (HasGone t c) w es
      → (end : RunState) × Runs o s w es end × (is_closed c ≡ true → end ≡ record s { top = top }) × (has_failure es ≡ true → end.faulted ≡ true)
  begun_turn made c w es begun set all follows h =
      let looks = looks_by o h.seen (digested_each IsLooking lookings made (in_paths t.job.recipe) (found t.looked) w h.seen h.stamped) in
      let f = subst (Follows o.act w) h.events follows in
      let split = follows_split o.act w h.seen h.rest f in
      let later = throughout_later (AllAreFound (t ∷ [])) w h.seen h.rest (subst (λ l. Throughout w l (AllAreFound (t ∷ []))) h.events all) in
      let r = gone_run c (run w h.seen) h.rest begun (set (run w h.seen) h.seen refl looks split.0) later split.1 h.then_did in (
        r.0,
        subst (λ l. Runs o s w l r.0) (sym h.events) (look_all o s r.0 h.rest rest.calm w h.seen looks r.1),
        r.2,
        λ bad. r.3 (later_bad es h.seen h.rest h.events (digested_quiet made (in_paths t.job.recipe) (found t.looked) w h.seen h.stamped) bad),
      )

  -- what only looks lead to
  abbrev LeadsOn : World → List Event → Type 0
  LeadsOn w es = (end : RunState) × Runs o s w es end × (has_failure es ≡ true → end.faulted ≡ true)

  looked_only : (made : Serials) (r : Result (List Stamp) Stop) (w : World) (es : List Event) → HasInputs made (in_paths t.job.recipe) r w es → LeadsOn w es
  looked_only made r w es h = by r h
    where
      part : IsPart (looks made (in_paths t.job.recipe)) es → LeadsOn w es
      part k = look_part o s rest.calm (looks made (in_paths t.job.recipe)) w es (all_looking made (in_paths t.job.recipe)) k

      -- all inputs were looked at, and then sources were read
      read_after : (first more : List Event) → es ≡ first ++ more → AreLooks o first → has_failure first ≡ false → LeadsOn (run w first) more → LeadsOn w es
      read_after first more e only quiet then = (
        then.0,
        subst (λ l. Runs o s w l then.0) (sym e) (look_all o s then.0 more rest.calm w first only then.1),
        λ bad. then.2 (later_bad es first more e quiet bad),
      )

      some_read : HasReadPart made (in_paths t.job.recipe) es → LeadsOn w es
      some_read k =
          read_after k.looks k.reads k.events (looks_by o k.looks (stamped_each IsLooking lookings made (in_paths t.job.recipe) k.seen k.looks k.stamped))
          (stamped_quiet made (in_paths t.job.recipe) k.seen k.looks k.stamped) (read_part o s rest.calm k.failure (run w k.looks) k.reads k.only_read)

      either : IsPart (looks made (in_paths t.job.recipe)) es ⊎ HasReadPart made (in_paths t.job.recipe) es → LeadsOn w es
      either (inl k) = part k
      either (inr k) = some_read k

      by : (x : Result (List Stamp) Stop) → HasInputs made (in_paths t.job.recipe) x w es → LeadsOn w es
      by (Ok stamps) k =
          read_after k.looks k.reads k.events (looks_by o k.looks (stamped_each IsLooking lookings made (in_paths t.job.recipe) k.seen k.looks k.stamped))
          (stamped_quiet made (in_paths t.job.recipe) k.seen k.looks k.stamped) (read_part o s rest.calm false (run w k.looks) k.reads k.only_read)
      by (Err (stop.Gone p)) k = part k.0
      by (Err (stop.TooLong n)) k = either k
      by (Err stop.Device) k = either k
      by (Err stop.Output) k = either k
      by (Err stop.OutOfMemory) k = either k

  set_from : (c : Course) (w : World) → t.course ≡ c → MayComeNext o s w t kept top → is_begun c ≡ true
      → (v : World) (seen : List Event) → v ≡ run w seen → AreLooks o seen → Follows o.act w seen → IsSet o s t kept top v
  set_from c w is next begun v seen e looks follows = subst (IsSet o s t kept top) (sym e) (set_after w seen next (ap is_begun is ∙ begun) looks follows)

  turn_by : (made : Serials) (c : Course) (w : World) (es : List Event) → t.course ≡ c → MayComeNext o s w t kept top → Throughout w es (AllAreFound (t ∷ [])) → Follows o.act w es → IsTurnBy made t c w es
      → (end : RunState) × Runs o s w es end × (is_closed c ≡ true → end ≡ record s { top = top }) × (has_failure es ≡ true → end.faulted ≡ true)
  turn_by made Unbegun w es is next all follows h = let r = looked_only made t.looked w es h in (r.0, r.1, λ closed. absurd (true≢false (sym closed)), r.2)
  turn_by made Unstarted w es is next all follows h = begun_turn made Unstarted w es refl (set_from Unstarted w is next refl) all follows h
  turn_by made Unclosed w es is next all follows h = begun_turn made Unclosed w es refl (set_from Unclosed w is next refl) all follows h
  turn_by made (Closed ending) w es is next all follows h = begun_turn made (Closed ending) w es refl (set_from (Closed ending) w is next refl) all follows h

pub turn_is_run : TurnIsRun
turn_is_run o made s t kept top w es reads rest next all follows is =
    let r = turn_by o s t kept top rest next.makes reads made t.course w es refl next all follows is in
    (r.0, record { runs = r.1; closed = r.2; fails = r.3 })

-- ## Turns

rest_with : (s : RunState) (top : ℕ) → IsAtRest s → IsAtRest (record s { top = top })
rest_with s top h = record { none_open = h.none_open; steady = h.steady; calm = h.calm }

found_first : (t : Turn) (ts : List Turn) (w : World) (first more : List Event) → Throughout w (first ++ more) (AllAreFound (t ∷ ts)) → Throughout w first (AllAreFound (t ∷ []))
found_first t ts w first more h =
    throughout_on (AllAreFound (t ∷ ts)) (AllAreFound (t ∷ [])) (λ v k. (k.0, tt)) w first
    (throughout_first (AllAreFound (t ∷ ts)) w first more (λ v gs k. throughout_start (AllAreFound (t ∷ ts)) v gs k) h)

found_rest : (t : Turn) (ts : List Turn) (w : World) (first more : List Event) → Throughout w (first ++ more) (AllAreFound (t ∷ ts)) → Throughout (run w first) more (AllAreFound ts)
found_rest t ts w first more h =
    throughout_on (AllAreFound (t ∷ ts)) (AllAreFound ts) (λ v k. k.1) (run w first) more (throughout_later (AllAreFound (t ∷ ts)) w first more h)

none_more : (o : Outside) (made : Serials) (s : RunState) (ts : List Turn) (w : World) (es : List Event) → ts ≡ [] → ComeInTurn o made s ts w es → es ≡ []
none_more o made s [] w es e h = h
none_more o made s (t ∷ ts) w es e h = cc

pub turns_are_run : TurnsAreRun
turns_are_run o made s [] w es reads rest all follows none = (s, subst (λ l. Runs o s w l s) (sym none) (Done s w), λ closed. rest)
turns_are_run o made s (t ∷ ts) w es reads rest all follows (first, more, e, is, (kept, top, next, last, later)) =
    let split = follows_split o.act w first more (subst (Follows o.act w) e follows) in
    let found = subst (λ l. Throughout w l (AllAreFound (t ∷ ts))) e all in
    let one = turn_is_run o made s t kept top w first reads rest next (found_first t ts w first more found) split.0 is in
    let led = one.1 in
    elim last [
      | inl no_more ↦
          let nothing = none_more o made (record s { top = top }) ts (run w first) more no_more later in
          let here : Runs o s w es one.0 =
          subst (λ l. Runs o s w l one.0) (sym (e ∙ ap (λ l. first ++ l) nothing ∙ append-nil first)) led.runs in
          (one.0, here, λ closed. subst IsAtRest (sym (led.closed closed.0)) (rest_with s top rest))
      | inr closed_now ↦
          let rest_run = turns_are_run o made (record s { top = top }) ts (run w first) more reads (rest_with s top rest) (found_rest t ts w first more found) split.1 later in (
            rest_run.0,
            subst (λ l. Runs o s w l rest_run.0) (sym e) (runs_then o rest_run.0 more s (record s { top = top }) w first (subst (λ x. Runs o s w first x) (led.closed closed_now) led.runs) rest_run.1),
            λ closed. rest_run.2 closed.1,
          )
    ]
