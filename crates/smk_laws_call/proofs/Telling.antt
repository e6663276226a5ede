-- What a run puts, and that what it calls current is clean.
use Rattle.std.proofs.Common.{◌≡◌, ◌⊎◌, ℕ, suc, Bool, true, false, List, [], ◌++◌, refl, ap, sym, subst, ◌∙◌, inl, inr, append_assoc, append-nil, zip, Some, None, Result, Ok, Err, is_none, true≢false}
use Rattle.std.specs.Prelude.{slice_get, get_or, is_some}
use Rattle.smk_world.specs.World.{World, IsFormed, out_paths}
use Rattle.smk_world.proofs.Names.{formed_run}
use Rattle.smk_world.specs.Devices.{Device, Sunk, HasActed, HasLooked}
use Rattle.smk_world.specs.Trees.{Path, Each, IsIn, among, folder_over}
use Rattle.smk_flow.specs.declared.job.Job.{Job}
use Rattle.smk_record.specs.Spelling.{ReadsRecords}
use Rattle.smk_store.specs.declared.fault.StoreFault.{StoreFault}
use Rattle.smk_store.specs.Faults.{store_failed}
use Rattle.smk_store.specs.Images.{Image, seen}
use Rattle.smk_store.specs.Serials.{next_serial}
use Rattle.smk_store.specs.Soundness.{Outside, SoundWorld}
use Rattle.smk_store.specs.Steadying.{HasTried, steady_requests}
use Rattle.smk_store.specs.Trust.{Versions, SumsDiffer}
use Rattle.smk_trigger.specs.declared.reason.State.{State}
use Rattle.smk_trigger.specs.JobStates.{is_to_run}
use Rattle.smk_pick.specs.declared.settings.Force.TheVariants.{No}
use Rattle.smk_pick.specs.declared.settings.Settings.{Settings}
use Rattle.smk_plan.specs.States.{Plan, IsPlan, makes, nothing_done, staged, state_of}
use Rattle.smk_plan.specs.declared.duty.Duty.{Duty}
use Rattle.smk_plan.specs.Duties.{maker_in}
use Rattle.smk_chain.specs.Mean.{setting_of}
use Rattle.smk_format.specs.Commands.{missing}
use Rattle.smk_laws_plan.specs.Current.{IsClean}
use Rattle.smk_report.specs.declared.fault.Fault.{Fault}
use Rattle.smk_report.specs.Lines.{Text}
use Rattle.smk_words_reading.specs.declared.asked.RunWords.{RunWords}
use Rattle.smk_cli_entry.specs.declared.asking.Asked.{Asked}
use Rattle.smk_run.specs.declared.tally.Tally.{Tally}
use Rattle.smk_run.specs.Duties.{Due, due, serial_of}
use Rattle.smk_run.specs.Reports.{IsFront, IsReport, report_of}
use Rattle.smk_run.specs.Runs.{IsOutcome as IsRunOutcome, is_whole}
use Rattle.smk_run.specs.Turns.{Turn, is_closed, is_done}
use Rattle.smk_make.specs.After.{AreCurrent, due_before, turn_at}
use Rattle.smk_make.specs.Closing.{counts_line, is_current, lines_by}
use Rattle.smk_make.specs.Making.{AreWhatIsMeant, GoesOn, NotFirm, NoMemory, Made, IsText}
use Rattle.smk_plan_preview.specs.declared.previewing.Previewed.{Previewed}
use Rattle.smk_plan_preview.specs.Previewing.{plan_of}
use Rattle.smk_cli_calls.specs.OneByOne.{is_one_by_one}
use Rattle.smk_cli_calls.proofs.OneByOne.{none_forced, none_grow}
use Rattle.smk_cli_calls.specs.Serving.{Went, Refused, Stopped, Worked, Drove, settings_of}
use Rattle.smk_cli_entry.specs.Entry.{IsAskedIn}
use Rattle.smk_cli_calls.specs.Locking.{HasHeeded, Stood, Taken, Unmade, Untaken}
use Rattle.smk_cli_calls.specs.Whole.{AsksFor, HasRun, Heeded, IsRefusal, IsToServe, Unasked, Unheeded}
use Rattle.smk_laws_refusing.specs.Heeding.{IsSameButLock}
use Rattle.smk_laws_refusing.proofs.Heeding.{lock_changes_itself_alone, on_both, same_back}
use Rattle.smk_safe.specs.Planned.{IsFit, IsPlain}
use Rattle.smk_safe.proofs.Planned as by_plan
use Rattle.smk_safe.specs.Exit.{IsDueRun}
use Rattle.smk_laws_plan.proofs.CurrentLists.{get_in, or_first}
use Rattle.smk_laws_plan.proofs.CurrentPaths.{in_among}
use Rattle.smk_laws_history.proofs.CurrentComplete.{seen_is_complete}
use Rattle.smk_clean.specs.Clean.{setting_in}
use Rattle.smk_clean.proofs.Clean as clean
use Rattle.smk_clean.proofs.Fit.{all_fit}
use Rattle.smk_clean.proofs.Locked.{IsUnderLock, under_lock}
use Rattle.smk_clean.proofs.Driving.{went_safe}
use Rattle.smk_clean.proofs.Safe.{Answer, IsTurnRun, started, turns_run}
use Rattle.smk_clean.proofs.Told as told_of
use Rattle.smk_laws_call.specs.Telling.{Tells, Nothing, Lines, DrivenLines, HasPutSo}
use Rattle.smk_laws_call.proofs.Driven.{DroveTells, drove_tells}
use Rattle.smk_laws_call.proofs.Exit.{targets_clean}
use Rattle.smk_laws_call.proofs.Temps.{no_temps, one_by_one_has_no_temps}
use Rattle.smk_laws_call.proofs.Turns.{done_turn, has_turn}

-- ## Fronts

front_of : (whole : Bool) (text all : Text) → IsReport whole all text → IsFront text all
front_of true text all h = ([], sym (append-nil text ∙ h))
front_of false text all h = h

more_front : (text all rest : Text) → IsFront text all → IsFront text (all ++ rest)
more_front text all rest (after, is) = (after ++ rest, ap (λ t. t ++ rest) is ∙ append_assoc text after rest)

joined_front : (before text all : Text) → IsFront text all → IsFront (before ++ text) (before ++ all)
joined_front before text all (after, is) = (after, ap (λ t. before ++ t) is ∙ sym (append_assoc before text after))

-- What a run tells of words as they ask in the folder of the entry, by the folder by which its plan was made.
data TellsBy (o : Outside) (words : RunWords) (entry w v : World) (text : Text) : Type 0 where
  NothingBy : text ≡ [] → TellsBy o words entry w v text
  LinesBy :
      (asked : Asked) (turns : List Turn) (current : Path → Bool) (tally : Tally) →
      IsAskedIn words entry.nodes (Ok asked) →
      IsFront text (report_of asked.flow turns ++ (lines_by current asked.targets ++ counts_line tally)) →
      ((p : Path) → IsIn asked.targets p → current p ≡ true → IsClean (setting_in o w asked.flow) (seen o.read v) p) → TellsBy o words entry w v text
  DrivenBy : (asked : Asked) → AsksFor words entry asked → DroveTells o asked w v text → TellsBy o words entry w v text

-- nothing was put
put_nothing : (o : Outside) (words : RunWords) (entry w v : World) (p q : Sunk) → q ≡ p → HasPutSo p q (TellsBy o words entry w v)
put_nothing o words entry w v p q same now there = (now, sym (ap (λ (x : Sunk). x.put) same) ∙ there, ([], NothingBy refl, sym (append-nil now)))

put_as : (p q : Sunk) (P Q : Text → Type 0) → ((text : Text) → P text → Q text) → HasPutSo p q P → HasPutSo p q Q
put_as p q P Q more h now there = let x = h now there in (x.0, x.1, (x.2.0, more x.2.0 x.2.1, x.2.2))

no_tally : Tally
no_tally = record { started = 0; done = 0; failed = 0; first = None }

module _
    (o : Outside) (H : Versions) (w : World) (differ : SumsDiffer H) (sound : SoundWorld o w H) (reads : ReadsRecords o.read) (words : RunWords)
    (entry : World) (asked : Asked) (told : Previewed) (to_serve : IsToServe o.read words entry w asked told) (one : is_one_by_one asked.flow words ≡ true) where
  abbrev plan : Plan
  plan = plan_of told

  abbrev settings : Settings
  settings = settings_of asked words

  abbrev st : Job → State
  st j = state_of (seen o.read w) settings nothing_done plan j

  planned : IsPlan asked.flow (seen o.read w) settings nothing_done plan
  planned = clean.planned o H w differ sound reads words entry asked told to_serve (none_grow asked.flow words one)

  plainly : Each IsPlain plan.jobs
  plainly = clean.plainly o H w differ sound reads words entry asked told to_serve (none_grow asked.flow words one)

  temps : Each (λ (j : Job). j.temps ≡ []) plan.jobs
  temps =
      no_temps asked.flow (seen o.read w) settings nothing_done plan (seen_is_complete o.read w sound.formed)
      (one_by_one_has_no_temps asked.flow words one) planned

  free : words.force ≡ No
  free = none_forced asked.flow words one

  -- ## Targets

  module _
      (v : World) (duties : List Duty) (ts : List Turn) (meant : AreWhatIsMeant told.jobs told.plan.states told.store duties) (fit : Each IsFit ts)
      (r : IsTurnRun o H w differ sound reads words entry asked told to_serve (none_grow asked.flow words one) v duties ts) (closed : Each (λ (t : Turn). is_closed t.course ≡ true) ts)
      (after : List Bool)
      (current : AreCurrent told.jobs.befores duties ts after) where
    abbrev ran : IsDueRun o w H asked.flow settings plan ts r.es
    ran = clean.ran o H w differ sound reads words entry asked told to_serve (none_grow asked.flow words one) v duties ts meant fit r

    abbrev RestsOrDone : Job → Type 0
    RestsOrDone k = (is_to_run (st k) ≡ false) ⊎ ((t : Turn) × IsIn ts t × (t.job ≡ k) × (is_done t.course ≡ true))

    -- the job of a target that is told current rests, or is done
    rests_or_done :
        (p : Path) → IsIn asked.targets p → is_current after (maker_in told.jobs.makers p) ≡ true →
        (k : Job) → IsIn plan.jobs k → IsIn (out_paths k.recipe) p → RestsOrDone k
    rests_or_done p target is k ik ip = go (is_to_run (st k)) refl
      where
        makes_it : makes k p ≡ true
        makes_it = or_first (among (out_paths k.recipe) p) (is_some (folder_over k.recipe p)) (in_among (out_paths k.recipe) p ip)

        number : (n : ℕ) × (maker_in told.jobs.makers p ≡ Some n) × (slice_get (staged plan) n ≡ Some (k, st k))
        number =
            told_of.target_told (seen o.read w) settings told.jobs told.plan.states planned.states asked.targets to_serve.plan.served p target (k, st k)
            (by_plan.maker_known o w asked.flow settings plan sound.formed planned plainly k p ik makes_it)

        go : (b : Bool) → is_to_run (st k) ≡ b → RestsOrDone k
        go false e = inl e
        go true e =
            let turn =
            has_turn (seen o.read w) (serial_of (Some (suc ran.top)) ran.duties) ran.cores 0 plan.jobs plan.states ran.duties ts number.0 k (st k) ran.meant ran.in_order
            number.2 e in
            let told_so : get_or after number.0 false ≡ true = sym (ap (is_current after) number.1) ∙ is in
            let done = done_turn (turn_at duties ts number.0) (sym (current.due number.0 turn.due) ∙ told_so) in
            inr (done.0, get_in ts (due_before duties number.0) done.0 done.1, turn.own done.0 done.1, done.2)

    target_clean : (p : Path) → IsIn asked.targets p → is_current after (maker_in told.jobs.makers p) ≡ true → IsClean (setting_in o w asked.flow) (seen o.read v) p
    target_clean p target is =
        subst (λ (x : World). IsClean (setting_in o w asked.flow) (seen o.read x) p) (sym r.is)
        (targets_clean o w H asked.flow settings plan ts r.es ran free temps closed
        (clean.fields o H w differ sound reads words entry asked told to_serve (none_grow asked.flow words one)) to_serve.plan.last p target
        (rests_or_done p target is))

  -- ## The text

  tells_text :
      (v : World) (duties : List Duty) (ts : List Turn) (meant : AreWhatIsMeant told.jobs told.plan.states told.store duties) (fit : Each IsFit ts)
      (r : IsTurnRun o H w differ sound reads words entry asked told to_serve (none_grow asked.flow words one) v duties ts) (dues : List Due) (bad : Bool) (ended : Result Tally Fault)
      (answer : Answer) (text : Text) →
      IsRunOutcome asked.flow dues ts bad ended →
      IsText o.act asked.flow words.cores asked.targets told.jobs (next_serial told.store) duties ts ended answer text → TellsBy o words entry w v text
  tells_text v duties ts meant fit r dues bad (Err f) answer text outcome is =
      LinesBy asked ts (λ p. false) no_tally to_serve.is_asked
      (more_front text (report_of asked.flow ts) (lines_by (λ p. false) asked.targets ++ counts_line no_tally) (front_of (is_whole answer) text (report_of asked.flow ts) is))
      (λ p i c. absurd (true≢false (sym c)))
  tells_text v duties ts meant fit r dues bad (Ok tally) answer text outcome (last, is, inl (short, none)) =
      LinesBy asked ts (λ p. false) tally to_serve.is_asked
      (subst (λ t. IsFront t (report_of asked.flow ts ++ (lines_by (λ p. false) asked.targets ++ counts_line tally))) (sym is)
      (joined_front (report_of asked.flow ts) last (lines_by (λ p. false) asked.targets ++ counts_line tally)
      (lines_by (λ p. false) asked.targets ++ counts_line tally, ap (λ t. t ++ (lines_by (λ p. false) asked.targets ++ counts_line tally)) (sym none))))
      (λ p i c. absurd (true≢false (sym c)))
  tells_text v duties ts meant fit r dues bad (Ok tally) answer text outcome (last, is, inr (after, current, report)) =
      let told_current : Path → Bool = λ p. is_current after (maker_in told.jobs.makers p) in
      let closing = lines_by told_current asked.targets ++ counts_line tally in
      LinesBy asked ts told_current tally to_serve.is_asked
      (subst (λ t. IsFront t (report_of asked.flow ts ++ closing)) (sym is)
      (joined_front (report_of asked.flow ts) last closing (front_of (is_whole answer) last closing report)))
      (λ p i c. target_clean v duties ts meant fit r outcome.1.closed after current p i c)

  goes_tells :
      (answer : Answer) (v : World) (old looked firm new : Device) (p q : Sunk) (settled : Result (Unit {0}) StoreFault) (bad : Bool) → old.world ≡ Some w → new.world ≡ Some v →
      HasLooked o.act old looked false → HasActed o.act (HasTried (steady_requests told.store) settled) looked firm bad →
      GoesOn o.act asked.flow words.cores asked.targets told.jobs told.plan.states told.store answer firm new p q settled → HasPutSo p q
      (TellsBy o words entry w v)
  goes_tells answer v old looked firm new p q settled bad at ends looking settling (NotFirm f is same unput) = put_nothing o words entry w v p q unput
  goes_tells answer v old looked firm new p q settled bad at ends looking settling (NoMemory u is same unput) = put_nothing o words entry w v p q unput
  goes_tells answer v old looked firm new p q settled bad at ends looking settling (Made u duties for meant made) =
      let d = made.ran.did v ends in
      let start = started o H w differ sound d.0 old looked firm (HasTried (steady_requests told.store) (Ok u)) bad at looking settling d.1 in
      let run_is = turns_run o H w differ sound reads words entry asked told to_serve (none_grow asked.flow words one) u d.0 v duties made.turns d.2.0 start made.in_order d.2.1 d.2.2 d.2.3 in
      let fit = all_fit made.turns made.fits in
      λ now there.
      let x = made.text.told now there in (
        x.0,
        x.1,
        (
          x.2.0,
          tells_text v duties made.turns meant fit run_is (due (next_serial told.store) duties told.jobs.jobs) made.failed made.ended answer x.2.0 made.answer x.2.1,
          x.2.2,
        ),
      )

went_tells :
    (o : Outside) (H : Versions) (entry w v : World) (differ : SumsDiffer H) (sound : SoundWorld o w H) (reads : ReadsRecords o.read) (words : RunWords)
    (answer : Answer)
    (old new : Device) (p q : Sunk) → old.world ≡ Some w → new.world ≡ Some v →
    Went o.act words answer (IsRefusal o.read words entry w) (AsksFor words entry) (IsToServe o.read words entry w) old new p q → HasPutSo p q
    (TellsBy o words entry w v)
went_tells o H entry w v differ sound reads words answer old new p q at ends (Refused f is why looked) = put_nothing o words entry w v p q looked.unput
went_tells o H entry w v differ sound reads words answer old new p q at ends (Drove asked apart asks drove) =
    put_as p q (DroveTells o asked w v) (TellsBy o words entry w v) (λ text h. DrivenBy asked asks h)
    (drove_tells o H w differ sound reads words entry asked asks answer v old new p q at ends drove)
went_tells o H entry w v differ sound reads words answer old new p q at ends (Stopped f is want looked) = put_nothing o words entry w v p q looked.unput
went_tells o H entry w v differ sound reads words answer old new p q at ends (Worked asked told one plans worked) =
    goes_tells o H w differ sound reads words entry asked told plans one answer v old worked.looked worked.carried.firm new p q worked.carried.settled
    (store_failed worked.carried.settled) at ends worked.looking worked.carried.settling worked.carried.goes_on

-- ## Under the lock

tells_so : (o : Outside) (words : RunWords) (w v : World) (text : Text) → TellsBy o words w w v text → Tells o words w v text
tells_so o words w v text (NothingBy none) = Nothing none
tells_so o words w v text (LinesBy asked turns current tally is front clean) = Lines asked turns current tally is front clean
tells_so o words w v text (DrivenBy asked asks h) = DrivenLines asked h.deeds h.told asks h.front h.targets

-- what is told by folders that are the same but for the lock
tells_moved :
    (o : Outside) (words : RunWords) (entry w u v x : World) (text : Text) → IsSameButLock (seen o.read w) (seen o.read u) → IsSameButLock (seen o.read v)
    (seen o.read x) → TellsBy o words entry u v text →
    TellsBy o words entry w x text
tells_moved o words entry w u v x text before after (NothingBy none) = NothingBy none
tells_moved o words entry w u v x text before after (DrivenBy asked asks h) =
    DrivenBy asked asks
    (record {
      deeds = h.deeds;
      told = h.told;
      front = h.front;
      targets = λ end told_is.
          on_both
          (λ (i : Image).
          Each (λ (y : Path × Bool). y.1 ≡ true → IsClean (setting_of asked.flow o.act (λ j. is_none (missing j)) i) (seen o.read x) y.0)
          (zip asked.targets end.current))
          (λ i l k. k) (seen o.read u) (seen o.read w) (same_back (seen o.read w) (seen o.read u) before)
          (on_both
          (λ (i : Image). Each (λ (y : Path × Bool). y.1 ≡ true → IsClean (setting_in o u asked.flow) i y.0) (zip asked.targets end.current))
          (λ i l k. k) (seen o.read v) (seen o.read x) after (h.targets end told_is));
    })
tells_moved o words entry w u v x text before after (LinesBy asked turns current tally is front clean) =
    LinesBy asked turns current tally is front
    (λ p i c.
    on_both (λ (i : Image). IsClean (setting_of asked.flow o.act (λ j. is_none (missing j)) i) (seen o.read x) p) (λ i l k. k) (seen o.read u) (seen o.read w)
    (same_back (seen o.read w) (seen o.read u) before)
    (on_both (λ (i : Image). IsClean (setting_in o u asked.flow) i p) (λ i l k. k) (seen o.read v) (seen o.read x) after (clean p i c)))

module _ (o : Outside) (H : Versions) (w v : World) (differ : SumsDiffer H) (sound : SoundWorld o w H) (reads : ReadsRecords o.read) (words : RunWords)
    (answer : Answer) where
  locked_tells : (new : Device) (p q : Sunk) → IsUnderLock o H w differ sound words answer new p q v → HasPutSo p q (TellsBy o words w w v)
  locked_tells new p q k =
      let inner = went_safe o H k.start differ k.sound_then reads words w k.ran k.last k.locked k.left p q k.at_start k.at_last k.went in
      let formed : IsFormed k.last = subst IsFormed (sym inner.2) (formed_run k.start inner.0 k.sound_then.formed) in
      let formed_v : IsFormed v = subst IsFormed (sym k.end_is) (formed_run k.last k.release formed) in
      put_as p q (TellsBy o words w k.start k.last) (TellsBy o words w w v)
      (λ text h. tells_moved o words w w k.start k.last v text k.same_start (lock_changes_itself_alone o.read k.last v formed formed_v k.only) h)
      (went_tells o H w k.start k.last differ k.sound_then reads words k.ran k.locked k.left p q k.at_start k.at_last k.went)

  run_tells : (old new : Device) (p q : Sunk) → old.world ≡ Some w → new.world ≡ Some v → HasRun o.act o.read words w answer old new p q →
      HasPutSo p q (TellsBy o words w w v)
  run_tells old new p q at end (Unheeded heeds_none went) = went_tells o H w w v differ sound reads words answer old new p q at end went
  run_tells old new p q at end (Unasked f heeds is why looked) = put_nothing o words w w v p q looked.unput
  run_tells old new p q at end (Heeded x looked heeds after at_x looking heeded) = go heeded
    where
      go : HasHeeded o.act words answer (IsRefusal o.read words w) (AsksFor words w) (IsToServe o.read words w) x looked new p q →
          HasPutSo p q (TellsBy o words w w v)
      go (Unmade is unchanged unput) = put_nothing o words w w v p q unput
      go (Stood is stands tried unput) = put_nothing o words w w v p q unput
      go (Untaken e is tried unput) = put_nothing o words w w v p q unput
      go (Taken u locked once at_u taken ran) =
          locked_tells new p q (under_lock o H w differ sound words answer old looked locked new p q x u v at end after looking at_x once at_u taken ran)

pub ran_tells :
    (o : Outside) (H : Versions) (w v : World) (differ : SumsDiffer H) (sound : SoundWorld o w H) (reads : ReadsRecords o.read) (words : RunWords)
    (answer : Answer)
    (old new : Device) (p q : Sunk) → old.world ≡ Some w → new.world ≡ Some v →
    HasRun o.act o.read words w answer old new p q →
    HasPutSo p q (Tells o words w v)
ran_tells o H w v differ sound reads words answer old new p q at end ran =
    put_as p q (TellsBy o words w w v) (Tells o words w v) (tells_so o words w v)
    (run_tells o H w v differ sound reads words answer old new p q at end ran)
