-- What a turn did that waited for a child.
use Rattle.std.proofs.Common.{◌≡◌, ◌≢◌, ◌⊎◌, ℕ, Bool, true, false, ◌||◌, nat_eq, List, [], ◌∷◌, ◌++◌, map, refl, arith, sym, ap, subst, ◌∙◌, inl, inr, Option, Some, None, Ok, Err}
use Rattle.std.proofs.Math.Bool.{or-false, or-true}
use Rattle.std.specs.Prelude.{Contains, is_none}
use Rattle.std.specs.List.{IsDistinct, list_all, slice_get}
use Rattle.smk_base.specs.declared.tree.Amount.{Amount}
use Rattle.smk_base.specs.declared.tree.Tree.{Tree}
use Rattle.smk_world.specs.declared.event.Call.TheVariants.{Waited}
use Rattle.smk_world.specs.declared.event.Change.{Change}
use Rattle.smk_world.specs.declared.event.Child.{Child as WorldChild}
use Rattle.smk_world.specs.declared.event.Ended.{Ended}
use Rattle.smk_world.specs.declared.event.Event.{Event}
use Rattle.smk_world.specs.declared.event.Failed.{Failed}
use Rattle.smk_world.specs.Calls.{ContentsAre, Happens, HasOwners, Rose}
use Rattle.smk_world.specs.Devices.{Device, HasActed, HasCalled, Sunk, WhereTold}
use Rattle.smk_world.specs.Runs.{Did, Follows}
use Rattle.smk_world.specs.Trees.{Act, IsIn}
use Rattle.smk_world.specs.World.{World, after, child_numbered, run}
use Rattle.smk_world.proofs.Devices.{acted_then}
use Rattle.smk_flow.specs.Flows.{Flow}
use Rattle.smk_pick.specs.declared.room.Ask.{Ask}
use Rattle.smk_pick.specs.declared.room.Room.{Room}
use Rattle.smk_pick.specs.declared.settings.Settings.{Settings}
use Rattle.smk_pick.specs.Shares.{Holds}
use Rattle.smk_report.specs.declared.fault.Fault.{Fault}
use Rattle.smk_report.specs.declared.fault.Fault.TheVariants as fault
use Rattle.smk_run.specs.Closings.{wait_event}
use Rattle.smk_run.specs.Statuses.{HasGiven}
use Rattle.smk_run.proofs.Calls.{EachCall}
use Rattle.smk_run.proofs.Honest.{given_then, unwaited_given}
use Rattle.smk_run.proofs.Rising.{rose_earlier}
use Rattle.smk_run.proofs.Texts.{reported_as, reported_nothing}
use Rattle.smk_plan_live.specs.Lives.{IsLive}
use Rattle.smk_drive_step.specs.declared.children.Child.{Child}
use Rattle.smk_drive_step.specs.Crews.{IsPutFor, goings, or_later}
use Rattle.smk_job.specs.Jobs.{Underway}
use Rattle.smk_drive_course.specs.Stands.{NoneLeft}
use Rattle.smk_drive_course.specs.Steps.{Deed}
use Rattle.smk_laws_moments.proofs.QuietCalls.{IsQuiet, calls_more}
use Rattle.smk_laws_protocol.proofs.Basics.{in_here, in_rest, in_split}
use Rattle.smk_laws_turns.specs.Hubs.{Parts, asks_in}
use Rattle.smk_laws_turns.specs.Turning.{faulted}
use Rattle.smk_laws_turns.proofs.Turning.{failed_wait_leads}
use Rattle.smk_laws_turns.proofs.Homes.{home_stays}
use Rattle.smk_laws_turns.specs.GrowingRounds.{HasGrownOn}
use Rattle.smk_laws_turns.specs.GrownIn.{HasGrownIn, HaveLines, IsHaltedOnce}
use Rattle.smk_drive_hub.specs.Turned.{AreSeated, IsBarelyMore, HasFailedWait, HasTurned, IsSteady, LeadOn, TellsOn, WhereUnhalted}
use Rattle.smk_laws_closes.specs.Closes.{HasClosedFor, taken}
use Rattle.smk_laws_closes.specs.Turns.{HasFollowed, IsHaltedOn, TellsEnd}
use Rattle.smk_report.specs.Lines.{Text}
use Rattle.smk_laws_closes.proofs.Counting.{asks_are, asks_were}
use Rattle.smk_laws_closes.proofs.EndLines.{tells_nothing}
use Rattle.smk_laws_closes.proofs.Halts.{on_fault, on_once}
use Rattle.smk_laws_closes.proofs.Laws.{Laws}
use Rattle.smk_laws_closes.proofs.Quiet.{closed_quiet, grown_quiet, quiet_is_given}
use Rattle.smk_laws_closes.proofs.Seats.{none_in, only, seated_less}
use Rattle.std.proofs.lemmas.List.Elements.{Contains-append_cases}
use Rattle.smk_chain.specs.declared.jobs.Jobs.{Jobs}
use Rattle.smk_laws_closes.proofs.Turns.{closed_leads, grown_on, one_step, waited_leads}

never : {A : Type 0} → true ≡ false → A
never h = absurd (go h)
  where
    go : true ≡ false → ⊥
    go e = cc

some_fault : (f : Fault) → Some f ≡ None → ⊥
some_fault f h = cc

-- ## The wait

-- a status that isn't the command's raises the count of faults
abbrev pub IsOtherStatus : Act → Device → Device → Ended → Type 0
IsOtherStatus act old new ended =
    WhereTold old (λ w. (c : WorldChild) → child_numbered ended.number w.children ≡ Some c → (trees : List Tree) → ContentsAre w c.recipe trees
    → ended.status ≢ (act c.recipe trees).status → Rose old.faults new.faults)

wait_given : (act : Act) (ended : Ended) (a b : Device) → IsOtherStatus act a b ended → HasCalled act a b (Waited (Ok ended)) → HasGiven act a b
wait_given act ended a b other now = λ w1 e.
    let h = now.world.told w1 e in (h.0, h.1, (wait_event ended h.2.0 ∷ [], (h.2.1, tt), ((λ c is trees at differ. other h.0 h.1 c is trees at differ), tt), h.2.2))

-- ## The child

module _ (flow : Flow) (settings : Settings) (h : Parts) (c : Child) (places : List (Option Child)) (room : Room) (put : IsPutFor (Some c) None h.places places)
    (gave : (cores : ℕ) (bounds : List Amount) (before after : List Ask) → Holds cores bounds h.room (before ++ c.ask ∷ after) → Holds cores bounds room (before ++ after)) where
  was_there : IsIn h.places (Some c)
  was_there = subst (λ ps. IsIn ps (Some c)) (sym put.were_so) (in_here put.before put.after (Some c))

  still_there : (d : Child) → IsIn places (Some d) → IsIn h.places (Some d)
  still_there d i =
      subst (λ ps. IsIn ps (Some d)) (sym put.were_so)
      (in_rest put.before put.after (Some c) (Some d) (other (in_split put.before put.after None (Some d) (subst (λ ps. IsIn ps (Some d)) put.are_so i))))
    where
      no_child : Some d ≡ None → ⊥
      no_child e = cc

      other : (Some d ≡ None) ⊎ IsIn (put.before ++ put.after) (Some d) → IsIn (put.before ++ put.after) (Some d)
      other (inl e) = absurd (no_child e)
      other (inr k) = k

  room_holds : IsSteady flow settings h → Holds settings.cores settings.bounds room (asks_in places)
  room_holds steady =
      subst (Holds settings.cores settings.bounds room) (sym (asks_are c h.places places put))
      (gave settings.cores settings.bounds (asks_in put.before) (asks_in put.after) (subst (Holds settings.cores settings.bounds h.room) (asks_were c h.places places put) steady.room))

  -- ## It was waited for, and its job closed

  module _ (l : Laws) (act : Act) (ended : Ended) (a b : Device) (owners : WhereTold a HasOwners) (steady : IsSteady flow settings h)
      (none_left : WhereTold a (WhereUnhalted NoneLeft flow settings h)) (number : ended.number ≡ c.going.number) (called : HasCalled act a b (Waited (Ok ended)))
      (other : IsOtherStatus act a b ended) (whole : h.halt.only_waits ≡ false) where
    module _ (k : Parts) (d : Device) (p q : Sunk) (f : HasFollowed act flow settings (taken h places room) k c ended.status b d p q)
        (came : k.halt.fault ≢ None) where
      led : Did act a.world d.world (λ w es. LeadOn flow settings h k f.deeds w es × (false ≡ true → HasFailedWait es))
      led w1 e =
          let x = f.acted.did w1 e in
          let t = called.world.told x.0 x.1 in
          let w0 = t.0 in
          let left = t.2.0 in
          let follows : Follows act w0 (wait_event ended left ∷ x.2.0) = (t.2.1, subst (λ v. Follows act v x.2.0) t.2.2 x.2.1) in (
            w0,
            t.1,
            (
              wait_event ended left ∷ x.2.0,
              follows,
              (
                closed_leads l act flow settings h c places room ended left w0 x.2.0 k f.deeds whole put (room_holds steady) (none_left w0 t.1) number (owners w0 t.1)
                    (subst (λ v. HasClosedFor flow settings (taken h places room) c ended.status v x.2.0 k f.deeds) t.2.2 x.2.2) came follows,
                λ e. never (sym e),
              ),
              x.2.3 ∙ ap (λ v. run v x.2.0) t.2.2,
            ),
          )

      quiet_given : HasGiven act b d
      quiet_given w1 e =
          let x = f.acted.did w1 e in
          (x.0, x.1, (x.2.0, x.2.1, quiet_is_given act (Rose b.faults d.faults) x.0 x.2.0 (closed_quiet flow settings (taken h places room) c ended.status x.0 x.2.0 k f.deeds x.2.2), x.2.3))

      steady_on : IsSteady flow settings k
      steady_on =
          record {
            room = subst (λ r. Holds settings.cores settings.bounds r (asks_in k.places)) (sym f.room) (subst (λ ps. Holds settings.cores settings.bounds room (asks_in ps)) (sym f.places) (room_holds steady));
            halt = f.halts.sound steady.halt;
            silent = f.missing steady.silent;
            lines = λ x i j is.
                steady.lines x (still_there x (subst (λ ps. IsIn ps (Some x)) f.places i)) j
                (ap (λ (b : Jobs). slice_get b.jobs x.job) (sym f.plan.jobs_stay) ∙ is);
          }

      tells_from : (t : Text) → TellsEnd flow (taken h places room) k c f.deeds t → TellsOn flow h k f.deeds t
      tells_from t tells deeds before told =
          tells (steady.lines c was_there) steady.halt whole deeds before (record { all = told.all; front = told.front })

      pub turned : HasTurned act flow settings h k false a d p q
      turned =
          record {
            deeds = f.deeds;
            failure = f.failure;
            lost = f.lost;
            led = led;
            given = given_then act a b d called.cause.later f.acted.cause.later (wait_given act ended a b other called) quiet_given;
            stays = λ quiet some. f.acted.stays quiet (called.world.stays some refl);
            cause = record {
              later = omega (arith, called.cause.later, f.acted.cause.later);
              rose = λ failure. rose_earlier a.faults b.faults d.faults called.cause.later (f.acted.cause.rose failure);
            };
            fails = λ e. never (sym e);
            waits = f.halts.waits;
            steady = λ s. steady_on;
            alive = f.plan.alive;
            seats = λ seats.
                subst (λ ps. AreSeated ps d.running) (sym f.places)
                (subst (AreSeated places) (sym (f.acted.running ∙ called.running)) (seated_less h.places places a.running c ended.number put number seats));
            counts = f.counts;
            silent = f.silent;
            outputs = f.outputs;
            text = reported_as (TellsEnd flow (taken h places room) k c f.deeds) (TellsOn flow h k f.deeds) p q f.lost f.lost refl tells_from f.text;
          }

    -- ### and no fault has come, and the plan has grown

    -- the closing, and then the looks by which the plan grew
    record HasClosedAndGrown (m k : Parts) (deeds : List Deed) (v : World) (es : List Event) : Type 0 where
      closing : List Event
      looks : List Event
      are : es ≡ closing ++ looks
      closed : HasClosedFor flow settings (taken h places room) c ended.status v closing m deeds
      grown : HasGrownOn flow settings (run v closing) m k looks

    module _ (m k : Parts) (d z : Device) (p q : Sunk) (f : HasFollowed act flow settings (taken h places room) m c ended.status b d p q) (none : m.halt.fault ≡ None)
        (g : HasGrownIn act flow settings m k d z) where
      -- no call of the device failed as the job was closed
      unfailed : f.failure ≡ false
      unfailed = go f.failure refl
        where
          go : (x : Bool) → f.failure ≡ x → x ≡ false
          go false e = refl
          go true e =
              absurd ((f.halts.sound steady.halt).some (f.halts.waits ∙ (ap (λ x. h.halt.only_waits || x) e ∙ or-true h.halt.only_waits)) none)

      both : HasActed act (HasClosedAndGrown m k f.deeds) b z g.failure
      both =
          acted_then act (λ v es. HasClosedFor flow settings (taken h places room) c ended.status v es m f.deeds) (λ v es. HasGrownOn flow settings v m k es)
          (HasClosedAndGrown m k f.deeds) b d z g.failure
          (λ w es fs follows closed later grown. record { closing = es; looks = fs; are = refl; closed = closed; grown = grown })
          (subst (HasActed act (λ v es. HasClosedFor flow settings (taken h places room) c ended.status v es m f.deeds) b d) unfailed f.acted) g.acted

      halts_on : IsHaltedOn m.halt k.halt g.failure
      halts_on = on_once m.halt k.halt g.failure g.halts

      led_grown : Did act a.world z.world (λ w es. LeadOn flow settings h k f.deeds w es × (false ≡ true → HasFailedWait es))
      led_grown w1 e =
          let x = both.did w1 e in
          let t = called.world.told x.0 x.1 in
          let w0 = t.0 in
          let left = t.2.0 in
          let waiting : Event = wait_event ended left in
          let follows : Follows act w0 (waiting ∷ x.2.0) = (t.2.1, subst (λ v. Follows act v x.2.0) t.2.2 x.2.1) in
          let there : HasClosedAndGrown m k f.deeds (after w0 waiting) x.2.0 = subst (λ v. HasClosedAndGrown m k f.deeds v x.2.0) t.2.2 x.2.2 in (
            w0,
            t.1,
            (
              waiting ∷ x.2.0,
              follows,
              (
                subst (λ es. LeadOn flow settings h k f.deeds w0 (waiting ∷ es)) (sym there.are)
                    (grown_on l act flow settings h c places room ended left w0 there.closing there.looks m k f.deeds whole put (room_holds steady) (none_left w0 t.1) number
                    (owners w0 t.1) there.closed none there.grown (subst (λ es. Follows act w0 (waiting ∷ es)) there.are follows)),
                λ e. never (sym e),
              ),
              x.2.3 ∙ ap (λ v. run v x.2.0) t.2.2,
            ),
          )

      grown_given : HasGiven act b z
      grown_given w1 e =
          let x = both.did w1 e in
          let there = x.2.2 in (
            x.0,
            x.1,
            (
              x.2.0,
              x.2.1,
              quiet_is_given act (Rose b.faults z.faults) x.0 x.2.0
                  (subst (EachCall IsQuiet) (sym there.are)
                  (calls_more there.closing there.looks
                  (closed_quiet flow settings (taken h places room) c ended.status x.0 there.closing m f.deeds there.closed)
                  (grown_quiet flow settings (run x.0 there.closing) m k there.looks there.grown))),
              x.2.3,
            ),
          )

      same_room : k.room ≡ room
      same_room = ap (λ (n : Parts). n.room) g.others ∙ f.room

      same_telling : k.telling ≡ m.telling
      same_telling = ap (λ (n : Parts). n.telling) g.others

      lines_then : HaveLines flow m.live m.places
      lines_then x i j is =
          steady.lines x (still_there x (subst (λ ps. IsIn ps (Some x)) f.places i)) j
          (ap (λ (b : Jobs). slice_get b.jobs x.job) (sym f.plan.jobs_stay) ∙ is)

      steady_grown : IsSteady flow settings k
      steady_grown =
          record {
            room =
                subst (λ r. Holds settings.cores settings.bounds r (asks_in k.places)) (sym same_room)
                (subst (Holds settings.cores settings.bounds room) (sym (g.asks ∙ ap asks_in f.places)) (room_holds steady));
            halt = halts_on.sound (f.halts.sound steady.halt);
            silent = λ quiet. absurd (f.missing steady.silent (sym same_telling ∙ quiet) none);
            lines = g.lines lines_then;
          }

      grown_tells : (t : Text) → TellsEnd flow (taken h places room) m c f.deeds t → TellsOn flow h k f.deeds t
      grown_tells t tells deeds before told =
          let then = tells (steady.lines c was_there) steady.halt whole deeds before (record { all = told.all; front = told.front }) in
          record {
            all = λ on. then.all (sym same_telling ∙ on);
            front = λ off. let x = then.front (sym same_telling ∙ off) in (x.0, halts_on.stays x.0 x.1, x.2);
          }

      same_tally : k.tally ≡ m.tally
      same_tally = ap (λ (n : Parts). n.tally) g.others

      grown_outputs : k.halt.fault ≡ Some fault.Output → (h.halt.fault ≡ Some fault.Output) ⊎ (f.lost ≡ true)
      grown_outputs is = go g.halts
        where
          one_fault : (x y : Fault) → Some x ≡ Some y → x ≡ y
          one_fault x y e = cc

          go : IsHaltedOnce m.halt k.halt g.failure → (h.halt.fault ≡ Some fault.Output) ⊎ (f.lost ≡ true)
          go (inl same) = f.outputs (ap (λ t. t.fault) (sym same.1) ∙ is)
          go (inr by) =
              absurd (by.2 (one_fault by.0 fault.Output (ap (λ o. Some (or_later o by.0)) (sym none) ∙ (ap (λ t. t.fault) (sym by.3) ∙ is))))

      pub turned_grown : HasTurned act flow settings h k false a z p q
      turned_grown =
          record {
            deeds = f.deeds;
            failure = g.failure;
            lost = f.lost;
            led = led_grown;
            given = given_then act a b z called.cause.later both.cause.later (wait_given act ended a b other called) grown_given;
            stays = λ quiet some. both.stays quiet (called.world.stays some refl);
            cause = record {
              later = omega (arith, called.cause.later, both.cause.later);
              rose = λ failure. rose_earlier a.faults b.faults z.faults called.cause.later (both.cause.rose failure);
            };
            fails = λ e. never (sym e);
            waits =
                halts_on.waits
                ∙ ap (λ x. x || g.failure) (f.halts.waits ∙ (ap (λ x. h.halt.only_waits || x) unfailed ∙ or-false h.halt.only_waits));
            steady = λ s. steady_grown;
            alive = g.alive;
            seats = λ seats.
                record {
                  seated = λ n has. subst (λ gs. Contains (map (λ (x : Underway). x.number) gs) n) (sym same_goings) ((left_seats seats).seated n has);
                  runs = λ n has. (left_seats seats).runs n (subst (λ gs. Contains (map (λ (x : Underway). x.number) gs) n) same_goings has);
                  distinct = subst (λ gs. IsDistinct nat_eq (map (λ (x : Underway). x.number) gs)) (sym same_goings) (left_seats seats).distinct;
                };
            counts = subst (IsBarelyMore h.tally) (sym same_tally) f.counts;
            silent = λ e. same_telling ∙ f.silent e;
            outputs = grown_outputs;
            text = reported_as (TellsEnd flow (taken h places room) m c f.deeds) (TellsOn flow h k f.deeds) p q f.lost f.lost refl grown_tells f.text;
          }
        where
          same_goings : goings k.places ≡ goings places
          same_goings = g.goings ∙ ap goings f.places

          left_seats : AreSeated h.places a.running → AreSeated places z.running
          left_seats seats = subst (AreSeated places) (sym (both.running ∙ called.running)) (seated_less h.places places a.running c ended.number put number seats)

  -- ## It was only waited for

  module _ (act : Act) (ended : Ended) (a b : Device) (p : Sunk) (alive : IsLive h.live) (steady : IsSteady flow settings h) (number : ended.number ≡ c.going.number)
      (called : HasCalled act a b (Waited (Ok ended))) (other : IsOtherStatus act a b ended) (only : h.halt.only_waits ≡ true) where
    led_on : Did act a.world b.world (λ w es. LeadOn flow settings h (taken h places room) [] w es × (false ≡ true → HasFailedWait es))
    led_on w1 e =
        let t = called.world.told w1 e in (
          t.0,
          t.1,
          (
            wait_event ended t.2.0 ∷ [],
            (t.2.1, tt),
            (waited_leads act flow settings h c places room ended t.2.0 t.0 only put number (t.2.1, tt), λ e. never (sym e)),
            t.2.2,
          ),
        )

    pub only_waited : HasTurned act flow settings h (taken h places room) false a b p p
    only_waited =
        record {
          deeds = [];
          failure = false;
          lost = false;
          led = led_on;
          given = wait_given act ended a b other called;
          stays = λ quiet some. called.world.stays some refl;
          cause = record { later = called.cause.later; rose = λ failure. never (sym failure) };
          fails = λ e. never (sym e);
          waits = sym (or-false h.halt.only_waits);
          steady = λ s. record {
            room = room_holds steady;
            halt = steady.halt;
            silent = steady.silent;
            lines = λ x i j is. steady.lines x (still_there x i) j is;
          };
          alive = alive;
          seats = λ seats. subst (AreSeated places) (sym called.running) (seated_less h.places places a.running c ended.number put number seats);
          counts = record { started = omega arith; done = omega arith; failed = omega arith };
          silent = λ e. silenced e;
          outputs = λ e. inl e;
          text = reported_nothing (TellsOn flow h (taken h places room) []) p (tells_nothing flow h (taken h places room) refl (λ f e. e));
        }
      where
        silenced : (h.telling ≡ false) ⊎ (false ≡ true) → h.telling ≡ false
        silenced (inl e) = e
        silenced (inr e) = never (sym e)

-- ## A wait failed

module _ (act : Act) (flow : Flow) (settings : Settings) (h : Parts) (e : Failed) (a b : Device) (p : Sunk) (alive : IsLive h.live)
    (some : list_all is_none h.places ≡ false) (none_left : WhereTold a (WhereUnhalted NoneLeft flow settings h)) (called : HasCalled act a b (Waited (Err e))) where
  abbrev failing : Event
  failing = record { call = Waited (Err e); left = [] }

  led_off : Did act a.world b.world (λ w es. LeadOn flow settings h (faulted fault.Device h) [] w es × (true ≡ true → HasFailedWait es))
  led_off w1 is =
      let t = called.world.told w1 is in
      let left : t.2.0 ≡ [] = t.2.1.lets in
      let happens = subst (λ (cs : List Change). Happens act t.0 (record { call = Waited (Err e); left = cs })) left t.2.1 in (
        t.0,
        t.1,
        (
          failing ∷ [],
          (happens, tt),
          (
            λ rules entry s before deeds by at.
                one_step rules entry (faulted fault.Device h) s t.0 before (failing ∷ []) deeds []
                (failed_wait_leads rules entry h s t.0 before deeds e at some (none_left t.0 t.1 rules entry s before deeds by at)
                (home_stays act entry t.0 (failing ∷ []) (happens, tt) at.home)),
            λ x. (failing, inl refl, refl),
          ),
          t.2.2 ∙ ap (λ (cs : List Change). after t.0 (record { call = Waited (Err e); left = cs })) left,
        ),
      )

  pub unwaited : HasTurned act flow settings h (faulted fault.Device h) true a b p p
  unwaited =
      let halts = on_fault fault.Device h.halt in
      record {
        deeds = [];
        failure = true;
        lost = false;
        led = led_off;
        given = unwaited_given act e a b called;
        stays = λ quiet. never quiet;
        cause = called.cause;
        fails = λ x. refl;
        waits = halts.waits;
        steady = λ s. record { room = s.room; halt = halts.sound s.halt; silent = λ x none. some_fault (or_later h.halt.fault fault.Device) none; lines = s.lines };
        alive = alive;
        seats = λ seats. subst (AreSeated h.places) (sym called.running) seats;
        counts = record { started = omega arith; done = omega arith; failed = omega arith };
        silent = λ x. silenced x;
        outputs = λ x. first h.halt.fault refl x;
        text = reported_nothing (TellsOn flow h (faulted fault.Device h) []) p (tells_nothing flow h (faulted fault.Device h) refl (λ f x. halts.stays f x));
      }
    where
      silenced : (h.telling ≡ false) ⊎ (false ≡ true) → h.telling ≡ false
      silenced (inl x) = x
      silenced (inr x) = never (sym x)

      first : (o : Option Fault) → h.halt.fault ≡ o → Some (or_later o fault.Device) ≡ Some fault.Output → (h.halt.fault ≡ Some fault.Output) ⊎ (false ≡ true)
      first None none x = absurd (other x)
        where
          other : Some fault.Device ≡ Some fault.Output → ⊥
          other y = cc
      first (Some g) came x = inl (came ∙ x)

-- ## No child was found

in_numbers : (gs : List Underway) (n : ℕ) → Contains (map (λ (g : Underway). g.number) gs) n → ((g : Underway) → IsIn gs g → ¬ (g.number ≡ n)) → ⊥
in_numbers [] n h none = none_in n h
in_numbers (g ∷ gs) n h none =
    elim (Contains-append_cases (g.number ∷ []) (map (λ (x : Underway). x.number) gs) n h) [
      | inl k ↦ none g (inl refl) (only g.number n k)
      | inr k ↦ in_numbers gs n k (λ x i. none x (inr i))
    ]

pub always_found :
    {A : Type 0} (places : List (Option Child)) (running : List ℕ) (n : ℕ) → AreSeated places running → Contains running n →
    ((g : Underway) → IsIn (goings places) g → ¬ (g.number ≡ n)) → A
always_found places running n seats has none = absurd (in_numbers (goings places) n (seats.seated n has) none)
