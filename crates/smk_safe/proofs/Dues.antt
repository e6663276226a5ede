-- The turns of the jobs that are due are those of the plan by which they have their duties.
use Rattle.std.proofs.Common.{◌≡◌, inl, inr, ℕ, zero, suc, ◌+◌, Bool, true, false, cond, List, [], ◌∷◌, ◌++◌, zip, filter, length, take, refl, ap, sym, subst, ◌∙◌, append_assoc, arith, Option, Some, None, option_map, true≢false}
use Rattle.std.specs.Prelude.{nat_lt, if◌then◌else◌, slice_get}
use Rattle.std.specs.Option.{option_and_then}
use Rattle.std.proofs.lemmas.Option.{same_Some}
use Rattle.smk_base.specs.Path.{overlaps}
use Rattle.smk_base.proofs.Under.{at_itself, never_both, or_first, overlaps_at}
use Rattle.smk_world.specs.declared.event.Event.{Event}
use Rattle.smk_world.specs.World.{World, IsFormed, Throughout, after, out_paths}
use Rattle.smk_world.specs.Trees.{Path, Each, IsIn, folders_of}
use Rattle.smk_record.specs.declared.record.Record.{Record}
use Rattle.smk_record.specs.Records.{core}
use Rattle.smk_flow.specs.declared.job.Job.{Job}
use Rattle.smk_flow.specs.Flows.{Flow}
use Rattle.smk_store.specs.Images.{Image, record_at, core_at}
use Rattle.smk_store.specs.Soundness.{Outside}
use Rattle.smk_chain.specs.declared.jobs.Maker.{Maker}
use Rattle.smk_laws_protocol.specs.Protocol.{now}
use Rattle.smk_laws_protocol.proofs.Basics.{each_in, each_of}
use Rattle.smk_trigger.specs.declared.reason.State.{State}
use Rattle.smk_trigger.specs.declared.reason.State.TheVariants.{Open, Dirty, Restore, Clean}
use Rattle.smk_trigger.specs.JobStates.{is_open, is_to_run}
use Rattle.smk_pick.specs.declared.settings.Settings.{Settings}
use Rattle.smk_plan.specs.States.{Plan, IsPlan, nothing_done, makes, staged, state_of}
use Rattle.smk_laws_plan.proofs.CurrentApart.{JobsApart}
use Rattle.smk_laws_history.proofs.CurrentComplete.{seen_is_complete}
use Rattle.smk_laws_plan.proofs.CurrentLists.{find_in, get_in, zip_in}
use Rattle.smk_laws_plan.proofs.CurrentPaths.{in_among}
use Rattle.smk_laws_plan.proofs.PlanOne.{derived_apart}
use Rattle.smk_plan.specs.declared.duty.Duty.{Duty}
use Rattle.smk_plan.specs.declared.duty.Duty.TheVariants.{Rest, Restore as Again, Run}
use Rattle.smk_run.specs.Duties.{draws, drawn_before, serial_at, serial_by, serial_of, serials, Due, due_from, due}
use Rattle.smk_plan.specs.Duties.{rests}
use Rattle.smk_run.specs.Runs.{AreInOrder}
use Rattle.smk_run.specs.Turns.{Turn}
use Rattle.smk_plan_duties.specs.Meaning.{AreKeptWith, IsMeant, AreMeant}
use Rattle.smk_store_members.specs.Members.{AllIsFound}
use Rattle.smk_safe.specs.Ready.{AreDoneButLast}
use Rattle.smk_safe.specs.Turning.{AllAreFound}
use Rattle.smk_safe.specs.Planned.{AreTurnsOf, TellsSerials, IsPlain}
use Rattle.smk_safe.proofs.Planned.{all_shut, maker_known, no_folders, planned_turns_are_ready, plain_makes}
use Rattle.smk_safe.proofs.Safe.{run_is_safe}
use Rattle.smk_safe.specs.Dues.{TellsMakers, DueTurnsAreReady, DueRunIsSafe}

-- ## Lists

get_at : {A : Type 0} (xs : List A) (x : A) (ys : List A) → slice_get (xs ++ x ∷ ys) (length xs) ≡ Some x
get_at [] x ys = refl
get_at (z ∷ xs) x ys = get_at xs x ys

take_at : {A : Type 0} (xs ys : List A) → take (length xs) (xs ++ ys) ≡ xs
take_at [] ys = refl
take_at (z ∷ xs) ys = ap (λ l. z ∷ l) (take_at xs ys)

length_more : {A : Type 0} (xs : List A) (x : A) → length (xs ++ x ∷ []) ≡ suc (length xs)
length_more [] x = refl
length_more (z ∷ xs) x = ap suc (length_more xs x)

zip_get : {A B : Type 0} (xs : List A) (ys : List B) (n : ℕ) (e : A × B) → slice_get (zip xs ys) n ≡ Some e → slice_get xs n ≡ Some e.0
zip_get [] ys n e h = cc
zip_get (x ∷ xs) [] n e h = cc
zip_get (x ∷ xs) (y ∷ ys) zero e h = ap (option_map (λ (z : _ × _). z.0)) h
zip_get (x ∷ xs) (y ∷ ys) (suc n) e h = zip_get xs ys n e h

drawn_run : (ds : List Duty) → length (filter draws (ds ++ Run ∷ [])) ≡ suc (length (filter draws ds))
drawn_run [] = refl
drawn_run (Rest m ∷ ds) = drawn_run ds
drawn_run (Again m ∷ ds) = drawn_run ds
drawn_run (Run ∷ ds) = ap suc (drawn_run ds)

drawn_rest : (ds : List Duty) (d : Duty) → draws d ≡ false → length (filter draws (ds ++ d ∷ [])) ≡ length (filter draws ds)
drawn_rest [] d h = ap (λ b. length (cond b (d ∷ []) [])) h
drawn_rest (Rest m ∷ ds) d h = drawn_rest ds d h
drawn_rest (Again m ∷ ds) d h = drawn_rest ds d h
drawn_rest (Run ∷ ds) d h = ap suc (drawn_rest ds d h)

-- ## Serials

-- the serial of the duty at this place
serial_here : (first : Option ℕ) (before : List Duty) (d : Duty) (after : List Duty) → serial_of first (before ++ d ∷ after) (length before) ≡ serial_by (serial_at first (length (filter draws before))) d
serial_here first before d after =
    ap (λ l. option_and_then (serial_by (serial_at first (length (filter draws l)))) (slice_get (before ++ d ∷ after) (length before))) (take_at before (d ∷ after))
    ∙ ap (option_and_then (serial_by (serial_at first (length (filter draws before))))) (get_at before d after)

drawn_is : (top count n : ℕ) → serial_at (Some (suc top)) count ≡ Some n → n ≡ suc (top + count)
drawn_is top count n h = go (nat_lt (suc top + count) 18446744073709551616) h
  where
    go : (b : Bool) → (if b then Some (suc top + count) else None) ≡ Some n → n ≡ suc (top + count)
    go true e = omega (arith, same_Some _ _ e)
    go false e = cc

-- an output's record has the serial
kept_serial : (image : Image) (m : ℕ) (j : Job) (p : Path) (r : Record) → AreKeptWith image m j → IsIn (out_paths j.recipe) p → core_at image p ≡ Some r → m ≡ r.made
kept_serial image m j p r kept i e =
    let k = each_in (λ q. (s : Record) × (record_at image q ≡ Some s) × (image.marked q ≡ false) × (s.made ≡ m)) (out_paths j.recipe) p kept i in
    sym k.3 ∙ ap (λ (x : Record). x.made) (same (sym (ap (option_map core) k.1) ∙ e))
  where
    same : {a b : Record} → Some a ≡ Some b → a ≡ b
    same e = cc

-- ## The turns

module _ (image : Image) (cores top : ℕ) (all : List Duty) where
  abbrev serial : ℕ → Option ℕ
  serial = serial_of (Some (suc top)) all

  serial_in : (before : List Duty) (d : Duty) (after : List Duty) → all ≡ before ++ d ∷ after → serial (length before) ≡ serial_by (serial_at (Some (suc top)) (length (filter draws before))) d
  serial_in before d after e = ap (λ l. serial_of (Some (suc top)) l (length before)) e ∙ serial_here (Some (suc top)) before d after

  -- so many serials were drawn
  abbrev IsDrawn : ℕ → List Duty → Type 0
  IsDrawn greatest before = greatest ≡ top + length (filter draws before)

  next_is : (before : List Duty) (d : Duty) (after : List Duty) → all ≡ before ++ d ∷ after → all ≡ (before ++ d ∷ []) ++ after
  next_is before d after e = e ∙ sym (append_assoc before (d ∷ []) after)

  dues_next : (before : List Duty) (d : Duty) (duties : List Duty) (jobs : List Job) (ts : List Turn)
      → AreInOrder cores (due_from serial (suc (length before)) duties jobs) ts → AreInOrder cores (due_from serial (length (before ++ d ∷ [])) duties jobs) ts
  dues_next before d duties jobs ts h = subst (λ n. AreInOrder cores (due_from serial n duties jobs) ts) (sym (length_more before d)) h

  pub turns_of : (jobs : List Job) (states : List State) (duties before : List Duty) (greatest : ℕ) (ts : List Turn) → all ≡ before ++ duties → IsDrawn greatest before → AreMeant image jobs states duties
      → AreInOrder cores (due_from serial (length before) duties jobs) ts → AreTurnsOf image greatest (zip jobs states) ts
  turns_of [] [] [] before greatest [] e drawn meant h = tt
  turns_of [] [] [] before greatest (t ∷ ts) e drawn meant h = absurd h
  turns_of [] [] (d ∷ duties) before greatest ts e drawn meant h = absurd meant
  turns_of [] (s ∷ states) duties before greatest ts e drawn meant h = absurd meant
  turns_of (j ∷ jobs) [] duties before greatest ts e drawn meant h = absurd meant
  turns_of (j ∷ jobs) (s ∷ states) [] before greatest ts e drawn meant h = absurd meant
  turns_of (j ∷ jobs) (s ∷ states) (d ∷ duties) before greatest [] e drawn meant h = tt
  turns_of (j ∷ jobs) (s ∷ states) (d ∷ duties) before greatest (t ∷ ts) e drawn meant h =
      step s d meant.0 e h
      (λ m e2 k. turns_of jobs states duties (before ++ Rest m ∷ []) greatest (t ∷ ts) (next_is before (Rest m) duties e2) (drawn ∙ ap (λ n. top + n) (sym (drawn_rest before (Rest m) refl))) meant.1 (dues_next before (Rest m) duties jobs (t ∷ ts) k))
      (λ m e2 k. turns_of jobs states duties (before ++ Again m ∷ []) greatest ts (next_is before (Again m) duties e2) (drawn ∙ ap (λ n. top + n) (sym (drawn_rest before (Again m) refl))) meant.1 (dues_next before (Again m) duties jobs ts k))
      (λ e2 k. turns_of jobs states duties (before ++ Run ∷ []) (suc greatest) ts (next_is before Run duties e2) (omega (arith, drawn, drawn_run before)) meant.1 (dues_next before Run duties jobs ts k))
    where
      -- the job rests
      skips : (s : State) (m : ℕ) → all ≡ before ++ d ∷ duties → d ≡ Rest m → AreInOrder cores (due_from serial (length before) (d ∷ duties) (j ∷ jobs)) (t ∷ ts)
          → ((m : ℕ) → all ≡ before ++ Rest m ∷ duties → AreInOrder cores (due_from serial (suc (length before)) duties jobs) (t ∷ ts) → AreTurnsOf image greatest (zip jobs states) (t ∷ ts))
          → AreTurnsOf image greatest (zip jobs states) (t ∷ ts)
      skips s m e is k rest = rest m (subst (λ x. all ≡ before ++ x ∷ duties) is e) (subst (λ x. AreInOrder cores (due_from serial (length before) (x ∷ duties) (j ∷ jobs)) (t ∷ ts)) is k)

      rest_is : (d : Duty) → rests d ≡ true → (m : ℕ) × (d ≡ Rest m)
      rest_is (Rest m) h = (m, refl)
      rest_is (Again m) h = absurd (true≢false (sym h))
      rest_is Run h = absurd (true≢false (sym h))

      step : (s : State) (d : Duty) → IsMeant image j s d → all ≡ before ++ d ∷ duties → AreInOrder cores (due_from serial (length before) (d ∷ duties) (j ∷ jobs)) (t ∷ ts)
          → ((m : ℕ) → all ≡ before ++ Rest m ∷ duties → AreInOrder cores (due_from serial (suc (length before)) duties jobs) (t ∷ ts) → AreTurnsOf image greatest (zip jobs states) (t ∷ ts))
          → ((m : ℕ) → all ≡ before ++ Again m ∷ duties → AreInOrder cores (due_from serial (suc (length before)) duties jobs) ts → AreTurnsOf image greatest (zip jobs states) ts)
          → (all ≡ before ++ Run ∷ duties → AreInOrder cores (due_from serial (suc (length before)) duties jobs) ts → AreTurnsOf image (suc greatest) (zip jobs states) ts)
          → AreTurnsOf image greatest ((j, s) ∷ zip jobs states) (t ∷ ts)
      step Open (Rest m) is e k rest again run = rest m e k
      step Open (Again m) is e k rest again run = absurd (true≢false (sym is))
      step Open Run is e k rest again run = absurd (true≢false (sym is))
      step (Dirty rs) (Rest m) is e k rest again run = cc
      step (Dirty rs) (Again m) is e k rest again run = cc
      step (Dirty rs) Run is e (same, command, number, last, more) rest again run = (
        same,
        drawn_is top (length (filter draws before)) t.made (sym (serial_in before Run duties e) ∙ number) ∙ ap suc (sym drawn),
        run e more,
      )
      step Restore (Rest m) (n, kept, is) e k rest again run = cc
      step Restore Run (n, kept, is) e k rest again run = cc
      step Restore (Again m) (n, kept, is) e (same, command, number, last, more) rest again run =
          let serial_is : t.made ≡ n = sym (same_Some _ _ (sym (serial_in before (Again m) duties e) ∙ number)) ∙ same_again is in (
            same,
            λ p r i c. serial_is ∙ kept_serial image n j p r kept (subst (λ (z : Job). IsIn (out_paths z.recipe) p) same i) c,
            again m e more,
          )
        where
          same_again : {a b : ℕ} → Again a ≡ Again b → a ≡ b
          same_again x = cc
      step Clean (Rest m) is e k rest again run = rest m e k
      step Clean (Again m) (n, kept, is) e k rest again run = cc
      step Clean Run (n, kept, is) e k rest again run = cc

  -- a turn is of a job of the list, with its serial
  pub turn_at : (duties before : List Duty) (jobs done : List Job) (ts : List Turn) (t : Turn) → length done ≡ length before → AreInOrder cores (due_from serial (length before) duties jobs) ts → IsIn ts t
      → (n : ℕ) × (slice_get (done ++ jobs) n ≡ Some t.job) × (serial n ≡ Some t.made)
  turn_at duties before jobs done [] t e h i = absurd i
  turn_at [] before jobs done (u ∷ ts) t e h i = absurd h
  turn_at (d ∷ duties) before [] done (u ∷ ts) t e h i = absurd h
  turn_at (d ∷ duties) before (j ∷ jobs) done (u ∷ ts) t e h i = step d h i
      (λ d us l k. subst (λ xs. (n : ℕ) × (slice_get xs n ≡ Some t.job) × (serial n ≡ Some t.made)) (append_assoc done (j ∷ []) jobs)
      (turn_at duties (before ++ d ∷ []) jobs (done ++ j ∷ []) us t (length_more done j ∙ ap suc e ∙ sym (length_more before d)) (dues_next before d duties jobs us l) k))
    where
      there : u.job ≡ j → serial (length before) ≡ Some u.made → t ≡ u → (n : ℕ) × (slice_get (done ++ j ∷ jobs) n ≡ Some t.job) × (serial n ≡ Some t.made)
      there same number is = (
        length before,
        ap (slice_get (done ++ j ∷ jobs)) (sym e) ∙ get_at done j jobs ∙ ap Some (sym same ∙ ap (λ (x : Turn). x.job) (sym is)),
        number ∙ ap (λ (x : Turn). Some x.made) (sym is),
      )

      step : (d : Duty) → AreInOrder cores (due_from serial (length before) (d ∷ duties) (j ∷ jobs)) (u ∷ ts) → IsIn (u ∷ ts) t
          → ((d : Duty) (us : List Turn) → AreInOrder cores (due_from serial (suc (length before)) duties jobs) us → IsIn us t → (n : ℕ) × (slice_get (done ++ j ∷ jobs) n ≡ Some t.job) × (serial n ≡ Some t.made))
          → (n : ℕ) × (slice_get (done ++ j ∷ jobs) n ≡ Some t.job) × (serial n ≡ Some t.made)
      step (Rest m) k l again = again (Rest m) (u ∷ ts) k l
      step (Again m) (same, command, number, last, more) (inl is) again = there same number is
      step (Again m) (same, command, number, last, more) (inr l) again = again (Again m) ts more l
      step Run (same, command, number, last, more) (inl is) again = there same number is
      step Run (same, command, number, last, more) (inr l) again = again Run ts more l

-- ## What is meant at a place

meant_at : (image : Image) (jobs : List Job) (states : List State) (duties : List Duty) (n : ℕ) (e : Job × State) → AreMeant image jobs states duties → slice_get (zip jobs states) n ≡ Some e
    → (d : Duty) × (slice_get duties n ≡ Some d) × IsMeant image e.0 e.1 d
meant_at image [] states duties n e meant h = cc
meant_at image (j ∷ jobs) [] duties n e meant h = cc
meant_at image (j ∷ jobs) (s ∷ states) [] n e meant h = absurd meant
meant_at image (j ∷ jobs) (s ∷ states) (d ∷ duties) zero e meant h = (d, refl, subst (λ (x : Job × State). IsMeant image x.0 x.1 d) (same h) meant.0)
  where
    same : Some (j, s) ≡ Some e → (j, s) ≡ e
    same k = cc
meant_at image (j ∷ jobs) (s ∷ states) (d ∷ duties) (suc n) e meant h = meant_at image jobs states duties n e meant.1 h

-- a job stands at one place
one_place : (js : List Job) (j : Job) (p : Path) (n m : ℕ) → JobsApart js → IsIn (out_paths j.recipe) p → slice_get js n ≡ Some j → slice_get js m ≡ Some j → n ≡ m
one_place [] j p n m apart i h k = cc
one_place (x ∷ js) j p zero zero apart i h k = refl
one_place (x ∷ js) j p zero (suc m) apart i h k =
    absurd (never_both (overlaps p p) (overlaps_at p p (at_itself p)) (apart.0 j p p (get_in js m j k) (subst (λ (z : Job). IsIn (out_paths z.recipe) p) (same_job h) i) i))
  where
    same_job : Some x ≡ Some j → j ≡ x
    same_job e = cc
one_place (x ∷ js) j p (suc n) zero apart i h k =
    absurd (never_both (overlaps p p) (overlaps_at p p (at_itself p)) (apart.0 j p p (get_in js n j h) (subst (λ (z : Job). IsIn (out_paths z.recipe) p) (same_job k) i) i))
  where
    same_job : Some x ≡ Some j → j ≡ x
    same_job e = cc
one_place (x ∷ js) j p (suc n) (suc m) apart i h k = ap suc (one_place js j p n m apart.2 i h k)

-- the duties tell the serials of what jobs read
pub due_tells : (o : Outside) (w : World) (flow : Flow) (settings : Settings) (plan : Plan) (makers : List Maker) (duties : List Duty) (cores top : ℕ) (ts : List Turn)
    → IsFormed w → IsPlan flow (now o w) settings nothing_done plan → Each IsPlain plan.jobs → AreMeant (now o w) plan.jobs plan.states duties → TellsMakers makers plan
    → AreInOrder cores (due (Some (suc top)) duties plan.jobs) ts → TellsSerials (now o w) plan ts (serials makers (Some (suc top)) duties)
due_tells o w flow settings plan makers duties cores top ts formed is_plan plain meant tells in_order =
    let image = now o w in
    let first : Option ℕ = Some (suc top) in
    let shut = all_shut o w flow settings plan formed is_plan plain in
    let apart = derived_apart flow image plan.lists settings.targets plan.jobs (seen_is_complete o.read w formed) is_plan.derived in
    record {
      source = λ q read none. ap (option_and_then (serial_of first duties)) (tells.source q read none);
      rests = λ q e r read made_by rests stands.
          let at = tells.made q e read made_by in
          let d = meant_at image plan.jobs plan.states duties at.0 e meant at.2 in
          let found = find_in (λ (x : Job × State). makes x.0 q) (staged plan) e made_by in
          let there = zip_in (λ j. state_of image settings nothing_done plan j) plan.jobs e (subst (λ ss. IsIn (zip plan.jobs ss) e) is_plan.states found.0) in
          let out = plain_makes e.0 q (each_in IsPlain plan.jobs e.0 plain there.0) found.1 in
          ap (option_and_then (serial_of first duties)) at.1
          ∙ ap (option_and_then (serial_by (serial_at first (drawn_before duties at.0)))) d.1
          ∙ resting image e.0 e.1 d.0 (serial_at first (drawn_before duties at.0)) q r rests (state_shut image plan e shut found.0) d.2 out stands;
      runs = λ t q read i out.
          let here = turn_at image cores top duties duties [] plan.jobs [] ts t refl in_order i in
          let known = maker_known o w flow settings plan formed is_plan plain t.job q (get_in plan.jobs here.0 t.job here.1) (or_first _ _ (in_among (out_paths t.job.recipe) q out)) in
          let at = tells.made q (t.job, state_of image settings nothing_done plan t.job) read known in
          let same = one_place plan.jobs t.job q at.0 here.0 apart out (zip_get plan.jobs plan.states at.0 (t.job, state_of image settings nothing_done plan t.job) at.2) here.1 in
          ap (option_and_then (serial_of first duties)) at.1 ∙ ap (serial_of first duties) same ∙ here.2;
    }
  where
    state_shut : (image : Image) (plan : Plan) (e : Job × State) → Each (λ s. is_open s ≡ false) plan.states → IsIn (staged plan) e → is_open e.1 ≡ false
    state_shut image plan e shut i = go plan.jobs plan.states shut i
      where
        go : (js : List Job) (ss : List State) → Each (λ s. is_open s ≡ false) ss → IsIn (zip js ss) e → is_open e.1 ≡ false
        go [] ss h k = absurd k
        go (j ∷ js) [] h k = absurd k
        go (j ∷ js) (s ∷ ss) h (inl is) = ap (λ (x : Job × State). is_open x.1) is ∙ h.0
        go (j ∷ js) (s ∷ ss) h (inr k) = go js ss h.1 k

    resting : (image : Image) (j : Job) (s : State) (d : Duty) (next : Option ℕ) (q : Path) (r : Record) → is_to_run s ≡ false → is_open s ≡ false → IsMeant image j s d → IsIn (out_paths j.recipe) q → core_at image q ≡ Some r
        → serial_by next d ≡ Some r.made
    resting image j Open d next q r rests shut is out stands = absurd (true≢false shut)
    resting image j (Dirty rs) d next q r rests shut is out stands = absurd (true≢false rests)
    resting image j Restore d next q r rests shut is out stands = absurd (true≢false rests)
    resting image j Clean d next q r rests shut (m, kept, is) out stands = ap (serial_by next) is ∙ ap Some (kept_serial image m j q r kept out stands)

pub due_turns_are_ready : DueTurnsAreReady
due_turns_are_ready o w flow settings plan makers duties cores top ts formed is_top is_plan plain meant tells in_order fit =
    let turns = turns_of (now o w) cores top duties plan.jobs plan.states duties [] top ts refl (omega arith) meant in_order in
    planned_turns_are_ready o w flow settings plan (serials makers (Some (suc top)) duties) top ts formed is_top is_plan plain fit turns
    (due_tells o w flow settings plan makers duties cores top ts formed is_plan plain meant tells in_order)

-- ## The whole run

pub done_but_last : (cores : ℕ) (dues : List Due) (ts : List Turn) → AreInOrder cores dues ts → AreDoneButLast ts
done_but_last cores dues [] h = tt
done_but_last cores [] (t ∷ ts) h = absurd h
done_but_last cores (d ∷ dues) (t ∷ ts) h = (h.3, done_but_last cores dues ts h.4)

pub throughout_all : (P : World → Type 0) → ((v : World) → P v) → (w : World) (es : List Event) → Throughout w es P
throughout_all P h w [] = h w
throughout_all P h w (e ∷ es) = (h w, throughout_all P h (after w e) es)

pub due_run_is_safe : DueRunIsSafe
due_run_is_safe o entry H flow settings plan makers duties cores top ts es reads differ sound is_top is_plan plain meant tells in_order fit follows runs =
    let made = serials makers (Some (suc top)) duties in
    let ready = due_turns_are_ready o entry flow settings plan makers duties cores top ts sound.formed is_top is_plan plain meant tells in_order fit in
    let plain_turn : (t : Turn) → IsIn ts t → folders_of t.job.recipe ≡ [] =
    λ t i.
    let at = turn_at (now o entry) cores top duties duties [] plan.jobs [] ts t refl in_order i in
    no_folders t.job (each_in IsPlain plan.jobs t.job plain (get_in plan.jobs at.0 t.job at.1)) in
    let found : (v : World) → AllAreFound ts v =
    λ v. each_of (λ (t : Turn). Each (AllIsFound v.nodes) (folders_of t.job.recipe)) ts (λ t i. subst (Each (AllIsFound v.nodes)) (sym (plain_turn t i)) tt) in
    run_is_safe o entry H top made ts es reads differ sound is_top ready (done_but_last cores (due (Some (suc top)) duties plan.jobs) ts in_order) (throughout_all (AllAreFound ts) found entry es) follows runs
