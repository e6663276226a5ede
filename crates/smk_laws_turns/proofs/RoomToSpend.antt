-- No running child owns or reads a spent output, nor anything under it.
use Rattle.std.proofs.Common.{◌≡◌, ◌⊎◌, inl, inr, Bool, true, false, ◌&&◌, not, List, [], ◌∷◌, ◌++◌, map, filter, flat_map, zip, refl, ap, sym, subst, Option, Some, None, true≢false}
use Rattle.std.specs.Prelude.{is_some}
use Rattle.std.specs.List.{list_any}
use Rattle.smk_base.specs.Path.{is_under, overlaps}
use Rattle.smk_base.proofs.Under.{at_when_under, both_true, false_unless, never_both, or_cases}
use Rattle.smk_world.specs.declared.event.Child.{Child as WorldChild}
use Rattle.smk_world.specs.declared.event.Event.{Event}
use Rattle.smk_world.specs.declared.recipe.Out.{Out}
use Rattle.smk_world.specs.declared.recipe.Recipe.{Recipe}
use Rattle.smk_world.specs.Calls.{IsUnused, any_overlap}
use Rattle.smk_world.specs.Trees.{Act, IsIn, Path, among, folder_over, folders_of, is_folder_kind, outs_of}
use Rattle.smk_world.specs.World.{World, in_paths, out_paths, owned_paths, reading}
use Rattle.smk_pattern.specs.Reading.{fill}
use Rattle.smk_flow.specs.declared.job.Job.{Job}
use Rattle.smk_flow.specs.declared.rule.Flag.TheVariants.{Temp}
use Rattle.smk_flow.specs.declared.rule.FlaggedText.{FlaggedText}
use Rattle.smk_flow.specs.Flows.{Flow, outputs, outs}
use Rattle.smk_flow.specs.Jobs.{is_flagged}
use Rattle.smk_store.specs.Images.{Image}
use Rattle.smk_trigger.specs.declared.reason.State.{State}
use Rattle.smk_trigger.specs.JobStates.{is_clean}
use Rattle.smk_pick.specs.declared.settings.Settings.{Settings}
use Rattle.smk_plan.specs.States.{IsPlan, Plan, Progress, awaited, awaits, by_table, directory_over, gathers_from, is_input, is_spent, is_temporary, kept_state, maker_of, makes, makes_awaited, none_or_one, staged, state_of, test_some}
use Rattle.smk_drive.specs.Moments.{IsInForce, Rules, is_spent_now, progress_of, runs, seen}
use Rattle.smk_drive_course.specs.Stands.{Stand, moment_of}
use Rattle.smk_drive_course.specs.Steps.{Deed}
use Rattle.smk_laws_protocol.proofs.Basics.{any_by, by_test, some_of}
use Rattle.smk_laws_plan.proofs.CurrentChosen.{paths_are}
use Rattle.smk_laws_plan.proofs.CurrentLists.{and_left, and_right, filter_in, find_in, in_flat, in_left, in_map, in_right, in_zip, map_in, not_true, zip_in}
use Rattle.smk_laws_plan.proofs.CurrentPaths.{among_in, in_among}
use Rattle.smk_laws_plan.proofs.CurrentProducts.{Planned, once_paths}
use Rattle.smk_laws_history.proofs.CurrentComplete.{seen_is_complete}
use Rattle.smk_laws_history.proofs.Valid.{records_valid}
use Rattle.smk_laws_moments.proofs.Inputs.{input_clear, maker_is}
use Rattle.smk_laws_moments.proofs.Next.{last_is_plan}
use Rattle.smk_laws_moments.proofs.Others.{is_kept, kept_unclean}
use Rattle.smk_laws_moments.proofs.Spots.{own_apart, overlaps_above, owned, owned_between}
use Rattle.smk_laws_moments.proofs.OwnSites.{of_rule, outs_are}
use Rattle.smk_laws_turns.specs.Hubs.{IsAt, Parts, plan_of}
use Rattle.smk_laws_turns.specs.Turning.{OfParts}
use Rattle.smk_laws_turns.specs.Room.{IsPlannedAs, IsSameCrew, RoomToSpend, RoomToSpendOn}
use Rattle.smk_laws_turns.proofs.Overlaps.{apart_at, apart_both, one_apart, same_or_apart, unused_now, used_by}
use Rattle.smk_laws_turns.proofs.Staff.{IsChildOfJob, job_of_child, runs_now}

-- a directory output is an output
folder_is_out : (r : Recipe) (d : Path) → IsIn (folders_of r) d → IsIn (out_paths r) d
folder_is_out r d i =
    let o = map_in (λ (x : Out). x.path) (filter (λ (x : Out). is_folder_kind x.kind) (outs_of r)) d i in
    subst (λ ps. IsIn ps d) (sym (paths_are r))
    (subst (IsIn (map (λ (x : Out). x.path) (outs_of r))) (sym o.2)
    (in_map (λ (x : Out). x.path) (outs_of r) o.0 (filter_in (λ (x : Out). is_folder_kind x.kind) (outs_of r) o.0 o.1).0))

module _
    (act : Act) (flow : Flow) (image : Image) (settings : Settings) (progress : Progress) (plan : Plan)
    (planned : Planned flow image settings progress plan) where
  abbrev st : Job → State
  st j = state_of image settings progress plan j

  -- what is flagged `temp` is an output
  temp_output : (k : Job) (p : Path) → IsIn plan.jobs k → IsIn k.temps p → IsIn (out_paths k.recipe) p
  temp_output k p ik i =
      let r = of_rule flow image plan.lists settings.targets plan.jobs planned.complete planned.derived.derived k ik in
      let c = r.candidate in
      let text = λ (o : FlaggedText). fill c.binding o.text in
      let o = map_in text (filter (is_flagged Temp) (outs c.part)) p (subst (λ (j : Job). IsIn j.temps p) r.is_job i) in
      let made = subst (λ q. IsIn (outputs flow c) q) (sym o.2) (in_map text (outs c.part) o.0 (filter_in (is_flagged Temp) (outs c.part) o.0 o.1).0) in
      subst (λ (j : Job). IsIn (out_paths j.recipe) p) (sym r.is_job)
      (subst (λ ps. IsIn ps p) (sym (outs_are flow image plan.lists settings.targets plan.jobs planned.complete planned.derived.derived c)) made)

  -- A temporary output of a job that is Clean, which no job reads that isn't; and a job that isn't.
  module _
      (j k : Job) (p : Path) (ij : IsIn plan.jobs j) (ik : IsIn plan.jobs k) (temporary : is_temporary image settings progress plan j p ≡ true)
      (clean : is_clean (st j) ≡ true) (unread : is_input plan (λ (e : Job × State). not (is_clean e.1)) p ≡ false) (unclean : is_clean (st k) ≡ false) where
    ip : IsIn (out_paths j.recipe) p
    ip = temp_output j p ij (among_in j.temps p (and_left (among j.temps p) (not (makes_awaited image settings progress plan j)) temporary))

    mine : IsIn (owned j) p
    mine = in_left p (out_paths j.recipe) j.logs ip

    -- the output is apart from what that job owns
    from_owned : (q : Path) → IsIn (owned k) q → overlaps p q ≡ false
    from_owned q iq =
        apart_at (owned j) (owned k) p q
        (owned_between flow image plan.lists settings.targets plan.jobs planned.complete planned.derived.derived (λ x. is_clean (st x)) j k ij ik clean unclean) mine iq

    -- that job doesn't read it
    not_read : IsIn (in_paths k.recipe) p → ⊥
    not_read iq =
        let there = subst (λ ss. IsIn (zip plan.jobs ss) (k, st k)) (sym planned.derived.states) (in_zip st plan.jobs k ik) in
        never_both (is_input plan (λ (e : Job × State). not (is_clean e.1)) p)
        (any_by (λ (e : Job × State). among (in_paths e.0.recipe) p && not (is_clean e.1)) (staged plan) (k, st k) there
        (both_true (among (in_paths k.recipe) p) (not (is_clean (st k))) (in_among (in_paths k.recipe) p iq) (ap not unclean))) unread

    -- the directory of which it reads a member is awaited
    is_awaited : (q d : Path) → IsIn (in_paths k.recipe) q → makes j q ≡ true → folder_over j.recipe q ≡ Some d → IsIn (out_paths j.recipe) d →
        makes_awaited image settings progress plan j ≡ true
    is_awaited q d iq m over id =
        let of_maker : Job × State → List Path = λ e. none_or_one (folder_over e.0.recipe q) in
        let maker = maker_is flow act image settings progress plan planned j q ij m in
        let here = in_flat of_maker (none_or_one (maker_of plan q)) (j, st j) d
        (subst (λ o. IsIn (none_or_one o) (j, st j)) (sym maker) (inl refl)) (subst (λ o. IsIn (none_or_one o) d) (sym over) (inl refl)) in
        let waits = in_right d (gathers_from k) (flat_map (directory_over plan) (in_paths k.recipe ++ gathers_from k))
        (in_flat (directory_over plan) (in_paths k.recipe ++ gathers_from k) q d (in_left q (in_paths k.recipe) (gathers_from k) iq) here) in
        let all = once_paths (flat_map (awaits plan) plan.jobs ++ flat_map (directory_over plan) settings.targets) d
        (in_left d (flat_map (awaits plan) plan.jobs) (flat_map (directory_over plan) settings.targets) (in_flat (awaits plan) plan.jobs k d ik waits)) in
        any_by (among (awaited image settings progress plan)) (out_paths j.recipe) d id (in_among (awaited image settings progress plan) d all)

    unawaited : makes_awaited image settings progress plan j ≡ false
    unawaited = not_true (makes_awaited image settings progress plan j) (and_right (among j.temps p) (not (makes_awaited image settings progress plan j)) temporary)

    one_or_apart : (q : Path) → IsIn (out_paths j.recipe) q → (p ≡ q) ⊎ (overlaps p q ≡ false)
    one_or_apart q i =
        same_or_apart (owned j) p q (own_apart flow image plan.lists settings.targets plan.jobs planned.complete planned.derived.derived j ij) mine
        (in_left q (out_paths j.recipe) j.logs i)

    -- the output is apart from what that job reads
    from_input : (q : Path) → IsIn (in_paths k.recipe) q → overlaps p q ≡ false
    from_input q iq = by_test (makes j q) made (λ never. input_clear flow act image settings progress plan planned k j q p ik ij iq never mine)
      where
        output : (p ≡ q) ⊎ (overlaps p q ≡ false) → overlaps p q ≡ false
        output (inl e) = absurd (not_read (subst (IsIn (in_paths k.recipe)) (sym e) iq))
        output (inr apart) = apart

        over : (d : Path) → makes j q ≡ true → folder_over j.recipe q ≡ Some d → IsIn (out_paths j.recipe) d → is_under q d ≡ true → (p ≡ d) ⊎ (overlaps p d ≡ false) →
            overlaps p q ≡ false
        over d m found id under (inl e) = absurd (never_both (makes_awaited image settings progress plan j) (is_awaited q d iq m found id) unawaited)
        over d m found id under (inr apart) = false_unless (overlaps p q) (λ both. never_both (overlaps p d) (overlaps_above p q d (at_when_under q d under) both) apart)

        member : (o : Option Path) → folder_over j.recipe q ≡ o → is_some o ≡ true → makes j q ≡ true → overlaps p q ≡ false
        member None found some m = absurd (true≢false (sym some))
        member (Some d) found some m =
            let f = find_in (is_under q) (folders_of j.recipe) d found in
            let id = folder_is_out j.recipe d f.0 in over d m found id f.1 (one_or_apart d id)

        made : makes j q ≡ true → overlaps p q ≡ false
        made m = elim (or_cases (among (out_paths j.recipe) q) (is_some (folder_over j.recipe q)) m) [
          | inl k ↦ output (one_or_apart q (among_in (out_paths j.recipe) q k))
          | inr k ↦ member (folder_over j.recipe q) refl k m
        ]

-- whatever commands do
abbrev nothing_done : Act
nothing_done recipe trees = record { status = 0; outputs = [] }

module _
    (rules : Rules) (entry : World) (h : Parts) (s : Stand) (w : World) (before : List Event) (deeds : List Deed) (u : Stand) (v : World) (events : List Event)
    (p : Path) (at : IsAt rules entry h s w before deeds) (same : IsSameCrew s u w v) (by : IsPlannedAs rules h.live.base.jobs.jobs u v events)
    (spent : is_spent_now rules (moment_of u v events) p ≡ true) where
  abbrev image : Image
  image = seen rules v

  abbrev progress : Progress
  progress = progress_of v u.begun

  abbrev plan : Plan
  plan = by.plan

  is_plan : IsPlan rules.flow image rules.settings progress plan
  is_plan = last_is_plan rules.flow image rules.settings progress u.from plan (subst (IsInForce rules v u.begun u.from) by.in_force by.clear.planned)

  planned : Planned rules.flow image rules.settings progress plan
  planned = record {
    complete = seen_is_complete rules.read v same.formed;
    valid = records_valid rules.read v.names (λ q. reading (v.nodes q));
    derived = is_plan;
  }

  abbrev spends : Plan → Bool
  spends x = list_any (λ (e : Job × State). is_spent image rules.settings progress x e p) (staged x)

  -- the job whose output it is
  record IsSpentOf (j : Job) : Type 0 where
    pub of_plan : IsIn plan.jobs j
    pub temporary : is_temporary image rules.settings progress plan j p ≡ true
    pub clean : is_clean (state_of image rules.settings progress plan j) ≡ true
    pub unread : is_input plan (λ (e : Job × State). not (is_clean e.1)) p ≡ false

  spent_of : (j : Job) × IsSpentOf j
  spent_of =
      let found = some_of (λ (e : Job × State). is_spent image rules.settings progress plan e p) (staged plan)
      (subst (λ o. test_some spends o ≡ true) by.in_force spent) in
      let e = found.0 in
      let there = zip_in (state_of image rules.settings progress plan) plan.jobs e (subst (λ ss. IsIn (zip plan.jobs ss) e) is_plan.states found.1) in
      let rest = and_right (is_temporary image rules.settings progress plan e.0 p) _ found.2 in
      let later = and_right (not (among rules.settings.targets p)) _ rest in
      let last = and_right (is_clean e.1) _ later in (
        e.0,
        record {
          of_plan = there.0;
          temporary = and_left (is_temporary image rules.settings progress plan e.0 p) _ found.2;
          clean = subst (λ x. is_clean x ≡ true) there.1 (and_left (is_clean e.1) _ later);
          unread = not_true (is_input plan (λ (k : Job × State). not (is_clean k.1)) p) (and_left (not (is_input plan (λ (k : Job × State). not (is_clean k.1)) p)) _ last);
        },
      )

  -- a job whose child runs isn't Clean
  runs_unclean : (c : WorldChild) → IsIn v.children c → (of : IsChildOfJob h.live.base.jobs.jobs s.begun c.recipe c.logs) →
      is_clean (state_of image rules.settings progress plan of.job) ≡ false
  runs_unclean c i of =
      let running = subst (λ k. runs v k ≡ true) (sym of.is_job) (runs_now v c of.job i of.same_recipe) in
      let begun = subst (λ bs. IsIn bs of.as_begun) (sym same.begun) of.has_begun in
      let kept = subst (λ k. is_some (kept_state image rules.settings progress plan k) ≡ true) of.is_job
      (is_kept image rules.settings plan v u.begun of.as_begun begun running) in
      kept_unclean (kept_state image rules.settings progress plan of.job) (by_table image rules.settings progress plan of.job) kept

  unused_by : (c : WorldChild) → IsIn v.children c → any_overlap (p ∷ []) (used_by c) ≡ false
  unused_by c i =
      let of = job_of_child rules entry h s w before deeds at c (subst (λ cs. IsIn cs c) same.children i) in
      let j = spent_of.0 in
      let is = spent_of.1 in
      let ik = subst (λ js. IsIn js of.job) (sym by.same_jobs) of.of_plan in
      let unclean = runs_unclean c i of in
      let owns : owned of.job ≡ owned_paths c.recipe c.logs = λ i. owned_paths (of.same_recipe i) (of.same_logs i) in
      apart_both (p ∷ []) (in_paths c.recipe) (owned_paths c.recipe c.logs)
      (one_apart p (in_paths c.recipe) (λ q iq.
      from_input nothing_done rules.flow image rules.settings progress plan planned j of.job p is.of_plan ik is.temporary is.clean is.unread unclean q
      (subst (λ r. IsIn (in_paths r) q) (sym of.same_recipe) iq)))
      (one_apart p (owned_paths c.recipe c.logs) (λ q iq.
      from_owned nothing_done rules.flow image rules.settings progress plan planned j of.job p is.of_plan ik is.temporary is.clean is.unread unclean q
      (subst (λ ps. IsIn ps q) (sym owns) iq)))

  unused : IsUnused v p
  unused = unused_now (p ∷ []) v.children unused_by

pub room_to_spend_on : OfParts RoomToSpendOn
room_to_spend_on rules entry h s w before deeds u v events p at same by spent = unused rules entry h s w before deeds u v events p at same by spent

pub room_to_spend : OfParts RoomToSpend
room_to_spend rules entry h s w before deeds p at unhalted spent =
    let kept = at.kept unhalted in
    room_to_spend_on rules entry h s w before deeds s w before p at
    (record { begun = refl; runs = refl; children = refl; formed = at.home.formed })
    (record { clear = kept.clear; plan = plan_of h.live; in_force = kept.plan; same_jobs = refl }) spent
