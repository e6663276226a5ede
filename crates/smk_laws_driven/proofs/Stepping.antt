-- Each step of a run in which no fault comes keeps what running children read at its clean values; and no job fails in it.
use Rattle.std.proofs.Common.{◌≡◌, ◌≢◌, ◌⊎◌, inl, inr, ℕ, suc, zero, true, false, not, List, [], ◌∷◌, ◌++◌, map, refl, sym, ap, subst, ◌∙◌, Ok, IsTrue, is_none, arith, true≢false}
use Rattle.std.specs.Prelude.{length, nat_eq, nat_le, ◌==◌}
use Rattle.std.specs.List.{filter_map, list_all}
use Rattle.smk_base.specs.declared.tree.Pair.{Pair}
use Rattle.smk_base.specs.Path.{is_path}
use Rattle.smk_world.specs.declared.event.Call.TheVariants.{Waited}
use Rattle.smk_world.specs.declared.event.Event.{Event}
use Rattle.smk_world.specs.declared.recipe.Out.{Out}
use Rattle.smk_world.specs.declared.recipe.Recipe.{Recipe}
use Rattle.smk_world.specs.World.{World, IsFormed, after, child_numbered, in_paths, out_paths, owned_by, owned_paths, reading, run}
use Rattle.smk_world.specs.Calls.{Lets, any_overlap}
use Rattle.smk_world.specs.Runs.{Follows}
use Rattle.smk_world.specs.Trees.{Act, Each, IsIn, Path, among, first, is_path_text, outs_of}
use Rattle.smk_world.proofs.Names.{formed_run}
use Rattle.smk_record.specs.declared.record.Record.{Record}
use Rattle.smk_record.specs.declared.record.Stamp.{Stamp}
use Rattle.smk_record.specs.Spelling.{ReadsRecords}
use Rattle.smk_record.specs.Records.{is_earlier, is_valid, record_of, are_rising}
use Rattle.smk_flow.specs.declared.job.Job.{Job}
use Rattle.smk_flow.specs.Flows.{Candidate, Flow}
use Rattle.smk_store.specs.Images.{Image, tree_now}
use Rattle.smk_store.specs.Soundness.{Outside, SameSources, SoundWorld}
use Rattle.smk_store.specs.Trust.{SumsDiffer, Versions}
use Rattle.smk_chain.specs.Derive.{chosen, job, recipe}
use Rattle.smk_chain.specs.Mean.{Setting, clean_value, setting_of}
use Rattle.smk_plan.specs.States.{Plan, is_restored}
use Rattle.smk_job.specs.Jobs.{Underway}
use Rattle.smk_laws_plan.specs.Current.{eased_by}
use Rattle.smk_laws_plan.proofs.CurrentLists.{all_in, and_left, and_right, in_either, in_left, not_true}
use Rattle.smk_laws_plan.proofs.CurrentProducts.{Planned}
use Rattle.smk_laws_history.proofs.CurrentComplete.{seen_is_complete}
use Rattle.smk_laws_history.proofs.HistoryPlaces.{tree_same}
use Rattle.smk_laws_history.proofs.Valid.{records_valid}
use Rattle.smk_laws_complete.specs.Derived.{AllHaveValues, AreRight, GathersAlone, IsGoodJob}
use Rattle.smk_laws_protocol.specs.Protocol.{IsApart, OpenJob, Running, eased, own}
use Rattle.smk_laws_protocol.specs.Midway.{AllStrangers, Fits, IsTop, Midway}
use Rattle.smk_laws_protocol.proofs.Basics.{each_in, each_of, in_filter, in_split}
use Rattle.smk_laws_protocol.proofs.Between as views
use Rattle.smk_laws_protocol.proofs.MidwayHolds.{holds_midway}
use Rattle.smk_laws_protocol.proofs.ProtocolHolds.{reached}
use Rattle.smk_report.specs.Lines.{Ending, Good}
use Rattle.smk_run.specs.declared.ending.Ending.{Ending as End}
use Rattle.smk_run.specs.declared.ending.Ending.TheVariants as run_ending
use Rattle.smk_run.specs.Closings.{wait_event}
use Rattle.smk_run.specs.Runs.{AreWritable}
use Rattle.smk_run.specs.Statuses.{AreGiven, IsGiven}
use Rattle.smk_drive.specs.Moments.{Begun, Rules, begun_of, ending, fault_of, or_good, progress_of, seen}
use Rattle.smk_drive_course.specs.Reports.{failures}
use Rattle.smk_drive_course.specs.Stands.{Stand, lists, moment_of}
use Rattle.smk_drive_course.specs.Steps.{Closed, Deed, HasBegun, HasClosed, HasSpent, guards_of}
use Rattle.smk_laws_moments.specs.Opened.{AreStillPlanned, IsOpen, beginning, found_by, opened}
use Rattle.smk_laws_moments.specs.Starting.{MayOpen, top_with}
use Rattle.smk_laws_moments.proofs.Fates.{IsKept, begun_stand, ended_stand}
use Rattle.smk_laws_turns.specs.Leaving.{AreOwnCalls}
use Rattle.smk_laws_moments.specs.Staying.{IsDerivedStill}
use Rattle.smk_laws_moments.proofs.Planned.{derived_are_planned, midway_keeps_sources}
use Rattle.smk_laws_moments.proofs.Next.{IsStarting, starting}
use Rattle.smk_laws_moments.proofs.Starting.{startable_may_begin}
use Rattle.smk_laws_turns.specs.Following.{IsReached}
use Rattle.smk_laws_turns.proofs.Pairs.{aside, parted}
use Rattle.smk_laws_turns.proofs.StandStates.{IsLater}
use Rattle.smk_laws_driven.proofs.Fed.{next_fed}
use Rattle.smk_laws_driven.proofs.Good as good
use Rattle.smk_laws_driven.proofs.Good.{stand_right}
use Rattle.smk_laws_driven.proofs.Lasting.{WasClear, clear_force}
use Rattle.smk_laws_driven.proofs.Listed.{IsListedWell, all_meant}
use Rattle.smk_laws_driven.proofs.Once.{begun_kept, ended_kept}
use Rattle.smk_laws_driven.proofs.OwnCalls.{begin_own, close_own, looks_own, own_leaves, own_more, tend_own}
use Rattle.smk_laws_driven.proofs.Reaching as reaching
use Rattle.smk_laws_driven.proofs.Restored.{eased_so}
use Rattle.smk_laws_driven.proofs.SoundNow.{sound_fewer, sound_now}
use Rattle.smk_laws_driven.proofs.Spending.{reads_stay, spent_later}
use Rattle.smk_laws_driven.proofs.Waiting.{ends_well, owned_is}

-- ## Small facts

-- what a valid record's job reads are paths
input_paths : (r : Record) → is_valid r ≡ true → (q : Path) → IsIn (in_paths r.recipe) q → is_path q ≡ true
input_paths r h q i =
    let one = and_right (length r.stamps == length (in_paths r.recipe)) _ h in
    let two = and_right (among (out_paths r.recipe) r.path) _ one in
    let three = and_right (nat_le 1 r.made) _ two in
    let four = and_right (list_all (is_earlier r.made) r.stamps) _ three in
    let five = and_right (are_rising (map (λ (w : Pair). w.name) r.recipe.wildcards)) _ four in
    and_left (is_path q) _ (all_in is_path_text (in_paths r.recipe) q (and_left (list_all is_path_text (in_paths r.recipe)) _ five) i)

pub read_paths :
    (made : ℕ) (recipe : Recipe) (stamps : List Stamp) → out_paths recipe ≢ [] → AreWritable made recipe stamps → (q : Path) → IsIn (in_paths recipe) q → is_path q ≡ true
read_paths made recipe stamps some written q i = go (out_paths recipe) some written.valid
  where
    go : (outs : List Path) → outs ≢ [] → Each (λ p. is_valid (record_of p made recipe stamps []) ≡ true) outs → is_path q ≡ true
    go [] none h = absurd (none refl)
    go (p ∷ ps) none h = input_paths (record_of p made recipe stamps []) h.0 q i

same_ending : (image : Image) (j k : Job) (n : ℕ) → j.recipe ≡ k.recipe → ending image j n ≡ ending image k n
same_ending image j k zero e =
    ap (λ (r : Recipe). or_good (first (filter_map (λ (out : Out). fault_of out.path out.kind (tree_now image out.path)) (outs_of r)))) e
same_ending image j k (suc n) e = refl

none_faulted : (flow : Flow) (j : Job) (e : Ending) → e ≡ Good → failures flow (Closed j e ∷ []) ≡ []
none_faulted flow j e is = ap (λ x. failures flow (Closed j x ∷ [])) is

same_number : (a b : ℕ) → a ≡ b → nat_eq a b ≡ true
same_number a b e = grind arith

running_same : (m n : ℕ) → Running m ≡ Running n → m ≡ n
running_same m n h = cc

guards_inside : (j : Job) (how : End) (p : Path) → IsIn (guards_of j how) p → IsIn j.guards p
guards_inside j run_ending.Good p i = i
guards_inside j (run_ending.Status n) p i = absurd i
guards_inside j (run_ending.NoOutput q) p i = absurd i
guards_inside j (run_ending.WrongKind q) p i = absurd i
guards_inside j (run_ending.BadMember q) p i = absurd i

-- ## One step

module _ (act : Act) (rules : Rules) (entry : World) (H : Versions) (reads : ReadsRecords rules.read) (differ : SumsDiffer H)
    (sound : SoundWorld (record { read = rules.read; act = act }) entry H) (alone : GathersAlone rules.flow)
    (values : AllHaveValues (setting_of rules.flow act (λ j. is_none (rules.missing j)) (seen rules entry)) rules.settings.targets) (rose : Type 0)
    (never : ¬ rose) where
  abbrev top : ℕ
  top = reaching.top act rules entry H reads differ sound

  is_top : IsTop (record { read = rules.read; act = act }) entry top
  is_top = reaching.is_top act rules entry H reads differ sound

  abbrev pub o : Outside
  o = record { read = rules.read; act = act }

  abbrev pub S : Setting
  S = setting_of rules.flow act (λ j. is_none (rules.missing j)) (seen rules entry)

  abbrev WellListed : Stand → World → Type 0
  WellListed s w = IsListedWell act rules entry H reads differ sound s w

  -- What holds at a stand: its children read what stands at its clean values; its plan is in force; and the listings of the plans before are meant.
  pub record IsFed (s : Stand) (w : World) : Type 0 where
    pub fed : (g : Underway) → IsIn s.runs g → Each (λ q. tree_now (seen rules w) q ≡ clean_value S q) (in_paths g.recipe)
    pub well : WellListed s w
    pub clear : WasClear act rules entry s w

  module _ (before : List Event) (s : Stand) (at : IsReached o rules entry top before s) (fed : IsFed s (run entry before)) where
    abbrev w : World
    w = run entry before

    here : Midway o entry H at.state w
    here = holds_midway o entry H top before at.state differ sound is_top at.come.follows at.come.runs

    there : views.Midway o entry H at.state w
    there = reached o entry H differ sound top before at.state is_top at.come.follows at.come.runs

    formed : IsFormed w
    formed = formed_run entry before sound.formed

    still : AreStillPlanned s
    still = derived_are_planned rules entry s sound.formed at.derived

    same : SameSources (seen rules entry) (seen rules w)
    same = midway_keeps_sources o rules entry H at.state w refl here

    -- all listings so far are right
    right : AreRight S (lists s) rules.settings.targets
    right =
        stand_right act rules entry sound.formed s w formed same fed.clear
        (all_meant act rules entry H reads differ sound before s at fed.well (clear_force act rules entry s w fed.clear))

    opens : (g : Underway) → IsIn s.runs g → IsOpen s at.state.jobs g
    opens g i = each_in (IsOpen s at.state.jobs) s.runs g at.is_state.running i

    abbrev job_of : (g : Underway) → IsIn s.runs g → OpenJob
    job_of g i = opened g (opens g i).kept (Running g.number)

    -- what a child that runs reads are paths
    reads_paths : (g : Underway) → IsIn s.runs g → (q : Path) → IsIn (in_paths g.recipe) q → is_path q ≡ true
    reads_paths g i q iq = read_paths g.made g.recipe g.stamps (opens g i).makes (opens g i).writable q iq

    -- what it reads stays, where the calls of a job come that overlaps none of it
    stays_fed :
        (j : Job) (es : List Event) (g : Underway) → IsIn s.runs g → AreOwnCalls j w es → any_overlap (owned_paths j.recipe j.logs) (in_paths g.recipe) ≡ false →
        Each (λ q. tree_now (seen rules (run w es)) q ≡ clean_value S q) (in_paths g.recipe)
    stays_fed j es g i own apart =
        each_of (λ q. tree_now (seen rules (run w es)) q ≡ clean_value S q) (in_paths g.recipe) (λ q iq.
        tree_same rules.read w (run w es) formed (formed_run w es formed) q (own_leaves j w es (in_paths g.recipe) q own apart iq (reads_paths g i q iq))
        ∙ each_in (λ q. tree_now (seen rules w) q ≡ clean_value S q) (in_paths g.recipe) q (fed.fed g i) iq)

    -- ## A job begins

    module _ (es : List Event) (deeds : List Deed) (t : Stand) (h : HasBegun rules entry s w before es deeds t) where
      abbrev j : Job
      j = h.job.0

      next : IsStarting rules s w h.job
      next = starting rules s w before h.job h.to_begin.next

      abbrev plan : Plan
      plan = next.plan

      planned : Planned rules.flow (seen rules w) rules.settings (progress_of w s.begun) plan
      planned =
          record {
            complete = seen_is_complete rules.read w formed;
            valid = records_valid rules.read w.names (λ q. reading (w.nodes q));
            derived = next.is_plan;
          }

      begins_fed : Each (λ q. tree_now (seen rules w) q ≡ clean_value S q) (in_paths j.recipe)
      begins_fed =
          next_fed act rules entry w H before s plan differ formed next.in_force h.to_begin.next.clear planned
          (sound_fewer (seen rules w) (eased_by (seen rules w) (is_restored (seen rules w) rules.settings (progress_of w s.begun) plan)) (eased at.state)
          (eased_so act rules entry w H s at.state plan here at.is_state still fed.well.children fed.well.once next.in_force planned) act H
          (sound_now o entry H top before at.state differ sound is_top at.come.follows at.come.runs))
          sound.formed same fed.well.meant h.job next refl

      may : MayOpen o at.state w h.job (found_by (seen rules w) h.job) h.going.made h.going.stamps (top_with rules entry s (begun_of rules entry (moment_of s w before) h.job))
      may = startable_may_begin o rules entry w H before s at.state h.job h.going.made h.going.stamps refl here at.is_state still h.to_begin

      its_calls : AreOwnCalls j w es
      its_calls =
          subst (AreOwnCalls j w) (sym h.events)
          (own_more j w h.reads h.beginning (looks_own j false w h.reads h.only_read) (begin_own j _ (run w h.reads) h.beginning h.calls))

      kept : IsKept (begun_stand rules entry s w before h.job h.going) t
      kept = begun_kept rules entry s t w before es deeds fed.well.once h

      fed_still : (g : Underway) → IsIn s.runs g → Each (λ q. tree_now (seen rules (run w es)) q ≡ clean_value S q) (in_paths g.recipe)
      fed_still g i = stays_fed j es g i its_calls (each_in (IsApart (beginning j h.going.made h.going.stamps (found_by (seen rules w) h.job))) at.state.jobs (job_of g i) may.begins.from_open (opens g i).is_open).not_read

      fed_new : Each (λ q. tree_now (seen rules (run w es)) q ≡ clean_value S q) (in_paths j.recipe)
      fed_new =
          each_of (λ q. tree_now (seen rules (run w es)) q ≡ clean_value S q) (in_paths j.recipe) (λ q iq.
          tree_same rules.read w (run w es) formed (formed_run w es formed) q
          (own_leaves j w es (in_paths j.recipe) q its_calls may.begins.from_inputs iq
          (read_paths h.going.made j.recipe h.going.stamps may.makes h.to_begin.writable q iq))
          ∙ each_in (λ q. tree_now (seen rules w) q ≡ clean_value S q) (in_paths j.recipe) q begins_fed iq)

      pub begun_fed : WellListed t (run w es) → WasClear act rules entry t (run w es) → IsFed t (run w es)
      begun_fed well clear = record { fed = λ g i. go g (in_either g s.runs (h.going ∷ []) (subst (λ gs. IsIn gs g) kept.runs i)); well = well; clear = clear }
        where
          go : (g : Underway) → IsIn s.runs g ⊎ IsIn (h.going ∷ []) g → Each (λ q. tree_now (seen rules (run w es)) q ≡ clean_value S q) (in_paths g.recipe)
          go g (inl i) = fed_still g i
          go g (inr (inl e)) =
              subst (λ (r : Recipe). Each (λ q. tree_now (seen rules (run w es)) q ≡ clean_value S q) (in_paths r))
              (sym (ap (λ (x : Underway). x.recipe) (e ∙ h.is))) fed_new
          go g (inr (inr none)) = absurd none

      pub begun_faults : failures rules.flow deeds ≡ []
      begun_faults = ap (failures rules.flow) h.deeds_are

    -- ## A job is closed

    module _ (es : List Event) (deeds : List Deed) (t : Stand) (h : HasClosed rules entry s w before es deeds t) (follows : Follows o.act w es)
        (given : AreGiven o.act rose w es) where
      abbrev g : Underway
      g = h.going

      abbrev wait : Event
      wait = wait_event h.ended h.left

      abbrev its : IsOpen s at.state.jobs g
      its = opens g h.waited.ran

      abbrev mine : OpenJob
      mine = job_of g h.waited.ran

      mine_fits : Fits o entry (eased at.state) at.state.top w mine
      mine_fits = each_in (Fits o entry (eased at.state) at.state.top w) at.state.jobs mine here.fits its.is_open

      lets : Lets o.act w (Waited (Ok h.ended)) h.left
      lets = (subst (Follows o.act w) h.events follows).0.lets

      given_wait : IsGiven o.act rose w (Waited (Ok h.ended))
      given_wait = (subst (AreGiven o.act rose w) h.events given).0

      -- ## It ends well

      derived_here : IsDerivedStill rules entry s g
      derived_here = each_in (IsDerivedStill rules entry s) s.runs g at.derived.running h.waited.ran

      by : (c : Candidate) × IsIn (chosen S.flow S.sources (lists s) rules.settings.targets) c × (derived_here.begun.job ≡ job S.flow (lists s) c)
      by = good.by act rules entry sound.formed s right alone values g derived_here

      good_job : IsGoodJob S (lists s) by.0
      unfolding by
      good_job = good.good act rules entry sound.formed s right alone values g derived_here

      ends_so : ending (seen rules (after w wait)) (job S.flow (lists s) by.0) h.ended.status ≡ Good
      ends_so =
          ends_well o entry w H at.state here there mine g.number its.is_open refl S refl (lists s) by.0 good_job
          (ap (λ (x : Job). x.recipe) (sym by.2) ∙ derived_here.recipe) (fed.fed g h.waited.ran) rose h.ended h.left never h.waited.number lets given_wait

      pub closed_faults : failures rules.flow deeds ≡ []
      closed_faults =
          ap (failures rules.flow) h.deeds_are
          ∙ none_faulted rules.flow h.begun.job (ending (seen rules (after w wait)) h.begun.job h.ended.status)
          (same_ending (seen rules (after w wait)) h.begun.job (job S.flow (lists s) by.0) h.ended.status
          (h.is_job.1 ∙ (sym derived_here.recipe ∙ ap (λ (x : Job). x.recipe) by.2))
          ∙ ends_so)

      -- ## What its calls leave

      abbrev k : Job
      k = its.begun.job

      owned_same : owned_paths mine.recipe mine.logs ≡ owned_paths k.recipe k.logs
      owned_same = λ i. owned_paths (sym its.recipe i) (sym its.logs i)

      out_are_paths : Each (λ p. is_path p ≡ true) (out_paths k.recipe)
      out_are_paths =
          subst (λ (r : Recipe). Each (λ p. is_path p ≡ true) (out_paths r)) (sym its.recipe)
          (each_of (λ p. is_path p ≡ true) (out_paths g.recipe) (λ p i.
          and_left (is_path p) _
          (each_in (λ p. IsTrue (is_path_text p)) (own mine) p mine_fits.paths (in_left p (out_paths g.recipe) g.logs i))))

      guards_are : (p : Path) → IsIn (guards_of h.begun.job h.how) p → IsIn (out_paths k.recipe) p
      guards_are p i =
          subst (λ (r : Recipe). IsIn (out_paths r) p) (h.is_job.1 ∙ sym its.recipe)
          (each_in (IsIn (out_paths h.begun.job.recipe)) h.begun.job.guards p
          (each_in (λ (b : Begun). Each (IsIn (out_paths b.job.recipe)) b.job.guards) s.begun h.begun at.guards h.is_job.0) (guards_inside h.begun.job h.how p i))

      wait_own : owned_by h.ended.number w.children ≡ owned_paths k.recipe k.logs
      wait_own =
          ap (λ n. owned_by n w.children) h.waited.number
          ∙ (owned_is o entry w H at.state here there mine g.number its.is_open refl lets.0
          (ap (λ n. child_numbered n w.children) (sym h.waited.number) ∙ lets.1)
          ∙ owned_same)

      its_closing : AreOwnCalls k w es
      its_closing =
          subst (AreOwnCalls k w) (sym h.events)
          (own_more k w (wait ∷ h.closing) h.tending
          (wait_own, close_own k g out_are_paths its.recipe its.logs h.how h.ended.status (after w wait) (after w wait) h.closing h.closed)
          (tend_own k (guards_of h.begun.job h.how) h.answer (run w (wait ∷ h.closing)) h.tending guards_are h.tended))

      kept_end : IsKept (ended_stand rules entry s w g h.ended h.left) t
      kept_end = ended_kept rules entry s t w before es deeds fed.well.once h

      -- another child reads nothing of what it owns
      apart_from : (x : Underway) → (i : IsIn s.runs x) → nat_eq x.number g.number ≡ false → any_overlap (owned_paths k.recipe k.logs) (in_paths x.recipe) ≡ false
      apart_from x i other =
          let parts = parted at.state.jobs mine its.is_open in
          let all = subst AllStrangers parts.2 here.apart in
          subst (λ ps. any_overlap ps (in_paths x.recipe) ≡ false) owned_same
          (go parts.0 parts.1 all (in_split parts.0 parts.1 mine (job_of x i) (subst (λ js. IsIn js (job_of x i)) parts.2 (opens x i).is_open)))
        where
          go :
              (js ks : List OpenJob) → AllStrangers (js ++ mine ∷ ks) → (job_of x i ≡ mine) ⊎ IsIn (js ++ ks) (job_of x i) →
              any_overlap (own mine) (in_paths x.recipe) ≡ false
          go js ks all (inl e) =
              absurd (true≢false (sym (same_number x.number g.number (running_same x.number g.number (ap (λ (y : OpenJob). y.phase) e))) ∙ other))
          go js ks all (inr r) = (aside js ks mine (job_of x i) all r).not_read

      fed_others : (x : Underway) → IsIn t.runs x → Each (λ q. tree_now (seen rules (run w es)) q ≡ clean_value S q) (in_paths x.recipe)
      fed_others x i =
          let f = in_filter (λ (r : Underway). not (nat_eq r.number g.number)) s.runs x (subst (λ gs. IsIn gs x) kept_end.runs i) in
          stays_fed k es x f.0 its_closing (apart_from x f.0 (not_true (nat_eq x.number g.number) f.1))

      pub closed_fed : WellListed t (run w es) → WasClear act rules entry t (run w es) → IsFed t (run w es)
      closed_fed well clear = record { fed = fed_others; well = well; clear = clear }

    -- ## Spent outputs are removed

    module _ (es : List Event) (deeds : List Deed) (t : Stand) (h : HasSpent rules entry s w before es deeds t) (follows : Follows o.act w es) where
      later : IsLater s t
      later = spent_later act rules entry H top differ sound is_top before s at es deeds t h follows

      fed_yet : (g : Underway) → IsIn s.runs g → Each (λ q. tree_now (seen rules (run w es)) q ≡ clean_value S q) (in_paths g.recipe)
      fed_yet g i =
          each_of (λ q. tree_now (seen rules (run w es)) q ≡ clean_value S q) (in_paths g.recipe) (λ q iq.
          tree_same rules.read w (run w es) formed (formed_run w es formed) q
          (reads_stay act rules entry H top differ sound is_top before s at es deeds t h follows g i q iq)
          ∙ each_in (λ q. tree_now (seen rules w) q ≡ clean_value S q) (in_paths g.recipe) q (fed.fed g i) iq)

      pub spent_fed : WellListed t (run w es) → WasClear act rules entry t (run w es) → IsFed t (run w es)
      spent_fed well clear =
          record {
            fed = λ g i. fed_yet g (subst (λ gs. IsIn gs g) later.runs i);
            well = well;
            clear = clear;
          }

      pub spent_faults : failures rules.flow deeds ≡ []
      spent_faults = ap (failures rules.flow) h.deeds_are
