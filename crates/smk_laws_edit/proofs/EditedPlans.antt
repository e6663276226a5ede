-- The plan of an image in which one source has changed, beside a plan of the image before by which all jobs were Clean.
use Rattle.std.specs.List.{list_any}
use Rattle.std.specs.Option.{option_and_then}
use Rattle.std.specs.Prelude.{if◌then◌else◌}
use Rattle.std.proofs.Common.{◌≡◌, ◌⊎◌, Bool, true, false, ◌&&◌, ◌||◌, not, List, [], ◌∷◌, ◌++◌, map, refl, sym, ap, subst, ◌∙◌, inl, inr, bytes_eq, Option, Some, None, true≢false}
use Rattle.smk_base.proofs.Places.{same_place}
use Rattle.smk_world.specs.Trees.{Path, among, first, kind_in}
use Rattle.smk_world.specs.World.{in_paths, out_paths}
use Rattle.smk_pattern.specs.Reading.{or_empty}
use Rattle.smk_flow.specs.Flows.{Flow}
use Rattle.smk_flow.specs.declared.job.Job.{Job}
use Rattle.smk_record.specs.declared.record.Stamp.{Stamp}
use Rattle.smk_store.specs.Images.{Image, is_whole}
use Rattle.smk_store.specs.Trust.{holder, is_marked_but, stamp_now_but, source_stamp, unmarked_stamp_but}
use Rattle.smk_chain.specs.Derive.{Listings, distinct}
use Rattle.smk_pick.specs.declared.settings.Force.TheVariants.{No}
use Rattle.smk_pick.specs.declared.settings.Force.{Force}
use Rattle.smk_pick.specs.declared.settings.Settings.{Settings}
use Rattle.smk_trigger.specs.JobStates.{is_dirty, is_restore, is_to_run}
use Rattle.smk_trigger.specs.Reasons.{own_reasons, when}
use Rattle.smk_trigger.specs.declared.reason.Reason.TheVariants.{Forced, Upstream}
use Rattle.smk_trigger.specs.declared.reason.Reason.{Reason}
use Rattle.smk_trigger.specs.declared.reason.State.TheVariants.{Open}
use Rattle.smk_trigger.specs.declared.reason.State.{State}
use Rattle.smk_plan.specs.States.{IsPlan, Last, LastPlan, Plan, Then, awaited, by_force, by_reasons, gathers_from, is_input, is_open_now, is_read_now, is_restored, is_temporary, is_to_restore, is_wanted_back, job_path, made_by, maker_of, makes, makes_awaited, new_listings, nothing_done, reasons, staged, state_of, test_some}
use Rattle.smk_laws_plan.proofs.CurrentLists.{In, and_left, and_right, any_from, any_in, any_none, clash_of, distinct_in, in_left, append_nil_left, or_cases, or_first, or_left, or_right}
use Rattle.smk_laws_plan.proofs.CurrentPaths.{among_in, in_among}
use Rattle.smk_laws_plan.proofs.CurrentRecipes.{map_same}
use Rattle.smk_laws_plan.proofs.PlanOne.{derived_order}
use Rattle.smk_laws_plan.proofs.PlanOrder.{InOrder, Served}
use Rattle.smk_cli_target.specs.Thrift.{LeadsTo, Through, Wants, is_job_of}
use Rattle.smk_cli_target.proofs.NextRun.{never_any}
use Rattle.smk_cli_target.proofs.PlanStays.{none_kept}
use Rattle.smk_laws_edit.specs.Edited.{IsRead, IsReadBack, IsToRunFor, IsDownstream, PlansDownstream}
use Rattle.smk_laws_edit.proofs.AnyPlan.{found_maker, of_state, one_maker, to_staged}
use Rattle.smk_laws_edit.proofs.EditedChain.{IsEdited, IsPart, WasDone, awaited_before, calm, grown, part_on, was_there}
use Rattle.smk_laws_edit.proofs.Grown.{GoesOn}

table_dirty : (o : Bool) (rs : List Reason) (b : Bool) → is_dirty (if o then Open else by_reasons rs b) ≡ true → (o ≡ false) × (rs ≡ [] → ⊥)
table_dirty true rs b h = absurd (true≢false (sym h))
table_dirty false (r ∷ rs) b h = (refl, λ e. some_reason e)
  where
    some_reason : r ∷ rs ≡ [] → ⊥
    some_reason e = cc
table_dirty false [] true h = absurd (true≢false (sym h))
table_dirty false [] false h = absurd (true≢false (sym h))

table_restore : (o : Bool) (rs : List Reason) (b : Bool) → is_restore (if o then Open else by_reasons rs b) ≡ true → (o ≡ false) × (b ≡ true)
table_restore true rs b h = absurd (true≢false (sym h))
table_restore false (r ∷ rs) b h = absurd (true≢false (sym h))
table_restore false [] true h = (refl, refl)
table_restore false [] false h = absurd (true≢false (sym h))

never_forced : (a b : Bool) (f : Force) → f ≡ No → (a && by_force f b) ≡ false
never_forced true b f h = ap (λ x. by_force x b) h
never_forced false b f h = refl

-- ## Beside a plan by which all jobs are Clean

module _ (flow : Flow) (settings : Settings) (i : Image) (before : Plan) (p : Path) (done : WasDone flow settings i before p) (x : Image) where
  abbrev y : Image
  y = record x { kept = i.kept; marked = i.marked; noted = i.noted }

  module _ (edited : IsEdited flow settings i before p y) where
    abbrev was : Job → State
    was j = state_of i settings nothing_done before j

    calm_then : (j : Job) → In j before.jobs → (is_open_now i settings nothing_done before j ≡ false) × (reasons i settings nothing_done before j ≡ []) × (is_to_restore i settings nothing_done before j ≡ false)
    calm_then = calm flow settings i before p done x edited

    module _ (now : Plan) (is : IsPlan flow y settings nothing_done now) (part : IsPart flow settings i before p done x edited now.lists) where
      abbrev stage : Job → State
      stage j = state_of y settings nothing_done now j

      goes_there : (j : Job) → In j now.jobs → GoesOn before.jobs j
      goes_there = grown flow settings i before p done x edited now is part

      was_then : (j : Job) → In j now.jobs → is_open_now y settings nothing_done now j ≡ false → In j before.jobs
      was_then = was_there flow settings i before p done x edited now is part

      awaited_then : (j : Job) (d : Path) → In j now.jobs → In j before.jobs → makes j d ≡ true → In d (awaited y settings nothing_done now) → In d (awaited i settings nothing_done before)
      awaited_then = awaited_before flow settings i before p done x edited now is part

      -- ## Nothing to do but for p

      abbrev left_now : Path → Bool
      left_now = is_restored y settings nothing_done now

      abbrev left_then : Path → Bool
      left_then = is_restored i settings nothing_done before

      left_same : left_now ≡ left_then
      left_same = λ n. λ q. (never_any now.jobs ∙ sym (never_any before.jobs)) n

      stamp_same : (left : Path → Bool) (q : Path) → bytes_eq q p ≡ false → stamp_now_but y left q ≡ stamp_now_but i left q
      stamp_same left q other =
          λ n. if edited.known q n then source_stamp (if edited.known q n then edited.others q other n else None) else option_and_then (unmarked_stamp_but i left) (holder i q)

      abbrev stamped : Image → (Path → Bool) → Path → Path × Option Stamp
      stamped image left q = (q, stamp_now_but image left q)

      abbrev own : (Path → Bool) → Job → List Reason
      own left j =
          own_reasons j.recipe (map i.kept (out_paths j.recipe)) (map (is_marked_but i left) (out_paths j.recipe)) (map (stamped i left) (in_paths j.recipe))

      -- what concerns a job alone is as it was, where it doesn't want p
      own_calm : (j : Job) → In j before.jobs → among (in_paths j.recipe ++ gathers_from j) p ≡ false →
          own_reasons j.recipe (map y.kept (out_paths j.recipe)) (map (is_marked_but y left_now) (out_paths j.recipe)) (map (stamped y left_now) (in_paths j.recipe)) ≡ []
      own_calm j h apart =
          (λ n. own_reasons j.recipe (map i.kept (out_paths j.recipe)) (map (is_marked_but i (left_same n)) (out_paths j.recipe)) (stamps n))
          ∙ append_nil_left (own left_then j) _ (calm_then j h).1
        where
          other : (q : Path) → In q (in_paths j.recipe) → bytes_eq q p ≡ false
          other q iq = go (bytes_eq q p) refl
            where
              go : (b : Bool) → bytes_eq q p ≡ b → b ≡ false
              go false e = refl
              go true e =
                  absurd (clash_of (among (in_paths j.recipe ++ gathers_from j) p)
                  (in_among (in_paths j.recipe ++ gathers_from j) p (in_left p (in_paths j.recipe) (gathers_from j) (subst (λ z. In z (in_paths j.recipe)) (same_place q p e) iq))) apart)

          stamps : map (stamped y left_now) (in_paths j.recipe) ≡ map (stamped i left_then) (in_paths j.recipe)
          stamps =
              map_same (stamped y left_now) (stamped i left_then) (in_paths j.recipe)
              (λ q iq. let t = ap (λ left. stamp_now_but y left q) left_same ∙ stamp_same left_then q (other q iq) in λ n. (q, t n))

      abbrev wants_of : Job → List Path
      wants_of j = in_paths j.recipe ++ gathers_from j

      -- a job is Dirty for p, or for one that is
      one_dirty :
          (seen : List Job) (k : Job) → Served now.jobs seen k → In k now.jobs → ((j : Job) → In j seen → In j now.jobs) →
          ((j : Job) → In j seen → is_dirty (stage j) ≡ true → LeadsTo now.jobs p j) → is_dirty (stage k) ≡ true → LeadsTo now.jobs p k
      one_dirty seen k served ik within ih dirty = go (among (wants_of k) p) refl
        where
          parts : (is_open_now y settings nothing_done now k ≡ false) × (reasons y settings nothing_done now k ≡ [] → ⊥)
          parts =
              table_dirty (is_open_now y settings nothing_done now k) (reasons y settings nothing_done now k)
              (is_to_restore y settings nothing_done now k && not (is_read_now y settings nothing_done now k)) dirty

          calm_now : among (wants_of k) p ≡ false → list_any (made_by now is_dirty) (distinct bytes_eq (in_paths k.recipe)) ≡ false → reasons y settings nothing_done now k ≡ []
          calm_now apart none =
              λ n.
              own_calm k (was_then k ik parts.0) apart n
              ++ (map Upstream (none_kept (made_by now is_dirty) (distinct bytes_eq (in_paths k.recipe)) (λ q iq. any_none (made_by now is_dirty) (distinct bytes_eq (in_paths k.recipe)) q none iq) n)
              ++ when (never_forced (not (among [] (job_path k))) (list_any (makes k) settings.targets) settings.force done.unforced n) Forced)

          through : (q : Path) → In q (in_paths k.recipe) → (m : Option (Job × State)) → maker_of now q ≡ m → test_some (λ (e : Job × State). is_dirty e.1) m ≡ true → LeadsTo now.jobs p k
          through q iq None e h = absurd (true≢false (sym h))
          through q iq (Some (j, s)) e h =
              let f = found_maker flow y settings now edited.complete is q (j, s) e in
              by f (served q (inl iq))
            where
              by : In j now.jobs × (s ≡ stage j) × (makes j q ≡ true) → ((l : Job) → In l now.jobs → makes l q ≡ false) ⊎ ((l : Job) × In l seen × (makes l q ≡ true)) → LeadsTo now.jobs p k
              by f (inl none) = absurd (clash_of (makes j q) f.2 (none j f.0))
              by f (inr (l, il, m)) =
                  let same = one_maker flow y settings now edited.complete is l j q (within l il) f.0 m f.2 in
                  Through k j q f.0 (in_among (wants_of k) q (in_left q (in_paths k.recipe) (gathers_from k) iq)) f.2
                  (subst (LeadsTo now.jobs p) same (ih l il (subst (λ z. is_dirty (stage z) ≡ true) (sym same) (subst (λ z. is_dirty z ≡ true) f.1 h))))

          upstream : among (wants_of k) p ≡ false → (b : Bool) → list_any (made_by now is_dirty) (distinct bytes_eq (in_paths k.recipe)) ≡ b → LeadsTo now.jobs p k
          upstream apart false none = absurd (parts.1 (calm_now apart none))
          upstream apart true some =
              let q = any_in (made_by now is_dirty) (distinct bytes_eq (in_paths k.recipe)) some in
              through q.0 (distinct_in bytes_eq (in_paths k.recipe) q.0 q.1) (maker_of now q.0) refl q.2

          go : (b : Bool) → among (wants_of k) p ≡ b → LeadsTo now.jobs p k
          go true e = Wants k e
          go false e = upstream e (list_any (made_by now is_dirty) (distinct bytes_eq (in_paths k.recipe))) refl

      all_dirty :
          (seen ks : List Job) → InOrder now.jobs seen ks → ((j : Job) → In j seen → In j now.jobs) → ((j : Job) → In j ks → In j now.jobs) →
          ((j : Job) → In j seen → is_dirty (stage j) ≡ true → LeadsTo now.jobs p j) → (j : Job) → In j ks → is_dirty (stage j) ≡ true → LeadsTo now.jobs p j
      all_dirty seen [] order within all ih j h = absurd h
      all_dirty seen (k ∷ ks) order within all ih j (inl e) =
          subst (λ z. is_dirty (stage z) ≡ true → LeadsTo now.jobs p z) (sym e) (one_dirty seen k order.0 (all k (inl refl)) within ih)
      all_dirty seen (k ∷ ks) order within all ih j (inr h) = all_dirty (k ∷ seen) ks order.1 wider (λ l il. all l (inr il)) more j h
        where
          wider : (l : Job) → In l (k ∷ seen) → In l now.jobs
          wider l (inl e) = subst (λ z. In z now.jobs) (sym e) (all k (inl refl))
          wider l (inr il) = within l il

          more : (l : Job) → In l (k ∷ seen) → is_dirty (stage l) ≡ true → LeadsTo now.jobs p l
          more l (inl e) = subst (λ z. is_dirty (stage z) ≡ true → LeadsTo now.jobs p z) (sym e) (one_dirty seen k order.0 (all k (inl refl)) within ih)
          more l (inr il) = ih l il

      dirty_leads : (j : Job) → In j now.jobs → is_dirty (stage j) ≡ true → LeadsTo now.jobs p j
      dirty_leads =
          all_dirty [] now.jobs (derived_order flow y now.lists settings.targets now.jobs edited.complete is.derived) (λ l il. absurd il) (λ l il. il) (λ l il. absurd il)

      -- a job is restored for one that is to run
      restore_read : (j : Job) → In j now.jobs → is_restore (stage j) ≡ true → IsRead now j
      restore_read j h restore = go (or_cases (among settings.targets o) _ wanted)
        where
          parts : (is_open_now y settings nothing_done now j ≡ false) × ((is_to_restore y settings nothing_done now j && not (is_read_now y settings nothing_done now j)) ≡ true)
          parts =
              table_restore (is_open_now y settings nothing_done now j) (reasons y settings nothing_done now j)
              (is_to_restore y settings nothing_done now j && not (is_read_now y settings nothing_done now j)) restore

          was_here : In j before.jobs
          was_here = was_then j h parts.0

          lost_one : (q : Path) × In q (out_paths j.recipe) × ((not (is_whole y q (kind_in j.recipe q)) && is_wanted_back y settings nothing_done now j q) ≡ true)
          lost_one =
              any_in (λ q. not (is_whole y q (kind_in j.recipe q)) && is_wanted_back y settings nothing_done now j q) (out_paths j.recipe)
              (and_left (is_to_restore y settings nothing_done now j) _ parts.1)

          o : Path
          o = lost_one.0

          made : makes j o ≡ true
          made = or_first _ _ (in_among (out_paths j.recipe) o lost_one.1)

          gone : not (is_whole i o (kind_in j.recipe o)) ≡ true
          gone = ap not (sym (edited.whole j o (kind_in j.recipe o) was_here lost_one.1)) ∙ and_left (not (is_whole y o (kind_in j.recipe o))) (is_wanted_back y settings nothing_done now j o) lost_one.2

          wanted : is_wanted_back y settings nothing_done now j o ≡ true
          wanted = and_right (not (is_whole y o (kind_in j.recipe o))) (is_wanted_back y settings nothing_done now j o) lost_one.2

          -- it wasn't wanted back before
          unwanted : is_wanted_back i settings nothing_done before j o ≡ false
          unwanted =
              sym (ap (λ b. b && is_wanted_back i settings nothing_done before j o) gone)
              ∙ any_none (λ q. not (is_whole i q (kind_in j.recipe q)) && is_wanted_back i settings nothing_done before j q) (out_paths j.recipe) o (calm_then j was_here).2 lost_one.1

          no_target : among settings.targets o ≡ false
          no_target = or_left (among settings.targets o) _ unwanted

          unawaited : among (awaited i settings nothing_done before) o ≡ false
          unawaited = or_left (among (awaited i settings nothing_done before) o) _ (or_right (among settings.targets o) _ unwanted)

          unkept : (not (is_temporary i settings nothing_done before j o) && is_input before (λ e. true) o) ≡ false
          unkept =
              or_left _ (is_input before (λ e. is_to_run e.1) o)
              (or_right (among (awaited i settings nothing_done before) o) _ (or_right (among settings.targets o) _ unwanted))

          awaited_on : (q : Path) → In q (out_paths j.recipe) → among (awaited y settings nothing_done now) q ≡ true → among (awaited i settings nothing_done before) q ≡ true
          awaited_on q iq a =
              in_among (awaited i settings nothing_done before) q
              (awaited_then j q h was_here (or_first _ _ (in_among (out_paths j.recipe) q iq)) (among_in (awaited y settings nothing_done now) q a))

          makes_on : makes_awaited y settings nothing_done now j ≡ true → makes_awaited i settings nothing_done before j ≡ true
          makes_on a =
              let q = any_in (among (awaited y settings nothing_done now)) (out_paths j.recipe) a in
              any_from (among (awaited i settings nothing_done before)) (out_paths j.recipe) q.0 q.1 (awaited_on q.0 q.1 q.2)

          lasting : (t a b : Bool) → (a ≡ true → b ≡ true) → not (t && not a) ≡ true → not (t && not b) ≡ true
          lasting true true b on e = ap not (ap not (on refl))
          lasting true false b on e = absurd (true≢false (sym e))
          lasting false a b on e = refl

          input_on : is_input now (λ e. true) o ≡ true → is_input before (λ e. true) o ≡ true
          input_on a =
              let e = any_in (λ (e : Job × State). among (in_paths e.0.recipe) o && true) (staged now) a in
              let ie = (of_state flow y settings now edited.complete is e.0 e.1).0 in
              let g = goes_there e.0.0 ie in
              let iq = g.inputs o (among_in (in_paths e.0.0.recipe) o (and_left (among (in_paths e.0.0.recipe) o) true e.2)) in
              any_from (λ (e : Job × State). among (in_paths e.0.recipe) o && true) (staged before) (g.job, was g.job)
              (to_staged flow i settings before done.complete done.is_plan g.job g.is_there)
              (ap (λ b. b && true) (in_among (in_paths g.job.recipe) o iq))

          third : ((not (is_temporary y settings nothing_done now j o) && is_input now (λ e. true) o) ≡ true) ⊎ (is_input now (λ e. is_to_run e.1) o ≡ true) → IsRead now j
          third (inl k) =
              absurd (clash_of _ ((λ n.
              lasting (among j.temps o) (makes_awaited y settings nothing_done now j) (makes_awaited i settings nothing_done before j) makes_on (and_left (not (is_temporary y settings nothing_done now j o)) (is_input now (λ e. true) o) k) n
              && input_on (and_right (not (is_temporary y settings nothing_done now j o)) (is_input now (λ e. true) o) k) n)) unkept)
          third (inr r) =
              let e = any_in (λ (e : Job × State). among (in_paths e.0.recipe) o && is_to_run e.1) (staged now) r in
              (e.0, o, e.1, and_right (among (in_paths e.0.0.recipe) o) (is_to_run e.0.1) e.2, among_in (in_paths e.0.0.recipe) o (and_left (among (in_paths e.0.0.recipe) o) (is_to_run e.0.1) e.2), made)

          second : (among (awaited y settings nothing_done now) o ≡ true) ⊎ (((not (is_temporary y settings nothing_done now j o) && is_input now (λ e. true) o) || is_input now (λ e. is_to_run e.1) o) ≡ true) → IsRead now j
          second (inl a) = absurd (clash_of (among (awaited i settings nothing_done before) o) (awaited_on o lost_one.1 a) unawaited)
          second (inr k) = third (or_cases (not (is_temporary y settings nothing_done now j o) && is_input now (λ e. true) o) (is_input now (λ e. is_to_run e.1) o) k)

          go : (among settings.targets o ≡ true) ⊎ ((among (awaited y settings nothing_done now) o || ((not (is_temporary y settings nothing_done now j o) && is_input now (λ e. true) o) || is_input now (λ e. is_to_run e.1) o)) ≡ true) → IsRead now j
          go (inl t) = absurd (clash_of (among settings.targets o) t no_target)
          go (inr k) = second (or_cases (among (awaited y settings nothing_done now) o) _ k)

      -- no job is new
      old_job : (j : Job) → In j now.jobs → is_job_of before j ≡ true
      old_job j h =
          let g = goes_there j h in
          any_from (λ (k : Job). among (out_paths k.recipe) (job_path j)) before.jobs g.job g.is_there
          (in_among (out_paths g.job.recipe) (job_path j) (subst (In (job_path j)) (sym g.outs) (first_of (out_paths j.recipe) g.some_out.0 g.some_out.1)))
        where
          first_of : (ps : List Path) (o : Path) → In o ps → In (or_empty (first ps)) ps
          first_of [] o i = absurd i
          first_of (q ∷ ps) o i = inl refl

      pub plan_downstream : PlansDownstream p before now
      plan_downstream =
          record {
            none_new = old_job;
            for_it = λ e i r. by e (of_state flow y settings now edited.complete is e i) (or_cases (is_dirty e.1) (is_restore e.1) r);
          }
        where
          by : (e : Job × State) → In e.0 now.jobs × (e.1 ≡ stage e.0) → (is_dirty e.1 ≡ true) ⊎ (is_restore e.1 ≡ true) → IsToRunFor p now e
          by e s (inl d) = IsDownstream d (dirty_leads e.0 s.0 (subst (λ z. is_dirty z ≡ true) s.1 d))
          by e s (inr r) = IsReadBack r (restore_read e.0 s.0 (subst (λ z. is_restore z ≡ true) s.1 r))

    -- along the chain of plans
    pub chain_downstream : (L : Listings) (now : Plan) → LastPlan flow y settings nothing_done L now → IsPart flow settings i before p done x edited L → PlansDownstream p before now
    chain_downstream _ _ (Last now is end) part = plan_downstream now is part
    chain_downstream _ _ (Then plan now is more rest) part =
        chain_downstream (plan.lists ++ new_listings y settings nothing_done plan) now rest (part_on flow settings i before p done x edited plan is part)
