-- The last plan of the chain from no listing, beside a last plan by which all jobs are Clean: all its jobs are Clean too.
use Rattle.std.specs.List.{list_any}
use Rattle.std.specs.Prelude.{is_none, is_some, if◌then◌else◌}
use Rattle.std.proofs.Common.{◌≡◌, ◌⊎◌, Bool, true, false, not, ◌&&◌, ◌||◌, List, [], ◌∷◌, ◌++◌, map, filter, flat_map, refl, sym, ap, subst, inl, inr, ◌∙◌, bytes_eq, Option, Some, None, append_assoc, true≢false}
use Rattle.smk_base.specs.Path.{is_under}
use Rattle.smk_world.specs.World.{in_paths, out_paths}
use Rattle.smk_world.specs.Trees.{IsIn, Path, among, folder_over, folders_of, kind_in}
use Rattle.smk_flow.specs.Flows.{Candidate, Flow}
use Rattle.smk_flow.specs.declared.job.Job.{Job}
use Rattle.smk_choose.specs.Choose.{Make, Source, choose}
use Rattle.smk_record.specs.declared.record.Stamp.{Stamp}
use Rattle.smk_store.specs.Images.{Image, is_source, is_whole}
use Rattle.smk_store.specs.Trust.{is_marked_but, stamp_now_but}
use Rattle.smk_chain.specs.Derive.{distinct, job, listing, sources_of, walk}
use Rattle.smk_trigger.specs.JobStates.{is_clean, is_dirty, is_open, is_to_run}
use Rattle.smk_trigger.specs.Reasons.{own_reasons, when}
use Rattle.smk_trigger.specs.declared.reason.Reason.{Reason}
use Rattle.smk_trigger.specs.declared.reason.Reason.TheVariants.{Forced, Upstream}
use Rattle.smk_trigger.specs.declared.reason.State.{State}
use Rattle.smk_trigger.specs.declared.reason.State.TheVariants.{Clean, Open}
use Rattle.smk_pick.specs.declared.settings.Force.{Force}
use Rattle.smk_pick.specs.declared.settings.Force.TheVariants.{No}
use Rattle.smk_pick.specs.declared.settings.Settings.{Settings}
use Rattle.smk_plan.specs.States.{IsPlan, Plan, awaited, awaits, by_force, by_reasons, directory_over, gathers_from, is_at_hand, is_current, is_input, is_open_now, is_read_now, is_ready, is_restored, is_temporary, is_to_restore, is_wanted_back, job_path, made_by, maker_of, makes, makes_awaited, new_listings, nothing_done, reasons, staged, stands_whole, state_of, test_some}
use Rattle.smk_laws_plan.proofs.CurrentApart.{JobsApart}
use Rattle.smk_laws_plan.proofs.CurrentChosen.{folders_paths}
use Rattle.smk_laws_plan.proofs.CurrentLists.{In, and_both, and_left, and_right, any_from, any_in, any_none, append_nil_left, clash_of, cons_nil, distinct_in, filter_nil, find_in, flat_in, in_either, in_flat, in_left, in_right, map_nil, not_false, or_cases, or_first, or_left, or_second}
use Rattle.smk_laws_plan.proofs.CurrentMeaning.{contains_from, in_from, source_chosen}
use Rattle.smk_laws_plan.proofs.CurrentPaths.{among_in, in_among}
use Rattle.smk_laws_plan.proofs.CurrentReach.{choice_known}
use Rattle.smk_laws_plan.proofs.CurrentRecipes.{map_same}
use Rattle.smk_laws_plan.proofs.CurrentWalked.{walked_job}
use Rattle.smk_laws_plan.proofs.PlanOne.{chosen_makes, derived, derived_apart, derived_order, derived_reached, twice}
use Rattle.smk_laws_plan.proofs.PlanOrder.{InOrder, Reads, Served, own_walked}
use Rattle.smk_laws_history.proofs.MoreListings.{inputs_come_first}
use Rattle.smk_laws_edit.proofs.AnyPlan.{found_maker, maker_is, of_state, one_maker, over_from, over_parts, to_staged}
use Rattle.smk_laws_edit.proofs.EditedChain as beside
use Rattle.smk_laws_edit.proofs.Grown.{GoesOn}
use Rattle.smk_laws_edit.proofs.Chained.{same_image}
use Rattle.smk_laws_edit.proofs.Clear.{filter_empty}
use Rattle.smk_laws_edit.proofs.Fewer.{IsPartOf, in_once}

-- ## Tests

never_any : {A : Type 0} (xs : List A) → list_any (λ x. false) xs ≡ false
never_any [] = refl
never_any (x ∷ xs) = never_any xs

none_any : {A : Type 0} (test : A → Bool) (xs : List A) → ((x : A) → In x xs → test x ≡ false) → list_any test xs ≡ false
none_any test [] h = refl
none_any test (x ∷ xs) h = λ n. h x (inl refl) n || none_any test xs (λ y i. h y (inr i)) n

not_both : (b : Bool) → not (b && false) ≡ true
not_both true = refl
not_both false = refl

never_forced : (a b : Bool) (f : Force) → f ≡ No → (a && by_force f b) ≡ false
never_forced true b f h = ap (λ x. by_force x b) h
never_forced false b f h = refl

-- ## The table

open_table : (o : Bool) (rs : List Reason) (b : Bool) → o ≡ false → is_open (if o then Open else by_reasons rs b) ≡ false
open_table true rs b h = absurd (true≢false h)
open_table false (r ∷ rs) b h = refl
open_table false [] true h = refl
open_table false [] false h = refl

dirty_table : (o : Bool) (rs : List Reason) (b : Bool) → o ≡ false → rs ≡ [] → is_dirty (if o then Open else by_reasons rs b) ≡ false
dirty_table true rs b h k = absurd (true≢false h)
dirty_table false (r ∷ rs) b h k = absurd (cons_nil r rs k)
dirty_table false [] true h k = refl
dirty_table false [] false h k = refl

clean_table : (o : Bool) (rs : List Reason) (b c : Bool) → o ≡ false → rs ≡ [] → b ≡ false → (if o then Open else by_reasons rs (b && c)) ≡ Clean
clean_table o rs b c h k l = λ n. if h n then Open else by_reasons (k n) (l n && c)

split : (xs : List Job) (x : Job) → In x xs → (before : List Job) × (after : List Job) × (xs ≡ before ++ x ∷ after)
split [] x i = absurd i
split (y ∷ xs) x (inl e) = ([], xs, λ n. sym e n ∷ xs)
split (y ∷ xs) x (inr i) = let r = split xs x i in (y ∷ r.0, r.1, λ n. y ∷ r.2 n)

module _
    (flow : Flow) (settings : Settings) (image : Image) (before : Plan) (done : beside.WasDone flow settings image before []) (now : Plan)
    (is : IsPlan flow image settings nothing_done now) (part : IsPartOf now.lists before.lists) (none_new : new_listings image settings nothing_done now ≡ [])
  where
    abbrev stage : Job → State
    stage j = state_of image settings nothing_done now j

    abbrev was : Job → State
    was j = state_of image settings nothing_done before j

    abbrev awaited_now : List Path
    awaited_now = awaited image settings nothing_done now

    abbrev awaited_before : List Path
    awaited_before = awaited image settings nothing_done before

    abbrev hand_now : Path → Bool
    hand_now d = is_at_hand image settings nothing_done now d

    abbrev ready_now : Path → Bool
    ready_now d = is_ready image settings nothing_done now d

    abbrev open_now : Job → Bool
    open_now j = is_open_now image settings nothing_done now j

    abbrev why_now : Job → List Reason
    why_now j = reasons image settings nothing_done now j

    abbrev restored_now : Job → Bool
    restored_now j = is_to_restore image settings nothing_done now j

    abbrev held_now : Job → Bool
    held_now j = is_read_now image settings nothing_done now j

    abbrev feeds_now : Job → Bool
    feeds_now j = makes_awaited image settings nothing_done now j

    abbrev feeds_before : Job → Bool
    feeds_before j = makes_awaited image settings nothing_done before j

    abbrev temporary_now : Job → Path → Bool
    temporary_now j o = is_temporary image settings nothing_done now j o

    abbrev temporary_before : Job → Path → Bool
    temporary_before j o = is_temporary image settings nothing_done before j o

    abbrev wanted_now : Job → Path → Bool
    wanted_now j o = is_wanted_back image settings nothing_done now j o

    abbrev wanted_before : Job → Path → Bool
    wanted_before j o = is_wanted_back image settings nothing_done before j o

    -- what isn't whole of a job's outputs
    abbrev gone : Job → Path → Bool
    gone j o = not (is_whole image o (kind_in j.recipe o))

    calm_then :
        (j : Job) → In j before.jobs →
        (is_open_now image settings nothing_done before j ≡ false)
        × (reasons image settings nothing_done before j ≡ [])
        × (is_to_restore image settings nothing_done before j ≡ false)
    calm_then = beside.calm flow settings image before [] done image (same_image flow settings image before done)

    goes_there : (j : Job) → In j now.jobs → GoesOn before.jobs j
    goes_there = beside.grown flow settings image before [] done image (same_image flow settings image before done) now is part

    was_then : (j : Job) → In j now.jobs → open_now j ≡ false → In j before.jobs
    was_then = beside.was_there flow settings image before [] done image (same_image flow settings image before done) now is part

    awaited_then :
        (j : Job) (d : Path) → In j now.jobs → In j before.jobs → makes j d ≡ true → In d awaited_now →
        In d awaited_before
    awaited_then = beside.awaited_before flow settings image before [] done image (same_image flow settings image before done) now is part

    the_one : (j k : Job) (q : Path) → In j now.jobs → In k now.jobs → makes j q ≡ true → makes k q ≡ true → j ≡ k
    the_one = one_maker flow image settings now done.complete is

    -- a directory that is over a path as an output of a job is made by this job
    makes_over : (j : Job) (q d : Path) → folder_over j.recipe q ≡ Some d → makes j d ≡ true
    makes_over j q d over =
        or_first _ _ (in_among (out_paths j.recipe) d (folders_paths j.recipe d (find_in (is_under q) (folders_of j.recipe) d over).0))

    -- ## What is awaited was awaited

    over_before :
        (j : Job) (q d : Path) → In j now.jobs → In j before.jobs → makes j d ≡ true → In d (directory_over now q) → In d (directory_over before q)
    over_before j q d h was m over =
        let k = over_parts flow image settings now done.complete is q d over in
        let same = the_one k.0 j d k.1 h (makes_over k.0 q d k.3) m in
        over_from flow image settings before done.complete done.is_plan q d k.0 (subst (λ z. In z before.jobs) (sym same) was) k.2 k.3

    awaits_before :
        (j e : Job) (d : Path) → In j now.jobs → In j before.jobs → makes j d ≡ true → In e now.jobs → In d (awaits now e) →
        (k : Job) × In k before.jobs × In d (awaits before k)
    awaits_before j e d h was m ie w =
        (g.job, g.is_there, go (in_either d (gathers_from e) (flat_map (directory_over now) (in_paths e.recipe ++ gathers_from e)) w))
      where
        g : GoesOn before.jobs e
        g = goes_there e ie

        wants : (q : Path) → In q (in_paths e.recipe) ⊎ In q (gathers_from e) → In q (in_paths g.job.recipe ++ gathers_from g.job)
        wants q (inl a) = in_left q (in_paths g.job.recipe) (gathers_from g.job) (g.inputs q a)
        wants q (inr b) = in_right q (in_paths g.job.recipe) (gathers_from g.job) (subst (In q) (sym g.gathers) b)

        go : In d (gathers_from e) ⊎ In d (flat_map (directory_over now) (in_paths e.recipe ++ gathers_from e)) → In d (awaits before g.job)
        go (inl a) =
            in_left d (gathers_from g.job) (flat_map (directory_over before) (in_paths g.job.recipe ++ gathers_from g.job))
            (subst (In d) (sym g.gathers) a)
        go (inr b) =
            let r = flat_in (directory_over now) (in_paths e.recipe ++ gathers_from e) d b in
            in_right d (gathers_from g.job) (flat_map (directory_over before) (in_paths g.job.recipe ++ gathers_from g.job))
            (in_flat (directory_over before) (in_paths g.job.recipe ++ gathers_from g.job) r.0 d
            (wants r.0 (in_either r.0 (in_paths e.recipe) (gathers_from e) r.1)) (over_before j r.0 d h was m r.2))

    job_awaits : (k : Job) (d : Path) → In k now.jobs → In d (awaits now k) → In d awaited_now
    job_awaits k d ik w =
        in_once (flat_map (awaits now) now.jobs ++ flat_map (directory_over now) settings.targets) d
        (in_left d (flat_map (awaits now) now.jobs) (flat_map (directory_over now) settings.targets) (in_flat (awaits now) now.jobs k d ik w))

    -- ## What is wanted back was wanted back

    module _ (j : Job) (h : In j now.jobs) (there : In j before.jobs) where
      awaited_on :
          (q : Path) → In q (out_paths j.recipe) → among awaited_now q ≡ true →
          among awaited_before q ≡ true
      awaited_on q iq a =
          in_among awaited_before q
          (awaited_then j q h there (or_first _ _ (in_among (out_paths j.recipe) q iq)) (among_in awaited_now q a))

      makes_on : feeds_now j ≡ true → feeds_before j ≡ true
      makes_on a =
          let q = any_in (among awaited_now) (out_paths j.recipe) a in
          any_from (among awaited_before) (out_paths j.recipe) q.0 q.1 (awaited_on q.0 q.1 q.2)

      lasting : (t a b : Bool) → (a ≡ true → b ≡ true) → not (t && not a) ≡ true → not (t && not b) ≡ true
      lasting true true b on e = ap not (ap not (on refl))
      lasting true false b on e = absurd (true≢false (sym e))
      lasting false a b on e = refl

      input_on : (o : Path) → is_input now (λ e. true) o ≡ true → is_input before (λ e. true) o ≡ true
      input_on o a =
          let e = any_in (λ (e : Job × State). among (in_paths e.0.recipe) o && true) (staged now) a in
          let ie = (of_state flow image settings now done.complete is e.0 e.1).0 in
          let g = goes_there e.0.0 ie in
          let iq = g.inputs o (among_in (in_paths e.0.0.recipe) o (and_left (among (in_paths e.0.0.recipe) o) true e.2)) in
          any_from (λ (e : Job × State). among (in_paths e.0.recipe) o && true) (staged before) (g.job, was g.job)
          (to_staged flow image settings before done.complete done.is_plan g.job g.is_there)
          (ap (λ b. b && true) (in_among (in_paths g.job.recipe) o iq))

      kept_on :
          (o : Path) → (not (temporary_now j o) && is_input now (λ e. true) o) ≡ true →
          (not (temporary_before j o) && is_input before (λ e. true) o) ≡ true
      kept_on o k =
          and_both (not (temporary_before j o)) (is_input before (λ e. true) o)
          (lasting (among j.temps o) (feeds_now j) (feeds_before j) makes_on
          (and_left (not (temporary_now j o)) (is_input now (λ e. true) o) k))
          (input_on o (and_right (not (temporary_now j o)) (is_input now (λ e. true) o) k))

      kept_wanted :
          (o : Path) → (not (temporary_before j o) && is_input before (λ e. true) o) ≡ true →
          wanted_before j o ≡ true
      kept_wanted o k =
          or_second (among settings.targets o) _
          (or_second (among awaited_before o) _ (or_first _ (is_input before (λ e. is_to_run e.1) o) k))

      wanted_on :
          (o : Path) → In o (out_paths j.recipe) → wanted_now j o ≡ true →
          (wanted_before j o ≡ true) ⊎ (is_input now (λ e. is_to_run e.1) o ≡ true)
      wanted_on o io w = first (or_cases (among settings.targets o) _ w)
        where
          third :
              ((not (temporary_now j o) && is_input now (λ e. true) o) ≡ true) ⊎ (is_input now (λ e. is_to_run e.1) o ≡ true) →
              (wanted_before j o ≡ true) ⊎ (is_input now (λ e. is_to_run e.1) o ≡ true)
          third (inl k) = inl (kept_wanted o (kept_on o k))
          third (inr r) = inr r

          second :
              (among awaited_now o ≡ true)
              ⊎ (((not (temporary_now j o) && is_input now (λ e. true) o) || is_input now (λ e. is_to_run e.1) o) ≡ true) →
              (wanted_before j o ≡ true) ⊎ (is_input now (λ e. is_to_run e.1) o ≡ true)
          second (inl a) = inl (or_second (among settings.targets o) _ (or_first (among awaited_before o) _ (awaited_on o io a)))
          second (inr k) = third (or_cases (not (temporary_now j o) && is_input now (λ e. true) o) (is_input now (λ e. is_to_run e.1) o) k)

          first :
              (among settings.targets o ≡ true)
              ⊎ ((among awaited_now o
              || ((not (temporary_now j o) && is_input now (λ e. true) o) || is_input now (λ e. is_to_run e.1) o))
              ≡ true) → (wanted_before j o ≡ true) ⊎ (is_input now (λ e. is_to_run e.1) o ≡ true)
          first (inl t) = inl (or_first (among settings.targets o) _ t)
          first (inr k) = second (or_cases (among awaited_now o) _ k)

      -- what isn't whole wasn't wanted back
      unwanted : (o : Path) → In o (out_paths j.recipe) → gone j o ≡ true → wanted_before j o ≡ true → ⊥
      unwanted o io lacks wanted =
          clash_of (gone j o && wanted_before j o)
          (and_both (gone j o) (wanted_before j o) lacks wanted)
          (any_none (λ q. gone j q && wanted_before j q) (out_paths j.recipe) o (calm_then j there).2 io)

      -- an output for which it is restored is read by a job that is to run
      read_back :
          restored_now j ≡ true →
          (o : Path) × In o (out_paths j.recipe) × (gone j o ≡ true) × (is_input now (λ e. is_to_run e.1) o ≡ true)
      read_back lost =
          let o = any_in (λ q. gone j q && wanted_now j q) (out_paths j.recipe) lost in
          let lacks = and_left (gone j o.0) (wanted_now j o.0) o.2 in
          let wanted = and_right (gone j o.0) (wanted_now j o.0) o.2 in
          (o.0, o.1, lacks, go o.0 o.1 lacks (wanted_on o.0 o.1 wanted))
        where
          go :
              (o : Path) → In o (out_paths j.recipe) → gone j o ≡ true →
              (wanted_before j o ≡ true) ⊎ (is_input now (λ e. is_to_run e.1) o ≡ true) →
              is_input now (λ e. is_to_run e.1) o ≡ true
          go o io lacks (inl w) = absurd (unwanted o io lacks w)
          go o io lacks (inr r) = r

      -- so a job that makes an awaited directory isn't restored
      unlost_maker : feeds_now j ≡ true → restored_now j ≡ false
      unlost_maker awaits_it = go (restored_now j) refl
        where
          used : (o : Path) → is_input now (λ e. is_to_run e.1) o ≡ true → is_input now (λ e. true) o ≡ true
          used o r =
              let e = any_in (λ (e : Job × State). among (in_paths e.0.recipe) o && is_to_run e.1) (staged now) r in
              any_from (λ (e : Job × State). among (in_paths e.0.recipe) o && true) (staged now) e.0 e.1
              (ap (λ b. b && true) (and_left (among (in_paths e.0.0.recipe) o) (is_to_run e.0.1) e.2))

          go : (b : Bool) → restored_now j ≡ b → b ≡ false
          go false e = refl
          go true e =
              let o = read_back e in
              let lasts : not (temporary_now j o.0) ≡ true =
              ap (λ b. not (among j.temps o.0 && not b)) awaits_it ∙ not_both (among j.temps o.0) in
              absurd
              (unwanted o.0 o.1 o.2
              (kept_wanted o.0 (kept_on o.0 (and_both (not (temporary_now j o.0)) (is_input now (λ e. true) o.0) lasts (used o.0 o.3)))))

    -- ## Up the plan: none is Open, or Dirty

    -- it isn't Open, and has no reason to run
    abbrev Calm : Job → Type 0
    Calm j = (open_now j ≡ false) × (why_now j ≡ [])

    abbrev left : Plan → Path → Bool
    left plan = is_restored image settings nothing_done plan

    left_same : left now ≡ left before
    left_same = λ n. λ q. (never_any now.jobs ∙ sym (never_any before.jobs)) n

    abbrev stamped : (Path → Bool) → Path → Path × Option Stamp
    stamped left_out q = (q, stamp_now_but image left_out q)

    abbrev own : (Path → Bool) → Job → List Reason
    own left_out j =
        own_reasons j.recipe (map image.kept (out_paths j.recipe)) (map (is_marked_but image left_out) (out_paths j.recipe))
        (map (stamped left_out) (in_paths j.recipe))

    own_calm : (j : Job) → In j before.jobs → own (left now) j ≡ []
    own_calm j there = (λ n. own (left_same n) j) ∙ append_nil_left (own (left before) j) _ (calm_then j there).1

    module _
        (seen : List Job) (k : Job) (served : Served now.jobs seen k) (ik : In k now.jobs) (within : (j : Job) → In j seen → In j now.jobs)
        (calm : (j : Job) → In j seen → Calm j) where
      -- what makes something that the job reads came before
      maker_seen : (q : Path) → Reads k q → (m : Job) → In m now.jobs → makes m q ≡ true → In m seen
      maker_seen q reads m im mq = go (served q reads)
        where
          go : ((j : Job) → In j now.jobs → makes j q ≡ false) ⊎ ((j : Job) × In j seen × (makes j q ≡ true)) → In m seen
          go (inl none) = absurd (clash_of (makes m q) mq (none m im))
          go (inr (l, il, lq)) = subst (λ z. In z seen) (the_one l m q (within l il) im lq mq) il

      awaited_seen : (d : Path) → In d (awaits now k) → (m : Job) → In m now.jobs → makes m d ≡ true → In m seen
      awaited_seen d w m im md = go (in_either d (gathers_from k) (flat_map (directory_over now) (in_paths k.recipe ++ gathers_from k)) w)
        where
          go : In d (gathers_from k) ⊎ In d (flat_map (directory_over now) (in_paths k.recipe ++ gathers_from k)) → In m seen
          go (inl g) = maker_seen d (inr g) m im md
          go (inr f) =
              let q = flat_in (directory_over now) (in_paths k.recipe ++ gathers_from k) d f in
              let o = over_parts flow image settings now done.complete is q.0 d q.2 in
              subst (λ z. In z seen) (the_one o.0 m d o.1 im (makes_over o.0 q.0 d o.3) md)
              (maker_seen q.0 (in_either q.0 (in_paths k.recipe) (gathers_from k) q.1) o.0 o.1 o.2)

      abbrev hand_by : Path → Option (Job × State) → Bool
      hand_by d m = is_none m || test_some (λ (e : Job × State). is_clean e.1 && stands_whole image d e.0) m

      -- a directory that it awaits is whole
      stands : (d : Path) → In d (awaits now k) → (m : Job) → In m now.jobs → In m before.jobs → makes m d ≡ true → stands_whole image d m ≡ true
      stands d w m im there md =
          let a = awaits_before m k d im there md ik w in
          let hand =
          not_false (is_at_hand image settings nothing_done before d)
          (any_none (λ d. not (is_at_hand image settings nothing_done before d)) (awaits before a.0) d (or_left _ _ (calm_then a.0 a.1).0) a.2) in
          and_right (is_clean (was m)) (stands_whole image d m)
          (sym (ap (hand_by d) (maker_is flow image settings before done.complete done.is_plan m d there md)) ∙ hand)

      -- what makes it makes an awaited output
      maker_awaits : (d : Path) → In d (awaits now k) → (m : Job) → In m now.jobs → makes m d ≡ true → feeds_now m ≡ true
      maker_awaits d w m im md = go (in_either d (gathers_from k) (flat_map (directory_over now) (in_paths k.recipe ++ gathers_from k)) w)
        where
          by_out : (o : Path) → In o (awaits now k) → In o (out_paths m.recipe) → feeds_now m ≡ true
          by_out o wo io =
              any_from (among awaited_now) (out_paths m.recipe) o io
              (in_among awaited_now o (job_awaits k o ik wo))

          over : In d (gathers_from k) → (o : Option Path) → folder_over m.recipe d ≡ o → is_some o ≡ true → feeds_now m ≡ true
          over g None e h = absurd (true≢false (sym h))
          over g (Some f) e h =
              by_out f
              (in_right f (gathers_from k) (flat_map (directory_over now) (in_paths k.recipe ++ gathers_from k))
              (in_flat (directory_over now) (in_paths k.recipe ++ gathers_from k) d f (in_right d (in_paths k.recipe) (gathers_from k) g)
              (over_from flow image settings now done.complete is d f m im md e)))
              (folders_paths m.recipe f (find_in (is_under d) (folders_of m.recipe) f e).0)

          gathered : In d (gathers_from k) → (among (out_paths m.recipe) d ≡ true) ⊎ (is_some (folder_over m.recipe d) ≡ true) → feeds_now m ≡ true
          gathered g (inl a) = by_out d w (among_in (out_paths m.recipe) d a)
          gathered g (inr s) = over g (folder_over m.recipe d) refl s

          go :
              In d (gathers_from k) ⊎ In d (flat_map (directory_over now) (in_paths k.recipe ++ gathers_from k)) →
              feeds_now m ≡ true
          go (inl g) = gathered g (or_cases (among (out_paths m.recipe) d) (is_some (folder_over m.recipe d)) md)
          go (inr f) =
              let q = flat_in (directory_over now) (in_paths k.recipe ++ gathers_from k) d f in
              let o = over_parts flow image settings now done.complete is q.0 d q.2 in
              let out = folders_paths o.0.recipe d (find_in (is_under q.0) (folders_of o.0.recipe) d o.3).0 in
              by_out d w (subst (λ (z : Job). In d (out_paths z.recipe)) (the_one o.0 m d o.1 im (makes_over o.0 q.0 d o.3) md) out)

      at_hand : (d : Path) → In d (awaits now k) → hand_now d ≡ true
      at_hand d w = go (maker_of now d) refl
        where
          go : (m : Option (Job × State)) → maker_of now d ≡ m → hand_now d ≡ true
          go None e = ap (hand_by d) e
          go (Some (m, s)) e =
              let f = found_maker flow image settings now done.complete is d (m, s) e in
              let c = calm m (awaited_seen d w m f.0 f.2) in
              let there = was_then m f.0 c.0 in
              let lost = unlost_maker m f.0 there (maker_awaits d w m f.0 f.2) in
              let state =
              f.1
              ∙ clean_table (open_now m) (why_now m) (restored_now m)
              (not (held_now m)) c.0 c.1 lost in
              let whole = stands d w m f.0 there f.2 in
              ap (hand_by d) e ∙ (λ n. is_clean (state n) && whole n)

      -- a directory that it gathers from is listed where it is ready
      all_listed : (d : Path) → In d (gathers_from k) → (ready_now d && is_none (listing now.lists d)) ≡ false
      all_listed d g =
          filter_nil (λ d. ready_now d && is_none (listing now.lists d)) awaited_now d
          (map_nil _ (filter (λ d. ready_now d && is_none (listing now.lists d)) awaited_now) none_new)
          (job_awaits k d ik (in_left d (gathers_from k) (flat_map (directory_over now) (in_paths k.recipe ++ gathers_from k)) g))

      -- the jobs of its inputs are neither Open nor Dirty
      maker_calm :
          (test : State → Bool) → ((m : Job) → Calm m → test (stage m) ≡ false) → (q : Path) → In q (in_paths k.recipe) → made_by now test q ≡ false
      maker_calm test off q iq = go (maker_of now q) refl
        where
          go : (m : Option (Job × State)) → maker_of now q ≡ m → made_by now test q ≡ false
          go None e = ap (test_some (λ (e : Job × State). test e.1)) e
          go (Some (m, s)) e =
              let f = found_maker flow image settings now done.complete is q (m, s) e in
              ap (test_some (λ (e : Job × State). test e.1)) e ∙ (ap test f.1 ∙ off m (calm m (maker_seen q (inl iq) m f.0 f.2)))

      never_open : (m : Job) → Calm m → is_open (stage m) ≡ false
      never_open m c =
          open_table (open_now m) (why_now m)
          (restored_now m && not (held_now m)) c.0

      never_dirty : (m : Job) → Calm m → is_dirty (stage m) ≡ false
      never_dirty m c =
          dirty_table (open_now m) (why_now m)
          (restored_now m && not (held_now m)) c.0 c.1

      shut : open_now k ≡ false
      shut =
          let first =
          none_any (λ d. not (hand_now d)) (awaits now k) (λ d w. ap not (at_hand d w)) in
          let second =
          none_any (λ d. ready_now d && is_none (listing now.lists d)) (gathers_from k) all_listed in
          let third = none_any (made_by now is_open) (in_paths k.recipe) (maker_calm is_open never_open) in
          λ n. first n || (second n || third n)

      reasonless : why_now k ≡ []
      reasonless =
          let own_none = own_calm k (was_then k ik shut) in
          let above =
          filter_empty (made_by now is_dirty) (distinct bytes_eq (in_paths k.recipe))
          (λ q iq. maker_calm is_dirty never_dirty q (distinct_in bytes_eq (in_paths k.recipe) q iq)) in
          let unforced = never_forced (not (among [] (job_path k))) (list_any (makes k) settings.targets) settings.force done.unforced in
          λ n. own_none n ++ (map Upstream (above n) ++ when (unforced n) Forced)

      one_calm : Calm k
      one_calm = (shut, reasonless)

    calm_all :
        (seen ks : List Job) → InOrder now.jobs seen ks → ((j : Job) → In j seen → In j now.jobs) → ((j : Job) → In j ks → In j now.jobs) →
        ((j : Job) → In j seen → Calm j) → (j : Job) → In j ks → Calm j
    calm_all seen [] order within all calm j h = absurd h
    calm_all seen (k ∷ ks) order within all calm j (inl e) = subst Calm (sym e) (one_calm seen k order.0 (all k (inl refl)) within calm)
    calm_all seen (k ∷ ks) order within all calm j (inr h) = calm_all (k ∷ seen) ks order.1 wider (λ l il. all l (inr il)) more j h
      where
        wider : (l : Job) → In l (k ∷ seen) → In l now.jobs
        wider l (inl e) = subst (λ z. In z now.jobs) (sym e) (all k (inl refl))
        wider l (inr il) = within l il

        more : (l : Job) → In l (k ∷ seen) → Calm l
        more l (inl e) = subst Calm (sym e) (one_calm seen k order.0 (all k (inl refl)) within calm)
        more l (inr il) = calm l il

    calm_now : (j : Job) → In j now.jobs → Calm j
    calm_now =
        calm_all [] now.jobs (derived_order flow image now.lists settings.targets now.jobs done.complete is.derived)
        (λ l il. absurd il) (λ l il. il) (λ l il. absurd il)

    -- ## Down the plan: none is restored

    abbrev Unlost : Job → Type 0
    Unlost j = restored_now j ≡ false

    clean_one : (j : Job) → In j now.jobs → Unlost j → stage j ≡ Clean
    clean_one j ij lost =
        let c = calm_now j ij in
        clean_table (open_now j) (why_now j) (restored_now j)
        (not (held_now j)) c.0 c.1 lost

    apart : JobsApart now.jobs
    apart = derived_apart flow image now.lists settings.targets now.jobs done.complete is.derived

    -- a job that reads its output doesn't come before it
    module _ (head : List Job) (k : Job) (ks : List Job) (at : now.jobs ≡ head ++ k ∷ ks) (o : Path) (io : In o (out_paths k.recipe)) where
      ik : In k now.jobs
      ik = subst (In k) (sym at) (in_right k head (k ∷ ks) (inl refl))

      makes_it : makes k o ≡ true
      makes_it = or_first _ _ (in_among (out_paths k.recipe) o io)

      not_ahead : In k head → ⊥
      not_ahead i = twice head k ks o (subst JobsApart at apart) i io

      ahead : (front behind : List Job) (e : Job) → now.jobs ≡ front ++ e ∷ behind → In o (in_paths e.recipe) → In k front
      ahead front behind e whole reads =
          in_from front k
          (inputs_come_first flow image settings nothing_done now front behind e k o done.complete is whole
          (contains_from (in_paths e.recipe ++ gathers_from e) o (in_left o (in_paths e.recipe) (gathers_from e) reads)) (contains_from now.jobs k ik) makes_it)

      not_before : (e : Job) → In e head → In o (in_paths e.recipe) → ⊥
      not_before e ie reads =
          let s = split head e ie in
          let whole = at ∙ (λ n. s.2 n ++ k ∷ ks) ∙ append_assoc s.0 (e ∷ s.1) (k ∷ ks) in
          not_ahead (subst (In k) (sym s.2) (in_left k s.0 (e ∷ s.1) (ahead s.0 (s.1 ++ k ∷ ks) e whole reads)))

      not_itself : In o (in_paths k.recipe) → ⊥
      not_itself reads = not_ahead (ahead head ks k at reads)

    one_unlost : (head : List Job) (k : Job) (ks : List Job) → now.jobs ≡ head ++ k ∷ ks → ((j : Job) → In j ks → Unlost j) → Unlost k
    one_unlost head k ks at later = go (restored_now k) refl
      where
        ik : In k now.jobs
        ik = subst (In k) (sym at) (in_right k head (k ∷ ks) (inl refl))

        place :
            (o : Path) → In o (out_paths k.recipe) → (e : Job) → In e now.jobs → is_to_run (stage e) ≡ true → In o (in_paths e.recipe) →
            In e head ⊎ In e (k ∷ ks) → ⊥
        place o io e ie runs reads (inl i) = not_before head k ks at o io e i reads
        place o io e ie runs reads (inr (inl same)) = not_itself head k ks at o io (subst (λ (z : Job). In o (in_paths z.recipe)) same reads)
        place o io e ie runs reads (inr (inr i)) = true≢false (sym runs ∙ ap is_to_run (clean_one e ie (later e i)))

        go : (b : Bool) → restored_now k ≡ b → b ≡ false
        go false e = refl
        go true e =
            let o = read_back k ik (was_then k ik (calm_now k ik).0) e in
            let r = any_in (λ (e : Job × State). among (in_paths e.0.recipe) o.0 && is_to_run e.1) (staged now) o.3 in
            let s = of_state flow image settings now done.complete is r.0 r.1 in
            absurd
            (place o.0 o.1 r.0.0 s.0 (sym (ap is_to_run s.1) ∙ and_right (among (in_paths r.0.0.recipe) o.0) (is_to_run r.0.1) r.2)
            (among_in (in_paths r.0.0.recipe) o.0 (and_left (among (in_paths r.0.0.recipe) o.0) (is_to_run r.0.1) r.2))
            (in_either r.0.0 head (k ∷ ks) (subst (In r.0.0) at s.0)))

    unlost_all : (head ks : List Job) → now.jobs ≡ head ++ ks → (j : Job) → In j ks → Unlost j
    unlost_all head [] at j i = absurd i
    unlost_all head (k ∷ ks) at j (inl e) =
        subst Unlost (sym e) (one_unlost head k ks at (λ l il. unlost_all (head ++ k ∷ []) ks (at ∙ sym (append_assoc head (k ∷ []) ks)) l il))
    unlost_all head (k ∷ ks) at j (inr i) = unlost_all (head ++ k ∷ []) ks (at ∙ sym (append_assoc head (k ∷ []) ks)) j i

    clean_now : (j : Job) → In j now.jobs → stage j ≡ Clean
    clean_now j ij = clean_one j ij (unlost_all [] now.jobs refl j ij)

    pub all_clean : now.states ≡ map (λ (j : Job). Clean) now.jobs
    all_clean = is.states ∙ map_same stage (λ j. Clean) now.jobs clean_now

    -- ## Targets

    abbrev srcs_walked : List Candidate
    srcs_walked = flat_map (walk flow (sources_of image) now.lists 200) settings.targets

    pub current_now :
        (p : Path) → IsIn settings.targets p → is_current image settings nothing_done before p ≡ true → is_current image settings nothing_done now p ≡ true
    current_now p ip current = go (or_cases (is_source image p) (is_ready image settings nothing_done before p) current)
      where
        ready_by : Option (Job × State) → Bool
        ready_by m = test_some (λ (e : Job × State). is_clean e.1 && stands_whole image p e.0) m

        made : is_ready image settings nothing_done before p ≡ true → (c : Candidate) → choose flow (sources_of image) p ≡ Make c → ready_now p ≡ true
        made ready c e =
            let reached = derived_reached flow image now.lists settings.targets now.jobs done.complete is.derived p ip in
            let m = chosen_makes flow image now.lists settings.targets now.jobs done.complete is.derived p c e in
            let ij =
            subst (In (job flow now.lists c)) (derived flow image now.lists settings.targets now.jobs done.complete is.derived).1
            (walked_job flow (sources_of image) now.lists settings.targets 200 c
            (reached.within c (own_walked flow (sources_of image) now.lists srcs_walked 200 p c reached e))) in
            let there = was_then (job flow now.lists c) ij (calm_now (job flow now.lists c) ij).0 in
            let whole =
            and_right (is_clean (was (job flow now.lists c))) (stands_whole image p (job flow now.lists c))
            (sym
            (ap (test_some (λ (e : Job × State). is_clean e.1 && stands_whole image p e.0))
            (maker_is flow image settings before done.complete done.is_plan (job flow now.lists c) p there m))
            ∙ ready) in
            ap (test_some (λ (e : Job × State). is_clean e.1 && stands_whole image p e.0))
            (maker_is flow image settings now done.complete is (job flow now.lists c) p ij m)
            ∙ (λ n. is_clean (clean_now (job flow now.lists c) ij n) && whole n)

        by_choice :
            is_ready image settings nothing_done before p ≡ true →
            (choose flow (sources_of image) p ≡ Source) ⊎ ((c : Candidate) × (choose flow (sources_of image) p ≡ Make c)) →
            is_current image settings nothing_done now p ≡ true
        by_choice ready (inl s) = or_first (is_source image p) (ready_now p) (source_chosen flow (sources_of image) p s)
        by_choice ready (inr c) = or_second (is_source image p) (ready_now p) (made ready c.0 c.1)

        go : (is_source image p ≡ true) ⊎ (is_ready image settings nothing_done before p ≡ true) → is_current image settings nothing_done now p ≡ true
        go (inl s) = or_first (is_source image p) (ready_now p) s
        go (inr ready) =
            by_choice ready
            (choice_known flow (sources_of image) now.lists 200 p
            (derived_reached flow image now.lists settings.targets now.jobs done.complete is.derived p ip).calm)
