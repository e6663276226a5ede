-- A plan stays as it is where an output is gone that is neither awaited nor wanted back.
use Rattle.std.proofs.Common.{◌≡◌, ◌⊎◌, Bool, true, false, ◌&&◌, ◌||◌, not, List, [], ◌∷◌, ◌++◌, map, filter, flat_map, refl, sym, ap, subst, ◌∙◌, inl, inr, bytes_eq, Option, Some, None, is_some, true≢false}
use Rattle.std.specs.Prelude.{is_none, if◌then◌else◌}
use Rattle.std.specs.List.{list_any}
use Rattle.std.specs.Option.{option_and_then}
use Rattle.std.proofs.lemmas.Bool.{cases_Bool}
use Rattle.smk_base.specs.Path.{is_under, overlaps}
use Rattle.smk_base.proofs.Under.{at_when_under, never_both, overlaps_at}
use Rattle.smk_world.specs.World.{in_paths, out_paths}
use Rattle.smk_world.specs.Trees.{Path, IsIn, among, folder_over, folders_of, kind_in}
use Rattle.smk_world.specs.declared.recipe.Kind.{Kind}
use Rattle.smk_world.specs.declared.recipe.Kind.TheVariants.{Folder as FolderKind}
use Rattle.smk_flow.specs.declared.job.Job.{Job}
use Rattle.smk_flow.specs.Flows.{Flow}
use Rattle.smk_store.specs.Images.{Image, is_file, is_source, is_whole, source_at}
use Rattle.smk_store.specs.Trust.{holder, is_marked_but, stamp_now_but, source_stamp, unmarked_stamp_but}
use Rattle.smk_chain.specs.Derive.{distinct, listing}
use Rattle.smk_trigger.specs.declared.reason.Reason.TheVariants.{Upstream, Forced}
use Rattle.smk_trigger.specs.declared.reason.State.{State}
use Rattle.smk_trigger.specs.declared.reason.State.TheVariants.{Open}
use Rattle.smk_trigger.specs.JobStates.{is_clean, is_dirty, is_open}
use Rattle.smk_trigger.specs.Reasons.{own_reasons, when}
use Rattle.smk_pick.specs.declared.settings.Settings.{Settings}
use Rattle.smk_plan.specs.States.{HasStates, IsPlan, Plan, awaited, awaits, by_reasons, directory_over, files_listed, gathers_from, is_at_hand, is_forced, is_open_now, is_read_now, is_ready, is_restored, is_to_restore, is_wanted_back, is_whole_by, kept_state, made_by, maker_of, makes, new_listings, none_or_one, nothing_done, reasons, staged, stands_whole, state_of, test_some, while_running}
use Rattle.smk_laws_plan.specs.Current.{IsComplete}
use Rattle.smk_laws_plan.proofs.CurrentChosen.{folders_paths}
use Rattle.smk_laws_plan.proofs.CurrentLists.{distinct_in, find_in, flat_in, in_either, in_flat, in_left, in_right, or_cases, zip_first}
use Rattle.smk_laws_plan.proofs.CurrentPaths.{among_in, in_among}
use Rattle.smk_laws_plan.proofs.CurrentProducts.{once_paths}
use Rattle.smk_laws_plan.proofs.CurrentRecipes.{map_same}
use Rattle.smk_laws_plan.proofs.PlanStates.{any_same, filter_same}
use Rattle.smk_cli_target.proofs.PlanStays.{and_never}
use Rattle.smk_laws_turns.proofs.JobPaths.{output_spot, spots_differ}

-- whole as this output, or as a member of this directory
abbrev stands_by : Image → Path → Job → Option Path → Bool
stands_by image q k o = is_whole_by image q (kind_in k.recipe q) o

-- whole as what this Clean job makes
abbrev ready_by : Image → Path → Option (Job × State) → Bool
ready_by image q m = test_some (λ (e : Job × State). is_clean e.1 && stands_whole image q e.0) m

some_none : {A : Type 0} (o : Option A) → is_some o ≡ true → is_some o ≡ false → ⊥
some_none o h k = true≢false (sym h ∙ k)

module _ (flow : Flow) (settings : Settings) (plan : Plan) (i : Image) (gone : Path) where
  -- Another image has the stamps of sources that this one has, and what is whole of what these jobs make but for this output.
  pub record IsWithout (x : Image) : Type 0 where
    pub source : (q : Path) → is_source x q ≡ is_source i q
    pub stamp : (q : Path) → source_stamp (source_at x q) ≡ source_stamp (source_at i q)
    pub whole :
        (k : Job) (q : Path) (kind : Kind) →
        IsIn plan.jobs k → IsIn (out_paths k.recipe) q → (q ≡ gone → ⊥) → is_whole x q kind ≡ is_whole i q kind
    pub file :
        (k : Job) (d q : Path) → IsIn plan.jobs k → IsIn (out_paths k.recipe) d → (d ≡ gone → ⊥) → is_under q d ≡ true → is_file x q ≡ is_file i q

  -- The states are the same there, and the same becomes known.
  pub record IsPlannedSo (z : Image) : Type 0 where
    pub states : HasStates z settings nothing_done plan
    pub listings : new_listings z settings nothing_done plan ≡ new_listings i settings nothing_done plan

  -- what is awaited by this plan
  abbrev waited : List Path
  waited = awaited i settings nothing_done plan

  -- it is wanted back from no job that makes it
  abbrev pub IsUnwanted : Type 0
  IsUnwanted = (k : Job) → IsIn plan.jobs k → IsIn (out_paths k.recipe) gone → is_wanted_back i settings nothing_done plan k gone ≡ false

  module _ (complete : IsComplete i) (is : IsPlan flow i settings nothing_done plan) (unwanted : IsUnwanted) (unawaited : among waited gone ≡ false)
      (x : Image) where
    abbrev y : Image
    y = record x { kept = i.kept; marked = i.marked }

    -- ## What is awaited

    not_gone : (d : Path) → IsIn waited d → d ≡ gone → ⊥
    not_gone d w e = never_both (among waited gone) (in_among waited gone (subst (IsIn waited) e w)) unawaited

    abbrev all_waited : List Path
    all_waited = flat_map (awaits plan) plan.jobs ++ flat_map (directory_over plan) settings.targets

    by_awaits : (k : Job) (d : Path) → IsIn plan.jobs k → IsIn (awaits plan k) d → IsIn waited d
    by_awaits k d ik w =
        once_paths all_waited d
        (in_left d (flat_map (awaits plan) plan.jobs) (flat_map (directory_over plan) settings.targets) (in_flat (awaits plan) plan.jobs k d ik w))

    -- the directory over a path is an output of a job
    record IsOutput (d : Path) : Type 0 where
      job : Job
      member : IsIn plan.jobs job
      output : IsIn (out_paths job.recipe) d

    over_is_output : (q d : Path) → IsIn (directory_over plan q) d → IsOutput d
    over_is_output q d h = go (maker_of plan q) refl h
      where
        of_job : (k : Job) → IsIn plan.jobs k → (o : Option Path) → folder_over k.recipe q ≡ o → IsIn (none_or_one o ++ []) d → IsOutput d
        of_job k ik None e h = absurd h
        of_job k ik (Some f) e (inl same) =
            let found = find_in (is_under q) (folders_of k.recipe) f e in
            record { job = k; member = ik; output = subst (IsIn (out_paths k.recipe)) (sym same) (folders_paths k.recipe f found.0) }
        of_job k ik (Some f) e (inr never) = absurd never

        go :
            (m : Option (Job × State)) → maker_of plan q ≡ m →
            IsIn (flat_map (λ (e : Job × State). none_or_one (folder_over e.0.recipe q)) (none_or_one m)) d → IsOutput d
        go None e h = absurd h
        go (Some (k, s)) e h =
            let found = find_in (λ (z : Job × State). makes z.0 q) (staged plan) (k, s) e in
            of_job k (zip_first plan.jobs plan.states k s found.0) (folder_over k.recipe q) refl h

    -- ## What is ready

    -- what is awaited is no part of it
    no_part :
        (d f : Path) (k : Job) (s : State) → IsIn waited d → maker_of plan d ≡ Some (k, s) → folder_over k.recipe d ≡ Some f →
        IsIn plan.jobs k → IsIn (out_paths k.recipe) f → is_under d f ≡ true → f ≡ gone → ⊥
    no_part d f k s w made over ik out under same =
        by_case (in_either d (flat_map (awaits plan) plan.jobs) (flat_map (directory_over plan) settings.targets) (distinct_in bytes_eq all_waited d w))
      where
        -- it lies under no other output
        output : IsOutput d → ⊥
        output o =
            never_both (overlaps d f) (overlaps_at d f (at_when_under d f under))
            (spots_differ flow i plan.lists settings.targets plan.jobs complete is.derived (d, true) (f, true)
            (output_spot plan.jobs o.job d o.member o.output) (output_spot plan.jobs k f ik out)
            (λ e. not_gone d w (ap (λ (z : Path × Bool). z.0) e ∙ same)))

        over_it : IsIn (directory_over plan d) f
        over_it =
            subst (λ m. IsIn (flat_map (λ (e : Job × State). none_or_one (folder_over e.0.recipe d)) (none_or_one m)) f) (sym made)
            (subst (λ o. IsIn (none_or_one o ++ []) f) (sym over) (inl refl))

        gathered : (j : Job) → IsIn plan.jobs j → IsIn (gathers_from j) d → ⊥
        gathered j ij g =
            not_gone f
            (by_awaits j f ij (in_right f (gathers_from j) (flat_map (directory_over plan) (in_paths j.recipe ++ gathers_from j))
            (in_flat (directory_over plan) (in_paths j.recipe ++ gathers_from j) d f (in_right d (in_paths j.recipe) (gathers_from j) g) over_it))) same

        of_over : (qs : List Path) → IsIn (flat_map (directory_over plan) qs) d → ⊥
        of_over qs h = let q = flat_in (directory_over plan) qs d h in output (over_is_output q.0 d q.2)

        of_job : (j : Job) → IsIn plan.jobs j → IsIn (awaits plan j) d → ⊥
        of_job j ij h =
            elim (in_either d (gathers_from j) (flat_map (directory_over plan) (in_paths j.recipe ++ gathers_from j)) h) [
              | inl g ↦ gathered j ij g
              | inr o ↦ of_over (in_paths j.recipe ++ gathers_from j) o
            ]

        by_case : IsIn (flat_map (awaits plan) plan.jobs) d ⊎ IsIn (flat_map (directory_over plan) settings.targets) d → ⊥
        by_case (inl h) = let j = flat_in (awaits plan) plan.jobs d h in of_job j.0 j.1 j.2
        by_case (inr h) = of_over settings.targets h

    module _ (like : IsWithout y) where
      stands_same :
          (k : Job) (s : State) (d : Path) → IsIn waited d → maker_of plan d ≡ Some (k, s) → stands_whole y d k ≡ stands_whole i d k
      stands_same k s d w made = go (folder_over k.recipe d) refl
        where
          found : IsIn (staged plan) (k, s) × (makes k d ≡ true)
          found = find_in (λ (z : Job × State). makes z.0 d) (staged plan) (k, s) made

          ik : IsIn plan.jobs k
          ik = zip_first plan.jobs plan.states k s found.0

          out : folder_over k.recipe d ≡ None → IsIn (out_paths k.recipe) d
          out e = elim (or_cases (among (out_paths k.recipe) d) (is_some (folder_over k.recipe d)) found.1) [
            | inl a ↦ among_in (out_paths k.recipe) d a
            | inr m ↦ absurd (some_none (folder_over k.recipe d) m (ap is_some e))
          ]

          go : (o : Option Path) → folder_over k.recipe d ≡ o → stands_whole y d k ≡ stands_whole i d k
          go None e =
              ap (stands_by y d k) e ∙ (like.whole k d (kind_in k.recipe d) ik (out e) (not_gone d w) ∙ sym (ap (stands_by i d k) e))
          go (Some f) e =
              let over = find_in (is_under d) (folders_of k.recipe) f e in
              let output = folders_paths k.recipe f over.0 in
              let other : f ≡ gone → ⊥ = no_part d f k s w made e ik output over.1 in
              let whole = like.whole k f FolderKind ik output other in
              let file = like.file k f d ik output other over.1 in
              ap (stands_by y d k) e ∙ ((λ n. whole n && file n) ∙ sym (ap (stands_by i d k) e))

      ready_same : (d : Path) → IsIn waited d → is_ready y settings nothing_done plan d ≡ is_ready i settings nothing_done plan d
      ready_same d w = go (maker_of plan d) refl
        where
          go : (m : Option (Job × State)) → maker_of plan d ≡ m → ready_by y d m ≡ ready_by i d m
          go None e = refl
          go (Some (k, s)) e = ap (λ b. is_clean s && b) (stands_same k s d w e)

      -- ## The table of states

      open_same : (k : Job) → IsIn plan.jobs k → is_open_now y settings nothing_done plan k ≡ is_open_now i settings nothing_done plan k
      open_same k ik =
          let waits = any_same (λ d. not (is_at_hand y settings nothing_done plan d)) (λ d. not (is_at_hand i settings nothing_done plan d)) (awaits plan k)
          (λ d id. ap (λ b. not (is_none (maker_of plan d) || b)) (ready_same d (by_awaits k d ik id))) in
          let gathers = any_same (λ d. is_ready y settings nothing_done plan d && is_none (listing plan.lists d))
          (λ d. is_ready i settings nothing_done plan d && is_none (listing plan.lists d)) (gathers_from k)
          (λ d id. ap (λ b. b && is_none (listing plan.lists d))
          (ready_same d (by_awaits k d ik (in_left d (gathers_from k) (flat_map (directory_over plan) (in_paths k.recipe ++ gathers_from k)) id)))) in
          λ n. waits n || (gathers n || list_any (made_by plan is_open) (in_paths k.recipe))

      stamp_same : (left : Path → Bool) (q : Path) → stamp_now_but y left q ≡ stamp_now_but i left q
      stamp_same left q = λ n. if like.source q n then like.stamp q n else option_and_then (unmarked_stamp_but i left) (holder i q)

      abbrev left_out : Path → Bool
      left_out p = is_restored i settings nothing_done plan p

      reasons_same : (k : Job) → reasons y settings nothing_done plan k ≡ reasons i settings nothing_done plan k
      reasons_same k =
          λ n.
          own_reasons k.recipe (map i.kept (out_paths k.recipe)) (map (is_marked_but i left_out) (out_paths k.recipe))
          (map (λ q. (q, stamp_same left_out q n)) (in_paths k.recipe))
          ++ (map Upstream (filter (made_by plan is_dirty) (distinct bytes_eq (in_paths k.recipe))) ++ when (is_forced i settings nothing_done plan k) Forced)

      restore_same : (k : Job) → IsIn plan.jobs k → is_to_restore y settings nothing_done plan k ≡ is_to_restore i settings nothing_done plan k
      restore_same k ik =
          any_same (λ p. not (is_whole y p (kind_in k.recipe p)) && is_wanted_back y settings nothing_done plan k p)
          (λ p. not (is_whole i p (kind_in k.recipe p)) && is_wanted_back i settings nothing_done plan k p) (out_paths k.recipe)
          (λ p o. elim (cases_Bool (among (gone ∷ []) p)) [
            | inl here ↦ it p o (among_in (gone ∷ []) p here)
            | inr never ↦ ap (λ b. not b && is_wanted_back i settings nothing_done plan k p)
                (like.whole k p (kind_in k.recipe p) ik o (λ e. never_both (among (gone ∷ []) p) (in_among (gone ∷ []) p (inl e)) never))
          ])
        where
          it :
              (p : Path) → IsIn (out_paths k.recipe) p → IsIn (gone ∷ []) p →
              (not (is_whole y p (kind_in k.recipe p)) && is_wanted_back y settings nothing_done plan k p)
              ≡ (not (is_whole i p (kind_in k.recipe p)) && is_wanted_back i settings nothing_done plan k p)
          it p o (inl e) =
              let no : is_wanted_back i settings nothing_done plan k p ≡ false =
              subst (λ q. is_wanted_back i settings nothing_done plan k q ≡ false) (sym e) (unwanted k ik (subst (IsIn (out_paths k.recipe)) e o)) in
              ap (λ b. not (is_whole y p (kind_in k.recipe p)) && b) no ∙ and_never (not (is_whole y p (kind_in k.recipe p)))
              ∙ sym (ap (λ b. not (is_whole i p (kind_in k.recipe p)) && b) no ∙ and_never (not (is_whole i p (kind_in k.recipe p))))
          it p o (inr never) = absurd never

      state_same : (k : Job) → IsIn plan.jobs k → state_of y settings nothing_done plan k ≡ state_of i settings nothing_done plan k
      state_same k ik =
          λ n.
          while_running (kept_state i settings nothing_done plan k)
          (if open_same k ik n then Open else by_reasons (reasons_same k n) (restore_same k ik n && not (is_read_now i settings nothing_done plan k)))

      so : IsPlannedSo y
      so =
          record {
            states = is.states
                ∙ map_same (state_of i settings nothing_done plan) (state_of y settings nothing_done plan) plan.jobs (λ k ik. sym (state_same k ik));
            listings = ap (map (λ d. record { folder = d; files = files_listed i d }))
                (filter_same (λ d. is_ready y settings nothing_done plan d && is_none (listing plan.lists d))
                (λ d. is_ready i settings nothing_done plan d && is_none (listing plan.lists d)) waited
                (λ d w. ap (λ b. b && is_none (listing plan.lists d)) (ready_same d w)));
          }

    -- where the records and marks are the same too
    pub planned_so : i.kept ≡ x.kept → i.marked ≡ x.marked → IsWithout x → IsPlannedSo x
    planned_so kept marked = subst (λ (z : Image). IsWithout z → IsPlannedSo z) (λ n. record x { kept = kept n; marked = marked n }) so
