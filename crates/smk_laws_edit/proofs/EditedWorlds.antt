-- A folder after an edit of one of its sources: what stands elsewhere, and all that is known, is as it was. So the plan after a run that is done has
-- nothing to do but for the edited source.
use Rattle.std.specs.Prelude.{IsSome, if◌then◌else◌}
use Rattle.std.proofs.Common.{◌≡◌, ◌⊎◌, ℕ, Bool, true, false, ◌&&◌, ◌||◌, not, List, [], ◌∷◌, refl, sym, ap, subst, ◌∙◌, inl, inr, bytes_eq, Option, Some, None, IsTrue, is_some, true≢false}
use Rattle.smk_base.specs.Path.{is_at_or_under, is_path, is_under, overlaps, own_folder}
use Rattle.smk_base.proofs.Apart.{path_outside}
use Rattle.smk_base.proofs.Places.{place_itself, same_place}
use Rattle.smk_base.proofs.Under.{at_or_under_cases, overlaps_over}
use Rattle.smk_world.specs.Folders.{IsTree}
use Rattle.smk_world.specs.Trees.{Each, IsIn, Path, is_path_text, is_text}
use Rattle.smk_world.specs.World.{World, IsFormed, firmly, folders_above, out_paths, reading, run}
use Rattle.smk_world.specs.declared.event.Node.TheVariants.{Directory, Regular}
use Rattle.smk_world.specs.declared.event.Node.{Node}
use Rattle.smk_world.specs.declared.event.NodeState.{NodeState}
use Rattle.smk_world.specs.declared.recipe.Kind.{Kind}
use Rattle.smk_world.proofs.Names.{adds_rising, not_added_any, or_false}
use Rattle.smk_flow.specs.Flows.{Flow}
use Rattle.smk_flow.specs.declared.job.Job.{Job}
use Rattle.smk_record.specs.Reading.{record_in}
use Rattle.smk_record.specs.declared.record.Record.{Record}
use Rattle.smk_store.specs.Images as images
use Rattle.smk_store.specs.Images.{Image, content_of, file_at, holds_source, is_covered, is_file, is_outside, is_source, is_whole, sources}
use Rattle.smk_chain.specs.Derive.{sources_of}
use Rattle.smk_pick.specs.declared.settings.Settings.{Settings}
use Rattle.smk_trigger.specs.JobStates.{is_clean}
use Rattle.smk_trigger.specs.declared.reason.State.{State}
use Rattle.smk_plan.specs.States.{IsPlan, LastPlan, Plan, new_listings, nothing_done}
use Rattle.smk_laws_plan.specs.Current.{IsComplete}
use Rattle.smk_laws_plan.proofs.CurrentLists.{and_left, and_right, any_none, clash_of, in_filter}
use Rattle.smk_laws_plan.proofs.CurrentMeaning.{source_file}
use Rattle.smk_laws_plan.proofs.CurrentPaths.{among_in}
use Rattle.smk_laws_plan.proofs.PlanOne.{one_last_plan}
use Rattle.smk_laws_plan.proofs.PlanOrder.{some_node}
use Rattle.smk_drive.specs.Moments.{Rules}
use Rattle.smk_laws_history.specs.Histories.{edited}
use Rattle.smk_laws_history.proofs.CurrentComplete.{seen_is_complete}
use Rattle.smk_laws_history.proofs.HistoryPlaces.{kept_same, marked_same, node_same, noted_same, whole_same}
use Rattle.smk_cli_target.specs.Files.{seen}
use Rattle.smk_cli_target.proofs.NextRun.{IsAtEnd, at_end, had_begun, is_done, last_parts}
use Rattle.smk_cli_target.proofs.PlanPlaces.{out_holds_none}
use Rattle.smk_cli_target.proofs.PlanStays.{both_ways, chain_again, derived_again, holds_on}
use Rattle.smk_laws_edit.specs.Edited.{AfterEditOnlyDownstream, PlansDownstream}
use Rattle.smk_laws_edit.proofs.AnyPlan.{chain_listed}
use Rattle.smk_laws_edit.proofs.EditedChain.{IsEdited, WasDone}
use Rattle.smk_laws_edit.proofs.EditedPlans.{chain_downstream}

none_some : {A : Type 0} (x : A) → None ≡ Some x → ⊥
none_some x h = cc

module _ (read : List ℕ → Option Record) (w : World) (p : Path) (bytes : List ℕ) (time : ℕ) (read_only : Bool) (formed : IsFormed w) (tree : IsTree w) where
  abbrev here : Image
  here = images.seen read w

  abbrev after : World
  after = edited w p (Regular bytes time read_only)

  abbrev there : Image
  there = images.seen read after

  module _ (source : is_source here p ≡ true) where
    stood : is_some (file_at here p) ≡ true
    stood = and_left (is_file here p) (not (is_covered here p)) (and_right (is_path_text p) (is_file here p && not (is_covered here p)) source)

    apart : is_at_or_under p own_folder ≡ false
    apart = path_outside p (and_left (is_path p) (is_text p) (and_left (is_path_text p) (is_file here p && not (is_covered here p)) source))

    pub outside : is_outside p ≡ true
    outside = ap not apart

    stands : IsSome (reading (w.nodes p))
    stands = go (is_outside p) (reading (w.nodes p)) stood
      where
        go : (b : Bool) (n : Option Node) → is_some (content_of (if b then n else None)) ≡ true → IsSome n
        go true None h = absurd (true≢false (sym h))
        go true (Some n) h = refl
        go false n h = absurd (true≢false (sym h))

    -- elsewhere the same reads
    pub same_at : (q : Path) → bytes_eq q p ≡ false → reading (after.nodes q) ≡ reading (w.nodes q)
    same_at q other = go (bytes_eq q p) (is_under p q) (w.nodes q) other (λ u. (tree p stands).folders q u)
      where
        go : (a b : Bool) (s : NodeState) → a ≡ false → (b ≡ true → reading s ≡ Some Directory) →
            reading (if a then firmly (Some (Regular bytes time read_only)) else (if b then firmly (Some Directory) else s)) ≡ reading s
        go true b s h folder = absurd (true≢false h)
        go false true s h folder = sym (folder refl)
        go false false s h folder = refl

    own : (q : Path) → is_at_or_under q own_folder ≡ true → reading (after.nodes q) ≡ reading (w.nodes q)
    own q at = same_at q (go (bytes_eq q p) refl)
      where
        go : (b : Bool) → bytes_eq q p ≡ b → b ≡ false
        go false e = refl
        go true e = absurd (clash_of (is_at_or_under p own_folder) (subst (λ z. is_at_or_under z own_folder ≡ true) (same_place q p e) at) apart)

    pub formed_after : IsFormed after
    formed_after =
        record {
          rising = adds_rising (p ∷ folders_above p) w.names formed.rising;
          complete = λ q h.
              let none = not_added_any q (p ∷ folders_above p) w.names h in same_at q (or_false (bytes_eq q p) _ none.0).0 ∙ formed.complete q none.1;
        }

    pub kept : here.kept ≡ there.kept
    kept = kept_same read w after own

    pub marked : here.marked ≡ there.marked
    marked = marked_same read w after own

    pub noted : here.noted ≡ there.noted
    noted = noted_same read w after own

    abbrev y : Image
    y = record there { kept = here.kept; marked = here.marked; noted = here.noted }

    is_y : there ≡ y
    is_y = λ n. record there { kept = sym kept n; marked = sym marked n; noted = sym noted n }

    complete : IsComplete here
    complete = seen_is_complete read w formed

    complete_y : IsComplete y
    complete_y = subst IsComplete is_y (seen_is_complete read after formed_after)

    others : (q : Path) → bytes_eq q p ≡ false → file_at y q ≡ file_at here q
    others q other = ap content_of (node_same read w after q (same_at q other))

    stand : (q : Path) → is_some (file_at y q) ≡ is_some (file_at here q)
    stand q = go (bytes_eq q p) refl
      where
        put : is_some (file_at y p) ≡ true
        put =
            ap (λ b. is_some (content_of (if b then reading (after.nodes p) else None))) outside
            ∙ ap (λ b. is_some (content_of (reading (if b then firmly (Some (Regular bytes time read_only)) else (if is_under p p then firmly (Some Directory) else w.nodes p))))) (place_itself p)

        go : (b : Bool) → bytes_eq q p ≡ b → is_some (file_at y q) ≡ is_some (file_at here q)
        go false e = ap is_some (others q e)
        go true e = subst (λ z. is_some (file_at y z) ≡ is_some (file_at here z)) (sym (same_place q p e)) (put ∙ sym stood)

    known : (q : Path) → is_source y q ≡ is_source here q
    known q = λ n. is_path_text q && (stand q n && not (is_covered here q))

    holds : (q : Path) → holds_source y q ≡ holds_source here q
    holds q =
        both_ways (holds_source y q) (holds_source here q) (holds_on y here complete (λ z h. sym (known z) ∙ h) q)
        (holds_on here y complete_y (λ z h. known z ∙ h) q)

    sources_are : sources_of y ≡ sources_of here
    sources_are = λ n. record { is = λ q. known q n; holds = λ q. holds q n }

    -- it is a source that is edited
    named : IsIn (sources here) p
    named =
        let f = source_file here p source in
        in_filter (is_source here) here.names p (among_in here.names p (complete.names p ∙ some_node (here.node p) f.0 f.1)) source

    module _ (flow : Flow) (settings : Settings) (before : Plan) (is : IsPlan flow here settings nothing_done before) where
      whole : (k : Job) (o : Path) (kind : Kind) → IsIn before.jobs k → IsIn (out_paths k.recipe) o → is_whole y o kind ≡ is_whole here o kind
      whole k o kind ik io =
          subst (λ z. is_whole z o kind ≡ is_whole here o kind) is_y
          (whole_same read w after formed formed_after o (λ q at. same_at q (go q at (bytes_eq q p) refl)) kind kept)
        where
          none : overlaps o p ≡ false
          none = any_none (overlaps o) (sources here) p (out_holds_none flow here before.lists settings.targets before.jobs complete is.derived k o ik io) named

          touch : (p ≡ o) ⊎ (is_under p o ≡ true) → ⊥
          touch (inl e) = clash_of (overlaps o p) (subst (λ z. overlaps o z ≡ true) (sym e) (or_itself o)) none
            where
              or_itself : (z : Path) → overlaps z z ≡ true
              or_itself z = ap (λ b. b || (is_under z z || is_under z z)) (place_itself z)
          touch (inr u) = clash_of (overlaps o p) (overlaps_over o p u) none

          go : (q : Path) → is_at_or_under q o ≡ true → (b : Bool) → bytes_eq q p ≡ b → b ≡ false
          go q at false e = refl
          go q at true e = absurd (touch (at_or_under_cases p o (subst (λ z. is_at_or_under z o ≡ true) (same_place q p e) at)))

      is_edited : IsEdited flow settings here before p y
      is_edited =
          record {
            complete = complete_y;
            sources = sources_are;
            derived = derived_again flow before.lists settings.targets before.jobs here there complete sources_are is.derived;
            known = known;
            stand = stand;
            others = others;
            whole = whole;
          }

      pub edited_downstream : WasDone flow settings here before p → (now : Plan) → LastPlan flow there settings nothing_done [] now → PlansDownstream p before now
      edited_downstream done now last =
          chain_downstream flow settings here before p done there is_edited [] now
          (subst (λ z. LastPlan flow z settings nothing_done [] now) is_y last) (λ f files h. absurd (none_some files h))

-- ## After a run

pub after_edit : AfterEditOnlyDownstream
after_edit act words w rules entry log before now p bytes time read_only done is_before source is_now =
    edited_downstream record_in exit p bytes time read_only end.formed end.tree source rules.flow rules.settings before parts.0 was now is_now
  where
    exit : World
    exit = run entry log

    end : IsAtEnd rules (is_done act words w rules entry log done).plan (run entry log) (had_begun act words w rules entry log done)
    end = at_end act words w rules entry log done

    parts : IsPlan rules.flow (seen (run entry log)) rules.settings nothing_done before × (new_listings (seen (run entry log)) rules.settings nothing_done before ≡ [])
    parts = last_parts rules.flow (seen (run entry log)) rules.settings nothing_done [] before is_before

    complete : IsComplete (seen (run entry log))
    complete = seen_is_complete record_in (run entry log) end.formed

    reads : rules.read ≡ record_in
    reads = ap (λ (r : Rules). r.read) done.goes_by.rules_are

    last : LastPlan rules.flow (seen (run entry log)) rules.settings nothing_done [] (is_done act words w rules entry log done).plan
    last =
        subst (λ read. LastPlan rules.flow (images.seen read (run entry log)) rules.settings nothing_done [] (is_done act words w rules entry log done).plan) reads
        (chain_again rules.flow rules.settings (images.seen rules.read (run entry log)) (had_begun act words w rules entry log done)
        (seen_is_complete rules.read (run entry log) end.formed) end.unforced [] (is_done act words w rules entry log done).plan end.is_last)

    same : (is_done act words w rules entry log done).plan ≡ before
    same = one_last_plan rules.flow (seen (run entry log)) rules.settings nothing_done [] (is_done act words w rules entry log done).plan before complete last is_before

    was : WasDone rules.flow rules.settings (seen (run entry log)) before p
    was =
        record {
          complete = complete;
          unforced = end.unforced;
          is_plan = parts.0;
          none_new = parts.1;
          listed = chain_listed rules.flow (seen (run entry log)) rules.settings [] before complete (λ f files h. absurd (none_some files h)) is_before;
          clean = subst (λ (q : Plan). Each (λ (s : State). IsTrue (is_clean s)) q.states) same end.clean;
        }
