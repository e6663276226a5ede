-- After a run with status 0 a run with the same words starts nothing: by its plan every job is Clean, so none begins; and while none begins nothing
-- changes that the plan goes by.
use Rattle.std.proofs.Common.{◌≡◌, ◌⊎◌, ◌≤◌, ℕ, Bool, true, false, ◌&&◌, ◌||◌, not, List, [], ◌∷◌, ◌++◌, map, filter, flat_map, zip, refl, sym, ap, subst, ◌∙◌, inl, inr, arith, bytes_eq, IsTrue, IsSome, Option, Some, None, Err, option_map, append_assoc, append-nil, true≢false}
use Rattle.std.specs.Prelude.{is_none, if◌then◌else◌}
use Rattle.std.specs.List.{list_all, list_any}
use Rattle.std.proofs.lemmas.Option.{none-some, same_Some}
use Rattle.smk_base.specs.Path.{is_at_or_under, is_under}
use Rattle.smk_base.specs.Place.{lock_place}
use Rattle.smk_base.specs.declared.tree.Tree.TheVariants.{File, Folder}
use Rattle.smk_base.specs.declared.tree.TreeEntry.{TreeEntry}
use Rattle.smk_base.proofs.Apart.{path_outside}
use Rattle.smk_base.proofs.Under.{at_or_under_cases}
use Rattle.smk_world.specs.declared.event.Node.{Node}
use Rattle.smk_world.specs.declared.event.Node.TheVariants.{Directory, Regular}
use Rattle.smk_world.specs.declared.event.Call.{Call}
use Rattle.smk_world.specs.declared.event.Call.TheVariants.{Removed, Protected, Started, Waited}
use Rattle.smk_world.specs.declared.event.Event.{Event}
use Rattle.smk_world.specs.Folders.{IsTree}
use Rattle.smk_world.specs.Runs.{Follows}
use Rattle.smk_world.specs.World.{World, IsFormed, after, in_paths, is_above, is_within, out_paths, reading, reads, run}
use Rattle.smk_world.specs.Calls.{Lets, failed}
use Rattle.smk_world.specs.Trees.{Path, Act, Each, IsIn, among}
use Rattle.smk_world.specs.Trees.{first as first_reason}
use Rattle.smk_world.proofs.Names.{formed_after, reads_may_stay}
use Rattle.smk_world.proofs.Folders.{tree_run}
use Rattle.smk_world.proofs.Runs.{run_append}
use Rattle.smk_pattern.specs.Shapes.{Text}
use Rattle.smk_flow.specs.declared.job.Job.{Job}
use Rattle.smk_flow.specs.Flows.{Flow}
use Rattle.smk_record.specs.Reading.{record_in}
use Rattle.smk_store.specs.Images.{Content, Image, bytes_of, file_at, image_of, is_directory, is_outside, source_at, tree_now}
use Rattle.smk_store.specs.Safety.{KeepsSound, with_sources}
use Rattle.smk_store.specs.Soundness.{SoundWorld, told}
use Rattle.smk_store.specs.Trust.{Versions}
use Rattle.smk_chain.specs.Derive.{Listings}
use Rattle.smk_trigger.specs.declared.reason.State.{State}
use Rattle.smk_trigger.specs.declared.reason.State.TheVariants.{Open, Dirty, Restore, Clean}
use Rattle.smk_trigger.specs.JobStates.{is_clean, is_open, is_restore, is_to_run}
use Rattle.smk_pick.specs.declared.settings.Force.TheVariants.{No}
use Rattle.smk_pick.specs.declared.settings.Settings.{Settings}
use Rattle.smk_plan.specs.States.{IsPlan, Last, LastPlan, Plan, Progress, Then, awaits, is_at_hand, is_held_back, is_input, is_open_now, is_read_now, is_spent, is_temporary, is_to_restore, job_path, makes_awaited, new_listings, nothing_done, reasons, staged}
use Rattle.smk_drive.specs.Moments.{AtEntry, AtRest, Begun, Between, IsMoment, Moment, Rules, begins, begun_after, begun_of, changes_at, is_child_of, is_closed, is_rest, is_spent_removal, places, progress_of, runs, seen}
use Rattle.smk_drive.specs.Lawful.{first_of, fit_together, is_failed_wait, lock_places, makes_folders, protects}
use Rattle.smk_drive_course.specs.Keeping.{has_start, is_start}
use Rattle.smk_drive_course.specs.Lawful.{BeginsWell, ChangesWell, IsLawfulEvent, MayBegin, StartsWell, WaitsWell, is_free_to_start, may_start, open_places, planned_places}
use Rattle.smk_drive_course.specs.Moments.{AtEachEvent}
use Rattle.smk_laws_plan.specs.Current.{IsComplete}
use Rattle.smk_laws_plan.proofs.CurrentLists.{all_from, and_left, and_right, any_in, flat_in, in_either, none_some, or_cases, zip_first}
use Rattle.smk_laws_plan.proofs.CurrentPaths.{among_in}
use Rattle.smk_laws_protocol.proofs.Basics.{each_in}
use Rattle.smk_laws_history.proofs.CurrentComplete.{seen_is_complete}
use Rattle.smk_laws_history.specs.Histories.{KeepsListed}
use Rattle.smk_words_reading.specs.declared.asked.Asked.TheVariants.{Run, Forget}
use Rattle.smk_words_reading.specs.declared.asked.RunWords.{RunWords}
use Rattle.smk_words_reading.proofs.Whole.{one_asked}
use Rattle.smk_cli_target.specs.Files.{outside}
use Rattle.smk_cli_target.specs.Files as files
use Rattle.smk_cli_target.specs.Ends.{IsDone, IsGoodEntry}
use Rattle.smk_cli_target.specs.Clauses.{NoPath}
use Rattle.smk_cli_target.specs.Thrift.{HasDone, NextRunStartsNone}
use Rattle.smk_cli_target.proofs.Empty.{over_same}
use Rattle.smk_cli_target.proofs.PlanStays.{IsAlike, and_never, chain_again, idle, last_stays, none_kept, plan_stays}
use Rattle.smk_cli_target.proofs.PlanPlaces.{at_lock, out_is_path, place_of, temp_is_out}
use Rattle.smk_cli_target.proofs.SparedWorlds.{HasNoChild, IsGone, IsOver, IsSpared, MayChange, PlacesHere, files_same, inside_same, kept_same, marked_same, noted_same, same_children, spared_on, whole_is}

-- ## Small facts

pub above_in : (q : Path) (ps : List Path) → is_above q ps ≡ true → (r : Path) × IsIn ps r × (is_under r q ≡ true)
above_in q [] h = absurd (true≢false (sym h))
above_in q (p ∷ ps) h = go (or_cases (is_under p q) (is_above q ps) h) (above_in q ps)
  where
    go : (is_under p q ≡ true) ⊎ (is_above q ps ≡ true) → (is_above q ps ≡ true → (r : Path) × IsIn ps r × (is_under r q ≡ true)) →
        (r : Path) × IsIn (p ∷ ps) r × (is_under r q ≡ true)
    go (inl under) deeper = (p, inl refl, under)
    go (inr later) deeper = let r = deeper later in (r.0, inr r.1, r.2)

clean_rests : (s : State) → is_clean s ≡ true → is_to_run s ≡ false
clean_rests Clean h = refl
clean_rests Open h = absurd (true≢false (sym h))
clean_rests (Dirty reasons) h = absurd (true≢false (sym h))
clean_rests Restore h = absurd (true≢false (sym h))

zip_second : {A B : Type 0} (xs : List A) (ys : List B) (x : A) (y : B) → IsIn (zip xs ys) (x, y) → IsIn ys y
zip_second [] ys x y h = absurd h
zip_second (a ∷ xs) [] x y h = absurd h
zip_second {A = A} {B = B} (a ∷ xs) (b ∷ ys) x y (inl e) = inl (ap (λ (p : A × B). p.1) e)
zip_second (a ∷ xs) (b ∷ ys) x y (inr h) = inr (zip_second xs ys x y h)

pub never_any : {A : Type 0} (xs : List A) → list_any (λ x. false) xs ≡ false
never_any [] = refl
never_any (x ∷ xs) = never_any xs

-- where no tree stands nothing does
pub no_tree : (n : Option Node) (entries : List TreeEntry) → (if is_directory n then Some (Folder entries) else option_map File (bytes_of n)) ≡ None → n ≡ None
no_tree None entries h = refl
no_tree (Some Directory) entries h = absurd (none_some (Some (Folder entries)) (Folder entries) h refl)
no_tree (Some (Regular bytes time read_only)) entries h = absurd (none_some (Some (File bytes)) (File bytes) h refl)

pub lock_in : (b : Bool) (q : Path) → IsIn (if b then [] else lock_place ∷ []) q → q ≡ lock_place
lock_in true q i = absurd i
lock_in false q (inl e) = e
lock_in false q (inr i) = absurd i

-- ## The end of a run

-- What holds once a run is done: its plan, by which all jobs are Clean, in a folder that is a tree and in which no child runs.
pub record IsAtEnd (rules : Rules) (plan : Plan) (v : World) (begun : List Path) : Type 0 where
  pub formed : IsFormed v
  pub tree : IsTree v
  pub no_child : v.children ≡ []
  pub unforced : rules.settings.force ≡ No
  pub is_last : LastPlan rules.flow (seen rules v) rules.settings (idle begun) [] plan
  pub is_plan : IsPlan rules.flow (seen rules v) rules.settings (idle begun) plan
  pub none_new : new_listings (seen rules v) rules.settings (idle begun) plan ≡ []
  pub clean : Each (λ (s : State). IsTrue (is_clean s)) plan.states
  pub none_spent :
      (p : Path) (e : Job × State) →
      IsIn (staged plan) e → is_spent (seen rules v) rules.settings (idle begun) plan e p ≡ true → tree_now (seen rules v) p ≡ None

module _ (rules : Rules) (plan : Plan) (v : World) (begun : List Path) (end : IsAtEnd rules plan v begun) where
  pub complete : IsComplete (seen rules v)
  complete = seen_is_complete rules.read v end.formed

  abbrev IsSparedHere : World → Type 0
  IsSparedHere w = IsSpared rules.read rules.flow v plan.lists rules.settings.targets plan.jobs complete end.is_plan.derived w

  abbrev IsOverHere : Path → Type 0
  IsOverHere q = IsOver rules.read rules.flow v plan.lists rules.settings.targets plan.jobs complete end.is_plan.derived q

  abbrev PlaceHere : Path → Type 0
  PlaceHere r = PlacesHere rules.read rules.flow v plan.lists rules.settings.targets plan.jobs complete end.is_plan.derived r

  job_of : (e : Job × State) → IsIn (staged plan) e → IsIn plan.jobs e.0
  job_of (k, s) i = zip_first plan.jobs plan.states k s i

  rests : (e : Job × State) → IsIn (staged plan) e → is_to_run e.1 ≡ false
  rests (k, s) i = clean_rests s (each_in (λ (s : State). IsTrue (is_clean s)) plan.states s end.clean (zip_second plan.jobs plan.states k s i))

  -- ## What is spent is gone

  unread : (image : Image) (settings : Settings) (done : List Path) (j : Job) → is_read_now image settings (idle done) plan j ≡ false
  unread image settings done j = never_any plan.jobs

  not_held : (image : Image) (settings : Settings) (done : List Path) (j : Job) → is_held_back image settings (idle done) plan j ≡ false
  not_held image settings done j =
      go (is_open_now image settings (idle done) plan j) (is_none (first_reason (reasons image settings (idle done) plan j)))
      (is_to_restore image settings (idle done) plan j) (is_read_now image settings (idle done) plan j) (unread image settings done j)
    where
      go : (opens none restore read : Bool) → read ≡ false → (not opens && (none && (restore && read))) ≡ false
      go true none restore read h = refl
      go false true true read h = h
      go false true false read h = refl
      go false false restore read h = refl

  held_same : (w : World) → list_all (λ j. not (is_held_back (seen rules w) rules.settings nothing_done plan j)) plan.jobs ≡ list_all (λ j. not (is_held_back (seen rules v) rules.settings (idle begun) plan j)) plan.jobs
  held_same w =
      all_from (λ j. not (is_held_back (seen rules w) rules.settings nothing_done plan j)) plan.jobs (λ j i. ap not (not_held (seen rules w) rules.settings [] j))
      ∙ sym (all_from (λ j. not (is_held_back (seen rules v) rules.settings (idle begun) plan j)) plan.jobs (λ j i. ap not (not_held (seen rules v) rules.settings begun j)))

  pub spent_same : (w : World) (e : Job × State) (p : Path) → is_spent (seen rules w) rules.settings nothing_done plan e p ≡ is_spent (seen rules v) rules.settings (idle begun) plan e p
  spent_same w e p =
      λ n.
      is_temporary (seen rules v) rules.settings (idle begun) plan e.0 p
      && (not (among rules.settings.targets p)
      && (is_clean e.1
      && (not (is_input plan (λ k. not (is_clean k.1)) p)
      && (list_all (λ (s : State). not (is_open s) && not (is_restore s)) plan.states && held_same w n))))

  module _ (w : World) (spared : IsSparedHere w) where
    gone : (e : Job × State) (p : Path) → IsIn (staged plan) e → is_spent (seen rules w) rules.settings nothing_done plan e p ≡ true →
        (q : Path) → is_at_or_under q p ≡ true → reading (w.nodes q) ≡ None
    gone e p i spent q at =
        inside_same rules.read rules.flow v plan.lists rules.settings.targets plan.jobs complete end.is_plan.derived w spared e.0 p q (job_of e i) out at
        ∙ here (at_or_under_cases q p at)
      where
        temp : IsIn e.0.temps p
        temp =
            among_in e.0.temps p
            (and_left (among e.0.temps p) (not (makes_awaited (seen rules w) rules.settings nothing_done plan e.0))
            (and_left (is_temporary (seen rules w) rules.settings nothing_done plan e.0 p) _ spent))

        out : IsIn (out_paths e.0.recipe) p
        out = temp_is_out rules.flow (seen rules v) plan.lists rules.settings.targets plan.jobs complete end.is_plan.derived e.0 p (job_of e i) temp

        outside : is_outside p ≡ true
        outside =
            ap not
            (path_outside p (out_is_path rules.flow (seen rules v) plan.lists rules.settings.targets plan.jobs complete end.is_plan.derived e.0 p (job_of e i) out))

        nothing : reading (v.nodes p) ≡ None
        nothing =
            sym (ap (λ b. if b then reading (v.nodes p) else None) outside)
            ∙ no_tree ((seen rules v).node p) _ (end.none_spent p e i (sym (spent_same w e p) ∙ spent))

        under : (n : Option Node) → reading (v.nodes q) ≡ n → is_under q p ≡ true → n ≡ None
        under None is u = refl
        under (Some n) is u = absurd (none_some (reading (v.nodes p)) Directory nothing ((end.tree q (subst IsSome (sym is) refl)).folders p u))

        here : (q ≡ p) ⊎ (is_under q p ≡ true) → reading (v.nodes q) ≡ None
        here (inl same) = ap (λ x. reading (v.nodes x)) same ∙ nothing
        here (inr u) = under (reading (v.nodes q)) refl u

  -- ## The plan stays

  module _ (w : World) (formed : IsFormed w) (spared : IsSparedHere w) where
    abbrev Alike : Type 0
    Alike = IsAlike rules.flow rules.settings plan (seen rules v) (seen rules w)

    alike : Alike
    alike =
        record {
          complete = seen_is_complete rules.read w formed;
          files = files_same rules.read rules.flow v plan.lists rules.settings.targets plan.jobs complete end.is_plan.derived w spared;
          whole = λ k p kind ik o.
              whole_is rules.read rules.flow v plan.lists rules.settings.targets plan.jobs complete end.is_plan.derived w spared end.formed formed k p kind ik o;
        }

    kept : (seen rules v).kept ≡ (seen rules w).kept
    kept = kept_same rules.read rules.flow v plan.lists rules.settings.targets plan.jobs complete end.is_plan.derived w spared

    marked : (seen rules v).marked ≡ (seen rules w).marked
    marked = marked_same rules.read rules.flow v plan.lists rules.settings.targets plan.jobs complete end.is_plan.derived w spared

    noted : (seen rules v).noted ≡ (seen rules w).noted
    noted = noted_same rules.read rules.flow v plan.lists rules.settings.targets plan.jobs complete end.is_plan.derived w spared

    last_still : LastPlan rules.flow (seen rules w) rules.settings nothing_done plan.lists plan
    last_still =
        Last plan
        (plan_stays rules.flow rules.settings plan (seen rules v) complete end.unforced begun end.is_plan (seen rules w) kept marked noted alike)
        (last_stays rules.flow rules.settings plan (seen rules v) complete end.unforced begun end.is_plan (seen rules w) kept marked noted end.none_new alike)

  -- ## Moments

  abbrev moment : List Event → Listings → World → Moment
  moment events from w = record { events = events; world = w; begun = []; from = from; lists = plan.lists; plan = Some plan }

  -- nothing may start
  nothing_starts : (events : List Event) (from : Listings) (w : World) → may_start rules (moment events from w) ≡ []
  nothing_starts events from w =
      ap (λ es. es ++ [])
      (none_kept (λ (e : Job × State). is_free_to_start rules (moment events from w) plan e && fit_together rules (e.0 ∷ [])) (staged plan)
      (λ e i. ap (λ b.
      ((b && list_all (is_at_hand (seen rules w) rules.settings nothing_done plan) (in_paths e.0.recipe ++ awaits plan e.0))
      && not (is_read_now (seen rules w) rules.settings nothing_done plan e.0))
      && fit_together rules (e.0 ∷ [])) (rests e i)))

  module _ (events : List Event) (from : Listings) (w : World) (e : Event) where
    abbrev m : Moment
    m = moment events from w

    none_begins : BeginsWell rules m e → filter (λ (k : Job × State). begins rules m e k.0) (staged plan) ≡ []
    none_begins well =
        none_kept (λ (k : Job × State). begins rules m e k.0) (staged plan)
        (λ k i. go k (begins rules m e k.0) refl (each_in (λ (k : Job × State). IsTrue (begins rules m e k.0) → MayBegin rules m k) (staged plan) k well i))
      where
        go : (k : Job × State) (b : Bool) → begins rules m e k.0 ≡ b → (IsTrue (begins rules m e k.0) → MayBegin rules m k) → begins rules m e k.0 ≡ false
        go k false is h = is
        go k true is h = absurd (none_some (first_of (may_start rules m)) k (ap first_of (nothing_starts events from w)) (h is).first)

    -- so none has begun
    none_begun : BeginsWell rules m e → begun_after rules v m e ≡ []
    none_begun well = ap (map (begun_of rules v m)) (none_begins well)

    module _ (none : begun_after rules v m e ≡ []) (spared : IsSparedHere w) where
      none_open : open_places rules v m e ≡ []
      none_open = ap (λ bs. flat_map (λ (b : Begun). places b.job ++ b.job.logs) (filter (λ (b : Begun). not (is_closed w b)) bs)) none

      over : (q : Path) → (r : Path) × IsIn (lock_places rules ++ (planned_places rules m ++ open_places rules v m e)) r × (is_under r q ≡ true) → IsOverHere q
      over q (r, i, u) = (r, place (in_either r (lock_places rules) (planned_places rules m ++ open_places rules v m e) i), u)
        where
          planned : IsIn (planned_places rules m) r ⊎ IsIn (open_places rules v m e) r → PlaceHere r
          planned (inl p) =
              let k = flat_in (λ (k : Job × State). places k.0 ++ k.0.logs) (staged plan) r p in
              place_of rules.flow (seen rules v) plan.lists rules.settings.targets plan.jobs complete end.is_plan.derived k.0.0 r (job_of k.0 k.1) k.2
          planned (inr o) = absurd (subst (λ ps. IsIn ps r) none_open o)

          place : IsIn (lock_places rules) r ⊎ IsIn (planned_places rules m ++ open_places rules v m e) r → PlaceHere r
          place (inl l) =
              subst PlaceHere (sym (lock_in rules.nolock r l))
              (at_lock rules.flow (seen rules v) plan.lists rules.settings.targets plan.jobs complete end.is_plan.derived)
          place (inr p) = planned (in_either r (planned_places rules m) (open_places rules v m e) p)

      unprotected : (c : Call) (q : Path) → protects rules m c q ≡ false
      unprotected (Protected p r) q = and_never (bytes_eq p q)
      unprotected c q = refl

      removal : (c : Call) → is_spent_removal rules m c ≡ true → IsGone IsOverHere w c
      removal (Removed p r) s =
          let e = any_in (λ (e : Job × State). is_spent (seen rules w) rules.settings nothing_done plan e p) (staged plan) s in λ q at. gone w spared e.0 p e.1 e.2 q at
      removal c s = absurd (true≢false (sym s))

      -- what the event may change
      may_change : ChangesWell rules v m e → (q : Path) → changes_at e.call w e.left q ≡ true → MayChange IsOverHere w e.call q
      may_change well q h = first (or_cases (among (lock_places rules) q) _ (well q h))
        where
          folders : Bool
          folders = makes_folders e.call && is_above q (lock_places rules ++ (planned_places rules m ++ open_places rules v m e))

          fourth : (is_spent_removal rules m e.call ≡ true) ⊎ (protects rules m e.call q ≡ true) → MayChange IsOverHere w e.call q
          fourth (inl s) = inr (inr (removal e.call s))
          fourth (inr p) = absurd (true≢false (sym p ∙ unprotected e.call q))

          third : (folders ≡ true) ⊎ ((is_spent_removal rules m e.call || protects rules m e.call q) ≡ true) → MayChange IsOverHere w e.call q
          third (inl f) =
              inr (inl (and_left (makes_folders e.call) (is_above q (lock_places rules ++ (planned_places rules m ++ open_places rules v m e))) f, over q (above_in q (lock_places rules ++ (planned_places rules m ++ open_places rules v m e)) (and_right (makes_folders e.call) (is_above q (lock_places rules ++ (planned_places rules m ++ open_places rules v m e))) f))))
          third (inr x) = fourth (or_cases (is_spent_removal rules m e.call) (protects rules m e.call q) x)

          second : (is_within q (open_places rules v m e) ≡ true) ⊎ ((folders || (is_spent_removal rules m e.call || protects rules m e.call q)) ≡ true) → MayChange IsOverHere w e.call q
          second (inl o) = absurd (true≢false (sym (subst (λ ps. is_within q ps ≡ true) none_open o)))
          second (inr x) = third (or_cases folders (is_spent_removal rules m e.call || protects rules m e.call q) x)

          first :
              (among (lock_places rules) q ≡ true) ⊎ ((is_within q (open_places rules v m e) || (folders || (is_spent_removal rules m e.call || protects rules m e.call q))) ≡ true) →
              MayChange IsOverHere w e.call q
          first (inl l) = inl (lock_in rules.nolock q (among_in (lock_places rules) q l))
          first (inr x) = second (or_cases (is_within q (open_places rules v m e)) (folders || (is_spent_removal rules m e.call || protects rules m e.call q)) x)

      no_child : w.children ≡ [] → (c : Call) → StartsWell rules v m e c → WaitsWell rules m c → HasNoChild IsOverHere c
      no_child alone (Started recipe logs command r) s waits = subst (λ bs. IsIn bs s.0) none s.1
      no_child alone (Waited r) s waits = waits alone
      no_child alone c s waits = tt

  not_started : (c : Call) → HasNoChild IsOverHere c → is_start c ≡ false
  not_started (Started recipe logs command r) alone = absurd alone
  not_started c alone = refl

  -- the moment after these events: no job has begun, and the plan is in force
  pub record IsSoFar (events : List Event) (from : Listings) (w : World) : Type 0 where
    pub is : IsMoment rules v events (moment events from w)
    pub formed : IsFormed w
    pub spared : IsSparedHere w
    pub alone : w.children ≡ []

  pub at_start : IsSoFar [] [] v
  at_start =
      record {
        is = AtEntry (Some plan) (chain_again rules.flow rules.settings (seen rules v) begun complete end.unforced [] plan end.is_last);
        formed = end.formed;
        spared = λ q. inl refl;
        alone = end.no_child;
      }

  go_on :
      (act : Act) (events : List Event) (from : Listings) (w : World) (e : Event) → IsSoFar events from w → Lets act w e.call e.left →
      IsLawfulEvent rules v (moment events from w) e → IsSoFar (events ++ e ∷ []) plan.lists (after w e) × (is_start e.call ≡ false)
  go_on act events from w e far lets law =
      let none = none_begun events from w e law.begins in
      let alone = no_child events from w e none far.spared far.alone e.call law.starts law.waits in
      let spared = spared_on rules.read rules.flow v plan.lists rules.settings.targets plan.jobs complete end.is_plan.derived act w e.call e.left far.spared lets alone (may_change events from w e none far.spared law.changes) in
      let formed = formed_after w e far.formed in (
        record {
          is = subst
              (λ bs. IsMoment rules v (events ++ e ∷ []) (record {
                events = events ++ e ∷ [];
                world = after w e;
                begun = bs;
                from = plan.lists;
                lists = plan.lists;
                plan = Some plan;
              }))
              none
              (AtRest events (moment events from w) e (Some plan) far.is (ap (is_rest (after w e)) none)
              (subst (λ bs. LastPlan rules.flow (seen rules (after w e)) rules.settings (progress_of (after w e) bs) plan.lists plan) (sym none) (last_still (after w e) formed spared)));
          formed = formed;
          spared = spared;
          alone = same_children IsOverHere w e.left e.call alone ∙ far.alone;
        },
        not_started e.call alone,
      )

  pub none_started :
      (act : Act) (again : List Event) → AtEachEvent rules v again (IsLawfulEvent rules v) →
      (log events : List Event) (from : Listings) (w : World) → IsSoFar events from w → again ≡ events ++ log → Follows act w log → has_start log ≡ false
  none_started act again lawful [] events from w far split follows = refl
  none_started act again lawful (e ∷ es) events from w far split follows =
      let next = go_on act events from w e far follows.0.lets (lawful events e es (moment events from w) split far.is) in
      ap (λ b. b || has_start es) next.1
      ∙ none_started act again lawful es (events ++ e ∷ []) plan.lists (after w e) next.0 (split ∙ sym (append_assoc events (e ∷ []) es)) follows.1

-- ## A run after it

pub moment_world : (rules : Rules) (entry : World) (events : List Event) (m : Moment) → IsMoment rules entry events m → m.world ≡ run entry events
moment_world rules entry _ _ (AtEntry plan force) = refl
moment_world rules entry _ _ (AtRest events m e plan is rest force) =
    ap (λ u. after u e) (moment_world rules entry events m is) ∙ sym (run_append entry events (e ∷ []))
moment_world rules entry _ _ (Between events m e is rest) =
    ap (λ u. after u e) (moment_world rules entry events m is) ∙ sym (run_append entry events (e ∷ []))

idle_so : (u : World) (bs : List Begun) → u.children ≡ [] → progress_of u bs ≡ idle (map (λ (b : Begun). job_path b.job) bs)
idle_so u bs alone =
    λ n.
    record {
      begun = map (λ (b : Begun). job_path b.job) bs;
      running = map (λ (b : Begun). (job_path b.job, b.state)) (none_kept (λ (b : Begun). runs u b.job) bs (λ b i. ap (λ cs. list_any (is_child_of b.job) cs) alone) n);
    }

pub last_parts :
    (flow : Flow) (image : Image) (settings : Settings) (progress : Progress) (L : Listings) (plan : Plan) → LastPlan flow image settings progress L plan →
    IsPlan flow image settings progress plan × (new_listings image settings progress plan ≡ [])
last_parts flow image settings progress _ _ (Last p is done) = (is, done)
last_parts flow image settings progress _ _ (Then p last is more rest) = last_parts flow image settings progress _ last rest

wait_failed : (c : Call) → is_failed_wait c ≡ true → failed c ≡ true
wait_failed (Waited (Err e)) h = refl
wait_failed c h = absurd (true≢false (sym h))

not_both_asked : (paths : List Path) (nolock : Bool) (w : RunWords) → Forget paths nolock ≡ Run w → ⊥
not_both_asked paths nolock w h = cc

below_one : (n : ℕ) → n ≡ 0 → n ≤ 1
below_one n h = omega arith

-- where no path is forgotten the sources are those of the entry
none_forgotten :
    (entry image : Image) (p : Path) →
    (option_map told (source_at image p) ≡ option_map told (source_at entry p)) ⊎ (IsTrue (is_within p []) × (source_at image p ≡ file_at image p)) →
    option_map told (source_at image p) ≡ option_map told (source_at entry p)
none_forgotten entry image p (inl same) = same
none_forgotten entry image p (inr (there, file)) = absurd (true≢false (sym there))

-- the versions have a source that stood before
told_before :
    (H : Versions) (p : Path) (g : Content) (c : Option Content) → option_map told c ≡ Some (told g) →
    ((f : Content) → c ≡ Some f → H p f.time ≡ Some f.bytes) → H p g.time ≡ Some g.bytes
told_before H p g None same has = absurd (none-some (told g) same)
told_before H p g (Some f) same has = subst (λ (x : List ℕ × ℕ). H p x.1 ≡ Some x.0) (same_Some (told f) (told g) same) (has f refl)

module _ (act : Act) (words : List Text) (w : RunWords) (rules : Rules) (entry : World) (log : List Event) (done : HasDone act words w rules entry log) where
  abbrev exit : World
  exit = run entry log

  low : done.outcome.status ≤ 1
  low = below_one done.outcome.status done.done

  pub is_done : IsDone rules entry log
  is_done = (done.has_text.of_run done.good low w rules done.asked done.goes_by).done done.done

  all_ended : exit.children ≡ []
  all_ended = go (done.met.has_log.of_run done.good w rules done.asked done.goes_by).lawful.all_waited
    where
      go : (exit.children ≡ []) ⊎ ((e : Event) × IsIn log e × IsTrue (is_failed_wait e.call)) → exit.children ≡ []
      go (inl none) = none
      go (inr (e, i, waited)) =
          absurd (true≢false (sym (wait_failed e.call waited) ∙ each_in (λ (e : Event). failed e.call ≡ false) log e (done.met.has_log.quiet low) i))

  keeps : KeepsSound (outside act) entry log [] true × KeepsListed (outside act) entry log true
  keeps =
      done.met.has_log.crashes done.good [] true
      (NoPath (λ paths nolock asked. not_both_asked paths nolock w (one_asked words (Forget paths nolock) (Run w) asked done.asked))) (λ h. inl refl)

  abbrev H : Versions
  H = done.good.versions

  sound_exit : SoundWorld (outside act) exit (with_sources H (files.seen exit))
  sound_exit = keeps.0.sound_at_exit H done.good.differ done.good.sound refl all_ended

  -- each source of the exit is one of the entry
  same_told : (p : Path) → option_map told (source_at (files.seen exit) p) ≡ option_map told (source_at (files.seen entry) p)
  same_told p =
      let leaves = reads_may_stay exit sound_exit.formed in
      let left = keeps.0.safe H done.good.differ done.good.sound log [] (sym (append-nil log)) (reads exit) leaves in
      sym (sound_exit.same_sources (reads exit) leaves p) ∙ none_forgotten (files.seen entry) (image_of record_in (reads exit)) p (left.1 p)

  -- so nothing is put to the versions
  stay : (p : Path) (t : ℕ) → with_sources H (files.seen exit) p t ≡ H p t
  stay p t =
      over_same H p t (source_at (files.seen exit) p) (λ g is.
      told_before H p g (source_at (files.seen entry) p) (sym (same_told p) ∙ ap (option_map told) is) (λ f was. done.good.sound.now.has_sources p f was))

  -- the exit is a good entry for the next call
  pub good_exit : IsGoodEntry act exit
  good_exit =
      record {
        versions = with_sources H (files.seen exit);
        differ = λ p q t u a b had has. done.good.differ p q t u a b (sym (stay p t) ∙ had) (sym (stay q u) ∙ has);
        sound = sound_exit;
        tree = tree_run act entry log done.good.tree done.met.follows;
        listed =
            record {
              now = keeps.1.at_exit H done.good.differ done.good.sound done.good.listed refl all_ended;
              after_crash = keeps.1.throughout H done.good.differ done.good.sound done.good.listed log [] (sym (append-nil log));
            };
      }

  world_is : is_done.last.world ≡ exit
  world_is = moment_world rules entry log is_done.last is_done.is_last

  abbrev pub had_begun : List Path
  had_begun = map (λ (b : Begun). job_path b.job) is_done.last.begun

  progress_is : progress_of exit is_done.last.begun ≡ idle had_begun
  progress_is = idle_so exit is_done.last.begun all_ended

  is_last : LastPlan rules.flow (seen rules exit) rules.settings (idle had_begun) [] is_done.plan
  is_last =
      subst (λ x. LastPlan rules.flow (seen rules exit) rules.settings x [] is_done.plan) progress_is
      (subst (λ u. LastPlan rules.flow (seen rules u) rules.settings (progress_of u is_done.last.begun) [] is_done.plan) world_is is_done.is_plan)

  none_spent_here :
      (p : Path) (e : Job × State) → IsIn (staged is_done.plan) e →
      is_spent (seen rules exit) rules.settings (idle had_begun) is_done.plan e p ≡ true → tree_now (seen rules exit) p ≡ None
  none_spent_here p e i =
      subst (λ x. is_spent (seen rules exit) rules.settings x is_done.plan e p ≡ true → tree_now (seen rules exit) p ≡ None) progress_is
      (subst (λ u. is_spent (seen rules u) rules.settings (progress_of u is_done.last.begun) is_done.plan e p ≡ true → tree_now (seen rules u) p ≡ None) world_is
      (each_in
      (λ (e : Job × State). IsTrue (is_spent (seen rules is_done.last.world) rules.settings (progress_of is_done.last.world is_done.last.begun) is_done.plan e p) → tree_now (seen rules is_done.last.world) p ≡ None)
      (staged is_done.plan) e (is_done.none_spent p) i))

  pub at_end : IsAtEnd rules is_done.plan exit had_begun
  at_end =
      let parts = last_parts rules.flow (seen rules exit) rules.settings (idle had_begun) [] is_done.plan is_last in
      record {
        formed = good_exit.sound.formed;
        tree = good_exit.tree;
        no_child = all_ended;
        unforced = ap (λ (r : Rules). r.settings.force) done.goes_by.rules_are ∙ done.unforced;
        is_last = is_last;
        is_plan = parts.0;
        none_new = parts.1;
        clean = is_done.all_clean;
        none_spent = none_spent_here;
      }

pub next_run_starts_none : NextRunStartsNone
next_run_starts_none act words w rules entry log again outcome old new out_old out_new done by met =
    let end = at_end act words w rules entry log done in
    let lawful = (met.has_log.of_run (good_exit act words w rules entry log done) w rules done.asked by).lawful in
    let plan = (is_done act words w rules entry log done).plan in
    let begun = had_begun act words w rules entry log done in
    none_started rules plan (run entry log) begun end act again lawful.each again [] [] (run entry log) (at_start rules plan (run entry log) begun end) refl met.follows
