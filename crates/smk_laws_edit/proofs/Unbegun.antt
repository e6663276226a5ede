-- An event of a lawful log changes the record and the mark of a path only where a job that makes it has begun.
use Rattle.std.specs.List.{list_any}
use Rattle.std.specs.Prelude.{if◌then◌else◌, nat_eq}
use Rattle.std.proofs.Common.{◌≡◌, ◌⊎◌, Bool, true, false, ◌&&◌, ◌||◌, not, List, [], ◌∷◌, ◌++◌, map, filter, refl, sym, ap, subst, ◌∙◌, inl, inr, bytes_eq, Option, Some, None, Ok, Err, append_assoc, is_some, true≢false}
use Rattle.smk_base.specs.Path.{is_at_or_under, is_path, is_under}
use Rattle.smk_base.specs.Place.{lock_place, mark_place, note_place, record_place}
use Rattle.smk_base.proofs.Apart.{mark-lock, mark-mark, mark-note, mark_under_mark, path-mark, path-record, record-lock, record-mark, record-note, record-record, record_under_record}
use Rattle.smk_base.proofs.Places.{place_itself, same_place}
use Rattle.smk_base.proofs.Under.{at_itself, never_both}
use Rattle.smk_world.specs.Calls.{Lets}
use Rattle.smk_world.specs.Runs.{Follows}
use Rattle.smk_world.specs.Trees.{Act, IsIn, Path, among, is_path_text}
use Rattle.smk_world.specs.World.{World, IsFormed, after, is_above, is_within, out_paths, reading, run}
use Rattle.smk_world.specs.declared.event.Call.TheVariants.{Created, Looked, MadeParents, Protected, ReadFile, ReadFolder, Removed, Settled, Started, Waited, Written}
use Rattle.smk_world.specs.declared.event.Call.{Call}
use Rattle.smk_world.specs.declared.event.Child.{Child}
use Rattle.smk_world.specs.declared.event.Event.{Event}
use Rattle.smk_world.proofs.Names.{formed_after}
use Rattle.smk_flow.specs.declared.job.Job.{Job}
use Rattle.smk_store.specs.Images.{kept_by}
use Rattle.smk_store.specs.declared.store.Kept.TheVariants.{Absent}
use Rattle.smk_chain.specs.Derive.{Listings}
use Rattle.smk_trigger.specs.declared.reason.State.{State}
use Rattle.smk_plan.specs.States.{Plan, is_spent, is_temporary, staged, test_some}
use Rattle.smk_laws_plan.proofs.CurrentLists.{and_left, and_right, any_from, any_in, clash_of, filter_in, flat_in, in_either, in_left, in_map, in_right, map_in, or_cases, zip_first}
use Rattle.smk_laws_plan.proofs.CurrentPaths.{among_in, in_among}
use Rattle.smk_drive.specs.Lawful.{lock_places, makes_folders, protects}
use Rattle.smk_drive.specs.Moments.{AtEntry, AtRest, Begun, Between, IsInForce, IsMoment, Moment, Rules, begins, begun_after, begun_of, changes_at, ending, is_child_of, is_closed, is_closed_well, is_spent_removal, places, progress_of, seen, staged_now, with_end}
use Rattle.smk_laws_history.proofs.CurrentComplete.{seen_is_complete}
use Rattle.smk_drive_course.specs.Lawful.{IsLawfulEvent, open_places, planned_places}
use Rattle.smk_drive_course.specs.Moments.{AtEachEvent}
use Rattle.smk_cli_target.proofs.NextRun.{above_in, last_parts, lock_in, moment_world}
use Rattle.smk_cli_target.proofs.PlanPlaces.{guard_is_out, log_is_path, out_is_path, temp_is_out}
use Rattle.smk_laws_edit.specs.Unbegun.{UnbegunStay, is_output_of}
use Rattle.smk_laws_edit.proofs.StillReads.{still_reads}

-- ## Places of jobs

-- its outputs and logs are paths
abbrev HasPaths : Job → Type 0
HasPaths j = (r : Path) → IsIn (out_paths j.recipe ++ j.logs) r → is_path r ≡ true

-- A record or a mark of the path o: no path lies at, under or above it, nor do the lock, notes, and records and marks of other paths.
record IsOwnOf (o q : Path) : Type 0 where
  pub off_lock : bytes_eq q lock_place ≡ false
  pub over_lock : is_under lock_place q ≡ false
  pub off_path : (r : Path) → is_path r ≡ true → is_at_or_under q r ≡ false
  pub over_path : (r : Path) → is_path r ≡ true → is_under r q ≡ false
  pub off_mark : (p : Path) → is_at_or_under q (mark_place p) ≡ true → p ≡ o
  pub over_mark : (p : Path) → is_under (mark_place p) q ≡ false
  pub off_record : (p : Path) → is_at_or_under q (record_place p) ≡ true → p ≡ o
  pub over_record : (p : Path) → is_under (record_place p) q ≡ false
  pub off_note : (p : Path) → is_at_or_under q (note_place p) ≡ false
  pub over_note : (p : Path) → is_under (note_place p) q ≡ false

own_record : (o : Path) → IsOwnOf o (record_place o)
own_record o =
    record {
      off_lock = (record-lock o).differs;
      over_lock = (record-lock o).over;
      off_path = λ r h. (path-record r o h).at_or_over;
      over_path = λ r h. (path-record r o h).under;
      off_mark = λ p h. absurd (never_both _ h (record-mark o p).at_or_under);
      over_mark = λ p. (record-mark o p).over;
      off_record = λ p h. go p (bytes_eq p o) refl h;
      over_record = λ p. record_under_record p o;
      off_note = λ p. (record-note o p).at_or_under;
      over_note = λ p. (record-note o p).over;
    }
  where
    go : (p : Path) (b : Bool) → bytes_eq p o ≡ b → is_at_or_under (record_place o) (record_place p) ≡ true → p ≡ o
    go p true e h = same_place p o e
    go p false e h = absurd (never_both _ h (record-record o p (λ same. clash_of (bytes_eq p o) (subst (λ z. bytes_eq p z ≡ true) (sym same) (place_itself p)) e)).at_or_under)

own_mark : (o : Path) → IsOwnOf o (mark_place o)
own_mark o =
    record {
      off_lock = (mark-lock o).differs;
      over_lock = (mark-lock o).over;
      off_path = λ r h. (path-mark r o h).at_or_over;
      over_path = λ r h. (path-mark r o h).under;
      off_mark = λ p h. go p (bytes_eq p o) refl h;
      over_mark = λ p. mark_under_mark p o;
      off_record = λ p h. absurd (never_both _ h (record-mark p o).at_or_over);
      over_record = λ p. (record-mark p o).under;
      off_note = λ p. (mark-note o p).at_or_under;
      over_note = λ p. (mark-note o p).over;
    }
  where
    go : (p : Path) (b : Bool) → bytes_eq p o ≡ b → is_at_or_under (mark_place o) (mark_place p) ≡ true → p ≡ o
    go p true e h = same_place p o e
    go p false e h = absurd (never_both _ h (mark-mark o p (λ same. clash_of (bytes_eq p o) (subst (λ z. bytes_eq p z ≡ true) (sym same) (place_itself p)) e)).at_or_under)

module _ (o q : Path) (own : IsOwnOf o q) (j : Job) (paths : HasPaths j) where
  outs_path : (r : Path) → IsIn (out_paths j.recipe) r → is_path r ≡ true
  outs_path r i = paths r (in_left r (out_paths j.recipe) j.logs i)

  logs_path : (r : Path) → IsIn j.logs r → is_path r ≡ true
  logs_path r i = paths r (in_right r (out_paths j.recipe) j.logs i)

  -- which of a job's places it is
  at_place : (P : Path → Type 0) → ((r : Path) → is_path r ≡ true → P r) → ((p : Path) → IsIn (out_paths j.recipe) p → P (mark_place p)) →
      ((p : Path) → IsIn (out_paths j.recipe) p → P (record_place p)) → ((p : Path) → P (note_place p)) → (r : Path) → IsIn (places j ++ j.logs) r → P r
  at_place P of_path of_mark of_record of_note r i = go (in_either r (places j) j.logs i)
    where
      marks : List Path
      marks = map mark_place (out_paths j.recipe)

      records : List Path
      records = map record_place (out_paths j.recipe)

      notes : List Path
      notes = map note_place j.logs

      last : IsIn records r ⊎ IsIn notes r → P r
      last (inl m) = let p = map_in record_place (out_paths j.recipe) r m in subst P (sym p.2) (of_record p.0 p.1)
      last (inr n) = let p = map_in note_place j.logs r n in subst P (sym p.2) (of_note p.0)

      later : IsIn marks r ⊎ IsIn (records ++ notes) r → P r
      later (inl m) = let p = map_in mark_place (out_paths j.recipe) r m in subst P (sym p.2) (of_mark p.0 p.1)
      later (inr n) = last (in_either r records notes n)

      first : IsIn (out_paths j.recipe) r ⊎ IsIn (marks ++ (records ++ notes)) r → P r
      first (inl k) = of_path r (outs_path r k)
      first (inr n) = later (in_either r marks (records ++ notes) n)

      go : IsIn (places j) r ⊎ IsIn j.logs r → P r
      go (inl p) = first (in_either r (out_paths j.recipe) (marks ++ (records ++ notes)) p)
      go (inr l) = of_path r (logs_path r l)

  -- it lies at a job's place only where the job makes o
  at_makes : (r : Path) → IsIn (places j ++ j.logs) r → is_at_or_under q r ≡ true → IsIn (out_paths j.recipe) o
  at_makes =
      at_place (λ r. is_at_or_under q r ≡ true → IsIn (out_paths j.recipe) o) (λ r h at. absurd (never_both _ at (own.off_path r h)))
      (λ p i at. subst (IsIn (out_paths j.recipe)) (own.off_mark p at) i) (λ p i at. subst (IsIn (out_paths j.recipe)) (own.off_record p at) i)
      (λ p at. absurd (never_both _ at (own.off_note p)))

  -- and above none
  over_none : (r : Path) → IsIn (places j ++ j.logs) r → is_under r q ≡ false
  over_none = at_place (λ r. is_under r q ≡ false) own.over_path (λ p i. own.over_mark p) (λ p i. own.over_record p) own.over_note

-- ## Jobs of a log

-- what has a flag is a path too
record IsPlain (j : Job) : Type 0 where
  pub paths : HasPaths j
  pub temps : (r : Path) → IsIn j.temps r → is_path r ≡ true
  pub guards : (r : Path) → IsIn j.guards r → is_path r ≡ true

within_in : (q : Path) (ps : List Path) → is_within q ps ≡ true → (r : Path) × IsIn ps r × (is_at_or_under q r ≡ true)
within_in q [] h = absurd (true≢false (sym h))
within_in q (p ∷ ps) h = go (or_cases (is_at_or_under q p) (is_within q ps) h) (within_in q ps)
  where
    go : (is_at_or_under q p ≡ true) ⊎ (is_within q ps ≡ true) → (is_within q ps ≡ true → (r : Path) × IsIn ps r × (is_at_or_under q r ≡ true)) →
        (r : Path) × IsIn (p ∷ ps) r × (is_at_or_under q r ≡ true)
    go (inl at) deeper = (p, inl refl, at)
    go (inr later) deeper = let r = deeper later in (r.0, inr r.1, r.2)

same_job : (rules : Rules) (w u : World) (c : Call) (b : Begun) → (with_end rules w u c b).job ≡ b.job
same_job rules w u (Waited (Ok end)) b = go (list_any (λ (c : Child). nat_eq c.number end.number && is_child_of b.job c) w.children)
  where
    go : (t : Bool) → (if t then (record b { ended = Some (ending (seen rules u) b.job end.status) }) else b).job ≡ b.job
    go true = refl
    go false = refl
same_job rules w u (Waited (Err e)) b = refl
same_job rules w u (Looked p r) b = refl
same_job rules w u (ReadFile p limit r) b = refl
same_job rules w u (ReadFolder p r) b = refl
same_job rules w u (Written p bytes r) b = refl
same_job rules w u (Created p r) b = refl
same_job rules w u (Removed p r) b = refl
same_job rules w u (MadeParents p r) b = refl
same_job rules w u (Settled ps r) b = refl
same_job rules w u (Protected p r) b = refl
same_job rules w u (Started recipe logs command r) b = refl

module _ (rules : Rules) (entry : World) where
  staged_plain : (w : World) (bs : List Begun) (L : Listings) (o : Option Plan) → IsFormed w → IsInForce rules w bs L o → (k : Job × State) → IsIn (staged_now o) k → IsPlain k.0
  staged_plain w bs L None formed force k i = absurd i
  staged_plain w bs L (Some plan) formed force (j, s) i =
      let is = (last_parts rules.flow (seen rules w) rules.settings (progress_of w bs) L plan force).0 in
      let complete = seen_is_complete rules.read w formed in
      let ij = zip_first plan.jobs plan.states j s i in
      let out = out_is_path rules.flow (seen rules w) plan.lists rules.settings.targets plan.jobs complete is.derived j in
      record {
        paths = λ r h. by r (out r ij) (log_is_path rules.flow (seen rules w) plan.lists rules.settings.targets plan.jobs complete is.derived j r ij) (in_either r (out_paths j.recipe) j.logs h);
        temps = λ r h. out r ij (temp_is_out rules.flow (seen rules w) plan.lists rules.settings.targets plan.jobs complete is.derived j r ij h);
        guards = λ r h. out r ij (guard_is_out rules.flow (seen rules w) plan.lists rules.settings.targets plan.jobs complete is.derived j r ij h);
      }
    where
      by : (r : Path) → (IsIn (out_paths j.recipe) r → is_path r ≡ true) → (IsIn j.logs r → is_path r ≡ true) → IsIn (out_paths j.recipe) r ⊎ IsIn j.logs r → is_path r ≡ true
      by r of_out of_log (inl o) = of_out o
      by r of_out of_log (inr l) = of_log l

  -- the job of one that has begun: it had, or it begins
  begun_from :
      (P : Job → Type 0) (m : Moment) (e : Event) → ((k : Job × State) → IsIn (staged_now m.plan) k → P k.0) → ((b : Begun) → IsIn m.begun b → P b.job) →
      (b : Begun) → IsIn (begun_after rules entry m e) b → P b.job
  begun_from P m e of_plan of_begun b i =
      go (in_either b (map (with_end rules m.world (after m.world e) e.call) m.begun) (map (begun_of rules entry m) (filter (λ (k : Job × State). begins rules m e k.0) (staged_now m.plan))) i)
    where
      go :
          IsIn (map (with_end rules m.world (after m.world e) e.call) m.begun) b
          ⊎ IsIn (map (begun_of rules entry m) (filter (λ (k : Job × State). begins rules m e k.0) (staged_now m.plan))) b →
          P b.job
      go (inl o) =
          let d = map_in (with_end rules m.world (after m.world e) e.call) m.begun b o in
          subst P (sym (ap (λ (x : Begun). x.job) d.2 ∙ same_job rules m.world (after m.world e) e.call d.0)) (of_begun d.0 d.1)
      go (inr n) =
          let k = map_in (begun_of rules entry m) (filter (λ (k : Job × State). begins rules m e k.0) (staged_now m.plan)) b n in
          let f = filter_in (λ (k : Job × State). begins rules m e k.0) (staged_now m.plan) k.0 k.1 in
          subst (λ (x : Begun). P x.job) (sym k.2) (of_plan k.0 f.0)

  -- What is so at each moment.
  record IsWell (m : Moment) : Type 0 where
    pub formed : IsFormed m.world
    pub of_plan : (k : Job × State) → IsIn (staged_now m.plan) k → IsPlain k.0
    pub of_begun : (b : Begun) → IsIn m.begun b → IsPlain b.job

  well : IsFormed entry → (events : List Event) (m : Moment) → IsMoment rules entry events m → IsWell m
  well formed _ _ (AtEntry plan force) =
      record { formed = formed; of_plan = staged_plain entry [] [] plan formed force; of_begun = λ b i. absurd i }
  well formed _ _ (AtRest events m e plan is rest force) =
      let so = well formed events m is in
      let there = formed_after m.world e so.formed in
      record { formed = there; of_plan = staged_plain (after m.world e) (begun_after rules entry m e) m.lists plan there force; of_begun = begun_from IsPlain m e so.of_plan so.of_begun }
  well formed _ _ (Between events m e is rest) =
      let so = well formed events m is in
      record { formed = formed_after m.world e so.formed; of_plan = so.of_plan; of_begun = begun_from IsPlain m e so.of_plan so.of_begun }

  -- ## One event

  module _ (act : Act) (m : Moment) (e : Event) (so : IsWell m) (law : IsLawfulEvent rules entry m e) (o q : Path) (own : IsOwnOf o q) (none : is_output_of (begun_after rules entry m e) o ≡ false) where
    abbrev opened : List Path
    opened = open_places rules entry m e

    abbrev planned : List Path
    planned = planned_places rules m

    -- the places of open jobs
    open_place : (r : Path) → IsIn opened r → (b : Begun) × IsIn (begun_after rules entry m e) b × IsIn (places b.job ++ b.job.logs) r
    open_place r i =
        let b = flat_in (λ (b : Begun). places b.job ++ b.job.logs) (filter (λ (b : Begun). not (is_closed m.world b)) (begun_after rules entry m e)) r i in
        (b.0, (filter_in (λ (b : Begun). not (is_closed m.world b)) (begun_after rules entry m e) b.0 b.1).0, b.2)

    plain : (b : Begun) → IsIn (begun_after rules entry m e) b → IsPlain b.job
    plain = begun_from IsPlain m e so.of_plan so.of_begun

    not_lock : IsIn (lock_places rules) q → ⊥
    not_lock l = clash_of (bytes_eq q lock_place) (subst (λ z. bytes_eq q z ≡ true) (lock_in rules.nolock q l) (place_itself q)) own.off_lock

    not_open : is_within q opened ≡ true → ⊥
    not_open w =
        let r = within_in q opened w in
        let b = open_place r.0 r.1 in
        let makes = at_makes o q own b.0.job (plain b.0 b.1).paths r.0 b.2 r.2 in
        clash_of (is_output_of (begun_after rules entry m e) o) (any_from (λ (b : Begun). among (out_paths b.job.recipe) o) (begun_after rules entry m e) b.0 b.1 (in_among (out_paths b.0.job.recipe) o makes)) none

    not_above : is_above q (lock_places rules ++ (planned ++ opened)) ≡ true → ⊥
    not_above a =
        let r = above_in q (lock_places rules ++ (planned ++ opened)) a in
        place r.0 r.2 (in_either r.0 (lock_places rules) (planned ++ opened) r.1)
      where
        of_plan : (r : Path) → is_under r q ≡ true → IsIn planned r ⊎ IsIn opened r → ⊥
        of_plan r u (inl p) =
            let k = flat_in (λ (k : Job × State). places k.0 ++ k.0.logs) (staged_now m.plan) r p in
            never_both _ u (over_none o q own k.0.0 (so.of_plan k.0 k.1).paths r k.2)
        of_plan r u (inr i) = let b = open_place r i in never_both _ u (over_none o q own b.0.job (plain b.0 b.1).paths r b.2)

        place : (r : Path) → is_under r q ≡ true → IsIn (lock_places rules) r ⊎ IsIn (planned ++ opened) r → ⊥
        place r u (inl l) = never_both _ (subst (λ z. is_under z q ≡ true) (lock_in rules.nolock r l) u) own.over_lock
        place r u (inr p) = of_plan r u (in_either r planned opened p)

    not_spent : (c : Call) → is_spent_removal rules m c ≡ true → changes_at c m.world e.left q ≡ true → ⊥
    not_spent (Removed p r) spent changes = go m.plan so.of_plan spent
      where
        at : is_at_or_under q p ≡ true
        at = and_left (is_at_or_under q p) _ changes

        go : (o : Option Plan) → ((k : Job × State) → IsIn (staged_now o) k → IsPlain k.0) →
            test_some (λ (plan : Plan). list_any (λ (x : Job × State). is_spent (seen rules m.world) rules.settings (progress_of m.world m.begun) plan x p) (staged plan)) o ≡ true → ⊥
        go None of_plan h = true≢false (sym h)
        go (Some plan) of_plan h =
            let x = any_in (λ (x : Job × State). is_spent (seen rules m.world) rules.settings (progress_of m.world m.begun) plan x p) (staged plan) h in
            let temp = among_in x.0.0.temps p (and_left (among x.0.0.temps p) _ (and_left (is_temporary (seen rules m.world) rules.settings (progress_of m.world m.begun) plan x.0.0 p) _ x.2)) in
            never_both _ at (own.off_path p ((of_plan x.0 x.1).temps p temp))
    not_spent (Looked p r) spent changes = true≢false (sym spent)
    not_spent (ReadFile p limit r) spent changes = true≢false (sym spent)
    not_spent (ReadFolder p r) spent changes = true≢false (sym spent)
    not_spent (Written p bytes r) spent changes = true≢false (sym spent)
    not_spent (Created p r) spent changes = true≢false (sym spent)
    not_spent (MadeParents p r) spent changes = true≢false (sym spent)
    not_spent (Settled ps r) spent changes = true≢false (sym spent)
    not_spent (Protected p r) spent changes = true≢false (sym spent)
    not_spent (Started recipe logs command r) spent changes = true≢false (sym spent)
    not_spent (Waited r) spent changes = true≢false (sym spent)

    not_guarded : (c : Call) → protects rules m c q ≡ true → ⊥
    not_guarded (Protected p r) h =
        let b = any_in (λ (b : Begun). is_closed_well rules m.world b && among b.job.guards q) m.begun (and_right (bytes_eq p q) _ h) in
        let g = among_in b.0.job.guards q (and_right (is_closed_well rules m.world b.0) (among b.0.job.guards q) b.2) in
        never_both _ (at_itself q) (own.off_path q ((so.of_begun b.0 b.1).guards q g))
    not_guarded (Looked p r) h = true≢false (sym h)
    not_guarded (ReadFile p limit r) h = true≢false (sym h)
    not_guarded (ReadFolder p r) h = true≢false (sym h)
    not_guarded (Written p bytes r) h = true≢false (sym h)
    not_guarded (Created p r) h = true≢false (sym h)
    not_guarded (Removed p r) h = true≢false (sym h)
    not_guarded (MadeParents p r) h = true≢false (sym h)
    not_guarded (Settled ps r) h = true≢false (sym h)
    not_guarded (Started recipe logs command r) h = true≢false (sym h)
    not_guarded (Waited r) h = true≢false (sym h)

    unchanged : changes_at e.call m.world e.left q ≡ false
    unchanged = go (changes_at e.call m.world e.left q) refl
      where
        never : changes_at e.call m.world e.left q ≡ true → ⊥
        never h = first (or_cases (among (lock_places rules) q) _ (law.changes q h))
          where
            fourth : (is_spent_removal rules m e.call ≡ true) ⊎ (protects rules m e.call q ≡ true) → ⊥
            fourth (inl s) = not_spent e.call s h
            fourth (inr p) = not_guarded e.call p

            third : ((makes_folders e.call && is_above q (lock_places rules ++ (planned ++ opened))) ≡ true) ⊎ ((is_spent_removal rules m e.call || protects rules m e.call q) ≡ true) → ⊥
            third (inl f) = not_above (and_right (makes_folders e.call) (is_above q (lock_places rules ++ (planned ++ opened))) f)
            third (inr x) = fourth (or_cases (is_spent_removal rules m e.call) (protects rules m e.call q) x)

            second : (is_within q opened ≡ true) ⊎ (((makes_folders e.call && is_above q (lock_places rules ++ (planned ++ opened))) || (is_spent_removal rules m e.call || protects rules m e.call q)) ≡ true) → ⊥
            second (inl w) = not_open w
            second (inr x) = third (or_cases (makes_folders e.call && is_above q (lock_places rules ++ (planned ++ opened))) (is_spent_removal rules m e.call || protects rules m e.call q) x)

            first :
                (among (lock_places rules) q ≡ true)
                ⊎ ((is_within q opened || ((makes_folders e.call && is_above q (lock_places rules ++ (planned ++ opened))) || (is_spent_removal rules m e.call || protects rules m e.call q))) ≡ true) →
                ⊥
            first (inl l) = not_lock (among_in (lock_places rules) q l)
            first (inr x) = second (or_cases (is_within q opened) ((makes_folders e.call && is_above q (lock_places rules ++ (planned ++ opened))) || (is_spent_removal rules m e.call || protects rules m e.call q)) x)

        go : (b : Bool) → changes_at e.call m.world e.left q ≡ b → b ≡ false
        go false h = refl
        go true h = absurd (never h)

    reads_on : Lets act m.world e.call e.left → reading ((after m.world e).nodes q) ≡ reading (m.world.nodes q)
    reads_on lets = still_reads act m.world e.left q e.call lets unchanged

  -- ## Along a log

  unmade_before : (m : Moment) (e : Event) (o : Path) → is_output_of (begun_after rules entry m e) o ≡ false → is_output_of m.begun o ≡ false
  unmade_before m e o none = go (is_output_of m.begun o) refl
    where
      later : List Begun
      later = begun_after rules entry m e

      go : (b : Bool) → is_output_of m.begun o ≡ b → b ≡ false
      go false h = refl
      go true h =
          let b = any_in (λ (b : Begun). among (out_paths b.job.recipe) o) m.begun h in
          let on = with_end rules m.world (after m.world e) e.call in
          let there = in_left (on b.0) (map on m.begun) (map (begun_of rules entry m) (filter (λ (k : Job × State). begins rules m e k.0) (staged_now m.plan))) (in_map on m.begun b.0 b.1) in
          absurd (clash_of (is_output_of (begun_after rules entry m e) o)
          (any_from (λ (b : Begun). among (out_paths b.job.recipe) o) (begun_after rules entry m e) (on b.0) there
          (ap (λ (j : Job). among (out_paths j.recipe) o) (same_job rules m.world (after m.world e) e.call b.0) ∙ b.2)) none)

  follows_at : (act : Act) (w : World) (events : List Event) (e : Event) (rest : List Event) → Follows act w (events ++ e ∷ rest) → Lets act (run w events) e.call e.left
  follows_at act w [] e rest f = f.0.lets
  follows_at act w (d ∷ events) e rest f = follows_at act (after w d) events e rest f.1

  module _ (act : Act) (log : List Event) (formed : IsFormed entry) (follows : Follows act entry log) (lawful : AtEachEvent rules entry log (IsLawfulEvent rules entry)) (o q : Path) (own : IsOwnOf o q) where
    step :
        (events : List Event) (m : Moment) (e : Event) → IsMoment rules entry events m → (rest : List Event) → log ≡ (events ++ e ∷ []) ++ rest → is_output_of (begun_after rules entry m e) o ≡ false →
        ((later : List Event) → log ≡ events ++ later → is_output_of m.begun o ≡ false → reading (m.world.nodes q) ≡ reading (entry.nodes q)) → reading ((after m.world e).nodes q) ≡ reading (entry.nodes q)
    step events m e is rest split none before =
        let whole = split ∙ append_assoc events (e ∷ []) rest in
        let so = well formed events m is in
        let lets =
        subst (λ w. Lets act w e.call e.left) (sym (moment_world rules entry events m is)) (follows_at act entry events e rest (subst (Follows act entry) whole follows)) in
        reads_on act m e so (lawful events e rest m whole is) o q own none lets ∙ before (e ∷ rest) whole (unmade_before m e o none)

    reads_still : (events : List Event) (m : Moment) → IsMoment rules entry events m → (rest : List Event) → log ≡ events ++ rest → is_output_of m.begun o ≡ false → reading (m.world.nodes q) ≡ reading (entry.nodes q)
    reads_still _ _ (AtEntry plan force) rest split none = refl
    reads_still _ _ (AtRest events m e plan is at_rest force) rest split none = step events m e is rest split none (λ later s n. reads_still events m is later s n)
    reads_still _ _ (Between events m e is at_rest) rest split none = step events m e is rest split none (λ later s n. reads_still events m is later s n)

pub unbegun_stay : UnbegunStay
unbegun_stay act rules entry log formed follows lawful events rest m split is o none =
    let record_same = reads_still rules entry act log formed follows lawful o (record_place o) (own_record o) events m is rest split none in
    let mark_same = reads_still rules entry act log formed follows lawful o (mark_place o) (own_mark o) events m is rest split none in
    (λ n. if is_path_text o then kept_by rules.read o (record_same n) else Absent, λ n. is_path_text o && is_some (mark_same n))
