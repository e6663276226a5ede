-- What the calls with which a job begins make of the folder.
use Rattle.std.proofs.Common.{◌≡◌, inl, inr, ℕ, true, false, List, [], ◌∷◌, ◌++◌, map, None, Ok, is_some, sym, ap, subst, ◌∙◌}
use Rattle.std.specs.Prelude.{if◌then◌else◌}
use Rattle.smk_base.specs.Path.{is_at_or_under, is_path, own_folder}
use Rattle.smk_base.specs.Place.{mark_place, note_place}
use Rattle.smk_base.proofs.Apart.{IsApart, path-mark, path-note}
use Rattle.smk_base.proofs.Under.{false_of_not, false_unless, never_both, or_first, or_second}
use Rattle.smk_world.specs.declared.event.Call.TheVariants.{Started}
use Rattle.smk_world.specs.declared.event.Child.{Child}
use Rattle.smk_world.specs.declared.event.Event.{Event}
use Rattle.smk_world.specs.declared.event.NodeState.TheVariants.{Owned}
use Rattle.smk_world.specs.Calls.{HasOwners, owned_now}
use Rattle.smk_world.specs.Requests.{HasDone, Request}
use Rattle.smk_world.specs.Requests.Request.{Start}
use Rattle.smk_world.specs.Runs.{Follows}
use Rattle.smk_world.specs.Trees.{Act, Each, IsIn, Path, among}
use Rattle.smk_world.specs.World.{World, after, is_within, reading, run}
use Rattle.smk_flow.specs.declared.job.Job.{Job}
use Rattle.smk_store.specs.Images.{content_of, file_at, is_outside}
use Rattle.smk_store.specs.Steps.{mark_requests, places_of}
use Rattle.smk_job.specs.Jobs.{begin_requests, clear_requests}
use Rattle.smk_job.proofs.Firmly.{IsFirmThere, clear_off, marked_firm, reaches_keeps, reaches_split}
use Rattle.smk_job.proofs.Single.{Reaches, done_reaches}
use Rattle.smk_laws_job.specs.Laws.{HasOwnFolder}
use Rattle.smk_laws_job.proofs.Beginning.{started_call}
use Rattle.smk_laws_job.proofs.Owned.{known_marking}
use Rattle.smk_run.proofs.Calls.{done_each}
use Rattle.smk_laws_plan.proofs.CurrentLists.{in_left, in_map, in_right}
use Rattle.smk_laws_protocol.proofs.Basics.{each_in, each_of}
use Rattle.smk_safe.proofs.Kept.{within_outside}
use Rattle.smk_drive.specs.Moments.{Rules, seen}
use Rattle.smk_laws_moments.proofs.QuietCalls.{IsQuiet, clears_quiet, marks_quiet, more, quiet_children}
use Rattle.smk_laws_turns.specs.Places.{IsSameUnder}
use Rattle.smk_laws_turns.proofs.Carrying.{by_test}
use Rattle.smk_laws_turns.proofs.BeginCalls.{begin_at, mark_kept, marking, outs, signs_inside, touched}
use Rattle.smk_laws_turns.proofs.BegunCalls.{AreFree, IsCallAt, calls_keep_files, calls_leave, within_both}
use Rattle.smk_laws_turns.proofs.JobPaths.{owned}
use Rattle.smk_laws_turns.proofs.Ours.{within_some}

pub within_at : (ps : List Path) (p q : Path) → IsIn ps p → is_at_or_under q p ≡ true → is_within q ps ≡ true
within_at [] p q i at = absurd i
within_at (x ∷ ps) p q (inl e) at = or_first (is_at_or_under q x) (is_within q ps) (subst (λ y. is_at_or_under q y ≡ true) e at)
within_at (x ∷ ps) p q (inr i) at = or_second (is_at_or_under q x) (is_within q ps) (within_at ps p q i at)

never_within : (ps : List Path) (q : Path) → ((p : Path) → IsIn ps p → IsApart p q) → is_within q ps ≡ false
never_within ps q apart = false_unless (is_within q ps) (λ t. let p = within_some ps q t in never_both (is_at_or_under q p.0) p.2 (apart p.0 p.1).at_or_over)

-- no child owns a place in the engine's folder, where they own users' paths alone
pub own_folder_free : (w : World) → HasOwners w → Each (λ p. is_path p ≡ true) (owned_now w.children) → HasOwnFolder w
own_folder_free w owners paths q at is =
    never_both (is_at_or_under q own_folder) at (within_outside q (owned_now w.children) paths (owners q is))

-- calls that neither start nor await a child leave those that run
quiet_reaches : (act : Act) (rs : List Request) (w v : World) → Reaches act rs w v → Each IsQuiet rs → v.children ≡ w.children
quiet_reaches act [] w v h quiet = ap (λ (x : World). x.children) h
quiet_reaches act (r ∷ rs) w v (u, st, later) quiet =
    quiet_reaches act rs u v later quiet.1
    ∙ (ap (λ (x : World). x.children) st.now ∙ quiet_children st.event.call w.children (subst IsQuiet (sym st.is) quiet.0))

module _
    (act : Act) (j : Job) (command : List ℕ) (w : World) (es : List Event) (follows : Follows act w es)
    (done : HasDone (begin_requests j.recipe j.logs command) es) where
  abbrev v : World
  v = run w es

  abbrev marks : List Request
  marks = mark_requests (places_of (outs j) j.logs)

  abbrev clears : List Request
  clears = clear_requests (outs j) (owned j)

  reached : Reaches act (begin_requests j.recipe j.logs command) w v
  reached = done_reaches act (begin_requests j.recipe j.logs command) w es follows done

  last : (u : World) × Reaches act (marks ++ clears) w u × Reaches act (Start j.recipe j.logs command ∷ []) u v
  last = reaches_split act (marks ++ clears) (Start j.recipe j.logs command ∷ []) w v reached

  abbrev u : World
  u = last.0

  -- its child was started: it owns the outputs and logs
  record IsStarted : Type 0 where
    pub number : ℕ
    pub nodes : (q : Path) → v.nodes q ≡ (if is_within q (owned j) then Owned else u.nodes q)
    pub children : v.children ≡ u.children ++ record { number = number; recipe = j.recipe; logs = j.logs } ∷ []

  starts : IsStarted
  starts =
      let s = last.2 in
      let child = started_call s.1.event.call j.recipe j.logs command s.1.is s.1.quiet in
      let now : v ≡ after u (record { call = Started j.recipe j.logs command (Ok child.0); left = s.1.event.left }) =
      s.2 ∙ (s.1.now ∙ (λ i. after u (record { call = child.1 i; left = s.1.event.left })))
      in
      record { number = child.0; nodes = λ q. ap (λ (x : World). x.nodes q) now; children = ap (λ (x : World). x.children) now }

  -- the children that ran, and the one that was started
  pub children_now : (n : ℕ) × (v.children ≡ w.children ++ record { number = n; recipe = j.recipe; logs = j.logs } ∷ [])
  children_now = (
    starts.number,
    starts.children
        ∙ ap (λ (cs : List Child). cs ++ record { number = starts.number; recipe = j.recipe; logs = j.logs } ∷ [])
        (quiet_reaches act (marks ++ clears) w u last.1
        (more marks clears (marks_quiet (places_of (outs j) j.logs)) (clears_quiet (outs j) (owned j)))),
  )

  -- nothing reads at or under what it owns
  pub owned_gone : (p q : Path) → IsIn (owned j) p → is_at_or_under q p ≡ true → reading (v.nodes q) ≡ None
  owned_gone p q i at =
      ap reading (starts.nodes q ∙ ap (λ b. if b then Owned else u.nodes q) (within_at (owned j) p q i at))

  -- what is free of the calls stands as it did
  pub free_same : (p : Path) → AreFree p (touched j) → IsSameUnder w v p
  free_same p free =
      calls_leave (touched j) w es p (done_each (IsCallAt (touched j)) (begin_requests j.recipe j.logs command) es (begin_at j command) done) free

  -- so do files aside from outputs and logs
  pub files_same : (rules : Rules) (q : Path) → is_within q (owned j) ≡ false → file_at (seen rules v) q ≡ file_at (seen rules w) q
  files_same rules q within = by_test (is_outside q) outside inside
    where
      outside : is_outside q ≡ true → file_at (seen rules v) q ≡ file_at (seen rules w) q
      outside h =
          let same : content_of (reading (v.nodes q)) ≡ content_of (reading (w.nodes q)) =
          calls_keep_files (touched j) q (within_both (marking j) (owned j) q (signs_inside j q (false_of_not (is_at_or_under q own_folder) h)) within) w es
          (done_each (IsCallAt (touched j)) (begin_requests j.recipe j.logs command) es (begin_at j command) done)
          in
          ap (λ b. content_of (if b then reading (v.nodes q) else None)) h ∙ (same ∙ sym (ap (λ b. content_of (if b then reading (w.nodes q) else None)) h))

      inside : is_outside q ≡ false → file_at (seen rules v) q ≡ file_at (seen rules w) q
      inside h =
          ap (λ b. content_of (if b then reading (v.nodes q) else None)) h ∙ sym (ap (λ b. content_of (if b then reading (w.nodes q) else None)) h)

  module _ (paths : Each (λ q. is_path q ≡ true) (owned j)) where
    -- marks of other paths are left just as they are
    pub marks_same : (p : Path) → among (outs j) p ≡ false → v.nodes (mark_place p) ≡ w.nodes (mark_place p)
    marks_same p out = reaches_keeps act (begin_requests j.recipe j.logs command) w v (mark_place p) reached (mark_kept j paths command p out)

    -- its own marks and notes stand
    sign_stands : HasOwnFolder w → (q : Path) → IsIn (marking j) q → ((s : Path) → IsIn (owned j) s → IsApart s q) → is_some (reading (v.nodes q)) ≡ true
    sign_stands free q i apart =
        let parts = reaches_split act marks clears w u last.1 in
        let firm =
        each_in (IsFirmThere parts.0) (marking j) q
        (marked_firm act (places_of (outs j) j.logs) w parts.0 parts.1 (known_marking w (outs j) j.logs free)) i
        in
        let cleared : u.nodes q ≡ parts.0.nodes q =
        reaches_keeps act clears parts.0 u q parts.2
        (clear_off (outs j) (owned j) q (each_of (λ s. IsApart s q) (outs j) (λ s k. apart s (in_left s (outs j) j.logs k)))
        (each_of (λ s. IsApart s q) (owned j) apart))
        in
        let now : v.nodes q ≡ u.nodes q = starts.nodes q ∙ ap (λ b. if b then Owned else u.nodes q) (never_within (owned j) q apart) in
        ap (λ s. is_some (reading s)) (now ∙ (cleared ∙ firm.1))

    pub mark_stands : HasOwnFolder w → (p : Path) → IsIn (outs j) p → is_some (reading (v.nodes (mark_place p))) ≡ true
    mark_stands free p i =
        sign_stands free (mark_place p) (in_left (mark_place p) (map mark_place (outs j)) (map note_place j.logs) (in_map mark_place (outs j) p i))
        (λ s k. path-mark s p (each_in (λ q. is_path q ≡ true) (owned j) s paths k))

    pub note_stands : HasOwnFolder w → (p : Path) → IsIn j.logs p → is_some (reading (v.nodes (note_place p))) ≡ true
    note_stands free p i =
        sign_stands free (note_place p) (in_right (note_place p) (map mark_place (outs j)) (map note_place j.logs) (in_map note_place j.logs p i))
        (λ s k. path-note s p (each_in (λ q. is_path q ≡ true) (owned j) s paths k))
