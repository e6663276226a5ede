-- Outputs of a job that was closed well are made read-only, as a run of the protocol.
use Rattle.std.proofs.Common.{◌≡◌, ◌≢◌, Bool, true, false, ◌&&◌, ◌||◌, List, [], ◌∷◌, ◌++◌, map, filter, refl, sym, ap, subst, ◌∙◌, bytes_eq, Option, Some, None, Ok, Err, Result, true≢false}
use Rattle.std.specs.Prelude.{is_some, if◌then◌else◌, option_map}
use Rattle.std.specs.List.{list_any}
use Rattle.smk_base.specs.Path.{is_path, is_under, is_at_or_under, own_folder, overlaps}
use Rattle.smk_base.specs.Place.{mark_place, record_place}
use Rattle.smk_base.proofs.Apart.{outside-own, path_outside}
use Rattle.smk_base.proofs.Places.{and_first}
use Rattle.smk_world.specs.declared.event.Call.{Call}
use Rattle.smk_world.specs.declared.event.Call.TheVariants.{Looked, ReadFile, ReadFolder, Written, Created, Removed, MadeParents, Settled, Protected, Started, Waited}
use Rattle.smk_world.specs.declared.event.Event.{Event}
use Rattle.smk_world.specs.declared.event.Node.{Node}
use Rattle.smk_world.specs.declared.event.Node.TheVariants.{Regular, Directory}
use Rattle.smk_world.specs.declared.event.NodeState.{NodeState}
use Rattle.smk_world.specs.declared.event.NodeState.TheVariants.{Owned, Known}
use Rattle.smk_world.specs.World.{World, in_paths, names_after, node_after, reading, run, with_flag}
use Rattle.smk_world.specs.Calls.{Lets, any_overlap, failed}
use Rattle.smk_world.specs.Runs.{Follows}
use Rattle.smk_world.specs.Requests.{request, Carries, IsCutShort}
use Rattle.smk_world.specs.Requests.Request.{Protect, Settle}
use Rattle.smk_world.specs.Trees.{Path, Each, IsIn, below, is_path_text, is_text}
use Rattle.smk_record.specs.Records.{core, members_of}
use Rattle.smk_store.specs.declared.store.Kept.TheVariants.{Absent}
use Rattle.smk_store.specs.Images.{is_directory, is_outside, kept_by, members_under, readable, seen}
use Rattle.smk_store.specs.Soundness.{Outside}
use Rattle.smk_laws_protocol.specs.Protocol.{OpenJob, RunState, Runs, Done, Aside, Besides, IsFree, Protect as ProtectMove, Settle as SettleMove, as_ok, outputs, own, record_of}
use Rattle.smk_laws_protocol.proofs.Basics.{each_in, each_on, none_of}
use Rattle.smk_keep.specs.Keeping.{protect_each, protect_requests}
use Rattle.smk_keep.specs.declared.fault.KeepFault.{KeepFault}
use Rattle.smk_keep.specs.declared.fault.KeepFault.TheVariants.{Device, OutOfMemory}
use Rattle.smk_job.proofs.Single.{Stepped, step_keeps}
use Rattle.smk_laws_job.specs.Laws.{stopped}
use Rattle.smk_laws_job.proofs.Abandoning.{in_first, settled_call}
use Rattle.smk_laws_job.proofs.Called.{as_settled}
use Rattle.smk_laws_job.proofs.Finished.{IsLeftWell}
use Rattle.smk_laws_job.proofs.Onward.{one_call}
use Rattle.smk_safe.proofs.Done.{follows_split}
use Rattle.smk_safe.proofs.Joining.{runs_then}
use Rattle.smk_drive_course.specs.Steps.{HasGuarded, IsTended, Tended, Unguarded, GuardingFails, LooksFail}
use Rattle.smk_laws_turns.proofs.Looking.{looks_fail, looks_run}
use Rattle.smk_laws_turns.proofs.Pairs.{IsAside, overlap_flipped}

-- ## What was called

as_protected : (call : Call) (p : Path) → request call ≡ Protect p → as_ok call ≡ Protected p (Ok tt)
as_protected (Protected x r) p is = let e : x ≡ p = cc in ap (λ y. Protected y (Ok tt)) e
as_protected (Looked x r) p is = cc
as_protected (ReadFile x limit r) p is = cc
as_protected (ReadFolder x r) p is = cc
as_protected (Written x bytes r) p is = cc
as_protected (Created x r) p is = cc
as_protected (MadeParents x r) p is = cc
as_protected (Removed x r) p is = cc
as_protected (Settled xs r) p is = cc
as_protected (Started recipe logs command r) p is = cc
as_protected (Waited r) p is = cc

protected_call : (call : Call) (p : Path) → request call ≡ Protect p → failed call ≡ false → call ≡ Protected p (Ok tt)
protected_call (Protected x (Ok u)) p is quiet = let e : x ≡ p = cc in ap (λ y. Protected y (Ok tt)) e
protected_call (Protected x (Err e)) p is quiet = absurd (true≢false quiet)
protected_call (Looked x r) p is quiet = cc
protected_call (ReadFile x limit r) p is quiet = cc
protected_call (ReadFolder x r) p is quiet = cc
protected_call (Written x bytes r) p is quiet = cc
protected_call (Created x r) p is quiet = cc
protected_call (MadeParents x r) p is quiet = cc
protected_call (Removed x r) p is quiet = cc
protected_call (Settled xs r) p is quiet = cc
protected_call (Started recipe logs command r) p is quiet = cc
protected_call (Waited r) p is quiet = cc

-- ## A flag changes nothing else

flag_some : (b : Bool) (s : NodeState) → is_some (reading (if b then with_flag s else s)) ≡ is_some (reading s)
flag_some true Owned = refl
flag_some true (Known None besides) = refl
flag_some true (Known (Some n) besides) = refl
flag_some false s = refl

flag_directory : (b : Bool) (s : NodeState) → is_directory (reading (if b then with_flag s else s)) ≡ is_directory (reading s)
flag_directory true Owned = refl
flag_directory true (Known None besides) = refl
flag_directory true (Known (Some Directory) besides) = refl
flag_directory true (Known (Some (Regular bytes time read_only)) besides) = refl
flag_directory false s = refl

outside_directory : (b : Bool) (m n : Option Node) → is_directory m ≡ is_directory n → is_directory (if b then m else None) ≡ is_directory
    (if b then n else None)
outside_directory true m n h = h
outside_directory false m n h = refl

module _ (o : Outside) (w v : World) (q : Path) (st : Stepped o.act (Protect q) w v) (path : is_at_or_under q own_folder ≡ false) where
  call_is : st.event.call ≡ Protected q (Ok tt)
  call_is = protected_call st.event.call q st.is st.quiet

  none_left : st.event.left ≡ []
  none_left = subst (λ c. Lets o.act w c st.event.left) call_is st.lets

  nodes_are : (x : Path) → v.nodes x ≡ (if bytes_eq x q then with_flag (w.nodes x) else w.nodes x)
  nodes_are x = ap (λ (y : World). y.nodes x) st.now ∙ ap (λ c. node_after c st.event.left w.children x (w.nodes x)) call_is

  names_are : v.names ≡ w.names
  names_are =
      ap (λ (y : World). y.names) st.now ∙ ap (λ c. names_after c st.event.left w.names) call_is ∙ ap (λ l. names_after (Protected q (Ok tt)) l w.names)
      none_left

  own_same : (x : Path) → is_at_or_under x own_folder ≡ true → v.nodes x ≡ w.nodes x
  own_same x at = step_keeps o.act (Protect q) w v x st (outside-own q x path at).differed

  some_same : (x : Path) → is_some (reading (v.nodes x)) ≡ is_some (reading (w.nodes x))
  some_same x = ap (λ s. is_some (reading s)) (nodes_are x) ∙ flag_some (bytes_eq x q) (w.nodes x)

  directory_same : (x : Path) → is_directory ((seen o.read v).node x) ≡ is_directory ((seen o.read w).node x)
  directory_same x =
      outside_directory (is_outside x) (reading (v.nodes x)) (reading (w.nodes x)) (ap (λ s. is_directory (reading s)) (nodes_are x) ∙ flag_directory
      (bytes_eq x q) (w.nodes x))

  members_same : (p : Path) → members_under (seen o.read v) p ≡ members_under (seen o.read w) p
  members_same p i =
      map (λ (x : Path). record { folder = directory_same x i; name = below p x })
      (filter (λ x. is_under x p) (filter (λ x. is_outside x && some_same x i) (names_are i)))

  kept_same : (p : Path) → (seen o.read v).kept p ≡ (seen o.read w).kept p
  kept_same p = ap (λ (s : NodeState). if is_path_text p then kept_by o.read p (reading s) else Absent) (own_same (record_place p) refl)

  marked_same : (p : Path) → (seen o.read v).marked p ≡ (seen o.read w).marked p
  marked_same p = ap (λ (s : NodeState). is_path_text p && is_some (reading s)) (own_same (mark_place p) refl)

  well_on : (j : OpenJob) (p : Path) → IsLeftWell o w j p → IsLeftWell o v j p
  well_on j p h =
      record {
        path = h.path;
        recorded = ap (λ k. option_map core (readable k)) (kept_same p) ∙ h.recorded;
        unmarked = marked_same p ∙ h.unmarked;
        no_more = λ m i.
            subst (λ ms. IsIn ms m) (sym (ap (λ k. members_of (readable k)) (kept_same p)))
            (h.no_more m (subst (λ ms. IsIn ms m) (members_same p) i));
      }

-- ## Outputs of one job, and the other open jobs

one_apart : (p : Path) (ps qs : List Path) → any_overlap ps qs ≡ false → IsIn ps p → any_overlap (p ∷ []) qs ≡ false
one_apart p ps qs h i = ap (λ b. b || false) (none_of (λ (x : Path). list_any (overlaps x) qs) ps p h i)

pub is_free : (o : Outside) (s : RunState) (w : World) (j : OpenJob) (p : Path) → Each (IsAside j) s.jobs → IsIn (outputs j) p → IsLeftWell o w j p →
    IsFree o s w p (record_of j p)
is_free o s w j p beside i h =
    record {
      path = h.path;
      recorded = h.recorded;
      unmarked = h.unmarked;
      from_own = each_on (IsAside j) (λ k. any_overlap (own k) (p ∷ []) ≡ false)
          (λ k b. overlap_flipped (p ∷ []) (own k) (one_apart p (own j) (own k) b.own_apart (in_first (outputs j) j.logs p i))) s.jobs beside;
      from_inputs = each_on (IsAside j) (λ k. any_overlap (p ∷ []) (in_paths k.recipe) ≡ false)
          (λ k b. one_apart p (own j) (in_paths k.recipe) b.not_read (in_first (outputs j) j.logs p i)) s.jobs beside;
      no_more = h.no_more;
    }

module _ (o : Outside) (s : RunState) (j : OpenJob) (calm : s.faulted ≡ false) (beside : Each (IsAside j) s.jobs) where
  -- what is done of these calls is a run of the protocol
  module _ (ok : Bool) (goal : RunState) (halts : ok ≡ false → stopped o s ≡ goal) (there : ok ≡ true → s ≡ goal) where
    over : (good : Bool) (v : World) (fs : List Event) → (good ≡ true → s ≡ goal) → Carries [] good fs → Runs o s v fs goal
    over true v [] is rest = subst (λ x. Runs o s v [] x) (is refl) (Done s v)
    over true v (f ∷ fs) is rest = absurd rest
    over false v fs is rest = absurd rest

    settles : (all : List Path) (w : World) (es : List Event) → Follows o.act w es → Carries (Settle all ∷ []) ok es → Runs o s w es goal
    settles all w es follows carries =
        one_call o ok s s goal w es (Settle all) [] halts carries follows
        (λ e is. Aside (record e { call = as_ok e.call }) calm (subst (Besides o s w) (sym (as_settled e.call all is)) (SettleMove all)))
        (λ e is quiet. Aside e calm (subst (Besides o s w) (sym (settled_call e.call all is quiet)) (SettleMove all)))
        (λ v fs st later rest. over ok v fs there rest)

    protects : (all gs : List Path) (w : World) (es : List Event) → Each (IsLeftWell o w j) (outputs j) → Each (IsIn (outputs j)) gs
        → Follows o.act w es → Carries (protect_each gs ++ Settle all ∷ []) ok es → Runs o s w es goal
    protects all [] w es well inside follows carries = settles all w es follows carries
    protects all (p ∷ gs) w es well inside follows carries =
        let free = is_free o s w j p beside inside.0 (each_in (IsLeftWell o w j) (outputs j) p well inside.0) in
        one_call o ok s s goal w es (Protect p) (protect_each gs ++ Settle all ∷ []) halts carries follows
        (λ e is. Aside (record e { call = as_ok e.call }) calm (subst (Besides o s w) (sym (as_protected e.call p is)) (ProtectMove p (record_of j p) free)))
        (λ e is quiet. Aside e calm (subst (Besides o s w) (sym (protected_call e.call p is quiet)) (ProtectMove p (record_of j p) free)))
        (λ v fs st later rest.
        protects all gs v fs
        (each_on (IsLeftWell o w j) (IsLeftWell o v j) (well_on o w v p st (path_outside p (and_first (is_path p) (is_text p) free.path)) j) (outputs j) well)
        inside.1 later rest)

  -- the state that this answer leaves
  abbrev pub tended : Result (Unit {0}) KeepFault → RunState
  tended (Ok u) = s
  tended (Err OutOfMemory) = s
  tended (Err Device) = stopped o s

  guarded : (gs : List Path) (w : World) (es : List Event) → Each (IsIn (outputs j)) gs → (gs ≢ [] → Each (IsLeftWell o w j) (outputs j)) →
      Follows o.act w es → HasGuarded gs es → Runs o s w es s
  guarded [] w es inside well follows none = subst (λ l. Runs o s w l s) (sym none) (Done s w)
  guarded (p ∷ gs) w es inside well follows done = protects true s (λ e. absurd (true≢false e)) (λ e. refl) (p ∷ gs) (p ∷ gs) w es (well (λ e. cc)) inside
      follows done

  guarding_fails : (gs : List Path) (w : World) (es : List Event) → Each (IsIn (outputs j)) gs → (gs ≢ [] → Each (IsLeftWell o w j) (outputs j)) →
      Follows o.act w es
      → IsCutShort (protect_requests gs) es → Runs o s w es (stopped o s)
  guarding_fails [] w es inside well follows cut = settles false (stopped o s) (λ e. refl) (λ e. absurd (true≢false (sym e))) [] w es follows cut
  guarding_fails (p ∷ gs) w es inside well follows cut =
      protects false (stopped o s) (λ e. refl) (λ e. absurd (true≢false (sym e))) (p ∷ gs) (p ∷ gs) w es (well (λ e. cc)) inside follows cut

  -- What was done once the job was closed, where these outputs of it were to be made read-only.
  pub tending_runs : (gs : List Path) (answer : Result (Unit {0}) KeepFault) (w : World) (es : List Event) → Each (IsIn (outputs j)) gs →
      (gs ≢ [] → Each (IsLeftWell o w j) (outputs j))
      → Follows o.act w es → IsTended gs answer es → Runs o s w es (tended answer)
  tending_runs gs answer w es inside well follows (Tended guarding looks done looked) =
      let f = follows_split o.act w guarding looks follows in
      runs_then o s looks s s w guarding (guarded gs w guarding inside well f.0 done) (looks_run o s (run w guarding) looks calm looked)
  tending_runs gs answer w es inside well follows Unguarded = Done s w
  tending_runs gs answer w es inside well follows (GuardingFails guarding cut) = guarding_fails gs w guarding inside well follows cut
  tending_runs gs answer w es inside well follows (LooksFail guarding looks done looked) =
      let f = follows_split o.act w guarding looks follows in
      runs_then o (stopped o s) looks s s w guarding (guarded gs w guarding inside well f.0 done) (looks_fail o s (run w guarding) looks calm looked)
