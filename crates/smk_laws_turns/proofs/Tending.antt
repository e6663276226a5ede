-- Once a job is closed its outputs are made read-only, which leaves the plan in force.
use Rattle.std.proofs.Common.{◌≡◌, Bool, true, false, ◌&&◌, ◌||◌, List, [], ◌∷◌, ◌++◌, map, refl, sym, ap, subst, ◌∙◌, inl, inr, Some, None, Ok, Err, append_assoc, append-nil, true≢false}
use Rattle.std.specs.Prelude.{bytes_eq, if◌then◌else◌, is_some}
use Rattle.std.specs.List.{list_all, list_any}
use Rattle.smk_base.specs.Path.{is_path}
use Rattle.smk_base.specs.Place.{mark_place}
use Rattle.smk_base.proofs.Apart.{path-mark}
use Rattle.smk_world.specs.declared.event.Call.{Call}
use Rattle.smk_world.specs.declared.event.Call.TheVariants.{Looked, ReadFile, ReadFolder, Written, Created, Removed, MadeParents, Settled, Protected, Started, Waited}
use Rattle.smk_world.specs.declared.event.Change.{Change}
use Rattle.smk_world.specs.declared.event.Event.{Event}
use Rattle.smk_world.specs.declared.event.Node.TheVariants.{Directory, Regular}
use Rattle.smk_world.specs.declared.event.NodeState.{NodeState}
use Rattle.smk_world.specs.declared.event.NodeState.TheVariants.{Owned, Known}
use Rattle.smk_world.specs.World.{World, IsFormed, add_names, after, firm, is_above, is_within, out_paths, reading, reads_folder, run, with_flag}
use Rattle.smk_world.specs.Calls.{Lets, failed}
use Rattle.smk_world.specs.Requests.{HasDone, Request, request}
use Rattle.smk_world.specs.Requests.Request.{Look, ReadUpTo, ListFolder, Write, Create, Remove, MakeParents, Settle, Protect, Start, Wait}
use Rattle.smk_world.specs.Runs.{Follows}
use Rattle.smk_world.specs.Trees.{Act, Each, IsIn, Path}
use Rattle.smk_world.proofs.Names.{formed_after, formed_run}
use Rattle.smk_flow.specs.declared.job.Job.{Job}
use Rattle.smk_plan.specs.States.{Plan, job_path}
use Rattle.smk_laws_protocol.proofs.Basics.{each_in}
use Rattle.smk_keep.specs.Keeping.{protect_each, protect_requests}
use Rattle.smk_run.proofs.Calls.{each_append}
use Rattle.smk_drive.specs.Moments.{Begun, IsInForce, Rules, is_child_of, is_gone, is_rest}
use Rattle.smk_drive_course.specs.Stands.{Stand, lists}
use Rattle.smk_drive_course.specs.Steps.{HasGuarded}
use Rattle.smk_laws_moments.proofs.ChildrenOf.{run_more}
use Rattle.smk_laws_moments.specs.Staying.{IsPlanOfSources}
use Rattle.smk_laws_turns.proofs.Flags.{IsAsBare, bare, force_there}
use Rattle.smk_laws_turns.proofs.Onward.{At, own_keeps, quiet_event}
use Rattle.smk_laws_turns.proofs.Requests.{IsOwn, no_wait, out_placed, outs_apart, own_call, placed_site, settles_apart}

-- ## One place

flag_bare : (s : NodeState) → bare (reading (with_flag s)) ≡ bare (reading s)
flag_bare Owned = refl
flag_bare (Known None besides) = refl
flag_bare (Known (Some Directory) besides) = refl
flag_bare (Known (Some (Regular bytes time read_only)) besides) = refl

firm_bare : (s : NodeState) → bare (reading (firm s)) ≡ bare (reading s)
firm_bare Owned = refl
firm_bare (Known now besides) = refl

either_bare : (b : Bool) (s t : NodeState) → bare (reading t) ≡ bare (reading s) → bare (reading (if b then t else s)) ≡ bare (reading s)
either_bare true s t h = h
either_bare false s t h = refl

abbrev with_changes : World → List Change → List Path
with_changes v left = add_names (map (λ (c : Change). c.place) left) v.names

module _ (rules : Rules) (entry : World) (formed : IsFormed entry) (act : Act) (s : Stand) (j : Job)
    (planned : (plan : Plan) → s.plan ≡ Some plan → IsPlanOfSources rules entry plan × IsIn plan.jobs j)
    (begun : list_any (λ (b : Begun). bytes_eq (job_path b.job) (job_path j)) s.begun ≡ true) (paths : Each (λ p. is_path p ≡ true) (out_paths j.recipe)) where
  -- an output of the job is made read-only, or some are made firm
  abbrev IsGuarding : Request → Type 0
  IsGuarding (Look p) = ⊥
  IsGuarding (ReadUpTo p limit) = ⊥
  IsGuarding (ListFolder p) = ⊥
  IsGuarding (Write p bytes) = ⊥
  IsGuarding (Create p) = ⊥
  IsGuarding (Remove p) = ⊥
  IsGuarding (MakeParents p) = ⊥
  IsGuarding (Settle ps) = (p : Path) → IsIn ps p → IsIn (out_paths j.recipe) p
  IsGuarding (Protect p) = IsIn (out_paths j.recipe) p
  IsGuarding (Start recipe logs command) = ⊥
  IsGuarding Wait = ⊥

  guarding_own : (r : Request) → IsGuarding r → IsOwn j r
  guarding_own (Look p) h = absurd h
  guarding_own (ReadUpTo p limit) h = absurd h
  guarding_own (ListFolder p) h = absurd h
  guarding_own (Write p bytes) h = absurd h
  guarding_own (Create p) h = absurd h
  guarding_own (Remove p) h = absurd h
  guarding_own (MakeParents p) h = absurd h
  guarding_own (Settle ps) h = tt
  guarding_own (Protect p) h = placed_site j p (out_placed j p h)
  guarding_own (Start recipe logs command) h = absurd h
  guarding_own Wait h = absurd h

  -- what such a call leaves: the same but for the flags, and all marks
  record LeavesMarks (v w : World) : Type 0 where
    as_bare : IsAsBare v w
    marks : (o : Path) → w.nodes (mark_place o) ≡ v.nodes (mark_place o)

  leaves_marks : (v : World) (call : Call) (left : List Change) → IsGuarding (request call) → failed call ≡ false → Lets act v call left → LeavesMarks v (after v (record { call = call; left = left }))
  leaves_marks v (Protected p (Ok u)) left h ok lets =
      record {
        as_bare = record {
          names = ap (with_changes v) lets;
          nodes = λ q. either_bare (bytes_eq q p) (v.nodes q) (with_flag (v.nodes q)) (flag_bare (v.nodes q));
          children = refl;
        };
        marks = λ o.
            ap (λ b. if b then with_flag (v.nodes (mark_place o)) else v.nodes (mark_place o))
            (path-mark p o (each_in (λ x. is_path x ≡ true) (out_paths j.recipe) p paths h)).differed;
      }
  leaves_marks v (Protected p (Err e)) left h ok lets = absurd (true≢false ok)
  leaves_marks v (Settled ps (Ok u)) left h ok lets =
      record {
        as_bare = record {
          names = ap (with_changes v) lets;
          nodes = λ q. either_bare (is_within q ps || (is_above q ps && reads_folder (v.nodes q))) (v.nodes q) (firm (v.nodes q)) (firm_bare (v.nodes q));
          children = refl;
        };
        marks = λ o.
            let apart = settles_apart o ps (λ p i. outs_apart o (out_paths j.recipe) paths p (h p i)) in
            λ n.
            if apart.0 n || (apart.1 n && reads_folder (v.nodes (mark_place o))) then firm (v.nodes (mark_place o)) else v.nodes (mark_place o);
      }
  leaves_marks v (Settled ps (Err e)) left h ok lets = absurd (true≢false ok)
  leaves_marks v (Looked p r) left h ok lets = absurd h
  leaves_marks v (ReadFile p limit r) left h ok lets = absurd h
  leaves_marks v (ReadFolder p r) left h ok lets = absurd h
  leaves_marks v (Written p bytes r) left h ok lets = absurd h
  leaves_marks v (Created p r) left h ok lets = absurd h
  leaves_marks v (Removed p r) left h ok lets = absurd h
  leaves_marks v (MadeParents p r) left h ok lets = absurd h
  leaves_marks v (Started recipe logs command r) left h ok lets = absurd h
  leaves_marks v (Waited r) left h ok lets = absurd h

  same_rest : (v w : World) → LeavesMarks v w → is_rest w s.begun ≡ is_rest v s.begun
  same_rest v w same =
      λ i.
      list_all
      (λ (b : Begun). list_any (is_child_of b.job) (same.as_bare.children i)
      || (is_some b.ended && list_all (λ p. is_gone (same.marks p i)) (out_paths b.job.recipe))) s.begun

  -- at a rest the plan in force is that of the folder
  pub record IsReady (events : List Event) : Type 0 where
    pub at : At rules entry formed s events
    pub ready : is_rest (run entry events) s.begun ≡ true → IsInForce rules (run entry events) s.begun (lists s) s.plan

  there : (events : List Event) (f : Event) → run entry (events ++ f ∷ []) ≡ after (run entry events) f
  there events f = run_more entry events (f ∷ [])

  one_guard : (events : List Event) (f : Event) → IsGuarding (request f.call) → failed f.call ≡ false → Lets act (run entry events) f.call f.left → IsReady events → IsReady (events ++ f ∷ [])
  one_guard events f h ok lets r =
      let v = run entry events in
      let formed_v = formed_run entry events formed in
      let leaves = leaves_marks v f.call f.left h ok lets in
      let own = guarding_own (request f.call) h in
      let ready : is_rest (after v f) s.begun ≡ true → IsInForce rules (after v f) s.begun (lists s) s.plan =
      λ rest.
      force_there rules s.begun v (after v f) formed_v (formed_after v f formed_v) leaves.as_bare (lists s) s.plan (r.ready (sym (same_rest v (after v f) leaves) ∙ rest)) in
      record {
        at =
            quiet_event rules entry formed s events f r.at
            (λ m is of. own_keeps rules entry formed s j planned m f of
            (ap (λ (bs : List Begun). list_any (λ (b : Begun). bytes_eq (job_path b.job) (job_path j)) bs) of.begun ∙ begun) (own_call j m.world f.call own) (no_wait j f.call own))
            ready;
        ready = subst (λ (w : World). is_rest w s.begun ≡ true → IsInForce rules w s.begun (lists s) s.plan) (sym (there events f)) ready;
      }

  all_guards : (events fs : List Event) (rs : List Request) → Each IsGuarding rs → HasDone rs fs → Follows act (run entry events) fs → IsReady events → IsReady (events ++ fs)
  all_guards events [] [] each done follows r = subst IsReady (sym (append-nil events)) r
  all_guards events [] (q ∷ rs) each done follows r = absurd done
  all_guards events (f ∷ fs) [] each done follows r = absurd done
  all_guards events (f ∷ fs) (q ∷ rs) each done follows r =
      subst IsReady (append_assoc events (f ∷ []) fs)
      (all_guards (events ++ f ∷ []) fs rs each.1 done.2 (subst (λ (w : World). Follows act w fs) (sym (there events f)) follows.1)
      (one_guard events f (subst IsGuarding (sym done.0) each.0) done.1 follows.0.lets r))

  protects_guard : (ps : List Path) → ((p : Path) → IsIn ps p → IsIn (out_paths j.recipe) p) → Each IsGuarding (protect_each ps)
  protects_guard [] outs = tt
  protects_guard (p ∷ ps) outs = (outs p (inl refl), protects_guard ps (λ q i. outs q (inr i)))

  pub guarded :
      (events guarding : List Event) (guards : List Path) → ((p : Path) → IsIn guards p → IsIn (out_paths j.recipe) p) → HasGuarded guards guarding →
      Follows act (run entry events) guarding → IsReady events → IsReady (events ++ guarding)
  guarded events guarding [] outs none follows r = subst (λ fs. IsReady (events ++ fs)) (sym none) (subst IsReady (sym (append-nil events)) r)
  guarded events guarding (p ∷ ps) outs done follows r =
      all_guards events guarding (protect_requests (p ∷ ps))
      (each_append IsGuarding (protect_each (p ∷ ps)) (Settle (p ∷ ps) ∷ []) (protects_guard (p ∷ ps) outs) (outs, tt)) done follows r
