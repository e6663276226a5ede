-- Once a job was closed its outputs were made read-only, and the folder was looked at: how the folder is then, and what is so of the stand.
use Rattle.std.proofs.Common.{◌≡◌, true, false, List, [], ◌∷◌, ◌++◌, refl, sym, ap, subst, ◌∙◌, inl, inr, None, Ok, IsTrue, is_some, append-nil, bytes_eq}
use Rattle.std.specs.List.{list_all}
use Rattle.smk_base.specs.Place.{mark_place}
use Rattle.smk_base.proofs.Places.{and_first, and_second, place_itself}
use Rattle.smk_base.proofs.Under.{both_true, false_unless, or_first, or_second}
use Rattle.smk_world.specs.declared.event.Event.{Event}
use Rattle.smk_world.specs.Devices.{AreLooks}
use Rattle.smk_world.specs.Runs.{Follows}
use Rattle.smk_world.specs.Trees.{Act, IsIn, Path, among}
use Rattle.smk_world.specs.World.{World, after, out_paths, reading, run}
use Rattle.smk_store.specs.Images.{image_by}
use Rattle.smk_chain.specs.Derive.{Derived, derivation}
use Rattle.smk_plan.specs.States.{job_path}
use Rattle.smk_run.proofs.Calls.{EachCall}
use Rattle.smk_drive.specs.Moments.{Begun, Rules, is_gone, is_rest, seen}
use Rattle.smk_drive_outcome.specs.declared.outcome.Outcome.{Outcome}
use Rattle.smk_drive_outcome.specs.Outcomes.{AreOutcomes, AreUnowned}
use Rattle.smk_drive_course.specs.Steps.{HasGuarded, IsTended, Tended, guards_of}
use Rattle.smk_laws_history.proofs.CurrentComplete.{seen_is_complete}
use Rattle.smk_laws_protocol.proofs.Basics.{in_among, in_rest}
use Rattle.smk_laws_moments.proofs.ChildrenOf.{run_more}
use Rattle.smk_laws_moments.proofs.QuietCalls.{IsQuiet, quiet_run, tended_quiet}
use Rattle.smk_laws_turns.proofs.Deriving.{derivation_goes_on}
use Rattle.smk_laws_turns.specs.Hubs.{IsHome}
use Rattle.smk_laws_turns.specs.Homes.{IsLookedAt}
use Rattle.smk_laws_turns.proofs.Apart.{one_job}
use Rattle.smk_laws_turns.proofs.RoomToClose.{unowned_to_look}
use Rattle.smk_laws_turns.proofs.Homes.{home_stays, looks_leave_all}
use Rattle.smk_laws_turns.specs.Closed.{IsClosedFor}
use Rattle.smk_laws_turns.specs.Guarded.{IsGuardedSince}
use Rattle.smk_laws_closes.specs.Endings.{told_end}
use Rattle.smk_laws_closes.specs.Learning.{IsOutcomeIn}
use Rattle.smk_laws_closes.proofs.Around.{IsSplit}
use Rattle.smk_laws_closes.proofs.Basis.{Closing, begun_job, begun_recipe, closed_children, closed_world, ended_world, its_begun, jobs, of_plan, ran, recipe, split_in, wait, waited, without}
use Rattle.smk_laws_closes.proofs.Fates.{rests_again}
use Rattle.smk_laws_closes.proofs.Laws.{Laws}

-- what follows first, and then
pub followed : (act : Act) (w : World) (es fs : List Event) → Follows act w (es ++ fs) → Follows act w es × Follows act (run w es) fs
followed act w [] fs h = (tt, h)
followed act w (e ∷ es) fs h = let more = followed act (after w e) es fs h.1 in ((h.0, more.0), more.1)

same_seen : (rules : Rules) (w v : World) → v.names ≡ w.names → v.nodes ≡ w.nodes → seen rules w ≡ seen rules v
same_seen rules w v names nodes = λ i. image_by rules.read (sym names i) (λ q. reading (sym nodes i q))

module _ (l : Laws) (x : Closing) (guarding looks : List Event) (guards : HasGuarded (guards_of x.job x.how) guarding) (quiet : AreLooks false looks)
    (follows : Follows x.act x.w ((wait x ∷ x.closing) ++ (guarding ++ looks))) where
  abbrev pub tended_world : World
  tended_world = run x.w ((wait x ∷ x.closing) ++ (guarding ++ looks))

  -- once the outputs were made read-only
  abbrev pub guarded_world : World
  guarded_world = run (closed_world x) guarding

  pub tended_by : IsTended (guards_of x.job x.how) (Ok tt) (guarding ++ looks)
  tended_by = Tended guarding looks guards quiet

  both : IsClosedFor x.rules x.entry x.h x.s x.w tended_world (out_paths x.c.going.recipe) × IsGuardedSince x.rules x.job (closed_world x) tended_world
  both =
      l.tend_differs x.rules x.entry x.h x.s x.w x.before x.deeds x.act x.c.going x.ended x.left x.closing (guarding ++ looks) x.how x.job x.at x.owners x.reads
      x.unbroken (waited x) (of_plan x) (recipe x) x.closed tended_by follows

  pub closed_for : IsClosedFor x.rules x.entry x.h x.s x.w tended_world (out_paths x.c.going.recipe)
  closed_for = both.0

  pub guarded_since : IsGuardedSince x.rules x.job (closed_world x) tended_world
  guarded_since = both.1

  pub tended_home : IsHome x.entry tended_world
  tended_home = home_stays x.act x.entry x.w ((wait x ∷ x.closing) ++ (guarding ++ looks)) follows x.at.home

  pub world_is : tended_world ≡ run guarded_world looks
  world_is = run_more x.w (wait x ∷ x.closing) (guarding ++ looks) ∙ run_more (closed_world x) guarding looks

  later : Follows x.act guarded_world looks
  later = (followed x.act (closed_world x) guarding looks (followed x.act x.w (wait x ∷ x.closing) (guarding ++ looks) follows).1).1

  pub looked : IsLookedAt guarded_world (run guarded_world looks)
  looked = looks_leave_all x.act false guarded_world looks quiet later

  pub tended_children : tended_world.children ≡ (ended_world x).children
  tended_children = guarded_since.children ∙ closed_children x

  guarded_children : guarded_world.children ≡ (ended_world x).children
  guarded_children =
      quiet_run (closed_world x) guarding
      (subst (EachCall IsQuiet) (append-nil guarding) (tended_quiet (guards_of x.job x.how) (Ok tt) (guarding ++ []) (Tended guarding [] guards refl)))
      ∙ closed_children x

  -- what was told of the outputs is so now
  pub outcomes : (o : Outcome) → IsOutcomeIn x.job o guarded_world → AreOutcomes (seen x.rules tended_world) (out_paths x.job.recipe) o
  outcomes o h =
      let free =
      unowned_to_look x.rules x.entry x.h x.s x.w x.before x.deeds x.c.going x.ended x.left guarded_world x.at (ran x) x.number guarded_children h.owners in
      let images : seen x.rules guarded_world ≡ seen x.rules tended_world =
      same_seen x.rules guarded_world (run guarded_world looks) looked.names looked.nodes ∙ ap (seen x.rules) (sym world_is) in
      subst (λ i. AreOutcomes i (out_paths x.job.recipe) o) images
      (h.told (subst (λ r. AreUnowned guarded_world (out_paths r)) (sym (recipe x)) free) x.rules.read x.reads)

  -- the jobs are those that the folder calls for still
  pub derived_now : derivation x.rules.flow (seen x.rules tended_world) x.h.live.base.jobs.lists x.rules.settings.targets ≡ Derived (jobs x)
  derived_now =
      derivation_goes_on x.rules.flow (seen x.rules x.entry) (seen x.rules tended_world) x.h.live.base.jobs.lists x.rules.settings.targets (jobs x)
      (seen_is_complete x.rules.read x.entry x.at.home.found) (seen_is_complete x.rules.read tended_world tended_home.formed) closed_for.ours.sources closed_for.ours.signs
      x.at.derived

  module _ (unhalted : x.s.halted ≡ None) where
    pub split : IsSplit x.w tended_world x.s.begun (without x).begun (its_begun x) (told_end x.how)
    split = split_in x tended_world unhalted tended_children

    all_gone : (ps : List Path) → ((p : Path) → IsIn ps p → among (out_paths x.c.going.recipe) p ≡ true) → list_all (λ p. is_gone (tended_world.nodes (mark_place p))) ps ≡ true
    all_gone [] h = refl
    all_gone (p ∷ ps) h =
        both_true (is_gone (tended_world.nodes (mark_place p))) (list_all (λ q. is_gone (tended_world.nodes (mark_place q))) ps) (closed_for.gone p (h p (inl refl)))
        (all_gone ps (λ q i. h q (inr i)))

    in_itself : (ps : List Path) (p : Path) → IsIn ps p → among ps p ≡ true
    in_itself [] p i = absurd i
    in_itself (q ∷ ps) p (inl e) = or_first (bytes_eq p q) (among ps p) (subst (λ y. bytes_eq p y ≡ true) e (place_itself p))
    in_itself (q ∷ ps) p (inr i) = or_second (bytes_eq p q) (among ps p) (in_itself ps p i)

    same_signs : (ps : List Path) → ((p : Path) → IsIn ps p → among (out_paths x.c.going.recipe) p ≡ false) →
        list_all (λ p. is_gone (x.w.nodes (mark_place p))) ps ≡ true → list_all (λ p. is_gone (tended_world.nodes (mark_place p))) ps ≡ true
    same_signs [] other h = refl
    same_signs (p ∷ ps) other h =
        both_true (is_gone (tended_world.nodes (mark_place p))) (list_all (λ q. is_gone (tended_world.nodes (mark_place q))) ps)
        (ap is_gone (closed_for.others p (other p (inl refl))) ∙ and_first (is_gone (x.w.nodes (mark_place p))) _ h)
        (same_signs ps (λ q i. other q (inr i)) (and_second (is_gone (x.w.nodes (mark_place p))) _ h))

    -- other jobs make other outputs
    other_outs : (k : Begun) → IsIn (split.front ++ split.back) k → (p : Path) → IsIn (out_paths k.job.recipe) p → among (out_paths x.c.going.recipe) p ≡ false
    other_outs k i p ip =
        false_unless (among (out_paths x.c.going.recipe) p)
        (λ has.
        let there : IsIn (out_paths x.job.recipe) p = subst (λ r. IsIn (out_paths r) p) (sym (recipe x)) (in_among (out_paths x.c.going.recipe) p has) in
        let of_k = x.at.planned k (subst (λ ks. IsIn ks k) (sym split.were) (in_rest split.front split.back (its_begun x) k i)) in
        let one = one_job x.rules x.entry x.h x.s x.w x.before x.deeds x.at k.job x.job p of_k (of_plan x) ip there in
        split.others k i (ap job_path (one ∙ sym (begun_job x))))

    pub at_rest : IsTrue (is_rest tended_world (without x).begun)
    at_rest =
        rests_again x.w tended_world x.s.begun (without x).begun (its_begun x) (told_end x.how) split
        (all_gone (out_paths (its_begun x).job.recipe)
        (λ p i. in_itself (out_paths x.c.going.recipe) p (subst (λ r. IsIn (out_paths r) p) (begun_recipe x) i)))
        (λ k i closed.
        both_true (is_some k.ended) (list_all (λ p. is_gone (tended_world.nodes (mark_place p))) (out_paths k.job.recipe)) (and_first (is_some k.ended) _ closed)
        (same_signs (out_paths k.job.recipe) (other_outs k i) (and_second (is_some k.ended) _ closed)))
        (x.at.kept unhalted).clear.at_rest
