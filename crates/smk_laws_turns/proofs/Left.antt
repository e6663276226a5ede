-- What the laws say of a child that was waited for: its job closed, its outputs tended, or left.
use Rattle.std.proofs.Common.{◌≡◌, inl, true, ◌&&◌, ◌||◌, List, [], ◌∷◌, Ok, refl, sym, ap, subst, ◌∙◌, append-nil, is_some}
use Rattle.smk_base.specs.Place.{mark_place}
use Rattle.smk_base.proofs.Under.{or_first, or_second}
use Rattle.smk_world.specs.declared.event.NodeState.{NodeState}
use Rattle.smk_world.specs.Trees.{IsIn, Path, is_path_text, outs_of}
use Rattle.smk_world.specs.World.{World, after, out_paths, reading, run}
use Rattle.smk_world.proofs.Names.{formed_run}
use Rattle.smk_world.proofs.Runs.{run_append}
use Rattle.smk_store.specs.Images.{stands}
use Rattle.smk_laws_plan.proofs.CurrentPaths.{in_among}
use Rattle.smk_run.specs.Closings.{wait_event}
use Rattle.smk_run.proofs.Calls.{EachCall, looked_each}
use Rattle.smk_drive.specs.Moments.{seen}
use Rattle.smk_drive_course.specs.Steps.{guards_of}
use Rattle.smk_laws_turns.specs.Turning.{OfParts}
use Rattle.smk_laws_turns.proofs.Staff.{job_of}
use Rattle.smk_laws_turns.specs.Differing.{IsKnownOrGone}
use Rattle.smk_laws_turns.specs.Closed.{CloseDiffers, IsClosedFor, LeftOurs, TendDiffers}
use Rattle.smk_laws_turns.specs.Guarded.{IsGuardedSince}
use Rattle.smk_laws_turns.proofs.ClosedCalls.{IsOf, all_keep}
use Rattle.smk_laws_turns.proofs.Touched.{AreAmong, looks_of, touched}
use Rattle.smk_laws_turns.proofs.FolderClosing.{follows_split}
use Rattle.smk_laws_turns.proofs.ClosedFor.{ours_now, outs, signed_here}
use Rattle.smk_laws_turns.proofs.Ending.{closed_then, each_more, tending_of}
use Rattle.smk_laws_turns.proofs.Guarding.{guarded_since, tended_same}
use Rattle.smk_laws_turns.proofs.Guards.{guards_are_outputs}
use Rattle.smk_laws_turns.proofs.FolderWaiting.{own_still}

pub close_differs : OfParts CloseDiffers
close_differs rules entry h s w before deeds act going ended left closing how at owners reads unbroken waited closed follows =
    let its = job_of rules entry h s w before deeds at going waited.ran in
    let since = after w (wait_event ended left) in
    subst (λ es. IsClosedFor rules entry h s w (run since es) (out_paths going.recipe)) (append-nil closing)
    (closed_then rules entry h s w before deeds act at owners reads unbroken going ended left waited how its.job closing []
    (λ p i. subst (λ r. IsIn (out_paths r) p) its.same_recipe (guards_are_outputs rules entry h s w before deeds its.job how p at its.of_plan i))
    closed follows.1 tt)

pub tend_differs : OfParts TendDiffers
tend_differs rules entry h s w before deeds act going ended left closing tending how k at owners reads unbroken waited ik recipe closed tended follows =
    let since = after w (wait_event ended left) in
    let v = run since closing in
    let two = follows_split act since closing tending follows.1 in
    let among_outs : AreAmong (guards_of k how) (out_paths k.recipe) = λ p i. guards_are_outputs rules entry h s w before deeds k how p at ik i in
    let of = tending_of (guards_of k how) (Ok tt) tending tended refl in
    let formed = formed_run w (wait_event ended left ∷ closing) at.home.formed in (
      closed_then rules entry h s w before deeds act at owners reads unbroken going ended left waited how k closing tending
          (λ p i. subst (λ r. IsIn (out_paths r) p) recipe (among_outs p i)) closed two.0 of,
      subst (IsGuardedSince rules k v) (sym (run_append since closing tending))
          (guarded_since rules entry h s w before deeds at k ik (guards_of k how) among_outs v tending of formed (formed_run v tending formed)
          (tended_same act v (guards_of k how) (Ok tt) tending tended refl two.1)),
    )

pub left_ours : OfParts LeftOurs
left_ours rules entry h s w before deeds act going ended left looks at owners unbroken waited looked follows =
    ours_now rules entry h s w before deeds at unbroken going ended left waited looks
    (each_more [] (touched its_outs) (λ p i. absurd i) looks none) known
  where
    its_outs : List Path
    its_outs = outs rules entry h s w before deeds at unbroken going ended left waited

    none : EachCall (IsOf []) looks
    none = looked_each (IsOf []) (looks_of []) (outs_of going.recipe) looks looked

    since : World
    since = after w (wait_event ended left)

    marked : (p : Path) → IsIn its_outs p → (seen rules (run since looks)).marked p ≡ true
    marked p i =
        ap (λ (x : NodeState). is_path_text p && is_some (reading x))
        (all_keep [] (mark_place p) (λ q m. absurd m) since looks none
        ∙ own_still rules entry h s w before deeds at going ended left waited.ran waited.number (mark_place p) refl)
        ∙ (signed_here rules entry h s w before deeds at unbroken going ended left waited).marked p (in_among its_outs p i)

    known : (p : Path) → IsIn its_outs p → IsKnownOrGone (seen rules (run since looks)) p
    known p i =
        inl
        (or_second (stands ((seen rules (run since looks)).kept p)) ((seen rules (run since looks)).marked p || (seen rules (run since looks)).noted p)
        (or_first ((seen rules (run since looks)).marked p) ((seen rules (run since looks)).noted p) (marked p i)))
