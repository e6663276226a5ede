-- What leaves all but some places as it stands.
use Rattle.std.proofs.Common.{◌≡◌, Bool, List, [], ◌∷◌, ◌++◌, refl, sym, ap, subst, ◌∙◌, append_assoc}
use Rattle.smk_world.specs.declared.event.Event.{Event}
use Rattle.smk_world.specs.World.{World, run}
use Rattle.smk_world.specs.Calls.{started_number, started_numbers}
use Rattle.smk_world.specs.Devices.{AreLooks}
use Rattle.smk_world.specs.Trees.{Path}
use Rattle.smk_world.proofs.Runs.{run_append}
use Rattle.smk_keep_lock.specs.Changing.{ChangesOnly}
use Rattle.smk_keep_lock.proofs.Staying.{changes_only, looks_keep, stays_then}
use Rattle.smk_run.proofs.Calls.{EachCall}
use Rattle.smk_laws_moments.proofs.QuietCalls.{IsQuiet, looks_quiet, quiet_number, quiet_run}
use Rattle.smk_laws_refusing.specs.Leaving.{LeavesAllBut}

quiet_numbers : (es : List Event) → EachCall IsQuiet es → started_numbers es ≡ []
quiet_numbers [] h = refl
quiet_numbers (e ∷ es) h = let here = quiet_number e.call h.0 in let later = quiet_numbers es h.1 in λ i. here i ++ later i

numbers_more : (es fs : List Event) → started_numbers (es ++ fs) ≡ started_numbers es ++ started_numbers fs
numbers_more [] fs = refl
numbers_more (e ∷ es) fs =
    ap (λ ns. started_number e.call ++ ns) (numbers_more es fs) ∙ sym (append_assoc (started_number e.call) (started_numbers es) (started_numbers fs))

module _ (places : List Path) where
  -- calls that start no child and wait for none, and change nothing else
  pub quiet_leaves : (w : World) (es : List Event) → ChangesOnly places places w (run w es) → EachCall IsQuiet es → LeavesAllBut places w es
  quiet_leaves w es only quiet = record { stays = only; unstarted = quiet_numbers es quiet; children = quiet_run w es quiet }

  pub looks_leave : (failure : Bool) (w : World) (es : List Event) → AreLooks failure es → LeavesAllBut places w es
  looks_leave failure w es looks = quiet_leaves w es (changes_only places places w es (looks_keep places places failure es looks)) (looks_quiet failure es looks)

  pub leaves_then : (w : World) (es fs : List Event) → LeavesAllBut places w es → LeavesAllBut places (run w es) fs → LeavesAllBut places w (es ++ fs)
  leaves_then w es fs first second =
      let here = first.unstarted in
      let later = second.unstarted in
      record {
        stays =
            subst (ChangesOnly places places w) (sym (run_append w es fs))
            (λ q out off. stays_then (w.nodes q) ((run w es).nodes q) ((run (run w es) fs).nodes q) (first.stays q out off) (second.stays q out off));
        unstarted = numbers_more es fs ∙ (λ i. here i ++ later i);
        children = ap (λ (v : World). v.children) (run_append w es fs) ∙ (second.children ∙ first.children);
      }

  -- where nothing at all is changed, no more than that is
  pub leaves_more : (w : World) (es : List Event) → LeavesAllBut [] w es → LeavesAllBut places w es
  leaves_more w es h = record { stays = λ q out off. h.stays q refl refl; unstarted = h.unstarted; children = h.children }
