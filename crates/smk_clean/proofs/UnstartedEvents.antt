-- Events that start no child.
use Rattle.std.proofs.Common.{◌≡◌, List, [], ◌∷◌, ◌++◌, refl, sym, ap, ◌∙◌, append_assoc}
use Rattle.smk_world.specs.declared.event.Event.{Event}
use Rattle.smk_world.specs.World.{World, run}
use Rattle.smk_world.specs.Calls.{started_number, started_numbers}
use Rattle.smk_world.proofs.Runs.{run_append}
use Rattle.smk_run.proofs.Calls.{EachCall}
use Rattle.smk_laws_moments.proofs.QuietCalls.{IsQuiet, quiet_number, quiet_run}
use Rattle.smk_clean.specs.NothingStarts.{StartsNone}

quiet_numbers : (es : List Event) → EachCall IsQuiet es → started_numbers es ≡ []
quiet_numbers [] h = refl
quiet_numbers (e ∷ es) h = let here = quiet_number e.call h.0 in let later = quiet_numbers es h.1 in λ i. here i ++ later i

numbers_more : (es fs : List Event) → started_numbers (es ++ fs) ≡ started_numbers es ++ started_numbers fs
numbers_more [] fs = refl
numbers_more (e ∷ es) fs =
    ap (λ ns. started_number e.call ++ ns) (numbers_more es fs) ∙ sym (append_assoc (started_number e.call) (started_numbers es) (started_numbers fs))

pub quiet_none : (w : World) (es : List Event) → EachCall IsQuiet es → StartsNone w es
quiet_none w es quiet = record { unstarted = quiet_numbers es quiet; children = quiet_run w es quiet }

pub none_then : (w : World) (es fs : List Event) → StartsNone w es → StartsNone (run w es) fs → StartsNone w (es ++ fs)
none_then w es fs first second =
    let here = first.unstarted in
    let later = second.unstarted in
    record {
      unstarted = numbers_more es fs ∙ (λ i. here i ++ later i);
      children = ap (λ (v : World). v.children) (run_append w es fs) ∙ (second.children ∙ first.children);
    }
