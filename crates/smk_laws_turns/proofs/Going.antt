-- How a run goes on, by one step after another.
use Rattle.std.proofs.Common.{◌++◌, [], sym, subst}
use Rattle.std.proofs.lemmas.List.{append-nil, append_assoc}
use Rattle.smk_world.specs.World.{run}
use Rattle.smk_drive_course.specs.Breaks.{Done, Then}
use Rattle.smk_laws_moments.proofs.ChildrenOf.{run_more}
use Rattle.smk_laws_turns.specs.Going.{GoesOnFrom, RestsThere}
use Rattle.smk_laws_turns.specs.Hubs.{IsAt}

pub rests_there : RestsThere
rests_there rules entry h s w before deeds at =
    record {
      stand = s;
      steps = Done s w before;
      at = subst (λ ds. IsAt rules entry h s w (before ++ []) ds) (sym (append-nil deeds)) (subst (λ es. IsAt rules entry h s w es deeds) (sym (append-nil before)) at);
    }

pub goes_on_from : GoesOnFrom
goes_on_from rules entry h k s w before es fs deeds more later led gone =
    record {
      stand = gone.stand;
      steps = Then s led.stand gone.stand w before es fs more later led.step gone.steps;
      at =
          subst (λ v. IsAt rules entry k gone.stand v (before ++ (es ++ fs)) (deeds ++ (more ++ later))) (sym (run_more w es fs))
          (subst (λ past. IsAt rules entry k gone.stand (run (run w es) fs) past (deeds ++ (more ++ later))) (append_assoc before es fs)
          (subst (λ ds. IsAt rules entry k gone.stand (run (run w es) fs) ((before ++ es) ++ fs) ds) (append_assoc deeds more later) gone.at));
    }
