use Rattle.std.proofs.Common.{◌≡◌, true, false, subst, sym, ap, ◌∙◌, ◌∷◌, ◌++◌, []}
use Rattle.smk_world.specs.Trees.{is_path_text}
use Rattle.smk_world.proofs.Devices.{looked_memory, looked_on, looked_then, still}
use Rattle.smk_plan_look.proofs.Found.{sight_pushed}
use Rattle.smk_drive_outcome.proofs.outcome.push_output.Goals as goal

pub returns-in_err-kept-clause-looked : goal.returns-in_err-kept-clause-looked
returns-in_err-kept-clause-looked g c = looked_on _ c.in_err-kept.was c.from_residual.ensures.1 c.kept_at.ensures.looked

pub returns-in_err-at-clause-looked : goal.returns-in_err-at-clause-looked
returns-in_err-at-clause-looked g c = looked_memory _ c.from_residual-in_err-at.ensures.1 c.in_ok-kept.ensures.looked

pub returns-in_err-sight-clause-looked : goal.returns-in_err-sight-clause-looked
returns-in_err-sight-clause-looked g c =
    looked_then c.in_ok-kept.ensures.looked (looked_on _ c.in_err-sight.was c.from_residual-in_err-sight.ensures.1 c.sight_at.ensures.looked)

pub returns-in_err-push-clause-looked : goal.returns-in_err-push-clause-looked
returns-in_err-push-clause-looked g c =
    looked_memory _ c.from_residual-in_err-push.ensures.1 (looked_then c.in_ok-kept.ensures.looked c.in_ok-sight.ensures.looked)

pub returns-in_err-push-2-clause-looked : goal.returns-in_err-push-2-clause-looked
returns-in_err-push-2-clause-looked g c =
    looked_memory _ c.from_residual-in_err-push-2.ensures.1 (looked_then c.in_ok-kept.ensures.looked c.in_ok-sight.ensures.looked)

pub returns-clause-looked : goal.returns-clause-looked
returns-clause-looked g c = looked_then c.in_ok-kept.ensures.looked c.in_ok-sight.ensures.looked

pub returns-clause-added : goal.returns-clause-added
returns-clause-added g c =
    record {
      entry = _;
      sight = c.in_ok-sight.sight;
      entries = c.in_ok-push.ensures.ok;
      sights = c.in_ok-push-2.ensures.ok;
      path = c.in_ok-sight.ensures.path ∙ c.in_ok-at.ensures;
    }

pub returns-clause-entry : goal.returns-clause-entry
returns-clause-entry g c = λ w at own read reads.
    c.in_ok-push.ensures.ok
    ∙ ap (λ k. c.args.found.now.entries ++ record { kept = k; marked = false; noted = false } ∷ []) (c.in_ok-kept.ensures.told w at own read reads)

pub returns-clause-sight : goal.returns-clause-sight
returns-clause-sight g c = λ w at each.
    let u = still w c.in_ok-kept.ensures.looked at in
    sight_pushed u.0.nodes w.nodes _ _ c.in_ok-sight.sight c.in_ok-at.at c.in_ok-push-2.ensures.ok c.in_ok-sight.ensures.path u.2
    (λ free. c.in_ok-sight.ensures.told u.0 u.1 free (subst (λ p. is_path_text p ≡ true) (sym c.in_ok-at.ensures) c.requires.text)) each
