use Rattle.std.specs.BTreeSet.{contains_text}
use Rattle.smk_world.proofs.Devices.{looked_on, looked_memory, looked_nothing}
use Rattle.smk_plan_look.specs.Needs.{needs_digest}
use Rattle.smk_plan_look.proofs.Placed.{put_by, put_rises}
use Rattle.smk_plan_look.proofs.summing.summed.Goals as goal

pub returns-in_err-needed-clause-looked : goal.returns-in_err-needed-clause-looked
returns-in_err-needed-clause-looked g c = looked_memory _ c.from_residual.ensures.1 (looked_nothing g.W.Files.act _)

pub returns-in_err-sights-clause-looked : goal.returns-in_err-sights-clause-looked
returns-in_err-sights-clause-looked g c = looked_on _ c.in_err-sights.was c.from_residual-in_err-sights.ensures.1 c.with_sums.ensures.looked

pub of-requires : goal.of-requires
of-requires g c = record { rising = put_rises (g.W.Files.device c.args.work.now) (contains_text c.in_ok-needed.needed) _ _ c.in_ok-sights.ensures.put c.into_sights.ensures.rising }

pub returns-clause-looked : goal.returns-clause-looked
returns-clause-looked g c = c.in_ok-sights.ensures.looked

pub returns-clause-put : goal.returns-clause-put
returns-clause-put g c =
    put_by (g.W.Files.device c.args.work.now) (contains_text c.in_ok-needed.needed) (needs_digest c.args.store.now c.args.jobs.now c.args.seen) _ c.args.seen _ _ c.in_ok-needed.ensures c.into_sights.ensures.value c.of.ensures c.in_ok-sights.ensures.put
