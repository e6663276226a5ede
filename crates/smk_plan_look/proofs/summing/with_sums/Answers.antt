use Rattle.std.proofs.Common.{ap, ◌∙◌, reverse}
use Rattle.std.specs.BTreeSet.{contains_text}
use Rattle.smk_world.proofs.Devices.{looked_on, looked_memory, looked_nothing}
use Rattle.smk_plan_look.specs.Putting.{paths_where, put_sums}
use Rattle.smk_plan_look.proofs.Placed.{have_put}
use Rattle.smk_plan_look.proofs.summing.with_sums.Goals as goal

pub returns-in_err-paths-clause-looked : goal.returns-in_err-paths-clause-looked
returns-in_err-paths-clause-looked g c = looked_memory _ c.from_residual.ensures.1 (looked_nothing g.W.Files.act _)

pub returns-in_err-digests-clause-looked : goal.returns-in_err-digests-clause-looked
returns-in_err-digests-clause-looked g c = looked_on _ c.in_err-digests.was c.from_residual-in_err-digests.ensures.1 c.sums_at.ensures.looked

pub returns-in_err-from_last-clause-looked : goal.returns-in_err-from_last-clause-looked
returns-in_err-from_last-clause-looked g c = looked_memory _ c.from_residual-in_err-from_last.ensures.1 c.in_ok-digests.ensures.looked

pub returns-in_err-found-clause-looked : goal.returns-in_err-found-clause-looked
returns-in_err-found-clause-looked g c = looked_memory _ c.from_residual-in_err-found.ensures.1 c.in_ok-digests.ensures.looked

pub returns-clause-looked : goal.returns-clause-looked
returns-clause-looked g c = c.in_ok-digests.ensures.looked

pub returns-clause-put : goal.returns-clause-put
returns-clause-put g c =
    have_put (g.W.Files.device c.args.work.now) (contains_text c.args.needed.now) c.args.sights _ _ _ _ (c.in_ok-paths.ensures ∙ ap (paths_where (contains_text c.args.needed.now)) c.as_slice.ensures) c.in_ok-digests.ensures.told c.in_ok-from_last.ensures
    (c.in_ok-found.ensures ∙ ap (put_sums (contains_text c.args.needed.now) (reverse c.in_ok-from_last.from_last)) c.as_slice-2.ensures)
