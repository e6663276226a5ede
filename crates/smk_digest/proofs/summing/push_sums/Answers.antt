use Rattle.std.proofs.Common.{◌++◌, ap, sym, subst, ◌∙◌}
use Rattle.smk_world.proofs.Devices.{looked_memory}
use Rattle.smk_digest.specs.Digests.{AreSums}
use Rattle.smk_digest.proofs.Matched.{summed}
use Rattle.smk_digest.proofs.summing.push_sums.Goals as goal

pub returns-in_err-sums-clause-looked : goal.returns-in_err-sums-clause-looked
returns-in_err-sums-clause-looked g c = looked_memory _ c.from_residual-in_err-sums.ensures.1 c.in_ok-contents.ensures.looked

pub returns-in_err-append-clause-looked : goal.returns-in_err-append-clause-looked
returns-in_err-append-clause-looked g c = looked_memory _ c.from_residual-in_err-append.ensures.1 c.in_ok-contents.ensures.looked

pub returns-clause-told : goal.returns-clause-told
returns-clause-told g c = λ w at. (
  c.in_ok-sums.sums,
  c.in_ok-append.ensures ∙ ap (λ more. c.args.found.now ++ more) c.as_slice.ensures,
  subst (AreSums w c.args.paths.now) (sym c.in_ok-sums.ensures) (summed w c.args.paths.now c.in_ok-contents.contents (c.in_ok-contents.ensures.told w at)),
)
