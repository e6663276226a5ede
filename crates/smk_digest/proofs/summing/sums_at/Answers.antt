use Rattle.std.proofs.Common.{[], ◌++◌, ap, sym, subst, ◌∙◌, append_assoc}
use Rattle.std.proofs.lemmas.List.{append-nil}
use Rattle.smk_world.proofs.Devices.{looked_on, looked_then, still}
use Rattle.smk_digest.specs.Digests.{AreSums}
use Rattle.smk_digest.proofs.Matched.{sums_added, sums_done, both_parts}
use Rattle.smk_digest.proofs.summing.sums_at.Goals as goal

pub returns-in_err-push_sums-clause-looked : goal.returns-in_err-push_sums-clause-looked
returns-in_err-push_sums-clause-looked g c = looked_then c.all.invariant.looked (looked_on _ c.in_err-push_sums.was c.from_residual.ensures.1 c.push_sums.ensures.looked)

pub all-preserved : goal.all-preserved
all-preserved g c =
    let v = c.all.invariant in
    record {
      looked = looked_then v.looked c.in_ok-push_sums.ensures.looked;
      told = λ w at later rest.
          let u = still w v.looked at in
          let more = c.in_ok-push_sums.ensures.told u.0 u.1 in
          subst (AreSums w c.args.paths.now) (sym (append_assoc c.all.found more.0 later) ∙ ap (λ l. l ++ later) (sym more.1))
          (v.told w at (more.0 ++ later)
          (subst (λ ps. AreSums w ps (more.0 ++ later)) (both_parts _ c.all.rest.now _ _ c.split_at.ensures.front c.split_at.ensures.back)
          (sums_added w u.0 c.split_at.result.0.now c.split_at.result.1.now more.0 later u.2 more.2 rest)));
    }

pub returns-clause-told : goal.returns-clause-told
returns-clause-told g c = λ w at.
    subst (AreSums w c.args.paths.now) (append-nil c.all.found) (c.all.invariant.told w at [] (sums_done w c.all.rest.now c.is_empty.result c.is_empty.ensures c.all-test.false))
