use Rattle.std.proofs.Common.{◌≡◌, ap, ◌∙◌}
use Rattle.rayon.proofs.ListFacts.{IfOk-then}
use Rattle.rayon.proofs.ToStd.{slice-AllZip}
use Rattle.smk_store.specs.Trust.{sum_of}
use Rattle.smk_digest.proofs.Matched.{all_mapped}
use Rattle.smk_digest.proofs.digesting.digests.Goals as goal

pub returns : goal.returns
returns g c =
    let slice = ap (λ it. it.slice.now) c.map.ensures.base ∙ c.par_iter.ensures in
    IfOk-then c.collect.result _ _ c.collect.ensures (λ v h.
    let chain = h.1 in
    h.2 ∙ all_mapped sum_of c.args.contents.now h.0 (slice-AllZip chain.0 c.args.contents.now (chain.1 ∙ slice) (λ x y. y ≡ sum_of x) h.0 chain.2))
