use Rattle.std.proofs.Common.{◌≡◌, ap, ◌∙◌, IfOk}
use Rattle.rayon.proofs.ToStd.{slice-AllZip}
use Rattle.smk_trigger.specs.Reasons.{reasons_of}
use Rattle.smk_trigger.proofs.Answered.{answered}
use Rattle.smk_trigger.proofs.judged.judged.Goals as goal

pub returns : goal.returns
returns g c =
    let slice = ap (λ it. it.slice.now) c.map.ensures.base ∙ c.par_iter.ensures in
    let told = c.in_ok-collect.ensures in
    let chain = told.1 in
    answered _ reasons_of c.args.facts.now told.0 c.in_ok-collect.field-0
    (slice-AllZip chain.0 c.args.facts.now (chain.1 ∙ slice) (λ x r. IfOk r (λ y. y ≡ reasons_of x)) told.0 chain.2) told.2
