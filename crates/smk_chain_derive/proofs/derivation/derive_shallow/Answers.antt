use Rattle.std.proofs.Common.{◌≡◌, ◌∙◌, List, [], ap, sym, subst}
use Rattle.std.specs.List.{flat_map}
use Rattle.std.proofs.lemmas.Result.{IfErr-weaker}
use Rattle.smk_flow.specs.declared.job.Job.{Job}
use Rattle.smk_choose.specs.Told.{told_by}
use Rattle.smk_store.specs.Images.{Image}
use Rattle.smk_store.specs.Loading.{IsStoreOf}
use Rattle.smk_chain.specs.declared.jobs.Jobs.{Jobs}
use Rattle.smk_chain.specs.declared.fault.ChainFault.{ChainFault}
use Rattle.smk_chain.specs.Derive.{clashes, spots, job_refusals}
use Rattle.smk_chain.specs.Told.{TellsFirst}
use Rattle.smk_chain_derive.specs.Clashes.{ListsKnown, clashes_in}
use Rattle.smk_chain_derive.specs.Derived.{IsDerived}
use Rattle.smk_chain_derive.proofs.Refused.{if_three, walk_told, clash_told, none_refused}
use Rattle.smk_chain_derive.proofs.derivation.derive_shallow.Goals as goal

pub returns-in-Ok-clause-derived : goal.returns-in-Ok-clause-derived
returns-in-Ok-clause-derived c =
    let flow = c.args.flow.now in
    let sources = told_by c.args.sources.now in
    let store = c.args.store.now in
    let targets = c.args.targets.now in
    let walked = c.in-Ok.ensures.walked in
    if_three c.unless_clashing.result
    (λ (kept : Jobs). kept ≡ c.in-Ok.made)
    (λ (kept : Jobs). (image : Image) → IsStoreOf image store → ListsKnown image → clashes image [] (flat_map spots c.in-Ok.made.jobs) ≡ [])
    (λ (kept : Jobs). clashes_in store [] (flat_map spots c.in-Ok.made.jobs) ≡ [])
    (IsDerived flow sources c.args.lists store targets)
    (λ kept same clear apart. subst (IsDerived flow sources c.args.lists store targets) (sym same)
    (record {
      none = λ image is known. none_refused flow sources image c.args.lists targets c.requires.shallow walked.none
          (ap (λ (js : List Job). clashes image [] (flat_map spots js)) (sym walked.called) ∙ clear image is known);
      called = walked.called;
      links = walked.links;
      lists = walked.lists;
      apart = apart;
    }))
    c.unless_clashing.ensures.same c.unless_clashing.ensures.none c.unless_clashing.ensures.apart

pub returns-in-Ok-clause-fault : goal.returns-in-Ok-clause-fault
returns-in-Ok-clause-fault c =
    let flow = c.args.flow.now in
    let sources = told_by c.args.sources.now in
    let store = c.args.store.now in
    let walked = c.in-Ok.ensures.walked in
    IfErr-weaker c.unless_clashing.result
    (λ (f : ChainFault). (image : Image) → IsStoreOf image store → ListsKnown image → TellsFirst flow (clashes image [] (flat_map spots c.in-Ok.made.jobs)) f)
    (λ (f : ChainFault). (image : Image) → IsStoreOf image store → ListsKnown image → TellsFirst flow (job_refusals flow sources image c.args.lists c.args.targets.now) f)
    (λ f tells image is known. clash_told flow sources image c.args.lists c.args.targets.now f c.requires.shallow walked.none
    (subst (λ (js : List Job). TellsFirst flow (clashes image [] (flat_map spots js)) f) walked.called (tells image is known)))
    c.unless_clashing.ensures.fault

pub returns-in-Err-clause-fault : goal.returns-in-Err-clause-fault
returns-in-Err-clause-fault c = λ image is known.
    walk_told c.args.flow.now (told_by c.args.sources.now) image c.args.lists c.args.targets.now c.in-Err.fault c.requires.shallow c.in-Err.ensures.fault
