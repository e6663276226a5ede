use Rattle.std.proofs.Common.{◌≡◌, ◌∙◌, List, ap, ap₂, sym, subst, filter, IfOk}
use Rattle.smk_world.specs.World.{folders_above}
use Rattle.smk_flow.specs.declared.workflow.Rule.{Rule}
use Rattle.smk_choose.specs.declared.choice.Making.{Making}
use Rattle.smk_choose.specs.declared.readings.Reading.{Reading}
use Rattle.smk_choose.specs.Told.{told_by}
use Rattle.smk_choose.specs.Index.{IsIndex}
use Rattle.smk_choose.specs.Readings.{is_apart_by, or_others, members_from, outputs_from}
use Rattle.smk_choose.proofs.Listed.{candidates_listed}
use Rattle.smk_choose.proofs.candidates.candidates.Goals as goal

pub makings-requires-clause-outputs : goal.makings-requires-clause-outputs
makings-requires-clause-outputs c =
    subst (λ (rs : List Rule). IsIndex rs c.args.readings.now.index) (sym (c.as_slice-rules.ensures ∙ c.rules.ensures.rules)) c.requires.outputs

pub returns : goal.returns
returns c =
    let rules = c.as_slice-rules.ensures ∙ c.rules.ensures.rules in
    let holds = (told_by c.args.sources.now).holds in
    let listed = c.in_ok-found.ensures
    ∙ ap₂ or_others (ap (λ (rs : List Reading). members_from 0 rs (folders_above c.args.path.now)) c.requires.rules) (ap (λ (rs : List Rule). outputs_from 0 rs c.args.path.now) rules) in
    let same =
    ap (λ (rs : List Rule). filter (is_apart_by holds rs) c.in_ok-found.found.items) rules
    ∙ ap (filter (is_apart_by holds _)) listed
    ∙ sym (candidates_listed c.args.flow.now (told_by c.args.sources.now) c.args.path.now) in
    subst (λ (ms : List Making). IfOk c.all_apart.result (λ kept. kept.items ≡ ms)) same c.all_apart.ensures
