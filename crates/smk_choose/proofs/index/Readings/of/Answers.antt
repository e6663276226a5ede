use Rattle.std.proofs.Common.{◌∙◌, List, length, ap, subst, arith}
use Rattle.std.proofs.lemmas.List.{length-map}
use Rattle.smk_flow.specs.declared.workflow.Rule.{Rule}
use Rattle.smk_choose.specs.declared.readings.Reading.{Reading}
use Rattle.smk_choose.specs.Readings.{reading_of}
use Rattle.smk_choose.specs.Index.{AreFolders, AreIndexed}
use Rattle.smk_choose.proofs.Tried.{index_is}
use Rattle.smk_choose.proofs.index.Readings.of.Goals as goal

pub folders_of-requires : goal.folders_of-requires
folders_of-requires c =
    let flow = c.args.flow.now in
    omega (arith, c.rules.ensures.few, ap length (c.deref.ensures.value ∙ c.in_ok-rules.ensures), length-map flow.rules (reading_of flow))

pub returns : goal.returns
returns c = record {
  rules = c.in_ok-rules.ensures;
  folders = subst (λ (rs : List Reading). AreFolders rs c.in_ok-folders.folders) c.deref.ensures.value c.in_ok-folders.ensures;
  outputs = index_is c.args.flow.now.rules c.in_ok-index.index
      (subst (λ (rs : List Rule). AreIndexed rs c.in_ok-index.index) (c.as_slice-parts.ensures ∙ c.rules.ensures.rules) c.in_ok-index.ensures);
}
