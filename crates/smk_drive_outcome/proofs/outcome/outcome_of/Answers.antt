use Rattle.std.proofs.Common.{ℕ, List, map, ap, subst, ◌∙◌, Option}
use Rattle.std.specs.Prelude.{IfOk}
use Rattle.std.specs.List.{flat_map}
use Rattle.smk_world.specs.declared.recipe.Out.{Out}
use Rattle.smk_world.specs.declared.recipe.OutItem.{OutItem}
use Rattle.smk_world.specs.Devices.{WhereTold}
use Rattle.smk_record.specs.declared.record.Record.{Record}
use Rattle.smk_record.specs.Spelling.{ReadsRecords}
use Rattle.smk_store.specs.Images.{seen}
use Rattle.smk_drive_outcome.specs.Outcomes.{AreOutcomes, AreUnowned}
use Rattle.smk_drive_outcome.proofs.outcome.outcome_of.Goals as goal

pub returns-clause-told : goal.returns-clause-told
returns-clause-told g c =
    subst
    (λ ps. IfOk c.outcome_at.result
    (λ o. WhereTold (g.W.Files.device c.args.work.now)
    (λ w. AreUnowned w ps → (read : List ℕ → Option Record) → ReadsRecords read → AreOutcomes (seen read w) ps o)))
    (c.as_slice-2.ensures ∙ c.in_ok-paths.ensures ∙ ap (flat_map (λ (item : OutItem). map (λ (out : Out). out.path) item.outs)) c.as_slice.ensures)
    c.outcome_at.ensures.told
