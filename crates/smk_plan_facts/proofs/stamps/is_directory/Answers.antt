use Rattle.std.proofs.Common.{Option, ap, sym, ◌∙◌, Bor}
use Rattle.std.specs.Prelude.{option_map}
use Rattle.std.specs.List.{list_any}
use Rattle.smk_world.specs.declared.recipe.Recipe.{Recipe}
use Rattle.smk_record.specs.declared.record.Record.{Record}
use Rattle.smk_store.specs.Trust.{is_folder_record}
use Rattle.smk_plan_facts.specs.Telling.{makes_directory_at}
use Rattle.smk_plan_facts.proofs.Outs.{makes_folder}
use Rattle.smk_plan_facts.proofs.stamps.is_directory.Goals as goal

pub returns-in-Some : goal.returns-in-Some
returns-in-Some c =
    let p = c.args.path.now in
    c.makes_directory.ensures
    ∙ ap (list_any (makes_directory_at p)) (c.as_slice.ensures ∙ ap (λ (r : Recipe). r.outputs) c.recipe.ensures)
    ∙ makes_folder p c.in-Some.held.now.recipe
    ∙ ap (λ (o : Option (Bor Record)). is_folder_record p (option_map (λ r. r.now) o)) (sym c.in-Some.is)
