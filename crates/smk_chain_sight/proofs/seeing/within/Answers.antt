use Rattle.std.proofs.Common.{◌∙◌, ap, refl}
use Rattle.smk_store.specs.Walking.{path_in}
use Rattle.smk_store.proofs.Loads.{path_found}
use Rattle.smk_chain_sight.proofs.seeing.within.Goals as goal

pub returns-in-Ok : goal.returns-in-Ok
returns-in-Ok c =
    path_found c.as_str.result.now c.in-Ok.path c.in-Ok.ensures.path (c.in-Ok.ensures.is_path refl) c.as_str.utf8
    ∙ ap path_in (c.as_str.ensures ∙ c.in_ok-place.ensures)
