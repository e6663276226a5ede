use Rattle.std.proofs.Common.{ap, ◌∙◌}
use Rattle.std.specs.BTreeSet.{contains_text}
use Rattle.smk_world.specs.World.{is_named}
use Rattle.smk_world.proofs.Devices.{looked_on}
use Rattle.smk_store.specs.Walking.{texts_of}
use Rattle.smk_store.proofs.Finding.{all_by}
use Rattle.smk_store.proofs.Loads.{contains_named}
use Rattle.smk_store.proofs.names.paths_in.Goals as goal

pub returns-in_err-walk-clause-looked : goal.returns-in_err-walk-clause-looked
returns-in_err-walk-clause-looked g c = looked_on _ c.in_err-walk.was c.from_residual.ensures.1 c.walk.ensures.looked

pub returns-clause-told : goal.returns-clause-told
returns-clause-told g c = λ w at free.
    all_by w c.args.folder.now (λ q. contains_text c.new-found.result q) (λ q. contains_text c.walk.new.found q) (c.in_ok-walk.ensures.told w at free)
    (λ q. contains_named q c.new-found.result.keys ∙ ap (λ ks. is_named q (texts_of ks)) c.new-found.ensures.empty)
