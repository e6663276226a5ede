use Rattle.smk_choose.proofs.Spanning.{on_one}
use Rattle.smk_chain_sight.proofs.Eyes.{path_listed}
use Rattle.smk_chain_sight.proofs.telling.tell_text.Goals as goal

pub returns-in-Ok-clause-listed : goal.returns-in-Ok-clause-listed
returns-in-Ok-clause-listed g c = on_one c.tell.result _ _ (λ l path. path_listed c.tell.new.eye c.args.text.now c.in-Ok.path c.in-Ok.ensures.path l path) c.tell.ensures.listed
