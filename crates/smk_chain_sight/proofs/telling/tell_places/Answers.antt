use Rattle.std.proofs.Common.{◌≡◌, ◌∙◌, true, List, subst}
use Rattle.std.specs.List.{AllByRecursion}
use Rattle.smk_base.specs.Path.{is_path}
use Rattle.smk_world.proofs.Devices.{looked_on}
use Rattle.smk_pattern.specs.Shapes.{Text}
use Rattle.smk_chain_sight.specs.Telling.{IsListed}
use Rattle.smk_chain_sight.proofs.telling.tell_places.Goals as goal

pub returns-in_err-tell_texts-clause-looked : goal.returns-in_err-tell_texts-clause-looked
returns-in_err-tell_texts-clause-looked g c =
    looked_on _ c.in_err-tell_texts.was c.from_residual-in_err-tell_texts.ensures.1 c.tell_texts.ensures.looked

pub returns-clause-looked : goal.returns-clause-looked
returns-clause-looked g c =
    c.in_ok-tell_texts.ensures.looked

pub returns-clause-listed : goal.returns-clause-listed
returns-clause-listed g c =
    subst (λ (ts : List Text). AllByRecursion (λ (t : Text). is_path t ≡ true → IsListed c.tell_texts.new.eye t) ts) (c.as_slice.ensures ∙ c.in_ok-texts.ensures) c.in_ok-tell_texts.ensures.listed
