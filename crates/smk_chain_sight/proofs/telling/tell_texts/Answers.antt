use Rattle.std.proofs.Common.{◌≡◌, true, subst, take}
use Rattle.smk_base.specs.Path.{is_path}
use Rattle.smk_world.proofs.Devices.{looked_then, looked_on, looked_nothing}
use Rattle.smk_pattern.specs.Shapes.{Text}
use Rattle.smk_chain_sight.specs.Telling.{IsListed}
use Rattle.smk_chain_sight.proofs.Eyes.{told_nothing, told_then, texts_on}
use Rattle.smk_chain_sight.proofs.Taken.{all_taken, all_done}
use Rattle.smk_chain_sight.proofs.telling.tell_texts.Goals as goal

pub returns-in_err-tell_text-clause-looked : goal.returns-in_err-tell_text-clause-looked
returns-in_err-tell_text-clause-looked g c =
    looked_then c.loop-text.invariant.looked (looked_on _ c.in_err-tell_text.was c.from_residual.ensures.1 c.tell_text.ensures.looked)

pub loop-text-init : goal.loop-text-init
loop-text-init g c = record { looked = looked_nothing g.W.Files.act _; told = told_nothing _ _ _; listed = tt }

pub loop-text-preserved : goal.loop-text-preserved
loop-text-preserved g c =
    let v = c.loop-text.invariant in
    record {
      looked = looked_then v.looked c.in_ok-tell_text.ensures.looked;
      told = told_then v.looked v.told c.in_ok-tell_text.ensures.told;
      listed = all_taken (λ (t : Text). is_path t ≡ true → IsListed c.tell_text.new.eye t) c.args.texts.now c.loop-text.text-index c.text-item.result c.loop-text-test.true c.text-item.is
          (texts_on c.loop-text.eye c.tell_text.new.eye (take c.loop-text.text-index c.args.texts.now) c.in_ok-tell_text.ensures.told.keeps v.listed)
          (subst (λ (t : Text). is_path t ≡ true → IsListed c.tell_text.new.eye t) c.as_str.ensures c.in_ok-tell_text.ensures.listed);
    }

pub returns-clause-looked : goal.returns-clause-looked
returns-clause-looked g c = c.loop-text.invariant.looked

pub returns-clause-listed : goal.returns-clause-listed
returns-clause-listed g c = all_done (λ (t : Text). is_path t ≡ true → IsListed c.loop-text.eye t) c.args.texts.now c.loop-text.text-index c.loop-text-test.false c.loop-text.invariant.listed

pub returns-clause-told : goal.returns-clause-told
returns-clause-told g c = c.loop-text.invariant.told
