use Rattle.std.proofs.Common.{refl, sym, subst}
use Rattle.smk_words_reading.specs.Asks.{IsAsked}
use Rattle.smk_words_reading.specs.declared.asked.Asked.TheVariants.{Run}
use Rattle.smk_trial.specs.Running.{asked_run}
use Rattle.smk_trial.proofs.Words.{is_asked}
use Rattle.smk_trial.proofs.Runs.{ran, no_fault}
use Rattle.smk_trial.proofs.running.ends_well.Goals as goal

pub returns : goal.returns
returns g c = λ well w v begins ends.
    ran w v _ _ _ _ _ begins ends (no_fault _ c.is_none.result c.is_none.ensures well)
    (λ read reads. c.smk-outcome.ensures.serves (Run asked_run) (subst (λ words. IsAsked words (Run asked_run)) (sym c.requires.words) is_asked) refl refl w begins read reads)
