-- What the words of each run ask.
use Rattle.std.proofs.Common.{[], ◌∷◌, codes, refl, ap, sym, lit≤, lit<}
use Rattle.std.proofs.lemmas.Fmt.{decimal_digit}
use Rattle.smk_words_reading.specs.declared.parts.Part.TheVariants.{Given}
use Rattle.smk_words_reading.specs.declared.parts.Setting.TheVariants.{Cores}
use Rattle.smk_words_reading.specs.declared.asked.Asked.TheVariants.{Run}
use Rattle.smk_words_reading.specs.Words.{AWordAndValue, ASetting, NoWord}
use Rattle.smk_words_reading.specs.Asks.{IsAsked, ARun}
use Rattle.smk_trial.specs.Running.{run_words, asked_run}

pub is_asked : IsAsked run_words (Run asked_run)
is_asked = record {
  parts = Given Cores (codes "8") ∷ [];
  spelled = AWordAndValue (codes "--cores") (codes "8") [] [] Cores [] (ASetting Cores) refl NoWord;
  asks = ARun asked_run (record {
    targets = refl;
    file = refl;
    file_is_path = refl;
    sets = refl;
    are_pairs = refl;
    bounds = refl;
    are_amounts = refl;
    each_once = refl;
    nolock = refl;
    keep_going = refl;
    rerun_incomplete = refl;
    force = refl;
    flags_once = λ f. lit≤ tt;
    no_unlock = refl;
    no_cleanup = refl;
    no_generate = refl;
  }) refl (record { spelled = ap (λ t. t ∷ []) (sym (decimal_digit 8 (lit< tt))); least = lit≤ tt; most = lit≤ tt });
}
