-- Laws on what words ask.
use Rattle.std.specs.Prelude.{◌⊎◌, List, [], ◌∷◌, codes, true, false, None}
use Rattle.smk_pick.specs.declared.settings.Force.TheVariants.{No}
use Rattle.smk_words_reading.specs.declared.asked.Asked.{Asked}
use Rattle.smk_words_reading.specs.declared.asked.Asked.TheVariants.{Preview}
use Rattle.smk_words_reading.specs.Words.{Text}
use Rattle.smk_words_reading.specs.Asks.{IsAsked, LacksCores, AreUnread}

-- Words ask something, lack a number of cores alone, or ask nothing.
abbrev pub EachIsTold : Type 0
EachIsTold = (words : List Text) → ((asked : Asked) × IsAsked words asked) ⊎ (LacksCores words ⊎ AreUnread words)

-- `-nk out.txt` asks for the listing of a run of this target that goes on after a failed job.
abbrev pub JoinedLettersAsk : Type 0
JoinedLettersAsk =
    IsAsked (codes "-nk" ∷ codes "out.txt" ∷ [])
    (Preview
    (record {
      targets = codes "out.txt" ∷ [];
      cores = 1;
      file = None;
      sets = [];
      bounds = [];
      nolock = false;
      keep_going = true;
      rerun_incomplete = false;
      force = No;
    }))
