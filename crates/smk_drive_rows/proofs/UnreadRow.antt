-- Words that ask nothing, words that lack cores, and what a call may tell of them.
use Rattle.std.proofs.Common.{◌≡◌, ℕ, false, List, [], ◌∷◌, codes, Some, refl, sym, inl, inr}
use Rattle.smk_world.specs.World.{World}
use Rattle.smk_world.specs.Devices.{Device, Sunk}
use Rattle.smk_world.specs.Trees.{Act}
use Rattle.smk_pattern.specs.Shapes.{Text}
use Rattle.smk_report.specs.declared.fault.Fault.{Fault}
use Rattle.smk_report.specs.declared.fault.Fault.TheVariants as fault
use Rattle.smk_drive_rows.proofs.Truth.{not_empty}
use Rattle.smk_words_reading.specs.declared.asked.Asked.{Asked}
use Rattle.smk_words_reading.specs.declared.asked.Asked.TheVariants.{Run, Preview, Unlock, Forget, Generate}
use Rattle.smk_words_reading.specs.Asks.{AreUnread, IsAsked, LacksCores}
use Rattle.smk_words_reading.proofs.Whole.{none_asked_without_cores, read_nothing}
use Rattle.smk_cli_target.specs.Refusing.{RefusesAtOnce, WordsRefuse, CoresRefuse, FilesRefuse, TargetRefuses, LockRefusesRun, LockRefusesForgetting, Refuses, AtOnce, StampRefuses, OfRun, OfListing}
use Rattle.smk_cli_target.specs.Clauses.{HasLog, HasText, IsComplete}
use Rattle.smk_drive_rows.proofs.Refused.{IsRefusedSo, Two, log_so, text_so, puts_nothing}

-- ## Words that are refused

abbrev pub AsksNothing : List Text → Type 0
AsksNothing words = (asked : Asked) → ¬ IsAsked words asked

-- of words that ask nothing what is met at once is of the words
once : (words : List Text) (w : World) (f : Fault) → AsksNothing words → ((g : Fault) → (AreUnread words → fault.BadWords ≡ g → g ≡ f) × (LacksCores words → fault.NoCores ≡ g → g ≡ f)) → (g : Fault) → RefusesAtOnce words w g → g ≡ f
once words w f none sure g (WordsRefuse unread) = (sure fault.BadWords).0 unread refl
once words w f none sure g (CoresRefuse lacks) = (sure fault.NoCores).1 lacks refl
once words w f none sure g (FilesRefuse v h (inl asks) fails) = absurd (none (Run v) asks)
once words w f none sure g (FilesRefuse v h (inr asks) fails) = absurd (none (Preview v) asks)
once words w f none sure g (TargetRefuses v flow word (inl asks) reads bad) = absurd (none (Run v) asks)
once words w f none sure g (TargetRefuses v flow word (inr asks) reads bad) = absurd (none (Preview v) asks)
once words w f none sure g (LockRefusesRun v rules asks by heeds locked) = absurd (none (Run v) asks)
once words w f none sure g (LockRefusesForgetting paths asks locked) = absurd (none (Forget paths false) asks)

ever : (words : List Text) (w : World) (f : Fault) → AsksNothing words → ((g : Fault) → RefusesAtOnce words w g → g ≡ f) → (g : Fault) → Refuses words w [] g → g ≡ f
ever words w f none sure g (AtOnce h r) = sure h r
ever words w f none sure g (StampRefuses paths nolock q rest asks free seen) = absurd (none (Forget paths nolock) asks)
ever words w f none sure g (OfRun v rules h asks by free r) = absurd (none (Run v) asks)
ever words w f none sure g (OfListing v rules h asks by r) = absurd (none (Preview v) asks)

complete_so : (act : Act) (words : List Text) (w : World) (f : Fault) → AsksNothing words → IsComplete act words (record { status = 2; fault = Some f }) w []
complete_so act words w f none =
    record {
      of_run = λ good v rules asks by clean. absurd (none (Run v) asks);
      of_listing = λ good v rules asks by clean. absurd (none (Preview v) asks);
      of_unlock = λ asks. absurd (none Unlock asks);
      of_forgetting = λ paths nolock asks. absurd (none (Forget paths nolock) asks);
    }

not_device : (f : Fault) → fault.BadWords ≡ f → Some f ≡ Some fault.Device → ⊥
not_device f e h = cc

no_device : Some fault.NoCores ≡ Some fault.Device → ⊥
no_device h = cc

-- words that aren't read
pub unread_so : (act : Act) (words : List Text) (w : World) → AreUnread words → IsRefusedSo act words w fault.BadWords 2
unread_so act words w unread =
    record {
      low = Two;
      no_device = not_device fault.BadWords refl;
      met = WordsRefuse unread;
      early = refl;
      one_at_once = one;
      one = ever words w fault.BadWords unread.0 one;
      no_unlock = unread.0 Unlock;
      no_forgetting = λ paths nolock. unread.0 (Forget paths nolock);
      no_generate = λ seed size. unread.0 (Generate seed size);
      no_listing = λ v. unread.0 (Preview v);
      complete = complete_so act words w fault.BadWords unread.0;
    }
  where
    one : (g : Fault) → RefusesAtOnce words w g → g ≡ fault.BadWords
    one = once words w fault.BadWords unread.0 (λ g. (λ u e. sym e, λ lacks e. absurd (unread.1 lacks)))

-- words of a run that lack cores
pub lacking_so : (act : Act) (words : List Text) (w : World) → LacksCores words → IsRefusedSo act words w fault.NoCores 2
lacking_so act words w lacks =
    record {
      low = Two;
      no_device = no_device;
      met = CoresRefuse lacks;
      early = refl;
      one_at_once = one;
      one = ever words w fault.NoCores none one;
      no_unlock = none Unlock;
      no_forgetting = λ paths nolock. none (Forget paths nolock);
      no_generate = λ seed size. none (Generate seed size);
      no_listing = λ v. none (Preview v);
      complete = complete_so act words w fault.NoCores none;
    }
  where
    none : AsksNothing words
    none asked is = none_asked_without_cores words asked is lacks

    one : (g : Fault) → RefusesAtOnce words w g → g ≡ fault.NoCores
    one = once words w fault.NoCores none (λ g. (λ u e. absurd (u.1 lacks), λ l e. sym e))

-- ## `--frobnicate`

abbrev pub word : Text
word = codes "--frobnicate"

pub are_unread : AreUnread (word ∷ [])
are_unread = read_nothing (word ∷ []) refl

-- the call of this word, in any folder
pub its_log : (act : Act) (w : World) (a : Device) (p : Sunk) → HasLog act (word ∷ []) (record { status = 2; fault = Some fault.BadWords }) a a p p w []
its_log act w a p = log_so act (word ∷ []) w fault.BadWords 2 (unread_so act (word ∷ []) w are_unread) a p

pub its_text : (act : Act) (w : World) → HasText act (word ∷ []) (record { status = 2; fault = Some fault.BadWords }) w [] []
its_text act w = text_so act (word ∷ []) w fault.BadWords 2 (unread_so act (word ∷ []) w are_unread)

-- whatever is put is too much
pub puts_a_byte : (act : Act) (w : World) (b : ℕ) (text : Text) → HasText act (word ∷ []) (record { status = 2; fault = Some fault.BadWords }) w [] (b ∷ text) → ⊥
puts_a_byte act w b text t = not_empty b text (puts_nothing act (word ∷ []) w fault.BadWords 2 (unread_so act (word ∷ []) w are_unread) (b ∷ text) t)
