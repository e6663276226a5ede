-- What is done for words today, and which words are refused.
use Rattle.std.specs.Prelude.{◌≡◌, Bool, true, false, List}
use Rattle.smk_words_reading.specs.declared.asked.Asked.{Asked as Request}
use Rattle.smk_words_reading.specs.declared.asked.Asked.TheVariants.{Run, Preview, Unlock, Forget, Generate}
use Rattle.smk_words_reading.specs.Words.{Text}
use Rattle.smk_words_reading.specs.Asks.{IsAsked, LacksCores, AreUnread}
use Rattle.smk_report.specs.declared.fault.Fault.{Fault}
use Rattle.smk_report.specs.declared.fault.Fault.TheVariants as fault

-- What is built of all that words ask: runs; listings; that the lock goes; and that what is kept of paths goes.
abbrev pub is_built : Request → Bool
is_built (Run words) = true
is_built (Preview words) = true
is_built Unlock = true
is_built (Forget paths nolock) = true
is_built (Generate seed size) = false

-- it is about what is made: a run or a listing
abbrev pub is_to_make : Request → Bool
is_to_make (Run words) = true
is_to_make (Preview words) = true
is_to_make Unlock = false
is_to_make (Forget paths nolock) = false
is_to_make (Generate seed size) = false

-- Words are refused with this fault: they ask nothing; they ask for a run and don't say on how many cores; or what they ask isn't built yet.
pub data RefusesWords (words : List Text) : Fault → Type 0 where
  Unread : AreUnread words → RefusesWords words fault.BadWords
  WithoutCores : LacksCores words → RefusesWords words fault.NoCores
  NotBuilt : (request : Request) → IsAsked words request → is_built request ≡ false → RefusesWords words fault.BadWords
