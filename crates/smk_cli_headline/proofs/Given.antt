-- What a call of the program gives.
use Rattle.std.proofs.Common.{◌≡◌, Option, Some, refl}
use Rattle.smk_world.specs.World.{World}
use Rattle.smk_world.specs.Devices.{Device, Sunk, WhereTold}
use Rattle.smk_world.specs.Trees.{Act}
use Rattle.smk_record.specs.Reading.{record_in}
use Rattle.smk_report.specs.declared.fault.Fault.{Fault}
use Rattle.smk_words_reading.specs.declared.asked.Asked.{Asked as Request}
use Rattle.smk_words_reading.specs.declared.asked.Asked.TheVariants.{Run}
use Rattle.smk_words_reading.specs.declared.asked.RunWords.{RunWords}
use Rattle.smk_cli_calls.specs.Keys.{HasKept}
use Rattle.smk_cli_calls.specs.Whole.{HasServed}
use Rattle.smk_laws_keys.specs.Keys.{outside}
use Rattle.smk_laws_call.specs.Headline.{Call, Crash, CrashKeeping, IsCalled, IsKeptCall, Keep}
use Rattle.smk_laws_call.proofs.Came.{headline}
use Rattle.smk_cli_headline.specs.Gives.{KeepsCome, MakesCome, RunsGive}

module _ (act : Act) (told : Option Fault) (old new : Device) (out_old out_new : Sunk) where
  pub run_gives : (words : RunWords) → WhereTold old (λ w. HasServed act record_in (Run words) w told old new out_old out_new) → RunsGive act words told old new out_old out_new
  run_gives words served w v H came differ begins ends =
      let called : IsCalled (outside act) (Run words) told w v =
      record { old = old; new = new; out_old = out_old; out_new = out_new; begins = begins; ends = ends; served = served w begins }
      in record { called = called; device = (refl, refl); output = (refl, refl); gives = headline act w v H words told came differ called }

  pub makes_come : (request : Request) → WhereTold old (λ w. HasServed act record_in request w told old new out_old out_new) → MakesCome act old new
  makes_come request served w v H came begins ends =
      let called : IsCalled (outside act) request told w v =
      record { old = old; new = new; out_old = out_old; out_new = out_new; begins = begins; ends = ends; served = served w begins }
      in
      record {
        ended = λ free alone. Call w v H request told came called alone;
        crashed = λ log events rest nodes is split left. Crash w v H request told log events rest nodes came called is split left;
      }

  pub keeps_come : (request : Request) → WhereTold old (λ w. HasKept act request w told old new out_old out_new) → KeepsCome act request old new
  keeps_come request kept w v H texts came begins ends =
      let called : IsKeptCall act request told w v =
      record { old = old; new = new; out_old = out_old; out_new = out_new; begins = begins; ends = ends; kept = kept w begins; texts = texts }
      in
      record {
        ended = λ quiet alone. Keep w v H request told came called quiet alone;
        crashed = λ log events rest nodes is split left. CrashKeeping w v H request told log events rest nodes came called is split left;
      }
