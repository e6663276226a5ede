use Rattle.std.proofs.Common.{◌≡◌, sym, Option}
use Rattle.std.proofs.lemmas.Result.{on_ok_weaker, IfOk-weaker}
use Rattle.smk_words_reading.specs.declared.spelling.Expected.{Expected}
use Rattle.smk_words_reading.specs.Reading.{last_in, letters_in}
use Rattle.smk_words_reading.proofs.Loops.{all_at_first, all_after_one, all_at_last, next_at_last}
use Rattle.smk_words_reading.proofs.Slices.{no_first}
use Rattle.smk_words_reading.proofs.letters.read_letters.Goals as goal

pub loop-flag-init : goal.loop-flag-init
loop-flag-init c = record { all = all_at_first c.args.parts.now c.args.text.now; utf8 = c.utf8.text }

pub loop-flag-preserved : goal.loop-flag-preserved
loop-flag-preserved c =
    record {
      all =
          all_after_one c.args.parts.now c.loop-flag.parts c.push.new.self c.args.text.now c.loop-flag.rest.now c.in-Some.flag c.in-Some.later.now
          c.loop-flag.invariant.all (sym c.in-Some.ensures.found) c.in_ok-push.ensures.ok;
      utf8 = c.in-Some.ensures.utf8;
    }

pub returns-clause-parts : goal.returns-clause-parts
returns-clause-parts c =
    on_ok_weaker c.read_last.result
    (all_at_last c.args.parts.now c.loop-flag.parts c.read_last.new.parts c.args.text.now c.loop-flag.rest.now c.loop-flag.invariant.all
    (no_first c.loop-flag.rest.now c.first_flag.result c.first_flag.ensures.found c.in_default.is))
    c.read_last.ensures.parts

pub returns-clause-next : goal.returns-clause-next
returns-clause-next c =
    IfOk-weaker c.read_last.result (λ (next : Option Expected). next ≡ (last_in c.loop-flag.rest.now).1) (λ (next : Option Expected). next ≡ (letters_in c.args.text.now).1)
    (λ next. next_at_last c.args.parts.now c.loop-flag.parts c.args.text.now c.loop-flag.rest.now next c.loop-flag.invariant.all
    (no_first c.loop-flag.rest.now c.first_flag.result c.first_flag.ensures.found c.in_default.is))
    c.read_last.ensures.next
