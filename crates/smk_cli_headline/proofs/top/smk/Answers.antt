use Rattle.std.proofs.Common.{refl}
use Rattle.smk_record.specs.Reading.{record_in}
use Rattle.smk_record.proofs.Exact.{reads_records}
use Rattle.smk_words_reading.specs.declared.asked.Asked.TheVariants.{Run}
use Rattle.smk_cli_headline.proofs.Given.{keeps_come, makes_come, run_gives}
use Rattle.smk_cli_headline.proofs.top.smk.Goals as goal

pub returns-clause-headline : goal.returns-clause-headline
returns-clause-headline g c = λ asked is.
    run_gives g.W.Files.act c.smk.result.fault (g.W.Files.device c.args.work.now) (g.W.Files.device c.smk.new.work) (g.O.Sink.sunk c.args.out.now)
    (g.O.Sink.sunk c.smk.new.out) asked (λ w begins. c.smk.ensures.serves (Run asked) is refl refl w begins record_in reads_records)

pub returns-clause-comes : goal.returns-clause-comes
returns-clause-comes g c = λ request is built make.
    makes_come g.W.Files.act c.smk.result.fault (g.W.Files.device c.args.work.now) (g.W.Files.device c.smk.new.work) (g.O.Sink.sunk c.args.out.now)
    (g.O.Sink.sunk c.smk.new.out) request (λ w begins. c.smk.ensures.serves request is built make w begins record_in reads_records)

pub returns-clause-keeps_coming : goal.returns-clause-keeps_coming
returns-clause-keeps_coming g c = λ request is built kept.
    keeps_come g.W.Files.act c.smk.result.fault (g.W.Files.device c.args.work.now) (g.W.Files.device c.smk.new.work) (g.O.Sink.sunk c.args.out.now)
    (g.O.Sink.sunk c.smk.new.out) request (λ w begins. c.smk.ensures.keeps request is built kept w begins)
