use Rattle.smk_keep_lock.specs.Putting.{IsPrefix, IsWholeFor}
use Rattle.smk_keep_lock.proofs.Telling.{front_text, put_as, put_front}
use Rattle.smk_keep_lock.proofs.unlocking.put_line.Goals as goal

pub returns-in-Err-clause-told : goal.returns-in-Err-clause-told
returns-in-Err-clause-told g c =
    let line = c.args.line.now in
    let old = g.O.Sink.sunk c.args.out.now in
    let new = g.O.Sink.sunk c.write_out.new.out in
    put_as old new (λ t. IsPrefix t line) (IsWholeFor 6 line) (front_text line) (put_front old new line c.in-Err.field-0 c.in-Err.ensures)
