use Rattle.std.proofs.Common.{subst, ◌∙◌}
use Rattle.smk_keep_lock.specs.Putting.{IsPrefix, Put}
use Rattle.smk_keep_lock.proofs.Telling.{put_front}
use Rattle.smk_keep_forget.proofs.turning.put_forgotten.Goals as goal

pub returns-clause-told : goal.returns-clause-told
returns-clause-told g c =
    let old = g.O.Sink.sunk c.args.out.now in
    let new = g.O.Sink.sunk c.write_out.new.out in
    subst (λ l. Put old new (λ t. IsPrefix t l)) (c.as_str.ensures ∙ c.in-Ok.ensures) (put_front old new c.as_str.result.now c.in-Err.field-0 c.in-Err.ensures)
