use Rattle.std.proofs.Common.{None}
use Rattle.smk_chain_walk.proofs.Keeping.{holds_note, done_source, note_done, note_keeps}
use Rattle.smk_chain_walk.proofs.reached.Reached.note_source.Goals as goal

pub returns-clause-done : goal.returns-clause-done
returns-clause-done c = note_done c.args.self.now c.note.new.self c.args.path.now None c.in_ok-note.ensures.done

pub returns-clause-keeps : goal.returns-clause-keeps
returns-clause-keeps c = note_keeps c.args.self.now c.note.new.self c.args.path.now None c.in_ok-note.ensures.done

pub returns-clause-noted : goal.returns-clause-noted
returns-clause-noted c = λ flow sources L cs h e.
    holds_note flow sources L c.args.self.now c.note.new.self cs c.args.path.now None c.note.ensures.jobs c.note.ensures.befores c.note.ensures.texts c.in_ok-note.ensures.done c.in_ok-note.ensures.told
    (done_source flow sources L cs c.args.path.now e) h
