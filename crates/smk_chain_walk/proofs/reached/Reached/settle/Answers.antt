use Rattle.std.proofs.Common.{◌∙◌, Some, ap}
use Rattle.std.specs.Prelude.{is_some}
use Rattle.smk_chain_walk.specs.Numbers.{added}
use Rattle.smk_chain_walk.proofs.Placed.{done_same}
use Rattle.smk_chain_walk.proofs.Keeping.{holds_note, done_job, note_done, note_keeps}
use Rattle.smk_chain_walk.proofs.reached.Reached.settle.Goals as goal

pub returns-clause-done : goal.returns-clause-done
returns-clause-done c = note_done c.put.new.self c.note.new.self c.args.path.now (Some c.in_ok-number.number) c.in_ok-note.ensures.done

pub returns-clause-keeps : goal.returns-clause-keeps
returns-clause-keeps c = λ q e. note_keeps c.put.new.self c.note.new.self c.args.path.now (Some c.in_ok-number.number) c.in_ok-note.ensures.done q (ap is_some (done_same c.args.self.now c.put.new.self c.put.ensures.done q) ∙ e)

pub returns-clause-settled : goal.returns-clause-settled
returns-clause-settled c = λ sources d cs served closes.
    let flow = c.args.query.now.flow.now in
    let L = c.args.query.now.lists.now in
    let p = c.args.path.now in
    let put = c.in_ok-number.ensures.put sources p d cs served closes.holds in
    holds_note flow sources L c.put.new.self c.note.new.self (added cs d) p (Some c.in_ok-number.number) c.note.ensures.jobs c.note.ensures.befores c.note.ensures.texts c.in_ok-note.ensures.done
    c.in_ok-note.ensures.told (done_job flow sources L (added cs d) p d c.in_ok-number.number served.chosen closes.calm closes.called put.1) put.0
