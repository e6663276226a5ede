use Rattle.std.proofs.Common.{subst, ◌∙◌}
use Rattle.smk_run.specs.Stamps.{number_at}
use Rattle.smk_run.specs.Runs.{HasTaken, command_of}
use Rattle.smk_run.proofs.Firsts.{named_by}
use Rattle.smk_run.proofs.Taking.{by_seen, had_turn, had_turn_untold, had_turn_stopped, no_turn}
use Rattle.smk_run.proofs.turns.turn.Goals as goal

pub returns-in_default-command_of : goal.returns-in_default-command_of
returns-in_default-command_of g c =
    no_turn g.W.Files.act c.args.flow.now (number_at c.args.serials.now) c.args.job.now (command_of c.args.cores c.args.job.now) c.args.made _ _
    (by_seen c.args.job.now c.as_slice.result.now c.as_slice-2.result.now c.requires.makes c.as_slice.ensures c.as_slice-2.ensures c.see_outputs.ensures c.see_paths.ensures) c.requires.none_runs

pub returns-in-Ok-failure : goal.returns-in-Ok-failure
returns-in-Ok-failure g c =
    let flow = c.args.flow.now in
    let job = c.args.job.now in
    let made = number_at c.args.serials.now in
    let taken = subst (λ text. HasTaken g.W.Files.act flow made job text c.args.made c.take.result (g.W.Files.device c.args.work.now) (g.W.Files.device c.take.new.work) (g.O.Sink.sunk c.args.out.now) (g.O.Sink.sunk c.take.new.out))
    (c.as_str.ensures ∙ c.in-Ok.ensures.text) c.take.ensures in
    had_turn g.W.Files.act flow made job (command_of c.args.cores job) c.args.made c.in-Ok-take.ending (record { rule = c.rule_name-rule.result.now; path = c.in-Some.path.now }) c.in-Ok-failure.first c.take.result
    _ _ _ _ (by_seen c.args.job.now c.as_slice.result.now c.as_slice-2.result.now c.requires.makes c.as_slice.ensures c.as_slice-2.ensures c.see_outputs.ensures c.see_paths.ensures)
    (named_by flow job c.rule_name-rule.result.now c.in-Some.path.now c.rule_name-rule.ensures c.in-Some.ensures) c.in-Ok-take.is c.in-Ok-failure.ensures taken

pub returns-in-Ok-take : goal.returns-in-Ok-take
returns-in-Ok-take g c =
    let flow = c.args.flow.now in
    let job = c.args.job.now in
    let made = number_at c.args.serials.now in
    let taken = subst (λ text. HasTaken g.W.Files.act flow made job text c.args.made c.take.result (g.W.Files.device c.args.work.now) (g.W.Files.device c.take.new.work) (g.O.Sink.sunk c.args.out.now) (g.O.Sink.sunk c.take.new.out))
    (c.as_str.ensures ∙ c.in-Ok.ensures.text) c.take.ensures in
    had_turn_untold g.W.Files.act flow made job (command_of c.args.cores job) c.args.made c.in-Ok-take.ending c.take.result _ _ _ _
    (by_seen c.args.job.now c.as_slice.result.now c.as_slice-2.result.now c.requires.makes c.as_slice.ensures c.as_slice-2.ensures c.see_outputs.ensures c.see_paths.ensures) c.in-Ok-take.is taken

pub returns : goal.returns
returns g c =
    let flow = c.args.flow.now in
    let job = c.args.job.now in
    let made = number_at c.args.serials.now in
    let taken = subst (λ text. HasTaken g.W.Files.act flow made job text c.args.made c.take.result (g.W.Files.device c.args.work.now) (g.W.Files.device c.take.new.work) (g.O.Sink.sunk c.args.out.now) (g.O.Sink.sunk c.take.new.out))
    (c.as_str.ensures ∙ c.in-Ok.ensures.text) c.take.ensures in
    had_turn_stopped g.W.Files.act flow made job (command_of c.args.cores job) c.args.made c.in-Err.stop (record { rule = c.rule_name-rule.result.now; path = c.in-Some.path.now }) c.stopped.result c.take.result
    _ _ _ _ (by_seen c.args.job.now c.as_slice.result.now c.as_slice-2.result.now c.requires.makes c.as_slice.ensures c.as_slice-2.ensures c.see_outputs.ensures c.see_paths.ensures)
    (named_by flow job c.rule_name-rule.result.now c.in-Some.path.now c.rule_name-rule.ensures c.in-Some.ensures) c.in-Err.is c.stopped.ensures taken
