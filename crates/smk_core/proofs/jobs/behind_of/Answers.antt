use Rattle.std.proofs.Common.{◌≡◌, ℕ, List, length, refl, subst, arith, rules}
use Rattle.std.proofs.lemmas.Option.{slice_get_read}
use Rattle.smk_core.specs.Lines.{IsNoted}
use Rattle.smk_core.proofs.Behind.{none_behind, one_behind, all_behind}
use Rattle.smk_core.proofs.jobs.behind_of.Goals as goal

pub loop-job-init : goal.loop-job-init
loop-job-init c = none_behind c.args.befores.now c.in_ok-behind.behind.items c.in_ok-behind.ensures

pub loop-job-preserved : goal.loop-job-preserved
loop-job-preserved c =
    let befores = c.args.befores.now in
    let behind = c.loop-job.behind.items in
    let now = c.note_all.new.behind.items in
    let list = c.index-befores-job.result in
    let job = c.loop-job.job in
    let same : c.in-Ok.job ≡ job = first_of (omega (arith, c.in-Ok.ensures), search rules, grind arith) in
    one_behind befores behind now job list c.requires (slice_get_read befores (length befores) job list refl c.loop-job-test.true c.index-befores-job.is)
    (subst (λ (n : ℕ). IsNoted list n behind now) same (subst (λ (l : List ℕ). IsNoted l c.in-Ok.job behind now) c.as_slice.ensures c.in_ok-note_all.ensures)) c.loop-job.invariant

pub returns-clause-behind : goal.returns-clause-behind
returns-clause-behind c = all_behind c.args.befores.now c.loop-job.behind.items c.loop-job.job c.loop-job-test.false c.loop-job.invariant

pub returns-clause-each : goal.returns-clause-each
returns-clause-each c = c.loop-job.invariant.many
