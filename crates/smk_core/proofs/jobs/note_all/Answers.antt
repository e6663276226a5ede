use Rattle.std.proofs.Common.{ℕ, List, take, get_or, sym, subst}
use Rattle.std.proofs.lemmas.List.{take_more, take_all}
use Rattle.smk_core.specs.Lines.{IsNoted}
use Rattle.smk_core.proofs.Behind.{none_noted, noted_then}
use Rattle.smk_core.proofs.jobs.note_all.Goals as goal

pub loop-before-init : goal.loop-before-init
loop-before-init c = none_noted c.args.job c.args.behind.now.items

pub loop-before-preserved : goal.loop-before-preserved
loop-before-preserved c =
    let befores = c.args.befores.now in
    let i = c.loop-before.before-index in
    subst (λ (l : List ℕ). IsNoted l c.args.job c.args.behind.now.items c.note.new.behind.items) (sym (take_more befores i 0 c.loop-before-test.true))
    (noted_then (take i befores) (get_or befores i 0) c.args.job c.args.behind.now.items c.loop-before.behind.items c.note.new.behind.items c.loop-before.invariant c.in_ok-note.ensures)

pub returns : goal.returns
returns c =
    subst (λ (l : List ℕ). IsNoted l c.args.job c.args.behind.now.items c.loop-before.behind.items)
    (take_all c.loop-before.before-index c.args.befores.now c.loop-before-test.false) c.loop-before.invariant
