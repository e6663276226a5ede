use Rattle.std.proofs.Common.{◌≡◌, ◌&&◌, ap, sym, ◌∙◌}
use Rattle.std.proofs.lemmas.Bool.{false≢true}
use Rattle.smk_world_nodes.specs.Steps.{told_world}
use Rattle.smk_world_crash.specs.Crash.{left_by}
use Rattle.smk_world_mem.proofs.Crashes.{crash_told}
use Rattle.smk_world_mem.proofs.work.MemWork.crashed.Goals as goal
use Rattle.smk_world_mem.proofs.work.MemWork.crashed.Goals.{then-self, else-self}

pub gone_on-requires : goal.gone_on-requires
gone_on-requires c = λ is.
    elim c.if-self.branch [
      | then-self w ↦ c.in_ok-image.ensures.steps (sym w.told-is ∙ is)
      | else-self w ↦ absurd (false≢true (sym w.if-self.false ∙ sym w.told-is ∙ is))
    ]

pub returns-clause-world : goal.returns-clause-world
returns-clause-world c = λ v e.
    let old = c.args.self.now in
    let image = c.in_ok-image.image in
    let same : c.if-self.told ≡ (old.told && image.whole)
    = elim c.if-self.branch [
      | then-self w ↦ w.told-is ∙ ap (λ b. b && image.whole) (sym w.if-self.true)
      | else-self w ↦ w.told-is ∙ w.if-self.false ∙ ap (λ b. b && image.whole) (sym w.if-self.false)
    ] in
    crash_told c.args.choice old.told image.whole old.children old.next old.steps image.steps image.nodes old.orderly
    (λ q.
    c.in_ok-image.ensures.nodes q ∙ ap (λ cs. left_by c.args.choice cs c.as_slice-2.result.now q) c.as_slice.ensures
    ∙ ap (λ ss. left_by c.args.choice old.children ss q) c.as_slice-2.ensures)
    c.in_ok-image.ensures.steps v (ap (λ t. told_world t image.steps) (sym same) ∙ sym c.gone_on.ensures.world ∙ e)
