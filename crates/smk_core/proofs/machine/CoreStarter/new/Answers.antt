use Rattle.std.proofs.Common.{◌≡◌, ◌≤◌, ℕ, false, length, replicate, sym, ap, ◌∙◌, subst}
use Rattle.std.proofs.lemmas.List.{length-replicate}
use Rattle.smk_core.specs.declared.phase.Phase.TheVariants.{Waiting}
use Rattle.smk_core.specs.declared.place.TheConstants.{NONE}
use Rattle.smk_core.specs.Lines.{Roll, roll}
use Rattle.smk_core.specs.Machine.{standing_of, IsMachine}
use Rattle.smk_core.proofs.Machines.{new_machine, new_standing}
use Rattle.smk_core.proofs.machine.CoreStarter.new.Goals as goal

pub invariant_of-result : goal.invariant_of-result
invariant_of-result c =
    let asks = c.args.asks.now in
    let befores = c.args.befores.now in
    let phases : c.in_ok-phases.phases.items ≡ replicate (length asks) Waiting = c.in_ok-phases.ensures ∙ ap (λ (n : ℕ). replicate n Waiting) c.len.ensures in
    let jobs : c.in_ok-jobs.jobs ≡ roll asks befores (replicate (length asks) Waiting) =
    c.in_ok-jobs.ensures.value ∙ (λ i. roll (c.as_slice.ensures i) (c.as_slice-2.ensures i) (phases i)) in
    let few : length asks ≤ NONE = subst (λ (n : ℕ). n ≤ NONE) (ap (λ (r : Roll). length r.phases) jobs ∙ length-replicate (length asks) Waiting) c.in_ok-jobs.ensures.few in
    subst (λ (r : Roll). IsMachine c.args.room r 0 false) (sym jobs) (new_machine c.requires.0 c.requires.1 c.args.room asks befores c.requires.2 few)

pub returns : goal.returns
returns c = λ cores bounds held.
    let asks = c.args.asks.now in
    let befores = c.args.befores.now in
    let phases : c.in_ok-phases.phases.items ≡ replicate (length asks) Waiting = c.in_ok-phases.ensures ∙ ap (λ (n : ℕ). replicate n Waiting) c.len.ensures in
    let jobs : c.in_ok-jobs.jobs ≡ roll asks befores (replicate (length asks) Waiting) =
    c.in_ok-jobs.ensures.value ∙ (λ i. roll (c.as_slice.ensures i) (c.as_slice-2.ensures i) (phases i)) in
    ap (λ (r : Roll). standing_of c.args.room c.args.keep_going false r) jobs ∙ new_standing cores bounds c.args.room c.args.keep_going asks befores held
