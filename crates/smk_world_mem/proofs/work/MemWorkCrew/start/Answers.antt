use Rattle.std.proofs.Common.{rules, arith, ◌<◌, ◌≤◌, Bool, not, sym, ◌+◌, false, ◌≡◌, refl, ap, subst, ◌∙◌, true, Ok, Err, ◌++◌, ◌∷◌, []}
use Rattle.std.specs.Prelude.{IfOk}
use Rattle.smk_world.specs.declared.event.Call.TheVariants.{Started}
use Rattle.smk_world.specs.World.{children_after, numbers}
use Rattle.smk_world.specs.Calls.{started_numbers}
use Rattle.smk_world_mem.specs.Adds.{AddsIf}
use Rattle.smk_world_nodes.specs.Steps.{AllBelow}
use Rattle.smk_world_nodes.specs.declared.step.Step.TheVariants.{Happened}
use Rattle.smk_world_mem.proofs.Mem.{agrees_after_if, world_after_if, children_after_if}
use Rattle.smk_world_mem.proofs.Starts.{started_adds, not_started_adds}
use Rattle.smk_world_mem.proofs.Crewed.{orderly_same, orderly_started, running_started, fresh_number, told_apart, told_alone}
use Rattle.smk_world_mem.proofs.Causes.{caused_crew}
use Rattle.smk_world_mem.specs.Setup.{fails_at}
use Rattle.std.proofs.lemmas.Bool.{eqb-true, false≢true}
use Rattle.std.specs.Prelude.{IsErr, nat_eq}
use Rattle.smk_world_mem.proofs.work.MemWorkCrew.start.Goals as goal
use Rattle.smk_world_mem.proofs.work.MemWorkCrew.start.Goals.{then-not-self, else-not-self, then-is_failing, else-is_failing}

pub invariant_of-self : goal.invariant_of-self
invariant_of-self c =
    let number : c.in-Ok-Ok.field-0-0 ≡ c.args.self.now.next = subst (λ r. IfOk r (λ n. n ≡ c.args.self.now.next)) c.in-Ok-Ok.field-0-is c.in-Ok-Ok.ensures.number in
    let adds : AddsIf (λ w. AllBelow c.args.self.now.next (started_numbers w.log)) (Started c.args.recipe.now c.args.logs.now c.args.command.now (Ok c.args.self.now.next)) c.args.self.now.nodes c.args.self.now.nodes c.args.self.now.steps c.start.new.steps
    = started_adds c.args.recipe.now c.args.logs.now c.args.command.now c.args.self.now.nodes c.args.self.now.steps c.start.new.steps c.args.self.now.next c.in-Ok-Ok.field-0-0 number (c.in-Ok-Ok.ensures.steps ∙ ap (λ r. c.args.self.now.steps ++ Happened (record { call = Started c.args.recipe.now c.args.logs.now c.args.command.now r; left = [] }) ∷ []) c.in-Ok-Ok.field-0-is) in
    record {
      agrees = agrees_after_if _ _ _ _ _ _ adds c.args.self.now.told c.args.self.now.agrees (λ is. (c.args.self.now.orderly is).started_below);
      orderly =
          orderly_started _ c.args.recipe.now c.args.logs.now c.args.command.now c.args.self.now.next _ _ _ _ adds c.args.self.now.told c.args.self.now.children c.start.new.children c.args.self.now.orderly
          (c.in-Ok-Ok.ensures.children ∙ ap (λ r. children_after (Started c.args.recipe.now c.args.logs.now c.args.command.now r) c.args.self.now.children) c.in-Ok-Ok.field-0-is ∙ ap (λ m. children_after (Started c.args.recipe.now c.args.logs.now c.args.command.now (Ok m)) c.args.self.now.children) number)
          (told_apart c.args.self.now.told c.args.self.now.steps c.args.recipe.now c.args.logs.now c.requires.may)
          (told_alone c.args.self.now.told c.args.self.now.steps c.args.self.now.children c.args.self.now.next c.args.recipe.now c.args.logs.now c.args.self.now.orderly c.requires.may);
      rooted = c.args.self.now.rooted;
      caused = caused_crew _ c.args.self.now.told false c.args.self.now.failing c.args.self.now.stop_after c.args.self.now.killed c.args.self.now.calls c.saturating_add-self.result c.args.self.now.faults c.args.self.now.faults c.args.self.now.next (c.args.self.now.next + 1) _ _ _ _ _ adds c.args.self.now.caused c.saturating_add-self.ensures (omega arith) (omega arith) (λ ks. refl) (λ is failed counts below. cc);
    }

not_told : (told value : Bool) → told ≡ true → value ≡ not told → value ≡ true → ⊥
not_told true value is same h = cc
not_told false value is same h = cc

-- while the world is told and the calls can be counted, a start fails only where it is to fail
because : (c : goal.After-bumped-self) → c.args.self.now.told ≡ true → true ≡ true → c.saturating_add-self.result < 18446744073709551615 → c.args.self.now.next ≤ c.args.self.now.calls + 1
    → fails_at c.args.self.now.failing c.args.self.now.stop_after c.saturating_add-self.result ≡ true
because c is same counts below =
    let failed : c.if-not-self.fails ≡ true = subst (λ r. IsErr r → c.if-not-self.fails ≡ true) c.in-Ok-Err.field-0-is c.in-Ok-Err.ensures.err refl in
    elim c.if-not-self.branch [
      | then-not-self w ↦ elim c.if-is_failing.branch [
        | then-is_failing v ↦ sym c.is_failing.ensures ∙ v.if-is_failing.true
        | else-is_failing v ↦ absurd (not_told c.args.self.now.told c.if-is_failing.value is v.value-is w.if-not-self.true)
      ]
      | else-not-self w ↦ let at_end : nat_eq c.args.self.now.next 18446744073709551615 ≡ true = sym w.fails-is ∙ failed in
          let last : c.args.self.now.next ≡ 18446744073709551615 = eqb-true c.args.self.now.next 18446744073709551615 at_end in
          absurd (omega (arith, c.saturating_add-self.ensures))
    ]

pub invariant_of-self-in-Ok-Err : goal.invariant_of-self-in-Ok-Err
invariant_of-self-in-Ok-Err c =
    let adds : AddsIf (λ w. Unit {0}) (Started c.args.recipe.now c.args.logs.now c.args.command.now (Err c.in-Ok-Err.field-0-0)) c.args.self.now.nodes c.args.self.now.nodes c.args.self.now.steps c.start.new.steps
    = not_started_adds c.args.recipe.now c.args.logs.now c.args.command.now c.args.self.now.nodes c.args.self.now.steps c.start.new.steps c.in-Ok-Err.field-0-0 (c.in-Ok-Err.ensures.steps ∙ ap (λ r. c.args.self.now.steps ++ Happened (record { call = Started c.args.recipe.now c.args.logs.now c.args.command.now r; left = [] }) ∷ []) c.in-Ok-Err.field-0-is) in
    record {
      agrees = agrees_after_if _ _ _ _ _ _ adds c.args.self.now.told c.args.self.now.agrees (λ is. tt);
      orderly = orderly_same _ _ _ _ _ _ adds c.args.self.now.told c.args.self.now.children c.start.new.children c.args.self.now.next c.args.self.now.orderly (λ cs. refl) refl refl (c.in-Ok-Err.ensures.children ∙ ap (λ r. children_after (Started c.args.recipe.now c.args.logs.now c.args.command.now r) c.args.self.now.children) c.in-Ok-Err.field-0-is);
      rooted = c.args.self.now.rooted;
      caused = caused_crew _ c.args.self.now.told true c.args.self.now.failing c.args.self.now.stop_after c.args.self.now.killed c.args.self.now.calls c.saturating_add-self.result c.args.self.now.faults c.bumped-self.result c.args.self.now.next c.args.self.now.next _ _ _ _ _ adds c.args.self.now.caused c.saturating_add-self.ensures (omega arith) c.bumped-self.ensures.bound (λ ks. refl) (because c);
    }

pub returns-in-Ok-Ok-clause-called : goal.returns-in-Ok-Ok-clause-called
returns-in-Ok-Ok-clause-called c =
    let number : c.in-Ok-Ok.field-0-0 ≡ c.args.self.now.next = subst (λ r. IfOk r (λ n. n ≡ c.args.self.now.next)) c.in-Ok-Ok.field-0-is c.in-Ok-Ok.ensures.number in
    let adds : AddsIf (λ w. AllBelow c.args.self.now.next (started_numbers w.log)) (Started c.args.recipe.now c.args.logs.now c.args.command.now (Ok c.args.self.now.next)) c.args.self.now.nodes c.args.self.now.nodes c.args.self.now.steps c.start.new.steps
    = started_adds c.args.recipe.now c.args.logs.now c.args.command.now c.args.self.now.nodes c.args.self.now.steps c.start.new.steps c.args.self.now.next c.in-Ok-Ok.field-0-0 number (c.in-Ok-Ok.ensures.steps ∙ ap (λ r. c.args.self.now.steps ++ Happened (record { call = Started c.args.recipe.now c.args.logs.now c.args.command.now r; left = [] }) ∷ []) c.in-Ok-Ok.field-0-is) in
    record {
      world =
          world_after_if _ _ _ _ _ _ adds c.args.self.now.told c.args.self.now.agrees (λ is. (c.args.self.now.orderly is).started_below) c.start.new.children (c.args.self.now.next + 1)
          (orderly_started _ c.args.recipe.now c.args.logs.now c.args.command.now c.args.self.now.next _ _ _ _ adds c.args.self.now.told c.args.self.now.children c.start.new.children c.args.self.now.orderly
          (c.in-Ok-Ok.ensures.children ∙ ap (λ r. children_after (Started c.args.recipe.now c.args.logs.now c.args.command.now r) c.args.self.now.children) c.in-Ok-Ok.field-0-is ∙ ap (λ m. children_after (Started c.args.recipe.now c.args.logs.now c.args.command.now (Ok m)) c.args.self.now.children) number)
          (told_apart c.args.self.now.told c.args.self.now.steps c.args.recipe.now c.args.logs.now c.requires.may)
          (told_alone c.args.self.now.told c.args.self.now.steps c.args.self.now.children c.args.self.now.next c.args.recipe.now c.args.logs.now c.args.self.now.orderly c.requires.may))
          c.args.self.now.rooted;
      cause = record { later = omega arith; rose = λ failure. absurd (false≢true failure) };
      running = running_started _ c.args.recipe.now c.args.logs.now c.args.command.now c.args.self.now.next _ _ _ _ adds;
    }

pub returns-in-Ok-Ok-clause-fresh : goal.returns-in-Ok-Ok-clause-fresh
returns-in-Ok-Ok-clause-fresh c =
    let told_is : c.args.self.now.told ≡ true = search rules in
    fresh_number c.args.self.now.steps c.args.self.now.children c.args.self.now.next (c.args.self.now.orderly told_is)

pub returns-in-Ok-Err-clause-called : goal.returns-in-Ok-Err-clause-called
returns-in-Ok-Err-clause-called c =
    let adds : AddsIf (λ w. Unit {0}) (Started c.args.recipe.now c.args.logs.now c.args.command.now (Err c.in-Ok-Err.field-0-0)) c.args.self.now.nodes c.args.self.now.nodes c.args.self.now.steps c.start.new.steps
    = not_started_adds c.args.recipe.now c.args.logs.now c.args.command.now c.args.self.now.nodes c.args.self.now.steps c.start.new.steps c.in-Ok-Err.field-0-0 (c.in-Ok-Err.ensures.steps ∙ ap (λ r. c.args.self.now.steps ++ Happened (record { call = Started c.args.recipe.now c.args.logs.now c.args.command.now r; left = [] }) ∷ []) c.in-Ok-Err.field-0-is) in
    record {
      world =
          world_after_if _ _ _ _ _ _ adds c.args.self.now.told c.args.self.now.agrees (λ is. tt) c.start.new.children c.args.self.now.next
          (orderly_same _ _ _ _ _ _ adds c.args.self.now.told c.args.self.now.children c.start.new.children c.args.self.now.next c.args.self.now.orderly (λ cs. refl) refl refl (c.in-Ok-Err.ensures.children ∙ ap (λ r. children_after (Started c.args.recipe.now c.args.logs.now c.args.command.now r) c.args.self.now.children) c.in-Ok-Err.field-0-is))
          c.args.self.now.rooted;
      cause = record { later = c.bumped-self.ensures.later; rose = λ failure. c.bumped-self.ensures.rose refl };
      running = ap (λ cs. numbers cs) (children_after_if _ _ _ _ _ _ adds);
    }
