use Rattle.std.proofs.Common.{rules, arith, ◌<◌, ◌≤◌, Bool, not, sym, List, [], ◌+◌, false, ◌≡◌, refl, ap, subst, ◌∙◌, true, Ok, Err}
use Rattle.std.specs.Prelude.{IfOk}
use Rattle.smk_world.specs.declared.event.Call.TheVariants.{Waited}
use Rattle.smk_world.specs.declared.event.Failed.{Failed}
use Rattle.smk_world.specs.World.{children_after, child_numbered, numbers}
use Rattle.smk_world_mem.specs.Act.{EndsAs}
use Rattle.smk_world_mem.specs.Adds.{AddsIf}
use Rattle.smk_world_nodes.specs.Steps.{AllApart}
use Rattle.smk_world_mem.proofs.Mem.{agrees_after_if, world_after_if, children_after_if}
use Rattle.smk_world_mem.proofs.Crewed.{orderly_same, orderly_waited, running_waited, ran, no_other_status}
use Rattle.smk_world_mem.proofs.Causes.{caused_crew, caused_end}
use Rattle.smk_world_mem.specs.Setup.{fails_at, killed_end}
use Rattle.smk_world.specs.declared.event.Child.{Child}
use Rattle.std.specs.List.{list_any}
use Rattle.std.specs.Prelude.{IsErr, nat_eq, if◌then◌else◌, is_some, ◌≢◌}
use Rattle.std.proofs.lemmas.Bool.{false≢true}
use Rattle.smk_world_mem.proofs.work.MemWorkCrew.wait.Goals as goal
use Rattle.smk_world_mem.proofs.work.MemWorkCrew.wait.Goals.{then-is_failing, else-is_failing}

not_told : (told value : Bool) → told ≡ true → value ≡ not told → value ≡ true → ⊥
not_told true value is same h = cc
not_told false value is same h = cc

killed_is : (c : goal.After-bumped-self) → killed_end c.args.self.now.killed (Waited (Ok c.in-Ok-Ok.ended)) ≡ (if c.contains-killed.result then 1 else 0)
killed_is c =
    let number = c.next_to_end-number.result in
    let same : c.in-Ok-Ok.ended.number ≡ number = subst (λ r. IfOk r (λ e. e.number ≡ number)) c.in-Ok-Ok.field-0-is c.in-Ok-Ok.ensures.number in
    ap (λ b. if b then 1 else 0) (ap (λ m. list_any (λ n. nat_eq n m) c.args.self.now.killed) same ∙ ap (list_any (λ n. nat_eq n number)) (sym c.as_slice-2.ensures) ∙ sym c.contains-killed.ensures.value)

-- while the world is told, a wait fails only where it is to fail
because : (c : goal.After-bumped-self-in-Ok-Err) → c.args.self.now.told ≡ true → true ≡ true → c.saturating_add-self.result < 18446744073709551615 → c.args.self.now.next ≤ c.args.self.now.calls + 1
    → fails_at c.args.self.now.failing c.args.self.now.stop_after c.saturating_add-self.result ≡ true
because c is same counts below =
    let number = c.next_to_end-number.result in
    let runs : c.as_slice.result.now ≢ [] = λ e. c.requires.runs (ap numbers ((c.args.self.now.orderly is).children_are ∙ sym c.as_slice.ensures ∙ e)) in
    let there : is_some (child_numbered number c.args.self.now.children) ≡ true = subst (λ (cs : List Child). is_some (child_numbered number cs) ≡ true) c.as_slice.ensures (c.next_to_end-number.ensures runs) in
    let failed : c.if-is_failing.fails ≡ true = subst (λ r. IsErr r → is_some (child_numbered number c.args.self.now.children) ≡ true → c.if-is_failing.fails ≡ true) c.in-Ok-Err.field-0-is c.in-Ok-Err.ensures.err refl there in
    elim c.if-is_failing.branch [
      | then-is_failing v ↦ sym c.is_failing.ensures ∙ v.if-is_failing.true
      | else-is_failing v ↦ absurd (not_told c.args.self.now.told c.if-is_failing.fails is v.fails-is failed)
    ]

pub invariant_of-self : goal.invariant_of-self
invariant_of-self c =
    let adds : AddsIf (λ w. (w.children ≡ c.args.self.now.children) × AllApart c.args.self.now.children) (Waited (Ok c.in-Ok-Ok.ended)) c.args.self.now.nodes c.wait.new.nodes c.args.self.now.steps c.wait.new.steps
    = subst (λ r. AddsIf (λ w. (w.children ≡ c.args.self.now.children) × AllApart c.args.self.now.children) (Waited r) c.args.self.now.nodes c.wait.new.nodes c.args.self.now.steps c.wait.new.steps) c.in-Ok-Ok.field-0-is c.in-Ok-Ok.ensures.adds in
    record {
      agrees = agrees_after_if _ _ _ _ _ _ adds c.args.self.now.told c.args.self.now.agrees (λ is. ((c.args.self.now.orderly is).children_are, (c.args.self.now.orderly is).apart));
      orderly = orderly_waited _ c.in-Ok-Ok.ended _ _ _ _ adds c.args.self.now.told c.args.self.now.children c.wait.new.children c.args.self.now.next c.args.self.now.orderly (c.in-Ok-Ok.ensures.children ∙ ap (λ r. children_after (Waited r) c.args.self.now.children) c.in-Ok-Ok.field-0-is);
      rooted = (λ is. c.in-Ok-Ok.ensures.stand (c.args.self.now.rooted is));
      caused = caused_end _ c.args.self.now.told c.contains-killed.result c.args.self.now.failing c.args.self.now.stop_after c.args.self.now.killed c.args.self.now.calls c.saturating_add-self.result c.args.self.now.faults c.bumped-self.result c.args.self.now.next _ _ _ _ _ adds c.args.self.now.caused c.saturating_add-self.ensures c.bumped-self.ensures.bound (killed_is c);
    }

pub invariant_of-self-in-Ok-Err : goal.invariant_of-self-in-Ok-Err
invariant_of-self-in-Ok-Err c =
    let none : Failed = record {} in
    let adds : AddsIf (λ w. (w.children ≡ c.args.self.now.children) × AllApart c.args.self.now.children) (Waited (Err none)) c.args.self.now.nodes c.wait.new.nodes c.args.self.now.steps c.wait.new.steps
    = subst (λ r. AddsIf (λ w. (w.children ≡ c.args.self.now.children) × AllApart c.args.self.now.children) (Waited r) c.args.self.now.nodes c.wait.new.nodes c.args.self.now.steps c.wait.new.steps) c.in-Ok-Err.field-0-is c.in-Ok-Err.ensures.adds in
    record {
      agrees = agrees_after_if _ _ _ _ _ _ adds c.args.self.now.told c.args.self.now.agrees (λ is. ((c.args.self.now.orderly is).children_are, (c.args.self.now.orderly is).apart));
      orderly = orderly_same _ _ _ _ _ _ adds c.args.self.now.told c.args.self.now.children c.wait.new.children c.args.self.now.next c.args.self.now.orderly (λ cs. refl) refl refl (c.in-Ok-Err.ensures.children ∙ ap (λ r. children_after (Waited r) c.args.self.now.children) c.in-Ok-Err.field-0-is);
      rooted = (λ is. c.in-Ok-Err.ensures.stand (c.args.self.now.rooted is));
      caused = caused_crew _ c.args.self.now.told true c.args.self.now.failing c.args.self.now.stop_after c.args.self.now.killed c.args.self.now.calls c.saturating_add-self.result c.args.self.now.faults c.bumped-self-in-Ok-Err.result c.args.self.now.next c.args.self.now.next _ _ _ _ _ adds c.args.self.now.caused c.saturating_add-self.ensures (omega arith) c.bumped-self-in-Ok-Err.ensures.bound (λ ks. refl) (because c);
    }

pub returns-in-Ok-Ok-clause-called : goal.returns-in-Ok-Ok-clause-called
returns-in-Ok-Ok-clause-called c =
    let adds : AddsIf (λ w. (w.children ≡ c.args.self.now.children) × AllApart c.args.self.now.children) (Waited (Ok c.in-Ok-Ok.ended)) c.args.self.now.nodes c.wait.new.nodes c.args.self.now.steps c.wait.new.steps
    = subst (λ r. AddsIf (λ w. (w.children ≡ c.args.self.now.children) × AllApart c.args.self.now.children) (Waited r) c.args.self.now.nodes c.wait.new.nodes c.args.self.now.steps c.wait.new.steps) c.in-Ok-Ok.field-0-is c.in-Ok-Ok.ensures.adds in
    record {
      world =
          world_after_if _ _ _ _ _ _ adds c.args.self.now.told c.args.self.now.agrees (λ is. ((c.args.self.now.orderly is).children_are, (c.args.self.now.orderly is).apart)) c.wait.new.children c.args.self.now.next
          (orderly_waited _ c.in-Ok-Ok.ended _ _ _ _ adds c.args.self.now.told c.args.self.now.children c.wait.new.children c.args.self.now.next c.args.self.now.orderly (c.in-Ok-Ok.ensures.children ∙ ap (λ r. children_after (Waited r) c.args.self.now.children) c.in-Ok-Ok.field-0-is))
          (λ is. c.in-Ok-Ok.ensures.stand (c.args.self.now.rooted is));
      cause = record { later = c.bumped-self.ensures.later; rose = λ failure. absurd (false≢true failure) };
      running = running_waited _ c.in-Ok-Ok.ended _ _ _ _ adds;
    }

pub returns-in-Ok-Ok-clause-ran : goal.returns-in-Ok-Ok-clause-ran
returns-in-Ok-Ok-clause-ran c =
    let told_is : c.args.self.now.told ≡ true = search rules in
    let first : EndsAs c.contains-killed.result c.in-Ok-Ok.ended (child_numbered c.in-Ok-Ok.ended.number c.args.self.now.children) = subst (λ r. IfOk r (λ e. EndsAs c.contains-killed.result e (child_numbered e.number c.args.self.now.children))) c.in-Ok-Ok.field-0-is c.in-Ok-Ok.ensures.ends in
    ran c.contains-killed.result c.in-Ok-Ok.ended c.args.self.now.steps c.args.self.now.children c.args.self.now.next (c.args.self.now.orderly told_is) first

pub returns-in-Ok-Ok-clause-other_status : goal.returns-in-Ok-Ok-clause-other_status
returns-in-Ok-Ok-clause-other_status c =
    let first : EndsAs c.contains-killed.result c.in-Ok-Ok.ended (child_numbered c.in-Ok-Ok.ended.number c.args.self.now.children) = subst (λ r. IfOk r (λ e. EndsAs c.contains-killed.result e (child_numbered e.number c.args.self.now.children))) c.in-Ok-Ok.field-0-is c.in-Ok-Ok.ensures.ends in
    no_other_status _ c.contains-killed.result (λ k. c.bumped-self.ensures.rose k) c.in-Ok-Ok.ended c.args.self.now.told c.args.self.now.steps c.args.self.now.children c.args.self.now.next c.args.self.now.orderly first

pub returns-in-Ok-Err-clause-called : goal.returns-in-Ok-Err-clause-called
returns-in-Ok-Err-clause-called c =
    let none : Failed = record {} in
    let adds : AddsIf (λ w. (w.children ≡ c.args.self.now.children) × AllApart c.args.self.now.children) (Waited (Err none)) c.args.self.now.nodes c.wait.new.nodes c.args.self.now.steps c.wait.new.steps
    = subst (λ r. AddsIf (λ w. (w.children ≡ c.args.self.now.children) × AllApart c.args.self.now.children) (Waited r) c.args.self.now.nodes c.wait.new.nodes c.args.self.now.steps c.wait.new.steps) c.in-Ok-Err.field-0-is c.in-Ok-Err.ensures.adds in
    record {
      world =
          world_after_if _ _ _ _ _ _ adds c.args.self.now.told c.args.self.now.agrees (λ is. ((c.args.self.now.orderly is).children_are, (c.args.self.now.orderly is).apart)) c.wait.new.children c.args.self.now.next
          (orderly_same _ _ _ _ _ _ adds c.args.self.now.told c.args.self.now.children c.wait.new.children c.args.self.now.next c.args.self.now.orderly (λ cs. refl) refl refl (c.in-Ok-Err.ensures.children ∙ ap (λ r. children_after (Waited r) c.args.self.now.children) c.in-Ok-Err.field-0-is))
          (λ is. c.in-Ok-Err.ensures.stand (c.args.self.now.rooted is));
      cause = record { later = c.bumped-self-in-Ok-Err.ensures.later; rose = λ failure. c.bumped-self-in-Ok-Err.ensures.rose refl };
      running = ap (λ cs. numbers cs) (children_after_if _ _ _ _ _ _ adds);
    }
