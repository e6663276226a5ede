-- What one more event makes of the workspace.
use Rattle.std.proofs.Common.{◌≡◌, ◌+◌, ◌≤◌, Result, Ok, Err, length, ℕ, Bool, true, false, List, [], ◌∷◌, ◌++◌, refl, ap, sym, subst, ◌∙◌, Some, append_assoc}
use Rattle.std.proofs.lemmas.List.{append-nil}
use Rattle.std.specs.Prelude.{IsErr, IsSome}
use Rattle.std.proofs.lemmas.Option.{same_Some}
use Rattle.smk_world.specs.declared.event.Call.{Call}
use Rattle.smk_world.specs.declared.event.Child.{Child}
use Rattle.smk_world.specs.declared.event.Event.{Event}
use Rattle.smk_world.specs.declared.event.WorkFault.{WorkFault}
use Rattle.smk_world.specs.World.{World, after, numbers, children_after}
use Rattle.smk_world.specs.Calls.{Happened, Rose, failed, device_failed, started_number, started_numbers, HasOwners}
use Rattle.smk_world.specs.Devices.{HasCalled, keeps_children}
use Rattle.smk_world.proofs.Devices.{still_children, still_running}
use Rattle.smk_world_nodes.specs.Nodes.{node_at}
use Rattle.smk_world_nodes.specs.Steps.{seen, replay, empty_world, Agrees, told_world, Orderly, IsHeld, Rooted, AllBelow}
use Rattle.smk_world_mem.specs.Act.{mem_act}
use Rattle.smk_world_mem.specs.Adds.{Adds, AddsIf}
use Rattle.smk_world.specs.Folders.{AreInFolders, CanHold, IsTree}
use Rattle.smk_world_nodes.proofs.Owners.{owners_after}
use Rattle.smk_world_nodes.proofs.Held.{leaves_children, held_after, tree_seen}
use Rattle.smk_world_nodes.proofs.Replay.{replay_push}
use Rattle.smk_world_nodes.specs.declared.nodes.Nodes.{Nodes}
use Rattle.smk_world_nodes.specs.declared.step.Step.{Step}
use Rattle.smk_world_nodes.specs.declared.step.Step.TheVariants as step

module _ (call : Call) (old new : Nodes) (steps more : List Step) (adds : Adds call old new steps more) where
  pub world_is : replay empty_world more ≡ after (replay empty_world steps) (record { call = call; left = adds.left })
  world_is = ap (replay empty_world) adds.steps_are ∙ replay_push empty_world steps (step.Happened (record { call = call; left = adds.left }))

  pub agrees_after : (told : Bool) → Agrees told old steps → Agrees told new more
  agrees_after told agrees = λ is q. subst (λ v. seen (node_at new q) (v.nodes q) ≡ node_at new q) (sym world_is) (adds.nodes_are (replay empty_world steps) (agrees is) q)

  -- where nodes in folders are kept, the world is a tree
  tree_after : Agrees true old steps → (children : List Child) (next : ℕ) → Orderly true steps children next → AreInFolders (node_at new) → ((cs : List Child) → children_after call cs ≡ cs) → started_number call ≡ [] → leaves_children call ≡ true
      → IsTree (after (replay empty_world steps) (record { call = call; left = adds.left }))
  tree_after agrees children next orderly rooted keeps none leaves =
      let w = replay empty_world steps in
      tree_seen new (after w (record { call = call; left = adds.left })) (adds.nodes_are w (agrees refl)) (owners_after w call adds.left (orderly refl).owned none (keeps _)) (held_after w call adds.left leaves (keeps _) (orderly refl).held) rooted

  pub world_after : (told : Bool) → Agrees told old steps → (children : List Child) (next : ℕ) → Orderly told steps children next → Rooted told new → ((cs : List Child) → children_after call cs ≡ cs) → started_number call ≡ [] → leaves_children call ≡ true
      → Happened mem_act (told_world told steps) (told_world told more) call
  world_after true agrees children next orderly rooted keeps none leaves = record {
    told = λ w1 e. (replay empty_world steps, refl, (adds.left, record { lets = adds.lets (replay empty_world steps) (agrees refl); tree = tree_after agrees children next orderly (rooted refl) keeps none leaves }, sym (same_Some _ _ e) ∙ world_is));
    stays = λ a b. refl;
  }
  world_after false agrees children next orderly rooted keeps none leaves = record { told = λ w1 e. cc; stays = λ a b. a }

  -- the call as the device tells it
  pub called_after : (told : Bool) → Agrees told old steps → (children : List Child) (next : ℕ) → Orderly told steps children next → Rooted told new → ((cs : List Child) → children_after call cs ≡ cs) → started_number call ≡ [] → leaves_children call ≡ true
      → (faults more_faults : ℕ) → faults ≤ more_faults → (failed call ≡ true → Rose faults more_faults) → keeps_children call ≡ true
      → HasCalled mem_act (record { world = told_world told steps; faults = faults; running = numbers (replay empty_world steps).children }) (record { world = told_world told more; faults = more_faults; running = numbers (replay empty_world more).children }) call
  called_after told agrees children next orderly rooted same none leaves faults more_faults later rose keeps = record {
    world = world_after told agrees children next orderly rooted same none leaves;
    cause = record { later = later; rose = rose };
    running = ap (λ w. numbers w.children) world_is ∙ ap numbers (still_children call (replay empty_world steps).children keeps) ∙ sym (still_running call (numbers (replay empty_world steps).children) keeps);
  }

module _ (P : World → Type 0) (call : Call) (old new : Nodes) (steps more : List Step) (adds : AddsIf P call old new steps more) where
  pub world_is_if : replay empty_world more ≡ after (replay empty_world steps) (record { call = call; left = adds.left })
  world_is_if = ap (replay empty_world) adds.steps_are ∙ replay_push empty_world steps (step.Happened (record { call = call; left = adds.left }))

  pub agrees_after_if : (told : Bool) → Agrees told old steps → (told ≡ true → P (replay empty_world steps)) → Agrees told new more
  agrees_after_if told agrees fits = λ is q. subst (λ v. seen (node_at new q) (v.nodes q) ≡ node_at new q) (sym world_is_if) (adds.nodes_are (replay empty_world steps) (agrees is) (fits is) q)

  -- where nodes in folders are kept, and the children after it are in order, the world is a tree
  tree_after_if : (children : List Child) (next : ℕ) → Agrees true new more → Orderly true more children next → AreInFolders (node_at new) → IsTree (after (replay empty_world steps) (record { call = call; left = adds.left }))
  tree_after_if children next agrees orderly rooted = subst IsTree world_is_if (tree_seen new (replay empty_world more) (agrees refl) (orderly refl).owned (orderly refl).held rooted)

  pub world_after_if : (told : Bool) → Agrees told old steps → (told ≡ true → P (replay empty_world steps)) → (children : List Child) (next : ℕ) → Orderly told more children next → Rooted told new
      → Happened mem_act (told_world told steps) (told_world told more) call
  world_after_if true agrees fits children next orderly rooted = record {
    told = λ w1 e. (replay empty_world steps, refl, (adds.left, record { lets = adds.lets (replay empty_world steps) (agrees refl) (fits refl); tree = tree_after_if children next (agrees_after_if true agrees fits) orderly (rooted refl) }, sym (same_Some _ _ e) ∙ world_is_if));
    stays = λ a b. refl;
  }
  world_after_if false agrees fits children next orderly rooted = record { told = λ w1 e. cc; stays = λ a b. a }

  pub children_after_if : (replay empty_world more).children ≡ children_after call (replay empty_world steps).children
  children_after_if = ap (λ w. w.children) world_is_if

pub started_append : (es : List Event) (e : Event) → started_numbers (es ++ e ∷ []) ≡ started_numbers es ++ started_number e.call
started_append [] e = append-nil (started_number e.call)
started_append (d ∷ es) e = ap (λ ns. started_number d.call ++ ns) (started_append es e) ∙ sym (append_assoc (started_number d.call) (started_numbers es) (started_number e.call))

module _ (call : Call) (old new : Nodes) (steps more : List Step) (adds : Adds call old new steps more) where
  pub orderly_after : (told : Bool) (children : List Child) (next : ℕ) → Orderly told steps children next → ((cs : List Child) → children_after call cs ≡ cs) → started_number call ≡ [] → leaves_children call ≡ true → Orderly told more children next
  orderly_after told children next orderly keeps none leaves = λ told_is.
      let o = orderly told_is in
      let is = world_is call old new steps more adds in record {
        children_are = ap (λ w. w.children) is ∙ keeps (replay empty_world steps).children ∙ o.children_are;
        started_below = subst (AllBelow next) (sym (ap (λ w. started_numbers w.log) is ∙ started_append (replay empty_world steps).log (record { call = call; left = adds.left }) ∙ ap (λ ns. started_numbers (replay empty_world steps).log ++ ns) none ∙ append-nil _)) o.started_below;
        started_counted = ap (λ w. length (started_numbers w.log) + 1) is ∙ ap (λ ns. length ns + 1) (started_append (replay empty_world steps).log (record { call = call; left = adds.left }) ∙ ap (λ ns. started_numbers (replay empty_world steps).log ++ ns) none ∙ append-nil _) ∙ o.started_counted;
        apart = o.apart;
        below = o.below;
        distinct = o.distinct;
        owned = subst HasOwners (sym is) (owners_after (replay empty_world steps) call adds.left o.owned none (keeps _));
        held = subst IsHeld (sym is) (held_after (replay empty_world steps) call adds.left leaves (keeps _) o.held);
        alone = o.alone;
      }

-- a failure of the device is an error
pub failed_err : {T : Type 0} (r : Result T WorkFault) → device_failed r ≡ true → IsErr r
failed_err (Ok t) h = h
failed_err (Err e) h = refl

-- a workspace that tells less
pub told_less : (told less : Bool) (steps : List Step) → (less ≡ true → told ≡ true) → (w : World) → told_world less steps ≡ Some w → told_world told steps ≡ Some w
told_less told true steps back w e = ap (λ t. told_world t steps) (back refl) ∙ e
told_less told false steps back w e = cc

pub rooted_same : (told : Bool) (old new : Nodes) → ((q : List ℕ) → node_at new q ≡ node_at old q) → Rooted told old → Rooted told new
rooted_same told old new same rooted = λ is q some.
    let there : CanHold (node_at old) q = rooted is q (subst IsSome (same q) some) in
    record { folders = λ f u. same f ∙ there.folders f u; named = there.named }
