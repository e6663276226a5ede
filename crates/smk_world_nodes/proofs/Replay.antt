-- What one more step makes of the world, and of what a workspace keeps of it.
use Rattle.std.proofs.Common.{◌≡◌, ◌+◌, length, ℕ, Bool, true, false, List, [], ◌∷◌, ◌++◌, refl, ap, sym, subst, ◌∙◌, Option, Some, None, bytes_eq}
use Rattle.std.specs.Prelude.{if◌then◌else◌}
use Rattle.std.specs.Option.{option_map}
use Rattle.smk_base.specs.Path.{is_under, is_at_or_under}
use Rattle.smk_world.specs.declared.event.Node.{Node}
use Rattle.smk_world.specs.declared.event.NodeState.{NodeState}
use Rattle.smk_world.specs.declared.event.NodeState.TheVariants.{Owned, Known}
use Rattle.smk_world.specs.declared.event.Child.{Child}
use Rattle.smk_world.specs.World.{World, firm, with_folder}
use Rattle.smk_world.specs.Calls.{started_numbers, HasOwners}
use Rattle.smk_world_nodes.specs.Nodes.{node_at, or_folder}
use Rattle.smk_world_nodes.specs.Steps.{seen, now_there, step_world, replay, empty_world, Agrees, told_world, Orderly, IsHeld, AllBelow}
use Rattle.smk_world_nodes.specs.declared.nodes.Nodes.{Nodes}
use Rattle.smk_world_nodes.specs.declared.step.Step.{Step}
use Rattle.smk_world_nodes.specs.declared.step.Step.TheVariants as step
use Rattle.smk_world_nodes.proofs.Owners.{owners_put, owners_gone}
use Rattle.smk_world_nodes.proofs.Held.{held_put, held_gone}

pub replay_push : (w : World) (ss : List Step) (s : Step) → replay w (ss ++ s ∷ []) ≡ step_world (replay w ss) s
replay_push w [] s = refl
replay_push w (t ∷ ss) s = replay_push (step_world w t) ss s

pub orderly_put : (told : Bool) (p : List ℕ) (n : Node) (children : List Child) (steps more : List Step) (next : ℕ) → Orderly told steps children next → more ≡ steps ++ step.Put p n ∷ [] → Orderly told more children next
orderly_put told p n children steps more next orderly is = λ told_is.
    let o = orderly told_is in
    let there = ap (replay empty_world) is ∙ replay_push empty_world steps (step.Put p n) in record {
      children_are = ap (λ w. w.children) there ∙ o.children_are;
      started_below = subst (AllBelow next) (sym (ap (λ w. started_numbers w.log) there)) o.started_below;
      started_counted = ap (λ w. length (started_numbers w.log) + 1) there ∙ o.started_counted;
      apart = o.apart;
      below = o.below;
      distinct = o.distinct;
      owned = subst HasOwners (sym there) (owners_put (replay empty_world steps) p n o.owned);
      held = subst IsHeld (sym there) (held_put (replay empty_world steps) p n o.held);
      alone = o.alone;
    }

pub orderly_gone : (told : Bool) (p : List ℕ) (children : List Child) (steps more : List Step) (next : ℕ) → Orderly told steps children next → more ≡ steps ++ step.Gone p ∷ [] → Orderly told more children next
orderly_gone told p children steps more next orderly is = λ told_is.
    let o = orderly told_is in
    let there = ap (replay empty_world) is ∙ replay_push empty_world steps (step.Gone p) in record {
      children_are = ap (λ w. w.children) there ∙ o.children_are;
      started_below = subst (AllBelow next) (sym (ap (λ w. started_numbers w.log) there)) o.started_below;
      started_counted = ap (λ w. length (started_numbers w.log) + 1) there ∙ o.started_counted;
      apart = o.apart;
      below = o.below;
      distinct = o.distinct;
      owned = subst HasOwners (sym there) (owners_gone (replay empty_world steps) p o.owned);
      held = subst IsHeld (sym there) (held_gone (replay empty_world steps) p o.held);
      alone = o.alone;
    }

seen_put : (b u : Bool) (n : Node) (m : Option Node) (s : NodeState) → seen m s ≡ m
    → seen (if b then Some n else (if u then or_folder m else m)) (if b then now_there (Some n) s else (if u then firm (with_folder s) else s)) ≡ (if b then Some n else (if u then or_folder m else m))
seen_put true u n m Owned a = refl
seen_put true u n m (Known now besides) a = refl
seen_put false true n m Owned a = refl
seen_put false true n m (Known None besides) a = ap or_folder a
seen_put false true n m (Known (Some k) besides) a = ap or_folder a
seen_put false false n m s a = a

seen_gone : (b : Bool) (m : Option Node) (s : NodeState) → seen m s ≡ m → seen (if b then None else m) (if b then now_there None s else s) ≡ (if b then None else m)
seen_gone true m Owned a = refl
seen_gone true m (Known now besides) a = refl
seen_gone false m s a = a

module _ (told : Bool) (old new : Nodes) (steps more : List Step) (agrees : Agrees told old steps) where
  pub agrees_put : (p : List ℕ) (n : Node) → ((q : List ℕ) → node_at new q ≡ (if bytes_eq q p then Some n else (if is_under p q then or_folder (node_at old q) else node_at old q))) → more ≡ steps ++ step.Put p n ∷ [] → Agrees told new more
  agrees_put p n nodes is = λ told_is q. subst (λ v. seen (node_at new q) (v.nodes q) ≡ node_at new q) (sym (ap (replay empty_world) is ∙ replay_push empty_world steps (step.Put p n)))
      (subst (λ m. seen m ((step_world (replay empty_world steps) (step.Put p n)).nodes q) ≡ m) (sym (nodes q)) (seen_put (bytes_eq q p) (is_under p q) n (node_at old q) ((replay empty_world steps).nodes q) (agrees told_is q)))

  pub agrees_gone : (p : List ℕ) → ((q : List ℕ) → node_at new q ≡ (if is_at_or_under q p then None else node_at old q)) → more ≡ steps ++ step.Gone p ∷ [] → Agrees told new more
  agrees_gone p nodes is = λ told_is q. subst (λ v. seen (node_at new q) (v.nodes q) ≡ node_at new q) (sym (ap (replay empty_world) is ∙ replay_push empty_world steps (step.Gone p)))
      (subst (λ m. seen m ((step_world (replay empty_world steps) (step.Gone p)).nodes q) ≡ m) (sym (nodes q)) (seen_gone (is_at_or_under q p) (node_at old q) ((replay empty_world steps).nodes q) (agrees told_is q)))

pub world_stepped : (told : Bool) (steps more : List Step) (s : Step) → more ≡ steps ++ s ∷ [] → told_world told more ≡ option_map (λ w. step_world w s) (told_world told steps)
world_stepped true steps more s is = ap Some (ap (replay empty_world) is ∙ replay_push empty_world steps s)
world_stepped false steps more s is = refl

pub world_kept : (told : Bool) (steps more : List Step) → more ≡ steps → told_world told more ≡ told_world told steps
world_kept told steps more is = ap (told_world told) is

-- where the world is told after the step, it was told before
pub stepped_from : (told : Bool) (steps more : List Step) (s : Step) → more ≡ steps ++ s ∷ [] → (w : World) → told_world told more ≡ Some w → (v : World) × (told_world told steps ≡ Some v) × (w ≡ step_world v s)
stepped_from true steps more s is w e = (replay empty_world steps, refl, sym (told_same _ _ e) ∙ ap (replay empty_world) is ∙ replay_push empty_world steps s)
  where
    told_same : (v1 v2 : World) → Some v1 ≡ Some v2 → v1 ≡ v2
    told_same v1 v2 same = cc
stepped_from false steps more s is w e = cc
