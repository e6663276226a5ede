-- The workspace after the start and the end of children.
use Rattle.std.proofs.Common.{◌≡◌, ◌+◌, length, length-append, ℕ, suc, Bool, true, false, List, [], ◌∷◌, ◌++◌, refl, ap, sym, subst, ◌∙◌, Some, Ok, arith, not}
use Rattle.std.proofs.lemmas.List.{append-nil}
use Rattle.std.specs.Prelude.{if◌then◌else◌, nat_eq, Contains, ◌≢◌}
use Rattle.smk_base.specs.declared.tree.Tree.{Tree}
use Rattle.smk_world.specs.declared.event.Call.{Call}
use Rattle.smk_world.specs.declared.event.Call.TheVariants.{Started, Waited}
use Rattle.smk_world.specs.declared.event.Child.{Child}
use Rattle.smk_world.specs.declared.event.Ended.{Ended}
use Rattle.smk_world.specs.declared.recipe.Recipe.{Recipe}
use Rattle.smk_world.specs.World.{World, child_numbered, owned_paths, numbers, without_number, children_after}
use Rattle.smk_world.specs.Calls.{started_number, started_numbers, are_apart, owned_now, ContentsAre, MayStart, HasOwners}
use Rattle.smk_world_mem.specs.Act.{mem_act, EndsAs}
use Rattle.smk_world_mem.specs.Adds.{AddsIf}
use Rattle.smk_world_nodes.specs.Steps.{AllBelow, AllApart, AllDistinct, AreAlone, AllAlone, IsHeld, IsOrderly, Orderly, replay, empty_world, told_world}
use Rattle.smk_world_nodes.specs.declared.nodes.Nodes.{Nodes}
use Rattle.smk_world_nodes.specs.declared.step.Step.{Step}
use Rattle.smk_world_mem.proofs.Mem.{world_is_if, children_after_if, started_append}
use Rattle.std.proofs.lemmas.Bool.{eqb-true}
use Rattle.std.proofs.lemmas.Option.{same_Some}
use Rattle.smk_world_nodes.proofs.Owners.{owners_after, owners_started, owners_waited}
use Rattle.smk_world_nodes.proofs.Held.{leaves_children, held_after, held_started, held_waited, alone_more, alone_less, alone_when_apart}
use Rattle.smk_world_mem.proofs.Starts.{below_not, below_more, apart_more, numbers_more, numbers_without, apart_less, below_less, distinct_more, distinct_less}

module _ (P : World → Type 0) (call : Call) (old new : Nodes) (steps more : List Step) (adds : AddsIf P call old new steps more) where
  started_after : started_numbers (replay empty_world more).log ≡ started_numbers (replay empty_world steps).log ++ started_number call
  started_after = ap (λ w. started_numbers w.log) (world_is_if P call old new steps more adds) ∙ started_append (replay empty_world steps).log (record { call = call; left = adds.left })

  -- no child was started or ended
  pub orderly_same : (told : Bool) (children now : List Child) (next : ℕ) → Orderly told steps children next → ((cs : List Child) → children_after call cs ≡ cs) → started_number call ≡ [] → leaves_children call ≡ true → now ≡ children → Orderly told more now next
  orderly_same told children now next orderly keeps none leaves same = λ told_is.
      let o = orderly told_is in record {
        children_are = children_after_if P call old new steps more adds ∙ keeps _ ∙ o.children_are ∙ sym same;
        started_below = subst (AllBelow next) (sym (started_after ∙ ap (λ ns. started_numbers (replay empty_world steps).log ++ ns) none ∙ append-nil _)) o.started_below;
        started_counted = ap (λ ns. length ns + 1) (started_after ∙ ap (λ ns. started_numbers (replay empty_world steps).log ++ ns) none ∙ append-nil _) ∙ o.started_counted;
        apart = subst AllApart (sym same) o.apart;
        below = subst (λ cs. AllBelow next (numbers cs)) (sym same) o.below;
        distinct = subst (λ cs. AllDistinct (numbers cs)) (sym same) o.distinct;
        owned = subst HasOwners (sym (world_is_if P call old new steps more adds)) (owners_after (replay empty_world steps) call adds.left o.owned none (keeps _));
        held = subst IsHeld (sym (world_is_if P call old new steps more adds)) (held_after (replay empty_world steps) call adds.left leaves (keeps _) o.held);
        alone = subst AllAlone (sym same) o.alone;
      }

module _ (P : World → Type 0) (recipe : Recipe) (logs : List (List ℕ)) (command : List ℕ) (number : ℕ) (old new : Nodes) (steps more : List Step) (adds : AddsIf P (Started recipe logs command (Ok number)) old new steps more) where
  pub orderly_started : (told : Bool) (children now : List Child) → Orderly told steps children number
      → now ≡ children_after (Started recipe logs command (Ok number)) children → (told ≡ true → are_apart (owned_paths recipe logs) ≡ true)
      → (told ≡ true → AreAlone (owned_paths recipe logs) (owned_now children)) → Orderly told more now (number + 1)
  orderly_started told children now orderly now_is apart alone = λ told_is.
      let o = orderly told_is in
      let call = Started recipe logs command (Ok number) in
      let child : Child = record { number = number; recipe = recipe; logs = logs } in record {
        children_are = children_after_if P call old new steps more adds ∙ ap (children_after call) o.children_are ∙ sym now_is;
        started_below = subst (AllBelow (number + 1)) (sym (started_after P call old new steps more adds)) (below_more number _ o.started_below);
        started_counted = ap (λ ns. length ns + 1) (started_after P call old new steps more adds) ∙ ap (λ n. n + 1) (length-append (started_numbers (replay empty_world steps).log) (number ∷ []) ∙ o.started_counted);
        apart = subst AllApart (sym now_is) (apart_more children child o.apart (apart told_is));
        below = subst (AllBelow (number + 1)) (sym (ap numbers now_is ∙ numbers_more children child)) (below_more number _ o.below);
        distinct = subst AllDistinct (sym (ap numbers now_is ∙ numbers_more children child)) (distinct_more number _ o.distinct o.below);
        owned = subst HasOwners (sym (world_is_if P call old new steps more adds)) (owners_started (replay empty_world steps) recipe logs command number adds.left o.owned);
        held = subst IsHeld (sym (world_is_if P call old new steps more adds)) (held_started (replay empty_world steps) recipe logs command number adds.left o.held);
        alone = subst AllAlone (sym now_is) (alone_more children child o.alone (alone told_is));
      }

  pub running_started : numbers (replay empty_world more).children ≡ numbers (replay empty_world steps).children ++ number ∷ []
  running_started = ap numbers (children_after_if P (Started recipe logs command (Ok number)) old new steps more adds) ∙ numbers_more (replay empty_world steps).children (record { number = number; recipe = recipe; logs = logs })

pub fresh_number : (steps : List Step) (children : List Child) (next : ℕ) → IsOrderly (replay empty_world steps) children next → ¬ (Contains (numbers (replay empty_world steps).children) next)
fresh_number steps children next o = subst (λ cs. ¬ (Contains (numbers cs) next)) (sym o.children_are) (below_not next (numbers children) o.below)

module _ (P : World → Type 0) (ended : Ended) (old new : Nodes) (steps more : List Step) (adds : AddsIf P (Waited (Ok ended)) old new steps more) where
  pub orderly_waited : (told : Bool) (children now : List Child) (next : ℕ) → Orderly told steps children next → now ≡ children_after (Waited (Ok ended)) children → Orderly told more now next
  orderly_waited told children now next orderly now_is = λ told_is.
      let o = orderly told_is in
      let call = Waited (Ok ended) in
      let others : Child → Bool = λ c. not (nat_eq c.number ended.number) in record {
        children_are = children_after_if P call old new steps more adds ∙ ap (children_after call) o.children_are ∙ sym now_is;
        started_below = subst (AllBelow next) (sym (started_after P call old new steps more adds ∙ append-nil _)) o.started_below;
        started_counted = ap (λ ns. length ns + 1) (started_after P call old new steps more adds ∙ append-nil _) ∙ o.started_counted;
        apart = subst AllApart (sym now_is) (apart_less others children o.apart);
        below = subst (λ cs. AllBelow next (numbers cs)) (sym now_is) (below_less next others children o.below);
        distinct = subst (λ cs. AllDistinct (numbers cs)) (sym now_is) (distinct_less others children o.distinct);
        owned = subst HasOwners (sym (world_is_if P call old new steps more adds)) (owners_waited (replay empty_world steps) ended adds.left (subst (λ cs. AllDistinct (numbers cs)) (sym o.children_are) o.distinct) o.owned);
        held = subst IsHeld (sym (world_is_if P call old new steps more adds)) (held_waited (replay empty_world steps) ended adds.left (subst AllAlone (sym o.children_are) o.alone) o.held);
        alone = subst AllAlone (sym now_is) (alone_less others children o.alone);
      }

  pub running_waited : numbers (replay empty_world more).children ≡ without_number ended.number (numbers (replay empty_world steps).children)
  running_waited = ap numbers (children_after_if P (Waited (Ok ended)) old new steps more adds) ∙ numbers_without ended.number (replay empty_world steps).children

one_later : (n m : ℕ) (ns : List ℕ) → Contains ns n → Contains (m ∷ ns) n
one_later n m ns (k, lt, is) = (suc k, omega arith, is)

numbered_contained : (killed : Bool) (ended : Ended) (cs : List Child) → EndsAs killed ended (child_numbered ended.number cs) → Contains (numbers cs) ended.number
numbered_contained killed ended [] h = absurd h
numbered_contained killed ended (c ∷ cs) h = go (nat_eq c.number ended.number) refl (λ k. numbered_contained killed ended cs k) h
  where
    go : (b : Bool) → nat_eq c.number ended.number ≡ b → (EndsAs killed ended (child_numbered ended.number cs) → Contains (numbers cs) ended.number)
        → EndsAs killed ended (if b then Some c else child_numbered ended.number cs) → Contains (numbers (c ∷ cs)) ended.number
    go true e ih k = (0, omega arith, eqb-true c.number ended.number e)
    go false e ih k = one_later ended.number c.number (numbers cs) (ih k)

pub ran : (killed : Bool) (ended : Ended) (steps : List Step) (children : List Child) (next : ℕ) → IsOrderly (replay empty_world steps) children next → EndsAs killed ended (child_numbered ended.number children) → Contains (numbers (replay empty_world steps).children) ended.number
ran killed ended steps children next o ends = subst (λ cs. Contains (numbers cs) ended.number) (sym o.children_are) (numbered_contained killed ended children ends)

-- a running child's outputs and logs are apart
pub child_apart : (n : ℕ) (cs : List Child) (c : Child) → AllApart cs → child_numbered n cs ≡ Some c → are_apart (owned_paths c.recipe c.logs) ≡ true
child_apart n [] c all h = cc
child_apart n (d ∷ cs) c all h = go (nat_eq d.number n) (λ k. child_apart n cs c all.1 k) h
  where
    go : (b : Bool) → (child_numbered n cs ≡ Some c → are_apart (owned_paths c.recipe c.logs) ≡ true) → (if b then Some d else child_numbered n cs) ≡ Some c → are_apart (owned_paths c.recipe c.logs) ≡ true
    go true ih k = subst (λ (e : Child). are_apart (owned_paths e.recipe e.logs) ≡ true) (same_Some d c k) all.0
    go false ih k = ih k

-- the status is that of the command, unless the child was killed
pub no_other_status : (R : Type 0) (killed : Bool) (rose : killed ≡ true → R) (ended : Ended) (told : Bool) (steps : List Step) (children : List Child) (next : ℕ) → Orderly told steps children next → EndsAs killed ended (child_numbered ended.number children)
    → (w : World) → told_world told steps ≡ Some w → (c : Child) → child_numbered ended.number w.children ≡ Some c → (trees : List Tree) → ContentsAre w c.recipe trees → ended.status ≢ (mem_act c.recipe trees).status → R
no_other_status R true rose ended told steps children next orderly ends w is c there trees contents other = rose refl
no_other_status R false rose ended true steps children next orderly ends w is c there trees contents other =
    let same : child_numbered ended.number children ≡ Some c = ap (child_numbered ended.number) (sym (ap (λ v. v.children) (sym (same_Some _ _ is)) ∙ (orderly refl).children_are)) ∙ there in
    absurd (other (subst (EndsAs false ended) same ends))
no_other_status R false rose ended false steps children next orderly ends w is c there trees contents other = cc

-- a started child's outputs and logs are apart
pub told_apart : (told : Bool) (steps : List Step) (recipe : Recipe) (logs : List (List ℕ)) → ((w : World) → told_world told steps ≡ Some w → MayStart w recipe logs) → told ≡ true → are_apart (owned_paths recipe logs) ≡ true
told_apart true steps recipe logs may is = (may (replay empty_world steps) refl).own_apart
told_apart false steps recipe logs may is = cc

-- what a started child owns is no other's
pub told_alone : (told : Bool) (steps : List Step) (children : List Child) (next : ℕ) (recipe : Recipe) (logs : List (List ℕ)) → Orderly told steps children next → ((w : World) → told_world told steps ≡ Some w → MayStart w recipe logs) → told ≡ true
    → AreAlone (owned_paths recipe logs) (owned_now children)
told_alone true steps children next recipe logs orderly may is = subst (λ cs. AreAlone (owned_paths recipe logs) (owned_now cs)) (orderly refl).children_are (alone_when_apart (owned_paths recipe logs) (replay empty_world steps).children (may (replay empty_world steps) refl).apart)
told_alone false steps children next recipe logs orderly may is = cc
