-- What is owned is so by a running child.
use Rattle.std.proofs.Common.{◌≡◌, ℕ, Bool, true, false, ◌||◌, not, cond, List, [], ◌∷◌, ◌++◌, refl, ap, sym, subst, ◌∙◌, Option, Some, None, Ok, Err, bytes_eq}
use Rattle.std.specs.Prelude.{if◌then◌else◌, nat_eq, ◌&&◌, is_some}
use Rattle.std.specs.List.{filter}
use Rattle.std.proofs.lemmas.List.{append-nil}
use Rattle.std.proofs.lemmas.Bool.{eqb-true, or_right, or_left}
use Rattle.std.proofs.Math.Bool.{or_assoc}
use Rattle.smk_base.specs.Path.{is_under, is_at_or_under}
use Rattle.smk_world.specs.declared.event.Node.{Node}
use Rattle.smk_world.specs.declared.event.NodeState.{NodeState}
use Rattle.smk_world.specs.declared.event.NodeState.TheVariants.{Owned, Known}
use Rattle.smk_world.specs.declared.event.Besides.TheVariants.{Anything}
use Rattle.smk_world.specs.declared.event.Call.{Call}
use Rattle.smk_world.specs.declared.event.Call.TheVariants.{Looked, ReadFile, ReadFolder, Written, Created, Removed, MadeParents, Settled, Protected, Started, Waited}
use Rattle.smk_world.specs.declared.event.Change.{Change}
use Rattle.smk_world.specs.declared.event.Child.{Child}
use Rattle.smk_world.specs.declared.event.Ended.{Ended}
use Rattle.smk_world.specs.declared.recipe.Recipe.{Recipe}
use Rattle.smk_world.specs.World.{World, after, node_after, children_after, loose, going, firm, with_folder, with_flag, standing, is_within, is_above, reads_folder, reads_nothing, owned_paths, owned_of, owned_by, child_numbered, numbers}
use Rattle.smk_world.specs.Calls.{started_number, owned_now, HasOwners}
use Rattle.smk_world_nodes.specs.Steps.{AllOther, AllDistinct, now_there, step_world}
use Rattle.smk_world_nodes.specs.declared.step.Step.TheVariants.{Put, Gone}
use Rattle.smk_world_nodes.proofs.Within.{within_both}

loose_owned : (n : Option Node) (s : NodeState) → loose n s ≡ Owned → s ≡ Owned
loose_owned n Owned h = refl
loose_owned n (Known now besides) h = cc

going_owned : (n : Option Node) (s : NodeState) → going n s ≡ Owned → s ≡ Owned
going_owned n Owned h = refl
going_owned n (Known now besides) h = cc

firm_owned : (s : NodeState) → firm s ≡ Owned → s ≡ Owned
firm_owned Owned h = refl
firm_owned (Known now besides) h = cc

folder_owned : (s : NodeState) → with_folder s ≡ Owned → s ≡ Owned
folder_owned Owned h = refl
folder_owned (Known None besides) h = cc
folder_owned (Known (Some n) besides) h = cc

flag_owned : (s : NodeState) → with_flag s ≡ Owned → s ≡ Owned
flag_owned Owned h = refl
flag_owned (Known now besides) h = cc

either : (b : Bool) (s t : NodeState) → (t ≡ Owned → s ≡ Owned) → (if b then t else s) ≡ Owned → s ≡ Owned
either true s t back h = back h
either false s t back h = h

-- no call but a start makes a place owned
owned_before : (call : Call) (left : List Change) (cs : List Child) (q : List ℕ) (s : NodeState) → started_number call ≡ [] → node_after call left cs q s ≡ Owned → s ≡ Owned
owned_before (Looked p r) left cs q s starts h = h
owned_before (ReadFile p limit r) left cs q s starts h = h
owned_before (ReadFolder p r) left cs q s starts h = h
owned_before (Written p bytes r) left cs q s starts h = either (bytes_eq q p) s _ (loose_owned (standing left q) s) h
owned_before (Created p (Ok made)) left cs q s starts h = either (made && bytes_eq q p) s _ (loose_owned (standing left q) s) h
owned_before (Created p (Err e)) left cs q s starts h = either (reads_nothing s && bytes_eq q p) s _ (loose_owned (standing left q) s) h
owned_before (Removed p r) left cs q s starts h = either (is_at_or_under q p) s _ (going_owned (standing left q) s) h
owned_before (MadeParents p (Ok u)) left cs q s starts h = either (is_under p q) s _ (folder_owned s) h
owned_before (MadeParents p (Err e)) left cs q s starts h = either (is_some (standing left q) && is_under p q) s _ (folder_owned s) h
owned_before (Settled ps (Ok u)) left cs q s starts h = either (is_within q ps || (is_above q ps && reads_folder s)) s _ (firm_owned s) h
owned_before (Settled ps (Err e)) left cs q s starts h = h
owned_before (Protected p (Ok u)) left cs q s starts h = either (bytes_eq q p) s _ (flag_owned s) h
owned_before (Protected p (Err e)) left cs q s starts h = either (bytes_eq q p) s _ (λ k. flag_owned s (going_owned (standing left q) (with_flag s) k)) h
owned_before (Started recipe logs command (Ok number)) left cs q s starts h = cc
owned_before (Started recipe logs command (Err e)) left cs q s starts h = h
owned_before (Waited (Ok ended)) left cs q s starts h = either (is_within q (owned_by ended.number cs)) s _ (λ k. cc) h
owned_before (Waited (Err e)) left cs q s starts h = h

pub owners_after : (w : World) (call : Call) (left : List Change) → HasOwners w → started_number call ≡ [] → children_after call w.children ≡ w.children → HasOwners (after w (record { call = call; left = left }))
owners_after w call left owners starts keeps = λ q h.
    subst (λ cs. is_within q (owned_now cs) ≡ true) (sym keeps) (owners q (owned_before call left w.children q (w.nodes q) starts h))

pub own_more : (q : List ℕ) (cs : List Child) (c : Child) → is_within q (owned_now (cs ++ c ∷ [])) ≡ (is_within q (owned_now cs) || is_within q (owned_paths c.recipe c.logs))
own_more q [] c = ap (is_within q) (append-nil (owned_paths c.recipe c.logs))
own_more q (d ∷ cs) c =
    within_both q (owned_paths d.recipe d.logs) (owned_now (cs ++ c ∷ []))
    ∙ ap (λ b. is_within q (owned_paths d.recipe d.logs) || b) (own_more q cs c)
    ∙ sym (or_assoc (is_within q (owned_paths d.recipe d.logs)) (is_within q (owned_now cs)) (is_within q (owned_paths c.recipe c.logs)))
    ∙ ap (λ b. b || is_within q (owned_paths c.recipe c.logs)) (sym (within_both q (owned_paths d.recipe d.logs) (owned_now cs)))

pub owners_started : (w : World) (recipe : Recipe) (logs : List (List ℕ)) (command : List ℕ) (number : ℕ) (left : List Change) → HasOwners w
    → HasOwners (after w (record { call = Started recipe logs command (Ok number); left = left }))
owners_started w recipe logs command number left owners = λ q h.
    let child : Child = record { number = number; recipe = recipe; logs = logs } in
    own_more q w.children child ∙ go q (is_within q (owned_paths recipe logs)) (owners q) h
  where
    go : (q : List ℕ) (b : Bool) → (w.nodes q ≡ Owned → is_within q (owned_now w.children) ≡ true) → (if b then Owned else w.nodes q) ≡ Owned → (is_within q (owned_now w.children) || b) ≡ true
    go q true back k = or_right (is_within q (owned_now w.children)) true refl
    go q false back k = or_left (is_within q (owned_now w.children)) false (back k)

-- none but the others stays
all_others : (number : ℕ) (cs : List Child) → AllOther number (numbers cs) → filter (λ c. not (nat_eq c.number number)) cs ≡ cs
all_others number [] all = refl
all_others number (c ∷ cs) all = go (nat_eq c.number number) all.0 (all_others number cs all.1)
  where
    go : (b : Bool) → b ≡ false → filter (λ c. not (nat_eq c.number number)) cs ≡ cs → cond (not b) (c ∷ filter (λ c. not (nat_eq c.number number)) cs) (filter (λ c. not (nat_eq c.number number)) cs) ≡ c ∷ cs
    go true e ih = cc
    go false e ih = ap (λ ds. c ∷ ds) ih

or_not_first : (a b : Bool) → a ≡ false → (a || b) ≡ true → b ≡ true
or_not_first true b f h = cc
or_not_first false b f h = h

same_other : (a b : ℕ) (ns : List ℕ) → a ≡ b → AllOther a ns → AllOther b ns
same_other a b ns e all = subst (λ n. AllOther n ns) e all

-- what another child owns is still owned when the child of this number is gone
own_less : (q : List ℕ) (number : ℕ) (cs : List Child) → AllDistinct (numbers cs) → is_within q (owned_by number cs) ≡ false → is_within q (owned_now cs) ≡ true
    → is_within q (owned_now (filter (λ c. not (nat_eq c.number number)) cs)) ≡ true
own_less q number [] distinct others here = here
own_less q number (c ∷ cs) distinct others here =
    go (nat_eq c.number number) refl others (own_less q number cs distinct.1) (sym (within_both q (owned_paths c.recipe c.logs) (owned_now cs)) ∙ here)
  where
    go : (b : Bool) → nat_eq c.number number ≡ b → is_within q (owned_of (if b then Some c else child_numbered number cs)) ≡ false
        → (is_within q (owned_by number cs) ≡ false → is_within q (owned_now cs) ≡ true → is_within q (owned_now (filter (λ c. not (nat_eq c.number number)) cs)) ≡ true)
        → (is_within q (owned_paths c.recipe c.logs) || is_within q (owned_now cs)) ≡ true
        → is_within q (owned_now (cond (not b) (c ∷ filter (λ c. not (nat_eq c.number number)) cs) (filter (λ c. not (nat_eq c.number number)) cs))) ≡ true
    go true e none ih both = subst (λ ds. is_within q (owned_now ds) ≡ true) (sym (all_others number cs (same_other c.number number (numbers cs) (eqb-true c.number number e) distinct.0))) (or_not_first (is_within q (owned_paths c.recipe c.logs)) (is_within q (owned_now cs)) none both)
    go false e none ih both = within_both q (owned_paths c.recipe c.logs) (owned_now (filter (λ c. not (nat_eq c.number number)) cs)) ∙ more (is_within q (owned_paths c.recipe c.logs)) both
      where
        more : (a : Bool) → (a || is_within q (owned_now cs)) ≡ true → (a || is_within q (owned_now (filter (λ c. not (nat_eq c.number number)) cs))) ≡ true
        more true k = refl
        more false k = ih none k

pub owners_waited : (w : World) (ended : Ended) (left : List Change) → AllDistinct (numbers w.children) → HasOwners w → HasOwners (after w (record { call = Waited (Ok ended); left = left }))
owners_waited w ended left distinct owners = λ q h. go q (is_within q (owned_by ended.number w.children)) refl h
  where
    go : (q : List ℕ) (b : Bool) → is_within q (owned_by ended.number w.children) ≡ b → (if b then Known (standing left q) Anything else w.nodes q) ≡ Owned → is_within q (owned_now (filter (λ c. not (nat_eq c.number ended.number)) w.children)) ≡ true
    go q true e k = cc
    go q false e k = own_less q ended.number w.children distinct e (owners q k)

now_owned : (n : Option Node) (s : NodeState) → now_there n s ≡ Owned → s ≡ Owned
now_owned n Owned h = refl
now_owned n (Known now besides) h = cc

pub owners_put : (w : World) (p : List ℕ) (n : Node) → HasOwners w → HasOwners (step_world w (Put p n))
owners_put w p n owners = λ q h. owners q (go (bytes_eq q p) (is_under p q) (w.nodes q) h)
  where
    go : (b u : Bool) (s : NodeState) → (if b then now_there (Some n) s else (if u then firm (with_folder s) else s)) ≡ Owned → s ≡ Owned
    go true u s k = now_owned (Some n) s k
    go false u s k = either u s (firm (with_folder s)) (λ j. folder_owned s (firm_owned (with_folder s) j)) k

pub owners_gone : (w : World) (p : List ℕ) → HasOwners w → HasOwners (step_world w (Gone p))
owners_gone w p owners = λ q h. owners q (either (is_at_or_under q p) (w.nodes q) (now_there None (w.nodes q)) (now_owned None (w.nodes q)) h)
