-- What a running child's outputs and logs have is owned by it alone.
use Rattle.std.proofs.Common.{◌≡◌, inl, inr, ℕ, Bool, true, false, ◌||◌, ◌&&◌, not, cond, List, [], ◌∷◌, ◌++◌, refl, ap, sym, subst, ◌∙◌, Option, Some, None, Ok, Err, bytes_eq}
use Rattle.std.specs.Prelude.{if◌then◌else◌, nat_eq, is_some, IsSome}
use Rattle.std.specs.List.{filter, list_any}
use Rattle.std.proofs.lemmas.Bool.{false≢true}
use Rattle.smk_base.specs.Path.{is_under, is_at_or_under, overlaps}
use Rattle.smk_base.proofs.Under.{never_both, false_unless, or_cases, overlaps_above_both}
use Rattle.smk_world.specs.declared.event.Node.{Node}
use Rattle.smk_world.specs.declared.event.Node.TheVariants.{Directory}
use Rattle.smk_world.specs.declared.event.NodeState.{NodeState}
use Rattle.smk_world.specs.declared.event.NodeState.TheVariants.{Owned, Known}
use Rattle.smk_world.specs.declared.event.Besides.TheVariants.{Anything}
use Rattle.smk_world.specs.declared.event.Call.{Call}
use Rattle.smk_world.specs.declared.event.Call.TheVariants.{Looked, ReadFile, ReadFolder, Written, Created, Removed, MadeParents, Settled, Protected, Started, Waited}
use Rattle.smk_world.specs.declared.event.Change.{Change}
use Rattle.smk_world.specs.declared.event.Child.{Child}
use Rattle.smk_world.specs.declared.event.Ended.{Ended}
use Rattle.smk_world.specs.declared.recipe.Recipe.{Recipe}
use Rattle.smk_world.specs.World.{World, after, node_after, children_after, reading, loose, going, firm, with_folder, with_flag, standing, is_within, is_above, reads_folder, reads_nothing, owned_paths, in_paths, owned_of, owned_by, child_numbered}
use Rattle.smk_world.specs.Calls.{owned_now, used_now, any_overlap, HasOwners}
use Rattle.smk_world.specs.Folders.{AreInFolders, IsTree, CanHold}
use Rattle.smk_world.proofs.Folders.{within_under}
use Rattle.smk_world_nodes.specs.Nodes.{node_at}
use Rattle.smk_world_nodes.specs.Steps.{seen, now_there, is_owned, IsHeld, AreAlone, AllAlone, AgreesWith, step_world}
use Rattle.smk_world_nodes.specs.declared.nodes.Nodes.{Nodes}
use Rattle.smk_world_nodes.specs.declared.step.Step.TheVariants.{Put, Gone}
use Rattle.smk_world_nodes.proofs.Owners.{own_more}
use Rattle.smk_world_nodes.proofs.Within.{within_both}

-- ## Calls

-- it neither starts nor ends a child
abbrev pub leaves_children : Call → Bool
leaves_children (Looked p r) = true
leaves_children (ReadFile p limit r) = true
leaves_children (ReadFolder p r) = true
leaves_children (Written p bytes r) = true
leaves_children (Created p r) = true
leaves_children (Removed p r) = true
leaves_children (MadeParents p r) = true
leaves_children (Settled ps r) = true
leaves_children (Protected p r) = true
leaves_children (Started recipe logs command (Ok number)) = false
leaves_children (Started recipe logs command (Err e)) = true
leaves_children (Waited (Ok ended)) = false
leaves_children (Waited (Err e)) = true

loose_held : (n : Option Node) (s : NodeState) → is_owned s ≡ true → is_owned (loose n s) ≡ true
loose_held n Owned h = refl
loose_held n (Known now besides) h = h

going_held : (n : Option Node) (s : NodeState) → is_owned s ≡ true → is_owned (going n s) ≡ true
going_held n Owned h = refl
going_held n (Known now besides) h = h

firm_held : (s : NodeState) → is_owned s ≡ true → is_owned (firm s) ≡ true
firm_held Owned h = refl
firm_held (Known now besides) h = h

folder_held : (s : NodeState) → is_owned s ≡ true → is_owned (with_folder s) ≡ true
folder_held Owned h = refl
folder_held (Known None besides) h = h
folder_held (Known (Some n) besides) h = h

flag_held : (s : NodeState) → is_owned s ≡ true → is_owned (with_flag s) ≡ true
flag_held Owned h = refl
flag_held (Known now besides) h = h

now_held : (n : Option Node) (s : NodeState) → is_owned s ≡ true → is_owned (now_there n s) ≡ true
now_held n Owned h = refl
now_held n (Known now besides) h = h

either : (b : Bool) (s t : NodeState) → (is_owned s ≡ true → is_owned t ≡ true) → is_owned s ≡ true → is_owned (if b then t else s) ≡ true
either true s t more h = more h
either false s t more h = h

stays_held : (call : Call) (left : List Change) (cs : List Child) (q : List ℕ) (s : NodeState) → leaves_children call ≡ true → is_owned s ≡ true → is_owned (node_after call left cs q s) ≡ true
stays_held (Looked p r) left cs q s leaves h = h
stays_held (ReadFile p limit r) left cs q s leaves h = h
stays_held (ReadFolder p r) left cs q s leaves h = h
stays_held (Written p bytes r) left cs q s leaves h = either (bytes_eq q p) s _ (loose_held (standing left q) s) h
stays_held (Created p (Ok made)) left cs q s leaves h = either (made && bytes_eq q p) s _ (loose_held (standing left q) s) h
stays_held (Created p (Err e)) left cs q s leaves h = either (reads_nothing s && bytes_eq q p) s _ (loose_held (standing left q) s) h
stays_held (Removed p r) left cs q s leaves h = either (is_at_or_under q p) s _ (going_held (standing left q) s) h
stays_held (MadeParents p (Ok u)) left cs q s leaves h = either (is_under p q) s _ (folder_held s) h
stays_held (MadeParents p (Err e)) left cs q s leaves h = either (is_some (standing left q) && is_under p q) s _ (folder_held s) h
stays_held (Settled ps (Ok u)) left cs q s leaves h = either (is_within q ps || (is_above q ps && reads_folder s)) s _ (firm_held s) h
stays_held (Settled ps (Err e)) left cs q s leaves h = h
stays_held (Protected p (Ok u)) left cs q s leaves h = either (bytes_eq q p) s _ (flag_held s) h
stays_held (Protected p (Err e)) left cs q s leaves h = either (bytes_eq q p) s _ (λ k. going_held (standing left q) (with_flag s) (flag_held s k)) h
stays_held (Started recipe logs command (Ok number)) left cs q s leaves h = absurd (false≢true leaves)
stays_held (Started recipe logs command (Err e)) left cs q s leaves h = h
stays_held (Waited (Ok ended)) left cs q s leaves h = absurd (false≢true leaves)
stays_held (Waited (Err e)) left cs q s leaves h = h

pub held_after : (w : World) (call : Call) (left : List Change) → leaves_children call ≡ true → children_after call w.children ≡ w.children → IsHeld w → IsHeld (after w (record { call = call; left = left }))
held_after w call left leaves keeps held = λ q h. stays_held call left w.children q (w.nodes q) leaves (held q (subst (λ cs. is_within q (owned_now cs) ≡ true) keeps h))

pub held_put : (w : World) (p : List ℕ) (n : Node) → IsHeld w → IsHeld (step_world w (Put p n))
held_put w p n held = λ q h. go (bytes_eq q p) (is_under p q) (w.nodes q) (held q h)
  where
    go : (b u : Bool) (s : NodeState) → is_owned s ≡ true → is_owned (if b then now_there (Some n) s else (if u then firm (with_folder s) else s)) ≡ true
    go true u s k = now_held (Some n) s k
    go false u s k = either u s (firm (with_folder s)) (λ j. firm_held (with_folder s) (folder_held s j)) k

pub held_gone : (w : World) (p : List ℕ) → IsHeld w → IsHeld (step_world w (Gone p))
held_gone w p held = λ q h. either (is_at_or_under q p) (w.nodes q) (now_there None (w.nodes q)) (now_held None (w.nodes q)) (held q h)

-- ## A start

pub held_started : (w : World) (recipe : Recipe) (logs : List (List ℕ)) (command : List ℕ) (number : ℕ) (left : List Change) → IsHeld w
    → IsHeld (after w (record { call = Started recipe logs command (Ok number); left = left }))
held_started w recipe logs command number left held = λ q h.
    let child : Child = record { number = number; recipe = recipe; logs = logs } in
    go q (is_within q (owned_paths recipe logs)) (sym (own_more q w.children child) ∙ h)
  where
    go : (q : List ℕ) (b : Bool) → (is_within q (owned_now w.children) || b) ≡ true → is_owned (if b then Owned else w.nodes q) ≡ true
    go q true k = refl
    go q false k = elim (or_cases (is_within q (owned_now w.children)) false k) [ inl old ↦ held q old | inr none ↦ absurd (false≢true none) ]

pub alone_more : (cs : List Child) (c : Child) → AllAlone cs → AreAlone (owned_paths c.recipe c.logs) (owned_now cs) → AllAlone (cs ++ c ∷ [])
alone_more [] c all apart = ((λ x h k. never_both false k refl), tt)
alone_more (d ∷ cs) c all apart = (
  (λ x h k.
      elim (or_cases (is_within x (owned_now cs)) (is_within x (owned_paths c.recipe c.logs)) (sym (own_more x cs c) ∙ k)) [
        | inl more ↦ all.0 x h more
        | inr own ↦ apart x own (within_both x (owned_paths d.recipe d.logs) (owned_now cs) ∙ first_or (is_within x (owned_paths d.recipe d.logs)) (is_within x (owned_now cs)) h)
      ]),
  alone_more cs c all.1 (λ x h k. apart x h (within_both x (owned_paths d.recipe d.logs) (owned_now cs) ∙ second_or (is_within x (owned_paths d.recipe d.logs)) (is_within x (owned_now cs)) k)),
)
  where
    first_or : (a b : Bool) → a ≡ true → (a || b) ≡ true
    first_or true b h = refl
    first_or false b h = absurd (false≢true h)

    second_or : (a b : Bool) → b ≡ true → (a || b) ≡ true
    second_or true b h = refl
    second_or false b h = h

-- a place at or under one of these overlaps what it is at or under of those
overlaps_one : (x p : List ℕ) (qs : List (List ℕ)) → is_at_or_under x p ≡ true → is_within x qs ≡ true → list_any (overlaps p) qs ≡ true
overlaps_one x p [] at h = absurd (false≢true h)
overlaps_one x p (q ∷ qs) at h =
    elim (or_cases (is_at_or_under x q) (is_within x qs) h) [
      | inl here ↦ left_or (overlaps p q) (list_any (overlaps p) qs) (overlaps_above_both x p q at here)
      | inr more ↦ right_or (overlaps p q) (list_any (overlaps p) qs) (overlaps_one x p qs at more)
    ]
  where
    left_or : (a b : Bool) → a ≡ true → (a || b) ≡ true
    left_or true b k = refl
    left_or false b k = absurd (false≢true k)

    right_or : (a b : Bool) → b ≡ true → (a || b) ≡ true
    right_or true b k = refl
    right_or false b k = k

overlaps_some : (x : List ℕ) (ps qs : List (List ℕ)) → is_within x ps ≡ true → is_within x qs ≡ true → any_overlap ps qs ≡ true
overlaps_some x [] qs h k = absurd (false≢true h)
overlaps_some x (p ∷ ps) qs h k =
    elim (or_cases (is_at_or_under x p) (is_within x ps) h) [
      | inl here ↦ left_or (list_any (overlaps p) qs) (any_overlap ps qs) (overlaps_one x p qs here k)
      | inr more ↦ right_or (list_any (overlaps p) qs) (any_overlap ps qs) (overlaps_some x ps qs more k)
    ]
  where
    left_or : (a b : Bool) → a ≡ true → (a || b) ≡ true
    left_or true b j = refl
    left_or false b j = absurd (false≢true j)

    right_or : (a b : Bool) → b ≡ true → (a || b) ≡ true
    right_or true b j = refl
    right_or false b j = j

-- what is owned is used
owned_used : (x : List ℕ) (cs : List Child) → is_within x (owned_now cs) ≡ true → is_within x (used_now cs) ≡ true
owned_used x [] h = absurd (false≢true h)
owned_used x (c ∷ cs) h =
    within_both x (in_paths c.recipe ++ owned_paths c.recipe c.logs) (used_now cs)
    ∙ ap (λ b. b || is_within x (used_now cs)) (within_both x (in_paths c.recipe) (owned_paths c.recipe c.logs))
    ∙ go (is_within x (in_paths c.recipe)) (is_within x (owned_paths c.recipe c.logs)) (is_within x (owned_now cs)) (is_within x (used_now cs)) (owned_used x cs) (sym (within_both x (owned_paths c.recipe c.logs) (owned_now cs)) ∙ h)
  where
    go : (a b o u : Bool) → (o ≡ true → u ≡ true) → (b || o) ≡ true → ((a || b) || u) ≡ true
    go true b o u more k = refl
    go false true o u more k = refl
    go false false o u more k = more k

-- what a child that may start owns is no other's
pub alone_when_apart : (ps : List (List ℕ)) (cs : List Child) → any_overlap ps (used_now cs) ≡ false → AreAlone ps (owned_now cs)
alone_when_apart ps cs apart = λ x h k. never_both (any_overlap ps (used_now cs)) (overlaps_some x ps (used_now cs) h (owned_used x cs k)) apart

-- ## An end

within_less : (x : List ℕ) (test : Child → Bool) (cs : List Child) → is_within x (owned_now (filter test cs)) ≡ true → is_within x (owned_now cs) ≡ true
within_less x test [] h = h
within_less x test (c ∷ cs) h = go (test c) (within_less x test cs) h
  where
    either_way : (a b d : Bool) → (b ≡ true → d ≡ true) → (a || b) ≡ true → (a || d) ≡ true
    either_way true b d more k = refl
    either_way false b d more k = more k

    behind : (a d : Bool) → d ≡ true → (a || d) ≡ true
    behind true d k = refl
    behind false d k = k

    go : (b : Bool) → (is_within x (owned_now (filter test cs)) ≡ true → is_within x (owned_now cs) ≡ true) → is_within x (owned_now (cond b (c ∷ filter test cs) (filter test cs))) ≡ true → is_within x (owned_paths c.recipe c.logs ++ owned_now cs) ≡ true
    go true more k =
        within_both x (owned_paths c.recipe c.logs) (owned_now cs)
        ∙ either_way (is_within x (owned_paths c.recipe c.logs)) (is_within x (owned_now (filter test cs))) (is_within x (owned_now cs)) more (sym (within_both x (owned_paths c.recipe c.logs) (owned_now (filter test cs))) ∙ k)
    go false more k = within_both x (owned_paths c.recipe c.logs) (owned_now cs) ∙ behind (is_within x (owned_paths c.recipe c.logs)) (is_within x (owned_now cs)) (more k)

pub alone_less : (test : Child → Bool) (cs : List Child) → AllAlone cs → AllAlone (filter test cs)
alone_less test [] all = tt
alone_less test (c ∷ cs) all = go (test c) (alone_less test cs all.1)
  where
    go : (b : Bool) → AllAlone (filter test cs) → AllAlone (cond b (c ∷ filter test cs) (filter test cs))
    go true ih = ((λ x h k. all.0 x h (within_less x test cs k)), ih)
    go false ih = ih

-- what the child of this number owns is within what all own
by_one : (x : List ℕ) (number : ℕ) (cs : List Child) → is_within x (owned_by number cs) ≡ true → is_within x (owned_now cs) ≡ true
by_one x number [] h = absurd (false≢true h)
by_one x number (c ∷ cs) h = within_both x (owned_paths c.recipe c.logs) (owned_now cs) ∙ go (nat_eq c.number number) (by_one x number cs) h
  where
    here : (a d : Bool) → a ≡ true → (a || d) ≡ true
    here true d k = refl
    here false d k = absurd (false≢true k)

    behind : (a d : Bool) → d ≡ true → (a || d) ≡ true
    behind true d k = refl
    behind false d k = k

    go : (b : Bool) → (is_within x (owned_by number cs) ≡ true → is_within x (owned_now cs) ≡ true) → is_within x (owned_of (if b then Some c else child_numbered number cs)) ≡ true
        → (is_within x (owned_paths c.recipe c.logs) || is_within x (owned_now cs)) ≡ true
    go true more k = here (is_within x (owned_paths c.recipe c.logs)) (is_within x (owned_now cs)) k
    go false more k = behind (is_within x (owned_paths c.recipe c.logs)) (is_within x (owned_now cs)) (more k)

-- what the others own is not this child's
others_alone : (x : List ℕ) (number : ℕ) (cs : List Child) → AllAlone cs → is_within x (owned_by number cs) ≡ true → is_within x (owned_now (filter (λ c. not (nat_eq c.number number)) cs)) ≡ true → ⊥
others_alone x number [] all h k = absurd (false≢true h)
others_alone x number (c ∷ cs) all h k = go (nat_eq c.number number) (others_alone x number cs all.1) h k
  where
    others : List Child
    others = filter (λ c. not (nat_eq c.number number)) cs

    go : (b : Bool) → (is_within x (owned_by number cs) ≡ true → is_within x (owned_now others) ≡ true → ⊥) → is_within x (owned_of (if b then Some c else child_numbered number cs)) ≡ true
        → is_within x (owned_now (cond (not b) (c ∷ others) others)) ≡ true → ⊥
    go true none own more = all.0 x own (within_less x (λ c. not (nat_eq c.number number)) cs more)
    go false none own more =
        elim (or_cases (is_within x (owned_paths c.recipe c.logs)) (is_within x (owned_now others)) (sym (within_both x (owned_paths c.recipe c.logs) (owned_now others)) ∙ more)) [
          | inl first ↦ all.0 x first (by_one x number cs own)
          | inr rest ↦ none own rest
        ]

pub held_waited : (w : World) (ended : Ended) (left : List Change) → AllAlone w.children → IsHeld w → IsHeld (after w (record { call = Waited (Ok ended); left = left }))
held_waited w ended left all held = λ q h. go q (is_within q (owned_by ended.number w.children)) refl h
  where
    go : (q : List ℕ) (b : Bool) → is_within q (owned_by ended.number w.children) ≡ b → is_within q (owned_now (filter (λ c. not (nat_eq c.number ended.number)) w.children)) ≡ true → is_owned (if b then Known (standing left q) Anything else w.nodes q) ≡ true
    go q true e h = absurd (others_alone q ended.number w.children all e h)
    go q false e h = held q (within_less q (λ c. not (nat_eq c.number ended.number)) w.children h)

-- ## The tree

reads_known : (s : NodeState) → IsSome (reading s) → is_owned s ≡ false
reads_known Owned h = absurd (never_both false h refl)
reads_known (Known now besides) h = refl

seen_some : (n : Option Node) (s : NodeState) → seen n s ≡ n → IsSome (reading s) → IsSome n
seen_some n Owned same h = absurd (never_both false h refl)
seen_some n (Known now besides) same h = sym (ap is_some same) ∙ h

folder_seen : (n : Option Node) (s : NodeState) → seen n s ≡ n → n ≡ Some Directory → (s ≡ Owned → ⊥) → reading s ≡ Some Directory
folder_seen n Owned same is own = absurd (own refl)
folder_seen n (Known now besides) same is own = same ∙ is

-- a world that nodes in folders agree with is a tree
pub tree_seen : (nodes : Nodes) (w : World) → AgreesWith nodes w → HasOwners w → IsHeld w → AreInFolders (node_at nodes) → IsTree w
tree_seen nodes w agrees owners held rooted = λ q some.
    let off : is_within q (owned_now w.children) ≡ false = false_unless (is_within q (owned_now w.children)) (λ e. never_both (is_owned (w.nodes q)) (held q e) (reads_known (w.nodes q) some)) in
    let there : CanHold (node_at nodes) q = rooted q (seen_some (node_at nodes q) (w.nodes q) (agrees q) some) in record {
      folders = λ f u. folder_seen (node_at nodes f) (w.nodes f) (agrees f) (there.folders f u) (λ own. never_both (is_within q (owned_now w.children)) (within_under q f (owned_now w.children) u (owners f own)) off);
      named = there.named;
    }
