-- What a crash leaves by a choice may be left, and is told by the steps.
use Rattle.std.proofs.Common.{◌≡◌, ◌⊎◌, inl, inr, ℕ, Bool, true, false, ◌||◌, ◌&&◌, ◌==◌, List, [], ◌∷◌, ◌++◌, map, refl, ap, sym, ◌∙◌, Option, Some, None, Ok, Err, bytes_eq}
use Rattle.std.specs.Prelude.{if◌then◌else◌, nat_eq}
use Rattle.std.proofs.lemmas.Bool.{eqb-true, eq-eqb}
use Rattle.std.proofs.lemmas.Map.Text.{is_eq-slice_cmp}
use Rattle.std.proofs.Math.Bool.{or-false, or_assoc, and-false}
use Rattle.std.specs.Cmp.Lexicographic.{slice_cmp}
use Rattle.std.specs.Ordering.{nat_cmp, is_eq}
use Rattle.std.specs.declared.cmp.Ordering.{Ordering}
use Rattle.std.specs.declared.cmp.Ordering.TheVariants.{Less, Equal, Greater}
use Rattle.smk_base.specs.Path.{is_under}
use Rattle.smk_base.proofs.Places.{same_place}
use Rattle.smk_world.specs.declared.event.Node.{Node}
use Rattle.smk_world.specs.declared.event.Node.TheVariants.{Regular, Directory}
use Rattle.smk_world.specs.declared.event.Besides.TheVariants.{Anything, OneOf}
use Rattle.smk_world.specs.declared.event.NodeState.{NodeState}
use Rattle.smk_world.specs.declared.event.NodeState.TheVariants.{Owned, Known}
use Rattle.smk_world.specs.declared.event.Call.{Call}
use Rattle.smk_world.specs.declared.event.Call.TheVariants.{Looked, ReadFile, ReadFolder, Written, Created, Removed, MadeParents, Settled, Protected, Started, Waited}
use Rattle.smk_world.specs.declared.event.Change.{Change}
use Rattle.smk_world.specs.declared.event.Child.{Child}
use Rattle.smk_world.specs.World.{World, MayLeave, IsOneOf, reading, firmly, is_named, name_placed, add_name, add_names, folders_above, made_folders, node_after}
use Rattle.smk_world.specs.Calls.{owned_now}
use Rattle.smk_world_nodes.specs.Steps.{step_world, replay, empty_world}
use Rattle.smk_world_nodes.specs.declared.step.Step.{Step}
use Rattle.smk_world_nodes.specs.declared.step.Step.TheVariants.{Happened, Put, Gone}
use Rattle.smk_world_crash.specs.declared.choice.Choice.{Choice}
use Rattle.smk_world_crash.specs.declared.choice.Choice.TheVariants.{Least, Reading, Mixed}
use Rattle.smk_world_crash.specs.Crash.{lesser, least_of, least, first_node, mixed, left_at, left_in, left_by, reached_by, moved_by, reached, moved, children_then, all_reached, state_by, names_by, all_names}

-- ## What may be left

lesser_one : (n m : Option Node) → (lesser n m ≡ n) ⊎ (lesser n m ≡ m)
lesser_one None m = inl refl
lesser_one (Some n) None = inr refl
lesser_one (Some (Regular bytes time true)) (Some m) = inr refl
lesser_one (Some (Regular bytes time false)) (Some m) = inl refl
lesser_one (Some Directory) (Some m) = inl refl

least_one : (n : Option Node) (ms : List (Option Node)) → (least_of n ms ≡ n) ⊎ IsOneOf ms (least_of n ms)
least_one n [] = inl refl
least_one n (m ∷ ms) =
    elim (least_one (lesser n m) ms) [
      | inl here ↦ elim (lesser_one n m) [ inl e ↦ inl (here ∙ e) | inr e ↦ inr (inl (here ∙ e)) ]
      | inr more ↦ inr (inr more)
    ]

first_one : (ns : List (Option Node)) → (first_node ns ≡ None) ⊎ IsOneOf ns (first_node ns)
first_one [] = inl refl
first_one (None ∷ ns) = elim (first_one ns) [ inl e ↦ inl e | inr more ↦ inr (inr more) ]
first_one (Some n ∷ ns) = inr (inl refl)

may_be_least : (s : NodeState) → MayLeave s (least s)
may_be_least Owned = tt
may_be_least (Known now Anything) = inr tt
may_be_least (Known now (OneOf ns)) = least_one now ns

may_be_mixed : (writes : Bool) (s : NodeState) → MayLeave s (mixed writes s)
may_be_mixed writes Owned = tt
may_be_mixed writes (Known now Anything) = inr tt
may_be_mixed writes (Known None (OneOf ns)) = first_one ns
may_be_mixed writes (Known (Some n) (OneOf ns)) = inl refl

pub may_read : (s : NodeState) (n : Option Node) → n ≡ reading s → MayLeave s n
may_read Owned n h = tt
may_read (Known now besides) n h = inl h

pub may_be_left : (choice : Choice) (writes : Bool) (s : NodeState) → MayLeave s (left_at choice writes s)
may_be_left Least writes s = may_be_least s
may_be_left Reading writes s = may_read s (reading s) refl
may_be_left Mixed writes s = may_be_mixed writes s

-- ## Names

twice : (a b : Bool) → (a || (a || b)) ≡ (a || b)
twice true b = refl
twice false b = refl

swap : (a b c : Bool) → (a || (b || c)) ≡ (b || (a || c))
swap true true c = refl
swap true false c = refl
swap false b c = refl

turn : (a b c : Bool) → (a || (b || c)) ≡ (c || (a || b))
turn true b true = refl
turn true b false = refl
turn false true true = refl
turn false true false = refl
turn false false true = refl
turn false false false = refl

change : (a b : Bool) → (a || b) ≡ (b || a)
change true true = refl
change true false = refl
change false true = refl
change false false = refl

named_add : (r q : List ℕ) (ps : List (List ℕ)) → is_named r (add_name q ps) ≡ (bytes_eq r q || is_named r ps)
named_add r q [] = refl
named_add r q (p ∷ ps) = placed (slice_cmp nat_cmp q p) refl (named_add r q ps)
  where
    placed : (o : Ordering) → slice_cmp nat_cmp q p ≡ o → is_named r (add_name q ps) ≡ (bytes_eq r q || is_named r ps) → is_named r (name_placed o q p ps (add_name q ps)) ≡ (bytes_eq r q || (bytes_eq r p || is_named r ps))
    placed Less e ih = refl
    placed Equal e ih =
        let same : q ≡ p = same_place q p (sym (is_eq-slice_cmp q p) ∙ ap is_eq e) in
        sym (ap (λ t. bytes_eq r t || (bytes_eq r p || is_named r ps)) same ∙ twice (bytes_eq r p) (is_named r ps))
    placed Greater e ih = ap (λ b. bytes_eq r p || b) ih ∙ swap (bytes_eq r p) (bytes_eq r q) (is_named r ps)

named_adds : (r : List ℕ) (qs ps : List (List ℕ)) → is_named r (add_names qs ps) ≡ (is_named r qs || is_named r ps)
named_adds r [] ps = refl
named_adds r (q ∷ qs) ps = named_add r q (add_names qs ps) ∙ ap (λ b. bytes_eq r q || b) (named_adds r qs ps) ∙ sym (or_assoc (bytes_eq r q) (is_named r qs) (is_named r ps))

pub named_both : (r : List ℕ) (ps qs : List (List ℕ)) → is_named r (ps ++ qs) ≡ (is_named r ps || is_named r qs)
named_both r [] qs = refl
named_both r (p ∷ ps) qs = ap (λ b. bytes_eq r p || b) (named_both r ps qs) ∙ sym (or_assoc (bytes_eq r p) (is_named r ps) (is_named r qs))

named_by_step : (r : List ℕ) (w : World) (s : Step) → is_named r (step_world w s).names ≡ (is_named r w.names || is_named r (names_by s))
named_by_step r w (Happened e) =
    let places = map (λ (c : Change). c.place) e.left in
    named_adds r places (add_names (made_folders e.call) w.names)
    ∙ ap (λ b. is_named r places || b) (named_adds r (made_folders e.call) w.names)
    ∙ turn (is_named r places) (is_named r (made_folders e.call)) (is_named r w.names)
    ∙ ap (λ b. is_named r w.names || b) (sym (named_both r places (made_folders e.call)))
named_by_step r w (Put p n) = named_adds r (p ∷ folders_above p) w.names ∙ change (is_named r (p ∷ folders_above p)) (is_named r w.names)
named_by_step r w (Gone p) = sym (or-false (is_named r w.names))

named_by_steps : (r : List ℕ) (w : World) (ss : List Step) → is_named r (replay w ss).names ≡ (is_named r w.names || is_named r (all_names ss))
named_by_steps r w [] = sym (or-false (is_named r w.names))
named_by_steps r w (s ∷ ss) =
    named_by_steps r (step_world w s) ss
    ∙ ap (λ b. b || is_named r (all_names ss)) (named_by_step r w s)
    ∙ or_assoc (is_named r w.names) (is_named r (names_by s)) (is_named r (all_names ss))
    ∙ ap (λ b. is_named r w.names || b) (sym (named_both r (names_by s) (all_names ss)))

-- ### The folders above a place

none_deeper : (b : ℕ) (fs : List (List ℕ)) → is_named [] (map (λ r. b ∷ r) fs) ≡ false
none_deeper b [] = refl
none_deeper b (f ∷ fs) = none_deeper b fs

flip : (b c : ℕ) → nat_eq c b ≡ nat_eq b c
flip b c =
    elim (nat_eq b c) as (λ v. nat_eq b c ≡ v → nat_eq c b ≡ v) [
      | true ↦ λ e. eq-eqb c b (sym (eqb-true b c e))
      | false ↦ λ e. elim (nat_eq c b) as (λ v. nat_eq c b ≡ v → v ≡ false) [ true ↦ λ f. sym (eq-eqb b c (sym (eqb-true c b f))) ∙ e | false ↦ λ f. refl ] refl
    ] refl

apart : (v a b : Bool) → ((v && a) || (v && b)) ≡ (v && (a || b))
apart true a b = refl
apart false a b = refl

named_deeper : (b c : ℕ) (q : List ℕ) (fs : List (List ℕ)) → is_named (c ∷ q) (map (λ r. b ∷ r) fs) ≡ (nat_eq b c && is_named q fs)
named_deeper b c q [] = sym (and-false (nat_eq b c))
named_deeper b c q (f ∷ fs) =
    ap (λ v. (v && bytes_eq q f) || is_named (c ∷ q) (map (λ r. b ∷ r) fs)) (flip b c)
    ∙ ap (λ v. (nat_eq b c && bytes_eq q f) || v) (named_deeper b c q fs)
    ∙ apart (nat_eq b c) (bytes_eq q f) (is_named q fs)

pub named_above : (p q : List ℕ) → is_named q (folders_above p) ≡ is_under p q
named_above [] q = refl
named_above (b ∷ p) [] = slash (b == 47)
  where
    slash : (v : Bool) → is_named [] (if v then [] ∷ map (λ r. b ∷ r) (folders_above p) else map (λ r. b ∷ r) (folders_above p)) ≡ v
    slash true = refl
    slash false = none_deeper b (folders_above p)
named_above (b ∷ p) (c ∷ q) = slash (b == 47) ∙ named_deeper b c q (folders_above p) ∙ ap (λ v. nat_eq b c && v) (named_above p q)
  where
    slash : (v : Bool) → is_named (c ∷ q) (if v then [] ∷ map (λ r. b ∷ r) (folders_above p) else map (λ r. b ∷ r) (folders_above p)) ≡ is_named (c ∷ q) (map (λ r. b ∷ r) (folders_above p))
    slash true = refl
    slash false = refl

-- ## States

moved_call : (call : Call) (left : List Change) (cs : List Child) (q : List ℕ) (s : NodeState) → moved_by call left (reached_by call cs) q s ≡ node_after call left cs q s
moved_call (Looked p r) left cs q s = refl
moved_call (ReadFile p limit r) left cs q s = refl
moved_call (ReadFolder p r) left cs q s = refl
moved_call (Written p bytes r) left cs q s = refl
moved_call (Created p (Ok made)) left cs q s = refl
moved_call (Created p (Err e)) left cs q s = refl
moved_call (Removed p r) left cs q s = refl
moved_call (MadeParents p (Ok u)) left cs q s = refl
moved_call (MadeParents p (Err e)) left cs q s = refl
moved_call (Settled ps (Ok u)) left cs q s = refl
moved_call (Settled ps (Err e)) left cs q s = refl
moved_call (Protected p (Ok u)) left cs q s = refl
moved_call (Protected p (Err e)) left cs q s = refl
moved_call (Started recipe logs command (Ok number)) left cs q s = refl
moved_call (Started recipe logs command (Err e)) left cs q s = refl
moved_call (Waited (Ok ended)) left cs q s = refl
moved_call (Waited (Err e)) left cs q s = refl

moved_step : (q : List ℕ) (w : World) (s : Step) → moved s (reached s w.children) q (w.nodes q) ≡ (step_world w s).nodes q
moved_step q w (Happened e) = moved_call e.call e.left w.children q (w.nodes q)
moved_step q w (Put p n) = refl
moved_step q w (Gone p) = refl

children_step : (w : World) (s : Step) → children_then s w.children ≡ (step_world w s).children
children_step w (Happened e) = refl
children_step w (Put p n) = refl
children_step w (Gone p) = refl

state_by_steps : (q : List ℕ) (w : World) (ss : List Step) → state_by q (w.nodes q) ss (all_reached w.children ss) ≡ (replay w ss).nodes q
state_by_steps q w [] = refl
state_by_steps q w (s ∷ ss) =
    ap (λ t. state_by q t ss (all_reached (children_then s w.children) ss)) (moved_step q w s)
    ∙ ap (λ cs. state_by q ((step_world w s).nodes q) ss (all_reached cs ss)) (children_step w s)
    ∙ state_by_steps q (step_world w s) ss

-- ## What is left

pub left_same : (choice : Choice) (children : List Child) (steps : List Step) (q : List ℕ) → (replay empty_world steps).children ≡ children → left_by choice children steps q ≡ left_in choice (replay empty_world steps) q
left_same choice children steps q same =
    let w = replay empty_world steps in
    let names : is_named q (all_names steps) ≡ is_named q w.names = sym (named_by_steps q empty_world steps) in
    ap (λ cs. left_by choice cs steps q) (sym same)
    ∙ ap (λ b. if is_named q (owned_now w.children) || b then left_at choice (is_named q (owned_now w.children)) (state_by q (firmly None) steps (all_reached [] steps)) else None) names
    ∙ ap (λ s. if is_named q (owned_now w.children) || is_named q w.names then left_at choice (is_named q (owned_now w.children)) s else None) (state_by_steps q empty_world steps)
    ∙ ap (λ b. if b then left_at choice (is_named q (owned_now w.children)) (w.nodes q) else None) (sym (named_both q (owned_now w.children) w.names))

-- one place more of what is kept by a function of places
pub one_more : (q p : List ℕ) (ps more : List (List ℕ)) (f : List ℕ → Option Node) (n1 n2 : Option Node) → more ≡ ps ++ p ∷ []
    → n1 ≡ (if is_named q ps then f q else None) → n2 ≡ (if bytes_eq q p then f p else n1) → n2 ≡ (if is_named q more then f q else None)
one_more q p ps more f n1 n2 is one two =
    two ∙ ap (λ n. if bytes_eq q p then f p else n) one ∙ go (bytes_eq q p) refl (is_named q ps)
    ∙ ap (λ b. if b then f q else None) (sym (ap (is_named q) is ∙ named_both q ps (p ∷ []) ∙ ap (λ b. is_named q ps || b) (or-false (bytes_eq q p))))
  where
    go : (b : Bool) → bytes_eq q p ≡ b → (c : Bool) → (if b then f p else (if c then f q else None)) ≡ (if c || b then f q else None)
    go true e true = ap f (sym (same_place q p e))
    go true e false = ap f (sym (same_place q p e))
    go false e true = refl
    go false e false = refl
