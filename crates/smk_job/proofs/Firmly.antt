-- Once they are made and settled, the marks and notes are firm, and stay so while room is made for the outputs.
use Rattle.std.proofs.Common.{◌≡◌, inl, inr, cond, Bool, true, false, ◌||◌, List, [], ◌∷◌, ◌++◌, refl, sym, ap, subst, ◌∙◌, Some, None, bytes_eq, Ok, Err, true≢false}
use Rattle.std.proofs.lemmas.Bool.{cases_Bool}
use Rattle.smk_base.specs.Path.{is_path, is_under, is_at_or_under}
use Rattle.smk_base.specs.declared.tree.Tree.{Tree}
use Rattle.smk_base.proofs.Places.{same_place}
use Rattle.smk_base.proofs.Under.{never_both, or_first, or_cases, at_itself}
use Rattle.smk_base.proofs.Apart.{IsApart}
use Rattle.smk_world.specs.declared.event.Node.{Node}
use Rattle.smk_world.specs.declared.event.NodeState.{NodeState}
use Rattle.smk_world.specs.declared.event.NodeState.TheVariants.{Owned, Known}
use Rattle.smk_world.specs.declared.event.Child.{Child}
use Rattle.smk_world.specs.declared.event.Call.{Call}
use Rattle.smk_world.specs.declared.event.Call.TheVariants.{Looked, ReadFile, ReadFolder, Written, Created, Removed, MadeParents, Settled, Protected, Started, Waited}
use Rattle.smk_world.specs.declared.event.Change.{Change}
use Rattle.smk_world.specs.declared.recipe.Recipe.{Recipe}
use Rattle.smk_world.specs.World.{World, node_after, is_within, with_folder, firmly, owned_paths, in_paths}
use Rattle.smk_world.specs.Calls.{Acted, Stands, HasOwners, owned_now, used_now, failed}
use Rattle.smk_world.specs.Requests.{Request, request}
use Rattle.smk_world.specs.Requests.Request.{Create, MakeParents, Settle}
use Rattle.smk_world.specs.Trees.{Path, Each, IsIn}
use Rattle.smk_store.specs.declared.places.JobPlaces.{JobPlaces}
use Rattle.smk_store.specs.Steps.{make_each, remove_each, mark_requests}
use Rattle.smk_job.specs.Jobs.{parents_each, clear_requests, ReadUsers}
use Rattle.smk_job.proofs.Single.{KeepsOff, Stepped, Reaches, step_keeps, IsKnown, step_known, created, settled_firm, firmly_some}

pub reaches_split : (act : Recipe → List Tree → Acted) (rs qs : List Request) (w v : World) → Reaches act (rs ++ qs) w v → (u : World) × Reaches act rs w u × Reaches act qs u v
reaches_split act [] qs w v h = (w, refl, h)
reaches_split act (r ∷ rs) qs w v (x, st, more) = let rest = reaches_split act rs qs x v more in (rest.0, (x, st, rest.1), rest.2)

pub reaches_keeps : (act : Recipe → List Tree → Acted) (rs : List Request) (w v : World) (q : Path) → Reaches act rs w v → KeepsOff rs q → v.nodes q ≡ w.nodes q
reaches_keeps act [] w v q h k = ap (λ x. x.nodes q) h
reaches_keeps act (r ∷ rs) w v q (u, st, more) k = reaches_keeps act rs u v q more k.1 ∙ step_keeps act r w u q st k.0

-- ## Making a place leaves what stands

known_stands : (s : NodeState) → Stands s → IsKnown s
known_stands Owned h = absurd h
known_stands (Known now besides) h = tt

parents_by : (call : Call) (left : List Change) (cs : List Child) (p q : Path) (s : NodeState)
    → request call ≡ MakeParents p → failed call ≡ false → Stands s → Stands (node_after call left cs q s)
parents_by (MadeParents x (Ok u)) left cs p q s is quiet there = there_if (is_under x q) s there
  where
    there_if : (b : Bool) (s : NodeState) → Stands s → Stands (cond b (with_folder s) s)
    there_if true Owned h = absurd h
    there_if true (Known None besides) h = absurd h
    there_if true (Known (Some n) besides) h = tt
    there_if false s h = h
parents_by (MadeParents x (Err e)) left cs p q s is quiet there = absurd (true≢false quiet)
parents_by (Looked x r) left cs p q s is quiet there = cc
parents_by (ReadFile x limit r) left cs p q s is quiet there = cc
parents_by (ReadFolder x r) left cs p q s is quiet there = cc
parents_by (Written x bytes r) left cs p q s is quiet there = cc
parents_by (Created x r) left cs p q s is quiet there = cc
parents_by (Removed x r) left cs p q s is quiet there = cc
parents_by (Settled xs r) left cs p q s is quiet there = cc
parents_by (Protected x r) left cs p q s is quiet there = cc
parents_by (Started recipe logs command r) left cs p q s is quiet there = cc
parents_by (Waited r) left cs p q s is quiet there = cc

pub stands_parents : (act : Recipe → List Tree → Acted) (p q : Path) (w v : World) → Stepped act (MakeParents p) w v → Stands (w.nodes q) → Stands (v.nodes q)
stands_parents act p q w v st there = subst (λ x. Stands (x.nodes q)) (sym st.now) (parents_by st.event.call st.event.left w.children p q (w.nodes q) st.is st.quiet there)

pub stands_created : (act : Recipe → List Tree → Acted) (p q : Path) (w v : World) → Stepped act (Create p) w v → Stands (w.nodes q) → Stands (v.nodes q)
stands_created act p q w v st there = elim (cases_Bool (bytes_eq q p)) [
  | inl e ↦ subst (λ x. Stands (v.nodes x)) (sym (same_place q p e)) (created act p w v st (subst (λ x. IsKnown (w.nodes x)) (same_place q p e) (known_stands (w.nodes q) there)))
  | inr e ↦ subst Stands (sym (step_keeps act (Create p) w v q st e)) there
]

stands_made : (act : Recipe → List Tree → Acted) (ps : List Path) (q : Path) (w v : World) → Reaches act (make_each ps) w v → Stands (w.nodes q) → Stands (v.nodes q)
stands_made act [] q w v h there = subst (λ x. Stands (x.nodes q)) (sym h) there
stands_made act (p ∷ ps) q w v (a, s1, (b, s2, more)) there = stands_made act ps q b v more (stands_created act p q a b s2 (stands_parents act p q w a s1 there))

-- each place that was made stands
pub all_made : (act : Recipe → List Tree → Acted) (ps : List Path) (w v : World) → Reaches act (make_each ps) w v → Each (λ p. IsKnown (w.nodes p)) ps → Each (λ p. Stands (v.nodes p)) ps
all_made act [] w v h known = tt
all_made act (p ∷ ps) w v (a, s1, (b, s2, more)) known = (
  stands_made act ps p b v more (created act p a b s2 (step_known act (MakeParents p) w a p s1 refl known.0)),
  all_made act ps b v more (each_known ps known.1),
)
  where
    each_known : (qs : List Path) → Each (λ q. IsKnown (w.nodes q)) qs → Each (λ q. IsKnown (b.nodes q)) qs
    each_known [] k = tt
    each_known (q ∷ qs) k = (step_known act (Create p) a b q s2 refl (step_known act (MakeParents p) w a q s1 refl k.0), each_known qs k.1)

abbrev pub IsFirmThere : World → Path → Type 0
IsFirmThere w p = (n : Node) × (w.nodes p ≡ firmly (Some n))

within_first : (p : Path) (ps : List Path) → is_within p (p ∷ ps) ≡ true
within_first p ps = or_first (is_at_or_under p p) (is_within p ps) (at_itself p)

-- what stands is firm once it is settled
pub all_firm : (act : Recipe → List Tree → Acted) (all ps : List Path) (w v : World) → Stepped act (Settle all) w v → ((p : Path) → IsIn ps p → is_within p all ≡ true) → Each (λ p. Stands (w.nodes p)) ps → Each (IsFirmThere v) ps
all_firm act all [] w v st among there = tt
all_firm act all (p ∷ ps) w v st among there =
    let n = firmly_some (w.nodes p) there.0 in
    ((n.0, settled_firm act all w v p st (among p (inl refl)) ∙ n.1), all_firm act all ps w v st (λ q i. among q (inr i)) there.1)

pub in_within : (ps : List Path) (p : Path) → IsIn ps p → is_within p ps ≡ true
in_within [] p i = absurd i
in_within (q ∷ ps) p (inl e) = subst (λ x. is_within p (x ∷ ps) ≡ true) e (within_first p ps)
in_within (q ∷ ps) p (inr i) = or_then (is_at_or_under p q) (is_within p ps) (in_within ps p i)
  where
    or_then : (a b : Bool) → b ≡ true → (a || b) ≡ true
    or_then true b h = refl
    or_then false b h = h

-- the marks and notes are firm
pub marked_firm : (act : Recipe → List Tree → Acted) (places : JobPlaces) (w v : World) → Reaches act (mark_requests places) w v → Each (λ p. IsKnown (w.nodes p)) places.marking → Each (IsFirmThere v) places.marking
marked_firm act places w v h known =
    let parts = reaches_split act (make_each places.marking) (Settle places.marking ∷ []) w v h in
    let there = all_made act places.marking w parts.0 parts.1 known in
    subst (λ x. Each (IsFirmThere x) places.marking) (sym parts.2.2)
    (all_firm act places.marking places.marking parts.0 parts.2.0 parts.2.1 (in_within places.marking) there)

-- ## Making room leaves the engine's own places

abbrev pub AreOff : List Path → Path → Type 0
AreOff ps q = Each (λ p. IsApart p q) ps

pub remove_off : (ps : List Path) (q : Path) → AreOff ps q → KeepsOff (remove_each ps) q
remove_off [] q h = tt
remove_off (p ∷ ps) q h = (h.0.at_or_over, remove_off ps q h.1)

pub parents_off : (ps : List Path) (q : Path) → AreOff ps q → KeepsOff (parents_each ps) q
parents_off [] q h = tt
parents_off (p ∷ ps) q h = (h.0.under, parents_off ps q h.1)

pub keeps_append : (rs qs : List Request) (q : Path) → KeepsOff rs q → KeepsOff qs q → KeepsOff (rs ++ qs) q
keeps_append [] qs q h k = k
keeps_append (r ∷ rs) qs q h k = (h.0, keeps_append rs qs q h.1 k)

pub clear_off : (outputs owned : List Path) (q : Path) → AreOff outputs q → AreOff owned q → KeepsOff (clear_requests outputs owned) q
clear_off outputs owned q h k = keeps_append (remove_each outputs) (parents_each owned) q (remove_off outputs q h) (parents_off owned q k)

-- ## The engine's own places are known

used_in : (cs : List Child) → Each (λ p. is_path p ≡ true) (used_now cs) → Each (λ p. is_path p ≡ true) (owned_now cs)
used_in [] h = tt
used_in (c ∷ cs) h =
    let both = split (in_paths c.recipe ++ owned_paths c.recipe c.logs) (used_now cs) h in
    join (owned_paths c.recipe c.logs) (owned_now cs) (split (in_paths c.recipe) (owned_paths c.recipe c.logs) both.0).1 (used_in cs both.1)
  where
    split : (ps qs : List Path) → Each (λ p. is_path p ≡ true) (ps ++ qs) → Each (λ p. is_path p ≡ true) ps × Each (λ p. is_path p ≡ true) qs
    split [] qs h = (tt, h)
    split (p ∷ ps) qs h = let more = split ps qs h.1 in ((h.0, more.0), more.1)

    join : (ps qs : List Path) → Each (λ p. is_path p ≡ true) ps → Each (λ p. is_path p ≡ true) qs → Each (λ p. is_path p ≡ true) (ps ++ qs)
    join [] qs h k = k
    join (p ∷ ps) qs h k = (h.0, join ps qs h.1 k)

never_within : (ps : List Path) (q : Path) → ((p : Path) → is_path p ≡ true → IsApart p q) → Each (λ p. is_path p ≡ true) ps → is_within q ps ≡ true → ⊥
never_within [] q apart h within = true≢false (sym within)
never_within (p ∷ ps) q apart h within = elim (or_cases (is_at_or_under q p) (is_within q ps) within) [
  | inl at ↦ never_both (is_at_or_under q p) at (apart p h.0).at_or_over
  | inr more ↦ never_within ps q apart h.1 more
]

pub known_own : (w : World) (q : Path) → HasOwners w → ReadUsers w → ((p : Path) → is_path p ≡ true → IsApart p q) → IsKnown (w.nodes q)
known_own w q owners users apart = known_else (w.nodes q) (λ e. never_within (owned_now w.children) q apart (used_in w.children users) (owners q e))
  where
    known_else : (s : NodeState) → (s ≡ Owned → ⊥) → IsKnown s
    known_else Owned never = absurd (never refl)
    known_else (Known now besides) never = tt
