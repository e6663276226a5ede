-- Since a job was closed nothing has changed but which files are read-only at its outputs, once these were guarded and the folder looked at.
use Rattle.std.proofs.Common.{◌≡◌, Bool, true, false, ◌&&◌, ◌||◌, List, [], ◌∷◌, map, Some}
use Rattle.std.proofs.Common.{None, Result, Ok, Err, is_ok, refl, sym, ap, subst, ◌∙◌, bytes_eq, true≢false}
use Rattle.std.specs.Prelude.{if◌then◌else◌}
use Rattle.smk_base.specs.Path.{is_at_or_under, is_path, overlaps}
use Rattle.smk_base.specs.Place.{mark_place}
use Rattle.smk_base.proofs.Apart.{IsApart, apart_unless, path-mark}
use Rattle.smk_base.proofs.Under.{never_both}
use Rattle.smk_world.specs.declared.event.Call.{Call}
use Rattle.smk_world.specs.declared.event.Call.TheVariants.{Looked, ReadFile, ReadFolder, Written, Created}
use Rattle.smk_world.specs.declared.event.Call.TheVariants.{Removed, MadeParents, Settled, Protected, Started, Waited}
use Rattle.smk_world.specs.declared.event.Change.{Change}
use Rattle.smk_world.specs.declared.event.Event.{Event}
use Rattle.smk_world.specs.declared.event.Node.TheVariants.{Directory, Regular}
use Rattle.smk_world.specs.declared.event.NodeState.{NodeState}
use Rattle.smk_world.specs.declared.event.NodeState.TheVariants.{Owned, Known}
use Rattle.smk_world.specs.Calls.{Lets, failed}
use Rattle.smk_world.specs.Requests.{HasDone, Request, request}
use Rattle.smk_world.specs.Requests.Request.{Look, ReadUpTo, ListFolder, Write, Create, Remove, MakeParents, Settle, Protect, Start, Wait}
use Rattle.smk_world.specs.Runs.{Follows}
use Rattle.smk_world.specs.Trees.{Act, Each, IsIn, Path}
use Rattle.smk_world.specs.World.{World, IsFormed, add_names, after, firm, is_above, is_within, out_paths, reading, reads_folder, run, with_flag}
use Rattle.smk_world.proofs.Runs.{run_append}
use Rattle.smk_flow.specs.declared.job.Job.{Job}
use Rattle.smk_laws_plan.proofs.CurrentLists.{in_left}
use Rattle.smk_keep.specs.Keeping.{protect_each, protect_requests}
use Rattle.smk_keep.specs.declared.fault.KeepFault.{KeepFault}
use Rattle.smk_run.proofs.Calls.{EachCall, each_append}
use Rattle.smk_plan.specs.declared.seen.Sight.{Sight}
use Rattle.smk_plan.specs.Sights.{is_guarded}
use Rattle.smk_drive.specs.Moments.{Rules, seen}
use Rattle.smk_drive_course.specs.Stands.{Stand}
use Rattle.smk_drive_course.specs.Steps.{Deed, GuardingFails, HasGuarded, IsTended, LooksFail, Tended, Unguarded}
use Rattle.smk_laws_protocol.proofs.Basics.{each_in}
use Rattle.smk_laws_moments.proofs.LooksLike.{like_looks}
use Rattle.smk_laws_moments.proofs.Spots.{overlaps_above}
use Rattle.smk_laws_turns.proofs.Places.{same_is_seen}
use Rattle.smk_laws_turns.specs.Hubs.{IsAt, Parts}
use Rattle.smk_laws_turns.proofs.Apart.{owned_is_path}
use Rattle.smk_laws_turns.specs.Guarded.{IsGuardedSince, bare_node}
use Rattle.smk_laws_turns.proofs.ClosedCalls.{IsOf, all_keep}
use Rattle.smk_laws_turns.proofs.Touched.{AreAmong}
use Rattle.smk_laws_turns.proofs.FolderClosing.{follows_split}

-- the same stands where but for the flags, and the same children run
pub record IsSameBare (v x : World) : Type 0 where
  pub names : x.names ≡ v.names
  pub nodes : (q : Path) → bare_node (reading (x.nodes q)) ≡ bare_node (reading (v.nodes q))
  pub children : x.children ≡ v.children

same_then : (v x y : World) → IsSameBare v x → IsSameBare x y → IsSameBare v y
same_then v x y a b = record { names = b.names ∙ a.names; nodes = λ q. b.nodes q ∙ a.nodes q; children = b.children ∙ a.children }

-- an output is made read-only, or some are made firm
abbrev IsGuard : Request → Type 0
IsGuard (Look p) = ⊥
IsGuard (ReadUpTo p limit) = ⊥
IsGuard (ListFolder p) = ⊥
IsGuard (Write p bytes) = ⊥
IsGuard (Create p) = ⊥
IsGuard (Remove p) = ⊥
IsGuard (MakeParents p) = ⊥
IsGuard (Settle ps) = Unit {0}
IsGuard (Protect p) = Unit {0}
IsGuard (Start recipe logs command) = ⊥
IsGuard Wait = ⊥

flag_bare : (s : NodeState) → bare_node (reading (with_flag s)) ≡ bare_node (reading s)
flag_bare Owned = refl
flag_bare (Known None besides) = refl
flag_bare (Known (Some Directory) besides) = refl
flag_bare (Known (Some (Regular bytes time read_only)) besides) = refl

firm_bare : (s : NodeState) → bare_node (reading (firm s)) ≡ bare_node (reading s)
firm_bare Owned = refl
firm_bare (Known now besides) = refl

either_bare : (b : Bool) (s t : NodeState) → bare_node (reading t) ≡ bare_node (reading s) → bare_node (reading (if b then t else s)) ≡ bare_node (reading s)
either_bare true s t h = h
either_bare false s t h = refl

abbrev with_changes : World → List Change → List Path
with_changes v left = add_names (map (λ (c : Change). c.place) left) v.names

one_guard :
    (act : Act) (v : World) (call : Call) (left : List Change) → IsGuard (request call) → failed call ≡ false → Lets act v call left →
    IsSameBare v (after v (record { call = call; left = left }))
one_guard act v (Protected p (Ok u)) left is ok lets =
    record {
      names = ap (with_changes v) lets;
      nodes = λ q. either_bare (bytes_eq q p) (v.nodes q) (with_flag (v.nodes q)) (flag_bare (v.nodes q));
      children = refl;
    }
one_guard act v (Protected p (Err e)) left is ok lets = absurd (true≢false ok)
one_guard act v (Settled ps (Ok u)) left is ok lets =
    record {
      names = ap (with_changes v) lets;
      nodes = λ q. either_bare (is_within q ps || (is_above q ps && reads_folder (v.nodes q))) (v.nodes q) (firm (v.nodes q)) (firm_bare (v.nodes q));
      children = refl;
    }
one_guard act v (Settled ps (Err e)) left is ok lets = absurd (true≢false ok)
one_guard act v (Looked p r) left is ok lets = absurd is
one_guard act v (ReadFile p limit r) left is ok lets = absurd is
one_guard act v (ReadFolder p r) left is ok lets = absurd is
one_guard act v (Written p bytes r) left is ok lets = absurd is
one_guard act v (Created p r) left is ok lets = absurd is
one_guard act v (Removed p r) left is ok lets = absurd is
one_guard act v (MadeParents p r) left is ok lets = absurd is
one_guard act v (Started recipe logs command r) left is ok lets = absurd is
one_guard act v (Waited r) left is ok lets = absurd is

all_guards : (act : Act) (v : World) (rs : List Request) (es : List Event) → Each IsGuard rs → HasDone rs es → Follows act v es → IsSameBare v (run v es)
all_guards act v [] [] are done follows = record { names = refl; nodes = λ q. refl; children = refl }
all_guards act v [] (e ∷ es) are done follows = absurd done
all_guards act v (r ∷ rs) [] are done follows = absurd done
all_guards act v (r ∷ rs) (e ∷ es) are done follows =
    same_then v (after v e) (run (after v e) es) (one_guard act v e.call e.left (subst IsGuard (sym done.0) are.0) done.1 follows.0.lets)
    (all_guards act (after v e) rs es are.1 done.2 follows.1)

protects_guard : (ps : List Path) → Each IsGuard (protect_each ps)
protects_guard [] = tt
protects_guard (p ∷ ps) = (tt, protects_guard ps)

guarded_same : (act : Act) (v : World) (guards : List Path) (es : List Event) → HasGuarded guards es → Follows act v es → IsSameBare v (run v es)
guarded_same act v [] es none follows =
    subst (λ xs. IsSameBare v (run v xs)) (sym none) (record { names = refl; nodes = λ q. refl; children = refl })
guarded_same act v (p ∷ ps) es done follows =
    all_guards act v (protect_requests (p ∷ ps)) es
    (each_append IsGuard (protect_each (p ∷ ps)) (Settle (p ∷ ps) ∷ []) (protects_guard (p ∷ ps)) (tt, tt)) done follows

pub tended_same :
    (act : Act) (v : World) (guards : List Path) (answer : Result (Unit {0}) KeepFault) (es : List Event) → IsTended guards answer es →
    is_ok answer ≡ true → Follows act v es →
    IsSameBare v (run v es)
tended_same act v guards answer es (Tended guarding looks guard looked) ok follows =
    let two = follows_split act v guarding looks follows in
    let like = like_looks act false (run v guarding) looks looked two.1 in
    subst (IsSameBare v) (sym (run_append v guarding looks))
    (same_then v (run v guarding) (run (run v guarding) looks) (guarded_same act v guards guarding guard two.0)
    (record { names = sym like.0; nodes = λ q. ap (λ (nodes : Path → NodeState). bare_node (reading (nodes q))) (sym like.1); children = sym like.2 }))
tended_same act v guards answer es Unguarded ok follows = absurd (true≢false (sym ok))
tended_same act v guards answer es (GuardingFails guarding cut) ok follows = absurd (true≢false (sym ok))
tended_same act v guards answer es (LooksFail guarding looks guard looked) ok follows = absurd (true≢false (sym ok))

module _
    (rules : Rules) (entry : World) (h : Parts) (s : Stand) (w : World) (before : List Event) (deeds : List Deed) (at : IsAt rules entry h s w before deeds)
    (k : Job) (ik : IsIn h.live.base.jobs.jobs k) (guards : List Path) (all : AreAmong guards (out_paths k.recipe)) (v : World) (tending : List Event)
    (of : EachCall (IsOf guards) tending) (formed : IsFormed v) (formed_now : IsFormed (run v tending)) (same : IsSameBare v (run v tending)) where
  user : (p : Path) → IsIn guards p → is_path p ≡ true
  user p i = owned_is_path rules entry h s w before deeds at k p ik (in_left p (out_paths k.recipe) k.logs (all p i))

  others : (q : Path) → Each (λ p. overlaps p q ≡ false) (out_paths k.recipe) → is_guarded (seen rules (run v tending)) q ≡ is_guarded (seen rules v) q
  others q off =
      ap (λ (sight : Sight). sight.guarded)
      (same_is_seen rules.read v (run v tending) q formed formed_now (λ r under. ap reading (all_keep guards r (λ g i. apart g r i under) v tending of))).sight
    where
      apart : (g r : Path) → IsIn guards g → is_at_or_under r q ≡ true → IsApart g r
      apart g r i under = apart_unless g r (λ t. never_both (overlaps g q) (overlaps_above g r q under t)
          (each_in (λ p. overlaps p q ≡ false) (out_paths k.recipe) g off (all g i)))

  pub guarded_since : IsGuardedSince rules k v (run v tending)
  guarded_since =
      record {
        formed = formed;
        formed_now = formed_now;
        names = same.names;
        nodes = same.nodes;
        children = same.children;
        marks = λ q. all_keep guards (mark_place q) (λ g i. path-mark g q (user g i)) v tending of;
        guarded = others;
      }
