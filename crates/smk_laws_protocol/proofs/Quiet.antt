-- Calls that start no child and end none own nothing anew; and what is owned is a running job's.
use Rattle.std.proofs.Common.{◌≡◌, ◌⊎◌, Bool, true, false, List, ◌∷◌, ◌++◌, refl, subst, inl, inr, arith, Option, Some, None}
use Rattle.std.specs.Prelude.{bytes_eq, IsTrue, is_some, if◌then◌else◌, ◌&&◌, ◌||◌, Ok, Err}
use Rattle.std.specs.List.{list_any}
use Rattle.smk_world.specs.declared.event.Besides.{Besides}
use Rattle.smk_world.specs.declared.event.Call.{Call}
use Rattle.smk_world.specs.declared.event.Call.TheVariants.{Looked, ReadFile, ReadFolder, Written, Created, Removed, MadeParents, Settled, Protected, Started, Waited}
use Rattle.smk_world.specs.declared.event.Change.{Change as LeftNode}
use Rattle.smk_world.specs.declared.event.Node.{Node}
use Rattle.smk_world.specs.declared.event.NodeState.{NodeState}
use Rattle.smk_world.specs.declared.event.NodeState.TheVariants.{Owned, Known}
use Rattle.smk_world.specs.Trees.{Path, IsIn, Each}
use Rattle.smk_store.specs.Images.{is_outside}
use Rattle.smk_base.specs.Path.{overlaps, is_under, is_at_or_under}
use Rattle.smk_store.specs.Trust.{Versions}
use Rattle.smk_world.specs.World.{World, after, reads_nothing, standing, loose, going, with_folder, with_flag, firm, is_within, is_above, reads_folder}
use Rattle.smk_base.specs.Place.{record_place}
use Rattle.smk_store.specs.Soundness.{Outside}
use Rattle.smk_laws_protocol.specs.Protocol.{OpenJob, RunState, own, eased_by, is_running}
use Rattle.smk_laws_protocol.proofs.Between.{Midway, Fits}
use Rattle.smk_laws_protocol.proofs.Along.{IsQuiet}
use Rattle.smk_laws_protocol.proofs.Apart.{free_of}
use Rattle.smk_laws_protocol.proofs.Basics.{each_in, in_split, some_of, any_by, clash}
use Rattle.smk_laws_protocol.proofs.Calls.{event}
use Rattle.smk_laws_protocol.proofs.Jobs.{pair_apart}
use Rattle.smk_laws_protocol.proofs.Settling.{firm_owned}
use Rattle.smk_laws_protocol.proofs.Texts.{Texts}

not_owned : {n : Option Node} {b : Besides} {A : Type 0} → Known n b ≡ Owned → A
not_owned h = absurd (no h)
  where
    no : {n : Option Node} {b : Besides} → Known n b ≡ Owned → ⊥
    no h = grind arith

loose_owned : (n : Option Node) (s : NodeState) → loose n s ≡ Owned → s ≡ Owned
loose_owned n Owned h = h
loose_owned n (Known m b) h = not_owned h

going_owned : (n : Option Node) (s : NodeState) → going n s ≡ Owned → s ≡ Owned
going_owned n Owned h = h
going_owned n (Known m b) h = not_owned h

folder_owned : (s : NodeState) → with_folder s ≡ Owned → s ≡ Owned
folder_owned Owned h = h
folder_owned (Known None b) h = not_owned h
folder_owned (Known (Some n) b) h = not_owned h

flag_owned : (s : NodeState) → with_flag s ≡ Owned → s ≡ Owned
flag_owned Owned h = h
flag_owned (Known n b) h = not_owned h

if_owned : (b : Bool) (t s : NodeState) → (t ≡ Owned → s ≡ Owned) → (if b then t else s) ≡ Owned → s ≡ Owned
if_owned true t s f h = f h
if_owned false t s f h = h

abbrev pub IsQuietCall : Call → Type 0
IsQuietCall (Started recipe logs command (Ok n)) = ⊥
IsQuietCall (Waited (Ok end)) = ⊥
IsQuietCall c = Unit {0}

pub quiet_call : (w : World) (c : Call) (left : List LeftNode) → IsQuietCall c → IsQuiet w (after w (event c left))
quiet_call w (Looked p r) left q = record { children = refl; owned = λ x h. h }
quiet_call w (ReadFile p limit r) left q = record { children = refl; owned = λ x h. h }
quiet_call w (ReadFolder p r) left q = record { children = refl; owned = λ x h. h }
quiet_call w (Written p bytes r) left q = record { children = refl; owned = λ x. if_owned (bytes_eq x p) (loose (standing left x) (w.nodes x)) (w.nodes x) (loose_owned (standing left x) (w.nodes x)) }
quiet_call w (Created p (Ok made)) left q = record { children = refl; owned = λ x. if_owned (made && bytes_eq x p) (loose (standing left x) (w.nodes x)) (w.nodes x) (loose_owned (standing left x) (w.nodes x)) }
quiet_call w (Created p (Err e)) left q = record { children = refl; owned = λ x. if_owned (reads_nothing (w.nodes x) && bytes_eq x p) (loose (standing left x) (w.nodes x)) (w.nodes x) (loose_owned (standing left x) (w.nodes x)) }
quiet_call w (Removed p r) left q = record { children = refl; owned = λ x. if_owned (is_at_or_under x p) (going (standing left x) (w.nodes x)) (w.nodes x) (going_owned (standing left x) (w.nodes x)) }
quiet_call w (MadeParents p (Ok u)) left q = record { children = refl; owned = λ x. if_owned (is_under p x) (with_folder (w.nodes x)) (w.nodes x) (folder_owned (w.nodes x)) }
quiet_call w (MadeParents p (Err e)) left q = record { children = refl; owned = λ x. if_owned (is_some (standing left x) && is_under p x) (with_folder (w.nodes x)) (w.nodes x) (folder_owned (w.nodes x)) }
quiet_call w (Settled ps (Ok u)) left q = record { children = refl; owned = λ x. if_owned (is_within x ps || is_above x ps && reads_folder (w.nodes x)) (firm (w.nodes x)) (w.nodes x) (firm_owned (w.nodes x)) }
quiet_call w (Settled ps (Err e)) left q = record { children = refl; owned = λ x h. h }
quiet_call w (Protected p (Ok u)) left q = record { children = refl; owned = λ x. if_owned (bytes_eq x p) (with_flag (w.nodes x)) (w.nodes x) (flag_owned (w.nodes x)) }
quiet_call w (Protected p (Err e)) left q = record { children = refl; owned = λ x. if_owned (bytes_eq x p) (going (standing left x) (with_flag (w.nodes x))) (w.nodes x) (λ h. flag_owned (w.nodes x) (going_owned (standing left x) (with_flag (w.nodes x)) h)) }
quiet_call w (Started recipe logs command (Ok n)) left q = absurd q
quiet_call w (Started recipe logs command (Err e)) left q = record { children = refl; owned = λ x h. h }
quiet_call w (Waited (Ok end)) left q = absurd q
quiet_call w (Waited (Err e)) left q = record { children = refl; owned = λ x h. h }

module _
    (o : Outside) (texts : Texts o.read) (entry : World) (H : Versions) (s : RunState) (js ks : List OpenJob) (j : OpenJob) (w : World)
    (m : Midway o entry H (record s { jobs = js ++ j ∷ ks }) w) where
  -- nothing of a job is owned unless its child runs
  pub own_free : is_running j.phase ≡ false → (p q : Path) → IsIn (own j) p → is_at_or_under q p ≡ true → w.nodes q ≡ Owned → ⊥
  own_free still p q i u h = let k = m.owned q h in go k.0 k.2 k.3 (in_split js ks j k.0 k.1)
    where
      go : (k : OpenJob) → is_running k.phase ≡ true → is_within q (own k) ≡ true → (k ≡ j) ⊎ IsIn (js ++ ks) k → ⊥
      go k runs within (inl e) = clash (is_running j.phase) (subst (λ (x : OpenJob). is_running x.phase ≡ true) e runs) still
      go k runs within (inr r) =
          let y = some_of (is_at_or_under q) (own k) within in
          clash (list_any (overlaps p) (own k)) (any_by (overlaps p) (own k) y.0 y.1 (texts.overlap.down p q y.0 u (texts.overlap.within y.0 q y.2)))
          (free_of (own j) (own k) p ((pair_apart o texts.overlap js ks j k m.apart r).0.0) i)

  -- no record's place is owned
  pub record_free : (x : Path) → w.nodes (record_place x) ≡ Owned → ⊥
  record_free x h =
      let k = m.owned (record_place x) h in
      let y = some_of (is_at_or_under (record_place x)) (own k.0) k.3 in
      clash (is_at_or_under (record_place x) y.0) y.2
      (texts.outside.record_out y.0 x (each_in (λ p. IsTrue (is_outside p)) (own k.0) y.0 (each_in_fits k.0 k.1) y.1))
    where
      each_in_fits : (k : OpenJob) → IsIn (js ++ j ∷ ks) k → Each (λ p. IsTrue (is_outside p)) (own k)
      each_in_fits k i = (each_in (Fits o entry (eased_by (js ++ j ∷ ks)) s.top w) (js ++ j ∷ ks) k m.fits i).paths
