-- Every world of every history is sound, and its directories have no more than their records list.
use Rattle.std.proofs.Common.{◌≡◌, ◌⊎◌, ℕ, Bool, true, false, List, [], ◌++◌, refl, sym, subst, inl, inr, Option, Some, None}
use Rattle.std.specs.Prelude.{◌==◌, if◌then◌else◌}
use Rattle.std.proofs.lemmas.Option.{none-some, same_Some}
use Rattle.std.proofs.lemmas.List.{append-nil}
use Rattle.smk_world.specs.declared.event.Event.{Event}
use Rattle.smk_world.specs.World.{World, Nodes, Leaves, run, world_of}
use Rattle.smk_world.specs.Trees.{Path}
use Rattle.smk_store.specs.Images.{Content, Image, image_of, seen, source_at}
use Rattle.smk_store.specs.Trust.{Versions, SumsDiffer}
use Rattle.smk_store.specs.Soundness.{Outside, SoundWorld}
use Rattle.smk_store.specs.Safety.{or_put, with_sources}
use Rattle.smk_laws_history.specs.Histories.{ListsAll, IsListed, IsCall, Step, Edit, Remove, Call, Crash, History, Begin, Go, no_versions, IsHeld, HasHeld, DifferInSums, SumsDifferIn, VersionsDiffer, HistoryLaw, HistoryIsTree, HistoryIsListed}
use Rattle.smk_laws_history.proofs.Same.{leaves_same}
use Rattle.smk_laws_history.proofs.Steps.{call_keeps, crash_keeps}
use Rattle.smk_laws_history.proofs.HistoryNew.{new_sound, new_lists}
use Rattle.smk_laws_history.proofs.HistoryEdit.{edit_keeps, edit_lists}
use Rattle.smk_laws_history.proofs.HistoryTrees.{step_tree}
use Rattle.smk_laws_history.proofs.HistoryRemove.{remove_keeps, remove_lists}

-- what a history keeps of a world
pub record IsKept (o : Outside) (w : World) (H : Versions) : Type 0 where
  pub sound : SoundWorld o w H
  pub listed : IsListed o w

call_lists :
    (o : Outside) (w : World) (H : Versions) (log : List Event) (paths : List Path) → SumsDiffer H →
    IsKept o w H → IsCall o w log paths true → (run w log).children ≡ [] → IsListed o (run w log)
call_lists o w H log paths differ kept call alone =
    record {
      now = call.listed.at_exit H differ kept.sound kept.listed refl alone;
      after_crash = call.listed.throughout H differ kept.sound kept.listed log [] (sym (append-nil log));
    }

crash_lists :
    (o : Outside) (w : World) (H : Versions) (log events rest : List Event) (paths : List Path) (to_the_end : Bool) (nodes : Nodes) → SumsDiffer H →
    IsKept o w H → IsCall o w log paths to_the_end → log ≡ events ++ rest → Leaves (run w events) nodes → IsListed o (world_of nodes)
crash_lists o w H log events rest paths to_the_end nodes differ kept call split leaves =
    let lists = call.listed.throughout H differ kept.sound kept.listed events rest split nodes leaves in
    record {
      now = lists;
      after_crash = λ left leaves'. subst (λ ns. ListsAll (image_of o.read ns)) (sym (leaves_same nodes left leaves.rising leaves')) lists;
    }

step_keeps : (o : Outside) (w next : World) (H : Versions) → SumsDiffer H → IsKept o w H → Step o w next → IsKept o next (with_sources H (seen o.read next))
step_keeps o w _ H differ kept (Edit p bytes time read_only can later source sources) =
    record {
      sound = edit_keeps o w p bytes time read_only H kept.sound source sources later;
      listed = edit_lists o w p bytes time read_only H kept.sound source sources kept.listed;
    }
step_keeps o w _ H differ kept (Remove p outside) =
    record { sound = remove_keeps o w p H kept.sound outside kept.listed; listed = remove_lists o w p H kept.sound outside kept.listed }
step_keeps o w _ H differ kept (Call log paths call alone) =
    record { sound = call_keeps o w H log paths differ kept.sound call.sound alone; listed = call_lists o w H log paths differ kept call alone }
step_keeps o w _ H differ kept (Crash log events rest paths to_the_end nodes call split left) =
    record {
      sound = crash_keeps o w H log events rest paths to_the_end nodes differ kept.sound call.sound split left.leaves;
      listed = crash_lists o w H log events rest paths to_the_end nodes differ kept call split left.leaves;
    }

-- ## The versions of a history

-- what is a version once the sources of an image are put there was one before, or is held by a source of the image
put_held :
    (image : Image) (H : Versions) (p : Path) (t : ℕ) (bytes : List ℕ) → with_sources H image p t ≡ Some bytes → (H p t ≡ Some bytes) ⊎ IsHeld image bytes
put_held image H p t bytes h = go (source_at image p) refl h
  where
    by_time : (f : Content) (b : Bool) → source_at image p ≡ Some f → (if b then Some f.bytes else H p t) ≡ Some bytes → (H p t ≡ Some bytes) ⊎ IsHeld image bytes
    by_time f true is k = inr (p, f, is, same_Some f.bytes bytes k)
    by_time f false is k = inl k

    go : (c : Option Content) → source_at image p ≡ c → or_put (H p t) t c ≡ Some bytes → (H p t ≡ Some bytes) ⊎ IsHeld image bytes
    go None is k = inl k
    go (Some f) is k = by_time f (f.time == t) is k

first_held : {A : Type 0} (bytes : List ℕ) → (None ≡ Some bytes) ⊎ A → A
first_held bytes (inl k) = absurd (none-some bytes k)
first_held bytes (inr a) = a

pub on_left : {A B C : Type 0} → (A → C) → A ⊎ B → C ⊎ B
on_left f (inl a) = inl (f a)
on_left f (inr b) = inr b

-- what differs among more contents differs among fewer
pub fewer_differ : (P Q : List ℕ → Type 0) → ((a : List ℕ) → P a → Q a) → DifferInSums Q → DifferInSums P
fewer_differ P Q more differ a b had has same = differ a b (more a had) (more b has) same

-- a source had what is a version
held : (o : Outside) (w : World) (H : Versions) (past : History o w H) (p : Path) (t : ℕ) (bytes : List ℕ) → H p t ≡ Some bytes → HasHeld o w H past bytes
held o _ _ (Begin w new) p t bytes h = first_held bytes (put_held (seen o.read w) no_versions p t bytes h)
held o _ _ (Go w next H past step) p t bytes h = on_left (held o w H past p t bytes) (put_held (seen o.read next) H p t bytes h)

pub versions_differ : VersionsDiffer
versions_differ o w H past differ p q t u a b had has same = differ a b (held o w H past p t a had) (held o w H past q u b has) same

-- ## The law

history_keeps : (o : Outside) (w : World) (H : Versions) (past : History o w H) → SumsDifferIn o w H past → IsKept o w H
history_keeps o _ _ (Begin w new) differ = record { sound = new_sound o w new; listed = new_lists o w new }
history_keeps o _ _ (Go w next H past step) differ =
    let before : SumsDifferIn o w H past = λ a b had has same. differ a b (inl had) (inl has) same in
    step_keeps o w next H (versions_differ o w H past before) (history_keeps o w H past before) step

pub every_world_sound : HistoryLaw
every_world_sound o w H past differ = (history_keeps o w H past differ).sound

pub every_world_listed : HistoryIsListed
every_world_listed o w H past differ = (history_keeps o w H past differ).listed

pub every_world_tree : HistoryIsTree
every_world_tree o _ _ (Begin w new) = new.tree
every_world_tree o _ _ (Go w next H past step) = step_tree o w next (every_world_tree o w H past) step
