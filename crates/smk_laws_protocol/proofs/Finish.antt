-- All rows of a job; a job is closed; a job's call fails.
use Rattle.std.proofs.Common.{◌≡◌, ◌⊎◌, ℕ, true, false, List, ◌∷◌, ◌++◌, refl, sym, ap, subst, inl, inr}
use Rattle.std.specs.Prelude.{IsTrue, filter, Ok, Err}
use Rattle.smk_world.specs.declared.event.Call.{Call}
use Rattle.smk_world.specs.declared.event.Call.TheVariants.{Looked, ReadFile, ReadFolder, Written, Created, Removed, MadeParents, Settled, Protected, Started, Waited}
use Rattle.smk_world.specs.declared.event.Change.{Change as LeftNode}
use Rattle.smk_world.specs.declared.event.Child.{Child}
use Rattle.smk_store.specs.Trust.{Versions}
use Rattle.smk_world.specs.Trees.{IsIn}
use Rattle.smk_world.specs.World.{World, after}
use Rattle.smk_world.specs.Calls.{failed}
use Rattle.smk_base.specs.Place.{mark_place, record_place}
use Rattle.smk_store.specs.Soundness.{Outside}
use Rattle.smk_laws_protocol.specs.Protocol.{OpenJob, Phase, Marking, Marked, Running, Firm, Recorded, Dropping, Dropped, RunState, outputs, record_places, is_running, runs, eased_by, as_ok}
use Rattle.smk_laws_protocol.proofs.Rows.{Moves, MakeFolders, Mark, AllMarked, MakeRoom, Start, Wait, AllMade, Write, AllWritten, Drop, AllDropped, Unmark}
use Rattle.smk_laws_protocol.proofs.Between.{Midway, InPhase, Lets, has_firm_marks, is_marking}
use Rattle.smk_laws_protocol.proofs.Along.{moved_quietly, phase_there}
use Rattle.smk_laws_protocol.proofs.Basics.{each_in, in_rest, in_split, in_filter, filter_in, clash}
use Rattle.smk_laws_protocol.proofs.Calls.{event, Allows, call_change}
use Rattle.smk_laws_protocol.proofs.Change.{Change}
use Rattle.smk_laws_protocol.proofs.Children.{start, end}
use Rattle.smk_laws_protocol.proofs.Go.{go}
use Rattle.smk_laws_protocol.proofs.Guarded.{in_either}
use Rattle.smk_laws_protocol.proofs.Jobs.{at_phase, eased_fewer, pairs_rest, pairs_filter}
use Rattle.smk_laws_protocol.proofs.Quiet.{IsQuietCall, quiet_call}
use Rattle.smk_laws_protocol.proofs.Settled.{map_in}
use Rattle.smk_laws_protocol.proofs.Texts.{Texts}

pub allows_of : (o : Outside) (w : World) (j : OpenJob) (c : Call) (to : Phase) → Moves o w j c to → Allows o j c
allows_of o w j c to (MakeFolders p (inl (h, i))) = inl (inl i)
allows_of o w j c to (MakeFolders p (inr (inr (h, i)))) = inl (inr i)
allows_of o w j c to (MakeFolders p (inr (inl (h, i)))) = inr (ap (has_firm_marks o) h, ap (is_marking o) h, i)
allows_of o w j c to (Mark p made h i) = (h, i)
allows_of o w j c to (AllMarked ps h standing all) = tt
allows_of o w j c to (MakeRoom p h i) = inl (ap (has_firm_marks o) h, ap (is_marking o) h, inl i)
allows_of o w j c to (Start command n h) = (ap (has_firm_marks o) h, ap (is_marking o) h, refl, refl)
allows_of o w j c to (Wait n status h) = h
allows_of o w j c to (AllMade ps h good all) = tt
allows_of o w j c to (Write p bytes h i reads) = (ap (has_firm_marks o) h, ap (is_marking o) h, map_in record_place (outputs j) p i)
allows_of o w j c to (AllWritten ps h written all) = tt
allows_of o w j c to (Drop p (inl (n, h)) i) = inl (ap (has_firm_marks o) h, ap (is_marking o) h, in_either (outputs j) (record_places j) p i)
allows_of o w j c to (Drop p (inr h) i) = inl (ap (has_firm_marks o) h, ap (is_marking o) h, in_either (outputs j) (record_places j) p i)
allows_of o w j c to (AllDropped ps h absent all) = tt
allows_of o w j c to (Unmark p h i) = inr (h, map_in mark_place (outputs j) p i)

-- what the call may be doesn't hang on its answer
pub allows_failed : (o : Outside) (j : OpenJob) (c : Call) → IsTrue (failed c) → Allows o j (as_ok c) → Allows o j c
allows_failed o j (Created p r) f a = a
allows_failed o j (MadeParents p r) f a = a
allows_failed o j (Removed p r) f a = a
allows_failed o j (Written p bytes r) f a = a
allows_failed o j (Started recipe logs command r) f a = a
allows_failed o j (Waited r) f a = a
allows_failed o j (Settled ps r) f a = a
allows_failed o j (Looked p r) f a = absurd a
allows_failed o j (ReadFile p limit r) f a = absurd a
allows_failed o j (ReadFolder p r) f a = absurd a
allows_failed o j (Protected p r) f a = absurd a

pub failed_quiet : (c : Call) → IsTrue (failed c) → IsQuietCall c
failed_quiet (Created p r) f = tt
failed_quiet (MadeParents p r) f = tt
failed_quiet (Removed p r) f = tt
failed_quiet (Written p bytes r) f = tt
failed_quiet (Started recipe logs command (Ok n)) f = clash false f refl
failed_quiet (Started recipe logs command (Err x)) f = tt
failed_quiet (Waited (Ok ended)) f = clash false f refl
failed_quiet (Waited (Err x)) f = tt
failed_quiet (Settled ps r) f = tt
failed_quiet (Looked p r) f = tt
failed_quiet (ReadFile p limit r) f = tt
failed_quiet (ReadFolder p r) f = tt
failed_quiet (Protected p r) f = tt

-- a job that makes a call which isn't a wait doesn't run
pub not_running : (o : Outside) (w : World) (j : OpenJob) (c : Call) (to : Phase) → Moves o w j c to → (is_running j.phase ≡ false) ⊎ ((n : ℕ) × (status : ℕ) × (c ≡ Waited (Ok (record { number = n; status = status }))))
not_running o w j c to (MakeFolders p (inl (h, i))) = inl (ap is_running h)
not_running o w j c to (MakeFolders p (inr (inl (h, i)))) = inl (ap is_running h)
not_running o w j c to (MakeFolders p (inr (inr (h, i)))) = inl (ap is_running h)
not_running o w j c to (Mark p made h i) = inl (ap is_running h)
not_running o w j c to (AllMarked ps h standing all) = inl (ap is_running h)
not_running o w j c to (MakeRoom p h i) = inl (ap is_running h)
not_running o w j c to (Start command n h) = inl (ap is_running h)
not_running o w j c to (Wait n status h) = inr (n, status, refl)
not_running o w j c to (AllMade ps h good all) = inl (ap is_running h)
not_running o w j c to (Write p bytes h i reads) = inl (ap is_running h)
not_running o w j c to (AllWritten ps h written all) = inl (ap is_running h)
not_running o w j c to (Drop p (inl (n, h)) i) = inl (ap is_running h)
not_running o w j c to (Drop p (inr h) i) = inl (ap is_running h)
not_running o w j c to (AllDropped ps h absent all) = inl (ap is_running h)
not_running o w j c to (Unmark p (inl h) i) = inl (ap is_running h)
not_running o w j c to (Unmark p (inr h) i) = inl (ap is_running h)

stopped : (to : Phase) → is_running to ≡ false → (n : ℕ) → to ≡ Running n → ⊥
stopped to h n e = clash (is_running to) (ap is_running e) h

module _
    (o : Outside) (texts : Texts o.read) (entry : World) (H : Versions) (s : RunState) (js ks : List OpenJob) (j : OpenJob) (w : World)
    (m : Midway o entry H (record s { jobs = js ++ j ∷ ks }) w) (left : List LeftNode) where
  -- a row of the automaton
  pub every_row : (c : Call) (to : Phase) → Lets o w (event c left) c → Moves o w j c to → Midway o entry H (record s { jobs = js ++ at_phase j to ∷ ks }) (after w (event c left))
  every_row c to lets (Start command n h) = start o texts entry H s js ks j w m left command n h lets
  every_row c to lets (Wait n status h) = end o texts entry H s js ks j w m left n status h lets
  every_row c to lets (MakeFolders p (inl (h, i))) = go o texts entry H s js ks j w m left (MadeParents p (Ok tt)) j.phase lets (MakeFolders p (inl (h, i))) (stopped j.phase (ap is_running h)) (ap is_running h)
  every_row c to lets (MakeFolders p (inr (inl (h, i)))) = go o texts entry H s js ks j w m left (MadeParents p (Ok tt)) j.phase lets (MakeFolders p (inr (inl (h, i)))) (stopped j.phase (ap is_running h)) (ap is_running h)
  every_row c to lets (MakeFolders p (inr (inr (h, i)))) = go o texts entry H s js ks j w m left (MadeParents p (Ok tt)) j.phase lets (MakeFolders p (inr (inr (h, i)))) (stopped j.phase (ap is_running h)) (ap is_running h)
  every_row c to lets (Mark p made h i) = go o texts entry H s js ks j w m left (Created p (Ok made)) Marking lets (Mark p made h i) (stopped Marking refl) (ap is_running h)
  every_row c to lets (AllMarked ps h standing all) = go o texts entry H s js ks j w m left (Settled ps (Ok tt)) Marked lets (AllMarked ps h standing all) (stopped Marked refl) (ap is_running h)
  every_row c to lets (MakeRoom p h i) = go o texts entry H s js ks j w m left (Removed p (Ok tt)) Marked lets (MakeRoom p h i) (stopped Marked refl) (ap is_running h)
  every_row c to lets (AllMade ps h good all) = go o texts entry H s js ks j w m left (Settled ps (Ok tt)) Firm lets (AllMade ps h good all) (stopped Firm refl) (ap is_running h)
  every_row c to lets (Write p bytes h i reads) = go o texts entry H s js ks j w m left (Written (record_place p) bytes (Ok tt)) Firm lets (Write p bytes h i reads) (stopped Firm refl) (ap is_running h)
  every_row c to lets (AllWritten ps h written all) = go o texts entry H s js ks j w m left (Settled ps (Ok tt)) Recorded lets (AllWritten ps h written all) (stopped Recorded refl) (ap is_running h)
  every_row c to lets (Drop p (inl (n, h)) i) = go o texts entry H s js ks j w m left (Removed p (Ok tt)) Dropping lets (Drop p (inl (n, h)) i) (stopped Dropping refl) (ap is_running h)
  every_row c to lets (Drop p (inr h) i) = go o texts entry H s js ks j w m left (Removed p (Ok tt)) Dropping lets (Drop p (inr h) i) (stopped Dropping refl) (ap is_running h)
  every_row c to lets (AllDropped ps h absent all) = go o texts entry H s js ks j w m left (Settled ps (Ok tt)) Dropped lets (AllDropped ps h absent all) (stopped Dropped refl) (ap is_running h)
  every_row c to lets (Unmark p (inl h) i) = go o texts entry H s js ks j w m left (Removed (mark_place p) (Ok tt)) j.phase lets (Unmark p (inl h) i) (stopped j.phase (ap is_running h)) (ap is_running h)
  every_row c to lets (Unmark p (inr h) i) = go o texts entry H s js ks j w m left (Removed (mark_place p) (Ok tt)) j.phase lets (Unmark p (inr h) i) (stopped j.phase (ap is_running h)) (ap is_running h)

  -- the others go on after a call, and the job is closed
  pub close : (c : Call) → Lets o w (event c left) c → Allows o j c → IsQuietCall c → is_running j.phase ≡ false → Midway o entry H (record s { jobs = js ++ ks }) (after w (event c left))
  close c lets a quiet still =
      moved_quietly o texts.overlap texts.naming entry H s js ks (js ++ ks) j j.phase w (after w (event c left)) m ch s.faulted still (quiet_call w c left quiet)
      (record { each = λ k i. inl i; running = λ k i r. i }) (pairs_rest o texts.overlap js ks j m.apart)
      (λ i. phase_there o texts.overlap texts.naming entry H s js ks (js ++ ks) j j.phase w (after w (event c left)) m ch
      (λ k i n is. subst (λ cs. (c : Child) × IsIn cs c × (c.number ≡ n)) (sym (quiet_call w c left quiet).children) ((each_in (InPhase o w) (js ++ j ∷ ks) k m.phases (in_rest js ks j k i)).child n is)) j i)
    where
      ch : Change o entry H j (eased_by (js ++ j ∷ ks)) (eased_by (js ++ ks)) w (after w (event c left))
      ch = call_change o texts entry H s js ks j w m (eased_by (js ++ ks)) (eased_fewer (js ++ ks) (js ++ j ∷ ks) (λ k i. in_rest js ks j k i)) left c lets a

  -- the running jobs go on after a call that failed
  pub fail : (c : Call) → Lets o w (event c left) c → Allows o j c → IsQuietCall c → is_running j.phase ≡ false → Midway o entry H (record s { jobs = filter (runs o) (js ++ j ∷ ks); faulted = true }) (after w (event c left))
  fail c lets a quiet still =
      moved_quietly o texts.overlap texts.naming entry H s js ks (filter (runs o) (js ++ j ∷ ks)) j j.phase w (after w (event c left)) m ch true still (quiet_call w c left quiet)
      (record { each = λ k i. others k (in_filter (runs o) (js ++ j ∷ ks) k i); running = λ k i r. filter_in (runs o) (js ++ j ∷ ks) k (in_rest js ks j k i) r })
      (pairs_filter o texts.overlap (runs o) (js ++ j ∷ ks) m.apart)
      (λ i. clash (is_running j.phase) (in_filter (runs o) (js ++ j ∷ ks) j i).1 still)
    where
      ch : Change o entry H j (eased_by (js ++ j ∷ ks)) (eased_by (filter (runs o) (js ++ j ∷ ks))) w (after w (event c left))
      ch = call_change o texts entry H s js ks j w m (eased_by (filter (runs o) (js ++ j ∷ ks))) (eased_fewer (filter (runs o) (js ++ j ∷ ks)) (js ++ j ∷ ks) (λ k i. (in_filter (runs o) (js ++ j ∷ ks) k i).0)) left c lets a

      others : (k : OpenJob) → IsIn (js ++ j ∷ ks) k × (runs o k ≡ true) → IsIn (js ++ ks) k ⊎ (k ≡ at_phase j j.phase)
      others k h = go (in_split js ks j k h.0)
        where
          go : (k ≡ j) ⊎ IsIn (js ++ ks) k → IsIn (js ++ ks) k ⊎ (k ≡ at_phase j j.phase)
          go (inl e) = inr e
          go (inr i) = inl i
