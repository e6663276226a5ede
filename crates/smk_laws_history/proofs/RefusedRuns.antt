-- Logs in a wrong order aren't runs of the protocol, from no state and no world.
use Rattle.std.proofs.Common.{◌≡◌, inl, inr, ap, true≢false, sym, subst, ◌∙◌}
use Rattle.std.specs.Prelude.{Bool, true, false, List, Option, Some, None, Err, refl, bytes_eq}
use Rattle.smk_base.proofs.Places.{place_itself}
use Rattle.smk_base.specs.Place.{record_place}
use Rattle.smk_world.specs.declared.event.Call.{Call}
use Rattle.smk_world.specs.declared.event.Call.TheVariants.{Looked, ReadFile, ReadFolder, Written, Created, Removed, MadeParents, Settled, Protected, Started, Waited}
use Rattle.smk_world.specs.declared.event.Event.{Event}
use Rattle.smk_world.specs.declared.event.Failed.{Failed}
use Rattle.smk_world.specs.World.{World, after}
use Rattle.smk_world.specs.Trees.{Path}
use Rattle.smk_store.specs.Soundness.{Outside}
use Rattle.smk_laws_protocol.specs.Protocol.{OpenJob, Phase, RunState, IsWait, as_ok, IsLook, IsLock, IsFirst, Moves, MakeFolders, Mark, AllMarked, MakeRoom, Start, Wait, AllMade, Write, AllWritten, Drop, AllDropped, Unmark, Closes, AllUnmarked, Besides, Look, Lock, Settle, Spend, Protect, Step, Aside, Steady, Begin, Go, Close, Fail, FailWait, Runs, Next}
use Rattle.smk_laws_history.proofs.RefusedOrders.{out_mark, marked_anew, gone_on}

is_not : {A : Type 0} → true ≡ false → A
is_not h = absurd (true≢false h)

none_some : {A : Type 0} (x : A) → None ≡ Some x → ⊥
none_some x h = cc

some_is : {A : Type 0} (x y : A) → Some x ≡ Some y → x ≡ y
some_is x y h = cc

as_wait : (c : Call) → IsWait (as_ok c) → IsWait c
as_wait (Waited r) h = tt
as_wait (Looked p r) h = absurd h
as_wait (ReadFile p limit r) h = absurd h
as_wait (ReadFolder p r) h = absurd h
as_wait (Created p r) h = absurd h
as_wait (MadeParents p r) h = absurd h
as_wait (Removed p r) h = absurd h
as_wait (Settled ps r) h = absurd h
as_wait (Protected p r) h = absurd h
as_wait (Written p bytes r) h = absurd h
as_wait (Started recipe logs command r) h = absurd h

module _ (o : Outside) where
  -- after a failed call only waits come
  pub only_waits : (s : RunState) (w : World) → s.faulted ≡ true → (e : Event) (s' : RunState) → Step o s w e s' → IsWait e.call
  only_waits s w f e s' (Aside _ nf b) = is_not (sym f ∙ nf)
  only_waits s w f e s' (Steady _ ps nf none is all) = is_not (sym f ∙ nf)
  only_waits s w f e s' (Begin _ j top nf steady may serial phase first) = is_not (sym f ∙ nf)
  only_waits s w f e s' (Go _ js ks j phase jobs (inl nf) moves) = is_not (sym f ∙ nf)
  only_waits s w f e s' (Go _ js ks j phase jobs (inr wait) moves) = wait
  only_waits s w f e s' (Close _ js ks j jobs nf closes) = is_not (sym f ∙ nf)
  only_waits s w f e s' (Fail _ s2 bad step) = as_wait e.call (only_waits s w f (record e { call = as_ok e.call }) s2 step)
  only_waits s w f e s' (FailWait _ x is) = subst IsWait (sym is) tt

  abbrev is_failed_settling : Call → Bool
  is_failed_settling (Settled ps (Err x)) = true
  is_failed_settling c = false

  no_failed : (s : RunState) (w : World) (c : Call) → Besides o s w c → is_failed_settling c ≡ false
  no_failed s w c (Look _ is) = by_look c is
    where
      by_look : (c : Call) → IsLook o c → is_failed_settling c ≡ false
      by_look (Settled ps r) is = absurd is
      by_look (Looked p r) is = refl
      by_look (ReadFile p limit r) is = refl
      by_look (ReadFolder p r) is = refl
      by_look (Created p r) is = refl
      by_look (MadeParents p r) is = refl
      by_look (Removed p r) is = refl
      by_look (Protected p r) is = refl
      by_look (Written p bytes r) is = refl
      by_look (Started recipe logs command r) is = refl
      by_look (Waited r) is = refl
  no_failed s w c (Lock _ is) = by_lock c is
    where
      by_lock : (c : Call) → IsLock o c → is_failed_settling c ≡ false
      by_lock (Settled ps r) is = absurd is
      by_lock (Looked p r) is = refl
      by_lock (ReadFile p limit r) is = refl
      by_lock (ReadFolder p r) is = refl
      by_lock (Created p r) is = refl
      by_lock (MadeParents p r) is = refl
      by_lock (Removed p r) is = refl
      by_lock (Protected p r) is = refl
      by_lock (Written p bytes r) is = refl
      by_lock (Started recipe logs command r) is = refl
      by_lock (Waited r) is = refl
  no_failed s w c (Settle ps) = refl
  no_failed s w c (Spend p r free) = refl
  no_failed s w c (Protect p r free) = refl

  moves_well : (w : World) (j : OpenJob) (c : Call) (to : Phase) → Moves o w j c to → is_failed_settling c ≡ false
  moves_well w j c to (MakeFolders p h) = refl
  moves_well w j c to (Mark p made h i) = refl
  moves_well w j c to (AllMarked ps h there all) = refl
  moves_well w j c to (MakeRoom p h i) = refl
  moves_well w j c to (Start command n h) = refl
  moves_well w j c to (Wait n status h) = refl
  moves_well w j c to (AllMade ps h good all) = refl
  moves_well w j c to (Write p bytes h i reads) = refl
  moves_well w j c to (AllWritten ps h written all) = refl
  moves_well w j c to (Drop p h i) = refl
  moves_well w j c to (AllDropped ps h absent all) = refl
  moves_well w j c to (Unmark p h i) = refl

  first_well : (c : Call) (ps : List Path) → IsFirst o c ps → is_failed_settling c ≡ false
  first_well (Created p r) ps i = refl
  first_well (MadeParents p r) ps i = refl
  first_well (Settled qs r) ps i = absurd i
  first_well (Looked p r) ps i = refl
  first_well (ReadFile p limit r) ps i = refl
  first_well (ReadFolder p r) ps i = refl
  first_well (Removed p r) ps i = refl
  first_well (Protected p r) ps i = refl
  first_well (Written p bytes r) ps i = refl
  first_well (Started recipe logs command r) ps i = refl
  first_well (Waited r) ps i = refl

  closes_well : (w : World) (j : OpenJob) (c : Call) → Closes o w j c → is_failed_settling c ≡ false
  closes_well w j c (AllUnmarked ps h absent all) = refl

  -- a settling that fails is a fault of the run
  settling_faults : (s : RunState) (w : World) (e : Event) (s' : RunState) → is_failed_settling e.call ≡ true → Step o s w e s' → s'.faulted ≡ true
  settling_faults s w e s' f (Aside _ nf b) = is_not (sym f ∙ no_failed s w e.call b)
  settling_faults s w e s' f (Steady _ ps nf none is all) = is_not (sym f ∙ ap is_failed_settling is)
  settling_faults s w e s' f (Begin _ j top nf steady may serial phase first) = is_not (sym f ∙ first_well e.call _ first)
  settling_faults s w e s' f (Go _ js ks j phase jobs may moves) = is_not (sym f ∙ moves_well w j e.call phase moves)
  settling_faults s w e s' f (Close _ js ks j jobs nf closes) = is_not (sym f ∙ closes_well w j e.call closes)
  settling_faults s w e s' f (Fail _ s2 bad step) = refl
  settling_faults s w e s' f (FailWait _ x is) = refl

  -- no run goes on after the settling of an output has failed
  pub failed_settle_no_run : (fault : Failed) (s end : RunState) (w : World) → Runs o s w (gone_on fault) end → ⊥
  failed_settle_no_run fault s end w (Next _ mid _ _ e _ step (Next _ mid' _ _ e' _ step' rest)) =
      only_waits mid (after w e) (settling_faults s w e mid refl step) e' mid' step'

  -- ## What is written

  abbrev written_at : Call → Option Path
  written_at (Written p bytes r) = Some p
  written_at c = None

  written_same : (c : Call) → written_at (as_ok c) ≡ written_at c
  written_same (Looked p r) = refl
  written_same (ReadFile p limit r) = refl
  written_same (ReadFolder p r) = refl
  written_same (Created p r) = refl
  written_same (MadeParents p r) = refl
  written_same (Removed p r) = refl
  written_same (Settled ps r) = refl
  written_same (Protected p r) = refl
  written_same (Written p bytes r) = refl
  written_same (Started recipe logs command r) = refl
  written_same (Waited r) = refl

  -- the place of a record, if any
  abbrev AtRecord : Option Path → Type 0
  AtRecord p = (q : Path) → p ≡ Some q → (y : Path) × (q ≡ record_place y)

  nowhere : AtRecord None
  nowhere q h = absurd (none_some q h)

  besides_write : (s : RunState) (w : World) (c : Call) → Besides o s w c → AtRecord (written_at c)
  besides_write s w c (Look _ is) = by_look c is
    where
      by_look : (c : Call) → IsLook o c → AtRecord (written_at c)
      by_look (Written p bytes r) is = absurd is
      by_look (Looked p r) is = nowhere
      by_look (ReadFile p limit r) is = nowhere
      by_look (ReadFolder p r) is = nowhere
      by_look (Created p r) is = nowhere
      by_look (MadeParents p r) is = nowhere
      by_look (Removed p r) is = nowhere
      by_look (Settled ps r) is = nowhere
      by_look (Protected p r) is = nowhere
      by_look (Started recipe logs command r) is = nowhere
      by_look (Waited r) is = nowhere
  besides_write s w c (Lock _ is) = by_lock c is
    where
      by_lock : (c : Call) → IsLock o c → AtRecord (written_at c)
      by_lock (Written p bytes r) is = absurd is
      by_lock (Looked p r) is = nowhere
      by_lock (ReadFile p limit r) is = nowhere
      by_lock (ReadFolder p r) is = nowhere
      by_lock (Created p r) is = nowhere
      by_lock (MadeParents p r) is = nowhere
      by_lock (Removed p r) is = nowhere
      by_lock (Settled ps r) is = nowhere
      by_lock (Protected p r) is = nowhere
      by_lock (Started recipe logs command r) is = nowhere
      by_lock (Waited r) is = nowhere
  besides_write s w c (Settle ps) = nowhere
  besides_write s w c (Spend p r free) = nowhere
  besides_write s w c (Protect p r free) = nowhere

  moves_write : (w : World) (j : OpenJob) (c : Call) (to : Phase) → Moves o w j c to → AtRecord (written_at c)
  moves_write w j c to (MakeFolders p h) = nowhere
  moves_write w j c to (Mark p made h i) = nowhere
  moves_write w j c to (AllMarked ps h there all) = nowhere
  moves_write w j c to (MakeRoom p h i) = nowhere
  moves_write w j c to (Start command n h) = nowhere
  moves_write w j c to (Wait n status h) = nowhere
  moves_write w j c to (AllMade ps h good all) = nowhere
  moves_write w j c to (Write p bytes h i reads) = λ q e. (p, sym (some_is (record_place p) q e))
  moves_write w j c to (AllWritten ps h written all) = nowhere
  moves_write w j c to (Drop p h i) = nowhere
  moves_write w j c to (AllDropped ps h absent all) = nowhere
  moves_write w j c to (Unmark p h i) = nowhere

  first_write : (c : Call) (ps : List Path) → IsFirst o c ps → AtRecord (written_at c)
  first_write (Written p bytes r) ps i = absurd i
  first_write (Created p r) ps i = nowhere
  first_write (MadeParents p r) ps i = nowhere
  first_write (Settled qs r) ps i = nowhere
  first_write (Looked p r) ps i = nowhere
  first_write (ReadFile p limit r) ps i = nowhere
  first_write (ReadFolder p r) ps i = nowhere
  first_write (Removed p r) ps i = nowhere
  first_write (Protected p r) ps i = nowhere
  first_write (Started recipe logs command r) ps i = nowhere
  first_write (Waited r) ps i = nowhere

  closes_write : (w : World) (j : OpenJob) (c : Call) → Closes o w j c → AtRecord (written_at c)
  closes_write w j c (AllUnmarked ps h absent all) = nowhere

  -- nothing but records is written
  pub only_records : (s : RunState) (w : World) (e : Event) (s' : RunState) → Step o s w e s' → AtRecord (written_at e.call)
  only_records s w e s' (Aside _ nf b) = besides_write s w e.call b
  only_records s w e s' (Steady _ ps nf none is all) = subst (λ c. AtRecord (written_at c)) (sym is) nowhere
  only_records s w e s' (Begin _ j top nf steady may serial phase first) = first_write e.call _ first
  only_records s w e s' (Go _ js ks j phase jobs may moves) = moves_write w j e.call phase moves
  only_records s w e s' (Close _ js ks j jobs nf closes) = closes_write w j e.call closes
  only_records s w e s' (Fail _ s2 bad step) = subst AtRecord (written_same e.call) (only_records s w (record e { call = as_ok e.call }) s2 step)
  only_records s w e s' (FailWait _ x is) = subst (λ c. AtRecord (written_at c)) (sym is) nowhere

  -- so no run writes a standing mark anew
  pub anew_no_run : (s end : RunState) (w : World) → Runs o s w marked_anew end → ⊥
  anew_no_run s end w (Next _ mid _ _ e _ step rest) =
      let at = only_records s w e mid step out_mark refl in
      is_not (sym (place_itself (record_place at.0)) ∙ ap (λ z. bytes_eq z (record_place at.0)) (sym at.1))
