-- The calls with which a job is closed are at its outputs, and their records and marks.
use Rattle.std.proofs.Common.{◌⊎◌, inl, inr, ℕ, List, [], ◌∷◌, ◌++◌, map, refl}
use Rattle.smk_base.specs.Place.{mark_place, record_place}
use Rattle.smk_world.specs.declared.event.Event.{Event}
use Rattle.smk_world.specs.Requests.{HasDone, Request}
use Rattle.smk_world.specs.Requests.Request.{Settle}
use Rattle.smk_world.specs.Trees.{Each, IsIn, Path, outs_of}
use Rattle.smk_world.specs.World.{World, out_paths}
use Rattle.smk_record.specs.declared.record.Member.{Member}
use Rattle.smk_store.specs.Steps.{places_of, remove_each, unmark_requests, write_each}
use Rattle.smk_laws_plan.proofs.CurrentLists.{in_either, in_left, in_right}
use Rattle.smk_job.specs.declared.fault.CloseFault.{CloseFault}
use Rattle.smk_job.specs.declared.fault.CloseFault.TheVariants as close
use Rattle.smk_job.specs.Jobs.{Underway, abandon_requests, bytes_with, finish_requests, keep_requests, lose_requests}
use Rattle.smk_job.specs.Sights.{AreLookedAt, HasSeen, IsSeenWrong}
use Rattle.smk_keep.specs.Keeping.{protect_each, protect_requests}
use Rattle.smk_run.specs.declared.ending.Ending.{Ending}
use Rattle.smk_run.specs.declared.ending.Ending.TheVariants.{Good, Status, NoOutput, WrongKind, BadMember}
use Rattle.smk_run.specs.Closings.{IsClosedBy}
use Rattle.smk_run.proofs.Calls.{EachCall, OfLooks, done_each, each_append, each_then, looked_each, seen_each, wrong_each}
use Rattle.smk_laws_turns.proofs.ClosedCalls.{IsOf}

pub looks_of : (ps : List Path) → OfLooks (IsOf ps)
looks_of ps = record { look = λ p. tt; read = λ p limit. tt; listed = λ p. tt }

-- these are among those
abbrev pub AreAmong : List Path → List Path → Type 0
AreAmong ps qs = (p : Path) → IsIn ps p → IsIn qs p

pub removes_of : (qs ps : List Path) → AreAmong ps qs → Each (IsOf qs) (remove_each ps)
removes_of qs [] all = tt
removes_of qs (p ∷ ps) all = (all p (inl refl), removes_of qs ps (λ x i. all x (inr i)))

writes_of : (qs ps : List Path) (bytes : List (List ℕ)) → AreAmong ps qs → Each (IsOf qs) (write_each ps bytes)
writes_of qs [] bytes all = tt
writes_of qs (p ∷ ps) [] all = tt
writes_of qs (p ∷ ps) (b ∷ bytes) all = (all p (inl refl), (all p (inl refl), writes_of qs ps bytes (λ x i. all x (inr i))))

protects_of : (qs ps : List Path) → AreAmong ps qs → Each (IsOf qs) (protect_each ps)
protects_of qs [] all = tt
protects_of qs (p ∷ ps) all = (all p (inl refl), protects_of qs ps (λ x i. all x (inr i)))

-- outputs that are guarded
pub guards_of_outs : (qs guards : List Path) → AreAmong guards qs → Each (IsOf qs) (protect_requests guards)
guards_of_outs qs guards all = each_append (IsOf qs) (protect_each guards) (Settle guards ∷ []) (protects_of qs guards all) (all, tt)

-- outputs, and the places of their records and marks
abbrev pub touched : List Path → List Path
touched outs = outs ++ (map record_place outs ++ map mark_place outs)

module _ (outs : List Path) where
  abbrev records : List Path
  records = map record_place outs

  abbrev marks : List Path
  marks = map mark_place outs

  pub outs_in : AreAmong outs (touched outs)
  outs_in p i = in_left p outs (records ++ marks) i

  pub records_in : AreAmong records (touched outs)
  records_in p i = in_right p outs (records ++ marks) (in_left p records marks i)

  pub marks_in : AreAmong marks (touched outs)
  marks_in p i = in_right p outs (records ++ marks) (in_right p records marks i)

  dropped_in : AreAmong (outs ++ records) (touched outs)
  dropped_in p i = go (in_either p outs records i)
    where
      go : IsIn outs p ⊎ IsIn records p → IsIn (touched outs) p
      go (inl h) = outs_in p h
      go (inr h) = records_in p h

  unmark_of : (logs : List Path) → Each (IsOf (touched outs)) (unmark_requests (places_of outs logs))
  unmark_of logs =
      each_append (IsOf (touched outs)) (remove_each marks) (Settle marks ∷ []) (removes_of (touched outs) marks marks_in) (marks_in, tt)

  pub keep_of : (logs : List Path) (bytes : List (List ℕ)) → Each (IsOf (touched outs)) (keep_requests (places_of outs logs) bytes)
  keep_of logs bytes =
      each_append (IsOf (touched outs)) (Settle outs ∷ (write_each records bytes ++ Settle records ∷ [])) (unmark_requests (places_of outs logs)) (
        outs_in,
        each_append (IsOf (touched outs)) (write_each records bytes) (Settle records ∷ []) (writes_of (touched outs) records bytes records_in)
            (records_in, tt),
      ) (unmark_of logs)

  pub lose_of : (logs : List Path) → Each (IsOf (touched outs)) (lose_requests (places_of outs logs))
  lose_of logs =
      each_append (IsOf (touched outs)) (remove_each outs ++ (remove_each records ++ Settle (outs ++ records) ∷ []))
      (unmark_requests (places_of outs logs))
      (each_append (IsOf (touched outs)) (remove_each outs) (remove_each records ++ Settle (outs ++ records) ∷ [])
      (removes_of (touched outs) outs outs_in)
      (each_append (IsOf (touched outs)) (remove_each records) (Settle (outs ++ records) ∷ []) (removes_of (touched outs) records records_in)
      (dropped_in, tt))) (unmark_of logs)

module _ (going : Underway) where
  abbrev outs : List Path
  outs = out_paths going.recipe

  abbrev For : Request → Type 0
  For r = IsOf (touched outs) r

  finished : (members : List (List Member)) (es : List Event) → HasDone (finish_requests going members) es → EachCall For es
  finished members es done =
      done_each For (finish_requests going members) es (keep_of outs going.logs (bytes_with going outs members)) done

  abandoned : (es : List Event) → HasDone (abandon_requests going) es → EachCall For es
  abandoned es done = done_each For (abandon_requests going) es (lose_of outs going.logs) done

  wrong :
      (f : CloseFault) (w : World) (es : List Event) → HasSeen (IsSeenWrong w.nodes (outs_of going.recipe) f) (HasDone (abandon_requests going)) es →
      EachCall For es
  wrong f w es h =
      each_then For es h.looks h.rest h.events (wrong_each For (looks_of (touched outs)) w.nodes (outs_of going.recipe) f h.looks h.seen)
      (abandoned h.rest h.done)

  -- so are those with which the job is closed, however it ended
  pub closing_of : (how : Ending) (status : ℕ) (w : World) (es : List Event) → IsClosedBy going how status w es → EachCall For es
  closing_of Good status w es h =
      let d = h.1 in
      each_then For es d.1.looks d.1.rest d.1.events
      (seen_each For (looks_of (touched outs)) w.nodes (outs_of going.recipe) d.0 d.1.looks d.1.seen) (finished d.0 d.1.rest d.1.done)
  closing_of (Status n) status w es h = abandoned es h.2
  closing_of (NoOutput p) status w es h = wrong (close.NoOutput p) w es h.1
  closing_of (WrongKind p) status w es h = wrong (close.WrongKind p) w es h.1
  closing_of (BadMember p) status w es h = wrong (close.BadMember p) w es h.1

  -- looks at its outputs change nothing
  pub looked_of : (es : List Event) → AreLookedAt (outs_of going.recipe) es → EachCall (IsOf []) es
  looked_of es h = looked_each (IsOf []) (looks_of []) (outs_of going.recipe) es h
