-- A part of a job's calls, the last of which may have failed, is a run of the protocol too.
use Rattle.std.proofs.Common.{◌≡◌, ◌≢◌, ◌⊎◌, inl, inr, ℕ, Bool, true, false, ◌||◌, List, [], ◌∷◌, ◌++◌, map, filter, refl, sym, ap, subst, ◌∙◌, Ok}
use Rattle.std.specs.Prelude.{IsTrue}
use Rattle.std.specs.List.{list_any}
use Rattle.std.proofs.lemmas.Bool.{false≢true}
use Rattle.smk_store_members.proofs.Trees.{stands_some}
use Rattle.smk_base.specs.Place.{mark_place}
use Rattle.smk_base.proofs.Under.{or_second}
use Rattle.smk_world.specs.declared.event.Call.{Call}
use Rattle.smk_world.specs.declared.event.Call.TheVariants.{Created, Removed, MadeParents, Settled, Started}
use Rattle.smk_world.specs.declared.event.Event.{Event}
use Rattle.smk_world.specs.World.{World, after}
use Rattle.smk_world.specs.Calls.{Lets, Stands, failed}
use Rattle.smk_world.specs.Runs.{Follows}
use Rattle.smk_world.specs.Requests.{Request, request, HasDone, IsCutShort, Carries}
use Rattle.smk_world.specs.Requests.Request.{Create, MakeParents, Remove, Settle, Start}
use Rattle.smk_world.specs.Trees.{Path, IsIn, among}
use Rattle.smk_store.specs.Soundness.{Outside}
use Rattle.smk_store.specs.Steps.{make_each, remove_each}
use Rattle.smk_laws_protocol.specs.Protocol.{OpenJob, RunState, Phase, Marking, Marked, Running, Ended, Dropping, Dropped, Runs, Done, Next, Step, Begin, Go, Close, Fail, Moves, MakeFolders, Mark, AllMarked, MakeRoom, Start as StartMove, Drop, AllDropped, Unmark, Closes, AllUnmarked, outputs, own, mark_places, record_places, as_ok, IsThere, IsAbsent, IsFirst, MayBegin, HasSerial, runs, is_running}
use Rattle.smk_laws_protocol.proofs.Basics.{each_of, each_in}
use Rattle.smk_job.specs.Jobs.{parents_each, begin_requests, abandon_requests}
use Rattle.smk_job.specs.Jobs.{IsPart}
use Rattle.smk_laws_job.specs.Laws.{HasOwnFolder, as_underway, stopped, BeginningPartsRun, BeginningFails, AbandoningPartsRun, AbandoningFails}
use Rattle.smk_laws_job.proofs.Called.{as_parents, as_created, as_removed, as_settled, as_started}
use Rattle.smk_laws_job.proofs.Onward.{halted, without}
use Rattle.smk_job.proofs.Single.{IsKnown, step_known, created}
use Rattle.smk_job.proofs.Firmly.{stands_parents, stands_created}
use Rattle.smk_laws_job.proofs.Owned.{known_marking}
use Rattle.smk_laws_job.proofs.Abandoning.{removed_call, settled_call, in_first, in_second, in_map, absent_now, absent_still, in_either}
use Rattle.smk_job.proofs.Lists.{among_by}
use Rattle.smk_laws_job.proofs.Abandoning as abandoning
use Rattle.smk_laws_job.proofs.Beginning.{parents_call, created_call, started_call, stepped, some_marks}
use Rattle.smk_laws_job.proofs.Beginning as beginning

-- ## One request

-- one of the calls failed
abbrev fails : List Event → Bool
fails es = list_any (λ (e : Event). failed e.call) es

module _ (o : Outside) (goal : RunState) where
  -- The events are a run; where a call failed it ends as the goal says.
  abbrev Ends : RunState → World → List Event → Type 0
  Ends s w es = (end : RunState) × Runs o s w es end × (fails es ≡ true → end ≡ goal)

  -- A call that may come, by its request: where it fails the run ends; and else it goes on.
  one_part : (s mid : RunState) (w : World) (es : List Event) (r : Request) (rs : List Request) → record s { jobs = filter (runs o) s.jobs; top = mid.top; faulted = true } ≡ goal
      → IsPart (r ∷ rs) es → Follows o.act w es
      → ((e : Event) → request e.call ≡ r → Step o s w (record e { call = as_ok e.call }) mid)
      → ((e : Event) → request e.call ≡ r → failed e.call ≡ false → Step o s w e mid)
      → ((e : Event) (fs : List Event) → request e.call ≡ r → failed e.call ≡ false → Lets o.act w e.call e.left → Follows o.act (after w e) fs → IsPart rs fs → Ends mid (after w e) fs)
      → Ends s w es
  one_part s mid w [] r rs halts part follows ok go more = (s, Done s w, λ bad. absurd (false≢true bad))
  one_part s mid w (e ∷ es) r rs halts (is, inl (bad, none)) follows ok go more =
      subst (λ fs. Ends s w (e ∷ fs)) (sym none) (_, Next s _ _ w e [] (Fail e mid bad (ok e is)) (Done _ (after w e)), λ b. halts)
  one_part s mid w (e ∷ es) r rs halts (is, inr (quiet, rest)) follows ok go more =
      let later = more e es is quiet follows.0.lets follows.1 rest in
      (later.0, Next s mid later.0 w e es (go e is quiet) later.1, λ bad. later.2 (sym (ap (λ b. b || fails es) quiet) ∙ bad))

  -- ## One job

  module _ (s : RunState) (js ks : List OpenJob) (j : OpenJob) (calm : s.faulted ≡ false) (halts : halted o s js ks ≡ goal) where
    abbrev at_phase : Phase → RunState
    at_phase phase = record s { jobs = js ++ (record j { phase = phase }) ∷ ks }

    halts_at : (phase : Phase) → is_running phase ≡ false → record s { jobs = filter (runs o) (js ++ (record j { phase = phase }) ∷ ks); faulted = true } ≡ goal
    halts_at phase idle = ap (λ (l : List OpenJob). record s { jobs = l; faulted = true }) (without (runs o) js ks (record j { phase = phase }) idle) ∙ halts

    -- a call that leads from one phase to another
    moves : (from to : Phase) (w : World) (e : Event) (call : Call) → e.call ≡ call → Moves o w (record j { phase = from }) call to → Step o (at_phase from) w e (at_phase to)
    moves from to w e call is move = Go e js ks (record j { phase = from }) to refl (inl calm) (subst (λ c. Moves o w (record j { phase = from }) c to) (sym is) move)

    makes : (ps : List Path) (w : World) (es : List Event) (qs : List Request)
        → ((p : Path) → IsIn ps p → IsIn (mark_places j) p) → ((p : Path) → IsIn ps p → IsKnown (w.nodes p)) → Follows o.act w es → IsPart (make_each ps ++ qs) es
        → ((v : World) (fs : List Event) → ((x : Path) → IsIn ps x ⊎ Stands (w.nodes x) → Stands (v.nodes x)) → Follows o.act v fs → IsPart qs fs → Ends (at_phase Marking) v fs)
        → Ends (at_phase Marking) w es
    makes [] w es qs places known follows part more = more w es (λ x c. elim c [ inl i ↦ absurd i | inr h ↦ h ]) follows part
    makes (p ∷ ps) w es qs places known follows part more =
        one_part (at_phase Marking) (at_phase Marking) w es (MakeParents p) (Create p ∷ (make_each ps ++ qs)) (halts_at Marking refl) part follows
        (λ e is. moves Marking Marking w (record e { call = as_ok e.call }) (MadeParents p (Ok tt)) (as_parents e.call p is) (MakeFolders p (inl (refl, places p (inl refl)))))
        (λ e is quiet. moves Marking Marking w e (MadeParents p (Ok tt)) (parents_call e.call p is quiet) (MakeFolders p (inl (refl, places p (inl refl)))))
        (λ e fs is quiet lets later rest.
        let s1 = stepped o.act (MakeParents p) w e lets is quiet in
        one_part (at_phase Marking) (at_phase Marking) (after w e) fs (Create p) (make_each ps ++ qs) (halts_at Marking refl) rest later
        (λ f at. moves Marking Marking (after w e) (record f { call = as_ok f.call }) (Created p (Ok true)) (as_created f.call p at) (Mark p true refl (places p (inl refl))))
        (λ f at calm2. let made = created_call f.call p at calm2 in moves Marking Marking (after w e) f (Created p (Ok made.0)) made.1 (Mark p made.0 refl (places p (inl refl))))
        (λ f gs at calm2 lets2 later2 rest2.
        let v = after (after w e) f in
        let s2 = stepped o.act (Create p) (after w e) f lets2 at calm2 in
        makes ps v gs qs (λ q i. places q (inr i))
        (λ q i. step_known o.act (Create p) (after w e) v q s2 refl (step_known o.act (MakeParents p) w (after w e) q s1 refl (known q (inr i)))) later2 rest2
        (λ u hs stood. more u hs (λ x c. stood x (elim c [
          | inl i ↦ elim i [
            | inl same ↦ inr (subst (λ y. Stands (v.nodes y)) (sym same) (created o.act p (after w e) v s2 (step_known o.act (MakeParents p) w (after w e) p s1 refl (known p (inl refl)))))
            | inr more_of ↦ inl more_of
          ]
          | inr h ↦ inr (stands_created o.act p x (after w e) v s2 (stands_parents o.act p x w (after w e) s1 h))
        ])))))

    marks_settled : (w : World) (es : List Event) (qs : List Request)
        → ((p : Path) → IsIn (mark_places j) p → Stands (w.nodes p)) → Follows o.act w es → IsPart (Settle (mark_places j) ∷ qs) es
        → ((v : World) (fs : List Event) → Follows o.act v fs → IsPart qs fs → Ends (at_phase Marked) v fs) → Ends (at_phase Marking) w es
    marks_settled w es qs there follows part more =
        let all = mark_places j in
        let move : Moves o w (record j { phase = Marking }) (Settled all (Ok tt)) Marked =
        AllMarked all refl (each_of (IsThere w) all (λ p i. stands_some (w.nodes p) (there p i))) (each_of (λ p. IsTrue (among all p)) all (λ p i. among_by all p i)) in
        one_part (at_phase Marking) (at_phase Marked) w es (Settle all) qs (halts_at Marking refl) part follows
        (λ e is. moves Marking Marked w (record e { call = as_ok e.call }) (Settled all (Ok tt)) (as_settled e.call all is) move)
        (λ e is quiet. moves Marking Marked w e (Settled all (Ok tt)) (settled_call e.call all is quiet) move)
        (λ e fs is quiet lets later rest. more (after w e) fs later rest)

    clears : (ps : List Path) (w : World) (es : List Event) (qs : List Request) → ((p : Path) → IsIn ps p → IsIn (outputs j) p) → Follows o.act w es → IsPart (remove_each ps ++ qs) es
        → ((v : World) (fs : List Event) → Follows o.act v fs → IsPart qs fs → Ends (at_phase Marked) v fs) → Ends (at_phase Marked) w es
    clears [] w es qs outs follows part more = more w es follows part
    clears (p ∷ ps) w es qs outs follows part more =
        one_part (at_phase Marked) (at_phase Marked) w es (Remove p) (remove_each ps ++ qs) (halts_at Marked refl) part follows
        (λ e is. moves Marked Marked w (record e { call = as_ok e.call }) (Removed p (Ok tt)) (as_removed e.call p is) (MakeRoom p refl (outs p (inl refl))))
        (λ e is quiet. moves Marked Marked w e (Removed p (Ok tt)) (removed_call e.call p is quiet) (MakeRoom p refl (outs p (inl refl))))
        (λ e fs is quiet lets later rest. clears ps (after w e) fs qs (λ q i. outs q (inr i)) later rest more)

    parents : (ps : List Path) (w : World) (es : List Event) (qs : List Request) → ((p : Path) → IsIn ps p → IsIn (own j) p) → Follows o.act w es → IsPart (parents_each ps ++ qs) es
        → ((v : World) (fs : List Event) → Follows o.act v fs → IsPart qs fs → Ends (at_phase Marked) v fs) → Ends (at_phase Marked) w es
    parents [] w es qs owns follows part more = more w es follows part
    parents (p ∷ ps) w es qs owns follows part more =
        one_part (at_phase Marked) (at_phase Marked) w es (MakeParents p) (parents_each ps ++ qs) (halts_at Marked refl) part follows
        (λ e is. moves Marked Marked w (record e { call = as_ok e.call }) (MadeParents p (Ok tt)) (as_parents e.call p is) (MakeFolders p (inr (inl (refl, owns p (inl refl))))))
        (λ e is quiet. moves Marked Marked w e (MadeParents p (Ok tt)) (parents_call e.call p is quiet) (MakeFolders p (inr (inl (refl, owns p (inl refl))))))
        (λ e fs is quiet lets later rest. parents ps (after w e) fs qs (λ q i. owns q (inr i)) later rest more)

    starts : (command : List ℕ) (w : World) (es : List Event) → IsPart (Start j.recipe j.logs command ∷ []) es → Ends (at_phase Marked) w es
    starts command w [] part = (at_phase Marked, Done (at_phase Marked) w, λ bad. absurd (false≢true bad))
    starts command w (e ∷ es) (is, inl (bad, none)) =
        subst (λ fs. Ends (at_phase Marked) w (e ∷ fs)) (sym none) (
          _,
          Next (at_phase Marked) _ _ w e []
              (Fail e (at_phase (Running 0)) bad (moves Marked (Running 0) w (record e { call = as_ok e.call }) (Started j.recipe j.logs command (Ok 0)) (as_started e.call j.recipe j.logs command is) (StartMove command 0 refl)))
              (Done _ (after w e)),
          λ b. halts_at Marked refl,
        )
    starts command w (e ∷ (f ∷ es)) (is, inr (quiet, rest)) = absurd rest
    starts command w (e ∷ []) (is, inr (quiet, rest)) =
        let child = started_call e.call j.recipe j.logs command is quiet in (
          at_phase (Running child.0),
          Next (at_phase Marked) (at_phase (Running child.0)) (at_phase (Running child.0)) w e []
              (moves Marked (Running child.0) w e (Started j.recipe j.logs command (Ok child.0)) child.1 (StartMove command child.0 refl)) (Done (at_phase (Running child.0)) (after w e)),
          λ bad. absurd (false≢true (sym (ap (λ b. b || false) quiet) ∙ bad)),
        )

    abbrev Clears : World → List Path → World → Type 0
    Clears w ps v = (x : Path) → IsIn ps x ⊎ IsAbsent w x → IsAbsent v x

    cleared : (w v : World) (e : Event) (p : Path) (ps : List Path) → request e.call ≡ Remove p → failed e.call ≡ false → Lets o.act w e.call e.left → Clears (after w e) ps v → Clears w (p ∷ ps) v
    cleared w v e p ps is quiet lets clears x c =
        let call = removed_call e.call p is quiet in
        clears x (elim c [
          | inl i ↦ elim i [
            | inl same ↦ inr (subst (IsAbsent (after w e)) (sym same) (absent_now o.act w e p call lets))
            | inr rest ↦ inl rest
          ]
          | inr h ↦ inr (absent_still o.act w e p call lets x h)
        ])

    drops : (ps : List Path) (w : World) (es : List Event) (qs : List Request)
        → ((p : Path) → IsIn ps p → IsIn (outputs j ++ record_places j) p) → Follows o.act w es → IsPart (remove_each ps ++ qs) es
        → ((v : World) (fs : List Event) → Clears w ps v → Follows o.act v fs → IsPart qs fs → Ends (at_phase Dropping) v fs) → Ends (at_phase Dropping) w es
    drops [] w es qs owns follows part more = more w es (λ x c. elim c [ inl i ↦ absurd i | inr h ↦ h ]) follows part
    drops (p ∷ ps) w es qs owns follows part more =
        one_part (at_phase Dropping) (at_phase Dropping) w es (Remove p) (remove_each ps ++ qs) (halts_at Dropping refl) part follows
        (λ e is. moves Dropping Dropping w (record e { call = as_ok e.call }) (Removed p (Ok tt)) (as_removed e.call p is) (Drop p (inr refl) (owns p (inl refl))))
        (λ e is quiet. moves Dropping Dropping w e (Removed p (Ok tt)) (removed_call e.call p is quiet) (Drop p (inr refl) (owns p (inl refl))))
        (λ e fs is quiet lets later rest. drops ps (after w e) fs qs (λ q i. owns q (inr i)) later rest (λ v gs clear. more v gs (cleared w v e p ps is quiet lets clear)))

    drops_settled : (w : World) (es : List Event) (qs : List Request) → ((p : Path) → IsIn (outputs j ++ record_places j) p → IsAbsent w p) → Follows o.act w es
        → IsPart (Settle (outputs j ++ record_places j) ∷ qs) es
        → ((v : World) (fs : List Event) → Follows o.act v fs → IsPart qs fs → Ends (at_phase Dropped) v fs) → Ends (at_phase Dropping) w es
    drops_settled w es qs gone follows part more =
        let all = outputs j ++ record_places j in
        let move : Moves o w (record j { phase = Dropping }) (Settled all (Ok tt)) Dropped =
        AllDropped all refl (each_of (IsAbsent w) all gone) (each_of (λ p. IsTrue (among all p)) all (λ p i. among_by all p i)) in
        one_part (at_phase Dropping) (at_phase Dropped) w es (Settle all) qs (halts_at Dropping refl) part follows
        (λ e is. moves Dropping Dropped w (record e { call = as_ok e.call }) (Settled all (Ok tt)) (as_settled e.call all is) move)
        (λ e is quiet. moves Dropping Dropped w e (Settled all (Ok tt)) (settled_call e.call all is quiet) move)
        (λ e fs is quiet lets later rest. more (after w e) fs later rest)

    unmarks : (ps : List Path) (w : World) (es : List Event) (qs : List Request)
        → ((p : Path) → IsIn ps p → IsIn (outputs j) p) → Follows o.act w es → IsPart (remove_each (map mark_place ps) ++ qs) es
        → ((v : World) (fs : List Event) → Clears w (map mark_place ps) v → Follows o.act v fs → IsPart qs fs → Ends (at_phase Dropped) v fs) → Ends (at_phase Dropped) w es
    unmarks [] w es qs owns follows part more = more w es (λ x c. elim c [ inl i ↦ absurd i | inr h ↦ h ]) follows part
    unmarks (p ∷ ps) w es qs owns follows part more =
        one_part (at_phase Dropped) (at_phase Dropped) w es (Remove (mark_place p)) (remove_each (map mark_place ps) ++ qs) (halts_at Dropped refl) part follows
        (λ e is. moves Dropped Dropped w (record e { call = as_ok e.call }) (Removed (mark_place p) (Ok tt)) (as_removed e.call (mark_place p) is) (Unmark p (inr refl) (owns p (inl refl))))
        (λ e is quiet. moves Dropped Dropped w e (Removed (mark_place p) (Ok tt)) (removed_call e.call (mark_place p) is quiet) (Unmark p (inr refl) (owns p (inl refl))))
        (λ e fs is quiet lets later rest. unmarks ps (after w e) fs qs (λ q i. owns q (inr i)) later rest (λ v gs clear. more v gs (cleared w v e (mark_place p) (map mark_place ps) is quiet lets clear)))

    closes : (w : World) (es : List Event) → ((p : Path) → IsIn (map mark_place (outputs j)) p → IsAbsent w p) → Follows o.act w es
        → IsPart (Settle (map mark_place (outputs j)) ∷ []) es → Ends (at_phase Dropped) w es
    closes w es gone follows part =
        let all = map mark_place (outputs j) in
        let end : RunState = record s { jobs = js ++ ks } in
        let close : Closes o w (record j { phase = Dropped }) (Settled all (Ok tt)) =
        AllUnmarked all (inr refl) (each_of (λ p. IsAbsent w (mark_place p)) (outputs j) (λ p i. gone (mark_place p) (in_map mark_place (outputs j) p i)))
        (each_of (λ p. IsTrue (among all p)) all (λ p i. among_by all p i)) in
        one_part (at_phase Dropped) end w es (Settle all) [] (halts_at Dropped refl) part follows
        (λ e is. Close (record e { call = as_ok e.call }) js ks (record j { phase = Dropped }) refl calm (subst (λ c. Closes o w (record j { phase = Dropped }) c) (sym (as_settled e.call all is)) close))
        (λ e is quiet. Close e js ks (record j { phase = Dropped }) refl calm (subst (λ c. Closes o w (record j { phase = Dropped }) c) (sym (settled_call e.call all is quiet)) close))
        (λ e fs is quiet lets later rest. over (after w e) fs rest)
      where
        over : (v : World) (fs : List Event) → IsPart [] fs → Ends (record s { jobs = js ++ ks }) v fs
        over v [] rest = (record s { jobs = js ++ ks }, Done (record s { jobs = js ++ ks }) v, λ bad. absurd (false≢true bad))
        over v (f ∷ fs) rest = absurd rest

-- ## What was carried out is a part

done_part : (rs : List Request) (es : List Event) → HasDone rs es → IsPart rs es
done_part [] [] h = tt
done_part [] (e ∷ es) h = absurd h
done_part (r ∷ rs) [] h = absurd h
done_part (r ∷ rs) (e ∷ es) h = (h.0, inr (h.1, done_part rs es h.2))

cut_part : (rs : List Request) (es : List Event) → IsCutShort rs es → IsPart rs es
cut_part [] es h = absurd h
cut_part (r ∷ rs) [] h = absurd h
cut_part (r ∷ rs) (e ∷ []) h = (h.0, inl (h.1, refl))
cut_part (r ∷ rs) (e ∷ (f ∷ es)) h = (h.0, inr (h.1, cut_part rs (f ∷ es) h.2))

pub carried_part : (rs : List Request) (ok : Bool) (es : List Event) → Carries rs ok es → IsPart rs es
carried_part rs true es h = done_part rs es h
carried_part rs false es h = cut_part rs es h

-- where they are cut short a call failed
cut_fails : (rs : List Request) (es : List Event) → IsCutShort rs es → fails es ≡ true
cut_fails [] es h = absurd h
cut_fails (r ∷ rs) [] h = absurd h
cut_fails (r ∷ rs) (e ∷ []) h = ap (λ b. b || false) h.1
cut_fails (r ∷ rs) (e ∷ (f ∷ es)) h = or_second (failed e.call) (fails (f ∷ es)) (cut_fails rs (f ∷ es) h.2)

-- ## All parts

abandoning_ends : (o : Outside) (s : RunState) (js ks : List OpenJob) (j : OpenJob) (number status : ℕ) (w : World) (es : List Event)
    → s.jobs ≡ js ++ j ∷ ks → s.faulted ≡ false → j.phase ≡ Ended status → outputs j ≢ [] → Follows o.act w es → IsPart (abandon_requests (as_underway j number)) es → Ends o (stopped o s) s w es
abandoning_ends o s js ks j number status w es at calm ended some follows part =
    let outs = outputs j in
    let kept = record_places j in
    let marks = map mark_place outs in
    let closing : List Request = remove_each marks ++ Settle marks ∷ [] in
    let settling : Request = Settle (outs ++ kept) in
    first outs some (in_first outs kept) (subst (λ rs. IsPart rs es) (abandoning.regrouped (remove_each outs) (remove_each kept) settling closing) part)
    (λ v fs clears follows1 part1.
    drops o goal s js ks j calm halts kept v fs (settling ∷ closing) (in_second outs kept) follows1 part1
    (λ u gs clears2 follows2 part2.
    drops_settled o goal s js ks j calm halts u gs closing
    (λ p i. elim (in_either outs kept p i) [ inl l ↦ clears2 p (inr (clears p (inl l))) | inr r ↦ clears2 p (inl r) ]) follows2 part2
    (λ x hs follows3 part3.
    unmarks o goal s js ks j calm halts outs x hs (Settle marks ∷ []) (λ p i. i) follows3 part3
    (λ y ls clears4 follows4 part4. closes o goal s js ks j calm halts y ls (λ p i. clears4 p (inl i)) follows4 part4))))
  where
    goal : RunState
    goal = stopped o s

    halts : halted o s js ks ≡ goal
    halts = λ i. record s { jobs = (sym (without (runs o) js ks j (ap is_running ended)) ∙ ap (filter (runs o)) (sym at)) i; faulted = true }

    first : (ps : List Path) → ps ≢ [] → ((p : Path) → IsIn ps p → IsIn (outputs j ++ record_places j) p)
        → IsPart (remove_each ps ++ (remove_each (record_places j) ++ Settle (outputs j ++ record_places j) ∷ (remove_each (map mark_place (outputs j)) ++ Settle (map mark_place (outputs j)) ∷ []))) es
        → ((v : World) (fs : List Event) → Clears o goal s js ks j calm halts w ps v → Follows o.act v fs
        → IsPart (remove_each (record_places j) ++ Settle (outputs j ++ record_places j) ∷ (remove_each (map mark_place (outputs j)) ++ Settle (map mark_place (outputs j)) ∷ [])) fs → Ends o goal (at_phase o goal s js ks j calm halts Dropping) v fs)
        → Ends o goal s w es
    first [] some owns part more = absurd (some refl)
    first (p ∷ ps) some owns part more =
        one_part o goal s (at_phase o goal s js ks j calm halts Dropping) w es (Remove p) _ refl part follows
        (λ e is. Go (record e { call = as_ok e.call }) js ks j Dropping at (inl calm) (subst (λ c. Moves o w j c Dropping) (sym (as_removed e.call p is)) (Drop p (inl (status, ended)) (owns p (inl refl)))))
        (λ e is quiet. Go e js ks j Dropping at (inl calm) (subst (λ c. Moves o w j c Dropping) (sym (removed_call e.call p is quiet)) (Drop p (inl (status, ended)) (owns p (inl refl)))))
        (λ e fs is quiet lets later rest.
        drops o goal s js ks j calm halts ps (after w e) fs _ (λ q i. owns q (inr i)) later rest (λ v gs clear. more v gs (cleared o goal s js ks j calm halts w v e p ps is quiet lets clear)))

pub abandoning_parts : AbandoningPartsRun
abandoning_parts o s js ks j number status w es at calm ended some follows part =
    let r = abandoning_ends o s js ks j number status w es at calm ended some follows part in
    (r.0, r.1)

pub abandoning_fails : AbandoningFails
abandoning_fails o s js ks j number status w es at calm ended some follows cut =
    let r = abandoning_ends o s js ks j number status w es at calm ended some follows (cut_part (abandon_requests (as_underway j number)) es cut) in
    subst (λ x. Runs o s w es x) (r.2 (cut_fails (abandon_requests (as_underway j number)) es cut)) r.1

beginning_ends : (o : Outside) (s : RunState) (j : OpenJob) (top : ℕ) (command : List ℕ) (w : World) (es : List Event)
    → s.faulted ≡ false → s.steady ≡ true → MayBegin o s w j → HasSerial o s w j top → j.phase ≡ Marking → outputs j ≢ [] → HasOwnFolder w
    → Follows o.act w es → IsPart (begin_requests j.recipe j.logs command) es → Ends o (record (stopped o s) { top = top }) s w es
beginning_ends o s j top command w es calm steady may serial marking some none_owned follows part =
    let outs = outputs j in
    let all = mark_places j in
    let start : Request = Start j.recipe j.logs command in
    first all (some_marks outs j.logs some) (λ p i. i)
    (λ p i. each_in (λ q. IsKnown (w.nodes q)) all p (known_marking w outs j.logs none_owned) i)
    (subst (λ rs. IsPart rs es) (beginning.regrouped (make_each all) (Settle all) (remove_each outs) (parents_each (own j)) start) part)
    (λ v fs stood follows1 part1.
    marks_settled o goal begun [] s.jobs j calm refl v fs (remove_each outs ++ (parents_each (own j) ++ start ∷ [])) (λ p i. stood p (inl i)) follows1 part1
    (λ v1 fs1 follows2 part2. clears o goal begun [] s.jobs j calm refl outs v1 fs1 (parents_each (own j) ++ start ∷ []) (λ p i. i) follows2 part2
    (λ v2 fs2 follows3 part3. parents o goal begun [] s.jobs j calm refl (own j) v2 fs2 (start ∷ []) (λ p i. i) follows3 part3
    (λ v3 fs3 follows4 part4. starts o goal begun [] s.jobs j calm refl command v3 fs3 part4))))
  where
    begun : RunState
    begun = record s { jobs = j ∷ s.jobs; top = top }

    goal : RunState
    goal = record (stopped o s) { top = top }

    halts_begun : record begun { jobs = filter (runs o) (j ∷ s.jobs); faulted = true } ≡ goal
    halts_begun = ap (λ (l : List OpenJob). record begun { jobs = l; faulted = true }) (without (runs o) [] s.jobs j (ap is_running marking))

    rest_of : List Request
    rest_of = Settle (mark_places j) ∷ (remove_each (outputs j) ++ (parents_each (own j) ++ Start j.recipe j.logs command ∷ []))

    first : (ps : List Path) → ps ≢ [] → ((p : Path) → IsIn ps p → IsIn (mark_places j) p) → ((p : Path) → IsIn ps p → IsKnown (w.nodes p)) → IsPart (make_each ps ++ rest_of) es
        → ((v : World) (fs : List Event) → ((x : Path) → IsIn ps x ⊎ Stands (w.nodes x) → Stands (v.nodes x)) → Follows o.act v fs → IsPart rest_of fs → Ends o goal (at_phase o goal begun [] s.jobs j calm refl Marking) v fs)
        → Ends o goal s w es
    first [] some places known part more = absurd (some refl)
    first (p ∷ ps) some places known part more =
        one_part o goal s begun w es (MakeParents p) (Create p ∷ (make_each ps ++ rest_of)) refl part follows
        (λ e is. Begin (record e { call = as_ok e.call }) j top calm steady may serial marking (subst (λ c. IsFirst o c (mark_places j)) (sym (as_parents e.call p is)) (places p (inl refl))))
        (λ e is quiet. Begin e j top calm steady may serial marking (subst (λ c. IsFirst o c (mark_places j)) (sym (parents_call e.call p is quiet)) (places p (inl refl))))
        (λ e fs is quiet lets later rest.
        let s1 = stepped o.act (MakeParents p) w e lets is quiet in
        one_part o goal begun (at_phase o goal begun [] s.jobs j calm refl Marking) (after w e) fs (Create p) (make_each ps ++ rest_of) halts_begun rest later
        (λ f on. Go (record f { call = as_ok f.call }) [] s.jobs j Marking refl (inl calm) (subst (λ c. Moves o (after w e) j c Marking) (sym (as_created f.call p on)) (Mark p true marking (places p (inl refl)))))
        (λ f on quiet2.
        let made = created_call f.call p on quiet2 in
        Go f [] s.jobs j Marking refl (inl calm) (subst (λ c. Moves o (after w e) j c Marking) (sym made.1) (Mark p made.0 marking (places p (inl refl)))))
        (λ f gs on quiet2 lets2 later2 rest2.
        let v = after (after w e) f in
        let s2 = stepped o.act (Create p) (after w e) f lets2 on quiet2 in
        makes o goal begun [] s.jobs j calm refl ps v gs rest_of (λ q i. places q (inr i))
        (λ q i. step_known o.act (Create p) (after w e) v q s2 refl (step_known o.act (MakeParents p) w (after w e) q s1 refl (known q (inr i)))) later2 rest2
        (λ u hs stood. more u hs (λ x c. stood x (elim c [
          | inl i ↦ elim i [
            | inl same ↦ inr (subst (λ y. Stands (v.nodes y)) (sym same) (created o.act p (after w e) v s2 (step_known o.act (MakeParents p) w (after w e) p s1 refl (known p (inl refl)))))
            | inr more_of ↦ inl more_of
          ]
          | inr h ↦ inr (stands_created o.act p x (after w e) v s2 (stands_parents o.act p x w (after w e) s1 h))
        ])))))

pub beginning_parts : BeginningPartsRun
beginning_parts o s j top command w es calm steady may serial marking some none_owned follows part =
    let r = beginning_ends o s j top command w es calm steady may serial marking some none_owned follows part in
    (r.0, r.1)

pub beginning_fails : BeginningFails
beginning_fails o s j top command w es calm steady may serial marking some none_owned follows cut =
    let r = beginning_ends o s j top command w es calm steady may serial marking some none_owned follows (cut_part (begin_requests j.recipe j.logs command) es cut) in
    subst (λ x. Runs o s w es x) (r.2 (cut_fails (begin_requests j.recipe j.logs command) es cut)) r.1
