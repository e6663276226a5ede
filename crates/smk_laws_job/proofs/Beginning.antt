-- The calls of `begin` are a run of the protocol after which the job's child runs.
use Rattle.std.proofs.Common.{◌≡◌, ◌≢◌, ◌⊎◌, inl, inr, ℕ, Bool, true, false, List, [], ◌∷◌, ◌++◌, map, refl, sym, ap, subst, ◌∙◌, append_assoc, Ok, Err, true≢false}
use Rattle.std.specs.Prelude.{IsTrue}
use Rattle.smk_base.specs.Place.{mark_place, note_place}
use Rattle.smk_base.specs.declared.tree.Tree.{Tree}
use Rattle.smk_world.specs.declared.event.Call.{Call}
use Rattle.smk_world.specs.declared.event.Call.TheVariants.{Looked, ReadFile, ReadFolder, Written, Created, Removed, MadeParents, Settled, Protected, Started, Waited}
use Rattle.smk_world.specs.declared.event.Event.{Event}
use Rattle.smk_world.specs.declared.recipe.Recipe.{Recipe}
use Rattle.smk_world.specs.World.{World, after}
use Rattle.smk_world.specs.Calls.{Acted, Lets, Stands, failed, started_number, started_numbers}
use Rattle.smk_world.specs.Runs.{Follows}
use Rattle.smk_world.specs.Requests.{Request, request, HasDone}
use Rattle.smk_world.specs.Requests.Request.{Create, MakeParents, Settle, Start}
use Rattle.smk_world.specs.Trees.{Path, IsIn, among}
use Rattle.std.proofs.lemmas.List.{append-nil}
use Rattle.smk_store_members.proofs.Trees.{stands_some}
use Rattle.smk_store.specs.Soundness.{Outside}
use Rattle.smk_store.specs.Steps.{make_each, remove_each}
use Rattle.smk_laws_protocol.specs.Protocol.{OpenJob, RunState, Phase, Marking, Marked, Running, Runs, Done, Next, Begin, Go, Moves, MakeFolders, Mark, AllMarked, MakeRoom, Start as StartMove, MayBegin, HasSerial, outputs, own, mark_places, IsThere, IsFirst}
use Rattle.smk_laws_protocol.proofs.Basics.{each_of, each_in}
use Rattle.smk_job.specs.Jobs.{parents_each}
use Rattle.smk_laws_job.specs.Laws.{BeginningRuns}
use Rattle.smk_job.proofs.Single.{IsKnown, Stepped, step_known, created}
use Rattle.smk_job.proofs.Firmly.{stands_parents, stands_created}
use Rattle.smk_laws_job.proofs.Owned.{known_marking}
use Rattle.smk_laws_job.proofs.Abandoning.{removed_call, settled_call}
use Rattle.smk_job.proofs.Lists.{among_by}

-- ## What was called

pub parents_call : (call : Call) (p : Path) → request call ≡ MakeParents p → failed call ≡ false → call ≡ MadeParents p (Ok tt)
parents_call (MadeParents x (Ok u)) p is quiet = let e : x ≡ p = cc in ap (λ y. MadeParents y (Ok tt)) e
parents_call (MadeParents x (Err e)) p is quiet = absurd (true≢false quiet)
parents_call (Looked x r) p is quiet = cc
parents_call (ReadFile x limit r) p is quiet = cc
parents_call (ReadFolder x r) p is quiet = cc
parents_call (Written x bytes r) p is quiet = cc
parents_call (Created x r) p is quiet = cc
parents_call (Removed x r) p is quiet = cc
parents_call (Settled xs r) p is quiet = cc
parents_call (Protected x r) p is quiet = cc
parents_call (Started recipe logs command r) p is quiet = cc
parents_call (Waited r) p is quiet = cc

pub created_call : (call : Call) (p : Path) → request call ≡ Create p → failed call ≡ false → (made : Bool) × (call ≡ Created p (Ok made))
created_call (Created x (Ok made)) p is quiet = let e : x ≡ p = cc in (made, ap (λ y. Created y (Ok made)) e)
created_call (Created x (Err e)) p is quiet = absurd (true≢false quiet)
created_call (Looked x r) p is quiet = cc
created_call (ReadFile x limit r) p is quiet = cc
created_call (ReadFolder x r) p is quiet = cc
created_call (Written x bytes r) p is quiet = cc
created_call (MadeParents x r) p is quiet = cc
created_call (Removed x r) p is quiet = cc
created_call (Settled xs r) p is quiet = cc
created_call (Protected x r) p is quiet = cc
created_call (Started recipe logs command r) p is quiet = cc
created_call (Waited r) p is quiet = cc

pub started_call : (call : Call) (r : Recipe) (ls : List Path) (command : List ℕ) → request call ≡ Start r ls command → failed call ≡ false → (n : ℕ) × (call ≡ Started r ls command (Ok n))
started_call (Started x xs c (Ok n)) r ls command is quiet =
    let e : x ≡ r = cc in
    let f : xs ≡ ls = cc in
    let g : c ≡ command = cc in
    (n, λ i. Started (e i) (f i) (g i) (Ok n))
started_call (Started x xs c (Err e)) r ls command is quiet = absurd (true≢false quiet)
started_call (Looked x y) r ls command is quiet = cc
started_call (ReadFile x limit y) r ls command is quiet = cc
started_call (ReadFolder x y) r ls command is quiet = cc
started_call (Written x bytes y) r ls command is quiet = cc
started_call (Created x y) r ls command is quiet = cc
started_call (MadeParents x y) r ls command is quiet = cc
started_call (Removed x y) r ls command is quiet = cc
started_call (Settled xs y) r ls command is quiet = cc
started_call (Protected x y) r ls command is quiet = cc
started_call (Waited y) r ls command is quiet = cc

pub stepped : (act : Recipe → List Tree → Acted) (r : Request) (w : World) (e : Event) → Lets act w e.call e.left → request e.call ≡ r → failed e.call ≡ false → Stepped act r w (after w e)
stepped act r w e lets is quiet = record { event = e; lets = lets; is = is; quiet = quiet; now = refl }

-- ## One job of a run

module _ (o : Outside) (s : RunState) (j : OpenJob) (top number : ℕ) (calm : s.faulted ≡ false) where
  abbrev at_phase : Phase → RunState
  at_phase phase = record s { jobs = (record j { phase = phase }) ∷ s.jobs; top = top }

  -- these calls come, all Ok, and start this child
  abbrev Comes : World → List Request → List Event → Type 0
  Comes w rs es = Follows o.act w es × HasDone rs es × (started_numbers es ≡ number ∷ [])

  none_before : (c : Call) (e : Event) (es : List Event) → e.call ≡ c → started_number c ≡ [] → started_numbers (e ∷ es) ≡ number ∷ [] → started_numbers es ≡ number ∷ []
  none_before c e es is none told = sym (ap (λ l. l ++ started_numbers es) (ap started_number is ∙ none)) ∙ told

  -- the marks and notes are made
  abbrev Stood : World → List Path → World → Type 0
  Stood w ps v = (x : Path) → IsIn ps x ⊎ Stands (w.nodes x) → Stands (v.nodes x)

  makes : (ps : List Path) (w : World) (es : List Event) (qs : List Request) (end : RunState)
      → ((p : Path) → IsIn ps p → IsIn (mark_places j) p) → ((p : Path) → IsIn ps p → IsKnown (w.nodes p)) → Comes w (make_each ps ++ qs) es
      → ((v : World) (fs : List Event) → Stood w ps v → Comes v qs fs → Runs o (at_phase Marking) v fs end) → Runs o (at_phase Marking) w es end
  makes [] w es qs end places known comes more = more w es (λ x c. elim c [ inl i ↦ absurd i | inr h ↦ h ]) comes
  makes (p ∷ ps) w [] qs end places known comes more = absurd comes.1
  makes (p ∷ ps) w (e ∷ []) qs end places known comes more = absurd comes.1.2
  makes (p ∷ ps) w (e ∷ (f ∷ es)) qs end places known comes more =
      let is = parents_call e.call p comes.1.0 comes.1.1 in
      let made = created_call f.call p comes.1.2.0 comes.1.2.1 in
      let s1 = stepped o.act (MakeParents p) w e comes.0.0.lets comes.1.0 comes.1.1 in
      let s2 = stepped o.act (Create p) (after w e) f comes.0.1.0.lets comes.1.2.0 comes.1.2.1 in
      let v = after (after w e) f in
      Next (at_phase Marking) (at_phase Marking) end w e (f ∷ es)
      (Go e [] s.jobs (record j { phase = Marking }) Marking refl (inl calm)
      (subst (λ c. Moves o w (record j { phase = Marking }) c Marking) (sym is) (MakeFolders p (inl (refl, places p (inl refl))))))
      (Next (at_phase Marking) (at_phase Marking) end (after w e) f es
      (Go f [] s.jobs (record j { phase = Marking }) Marking refl (inl calm)
      (subst (λ c. Moves o (after w e) (record j { phase = Marking }) c Marking) (sym made.1) (Mark p made.0 refl (places p (inl refl)))))
      (makes ps v es qs end (λ q i. places q (inr i))
      (λ q i. step_known o.act (Create p) (after w e) v q s2 refl (step_known o.act (MakeParents p) w (after w e) q s1 refl (known q (inr i))))
      (comes.0.1.1, comes.1.2.2, none_before (Created p (Ok made.0)) f es made.1 refl (none_before (MadeParents p (Ok tt)) e (f ∷ es) is refl comes.2))
      (λ u gs stood. more u gs (λ x c. stood x (elim c [
        | inl i ↦ elim i [
          | inl same ↦ inr (subst (λ y. Stands (v.nodes y)) (sym same) (created o.act p (after w e) v s2 (step_known o.act (MakeParents p) w (after w e) p s1 refl (known p (inl refl)))))
          | inr rest ↦ inl rest
        ]
        | inr h ↦ inr (stands_created o.act p x (after w e) v s2 (stands_parents o.act p x w (after w e) s1 h))
      ])))))

  -- they are settled
  marks_settled : (w : World) (es : List Event) (qs : List Request) (end : RunState)
      → ((p : Path) → IsIn (mark_places j) p → Stands (w.nodes p)) → Comes w (Settle (mark_places j) ∷ qs) es
      → ((v : World) (fs : List Event) → Comes v qs fs → Runs o (at_phase Marked) v fs end) → Runs o (at_phase Marking) w es end
  marks_settled w [] qs end there comes more = absurd comes.1
  marks_settled w (e ∷ es) qs end there comes more =
      let all = mark_places j in
      let is = settled_call e.call all comes.1.0 comes.1.1 in
      Next (at_phase Marking) (at_phase Marked) end w e es
      (Go e [] s.jobs (record j { phase = Marking }) Marked refl (inl calm)
      (subst (λ c. Moves o w (record j { phase = Marking }) c Marked) (sym is)
      (AllMarked all refl (each_of (IsThere w) all (λ p i. stands_some (w.nodes p) (there p i))) (each_of (λ p. IsTrue (among all p)) all (λ p i. among_by all p i)))))
      (more (after w e) es (comes.0.1, comes.1.2, none_before (Settled all (Ok tt)) e es is refl comes.2))

  -- the outputs are removed
  clears : (ps : List Path) (w : World) (es : List Event) (qs : List Request) (end : RunState)
      → ((p : Path) → IsIn ps p → IsIn (outputs j) p) → Comes w (remove_each ps ++ qs) es
      → ((v : World) (fs : List Event) → Comes v qs fs → Runs o (at_phase Marked) v fs end) → Runs o (at_phase Marked) w es end
  clears [] w es qs end outs comes more = more w es comes
  clears (p ∷ ps) w [] qs end outs comes more = absurd comes.1
  clears (p ∷ ps) w (e ∷ es) qs end outs comes more =
      let is = removed_call e.call p comes.1.0 comes.1.1 in
      Next (at_phase Marked) (at_phase Marked) end w e es
      (Go e [] s.jobs (record j { phase = Marked }) Marked refl (inl calm)
      (subst (λ c. Moves o w (record j { phase = Marked }) c Marked) (sym is) (MakeRoom p refl (outs p (inl refl)))))
      (clears ps (after w e) es qs end (λ q i. outs q (inr i)) (comes.0.1, comes.1.2, none_before (Removed p (Ok tt)) e es is refl comes.2) more)

  -- the folders of outputs and logs are made
  parents : (ps : List Path) (w : World) (es : List Event) (qs : List Request) (end : RunState)
      → ((p : Path) → IsIn ps p → IsIn (own j) p) → Comes w (parents_each ps ++ qs) es
      → ((v : World) (fs : List Event) → Comes v qs fs → Runs o (at_phase Marked) v fs end) → Runs o (at_phase Marked) w es end
  parents [] w es qs end owns comes more = more w es comes
  parents (p ∷ ps) w [] qs end owns comes more = absurd comes.1
  parents (p ∷ ps) w (e ∷ es) qs end owns comes more =
      let is = parents_call e.call p comes.1.0 comes.1.1 in
      Next (at_phase Marked) (at_phase Marked) end w e es
      (Go e [] s.jobs (record j { phase = Marked }) Marked refl (inl calm)
      (subst (λ c. Moves o w (record j { phase = Marked }) c Marked) (sym is) (MakeFolders p (inr (inl (refl, owns p (inl refl)))))))
      (parents ps (after w e) es qs end (λ q i. owns q (inr i)) (comes.0.1, comes.1.2, none_before (MadeParents p (Ok tt)) e es is refl comes.2) more)

  -- the command is started
  starts : (command : List ℕ) (w : World) (es : List Event) → Comes w (Start j.recipe j.logs command ∷ []) es → Runs o (at_phase Marked) w es (at_phase (Running number))
  starts command w [] comes = absurd comes.1
  starts command w (e ∷ (f ∷ es)) comes = absurd comes.1.2
  starts command w (e ∷ []) comes =
      let child = started_call e.call j.recipe j.logs command comes.1.0 comes.1.1 in
      let told : child.0 ∷ [] ≡ number ∷ [] = sym (append-nil (started_number e.call) ∙ ap started_number child.1) ∙ comes.2 in
      let same : child.0 ≡ number = cc in
      Next (at_phase Marked) (at_phase (Running number)) (at_phase (Running number)) w e []
      (Go e [] s.jobs (record j { phase = Marked }) (Running number) refl (inl calm)
      (subst (λ c. Moves o w (record j { phase = Marked }) c (Running number)) (sym (child.1 ∙ ap (λ n. Started j.recipe j.logs command (Ok n)) same)) (StartMove command number refl)))
      (Done (at_phase (Running number)) (after w e))

  -- the first mark
  begins : (ps : List Path) (w : World) (es : List Event) (qs : List Request) (end : RunState)
      → s.steady ≡ true → MayBegin o s w j → HasSerial o s w j top → j.phase ≡ Marking → ps ≢ []
      → ((p : Path) → IsIn ps p → IsIn (mark_places j) p) → ((p : Path) → IsIn ps p → IsKnown (w.nodes p)) → Comes w (make_each ps ++ qs) es
      → ((v : World) (fs : List Event) → Stood w ps v → Comes v qs fs → Runs o (at_phase Marking) v fs end) → Runs o s w es end
  begins [] w es qs end steady may serial marking some places known comes more = absurd (some refl)
  begins (p ∷ ps) w [] qs end steady may serial marking some places known comes more = absurd comes.1
  begins (p ∷ ps) w (e ∷ []) qs end steady may serial marking some places known comes more = absurd comes.1.2
  begins (p ∷ ps) w (e ∷ (f ∷ es)) qs end steady may serial marking some places known comes more =
      let is = parents_call e.call p comes.1.0 comes.1.1 in
      let made = created_call f.call p comes.1.2.0 comes.1.2.1 in
      let s1 = stepped o.act (MakeParents p) w e comes.0.0.lets comes.1.0 comes.1.1 in
      let s2 = stepped o.act (Create p) (after w e) f comes.0.1.0.lets comes.1.2.0 comes.1.2.1 in
      let v = after (after w e) f in
      let begun : RunState = record s { jobs = j ∷ s.jobs; top = top } in
      Next s begun end w e (f ∷ es)
      (Begin e j top calm steady may serial marking (subst (λ c. IsFirst o c (mark_places j)) (sym is) (places p (inl refl))))
      (Next begun (at_phase Marking) end (after w e) f es
      (Go f [] s.jobs j Marking refl (inl calm) (subst (λ c. Moves o (after w e) j c Marking) (sym made.1) (Mark p made.0 marking (places p (inl refl)))))
      (makes ps v es qs end (λ q i. places q (inr i))
      (λ q i. step_known o.act (Create p) (after w e) v q s2 refl (step_known o.act (MakeParents p) w (after w e) q s1 refl (known q (inr i))))
      (comes.0.1.1, comes.1.2.2, none_before (Created p (Ok made.0)) f es made.1 refl (none_before (MadeParents p (Ok tt)) e (f ∷ es) is refl comes.2))
      (λ u gs stood. more u gs (λ x c. stood x (elim c [
        | inl i ↦ elim i [
          | inl same ↦ inr (subst (λ y. Stands (v.nodes y)) (sym same) (created o.act p (after w e) v s2 (step_known o.act (MakeParents p) w (after w e) p s1 refl (known p (inl refl)))))
          | inr rest ↦ inl rest
        ]
        | inr h ↦ inr (stands_created o.act p x (after w e) v s2 (stands_parents o.act p x w (after w e) s1 h))
      ])))))

pub some_marks : (outs logs : List Path) → outs ≢ [] → map mark_place outs ++ map note_place logs ≢ []
some_marks [] logs some = absurd (some refl)
some_marks (p ∷ outs) logs some = λ e. cc

pub regrouped : (a : List Request) (b : Request) (c d : List Request) (e : Request) → ((a ++ b ∷ []) ++ (c ++ d)) ++ e ∷ [] ≡ a ++ (b ∷ (c ++ (d ++ e ∷ [])))
regrouped a b c d e =
    append_assoc (a ++ b ∷ []) (c ++ d) (e ∷ []) ∙ append_assoc a (b ∷ []) ((c ++ d) ++ e ∷ []) ∙ ap (λ t. a ++ (b ∷ t)) (append_assoc c d (e ∷ []))

pub beginning_runs : BeginningRuns
beginning_runs o s j top number command w es calm steady may serial marking some none_owned follows done told =
    let outs = outputs j in
    let all = mark_places j in
    let owned = own j in
    let start : Request = Start j.recipe j.logs command in
    let end : RunState = record s { jobs = (record j { phase = Running number }) ∷ s.jobs; top = top } in
    begins o s j top number calm all w es (Settle all ∷ (remove_each outs ++ (parents_each owned ++ start ∷ []))) end steady may serial marking (some_marks outs j.logs some) (λ p i. i)
    (λ p i. each_in (λ q. IsKnown (w.nodes q)) all p (known_marking w outs j.logs none_owned) i)
    (follows, subst (λ rs. HasDone rs es) (regrouped (make_each all) (Settle all) (remove_each outs) (parents_each owned) start) done, told)
    (λ v fs stood comes.
    marks_settled o s j top number calm v fs (remove_each outs ++ (parents_each owned ++ start ∷ [])) end (λ p i. stood p (inl i)) comes
    (λ v1 fs1 comes1. clears o s j top number calm outs v1 fs1 (parents_each owned ++ start ∷ []) end (λ p i. i) comes1
    (λ v2 fs2 comes2. parents o s j top number calm owned v2 fs2 (start ∷ []) end (λ p i. i) comes2
    (λ v3 fs3 comes3. starts o s j top number calm command v3 fs3 comes3))))
