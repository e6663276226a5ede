-- A child is started for an open job, and what an open job reads is at hand.
use Rattle.std.proofs.Common.{◌≡◌, ℕ, zero, suc, Bool, true, false, cond, List, [], ◌∷◌, ◌++◌, zip, length, refl, sym, ap, subst, inl, inr, ◌∙◌, Option, Some, None}
use Rattle.std.proofs.lemmas.Option.{same_Some}
use Rattle.smk_world.specs.declared.recipe.Recipe.{Recipe}
use Rattle.smk_world.specs.declared.event.Call.{Call}
use Rattle.smk_world.specs.declared.event.Call.TheVariants.{Looked, ReadFile, ReadFolder, Written, Created, Removed, MadeParents, Settled, Protected, Started, Waited}
use Rattle.smk_world.specs.declared.event.Event.{Event}
use Rattle.smk_world.specs.World.{World, after, run, in_paths}
use Rattle.smk_world.specs.Runs.{Follows}
use Rattle.smk_world.specs.Trees.{Path, Each, IsIn}
use Rattle.smk_record.specs.declared.record.Stamp.{Stamp}
use Rattle.smk_store.specs.Images.{Image, Content, file_at, is_source, seen}
use Rattle.smk_store.specs.Soundness.{Outside}
use Rattle.smk_laws_protocol.specs.Protocol.{OpenJob, RunState, Phase, Moves, MakeFolders, Mark, AllMarked, MakeRoom, Start, Wait, AllMade, Write, AllWritten, Drop, AllDropped, Unmark, Closes, AllUnmarked, Besides, Look, Lock, Settle, Spend, Protect, IsAtHand, IsFirst, IsLock, IsLook, Step, Aside, Steady, Begin, Go, Close, Fail, FailWait, Runs, Done, Next, as_ok, eased}
use Rattle.smk_laws_protocol.specs.Midway.{Fits, at_entry}
use Rattle.smk_laws_protocol.proofs.Basics.{each_in, each_of}
use Rattle.smk_laws_protocol.proofs.MidwayHolds.{holds_midway}
use Rattle.smk_store.specs.Soundness.{SoundWorld}
use Rattle.smk_store.specs.Trust.{Versions, SumsDiffer}
use Rattle.smk_world.proofs.Runs.{run_append}
use Rattle.smk_laws_refusing.specs.Parts.{AreRuns, One, Then}
use Rattle.smk_laws_refusing.proofs.Parts.{follows_after, parts_are_safe, split_before}
use Rattle.smk_laws_call.specs.Started.{IsFinished, ASource, AnOutput, RunsStartOnFinished, StartsOnFinished}

-- ## The state before an event

before_step :
    (o : Outside) (s end : RunState) (w : World) (es rest : List Event) (e : Event) → Runs o s w (es ++ e ∷ rest) end →
    (mid : RunState) × Runs o s w es mid × ((next : RunState) × Step o mid (run w es) e next)
before_step o s end w [] rest e (Next _ mid _ _ _ _ step runs) = (s, Done s w, (mid, step))
before_step o s end w (x ∷ es) rest e (Next _ mid _ _ _ _ step runs) =
    let f = before_step o mid end (after w x) es rest e runs in (f.0, Next s mid f.0 w x es step f.1, f.2)

front_follows : (o : Outside) (w : World) (es rest : List Event) → Follows o.act w (es ++ rest) → Follows o.act w es
front_follows o w [] rest follows = tt
front_follows o w (e ∷ es) rest follows = (follows.0, front_follows o (after w e) es rest follows.1)

-- ## The start of a child

-- the recipe with which a child is started
abbrev started_recipe : Call → Option Recipe
started_recipe (Started recipe logs command r) = Some recipe
started_recipe (Looked p r) = None
started_recipe (ReadFile p limit r) = None
started_recipe (ReadFolder p r) = None
started_recipe (Written p bytes r) = None
started_recipe (Created p r) = None
started_recipe (Removed p r) = None
started_recipe (MadeParents p r) = None
started_recipe (Settled ps r) = None
started_recipe (Protected p r) = None
started_recipe (Waited r) = None

as_ok_starts : (c : Call) → started_recipe (as_ok c) ≡ started_recipe c
as_ok_starts (Started recipe logs command r) = refl
as_ok_starts (Looked p r) = refl
as_ok_starts (ReadFile p limit r) = refl
as_ok_starts (ReadFolder p r) = refl
as_ok_starts (Written p bytes r) = refl
as_ok_starts (Created p r) = refl
as_ok_starts (Removed p r) = refl
as_ok_starts (MadeParents p r) = refl
as_ok_starts (Settled ps r) = refl
as_ok_starts (Protected p r) = refl
as_ok_starts (Waited r) = refl

none_starts : (recipe : Recipe) → ◌≡◌ {A = Option Recipe} None (Some recipe) → ⊥
none_starts recipe h = cc

module _ (o : Outside) (recipe : Recipe) where
  abbrev Starts : Call → Type 0
  Starts c = started_recipe c ≡ Some recipe

  look_not : (c : Call) → IsLook o c → Starts c → ⊥
  look_not (Looked p r) l k = none_starts recipe k
  look_not (ReadFile p limit r) l k = none_starts recipe k
  look_not (ReadFolder p r) l k = none_starts recipe k
  look_not (Started again logs command r) l k = l
  look_not (Written p bytes r) l k = l
  look_not (Created p r) l k = l
  look_not (Removed p r) l k = l
  look_not (MadeParents p r) l k = l
  look_not (Settled ps r) l k = l
  look_not (Protected p r) l k = l
  look_not (Waited r) l k = l

  lock_not : (c : Call) → IsLock o c → Starts c → ⊥
  lock_not (Created p r) l k = none_starts recipe k
  lock_not (Removed p r) l k = none_starts recipe k
  lock_not (MadeParents p r) l k = none_starts recipe k
  lock_not (Started again logs command r) l k = l
  lock_not (Looked p r) l k = l
  lock_not (ReadFile p limit r) l k = l
  lock_not (ReadFolder p r) l k = l
  lock_not (Written p bytes r) l k = l
  lock_not (Settled ps r) l k = l
  lock_not (Protected p r) l k = l
  lock_not (Waited r) l k = l

  first_not : (c : Call) (ps : List Path) → IsFirst o c ps → Starts c → ⊥
  first_not (Started again logs command r) ps f k = f
  first_not (Created p r) ps f k = none_starts recipe k
  first_not (MadeParents p r) ps f k = none_starts recipe k
  first_not (Looked p r) ps f k = none_starts recipe k
  first_not (ReadFile p limit r) ps f k = none_starts recipe k
  first_not (ReadFolder p r) ps f k = none_starts recipe k
  first_not (Written p bytes r) ps f k = none_starts recipe k
  first_not (Removed p r) ps f k = none_starts recipe k
  first_not (Settled qs r) ps f k = none_starts recipe k
  first_not (Protected p r) ps f k = none_starts recipe k
  first_not (Waited r) ps f k = none_starts recipe k

  module _ (w : World) where
    besides_not : (s : RunState) (c : Call) → Besides o s w c → Starts c → ⊥
    besides_not s _ (Look c l) k = look_not c l k
    besides_not s _ (Lock c l) k = lock_not c l k
    besides_not s _ (Settle ps) k = none_starts recipe k
    besides_not s _ (Spend p r free) k = none_starts recipe k
    besides_not s _ (Protect p r free) k = none_starts recipe k

    closes_not : (j : OpenJob) (c : Call) → Closes o w j c → Starts c → ⊥
    closes_not j _ (AllUnmarked ps at gone among) k = none_starts recipe k

    moves_start : (j : OpenJob) (c : Call) (phase : Phase) → Moves o w j c phase → Starts c → j.recipe ≡ recipe
    moves_start j _ _ (MakeFolders p at) k = absurd (none_starts recipe k)
    moves_start j _ _ (Mark p made at i) k = absurd (none_starts recipe k)
    moves_start j _ _ (AllMarked ps at there among) k = absurd (none_starts recipe k)
    moves_start j _ _ (MakeRoom p at i) k = absurd (none_starts recipe k)
    moves_start j _ _ (Start command n at) k = same_Some j.recipe recipe k
    moves_start j _ _ (Wait n status at) k = absurd (none_starts recipe k)
    moves_start j _ _ (AllMade ps at good among) k = absurd (none_starts recipe k)
    moves_start j _ _ (Write p bytes at i is) k = absurd (none_starts recipe k)
    moves_start j _ _ (AllWritten ps at written among) k = absurd (none_starts recipe k)
    moves_start j _ _ (Drop p at i) k = absurd (none_starts recipe k)
    moves_start j _ _ (AllDropped ps at gone among) k = absurd (none_starts recipe k)
    moves_start j _ _ (Unmark p at i) k = absurd (none_starts recipe k)

    in_middle : (js ks : List OpenJob) (j : OpenJob) → IsIn (js ++ j ∷ ks) j
    in_middle [] ks j = inl refl
    in_middle (x ∷ js) ks j = inr (in_middle js ks j)

    -- it is started for an open job
    for_job : (s next : RunState) (e : Event) → Step o s w e next → Starts e.call → (j : OpenJob) × IsIn s.jobs j × (j.recipe ≡ recipe)
    for_job s _ e (Aside _ calm besides) k = absurd (besides_not s e.call besides k)
    for_job s _ e (Steady _ ps calm none is all) k = absurd (none_starts recipe (sym (ap started_recipe is) ∙ k))
    for_job s _ e (Begin _ j top calm steady may serial at first) k = absurd (first_not e.call _ first k)
    for_job s _ e (Go _ js ks j phase is may moves) k =
        (j, subst (λ l. IsIn l j) (sym is) (in_middle js ks j), moves_start j e.call phase moves k)
    for_job s _ e (Close _ js ks j is calm closes) k = absurd (closes_not j e.call closes k)
    for_job s _ e (Fail _ mid failed step) k = for_job s mid (record e { call = as_ok e.call }) step (as_ok_starts e.call ∙ k)
    for_job s _ e (FailWait _ x is) k = absurd (none_starts recipe (sym (ap started_recipe is) ∙ k))

-- ## What is at hand is finished

when_some : (b : Bool) (f : Option Content) (c : Content) → cond b f None ≡ Some c → b ≡ true
when_some true f c h = refl
when_some false f c h = absurd (none_content c h)
  where
    none_content : (c : Content) → ◌≡◌ {A = Option Content} None (Some c) → ⊥
    none_content c h = cc

finished : (o : Outside) (image : Image) (q : Path) (s : Stamp) → IsAtHand o image (q, s) → IsFinished image q
finished o image q s (inl source) = ASource (when_some (is_source image q) (file_at image q) source.source source.stands)
finished o image q s (inr product) = AnOutput product.speaker product.by product.speaks product.whole product.part

no_length : (n : ℕ) → zero ≡ suc n → ⊥
no_length n h = cc

down : (m n : ℕ) → suc m ≡ suc n → m ≡ n
down m n h = cc

stamped_at :
    (P : Path × Stamp → Type 0) (ps : List Path) (ss : List Stamp) → length ss ≡ length ps → Each P (zip ps ss) → (q : Path) → IsIn ps q → (s : Stamp) × P (q, s)
stamped_at P [] ss l h q i = absurd i
stamped_at P (p ∷ ps) [] l h q i = absurd (no_length (length ps) l)
stamped_at P (p ∷ ps) (s ∷ ss) l h q (inl e) = (s, subst (λ x. P (x, s)) (sym e) h.0)
stamped_at P (p ∷ ps) (s ∷ ss) l h q (inr i) = stamped_at P ps ss (down (length ss) (length ps) l) h.1 q i

pub runs_start_on_finished : RunsStartOnFinished
runs_start_on_finished o entry H top log s differ sound is follows runs events rest e recipe logs text r split call =
    let here = before_step o (at_entry o top) s entry events rest e (subst (λ es. Runs o (at_entry o top) entry es s) split runs) in
    let between =
    holds_midway o entry H top events here.0 differ sound is (front_follows o entry events (e ∷ rest) (subst (Follows o.act entry) split follows)) here.1 in
    let job = for_job o recipe (run entry events) here.0 here.2.0 e here.2.1 (ap started_recipe call) in
    let fits = each_in (Fits o entry (eased here.0) here.0.top (run entry events)) here.0.jobs job.0 between.fits job.1 in
    subst (λ (x : Recipe). Each (IsFinished (seen o.read (run entry events))) (in_paths x)) job.2
    (each_of (IsFinished (seen o.read (run entry events))) (in_paths job.0.recipe) (λ q i.
    let stamp =
    stamped_at (IsAtHand o (seen o.read (run entry events))) (in_paths job.0.recipe) job.0.stamps fits.each_stamped fits.at_hand q i in
    finished o (seen o.read (run entry events)) q stamp.0 stamp.1))

-- so along runs of the protocol one after another
pub parts_start_on_finished :
    (o : Outside) (entry : World) (H : Versions) (log : List Event) → SumsDiffer H → SoundWorld o entry H → Follows o.act entry log → AreRuns o entry log →
    StartsOnFinished o entry log
parts_start_on_finished o entry H log differ sound follows (One _ _ (top, is, (s, runs))) events rest e recipe logs text r split call =
    runs_start_on_finished o entry H top log s differ sound is follows runs events rest e recipe logs text r split call
parts_start_on_finished o entry H log differ sound follows (Then _ es fs _ (top, is, (s, runs)) alone more both) events rest e recipe logs text r split call =
    let follows_both : Follows o.act entry (es ++ fs) = subst (Follows o.act entry) both follows in
    let first = front_follows o entry es fs follows_both in
    let mid = (parts_are_safe o entry H es differ sound first (One entry es (top, is, (s, runs)))).at_end alone in
    elim (split_before es fs events rest e (sym both ∙ split)) [
      | inl k ↦ runs_start_on_finished o entry H top es s differ sound is first runs events k.0 e recipe logs text r k.1 call
      | inr k ↦
          subst (λ (v : World). Each (IsFinished (seen o.read v)) (in_paths recipe)) (sym (ap (run entry) k.1 ∙ run_append entry es k.0))
          (parts_start_on_finished o (run entry es) H fs differ mid (follows_after o entry es fs follows_both) more k.0 rest e recipe logs text r k.2 call)
    ]
