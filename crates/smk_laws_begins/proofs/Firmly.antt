-- What is kept stays so once removals were made firm.
use Rattle.std.proofs.Common.{◌≡◌, Bool, true, false, ◌&&◌, ◌||◌, List, [], ◌∷◌, refl, sym, ap, subst, ◌∙◌, Option, Some, None, Ok, true≢false}
use Rattle.std.specs.Prelude.{if◌then◌else◌}
use Rattle.smk_world.specs.declared.event.Besides.TheVariants.{Anything, OneOf}
use Rattle.smk_world.specs.declared.event.Call.{Call}
use Rattle.smk_world.specs.declared.event.Call.TheVariants.{Looked, ReadFile, ReadFolder, Written, Created, Removed, MadeParents, Settled, Protected, Started, Waited}
use Rattle.smk_world.specs.declared.event.Child.{Child}
use Rattle.smk_world.specs.declared.event.Event.{Event}
use Rattle.smk_world.specs.declared.event.NodeState.{NodeState}
use Rattle.smk_world.specs.declared.event.NodeState.TheVariants.{Owned, Known}
use Rattle.smk_world.specs.Calls.{Lets}
use Rattle.smk_world.specs.Requests.{HasDone, Request, request}
use Rattle.smk_world.specs.Requests.Request.{Settle, Start, Wait}
use Rattle.smk_world.specs.Runs.{Follows}
use Rattle.smk_world.specs.Trees.{Act, Path}
use Rattle.smk_world.specs.World.{World, after, children_after, firm, is_above, is_within, reads_folder, run}
use Rattle.smk_flow.specs.declared.job.Job.{Job}
use Rattle.smk_laws_job.proofs.Abandoning.{settled_call}
use Rattle.smk_chain.specs.Derive.{Listings}
use Rattle.smk_plan.specs.States.{LastPlan, Plan}
use Rattle.smk_drive.specs.Moments.{Begun, IsInForce, Rules, is_gone, progress_of, runs, seen}
use Rattle.smk_drive.specs.Refusals.{ChainRefuses}
use Rattle.smk_drive_course.specs.Stands.{IsClear, Stand}
use Rattle.smk_laws_moments.proofs.Rests.{rest_mono}

-- ## What is gone stays gone

gone_firm : (s : NodeState) → is_gone s ≡ true → is_gone (firm s) ≡ true
gone_firm Owned h = absurd (true≢false (sym h))
gone_firm (Known n Anything) h = absurd (true≢false (sym h))
gone_firm (Known None (OneOf ns)) h = refl
gone_firm (Known (Some n) (OneOf ns)) h = absurd (true≢false (sym h))

gone_or : (b : Bool) (s : NodeState) → is_gone s ≡ true → is_gone (if b then firm s else s) ≡ true
gone_or true s h = gone_firm s h
gone_or false s h = h

abbrev settling_of : List Path → Event
settling_of ps = record { call = Settled ps (Ok tt); left = [] }

gone_after : (w : World) (ps : List Path) (q : Path) → is_gone (w.nodes q) ≡ true → is_gone ((after w (settling_of ps)).nodes q) ≡ true
gone_after w ps q h = gone_or (is_within q ps || (is_above q ps && reads_folder (w.nodes q))) (w.nodes q) h

pub gone_settled :
    (act : Act) (w : World) (ps : List Path) (es : List Event) → HasDone (Settle ps ∷ []) es → Follows act w es →
    (q : Path) → is_gone (w.nodes q) ≡ true → is_gone ((run w es).nodes q) ≡ true
gone_settled act w ps [] done follows q h = absurd done
gone_settled act w ps (e ∷ (f ∷ es)) done follows q h = absurd done.2
gone_settled act w ps (e ∷ []) done follows q h =
    let call : e.call ≡ Settled ps (Ok tt) = settled_call e.call ps done.0 done.1 in
    let left : e.left ≡ [] = subst (λ (c : Call). Lets act w c e.left) call follows.0.lets in
    let same : e ≡ settling_of ps = λ i. record { call = call i; left = left i } in
    subst (λ (x : Event). is_gone ((after w x).nodes q) ≡ true) (sym same) (gone_after w ps q h)

-- ## A world that reads the same

-- It reads as before, the same children run, and what is gone stays gone.
pub record ReadsAlike (rules : Rules) (w v : World) : Type 0 where
  pub image : seen rules v ≡ seen rules w
  pub children : v.children ≡ w.children
  pub gone : (q : Path) → is_gone (w.nodes q) ≡ true → is_gone (v.nodes q) ≡ true

-- what runs goes by the children alone
pub runs_same : (w v : World) → v.children ≡ w.children → (j : Job) → runs v j ≡ runs w j
runs_same w v same j = ap (λ (cs : List Child). runs (record w { children = cs }) j) same

pub progress_same : (w v : World) (begun : List Begun) → v.children ≡ w.children → progress_of v begun ≡ progress_of w begun
progress_same w v begun same = ap (λ (cs : List Child). progress_of (record w { children = cs }) begun) same

module _ (rules : Rules) (w v : World) (alike : ReadsAlike rules w v) where
  force_on : (begun : List Begun) (L : Listings) (plan : Option Plan) → IsInForce rules w begun L plan → IsInForce rules v begun L plan
  force_on begun L None none =
      λ plan last. none plan
      (subst (λ x. LastPlan rules.flow x rules.settings (progress_of w begun) L plan) alike.image
      (subst (λ x. LastPlan rules.flow (seen rules v) rules.settings x L plan) (progress_same w v begun alike.children) last))
  force_on begun L (Some plan) last =
      subst (λ x. LastPlan rules.flow x rules.settings (progress_of v begun) L plan) (sym alike.image)
      (subst (λ x. LastPlan rules.flow (seen rules w) rules.settings x L plan) (sym (progress_same w v begun alike.children)) last)

  pub clear_on : (t : Stand) (before after : List Event) → IsClear rules t w before → IsClear rules t v after
  clear_on t before after c =
      record {
        unhalted = c.unhalted;
        at_rest = rest_mono w v t.begun (sym alike.children) alike.gone c.at_rest;
        planned = force_on t.begun t.from t.plan c.planned;
        unrefused = λ f refuses.
            c.unrefused f
            (subst (λ x. ChainRefuses rules x (progress_of w t.begun) t.from f) alike.image
            (subst (λ x. ChainRefuses rules (seen rules v) x t.from f) (progress_same w v t.begun alike.children) refuses));
      }

-- ## Calls that start or end no child

abbrev keeps_all : Request → Bool
keeps_all (Start recipe logs command) = false
keeps_all Wait = false
keeps_all r = true

pub children_kept : (call : Call) (r : Request) (cs : List Child) → request call ≡ r → keeps_all r ≡ true → children_after call cs ≡ cs
children_kept (Looked p x) r cs h k = refl
children_kept (ReadFile p limit x) r cs h k = refl
children_kept (ReadFolder p x) r cs h k = refl
children_kept (Written p bytes x) r cs h k = refl
children_kept (Created p x) r cs h k = refl
children_kept (Removed p x) r cs h k = refl
children_kept (MadeParents p x) r cs h k = refl
children_kept (Settled ps x) r cs h k = refl
children_kept (Protected p x) r cs h k = refl
children_kept (Started recipe logs command x) r cs h k = absurd (true≢false (sym k ∙ ap keeps_all (sym h)))
children_kept (Waited x) r cs h k = absurd (true≢false (sym k ∙ ap keeps_all (sym h)))
