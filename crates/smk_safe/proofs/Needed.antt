-- What a job needs that is done rests or is done.
use Rattle.std.proofs.Common.{◌≡◌, ◌⊎◌, inl, inr, ℕ, suc, true, false, List, [], ◌∷◌, map, zip, refl, ap, sym, subst, ◌∙◌, Option, Some, None, arith, true≢false}
use Rattle.smk_world.specs.declared.event.Event.{Event}
use Rattle.smk_world.specs.World.{World}
use Rattle.smk_world.specs.Trees.{Path, IsIn}
use Rattle.smk_flow.specs.declared.job.Job.{Job}
use Rattle.smk_flow.specs.Flows.{Flow}
use Rattle.smk_store.specs.Images.{Image}
use Rattle.smk_store.specs.Soundness.{Outside}
use Rattle.smk_store.specs.Trust.{Versions}
use Rattle.smk_laws_protocol.specs.Protocol.{now}
use Rattle.smk_trigger.specs.declared.reason.State.{State}
use Rattle.smk_trigger.specs.declared.reason.State.TheVariants.{Open, Dirty, Restore, Clean}
use Rattle.smk_trigger.specs.JobStates.{is_to_run}
use Rattle.smk_pick.specs.declared.settings.Settings.{Settings}
use Rattle.smk_plan.specs.States.{Plan, maker_of, makes, nothing_done, state_of}
use Rattle.smk_laws_plan.proofs.PlanOne.{pair_first}
use Rattle.smk_run.specs.Duties.{due}
use Rattle.smk_run.specs.Turns.{Turn, is_done}
use Rattle.smk_safe.specs.Planned.{AreTurnsOf}
use Rattle.smk_safe.proofs.Planned as by_plan
use Rattle.smk_safe.proofs.Dues.{turns_of}
use Rattle.smk_laws_plan.proofs.PlanOne.{derived_order}
use Rattle.smk_laws_plan.proofs.PlanOrder.{InOrder, Served}
use Rattle.smk_safe.specs.Ready.{AreDoneButLast}
use Rattle.smk_safe.proofs.Dues.{done_but_last}
use Rattle.smk_safe.specs.Exit.{DoneJobsAreKept, HadDoneTurn, IsDueRun, IsKept, Kept}
use Rattle.smk_safe.proofs.Left as at_exit

module _ (o : Outside) (entry : World) (H : Versions) (flow : Flow) (settings : Settings) (plan : Plan) (ts : List Turn) (es : List Event) (ran : IsDueRun o entry H flow settings plan ts es) where
  abbrev before : Image
  before = now o entry

  abbrev st : Job → State
  st j = state_of before settings nothing_done plan j

  maker_then : (k : Job) (q : Path) → IsIn plan.jobs k → makes k q ≡ true → maker_of plan q ≡ Some (k, st k)
  maker_then k q i m = by_plan.maker_known o entry flow settings plan ran.sound.formed ran.planned ran.plain k q i m

  kept_here : (j : Job) (seen : List Job) → IsIn plan.jobs j → Served plan.jobs seen j → ((k : Job) → IsIn seen k → IsKept plan ts k × IsIn plan.jobs k) → (is_to_run (st j) ≡ true → HadDoneTurn ts j) → IsKept plan ts j
  kept_here j seen ij served kept has =
      Kept j (st j) (subst (λ ss. IsIn (zip plan.jobs ss) (j, st j)) (sym ran.planned.states) (by_plan.zip_at st plan.jobs j ij)) has (λ q k u iq is.
      elim (served q (inl iq)) [
        | inl none ↦ absurd (none_is (maker_of plan q) (k, u) (by_plan.no_maker o entry flow settings plan ran.sound.formed ran.planned ran.plain q none) is)
        | inr h ↦ subst (IsKept plan ts) (pair_first (h.0, st h.0) (k, u) (sym (maker_then h.0 q (kept h.0 h.1).1 h.2) ∙ is)) (kept h.0 h.1).0
      ])
    where
      none_is : (m : Option (Job × State)) (e : Job × State) → m ≡ None → m ≡ Some e → ⊥
      none_is None e h g = cc
      none_is (Some x) e h g = cc

  walk : (js seen : List Job) (us : List Turn) (greatest : ℕ) → InOrder plan.jobs seen js → ((j : Job) → IsIn js j → IsIn plan.jobs j) → ((k : Job) → IsIn seen k → IsKept plan ts k × IsIn plan.jobs k)
      → ((u : Turn) → IsIn us u → IsIn ts u) → AreTurnsOf before greatest (zip js (map st js)) us → AreDoneButLast us → (t : Turn) → IsIn us t → is_done t.course ≡ true → IsKept plan ts t.job
  walk js seen [] greatest order sub kept among_ts h last t i done = absurd i
  walk [] seen (u ∷ us) greatest order sub kept among_ts h last t i done = absurd h
  walk (j ∷ js) seen (u ∷ us) greatest order sub kept among_ts h last t i done =
      step (st j) refl h
      (λ rests k. walk js (j ∷ seen) (u ∷ us) greatest order.1 (λ x l. sub x (inr l)) (more (λ run. absurd (true≢false (sym run ∙ rests)))) among_ts k last t i done)
      (λ next same k l. walk js (j ∷ seen) us next order.1 (λ x m. sub x (inr m)) (more (λ run. (u, among_ts u (inl refl), same, done_before last.0 l))) (λ x m. among_ts x (inr m)) k last.1 t l done)
    where
      ij : IsIn plan.jobs j
      ij = sub j (inl refl)

      done_before : (us ≡ []) ⊎ (is_done u.course ≡ true) → IsIn us t → is_done u.course ≡ true
      done_before (inl none) l = absurd (subst (λ xs. IsIn xs t) none l)
      done_before (inr is) l = is

      more : (is_to_run (st j) ≡ true → HadDoneTurn ts j) → (k : Job) → IsIn (j ∷ seen) k → IsKept plan ts k × IsIn plan.jobs k
      more has k (inl e) = (subst (IsKept plan ts) (sym e) (kept_here j seen ij order.0 kept has), subst (IsIn plan.jobs) (sym e) ij)
      more has k (inr l) = kept k l

      own : t ≡ u → u.job ≡ j → IsKept plan ts t.job
      own e same =
          let is : t.job ≡ j = ap (λ (x : Turn). x.job) e ∙ same in
          subst (IsKept plan ts) (sym is) (kept_here j seen ij order.0 kept (λ run. (t, subst (IsIn ts) (sym e) (among_ts u (inl refl)), is, done)))

      step : (s : State) → st j ≡ s → AreTurnsOf before greatest ((j, s) ∷ zip js (map st js)) (u ∷ us)
          → (is_to_run (st j) ≡ false → AreTurnsOf before greatest (zip js (map st js)) (u ∷ us) → IsKept plan ts t.job)
          → ((next : ℕ) → u.job ≡ j → AreTurnsOf before next (zip js (map st js)) us → IsIn us t → IsKept plan ts t.job) → IsKept plan ts t.job
      step Open e k skip take = skip (ap is_to_run e) k
      step Clean e k skip take = skip (ap is_to_run e) k
      step (Dirty rs) e (same, next, later) skip take = elim i [ inl d ↦ own d same | inr l ↦ take (suc greatest) same later l ]
      step Restore e (same, keeps, later) skip take = elim i [ inl d ↦ own d same | inr l ↦ take greatest same later l ]

pub done_jobs_are_kept : DoneJobsAreKept
done_jobs_are_kept o entry H flow settings plan ts es ran t i done =
    let before = now o entry in
    let turns = turns_of before ran.cores ran.top ran.duties plan.jobs plan.states ran.duties [] ran.top ts refl (omega arith) ran.meant ran.in_order in
    walk o entry H flow settings plan ts es ran plan.jobs [] ts ran.top (derived_order flow before plan.lists settings.targets plan.jobs (at_exit.complete_before o entry H flow settings plan ts es ran) ran.planned.derived)
    (λ j k. k) (λ k l. absurd l) (λ u k. k)
    (subst (λ ss. AreTurnsOf before ran.top (zip plan.jobs ss) ts) ran.planned.states turns)
    (done_but_last ran.cores (due (Some (suc ran.top)) ran.duties plan.jobs) ts ran.in_order) t i done
