-- What a kept plan has begun and runs follows a run.
use Rattle.std.proofs.Common.{◌≡◌, ℕ, zero, suc, ◌<◌, Bool, true, false, ◌||◌, List, [], ◌∷◌, ◌++◌, map, length, Option, Some, None, refl, sym, ap, subst, ◌∙◌, bytes_eq, cond, arith}
use Rattle.std.specs.Prelude.{if◌then◌else◌, slice_set, option_map, is_some}
use Rattle.std.specs.List.{find, slice_get}
use Rattle.std.proofs.lemmas.Option.{same_Some, none-some, slice_get_within}
use Rattle.smk_base.proofs.Places.{place_itself, same_place}
use Rattle.smk_base.proofs.Under.{never_both}
use Rattle.smk_world.specs.World.{out_paths}
use Rattle.smk_world.specs.Trees.{Path, among, first}
use Rattle.smk_pattern.specs.Reading.{or_empty}
use Rattle.smk_flow.specs.declared.job.Job.{Job}
use Rattle.smk_trigger.specs.declared.reason.State.{State}
use Rattle.smk_plan.specs.States.{job_path}
use Rattle.smk_plan_states.specs.Served.{AreApart, outputs_of}
use Rattle.smk_plan_states.proofs.Tests.{among_append}
use Rattle.smk_plan_live.specs.declared.base.Base.{Base}
use Rattle.smk_plan_live.specs.declared.phase.Phase.{Phase}
use Rattle.smk_plan_live.specs.declared.phase.Phase.TheVariants.{Running, Closed}
use Rattle.smk_plan_live.specs.Carried.{has_name}
use Rattle.smk_plan_live.specs.Lives.{IsSound}
use Rattle.smk_plan_live.specs.Now.{joined}
use Rattle.smk_plan_live.specs.Phases.{begun_in, child_in, children_in, has_begun, named, running_in}
use Rattle.smk_plan_live.proofs.Restoring.{kept_at, named_later, one_name}
use Rattle.smk_laws_turns.specs.Progressing.{BeginsAlike, ClosesAlike, state_in}
use Rattle.smk_laws_turns.proofs.Carrying.{by_test}
use Rattle.smk_laws_turns.proofs.Agreeing.{set_at}

-- ## Which have begun

or_again : (a r : Bool) → (a || r) ≡ (a || (a || r))
or_again true r = refl
or_again false r = refl

or_turned : (x a r : Bool) → (x || (a || r)) ≡ (a || (x || r))
or_turned true true r = refl
or_turned true false r = refl
or_turned false a r = refl

begun_here : (name m : Path) (b : Bool) (rest : List Path) →
    (bytes_eq m name || among rest m) ≡ (bytes_eq m name || among ((if b then name ∷ [] else []) ++ rest) m)
begun_here name m true rest = or_again (bytes_eq m name) (among rest m)
begun_here name m false rest = refl

-- a job that has begun besides
begun_more : (jobs : List Job) (phases : List Phase) (n : ℕ) (j : Job) (phase : Phase) (m : Path) →
    slice_get jobs n ≡ Some j → n < length phases → has_begun phase ≡ true →
    among (begun_in jobs (slice_set phases n phase)) m ≡ (bytes_eq m (job_path j) || among (begun_in jobs phases) m)
begun_more [] phases n j phase m at inside is = absurd (none-some j at)
begun_more (k ∷ jobs) [] n j phase m at inside is = absurd (omega (arith, inside))
begun_more (k ∷ jobs) (p ∷ phases) zero j phase m at inside is =
    ap (λ (b : Bool). among ((if b then job_path k ∷ [] else []) ++ begun_in jobs phases) m) is
    ∙ begun_here (job_path k) m (has_begun p) (begun_in jobs phases)
    ∙ ap (λ (x : Job). bytes_eq m (job_path x) || among (begun_in (k ∷ jobs) (p ∷ phases)) m) (same_Some k j at)
begun_more (k ∷ jobs) (p ∷ phases) (suc n) j phase m at inside is =
    among_append own (begun_in jobs (slice_set phases n phase)) m
    ∙ ap (λ b. among own m || b) (begun_more jobs phases n j phase m at (omega (arith, inside)) is)
    ∙ or_turned (among own m) (bytes_eq m (job_path j)) (among (begun_in jobs phases) m)
    ∙ ap (λ b. bytes_eq m (job_path j) || b) (sym (among_append own (begun_in jobs phases) m))
  where
    own : List Path
    own = if has_begun p then job_path k ∷ [] else []

-- a job that had begun before
begun_same : (jobs : List Job) (phases : List Phase) (n : ℕ) (phase : Phase) →
    option_map has_begun (slice_get phases n) ≡ Some true → has_begun phase ≡ true → begun_in jobs (slice_set phases n phase) ≡ begun_in jobs phases
begun_same [] phases n phase was is = refl
begun_same (k ∷ jobs) [] n phase was is = refl
begun_same (k ∷ jobs) (p ∷ phases) zero phase was is =
    ap (λ (b : Bool). (if b then job_path k ∷ [] else []) ++ begun_in jobs phases) (is ∙ sym (same_Some (has_begun p) true was))
begun_same (k ∷ jobs) (p ∷ phases) (suc n) phase was is =
    ap (λ xs. (if has_begun p then job_path k ∷ [] else []) ++ xs) (begun_same jobs phases n phase was is)

-- ## Which run

abbrev here_or : Bool → Path → State → Path → List (Path × State) → Option State
here_or b name s m rest = option_map (λ (e : Path × State). e.1) (cond b (Some (name, s)) (find (λ (e : Path × State). bytes_eq e.0 m) rest))

named_more : (k : Job) (b : Option State) (jobs : List Job) (xs ys : List (Option State)) (m : Path) →
    state_in (map named (children_in jobs xs)) m ≡ state_in (map named (children_in jobs ys)) m →
    state_in (map named (child_in k b ++ children_in jobs xs)) m ≡ state_in (map named (child_in k b ++ children_in jobs ys)) m
named_more k None jobs xs ys m same = same
named_more k (Some s) jobs xs ys m same =
    by_test (bytes_eq (job_path k) m)
    (λ e. ap (λ b. here_or b (job_path k) s m (map named (children_in jobs xs))) e
    ∙ sym (ap (λ b. here_or b (job_path k) s m (map named (children_in jobs ys))) e))
    (λ e. named_later k (Some s) (children_in jobs xs) m e ∙ same ∙ sym (named_later k (Some s) (children_in jobs ys) m e))

others_run : (jobs : List Job) (began : List (Option State)) (n : ℕ) (j : Job) (x : Option State) (m : Path) →
    slice_get jobs n ≡ Some j → bytes_eq (job_path j) m ≡ false →
    state_in (running_in jobs (slice_set began n x)) m ≡ state_in (running_in jobs began) m
others_run [] began n j x m at other = refl
others_run (k ∷ jobs) [] n j x m at other = refl
others_run (k ∷ jobs) (b ∷ began) zero j x m at other =
    let away : bytes_eq (job_path k) m ≡ false = ap (λ (y : Job). bytes_eq (job_path y) m) (same_Some k j at) ∙ other in
    named_later k x (children_in jobs began) m away ∙ sym (named_later k b (children_in jobs began) m away)
others_run (k ∷ jobs) (b ∷ began) (suc n) j x m at other =
    named_more k b jobs (slice_set began n x) began m (others_run jobs began n j x m at other)

named_among : (ps : List Path) → is_some (first ps) ≡ true → among ps (or_empty (first ps)) ≡ true
named_among [] h = absurd (never_both false h refl)
named_among (p ∷ ps) h = ap (λ b. b || among ps p) (place_itself p)

module _ (b : Base) (sound : IsSound b) (apart : AreApart (outputs_of b.jobs.jobs)) (n : ℕ) (j : Job) (at : slice_get b.jobs.jobs n ≡ Some j)
    (has : has_name j ≡ true) where
  below : n < length b.jobs.jobs
  below = slice_get_within b.jobs.jobs n j at

  own_runs : (x : Option State) → state_in (running_in b.jobs.jobs (slice_set b.began n x)) (job_path j) ≡ x
  own_runs x =
      kept_at b.jobs.jobs (slice_set b.began n x) n j at (one_name b sound apart n j (job_path j) at (named_among (out_paths j.recipe) has))
      ∙ ap joined (set_at b.began n x (subst (λ m. n < m) (sym sound.began) below))

  runs_now : (x : Option State) (p : Path) →
      state_in (running_in b.jobs.jobs (slice_set b.began n x)) p ≡ (if bytes_eq (job_path j) p then x else state_in (running_in b.jobs.jobs b.began) p)
  runs_now x p =
      by_test (bytes_eq (job_path j) p)
      (λ e. ap (state_in (running_in b.jobs.jobs (slice_set b.began n x))) (sym (same_place (job_path j) p e)) ∙ own_runs x
      ∙ sym (ap (λ (c : Bool). if c then x else state_in (running_in b.jobs.jobs b.began) p) e))
      (λ e. others_run b.jobs.jobs b.began n j x p at e
      ∙ sym (ap (λ (c : Bool). if c then x else state_in (running_in b.jobs.jobs b.began) p) e))

pub begins_alike : BeginsAlike
begins_alike b n state j p new sound apart at has alike started =
    record {
      begun = λ m.
          started.begun m ∙ ap (λ c. bytes_eq m (job_path j) || c) (alike.begun m)
          ∙ sym (begun_more b.jobs.jobs b.phases n j Running m at
          (subst (λ k. n < k) (sym sound.phases) (slice_get_within b.jobs.jobs n j at)) refl);
      running = λ m.
          started.running m ∙ ap (λ o. if bytes_eq (job_path j) m then Some state else o) (alike.running m)
          ∙ sym (runs_now b sound apart n j at has (Some state) m);
    }

pub closes_alike : ClosesAlike
closes_alike b n j entries sights p new sound apart at has was alike ended =
    record {
      begun = λ m. ended.begun m ∙ alike.begun m ∙ sym (ap (λ ps. among ps m) (begun_same b.jobs.jobs b.phases n Closed was refl));
      running = λ m.
          ended.running m ∙ ap (λ o. if bytes_eq (job_path j) m then None else o) (alike.running m)
          ∙ sym (runs_now b sound apart n j at has None m);
    }
