-- What a run makes of a stand once the outputs of a closed job were made read-only is what it made of it before.
use Rattle.std.proofs.Common.{◌≡◌, ◌≢◌, ◌⊎◌, inl, inr, true, false, List, [], ◌∷◌, map, Option, Some, None, sym, ap, subst, ◌∙◌, true≢false}
use Rattle.smk_world.specs.declared.event.Event.{Event}
use Rattle.smk_world.specs.Trees.{Each, IsIn, Path, among}
use Rattle.smk_world.specs.World.{World}
use Rattle.smk_flow.specs.declared.job.Job.{Job}
use Rattle.smk_choose.specs.Choose.{Sources}
use Rattle.smk_chain.specs.Derive.{jobs, listing, sources_of}
use Rattle.smk_plan.specs.States.{Plan, Progress, gathers_from, job_path}
use Rattle.smk_laws_plan.proofs.CurrentPaths.{in_among}
use Rattle.smk_report.specs.declared.fault.Fault.{Fault}
use Rattle.smk_report.specs.declared.fault.Fault.TheVariants as fault
use Rattle.smk_drive.specs.Moments.{Begun, IsInForce, Rules, is_rest, progress_of, seen}
use Rattle.smk_drive.specs.Refusals.{ChainRefuses}
use Rattle.smk_drive_course.specs.Refusals.{LongRecord, NoSerial, PlansAreRefused}
use Rattle.smk_drive_course.specs.Stands as stands
use Rattle.smk_drive_course.specs.Stands.{GoesBy, IsClear, IsReplanned, Refuses, Stand, halted_by, lists, replanned}
use Rattle.smk_laws_moments.specs.Staying.{IsListed}
use Rattle.smk_laws_turns.specs.Guarded.{IsGuardedSince, PlanBeforeGuarding}
use Rattle.smk_laws_turns.proofs.Bridge.{chain_after, force_after, guarded_back, progress_same, rest_same, sources_after}

named_in : (begun : List Begun) (b : Begun) (p : Path) → IsIn begun b → job_path b.job ≡ p → IsIn (map (λ (c : Begun). job_path c.job) begun) p
named_in [] b p i is = absurd i
named_in (c ∷ begun) b p (inl e) is = inl (sym is ∙ ap (λ (x : Begun). job_path x.job) e)
named_in (c ∷ begun) b p (inr i) is = inr (named_in begun b p i is)

refused_at_rest :
    (rules : Rules) (entry : World) (s : Stand) (w : World) (events : List Event) (f : Fault) → Refuses rules entry s w events f →
    is_rest w s.begun ≡ true
refused_at_rest rules entry s w events f (PlansAreRefused g rest refused) = rest
refused_at_rest rules entry s w events f (NoSerial e rest next full) = rest
refused_at_rest rules entry s w events f (LongRecord e o earlier later rest next fits split short long) = rest

module _
    (rules : Rules) (entry v x : World) (j : Job) (b : Begun) (u : Stand) (events now : List Event) (since : IsGuardedSince rules j v x)
    (has : IsIn u.begun b) (names : job_path b.job ≡ job_path j) (unhalted : u.halted ≡ None)
    (derived : IsIn (jobs rules.flow (sources_of (seen rules x)) (lists u) rules.settings.targets) j) (listed : IsListed (seen rules x) (lists u) j) where
  -- what has begun and runs
  abbrev progress : Progress
  progress = progress_of x u.begun

  named : among progress.begun (job_path j) ≡ true
  named = in_among progress.begun (job_path j) (named_in u.begun b (job_path j) has names)

  back : IsGuardedSince rules j x v
  back = guarded_back rules j v x since

  rest_is : is_rest v u.begun ≡ is_rest x u.begun
  rest_is = rest_same rules j x v back u.begun

  progress_is : progress_of v u.begun ≡ progress
  progress_is = progress_same rules j x v back u.begun

  -- what is refused of the chain in the one world is refused in the other
  refused_then : (f : Fault) → ChainRefuses rules (seen rules x) progress (lists u) f → ChainRefuses rules (seen rules v) (progress_of v u.begun) (lists u) f
  refused_then f refused =
      subst (λ (p : Progress). ChainRefuses rules (seen rules v) p (lists u) f) (sym progress_is)
      (chain_after rules j x v back progress named (lists u) f derived listed refused)

  refused_now : (f : Fault) → ChainRefuses rules (seen rules v) (progress_of v u.begun) (lists u) f → ChainRefuses rules (seen rules x) progress (lists u) f
  refused_now f refused =
      chain_after rules j v x since progress named (lists u) f
      (subst (λ (S : Sources). IsIn (jobs rules.flow S (lists u) rules.settings.targets) j) sources derived)
      (subst (λ (S : Sources). Each (λ d. (S.is d ≡ true) ⊎ (listing (lists u) d ≢ None)) (gathers_from j)) sources listed)
      (subst (λ (p : Progress). ChainRefuses rules (seen rules v) p (lists u) f) progress_is refused)
    where
      sources : sources_of (seen rules x) ≡ sources_of (seen rules v)
      sources = sources_after rules j v x since

  replanned_before : (next : Stand) → IsReplanned rules u x next → IsReplanned rules u v next
  replanned_before next (stands.AtRest plan rest force) =
      stands.AtRest plan (rest_is ∙ rest) (force_after rules j x v back u.begun (lists u) plan force)
  replanned_before next (stands.Between unrested) = stands.Between (rest_is ∙ unrested)

  -- ## At a rest

  module _ (plan : Option Plan) (rest : is_rest x u.begun ≡ true) (force : IsInForce rules x u.begun (lists u) plan) where
    abbrev anew : Stand
    anew = replanned plan u

    -- where nothing is refused of the plan in force
    clear_before : IsClear rules anew x now → IsClear rules anew v events
    clear_before clear =
        record {
          unhalted = clear.unhalted;
          at_rest = rest_is ∙ rest;
          planned = force_after rules j x v back u.begun (lists u) plan force;
          unrefused = λ f refused. clear.unrefused f (refused_now f refused);
        }

    goes_before :
        (t : Stand) → GoesBy rules entry anew x now t →
        ((f : Fault) → t.halted ≡ Some f → (f ≡ fault.OutOfMemory) ⊎ ChainRefuses rules (seen rules x) progress (lists u) f) → GoesBy rules entry anew v events t
    goes_before t (stands.GoesOn clear) refused = stands.GoesOn (clear_before clear)
    goes_before t (stands.IsRefused f none is) refused = go (refused f (ap (λ (o : Option Fault). stands.first_fault o f) none))
      where
        go : (f ≡ fault.OutOfMemory) ⊎ ChainRefuses rules (seen rules x) progress (lists u) f → GoesBy rules entry anew v events (halted_by f anew)
        go (inl memory) = subst (λ (g : Fault). GoesBy rules entry anew v events (halted_by g anew)) (sym memory) stands.LacksMemory
        go (inr chain) = stands.IsRefused f none (PlansAreRefused f (rest_is ∙ rest) (refused_then f chain))
    goes_before t stands.LacksMemory refused = stands.LacksMemory
    goes_before t (stands.WasHalted some) refused = stands.WasHalted some

  -- ## Between two rests

  goes_between : (t : Stand) → is_rest x u.begun ≡ false → GoesBy rules entry u x now t → GoesBy rules entry u v events t
  goes_between t unrested (stands.GoesOn clear) = absurd (true≢false (sym clear.at_rest ∙ unrested))
  goes_between t unrested (stands.IsRefused f none is) = absurd (true≢false (sym (refused_at_rest rules entry u x now f is) ∙ unrested))
  goes_between t unrested stands.LacksMemory = stands.LacksMemory
  goes_between t unrested (stands.WasHalted some) = absurd (some unhalted)

  either :
      (next t : Stand) → IsReplanned rules u x next → GoesBy rules entry next x now t →
      ((f : Fault) → t.halted ≡ Some f → (f ≡ fault.OutOfMemory) ⊎ ChainRefuses rules (seen rules x) progress (lists u) f) → GoesBy rules entry next v events t
  either next t (stands.AtRest plan rest force) goes refused = goes_before plan rest force t goes refused
  either next t (stands.Between unrested) goes refused = goes_between t unrested goes

pub plan_before_guarding : PlanBeforeGuarding
plan_before_guarding rules entry v x j b u next t events now since has names unhalted derived listed replans goes settled refused = (
  replanned_before rules entry v x j b u events now since has names unhalted derived listed next replans,
  either rules entry v x j b u events now since has names unhalted derived listed next t replans goes refused,
)
