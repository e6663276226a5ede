-- What is refused of a chain of plans once outputs of a job were made read-only is what was refused of it before.
use Rattle.std.proofs.Common.{◌≡◌, inr, inl, Bool, true, false, ◌&&◌, ◌||◌, not, List, [], ◌∷◌}
use Rattle.std.proofs.Common.{◌++◌, map, filter, flat_map, Option, Some, None, is_some, refl, sym, ap, subst, ◌∙◌}
use Rattle.std.specs.Prelude.{bytes_eq, if◌then◌else◌}
use Rattle.std.specs.List.{list_all, list_any}
use Rattle.smk_base.specs.Path.{overlaps}
use Rattle.smk_base.proofs.Places.{and_second, place_itself, same_place}
use Rattle.smk_base.proofs.Under.{false_of_not, false_unless, never_both}
use Rattle.smk_world.specs.declared.event.Node.{Node}
use Rattle.smk_world.specs.declared.event.Node.TheVariants.{Directory, Regular}
use Rattle.smk_world.specs.Trees.{IsIn, Path, among}
use Rattle.smk_world.specs.World.{World, out_paths, reading}
use Rattle.smk_flow.specs.declared.job.Job.{Job}
use Rattle.smk_store.specs.Images.{Image}
use Rattle.smk_chain.specs.Derive.{Listings, jobs, sources_of}
use Rattle.smk_trigger.specs.declared.reason.State.{State}
use Rattle.smk_trigger.specs.JobStates.{is_to_run}
use Rattle.smk_plan.specs.Sights.{is_guarded}
use Rattle.smk_plan.specs.States.{IsPlan, Plan, Progress, job_path, new_listings, staged}
use Rattle.smk_laws_plan.proofs.CurrentLists.{flat_in, in_left, map_in, zip_first}
use Rattle.smk_laws_plan.proofs.PlanOne.{derived}
use Rattle.smk_laws_history.proofs.CurrentComplete.{seen_is_complete}
use Rattle.smk_laws_protocol.proofs.Basics.{each_of, in_filter}
use Rattle.smk_report.specs.declared.fault.Fault.{Fault}
use Rattle.smk_report.specs.declared.fault.Fault.TheVariants as fault
use Rattle.smk_drive.specs.Moments.{Begun, IsInForce, Rules, is_child_of, is_gone, is_rest, progress_of, seen}
use Rattle.smk_drive.specs.Refusals.{ChainRefuses, DerivationRefuses, NextRefuses, PlanRefuses, above_limit, ahead}
use Rattle.smk_drive.specs.Refusals.{guarded, incomplete, is_ahead, is_running, of_command, refused_of, unless_empty}
use Rattle.smk_laws_moments.proofs.Spots.{owned, owned_between}
use Rattle.smk_laws_moments.specs.Staying.{IsListed}
use Rattle.smk_laws_turns.proofs.Flags.{IsAsBare, bare, force_there}
use Rattle.smk_laws_turns.specs.Guarded.{IsGuardedSince, bare_node}
use Rattle.smk_laws_turns.proofs.Bare.{derivation_moves, listings_move, marked, plan_moves, sources_move}
use Rattle.smk_laws_turns.proofs.Overlaps.{apart_at}
use Rattle.smk_laws_turns.proofs.Stays.{derived_on, listed_on}

bare_is : (n : Option Node) → bare_node n ≡ bare n
bare_is None = refl
bare_is (Some Directory) = refl
bare_is (Some (Regular bytes time read_only)) = refl

filter_same : {A : Type 0} (f g : A → Bool) (xs : List A) → ((x : A) → IsIn xs x → f x ≡ g x) → filter f xs ≡ filter g xs
filter_same f g [] same = refl
filter_same f g (x ∷ xs) same = λ i. if same x (inl refl) i then x ∷ filter_same f g xs (λ y k. same y (inr k)) i else filter_same f g xs
    (λ y k. same y (inr k)) i

-- it goes either way
pub guarded_back : (rules : Rules) (j : Job) (v x : World) → IsGuardedSince rules j v x → IsGuardedSince rules j x v
guarded_back rules j v x since =
    record {
      formed = since.formed_now;
      formed_now = since.formed;
      names = sym since.names;
      nodes = λ q. sym (since.nodes q);
      children = sym since.children;
      marks = λ q. sym (since.marks q);
      guarded = λ q apart. sym (since.guarded q apart);
    }

module _ (rules : Rules) (j : Job) (v x : World) (since : IsGuardedSince rules j v x) where
  -- ## Images

  abbrev was : Image
  was = seen rules v

  abbrev now : Image
  now = seen rules x

  plan_after : (progress : Progress) (plan : Plan) → IsPlan rules.flow was rules.settings progress plan → IsPlan rules.flow now rules.settings progress plan
  plan_after progress plan is =
      plan_moves rules.read v x since.formed since.formed_now since.names since.nodes rules.flow rules.settings progress plan is

  listings_after :
      (progress : Progress) (plan : Plan) → IsPlan rules.flow was rules.settings progress plan →
      new_listings now rules.settings progress plan ≡ new_listings was rules.settings progress plan
  listings_after progress plan is =
      listings_move rules.read v x since.formed since.formed_now since.names since.nodes rules.flow rules.settings progress plan is

  pub sources_after : sources_of now ≡ sources_of was
  sources_after = sources_move rules.read v x since.formed since.formed_now since.names since.nodes

  as_bare : IsAsBare v x
  as_bare =
      record {
        names = since.names;
        nodes = λ q. sym (bare_is (reading (x.nodes q))) ∙ (since.nodes q ∙ bare_is (reading (v.nodes q)));
        children = since.children;
      }

  pub force_after : (begun : List Begun) (L : Listings) (plan : Option Plan) → IsInForce rules v begun L plan → IsInForce rules x begun L plan
  force_after begun L plan force = force_there rules begun v x since.formed since.formed_now as_bare L plan force

  -- ## Rests

  pub rest_same : (begun : List Begun) → is_rest x begun ≡ is_rest v begun
  rest_same begun =
      λ i.
      list_all
      (λ (b : Begun). list_any (is_child_of b.job) (since.children i)
      || (is_some b.ended && list_all (λ p. is_gone (since.marks p i)) (out_paths b.job.recipe))) begun

  pub progress_same : (begun : List Begun) → progress_of x begun ≡ progress_of v begun
  progress_same begun =
      λ i.
      record {
        begun = map (λ (b : Begun). job_path b.job) begun;
        running = map (λ (b : Begun). (job_path b.job, b.state)) (filter (λ (b : Begun). list_any (is_child_of b.job) (since.children i)) begun);
      }

  -- ## What is refused

  module _ (progress : Progress) (named : among progress.begun (job_path j) ≡ true) where
    module _ (plan : Plan) (is : IsPlan rules.flow was rules.settings progress plan) (ij : IsIn plan.jobs j) where
      marked_same : now.marked ≡ was.marked
      marked_same = marked rules.read v x since.formed since.formed_now since.names since.nodes

      incomplete_same : incomplete rules now progress plan ≡ incomplete rules was progress plan
      incomplete_same =
          λ i.
          if rules.settings.rerun_incomplete then []
          else unless_empty (filter (marked_same i) (flat_map (λ (k : Job). out_paths k.recipe) (filter (λ k. not (is_running rules was progress plan k)) plan.jobs)))

      -- what another job makes overlaps none of its outputs
      others_apart : (k : Job) (q : Path) → IsIn plan.jobs k → bytes_eq (job_path j) (job_path k) ≡ false → IsIn (out_paths k.recipe) q → is_guarded now q ≡ is_guarded was q
      others_apart k q ik differs iq =
          since.guarded q
          (each_of (λ p. overlaps p q ≡ false) (out_paths j.recipe)
          (λ p ip. apart_at (owned j) (owned k) p q
          (owned_between rules.flow was plan.lists rules.settings.targets plan.jobs (seen_is_complete rules.read v since.formed) is.derived
          (λ m. bytes_eq (job_path j) (job_path m)) j k ij ik (place_itself (job_path j)) differs) (in_left p (out_paths j.recipe) j.logs ip)
          (in_left q (out_paths k.recipe) k.logs iq)))

      ahead_outputs : (q : Path) → IsIn (flat_map (λ (k : Job). out_paths k.recipe) (ahead rules was progress plan)) q → is_guarded now q ≡ is_guarded was q
      ahead_outputs q iq =
          let k = flat_in (λ (m : Job). out_paths m.recipe) (ahead rules was progress plan) q iq in
          let e = map_in (λ (e : Job × State). e.0) (filter (is_ahead rules was progress plan) (staged plan)) k.0 k.1 in
          let f = in_filter (is_ahead rules was progress plan) (staged plan) e.0 e.1 in
          let unbegun : among progress.begun (job_path e.0.0) ≡ false =
          false_of_not (among progress.begun (job_path e.0.0)) (and_second (is_to_run e.0.1) (not (among progress.begun (job_path e.0.0))) f.1)
          in
          others_apart e.0.0 q (zip_first plan.jobs plan.states e.0.0 e.0.1 f.0)
          (false_unless (bytes_eq (job_path j) (job_path e.0.0))
          (λ same. never_both (among progress.begun (job_path j)) named
          (ap (among progress.begun) (same_place (job_path j) (job_path e.0.0) same) ∙ unbegun)))
          (subst (λ (m : Job). IsIn (out_paths m.recipe) q) e.2 k.2)

      guarded_same : guarded rules now progress plan ≡ guarded rules was progress plan
      guarded_same =
          ap (map fault.Protected)
          (filter_same (is_guarded now) (is_guarded was) (flat_map (λ (k : Job). out_paths k.recipe) (ahead rules was progress plan)) ahead_outputs)

      refused_same : refused_of rules now progress plan ≡ refused_of rules was progress plan
      refused_same =
          λ i.
          incomplete_same i
          ++ (guarded_same i
          ++ (flat_map (above_limit rules was progress plan) (ahead rules was progress plan)
          ++ flat_map (λ (e : Job × State). of_command rules was progress plan e (rules.missing e.0)) (staged plan)))

    in_plan :
        (plan : Plan) → IsPlan rules.flow was rules.settings progress plan → IsIn (jobs rules.flow (sources_of was) plan.lists rules.settings.targets) j →
        IsIn plan.jobs j
    in_plan plan is i =
        subst (λ ks. IsIn ks j)
        (derived rules.flow was plan.lists rules.settings.targets plan.jobs (seen_is_complete rules.read v since.formed) is.derived).1 i

    -- so the same is refused of the chain, where the job is derived with its first listings and listed by them
    pub chain_after :
        (L : Listings) (f : Fault) → IsIn (jobs rules.flow (sources_of was) L rules.settings.targets) j → IsListed was L j →
        ChainRefuses rules was progress L f → ChainRefuses rules now progress L f
    chain_after _ _ i listed (DerivationRefuses lists r f refused is_fault) =
        DerivationRefuses lists r f
        (derivation_moves rules.read v x since.formed since.formed_now since.names since.nodes rules.flow lists rules.settings.targets ∙ refused) is_fault
    chain_after _ _ i listed (PlanRefuses plan f rest is refused) =
        PlanRefuses plan f rest (plan_after progress plan is) (refused_same plan is (in_plan plan is i) ∙ refused)
    chain_after _ _ i listed (NextRefuses plan f is none more rest) =
        let new = listings_after progress plan is in
        NextRefuses plan f (plan_after progress plan is) (refused_same plan is (in_plan plan is i) ∙ none) (λ nothing. more (sym new ∙ nothing))
        (subst (λ (M : Listings). ChainRefuses rules now progress (plan.lists ++ M) f) (sym new)
        (chain_after (plan.lists ++ new_listings was rules.settings progress plan) f (derived_on rules.flow was rules.settings progress plan j i listed)
        (listed_on rules.flow was rules.settings progress plan j listed) rest))
