-- Of jobs of one name just one begins in a run.
use Rattle.std.proofs.Common.{◌≡◌, ◌⊎◌, inl, inr, ℕ, Bool, true, false, List, [], ◌∷◌, ◌++◌, map, refl, sym, ap, subst, ◌∙◌, true≢false}
use Rattle.std.specs.Prelude.{Some, if◌then◌else◌}
use Rattle.smk_world.specs.declared.event.Event.{Event}
use Rattle.smk_world.specs.World.{World, after, run}
use Rattle.smk_world.specs.Trees.{IsIn}
use Rattle.smk_store.specs.Images.{Image}
use Rattle.smk_plan.specs.States.{job_path}
use Rattle.smk_job.specs.Jobs.{Underway}
use Rattle.smk_run.specs.Closings.{wait_event}
use Rattle.smk_laws_plan.proofs.CurrentLists.{in_either, in_map, map_in}
use Rattle.smk_laws_plan.proofs.CurrentPaths.{in_among}
use Rattle.smk_drive.specs.Moments.{Begun, Rules, begun_of, ending, seen}
use Rattle.smk_drive_course.specs.Stands.{Stand, ended_if, is_job_of, moment_of}
use Rattle.smk_drive_course.specs.Steps.{Deed, HasBegun, HasClosed, HasSpent}
use Rattle.smk_laws_moments.proofs.Fates.{IsKept, answer_kept, begun_stand, ended_stand, goes_kept, kept_then, removed_kept, replanned_kept}
use Rattle.smk_laws_moments.proofs.Next.{IsStarting, starting}
use Rattle.smk_laws_driven.proofs.Restored.{IsOnce}

pub kept_job : (image : Image) (g : Underway) (status : ℕ) (b : Begun) → (ended_if image g status b).job ≡ b.job
kept_job image g status b = go (is_job_of g b)
  where
    go : (c : Bool) → (if c then (record b { ended = Some (ending image b.job status) }) else b).job ≡ b.job
    go true = refl
    go false = refl

-- where the same jobs have begun
pub kept_once : (s t : Stand) → IsKept s t → IsOnce s → IsOnce t
kept_once s t kept once a b ia ib named = once a b (subst (λ bs. IsIn bs a) kept.begun ia) (subst (λ bs. IsIn bs b) kept.begun ib) named

module _ (rules : Rules) (entry : World) (s t : Stand) (w : World) (before es : List Event) (deeds : List Deed) (once : IsOnce s) where
  -- ## A job begins

  module _ (h : HasBegun rules entry s w before es deeds t) where
    abbrev new : Begun
    new = begun_of rules entry (moment_of s w before) h.job

    next : IsStarting rules s w h.job
    next = starting rules s w before h.job h.to_begin.next

    pub begun_kept : IsKept (begun_stand rules entry s w before h.job h.going) t
    begun_kept =
        kept_then (begun_stand rules entry s w before h.job h.going) h.next t
        (replanned_kept rules (begun_stand rules entry s w before h.job h.going) h.next (run w es) h.replanned)
        (goes_kept rules entry h.next t (run w es) (before ++ es) h.goes_by)

    pub begun_once : IsOnce t
    begun_once a b ia ib named =
        go (in_either a s.begun (new ∷ []) (subst (λ bs. IsIn bs a) begun_kept.begun ia))
        (in_either b s.begun (new ∷ []) (subst (λ bs. IsIn bs b) begun_kept.begun ib))
      where
        before_it : (x : Begun) → IsIn s.begun x → job_path x.job ≡ job_path h.job.0 → ⊥
        before_it x i e =
            true≢false
            (sym (in_among (map (λ (b : Begun). job_path b.job) s.begun) (job_path h.job.0)
            (subst (IsIn (map (λ (b : Begun). job_path b.job) s.begun)) e (in_map (λ (b : Begun). job_path b.job) s.begun x i)))
            ∙ next.unbegun)

        go : IsIn s.begun a ⊎ IsIn (new ∷ []) a → IsIn s.begun b ⊎ IsIn (new ∷ []) b → a ≡ b
        go (inl x) (inl y) = once a b x y named
        go (inl x) (inr (inl e)) = absurd (before_it a x (named ∙ ap (λ (z : Begun). job_path z.job) e))
        go (inl x) (inr (inr none)) = absurd none
        go (inr (inl e)) (inl y) = absurd (before_it b y (sym named ∙ ap (λ (z : Begun). job_path z.job) e))
        go (inr (inl e)) (inr (inl f)) = e ∙ sym f
        go (inr (inl e)) (inr (inr none)) = absurd none
        go (inr (inr none)) k = absurd none

  -- ## A job is closed

  module _ (h : HasClosed rules entry s w before es deeds t) where
    pub ended_kept : IsKept (ended_stand rules entry s w h.going h.ended h.left) t
    ended_kept =
        kept_then (ended_stand rules entry s w h.going h.ended h.left) h.next t
        (replanned_kept rules (ended_stand rules entry s w h.going h.ended h.left) h.next _ h.replanned)
        (answer_kept rules entry h.answer h.next t _ _ h.goes_by)

    pub ended_once : IsOnce t
    ended_once a b ia ib named =
        let image = seen rules (after w (wait_event h.ended h.left)) in
        let f = ended_if image h.going h.ended.status in
        let x = map_in f s.begun a (subst (λ bs. IsIn bs a) ended_kept.begun ia) in
        let y = map_in f s.begun b (subst (λ bs. IsIn bs b) ended_kept.begun ib) in
        let path : (z c : Begun) → c ≡ f z → job_path c.job ≡ job_path z.job =
        λ z c e. ap (λ (u : Begun). job_path u.job) e ∙ ap job_path (kept_job image h.going h.ended.status z) in
        x.2 ∙ (ap f (once x.0 y.0 x.1 y.1 (sym (path x.0 a x.2) ∙ (named ∙ path y.0 b y.2))) ∙ sym y.2)

  -- ## Spent outputs are removed

  pub spent_once : HasSpent rules entry s w before es deeds t → IsOnce t
  spent_once h =
      kept_once s t
      (kept_then s h.last t (removed_kept rules entry s h.last w before h.paths h.removing h.removed) (goes_kept rules entry h.last t _ _ h.goes_by)) once
