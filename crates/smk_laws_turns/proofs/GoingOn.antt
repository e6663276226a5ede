-- What holds at a stand of a run holds at the next: its children, each with a number of its own, and of each job one.
use Rattle.std.proofs.Common.{◌≡◌, ◌⊎◌, ℕ, Bool, true, false, not, List, [], ◌∷◌, ◌++◌, map, refl, sym, ap, subst, ◌∙◌, inl, inr, Some, nat_eq, true≢false}
use Rattle.std.specs.Prelude.{bytes_eq, if◌then◌else◌}
use Rattle.std.specs.List.{list_any}
use Rattle.smk_base.proofs.Places.{place_itself}
use Rattle.smk_world.specs.declared.event.Change.{Change}
use Rattle.smk_world.specs.declared.event.Ended.{Ended}
use Rattle.smk_world.specs.declared.event.Event.{Event}
use Rattle.smk_world.specs.declared.recipe.Recipe.{Recipe}
use Rattle.smk_world.specs.World.{World, after, out_paths, run}
use Rattle.smk_world.specs.Trees.{IsIn, first}
use Rattle.smk_world.proofs.Owners.{numbered_run}
use Rattle.smk_pattern.specs.Reading.{or_empty}
use Rattle.smk_store.specs.Images.{Image}
use Rattle.smk_plan.specs.States.{job_path}
use Rattle.smk_laws_plan.proofs.CurrentLists.{any_from}
use Rattle.smk_laws_protocol.proofs.Basics.{in_filter}
use Rattle.smk_job.specs.Jobs.{Underway}
use Rattle.smk_run.specs.Closings.{wait_event}
use Rattle.smk_report.specs.declared.fault.Fault.TheVariants as fault
use Rattle.smk_drive.specs.Moments.{Begun, Rules, begun_of, ending, seen}
use Rattle.smk_drive_course.specs.Stands.{Stand, ended_if, is_job_of, moment_of, with_job, without_child}
use Rattle.smk_drive_course.specs.Steps.{Deed}
use Rattle.smk_drive_course.specs.Breaks.{Begins, BeginsNot, BreaksOff, Closes, FailsToWait, Halts, Leaves, ReadsNot, Spends, SpendsNot, Step, Waits}
use Rattle.smk_laws_moments.proofs.ChildrenOf.{step_children}
use Rattle.smk_laws_moments.proofs.Fates.{IsKept, answer_kept, broken_kept, goes_kept, halted_kept, kept_then, removed_kept, replanned_kept}
use Rattle.smk_laws_moments.specs.Staying.{AreDerivedStill}
use Rattle.smk_laws_moments.proofs.StandsOn.{step_stays_derived}
use Rattle.smk_laws_turns.specs.Standing.{GoesOn, path_of}
use Rattle.smk_laws_turns.proofs.BeginningOf.{begun_child, tree_run, unbegun}

-- each job has one child, and of jobs of one name one has begun
record IsOnce (s : Stand) : Type 0 where
  alone : (a b : Underway) → IsIn s.runs a → IsIn s.runs b → path_of a ≡ path_of b → a ≡ b
  one : (a b : Begun) → IsIn s.begun a → IsIn s.begun b → job_path a.job ≡ job_path b.job → a.job ≡ b.job

once_kept : (s t : Stand) → IsKept s t → IsOnce s → IsOnce t
once_kept s t kept once =
    record {
      alone = λ a b i k same. once.alone a b (subst (λ gs. IsIn gs a) kept.runs i) (subst (λ gs. IsIn gs b) kept.runs k) same;
      one = λ a b i k same. once.one a b (subst (λ bs. IsIn bs a) kept.begun i) (subst (λ bs. IsIn bs b) kept.begun k) same;
    }

mapped_in : {A B : Type 0} (f : A → B) (xs : List A) (y : B) → IsIn (map f xs) y → (x : A) × IsIn xs x × (y ≡ f x)
mapped_in f [] y h = absurd h
mapped_in f (x ∷ xs) y (inl e) = (x, inl refl, e)
mapped_in f (x ∷ xs) y (inr i) = let r = mapped_in f xs y i in (r.0, inr r.1, r.2)

in_or_last : {A : Type 0} (xs : List A) (x y : A) → IsIn (xs ++ x ∷ []) y → IsIn xs y ⊎ (y ≡ x)
in_or_last [] x y (inl e) = inr e
in_or_last [] x y (inr h) = absurd h
in_or_last (z ∷ xs) x y (inl e) = inl (inl e)
in_or_last (z ∷ xs) x y (inr h) = elim (in_or_last xs x y h) [ inl i ↦ inl (inr i) | inr e ↦ inr e ]

job_kept : (image : Image) (going : Underway) (status : ℕ) (b : Begun) → (ended_if image going status b).job ≡ b.job
job_kept image going status b = go (is_job_of going b)
  where
    go : (c : Bool) → (if c then (record b { ended = Some (ending image b.job status) }) else b).job ≡ b.job
    go true = refl
    go false = refl

-- a child has ended
once_ended : (s : Stand) (image : Image) (going : Underway) (status : ℕ) → IsOnce s → IsOnce (without_child image going status s)
once_ended s image going status once =
    record {
      alone = λ a b i k same.
          once.alone a b (in_filter (λ (r : Underway). not (nat_eq r.number going.number)) s.runs a i).0
          (in_filter (λ (r : Underway). not (nat_eq r.number going.number)) s.runs b k).0 same;
      one = one;
    }
  where
    one : (a b : Begun) → IsIn (map (ended_if image going status) s.begun) a → IsIn (map (ended_if image going status) s.begun) b → job_path a.job ≡ job_path b.job → a.job ≡ b.job
    one a b i k same =
        let x = mapped_in (ended_if image going status) s.begun a i in
        let y = mapped_in (ended_if image going status) s.begun b k in
        let is_a : a.job ≡ x.0.job = ap (λ (z : Begun). z.job) x.2 ∙ job_kept image going status x.0 in
        let is_b : b.job ≡ y.0.job = ap (λ (z : Begun). z.job) y.2 ∙ job_kept image going status y.0 in
        is_a ∙ (once.one x.0 y.0 x.1 y.1 (ap job_path (sym is_a) ∙ (same ∙ ap job_path is_b)) ∙ sym is_b)

-- a job has begun of which none had
once_begun :
    (rules : Rules) (entry : World) (s : Stand) (b : Begun) (going : Underway) → AreDerivedStill rules entry s → b.job.recipe ≡ going.recipe →
    list_any (λ (x : Begun). bytes_eq (job_path x.job) (job_path b.job)) s.begun ≡ false → IsOnce s → IsOnce (with_job b going s)
once_begun rules entry s b going derived recipe fresh once = record { alone = alone; one = one }
  where
    none_begun : (x : Begun) → IsIn s.begun x → job_path x.job ≡ job_path b.job → ⊥
    none_begun x i same =
        true≢false
        (sym
        (any_from (λ (y : Begun). bytes_eq (job_path y.job) (job_path b.job)) s.begun x i (subst (λ q. bytes_eq q (job_path b.job) ≡ true) (sym same) (place_itself (job_path b.job))))
        ∙ fresh)

    none_runs : (x : Underway) → IsIn s.runs x → path_of x ≡ path_of going → ⊥
    none_runs x i same =
        true≢false
        (sym (begun_child rules entry s b.job x derived i (same ∙ ap (λ (r : Recipe). or_empty (first (out_paths r))) (sym recipe))) ∙ fresh)

    alone : (x y : Underway) → IsIn (s.runs ++ going ∷ []) x → IsIn (s.runs ++ going ∷ []) y → path_of x ≡ path_of y → x ≡ y
    alone x y i k same = go (in_or_last s.runs going x i) (in_or_last s.runs going y k)
      where
        go : IsIn s.runs x ⊎ (x ≡ going) → IsIn s.runs y ⊎ (y ≡ going) → x ≡ y
        go (inl a) (inl c) = once.alone x y a c same
        go (inl a) (inr c) = absurd (none_runs x a (same ∙ ap path_of c))
        go (inr a) (inl c) = absurd (none_runs y c (sym same ∙ ap path_of a))
        go (inr a) (inr c) = a ∙ sym c

    one : (x y : Begun) → IsIn (s.begun ++ b ∷ []) x → IsIn (s.begun ++ b ∷ []) y → job_path x.job ≡ job_path y.job → x.job ≡ y.job
    one x y i k same = go (in_or_last s.begun b x i) (in_or_last s.begun b y k)
      where
        go : IsIn s.begun x ⊎ (x ≡ b) → IsIn s.begun y ⊎ (y ≡ b) → x.job ≡ y.job
        go (inl a) (inl c) = once.one x y a c same
        go (inl a) (inr c) = absurd (none_begun x a (same ∙ ap (λ (z : Begun). job_path z.job) c))
        go (inr a) (inl c) = absurd (none_begun y c (sym same ∙ ap (λ (z : Begun). job_path z.job) a))
        go (inr a) (inr c) = ap (λ (z : Begun). z.job) (a ∙ sym c)

module _ (rules : Rules) (entry : World) where
  abbrev ended_now : Stand → World → Underway → Ended → List Change → Stand
  ended_now s w going e left = without_child (seen rules (after w (wait_event e left))) going e.status s

  after_end : (s t : Stand) (w : World) (going : Underway) (e : Ended) (left : List Change) → IsKept (ended_now s w going e left) t → IsOnce s → IsOnce t
  after_end s t w going e left kept once =
      once_kept (ended_now s w going e left) t kept (once_ended s (seen rules (after w (wait_event e left))) going e.status once)

  step_once : (s t : Stand) (w : World) (before es : List Event) (deeds : List Deed) → AreDerivedStill rules entry s → Step rules entry s w before es deeds t → IsOnce s → IsOnce t
  step_once s t w before es deeds derived (Begins h) once =
      let b = begun_of rules entry (moment_of s w before) h.job in
      let u = with_job b h.going s in
      once_kept u t (kept_then u h.next t (replanned_kept rules u h.next (run w es) h.replanned) (goes_kept rules entry h.next t (run w es) (before ++ es) h.goes_by))
      (once_begun rules entry s b h.going derived (sym (ap (λ (g : Underway). g.recipe) h.is)) (unbegun rules s w before h.job h.to_begin.next.first) once)
  step_once s t w before es deeds derived (Closes h) once =
      let u = ended_now s w h.going h.ended h.left in
      after_end s t w h.going h.ended h.left (kept_then u h.next t (replanned_kept rules u h.next _ h.replanned) (answer_kept rules entry h.answer h.next t _ _ h.goes_by)) once
  step_once s t w before es deeds derived (Spends h) once =
      once_kept s t (kept_then s h.last t (removed_kept rules entry s h.last w before h.paths h.removing h.removed) (goes_kept rules entry h.last t _ _ h.goes_by)) once
  step_once s t w before es deeds derived (Halts h) once = once_kept s t (halted_kept s t h.why h.leaves) once
  step_once s t w before es deeds derived (Leaves h) once =
      after_end s t w h.going h.ended h.left (halted_kept (ended_now s w h.going h.ended h.left) t fault.OutOfMemory h.leaves) once
  step_once s t w before es deeds derived (BreaksOff h) once =
      after_end s t w h.going h.ended h.left (broken_kept (ended_now s w h.going h.ended h.left) t h.leaves) once
  step_once s t w before es deeds derived (ReadsNot h) once = once_kept s t (broken_kept s t h.leaves) once
  step_once s t w before es deeds derived (BeginsNot h) once = once_kept s t (broken_kept s t h.leaves) once
  step_once s t w before es deeds derived (SpendsNot h) once =
      once_kept s t (kept_then s h.last t (removed_kept rules entry s h.last w before h.paths h.removing h.removed) (broken_kept h.last t h.leaves)) once
  step_once s t w before es deeds derived (Waits h) once =
      after_end s t w h.going h.ended h.left
      (record { begun = ap (λ (x : Stand). x.begun) h.leaves; runs = ap (λ (x : Stand). x.runs) h.leaves }) once
  step_once s t w before es deeds derived (FailsToWait h) once = once_kept s t (broken_kept s t h.leaves) once

pub goes_on : GoesOn
goes_on act rules entry s t before es deeds formed keeps follows marked g step =
    let numbered = numbered_run act (run entry before) es follows (record { distinct = g.distinct; started = g.started }) in
    let once = step_once rules entry s t (run entry before) before es deeds g.derived step (record { alone = g.alone; one = g.one }) in
    record {
      tree = tree_run act (run entry before) es follows g.tree;
      children = step_children rules entry s t (run entry before) before es deeds step g.children;
      distinct = numbered.distinct;
      started = numbered.started;
      alone = once.alone;
      derived = step_stays_derived rules entry s t before es deeds formed keeps g.derived step;
      marked = marked;
      one = once.one;
    }
