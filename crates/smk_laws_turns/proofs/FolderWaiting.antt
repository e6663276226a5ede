-- A child was waited for: what it owned is known from then on, and all else stands as it did.
use Rattle.std.proofs.Common.{◌≡◌, inl, inr, ℕ, Bool, true, false, not, List, [], ◌∷◌}
use Rattle.std.proofs.Common.{map, Some, refl, sym, ap, subst, ◌∙◌, eq-eqb, eqb-true, nat_eq, true≢false}
use Rattle.std.specs.Prelude.{if◌then◌else◌}
use Rattle.smk_base.specs.Path.{is_at_or_under, is_path, own_folder}
use Rattle.smk_base.specs.Place.{mark_place, record_place}
use Rattle.smk_base.proofs.Apart.{path-own}
use Rattle.smk_base.proofs.Under.{never_both}
use Rattle.smk_world.specs.declared.event.Besides.TheVariants.{Anything}
use Rattle.smk_world.specs.declared.event.Change.{Change}
use Rattle.smk_world.specs.declared.event.Child.{Child}
use Rattle.smk_world.specs.declared.event.Ended.{Ended}
use Rattle.smk_world.specs.declared.event.Event.{Event}
use Rattle.smk_world.specs.declared.event.NodeState.{NodeState}
use Rattle.smk_world.specs.declared.event.NodeState.TheVariants.{Owned, Known}
use Rattle.smk_world.specs.Calls.{HasOwners, owned_now}
use Rattle.smk_world.specs.Trees.{IsIn, Path}
use Rattle.smk_world.specs.World.{World, after, child_numbered, in_paths, is_within, owned_by, owned_of, owned_paths, standing}
use Rattle.smk_laws_plan.proofs.CurrentLists.{in_right}
use Rattle.smk_laws_protocol.proofs.Basics.{in_filter}
use Rattle.smk_job.specs.Jobs.{Underway}
use Rattle.smk_job.proofs.Single.{IsKnown}
use Rattle.smk_run.specs.Closings.{wait_event}
use Rattle.smk_drive.specs.Moments.{Rules}
use Rattle.smk_drive_step.specs.Crews.{goings}
use Rattle.smk_drive_course.specs.Stands.{Stand}
use Rattle.smk_drive_course.specs.Steps.{Deed}
use Rattle.smk_laws_moments.specs.Courses.{child_of}
use Rattle.smk_laws_turns.specs.Hubs.{AreApart, IsAt, Parts}
use Rattle.smk_laws_turns.proofs.Overlaps.{owned_in, within_in}
use Rattle.smk_laws_turns.proofs.Staff.{child_runs, used_path}
use Rattle.smk_laws_turns.proofs.ClosedCalls.{none_within}

-- ## One number

-- two of one number are one
one_numbered : (gs : List Underway) (a b : Underway) → AreApart gs → IsIn gs a → IsIn gs b → a.number ≡ b.number → a ≡ b
one_numbered [] a b apart i k same = absurd i
one_numbered (x ∷ gs) a b apart (inl e) (inl d) same = e ∙ sym d
one_numbered (x ∷ gs) a b apart (inl e) (inr k) same = absurd (apart.0 b k (sym same ∙ ap (λ (y : Underway). y.number) e))
one_numbered (x ∷ gs) a b apart (inr i) (inl d) same = absurd (apart.0 a i (same ∙ ap (λ (y : Underway). y.number) d))
one_numbered (x ∷ gs) a b apart (inr i) (inr k) same = one_numbered gs a b apart.1 i k same

-- what the child with this number owns, where all with it own the same
owned_numbered :
    (cs : List Child) (n : ℕ) (c : Child) (ps : List Path) → IsIn cs c → c.number ≡ n →
    ((d : Child) → IsIn cs d → d.number ≡ n → owned_paths d.recipe d.logs ≡ ps) →
    owned_of (child_numbered n cs) ≡ ps
owned_numbered [] n c ps i same all = absurd i
owned_numbered (d ∷ cs) n c ps i same all = go (nat_eq d.number n) refl (λ k. owned_numbered cs n c ps k same (λ x m. all x (inr m)))
  where
    later : nat_eq d.number n ≡ false → IsIn (d ∷ cs) c → IsIn cs c
    later none (inl e) = absurd (true≢false (sym (eq-eqb d.number n (ap (λ (x : Child). x.number) (sym e) ∙ same)) ∙ none))
    later none (inr k) = k

    go : (b : Bool) → nat_eq d.number n ≡ b → (IsIn cs c → owned_of (child_numbered n cs) ≡ ps) → owned_of (if b then Some d else child_numbered n cs) ≡ ps
    go true is more = all d (inl refl) (eqb-true d.number n is)
    go false none more = more (later none i)

known_by : (b : Bool) (s : NodeState) (t : NodeState) → b ≡ true → IsKnown t → IsKnown (if b then t else s)
known_by true s t is known = known
known_by false s t is known = absurd (true≢false (sym is))

kept_by : (b : Bool) (s : NodeState) (t : NodeState) → b ≡ false → (if b then t else s) ≡ s
kept_by true s t none = absurd (true≢false none)
kept_by false s t none = refl

known_unless : (s : NodeState) → (s ≡ Owned → ⊥) → IsKnown s
known_unless Owned never = absurd (never refl)
known_unless (Known now besides) never = tt

module _
    (rules : Rules) (entry : World) (h : Parts) (s : Stand) (w : World) (before : List Event) (deeds : List Deed) (at : IsAt rules entry h s w before deeds)
    (going : Underway) (ended : Ended) (left : List Change) (ran : IsIn s.runs going) (number : ended.number ≡ going.number) where
  abbrev pub waited : World
  waited = after w (wait_event ended left)

  abbrev owned : List Path
  owned = owned_paths going.recipe going.logs

  pub runs_here : IsIn w.children (child_of going)
  runs_here = subst (λ cs. IsIn cs (child_of going)) (sym at.children) (mapped s.runs ran)
    where
      mapped : (gs : List Underway) → IsIn gs going → IsIn (map child_of gs) (child_of going)
      mapped [] i = absurd i
      mapped (g ∷ gs) (inl e) = inl (ap child_of e)
      mapped (g ∷ gs) (inr i) = inr (mapped gs i)

  pub one_runs : (g : Underway) → IsIn s.runs g → g.number ≡ going.number → g ≡ going
  one_runs g i same = one_numbered (goings h.places) g going at.crew.apart (at.crew.placed g i) (at.crew.placed going ran) same

  pub owned_is : owned_by ended.number w.children ≡ owned
  owned_is = owned_numbered w.children ended.number (child_of going) owned runs_here (sym number) all
    where
      all : (d : Child) → IsIn w.children d → d.number ≡ ended.number → owned_paths d.recipe d.logs ≡ owned
      all d i same =
          let g = child_runs rules entry h s w before deeds at d i in
          let is = one_runs g.0 g.1 (sym (ap (λ (x : Child). x.number) g.2) ∙ (same ∙ number)) in
          ap (λ (x : Child). owned_paths x.recipe x.logs) g.2 ∙ ap (λ (x : Underway). owned_paths x.recipe x.logs) is

  -- what it owned is known
  pub known_then : (q : Path) → is_within q owned ≡ true → IsKnown (waited.nodes q)
  known_then q within =
      known_by (is_within q (owned_by ended.number w.children)) (w.nodes q) (Known (standing left q) Anything) (ap (is_within q) owned_is ∙ within) tt

  -- all else stands as it did
  pub stands_still : (q : Path) → is_within q owned ≡ false → waited.nodes q ≡ w.nodes q
  stands_still q none =
      kept_by (is_within q (owned_by ended.number w.children)) (w.nodes q) (Known (standing left q) Anything) (ap (is_within q) owned_is ∙ none)

  owned_path : (p : Path) → IsIn owned p → is_path p ≡ true
  owned_path p i =
      used_path rules entry h s w before deeds at (child_of going) p runs_here (in_right p (in_paths going.recipe) owned i)

  -- so does what stands in the engine's own folder
  pub own_still : (q : Path) → is_at_or_under q own_folder ≡ true → waited.nodes q ≡ w.nodes q
  own_still q inside = stands_still q (none_within owned q (λ p i. path-own p q (owned_path p i) inside))

  module _ (owners : HasOwners w) where
    -- which is known
    pub own_known : (q : Path) → is_at_or_under q own_folder ≡ true → IsKnown (waited.nodes q)
    own_known q inside = subst IsKnown (sym (own_still q inside)) (known_unless (w.nodes q) never)
      where
        never : w.nodes q ≡ Owned → ⊥
        never is =
            let p = within_in q (owned_now w.children) (owners q is) in
            let c = owned_in w.children p.0 p.1 in
            let path = used_path rules entry h s w before deeds at c.0 p.0 c.1 (in_right p.0 (in_paths c.0.recipe) (owned_paths c.0.recipe c.0.logs) c.2) in
            never_both (is_at_or_under q p.0) p.2 (path-own p.0 q path inside).at_or_over

    pub records_known : (p : Path) → IsKnown (waited.nodes (record_place p))
    records_known p = own_known (record_place p) refl

    pub marks_known : (p : Path) → IsKnown (waited.nodes (mark_place p))
    marks_known p = own_known (mark_place p) refl

  -- the children that run still ran, and own other places
  pub others_run : (c : Child) → IsIn waited.children c → (g : Underway) × IsIn s.runs g × (c ≡ child_of g) × (g.number ≡ going.number → ⊥)
  others_run c i =
      let f = in_filter (λ (x : Child). not (nat_eq x.number ended.number)) w.children c i in
      let g = child_runs rules entry h s w before deeds at c f.0 in
      (g.0, g.1, g.2, λ same. true≢false (sym f.1 ∙ ap not (eq-eqb c.number ended.number (ap (λ (x : Child). x.number) g.2 ∙ (same ∙ sym number)))))
