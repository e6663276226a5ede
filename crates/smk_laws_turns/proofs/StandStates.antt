-- How the state of the protocol at a stand changes with it.
use Rattle.std.proofs.Common.{◌≡◌, ◌≢◌, inl, inr, ℕ, suc, ◌+◌, ◌||◌, Bool, true, false, ◌&&◌, not, List, [], ◌∷◌, ◌++◌, map, filter, length, refl, sym, ap, subst, ◌∙◌, bytes_eq, Option, Some, None, true≢false}
use Rattle.std.specs.Prelude.{nat_eq, if◌then◌else◌}
use Rattle.std.specs.List.{list_any}
use Rattle.std.proofs.lemmas.Bool.{cases_Bool, eq-eqb, eqb-true, or_parts}
use lib.Pointwise.{pointwise}
use Rattle.smk_base.specs.Path.{is_under, overlaps}
use Rattle.smk_world.specs.declared.event.Event.{Event}
use Rattle.smk_world.specs.declared.recipe.Recipe.{Recipe}
use Rattle.smk_world.specs.World.{World, out_paths}
use Rattle.smk_world.specs.Calls.{any_overlap}
use Rattle.smk_world.specs.Trees.{Path, IsIn, Each}
use Rattle.smk_record.specs.declared.record.Record.{Record}
use Rattle.smk_store.specs.Images.{Image}
use Rattle.smk_store.specs.Soundness.{Outside}
use Rattle.smk_report.specs.declared.fault.Fault.{Fault}
use Rattle.smk_report.specs.declared.fault.Fault.TheVariants as fault
use Rattle.smk_job.specs.Jobs.{Underway}
use Rattle.smk_laws_protocol.specs.Protocol.{OpenJob, RunState, Running, Ended, runs}
use Rattle.smk_laws_protocol.specs.Midway.{AllStrangers}
use Rattle.smk_laws_protocol.proofs.Basics.{each_in, each_of, each_on, filter_in, in_filter, in_rest, in_split, none_by, none_of}
use Rattle.smk_laws_job.specs.Laws.{stopped}
use Rattle.smk_laws_job.proofs.Abandoning.{in_first}
use Rattle.smk_laws_plan.proofs.CurrentLists.{and_left, in_map}
use Rattle.smk_drive.specs.Moments.{Rules, Begun, draws, ending, greatest, seen}
use Rattle.smk_drive_course.specs.Stands.{Stand, GoesBy, GoesOn, IsRefused, LacksMemory, WasHalted, IsReplanned, AtRest, Between, broken_by_device, ended_if, first_fault, halted_by, is_job_of, without_child}
use Rattle.smk_laws_moments.specs.Opened.{IsOf, IsOpen, IsStateOf, Runs, IsLeft, opened}
use Rattle.smk_laws_turns.proofs.Pairs.{IsAside, aside}

-- ## Stands that are told alike

-- of the later one the same has begun and runs, and no fault came only where none had come before
pub record IsLater (s t : Stand) : Type 0 where
  pub begun : t.begun ≡ s.begun
  pub runs : t.runs ≡ s.runs
  pub halted : t.halted ≡ None → s.halted ≡ None
  pub broken : t.broken ≡ s.broken

pub later_then : (s t u : Stand) → IsLater s t → IsLater t u → IsLater s u
later_then s t u a b =
    record { begun = b.begun ∙ a.begun; runs = b.runs ∙ a.runs; halted = λ none. a.halted (b.halted none); broken = b.broken ∙ a.broken }

some_fault : (x : Option Fault) (f : Fault) → first_fault x f ≡ None → ⊥
some_fault None f h = cc
some_fault (Some g) f h = cc

pub halted_some : (s : Stand) (f : Fault) → (halted_by f s).halted ≢ None
halted_some s f = some_fault s.halted f

pub halted_later : (s : Stand) (f : Fault) → IsLater s (halted_by f s)
halted_later s f = record { begun = refl; runs = refl; halted = λ none. absurd (some_fault s.halted f none); broken = refl }

pub replanned_later : (rules : Rules) (s t : Stand) (w : World) → IsReplanned rules s w t → IsLater s t
replanned_later rules s t w (AtRest plan rest force) = record { begun = refl; runs = refl; halted = λ none. none; broken = refl }
replanned_later rules s t w (Between rest) = record { begun = refl; runs = refl; halted = λ none. none; broken = refl }

pub goes_later : (rules : Rules) (entry : World) (s t : Stand) (w : World) (events : List Event) → GoesBy rules entry s w events t → IsLater s t
goes_later rules entry s t w events (GoesOn clear) = record { begun = refl; runs = refl; halted = λ none. none; broken = refl }
goes_later rules entry s t w events (IsRefused f unhalted refused) = halted_later s f
goes_later rules entry s t w events LacksMemory = halted_later s fault.OutOfMemory
goes_later rules entry s t w events (WasHalted was) = record { begun = refl; runs = refl; halted = λ none. none; broken = refl }

module _ (rules : Rules) (entry : World) where
  -- the same child of another stand and other open jobs
  pub reopened : (s t : Stand) (jobs others : List OpenJob) (g : Underway) (h : IsOpen s jobs g) → IsIn t.begun h.begun →
      IsIn others (opened g h.kept (Running g.number)) → IsOpen t others g
  reopened s t jobs others g h begun there =
      record {
        begun = h.begun;
        has_begun = begun;
        unended = h.unended;
        recipe = h.recipe;
        logs = h.logs;
        serial = h.serial;
        stamps = h.stamps;
        kept = h.kept;
        is_open = there;
        restored = h.restored;
        drawn = h.drawn;
        makes = h.makes;
        fits = h.fits;
        writable = h.writable;
        short = h.short;
      }

  open_later : (s t : Stand) (jobs : List OpenJob) (g : Underway) → t.begun ≡ s.begun → IsOpen s jobs g → IsOpen t jobs g
  open_later s t jobs g same h = reopened s t jobs jobs g h (subst (λ bs. IsIn bs h.begun) (sym same) h.has_begun) h.is_open

  of_later : (s t : Stand) → t.runs ≡ s.runs → (t.halted ≡ None → s.halted ≡ None) → (j : OpenJob) → IsOf s j → IsOf t j
  of_later s t same halted j (Runs g kept i) = Runs g kept (subst (λ gs. IsIn gs g) (sym same) i)
  of_later s t same halted j (IsLeft g kept status was) = IsLeft g kept status (λ none. was (halted none))

  pub state_later : (s t : Stand) (state : RunState) → IsLater s t → IsStateOf rules entry s state → IsStateOf rules entry t state
  state_later s t state l h =
      record {
        running = subst (Each (IsOpen t state.jobs)) (sym l.runs) (each_on (IsOpen s state.jobs) (IsOpen t state.jobs)
            (λ g. open_later s t state.jobs g l.begun) s.runs h.running);
        jobs = each_on (IsOf s) (IsOf t) (of_later s t l.runs l.halted) state.jobs h.jobs;
        top = λ none. h.top (l.halted none) ∙ ap (λ bs. greatest rules (seen rules entry) + length (filter (draws rules) bs)) (sym l.begun);
        steady = λ none. h.steady (l.halted none);
        faulted = h.faulted ∙ sym l.broken;
        halted = λ broken none. h.halted (sym l.broken ∙ broken) (l.halted none);
      }

  -- ## A call of the device failed

  pub record IsBroken (s t : Stand) : Type 0 where
    pub begun : t.begun ≡ s.begun
    pub runs : t.runs ≡ s.runs
    pub halted : t.halted ≢ None
    pub broken : t.broken ≡ true

  pub broken_is : (s t : Stand) → t ≡ broken_by_device s → IsBroken s t
  broken_is s t e =
      record {
        begun = ap (λ (x : Stand). x.begun) e;
        runs = ap (λ (x : Stand). x.runs) e;
        halted = λ none. some_fault s.halted fault.Device (sym (ap (λ (x : Stand). x.halted) e) ∙ none);
        broken = ap (λ (x : Stand). x.broken) e;
      }

  pub broken_later : (s t u : Stand) → IsLater s t → IsBroken t u → IsBroken s u
  broken_later s t u a b = record { begun = b.begun ∙ a.begun; runs = b.runs ∙ a.runs; halted = b.halted; broken = b.broken }

  -- then only the jobs whose children run are open
  pub state_broken : (o : Outside) (s t : Stand) (state : RunState) (top : ℕ) → IsBroken s t → IsStateOf rules entry s state →
      IsStateOf rules entry t (record (stopped o state) { top = top })
  state_broken o s t state top b h =
      record {
        running = subst (Each (IsOpen t (filter (runs o) state.jobs))) (sym b.runs) (each_on (IsOpen s state.jobs) (IsOpen t (filter (runs o) state.jobs))
            still_open s.runs h.running);
        jobs = each_of (IsOf t) (filter (runs o) state.jobs)
            (λ j i. of_later s t b.runs (λ none. absurd (b.halted none)) j (each_in (IsOf s) state.jobs j h.jobs (in_filter (runs o) state.jobs j i).0));
        top = λ none. absurd (b.halted none);
        steady = λ none. absurd (b.halted none);
        faulted = sym b.broken;
        halted = λ broken. b.halted;
      }
    where
      still_open : (g : Underway) → IsOpen s state.jobs g → IsOpen t (filter (runs o) state.jobs) g
      still_open g k =
          reopened s t state.jobs (filter (runs o) state.jobs) g k (subst (λ bs. IsIn bs k.begun) (sym b.begun) k.has_begun)
          (filter_in (runs o) state.jobs (opened g k.kept (Running g.number)) k.is_open refl)

  -- ## A child has ended

  length_draws : (image : Image) (g : Underway) (status : ℕ) (bs : List Begun) → length (filter (draws rules) (map (ended_if image g status) bs)) ≡ length
      (filter (draws rules) bs)
  length_draws image g status [] = refl
  length_draws image g status (b ∷ bs) = one (is_job_of g b) (length_draws image g status bs)
    where
      by : (x y : List Begun) (c d : Begun) (t : Bool) → length x ≡ length y → length (if t then c ∷ x else x) ≡ length (if t then d ∷ y else y)
      by x y c d true e = ap suc e
      by x y c d false e = e

      one : (t : Bool) → length (filter (draws rules) (map (ended_if image g status) bs)) ≡ length (filter (draws rules) bs)
          → length (filter (draws rules) ((if t then (record b { ended = Some (ending image b.job status) }) else b) ∷ map (ended_if image g status)
          bs)) ≡ length (filter (draws rules) (b ∷ bs))
      one true e = by (filter (draws rules) (map (ended_if image g status) bs)) (filter (draws rules) bs)
          (record b { ended = Some (ending image b.job status) }) b (draws rules b) e
      one false e = by (filter (draws rules) (map (ended_if image g status) bs)) (filter (draws rules) bs) b b (draws rules b) e

  same_first : (p q : Path) (ps qs : List Path) → (bytes_eq p q && pointwise bytes_eq ps qs) ≡ true → bytes_eq p q ≡ true
  same_first p q ps qs h = and_left (bytes_eq p q) (pointwise bytes_eq ps qs) h

  -- what has another child is another job
  other_outs : (ps qs : List Path) → any_overlap ps qs ≡ false → qs ≢ [] → pointwise bytes_eq ps qs ≡ false
  other_outs ps [] h some = absurd (some refl)
  other_outs [] (q ∷ qs) h some = refl
  other_outs (p ∷ ps) (q ∷ qs) h some = elim (cases_Bool (bytes_eq p q && pointwise bytes_eq ps qs)) [
    | inr f ↦ f
    | inl t ↦ absurd (true≢false (sym (ap (λ b. b || (is_under p q || is_under q p)) (same_first p q ps qs t))
        ∙ (or_parts (overlaps p q) (list_any (overlaps p) qs) (or_parts (list_any (overlaps p) (q ∷ qs)) (any_overlap ps (q ∷ qs)) h).0).0))
  ]

  first_apart : (ps qs ms ns : List Path) → any_overlap (ps ++ ms) (qs ++ ns) ≡ false → any_overlap ps qs ≡ false
  first_apart ps qs ms ns h =
      none_by (λ (p : Path). list_any (overlaps p) qs) ps
      (λ p i. none_by (overlaps p) qs (λ q k. none_of (overlaps p) (qs ++ ns) q (none_of (λ (x : Path). list_any (overlaps x) (qs ++ ns)) (ps ++ ms) p h
      (in_first ps ms p i)) (in_first qs ns q k)))

  -- the state once the child has ended and its job is open no more
  module _ (image : Image) (s : Stand) (state : RunState) (js ks : List OpenJob) (going : Underway) (kept : List (Path × Record)) (status : ℕ)
      (h : IsStateOf rules entry s state) (at : state.jobs ≡ js ++ opened going kept (Running going.number) ∷ ks) (strangers : AllStrangers state.jobs) where
    abbrev mine : OpenJob
    mine = opened going kept (Running going.number)

    abbrev next : Stand
    next = without_child image going status s

    beside : (k : OpenJob) → IsIn (js ++ ks) k → IsAside mine k
    beside k i = aside js ks mine k (subst AllStrangers at strangers) i

    same_number : (n m : ℕ) → Running n ≡ Running m → n ≡ m
    same_number n m e = cc

    number_other : (g : Underway) (k : List (Path × Record)) → IsIn (js ++ ks) (opened g k (Running g.number)) → not (nat_eq g.number going.number) ≡ true
    number_other g k i = elim (cases_Bool (nat_eq g.number going.number)) [
      | inr f ↦ ap not f
      | inl t ↦ absurd ((beside (opened g k (Running g.number)) i).numbers going.number refl (ap Running (eqb-true g.number going.number t)))
    ]

    still_open : (g : Underway) → IsIn s.runs g → not (nat_eq g.number going.number) ≡ true → IsOpen next (js ++ ks) g
    still_open g i other =
        let k = each_in (IsOpen s state.jobs) s.runs g h.running i in
        let theirs = opened g k.kept (Running g.number) in
        let there : IsIn (js ++ ks) theirs = elim (in_split js ks mine theirs (subst (λ l. IsIn l theirs) at k.is_open)) [
          | inr rest ↦ rest
          | inl e ↦ absurd (true≢false
              (sym other ∙ ap not (eq-eqb g.number going.number (same_number g.number going.number (ap (λ (j : OpenJob). j.phase) e)))))
        ] in
        let no_overlap = first_apart (out_paths going.recipe) (out_paths g.recipe) going.logs g.logs (beside theirs there).own_apart in
        let not_its : is_job_of going k.begun ≡ false =
        ap (λ (r : Recipe). pointwise bytes_eq (out_paths going.recipe) (out_paths r)) k.recipe ∙ other_outs (out_paths going.recipe) (out_paths g.recipe)
        no_overlap k.makes in
        let unchanged : ended_if image going status k.begun ≡ k.begun = ap (λ t. if t then (record k.begun { ended = Some (ending image k.begun.job status) })
        else k.begun) not_its in
        reopened s next state.jobs (js ++ ks) g k (subst (λ b. IsIn next.begun b) unchanged (in_map (ended_if image going status) s.begun k.begun k.has_begun))
        there

    still_of : (k : OpenJob) → IsIn (js ++ ks) k → IsOf s k → IsOf next k
    still_of k i (Runs g x ig) = Runs g x (filter_in (λ (r : Underway). not (nat_eq r.number going.number)) s.runs g ig (number_other g x i))
    still_of k i (IsLeft g x n was) = IsLeft g x n was

    pub state_without : IsStateOf rules entry next (record state { jobs = js ++ ks })
    state_without =
        record {
          running = each_of (IsOpen next (js ++ ks)) next.runs
              (λ g i. let f = in_filter (λ (r : Underway). not (nat_eq r.number going.number)) s.runs g i in still_open g f.0 f.1);
          jobs = each_of (IsOf next) (js ++ ks)
              (λ k i. still_of k i (each_in (IsOf s) state.jobs k h.jobs (subst (λ l. IsIn l k) (sym at) (in_rest js ks mine k i))));
          top = λ none. h.top none ∙ ap (λ n. greatest rules (seen rules entry) + n) (sym (length_draws image going status s.begun));
          steady = h.steady;
          faulted = h.faulted;
          halted = h.halted;
        }

  -- the job of that child stays open, where a fault has come
  pub state_left : (s : Stand) (state : RunState) (js ks : List OpenJob) (g : Underway) (kept : List (Path × Record)) (status : ℕ)
      → s.halted ≢ None → IsStateOf rules entry s (record state { jobs = js ++ ks }) →
      IsStateOf rules entry s (record state { jobs = js ++ opened g kept (Ended status) ∷ ks })
  state_left s state js ks g kept status was h =
      let all = js ++ opened g kept (Ended status) ∷ ks in
      record {
        running = each_on (IsOpen s (js ++ ks)) (IsOpen s all)
            (λ x k. reopened s s (js ++ ks) all x k k.has_begun (in_rest js ks (opened g kept (Ended status)) (opened x k.kept (Running x.number)) k.is_open))
            s.runs h.running;
        jobs = each_of (IsOf s) all (λ k i. elim (in_split js ks (opened g kept (Ended status)) k i) [
          | inl e ↦ subst (IsOf s) (sym e) (IsLeft g kept status was)
          | inr rest ↦ each_in (IsOf s) (js ++ ks) k h.jobs rest
        ]);
        top = h.top;
        steady = h.steady;
        faulted = h.faulted;
        halted = h.halted;
      }
