-- The outputs that are told to be spent are those that are.
use Rattle.std.proofs.Common.{◌≡◌, Bool, true, false, not, cond, ◌&&◌, ◌||◌, List, [], ◌∷◌, ◌++◌, map, filter, flat_map, length, replicate, zip, refl, sym, ap}
use Rattle.std.proofs.Common.{◌∙◌}
use Rattle.std.proofs.Common.{inl, inr}
use Rattle.std.specs.List.{list_all, list_any}
use Rattle.std.proofs.lemmas.List.{length-map}
use Rattle.smk_world.specs.Trees.{Path, among}
use Rattle.smk_flow.specs.declared.job.Job.{Job}
use Rattle.smk_chain.specs.declared.jobs.Jobs.{Jobs}
use Rattle.smk_trigger.specs.declared.reason.State.{State}
use Rattle.smk_trigger.specs.JobStates.{is_clean}
use Rattle.smk_pick.specs.declared.settings.Settings.{Settings}
use Rattle.smk_plan.specs.declared.wholes.Wholes.{Wholes}
use Rattle.smk_plan.specs.States.{Plan, is_held_back, is_input, is_spent, makes_awaited, staged}
use Rattle.smk_plan_states.specs.declared.lines.Line.{Line}
use Rattle.smk_plan_states.specs.Judged.{Judging, any_held_back}
use Rattle.smk_plan_states.specs.Ranks.{rank_of}
use Rattle.smk_plan_states.specs.Rows.{has_any}
use Rattle.smk_plan_states.specs.Lines.{feeds, line_of, origin_of, temp_of}
use Rattle.smk_plan_states.specs.Tables.{IsTableOf}
use Rattle.smk_plan_live.specs.Limits.{has_temps}
use Rattle.smk_plan_live.specs.Live.{LivePlan}
use Rattle.smk_laws_plan.proofs.CurrentLists.{In, and_left, and_right, any_none, clash_of, zip_first}
use Rattle.smk_laws_plan.proofs.CurrentPaths.{in_among}
use Rattle.smk_laws_plan.proofs.CurrentRecipes.{flat_same}
use Rattle.smk_laws_plan.proofs.PlanStates.{filter_same}
use Rattle.smk_drive_pick.specs.Picking.{AreToldOf, plan_of}
use Rattle.smk_drive_pick.specs.Spending.{is_ripe, may_go, need_all, ripe_in, ripe_paths, spent_now}
use Rattle.smk_drive_pick.proofs.Awaiting.{feeds_is}
use Rattle.smk_drive_pick.proofs.ByRank.{need_by, ripe_ranks, state_done, state_need_all, state_ripe_by, state_ripe_in}
use Rattle.smk_drive_pick.proofs.Lists.{filter_none}
use Rattle.smk_drive_pick.proofs.Needs.{needed_is, noted}

-- ## Booleans

kept_true : (x n g : Bool) → ((x && (n && true)) && g) ≡ (x && (n && g))
kept_true true true g = refl
kept_true true false g = refl
kept_true false n g = refl

never_clean : (a x g : Bool) → ((a && (x && false)) && g) ≡ false
never_clean true true g = refl
never_clean true false g = refl
never_clean false x g = refl

never_temporary : (t y g : Bool) → (((t && false) && y) && g) ≡ false
never_temporary true y g = refl
never_temporary false y g = refl

-- spent, and may go
abbrev goes : Bool → Bool → Bool → Bool → Bool → Bool → Bool → Bool → Bool
goes t m x c n d h g = ((t && m) && (x && (c && (n && (d && h))))) && g

ripe_bool : (t m x c n d h g : Bool) → t ≡ true → (c && m) ≡ true → d ≡ true → h ≡ true → goes t m x c n d h g ≡ (x && (n && g))
ripe_bool t m x c n d h g tt cm dd hh =
    (λ i. goes (tt i) (and_right c m cm i) x (and_left c m cm i) n (dd i) (hh i) g) ∙ kept_true x n g

unripe_bool : (t m x c n d h g : Bool) → (c && m) ≡ false → goes t m x c n d h g ≡ false
unripe_bool t m x false n d h g e = never_clean (t && m) x g
unripe_bool t false x true n d h g e = never_temporary t (x && (true && (n && (d && h)))) g
unripe_bool t true x true n d h g e = absurd (clash_of true refl e)

undone_bool : (t m x c n d h g : Bool) → d ≡ false → goes t m x c n d h g ≡ false
undone_bool t m x c n d h g e = ap (λ b. goes t m x c n b h g) e ∙ go t m x c n
  where
    go : (t m x c n : Bool) → goes t m x c n false h g ≡ false
    go false m x c n = refl
    go true false x c n = refl
    go true true false c n = refl
    go true true true false n = refl
    go true true true true false = refl
    go true true true true true = refl

unheld_bool : (t m x c n d h g : Bool) → h ≡ false → goes t m x c n d h g ≡ false
unheld_bool t m x c n d h g e = ap (λ b. goes t m x c n d b g) e ∙ go t m x c n d
  where
    go : (t m x c n d : Bool) → goes t m x c n d false g ≡ false
    go false m x c n d = refl
    go true false x c n d = refl
    go true true false c n d = refl
    go true true true false n d = refl
    go true true true true false d = refl
    go true true true true true false = refl
    go true true true true true true = refl

-- ## Lists

flat_none : {A B : Type 0} (f : A → List B) (xs : List A) → ((x : A) → In x xs → f x ≡ []) → flat_map f xs ≡ []
flat_none f [] h = refl
flat_none f (x ∷ xs) h = (λ i. h x (inl refl) i ++ flat_map f xs) ∙ flat_none f xs (λ y k. h y (inr k))

none_held : {A : Type 0} (f : A → Bool) (xs : List A) → list_all (λ x. not (f x)) xs ≡ not (list_any f xs)
none_held f [] = refl
none_held f (x ∷ xs) = go (f x) (none_held f xs)
  where
    go : (b : Bool) → list_all (λ x. not (f x)) xs ≡ not (list_any f xs) → (not b && list_all (λ x. not (f x)) xs) ≡ not (b || list_any f xs)
    go true e = refl
    go false e = e

-- the members for which something passes, one after another
flat_filter :
    {A B : Type 0} (f : A → B) (test : A × B → Bool) (xs : List A) → flat_map (λ (e : A × B). cond (test e) (e.0 ∷ []) []) (zip xs (map f xs))
    ≡ filter (λ x. test (x, f x)) xs
flat_filter f test [] = refl
flat_filter {A} {B} f test (x ∷ xs) = go (test (x, f x)) (flat_filter f test xs)
  where
    go :
        (b : Bool) → flat_map (λ (e : A × B). cond (test e) (e.0 ∷ []) []) (zip xs (map f xs)) ≡ filter (λ x. test (x, f x)) xs →
        cond b (x ∷ []) [] ++ flat_map (λ (e : A × B). cond (test e) (e.0 ∷ []) []) (zip xs (map f xs))
        ≡ cond b (x ∷ filter (λ x. test (x, f x)) xs) (filter (λ x. test (x, f x)) xs)
    go true ih = ap (λ ys. x ∷ ys) ih
    go false ih = ih

flat_zipped :
    {A B C D : Type 0} (f : A → B) (g : A × (B × C) → List D) (xs : List A) (ys : List C) →
    flat_map g (zip xs (zip (map f xs) ys)) ≡ flat_map (λ (e : A × C). g (e.0, (f e.0, e.1))) (zip xs ys)
flat_zipped f g [] ys = refl
flat_zipped f g (x ∷ xs) [] = refl
flat_zipped f g (x ∷ xs) (y ∷ ys) = ap (λ ds. g (x, (f x, y)) ++ ds) (flat_zipped f g xs ys)

module _ (at : Judging) (live : LivePlan) (wholes : Wholes) (judged : AreToldOf at live wholes) where
  abbrev P : Plan
  P = plan_of live

  abbrev held : Job → Bool
  held = is_held_back at.image at.settings at.progress P

  abbrev goes_now : Job × State → Path → Bool
  goes_now e p = is_spent at.image at.settings at.progress P e p && may_go live p

  -- ## Where something keeps all outputs

  pub none_temporary : list_any has_temps live.base.jobs.jobs ≡ false → spent_now at live ≡ []
  none_temporary h =
      flat_none (λ (e : Job × State). filter (goes_now e) e.0.temps) (staged P)
      (λ e i. ap (filter (goes_now e))
      (empty e.0.temps (any_none has_temps live.base.jobs.jobs e.0 h (zip_first live.base.jobs.jobs live.plan.states e.0 e.1 i))))
    where
      empty : (ps : List Path) → has_any ps ≡ false → ps ≡ []
      empty [] e = refl
      empty (p ∷ ps) e = absurd (clash_of true refl e)

  pub none_undone : list_all state_done live.plan.states ≡ false → spent_now at live ≡ []
  none_undone h =
      flat_none (λ (e : Job × State). filter (goes_now e) e.0.temps) (staged P)
      (λ e i. filter_none (goes_now e) e.0.temps
      (λ p k. undone_bool (among e.0.temps p) (not (makes_awaited at.image at.settings at.progress P e.0))
      (not (among at.settings.targets p)) (is_clean e.1)
      (not (is_input P (λ (k : Job × State). not (is_clean k.1)) p)) (list_all state_done live.plan.states)
      (list_all (λ j. not (held j)) live.base.jobs.jobs) (may_go live p) h))

  pub none_while_held : any_held_back at live.base.jobs live.plan.states ≡ true → spent_now at live ≡ []
  none_while_held h =
      flat_none (λ (e : Job × State). filter (goes_now e) e.0.temps) (staged P)
      (λ e i. filter_none (goes_now e) e.0.temps
      (λ p k. unheld_bool (among e.0.temps p) (not (makes_awaited at.image at.settings at.progress P e.0))
      (not (among at.settings.targets p)) (is_clean e.1)
      (not (is_input P (λ (k : Job × State). not (is_clean k.1)) p)) (list_all state_done live.plan.states)
      (list_all (λ j. not (held j)) live.base.jobs.jobs) (may_go live p)
      (none_held held live.base.jobs.jobs ∙ ap not h)))

  -- ## Where nothing does

  module _ (lined : IsTableOf live.base.jobs live.settings.targets live.table) where
    abbrev J : Jobs
    J = live.base.jobs

    abbrev ss : List State
    ss = live.plan.states

    abbrev asked : List Path
    asked = live.settings.targets

    abbrev line : Job → Line
    line = line_of J asked

    abbrev needed : List Bool
    needed = noted J ss judged.served.reads asked

    makes_is : (j : Job) → feeds J asked j ≡ makes_awaited at.image at.settings at.progress P j
    makes_is j =
        feeds_is live.settings J ss judged.each judged.served at.image at.progress j
        ∙ ap (λ (s : Settings). makes_awaited at.image s at.progress P j) (sym judged.settings)

    targets_are : (p : Path) → among asked p ≡ among at.settings.targets p
    targets_are p = ap (λ (s : Settings). among s.targets p) (sym judged.settings)

    ripe_one :
        (e : Job × State) → list_all state_done ss ≡ true → any_held_back at J ss ≡ false → state_ripe_by live needed (e.0, (line e.0, e.1))
        ≡ filter (goes_now e) e.0.temps
    ripe_one e done unheld = one (is_clean e.1 && not (feeds J asked e.0)) refl
      where
        same_makes : (is_clean e.1 && not (feeds J asked e.0)) ≡ (is_clean e.1 && not (makes_awaited at.image at.settings at.progress P e.0))
        same_makes = ap (λ b. is_clean e.1 && not b) (makes_is e.0)

        one :
            (b : Bool) → (is_clean e.1 && not (feeds J asked e.0)) ≡ b → cond b (ripe_paths live needed (zip e.0.temps (map (temp_of J asked) e.0.temps))) []
            ≡ filter (goes_now e) e.0.temps
        one true h =
            flat_filter (temp_of J asked) (is_ripe live needed) e.0.temps
            ∙ filter_same (λ p. is_ripe live needed (p, temp_of J asked p)) (goes_now e) e.0.temps
            (λ p k. (λ i. not (targets_are p i) && (not (needed_is J ss judged.served.reads asked p i) && may_go live p))
            ∙ sym (ripe_bool (among e.0.temps p) (not (makes_awaited at.image at.settings at.progress P e.0))
            (not (among at.settings.targets p)) (is_clean e.1)
            (not (is_input P (λ (k : Job × State). not (is_clean k.1)) p)) (list_all state_done live.plan.states)
            (list_all (λ j. not (held j)) live.base.jobs.jobs) (may_go live p)
            (in_among e.0.temps p k) (sym same_makes ∙ h) done (none_held held live.base.jobs.jobs ∙ ap not unheld)))
        one false h =
            sym (filter_none (goes_now e) e.0.temps
            (λ p k. unripe_bool (among e.0.temps p) (not (makes_awaited at.image at.settings at.progress P e.0))
            (not (among at.settings.targets p)) (is_clean e.1)
            (not (is_input P (λ (k : Job × State). not (is_clean k.1)) p)) (list_all state_done live.plan.states)
            (list_all (λ j. not (held j)) live.base.jobs.jobs) (may_go live p)
            (sym same_makes ∙ h)))

    pub ripe_is :
        list_all state_done ss ≡ true → any_held_back at J ss ≡ false →
        ripe_in live (need_all (replicate (length live.table.origins) false) (zip live.table.lines (map rank_of ss)))
        (zip J.jobs (zip live.table.lines (map rank_of ss)))
        ≡ spent_now at live
    ripe_is done unheld =
        ripe_ranks live (need_all (replicate (length live.table.origins) false) (zip live.table.lines (map rank_of ss))) J.jobs live.table.lines ss
        ∙ ap (λ flags. state_ripe_in live flags (zip J.jobs (zip live.table.lines ss)))
        (need_by (replicate (length live.table.origins) false) live.table.lines ss)
        ∙ (λ i. state_ripe_in live (state_need_all (replicate (counted i) false) (zip (lined.lines i) ss)) (zip J.jobs (zip (lined.lines i) ss)))
        ∙ flat_zipped line (state_ripe_by live needed) J.jobs ss
        ∙ flat_same (λ (e : Job × State). state_ripe_by live needed (e.0, (line e.0, e.1))) (λ (e : Job × State). filter (goes_now e) e.0.temps) (staged P)
        (λ e i. ripe_one e done unheld)
      where
        counted : length live.table.origins ≡ length J.makers
        counted = ap length lined.origins ∙ length-map J.makers (origin_of J.jobs)
