-- Where a run stands once it has opened.
use Rattle.std.proofs.Common.{◌≡◌, ◌≤◌, ◌+◌, ◌^◌, ℕ, suc, Bool, true, false, List, [], ◌∷◌, ◌++◌, refl, sym, subst, ◌∙◌, inl, inr, arith, Option, Some, None, Ok}
use Rattle.std.specs.Prelude.{is_none, nat_lt, if◌then◌else◌}
use Rattle.std.specs.List.{list_all}
use Rattle.std.proofs.lemmas.List.Sorted.{IsPermutation-refl}
use Rattle.smk_world.specs.declared.event.Event.{Event}
use Rattle.smk_world.specs.Runs.{Follows}
use Rattle.smk_world.specs.Trees.{Act, IsIn}
use Rattle.smk_world.specs.World.{World, reading, run}
use Rattle.smk_world.specs.Devices.{AreLooks}
use Rattle.smk_flow.specs.Flows.{Flow}
use Rattle.smk_store.specs.Images.{Image, image_by}
use Rattle.smk_store.specs.Serials.{after_serial}
use Rattle.smk_pick.specs.declared.settings.Settings.{Settings}
use Rattle.smk_plan.specs.States.{IsPlan, Last, LastPlan, Plan, Progress, Then, new_listings}
use Rattle.smk_drive.specs.Moments.{Rules, seen}
use Rattle.smk_drive.specs.Moments as moments
use Rattle.smk_drive_step.specs.declared.children.Child.{Child}
use Rattle.smk_drive_step.specs.Crews.{goings}
use Rattle.smk_drive_course.specs.Driven.{IsOpening, Opens}
use Rattle.smk_laws_moments.proofs.ChildrenOf.{run_more}
use Rattle.smk_laws_turns.specs.Hubs.{asks_in, if_fits}
use Rattle.smk_laws_turns.proofs.Settling.{settling_leaves}
use Rattle.smk_laws_turns.proofs.Homes.{looks_leave_all}
use Rattle.smk_safe.proofs.Done.{follows_split}

-- ## Free places

never : (c : Child) → None ≡ Some c → ⊥
never c h = cc

pub none_in : (places : List (Option Child)) → list_all is_none places ≡ true → (c : Child) → IsIn places (Some c) → ⊥
none_in [] free c i = i
none_in (None ∷ ps) free c (inl e) = never c (sym e)
none_in (None ∷ ps) free c (inr i) = none_in ps free c i
none_in (Some d ∷ ps) free c i = absurd (wrong free)
  where
    wrong : false ≡ true → ⊥
    wrong h = cc

pub no_goings : (places : List (Option Child)) → list_all is_none places ≡ true → goings places ≡ []
no_goings [] free = refl
no_goings (None ∷ ps) free = no_goings ps free
no_goings (Some d ∷ ps) free = absurd (wrong free)
  where
    wrong : false ≡ true → ⊥
    wrong h = cc

pub no_asks : (places : List (Option Child)) → list_all is_none places ≡ true → asks_in places ≡ []
no_asks [] free = refl
no_asks (None ∷ ps) free = no_asks ps free
no_asks (Some d ∷ ps) free = absurd (wrong free)
  where
    wrong : false ≡ true → ⊥
    wrong h = cc

-- ## Plans

pub last_is : (flow : Flow) (image : Image) (settings : Settings) (progress : Progress) (L : List _) (plan : Plan) → LastPlan flow image settings progress L plan → IsPlan flow image settings progress plan × (new_listings image settings progress plan ≡ [])
last_is flow image settings progress _ _ (Last plan is none) = (is, none)
last_is flow image settings progress _ last (Then plan _ is some later) = last_is flow image settings progress (plan.lists ++ new_listings image settings progress plan) last later

-- ## Serials

pub fits_same : (g : ℕ) → after_serial g ≡ if_fits (g + (1 + 0))
fits_same g = go (nat_lt g 18446744073709551615) (nat_lt (g + (1 + 0)) (2 ^ 64)) (both g) (one_more g)
  where
    both : (n : ℕ) → nat_lt n 18446744073709551615 ≡ nat_lt (n + (1 + 0)) (2 ^ 64)
    both n = grind arith

    one_more : (n : ℕ) → suc n ≡ n + (1 + 0)
    one_more n = omega arith

    go :
        (a b : Bool) → a ≡ b → suc g ≡ g + (1 + 0) →
        (if a then Some (suc g) else None) ≡ (if b then Some (g + (1 + 0)) else None)
    go a b e same = λ i. if e i then Some (same i) else None

-- ## The folder once it was opened

-- the same is seen, and the same children run
abbrev IsSameSeen : Rules → World → World → Type 0
IsSameSeen rules w v = (seen rules v ≡ seen rules w) × (v.children ≡ w.children)

looks_same : (act : Act) (rules : Rules) (w : World) (es : List Event) → AreLooks false es → Follows act w es → IsSameSeen rules w (run w es)
looks_same act rules w es are follows =
    let left = looks_leave_all act false w es are follows in
    (λ i. image_by rules.read (left.names i) (λ q. reading (left.nodes i q)), left.children)

then_same : (rules : Rules) (w v u : World) → IsSameSeen rules w v → IsSameSeen rules v u → IsSameSeen rules w u
then_same rules w v u a b = (b.0 ∙ a.0, b.1 ∙ a.1)

module _ (act : Act) (rules : Rules) (entry : World) where
  pub opened_same : (opening : List Event) → IsOpening rules entry (Ok tt) opening → Follows act entry opening → IsSameSeen rules entry (run entry opening)
  opened_same _ (Opens loading settling looks places loaded signs done looked) follows =
      let first = follows_split act entry loading (settling ++ looks) follows in
      let rest = follows_split act (run entry loading) settling looks first.1 in
      subst (IsSameSeen rules entry) (sym (run_more entry loading (settling ++ looks) ∙ run_more (run entry loading) settling looks))
      (then_same rules entry (run (run entry loading) settling) (run (run (run entry loading) settling) looks)
      (then_same rules entry (run entry loading) (run (run entry loading) settling) (looks_same act rules entry loading loaded first.0)
      (settling_leaves act rules (run entry loading) places settling done rest.0))
      (looks_same act rules (run (run entry loading) settling) looks looked rest.1))
