-- What is kept of a plan once an output was removed.
use Rattle.std.proofs.Common.{◌≡◌, inl, inr, ℕ, zero, suc, Bool, true, false, ◌||◌, List, [], ◌∷◌, ◌++◌, refl, sym, ap, subst, ◌∙◌, bytes_eq, Option, Some, None, Ok, true≢false}
use Rattle.std.specs.Prelude.{if◌then◌else◌, IsTrue}
use Rattle.std.specs.List.{slice_get}
use Rattle.std.specs.BTreeMap.{get_by_text}
use Rattle.smk_base.specs.Path.{is_at_or_under}
use Rattle.smk_base.proofs.Places.{same_place}
use Rattle.smk_world.specs.declared.event.Besides.TheVariants.{Anything, OneOf}
use Rattle.smk_world.specs.declared.event.Call.{Call}
use Rattle.smk_world.specs.declared.event.Call.TheVariants.{Removed}
use Rattle.smk_world.specs.declared.event.Event.{Event}
use Rattle.smk_world.specs.declared.event.NodeState.{NodeState}
use Rattle.smk_world.specs.declared.event.NodeState.TheVariants.{Owned, Known}
use Rattle.smk_world.specs.declared.recipe.Out.{Out}
use Rattle.smk_world.specs.Calls.{Lets}
use Rattle.smk_world.specs.Requests.{HasDone}
use Rattle.smk_world.specs.Requests.Request.{Remove}
use Rattle.smk_world.specs.Runs.{Follows}
use Rattle.smk_world.specs.Trees.{Act, Each, IsIn, Path, among, first, outs_of}
use Rattle.smk_world.specs.World.{World, after, going, out_paths, run}
use Rattle.smk_flow.specs.declared.job.Job.{Job}
use Rattle.smk_laws_job.proofs.Abandoning.{removed_call}
use Rattle.smk_plan_live.specs.declared.base.Base.{Base}
use Rattle.smk_plan_live.specs.declared.sites.Site.{Site}
use Rattle.smk_plan_live.specs.Carried.{spent, spent_at}
use Rattle.smk_plan_live.specs.Lives.{progress_of}
use Rattle.smk_plan_live.specs.Same.{paths_in}
use Rattle.smk_plan_live.proofs.Restoring.{outs_are}
use Rattle.smk_drive.specs.Moments.{Rules, is_gone, is_spent_now, seen}
use Rattle.smk_drive_course.specs.Stands.{IsClear, IsReplanned, Stand, moment_of}
use Rattle.smk_drive_course.specs.Steps.{AreRemoved, IsAsListed, NoMore, OneMore}

-- ## Lists

pub get_of_in : {A : Type 0} (xs : List A) (x : A) → IsIn xs x → (n : ℕ) × (slice_get xs n ≡ Some x)
get_of_in [] x i = absurd i
get_of_in (y ∷ ys) x (inl e) = (zero, ap Some (sym e))
get_of_in (y ∷ ys) x (inr i) = let r = get_of_in ys x i in (suc (r.0), r.1)

pub first_in : {A : Type 0} (xs : List A) (x : A) → Some x ≡ first xs → IsIn xs x
first_in [] x h = absurd (some_none h)
  where
    some_none : Some x ≡ None → ⊥
    some_none e = cc
first_in (y ∷ ys) x h = inl same
  where
    same : x ≡ y
    same = cc

-- what is so of each output is so of the path of one
each_path : (P : Path → Type 0) (outs : List Out) (p : Path) → Each (λ (o : Out). P o.path) outs → among (paths_in outs) p ≡ true → P p
each_path P [] p all h = absurd (true≢false (sym h))
each_path P (o ∷ outs) p all h = go (bytes_eq p o.path) refl h (each_path P outs p all.1)
  where
    go : (b : Bool) → bytes_eq p o.path ≡ b → (b || among (paths_in outs) p) ≡ true → (among (paths_in outs) p ≡ true → P p) → P p
    go true e k more = subst P (sym (same_place p o.path e)) all.0
    go false e k more = more k

pub each_output : (P : Path → Type 0) (j : Job) (p : Path) → Each (λ (o : Out). P o.path) (outs_of j.recipe) → among (out_paths j.recipe) p ≡ true → P p
each_output P j p all h = each_path P (outs_of j.recipe) p all (sym (ap (λ ps. among ps p) (outs_are j.recipe)) ∙ h)

-- ## The base

jobs_at : (o : Option Site) (p : Path) (b : Base) → (spent_at o p b).jobs ≡ b.jobs
jobs_at None p b = refl
jobs_at (Some s) p b = refl

phases_at : (o : Option Site) (p : Path) (b : Base) → (spent_at o p b).phases ≡ b.phases
phases_at None p b = refl
phases_at (Some s) p b = refl

progress_at : (o : Option Site) (p : Path) (b : Base) → progress_of (spent_at o p b) ≡ progress_of b
progress_at None p b = refl
progress_at (Some s) p b = refl

pub jobs_spent : (p : Path) (b : Base) → (spent p b).jobs ≡ b.jobs
jobs_spent p b = jobs_at (get_by_text b.sites p) p b

pub phases_spent : (p : Path) (b : Base) → (spent p b).phases ≡ b.phases
phases_spent p b = phases_at (get_by_text b.sites p) p b

pub progress_spent : (p : Path) (b : Base) → progress_of (spent p b) ≡ progress_of b
progress_spent p b = progress_at (get_by_text b.sites p) p b

-- ## The folder

gone_going : (s : NodeState) → is_gone s ≡ true → is_gone (going None s) ≡ true
gone_going Owned h = absurd (true≢false (sym h))
gone_going (Known n Anything) h = absurd (true≢false (sym h))
gone_going (Known None (OneOf ns)) h = h
gone_going (Known (Some n) (OneOf ns)) h = absurd (true≢false (sym h))

gone_or : (b : Bool) (s : NodeState) → is_gone s ≡ true → is_gone (if b then going None s else s) ≡ true
gone_or true s h = gone_going s h
gone_or false s h = h

abbrev removal : Path → Event
removal p = record { call = Removed p (Ok tt); left = [] }

gone_after : (w : World) (p q : Path) → is_gone (w.nodes q) ≡ true → is_gone ((after w (removal p)).nodes q) ≡ true
gone_after w p q h = gone_or (is_at_or_under q p) (w.nodes q) h

-- what is gone stays gone when an output is removed
pub gone_removed :
    (act : Act) (w : World) (p : Path) (e : Event) → HasDone (Remove p ∷ []) (e ∷ []) → Follows act w (e ∷ []) →
    (q : Path) → is_gone (w.nodes q) ≡ true → is_gone ((after w e).nodes q) ≡ true
gone_removed act w p e done follows q h =
    let call : e.call ≡ Removed p (Ok tt) = removed_call e.call p done.0 done.1 in
    let left : e.left ≡ [] = subst (λ (c : Call). Lets act w c e.left) call follows.0.lets in
    let same : e ≡ removal p = λ i. record { call = call i; left = left i } in
    subst (λ (x : Event). is_gone ((after w x).nodes q) ≡ true) (sym same) (gone_after w p q h)

-- ## Removals, one after another

-- the events so far don't matter
pub clear_at : (rules : Rules) (t : Stand) (w : World) (before after : List Event) → IsClear rules t w before → IsClear rules t w after
clear_at rules t w before after c = record { unhalted = c.unhalted; at_rest = c.at_rest; planned = c.planned; unrefused = c.unrefused }

-- One more is removed from this stand on.
pub record IsRemovedNext (rules : Rules) (u t : Stand) (v : World) (p : Path) (e : Event) : Type 0 where
  pub clear : IsClear rules u v []
  pub is_spent : IsTrue (is_spent_now rules (moment_of u v []) p)
  pub listed : IsAsListed (seen rules v) p
  pub done : HasDone (Remove p ∷ []) (e ∷ [])
  pub replanned : IsReplanned rules u (after v e) t

pub removed_more :
    (rules : Rules) (s u t : Stand) (w : World) (before : List Event) (paths : List Path) (es : List Event) (p : Path) (e : Event) →
    AreRemoved rules s w before paths es u → IsRemovedNext rules u t (run w es) p e → AreRemoved rules s w before (paths ++ p ∷ []) (es ++ e ∷ []) t
removed_more rules _ _ t _ _ _ _ p e (NoMore s w before) next =
    OneMore s t t w before p [] e [] (clear_at rules s w [] before next.clear) next.is_spent next.listed next.done next.replanned
    (NoMore t (after w e) (before ++ e ∷ []))
removed_more rules _ _ t _ _ _ _ p e (OneMore s x u w before q paths d es clear spent listed done replanned rest) next =
    OneMore s x t w before q (paths ++ p ∷ []) d (es ++ e ∷ []) clear spent listed done replanned
    (removed_more rules x u t (after w d) (before ++ d ∷ []) paths es p e rest next)

pub none_removed :
    (rules : Rules) (s u : Stand) (w : World) (before : List Event) (paths : List Path) (es : List Event) → AreRemoved rules s w before paths es u →
    paths ≡ [] → es ≡ []
none_removed rules _ _ _ _ _ _ (NoMore s w before) none = refl
none_removed rules _ _ _ _ _ _ (OneMore s x u w before q paths d es clear spent listed done replanned rest) none = absurd (cons_nil none)
  where
    cons_nil : q ∷ paths ≡ [] → ⊥
    cons_nil h = cc
