-- Outputs that lie apart, of which each path has one maker.
use Rattle.std.proofs.Common.{◌≡◌, false, List, [], ◌∷◌, ◌++◌, sym, subst, inl, inr}
use Rattle.smk_base.specs.Path.{overlaps}
use Rattle.smk_world.specs.World.{out_paths}
use Rattle.smk_world.specs.Trees.{Path, Each}
use Rattle.smk_flow.specs.declared.job.Job.{Job}
use Rattle.smk_plan_states.specs.Served.{AreApart, outputs_of}
use Rattle.smk_laws_plan.proofs.CurrentLists.{In, in_flat}
use Rattle.smk_laws_plan.proofs.CurrentApart.{Apart, JobsApart}

pub each_in : {A : Type 0} (P : A → Type 0) (xs : List A) (x : A) → Each P xs → In x xs → P x
each_in P [] x h i = absurd i
each_in P (y ∷ xs) x h (inl e) = subst P (sym e) h.0
each_in P (y ∷ xs) x h (inr i) = each_in P xs x h.1 i

pub each_split : {A : Type 0} (P : A → Type 0) (xs ys : List A) → Each P (xs ++ ys) → Each P xs × Each P ys
each_split P [] ys h = (tt, h)
each_split P (x ∷ xs) ys h = let r = each_split P xs ys h.1 in ((h.0, r.0), r.1)

apart_append :
    (ps qs : List Path) → AreApart (ps ++ qs) →
    Apart ps × AreApart qs × ((p q : Path) → In p ps → In q qs → overlaps q p ≡ false)
apart_append [] qs h = (tt, h, λ p q i k. absurd i)
apart_append (x ∷ ps) qs h =
    let s = each_split (λ q. overlaps q x ≡ false) ps qs h.0 in
    let r = apart_append ps qs h.1 in
    ((λ q i. each_in (λ q. overlaps q x ≡ false) ps q s.0 i, r.0), r.1, pick s.1 r.2)
  where
    pick : Each (λ q. overlaps q x ≡ false) qs → ((p q : Path) → In p ps → In q qs → overlaps q p ≡ false) → (p q : Path) → In p (x ∷ ps) → In q qs → overlaps q p ≡ false
    pick e ih p q (inl same) k = subst (λ y. overlaps q y ≡ false) (sym same) (each_in (λ q. overlaps q x ≡ false) qs q e k)
    pick e ih p q (inr i) k = ih p q i k

pub jobs_apart_from : (js : List Job) → AreApart (outputs_of js) → JobsApart js
jobs_apart_from [] h = tt
jobs_apart_from (j ∷ js) h =
    let r = apart_append (out_paths j.recipe) (outputs_of js) h in
    (λ k p q i a b. r.2 p q a (in_flat (λ (j : Job). out_paths j.recipe) js k q i b), r.0, jobs_apart_from js r.1)
