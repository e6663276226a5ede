-- Of each output that is being restored something is known.
use Rattle.std.proofs.Common.{◌≡◌, ℕ, zero, suc, Bool, true, false, not, ◌||◌, List, [], ◌∷◌, zip, Option, Some, None, is_some, refl, sym, ap, subst, ◌∙◌}
use Rattle.std.specs.List.{list_all, slice_get}
use Rattle.std.specs.BTreeMap.{get_by_text}
use Rattle.std.proofs.lemmas.Option.{none-some}
use Rattle.smk_base.proofs.Under.{never_both}
use Rattle.smk_world.specs.declared.recipe.Out.{Out}
use Rattle.smk_world.specs.declared.recipe.OutItem.{OutItem}
use Rattle.smk_world.specs.Trees.{Path, among, outs_of}
use Rattle.smk_store.specs.Stores.{entry_of}
use Rattle.smk_trigger.specs.declared.reason.State.{State}
use Rattle.smk_trigger.specs.JobStates.{is_restore}
use Rattle.smk_plan.specs.States.{test_some}
use Rattle.smk_plan_live.specs.declared.base.Base.{Base}
use Rattle.smk_plan_live.specs.declared.sites.Site.{Site}
use Rattle.smk_plan_live.specs.Lives.{IsSound}
use Rattle.smk_plan_live.specs.Now.{joined, known_now, restored_now, restores_at}
use Rattle.smk_plan_live.specs.Same.{paths_in}
use Rattle.smk_plan_live.proofs.Restoring.{outs_are}
use Rattle.smk_laws_plan.proofs.CurrentLists.{all_in, flat_in, get_in, map_in}
use Rattle.smk_laws_plan.proofs.CurrentPaths.{among_in}
use Rattle.smk_laws_turns.specs.Growing.{are_held, are_known_in, is_held, is_known_in}
use Rattle.smk_laws_turns.proofs.Rows.{site_of}

zip_at : {A B : Type 0} (xs : List A) (ys : List B) (n : ℕ) (x : A) (y : B) → slice_get xs n ≡ Some x → slice_get ys n ≡ Some y →
    slice_get (zip xs ys) n ≡ Some (x, y)
zip_at [] ys n x y e f = absurd (none-some x e)
zip_at (a ∷ xs) [] n x y e f = absurd (none-some y f)
zip_at (a ∷ xs) (b ∷ ys) zero x y e f = cc
zip_at (a ∷ xs) (b ∷ ys) (suc n) x y e f = zip_at xs ys n x y e f

or_known : (a b : Bool) → a ≡ true → (not a || b) ≡ true → b ≡ true
or_known true b e h = h
or_known false b e h = absurd (never_both false e refl)

restores_some : (o : Option (Option State)) → test_some is_restore (joined o) ≡ true → (x : Option State) × (o ≡ Some x) × (test_some is_restore x ≡ true)
restores_some None h = absurd (never_both false h refl)
restores_some (Some x) h = (x, refl, h)

pub held_known :
    (b : Base) → IsSound b → are_held b ≡ true → (q : Path) → restored_now b q ≡ true → is_some (entry_of (known_now b) q) ≡ true
held_known b sound held q h = go (get_by_text b.sites q) refl
  where
    go : (o : Option Site) → get_by_text b.sites q ≡ o → is_some (entry_of (known_now b) q) ≡ true
    go None has = absurd (never_both false (sym (ap (restores_at b.began) has) ∙ h) refl)
    go (Some s) has =
        let t = site_of b sound q s has in
        let x = restores_some (slice_get b.began s.job) (sym (ap (restores_at b.began) has) ∙ h) in
        let here : is_held (known_now b) (t.job, x.0) ≡ true =
        all_in (is_held (known_now b)) (zip b.jobs.jobs b.began) (t.job, x.0) held
        (get_in (zip b.jobs.jobs b.began) s.job (t.job, x.0) (zip_at b.jobs.jobs b.began s.job t.job (x.0) t.at x.1))
        in
        let items = or_known (test_some is_restore (x.0)) (list_all (are_known_in (known_now b)) t.job.recipe.outputs) x.2 here in
        let o = map_in (λ (o : Out). o.path) (outs_of t.job.recipe) q
        (among_in (paths_in (outs_of t.job.recipe)) q (ap (λ ps. among ps q) (sym (outs_are t.job.recipe)) ∙ t.own)) in
        let i = flat_in (λ (item : OutItem). item.outs) t.job.recipe.outputs o.0 o.1 in
        subst (λ p. is_some (entry_of (known_now b) p) ≡ true) (sym o.2)
        (all_in (is_known_in (known_now b)) (i.0).outs o.0 (all_in (are_known_in (known_now b)) t.job.recipe.outputs i.0 items i.1) i.2)
