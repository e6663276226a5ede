-- Where nothing runs a job may begin and be closed.
use Rattle.std.proofs.Common.{◌≡◌, true, false, List, [], ◌∷◌, refl, sym, subst, All}
use Rattle.std.proofs.lemmas.List.Elements.{All-nil, All-cons}
use Rattle.smk_base.specs.Path.{is_path}
use Rattle.smk_world.specs.declared.recipe.Recipe.{Recipe}
use Rattle.smk_world.specs.World.{World, in_paths, out_paths, owned_paths, is_within, numbers}
use Rattle.smk_world.specs.Calls.{any_overlap, are_apart, owned_now, used_now}
use Rattle.smk_world.specs.Trees.{Path, Each}
use Rattle.smk_store.proofs.Idle.{no_children}
use Rattle.smk_job.specs.Jobs.{LetsBegin, LetsClose}

none_overlap : (ps : List Path) → any_overlap ps [] ≡ false
none_overlap [] = refl
none_overlap (p ∷ ps) = none_overlap ps

none_within : (ps : List Path) → All (λ p. is_within p [] ≡ false) ps
none_within [] = All-nil (λ p. is_within p [] ≡ false)
none_within (p ∷ ps) = All-cons (λ p. is_within p [] ≡ false) p ps refl (none_within ps)

pub lets_close : (w : World) (recipe : Recipe) → numbers w.children ≡ [] → LetsClose w recipe
lets_close w recipe h =
    let none = no_children w.children h in
    record {
      apart = subst (λ cs. any_overlap (out_paths recipe) (used_now cs) ≡ false) (sym none) (none_overlap (out_paths recipe));
      users = subst (λ cs. Each (λ p. is_path p ≡ true) (used_now cs)) (sym none) tt;
    }

pub lets_begin : (w : World) (recipe : Recipe) (logs : List Path) → numbers w.children ≡ [] → are_apart (owned_paths recipe logs) ≡ true → LetsBegin w recipe logs
lets_begin w recipe logs h own =
    let none = no_children w.children h in
    record {
      inputs = subst (λ cs. All (λ p. is_within p (owned_now cs) ≡ false) (in_paths recipe)) (sym none) (none_within (in_paths recipe));
      apart = subst (λ cs. any_overlap (owned_paths recipe logs) (used_now cs) ≡ false) (sym none) (none_overlap (owned_paths recipe logs));
      own_apart = own;
      users = subst (λ cs. Each (λ p. is_path p ≡ true) (used_now cs)) (sym none) tt;
    }
