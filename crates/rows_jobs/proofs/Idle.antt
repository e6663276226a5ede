-- Where nothing runs a job may begin and be closed.
use Rattle.std.proofs.Common.{◌≡◌, true, false, List, [], ◌∷◌, ◌++◌, refl, sym, subst, ◌∙◌, All, Option, Some}
use Rattle.std.proofs.lemmas.List.Elements.{All-nil, All-cons}
use Rattle.smk_base.specs.Path.{is_path}
use Rattle.smk_world.specs.declared.recipe.Recipe.{Recipe}
use Rattle.smk_world.specs.World.{World, in_paths, out_paths, owned_paths, is_within}
use Rattle.smk_world.specs.Calls.{any_overlap, are_apart, owned_now, used_now}
use Rattle.smk_world.specs.Trees.{Path, Each}
use Rattle.smk_world_mem.specs.Work.{IsAtRest}
use Rattle.smk_job.specs.Jobs.{LetsBegin, LetsClose}

none_overlap : (ps : List Path) → any_overlap ps [] ≡ false
none_overlap [] = refl
none_overlap (p ∷ ps) = none_overlap ps

none_within : (ps : List Path) → All (λ p. is_within p [] ≡ false) ps
none_within [] = All-nil (λ p. is_within p [] ≡ false)
none_within (p ∷ ps) = All-cons (λ p. is_within p [] ≡ false) p ps refl (none_within ps)

some_same : (x y : World) → Some x ≡ Some y → x ≡ y
some_same x y e = cc

close_idle : (w : World) (recipe : Recipe) → w.children ≡ [] → LetsClose w recipe
close_idle w recipe none = record {
  apart = subst (λ cs. any_overlap (out_paths recipe) (used_now cs) ≡ false) (sym none) (none_overlap (out_paths recipe));
  users = subst (λ cs. Each (λ p. is_path p ≡ true) (used_now cs)) (sym none) tt;
}

begin_idle : (w : World) (recipe : Recipe) (logs : List Path) → w.children ≡ [] → are_apart (owned_paths recipe logs) ≡ true → LetsBegin w recipe logs
begin_idle w recipe logs none own = record {
  inputs = subst (λ cs. All (λ p. is_within p (owned_now cs) ≡ false) (in_paths recipe)) (sym none) (none_within (in_paths recipe));
  apart = subst (λ cs. any_overlap (owned_paths recipe logs) (used_now cs) ≡ false) (sym none) (none_overlap (owned_paths recipe logs));
  own_apart = own;
  users = subst (λ cs. Each (λ p. is_path p ≡ true) (used_now cs)) (sym none) tt;
}

pub lets_close : (told : Option World) (recipe : Recipe) → IsAtRest told → (w : World) → told ≡ Some w → LetsClose w recipe
lets_close told recipe (v, is, none) w e = subst (λ x. LetsClose x recipe) (some_same v w (sym is ∙ e)) (close_idle v recipe none)

-- one output alone overlaps nothing
one_apart : (ps logs : List Path) (p : Path) → ps ≡ p ∷ [] → logs ≡ [] → are_apart (ps ++ logs) ≡ true
one_apart ps logs p is none =
    subst (λ qs. are_apart (qs ++ logs) ≡ true) (sym is) (subst (λ qs. are_apart (p ∷ qs) ≡ true) (sym none) refl)

pub lets_begin : (told : Option World) (recipe : Recipe) (logs : List Path) (p : Path) → IsAtRest told → out_paths recipe ≡ p ∷ [] → logs ≡ []
    → (w : World) → told ≡ Some w → LetsBegin w recipe logs
lets_begin told recipe logs p (v, is, none) one bare w e =
    subst (λ x. LetsBegin x recipe logs) (some_same v w (sym is ∙ e)) (begin_idle v recipe logs none (one_apart (out_paths recipe) logs p one bare))
