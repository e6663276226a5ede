-- Paths that are looked at one after another.
use Rattle.std.proofs.Common.{◌≡◌, List, [], ◌∷◌, ◌++◌, refl, sym, ap, subst, ◌∙◌, Err}
use Rattle.smk_world.specs.declared.event.WorkFault.{WorkFault}
use Rattle.smk_world.specs.declared.event.WorkFault.TheVariants.{Failed, OutOfMemory}
use Rattle.smk_world.specs.Calls.{device_failed}
use Rattle.smk_world.specs.Trees.{Path, Each}
use Rattle.smk_store_members.specs.Members.{Nodes}
use Rattle.smk_store.specs.Unowned.{IsUnownedUnder}
use Rattle.smk_store_members.proofs.Lists.{each_both}
use Rattle.smk_plan.specs.declared.seen.Sight.{Sight}
use Rattle.smk_plan.specs.declared.fault.LookFault.{LookFault}
use Rattle.smk_digest.specs.declared.fault.SumFault.{SumFault}
use Rattle.smk_digest.specs.declared.fault.SumFault.TheVariants.{Device as NoDevice, OutOfMemory as NoSpace}
use Rattle.smk_digest.specs.Digests.{sum_failed}
use Rattle.smk_plan_look.specs.Seeing.{IsSightOf, are_paths, look_fault, look_failed, work_fault}

paths_append : (sights : List Sight) (s : Sight) → are_paths (sights ++ s ∷ []) ≡ are_paths sights ++ s.path ∷ []
paths_append [] s = refl
paths_append (x ∷ sights) s = ap (λ (ps : List Path). x.path ∷ ps) (paths_append sights s)

-- one more
pub path_pushed : (sights new : List Sight) (s : Sight) (path : Path) → new ≡ sights ++ s ∷ [] → s.path ≡ path → are_paths new ≡ are_paths sights ++ path ∷ []
path_pushed sights new s path pushed is = ap are_paths pushed ∙ paths_append sights s ∙ ap (λ (p : Path). are_paths sights ++ p ∷ []) is

-- what a sight tells where no child owns the path or anything under it
abbrev pub TellsUnowned : Nodes → Sight → Type 0
TellsUnowned nodes s = IsUnownedUnder nodes s.path → IsSightOf nodes s.path s

pub sight_pushed : (a b : Nodes) (sights new : List Sight) (s : Sight) (path : Path) → new ≡ sights ++ s ∷ [] → s.path ≡ path → a ≡ b → (IsUnownedUnder a path → IsSightOf a path s)
    → Each (TellsUnowned b) sights → Each (TellsUnowned b) new
sight_pushed a b sights new s path pushed is same told each =
    subst (Each (TellsUnowned b)) (sym pushed)
    (each_both (TellsUnowned b) sights (s ∷ []) each
    (subst (λ (n : Nodes). TellsUnowned n s) same (subst (λ (p : Path). IsUnownedUnder a p → IsSightOf a p s) (sym is) told), tt))

-- ## Faults

pub failed_as : (T U : Type 0) (fault : WorkFault) (f : LookFault) → f ≡ look_fault fault → device_failed {T = T} (Err fault) ≡ look_failed {T = U} (Err f)
failed_as T U Failed f is = sym (ap (λ (x : LookFault). look_failed {T = U} (Err x)) is)
failed_as T U OutOfMemory f is = sym (ap (λ (x : LookFault). look_failed {T = U} (Err x)) is)

pub sum_failed_as : (T U : Type 0) (fault : SumFault) (f : WorkFault) → f ≡ work_fault fault → sum_failed {T = T} (Err fault) ≡ device_failed {T = U} (Err f)
sum_failed_as T U NoDevice f is = sym (ap (λ (x : WorkFault). device_failed {T = U} (Err x)) is)
sum_failed_as T U NoSpace f is = sym (ap (λ (x : WorkFault). device_failed {T = U} (Err x)) is)
