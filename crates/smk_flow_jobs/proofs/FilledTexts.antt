-- Texts that are filled, and whether they are paths.
use Rattle.std.proofs.Common.{◌≡◌, List, [], ◌∷◌, ◌++◌, Some, None, Bool, true, false, cond, refl, ap, ◌∙◌}
use Rattle.smk_base.specs.declared.tree.Pair.{Pair}
use Rattle.smk_base.specs.Path.{is_path}
use Rattle.smk_pattern.specs.Shapes.{Text, Shape}
use Rattle.smk_pattern.specs.Fitting.{filled}
use Rattle.smk_pattern.specs.Filling.{values_of}
use Rattle.smk_pattern.specs.Reading.{fill, shape_of}
use Rattle.smk_pattern.proofs.FillPieces.{fill_is_filled}
use Rattle.smk_flow.specs.declared.fault.JobFault.{JobFault}
use Rattle.smk_flow.specs.Jobs.{path_fault}

pub fills : (p : Shape) (limits : List Pair) (t made : Text) (binding : List Pair) → p ≡ shape_of limits t →
    made ≡ filled p.parts (values_of binding p.wildcards) → made ≡ fill binding t
fills p limits t made binding is e =
    e ∙ ap (λ (q : Shape). filled q.parts (values_of binding q.wildcards)) is ∙ fill_is_filled limits t binding

-- ---- one list after another

-- after texts that are paths it is the fault of the others
pub after_paths : (a b : List Text) → path_fault a ≡ None → path_fault (a ++ b) ≡ path_fault b
after_paths [] b h = refl
after_paths (t ∷ a) b h = go (is_path t) h (after_paths a b)
  where
    go : (x : Bool) → cond x (path_fault a) (Some (JobFault.NotPath t)) ≡ None → (path_fault a ≡ None → path_fault (a ++ b) ≡ path_fault b) →
        cond x (path_fault (a ++ b)) (Some (JobFault.NotPath t)) ≡ path_fault b
    go true h more = more h
    go false h more = absurd (cc)

-- and before others it stays the fault
pub before_others : (a b : List Text) (f : JobFault) → path_fault a ≡ Some f → path_fault (a ++ b) ≡ Some f
before_others [] b f h = absurd (cc)
before_others (t ∷ a) b f h = go (is_path t) h (before_others a b f)
  where
    go : (x : Bool) → cond x (path_fault a) (Some (JobFault.NotPath t)) ≡ Some f → (path_fault a ≡ Some f → path_fault (a ++ b) ≡ Some f) →
        cond x (path_fault (a ++ b)) (Some (JobFault.NotPath t)) ≡ Some f
    go true h more = more h
    go false h more = h

-- texts in front of others that are paths with them
pub front_good : (a b : List Text) → path_fault (a ++ b) ≡ None → path_fault a ≡ None
front_good [] b h = refl
front_good (t ∷ a) b h = go (is_path t) h (front_good a b)
  where
    go : (x : Bool) → cond x (path_fault (a ++ b)) (Some (JobFault.NotPath t)) ≡ None → (path_fault (a ++ b) ≡ None → path_fault a ≡ None) →
        cond x (path_fault a) (Some (JobFault.NotPath t)) ≡ None
    go true h more = more h
    go false h more = absurd (cc)
