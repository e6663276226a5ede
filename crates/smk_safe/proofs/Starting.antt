-- The end of the one child that runs.
use Rattle.std.proofs.Common.{◌≡◌, ℕ, Bool, true, false, not, List, [], ◌∷◌, refl, ap, sym, subst, ◌∙◌, Some, None, Ok}
use Rattle.std.specs.Prelude.{if◌then◌else◌, nat_eq}
use Rattle.std.specs.List.{filter}
use Rattle.smk_base.specs.declared.tree.Tree.{Tree}
use Rattle.smk_world.specs.declared.event.Call.TheVariants.{Waited}
use Rattle.smk_world.specs.declared.event.Change.{Change}
use Rattle.smk_world.specs.declared.event.Child.{Child}
use Rattle.smk_world.specs.declared.event.Ended.{Ended}
use Rattle.smk_world.specs.declared.recipe.Recipe.{Recipe}
use Rattle.smk_world.specs.World.{World, after, child_numbered}
use Rattle.smk_world.specs.Calls.{Lets, ContentsAre, OutputsAre}
use Rattle.smk_world.specs.Trees.{Path, Act}
use Rattle.smk_run.specs.Closings.{wait_event}

-- What an answered wait says of the one child that runs, and of its outputs.
pub record HasEnded (act : Act) (recipe : Recipe) (ended : Ended) (u v : World) : Type 0 where
  pub children : v.children ≡ []
  pub success : ended.status ≡ 0 → (trees : List Tree) → ContentsAre u recipe trees → ((act recipe trees).status ≡ 0) × OutputsAre v recipe (act recipe trees).outputs

one_numbered : (child other : Child) (n : ℕ) → child_numbered n (child ∷ []) ≡ Some other → (nat_eq child.number n ≡ true) × (child ≡ other)
one_numbered child other n h = go (nat_eq child.number n) refl h
  where
    go : (b : Bool) → nat_eq child.number n ≡ b → (if b then Some child else None) ≡ Some other → (nat_eq child.number n ≡ true) × (child ≡ other)
    go true e k = (e, cc)
    go false e k = cc

pub has_ended : (act : Act) (recipe : Recipe) (logs : List Path) (number : ℕ) (u : World) (ended : Ended) (left : List Change)
    → u.children ≡ record { number = number; recipe = recipe; logs = logs } ∷ [] → Lets act u (Waited (Ok ended)) left → HasEnded act recipe ended u (after u (wait_event ended left))
has_ended act recipe logs number u ended left runs lets =
    let child : Child = record { number = number; recipe = recipe; logs = logs } in
    let v = after u (wait_event ended left) in
    let one = one_numbered child lets.0 ended.number (subst (λ cs. child_numbered ended.number cs ≡ Some lets.0) runs lets.1) in
    let same : recipe ≡ (lets.0).recipe = ap (λ (c : Child). c.recipe) one.1 in
    record {
      children = ap (λ cs. filter (λ (c : Child). not (nat_eq c.number ended.number)) cs) runs ∙ ap (λ b. if not b then child ∷ [] else []) one.0;
      success = λ zero_status trees contents.
          subst (λ r. ((act r trees).status ≡ 0) × OutputsAre v r (act r trees).outputs) (sym same) (lets.2 zero_status trees (subst (λ r. ContentsAre u r trees) same contents));
    }
