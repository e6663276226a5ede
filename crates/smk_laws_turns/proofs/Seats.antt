-- Children stay what they are as their jobs get new numbers.
use Rattle.std.proofs.Common.{◌≡◌, List, [], ◌∷◌, ◌++◌, Option, Some, None, option_map, refl, sym}
use Rattle.std.proofs.lemmas.Option.{none-some, same_Some}
use Rattle.smk_world.specs.Trees.{IsIn}
use Rattle.smk_flow.specs.declared.job.Job.{Job}
use Rattle.smk_drive_step.specs.declared.children.Child.{Child}
use Rattle.smk_drive_step.specs.Crews.{going_in, goings}
use Rattle.smk_laws_plan.proofs.CurrentLists.{map_in}
use Rattle.smk_laws_turns.specs.Hubs.{ask_in, asks_in}
use Rattle.smk_laws_turns.specs.Moving.{moved, moved_child}

module _ (old new : List Job) where
  same_going : (o : Option Child) → going_in (option_map (moved_child old new) o) ≡ going_in o
  same_going None = refl
  same_going (Some c) = refl

  same_ask : (o : Option Child) → ask_in (option_map (moved_child old new) o) ≡ ask_in o
  same_ask None = refl
  same_ask (Some c) = refl

  pub same_goings : (places : List (Option Child)) → goings (moved old new places) ≡ goings places
  same_goings [] = refl
  same_goings (o ∷ places) = λ i. same_going o i ++ same_goings places i

  pub same_asks : (places : List (Option Child)) → asks_in (moved old new places) ≡ asks_in places
  same_asks [] = refl
  same_asks (o ∷ places) = λ i. same_ask o i ++ same_asks places i

  -- each is one that was there
  pub moved_in : (places : List (Option Child)) (c : Child) → IsIn (moved old new places) (Some c) → (d : Child) × IsIn places (Some d) × (c ≡ moved_child old new d)
  moved_in places c i = let o = map_in (option_map (moved_child old new)) places (Some c) i in go o.0 o.1 o.2
    where
      go : (o : Option Child) → IsIn places o → Some c ≡ option_map (moved_child old new) o → (d : Child) × IsIn places (Some d) × (c ≡ moved_child old new d)
      go None at e = absurd (none-some c (sym e))
      go (Some d) at e = (d, at, same_Some c (moved_child old new d) e)
