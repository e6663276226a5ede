use Rattle.std.proofs.Common.{refl, sym, ap, subst, ◌∙◌}
use Rattle.std.specs.List.{list_any}
use Rattle.smk_drive_step.specs.Crews.{IsFoundAt, is_numbered}
use Rattle.smk_drive_step.proofs.Placed.{none_numbered, taken_answer}
use Rattle.smk_drive_step.proofs.children.Children.take.Goals as goal

pub returns-in-None-clause-none : goal.returns-in-None-clause-none
returns-in-None-clause-none c = λ e. (
  refl,
  none_numbered c.args.number c.args.self.now.places.items
      (ap (list_any (is_numbered c.args.number)) (sym c.as_slice.ensures.value) ∙ c.in-None.ensures.none refl),
)

pub returns-in-Some-clause-some : goal.returns-in-Some-clause-some
returns-in-Some-clause-some c =
    taken_answer c.args.number c.args.self.now.places.items c.swap.new.places.items c.in-Some.at c.swap.result
    (subst (λ xs. IsFoundAt (is_numbered c.args.number) xs c.in-Some.at) c.as_slice.ensures.value c.in-Some.ensures.some)
    c.swap.ensures.was c.swap.ensures.now
