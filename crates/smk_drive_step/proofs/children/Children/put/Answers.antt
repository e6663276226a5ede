use Rattle.std.proofs.Common.{◌≡◌, false, refl, subst}
use Rattle.std.specs.Prelude.{is_none}
use Rattle.smk_base.proofs.Under.{never_both}
use Rattle.std.specs.List.{list_any}
use Rattle.smk_drive_step.specs.Crews.{IsFoundAt}
use Rattle.smk_drive_step.proofs.Placed.{put_answer, was_free}
use Rattle.smk_drive_step.proofs.children.Children.put.Goals as goal

pub returns-in-Some-clause-put : goal.returns-in-Some-clause-put
returns-in-Some-clause-put c =
    put_answer c.args.self.now.places.items c.swap.new.places.items c.in-Some.at c.swap.result c.args.child _
    (subst (λ xs. IsFoundAt is_none xs c.in-Some.at) c.as_slice.ensures.value c.in-Some.ensures.some)
    c.swap.ensures.was c.swap.ensures.now

pub returns-in-Some-clause-room : goal.returns-in-Some-clause-room
returns-in-Some-clause-room c = λ free.
    was_free c.args.self.now.places.items c.in-Some.at c.swap.result
    (subst (λ xs. IsFoundAt is_none xs c.in-Some.at) c.as_slice.ensures.value c.in-Some.ensures.some) c.swap.ensures.was

pub returns-in-None-clause-room : goal.returns-in-None-clause-room
returns-in-None-clause-room c = λ free.
    absurd
    (never_both (list_any is_none c.args.self.now.places.items) free
    (subst (λ xs. list_any is_none xs ≡ false) c.as_slice.ensures.value (c.in-None.ensures.none refl)))
