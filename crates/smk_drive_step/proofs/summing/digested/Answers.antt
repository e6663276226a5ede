use Rattle.std.proofs.Common.{List, length, ap, subst, sym, ◌∙◌}
use Rattle.std.specs.List.{flat_map, list_all}
use Rattle.smk_world.specs.declared.recipe.Item.{Item}
use Rattle.smk_world.proofs.Devices.{looked_memory, looked_on}
use Rattle.smk_digest.specs.Digests.{AreSums}
use Rattle.smk_run.specs.Digesting.{is_whole_sum}
use Rattle.smk_run.proofs.Valid.{valid_each, writable_each}
use Rattle.smk_drive_step.specs.Stamping.{AreDigested, due_among}
use Rattle.smk_drive_step.proofs.Stamped.{digested_are, summed_as, summed_each, summed_earlier, summed_small}
use Rattle.smk_drive_step.proofs.summing.digested.Goals as goal

pub due_among-requires : goal.due_among-requires
due_among-requires g c =
    let at = c.in_ok-paths.ensures ∙ ap (λ (xs : List Item). flat_map (λ (item : Item). item.paths) xs) c.as_slice.ensures in
    record { each = c.requires.each ∙ sym (ap length (c.as_slice-2.ensures ∙ at)) }

pub returns-in_err-found-clause-looked : goal.returns-in_err-found-clause-looked
returns-in_err-found-clause-looked g c = looked_on _ c.in_err-found.was c.from_residual-in_err-found.ensures.1 c.sums_at.ensures.looked

pub returns-in_err-summed-clause-looked : goal.returns-in_err-summed-clause-looked
returns-in_err-summed-clause-looked g c = looked_memory _ c.from_residual-in_err-summed.ensures.1 c.in_ok-found.ensures.looked

pub returns-clause-looked : goal.returns-clause-looked
returns-clause-looked g c = c.in_ok-found.ensures.looked

pub returns-clause-told : goal.returns-clause-told
returns-clause-told g c = λ w at.
    let paths = c.in_ok-paths.ensures ∙ ap (λ (xs : List Item). flat_map (λ (item : Item). item.paths) xs) c.as_slice.ensures in
    let due = c.in_ok-due.ensures ∙ ap (λ ps. due_among ps c.args.known.now) (c.as_slice-2.ensures ∙ paths) in
    subst (AreDigested w _ c.args.known.now) (sym (summed_as c.args.known.now _ _ _ c.as_slice-4.ensures c.in_ok-summed.ensures))
    (digested_are w _ c.args.known.now c.in_ok-found.found c.requires.each
    (subst (λ ps. AreSums w ps c.in_ok-found.found) due (c.in_ok-found.ensures.told w at)))

pub returns-clause-each : goal.returns-clause-each
returns-clause-each g c =
    ap length (summed_as c.args.known.now _ _ _ c.as_slice-4.ensures c.in_ok-summed.ensures)
    ∙ summed_each c.args.known.now c.in_ok-found.found ∙ c.requires.each

pub returns-clause-writable : goal.returns-clause-writable
returns-clause-writable g c =
    let is = summed_as c.args.known.now _ _ _ c.as_slice-4.ensures c.in_ok-summed.ensures in
    record {
      valid = valid_each c.args.made c.args.job.now.recipe c.in_ok-summed.field-0
          (ap length is ∙ summed_each c.args.known.now c.in_ok-found.found ∙ c.requires.each)
          c.requires.positive (ap (list_all _) is ∙ summed_earlier c.args.made c.args.known.now c.in_ok-found.found c.requires.earlier) c.requires.wildcards
          c.see_recipe.ensures.inputs c.see_recipe.ensures.outputs;
      writable = writable_each c.args.made c.args.job.now.recipe c.in_ok-summed.field-0 c.ranges.made.fits
          (ap (list_all _) is
          ∙ summed_small c.args.known.now c.in_ok-found.found c.see_stamps.ensures (ap (list_all is_whole_sum) (sym c.as_slice-3.ensures) ∙ c.see_sums.ensures))
          c.see_recipe.ensures.texts;
    }
