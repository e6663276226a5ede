-- What runs that make their jobs one after another do without.
use Rattle.std.proofs.Common.{◌≡◌, Bool, true, false, ◌&&◌, not, nat_eq, refl, sym, true≢false}
use Rattle.smk_flow.specs.Flows.{Flow}
use Rattle.smk_pick.specs.declared.settings.Force.{Force}
use Rattle.smk_pick.specs.declared.settings.Force.TheVariants.{No, Targets, All}
use Rattle.smk_words_reading.specs.declared.asked.RunWords.{RunWords}
use Rattle.smk_laws_plan.proofs.CurrentLists.{and_left, and_right, not_true}
use Rattle.smk_cli_calls.specs.OneByOne.{IsPlainFlow, asks_one_by_one, forces_none, grows, has_marks, has_priorities, is_one_by_one}

no_force : (force : Force) → forces_none force ≡ true → force ≡ No
no_force No e = refl
no_force Targets e = absurd (true≢false (sym e))
no_force All e = absurd (true≢false (sym e))

module _ (flow : Flow) (words : RunWords) (one : is_one_by_one flow words ≡ true) where
  abbrev rest : Bool
  rest = not (has_priorities flow.rules) && not (grows flow.rules)

  -- they force no job
  pub none_forced : words.force ≡ No
  none_forced =
      let asks : asks_one_by_one words ≡ true = and_left (asks_one_by_one words) (not (has_marks flow.rules) && rest) one in
      no_force words.force
      (and_right (not words.keep_going) (forces_none words.force) (and_right (nat_eq words.cores 1) (not words.keep_going && forces_none words.force) asks))

  -- what is so of the workflow
  of_flow : (not (has_marks flow.rules) && rest) ≡ true
  of_flow = and_right (asks_one_by_one words) (not (has_marks flow.rules) && rest) one

  -- no output of theirs is temporary or protected
  pub none_marked : has_marks flow.rules ≡ false
  none_marked = not_true (has_marks flow.rules) (and_left (not (has_marks flow.rules)) rest of_flow)

  -- and no plan of theirs may grow
  pub none_grow : IsPlainFlow flow
  none_grow =
      not_true (grows flow.rules)
      (and_right (not (has_priorities flow.rules)) (not (grows flow.rules)) (and_right (not (has_marks flow.rules)) rest of_flow))
