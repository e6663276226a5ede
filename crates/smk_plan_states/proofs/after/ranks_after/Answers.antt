use Rattle.std.proofs.Common.{◌≡◌, ℕ, List, Some, length, subst, sym}
use Rattle.std.specs.Prelude.{slice_index_or, true, false}
use Rattle.std.specs.List.{slice_get}
use Rattle.std.proofs.lemmas.Bool.{ltb-true}
use Rattle.smk_plan_states.specs.declared.lines.Line.{Line}
use Rattle.smk_plan_states.specs.declared.ranks.Rank.{Rank}
use Rattle.smk_plan_states.specs.Stays.{IsToldBy, told_by}
use Rattle.smk_plan_states.proofs.after.ranks_after.Goals as goal

pub returns-then-branch-clause-within : goal.returns-then-branch-clause-within
returns-then-branch-clause-within c = ltb-true c.args.step.now.job (length c.args.lines.now) (sym c.in-Some.ensures.lookup.0)

pub returns-then-branch-clause-after : goal.returns-then-branch-clause-after
returns-then-branch-clause-after c = λ reasons forced fits.
    let s = c.args.step.now in
    record {
      within = ltb-true s.job (length c.args.lines.now) (sym c.in-Some.ensures.lookup.0);
      each = c.in_ok-ranks.ensures.each;
      others = c.in_ok-ranks.ensures.others;
      told =
          subst
          (λ (rs : List Rank).
          (n : ℕ) (line : Line) → slice_get c.args.lines.now n ≡ Some line → slice_index_or s.doubts.now n false ≡ true →
          IsToldBy s.origins.now (told_by c.args.rows.now reasons forced) s.used.now s.plain.now s.job rs n line)
          c.as_slice.ensures.value (c.in_ok-are_told.ensures c.if-branch.true reasons forced fits);
    }
