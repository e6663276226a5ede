use Rattle.std.proofs.Common.{◌∙◌, List, ap, subst, sym, zip}
use Rattle.std.specs.List.{list_any}
use Rattle.smk_plan_states.specs.declared.ranks.Rank.{Rank}
use Rattle.smk_plan_states.specs.Ranking.{is_lacking}
use Rattle.smk_plan_states.specs.Stays.{AreFirst, told_by}
use Rattle.smk_plan_states.proofs.standing.rank_all.Goals as goal

pub returns-clause-standing : goal.returns-clause-standing
returns-clause-standing c = λ reasons forced fits earlier each reads.
    let outputs = c.args.rows.now.outputs.now in
    let lacking = λ (ranks : List Rank). list_any is_lacking (zip ranks outputs) in
    record {
      each_rank = c.in_ok-first.ensures.each;
      each_last = c.in_ok-last.ensures.each;
      each_used = each;
      reading = reads;
      ranks = subst (λ used. AreFirst c.args.lines.now c.args.origins.now (told_by c.args.rows.now reasons forced) used c.in_ok-first.first.items) c.as_slice.ensures.value (c.in_ok-first.ensures.told reasons forced fits earlier);
      whole = λ none. ap lacking (sym c.as_slice-2.ensures.value) ∙ sym c.any_lacking-lacking.ensures ∙ none;
      last = λ none.
          c.in_ok-last.ensures.whole
          (ap lacking (c.in_ok-again.ensures.items ∙ c.as_slice-3.ensures.value ∙ sym c.as_slice-2.ensures.value) ∙ sym c.any_lacking-lacking.ensures ∙ none)
          ∙ c.in_ok-again.ensures.items ∙ c.as_slice-3.ensures.value;
      plain = c.in_ok-plain.ensures;
    }
