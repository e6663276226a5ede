use Rattle.std.proofs.Common.{◌∙◌, refl, sym, ap}
use Rattle.std.proofs.lemmas.Bool.{not-true}
use Rattle.std.specs.List.{list_all}
use Rattle.smk_drive_pick.specs.Spending.{is_done_with}
use Rattle.smk_drive_pick.proofs.ByRank.{done_by}
use Rattle.smk_drive_pick.proofs.Freed.{whole_now}
use Rattle.smk_drive_pick.proofs.Spent.{none_undone, none_temporary, none_while_held}
use Rattle.smk_drive_pick.proofs.spending.spent_paths.Goals as goal

pub returns-then-not-limits : goal.returns-then-not-limits
returns-then-not-limits c =
    record {
      wholes = whole_now c.args.live.now;
      whole = λ sorted. refl;
      spent = λ at judged back.
          c.new.ensures
          ∙ sym (none_temporary at c.args.live.now (whole_now c.args.live.now) judged
          (sym (c.limits-limits.ensures.now c.requires).temporary ∙ not-true c.limits-limits.result.temporary c.if-not-limits.true));
    }

pub returns-then-holds_back : goal.returns-then-holds_back
returns-then-holds_back c =
    record {
      wholes = whole_now c.args.live.now;
      whole = λ sorted. refl;
      spent = λ at judged back.
          c.new-then-holds_back.ensures
          ∙ sym (none_while_held at c.args.live.now (whole_now c.args.live.now) judged (sym back ∙ sym c.holds_back.ensures.value ∙ c.if-holds_back.true));
    }

pub returns-then-not-are_done_with : goal.returns-then-not-are_done_with
returns-then-not-are_done_with c =
    record {
      wholes = whole_now c.args.live.now;
      whole = λ sorted. refl;
      spent = λ at judged back.
          c.new-then-not-are_done_with.ensures
          ∙ sym (none_undone at c.args.live.now (whole_now c.args.live.now) judged
          (sym (done_by c.args.live.now.plan.states) ∙ sym (ap (list_all is_done_with) (c.ranks.ensures.value ∙ judged.ranks))
          ∙ sym c.are_done_with.ensures ∙ c.if-not-are_done_with.true));
    }

pub returns : goal.returns
returns c =
    record {
      wholes = whole_now c.args.live.now;
      whole = λ sorted. refl;
      spent =
          c.in_ok-found.ensures c.requires
          (sym (ap (list_all is_done_with) c.ranks.ensures.value) ∙ sym c.are_done_with.ensures ∙ c.if-not-are_done_with.false)
          (sym c.holds_back.ensures.value ∙ c.if-holds_back.false)
          (whole_now c.args.live.now);
    }
