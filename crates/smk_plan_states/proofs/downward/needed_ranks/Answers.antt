use Rattle.std.proofs.Common.{◌∙◌, ◌-◌, arith, length, set, length-set, refl}
use Rattle.smk_plan_states.proofs.Needing.{none_down, more_down, all_down}
use Rattle.smk_plan_states.proofs.downward.needed_ranks.Goals as goal

pub jobs-init : goal.jobs-init
jobs-init c =
    record {
      bound = omega arith;
      each = c.requires.each;
      count = c.in_ok-needed.ensures.each;
      so_far = λ at jobs states h first.
          none_down at jobs states c.args.lines.now c.args.origins.now c.args.rows.now c.args.used.now h (length c.args.lines.now) c.args.first.items c.in_ok-needed.needed.items refl first
          c.in_ok-needed.ensures.unset;
    }

pub jobs-preserved : goal.jobs-preserved
jobs-preserved c =
    record {
      bound = omega arith;
      each = simp length-set c.jobs.invariant.each;
      count = c.need.ensures.each ∙ c.jobs.invariant.count;
      so_far = λ at jobs states h first.
          more_down at jobs states c.args.lines.now c.args.origins.now c.args.rows.now c.args.used.now h c.jobs.number (c.jobs.number - 1) c.index-lines-number.result c.flag_at.result
          c.is_to_run.result c.as_slice-in-jobs.result.now c.index.result.now c.last_rank-rank.result c.jobs.ranks.items
          (set c.jobs.ranks.items (c.jobs.number - 1) c.last_rank-rank.result) c.jobs.needed.items c.as_slice.result.now c.need.new.needed.items (omega arith) (omega arith)
          c.index-lines-number.is c.flag_at.ensures c.index.ensures c.as_slice.ensures.value c.last_rank-rank.ensures c.is_to_run.ensures c.as_slice-in-jobs.ensures refl
          c.jobs.invariant.count c.need.ensures.set (c.jobs.invariant.so_far at jobs states h first);
    }

pub returns-clause-ranks : goal.returns-clause-ranks
returns-clause-ranks c = λ at jobs states h first.
    all_down at jobs states c.args.lines.now c.args.origins.now c.args.rows.now c.args.used.now h c.jobs.number c.jobs.ranks.items c.jobs.needed.items (omega arith) (c.jobs.invariant.so_far at jobs states h first)
