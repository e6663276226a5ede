use Rattle.std.proofs.Common.{◌≡◌, ◌<◌, ◌∙◌, ℕ, [], true, length, arith}
use Rattle.std.specs.Prelude.{slice_index_or}
use Rattle.smk_plan_states.specs.declared.lines.Line.{Line}
use Rattle.smk_plan_states.specs.Stays.{has_number, reads_of}
use Rattle.smk_plan_states.proofs.Steps.{all_lines, watched_more}
use Rattle.smk_plan_states.proofs.watching.watchers_among.Goals as goal

pub loop-number-preserved : goal.loop-number-preserved
loop-number-preserved c =
    record {
      each = c.watch_line.ensures.each ∙ c.loop-number.invariant.each;
      so_far =
          watched_more c.args.lines.now c.args.origins.now c.loop-number.number c.index-lines-number.result c.loop-number.found.items c.watch_line.new.watchers.items c.loop-number-test.true
          c.index-lines-number.is c.loop-number.invariant.each c.in_ok-watch_line.ensures.set c.loop-number.invariant.so_far;
    }

pub returns : goal.returns
returns c =
    record {
      each = λ n line job within e reads.
          all_lines c.args.lines.now
          (λ n (line : Line). (job : ℕ) → job < length c.args.lines.now → reads_of c.args.origins.now job line ≡ true → has_number n (slice_index_or c.loop-number.found.items job []) ≡ true)
          c.loop-number.number (omega (arith, c.loop-number-test.false)) c.loop-number.invariant.so_far n line e job within reads;
    }
