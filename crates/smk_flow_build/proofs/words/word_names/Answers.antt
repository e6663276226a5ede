use Rattle.std.proofs.Common.{◌≡◌, ◌<◌, ◌+◌, ◌++◌, ℕ, List, Option, get_or, length, drop, ap, sym, subst, ◌∙◌, arith}
use Rattle.smk_pattern.specs.Searching.{now_of}
use Rattle.smk_flow.specs.Begun.{begun_of}
use Rattle.smk_flow.specs.Checks.{names_after, word_names}
use Rattle.smk_flow_build.proofs.Braces.{names_step, brace_step}
use Rattle.smk_flow_build.proofs.words.word_names.Goals as goal

pub loop-at-preserved : goal.loop-at-preserved
loop-at-preserved c =
    let t = c.args.text.now in
    let at = c.loop-at.at in
    let o = c.loop-at.brace in
    let same = c.as_bytes-byte-items.ensures.value in
    let b = get_or c.as_bytes-byte-items.result.now at 0 in
    let e : get_or t at 0 ≡ b = sym (ap (λ (bs : List ℕ). get_or bs at 0) same) in
    let lt : at < length t = omega (arith, ap length same) in
    let inv = c.loop-at.invariant.brace in
    let now = c.brace_after-brace.ensures in
    record {
      names =
          subst
          (λ (n : Option ℕ). now_of c.add_closed.new.names.items ++ names_after (drop (at + 1) t) (begun_of t (at + 1) n) ≡ word_names t)
          (sym now)
          (names_step (now_of c.loop-at.names.items) (now_of c.add_closed.new.names.items) (word_names t) t at b o lt e (λ s is. (inv s is).0)
          c.in_ok-add_closed.ensures c.loop-at.invariant.names);
      brace = λ s is. brace_step t at b o c.utf8.text lt e inv s (sym now ∙ is);
    }
