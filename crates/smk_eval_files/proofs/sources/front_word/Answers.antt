use Rattle.std.proofs.Common.{ℕ, take, subst, sym}
use Rattle.std.specs.Str.{IsUtf8}
use Rattle.smk_eval_files.proofs.Words.{word_utf8}
use Rattle.smk_eval_files.proofs.sources.front_word.Goals as goal

pub unreachable-requires : goal.unreachable-requires
unreachable-requires c = c.in-Err.ensures.cases.0 (subst (λ (n : ℕ). IsUtf8 (take n c.args.z.now)) (sym c.word_len.ensures.value) (word_utf8 c.args.z.now))
