use Rattle.std.specs.Prelude.{◌≡◌, string_bytes}
use Rattle.smk_gen.specs.Files.{list_text}
use Rattle.smk_gen.proofs.texts.sample_list.Given as goal

abbrev pub invariant-loop-before : goal.invariant-loop-before
invariant-loop-before l = string_bytes l.text ≡ list_text l.before
