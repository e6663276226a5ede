use Rattle.std.proofs.Common.{ap, inr, Err}
use Rattle.std.specs.Prelude.{map, string_bytes}
use Rattle.smk_cli_calls.specs.Words.{Unread, WithoutCores}
use Rattle.smk_cli.proofs.Words.{early_unbuilt}
use Rattle.smk_cli.proofs.top.requested.Goals as goal

pub returns-in-Ok-clause-refused : goal.returns-in-Ok-clause-refused
returns-in-Ok-clause-refused c = early_unbuilt (map string_bytes c.args.words.now) c.in-Ok.request c.built.result c.in-Ok.ensures.ok c.built.ensures.bad

pub returns-in-Err-BadWords-clause-refused : goal.returns-in-Err-BadWords-clause-refused
returns-in-Err-BadWords-clause-refused c = inr (Unread (c.in-Err-BadWords.ensures.bad (ap (λ e. Err e) c.in-Err-BadWords.field-0-is)))

pub returns-in-Err-NoCores-clause-refused : goal.returns-in-Err-NoCores-clause-refused
returns-in-Err-NoCores-clause-refused c = inr (WithoutCores (c.in-Err-NoCores.ensures.no_cores (ap (λ e. Err e) c.in-Err-NoCores.field-0-is)))
