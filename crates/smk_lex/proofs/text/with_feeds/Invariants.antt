use Rattle.std.proofs.Common.{◌≡◌, ◌++◌, length, string_bytes}
use denote.Text.{Utf8}
use denote.Shadow.{shadow}
use Rattle.smk_lex.specs.Spelling.{with_feeds}
use Rattle.smk_lex.proofs.text.with_feeds.Given as goal

-- what is done so far, and what is left
abbrev pub invariant-returns : goal.invariant-returns
invariant-returns l = shadow (Utf8 l.rest) × (string_bytes l.value ++ with_feeds l.rest ≡ with_feeds l.text)

abbrev pub decreases-returns : goal.decreases-returns
decreases-returns l = length l.rest
