-- What has been read of a text, up to a place in it.
use Rattle.std.specs.Prelude.{◌≡◌, ℕ, ◌≤◌, ◌-◌, List, ◌++◌, map, take, drop, reverse, option_map, IsCharBoundary, IsUtf8, Bool, true, false}
use Rattle.smk_pattern.specs.declared.splitting.Written.{Written}
use Rattle.smk_pattern.specs.declared.splitting.Written.TheVariants.{Plain, Hole}
use Rattle.smk_pattern.specs.declared.splitting.Splitter.{Splitter}
use Rattle.smk_pattern.specs.Grammar.{Piece, plain, hole, is_balanced}
use Rattle.smk_pattern.specs.Shapes.{Text}
use Rattle.smk_pattern.specs.Reading.{pieces, pieces_from}

abbrev pub written_of : Written → Piece
written_of (Plain t) = plain t.now
written_of (Hole name limit) = hole name.now (option_map (λ l. l.now) limit)

abbrev pub all_written : List Written → List Piece
all_written = map written_of

-- what stands from one place to another
abbrev pub between : ℕ → ℕ → Text → Text
between start end text = take (end - start) (drop start text)

-- the pieces that are made, and the piece that has begun, are those of the text before the place
pub record HasRead (s : Splitter) (at : ℕ) : Type 0 where
  pub pieces : all_written s.made.items ++ pieces_from (drop at s.text.now) s.depth (reverse (between s.start at s.text.now)) ≡ pieces s.text.now
  pub balanced : is_balanced s.depth (drop at s.text.now) ≡ is_balanced 0 s.text.now
  pub begun : s.start ≤ at
  pub boundary : IsCharBoundary s.text.now s.start
  pub open_braces : s.depth ≤ at
  pub utf8 : IsUtf8 s.text.now

-- it goes on, or the braces of the text aren't balanced
abbrev pub Steps : Splitter → ℕ → Bool → Type 0
Steps s at true = HasRead s at
Steps s at false = is_balanced 0 s.text.now ≡ false
