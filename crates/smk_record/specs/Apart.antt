-- The law of spellings: what bytes begin with.
use Rattle.std.specs.Prelude.{◌≡◌, ◌<◌, ◌&&◌, ◌^◌, ℕ, List, [], ◌++◌, length, IsTrue}
use Rattle.smk_record.specs.declared.record.Record.{Record}
use Rattle.smk_record.specs.Records.{is_valid}
use Rattle.smk_record.specs.Spelling.{spelling, is_writable}

-- Fewer than 2^64 bytes begin with the spelling of at most one record.
abbrev pub BeginWithOne : Type 0
BeginWithOne =
    (bytes u v : List ℕ) (r s : Record) →
    length bytes < 2 ^ 64 →
    IsTrue (is_valid r && is_writable r) →
    IsTrue (is_valid s && is_writable s) → bytes ≡ spelling r ++ u → bytes ≡ spelling s ++ v → (r ≡ s) × (u ≡ v)

-- No spelling is a proper prefix of another.
abbrev pub NoneIsPrefix : Type 0
NoneIsPrefix =
    (r s : Record) (rest : List ℕ) →
    length (spelling s) < 2 ^ 64 →
    IsTrue (is_valid r && is_writable r) →
    IsTrue (is_valid s && is_writable s) → spelling s ≡ spelling r ++ rest → (r ≡ s) × (rest ≡ [])
