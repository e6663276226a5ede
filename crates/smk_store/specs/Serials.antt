-- The next serial by what a store has.
use Rattle.std.specs.Prelude.{ℕ, suc, List, [], max, nat_lt, if◌then◌else◌, Option, Some, None}
use Rattle.std.specs.List.{fold, flat_map}
use Rattle.smk_record.specs.declared.record.Record.{Record}
use Rattle.smk_record.specs.Records.{serials}
use Rattle.smk_store.specs.declared.store.Entry.{Entry}
use Rattle.smk_store.specs.Images.{readable}
use Rattle.smk_store.specs.Stores.{Known}

-- the serials that a record names, where there is one
abbrev pub all_serials : Option Record → List ℕ
all_serials None = []
all_serials (Some r) = serials r

-- those of a record that reads, where the path has no mark
abbrev pub unmarked_serials : Entry → List ℕ
unmarked_serials e = if e.marked then [] else all_serials (readable e.kept)

-- the greatest serial that a record without a mark names, or 0
abbrev pub greatest_serial : List Known → ℕ
greatest_serial ks = fold max 0 (flat_map (λ (k : Known). unmarked_serials k.entry) ks)

-- one more, where that has 64 bits
abbrev pub after_serial : ℕ → Option ℕ
after_serial greatest = if nat_lt greatest 18446744073709551615 then Some (suc greatest) else None

-- The next serial is above all that records without a mark name.
abbrev pub next_serial : List Known → Option ℕ
next_serial ks = after_serial (greatest_serial ks)
