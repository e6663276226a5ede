-- Statements that are lent.
use Rattle.std.specs.Prelude.{List, Vec, map, reverse}
use Rattle.smk_eval_files.specs.declared.files.Placed.{Placed}
use Rattle.smk_eval_files.specs.Texts.{Entry}

abbrev pub entry : Placed → Entry
entry p = record { file = p.file.now; statement = p.statement.now }

abbrev pub entries : List Placed → List Entry
entries = map entry

-- texts that wait, the next one last
abbrev pub waiting : {Y : Type 0} → Vec (Vec Placed Y) Y → List (List Entry)
waiting {Y} later = reverse (map (λ (text : Vec Placed Y). entries text.items) later.items)
