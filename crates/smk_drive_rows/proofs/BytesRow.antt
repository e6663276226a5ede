-- Bytes that spell no record: a record with a byte behind it, and one with a number in a second spelling. They are no record, so the job isn't Clean, and
-- a run that ends well without starting it isn't lawful.
use Rattle.std.proofs.Common.{◌≡◌, ◌<◌, ◌^◌, ℕ, true, false, List, [], ◌∷◌, ◌++◌, codes, length, Option, Some, None, refl, sym, subst, arith}
use Rattle.std.specs.Fmt.{digits}
use Rattle.smk_base.specs.Place.{record_place}
use Rattle.smk_world.specs.declared.event.Node.TheVariants.{Regular}
use Rattle.smk_world.specs.World.{World, Nodes, IsFormed, world_of}
use Rattle.smk_world.specs.declared.recipe.Kind.TheVariants.{Plain}
use Rattle.smk_record.specs.declared.record.Record.{Record}
use Rattle.smk_record.specs.declared.record.Stamp.TheVariants.{Time}
use Rattle.smk_record.specs.Reading.{fields_in, format_in, number_in, number_of, path_in, record_in, text_in, text_of}
use Rattle.smk_record.specs.Spelling.{spelling}
use Rattle.smk_record.proofs.Exact.{none_is_prefix, reads_records}
use Rattle.smk_pick.specs.declared.settings.Force.TheVariants.{No}
use Rattle.smk_drive.specs.Moments.{Rules}
use Rattle.smk_drive_course.specs.Lawful.{Lawful}
use Rattle.smk_flow.proofs.Examples.{cat, copy}
use Rattle.smk_words_reading.specs.declared.asked.RunWords.{RunWords}
use Rattle.smk_drive_rows.proofs.Truth.{not_empty}
use Rattle.smk_drive_rows.proofs.Logs.{first_moment, first_is}
use Rattle.smk_drive_rows.proofs.Events.{formed_of}
use Rattle.smk_drive_rows.proofs.CopyRow.{in_txt, out}
use Rattle.smk_cli_target.specs.Files.{rules_of}

-- ## What is read

-- the record of the copy
abbrev pub copied : Record
copied =
    record {
      format = 1;
      path = out;
      made = 1;
      recipe = record {
        template = cat;
        wildcards = [];
        params = [];
        inputs = record { name = []; paths = in_txt ∷ [] } ∷ [];
        outputs = record { name = []; outs = record { path = out; kind = Plain } ∷ [] } ∷ [];
      };
      stamps = Time 1000 ∷ [];
      members = [];
    }

short : length (spelling copied) < 2 ^ 64
unfolding digits
short = omega arith

pub is_read : record_in (spelling copied) ≡ Some copied
is_read = (reads_records (spelling copied) copied short).1 (refl, refl)

abbrev longer : List ℕ
longer = spelling copied ++ 10 ∷ []

longer_short : length longer < 2 ^ 64
unfolding digits
longer_short = omega arith

spelled_short : (r : Record) → longer ≡ spelling r → length (spelling r) < 2 ^ 64
spelled_short r e = subst (λ t. length t < 2 ^ 64) e longer_short

-- a byte behind it
pub longer_unread : record_in longer ≡ None
longer_unread = go (record_in longer) refl
  where
    go : (found : Option Record) → record_in longer ≡ found → found ≡ None
    go None e = refl
    go (Some r) e =
        let spelled = (reads_records longer r longer_short).0 e in
        absurd (not_empty 10 [] (none_is_prefix copied r (10 ∷ []) (spelled_short r spelled.0) refl spelled.1 (sym spelled.0)).1)

-- `07` for `7`
abbrev second : List ℕ
second = codes "SMK1\n07:out.txt\n1\n22:cat {input} > {output}\n0\n0\n1\n0:\n1\n6:in.txt\nT1000\n1\n0:\n1\nF7:out.txt\n0\n"

pub second_unread : record_in second ≡ None
unfolding record_in fields_in format_in path_in text_in number_in number_of text_of
second_unread = refl

-- ## A folder with it

abbrev nodes : Nodes
nodes =
    (record_place out, Regular second 1001 false)
    ∷ (in_txt, Regular (codes "hello\n") 1000 false)
    ∷ (out, Regular (codes "hello\n") 1001 false)
    ∷ []

abbrev entry : World
entry = world_of nodes

formed : IsFormed entry
formed = formed_of nodes refl

-- the words `--cores 1 out.txt`
abbrev words : RunWords
words =
    record {
      targets = out ∷ [];
      cores = 1;
      file = None;
      sets = [];
      bounds = [];
      nolock = true;
      keep_going = false;
      rerun_incomplete = false;
      force = No;
    }

abbrev rules : Rules
rules = rules_of copy words

-- the job is called Clean by such a record
pub passes_over : Lawful rules entry [] 0 → ⊥
unfolding record_in fields_in format_in path_in text_in number_in number_of text_of
passes_over l = not_empty _ _ (l.nothing_left_at_the_end (omega arith) (first_moment rules entry) (first_is rules entry formed refl) refl)
