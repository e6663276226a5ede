-- What is read, and what is asked of it.
use Rattle.std.proofs.Common.{◌≡◌, List, [], ◌∷◌, map, None, Result, Ok, Err, inr, refl, ap, sym, subst, ◌∙◌}
use Rattle.smk_world.specs.Trees.{Path}
use Rattle.smk_flow.specs.declared.rule.RulePart.{RulePart}
use Rattle.smk_flow.specs.Numbers.{parts_of}
use Rattle.smk_flow.specs.PatternsOf.{rule_of}
use Rattle.smk_flow.specs.Targets.{all_paths}
use Rattle.smk_words_reading.specs.declared.asked.RunWords.{RunWords}
use Rattle.smk_eval_files.specs.Looks.{Nodes}
use Rattle.smk_eval.specs.Loading.{loaded, Gives}
use Rattle.smk_report.specs.declared.fault.Fault.{Fault}
use Rattle.smk_cli_entry.specs.declared.reading.Reading.{Reading}
use Rattle.smk_cli_entry.specs.declared.asking.Asked.{Asked}
use Rattle.smk_cli_entry.specs.Names.{file_of}
use Rattle.smk_cli_entry.specs.Entry.{IsRead, IsReadIn, Asks, IsAskedIn, refused_word, asked_words}

pub read_both : (words : RunWords) (nodes : Nodes) (file : Path) (r : Result Reading Fault) → file_of nodes words.file ≡ Ok file → IsReadIn nodes file words.sets r → IsRead words nodes r
read_both words nodes file (Ok reading) h k = (h ∙ ap Ok (sym k.0), subst (λ (p : Path). Gives (loaded nodes p words.sets) (Ok reading.flow)) (sym k.0) k.1)
read_both words nodes file (Err f) h k = λ told. inr (file, h, k told)

pub asked_both : (words : RunWords) (nodes : Nodes) (reading : Reading) (r : Result Asked Fault) → IsRead words nodes (Ok reading) → Asks words.targets reading r → IsAskedIn words nodes r
asked_both words nodes reading (Ok asked) h k =
    let is = k.0 in (
      subst (λ (x : Reading). IsRead words nodes (Ok x)) (sym is) h,
      subst (λ (x : Reading). refused_word words.targets x ≡ None) (sym is) k.1,
      k.2 ∙ ap (λ (x : Reading). all_paths x.flow (asked_words words.targets x)) (sym is),
    )
asked_both words nodes reading (Err f) h k = λ told. inr (reading, h, k told)

pub parts_again : (parts : List RulePart) → parts_of (map rule_of parts) ≡ parts
parts_again [] = refl
parts_again (p ∷ parts) = ap (λ ps. p ∷ ps) (parts_again parts)
