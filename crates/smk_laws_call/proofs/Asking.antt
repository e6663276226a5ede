-- Words that read sources ask for the same where the sources are the same.
use Rattle.std.proofs.Common.{◌≡◌, ℕ, Bool, true, false, List, [], ◌∷◌, refl, ap, sym, subst, ◌∙◌, Option, Some, None, Result, Ok}
use Rattle.std.specs.Prelude.{if◌then◌else◌}
use Rattle.std.proofs.lemmas.Option.{none-some, same_Some}
use Rattle.smk_world.specs.declared.event.Node.{Node}
use Rattle.smk_world.specs.declared.event.Node.TheVariants.{Regular, Directory}
use Rattle.smk_world.specs.Calls.{found_of}
use Rattle.smk_world.specs.World.{World, reading}
use Rattle.smk_world.specs.Trees.{Path, Each}
use Rattle.smk_record.specs.declared.record.Record.{Record}
use Rattle.smk_record.proofs.Exact.{reads_records}
use Rattle.smk_store.specs.Images.{Content, Image, content_of, file_at, is_outside, is_source, seen, source_at}
use Rattle.smk_store.specs.Soundness.{SameSources}
use Rattle.smk_report.specs.declared.fault.Fault.{Fault}
use Rattle.smk_words_reading.specs.declared.asked.RunWords.{RunWords}
use Rattle.smk_eval_files.specs.Looks.{at}
use Rattle.smk_eval_files.specs.Reading.{bytes_at, bytes_in, file_limit}
use Rattle.smk_laws_complete.specs.Loaded.{files_read}
use Rattle.smk_laws_complete.proofs.Loaded.{given_again}
use Rattle.smk_cli_entry.specs.Names.{file_of, workflow_file}
use Rattle.smk_laws_keys.specs.Keys.{outside}
use Rattle.smk_safe.proofs.CleanAtExit.{run_leaves_all_clean}
use Rattle.smk_safe.proofs.Images.{source_of_both}
use Rattle.smk_clean.proofs.Ended.{drives_end}
use Rattle.smk_clean.proofs.Ending.{call_is_clean}
use Rattle.smk_laws_call.specs.Asking.{AskedBySources, NextRunStartsNothing, RunKeepsAsked}
use Rattle.smk_laws_call.proofs.Came.{came_is_sound, headline}

-- ## Sources read the same

-- what is read of a file goes by its bytes
node_bytes :
    (p : Path) (n : Option Node) (c : Content) → content_of n ≡ Some c →
    bytes_in p (found_of file_limit n) ≡ bytes_in p (found_of file_limit (Some (Regular c.bytes 0 false)))
node_bytes p None c h = absurd (none-some c h)
node_bytes p (Some Directory) c h = absurd (none-some c h)
node_bytes p (Some (Regular bytes time read_only)) c h =
    ap (λ (f : Content). bytes_in p (found_of file_limit (Some (Regular f.bytes 0 false)))) (same_Some _ c h)

source_is_file : (image : Image) (p : Path) (c : Content) → source_at image p ≡ Some c → file_at image p ≡ Some c
source_is_file image p c h = go (is_source image p) h
  where
    go : (b : Bool) → (if b then file_at image p else None) ≡ Some c → file_at image p ≡ Some c
    go true e = e
    go false e = absurd (none-some c e)

module _ (read : List ℕ → Option Record) where
  source_bytes :
      (w : World) (p : Path) (c : Content) → source_at (seen read w) p ≡ Some c →
      bytes_at w.nodes p ≡ bytes_in p (found_of file_limit (Some (Regular c.bytes 0 false)))
  source_bytes w p c h = node_bytes p (at w.nodes p) c (go (is_outside p) (source_is_file (seen read w) p c h))
    where
      go : (b : Bool) → content_of (if b then reading (w.nodes p) else None) ≡ Some c → content_of (reading (w.nodes p)) ≡ Some c
      go true e = e
      go false e = absurd (none-some c e)

  module _ (w v : World) (same : SameSources (seen read w) (seen read v)) where
    sources_read : (ps : List Path) → Each (λ p. is_source (seen read w) p ≡ true) ps → Each (λ p. bytes_at v.nodes p ≡ bytes_at w.nodes p) ps
    sources_read [] all = tt
    sources_read (p ∷ ps) (one, all) =
        let both = source_of_both (seen read w) (seen read v) p same one in (
          source_bytes v p both.second both.at_second
              ∙ ap (λ (bytes : List ℕ). bytes_in p (found_of file_limit (Some (Regular bytes 0 false)))) both.bytes
              ∙ sym (source_bytes w p both.first both.at_first),
          sources_read ps all,
        )

    sources_still : (ps : List Path) → Each (λ p. is_source (seen read w) p ≡ true) ps → Each (λ p. is_source (seen read v) p ≡ true) ps
    sources_still [] all = tt
    sources_still (p ∷ ps) (one, all) = ((source_of_both (seen read w) (seen read v) p same one).is_second, sources_still ps all)

-- ## What is asked

-- a file that is named counts in each world
counts_still : (named : Option Path) (w v : World) → (named ≡ None → workflow_file v.nodes ≡ workflow_file w.nodes) → file_of v.nodes named ≡ file_of w.nodes named
counts_still None w v same = same refl
counts_still (Some file) w v same = refl

path_same : (a b : Path) → ◌≡◌ {A = Result Path Fault} (Ok a) (Ok b) → a ≡ b
path_same a b h = cc

pub asked_by_sources : AskedBySources
asked_by_sources read words w v asked same sources found asks =
    let file : file_of v.nodes words.file ≡ Ok asked.file = counts_still words.file w v found ∙ asks.0.0 in
    let all : Each (λ p. is_source (seen read w) p ≡ true) (files_read w.nodes asked.file) = sources asked.file asks.0.0 in
    let again = given_again w.nodes v.nodes asked.file words.sets asked.flow asks.0.1 (sources_read read w v same (files_read w.nodes asked.file) all) in
    let still : Each (λ p. is_source (seen read v) p ≡ true) (files_read v.nodes asked.file) =
    subst (Each (λ p. is_source (seen read v) p ≡ true)) (sym again.1) (sources_still read w v same (files_read w.nodes asked.file) all) in (
      ((file, again.0), asks.1, asks.2),
      λ p is. subst (λ q. Each (λ y. is_source (seen read v) y ≡ true) (files_read v.nodes q)) (path_same asked.file p (sym file ∙ is)) still,
    )

pub run_keeps_asked : RunKeepsAsked
run_keeps_asked o H words told w v old new p q at ends reads differ sound served none sources found asked asks =
    let made = call_is_clean run_leaves_all_clean drives_end o H words told w v old new p q at ends reads differ sound served none in
    (asked_by_sources o.read words w v asked made.sources sources found asks).0

pub next_run_starts_nothing : NextRunStartsNothing
next_run_starts_nothing act w v x H words told again came differ called free none sources found next =
    let sound = came_is_sound act w H came differ in
    (headline act w v H words told came differ called).starts_nothing free none
    (run_keeps_asked (outside act) H words told w v called.old called.new called.out_old called.out_new called.begins called.ends reads_records sound.0 sound.1
    called.served none sources found)
    again x next
