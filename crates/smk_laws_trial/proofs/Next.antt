-- The second run of a trial starts nothing.
use Rattle.std.proofs.Common.{◌≡◌, ℕ, suc, ◌+◌, Bool, true, false, List, [], ◌∷◌, ◌++◌, length, codes, refl, ap, sym, subst, ◌∙◌, arith, append-nil, append_assoc}
use Rattle.std.proofs.Common.{Option, Some, None, Result, Ok}
use Rattle.std.specs.Prelude.{if◌then◌else◌, option_map}
use Rattle.std.specs.List.{find}
use Rattle.std.proofs.lemmas.Option.{none-some, same_Some}
use Rattle.smk_world.specs.declared.event.Event.{Event}
use Rattle.smk_world.specs.declared.event.Node.{Node}
use Rattle.smk_world.specs.declared.event.Node.TheVariants.{Regular, Directory}
use Rattle.smk_world.specs.Calls.{started_number, started_numbers, stat_of}
use Rattle.smk_world.specs.Trees.{Path, Each}
use Rattle.smk_world.specs.World.{World, Nodes, after, node_in, reading, run}
use Rattle.smk_world_mem.specs.Act.{mem_act}
use Rattle.smk_record.specs.Reading.{record_in}
use Rattle.smk_record.proofs.Exact.{reads_records}
use Rattle.smk_store.specs.Images.{Content, content_of, is_source, seen}
use Rattle.smk_store.specs.Safety.{with_sources}
use Rattle.smk_store.specs.Soundness.{SameSources, told}
use Rattle.smk_report.specs.declared.fault.Fault.{Fault}
use Rattle.smk_words_reading.specs.declared.asked.Asked.TheVariants.{Run}
use Rattle.smk_laws_history.specs.Histories.{DifferInSums, no_versions}
use Rattle.smk_cli_entry.specs.Names.{is_file, is_file_at, or_no_file, workflow_file}
use Rattle.smk_laws_keys.specs.Keys.{outside}
use Rattle.smk_laws_complete.specs.Loaded.{files_read}
use Rattle.smk_laws_call.specs.Asking.{FindsSame, ReadsSources}
use Rattle.smk_laws_call.specs.Headline.{Begin, Came, IsCalled, RunGives, SumsDifferIn}
use Rattle.smk_laws_call.proofs.Asking.{next_run_starts_nothing}
use Rattle.smk_laws_call.proofs.Came.{headline}
use Rattle.smk_gen.specs.Files.{generated_files, snakefile_path, snakefile_text}
use Rattle.smk_gen.specs.Made.{HasJust}
use Rattle.smk_trial.specs.Running.{IsRunOnce, Ran, asked_run, starts_in}
use Rattle.smk_laws_trial.specs.Second.{IsOfFile, SecondRunStartsNothing}
use Rattle.smk_laws_trial.proofs.Begun.{file_is_source, held_is_of_file, is_new}
use Rattle.smk_laws_trial.proofs.Opened.{each_read}

-- ## The workflow's file

-- the names that count after it
abbrev later_names : List Path
later_names = codes "snakefile" ∷ codes "workflow/Snakefile" ∷ codes "workflow/snakefile" ∷ []

-- it counts where it is there
counts : (w : World) → is_file_at w.nodes snakefile_path ≡ true → workflow_file w.nodes ≡ Ok snakefile_path
counts w there = ap (λ b. or_no_file (if b then Some snakefile_path else find (is_file_at w.nodes) later_names)) there

file_there : (n : Option Node) (t : List ℕ × ℕ) → option_map told (content_of n) ≡ Some t → is_file (stat_of n) ≡ true
file_there None t h = absurd (none-some t h)
file_there (Some Directory) t h = absurd (none-some t h)
file_there (Some (Regular bytes time read_only)) t h = refl

-- it is there where the sources are those of a folder of which it is one
still_there :
    (w v : World) (c : Content) → SameSources (seen record_in w) (seen record_in v) → is_source (seen record_in w) snakefile_path ≡ true →
    content_of (reading (w.nodes snakefile_path)) ≡ Some c → is_file_at v.nodes snakefile_path ≡ true
still_there w v c same source is =
    go (is_source (seen record_in v) snakefile_path)
    (same snakefile_path
    ∙ ap (option_map told) (ap (λ b. if b then content_of (reading (w.nodes snakefile_path)) else None) source ∙ is))
  where
    go :
        (b : Bool) → option_map told (if b then content_of (reading (v.nodes snakefile_path)) else None) ≡ Some (told c) →
        is_file_at v.nodes snakefile_path ≡ true
    go true h = file_there (reading (v.nodes snakefile_path)) (told c) h
    go false h = absurd (none-some (told c) h)

path_same : (a b : Path) → ◌≡◌ {A = Result Path Fault} (Ok a) (Ok b) → a ≡ b
path_same a b h = cc

-- ## What is started

run_log : (w : World) (es : List Event) → (run w es).log ≡ w.log ++ es
run_log w [] = sym (append-nil w.log)
run_log w (e ∷ es) = run_log (after w e) es ∙ append_assoc w.log (e ∷ []) es

started_both : (es fs : List Event) → started_numbers (es ++ fs) ≡ started_numbers es ++ started_numbers fs
started_both [] fs = refl
started_both (e ∷ es) fs =
    ap (λ ns. started_number e.call ++ ns) (started_both es fs)
    ∙ sym (append_assoc (started_number e.call) (started_numbers es) (started_numbers fs))

none_more : (w : World) (es : List Event) → started_numbers es ≡ [] → starts_in (run w es) ≡ starts_in w
none_more w es none =
    ap (λ log. length (started_numbers log)) (run_log w es)
    ∙ ap length (started_both w.log es)
    ∙ ap (λ ns. length (started_numbers w.log ++ ns)) none
    ∙ ap length (append-nil (started_numbers w.log))

-- ## Two runs

called : (w v : World) → Ran w v → IsCalled (outside mem_act) (Run asked_run) None w v
called w v ran =
    record {
      old = ran.old;
      new = ran.new;
      out_old = ran.out_old;
      out_new = ran.out_new;
      begins = ran.begins;
      ends = ran.ends;
      served = ran.served record_in reads_records;
    }

module _ (files : Nodes) (own : DifferInSums (IsOfFile files)) (w : World) (just : HasJust files w) where
  abbrev came : Came mem_act w (with_sources no_versions (seen record_in w))
  came = Begin w (is_new files w just)

  differ : SumsDifferIn mem_act w (with_sources no_versions (seen record_in w)) came
  differ a b had has = own a b (held_is_of_file files w just record_in a had) (held_is_of_file files w just record_in b has)

  module _ (v : World) (ran : Ran w v) where
    -- what the first run gives
    gives : RunGives (outside mem_act) asked_run None w v (called w v ran)
    gives = headline mem_act w v (with_sources no_versions (seen record_in w)) asked_run None came differ (called w v ran)

    reads_sources : ReadsSources record_in asked_run w
    reads_sources file is =
        let left = gives.none_left refl refl in
        subst (λ p. Each (λ q. is_source (seen record_in w) q ≡ true) (files_read w.nodes p))
        (path_same left.asked.file file (sym left.is_asked.0.0 ∙ is))
        (each_read w.nodes (λ p. is_source (seen record_in w) p ≡ true) (file_is_source files w just record_in) left.asked.file asked_run.sets
        left.asked.flow left.is_asked.0.1.0)

    module _ (c : Content) (holds : content_of (node_in files snakefile_path) ≡ Some c) where
      stands : content_of (reading (w.nodes snakefile_path)) ≡ Some c
      stands = ap (λ s. content_of (reading s)) (just.nodes snakefile_path) ∙ holds

      finds_same : FindsSame asked_run w v
      finds_same unnamed =
          let source = file_is_source files w just record_in snakefile_path c stands in
          counts v (still_there w v c (gives.clean refl).sources source stands)
          ∙ sym (counts w (file_there (reading (w.nodes snakefile_path)) (told c) (ap (option_map told) stands)))

      -- a run after it starts nothing
      none_started : (x : World) → Ran v x → starts_in x ≡ starts_in v
      none_started x again =
          let next = called v x again in
          let starts =
          next_run_starts_nothing mem_act w v x (with_sources no_versions (seen record_in w)) asked_run None None came differ (called w v ran) refl refl
          reads_sources finds_same next in
          let did = starts.no_child x next.ends in
          let from : did.0 ≡ v = same_Some did.0 v (sym did.1 ∙ next.begins) in
          ap starts_in did.2.3 ∙ none_more did.0 did.2.0 did.2.2.unstarted ∙ ap starts_in from

-- ## The trial

none_left : (before more after : ℕ) → before + more ≡ after → after ≡ before → more ≡ 0
none_left before more after counted same = omega (arith, counted, same)

second_none :
    (seed size first second : ℕ) (generated once twice : Option World) (w : World) →
    DifferInSums (IsOfFile (generated_files seed size)) → generated ≡ Some w → HasJust (generated_files seed size) w →
    IsRunOnce generated once first → IsRunOnce once twice second → second ≡ 0
second_none seed size first second generated once twice w own is just one two =
    let start : one.entry ≡ w = same_Some one.entry w (sym one.begins ∙ is) in
    let middle : two.entry ≡ one.exit = same_Some two.entry one.exit (sym two.begins ∙ one.ends) in
    let before : Ran w one.exit = subst (λ u. Ran u one.exit) start one.ran in
    let behind : Ran one.exit two.exit = subst (λ u. Ran u two.exit) middle two.ran in
    let holds : Content = record { bytes = snakefile_text size; time = suc size; read_only = false } in
    none_left (starts_in two.entry) second (starts_in two.exit) two.counted
    (none_started (generated_files seed size) own w just one.exit before holds refl two.exit behind ∙ ap starts_in (sym middle))

pub second_run_starts_nothing : SecondRunStartsNothing
second_run_starts_nothing seed size first second third total now own tried =
    let made = tried.files in
    second_none seed size first second tried.generated tried.tried.once tried.tried.twice made.0 own made.1 made.2 tried.tried.first_run tried.tried.second_run
