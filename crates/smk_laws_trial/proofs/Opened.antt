-- What is read for a workflow that is loaded: files.
use Rattle.std.proofs.Common.{◌≡◌, ℕ, zero, suc, Bool, true, false, List, [], ◌∷◌, ◌++◌, map, refl, sym, ap, subst, Option, Some, None, Result, Ok, Err}
use Rattle.std.specs.Prelude.{if◌then◌else◌}
use Rattle.serde_json.specs.Data.{Members, no_members}
use Rattle.smk_base.specs.Path.{is_path}
use Rattle.smk_base.specs.declared.tree.Pair.{Pair}
use Rattle.smk_world.specs.declared.event.Node.{Node}
use Rattle.smk_world.specs.declared.event.Node.TheVariants.{Regular, Directory}
use Rattle.smk_world.specs.Calls.{found_of}
use Rattle.smk_world.specs.Trees.{Path, Each}
use Rattle.smk_flow.specs.Flows.{Flow}
use Rattle.smk_parse_tree.specs.declared.syntax.Syntax.{Syntax}
use Rattle.smk_flaws.specs.declared.fault.FileFault.{FileFault}
use Rattle.smk_flaws.specs.declared.fault.LoadFault.{LoadFault}
use Rattle.smk_flaws.specs.declared.fault.LoadFault.TheVariants.{Flawed}
use Rattle.smk_flaws.specs.declared.flaw.FileFlaw.TheVariants.{NoFile}
use Rattle.smk_flaws.specs.declared.flaw.Flaw.TheVariants.{File}
use Rattle.smk_store.specs.Images.{Content, content_of}
use Rattle.smk_eval_files.specs.declared.files.ReadFile.{ReadFile}
use Rattle.smk_eval_files.specs.Looks.{Nodes, at}
use Rattle.smk_eval_files.specs.Texts.{whole}
use Rattle.smk_eval_files.specs.Reading.{Files, and_then, bytes_at, bytes_in, file_limit, files_at, files_from, included, includes, onto, read_as, syntax_in, target, with_includes}
use Rattle.smk_eval.specs.Faults as load
use Rattle.smk_eval.specs.Faults.{from_files}
use Rattle.smk_eval.specs.Loading.{config_at, config_file, config_files, config_in, config_path, configs, loaded, said_by, said_in, with_config, with_sets}
use Rattle.smk_config.specs.Settings.{over}
use Rattle.smk_laws_keys.proofs.Kept.{each_append}
use Rattle.smk_laws_complete.specs.Loaded.{files_read, paths_of}

-- ## Results

ok_same : {A F : Type 0} (a b : A) → ◌≡◌ {A = Result A F} (Ok a) (Ok b) → a ≡ b
ok_same a b h = cc

err_ok : {A F : Type 0} (f : F) (a : A) → ◌≡◌ {A = Result A F} (Err f) (Ok a) → ⊥
err_ok f a h = cc

then_ok : {A B : Type 0} (r : Result A FileFault) (next : A → Result B FileFault) (b : B) → and_then r next ≡ Ok b → (a : A) × (r ≡ Ok a) × (next a ≡ Ok b)
then_ok (Ok a) next b h = (a, refl, h)
then_ok (Err f) next b h = absurd (err_ok f b h)

load_ok : {A B : Type 0} (r : Result A LoadFault) (next : A → Result B LoadFault) (b : B) → load.and_then r next ≡ Ok b → (a : A) × (r ≡ Ok a) × (next a ≡ Ok b)
load_ok (Ok a) next b h = (a, refl, h)
load_ok (Err f) next b h = absurd (err_ok f b h)

read_ok : {A : Type 0} (r : Result A FileFault) (a : A) → from_files r ≡ Ok a → r ≡ Ok a
read_ok (Ok x) a h = ap Ok (ok_same x a h)
read_ok (Err f) a h = absurd (err_ok _ a h)

each_weaker : {A : Type 0} (P Q : A → Type 0) → ((x : A) → P x → Q x) → (xs : List A) → Each P xs → Each Q xs
each_weaker P Q weaker [] all = tt
each_weaker P Q weaker (x ∷ xs) (one, all) = (weaker x one, each_weaker P Q weaker xs all)

-- ## Files

abbrev names : List ReadFile → List Path
names fs = map (λ (f : ReadFile). f.file) fs

names_both : (P : Path → Type 0) (fs gs : List ReadFile) → Each P (names fs) → Each P (names gs) → Each P (names (fs ++ gs))
names_both P [] gs all more = more
names_both P (f ∷ fs) gs (one, all) more = (one, names_both P fs gs all more)

-- a file that is read has the path at which it is
named : (file : Path) (r : Result Syntax FileFault) (f : ReadFile) → read_as file r ≡ Ok f → file ≡ f.file
named file (Ok syntax) f h = ap (λ (x : ReadFile). x.file) (ok_same (record { file = file; syntax = syntax }) f h)
named file (Err e) f h = absurd (err_ok e f h)

-- so it is of the files of includes where it is of those of each
of_included :
    (P : Path → Type 0) (r : Path → Files) → ((p : Path) (fs : List ReadFile) → r p ≡ Ok fs → Each P (names fs)) →
    (file : Path) (ts : List Path) (fs : List ReadFile) → included r file ts ≡ Ok fs → Each P (names fs)
of_included P r of_each file [] fs is = subst (λ gs. Each P (names gs)) (ok_same [] fs is) tt
of_included P r of_each file (t ∷ ts) fs is =
    let first = then_ok (and_then (target file t) r) (λ gs. onto gs (included r file ts)) fs is in
    let place = then_ok (target file t) r first.0 first.1 in
    let more = then_ok (included r file ts) (λ gs. Ok (first.0 ++ gs)) fs first.2 in
    subst (λ gs. Each P (names gs)) (ok_same (first.0 ++ more.0) fs more.2)
    (names_both P first.0 more.0 (of_each place.0 first.0 place.2) (of_included P r of_each file ts more.0 more.1))

-- what is opened is a file
file_opened : (p : Path) (n : Option Node) (bytes : List ℕ) → bytes_in p (found_of file_limit n) ≡ Ok bytes → (c : Content) × (content_of n ≡ Some c)
file_opened p None bytes h = absurd (err_ok _ bytes h)
file_opened p (Some Directory) bytes h = absurd (err_ok _ bytes h)
file_opened p (Some (Regular held time read_only)) bytes h = (record { bytes = held; time = time; read_only = read_only }, refl)

module _ (nodes : Nodes) where
  -- a file is there
  abbrev IsFileAt : Path → Type 0
  IsFileAt p = (c : Content) × (content_of (at nodes p) ≡ Some c)

  files_open : (depth : ℕ) (file : Path) (fs : List ReadFile) → files_from nodes depth file ≡ Ok fs → Each IsFileAt (names fs)
  files_open zero file fs is =
      let bytes = then_ok (bytes_at nodes file) _ fs is in
      absurd (err_ok _ fs bytes.2)
  files_open (suc depth) file fs is =
      let bytes = then_ok (bytes_at nodes file) (λ source. and_then (read_as file (syntax_in file source)) (with_includes (files_from nodes depth))) fs is in
      let first = then_ok (read_as file (syntax_in file bytes.0)) (with_includes (files_from nodes depth)) fs bytes.2 in
      let f : ReadFile = first.0 in
      let more = then_ok (included (files_from nodes depth) f.file (includes f.syntax.statements)) (λ gs. Ok (f ∷ gs)) fs first.2 in
      let here : IsFileAt f.file = subst IsFileAt (named file (syntax_in file bytes.0) f first.1) (file_opened file (at nodes file) bytes.0 bytes.1) in
      subst (λ gs. Each IsFileAt (names gs)) (ok_same (f ∷ more.0) fs more.2)
      (here, of_included IsFileAt (files_from nodes depth) (files_open depth) f.file (includes f.syntax.statements) more.0 more.1)

  -- ## Configurations

  config_opens : (t : Path) (m : Members) → config_at nodes t ≡ Ok m → IsFileAt t
  config_opens t m is =
      let place = load_ok (config_path t) (config_file nodes) m is in
      let bytes = load_ok (from_files (bytes_at nodes place.0)) (config_in place.0) m place.2 in
      subst IsFileAt (go (is_path t) place.0 place.1) (file_opened place.0 (at nodes place.0) bytes.0 (read_ok (bytes_at nodes place.0) bytes.0 bytes.1))
    where
      go : (b : Bool) (p : Path) → ◌≡◌ {A = Result Path LoadFault} (if b then Ok t else Err (Flawed (File (NoFile t)))) (Ok p) → p ≡ t
      go true p h = sym (ok_same t p h)
      go false p h = absurd (err_ok _ p h)

  configs_open : (was : Members) (ts : List Path) (m : Members) → configs nodes was ts ≡ Ok m → Each IsFileAt ts
  configs_open was [] m is = tt
  configs_open was (t ∷ ts) m is =
      let first = load_ok (with_config nodes was t) (λ now. configs nodes now ts) m is in
      let config = load_ok (config_at nodes t) (λ x. Ok (over x was)) first.0 first.1 in
      (config_opens t config.0 config.1, configs_open first.0 ts m first.2)

  -- ## What is loaded

  all_open : (file : Path) (sets : List Pair) (flow : Flow) → loaded nodes file sets ≡ Ok flow → Each IsFileAt (files_read nodes file)
  all_open file sets flow is =
      let said = load_ok (from_files (files_at nodes file)) (said_by nodes sets) flow is in
      let fs : List ReadFile = said.0 in
      let files : files_at nodes file ≡ Ok fs = read_ok (files_at nodes file) fs said.1 in
      let config = load_ok (configs nodes no_members (config_files (whole fs))) (λ m. said_in (with_sets m sets) fs) flow said.2 in
      subst (λ r. Each IsFileAt (paths_of r)) (sym files)
      (each_append IsFileAt (names fs) (config_files (whole fs)) (files_open 17 file fs files)
      (configs_open no_members (config_files (whole fs)) config.0 config.1))

-- So each file that is read has what each file has.
pub each_read :
    (nodes : Nodes) (P : Path → Type 0) → ((p : Path) (c : Content) → content_of (at nodes p) ≡ Some c → P p) →
    (file : Path) (sets : List Pair) (flow : Flow) → loaded nodes file sets ≡ Ok flow → Each P (files_read nodes file)
each_read nodes P of_file file sets flow is =
    each_weaker (IsFileAt nodes) P (λ p found. of_file p found.0 found.1) (files_read nodes file) (all_open nodes file sets flow is)
