-- What is loaded is told by the files that are read.
use Rattle.std.proofs.Common.{◌≡◌, ℕ, zero, suc, Bool, true, false, List, [], ◌∷◌, ◌++◌, map, refl, sym, ap, subst, ◌∙◌, Result, Ok, Err, true≢false}
use Rattle.std.specs.Prelude.{if◌then◌else◌, IsOk}
use Rattle.serde_json.specs.Data.{Members, no_members}
use Rattle.smk_base.specs.Path.{is_path}
use Rattle.smk_base.specs.declared.tree.Pair.{Pair}
use Rattle.smk_world.specs.Trees.{Path, Each}
use Rattle.smk_flow.specs.Flows.{Flow}
use Rattle.smk_parse_tree.specs.declared.syntax.Syntax.{Syntax}
use Rattle.smk_flaws.specs.declared.fault.FileFault.{FileFault}
use Rattle.smk_flaws.specs.declared.fault.LoadFault.{LoadFault}
use Rattle.smk_flaws.specs.declared.fault.LoadFault.TheVariants.{Flawed}
use Rattle.smk_flaws.specs.declared.flaw.FileFlaw.TheVariants.{NoFile}
use Rattle.smk_flaws.specs.declared.flaw.Flaw.TheVariants.{File}
use Rattle.smk_eval_files.specs.declared.files.ReadFile.{ReadFile}
use Rattle.smk_eval_files.specs.Looks.{Nodes}
use Rattle.smk_eval_files.specs.Texts.{whole}
use Rattle.smk_eval_files.specs.Reading.{Files, and_then, bytes_at, files_at, files_from, included, includes, onto, read_as, syntax_in, target, with_includes}
use Rattle.smk_eval.specs.Faults as load
use Rattle.smk_eval.specs.Faults.{from_files}
use Rattle.smk_eval.specs.Loading.{Gives, config_at, config_file, config_files, config_in, configs, loaded, said_by, said_in, with_config, with_sets}
use Rattle.smk_laws_complete.specs.Loaded.{LoadedByFiles, files_read, paths_of}

-- ## Results

ok_same : {A F : Type 0} (a b : A) → ◌≡◌ {A = Result A F} (Ok a) (Ok b) → a ≡ b
ok_same a b h = cc

err_ok : {A F : Type 0} (f : F) (a : A) → ◌≡◌ {A = Result A F} (Err f) (Ok a) → ⊥
err_ok f a h = cc

ok_value : {A F : Type 0} (r : Result A F) → IsOk r → (a : A) × (r ≡ Ok a)
ok_value (Ok a) h = (a, refl)
ok_value (Err f) h = absurd (true≢false (sym h))

then_ok : {A B : Type 0} (r : Result A FileFault) (next : A → Result B FileFault) (b : B) → and_then r next ≡ Ok b → (a : A) × (r ≡ Ok a) × (next a ≡ Ok b)
then_ok (Ok a) next b h = (a, refl, h)
then_ok (Err f) next b h = absurd (err_ok f b h)

then_same : {A B : Type 0} (r : Result A LoadFault) (f g : A → Result B LoadFault) → ((a : A) → f a ≡ g a) → load.and_then r f ≡ load.and_then r g
then_same (Ok a) f g h = h a
then_same (Err e) f g h = refl

then_alike : {A B : Type 0} (r s : Result A LoadFault) (next : A → Result B LoadFault) → r ≡ s → load.and_then r next ≡ load.and_then s next
then_alike r s next same = ap (λ x. load.and_then x next) same

-- ## Lists

each_front : {A : Type 0} (P : A → Type 0) (xs ys : List A) → Each P (xs ++ ys) → Each P xs
each_front P [] ys all = tt
each_front P (x ∷ xs) ys (one, all) = (one, each_front P xs ys all)

each_back : {A : Type 0} (P : A → Type 0) (xs ys : List A) → Each P (xs ++ ys) → Each P ys
each_back P [] ys all = all
each_back P (x ∷ xs) ys (one, all) = each_back P xs ys all

abbrev names : List ReadFile → List Path
names fs = map (λ (f : ReadFile). f.file) fs

names_front : (P : Path → Type 0) (fs gs : List ReadFile) → Each P (names (fs ++ gs)) → Each P (names fs)
names_front P [] gs all = tt
names_front P (f ∷ fs) gs (one, all) = (one, names_front P fs gs all)

names_back : (P : Path → Type 0) (fs gs : List ReadFile) → Each P (names (fs ++ gs)) → Each P (names gs)
names_back P [] gs all = all
names_back P (f ∷ fs) gs (one, all) = names_back P fs gs all

-- ## Files

-- a file that is read has the path at which it is
named : (file : Path) (r : Result Syntax FileFault) (f : ReadFile) → read_as file r ≡ Ok f → f.file ≡ file
named file (Ok syntax) f h = ap (λ (x : ReadFile). x.file) (sym (ok_same (record { file = file; syntax = syntax }) f h))
named file (Err e) f h = absurd (err_ok e f h)

-- the files of includes, where each reads so by another reader
included_same :
    (P : Path → Type 0) (r s : Path → Files) → ((p : Path) (fs : List ReadFile) → r p ≡ Ok fs → Each P (names fs) → s p ≡ Ok fs) →
    (file : Path) (ts : List Path) (fs : List ReadFile) → included r file ts ≡ Ok fs → Each P (names fs) → included s file ts ≡ Ok fs
included_same P r s again file [] fs is all = is
included_same P r s again file (t ∷ ts) fs is all =
    let first = then_ok (and_then (target file t) r) (λ gs. onto gs (included r file ts)) fs is in
    let place = then_ok (target file t) r first.0 first.1 in
    let more = then_ok (included r file ts) (λ gs. Ok (first.0 ++ gs)) fs first.2 in
    let whole_is : first.0 ++ more.0 ≡ fs = ok_same (first.0 ++ more.0) fs more.2 in
    let both : Each P (names (first.0 ++ more.0)) = subst (λ gs. Each P (names gs)) (sym whole_is) all in
    ap (λ m. and_then (and_then m s) (λ gs. onto gs (included s file ts))) place.1
    ∙ ap (λ m. and_then m (λ gs. onto gs (included s file ts))) (again place.0 first.0 place.2 (names_front P first.0 more.0 both))
    ∙ ap (onto first.0) (included_same P r s again file ts more.0 more.1 (names_back P first.0 more.0 both))
    ∙ ap Ok whole_is

module _ (before after : Nodes) where
  -- the file reads as it does
  abbrev Same : Path → Type 0
  Same p = bytes_at after p ≡ bytes_at before p

  files_same : (depth : ℕ) (file : Path) (fs : List ReadFile) → files_from before depth file ≡ Ok fs → Each Same (names fs) → files_from after depth file ≡ Ok fs
  files_same zero file fs is all =
      let bytes = then_ok (bytes_at before file) _ fs is in
      absurd (err_ok _ fs bytes.2)
  files_same (suc depth) file fs is all =
      let bytes = then_ok (bytes_at before file) (λ source. and_then (read_as file (syntax_in file source)) (with_includes (files_from before depth))) fs is in
      let first = then_ok (read_as file (syntax_in file bytes.0)) (with_includes (files_from before depth)) fs bytes.2 in
      let f : ReadFile = first.0 in
      let more = then_ok (included (files_from before depth) f.file (includes f.syntax.statements)) (λ gs. Ok (f ∷ gs)) fs first.2 in
      let whole_is : f ∷ more.0 ≡ fs = ok_same (f ∷ more.0) fs more.2 in
      let both : Each Same (names (f ∷ more.0)) = subst (λ gs. Each Same (names gs)) (sym whole_is) all in
      let here : bytes_at after file ≡ Ok bytes.0 = subst Same (named file (syntax_in file bytes.0) f first.1) both.0 ∙ bytes.1 in
      ap (λ m. and_then m (λ source. and_then (read_as file (syntax_in file source)) (with_includes (files_from after depth)))) here
      ∙ ap (λ m. and_then m (with_includes (files_from after depth))) first.1
      ∙ ap (onto (f ∷ []))
      (included_same Same (files_from before depth) (files_from after depth) (files_same depth) f.file (includes f.syntax.statements) more.0 more.1 both.1)
      ∙ ap Ok whole_is

  -- ## Configurations

  config_same : (t : Path) → Same t → config_at after t ≡ config_at before t
  config_same t same = go (is_path t)
    where
      go :
          (b : Bool) →
          load.and_then (if b then Ok t else Err (Flawed (File (NoFile t)))) (config_file after)
          ≡ load.and_then (if b then Ok t else Err (Flawed (File (NoFile t)))) (config_file before)
      go true = ap (λ r. load.and_then (from_files r) (config_in t)) same
      go false = refl

  with_same : (was : Members) (t : Path) → Same t → with_config after was t ≡ with_config before was t
  with_same was t same = then_alike (config_at after t) (config_at before t) _ (config_same t same)

  configs_same : (was : Members) (ts : List Path) → Each Same ts → configs after was ts ≡ configs before was ts
  configs_same was [] all = refl
  configs_same was (t ∷ ts) (one, all) =
      ap (λ c. load.and_then c (λ now. configs after now ts)) (with_same was t one)
      ∙ then_same (with_config before was t) (λ now. configs after now ts) (λ now. configs before now ts) (λ now. configs_same now ts all)

  -- ## What is loaded

  module _ (file : Path) (fs : List ReadFile) (is : files_at before file ≡ Ok fs) (all : Each Same (files_read before file)) where
    both_parts : Each Same (names fs ++ config_files (whole fs))
    both_parts = subst (λ r. Each Same (paths_of r)) is all

    files_then : files_at after file ≡ Ok fs
    files_then = files_same 17 file fs is (each_front Same (names fs) (config_files (whole fs)) both_parts)

    loaded_same : (sets : List Pair) → loaded after file sets ≡ loaded before file sets
    loaded_same sets =
        ap (λ r. load.and_then (from_files r) (said_by after sets)) files_then
        ∙ ap (λ c. load.and_then c (λ m. said_in (with_sets m sets) fs))
        (configs_same no_members (config_files (whole fs)) (each_back Same (names fs) (config_files (whole fs)) both_parts))
        ∙ ap (λ r. load.and_then (from_files r) (said_by before sets)) (sym is)

    read_same : files_read after file ≡ files_read before file
    read_same = ap paths_of (files_then ∙ sym is)

pub loaded_by_files : LoadedByFiles
loaded_by_files before after file sets ok all =
    let fs = ok_value (files_at before file) ok in
    (loaded_same before after file fs.0 fs.1 all sets, read_same before after file fs.0 fs.1 all)

files_ok : (r : Files) (next : List ReadFile → Result Flow LoadFault) (flow : Flow) → load.and_then (from_files r) next ≡ Ok flow → IsOk r
files_ok (Ok fs) next flow h = refl
files_ok (Err f) next flow h = absurd (err_ok _ flow h)

-- A workflow is given again where each file that is read for it reads as it did, and the same files are read.
pub given_again :
    (before after : Nodes) (file : Path) (sets : List Pair) (flow : Flow) → Gives (loaded before file sets) (Ok flow) →
    Each (λ p. bytes_at after p ≡ bytes_at before p) (files_read before file) →
    Gives (loaded after file sets) (Ok flow) × (files_read after file ≡ files_read before file)
given_again before after file sets flow gives all =
    let same = loaded_by_files before after file sets (files_ok (files_at before file) (said_by before sets) flow gives.0) all in
    ((same.0 ∙ gives.0, gives.1), same.1)
