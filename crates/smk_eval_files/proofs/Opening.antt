-- Files one after another.
use Rattle.std.proofs.Common.{◌≡◌, ◌≢◌, ◌-◌, arith, ℕ, zero, suc, List, [], ◌∷◌, ◌++◌, Result, Ok, Err, refl, ap, sym, ◌∙◌, append_assoc}
use Rattle.smk_eval_files.specs.declared.files.ReadFile.{ReadFile}
use Rattle.smk_eval_files.specs.declared.reading.Opened.{Opened}
use Rattle.smk_flaws.specs.declared.flaw.FileFlaw.TheVariants.{IncludeDepth}
use Rattle.smk_flaws.specs.declared.fault.FileFault.{FileFault}
use Rattle.smk_flaws.specs.declared.fault.FileFault.TheVariants.{Flawed}
use Rattle.smk_eval_files.specs.Looks.{Nodes}
use Rattle.smk_eval_files.specs.Reading.{Files, and_then, bytes_at, syntax_in, read_as, onto, included, with_includes, files_from}
use Rattle.smk_eval_files.specs.Opening.{opened, opened_as, include_from}

then_same : {A B : Type 0} (m : Result A FileFault) (f g : A → Result B FileFault) → ((x : A) → f x ≡ g x) → and_then m f ≡ and_then m g
then_same (Ok x) f g h = h x
then_same (Err e) f g h = refl

onto_then : {A : Type 0} (made : List ReadFile) (m : Result A FileFault) (k : A → Files) → onto made (and_then m k) ≡ and_then m (λ x. onto made (k x))
onto_then made (Ok x) k = refl
onto_then made (Err e) k = refl

onto_onto : (before made : List ReadFile) (m : Files) → onto before (onto made m) ≡ onto (before ++ made) m
onto_onto before made (Ok fs) = ap Ok (sym (append_assoc before made fs))
onto_onto before made (Err e) = refl

opened_then : (made : List ReadFile) (r : Result ReadFile FileFault) (read : List ℕ → Files) (k : Opened → Files)
    → ((f : ReadFile) → onto made (with_includes read f) ≡ k (opened made f))
    → onto made (and_then r (with_includes read)) ≡ and_then (and_then r (λ f. Ok (opened made f))) k
opened_then made (Ok f) read k h = h f
opened_then made (Err e) read k h = refl

-- what follows a file that was opened
abbrev pub later : ℕ → Nodes → Opened → Files
later zero nodes o = Ok []
later (suc depth) nodes o = onto o.files (included (files_from nodes depth) o.file o.includes)

pub file_steps : (depth : ℕ) (nodes : Nodes) (made : List ReadFile) (file : List ℕ)
    → onto made (files_from nodes depth file) ≡ and_then (bytes_at nodes file) (λ source. and_then (opened_as depth made file source) (later depth nodes))
file_steps zero nodes made file = onto_then made (bytes_at nodes file) (λ source. Err (Flawed (IncludeDepth file)))
file_steps (suc depth) nodes made file =
    onto_then made (bytes_at nodes file) (λ source. and_then (read_as file (syntax_in file source)) (with_includes (files_from nodes depth)))
    ∙ then_same (bytes_at nodes file) _ _ (λ source.
    opened_then made (read_as file (syntax_in file source)) (files_from nodes depth) (later (suc depth) nodes)
    (λ f. onto_onto made (f ∷ []) (included (files_from nodes depth) f.file _)))

pub include_steps : (read : List ℕ → Files) (made : List ReadFile) (file t : List ℕ) (ts : List (List ℕ))
    → onto made (included read file (t ∷ ts)) ≡ and_then (onto made (include_from read file t)) (λ all. onto all (included read file ts))
include_steps read made file t ts = go (include_from read file t)
  where
    go : (m : Files) → onto made (and_then m (λ fs. onto fs (included read file ts))) ≡ and_then (onto made m) (λ all. onto all (included read file ts))
    go (Ok fs) = onto_onto made fs (included read file ts)
    go (Err e) = refl

pub onto_nothing : (m : Files) → onto [] m ≡ m
onto_nothing (Ok fs) = refl
onto_nothing (Err e) = refl

pub later_is : (depth : ℕ) (nodes : Nodes) (o : Opened) → depth ≢ 0 → later depth nodes o ≡ onto o.files (included (files_from nodes (depth - 1)) o.file o.includes)
later_is zero nodes o h = absurd (h refl)
later_is (suc depth) nodes o h =
    let e : depth ≡ suc depth - 1 = omega arith in
    ap (λ n. onto o.files (included (files_from nodes n) o.file o.includes)) e
