-- The first of some files, found one after another.
use Rattle.std.proofs.Common.{◌≡◌, Bool, true, false, List, [], ◌∷◌, ◌++◌, Option, Some, None, Result, Ok, refl, subst}
use Rattle.std.specs.Prelude.{if◌then◌else◌}
use Rattle.smk_world.specs.declared.event.Stat.{Stat}
use Rattle.smk_world.specs.declared.event.Stat.TheVariants.{Nothing, File, Folder}
use Rattle.smk_world.specs.Calls.{stat_of}
use Rattle.smk_world.specs.Trees.{Path}
use Rattle.smk_eval_files.specs.Looks.{Nodes, at}
use Rattle.smk_report.specs.declared.fault.Fault.{Fault}
use Rattle.smk_cli_entry.specs.Faults.{Answers}
use Rattle.smk_cli_entry.specs.Names.{or_else}
use Rattle.smk_cli_entry.specs.Names.{where_file, is_file, is_file_at, file_at, first_file}
use Rattle.smk_cli_entry.proofs.Stats.{answers_then}

where_if : (p : Path) (s : Stat) → where_file p s ≡ (if is_file s then Some p else None)
where_if p Nothing = refl
where_if p (File time read_only) = refl
where_if p Folder = refl

-- one file alone
pub first_one : (nodes : Nodes) (p : Path) → file_at nodes p ≡ first_file nodes (p ∷ [])
first_one nodes p = where_if p (stat_of (at nodes p))

go : (b : Bool) (p : Path) (rest more other : Option Path) → or_else rest other ≡ more → or_else (if b then Some p else rest) other ≡ (if b then Some p else more)
go true p rest more other e = refl
go false p rest more other e = e

-- one more behind others
pub first_more : (nodes : Nodes) (ps : List Path) (p : Path) → or_else (first_file nodes ps) (file_at nodes p) ≡ first_file nodes (ps ++ p ∷ [])
first_more nodes [] p = first_one nodes p
first_more nodes (q ∷ ps) p = go (is_file_at nodes q) q (first_file nodes ps) (first_file nodes (ps ++ p ∷ [])) (file_at nodes p) (first_more nodes ps p)

-- the earlier ones were looked at, and then the next one
pub next_file : (nodes : Nodes) (ps : List Path) (p : Path) (o : Option Path) (s : Result (Option Path) Fault) → ◌≡◌ {A = Result (Option Path) Fault} (Ok (first_file nodes ps)) (Ok o) → Answers (Ok (or_else o (file_at nodes p))) s
    → Answers (Ok (first_file nodes (ps ++ p ∷ []))) s
next_file nodes ps p o s is h =
    subst (λ x. Answers (Ok x) s) (first_more nodes ps p) (answers_then (Ok (first_file nodes ps)) o (λ x. Ok (or_else x (file_at nodes p))) s is h)
