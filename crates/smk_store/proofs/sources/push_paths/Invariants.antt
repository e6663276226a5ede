use Rattle.std.proofs.Common.{◌≡◌, ◌++◌, ℕ, List, drop}
use Rattle.std.specs.List.{zip}
use Rattle.smk_store.specs.Sources.{sources_of}
use Rattle.smk_store.proofs.sources.push_paths.Given as goal

abbrev pub invariant-loop-path : goal.invariant-loop-path
invariant-loop-path l =
    (later : List (List ℕ)) → l.found ++ sources_of l.p (zip (drop l.path-index l.paths ++ later) l.rest) ≡ l.initial.found ++ sources_of l.p (zip (l.paths ++ later) l.stamps)
