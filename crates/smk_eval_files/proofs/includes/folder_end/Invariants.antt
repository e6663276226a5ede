use Rattle.std.proofs.Common.{◌≡◌, drop}
use Rattle.std.specs.Prelude.{IsCharBoundary}
use Rattle.smk_eval_files.specs.Reading.{folder_end}
use Rattle.smk_eval_files.proofs.includes.folder_end.Given as goal

abbrev pub invariant-loop-place : goal.invariant-loop-place
invariant-loop-place l = record {
  value : folder_end l.place l.end (drop l.place l.file) ≡ folder_end 0 0 l.file;
  boundary : IsCharBoundary l.file l.end;
}
