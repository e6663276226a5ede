-- The turns of a run can be written.
use Rattle.std.proofs.Common.{◌≡◌, Bool, true, false, List, [], ◌∷◌, map, length, refl, Some, None, sym}
use Rattle.std.specs.List.{find}
use Rattle.std.specs.Prelude.{cond}
use Rattle.std.proofs.lemmas.Option.{none-some}
use Rattle.smk_world.specs.Trees.{Path, Each}
use Rattle.smk_record.specs.Records.{is_valid, record_of}
use Rattle.smk_record.specs.Spelling.{is_writable}
use Rattle.smk_job.specs.Jobs.{bare_bytes, is_long}
use Rattle.smk_laws_job.specs.Laws.{IsRecordable}
use Rattle.smk_run.specs.Turns.{Turn, found}
use Rattle.smk_run.specs.Runs.{Fits}
use Rattle.smk_safe.specs.Planned.{IsFit}
use Rattle.smk_safe.specs.Turning.{opened}

-- where none is found, the first isn't one, and there is none behind it
none_found : {A : Type 0} (test : A → Bool) (x : A) (xs : List A) → find test (x ∷ xs) ≡ None → (test x ≡ false) × (find test xs ≡ None)
none_found test x xs h = go (test x) refl h
  where
    go : (b : Bool) → test x ≡ b → cond b (Some x) (find test xs) ≡ None → (test x ≡ false) × (find test xs ≡ None)
    go true e k = absurd (none-some x (sym k))
    go false e k = (e, k)

each_recordable : (t : Turn) (ps : List Path) → Each (λ p. is_valid (record_of p t.made t.job.recipe (found t.looked) []) ≡ true) ps → Each (λ p. is_writable (record_of p t.made t.job.recipe (found t.looked) []) ≡ true) ps
    → find is_long (map (λ p. length (bare_bytes t.made t.job.recipe (found t.looked) p)) ps) ≡ None → Each (IsRecordable (opened t [])) ps
each_recordable t [] valid writable short = tt
each_recordable t (p ∷ ps) valid writable short =
    let first = none_found is_long (length (bare_bytes t.made t.job.recipe (found t.looked) p)) (map (λ q. length (bare_bytes t.made t.job.recipe (found t.looked) q)) ps) short in
    (record { valid = valid.0; writable = writable.0; short = first.0 }, each_recordable t ps valid.1 writable.1 first.1)

fits_is_fit : (t : Turn) → Fits t → IsFit t
fits_is_fit t h = record {
  makes = h.makes;
  paths = h.paths;
  records = λ begun. let r = h.records begun in each_recordable t _ r.valid r.writable (h.short begun);
}

pub all_fit : (ts : List Turn) → Each Fits ts → Each IsFit ts
all_fit [] h = tt
all_fit (t ∷ ts) h = (fits_is_fit t h.0, all_fit ts h.1)
