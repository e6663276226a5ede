use Rattle.std.proofs.Common.{refl}
use Rattle.smk_base.specs.Place.{records_folder, marks_folder, notes_folder}
use Rattle.smk_world.proofs.Devices.{looked_then, looked_on, looked_memory, still}
use Rattle.smk_store.specs.Loading.{store_folder}
use Rattle.smk_store.proofs.Looks.{unowned_still}
use Rattle.smk_store.proofs.Loads.{all_still}
use Rattle.smk_store.proofs.loading.signs_in.Goals as goal

pub returns-in_err-records-2-clause-looked : goal.returns-in_err-records-2-clause-looked
returns-in_err-records-2-clause-looked g c = looked_on _ c.in_err-records-2.was c.from_residual-in_err-records-2.ensures.1 c.paths_in-2.ensures.looked

pub returns-in_err-marks-clause-looked : goal.returns-in_err-marks-clause-looked
returns-in_err-marks-clause-looked g c = looked_memory _ c.from_residual-in_err-marks.ensures.1 c.in_ok-records-2.ensures.looked

pub returns-in_err-marks-2-clause-looked : goal.returns-in_err-marks-2-clause-looked
returns-in_err-marks-2-clause-looked g c =
    looked_then c.in_ok-records-2.ensures.looked (looked_on _ c.in_err-marks-2.was c.from_residual-in_err-marks-2.ensures.1 c.paths_in-4.ensures.looked)

pub returns-in_err-notes-clause-looked : goal.returns-in_err-notes-clause-looked
returns-in_err-notes-clause-looked g c = looked_memory _ c.from_residual-in_err-notes.ensures.1 (looked_then c.in_ok-records-2.ensures.looked c.in_ok-marks-2.ensures.looked)

pub returns-in_err-notes-2-clause-looked : goal.returns-in_err-notes-2-clause-looked
returns-in_err-notes-2-clause-looked g c =
    looked_then (looked_then c.in_ok-records-2.ensures.looked c.in_ok-marks-2.ensures.looked)
    (looked_on _ c.in_err-notes-2.was c.from_residual-in_err-notes-2.ensures.1 c.paths_in-6.ensures.looked)

pub returns-clause-looked : goal.returns-clause-looked
returns-clause-looked g c = looked_then (looked_then c.in_ok-records-2.ensures.looked c.in_ok-marks-2.ensures.looked) c.in_ok-notes-2.ensures.looked

pub returns-clause-told : goal.returns-clause-told
returns-clause-told g c = λ w at free.
    let u = still w c.in_ok-records-2.ensures.looked at in
    let v = still w (looked_then c.in_ok-records-2.ensures.looked c.in_ok-marks-2.ensures.looked) at in
    record {
      recorded = all_still w w records_folder c.in_ok-records.field-0 _ refl c.in_ok-records.ensures (c.in_ok-records-2.ensures.told w at free);
      marked = all_still w u.0 marks_folder c.in_ok-marks.field-0 _ u.2 c.in_ok-marks.ensures (c.in_ok-marks-2.ensures.told u.0 u.1 (unowned_still w.nodes u.0.nodes store_folder u.2 free));
      noted = all_still w v.0 notes_folder c.in_ok-notes.field-0 _ v.2 c.in_ok-notes.ensures (c.in_ok-notes-2.ensures.told v.0 v.1 (unowned_still w.nodes v.0.nodes store_folder v.2 free));
    }
