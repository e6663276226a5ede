-- What a job leaves that is closed, however it ended.
use Rattle.std.proofs.Common.{◌≡◌, true, List, [], ◌∷◌, ◌++◌, sym, ap, subst, ◌∙◌, Ok}
use Rattle.smk_base.specs.Place.{mark_place, record_place}
use Rattle.smk_world.specs.declared.event.Event.{Event}
use Rattle.smk_world.specs.Requests.{HasDone}
use Rattle.smk_world.specs.Runs.{Follows}
use Rattle.smk_world.specs.Trees.{Act, Path, outs_of}
use Rattle.smk_world.specs.World.{World, after, is_within, out_paths, run}
use Rattle.smk_world.proofs.Runs.{run_append}
use Rattle.smk_record.specs.declared.record.Member.{Member}
use Rattle.smk_laws_protocol.proofs.Basics.{each_of}
use Rattle.smk_job.specs.Jobs.{Underway, abandon_requests, bytes_with, finish_requests}
use Rattle.smk_job.specs.declared.fault.CloseFault.{CloseFault}
use Rattle.smk_job.specs.Sights.{HasFinished, HasSeen, IsSeenWrong}
use Rattle.smk_job.proofs.Single.{IsKnown, done_reaches}
use Rattle.smk_safe.proofs.Kept.{AreDifferent}
use Rattle.smk_run.proofs.Calls.{EachCall, seen_each, wrong_each}
use Rattle.smk_laws_turns.proofs.ClosedCalls.{IsOf, all_keep}
use Rattle.smk_laws_turns.proofs.Touched.{looks_of}
use Rattle.smk_laws_turns.proofs.FolderLeaving.{AllFor, HasKept, HasLost, keeps, loses, seen_for}

pub follows_split : (act : Act) (w : World) (es fs : List Event) → Follows act w (es ++ fs) → Follows act w es × Follows act (run w es) fs
follows_split act w [] fs follows = (tt, follows)
follows_split act w (e ∷ es) fs follows =
    let rest = follows_split act (after w e) es fs follows.1 in ((follows.0, rest.0), rest.1)

-- the records of the job's outputs stand, with these members, and no mark
pub record IsKeptSo (going : Underway) (v : World) : Type 0 where
  pub members : List (List Member)
  pub for : AllFor going.recipe (out_paths going.recipe) members
  pub kept : HasKept (out_paths going.recipe) (bytes_with going (out_paths going.recipe) members) v

-- so it is, or nothing stands at the outputs or under them, and no record nor mark
pub data LeavesSo (going : Underway) (v : World) : Type 0 where
  Kept : IsKeptSo going v → LeavesSo going v
  Lost : HasLost (out_paths going.recipe) v → LeavesSo going v

module _
    (act : Act) (going : Underway) (w : World) (differ : AreDifferent (out_paths going.recipe))
    (known_outs : (q : Path) → is_within q (out_paths going.recipe) ≡ true → IsKnown (w.nodes q))
    (known_records : (p : Path) → IsKnown (w.nodes (record_place p))) (known_marks : (p : Path) → IsKnown (w.nodes (mark_place p))) where
  abbrev outs : List Path
  outs = out_paths going.recipe

  module _ (looks : List Event) (looked : EachCall (IsOf []) looks) where
    abbrev u : World
    u = run w looks

    known_there : (q : Path) → IsKnown (w.nodes q) → IsKnown (u.nodes q)
    known_there q known = subst IsKnown (sym (all_keep [] q (λ p i. absurd i) w looks looked)) known

    kept_there :
        (members : List (List Member)) (rest : List Event) → Follows act u rest → HasDone (finish_requests going members) rest →
        HasKept outs (bytes_with going outs members) (run u rest)
    kept_there members rest follows done =
        keeps act outs going.logs (bytes_with going outs members) u (run u rest) (done_reaches act (finish_requests going members) u rest follows done) differ
        (each_of (λ p. IsKnown (u.nodes (record_place p))) outs (λ p i. known_there (record_place p) (known_records p)))
        (λ p. known_there (mark_place p) (known_marks p))

    lost_there : (rest : List Event) → Follows act u rest → HasDone (abandon_requests going) rest → HasLost outs (run u rest)
    lost_there rest follows done =
        loses act outs going.logs u (run u rest) (done_reaches act (abandon_requests going) u rest follows done)
        (λ q within. known_there q (known_outs q within)) (λ p. known_there (record_place p) (known_records p))
        (λ p. known_there (mark_place p) (known_marks p))

  -- it was finished
  pub finished_so : (es : List Event) → HasFinished going (Ok tt) w es → Follows act w es → IsKeptSo going (run w es)
  finished_so es h follows =
      let d = h.1 in
      let two = follows_split act w d.looks d.rest (subst (λ xs. Follows act w xs) d.events follows) in
      let there : run w es ≡ run (run w d.looks) d.rest = ap (λ xs. run w xs) d.events ∙ run_append w d.looks d.rest in
      record {
        members = h.0;
        for = seen_for going.recipe w.nodes h.0 d.looks d.seen;
        kept =
            subst (HasKept outs (bytes_with going outs h.0)) (sym there)
            (kept_there d.looks (seen_each (IsOf []) (looks_of []) w.nodes (outs_of going.recipe) h.0 d.looks d.seen) h.0 d.rest two.1 d.done);
      }

  -- it was abandoned
  pub abandoned_so : (es : List Event) → HasDone (abandon_requests going) es → Follows act w es → HasLost outs (run w es)
  abandoned_so es h follows = lost_there [] tt es follows h

  -- it was abandoned, since something was wrong with an output
  pub wrong_so :
      (f : CloseFault) (es : List Event) → HasSeen (IsSeenWrong w.nodes (outs_of going.recipe) f) (HasDone (abandon_requests going)) es → Follows act w es →
      HasLost outs (run w es)
  wrong_so f es d follows =
      let two = follows_split act w d.looks d.rest (subst (λ xs. Follows act w xs) d.events follows) in
      let there : run w es ≡ run (run w d.looks) d.rest = ap (λ xs. run w xs) d.events ∙ run_append w d.looks d.rest in
      subst (HasLost outs) (sym there)
      (lost_there d.looks (wrong_each (IsOf []) (looks_of []) w.nodes (outs_of going.recipe) f d.looks d.seen) d.rest two.1 d.done)
