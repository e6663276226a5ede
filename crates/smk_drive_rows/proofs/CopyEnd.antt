-- How the run that copies a file ends: with status 0 and its whole report; and what may not be said of it.
use Rattle.std.proofs.Common.{◌≡◌, ◌⊎◌, ℕ, Bool, true, false, ◌&&◌, not, List, [], ◌∷◌, ◌++◌, codes, Option, None, Ok, is_some, refl, sym, ap, subst, ◌∙◌, inl, inr, arith, true≢false}
use Rattle.std.specs.List.{list_all}
use Rattle.smk_base.specs.Place.{mark_place, lock_place, name_of}
use Rattle.smk_world.specs.declared.event.Event.{Event}
use Rattle.smk_world.specs.declared.event.Node.{Node}
use Rattle.smk_world.specs.declared.event.Call.TheVariants.{Created, MadeParents, Settled}
use Rattle.smk_world.specs.World.{World, IsFormed, is_named, reading, run}
use Rattle.smk_world.specs.Trees.{Path, is_path_text}
use Rattle.smk_pattern.specs.Shapes.{Text}
use Rattle.smk_report.specs.Lines.{target_line}
use Rattle.smk_drive.specs.Moments.{Rules}
use Rattle.smk_flow.proofs.Examples.{commands}
use Rattle.smk_drive.proofs.Turns.{event, put}
use Rattle.smk_drive_course.specs.RunReports.{HasLine}
use Rattle.smk_drive_rows.proofs.Truth.{and_right, not_both, test}
use Rattle.smk_drive_rows.proofs.Changes.{each_named}
use Rattle.smk_drive_rows.proofs.Chains.{in_force}
use Rattle.smk_drive_rows.proofs.Logs.{last, last_is, last_whole}
use Rattle.smk_drive_rows.proofs.Telling.{lines_of, begins_so, begins_joined}
use Rattle.smk_drive_rows.proofs.CopyRow.{entry, formed, rules, log, settled, out, its_text, its_report}
use Rattle.smk_cli_target.specs.Ends.{EndsWell, IsDone, HasNoNewMark}

-- ## No mark

abbrev is_mark : World → Path → Bool
is_mark w q = begins_so (codes ".snakemake/smk/marks/") q && is_some (reading (w.nodes q))

nothing_reads : (w : World) (q : Path) → reading (w.nodes q) ≡ None → is_some (reading (w.nodes q)) ≡ true → ⊥
nothing_reads w q none some = true≢false (sym some ∙ ap is_some none)

-- where no name of the world is that of a mark that stands, no mark does
pub no_marks : (w : World) → IsFormed w → list_all (λ q. not (is_mark w q)) w.names ≡ true → (p : Path) → is_some (reading (w.nodes (mark_place p))) ≡ true → ⊥
no_marks w formed t p some = go (test (is_named (mark_place p) w.names))
  where
    go : (is_named (mark_place p) w.names ≡ true) ⊎ (is_named (mark_place p) w.names ≡ false) → ⊥
    go (inl named) =
        let here = each_named (λ q. not (is_mark w q)) (mark_place p) w.names named t in
        not_both (is_mark w (mark_place p)) here
        (subst (λ b. (b && is_some (reading (w.nodes (mark_place p)))) ≡ true) (sym (begins_joined (codes ".snakemake/smk/marks/") (name_of p))) some)
    go (inr other) = nothing_reads w (mark_place p) (formed.complete (mark_place p) other) some

pub none_marked : (before exit : World) → IsFormed exit → list_all (λ q. not (is_mark exit q)) exit.names ≡ true → HasNoNewMark before exit
none_marked before exit ok t p marked = absurd (no_marks exit ok t p (and_right (is_path_text p) (is_some (reading (exit.nodes (mark_place p)))) marked))

-- ## The good end

is_done : IsDone rules entry log
is_done =
    record {
      last = last rules entry log;
      plan = _;
      is_last = last_is rules entry formed log settled;
      is_plan = in_force rules (last rules entry log).world (last rules entry log).begun (last_whole rules entry formed log settled).formed 3 [] refl;
      all_clean = (refl, tt);
      all_current = (refl, tt);
      none_spent = λ p. ((λ spent. absurd (true≢false (sym spent))), tt);
    }

told_current : HasLine its_text (target_line true out)
told_current =
    (lines_of (codes "start copy out.txt" ∷ codes "done copy out.txt" ∷ []), lines_of (codes "summary: 1 started, 1 done, 0 failed" ∷ []), refl, inr (codes "start copy out.txt\ndone copy out.txt", refl))

pub ends_well : EndsWell commands rules entry log 0 its_text
ends_well =
    record {
      report = its_report;
      clean = ((λ has. (_, refl, refl)), tt);
      all_told = λ zero. (told_current, tt);
      done = λ zero. is_done;
      failed_one = λ one. absurd (omega arith);
      no_mark = none_marked entry (last rules entry log).world (last_whole rules entry formed log settled).formed refl;
      no_lock = λ no. absurd (true≢false no);
    }

-- ## Wrong ends

-- status 1, and no job has failed
pub fails_without_failure : (text : Text) → EndsWell commands rules entry log 1 text → ⊥
fails_without_failure text e = true≢false (sym (e.failed_one refl (last rules entry log) (last_is rules entry formed log settled)))

-- the lock is taken, and left there
abbrev locking : List Event
locking =
    event (MadeParents lock_place (Ok tt)) []
    ∷ event (Created lock_place (Ok true)) (put lock_place [] ∷ [])
    ∷ event (Settled (lock_place ∷ []) (Ok tt)) []
    ∷ []

abbrev locked_rules : Rules
locked_rules = record rules { nolock = false }

some_node : (n : Option Node) → is_some n ≡ true → n ≡ None → ⊥
some_node n t h = true≢false (sym t ∙ ap is_some h)

pub leaves_lock : (status : ℕ) (text : Text) → EndsWell commands locked_rules entry (locking ++ log) status text → ⊥
leaves_lock status text e = some_node (reading ((run entry (locking ++ log)).nodes lock_place)) refl (e.no_lock refl)
