-- Listings of a folder with one file to copy: the good text, and texts that are refused.
use Rattle.std.proofs.Common.{◌≡◌, ◌⊎◌, ℕ, false, [], ◌∷◌, None, refl, sym, ◌∙◌, ap, inl, inr, true≢false, arith}
use Rattle.std.specs.Prelude.{codes, bytes_eq}
use Rattle.std.specs.Fmt.{digits}
use Rattle.smk_world.specs.declared.event.Node.TheVariants.{Regular}
use Rattle.smk_world.specs.World.{World, Nodes, IsFormed, world_of}
use Rattle.smk_pattern.specs.Shapes.{Text}
use Rattle.smk_pick.specs.declared.settings.Force.TheVariants.{No}
use Rattle.smk_plan.specs.States.{Plan, Last, nothing_done}
use Rattle.smk_plan.proofs.Plans.{settle, from_jobs}
use Rattle.smk_drive.specs.Moments.{Rules}
use Rattle.smk_drive.specs.Reports.{listing_text}
use Rattle.smk_flow.proofs.Examples.{copy}
use Rattle.smk_chain.proofs.Folders.{jobs_in}
use Rattle.smk_laws_plan.proofs.PlanOne.{one_last_plan}
use Rattle.smk_laws_history.proofs.CurrentComplete.{seen_is_complete}
use Rattle.smk_record.specs.Reading.{record_in}
use Rattle.smk_words_reading.specs.declared.asked.RunWords.{RunWords}
use Rattle.smk_cli_target.specs.Files.{rules_of, seen}
use Rattle.smk_drive_rows.proofs.Events.{formed_of}
use Rattle.smk_cli_target.specs.Clauses.{HasListed, IsPlanOf, IsRefusal}

abbrev nodes : Nodes
nodes = (codes "in.txt", Regular (codes "hello\n") 1000 false) ∷ []

abbrev entry : World
entry = world_of nodes

formed : IsFormed entry
formed = formed_of nodes refl

-- the words `-n out.txt`
abbrev words : RunWords
words =
    record {
      targets = codes "out.txt" ∷ [];
      cores = 1;
      file = None;
      sets = [];
      bounds = [];
      nolock = false;
      keep_going = false;
      rerun_incomplete = false;
      force = No;
    }

abbrev rules : Rules
rules = rules_of copy words

abbrev plan : Plan
plan = settle (seen entry) rules.settings nothing_done 3 (from_jobs [] (jobs_in copy (seen entry) [] rules.settings.targets))

is_plan : IsPlanOf rules entry plan
is_plan = Last plan (record { derived = refl; states = refl }) refl

abbrev listing : Text
listing = codes "run copy out.txt: new\nplan: 1 to run, 0 to restore, 0 open, 0 clean\n"

none : (◌≡◌ {A = ℕ} 0 1) ⊎ IsRefusal 0 ⊎ (◌≡◌ {A = ℕ} 0 4) → ⊥
none (inl h) = omega arith
none (inr (inl (inl h))) = omega arith
none (inr (inl (inr h))) = omega arith
none (inr (inr h)) = omega arith

pub listed : HasListed rules entry 0 listing
unfolding digits
listed = (λ done. (plan, is_plan, refl), λ early. inr (plan, is_plan, ([], refl)), λ other. absurd (none other))

-- the line of a run isn't one of a listing
pub not_current : HasListed rules entry 0 (codes "current out.txt\n") → ⊥
unfolding digits
not_current h =
    let l = h.0 refl in
    let same = one_last_plan rules.flow (seen entry) rules.settings nothing_done [] l.0 plan (seen_is_complete record_in entry formed) l.1 is_plan in
    true≢false (ap (λ t. bytes_eq (codes "current out.txt\n") t) (l.2 ∙ ap (listing_text rules.flow) same))

-- where the device failed nothing is put
pub not_put : HasListed rules entry 4 (codes "current out.txt\n") → ⊥
not_put h = true≢false (sym (ap (λ t. bytes_eq t []) (h.2 (inr (inr refl)))))
