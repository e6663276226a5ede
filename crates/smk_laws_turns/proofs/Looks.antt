-- Looks leave the stand of a run that grows.
use Rattle.std.proofs.Common.{◌≡◌, inl, inr, ℕ, Bool, List, [], ◌∷◌, ◌++◌, sym, subst, ◌∙◌, IsTrue, arith}
use Rattle.std.specs.Prelude.{Contains}
use Rattle.std.proofs.lemmas.List.Elements.{Contains-append_left, Contains-append_right, Contains-append_cases}
use Rattle.smk_world.specs.declared.event.Event.{Event}
use Rattle.smk_world.specs.Calls.{HasOwners, started_number, started_numbers}
use Rattle.smk_world.specs.Devices.{AreLooks}
use Rattle.smk_world.specs.Runs.{Follows}
use Rattle.smk_world.specs.Trees.{Act, IsIn}
use Rattle.smk_world.specs.World.{World, after, numbers, run}
use Rattle.smk_world.proofs.Folders.{tree_run}
use Rattle.smk_world.proofs.Names.{formed_run}
use Rattle.smk_store.specs.Soundness.{SameSources}
use Rattle.smk_chain.specs.Derive.{Listings}
use Rattle.smk_plan_live.specs.Lives.{IsAgreed}
use Rattle.smk_plan_live.specs.Lives as lives
use Rattle.smk_report.specs.declared.fault.Fault.{Fault}
use Rattle.smk_drive.specs.Moments.{Rules, is_rest, progress_of, seen}
use Rattle.smk_drive.specs.Refusals.{ChainRefuses, ComesTo}
use Rattle.smk_drive_pick.specs.Picking.{AreAlike}
use Rattle.smk_drive_course.specs.Stands.{Stand}
use Rattle.smk_drive_course.specs.Stands as stands
use Rattle.smk_laws_plan.specs.Signs.{HasOwnSigns}
use Rattle.smk_laws_moments.proofs.LooksLike.{IsLike, like_looks}
use Rattle.smk_laws_turns.specs.Hubs.{IsHome, IsOurs, IsSigned, Parts}
use Rattle.smk_laws_turns.specs.Onward.{IsOnward}

-- ## What was started

started_before : (n : ℕ) (es fs : List Event) → Contains (started_numbers es) n → Contains (started_numbers (es ++ fs)) n
started_before n [] fs h = absurd (omega (arith, h.1))
started_before n (e ∷ es) fs h =
    elim (Contains-append_cases (started_number e.call) (started_numbers es) n h) [
      | inl k ↦ Contains-append_left (started_number e.call) (started_numbers (es ++ fs)) n k
      | inr k ↦ Contains-append_right (started_number e.call) (started_numbers (es ++ fs)) n (started_before n es fs k)
    ]

started_still : (w : World) (es : List Event) (n : ℕ) → Contains (started_numbers w.log) n → Contains (started_numbers (run w es).log) n
started_still w [] n h = h
started_still w (e ∷ es) n h = started_still (after w e) es n (started_before n w.log (e ∷ []) h)

module _
    (act : Act) (rules : Rules) (entry w : World) (u : Stand) (h : Parts) (failure : Bool) (looks : List Event) (are : AreLooks failure looks)
    (follows : Follows act w looks) (at : IsOnward rules entry w u h) where
  abbrev later : World
  later = run w looks

  like : IsLike w later
  like = like_looks act failure w looks are follows

  -- but for what has happened they are one
  abbrev seems : World
  seems = record w { names = later.names; nodes = later.nodes; children = later.children }

  same_world : w ≡ seems
  same_world = λ i. record w { names = like.0 i; nodes = like.1 i; children = like.2 i }

  home_on : IsHome entry later
  home_on =
      record {
        found = at.home.found;
        formed = formed_run w looks at.home.formed;
        tree = tree_run act w looks at.home.tree follows;
        numbered = λ n k. started_still w looks n (at.home.numbered n (subst (λ cs. Contains (numbers cs) n) (sym like.2) k));
      }

  ours_on : IsOurs rules entry h.live.base.jobs.jobs later
  ours_on =
      record {
        sources = subst (λ x. SameSources (seen rules entry) (seen rules x)) same_world at.ours.sources;
        signs = subst (λ x. HasOwnSigns (seen rules entry) (seen rules x) h.live.base.jobs.jobs) same_world at.ours.signs;
        gone = subst (λ x. HasOwnSigns (seen rules x) (seen rules entry) h.live.base.jobs.jobs) same_world at.ours.gone;
        signed = λ c i. subst (λ x. IsSigned (seen rules x) c.recipe c.logs) same_world (at.ours.signed c (subst (λ cs. IsIn cs c) (sym like.2) i));
      }

  pub looks_leave : IsOnward rules entry later u h
  looks_leave =
      record {
        live = at.live;
        settings = at.settings;
        derived = at.derived;
        home = home_on;
        owners = subst HasOwners same_world at.owners;
        ours = ours_on;
        sourced = at.sourced;
        planned = at.planned;
        listed = at.listed;
        crew = at.crew;
        children = sym like.2 ∙ at.children;
        theirs = at.theirs;
        running = at.running;
        unhalted = at.unhalted;
        at_rest = subst (λ x. IsTrue (is_rest x u.begun)) same_world at.at_rest;
        agrees = subst (λ x. IsAgreed (seen rules x) rules.settings h.live.base) same_world at.agrees;
        progressed = subst (λ x. AreAlike (progress_of x u.begun) (lives.progress_of h.live.base)) same_world at.progressed;
        comes = subst (λ x. ComesTo rules (seen rules x) (progress_of x u.begun) (stands.lists u) h.live.base.jobs.lists) same_world at.comes;
      }

  -- and what is refused of a chain
  pub refuses_still :
      (L : Listings) (f : Fault) → ChainRefuses rules (seen rules w) (progress_of w u.begun) L f → ChainRefuses rules (seen rules later) (progress_of later u.begun) L f
  refuses_still L f refuses = subst (λ x. ChainRefuses rules (seen rules x) (progress_of x u.begun) L f) same_world refuses
