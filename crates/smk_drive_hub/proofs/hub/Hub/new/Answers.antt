use Rattle.std.proofs.Common.{◌≡◌, ℕ, zero, suc, List, true, refl, sym, subst, replicate, Option, None}
use Rattle.std.specs.Prelude.{is_none}
use Rattle.std.specs.List.{list_all}
use Rattle.smk_drive_step.specs.declared.children.Child.{Child}
use Rattle.smk_drive_hub.proofs.hub.Hub.new.Goals as goal

abbrev free_places : ℕ → List (Option Child)
free_places n = replicate n None

free : (n : ℕ) → list_all is_none (free_places n) ≡ true
free zero = refl
free (suc n) = free n

pub returns : goal.returns
returns c =
    record {
      live_is = refl;
      room = c.in_ok-new.ensures;
      places = subst (λ places. list_all is_none places ≡ true) (sym c.in_ok-new-2.ensures) (free c.args.settings.now.cores);
      next_is = refl;
      tally = refl;
      unhalted = c.none.ensures.0;
      unbroken = c.none.ensures.1;
      telling = c.new-3.ensures;
    }
