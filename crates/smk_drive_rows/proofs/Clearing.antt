-- Stands whose plans are computed: the plan is that of the moment, and no plan is refused.
use Rattle.std.proofs.Common.{◌≡◌, true, List, None, subst}
use Rattle.smk_world.specs.declared.event.Event.{Event}
use Rattle.smk_world.specs.World.{World, IsFormed}
use Rattle.smk_drive.specs.Moments.{Rules, IsInForce, is_rest}
use Rattle.smk_drive_rows.proofs.Chains.{chain, in_force, is_free, none_refused, IsSettled}
use Rattle.smk_drive_course.specs.Stands.{Stand, AtRest, IsClear, IsReplanned, lists, replanned}

module _ (rules : Rules) where
  -- the stand with the plan that is made anew
  abbrev pub anew : World → Stand → Stand
  anew w s = replanned (chain rules w s.begun 3 (lists s)) s

  pub is_anew : (w : World) (s : Stand) → IsFormed w → is_rest w s.begun ≡ true → IsSettled rules w s.begun 3 (lists s) → IsReplanned rules s w (anew w s)
  is_anew w s formed rest settled = AtRest (chain rules w s.begun 3 (lists s)) rest (in_force rules w s.begun formed 3 (lists s) settled)

  -- What is computed of a clear stand.
  pub record Computes (s : Stand) (w : World) : Type 0 where
    pub unhalted : s.halted ≡ None
    pub at_rest : is_rest w s.begun ≡ true
    pub settled : IsSettled rules w s.begun 3 s.from
    pub planned : chain rules w s.begun 3 s.from ≡ s.plan
    pub free : is_free rules w s.begun 3 s.from ≡ true

  pub is_clear : (s : Stand) (w : World) (events : List Event) → IsFormed w → Computes s w → IsClear rules s w events
  is_clear s w events formed c =
      record {
        unhalted = c.unhalted;
        at_rest = c.at_rest;
        planned = subst (λ p. IsInForce rules w s.begun s.from p) c.planned (in_force rules w s.begun formed 3 s.from c.settled);
        unrefused = λ f refused. none_refused rules w s.begun formed 3 s.from c.settled c.free f refused;
      }
