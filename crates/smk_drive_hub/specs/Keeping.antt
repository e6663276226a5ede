-- What a run keeps, as its parts tell.
use Rattle.std.specs.Prelude.{◌≡◌, ℕ, true, false, [], is_none, Option, None, Result, Ok, Err}
use Rattle.std.specs.List.{list_all}
use Rattle.smk_pick.specs.declared.settings.Settings.{Settings}
use Rattle.smk_pick.specs.Shares.{Holds}
use Rattle.smk_report.specs.declared.fault.Fault.{Fault}
use Rattle.smk_plan_live.specs.Live.{LivePlan}
use Rattle.smk_laws_turns.specs.Hubs.{Parts}
use Rattle.smk_laws_turns.specs.Turning.{faulted}
use Rattle.smk_drive_hub.specs.declared.hub.Hub.{Hub}

-- all that it keeps
abbrev pub parts_of : Hub → Parts
parts_of hub =
    record {
      live = hub.live;
      room = hub.room;
      places = hub.children.places.items;
      next = hub.next;
      tally = hub.tally;
      halt = hub.halt;
      telling = hub.lines.goes_on;
    }

-- A run at its start: with this plan, all the room, no child, and nothing done.
pub record IsAtStart (settings : Settings) (live : LivePlan) (next : Option ℕ) (h : Parts) : Type 0 where
  pub live_is : h.live ≡ live
  pub room : Holds settings.cores settings.bounds h.room []
  pub places : list_all is_none h.places ≡ true
  pub next_is : h.next ≡ next
  pub tally : h.tally ≡ record { started = 0; done = 0; failed = 0; first = None }
  pub unhalted : h.halt.fault ≡ None
  pub unbroken : h.halt.only_waits ≡ false
  pub telling : h.telling ≡ true

-- what is kept once this was answered
abbrev pub heeded : Result (Unit {0}) Fault → Parts → Parts
heeded (Ok u) h = h
heeded (Err f) h = faulted f h
