-- The last round, as a preview tells it.
use Rattle.std.proofs.Common.{◌≡◌, ℕ, List, subst, Option, Result, Ok, Err}
use Rattle.smk_flow.specs.Flows.{Flow}
use Rattle.smk_record.specs.declared.record.Record.{Record}
use Rattle.smk_store.specs.Images.{Image}
use Rattle.smk_store.specs.Stores.{Known}
use Rattle.smk_store.specs.Loading.{IsStoreOf}
use Rattle.smk_pick.specs.declared.settings.Settings.{Settings}
use Rattle.smk_report.specs.declared.fault.Fault.{Fault}
use Rattle.smk_plan_preview.specs.declared.rounds.Round.{Round}
use Rattle.smk_plan_preview.specs.declared.previewing.Previewed.{Previewed}
use Rattle.smk_plan_preview.specs.Previewing.{HasPreviewed}
use Rattle.smk_plan_preview.specs.Rounds.{IsLast, HasChain}

abbrev pub told : List Known → Round → Previewed
told store r = record { store = store; jobs = r.jobs; plan = r.plan }

pub previewed : (read : List ℕ → Option Record) (flow : Flow) (settings : Settings) (image : Image) (store : List Known) (c : Result Round Fault) (r : Round) → c ≡ Ok r → IsStoreOf image store → HasChain read flow settings image c
    → HasPreviewed read flow settings image (Ok (told store r))
previewed read flow settings image store c r is st h =
    let last : IsLast read flow settings image r = subst (HasChain read flow settings image) is h in
    record { stored = st; last = last.last; current = last.current; unrefused = last.unrefused; served = last.served }

pub unpreviewed : (read : List ℕ → Option Record) (flow : Flow) (settings : Settings) (image : Image) (c : Result Round Fault) (f : Fault) → c ≡ Err f → HasChain read flow settings image c → HasPreviewed read flow settings image (Err f)
unpreviewed read flow settings image c f is h = subst (HasChain read flow settings image) is h
