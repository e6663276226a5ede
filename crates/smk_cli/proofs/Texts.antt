-- The text of a listing.
use native.Mathlib.Omega.{arith}
use Rattle.std.proofs.Common.{◌≡◌, List, [], ◌∷◌, ◌++◌, map, length, refl, ap, ap₂, sym}
use Rattle.std.specs.Prelude.{zip}
use Rattle.std.specs.List.{flat_map}
use Rattle.smk_flow.specs.declared.job.Job.{Job}
use Rattle.smk_flow.specs.Flows.{Flow}
use Rattle.smk_trigger.specs.declared.reason.State.{State}
use Rattle.smk_chain.specs.Derive.{Listings}
use Rattle.smk_report.specs.Lines.{Named, state_line, plan_line}
use Rattle.smk_drive.specs.Reports.{named_job, listing_text}
use Rattle.smk_cli_calls.specs.Listing.{job_line}

named_lines : (flow : Flow) (es : List (Job × State)) → flat_map state_line (map (λ (e : Job × State). (named_job flow e.0, e.1)) es) ≡ flat_map (job_line flow) es
named_lines flow [] = refl
named_lines flow (e ∷ es) = ap (λ t. state_line (named_job flow e.0, e.1) ++ t) (named_lines flow es)

-- the states of the lines are those of the jobs
states_of : (flow : Flow) (jobs : List Job) (states : List State) → length states ≡ length jobs
    → map (λ (e : Named × State). e.1) (map (λ (e : Job × State). (named_job flow e.0, e.1)) (zip jobs states)) ≡ states
states_of flow [] [] h = refl
states_of flow [] (s ∷ states) h = absurd (none h)
  where
    none : length (s ∷ states) ≡ 0 → ⊥
    none e = cc
states_of flow (j ∷ jobs) [] h = absurd (none h)
  where
    none : 0 ≡ length (j ∷ jobs) → ⊥
    none e = cc
states_of flow (j ∷ jobs) (s ∷ states) h = ap (λ (l : List State). s ∷ l) (states_of flow jobs states (omega (arith, h)))

-- the text, by its lines
pub listing_is : (flow : Flow) (lists : Listings) (jobs : List Job) (states : List State) → length states ≡ length jobs
    → flat_map (job_line flow) (zip jobs states) ++ plan_line states ≡ listing_text flow (record { lists = lists; jobs = jobs; states = states })
listing_is flow lists jobs states h =
    ap₂ (λ s t. s ++ plan_line t) (sym (named_lines flow (zip jobs states))) (sym (states_of flow jobs states h))
