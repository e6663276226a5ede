use Rattle.std.proofs.Common.{◌≡◌, drop}
use Rattle.smk_choose.specs.Decided.{leads_from, goes_before}
use Rattle.smk_choose.proofs.decide.leads.Given as goal

abbrev pub invariant-loop-place : goal.invariant-loop-place
invariant-loop-place l =
    leads_from (goes_before l.flow l.rules) l.at l.made 0 l.all ≡ leads_from (goes_before l.flow l.rules) l.at l.made l.place (drop l.place l.all)
