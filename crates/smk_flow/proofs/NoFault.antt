-- Rules and clauses that make a workflow have no fault.
use Rattle.std.proofs.Common.{◌≡◌, ℕ, inl, inr, List, [], ◌∷◌, ◌++◌, Option, Some, None, sym, ap, ◌∙◌}
use Rattle.std.proofs.lemmas.Bool.{both_ways}
use Rattle.std.proofs.lemmas.Option.{none-some}
use Rattle.smk_flow.specs.declared.rule.RulePart.{RulePart}
use Rattle.smk_flow.specs.declared.rule.Clause.{Clause}
use Rattle.smk_flow.specs.declared.fault.FlowFault.{FlowFault}
use Rattle.smk_flow.specs.Checks.{Written, limited, bare, IsRead, IsUnread, AreRead, AreUnread, Passes, Fails, doubled, unread, wrong, AllPass, OneFails, IsWorkflow, IsFault, stranger, contradiction, rule_in, or_else}

none_some : (o : Option FlowFault) (f : FlowFault) → o ≡ None → o ≡ Some f → ⊥
none_some o f none is = none-some f (sym none ∙ is)

read_unread : (part : RulePart) (w : Written) (f : FlowFault) → IsRead part.limits w → IsUnread part w f → ⊥
read_unread part (limited t) f r (inl u) = both_ways _ u.0 r.0
read_unread part (limited t) f r (inr u) =
    let bad = u.2 in
    bad.bad (r.1 bad.n u.0 bad.limit bad.at bad.is)
read_unread part (bare t) f r u = both_ways _ u.0 r

all_read : (part : RulePart) (ws : List Written) (f : FlowFault) → AreRead part.limits ws → AreUnread part ws f → ⊥
all_read part [] f r u = u
all_read part (w ∷ ws) f r (inl u) = read_unread part w f r.0 u
all_read part (w ∷ ws) f r (inr u) = all_read part ws f r.1 u.1

passed : (above : List ℕ → Option RulePart) (part : RulePart) (f : FlowFault) → Passes above part → Fails above part f → ⊥
passed above part f p (doubled is e) = both_ways _ p.name is
passed above part f p (unread isnt u) = all_read part _ f p.texts u
passed above part f p (wrong isnt r e) = none_some _ f p.checks e

all_passed : (above parts : List RulePart) (f : FlowFault) → AllPass above parts → OneFails above parts f → ⊥
all_passed above [] f p o = o
all_passed above (part ∷ parts) f p (inl o) = passed (rule_in above) part f p.0 o
all_passed above (part ∷ parts) f p (inr o) = all_passed (above ++ part ∷ []) parts f p.1 o.1

neither : (a b : Option FlowFault) → a ≡ None → b ≡ None → or_else a b ≡ None
neither a b isnt isnt_either = ap (λ o. or_else o b) isnt ∙ isnt_either

pub no_fault : (rules : List RulePart) (orders : List Clause) (f : FlowFault) → IsWorkflow rules orders → IsFault rules orders f → ⊥
no_fault rules orders f w (inl o) = all_passed [] rules f w.rules_pass o
no_fault rules orders f w (inr o) = none_some _ f (neither (stranger (rule_in rules) orders) (contradiction orders orders) w.known w.settled) o.1
