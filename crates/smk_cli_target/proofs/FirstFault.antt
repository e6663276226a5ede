-- Rules and clauses that make no workflow have one first fault, and so have files.
use Rattle.std.proofs.Common.{◌≡◌, ◌⊎◌, ℕ, zero, suc, Bool, true, false, true≢false, List, [], ◌∷◌, ◌++◌, Option, Some, Result, Ok, Err, sym, ap, subst, inl, inr, ◌∙◌}
use Rattle.std.specs.Prelude.{slice_get, take}
use Rattle.std.proofs.lemmas.Option.{same_Some, none-some}
use Rattle.smk_pattern.specs.Limits.{IsLimit}
use Rattle.smk_pattern.specs.Shapes.{Text}
use Rattle.smk_pattern.specs.Written.{AreAllLimits, IsFirstBad}
use Rattle.smk_flow.specs.Checks.{AllPass, AreRead, AreUnread, Fails, IsFault, IsRead, IsUnread, OneFails, Passes, Written, bare, doubled, limited, rule_in, unread, wrong}
use Rattle.smk_flow.specs.Flows.{Flow}
use Rattle.smk_flow.specs.declared.fault.FlowFault.{FlowFault}
use Rattle.smk_flow.specs.declared.rule.Clause.{Clause}
use Rattle.smk_flow.specs.declared.rule.RulePart.{RulePart}
use Rattle.smk_flaws.specs.declared.fault.LoadFault.{LoadFault}
use Rattle.smk_flaws.specs.Faults.{of_eval, of_flow}
use Rattle.smk_report.specs.Faults.{of_load}
use Rattle.smk_eval.specs.Loading.{loaded, FailsAs}
use Rattle.smk_cli_target.specs.Files.{IsNoFile, IsFaulty, OneFirstFault}
use Rattle.smk_cli_target.proofs.OneWorkflow.{err_same, ok_err, ok_same}

both : {A : Type 0} (b : Bool) → b ≡ true → b ≡ false → A
both b is isnt = absurd (true≢false (sym is ∙ isnt))

-- ## A text

-- the first of some names whose constraint can't be one
first_bad :
    (limit_of : Text → Option Text) (names : List Text) (n m : ℕ) (x y l k : Text) →
    slice_get names n ≡ Some x → limit_of x ≡ Some l → ¬ IsLimit l → AreAllLimits limit_of (take n names) →
    slice_get names m ≡ Some y → limit_of y ≡ Some k → ¬ IsLimit k → AreAllLimits limit_of (take m names) → x ≡ y
first_bad limit_of [] n m x y l k at is bad before at2 is2 bad2 before2 = absurd (none-some x at)
first_bad limit_of (z ∷ names) zero zero x y l k at is bad before at2 is2 bad2 before2 = sym (same_Some z x at) ∙ same_Some z y at2
first_bad limit_of (z ∷ names) zero (suc m) x y l k at is bad before at2 is2 bad2 before2 = absurd (bad (before2 0 x l at is))
first_bad limit_of (z ∷ names) (suc n) zero x y l k at is bad before at2 is2 bad2 before2 = absurd (bad2 (before 0 y k at2 is2))
first_bad limit_of (z ∷ names) (suc n) (suc m) x y l k at is bad before at2 is2 bad2 before2 =
    first_bad limit_of names n m x y l k at is bad (λ i name limit here has. before (suc i) name limit here has) at2 is2 bad2
    (λ i name limit here has. before2 (suc i) name limit here has)

one_bad : (limit_of : Text → Option Text) (names : List Text) (x y : Text) → IsFirstBad limit_of names x → IsFirstBad limit_of names y → x ≡ y
one_bad limit_of names x y a b = first_bad limit_of names a.n b.n x y a.limit b.limit a.at a.is a.bad a.before b.at b.is b.bad b.before

text_one : (part : RulePart) (w : Written) (f g : FlowFault) → IsUnread part w f → IsUnread part w g → f ≡ g
text_one part (limited t) f g (inl a) (inl b) = a.1 ∙ sym b.1
text_one part (limited t) f g (inl a) (inr b) = both _ b.1 a.0
text_one part (limited t) f g (inr a) (inl b) = both _ a.1 b.0
text_one part (limited t) f g (inr a) (inr b) =
    a.3 ∙ (ap (FlowFault.BadConstraint part.file part.line) (one_bad _ _ a.0 b.0 a.2 b.2) ∙ sym b.3)
text_one part (bare t) f g a b = a.1 ∙ sym b.1

read_or_not : {A : Type 0} (part : RulePart) (w : Written) (f : FlowFault) → IsRead part.limits w → IsUnread part w f → A
read_or_not part (limited t) f r (inl u) = both _ r.0 u.0
read_or_not part (limited t) f r (inr u) = let bad = u.2 in absurd (bad.bad (r.1 bad.n u.0 bad.limit bad.at bad.is))
read_or_not part (bare t) f r u = both _ r u.0

texts_one : (part : RulePart) (ws : List Written) (f g : FlowFault) → AreUnread part ws f → AreUnread part ws g → f ≡ g
texts_one part [] f g a b = absurd a
texts_one part (w ∷ ws) f g (inl a) (inl b) = text_one part w f g a b
texts_one part (w ∷ ws) f g (inl a) (inr b) = read_or_not part w f b.0 a
texts_one part (w ∷ ws) f g (inr a) (inl b) = read_or_not part w g a.0 b
texts_one part (w ∷ ws) f g (inr a) (inr b) = texts_one part ws f g a.1 b.1

all_read : {A : Type 0} (part : RulePart) (ws : List Written) (f : FlowFault) → AreRead part.limits ws → AreUnread part ws f → A
all_read part [] f r u = absurd u
all_read part (w ∷ ws) f r (inl u) = read_or_not part w f r.0 u
all_read part (w ∷ ws) f r (inr u) = all_read part ws f r.1 u.1

-- ## Rules

rule_one : (above : Text → Option RulePart) (part : RulePart) (f g : FlowFault) → Fails above part f → Fails above part g → f ≡ g
rule_one above part f g (doubled is e) (doubled is2 e2) = e ∙ sym e2
rule_one above part f g (doubled is e) (unread isnt u) = both _ is isnt
rule_one above part f g (doubled is e) (wrong isnt r e2) = both _ is isnt
rule_one above part f g (unread isnt u) (doubled is e) = both _ is isnt
rule_one above part f g (unread isnt u) (unread isnt2 u2) = texts_one part _ f g u u2
rule_one above part f g (unread isnt u) (wrong isnt2 r e) = all_read part _ f r u
rule_one above part f g (wrong isnt r e) (doubled is e2) = both _ is isnt
rule_one above part f g (wrong isnt r e) (unread isnt2 u) = all_read part _ g r u
rule_one above part f g (wrong isnt r e) (wrong isnt2 r2 e2) = same_Some f g (sym e ∙ e2)

passes_or_not : {A : Type 0} (above : Text → Option RulePart) (part : RulePart) (f : FlowFault) → Passes above part → Fails above part f → A
passes_or_not above part f p (doubled is e) = both _ is p.name
passes_or_not above part f p (unread isnt u) = all_read part _ f p.texts u
passes_or_not above part f p (wrong isnt r e) = absurd (none-some f (sym p.checks ∙ e))

rules_one : (above parts : List RulePart) (f g : FlowFault) → OneFails above parts f → OneFails above parts g → f ≡ g
rules_one above [] f g a b = absurd a
rules_one above (part ∷ parts) f g (inl a) (inl b) = rule_one (rule_in above) part f g a b
rules_one above (part ∷ parts) f g (inl a) (inr b) = passes_or_not (rule_in above) part f b.0 a
rules_one above (part ∷ parts) f g (inr a) (inl b) = passes_or_not (rule_in above) part g a.0 b
rules_one above (part ∷ parts) f g (inr a) (inr b) = rules_one (above ++ part ∷ []) parts f g a.1 b.1

pass_or_not : {A : Type 0} (above parts : List RulePart) (f : FlowFault) → AllPass above parts → OneFails above parts f → A
pass_or_not above [] f p o = absurd o
pass_or_not above (part ∷ parts) f p (inl o) = passes_or_not (rule_in above) part f p.0 o
pass_or_not above (part ∷ parts) f p (inr o) = pass_or_not (above ++ part ∷ []) parts f p.1 o.1

checks_one : (rules : List RulePart) (orders : List Clause) (f g : FlowFault) → IsFault rules orders f → IsFault rules orders g → f ≡ g
checks_one rules orders f g (inl a) (inl b) = rules_one [] rules f g a b
checks_one rules orders f g (inl a) (inr b) = pass_or_not [] rules f b.0 a
checks_one rules orders f g (inr a) (inl b) = pass_or_not [] rules g a.0 b
checks_one rules orders f g (inr a) (inr b) = same_Some f g (sym a.1 ∙ b.1)

-- ## Files

fails_one : (said : Result Flow LoadFault) (d e : LoadFault) → (said ≡ Err d) ⊎ FailsAs said d → (said ≡ Err e) ⊎ FailsAs said e → d ≡ e
fails_one said d e (inl a) (inl b) = err_same d e (sym a ∙ b)
fails_one (Ok flow) d e (inl a) (inr b) = absurd (ok_err flow d a)
fails_one (Err x) d e (inl a) (inr b) = absurd b
fails_one (Ok flow) d e (inr a) (inl b) = absurd (ok_err flow e b)
fails_one (Err x) d e (inr a) (inl b) = absurd a
fails_one (Ok flow) d e (inr a) (inr b) =
    let same = checks_one flow.rules flow.orders a.1.0 b.1.0 a.1.1 b.1.1 in
    a.2 ∙ (ap of_eval (a.1.2 ∙ (ap of_flow same ∙ sym b.1.2)) ∙ sym b.2)
fails_one (Err x) d e (inr a) (inr b) = absurd a

pub one_first_fault : OneFirstFault
one_first_fault w entry f g (IsNoFile x is) (IsNoFile y is2) = err_same f g (sym is ∙ is2)
one_first_fault w entry f g (IsNoFile x is) (IsFaulty file e is2 told gives) = absurd (ok_err file f (sym is2 ∙ is))
one_first_fault w entry f g (IsFaulty file e is told gives) (IsNoFile y is2) = absurd (ok_err file g (sym is ∙ is2))
one_first_fault w entry f g (IsFaulty file d is told gives) (IsFaulty file2 e is2 told2 gives2) =
    let files = ok_same file file2 (sym is ∙ is2) in
    ap of_load
    (fails_one (loaded entry.nodes file2 w.sets) d e (subst (λ p. (loaded entry.nodes p w.sets ≡ Err d) ⊎ FailsAs (loaded entry.nodes p w.sets) d) files (gives told)) (gives2 told2))
