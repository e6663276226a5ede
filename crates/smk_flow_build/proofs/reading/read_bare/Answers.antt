use Rattle.std.proofs.Common.{rules, ◌≡◌, List, [], true, false, ◌∙◌, sym, subst}
use Rattle.std.specs.List.{list_all}
use Rattle.std.proofs.lemmas.Bool.{and_from, and_parts}
use Rattle.smk_base.specs.declared.tree.Pair.{Pair}
use Rattle.smk_pattern.specs.Reading.{pieces, names_in}
use Rattle.smk_pattern.specs.Written.{is_bare, is_written, IsBadLimit}
use Rattle.smk_flow_build.proofs.Bare.{bare_good, never_all}
use Rattle.smk_flow_build.proofs.reading.read_bare.Goals as goal

pub returns-in-Err-BadConstraint-clause-unread : goal.returns-in-Err-BadConstraint-clause-unread
returns-in-Err-BadConstraint-clause-unread c = λ known.
    let t = c.args.text.now in
    let name = c.in-Err-BadConstraint.field-0-0 in
    let b = c.in-Err-BadConstraint.ensures.bad_constraint name (cc) in
    let balanced = (and_parts _ _ b.0).0 in
    let bare : list_all is_bare (pieces t) ≡ true = sym (c.in_ok-has_no_constraint.ensures balanced) ∙ search rules in
    let bad : IsBadLimit [] (pieces t) (names_in (pieces t)) name =
    subst (λ (ls : List Pair). IsBadLimit ls (pieces t) (names_in (pieces t)) name) c.new-none.ensures b.1 in
    absurd (bare_good name (pieces t) (names_in (pieces t)) bare bad)

pub returns-then-not-branch-clause-unread : goal.returns-then-not-branch-clause-unread
returns-then-not-branch-clause-unread c = λ known.
    let t = c.args.text.now in
    let lacks : c.in_ok-has_no_constraint.field-0 ≡ false = search rules in (
      never_all (is_written t) (list_all is_bare (pieces t)) (λ w. sym (c.in_ok-has_no_constraint.ensures (and_parts _ _ w).0) ∙ lacks),
      c.in_ok-bad_pattern.ensures,
    )

pub returns-in-Ok-clause-read : goal.returns-in-Ok-clause-read
returns-in-Ok-clause-read c =
    let t = c.args.text.now in
    let written : is_written t ≡ true = c.in-Ok.ensures.written in
    let has : c.in_ok-has_no_constraint.field-0 ≡ true = search rules in
    and_from (is_written t) (list_all is_bare (pieces t)) written (sym (c.in_ok-has_no_constraint.ensures (and_parts _ _ written).0) ∙ has)
