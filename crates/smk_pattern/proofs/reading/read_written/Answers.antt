use Rattle.std.proofs.Common.{◌≡◌, ℕ, length, map, sym, ap, ap₂, subst, ◌∙◌, arith, List, Bor, Some, true, false, ◌==◌, ◌≤◌, vec_len}
use Rattle.std.proofs.lemmas.Bool.{eqb-true}
use Rattle.std.proofs.lemmas.Bool.Decides.{nat_tests}
use Rattle.std.proofs.lemmas.List.{length-map}
use Rattle.std.specs.BTreeMap.{BTreeMap}
use Rattle.smk_base.specs.declared.tree.Pair.{Pair}
use Rattle.smk_pattern.specs.declared.pattern.Wildcard as code
use Rattle.smk_pattern.specs.declared.by_name.Names.{Names}
use Rattle.smk_pattern.specs.Shapes.{Text, Part, Wildcard, Shape, IsNumbered}
use Rattle.smk_pattern.specs.Grammar.{Piece, limit_for, inline_limits}
use Rattle.smk_pattern.specs.Reading.{part_in, names_in, pieces}
use Rattle.smk_pattern.specs.Pieces.{parts_of, wildcards_of, wildcard_of}
use Rattle.smk_pattern.specs.Searching.{now_of}
use Rattle.smk_pattern.specs.Splitting.{written_of, all_written}
use Rattle.smk_pattern.specs.Written.{is_written, wildcard_in, wildcard_by, AreAllLimits, IsFirstBad}
use Rattle.smk_pattern.specs.ByName.{AreNames, AreInline, text_at}
use Rattle.smk_pattern.proofs.WrittenBy.{too_few, too_many_limits}
use Rattle.smk_pattern.proofs.Names.{numbered_all}
use Rattle.smk_pattern.proofs.Kept.{all_single, limits_agree, same_wildcards, same_limits, same_bad}
use Rattle.smk_pattern.proofs.reading.read_written.Goals as goal

pub returns-then-is_empty-clause-bad_pattern : goal.returns-then-is_empty-clause-bad_pattern
returns-then-is_empty-clause-bad_pattern c = λ _.
    let p = rw c.in-Some.is at c.in_ok-written.ensures in
    let ws = c.in-Some.written in
    too_few c.args.text.now (all_written ws.items) p.1 (length-map ws.items written_of ∙ sym ws.ok.0 ∙ eqb-true _ 0 (sym c.is_empty.ensures ∙ c.if-is_empty.true))

inline_by : (texts : BTreeMap (Bor Text) (Bor Text)) (given ps : List Piece) → AreInline texts given → given ≡ ps → AreInline texts ps
inline_by texts given ps h e = subst (AreInline texts) e h

names_by : (names : Names) (given ps : List Piece) → AreNames names (names_in given) → given ≡ ps → AreNames names (names_in ps)
names_by names given ps h e = subst (λ (qs : List Piece). AreNames names (names_in qs)) e h

some_piece : (m n : ℕ) → m ≡ n → (n == 0) ≡ false → 1 ≤ m
some_piece m n e h = grind (arith, nat_tests)

pub is_good-requires : goal.is_good-requires
is_good-requires c =
    let p = rw c.in-Some.is at c.in_ok-written.ensures in
    let ws = c.deref-2.result.now in
    let inline = inline_by c.in-Some-2.inline _ (all_written ws) (rw c.in-Some-2.is at c.in_ok-inline.ensures) (ap all_written (c.deref.ensures.value ∙ sym c.deref-2.ensures.value)) in
    record {
      balanced = p.0;
      pieces = ap all_written c.deref-2.ensures.value ∙ p.1;
      single = all_single c.in-Some-2.inline (all_written ws) inline (names_in (all_written ws));
      some = some_piece (length ws) (vec_len c.in-Some.written) c.deref-2.ensures.len (sym c.is_empty.ensures ∙ c.if-is_empty.false);
    }

pub returns-in_default-2-clause-bad_pattern : goal.returns-in_default-2-clause-bad_pattern
returns-in_default-2-clause-bad_pattern c = λ _.
    let p = rw c.in-Some.is at c.in_ok-written.ensures in
    too_many_limits c.args.text.now (all_written c.deref.result.now) (ap all_written c.deref.ensures.value ∙ p.1) (rw c.in_default-2.is at c.in_ok-inline.ensures)

numbered_by : (ps : List Piece) (limits : List Pair) (parts : List Part) (wildcards : List code.Wildcard) → parts ≡ map (part_in (names_in ps)) ps →
    wildcards_of wildcards ≡ map (wildcard_in limits ps) (names_in ps) → IsNumbered parts 0 (length wildcards)
numbered_by ps limits parts wildcards e f =
    let len : length wildcards ≡ length (names_in ps) = sym (length-map wildcards wildcard_of) ∙ ap length f ∙ length-map (names_in ps) (wildcard_in limits ps) in
    subst (λ (qs : List Part). IsNumbered qs 0 (length wildcards)) (sym e) (subst (λ (n : ℕ). IsNumbered (map (part_in (names_in ps)) ps) 0 n) (sym len) (numbered_all ps))

pub invariant_of-result : goal.invariant_of-result
invariant_of-result c =
    let text = c.args.text.now in
    let p = rw c.in-Some.is at c.in_ok-written.ensures in
    let limits = c.args.limits.now in
    let inline = inline_by c.in-Some-2.inline _ (pieces text) (rw c.in-Some-2.is at c.in_ok-inline.ensures) (ap all_written c.deref.ensures.value ∙ p.1) in
    let names = names_by c.in_ok-names.names _ (pieces text) c.in_ok-names.ensures (ap all_written c.deref-3.ensures.value ∙ p.1) in
    let agree = limits_agree c.in_ok-names.names c.in-Some-2.inline c.in_ok-constraints.constraints (pieces text) limits names inline c.in_ok-constraints.ensures in
    let list = ap now_of c.deref-5.ensures.value ∙ names.list in
    let parts : parts_of c.in_ok-all_numbered.field-0 ≡ map (part_in (names_in (pieces text))) (pieces text) =
    c.in_ok-all_numbered.ensures.pieces (names_in (pieces text)) names ∙ ap (map (part_in (names_in (pieces text)))) (ap all_written c.deref-4.ensures.value ∙ p.1) in
    let wild : wildcards_of c.in_ok-wildcards_in.field-0 ≡ map (wildcard_in limits (pieces text)) (names_in (pieces text)) =
    c.in_ok-wildcards_in.ensures.made ∙ ap (map (wildcard_by (text_at c.in_ok-constraints.constraints))) list
    ∙ same_wildcards (text_at c.in_ok-constraints.constraints) (λ name. limit_for limits name (inline_limits name (pieces text))) (names_in (pieces text)) agree in
    record {
      numbered = numbered_by (pieces text) limits _ c.in_ok-wildcards_in.field-0 parts wild;
      texts = c.in_ok-all_numbered.ensures.texts;
    }

pub returns-clause-shape : goal.returns-clause-shape
returns-clause-shape c =
    let text = c.args.text.now in
    let p = rw c.in-Some.is at c.in_ok-written.ensures in
    let limits = c.args.limits.now in
    let inline = inline_by c.in-Some-2.inline _ (pieces text) (rw c.in-Some-2.is at c.in_ok-inline.ensures) (ap all_written c.deref.ensures.value ∙ p.1) in
    let names = names_by c.in_ok-names.names _ (pieces text) c.in_ok-names.ensures (ap all_written c.deref-3.ensures.value ∙ p.1) in
    let agree = limits_agree c.in_ok-names.names c.in-Some-2.inline c.in_ok-constraints.constraints (pieces text) limits names inline c.in_ok-constraints.ensures in
    let list = ap now_of c.deref-5.ensures.value ∙ names.list in
    let parts : parts_of c.in_ok-all_numbered.field-0 ≡ map (part_in (names_in (pieces text))) (pieces text) =
    c.in_ok-all_numbered.ensures.pieces (names_in (pieces text)) names ∙ ap (map (part_in (names_in (pieces text)))) (ap all_written c.deref-4.ensures.value ∙ p.1) in
    let wild : wildcards_of c.in_ok-wildcards_in.field-0 ≡ map (wildcard_in limits (pieces text)) (names_in (pieces text)) =
    c.in_ok-wildcards_in.ensures.made ∙ ap (map (wildcard_by (text_at c.in_ok-constraints.constraints))) list
    ∙ same_wildcards (text_at c.in_ok-constraints.constraints) (λ name. limit_for limits name (inline_limits name (pieces text))) (names_in (pieces text)) agree in
    ap₂ (λ (ps : List Part) (ws : List Wildcard). let s : Shape = record { parts = ps; wildcards = ws } in s) parts wild

pub returns-clause-read : goal.returns-clause-read
returns-clause-read c =
    let text = c.args.text.now in
    let p = rw c.in-Some.is at c.in_ok-written.ensures in
    let limits = c.args.limits.now in
    let inline = inline_by c.in-Some-2.inline _ (pieces text) (rw c.in-Some-2.is at c.in_ok-inline.ensures) (ap all_written c.deref.ensures.value ∙ p.1) in
    let names = names_by c.in_ok-names.names _ (pieces text) c.in_ok-names.ensures (ap all_written c.deref-3.ensures.value ∙ p.1) in
    let agree = limits_agree c.in_ok-names.names c.in-Some-2.inline c.in_ok-constraints.constraints (pieces text) limits names inline c.in_ok-constraints.ensures in
    let list = ap now_of c.deref-5.ensures.value ∙ names.list in
    same_limits (text_at c.in_ok-constraints.constraints) (λ name. limit_for limits name (inline_limits name (pieces text))) (names_in (pieces text)) agree
    (subst (AreAllLimits (text_at c.in_ok-constraints.constraints)) list c.in_ok-wildcards_in.ensures.read)

pub returns-in_err-wildcards_in-clause-bad_constraint : goal.returns-in_err-wildcards_in-clause-bad_constraint
returns-in_err-wildcards_in-clause-bad_constraint c = λ name e.
    let text = c.args.text.now in
    let p = rw c.in-Some.is at c.in_ok-written.ensures in
    let limits = c.args.limits.now in
    let inline = inline_by c.in-Some-2.inline _ (pieces text) (rw c.in-Some-2.is at c.in_ok-inline.ensures) (ap all_written c.deref.ensures.value ∙ p.1) in
    let names = names_by c.in_ok-names.names _ (pieces text) c.in_ok-names.ensures (ap all_written c.deref-3.ensures.value ∙ p.1) in
    let agree = limits_agree c.in_ok-names.names c.in-Some-2.inline c.in_ok-constraints.constraints (pieces text) limits names inline c.in_ok-constraints.ensures in
    let list = ap now_of c.deref-5.ensures.value ∙ names.list in
    let r = rw e at c.from_residual-in_err-wildcards_in.ensures in
    let bad = c.in_err-wildcards_in.ensures.bad name (let q = r.1 in cc) in
    let good : is_written text ≡ true = sym c.in_ok-is_good.ensures ∙ c.if-not-branch.false in (
      good,
      same_bad (text_at c.in_ok-constraints.constraints) (λ name. limit_for limits name (inline_limits name (pieces text))) (names_in (pieces text)) name agree
          (subst (λ (ns : List Text). IsFirstBad (text_at c.in_ok-constraints.constraints) ns name) list bad),
    )
