use Rattle.std.proofs.Common.{◌≡◌, true, subst, bytes_eq, arith}
use Rattle.smk_record.specs.Spelling.{IsReadAs}
use Rattle.smk_store.proofs.Loads.{held_for}
use Rattle.smk_drive_outcome.proofs.keeping.kept_in.Goals as goal

pub returns-then-eq : goal.returns-then-eq
returns-then-eq c = λ read reads small.
    let same : bytes_eq c.in-Some.record.path c.args.path.now ≡ true =
    grind (arith, c.if-eq.true, c.eq.ensures, c.path.ensures, c.as_str.ensures.text, c.as_str-2.ensures.text) in
    held_for read c.args.path.now c.args.bytes.now c.in-Some.record (subst (IsReadAs c.args.bytes.now) c.in-Some.is c.in_ok-record.ensures) same reads small
