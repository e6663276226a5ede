use Rattle.std.proofs.Common.{◌≡◌, ℕ, ◌+◌, length, set, refl, ap, arith, rules}
use Rattle.std.proofs.lemmas.Option.{slice_get_read}
use Rattle.smk_core.proofs.kinds.add.Goals as goal

pub returns : goal.returns
returns c =
    let kind = c.index-kind.result.now in
    let kinds = c.args.kinds.now.items in
    let size : c.in-Some.size ≡ kind.size + 1 = first_of (omega (arith, c.in-Some.ensures), grind arith, search rules) in
    record {
      kind = kind;
      found = slice_get_read kinds (length kinds) c.args.line kind refl c.requires c.index-kind.ensures;
      kinds_are = ap (λ (n : ℕ). set kinds c.args.line (record kind { size = n })) size;
      places_are = c.in_ok-push.ensures.items;
    }
