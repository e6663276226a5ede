use Rattle.std.proofs.Common.{arith, ◌<◌, get_or}
use Rattle.std.proofs.lemmas.Str.{lead_after_ascii}
use Rattle.smk_store.proofs.names.after_sign.Goals as goal

pub range_from-requires : goal.range_from-requires
range_from-requires c =
    let small : get_or c.args.text.now 0 0 < 128 = grind (arith, c.if-first-sign.true, c.requires, c.as_bytes.ensures.value, c.in-len1-up.len_at_least) in
    λ _. (omega (arith, c.in-len1-up.len_at_least, c.as_bytes.ensures.len), λ lt h. lead_after_ascii c.args.text.now 0 c.utf8.text small lt h)
