use Rattle.std.proofs.Common.{◌∙◌, ap, take}
use Rattle.std.specs.Str.{all_ascii_digits}
use Rattle.smk_format.proofs.Digits.{front_digits}
use Rattle.smk_format.proofs.picks.place_in.Goals as goal

pub place-requires : goal.place-requires
place-requires c =
    ap all_ascii_digits (c.split_at.ensures.front ∙ ap (λ n. take n c.args.bytes.now) c.digits_len.ensures.value) ∙ front_digits c.args.bytes.now
