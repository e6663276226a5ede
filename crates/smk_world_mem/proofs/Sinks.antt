-- What a sink in memory was given.
use native.Mathlib.Omega.{arith}
use Rattle.std.proofs.Common.{◌≡◌, ℕ, List, ◌++◌, refl, sym, ap, ◌∙◌, Some, Ok, length}
use Rattle.std.proofs.lemmas.List.{take_all}
use Rattle.std.proofs.lemmas.Option.{same_Some}
use Rattle.std.proofs.lemmas.Bool.{false≢true}
use Rattle.smk_world.specs.declared.event.Failed.{Failed}
use Rattle.smk_world.specs.Devices.{HasPut}

-- all bytes were put
pub all_put : (old new bytes : List ℕ) (faults : ℕ) → new ≡ old ++ bytes
    → HasPut {T = Unit {0}} {E = Failed} (record { put = Some old; faults = faults }) (record { put = Some new; faults = faults }) bytes (Ok tt)
all_put old new bytes faults is = record {
  put = record {
    told = λ after e. (old, refl, (length bytes, omega arith, λ ok. refl, sym (same_Some new after e) ∙ is ∙ ap (λ t. old ++ t) (sym (take_all (length bytes) bytes (omega arith)))));
    stays = λ some ok. refl;
  };
  cause = record { later = omega arith; rose = λ failure. absurd (false≢true failure) };
  quiet = refl;
}
