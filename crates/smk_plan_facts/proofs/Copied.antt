-- A record that is made again of its parts.
use Rattle.std.proofs.Common.{◌≡◌, Bool, true, false, Option, Some, None, refl, sym, ap, ◌∙◌}
use Rattle.std.specs.Prelude.{◌↔◌, if◌then◌else◌, IfSome, IsSome}
use Rattle.smk_base.proofs.Under.{false_unless, never_both}
use Rattle.smk_record.specs.declared.record.Record.{Record}
use Rattle.smk_record.specs.Records.{is_valid}
use Rattle.smk_store.specs.declared.store.Kept.TheVariants.{Held, Unreadable}
use Rattle.smk_plan_facts.specs.Telling.{copied, held_by}

pub held_again : (o : Option Record) (r made : Record) → made ≡ r → IsSome o ↔ (is_valid made ≡ true) → IfSome o (λ k. k ≡ made) → held_by o ≡ copied (Held r)
held_again None r made e valid value = ap (λ (b : Bool). if b then Held r else Unreadable) (sym (false_unless (is_valid made) (λ h. never_both false (valid.1 h) refl))) ∙ ap (λ (x : Record). if is_valid x then Held r else Unreadable) e
held_again (Some k) r made e valid value = ap Held (value ∙ e) ∙ ap (λ (b : Bool). if b then Held r else Unreadable) (sym (valid.0 refl)) ∙ ap (λ (x : Record). if is_valid x then Held r else Unreadable) e
