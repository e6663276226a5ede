-- What is kept and marked of a path, as it is told of an entry.
use Rattle.std.proofs.Common.{◌≡◌, Option, Some, None, refl}
use Rattle.std.specs.Prelude.{Result, Ok, Err, IfOk, option_map}
use Rattle.smk_store.specs.declared.store.Entry.{Entry}
use Rattle.smk_plan.specs.States.{test_some}
use Rattle.smk_plan_facts.specs.Telling.{kept_of, mark_of, or_absent}

pub kept_told : (e : Option Entry) → or_absent (option_map (λ (x : Entry). x.kept) e) ≡ kept_of e
kept_told None = refl
kept_told (Some e) = refl

pub mark_told : (e : Option Entry) → test_some (λ (x : Entry). x.marked) e ≡ mark_of e
mark_told None = refl
mark_told (Some e) = refl

-- what holds whatever the answer
pub if_any : {T E : Type 0} (r : Result T E) (P : Type 0) → P → IfOk r (λ t. P)
if_any (Ok t) P h = h
if_any (Err e) P h = tt

-- two facts of one answer give a third
pub if_both : {T E : Type 0} (r : Result T E) (P Q R : T → Type 0) → ((t : T) → P t → Q t → R t) → IfOk r P → IfOk r Q → IfOk r R
if_both (Ok t) P Q R more p q = more t p q
if_both (Err e) P Q R more p q = p
