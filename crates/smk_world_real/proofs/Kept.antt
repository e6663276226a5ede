-- Where no call has failed before, the fault is the first.
use Rattle.std.proofs.Common.{◌≡◌, ◌∙◌, ℕ, List, Bool, true, not, is_some, Option, Some, None, refl, ap, true≢false}
use Rattle.std.proofs.lemmas.Option.{none-some}
use Rattle.smk_world_real.specs.declared.failure.CallKind.{CallKind}
use Rattle.smk_world_real.specs.declared.failure.Failure.{Failure}
use Rattle.smk_world_real.specs.declared.fault.Fault.{Fault}
use Rattle.smk_world_real.specs.First.{IsFailure, KeepsFirst}

pub begins :
    (call : CallKind) (place : List ℕ) (fault : Fault) (old : Option Failure) (failure : Failure) (none : Bool) →
    is_some old ≡ not none → none ≡ true → IsFailure call place fault failure → KeepsFirst call place fault old (Some failure)
begins call place fault None failure none test is_none is = record { stays = λ other there. absurd (none-some other there); begins = λ nothing. (failure, refl, is) }
begins call place fault (Some other) failure none test is_none is = absurd (true≢false (test ∙ ap not is_none))
