-- The laws, by those of jobs that begin and of plans that stay.
use Rattle.std.proofs.Common.{true, []}
use Rattle.smk_store.specs.Safety.{KeepsSound}
use Rattle.smk_store.specs.Soundness.{SoundWorld}
use Rattle.smk_store.specs.Trust.{SumsDiffer, Versions}
use Rattle.smk_laws_protocol.proofs.ProtocolHolds.{keeps_sound}
use Rattle.smk_drive.specs.Moments.{greatest, seen}
use Rattle.smk_laws_moments.proofs.Starting.{startable_may_begin}
use Rattle.smk_laws_moments.proofs.Planned.{derived_are_planned, midway_keeps_sources}
use Rattle.smk_laws_moments.proofs.StandsOn.{replanning_stays_derived, start_is_derived, step_stays_derived}
use Rattle.smk_laws_turns.specs.Following.{RunFollows, RunIsSafe, RunKeepsSound, StepsFollow}
use Rattle.smk_laws_turns.proofs.Greatest.{greatest_is_top}
use Rattle.smk_laws_turns.proofs.StepsOn as steps
use Rattle.smk_laws_turns.proofs.Whole as whole

pub steps_follow : StepsFollow
steps_follow o rules entry H top before es s t deeds at given taken follows =
    steps.steps_follow o rules entry H top given startable_may_begin replanning_stays_derived step_stays_derived derived_are_planned
    midway_keeps_sources s t before es deeds taken at follows

pub run_follows : RunFollows
run_follows o rules entry H told result deeds log reader reads differ sound follows is_run =
    whole.run_follows startable_may_begin replanning_stays_derived step_stays_derived derived_are_planned midway_keeps_sources
    start_is_derived o rules entry H told result deeds log reader reads differ sound follows is_run

pub run_is_safe : RunIsSafe
run_is_safe o rules entry H told result deeds log reader reads differ sound follows is_run =
    whole.run_is_safe startable_may_begin replanning_stays_derived step_stays_derived derived_are_planned midway_keeps_sources
    start_is_derived o rules entry H told result deeds log reader reads differ sound follows is_run

pub run_keeps_sound : RunKeepsSound
run_keeps_sound o rules entry told result deeds log reader reads follows is_run =
    record {
      safe = λ H differ sound. (kept H differ sound).safe H differ sound;
      sound_at_exit = λ H differ sound. (kept H differ sound).sound_at_exit H differ sound;
    }
  where
    kept : (H : Versions) → SumsDiffer H → SoundWorld o entry H → KeepsSound o entry log [] true
    kept H differ sound =
        let r = run_follows o rules entry H told result deeds log reader reads differ sound follows is_run in
        keeps_sound o entry (greatest rules (seen rules entry)) log r.0 (greatest_is_top o rules entry reader sound.formed) follows r.1
