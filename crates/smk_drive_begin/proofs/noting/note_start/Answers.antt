use Rattle.std.proofs.Common.{◌∙◌, ap, subst, sym}
use Rattle.std.specs.Prelude.{is_ok}
use Rattle.smk_run.specs.Reports.{HasReported}
use Rattle.smk_run.specs.Runs.{is_output}
use Rattle.smk_drive_step.specs.Telling.{IsPutIf}
use Rattle.smk_drive_hub.specs.Keeping.{heeded, parts_of}
use Rattle.smk_laws_begins.specs.Noting.{child_of, told_and_put}
use Rattle.smk_drive_begin.specs.Kits.{put_answer}
use Rattle.smk_drive_begin.proofs.Notes.{noted_all, put_is}
use Rattle.smk_drive_begin.proofs.noting.note_start.Goals as goal

pub returns : goal.returns
returns g c =
    record {
      told = c.tell_begun-told.result;
      put = c.put.result;
      noted =
          noted_all c.args.ground.flow.now c.args.ground.settings.now (parts_of c.args.hub.now) (parts_of c.seat.new.hub) (parts_of c.heed.new.self) c.args.number
          c.args.kit.draws (child_of c.args.going c.args.number c.args.kit.ask c.args.kit.done) c.tell_begun-told.result c.put.result c.tell_begun-told.new.live
          c.next_after-hub.result c.put.new.self.goes_on c.seat.ensures c.next_after-hub.ensures c.tell_begun-told.ensures c.put.ensures.goes_on
          c.put.ensures.fault
          (c.heed.ensures
          ∙ ap
          (λ a. heeded a
          (record (parts_of c.seat.new.hub) {
            live = c.tell_begun-told.new.live;
            next = c.next_after-hub.result;
            telling = c.put.new.self.goes_on;
          })) (c.told_and_put.ensures
          ∙ ap (told_and_put c.tell_begun-told.result) (ap put_answer c.is_ok-put.ensures.value ∙ sym (put_is c.put.result c.put.ensures.fault))));
      text =
          subst (λ b. HasReported (IsPutIf b (is_ok c.put.result) c.args.kit.start) (g.O.Sink.sunk c.args.out.now) (g.O.Sink.sunk c.put.new.out) (is_output c.put.result)) c.seat.ensures.telling
          c.put.ensures.told;
    }
