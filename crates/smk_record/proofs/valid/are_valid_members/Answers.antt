use Rattle.std.proofs.Common.{◌≤◌, ◌<◌, ◌-◌, ◌∙◌, ap, sym, subst, length, arith}
use Rattle.std.specs.List.{list_all}
use Rattle.std.specs.Str.{IsUtf8}
use Rattle.smk_base.proofs.Under.{both_true}
use Rattle.smk_base.specs.Path.{is_path}
use Rattle.smk_world.specs.Calls.{in_folder}
use Rattle.smk_world.specs.World.{folders_above}
use Rattle.smk_world.specs.Trees.{is_path_text}
use Rattle.smk_record.specs.Records.{is_member_folder}
use Rattle.smk_record.proofs.Lists.{path_text}
use Rattle.smk_record.proofs.Members.{fits_under, has_above, room_enough, room_lacks, unfit, not_above, one_more, all_valid}
use Rattle.smk_record.proofs.valid.are_valid_members.Goals as goal
use Rattle.smk_record.proofs.valid.are_valid_members.Goals.{then-name-room-via-then-name-room, then-name-room-via-else-name-room+then-not-has_folders_above}

pub returns-then-name-room : goal.returns-then-name-room
returns-then-name-room c =
    let p = c.args.path.now in
    let ms = c.args.members.now in
    let m = c.member-item.result in
    let i = c.loop-member.member-index in
    elim c.then-name-room.branch [
      | then-name-room-via-then-name-room w ↦
          let long : 1000 - length p ≤ length m.name = omega (arith, w.if-name-room.true, ap length c.as_str.ensures.text, ap length c.as_str-name.ensures.text) in
          unfit p ms i m c.loop-member-test.true c.member-item.is (room_lacks p m.name c.as_str.ensures.is_path c.as_str-name.ensures.is_path long)
      | then-name-room-via-else-name-room+then-not-has_folders_above w ↦
          not_above p ms i m c.loop-member-test.true c.member-item.is (ap (λ n. list_all (is_member_folder ms) (folders_above n)) (sym (w.as_bytes.ensures.value ∙ c.as_str-name.ensures.text)) ∙ sym w.if-not-has_folders_above.ensures)
    ]

pub loop-member-preserved : goal.loop-member-preserved
loop-member-preserved c =
    let p = c.args.path.now in
    let ms = c.args.members.now in
    let m = c.member-item.result in
    let i = c.loop-member.member-index in
    let short : length m.name < 1000 - length p = omega (arith, c.if-name-room.false, ap length c.as_str.ensures.text, ap length c.as_str-name.ensures.text) in
    let fits = both_true (is_path_text m.name) (is_path (in_folder p m.name)) (path_text m.name c.as_str-name.ensures.is_path (subst IsUtf8 c.as_str-name.ensures.text c.as_str-name.utf8)) (room_enough p m.name c.as_str.ensures.is_path c.as_str-name.ensures.is_path short) in
    let above = ap (λ n. list_all (is_member_folder ms) (folders_above n)) (sym (c.as_bytes.ensures.value ∙ c.as_str-name.ensures.text)) ∙ sym c.if-not-has_folders_above.ensures in
    record {
      fit = one_more (fits_under p) ms i m c.loop-member-test.true c.member-item.is c.loop-member.invariant.fit fits;
      above = one_more (has_above ms) ms i m c.loop-member-test.true c.member-item.is c.loop-member.invariant.above above;
    }

pub returns : goal.returns
returns c = all_valid c.args.path.now c.args.members.now c.loop-member.member-index c.if-members-gt20000.false (sym c.if-not-members_rise.ensures) c.loop-member-test.false c.loop-member.invariant.fit c.loop-member.invariant.above
