use Rattle.std.proofs.Common.{◌≡◌, string_bytes, option_map, sym, ap, ◌∙◌}
use Rattle.serde_json.specs.Data.{put}
use Rattle.serde_json.specs.Find.{get_member}
use Rattle.serde_json.specs.View.{view, members_view}
use Rattle.serde_json.proofs.Views.{members_view-insert_entry, view-lookup}
use Rattle.smk_config.specs.Settings.{over, placed}
use Rattle.smk_config.proofs.Members.{put_twice}
use Rattle.smk_config.proofs.merging.+merge.Goals as goal

pub merged-loop-key-preserved : goal.merged-loop-key-preserved
merged-loop-key-preserved t c =
    let l = c.loop-key in
    let was = members_view l.made.entries in
    let name = string_bytes c.in-Some.key.now in
    let between = c.insert.new.self.entries in
    let key = c.in_ok-clone.field-0 in
    let value = c.in_ok-value.value in
    let same : string_bytes key ≡ name = c.in_ok-clone.ensures.cases in
    let same_again : string_bytes c.in_ok-clone-2.field-0 ≡ name = c.in_ok-clone-2.ensures.cases in
    let taken = ap members_view c.in_ok-was.ensures.entries ∙ members_view-insert_entry l.made.entries key _ ∙ ap (λ k. put k _ was) same in
    let put_back =
    ap members_view c.in_ok-insert.ensures.entries
    ∙ members_view-insert_entry between c.in_ok-clone-2.field-0 value
    ∙ ap (λ k. put k (view value) (members_view between)) same_again
    ∙ ap (put name (view value)) taken
    ∙ put_twice name (view value) _ was in
    let looked = ap (option_map view) c.in_ok-was.ensures.old ∙ view-lookup (string_bytes key) l.made.entries ∙ ap (λ k. get_member k was) same in
    let is = c.in_ok-value.ensures ∙ ap (placed (view c.in-Some.value.now)) looked in
    l.invariant ∙ ap (λ es. over (members_view es) was) c.in-Some.ensures.steps ∙ ap (over (members_view c.next.new.self)) (sym (put_back ∙ ap (λ d. put name d was) is))
