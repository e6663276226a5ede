-- Nothing is seen where nothing stands.
use Rattle.std.proofs.Common.{◌≡◌, Bool, true, false, ◌&&◌, Option, Some, None, ap, refl}
use Rattle.std.specs.Prelude.{if◌then◌else◌}
use Rattle.smk_base.specs.Path.{is_at_or_under}
use Rattle.smk_base.proofs.Under.{at_itself}
use Rattle.smk_world.specs.declared.event.Node.{Node}
use Rattle.smk_world.specs.Calls.{stat_of}
use Rattle.smk_world.specs.Trees.{Path}
use Rattle.smk_record.specs.Records.{are_valid_members}
use Rattle.smk_store.specs.Images.{Content, Image, content_of, file_at, is_directory, members_under}
use Rattle.smk_plan.specs.Sights.{is_guarded, is_tellable, sight_of}
use Rattle.smk_plan.specs.States.{test_some}
use Rattle.smk_plan_live.specs.Carried.{nothing_at}
use Rattle.smk_laws_protocol.proofs.Basics.{none_by}
use Rattle.smk_laws_turns.proofs.Carrying.{by_test}

both_no : (a b c : Bool) → c ≡ false → (a && (b && c)) ≡ false
both_no true true c h = h
both_no true false c h = refl
both_no false b c h = refl

-- nothing stands at the path and under it
abbrev pub IsEmpty : Image → Path → Type 0
IsEmpty image q = (x : Path) → is_at_or_under x q ≡ true → image.node x ≡ None

module _ (image : Image) (q : Path) (empty : IsEmpty image q) where
  none_guarded : is_guarded image q ≡ false
  none_guarded = none_by (λ x. is_at_or_under x q && (is_tellable x && test_some (λ (f : Content). f.read_only) (file_at image x))) image.names (λ x i. at x)
    where
      at : (x : Path) → (is_at_or_under x q && (is_tellable x && test_some (λ (f : Content). f.read_only) (file_at image x))) ≡ false
      at x =
          by_test (is_at_or_under x q)
          (λ t. both_no (is_at_or_under x q) (is_tellable x) (test_some (λ (f : Content). f.read_only) (file_at image x))
          (ap (λ (n : Option Node). test_some (λ (f : Content). f.read_only) (content_of n)) (empty x t)))
          (λ f. ap (λ b. b && (is_tellable x && test_some (λ (f : Content). f.read_only) (file_at image x))) f)

  pub nothing_seen : sight_of image q ≡ nothing_at q
  nothing_seen =
      let node : image.node q ≡ None = empty q (at_itself q) in
      let guarded : is_guarded image q ≡ false = none_guarded in
      λ i. record {
        path = q;
        stat = stat_of (node i);
        members = if is_directory (node i) && are_valid_members q (members_under image q) then Some (members_under image q) else None;
        guarded = guarded i;
        sum = None;
      }
