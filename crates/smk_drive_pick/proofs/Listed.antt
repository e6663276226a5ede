-- Members that are found by their names are those that are listed.
use Rattle.std.proofs.Common.{◌≡◌, Bool, true, false, cond, ◌&&◌, List, [], ◌∷◌, refl}
use Rattle.std.specs.Prelude.{bytes_eq}
use Rattle.std.specs.List.{list_all, list_any}
use Rattle.smk_world.specs.Trees.{Path}
use Rattle.smk_record.specs.declared.record.Member.{Member}
use Rattle.smk_record.specs.Records.{same_flag}
use Rattle.smk_drive_pick.specs.Spending.{are_listed, is_listed_in, is_named_member}

pub listed_is :
    (folders files : Path → Bool) (listed members : List Member) →
    ((q : Path) → folders q ≡ list_any (is_named_member true q) listed) → ((q : Path) → files q ≡ list_any (is_named_member false q) listed) →
    list_all (is_listed_in folders files) members ≡ are_listed listed members
listed_is folders files listed [] f g = refl
listed_is folders files listed (m ∷ ms) f g = λ i. one m.folder i && listed_is folders files listed ms f g i
  where
    one : (b : Bool) → cond b (folders m.name) (files m.name) ≡ list_any (λ (k : Member). same_flag b k.folder && bytes_eq m.name k.name) listed
    one true = f m.name
    one false = g m.name
