-- What is known of the items that were read so far.
use Rattle.std.specs.Prelude.{◌≡◌, Bool, List, String}
use Rattle.std.specs.Global.{Global}
use Rattle.std.specs.BTreeSet.{BTreeSet, contains_text}
use Rattle.smk_parse_tree.specs.declared.syntax.ItemForm.{ItemForm}
use Rattle.smk_parse_expr.specs.Symbols.{Bytes}
use Rattle.smk_parse_expr.specs.Exprs.{has_name}
use Rattle.smk_parse_expr.specs.Items.{has_named}

-- the names are those of the items, and the flag says whether one of these has a name
pub record Tells (items : List ItemForm) (names : BTreeSet (String Global)) (flag : Bool) : Type 0 where
  pub same_names : (w : Bytes) → contains_text names w ≡ has_name items w
  pub is_named : flag ≡ has_named items
