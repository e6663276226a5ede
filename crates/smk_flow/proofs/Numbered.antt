-- Rules by the places of their names.
use Rattle.std.proofs.Common.{◌≡◌, ℕ, ◌+◌, List, [], ◌∷◌, ◌++◌, map, cond, Option, Some, option_map, is_some, String, string_bytes, Bool, true, false, ◌||◌, true≢false, refl, sym, ap, ◌∙◌, bytes_eq}
use Rattle.std.specs.List.{find, enumerate_from, list_any, position_from}
use Rattle.std.specs.Prelude.{position}
use Rattle.std.proofs.lemmas.List.{map_push}
use Rattle.std.proofs.lemmas.Iterator.Adapters.{position_from-zero}
use Rattle.std.specs.declared.alloc.Global.{Global}
use Rattle.indexmap.specs.IndexSet.{insert_key}
use Rattle.smk_base.proofs.Places.{same_flipped}
use Rattle.smk_pattern.specs.Shapes.{Text}
use Rattle.smk_flow.specs.declared.rule.RulePart.{RulePart}
use Rattle.smk_flow.specs.declared.workflow.Rule.{Rule}
use Rattle.smk_flow.specs.Checks.{rule_in}
use Rattle.smk_flow.specs.Numbers.{number_from, parts_of, rule_names}

abbrev same_text : String Global → String Global → Bool
same_text a b = bytes_eq (string_bytes a) (string_bytes b)

-- a name that no rule has isn't among those of the rules
unnamed : (names : List (String Global)) (rules : List Rule) (name : Text) → map string_bytes names ≡ rule_names rules → is_some (rule_in (parts_of rules) name) ≡ false →
    list_any (λ k. bytes_eq name (string_bytes k)) names ≡ false
unnamed [] rules name are free = refl
unnamed (k ∷ ks) [] name are free = absurd cc
unnamed (k ∷ ks) (r ∷ rs) name are free =
    let head : string_bytes k ≡ r.part.name = cc in
    let tail : map string_bytes ks ≡ rule_names rs = cc in
    go (bytes_eq r.part.name name) (bytes_eq name (string_bytes k)) (ap (bytes_eq name) head ∙ same_flipped name r.part.name) free (unnamed ks rs name tail)
  where
    go : (x y : Bool) → y ≡ x → is_some (cond x (Some r.part) (rule_in (parts_of rs) name)) ≡ false →
        (is_some (rule_in (parts_of rs) name) ≡ false → list_any (λ q. bytes_eq name (string_bytes q)) ks ≡ false) → y || list_any (λ q. bytes_eq name (string_bytes q)) ks ≡ false
    go true y e f more = absurd (true≢false f)
    go false y e f more = ap (λ (b : Bool). b || list_any (λ q. bytes_eq name (string_bytes q)) ks) e ∙ more f

-- one more rule, whose name no rule has
pub one_more : (names : List (String Global)) (key : String Global) (rules : List Rule) (rule : Rule) → string_bytes key ≡ rule.part.name → map string_bytes names ≡ rule_names rules →
    is_some (rule_in (parts_of rules) rule.part.name) ≡ false → map string_bytes (insert_key same_text names key) ≡ rule_names (rules ++ rule ∷ [])
one_more names key rules rule is are free =
    let absent : list_any (same_text key) names ≡ false = ap (λ t. list_any (λ k. bytes_eq t (string_bytes k)) names) is ∙ unnamed names rules rule.part.name are free in
    ap (λ b. map string_bytes (cond b names (names ++ key ∷ []))) absent
    ∙ map_push string_bytes names key
    ∙ ap (λ ts. ts ++ string_bytes key ∷ []) are
    ∙ ap (λ t. rule_names rules ++ t ∷ []) is
    ∙ sym (map_push (λ (r : Rule). r.part.name) rules rule)

mapped : (b : Bool) (n : ℕ) (part : RulePart) (o : Option (ℕ × RulePart)) →
    cond b (Some n) (option_map (λ (e : ℕ × RulePart). e.0) o) ≡ option_map (λ (e : ℕ × RulePart). e.0) (cond b (Some (n, part)) o)
mapped true n part o = refl
mapped false n part o = refl

from_place : (names : List (String Global)) (rules : List Rule) (n : ℕ) (q : Text) → map string_bytes names ≡ rule_names rules →
    position_from (λ k. bytes_eq q (string_bytes k)) n names ≡ number_from n (parts_of rules) q
from_place [] [] n q are = refl
from_place [] (r ∷ rs) n q are = absurd cc
from_place (k ∷ ks) [] n q are = absurd cc
from_place (k ∷ ks) (r ∷ rs) n q are =
    let head : string_bytes k ≡ r.part.name = cc in
    let tail : map string_bytes ks ≡ rule_names rs = cc in
    ap (λ b. cond b (Some n) (position_from (λ x. bytes_eq q (string_bytes x)) (n + 1) ks)) (ap (bytes_eq q) head ∙ same_flipped q r.part.name)
    ∙ ap (λ (o : Option ℕ). cond (bytes_eq r.part.name q) (Some n) o) (from_place ks rs (n + 1) q tail)
    ∙ mapped (bytes_eq r.part.name q) n r.part (find (λ (e : ℕ × RulePart). bytes_eq e.1.name q) (enumerate_from (n + 1) (parts_of rs)))

-- the number of a rule is the place of its name
pub place_is : (names : List (String Global)) (rules : List Rule) (q : Text) → map string_bytes names ≡ rule_names rules →
    position (λ k. bytes_eq q (string_bytes k)) names ≡ number_from 0 (parts_of rules) q
place_is names rules q are = position_from-zero (λ k. bytes_eq q (string_bytes k)) names ∙ from_place names rules 0 q are
