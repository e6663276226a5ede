-- No keys, and the text of a value.
use Rattle.std.proofs.Common.{◌≡◌, ℕ, ◌<◌, List, [], ◌∷◌, length, String, Global, string_bytes, refl, arith, rules}
use Rattle.serde_json.specs.Data.{string}
use Rattle.serde_json.specs.View.{view}
use Rattle.serde_json.specs.declared.value.Value.{Value, the_lemmas}

pub nothing : (keys : List (List ℕ)) → length keys < 1 → keys ≡ []
nothing [] h = refl
nothing (k ∷ ks) h = absurd (omega arith)

pub view_text : (s : String Global) → view (Value.String s) ≡ string (string_bytes s)
view_text s = search (rules, the_lemmas)
