-- What the code's values are.
use Rattle.std.specs.Prelude.{List, [], ◌∷◌, Option, Some, None, decimal}
use Rattle.smk_pattern.specs.Searching.{now_of}
use Rattle.smk_format.specs.declared.picks.Pick.{Pick}
use Rattle.smk_format.specs.declared.picks.Pick.TheVariants as pick
use Rattle.smk_format.specs.declared.items.Found.{Found}
use Rattle.smk_format.specs.declared.items.Found.TheVariants as found
use Rattle.smk_template.specs.Templates.{Text}
use Rattle.smk_format.specs.Fields as field

abbrev pub pick_of : Pick → field.Pick
pick_of pick.All = field.All
pick_of (pick.Named name) = field.Named name.now
pick_of (pick.Place place) = field.Place place
pick_of pick.Strange = field.Strange

abbrev pub found_of : Found → Option (List Text)
found_of found.Nothing = None
found_of (found.Number number) = Some (decimal number ∷ [])
found_of (found.Words words) = Some (now_of words.items)
