-- Where running children leave room, the places of a job are unused.
use Rattle.std.proofs.Common.{◌≡◌, true, false, List, [], ◌∷◌, ◌++◌, map, refl, sym, ap, subst, All}
use Rattle.std.specs.List.{list_any}
use Rattle.std.proofs.lemmas.List.Elements.{All-nil, All-cons}
use Rattle.std.proofs.lemmas.Bool.{or_from, or_parts}
use Rattle.smk_base.specs.Path.{is_path, overlaps}
use Rattle.smk_base.specs.Place.{record_place, mark_place}
use Rattle.smk_base.proofs.Apart.{path-record, path-mark}
use Rattle.smk_world.specs.declared.recipe.Recipe.{Recipe}
use Rattle.smk_world.specs.World.{World, out_paths}
use Rattle.smk_world.specs.Calls.{IsUnused, any_overlap, used_now}
use Rattle.smk_world.specs.Devices.{Device, WhereTold}
use Rattle.smk_world.specs.Trees.{Path}
use Rattle.smk_store.specs.declared.places.JobPlaces.{JobPlaces}
use Rattle.smk_store.specs.Steps.{AreUnused, places_of}
use Rattle.smk_job.proofs.Lists.{each_in, none_by}
use Rattle.smk_job.specs.Jobs.{Underway, LetsBegin, LetsClose, AreFree, ReadUsers}

-- none of these overlaps what is used
pub each_unused : (w : World) (ps : List Path) → any_overlap ps (used_now w.children) ≡ false → All (IsUnused w) ps
each_unused w [] h = All-nil (IsUnused w)
each_unused w (p ∷ ps) h =
    let used = used_now w.children in
    All-cons (IsUnused w) p ps (or_from (list_any (overlaps p) used) false (or_parts (list_any (overlaps p) used) (any_overlap ps used) h).0 refl)
    (each_unused w ps (or_parts (list_any (overlaps p) used) (any_overlap ps used) h).1)

-- the engine's own places overlap nothing that is used
own_unused : (f : Path → Path) (w : World) → ((p q : Path) → is_path q ≡ true → overlaps (f p) q ≡ false) → ReadUsers w → (ps : List Path) → All (IsUnused w) (map f ps)
own_unused f w apart users [] = All-nil (IsUnused w)
own_unused f w apart users (p ∷ ps) =
    let used = used_now w.children in
    All-cons (IsUnused w) (f p) (map f ps)
    (or_from (list_any (overlaps (f p)) used) false (none_by (overlaps (f p)) used (λ q i. apart p q (each_in (λ x. is_path x ≡ true) used q users i))) refl)
    (own_unused f w apart users ps)

pub records_unused : (w : World) → ReadUsers w → (ps : List Path) → All (IsUnused w) (map record_place ps)
records_unused w users ps = own_unused record_place w (λ p q h. (path-record q p h).overlapped) users ps

pub marks_unused : (w : World) → ReadUsers w → (ps : List Path) → All (IsUnused w) (map mark_place ps)
marks_unused w users ps = own_unused mark_place w (λ p q h. (path-mark q p h).overlapped) users ps

-- ## A job that begins

overlap_first : (ps qs used : List Path) → any_overlap (ps ++ qs) used ≡ false → any_overlap ps used ≡ false
overlap_first [] qs used h = refl
overlap_first (p ∷ ps) qs used h =
    or_from (list_any (overlaps p) used) (any_overlap ps used) (or_parts (list_any (overlaps p) used) (any_overlap (ps ++ qs) used) h).0
    (overlap_first ps qs used (or_parts (list_any (overlaps p) used) (any_overlap (ps ++ qs) used) h).1)

pub begin_outputs : (a : Device) (recipe : Recipe) (logs : List Path) (places : JobPlaces) → places ≡ places_of (out_paths recipe) logs → WhereTold a (λ w. LetsBegin w recipe logs) → AreUnused a places.outputs
begin_outputs a recipe logs places at lets = λ w e.
    subst (λ ps. All (IsUnused w) ps) (ap (λ (x : JobPlaces). x.outputs) (sym at))
    (each_unused w (out_paths recipe) (overlap_first (out_paths recipe) logs (used_now w.children) (lets w e).apart))

-- ## A job that is closed

abbrev pub Lets : Device → Recipe → Type 0
Lets a recipe = WhereTold a (λ w. LetsClose w recipe)

-- as the job's value says it
pub lets_as : (a : Device) (j k : Underway) → j ≡ k → Lets a k.recipe → Lets a j.recipe
lets_as a j k e h = subst (λ (x : Underway). Lets a x.recipe) (sym e) h

pub close_free : (a : Device) (recipe : Recipe) (logs : List Path) (places : JobPlaces) → places ≡ places_of (out_paths recipe) logs → Lets a recipe → WhereTold a (AreFree places)
close_free a recipe logs places at lets = λ w e.
    subst (λ x. AreFree x w) (sym at)
    (record {
      outputs = each_unused w (out_paths recipe) (lets w e).apart;
      records = records_unused w (lets w e).users (out_paths recipe);
      marks = marks_unused w (lets w e).users (out_paths recipe);
    })
