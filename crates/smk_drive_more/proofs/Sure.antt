-- What looks at each path tell that no job makes.
use Rattle.std.proofs.Common.{◌≡◌, ◌<◌, ◌≤◌, ℕ, Bool, true, false, cond, ◌&&◌, ◌||◌, List, [], ◌∷◌, ◌+◌, filter, length, map, drop, get_or, refl, sym, ap, subst, ◌∙◌, Option, Some, None, Result, Ok, Err, true≢false}
use Rattle.std.specs.Prelude.{OnOk, bytes_eq, is_none, is_some}
use Rattle.std.proofs.lemmas.List.{drop_all}
use Rattle.std.specs.List.{list_all}
use Rattle.smk_base.proofs.Places.{and_first, and_second, same_place}
use Rattle.smk_world.specs.declared.event.WorkFault.{WorkFault}
use Rattle.smk_world.specs.declared.event.WorkFault.TheVariants.{Failed, OutOfMemory}
use Rattle.smk_world.specs.Calls.{device_failed}
use Rattle.smk_world.specs.Devices.{Device, WhereTold}
use Rattle.smk_world.specs.Trees.{Path, among}
use Rattle.smk_store.specs.Images.{Image, is_source}
use Rattle.smk_store.proofs.Seeing.{dropped}
use Rattle.smk_store.specs.Stores.{Known}
use Rattle.smk_chain.specs.declared.jobs.Maker.{Maker}
use Rattle.smk_chain_sight.specs.Viewing.{Viewed}
use Rattle.smk_plan_facts.specs.Facts.{told_sources}
use Rattle.smk_drive_more.specs.Sourced.{is_failed, is_made_or_source}

pub failed_as : {T : Type 0} (r : Result T WorkFault) (why : WorkFault) → r ≡ Err why → device_failed r ≡ is_failed why
failed_as r Failed is = ap device_failed is
failed_as r OutOfMemory is = ap device_failed is

-- ## One after another

pub not_one :
    (f : Maker → Bool) (xs : List Maker) (i : ℕ) (x : Maker) (whole : Bool) → i < length xs → x ≡ get_or xs i x → f x ≡ false → whole ≡ list_all f (drop i xs) → false ≡ whole
not_one f xs i x whole lt at e h = sym (h ∙ ap (list_all f) (dropped xs i x lt at) ∙ ap (λ b. b && list_all f (drop (i + 1) xs)) e)

pub one_more :
    (f : Maker → Bool) (xs : List Maker) (i : ℕ) (x : Maker) (whole : Bool) → i < length xs → x ≡ get_or xs i x → f x ≡ true → whole ≡ list_all f (drop i xs) →
    whole ≡ list_all f (drop (i + 1) xs)
one_more f xs i x whole lt at e h = h ∙ ap (list_all f) (dropped xs i x lt at) ∙ ap (λ b. b && list_all f (drop (i + 1) xs)) e

pub all_were : (f : Maker → Bool) (xs : List Maker) (i : ℕ) (whole : Bool) → length xs ≤ i → whole ≡ list_all f (drop i xs) → true ≡ whole
all_were f xs i whole le h = sym (h ∙ ap (list_all f) (drop_all i xs le))

-- ## All of them

-- each path that no job makes is a source
pub each_source :
    (image : Image) (makers : List Maker) (p : Path) → list_all (is_made_or_source image) makers ≡ true → among (told_sources makers) p ≡ true → is_source image p ≡ true
each_source image [] p all told = absurd (true≢false (sym told))
each_source image (m ∷ makers) p all told =
    go m.job refl (each_source image makers p (and_second (is_made_or_source image m) (list_all (is_made_or_source image) makers) all))
    (and_first (is_made_or_source image m) (list_all (is_made_or_source image) makers) all) told
  where
    here :
        (b : Bool) → bytes_eq p m.path ≡ b →
        (among (told_sources makers) p ≡ true → is_source image p ≡ true) →
        is_source image m.path ≡ true → (b || among (told_sources makers) p) ≡ true → is_source image p ≡ true
    here true same later first e = subst (λ q. is_source image q ≡ true) (sym (same_place p m.path same)) first
    here false same later first e = later e

    go :
        (job : Option ℕ) → m.job ≡ job →
        (among (told_sources makers) p ≡ true → is_source image p ≡ true) →
        (is_some m.job || is_source image m.path) ≡ true →
        among (map (λ (k : Maker). k.path) (cond (is_none m.job) (m ∷ filter (λ (k : Maker). is_none k.job) makers) (filter (λ (k : Maker). is_none k.job) makers))) p ≡ true →
        is_source image p ≡ true
    go None is later first e =
        here (bytes_eq p m.path) refl later (subst (λ j. (is_some j || is_source image m.path) ≡ true) is first)
        (subst
        (λ j. among (map (λ (k : Maker). k.path) (cond (is_none j) (m ∷ filter (λ (k : Maker). is_none k.job) makers) (filter (λ (k : Maker). is_none k.job) makers))) p
        ≡ true)
        is e)
    go (Some n) is later first e =
        later
        (subst
        (λ j. among (map (λ (k : Maker). k.path) (cond (is_none j) (m ∷ filter (λ (k : Maker). is_none k.job) makers) (filter (λ (k : Maker). is_none k.job) makers))) p
        ≡ true)
        is e)

pub all_sources :
    {T : Type 0} (are : Bool) (r : Result (Unit {0}) T) (d : Device) (store : List Known) (makers given : List Maker) →
    OnOk r (are ≡ true) →
    WhereTold d (λ w. (image : Image) → Viewed w.nodes store image → are ≡ list_all (is_made_or_source image) given) →
    given ≡ makers →
    OnOk r (WhereTold d (λ w. (image : Image) → Viewed w.nodes store image → (p : Path) → among (told_sources makers) p ≡ true → is_source image p ≡ true))
all_sources are (Ok u) d store makers given all told same = λ w at image v p among_them.
    each_source image makers p (ap (list_all (is_made_or_source image)) (sym same) ∙ (sym (told w at image v) ∙ all)) among_them
all_sources are (Err f) d store makers given all told same = tt
