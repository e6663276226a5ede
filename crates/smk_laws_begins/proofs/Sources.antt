-- What no job of the plan makes are sources.
use Rattle.std.proofs.Common.{◌≡◌, ℕ, Bool, true, false, ◌&&◌, ◌||◌, not, List, [], ◌∷◌, bytes_eq, map, filter, cond, refl, sym, ap, subst, ◌∙◌, Option, Some, None, true≢false}
use Rattle.std.specs.Prelude.{is_none, is_some}
use Rattle.std.specs.List.{list_all}
use Rattle.smk_base.proofs.Places.{and_first, and_second, same_place}
use Rattle.smk_world.specs.Trees.{Each, Path, among, is_path_text}
use Rattle.smk_store.specs.Images.{content_of, is_covered}
use Rattle.smk_store.specs.Stores.{Known, is_covered_in}
use Rattle.smk_chain.specs.declared.jobs.Maker.{Maker}
use Rattle.smk_plan.specs.declared.seen.Sight.{Sight}
use Rattle.smk_plan.specs.Sights.{IsSeenAs}
use Rattle.smk_plan.specs.States.{test_some}
use Rattle.smk_plan_facts.specs.Facts.{told_sources}
use Rattle.smk_plan_facts.specs.Telling.{is_file_stat}
use Rattle.smk_plan_facts.proofs.Stamped.{source_seen}
use Rattle.smk_plan_facts.proofs.WholesTold.{file_by}
use Rattle.smk_plan_live.specs.Now.{known_now, seen_now}
use Rattle.smk_laws_begins.specs.Sources.{SeenAreSources, is_made_or_seen, is_seen_source}

-- each path that is told of as a source was seen as one
each_seen :
    (known : List Known) (seen : List Sight) (makers : List Maker) (p : Path) →
    list_all (is_made_or_seen known seen) makers ≡ true → among (told_sources makers) p ≡ true → is_seen_source known seen p ≡ true
each_seen known seen [] p all told = absurd (true≢false (sym told))
each_seen known seen (m ∷ makers) p all told =
    go m.job refl (each_seen known seen makers p (and_second (is_made_or_seen known seen m) (list_all (is_made_or_seen known seen) makers) all))
    (and_first (is_made_or_seen known seen m) (list_all (is_made_or_seen known seen) makers) all) told
  where
    here :
        (b : Bool) → bytes_eq p m.path ≡ b →
        (among (told_sources makers) p ≡ true → is_seen_source known seen p ≡ true) →
        is_seen_source known seen m.path ≡ true → (b || among (told_sources makers) p) ≡ true → is_seen_source known seen p ≡ true
    here true same later first e = subst (λ q. is_seen_source known seen q ≡ true) (sym (same_place p m.path same)) first
    here false same later first e = later e

    go :
        (job : Option ℕ) → m.job ≡ job →
        (among (told_sources makers) p ≡ true → is_seen_source known seen p ≡ true) →
        not (is_none m.job) || is_seen_source known seen m.path ≡ true →
        among (map (λ (k : Maker). k.path) (cond (is_none m.job) (m ∷ filter (λ (k : Maker). is_none k.job) makers) (filter (λ (k : Maker). is_none k.job) makers))) p ≡ true →
        is_seen_source known seen p ≡ true
    go None is later first e =
        here (bytes_eq p m.path) refl later (subst (λ j. not (is_none j) || is_seen_source known seen m.path ≡ true) is first)
        (subst
        (λ j. among (map (λ (k : Maker). k.path) (cond (is_none j) (m ∷ filter (λ (k : Maker). is_none k.job) makers) (filter (λ (k : Maker). is_none k.job) makers))) p
        ≡ true)
        is e)
    go (Some n) is later first e =
        later
        (subst
        (λ j. among (map (λ (k : Maker). k.path) (cond (is_none j) (m ∷ filter (λ (k : Maker). is_none k.job) makers) (filter (λ (k : Maker). is_none k.job) makers))) p
        ≡ true)
        is e)

-- of paths that are among these
at_one : (P : Path → Type 0) (ps : List Path) (p : Path) → Each P ps → among ps p ≡ true → P p
at_one P [] p each e = absurd (true≢false (sym e))
at_one P (q ∷ ps) p each e = go (bytes_eq p q) refl (λ k. at_one P ps p each.1 k) e
  where
    go : (b : Bool) → bytes_eq p q ≡ b → (among ps p ≡ true → P p) → (b || among ps p) ≡ true → P p
    go true same later k = subst P (sym (same_place p q same)) each.0
    go false same later k = later k

pub seen_are_sources : SeenAreSources
seen_are_sources image settings base p agreed all told =
    let seen = seen_now base in
    let known = known_now base in
    let sight : IsSeenAs image seen p = source_seen image seen base.jobs.makers p agreed.sighted.sources told in
    let covered : is_covered_in known p ≡ is_covered image p =
    at_one (λ q. is_covered_in known q ≡ is_covered image q) (told_sources base.jobs.makers) p agreed.covered told in
    sym
    (ap (λ o. is_path_text p && (test_some (λ (x : Sight). is_file_stat x.stat) o && not (is_covered_in known p))) sight.1
    ∙ ap (λ b. is_path_text p && (b && not (is_covered_in known p))) (file_by (image.node p))
    ∙ ap (λ b. is_path_text p && (is_some (content_of (image.node p)) && not b)) covered)
    ∙ each_seen known seen base.jobs.makers p all told
