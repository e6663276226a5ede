-- What was seen, as new jobs come.
use Rattle.std.proofs.Common.{◌≡◌, ◌≢◌, Bool, true, false, ◌||◌, List, [], ◌∷◌, ◌++◌, map, Option, Some, None, is_some, Result, Ok, Err, IfErr, refl, sym, ap, ◌∙◌, bytes_eq}
use Rattle.std.specs.Prelude.{if◌then◌else◌}
use Rattle.std.specs.Option.{option_and_then, option_or}
use Rattle.std.specs.BTreeMap.{get_by_text}
use Rattle.std.specs.List.{slice_get}
use Rattle.std.proofs.lemmas.Option.{same_Some, none-some}
use Rattle.std.proofs.lemmas.Bool.{or_parts}
use Rattle.smk_base.proofs.Places.{same_place}
use Rattle.smk_base.proofs.Under.{never_both}
use Rattle.smk_world.specs.World.{out_paths}
use Rattle.smk_world.specs.Trees.{Path, among, first}
use Rattle.smk_store.specs.Stores.{Known}
use Rattle.smk_chain.specs.declared.jobs.Jobs.{Jobs}
use Rattle.smk_trigger.specs.declared.reason.State.{State}
use Rattle.smk_pick.specs.declared.settings.Settings.{Settings}
use Rattle.smk_plan.specs.declared.fault.PlanFault.{PlanFault}
use Rattle.smk_plan.specs.declared.fault.PlanFault.TheVariants as fault
use Rattle.smk_plan.specs.declared.seen.Sight.{Sight}
use Rattle.smk_plan.specs.Sights.{sight_at}
use Rattle.smk_plan.specs.States.{test_some}
use Rattle.smk_plan_live.specs.declared.base.Base.{Base}
use Rattle.smk_plan_live.specs.Carried.{began_from, if_first, or_waiting, phase_from, told_upon, with_seen}
use Rattle.smk_plan_live.specs.Changes.{IsGrownBut, IsRefusedGrown}
use Rattle.smk_plan_live.specs.Lives.{AreNamed, IsRefusedNow, IsSound}
use Rattle.smk_plan_live.specs.Now.{joined}
use Rattle.smk_plan_live.specs.Phases.{has_begun}
use Rattle.smk_plan_live.proofs.Putting.{mapped_at}
use Rattle.smk_plan_live.proofs.Tables.{flipped, not_seen}
use Rattle.smk_plan_states.proofs.Tests.{among_append}

-- ## Sights that are kept at a path

pub upon_none : {A : Type 0} (b : Bool) (x : Option A) → x ≡ told_upon b None x
upon_none true x = refl
upon_none false x = refl

pub upon_some : {A : Type 0} (p q : Path) (s : A) (x : Option A) → (if bytes_eq p q then Some s else x) ≡ told_upon (bytes_eq q p) (Some s) x
upon_some p q s x = ap (λ (b : Bool). if b then Some s else x) (flipped p q)

pub upon_at : {A : Type 0} (f : Path → Option A) (p q : Path) (x : Option A) → told_upon (bytes_eq q p) (f p) x ≡ told_upon (bytes_eq q p) (f q) x
upon_at f p q x = go (bytes_eq q p) refl
  where
    go : (b : Bool) → bytes_eq q p ≡ b → told_upon b (f p) x ≡ told_upon b (f q) x
    go true e = ap (λ y. option_or (f y) x) (sym (same_place q p e))
    go false e = refl

or_same : {A : Type 0} (s x : Option A) → option_or s (option_or s x) ≡ option_or s x
or_same None x = refl
or_same (Some s) x = refl

pub upon_more : {A : Type 0} (b r : Bool) (s x : Option A) → told_upon r s (told_upon b s x) ≡ told_upon (b || r) s x
upon_more true true s x = or_same s x
upon_more true false s x = refl
upon_more false r s x = refl

-- ## Sights that come in the place of others

pub last_sight : (ss : List Sight) (s : Sight) (q : Path) (x : Option Sight) → option_or (sight_at ss q) (if bytes_eq s.path q then Some s else x) ≡ option_or (sight_at (ss ++ s ∷ []) q) x
last_sight [] s q x = go (bytes_eq s.path q)
  where
    go : (b : Bool) → (if b then Some s else x) ≡ option_or (if b then Some s else None) x
    go true = refl
    go false = refl
last_sight (t ∷ ss) s q x = go (bytes_eq t.path q) (last_sight ss s q x)
  where
    go :
        (b : Bool) → option_or (sight_at ss q) (if bytes_eq s.path q then Some s else x) ≡ option_or (sight_at (ss ++ s ∷ []) q) x →
        option_or (if b then Some t else sight_at ss q) (if bytes_eq s.path q then Some s else x) ≡ option_or (if b then Some t else sight_at (ss ++ s ∷ []) q) x
    go true more = refl
    go false more = more

pub last_path : (ss : List Sight) (s : Sight) (came : List Path) (q : Path) →
    (among (map (λ (x : Sight). x.path) ss) q || among (came ++ s.path ∷ []) q) ≡ (among (map (λ (x : Sight). x.path) (ss ++ s ∷ [])) q || among came q)
last_path [] s came q =
    among_append came (s.path ∷ []) q ∙ turn (among came q) (bytes_eq q s.path)
  where
    turn : (a b : Bool) → (a || (b || false)) ≡ ((b || false) || a)
    turn true true = refl
    turn true false = refl
    turn false true = refl
    turn false false = refl
last_path (t ∷ ss) s came q =
    again (bytes_eq q t.path) (among (map (λ (x : Sight). x.path) ss) q) (among (came ++ s.path ∷ []) q) ∙ ap (λ b. bytes_eq q t.path || b) (last_path ss s came q)
    ∙ sym (again (bytes_eq q t.path) (among (map (λ (x : Sight). x.path) (ss ++ s ∷ [])) q) (among came q))
  where
    again : (a b c : Bool) → ((a || b) || c) ≡ (a || (b || c))
    again true b c = refl
    again false b c = refl

-- ## What was seen before and is fresh

-- the paths of what was seen later tell all of it
pub all_later : (came : Bool) (x : Option Sight) → (came ≡ false → x ≡ None) → told_upon came x None ≡ x
all_later true None h = refl
all_later true (Some s) h = refl
all_later false x h = sym (h refl)

pub or_three : {A : Type 0} (a b c : Option A) → option_or (option_or a b) c ≡ option_or a (option_or b c)
or_three None b c = refl
or_three (Some x) b c = refl

pub no_later :
    (fresh : List Sight) (before after : List Path) (q : Path) (was is : Option Sight) →
    among after q ≡ (among (map (λ (s : Sight). s.path) fresh) q || among before q) → is ≡ option_or (sight_at fresh q) was → (among before q ≡ false → was ≡ None) →
    among after q ≡ false → is ≡ None
no_later fresh before after q was is paths told none out =
    let both = sym paths ∙ out in
    told ∙ ap (λ o. option_or o was) (not_seen fresh q (or_parts (among (map (λ (s : Sight). s.path) fresh) q) (among before q) both).0)
    ∙ none (or_parts (among (map (λ (s : Sight). s.path) fresh) q) (among before q) both).1

-- ## Names

-- a job that had begun has an output to be named by
from_named :
    (old : Base) (o : Option Path) → has_begun (or_waiting (option_and_then (slice_get old.phases) (option_and_then if_first (option_and_then (get_by_text old.sites) o)))) ≡ true →
    is_some o ≡ true
from_named old None h = absurd (never_both false h refl)
from_named old (Some q) h = refl

from_running :
    (old : Base) (o : Option Path) (s : State) → joined (option_and_then (slice_get old.began) (option_and_then if_first (option_and_then (get_by_text old.sites) o))) ≡ Some s →
    is_some o ≡ true
from_running old None s h = absurd (none-some s h)
from_running old (Some q) s h = refl

pub grown_named : (jobs : Jobs) (store : List Known) (fresh : List Sight) (old new : Base) → IsGrownBut jobs store fresh old new → AreNamed new
grown_named jobs store fresh old new g =
    record {
      begun = λ n j at begun.
          from_named old (first (out_paths j.recipe))
          (ap (test_some has_begun)
          (sym (ap (λ phases. slice_get phases n) g.phases ∙ mapped_at (phase_from old) jobs.jobs n j (ap (λ (js : Jobs). slice_get js.jobs n) (sym g.now) ∙ at)))
          ∙ begun);
      running = λ n j s at runs.
          from_running old (first (out_paths j.recipe)) s
          (same_Some (began_from old j) (Some s)
          (sym (ap (λ began. slice_get began n) g.began ∙ mapped_at (began_from old) jobs.jobs n j (ap (λ (js : Jobs). slice_get js.jobs n) (sym g.now) ∙ at))
          ∙ runs));
    }

-- a base is sound whatever was seen as the plan began
pub seen_sound : (b : Base) (seen : List Sight) → IsSound b → IsSound (with_seen seen b)
seen_sound b seen sound =
    record {
      phases = sound.phases;
      began = sound.began;
      entries = sound.entries;
      sights = sound.sights;
      sited = sound.sited;
      unnamed = sound.unnamed;
      came = sound.came;
      sources = sound.sources;
    }

pub seen_named : (b : Base) (seen : List Sight) → AreNamed b → AreNamed (with_seen seen b)
seen_named b seen named = record { begun = named.begun; running = named.running }

-- what is refused of a base that has grown is so of the jobs, the store and the fresh sights
pub grown_refused :
    (settings : Settings) (jobs : Jobs) (store : List Known) (fresh : List Sight) (old base : Base) (r : Result (Unit {0}) PlanFault) →
    IsSound base → IsGrownBut jobs store fresh old base →
    IfErr r (λ f. f ≢ fault.OutOfMemory → IsRefusedNow settings (with_seen old.seen base) f) →
    IfErr r (λ f. f ≢ fault.OutOfMemory → IsRefusedGrown settings jobs store fresh old f)
grown_refused settings jobs store fresh old base (Ok u) sound grown refused = refused
grown_refused settings jobs store fresh old base (Err f) sound grown refused = λ other.
    record { base = with_seen old.seen base; sound = seen_sound base old.seen sound; grown = grown; refused = refused other }
