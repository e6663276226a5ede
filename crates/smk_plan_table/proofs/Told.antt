-- What a plan tells by its parts is so in the image with which they agree.
use Rattle.std.proofs.Common.{◌≡◌, suc, length, Bool, true, false, cond, ◌&&◌, ◌||◌, not, List, [], ◌∷◌, ◌++◌, map, Some, None, refl, sym, ap, ◌∙◌}
use Rattle.std.specs.Prelude.{if◌then◌else◌, bytes_eq, zip, option_map, is_none, is_some}
use Rattle.std.specs.List.{filter, list_any}
use Rattle.smk_base.proofs.Places.{same_flipped}
use Rattle.smk_world.specs.Trees.{Path, Each, among, is_path_text}
use Rattle.smk_record.specs.declared.record.Member.{Member}
use Rattle.smk_record.specs.Records.{members_of}
use Rattle.smk_store.specs.declared.store.Entry.{Entry}
use Rattle.smk_store.specs.declared.store.Kept.{Kept}
use Rattle.smk_store.specs.declared.store.Kept.TheVariants.{Absent, Unreadable, Held}
use Rattle.smk_store.specs.Images.{Image, content_of, readable, stands, is_source}
use Rattle.smk_store.specs.Stores.{Known, is_covered_in}
use Rattle.smk_store.specs.Loading.{IsStoreOf}
use Rattle.smk_chain.specs.declared.jobs.Jobs.{Jobs}
use Rattle.smk_chain.specs.declared.jobs.Maker.{Maker}
use Rattle.smk_plan.specs.declared.seen.Sight.{Sight}
use Rattle.smk_plan.specs.Sights.{IsSeenAs, IsSourceSeen}
use Rattle.smk_plan.specs.States.{files_listed, test_some}
use Rattle.smk_plan_facts.specs.Facts.{told_sources}
use Rattle.smk_plan_facts.specs.Telling.{is_file_stat}
use Rattle.smk_plan_facts.proofs.Stamped.{source_seen}
use Rattle.smk_plan_facts.proofs.WholesTold.{file_by}
use Rattle.smk_plan_states.specs.declared.lines.Target.{Target}
use Rattle.smk_plan_states.specs.Lines.{is_told_source, target_of}
use Rattle.smk_plan_table.specs.Parts.{current_in, is_source_seen, later_flags, later_targets, file_in, files_among, files_kept, files_told, files_in}

-- ## Sources

-- some maker tells of the path as a source just where it is one of those that are told of
told_same : (jobs : Jobs) (makers : List Maker) (t : Path) → list_any (is_told_source jobs t) makers ≡ among (told_sources makers) t
told_same jobs [] t = refl
told_same jobs (m ∷ makers) t = go (is_none m.job) (told_same jobs makers t)
  where
    later : List Maker
    later = filter (λ (x : Maker). is_none x.job) makers

    go : (b : Bool) → list_any (is_told_source jobs t) makers ≡ among (map (λ (x : Maker). x.path) later) t →
        ((b && bytes_eq m.path t) || list_any (is_told_source jobs t) makers) ≡ among (map (λ (x : Maker). x.path) (cond b (m ∷ later) later)) t
    go true e = ap (λ b. b || list_any (is_told_source jobs t) makers) (same_flipped m.path t) ∙ ap (λ b. bytes_eq t m.path || b) e
    go false e = e

-- the path is told of as a source and was seen as one
abbrev pub is_source_told : Jobs → List Known → List Sight → Path → Bool
is_source_told jobs store seen t = list_any (is_told_source jobs t) jobs.makers && is_source_seen store seen t

-- a target is a source just where it is told of as one and was seen as one
pub source_same : (image : Image) (jobs : Jobs) (store : List Known) (seen : List Sight) (t : Path) →
    IsStoreOf image store → Each (IsSourceSeen image seen) jobs.makers → (is_source image t ≡ true → among (told_sources jobs.makers) t ≡ true) →
    is_source_told jobs store seen t ≡ is_source image t
source_same image jobs store seen t s h told =
    ap (λ b. b && is_source_seen store seen t) (told_same jobs jobs.makers t) ∙ go (among (told_sources jobs.makers) t) refl
  where
    none : (b : Bool) → is_source image t ≡ b → among (told_sources jobs.makers) t ≡ false → false ≡ b
    none true e k = sym k ∙ told e
    none false e k = refl

    go : (b : Bool) → among (told_sources jobs.makers) t ≡ b → (among (told_sources jobs.makers) t && is_source_seen store seen t) ≡ is_source image t
    go true e =
        let sight : IsSeenAs image seen t = source_seen image seen jobs.makers t h e in
        ap (λ b. b && is_source_seen store seen t) e
        ∙ ap (λ o. is_path_text t && (test_some (λ (x : Sight). is_file_stat x.stat) o && not (is_covered_in store t))) sight.1
        ∙ ap (λ b. is_path_text t && (b && not (is_covered_in store t))) (file_by (image.node t))
        ∙ ap (λ b. is_path_text t && (is_some (content_of (image.node t)) && not b)) (s.covered t)
    go false e = ap (λ b. b && is_source_seen store seen t) e ∙ none (is_source image t) refl e

-- what is told of each target is whether it is a source or ready
pub current_all : (jobs : Jobs) (store : List Known) (seen : List Sight) (source ready : Path → Bool) (ts : List Path) →
    Each (λ t. is_source_told jobs store seen t ≡ source t) ts → current_in store seen ts (map (target_of jobs) ts) (map ready ts) ≡ map (λ t. source t || ready t) ts
current_all jobs store seen source ready [] h = refl
current_all jobs store seen source ready (t ∷ ts) h =
    ap (λ b. (b || ready t) ∷ current_in store seen ts (map (target_of jobs) ts) (map ready ts)) h.0
    ∙ ap (λ bs. (source t || ready t) ∷ bs) (current_all jobs store seen source ready ts h.1)

pub current_length : (store : List Known) (seen : List Sight) (ts : List Path) (targets : List Target) (flags : List Bool) → length (current_in store seen ts targets flags) ≡ length ts
current_length store seen [] targets flags = refl
current_length store seen (t ∷ ts) targets flags = ap suc (current_length store seen ts (later_targets targets) (later_flags flags))

-- ## Listings

files_named : (members : List Member) → files_among members ≡ map (λ (m : Member). m.name) (filter (λ (m : Member). not m.folder) members)
files_named [] = refl
files_named (m ∷ members) =
    ap (λ ns. file_in m ++ ns) (files_named members) ∙ one m.folder
  where
    later : List Member
    later = filter (λ (x : Member). not x.folder) members

    one : (b : Bool) → (if b then [] else m.name ∷ []) ++ map (λ (x : Member). x.name) later ≡ map (λ (x : Member). x.name) (cond (not b) (m ∷ later) later)
    one true = refl
    one false = refl

files_of_entry : (kept : Kept) (marked noted : Bool) →
    files_told (option_map (λ (e : Entry). e.kept) (if stands kept || (marked || noted) then Some (record { kept = kept; marked = marked; noted = noted }) else None)) ≡ files_kept kept
files_of_entry Absent true noted = refl
files_of_entry Absent false true = refl
files_of_entry Absent false false = refl
files_of_entry Unreadable marked noted = refl
files_of_entry (Held r) marked noted = refl

-- the listing of a directory by the store
pub files_same : (image : Image) (store : List Known) → IsStoreOf image store → (d : Path) → files_in store d ≡ files_listed image d
files_same image store s d =
    ap (λ e. files_told (option_map (λ (x : Entry). x.kept) e)) (s.entries d) ∙ files_of_entry (image.kept d) (image.marked d) (image.noted d)
    ∙ files_named (members_of (readable (image.kept d)))

-- ## Stamps

pub zip_same : {A B : Type 0} (f : A → B) (xs : List A) → zip xs (map f xs) ≡ map (λ x. (x, f x)) xs
zip_same f [] = refl
zip_same f (x ∷ xs) = ap (λ ys. (x, f x) ∷ ys) (zip_same f xs)
