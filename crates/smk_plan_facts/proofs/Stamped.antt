-- What a store of an image tells of it: what is kept, which paths are marked, and stamps.
use Rattle.std.proofs.Common.{◌≡◌, inl, inr, ℕ, Bool, true, false, cond, ◌&&◌, ◌||◌, not, List, [], ◌∷◌, map, Option, Some, None, refl, sym, ap, subst, ◌∙◌, bytes_eq}
use Rattle.std.specs.Prelude.{if◌then◌else◌, reverse, option_map, is_some, is_none, IsTrue}
use Rattle.std.specs.List.{find, filter}
use Rattle.std.specs.Option.{option_and_then, option_or}
use Rattle.std.proofs.lemmas.Bool.{false_from_ne_true}
use Rattle.smk_base.specs.declared.sum.Sum.{Sum as Digest}
use Rattle.smk_base.proofs.Places.{same_place}
use Rattle.smk_base.proofs.Under.{never_both}
use Rattle.smk_world.specs.declared.event.Node.{Node}
use Rattle.smk_world.specs.declared.event.Node.TheVariants.{Regular, Directory}
use Rattle.smk_world.specs.World.{folders_above}
use Rattle.smk_world.specs.Calls.{stat_of}
use Rattle.smk_world.specs.Trees.{Path, Each, among, is_path_text}
use Rattle.smk_record.specs.declared.record.Record.{Record}
use Rattle.smk_record.specs.declared.record.Stamp.{Stamp}
use Rattle.smk_record.specs.declared.record.Stamp.TheVariants.{Time, Sum}
use Rattle.smk_record.specs.Records.{core, is_valid}
use Rattle.smk_store.specs.declared.store.Kept.{Kept}
use Rattle.smk_store.specs.declared.store.Kept.TheVariants.{Absent, Unreadable, Held}
use Rattle.smk_store.specs.Images.{Image, Content, content_of, readable, stands, core_at, file_at, is_source, is_covered, source_at}
use Rattle.smk_store.specs.Loading.{IsStoreOf}
use Rattle.smk_store.specs.Stores.{Known, entry_of, is_covered_in}
use Rattle.smk_store.specs.Trust.{is_folder_record, made_stamp, unmarked_stamp, holder, is_summed, sum_of, content_stamp, source_stamp, stamp_now}
use Rattle.smk_chain.specs.declared.jobs.Maker.{Maker}
use Rattle.smk_plan.specs.declared.seen.Sight.{Sight}
use Rattle.smk_plan.specs.Sights.{sight_at, HasSum, IsSeenAs, IsSourceSeen}
use Rattle.smk_plan.specs.States.{test_some}
use Rattle.smk_plan.specs.Summed.{is_seen_summed, needs_sum}
use Rattle.smk_plan_facts.specs.Facts.{told_sources, HasOwnRecords, IsToldAs}
use Rattle.smk_plan_facts.specs.Telling.{kept_of, mark_of, copied, stamp_by, nearer, nearest, product_in, file_stamp, stamp_seen, stamp_with, stamp_in}
use Rattle.smk_plan_facts.proofs.Tests.{find_last, none_some, some_same}

-- ## What is kept

kept_known : (k : Kept) (m n : Bool) → kept_of (if (stands k || (m || n)) then Some (record { kept = k; marked = m; noted = n }) else None) ≡ k
kept_known Absent true n = refl
kept_known Absent false true = refl
kept_known Absent false false = refl
kept_known Unreadable m n = refl
kept_known (Held r) m n = refl

mark_known : (k : Kept) (m n : Bool) → mark_of (if (stands k || (m || n)) then Some (record { kept = k; marked = m; noted = n }) else None) ≡ m
mark_known Absent true n = refl
mark_known Absent false true = refl
mark_known Absent false false = refl
mark_known Unreadable m n = refl
mark_known (Held r) m n = refl

valid_copied : (k : Kept) → ((r : Record) → readable k ≡ Some r → IsTrue (is_valid r)) → copied k ≡ k
valid_copied Absent valid = refl
valid_copied Unreadable valid = refl
valid_copied (Held r) valid = ap (λ b. if b then Held r else Unreadable) (valid r refl)

core_stamp : (r : Option Record) → made_stamp r ≡ made_stamp (option_map core r)
core_stamp None = refl
core_stamp (Some r) = refl

core_folder : (f : Path) (r : Option Record) → is_folder_record f r ≡ is_folder_record f (option_map core r)
core_folder f None = refl
core_folder f (Some r) = refl

core_reads : (r : Option Record) → is_some r ≡ is_some (option_map core r)
core_reads None = refl
core_reads (Some r) = refl

-- the stamp of the folder that was found, or else the one before
found_or : (Path → Option Stamp) → Option Stamp → Option Path → Option Stamp
found_or stamp before None = before
found_or stamp before (Some f) = stamp f

found_next : (stamp : Path → Option Stamp) (before : Option Stamp) (f : Path) (b : Bool) (o : Option Path) →
    found_or stamp (if b then stamp f else before) o ≡ found_or stamp before (option_or o (cond b (Some f) None))
unfolding found_or
found_next stamp before f true None = refl
found_next stamp before f false None = refl
found_next stamp before f b (Some g) = refl

found_none : (stamp : Path → Option Stamp) (o : Option Path) → found_or stamp None o ≡ option_and_then stamp o
unfolding found_or
found_none stamp None = refl
found_none stamp (Some f) = refl

module _ (image : Image) (store : List Known) (is : IsStoreOf image store) where
  pub kept_is : (p : Path) → kept_of (entry_of store p) ≡ image.kept p
  kept_is p = ap kept_of (is.entries p) ∙ kept_known (image.kept p) (image.marked p) (image.noted p)

  pub mark_is : (p : Path) → mark_of (entry_of store p) ≡ image.marked p
  mark_is p = ap mark_of (is.entries p) ∙ mark_known (image.kept p) (image.marked p) (image.noted p)

  pub copy_is : HasOwnRecords image → (p : Path) → copied (kept_of (entry_of store p)) ≡ image.kept p
  copy_is own p = ap copied (kept_is p) ∙ valid_copied (image.kept p) (λ r e. (own p r e).1)

  stamp_is : (p : Path) → stamp_by (entry_of store p) ≡ unmarked_stamp image p
  stamp_is p =
      ap (λ m. if m then None else made_stamp (readable (kept_of (entry_of store p)))) (mark_is p)
      ∙ ap (λ s. if image.marked p then None else s) (ap (λ k. made_stamp (readable k)) (kept_is p) ∙ core_stamp (readable (image.kept p)))

  abbrev speaks : Path → Bool
  speaks f = is_folder_record f (core_at image f)

  nearer_is : (f : Path) (found : Option Stamp) → nearer (entry_of store f) f found ≡ (if speaks f then unmarked_stamp image f else found)
  nearer_is f found =
      ap (λ k. if is_folder_record f (readable k) then stamp_by (entry_of store f) else found) (kept_is f)
      ∙ ap (λ b. if b then stamp_by (entry_of store f) else found) (core_folder f (readable (image.kept f)))
      ∙ ap (λ s. if speaks f then s else found) (stamp_is f)

  nearest_is : (folders : List Path) (found : Option Stamp) → nearest store found folders ≡ found_or (unmarked_stamp image) found (find speaks (reverse folders))
  unfolding found_or
  nearest_is [] found = refl
  nearest_is (f ∷ folders) found =
      nearest_is folders (nearer (entry_of store f) f found)
      ∙ ap (λ s. found_or (unmarked_stamp image) s (find speaks (reverse folders))) (nearer_is f found)
      ∙ found_next (unmarked_stamp image) found f (speaks f) (find speaks (reverse folders))
      ∙ ap (found_or (unmarked_stamp image) found) (sym (find_last speaks f folders))

  product_is : (p : Path) → product_in store p ≡ option_and_then (unmarked_stamp image) (holder image p)
  product_is p =
      ap (λ k. if is_some (readable k) then stamp_by (entry_of store p) else nearest store None (folders_above p)) (kept_is p)
      ∙ ap (λ b. if b then stamp_by (entry_of store p) else nearest store None (folders_above p)) (core_reads (readable (image.kept p)))
      ∙ go (is_some (core_at image p))
    where
      go : (b : Bool) → (if b then stamp_by (entry_of store p) else nearest store None (folders_above p))
          ≡ option_and_then (unmarked_stamp image) (if b then Some p else find speaks (reverse (folders_above p)))
      go true = stamp_is p
      go false = nearest_is (folders_above p) None ∙ found_none (unmarked_stamp image) (find speaks (reverse (folders_above p)))

-- ## Stamps

-- the stamp of what was seen is that of the file
file_seen : (n : Option Node) (d : Option Digest) → file_stamp (stat_of n) d ≡ option_map (λ (f : Content). stamp_with f.time d) (content_of n)
file_seen None d = refl
file_seen (Some Directory) d = refl
file_seen (Some (Regular bytes time read_only)) d = refl

-- what isn't covered, and is told to be a source, is one where a file stands there
source_seen_at : (covered path : Bool) (file : Option Content) (stamp : Content → Stamp) → path ≡ true →
    (if not covered then option_map stamp file else None) ≡ option_map stamp (if path && (is_some file && not covered) then file else None)
source_seen_at covered false file stamp is = absurd (never_both false is refl)
source_seen_at true true None stamp is = refl
source_seen_at true true (Some f) stamp is = refl
source_seen_at false true None stamp is = refl
source_seen_at false true (Some f) stamp is = refl

-- the stamp now: of the source, or else of the product
now_by : (b : Bool) (file : Option Content) (product : Option Stamp) → (b ≡ true → is_some file ≡ true) →
    (if b then source_stamp (if b then file else None) else product) ≡ option_or (source_stamp (if b then file else None)) product
now_by true None product some = absurd (never_both false (some refl) refl)
now_by true (Some f) product some = refl
now_by false file product some = refl

file_of_source : (path covered : Bool) (file : Option Content) → (path && (is_some file && not covered)) ≡ true → is_some file ≡ true
file_of_source true covered None is = absurd (never_both false is refl)
file_of_source true covered (Some f) is = refl
file_of_source false covered file is = absurd (never_both false is refl)

-- a source is the file there
source_file : (b : Bool) (file : Option Content) (f : Content) → (if b then file else None) ≡ Some f → file ≡ Some f
source_file true file f is = is
source_file false file f is = absurd (none_some f is)

-- the stamp of a source is its time with its SHA-256, where that is taken
with_sum : (f : Content) (c : Digest) → is_summed f.bytes ≡ true → sum_of f.bytes ≡ c → content_stamp f ≡ Sum f.time c
with_sum f c small same = ap (λ b. if b then Sum f.time (sum_of f.bytes) else Time f.time) small ∙ ap (Sum f.time) same

-- the stamp of a product
abbrev product_now : Image → Path → Option Stamp
product_now image p = option_and_then (unmarked_stamp image) (holder image p)

now_is : (image : Image) (p : Path) → stamp_now image p ≡ option_or (source_stamp (source_at image p)) (product_now image p)
now_is image p =
    now_by (is_source image p) (file_at image p) (product_now image p) (file_of_source (is_path_text p) (is_covered image p) (file_at image p))

-- what isn't a source has the stamp of a product
no_source_now : (image : Image) (p : Path) → is_source image p ≡ false → stamp_now image p ≡ product_now image p
no_source_now image p none = ap (λ b. if b then source_stamp (source_at image p) else product_now image p) none

module _ (image : Image) (records : List Record) (p : Path) where
  -- the path, if it is a source, was digested if a record needs it
  abbrev IsSummedWith : Option Digest → Type 0
  IsSummedWith d = (f : Content) → source_at image p ≡ Some f → is_summed f.bytes ≡ true → needs_sum records p f.time ≡ true → is_some d ≡ true

  -- the time of a source, with the digest that was taken of it, is as good as its stamp now
  as_good : (d : Option Digest) (f : Content) → HasSum image p d → IsSummedWith d → source_at image p ≡ Some f → stamp_now image p ≡ Some (content_stamp f) →
      IsToldAs image records p (Some (stamp_with f.time d))
  as_good (Some c) f has summed source now =
      let same : has.0 ≡ f = some_same has.0 f (sym has.1 ∙ source_file (is_source image p) (file_at image p) f source) in
      inl (ap Some (sym (with_sum f c (ap (λ (g : Content). is_summed g.bytes) (sym same) ∙ has.2) (ap (λ (g : Content). sum_of g.bytes) (sym same) ∙ has.3))) ∙ sym now)
  as_good None f has summed source now = go (is_summed f.bytes) (needs_sum records p f.time) refl refl
    where
      go : (small needed : Bool) → is_summed f.bytes ≡ small → needs_sum records p f.time ≡ needed → IsToldAs image records p (Some (Time f.time))
      go false needed small need = inl (ap Some (sym (ap (λ b. if b then Sum f.time (sum_of f.bytes) else Time f.time) small)) ∙ sym now)
      go true false small need = inr (f, source, refl, need)
      go true true small need = absurd (never_both false (summed f source small need) refl)

  seen_as_good : (d : Option Digest) → HasSum image p d → IsSummedWith d →
      IsToldAs image records p (option_or (option_map (λ (f : Content). stamp_with f.time d) (source_at image p)) (product_now image p))
  seen_as_good d has summed = go (source_at image p) refl
    where
      go : (o : Option Content) → source_at image p ≡ o → IsToldAs image records p (option_or (option_map (λ (f : Content). stamp_with f.time d) o) (product_now image p))
      go None at = inl (sym (now_is image p ∙ ap (λ x. option_or (source_stamp x) (product_now image p)) at))
      go (Some f) at = as_good d f has summed at (now_is image p ∙ ap (λ x. option_or (source_stamp x) (product_now image p)) at)

-- The stamp of a path that is told to be a source where it is one, is seen as it stands there, and was digested if one of these records needs it, is as good
-- as the one now.
pub stamp_told : (image : Image) (store : List Known) (sights : List Sight) (told : List Path) (records : List Record) (p : Path) → IsStoreOf image store →
    is_path_text p ≡ true → (among told p ≡ true → IsSeenAs image sights p) → (is_source image p ≡ true → among told p ≡ true) →
    ((f : Content) → source_at image p ≡ Some f → is_summed f.bytes ≡ true → needs_sum records p f.time ≡ true → is_seen_summed sights p ≡ true) →
    IsToldAs image records p (stamp_in store sights (among told) p)
stamp_told image store sights told records p is text seen source summed = go (among told p) refl
  where
    -- by whether it is told to be a source
    go : (b : Bool) → among told p ≡ b → IsToldAs image records p (option_or (if b && not (is_covered_in store p) then stamp_seen (sight_at sights p) else None) (product_in store p))
    go false e =
        inl
        (product_is image store is p
        ∙ sym (no_source_now image p (false_from_ne_true (is_source image p) (λ at. absurd (never_both (among told p) (source at) e)))))
    go true e =
        let sight = seen e in
        subst (IsToldAs image records p)
        (sym
        (ap (λ s. option_or (if not (is_covered_in store p) then stamp_seen (sight_at sights p) else None) s) (product_is image store is p)
        ∙ ap (λ c. option_or (if not c then stamp_seen (sight_at sights p) else None) (product_now image p)) (is.covered p)
        ∙ ap (λ o. option_or (if not (is_covered image p) then stamp_seen o else None) (product_now image p)) sight.1
        ∙ ap (λ o. option_or (if not (is_covered image p) then o else None) (product_now image p)) (file_seen (image.node p) sight.0)
        ∙ ap (λ o. option_or o (product_now image p)) (source_seen_at (is_covered image p) (is_path_text p) (file_at image p) (λ (f : Content). stamp_with f.time sight.0) text)))
        (seen_as_good image records p sight.0 sight.2
        (λ f at small need. ap (test_some (λ (s : Sight). is_some s.sum)) (sym sight.1) ∙ summed f at small need))

-- a path that the makers tell to be a source is seen as it stands
pub source_seen : (image : Image) (sights : List Sight) (makers : List Maker) (p : Path) → Each (IsSourceSeen image sights) makers → among (told_sources makers) p ≡ true → IsSeenAs image sights p
source_seen image sights [] p seen at = absurd (never_both false at refl)
source_seen image sights (m ∷ makers) p seen at = go (m.job) refl at (source_seen image sights makers p seen.1)
  where
    here : (b : Bool) → m.job ≡ None → bytes_eq p m.path ≡ b → (b || among (told_sources makers) p) ≡ true → (among (told_sources makers) p ≡ true → IsSeenAs image sights p) → IsSeenAs image sights p
    here true none e k more = subst (IsSeenAs image sights) (sym (same_place p m.path e)) (seen.0 none)
    here false none e k more = more k

    go : (o : Option ℕ) → m.job ≡ o → among (map (λ (x : Maker). x.path) (cond (is_none o) (m ∷ filter (λ (x : Maker). is_none x.job) makers) (filter (λ (x : Maker). is_none x.job) makers))) p ≡ true →
        (among (told_sources makers) p ≡ true → IsSeenAs image sights p) → IsSeenAs image sights p
    go None e k more = here (bytes_eq p m.path) e refl k more
    go (Some n) e k more = more k
