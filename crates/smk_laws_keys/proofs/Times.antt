-- Times that an image's records hold, and those of a store.
use Rattle.std.proofs.Common.{◌≡◌, ◌⊎◌, inl, inr, ℕ, Bool, true, false, ◌&&◌, ◌||◌, List, [], ◌∷◌, ◌++◌, map, refl, sym, ap, subst, ◌∙◌, bytes_eq, eq-eqb, eqb-true, Option, Some, None, true≢false}
use Rattle.std.specs.Prelude.{◌==◌, filter, if◌then◌else◌, option_map}
use Rattle.std.specs.Cmp.Lexicographic.{slice_cmp}
use Rattle.std.specs.Ordering.{nat_cmp}
use Rattle.std.specs.declared.cmp.Ordering.TheVariants.{Less}
use Rattle.smk_keep_forget.proofs.Stores.{in_right}
use Rattle.smk_laws_keys.proofs.Kept.{in_left}
use Rattle.smk_base.specs.Path.{is_at_or_under}
use Rattle.smk_base.proofs.Places.{and_first, and_second, same_place, place_itself}
use Rattle.smk_base.proofs.Under.{both_true, false_unless, or_first}
use Rattle.smk_world.specs.Trees.{Path, IsIn, among}
use Rattle.smk_world.specs.World.{World, reading}
use Rattle.smk_record.specs.declared.record.Record.{Record}
use Rattle.smk_record.specs.declared.record.Stamp.{Stamp}
use Rattle.smk_record.specs.Records.{are_rising, core, source_time, stamped}
use Rattle.smk_record.proofs.Rising.{Above, less_itself, rising_rest, rising_first}
use Rattle.smk_store.specs.declared.store.Entry.{Entry}
use Rattle.smk_store.specs.declared.store.Kept.{Kept}
use Rattle.smk_store.specs.declared.store.Kept.TheVariants.{Absent, Unreadable, Held}
use Rattle.smk_store.specs.Forgetting.{AreUnseen, IsSeen, IsFirstSeen, all_inputs, inputs_of}
use Rattle.smk_store.specs.Images.{Image, Content, content_of, file_at, is_known, is_outside, readable, stands}
use Rattle.smk_store.specs.Loading.{IsStoreOf, entry_at, entry_in}
use Rattle.smk_store.specs.Stores.{Known, entry_of}
use Rattle.smk_keep_forget.specs.Seen.{holds_time, is_time, is_time_held, seen, seen_before}
use Rattle.smk_laws_keys.proofs.Filters.{any_in, in_any, in_among, none_left, first_left, Rises}

-- ## A record

time_is : (o : Option ℕ) (t : ℕ) → is_time o t ≡ true → o ≡ Some t
time_is None t h = absurd (true≢false (sym h))
time_is (Some u) t h = ap Some (eqb-true u t h)

pair_is : (q : Path) (t : ℕ) (x : Path) (s : Stamp) → (bytes_eq x q && is_time (source_time s) t) ≡ true → (x ≡ q) × (source_time s ≡ Some t)
pair_is q t x s h =
    (same_place x q (and_first (bytes_eq x q) (is_time (source_time s) t) h), time_is (source_time s) t (and_second (bytes_eq x q) (is_time (source_time s) t) h))

holds : (q : Path) (t : ℕ) (s : Stamp) (r : Record) → IsIn (stamped r) (q, s) → source_time s ≡ Some t → holds_time q t r ≡ true
holds q t s r i time =
    any_in (λ (e : Path × Stamp). bytes_eq e.0 q && is_time (source_time e.1) t) (stamped r) (q, s) i
    (both_true (bytes_eq q q) (is_time (source_time s) t) (place_itself q) (ap (λ (o : Option ℕ). is_time o t) time ∙ eq-eqb t t refl))

-- a stamp of the source with this time
record HasTime (inputs : List (Path × Stamp)) (q : Path) (t : ℕ) : Type 0 where
  stamp : Stamp
  held : IsIn inputs (q, stamp)
  time : source_time stamp ≡ Some t

held : (q : Path) (t : ℕ) (r : Record) → holds_time q t r ≡ true → HasTime (stamped r) q t
held q t r h =
    let k = in_any (λ (e : Path × Stamp). bytes_eq e.0 q && is_time (source_time e.1) t) (stamped r) h in
    let e = k.0 in
    let is = pair_is q t e.0 e.1 k.2 in
    record { stamp = e.1; held = subst (λ x. IsIn (stamped r) (x, e.1)) is.0 k.1; time = is.1 }

-- ## What is kept of a path

abbrev test : {A : Type 0} → (A → Bool) → Option A → Bool
test f None = false
test f (Some r) = f r

-- the record there holds the time
abbrev holds_at : Path → ℕ → Kept → Bool
holds_at q t kept = test (holds_time q t) (option_map core (readable kept))

kept_holds : (q : Path) (t : ℕ) (s : Stamp) (kept : Kept) → IsIn (inputs_of (readable kept)) (q, s) → source_time s ≡ Some t → holds_at q t kept ≡ true
kept_holds q t s Absent i time = absurd i
kept_holds q t s Unreadable i time = absurd i
kept_holds q t s (Held r) i time = holds q t s (core r) i time

kept_held : (q : Path) (t : ℕ) (kept : Kept) → holds_at q t kept ≡ true → (stands kept ≡ true) × HasTime (inputs_of (readable kept)) q t
kept_held q t Absent h = absurd (true≢false (sym h))
kept_held q t Unreadable h = absurd (true≢false (sym h))
kept_held q t (Held r) h = (refl, held q t (core r) h)

-- ## A store and its image

in_either : {A : Type 0} (xs ys : List A) (x : A) → IsIn (xs ++ ys) x → IsIn xs x ⊎ IsIn ys x
in_either [] ys x h = inr h
in_either (y ∷ xs) ys x (inl e) = inl (inl e)
in_either (y ∷ xs) ys x (inr h) = by (in_either xs ys x h)
  where
    by : IsIn xs x ⊎ IsIn ys x → IsIn (y ∷ xs) x ⊎ IsIn ys x
    by (inl k) = inl (inr k)
    by (inr k) = inr k

abbrev if_first : Bool → Entry → Option Entry → Option Entry
if_first b e more = if b then Some e else more

-- what is known of a path is in the store
in_store : (ks : List Known) (x : Path) (e : Entry) (i : Path × Stamp) → entry_of ks x ≡ Some e → IsIn (inputs_of (readable e.kept)) i → IsIn (all_inputs ks) i
in_store [] x e i at h = absurd cc
in_store (k ∷ ks) x e i at h = by (bytes_eq k.path x) at (λ a. in_store ks x e i a h)
  where
    same : Some k.entry ≡ Some e → k.entry ≡ e
    same s = cc

    by : (b : Bool) → if_first b k.entry (entry_of ks x) ≡ Some e → (entry_of ks x ≡ Some e → IsIn (all_inputs ks) i) → IsIn (all_inputs (k ∷ ks)) i
    by true a again = in_left (inputs_of (readable k.entry.kept)) (all_inputs ks) i (subst (λ (f : Entry). IsIn (inputs_of (readable f.kept)) i) (sym (same a)) h)
    by false a again = in_right (inputs_of (readable k.entry.kept)) (all_inputs ks) i (again a)

-- where its paths rise, what it has is known of a path
record IsOf (ks : List Known) (i : Path × Stamp) : Type 0 where
  path : Path
  entry : Entry
  at : entry_of ks path ≡ Some entry
  held : IsIn (inputs_of (readable entry.kept)) i

abbrev paths_of : List Known → List Path
paths_of ks = map (λ (k : Known). k.path) ks

in_above : (p : Path) (ps : List Path) (x : Path) → Above p ps → IsIn ps x → slice_cmp nat_cmp p x ≡ Less
in_above p [] x h i = absurd i
in_above p (y ∷ ps) x h (inl e) = subst (λ z. slice_cmp nat_cmp p z ≡ Less) (sym e) h.0
in_above p (y ∷ ps) x h (inr i) = in_above p ps x h.1 i

entry_in_paths : (ks : List Known) (x : Path) (e : Entry) → entry_of ks x ≡ Some e → IsIn (paths_of ks) x
entry_in_paths [] x e at = absurd cc
entry_in_paths (k ∷ ks) x e at = by (bytes_eq k.path x) refl at (entry_in_paths ks x e)
  where
    by : (b : Bool) → bytes_eq k.path x ≡ b → if_first b k.entry (entry_of ks x) ≡ Some e → (entry_of ks x ≡ Some e → IsIn (paths_of ks) x) → IsIn (k.path ∷ paths_of ks) x
    by true same a again = inl (sym (same_place k.path x same))
    by false same a again = inr (again a)

of_store : (ks : List Known) (i : Path × Stamp) → are_rising (paths_of ks) ≡ true → IsIn (all_inputs ks) i → IsOf ks i
of_store [] i rising h = absurd h
of_store (k ∷ ks) i rising h = by (in_either (inputs_of (readable k.entry.kept)) (all_inputs ks) i h) (of_store ks i (rising_rest k.path (paths_of ks) rising))
  where
    by : IsIn (inputs_of (readable k.entry.kept)) i ⊎ IsIn (all_inputs ks) i → (IsIn (all_inputs ks) i → IsOf ks i) → IsOf (k ∷ ks) i
    by (inl here) again =
        record { path = k.path; entry = k.entry; at = ap (λ b. if_first b k.entry (entry_of ks k.path)) (place_itself k.path); held = here }
    by (inr later) again =
        let o = again later in
        let below = in_above k.path (paths_of ks) o.path (rising_first k.path (paths_of ks) rising) (entry_in_paths ks o.path o.entry o.at) in
        let off : bytes_eq k.path o.path ≡ false = false_unless (bytes_eq k.path o.path) (λ same. less_itself o.path (subst (λ x. slice_cmp nat_cmp x o.path ≡ Less) (same_place k.path o.path same) below)) in
        record { path = o.path; entry = o.entry; at = ap (λ b. if_first b k.entry (entry_of ks o.path)) off ∙ o.at; held = o.held }

entry_kept : (b : Bool) (image : Image) (x : Path) (e : Entry) → (if b then Some (entry_at image x) else None) ≡ Some e → image.kept x ≡ e.kept
entry_kept true image x e h = let same : entry_at image x ≡ e = cc in ap (λ (f : Entry). f.kept) same
entry_kept false image x e h = absurd cc

entry_there : (image : Image) (x : Path) → stands (image.kept x) ≡ true → entry_in image x ≡ Some (entry_at image x)
entry_there image x h = ap (λ b. if b then Some (entry_at image x) else None) (or_first (stands (image.kept x)) (image.marked x || image.noted x) h)

-- ## An image in which some paths are forgotten

-- Of each path the image keeps what the world does, it lists what stands, and outside of the engine's folder it has the same files.
pub record IsLike (v : World) (image : Image) : Type 0 where
  pub kept : (x : Path) → image.kept x ≡ (seen v).kept x
  pub listed : (x : Path) → stands (image.kept x) ≡ true → among image.known x ≡ true
  pub node : (x : Path) → image.node x ≡ (seen v).node x

module _ (v : World) (image : Image) (like : IsLike v image) (ks : List Known) (store : IsStoreOf (seen v) ks) (p : Path) where
  file_there : (q : Path) (f : Content) → file_at image q ≡ Some f → content_of (reading (v.nodes q)) ≡ Some f
  file_there q f h = by (is_outside q) (ap content_of (sym (like.node q)) ∙ h)
    where
      by : (b : Bool) → content_of (if b then reading (v.nodes q) else None) ≡ Some f → content_of (reading (v.nodes q)) ≡ Some f
      by true k = k
      by false k = absurd cc

  time_seen : (q : Path) (f : Content) → is_at_or_under q p ≡ true → file_at image q ≡ Some f → is_time_held image q f.time ≡ true → IsSeen ks v p q
  time_seen q f under file h =
      let x = in_any (λ x. holds_at q f.time (image.kept x)) image.known h in
      let k = kept_held q f.time ((seen v).kept x.0) (ap (holds_at q f.time) (sym (like.kept x.0)) ∙ x.2) in
      record {
        under = under;
        file = f;
        stands = file_there q f file;
        stamp = k.1.stamp;
        held = in_store ks x.0 (entry_at (seen v) x.0) (q, k.1.stamp) (store.entries x.0 ∙ entry_there (seen v) x.0 k.0) k.1.held;
        same = k.1.time;
      }

  -- a name is left where a file of that name is there whose time is held
  abbrev pub counts : Path → Bool
  counts q = is_at_or_under q p && test (λ (f : Content). is_time_held image q f.time) (file_at image q)

  counted : (q : Path) → counts q ≡ true → IsSeen ks v p q
  counted q h = by (file_at image q) refl (and_second (is_at_or_under q p) _ h)
    where
      by : (o : Option Content) → file_at image q ≡ o → test (λ (f : Content). is_time_held image q f.time) o ≡ true → IsSeen ks v p q
      by None e k = absurd (true≢false (sym k))
      by (Some f) e k = time_seen q f (and_first (is_at_or_under q p) _ h) e k

  -- where no time was seen, none is left
  pub none_before : AreUnseen ks v p → seen_before image p ≡ []
  none_before unseen = none_left counts image.names (λ q. false_unless (counts q) (λ h. unseen q (counted q h)))

  -- The first that was seen is the first that is left.
  pub first_before : (q : Path) (names : List Path) (g : Path → Bool) → image.names ≡ filter g names → Rises names
      → ((x : Path) (f : Content) → content_of (reading (v.nodes x)) ≡ Some f → is_outside x ≡ true → (IsIn names x) × (g x ≡ true))
      → is_outside q ≡ true → are_rising (paths_of ks) ≡ true → IsFirstSeen ks v p q → (rest : List Path) × (seen_before image p ≡ q ∷ rest)
  first_before q names g are rise there out rising first =
      let file = first.seen.file in
      let o = of_store ks (q, first.seen.stamp) rising first.seen.held in
      let kept : image.kept o.path ≡ o.entry.kept = like.kept o.path ∙ entry_kept (is_known (seen v) o.path) (seen v) o.path o.entry (sym (store.entries o.path) ∙ o.at) in
      let holding : holds_at q file.time (image.kept o.path) ≡ true = ap (holds_at q file.time) kept ∙ kept_holds q file.time first.seen.stamp o.entry.kept o.held first.seen.same in
      let listed = like.listed o.path (kept_held q file.time (image.kept o.path) holding).0 in
      let timely : is_time_held image q file.time ≡ true = any_in (λ x. holds_at q file.time (image.kept x)) image.known o.path (in_among image.known o.path listed) holding in
      let at : file_at image q ≡ Some file = ap content_of (like.node q) ∙ ap (λ b. content_of (if b then reading (v.nodes q) else None)) out ∙ first.seen.stands in
      let count : counts q ≡ true = both_true (is_at_or_under q p) _ first.seen.under (ap (test (λ (f : Content). is_time_held image q f.time)) at ∙ timely) in
      let named = there q file first.seen.stands out in
      let r = first_left counts g q names rise named.0 named.1 count (λ x gx cx less. first.first x (counted x cx) less) in
      (r.0, ap (filter counts) are ∙ r.1)
