-- What stands at a job's outputs, records and marks once it was closed.
use Rattle.std.proofs.Common.{◌≡◌, inl, inr, ℕ, Bool, true, false, ◌||◌, List, [], ◌∷◌, ◌++◌, map, refl, sym, ap, subst, ◌∙◌, Some, None}
use Rattle.std.specs.Prelude.{if◌then◌else◌}
use Rattle.smk_base.specs.Place.{mark_place, record_place}
use Rattle.smk_base.proofs.Apart.{IsApart, apart_flipped, record-mark}
use Rattle.smk_world.specs.declared.event.Event.{Event}
use Rattle.smk_world.specs.declared.event.Node.TheVariants.{Directory, Regular}
use Rattle.smk_world.specs.declared.event.NodeState.{NodeState}
use Rattle.smk_world.specs.declared.event.NodeState.TheVariants.{Owned, Known}
use Rattle.smk_world.specs.declared.recipe.Kind.{Kind}
use Rattle.smk_world.specs.declared.recipe.Kind.TheVariants.{Folder as FolderKind, Plain}
use Rattle.smk_world.specs.declared.recipe.Out.{Out}
use Rattle.smk_world.specs.declared.recipe.Recipe.{Recipe}
use Rattle.smk_world.specs.Calls.{HoldsBytes, Reads}
use Rattle.smk_world.specs.Requests.{Request}
use Rattle.smk_world.specs.Requests.Request.{Look, ReadUpTo, ListFolder, Write, Create, Remove, MakeParents, Settle, Protect, Start, Wait}
use Rattle.smk_world.specs.Trees.{Act, Each, IsIn, Path, among, folders_of, is_folder_kind, outs_of}
use Rattle.smk_world.specs.World.{World, firm, firmly, is_above, is_within, out_paths}
use Rattle.smk_record.specs.declared.record.Member.{Member}
use Rattle.smk_record.specs.Records.{are_none, are_valid_members}
use Rattle.smk_store.specs.Steps.{places_of, remove_each, unmark_requests, write_each}
use Rattle.smk_laws_plan.proofs.CurrentLists.{map_in}
use Rattle.smk_job.specs.Sights.{AreSeen, IsOfKind, Nodes}
use Rattle.smk_job.proofs.Lists.{among_by}
use Rattle.smk_job.proofs.Outs.{paths_same}
use Rattle.smk_job.proofs.Single.{IsKnown, KeepsOff, Reaches, is_start, settled_firm, touches}
use Rattle.smk_job.proofs.Firmly.{in_within, reaches_keeps, reaches_split}
use Rattle.smk_laws_job.proofs.FinishRuns.{folder_among}
use Rattle.smk_laws_job.proofs.Readable.{AreFor}
use Rattle.smk_safe.proofs.Kept.{AllHold, AreDifferent}
use Rattle.smk_run.proofs.Calls.{each_append}
use Rattle.smk_laws_turns.proofs.ClosedCalls.{IsFree, IsOf, none_above, none_within}
use Rattle.smk_laws_turns.proofs.Touched.{removes_of}
use Rattle.smk_laws_turns.proofs.Effects.{AreKnownAt, IsRemoval, all_gone, all_written, covers_left}
use Rattle.smk_laws_turns.proofs.Effects.{covers_removed, covers_right, gone_firmly, known_reached, known_step, removals}

none_of : (a b : Bool) → a ≡ false → b ≡ false → (a || b) ≡ false
none_of a b h k = ap (λ x. x || b) h ∙ k

-- calls at places leave what is apart from these
touch_free : (ps : List Path) (r : Request) (q : Path) → IsOf ps r → IsFree ps q → touches r q ≡ false
touch_free ps (Look p) q of free = refl
touch_free ps (ReadUpTo p limit) q of free = refl
touch_free ps (ListFolder p) q of free = refl
touch_free ps (Write p bytes) q of free = (free p of).differed
touch_free ps (Create p) q of free = (free p of).differed
touch_free ps (Remove p) q of free = (free p of).at_or_over
touch_free ps (MakeParents p) q of free = (free p of).under
touch_free ps (Settle qs) q of free = none_of (is_within q qs) (is_above q qs) (none_within qs q (λ p i. free p (of p i)))
    (none_above qs q (λ p i. free p (of p i)))
touch_free ps (Protect p) q of free = (free p of).differed
touch_free ps (Start recipe logs command) q of free = absurd of
touch_free ps Wait q of free = absurd of

keeps_free : (ps : List Path) (rs : List Request) (q : Path) → Each (IsOf ps) rs → IsFree ps q → KeepsOff rs q
keeps_free ps [] q of free = tt
keeps_free ps (r ∷ rs) q of free = (touch_free ps r q of.0 free, keeps_free ps rs q of.1 free)

-- ## Which members may be recorded

-- so it is of each of these outputs, with its members
abbrev pub AllFor : Recipe → List Path → List (List Member) → Type 0
AllFor recipe [] ms = Unit {0}
AllFor recipe (p ∷ ps) [] = ⊥
AllFor recipe (p ∷ ps) (m ∷ ms) = AreFor recipe p m × AllFor recipe ps ms

is_for :
    (recipe : Recipe) (nodes : Nodes) (out : Out) (m : List Member) → IsIn (outs_of recipe) out → IsOfKind nodes out.path out.kind m →
    AreFor recipe out.path m
is_for recipe nodes out m i is = by out.kind refl
  where
    of_kind : (kind : Kind) → out.kind ≡ kind → IsOfKind nodes out.path kind m
    of_kind kind e = subst (λ k. IsOfKind nodes out.path k m) e is

    no_members : (b : Bool) → (if b then are_valid_members out.path [] else are_none []) ≡ true
    no_members true = refl
    no_members false = refl

    by : (kind : Kind) → out.kind ≡ kind → AreFor recipe out.path m
    by Plain e = subst (AreFor recipe out.path) (sym (of_kind Plain e).1) (no_members (among (folders_of recipe) out.path))
    by FolderKind e =
        ap (λ (b : Bool). if b then are_valid_members out.path m else are_none m)
        (among_by (folders_of recipe) out.path (folder_among (outs_of recipe) out i (ap is_folder_kind e)))
        ∙ (of_kind FolderKind e).1.valid

all_for :
    (recipe : Recipe) (nodes : Nodes) (outs : List Out) (ms : List (List Member)) (es : List Event) →
    ((out : Out) → IsIn outs out → IsIn (outs_of recipe) out) →
    AreSeen nodes outs ms es → AllFor recipe (map (λ (out : Out). out.path) outs) ms
all_for recipe nodes [] ms es all h = tt
all_for recipe nodes (out ∷ outs) [] es all h = absurd h
all_for recipe nodes (out ∷ outs) (m ∷ ms) es all (first, more, e, l, q, k, rest) =
    (is_for recipe nodes out m (all out (inl refl)) k, all_for recipe nodes outs ms more (λ o i. all o (inr i)) rest)

pub seen_for :
    (recipe : Recipe) (nodes : Nodes) (ms : List (List Member)) (es : List Event) → AreSeen nodes (outs_of recipe) ms es →
    AllFor recipe (out_paths recipe) ms
seen_for recipe nodes ms es h =
    subst (λ ps. AllFor recipe ps ms) (paths_same recipe.outputs) (all_for recipe nodes (outs_of recipe) ms es (λ o i. i) h)

-- ## A job that is finished

hold_firm : (s : NodeState) (bytes : List ℕ) → HoldsBytes bytes s → HoldsBytes bytes (firm s)
hold_firm Owned bytes h = absurd h
hold_firm (Known None besides) bytes h = absurd h
hold_firm (Known (Some (Regular held time read_only)) besides) bytes h = h
hold_firm (Known (Some Directory) besides) bytes h = absurd h

-- where each of these places stands as it did, or was made firm
pub hold_on :
    (w v : World) (ps : List Path) (bs : List (List ℕ)) →
    ((p : Path) → IsIn ps p → (bytes : List ℕ) → HoldsBytes bytes (w.nodes (record_place p)) → HoldsBytes bytes (v.nodes (record_place p))) →
    AllHold w ps bs → AllHold v ps bs
hold_on w v [] bs on h = tt
hold_on w v (p ∷ ps) [] on h = tt
hold_on w v (p ∷ ps) (b ∷ bs) on h = (on p (inl refl) b h.0, hold_on w v ps bs (λ x i. on x (inr i)) h.1)

record_within : (ps : List Path) (p : Path) → IsIn ps p → is_within (record_place p) (map record_place ps) ≡ true
record_within ps p i = in_within (map record_place ps) (record_place p) (mapped ps i)
  where
    mapped : (qs : List Path) → IsIn qs p → IsIn (map record_place qs) (record_place p)
    mapped [] k = absurd k
    mapped (q ∷ qs) (inl e) = inl (ap record_place e)
    mapped (q ∷ qs) (inr k) = inr (mapped qs k)

mark_within : (ps : List Path) (p : Path) → IsIn ps p → is_within (mark_place p) (map mark_place ps) ≡ true
mark_within ps p i = in_within (map mark_place ps) (mark_place p) (mapped ps i)
  where
    mapped : (qs : List Path) → IsIn qs p → IsIn (map mark_place qs) (mark_place p)
    mapped [] k = absurd k
    mapped (q ∷ qs) (inl e) = inl (ap mark_place e)
    mapped (q ∷ qs) (inr k) = inr (mapped qs k)

unmark_free : (ps : List Path) (p : Path) → IsFree (map mark_place ps) (record_place p)
unmark_free ps p q i =
    let m = map_in mark_place ps q i in
    subst (λ x. IsApart x (record_place p)) (sym m.2) (apart_flipped (record_place p) (mark_place m.0) (record-mark p m.0))

unmark_off : (ps logs : List Path) (p : Path) → KeepsOff (unmark_requests (places_of ps logs)) (record_place p)
unmark_off ps logs p =
    keeps_free (map mark_place ps) (unmark_requests (places_of ps logs)) (record_place p)
    (each_append (IsOf (map mark_place ps)) (remove_each (map mark_place ps)) (Settle (map mark_place ps) ∷ [])
    (removes_of (map mark_place ps) (map mark_place ps) (λ x i. i)) ((λ x i. i), tt))
    (unmark_free ps p)

no_start_writes : (ps : List Path) (bs : List (List ℕ)) → Each (λ r. is_start r ≡ false) (write_each ps bs)
no_start_writes [] bs = tt
no_start_writes (p ∷ ps) [] = tt
no_start_writes (p ∷ ps) (b ∷ bs) = (refl, (refl, no_start_writes ps bs))

no_start_removes : (ps : List Path) → Each (λ r. is_start r ≡ false) (remove_each ps)
no_start_removes [] = tt
no_start_removes (p ∷ ps) = (refl, no_start_removes ps)

-- what the calls of a job with these outputs leave that is finished
pub record HasKept (outs : List Path) (bytes : List (List ℕ)) (v : World) : Type 0 where
  pub records : AllHold v outs bytes
  pub marks : (p : Path) → IsIn outs p → v.nodes (mark_place p) ≡ firmly None

pub keeps :
    (act : Act) (outs logs : List Path) (bytes : List (List ℕ)) (u v : World) →
    Reaches act (Settle outs ∷ ((write_each (map record_place outs) bytes ++ Settle (map record_place outs) ∷ []) ++ unmark_requests
    (places_of outs logs))) u v →
    AreDifferent outs → AreKnownAt u outs → ((p : Path) → IsKnown (u.nodes (mark_place p))) → HasKept outs bytes v
keeps act outs logs bytes u v (a, s1, more) differ known marks_known =
    let records = map record_place outs in
    let put = write_each records bytes ++ Settle records ∷ [] in
    let parts = reaches_split act put (unmark_requests (places_of outs logs)) a v more in
    let writes = reaches_split act (write_each records bytes) (Settle records ∷ []) a parts.0 parts.1 in
    let held = all_written act outs bytes a writes.0 writes.1 differ (known_step act (Settle outs) u a outs s1 refl known) in
    let firmed : AllHold writes.2.0 outs bytes =
    hold_on writes.0 writes.2.0 outs bytes
    (λ p i b h. subst (HoldsBytes b) (sym (settled_firm act records writes.0 writes.2.0 (record_place p) writes.2.1 (record_within outs p i)))
    (hold_firm (writes.0.nodes (record_place p)) b h)) held in
    let there : AllHold parts.0 outs bytes = subst (λ (x : World). AllHold x outs bytes) (sym writes.2.2) firmed in
    record {
      records =
          hold_on parts.0 v outs bytes
          (λ p i b h. subst (HoldsBytes b) (sym (reaches_keeps act (unmark_requests (places_of outs logs)) parts.0 v (record_place p) parts.2
          (unmark_off outs logs p))) h) there;
      marks = λ p i.
          gone_firmly act (map mark_place outs) parts.0 v (mark_place p) parts.2 (mark_within outs p i)
          (known_reached act (Settle outs ∷ put) u parts.0 (mark_place p) (a, s1, parts.1)
          (refl, each_append (λ r. is_start r ≡ false) (write_each records bytes) (Settle records ∷ []) (no_start_writes records bytes) (refl, tt))
          (marks_known p));
    }

-- ## A job that is abandoned

-- what the calls of a job with these outputs leave that is abandoned
pub record HasLost (outs : List Path) (v : World) : Type 0 where
  pub outputs : (q : Path) → is_within q outs ≡ true → Reads None (v.nodes q)
  pub records : (p : Path) → IsIn outs p → Reads None (v.nodes (record_place p))
  pub marks : (p : Path) → IsIn outs p → v.nodes (mark_place p) ≡ firmly None

pub loses :
    (act : Act) (outs logs : List Path) (u v : World) →
    Reaches act ((remove_each outs ++ (remove_each (map record_place outs) ++ Settle (outs ++ map record_place outs) ∷ [])) ++ unmark_requests
    (places_of outs logs)) u v →
    ((q : Path) → is_within q outs ≡ true → IsKnown (u.nodes q)) → ((p : Path) → IsKnown (u.nodes (record_place p))) →
    ((p : Path) → IsKnown (u.nodes (mark_place p))) → HasLost outs v
loses act outs logs u v reached known_outs known_records known_marks =
    let records = map record_place outs in
    let marks = map mark_place outs in
    let drop = remove_each records ++ Settle (outs ++ records) ∷ [] in
    let first = remove_each outs ++ drop in
    let unmark = unmark_requests (places_of outs logs) in
    let are : Each IsRemoval (first ++ unmark) =
    each_append IsRemoval first unmark
    (each_append IsRemoval (remove_each outs) drop (removals outs) (each_append IsRemoval (remove_each records) (Settle (outs ++ records) ∷ [])
    (removals records) (tt, tt)))
    (each_append IsRemoval (remove_each marks) (Settle marks ∷ []) (removals marks) (tt, tt)) in
    let parts = reaches_split act first unmark u v reached in
    record {
      outputs = λ q within.
          all_gone act (first ++ unmark) u v q reached are
          (covers_left first unmark q (covers_left (remove_each outs) drop q (covers_removed outs q within))) (known_outs q within);
      records = λ p i.
          all_gone act (first ++ unmark) u v (record_place p) reached are
          (covers_left first unmark (record_place p)
          (covers_right (remove_each outs) drop (record_place p)
          (covers_left (remove_each records) (Settle (outs ++ records) ∷ []) (record_place p)
          (covers_removed records (record_place p) (record_within outs p i)))))
          (known_records p);
      marks = λ p i.
          gone_firmly act marks parts.0 v (mark_place p) parts.2 (mark_within outs p i)
          (known_reached act first u parts.0 (mark_place p) parts.1
          (each_append (λ r. is_start r ≡ false) (remove_each outs) drop (no_start_removes outs)
          (each_append (λ r. is_start r ≡ false) (remove_each records) (Settle (outs ++ records) ∷ []) (no_start_removes records) (refl, tt)))
          (known_marks p));
    }
