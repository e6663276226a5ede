-- Images in which paths are forgotten, one after another.
use Rattle.std.proofs.Common.{◌≡◌, Bool, true, false, ◌||◌, not, List, [], ◌∷◌, ◌++◌, refl, sym, ap, subst, ◌∙◌, bytes_eq, append_assoc, append-nil, None, Ok, true≢false}
use Rattle.std.specs.Prelude.{filter, if◌then◌else◌}
use Rattle.std.proofs.lemmas.Bool.{or_parts}
use Rattle.smk_base.specs.Path.{is_under, is_at_or_under, own_folder}
use Rattle.smk_base.specs.Place.{record_place, mark_place, note_place, lock_place}
use Rattle.smk_base.proofs.Apart.{outside-own, record-lock}
use Rattle.smk_base.proofs.Places.{same_place}
use Rattle.smk_base.proofs.Under.{at_when_under, false_of_not, false_unless, never_both, overlaps_above_both}
use Rattle.smk_world.specs.declared.event.Event.{Event}
use Rattle.smk_world.specs.Runs.{Follows}
use Rattle.smk_world.specs.Trees.{Path, Act, among, is_path_text}
use Rattle.smk_world.specs.World.{World, run, reading, is_within}
use Rattle.smk_world.proofs.Devices.{looks_nodes}
use Rattle.smk_world.proofs.Runs.{run_append}
use Rattle.smk_record.specs.Reading.{record_in}
use Rattle.smk_store.specs.declared.store.Kept.{Kept}
use Rattle.smk_store.specs.declared.store.Kept.TheVariants.{Absent, Unreadable, Held}
use Rattle.smk_store.specs.Images.{Image, is_outside, kept_by, stands}
use Rattle.smk_keep_lock.specs.Changing.{ChangesOnly}
use Rattle.smk_keep_lock.proofs.Staying.{changes_only}
use Rattle.smk_keep_forget.specs.Seen.{seen, forgotten, seen_before, seen_in_turn, unless_any, forgettable}
use Rattle.smk_keep_forget.specs.Turns.{HaveTurned, Looked, Turned}
use Rattle.smk_keep_forget.proofs.Forgetting.{follows_rest, forgotten_now, own_of}
use Rattle.smk_keep_forget.proofs.Going.{follows_first}
use Rattle.smk_keep_forget.proofs.Stores.{IsWithout}
use Rattle.smk_laws_keys.proofs.Kept.{forgotten_keep}
use Rattle.smk_laws_keys.proofs.Filters.{among_in, in_among, in_filter}
use Rattle.smk_laws_keys.proofs.Times.{IsLike, none_before}

-- ## All of some paths

abbrev pub forgotten_all : Image → List Path → Image
forgotten_all image [] = image
forgotten_all image (p ∷ ps) = forgotten_all (forgotten image p) ps

all_next : (image : Image) (ps : List Path) (p : Path) → forgotten_all image (ps ++ p ∷ []) ≡ forgotten (forgotten_all image ps) p
all_next image [] p = refl
all_next image (x ∷ ps) p = all_next (forgotten image x) ps p

pub in_turn_append : (image : Image) (ps qs : List Path) → seen_in_turn image (ps ++ qs) ≡ seen_in_turn image ps ++ seen_in_turn (forgotten_all image ps) qs
in_turn_append image [] qs = refl
in_turn_append image (p ∷ ps) qs =
    ap (λ l. seen_before image p ++ l) (in_turn_append (forgotten image p) ps qs)
    ∙ sym (append_assoc (seen_before image p) (seen_in_turn (forgotten image p) ps) (seen_in_turn (forgotten_all (forgotten image p) ps) qs))

nothing_before : (xs ys : List Path) → xs ++ ys ≡ [] → (xs ≡ []) × (ys ≡ [])
nothing_before [] ys h = (refl, h)
nothing_before (x ∷ xs) ys h = absurd cc

-- the paths before the first that is refused
pub forgettable_front : (image : Image) (done later : List Path) (p q : Path) (rest : List Path) → seen_in_turn image done ≡ [] → seen_before (forgotten_all image done) p ≡ q ∷ rest → forgettable image (done ++ p ∷ later) ≡ done
forgettable_front image [] later p q rest none first = ap (λ l. unless_any l (p ∷ forgettable (forgotten image p) later)) first
forgettable_front image (d ∷ done) later p q rest none first =
    let parts = nothing_before (seen_before image d) (seen_in_turn (forgotten image d) done) none in
    ap (λ l. unless_any l (d ∷ forgettable (forgotten image d) (done ++ p ∷ later))) parts.0 ∙ ap (λ l. d ∷ l) (forgettable_front (forgotten image d) done later p q rest parts.1 first)

-- ## One more path

absent_of : (k : Kept) → stands k ≡ false → k ≡ Absent
absent_of Absent h = refl
absent_of Unreadable h = absurd (true≢false h)
absent_of (Held r) h = absurd (true≢false h)

outside_own : (x : Path) → is_outside x ≡ true → is_at_or_under x own_folder ≡ false
outside_own x h = false_of_not (is_at_or_under x own_folder) h

within_none : (x p : Path) → is_outside x ≡ true → is_within x (own_of p) ≡ false
within_none x p h =
    let out = outside_own x h in
    ap (λ b. b || (is_within x (note_place p ∷ mark_place p ∷ []))) (outside-own x (record_place p) out refl).at_or_under
    ∙ ap (λ b. b || (is_within x (mark_place p ∷ []))) (outside-own x (note_place p) out refl).at_or_under
    ∙ ap (λ b. b || false) (outside-own x (mark_place p) out refl).at_or_under

abbrev SameOutside : World → World → Type 0
SameOutside v u = (x : Path) → is_outside x ≡ true → reading (u.nodes x) ≡ reading (v.nodes x)

same_node : (v u : World) → SameOutside v u → (x : Path) → (seen v).node x ≡ (seen u).node x
same_node v u same x = by (is_outside x) refl
  where
    by : (b : Bool) → is_outside x ≡ b → (if b then reading (v.nodes x) else None) ≡ (if b then reading (u.nodes x) else None)
    by true out = sym (same x out)
    by false out = refl

like_forgotten : (v u : World) (image : Image) (p : Path) → IsLike v image → IsWithout p (seen v) (seen u) → SameOutside v u → IsLike u (forgotten image p)
like_forgotten v u image p like gone same =
    record {
      kept = λ x. kept x (bytes_eq x p) refl;
      listed = λ x. listed x (bytes_eq x p) refl;
      node = λ x. like.node x ∙ same_node v u same x;
    }
  where
    kept : (x : Path) (b : Bool) → bytes_eq x p ≡ b → (if b then Absent else image.kept x) ≡ (seen u).kept x
    kept x true e =
        sym (ap (λ y. (seen u).kept y) (same_place x p e) ∙ absent_of ((seen u).kept p) (or_parts (stands ((seen u).kept p)) ((seen u).marked p || (seen u).noted p) gone.none).0)
    kept x false e = like.kept x ∙ sym (gone.kept x e)

    listed : (x : Path) (b : Bool) → bytes_eq x p ≡ b → stands (if b then Absent else image.kept x) ≡ true → among (filter (λ q. not (bytes_eq q p)) image.known) x ≡ true
    listed x true e h = absurd (true≢false (sym h))
    listed x false e h =
        among_in (filter (λ q. not (bytes_eq q p)) image.known) x (in_filter (λ q. not (bytes_eq q p)) image.known x (in_among image.known x (like.listed x h)) (ap not e))

like_same : (v u : World) (image : Image) → u.nodes ≡ v.nodes → IsLike v image → IsLike u image
like_same v u image same like =
    record {
      kept = λ x. like.kept x ∙ sym (ap (λ ns. if is_path_text x then kept_by record_in x (reading (ns (record_place x))) else Absent) same);
      listed = like.listed;
      node = λ x. like.node x ∙ same_node v u (λ y out. ap (λ ns. reading (ns y)) same) x;
    }

-- ## Turns

module _ (act : Act) (v : World) (image : Image) (like : IsLike v image) where
  pub like_now : (done : List Path) (es : List Event) → Follows act v es → HaveTurned v done es → IsLike (run v es) (forgotten_all image done)
  like_now done es follows (Looked _ h) = like_same v (run v es) image (looks_nodes false v es h) like
  like_now all log follows (Turned done _ p es fs _ k turned turn all_is log_is) =
      let both : Follows act v (es ++ fs) = subst (Follows act v) log_is follows in
      let u = run v es in
      let before = like_now done es (follows_first act es fs v both) turned in
      let gone = forgotten_now u p act k fs (follows_rest act es fs v both) (turn.known k refl) turn.did.1 in
      let same : SameOutside u (run u fs) = λ x out. sym (changes_only (own_of p) [] u fs (forgotten_keep turn.store p (Ok k) u fs turn.did) x (within_none x p out) refl).0 in
      subst (λ l. IsLike (run v l) (forgotten_all image all)) (sym log_is)
      (subst (λ x. IsLike x (forgotten_all image all)) (sym (run_append v es fs))
      (subst (IsLike (run u fs)) (sym (ap (forgotten_all image) all_is ∙ all_next image done p)) (like_forgotten u (run u fs) (forgotten_all image done) p before gone same)))

  -- no time was seen of these
  pub none_in_turn : (done : List Path) (es : List Event) → Follows act v es → HaveTurned v done es → seen_in_turn image done ≡ []
  none_in_turn done es follows (Looked _ h) = refl
  none_in_turn all log follows (Turned done _ p es fs _ k turned turn all_is log_is) =
      let both : Follows act v (es ++ fs) = subst (Follows act v) log_is follows in
      let first = follows_first act es fs v both in
      ap (seen_in_turn image) all_is
      ∙ in_turn_append image done (p ∷ [])
      ∙ ap (λ l. l ++ (seen_before (forgotten_all image done) p ++ [])) (none_in_turn done es first turned)
      ∙ append-nil (seen_before (forgotten_all image done) p)
      ∙ none_before (run v es) (forgotten_all image done) (like_now done es first turned) turn.store turn.is_store p turn.did.0

-- ## Under the lock

not_above : (x : Path) → is_outside x ≡ true → is_under lock_place x ≡ false
not_above x h =
    false_unless (is_under lock_place x)
    (λ under. never_both _ (overlaps_above_both lock_place x own_folder (at_when_under lock_place x under) refl) (outside-own x own_folder (outside_own x h) refl).overlap)

-- taking the lock leaves all that counts
pub like_taken : (w v : World) → ChangesOnly (lock_place ∷ []) (lock_place ∷ []) w v → IsLike w (seen w) → IsLike v (seen w)
like_taken w v only like =
    record {
      kept = λ x. ap (λ n. if is_path_text x then kept_by record_in x n else Absent)
          (only (record_place x) (ap (λ b. b || false) (record-lock x).at_or_under) (ap (λ b. b || false) (record-lock x).over)).0;
      listed = like.listed;
      node = λ x. same_node w v
          (λ y out. sym (only y (ap (λ b. b || false) (outside-own y lock_place (outside_own y out) refl).at_or_under) (ap (λ b. b || false) (not_above y out))).0) x;
    }
