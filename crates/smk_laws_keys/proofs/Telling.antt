-- Which answers `--cleanup-metadata` has.
use Rattle.std.proofs.Common.{◌≡◌, inl, Bool, true, false, ◌&&◌, ◌||◌, not, List, [], ◌∷◌, ◌++◌, refl, sym, ap, subst, ◌∙◌, append-nil, Option, Some, None, Result, Ok, Err, true≢false}
use Rattle.std.specs.Prelude.{if◌then◌else◌, is_some}
use Rattle.smk_keep_forget.proofs.Stores.{in_right}
use Rattle.smk_laws_keys.proofs.Safe.{each_in}
use Rattle.smk_base.specs.Path.{is_path, is_at_or_under, own_folder}
use Rattle.smk_base.specs.Place.{lock_place}
use Rattle.smk_base.proofs.Apart.{path_outside, outside-own}
use Rattle.smk_base.proofs.Places.{and_first}
use Rattle.smk_base.proofs.Under.{both_true, false_unless, never_both, or_first, overlaps_above_both}
use Rattle.smk_world.specs.declared.event.Event.{Event}
use Rattle.smk_world.specs.declared.event.Node.{Node}
use Rattle.smk_world.specs.Runs.{Follows}
use Rattle.smk_world.specs.Trees.{Path, Act, IsIn, Each, among, is_path_text, is_text}
use Rattle.smk_world.specs.World.{World, IsFormed, run, reading}
use Rattle.smk_world.proofs.Devices.{looks_nodes}
use Rattle.smk_world.proofs.Runs.{run_append}
use Rattle.smk_record.specs.Reading.{record_in}
use Rattle.smk_store.specs.Images.{Content, Image, content_of, is_outside, stands}
use Rattle.smk_chain_derive.proofs.Seen.{seen_lists_known}
use Rattle.smk_keep_forget.specs.declared.fault.ForgetFault.{ForgetFault}
use Rattle.smk_keep_forget.specs.declared.fault.ForgetFault.TheVariants.{Locked, StampSeen, Device, Output, OutOfMemory}
use Rattle.smk_keep_forget.specs.Cleaning.{Unheeded, Unmade, Untaken, Stood, Taken}
use Rattle.smk_keep_forget.specs.Seen.{seen, is_let_in, forgettable, forgotten, seen_before, seen_in_turn}
use Rattle.smk_keep_forget.specs.Steps.{HasEnded, Broken, Closed, Unclosed}
use Rattle.smk_keep_forget.specs.Turns.{HasGone}
use Rattle.smk_keep_forget.proofs.Forgetting.{follows_rest}
use Rattle.smk_keep_forget.proofs.Going.{follows_first, known_now}
use Rattle.smk_keep_forget.proofs.Turns.{known_same}
use Rattle.smk_laws_keys.specs.Keys.{AreForgotten}
use Rattle.smk_laws_keys.proofs.Little.{each_known, of_release, still_forgotten}
use Rattle.smk_laws_keys.specs.Stamps.{IsMet, CleaningMeetsStamps, RefusedLeavesFront}
use Rattle.smk_laws_keys.proofs.Filters.{in_among, rises}
use Rattle.smk_laws_keys.proofs.Times.{IsLike, first_before}
use Rattle.smk_laws_keys.proofs.Turns.{forgettable_front, forgotten_all, in_turn_append, like_now, like_taken, none_in_turn}

-- a path that is outside keeps what is under it outside
outside_under : (p q : Path) → is_path_text p ≡ true → is_at_or_under q p ≡ true → is_outside q ≡ true
outside_under p q text under =
    let out = path_outside p (and_first (is_path p) (is_text p) text) in
    ap not (false_unless (is_at_or_under q own_folder) (λ inside. never_both _ (overlaps_above_both q p own_folder under inside) (outside-own p own_folder out refl).overlap))

content_some : (n : Option Node) (f : Content) → content_of n ≡ Some f → is_some n ≡ true
content_some None f h = absurd cc
content_some (Some n) f h = refl

all_names : (image : Image) (ps : List Path) → (forgotten_all image ps).names ≡ image.names
all_names image [] = refl
all_names image (p ∷ ps) = all_names (forgotten image p) ps

all_nodes : (image : Image) (ps : List Path) (x : Path) → (forgotten_all image ps).node x ≡ image.node x
all_nodes image [] x = refl
all_nodes image (p ∷ ps) x = all_nodes (forgotten image p) ps x

-- ## The image of the entry

module _ (act : Act) (w : World) (formed : IsFormed w) where
  start : IsLike w (seen w)
  start = record {
    kept = λ x. refl;
    listed = λ x h. (seen_lists_known w formed record_in).each x ∙ or_first (stands ((seen w).kept x)) ((seen w).marked x || (seen w).noted x) h;
    node = λ x. refl;
  }

  abbrev has_name : Path → Bool
  has_name x = is_outside x && is_some (reading (w.nodes x))

  there : (u : World) (done : List Path) → IsLike u (forgotten_all (seen w) done) → (x : Path) (f : Content) → content_of (reading (u.nodes x)) ≡ Some f → is_outside x ≡ true → (IsIn w.names x) × (has_name x ≡ true)
  there u done like x f h out =
      let node : reading (u.nodes x) ≡ reading (w.nodes x) =
      sym (ap (λ b. if b then reading (u.nodes x) else None) out) ∙ sym (like.node x) ∙ all_nodes (seen w) done x ∙ ap (λ b. if b then reading (w.nodes x) else None) out in
      let some : is_some (reading (w.nodes x)) ≡ true = sym (ap is_some node) ∙ content_some (reading (u.nodes x)) f h in
      (in_among w.names x (by (among w.names x) refl some), both_true (is_outside x) (is_some (reading (w.nodes x))) out some)
    where
      by : (b : Bool) → among w.names x ≡ b → is_some (reading (w.nodes x)) ≡ true → among w.names x ≡ true
      by true e some = e
      by false e some = absurd (true≢false (sym some ∙ ap is_some (formed.complete x e)))

  module _ (v : World) (like : IsLike v (seen w)) (paths : List Path) (log : List Event) (follows : Follows act v log) where
    first_of : (r : Result (Unit {0}) ForgetFault) (g : HasGone paths r v log) → Follows act v g.turns
    first_of r g = follows_first act g.turns g.last v (subst (Follows act v) g.events follows)

    none_seen : (g : HasGone paths (Ok tt) v log) → seen_in_turn (seen w) paths ≡ []
    none_seen g =
        ap (seen_in_turn (seen w)) (g.split ∙ ap (λ l. g.done ++ l) g.ends.0 ∙ append-nil g.done) ∙ none_in_turn act v (seen w) like g.done g.turns (first_of (Ok tt) g) g.turned

    -- the path in its turn, and what was seen then
    seen_then : (q : Path) (g : HasGone paths (Err (StampSeen q)) v log) → Each (λ p. is_path_text p ≡ true) paths → (rest : List Path) × (seen_before (forgotten_all (seen w) g.done) g.ends.0 ≡ q ∷ rest)
    seen_then q g texts =
        let p = g.ends.0 in
        let turn = g.ends.3 in
        let u = run v g.turns in
        let image = forgotten_all (seen w) g.done in
        let likely = like_now act v (seen w) like g.done g.turns (first_of (Err (StampSeen q)) g) g.turned in
        let text = each_in (λ x. is_path_text x ≡ true) paths p texts
        (subst (λ l. IsIn l p) (sym g.split) (in_right g.done g.later p (subst (λ l. IsIn l p) (sym g.ends.2) (inl refl)))) in
        first_before u image likely turn.store turn.is_store p q w.names has_name (all_names (seen w) g.done) (rises w.names formed.rising) (there u g.done likely)
        (outside_under p q text turn.did.0.seen.under) (turn.rising q refl) turn.did.0

    first_seen : (q : Path) (g : HasGone paths (Err (StampSeen q)) v log) → Each (λ p. is_path_text p ≡ true) paths → (rest : List Path) × (seen_in_turn (seen w) paths ≡ q ∷ rest)
    first_seen q g texts =
        let p = g.ends.0 in
        let image = forgotten_all (seen w) g.done in
        let r = seen_then q g texts in
        let later = seen_in_turn (forgotten image p) g.ends.1 in (
          r.0 ++ later,
          ap (seen_in_turn (seen w)) (g.split ∙ ap (λ l. g.done ++ l) g.ends.2)
              ∙ in_turn_append (seen w) g.done (p ∷ g.ends.1)
              ∙ ap (λ l. l ++ (seen_before image p ++ later)) (none_in_turn act v (seen w) like g.done g.turns (first_of (Err (StampSeen q)) g) g.turned)
              ∙ ap (λ l. l ++ later) r.1,
        )

    -- the paths that may be forgotten are those before
    front_is : (q : Path) (g : HasGone paths (Err (StampSeen q)) v log) → Each (λ p. is_path_text p ≡ true) paths → forgettable (seen w) paths ≡ g.done
    front_is q g texts =
        let r = seen_then q g texts in
        ap (forgettable (seen w)) (g.split ∙ ap (λ l. g.done ++ l) g.ends.2)
        ∙ forgettable_front (seen w) g.done g.ends.1 g.ends.0 q r.0 (none_in_turn act v (seen w) like g.done g.turns (first_of (Err (StampSeen q)) g) g.turned) r.1

    forgotten_front : (q : Path) (g : HasGone paths (Err (StampSeen q)) v log) → AreForgotten g.done (run v log)
    forgotten_front q g =
        let u = run v g.turns in
        let at : run v log ≡ run u g.last = ap (run v) g.events ∙ run_append v g.turns g.last in
        subst (AreForgotten g.done) (sym at)
        (each_known v (run u g.last) g.done g.done (λ p i. i)
        (λ x. known_same (run u g.last) u (looks_nodes false u g.last g.ends.3.did.1) x ∙ known_now act v g.done g.turns (first_of (Err (StampSeen q)) g) g.turned x))

    answers : (nolock : Bool) (r : Result (Unit {0}) ForgetFault) → Each (λ p. is_path_text p ≡ true) paths → is_let_in nolock w ≡ true → HasGone paths r v log → IsMet paths nolock r w
    answers nolock (Ok u) texts let_in g = (let_in, none_seen g)
    answers nolock (Err Locked) texts let_in g = absurd g.ends
    answers nolock (Err (StampSeen q)) texts let_in g = (let_in, first_seen q g texts)
    answers nolock (Err Device) texts let_in g = tt
    answers nolock (Err Output) texts let_in g = let_in
    answers nolock (Err OutOfMemory) texts let_in g = tt

-- ## The whole

let_in_taken : (w : World) → reading (w.nodes lock_place) ≡ None → is_let_in false w ≡ true
let_in_taken w h = ap (λ n. not (is_some n)) h

pub met : CleaningMeetsStamps
met act paths nolock r w log formed texts follows (Unheeded _ _ _ gone) = answers act w formed w (start act w formed) paths log follows true r texts refl gone
met act paths nolock _ w _ formed texts follows (Unmade _) = tt
met act paths nolock _ w log formed texts follows (Untaken x _ _ taken) = tt
met act paths nolock _ w log formed texts follows (Stood _ _ taken) = ap not (taken.stood refl).0
met act paths nolock r w log formed texts follows (Taken _ _ es fs _ taken ended log_is) =
    let both : Follows act w (es ++ fs) = subst (Follows act w) log_is follows in
    by r fs (follows_rest act es fs w both) ended
  where
    v : World
    v = run w es

    like : IsLike v (seen w)
    like = like_taken w v taken.only (start act w formed)

    by : (r : Result (Unit {0}) ForgetFault) (fs : List Event) → Follows act v fs → HasEnded paths r v fs → IsMet paths false r w
    by r fs follows (Broken _ _ _ gone is) = answers act w formed v like paths fs follows false r texts (let_in_taken w (taken.taken refl).0) gone
    by r fs follows (Closed _ _ hs gs _ gone is release log_is) =
        answers act w formed v like paths hs (follows_first act hs gs v (subst (Follows act v) log_is follows)) false r texts (let_in_taken w (taken.taken refl).0) gone
    by _ fs follows (Unclosed r x _ hs gs _ gone is release log_is) = tt

pub front : RefusedLeavesFront
front act paths nolock q w log formed texts follows (Unheeded _ _ _ gone) =
    subst (λ ps. AreForgotten ps (run w log)) (sym (front_is act w formed w (start act w formed) paths log follows q gone texts)) (forgotten_front act w formed w (start act w formed) paths log follows q gone)
front act paths nolock q w log formed texts follows (Taken _ _ es fs _ taken ended log_is) =
    let both : Follows act w (es ++ fs) = subst (Follows act w) log_is follows in
    subst (AreForgotten (forgettable (seen w) paths)) (sym (ap (run w) log_is ∙ run_append w es fs)) (by fs (follows_rest act es fs w both) ended)
  where
    v : World
    v = run w es

    like : IsLike v (seen w)
    like = like_taken w v taken.only (start act w formed)

    by : (fs : List Event) → Follows act v fs → HasEnded paths (Err (StampSeen q)) v fs → AreForgotten (forgettable (seen w) paths) (run v fs)
    by fs follows (Broken _ _ _ gone is) = absurd (true≢false (sym is))
    by fs follows (Closed _ _ hs gs _ gone is release log_is) =
        let first = follows_first act hs gs v (subst (Follows act v) log_is follows) in
        let u = run v hs in
        subst (AreForgotten (forgettable (seen w) paths)) (sym (ap (run v) log_is ∙ run_append v hs gs))
        (subst (λ ps. AreForgotten ps (run u gs)) (sym (front_is act w formed v like paths hs first q gone texts))
        (still_forgotten act paths gone.done u (run u gs) (of_release u (run u gs) release.only) (forgotten_front act w formed v like paths hs first q gone)))
