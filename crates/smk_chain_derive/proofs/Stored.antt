-- What the store has is what the image has.
use Rattle.std.proofs.Common.{◌≡◌, Bool, true, false, ◌||◌, ◌&&◌, not, List, [], ◌∷◌, ◌++◌, map, Some, None, refl, sym, ap, subst, ◌∙◌, bytes_eq}
use Rattle.std.specs.Prelude.{if◌then◌else◌, is_some}
use Rattle.std.specs.List.{filter}
use Rattle.std.specs.Cmp.Lexicographic.{slice_cmp}
use Rattle.std.specs.Ordering.{nat_cmp}
use Rattle.std.specs.declared.cmp.Ordering.TheVariants.{Less}
use Rattle.smk_base.specs.Path.{overlaps}
use Rattle.smk_base.proofs.Places.{same_place, place_itself}
use Rattle.smk_base.proofs.Under.{never_both, false_unless}
use Rattle.smk_world.specs.Trees.{Path, among}
use Rattle.smk_record.specs.Records.{are_rising}
use Rattle.smk_record.proofs.Rising.{Above, less_itself, rising_rest, rising_first, above_among, among_first, same_first, or_apart}
use Rattle.smk_store.specs.declared.store.Entry.{Entry}
use Rattle.smk_store.specs.Images.{Image, is_known, stands}
use Rattle.smk_store.specs.Stores.{Known, entry_of}
use Rattle.smk_store.specs.Loading.{IsStoreOf, entry_in, entry_at}
use Rattle.smk_chain.specs.Derive.{Clash, hinders, clashes}
use Rattle.smk_chain_derive.specs.Clashes.{ListsKnown, paths_in, hinders_in, blocks_output, blocks_log, clashes_in}

-- ## A spot

-- what doesn't overlap isn't in the way
pub apart : (store : List Known) (p : Path) (output : Bool) (q : Path) → overlaps p q ≡ false → hinders_in store (p, output) q ≡ false
apart store p true q h = ap (λ v. v && blocks_output (bytes_eq p q) (entry_of store q)) h
apart store p false q h = ap (λ v. v && blocks_log (bytes_eq p q) (entry_of store q)) h

-- nothing is in the way where the path itself isn't, and no other that overlaps it is known
pub free : (store : List Known) (p : Path) (output : Bool) (P : Path → Bool) → ((q : Path) → P q ≡ among (paths_in store) q) → hinders_in store (p, output) p ≡ false
    → ((q : Path) → overlaps p q ≡ true → bytes_eq p q ≡ false → P q ≡ false) → (q : Path) → among (paths_in store) q ≡ true → hinders_in store (p, output) q ≡ false
free store p output P same itself others q known = go (bytes_eq p q) (overlaps p q) refl refl
  where
    go : (v w : Bool) → bytes_eq p q ≡ v → overlaps p q ≡ w → hinders_in store (p, output) q ≡ false
    go true w e o = subst (λ x. hinders_in store (p, output) x ≡ false) (same_place p q e) itself
    go false true e o = absurd (never_both (among (paths_in store) q) known (sym (same q) ∙ others q o e))
    go false false e o = apart store p output q o

-- ## The image

output_is : (known noted stood marked itself : Bool) → known ≡ (stood || (marked || noted)) → (e : Entry) → stands e.kept ≡ stood → e.marked ≡ marked → e.noted ≡ noted
    → blocks_output itself (if known then Some e else None) ≡ (noted || ((stood || marked) && not itself))
output_is true noted stood marked itself k e s m n = λ i. n i || ((s i || m i) && not itself)
output_is false noted stood marked itself k e s m n = none noted stood marked k
  where
    none : (noted stood marked : Bool) → false ≡ (stood || (marked || noted)) → false ≡ (noted || ((stood || marked) && not itself))
    none true true marked k = absurd cc
    none true false true k = absurd cc
    none true false false k = absurd cc
    none false true marked k = absurd cc
    none false false true k = absurd cc
    none false false false k = refl

log_is : (known noted stood marked itself : Bool) → known ≡ (stood || (marked || noted)) → (e : Entry) → stands e.kept ≡ stood → e.marked ≡ marked → e.noted ≡ noted
    → blocks_log itself (if known then Some e else None) ≡ ((stood || marked) || (noted && not itself))
log_is true noted stood marked itself k e s m n = λ i. (s i || m i) || (n i && not itself)
log_is false noted stood marked itself k e s m n = none noted stood marked k
  where
    none : (noted stood marked : Bool) → false ≡ (stood || (marked || noted)) → false ≡ ((stood || marked) || (noted && not itself))
    none true true marked k = absurd cc
    none true false true k = absurd cc
    none true false false k = absurd cc
    none false true marked k = absurd cc
    none false false true k = absurd cc
    none false false false k = refl

hinders_same : (image : Image) (store : List Known) → IsStoreOf image store → (p : Path) (output : Bool) (q : Path) → hinders_in store (p, output) q ≡ hinders image (p, output) q
hinders_same image store s p true q =
    ap (λ e. overlaps p q && blocks_output (bytes_eq p q) e) (s.entries q)
    ∙ ap (λ v. overlaps p q && v) (output_is (is_known image q) (image.noted q) (stands (image.kept q)) (image.marked q) (bytes_eq p q) refl (entry_at image q) refl refl refl)
hinders_same image store s p false q =
    ap (λ e. overlaps p q && blocks_log (bytes_eq p q) e) (s.entries q)
    ∙ ap (λ v. overlaps p q && v) (log_is (is_known image q) (image.noted q) (stands (image.kept q)) (image.marked q) (bytes_eq p q) refl (entry_at image q) refl refl refl)

filter_same : (f g : Path → Bool) → ((q : Path) → f q ≡ g q) → (xs : List Path) → filter f xs ≡ filter g xs
filter_same f g same xs = λ i. filter (λ q. same q i) xs

pub clashes_same : (image : Image) (store : List Known) → IsStoreOf image store → image.known ≡ paths_in store → (earlier : List Path) (spots : List (Path × Bool)) → clashes_in store earlier spots ≡ clashes image earlier spots
clashes_same image store s k earlier [] = refl
clashes_same image store s k earlier (spot ∷ rest) =
    ap (λ l. map (Clash spot.0) (filter (overlaps spot.0) earlier ++ l) ++ clashes_in store (earlier ++ spot.0 ∷ []) rest)
    (filter_same (hinders_in store spot) (hinders image spot) (λ q. hinders_same image store s spot.0 spot.1 q) (paths_in store) ∙ ap (filter (hinders image spot)) (sym k))
    ∙ ap (λ l. map (Clash spot.0) (filter (overlaps spot.0) earlier ++ filter (hinders image spot) image.known) ++ l) (clashes_same image store s k (earlier ++ spot.0 ∷ []) rest)

-- ## The known paths

-- two rising lists with the same paths are one
pub rising_same : (ps qs : List Path) → are_rising ps ≡ true → are_rising qs ≡ true → ((r : Path) → among ps r ≡ among qs r) → ps ≡ qs
rising_same [] [] h k same = refl
rising_same [] (q ∷ qs) h k same = absurd (never_both (among (q ∷ qs) q) (among_first q qs) (sym (same q)))
rising_same (p ∷ ps) [] h k same = absurd (never_both (among (p ∷ ps) p) (among_first p ps) (same p))
rising_same (p ∷ ps) (q ∷ qs) h k same =
    let a = rising_first p ps h in
    let b = rising_first q qs k in
    let e : p ≡ q = same_first p q ps qs a b (sym (same p) ∙ among_first p ps) (same q ∙ among_first q qs) in
    let b' : Above p qs = subst (λ x. Above x qs) (sym e) b in
    let rest : (r : Path) → among ps r ≡ among qs r = λ r.
    or_apart (bytes_eq r p) (among ps r) (among qs r)
    (λ is. false_unless (among ps r) (λ m. less_itself p (subst (λ x. slice_cmp nat_cmp p x ≡ Less) (same_place r p is) (above_among p r ps a m))))
    (λ is. false_unless (among qs r) (λ m. less_itself p (subst (λ x. slice_cmp nat_cmp p x ≡ Less) (same_place r p is) (above_among p r qs b' m))))
    (same r ∙ ap (λ x. bytes_eq r x || among qs r) (sym e)) in
    λ i. e i ∷ rising_same ps qs (rising_rest p ps h) (rising_rest q qs k) rest i

known_among : (store : List Known) (q : Path) → among (paths_in store) q ≡ is_some (entry_of store q)
known_among [] q = refl
known_among (k ∷ ks) q = ap (λ b. b || among (paths_in ks) q) (flipped (bytes_eq q k.path) (bytes_eq k.path q) (λ e. sub k.path q (sym (same_place q k.path e))) (λ e. sub q k.path (sym (same_place k.path q e)))) ∙ go (bytes_eq k.path q) (known_among ks q)
  where
    sub : (a b : Path) → a ≡ b → bytes_eq a b ≡ true
    sub a b e = subst (λ x. bytes_eq a x ≡ true) e (place_itself a)

    flipped : (a b : Bool) → (a ≡ true → b ≡ true) → (b ≡ true → a ≡ true) → a ≡ b
    flipped true b f g = sym (f refl)
    flipped false true f g = g refl
    flipped false false f g = refl

    go : (v : Bool) → among (paths_in ks) q ≡ is_some (entry_of ks q) → (v || among (paths_in ks) q) ≡ is_some (if v then Some k.entry else entry_of ks q)
    go true rest = refl
    go false rest = rest

entry_known : (image : Image) (q : Path) → is_some (entry_in image q) ≡ is_known image q
entry_known image q = go (is_known image q)
  where
    go : (v : Bool) → is_some (if v then Some (entry_at image q) else None) ≡ v
    go true = refl
    go false = refl

-- the store's paths are the known ones
pub listed_same : (image : Image) (store : List Known) → IsStoreOf image store → ListsKnown image → are_rising (paths_in store) ≡ true → image.known ≡ paths_in store
listed_same image store s l rising =
    rising_same image.known (paths_in store) l.rising rising (λ q. l.each q ∙ sym (known_among store q ∙ ap is_some (s.entries q) ∙ entry_known image q))
