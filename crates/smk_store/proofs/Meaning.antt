-- The sources that are looked at are those that a record holds.
use Rattle.std.proofs.Common.{◌≡◌, ◌≢◌, ◌⊎◌, inl, inr, ℕ, Bool, true, false, List, [], ◌∷◌, ◌++◌, refl, sym, ap, subst, ◌∙◌, Option, Some, None, eq-eqb, eqb-true}
use Rattle.std.specs.Prelude.{if◌then◌else◌, ◌==◌, All}
use Rattle.std.proofs.lemmas.List.Elements.{All-nil, All-cons}
use Rattle.smk_base.specs.Path.{is_at_or_under}
use Rattle.smk_world.specs.declared.event.Node.{Node}
use Rattle.smk_world.specs.declared.event.Node.TheVariants.{Regular, Directory}
use Rattle.smk_world.specs.declared.event.NodeState.TheVariants.{Owned}
use Rattle.smk_world.specs.World.{World, reading}
use Rattle.smk_world.specs.Calls.{stat_of}
use Rattle.smk_world.specs.Trees.{Path, IsIn}
use Rattle.smk_record.specs.declared.record.Stamp.{Stamp}
use Rattle.smk_record.specs.Records.{source_time}
use Rattle.smk_store.specs.declared.sources.Source.{Source}
use Rattle.smk_store.specs.Forgetting.{IsSeen, IsFirstSeen, AreUnseen, inputs_of, all_inputs}
use Rattle.smk_store.specs.Images.{Content, content_of, readable}
use Rattle.smk_store.specs.Sources.{source_by, source_of, sources_of, entry_sources, all_sources, has_time, is_seen, first_seen, AreUnowned}
use Rattle.smk_store.specs.Stores.{Known}
use Rattle.smk_store.specs.Unowned.{IsUnownedUnder}
use Rattle.smk_store.proofs.Earliest.{first_none, first_from, first_least}

in_left : {A : Type 0} (xs ys : List A) (x : A) → IsIn xs x → IsIn (xs ++ ys) x
in_left [] ys x h = absurd h
in_left (y ∷ xs) ys x (inl e) = inl e
in_left (y ∷ xs) ys x (inr h) = inr (in_left xs ys x h)

in_right : {A : Type 0} (xs ys : List A) (x : A) → IsIn ys x → IsIn (xs ++ ys) x
in_right [] ys x h = h
in_right (y ∷ xs) ys x h = inr (in_right xs ys x h)

in_either : {A : Type 0} (xs ys : List A) (x : A) → IsIn (xs ++ ys) x → IsIn xs x ⊎ IsIn ys x
in_either [] ys x h = inr h
in_either (y ∷ xs) ys x (inl e) = inl (inl e)
in_either (y ∷ xs) ys x (inr h) = by (in_either xs ys x h)
  where
    by : IsIn xs x ⊎ IsIn ys x → IsIn (y ∷ xs) x ⊎ IsIn ys x
    by (inl k) = inl (inr k)
    by (inr k) = inr k

-- among the inputs, with a stamp of its time
pub record IsNamed (inputs : List (Path × Stamp)) (s : Source) : Type 0 where
  pub stamp : Stamp
  pub held : IsIn inputs (s.path, stamp)
  pub same : source_time stamp ≡ Some s.time

abbrev IsOf : Path → List (Path × Stamp) → Source → Type 0
IsOf p inputs s = (is_at_or_under s.path p ≡ true) × IsNamed inputs s

abbrev the_source : Path → ℕ → Source
the_source q t = record { path = q; time = t }

one_if : (p q : Path) (t : ℕ) (s : Source) (b : Bool) → is_at_or_under q p ≡ b → IsIn (if b then the_source q t ∷ [] else []) s → (is_at_or_under q p ≡ true) × (s ≡ the_source q t)
one_if p q t s true u (inl e) = (u, e)
one_if p q t s true u (inr k) = absurd k
one_if p q t s false u k = absurd k

one_by : (p q : Path) (stamp : Stamp) (s : Source) (o : Option ℕ) → source_time stamp ≡ o → IsIn (source_by p q o) s → (is_at_or_under q p ≡ true) × (s ≡ the_source q s.time) × (source_time stamp ≡ Some s.time)
one_by p q stamp s None e h = absurd h
one_by p q stamp s (Some t) e h =
    let r = one_if p q t s (is_at_or_under q p) refl h in
    let time : s.time ≡ t = ap (λ (x : Source). x.time) r.1 in
    (r.0, r.1 ∙ ap (the_source q) (sym time), e ∙ ap (λ n. Some n) (sym time))

one_of : (p : Path) (e : Path × Stamp) (s : Source) → IsIn (source_of p e) s → IsOf p (e ∷ []) s
one_of p (q, stamp) s h =
    let r = one_by p q stamp s (source_time stamp) refl h in
    let path : s.path ≡ q = ap (λ (x : Source). x.path) r.1 in
    (ap (λ x. is_at_or_under x p) path ∙ r.0, record { stamp = stamp; held = inl (λ i. (path i, stamp)); same = r.2 })

in_front : (e : Path × Stamp) (es : List (Path × Stamp)) (x : Path × Stamp) → IsIn (e ∷ []) x → IsIn (e ∷ es) x
in_front e es x (inl h) = inl h
in_front e es x (inr h) = absurd h

of_inputs : (p : Path) (inputs : List (Path × Stamp)) (s : Source) → IsIn (sources_of p inputs) s → IsOf p inputs s
of_inputs p [] s h = absurd h
of_inputs p (e ∷ es) s h = by (in_either (source_of p e) (sources_of p es) s h) (of_inputs p es s)
  where
    by : IsIn (source_of p e) s ⊎ IsIn (sources_of p es) s → (IsIn (sources_of p es) s → IsOf p es s) → IsOf p (e ∷ es) s
    by (inl k) more = let r = one_of p e s k in (r.0, record { stamp = r.1.stamp; held = in_front e es (s.path, r.1.stamp) r.1.held; same = r.1.same })
    by (inr k) more = let r = more k in (r.0, record { stamp = r.1.stamp; held = inr r.1.held; same = r.1.same })

pub of_records : (p : Path) (ks : List Known) (s : Source) → IsIn (all_sources p ks) s → IsOf p (all_inputs ks) s
of_records p [] s h = absurd h
of_records p (k ∷ ks) s h = by (in_either (entry_sources p k.entry) (all_sources p ks) s h) (of_records p ks s)
  where
    by : IsIn (entry_sources p k.entry) s ⊎ IsIn (all_sources p ks) s → (IsIn (all_sources p ks) s → IsOf p (all_inputs ks) s) → IsOf p (all_inputs (k ∷ ks)) s
    by (inl i) more =
        let r = of_inputs p (inputs_of (readable k.entry.kept)) s i in
        (r.0, record { stamp = r.1.stamp; held = in_left (inputs_of (readable k.entry.kept)) (all_inputs ks) (s.path, r.1.stamp) r.1.held; same = r.1.same })
    by (inr i) more =
        let r = more i in
        (r.0, record { stamp = r.1.stamp; held = in_right (inputs_of (readable k.entry.kept)) (all_inputs ks) (s.path, r.1.stamp) r.1.held; same = r.1.same })

all_in : {A : Type 0} (P : A → Type 0) (xs : List A) → ((x : A) → IsIn xs x → P x) → All P xs
all_in P [] h = All-nil P
all_in P (x ∷ xs) h = All-cons P x xs (h x (inl refl)) (all_in P xs (λ y i. h y (inr i)))

-- where no child owns what is at or under the path, none owns one of the sources there
pub all_free : (w : World) (p : Path) (ks : List Known) → IsUnownedUnder w.nodes p → AreUnowned w (all_sources p ks)
all_free w p ks free = all_in (λ (s : Source). w.nodes s.path ≢ Owned) (all_sources p ks) (λ s i. free s.path (of_records p ks s i).0)

abbrev with_stamp : Path → Stamp → Path × Stamp
with_stamp q s = (q, s)

from_input : (p : Path) (e : Path × Stamp) (q : Path) (s : Stamp) (t : ℕ) → is_at_or_under q p ≡ true → source_time s ≡ Some t → with_stamp q s ≡ e → IsIn (source_of p e) (the_source q t)
from_input p e q s t under timed is =
    subst (λ (x : Path × Stamp). IsIn (source_of p x) (the_source q t)) is
    (subst (λ o. IsIn (source_by p q o) (the_source q t)) (sym timed)
    (subst (λ b. IsIn (if b then the_source q t ∷ [] else []) (the_source q t)) (sym under) (inl refl)))

from_inputs : (p : Path) (inputs : List (Path × Stamp)) (q : Path) (s : Stamp) (t : ℕ) → is_at_or_under q p ≡ true → source_time s ≡ Some t → IsIn inputs (q, s) → IsIn (sources_of p inputs) (the_source q t)
from_inputs p [] q s t under timed h = absurd h
from_inputs p (e ∷ es) q s t under timed (inl is) = in_left (source_of p e) (sources_of p es) (the_source q t) (from_input p e q s t under timed is)
from_inputs p (e ∷ es) q s t under timed (inr h) = in_right (source_of p e) (sources_of p es) (the_source q t) (from_inputs p es q s t under timed h)

pub from_records : (p : Path) (ks : List Known) (q : Path) (s : Stamp) (t : ℕ) → is_at_or_under q p ≡ true → source_time s ≡ Some t → IsIn (all_inputs ks) (q, s) → IsIn (all_sources p ks) (the_source q t)
from_records p [] q s t under timed h = absurd h
from_records p (k ∷ ks) q s t under timed h = by (in_either (inputs_of (readable k.entry.kept)) (all_inputs ks) (with_stamp q s) h) (from_records p ks q s t under timed)
  where
    by : IsIn (inputs_of (readable k.entry.kept)) (with_stamp q s) ⊎ IsIn (all_inputs ks) (with_stamp q s) → (IsIn (all_inputs ks) (with_stamp q s) → IsIn (all_sources p ks) (the_source q t)) → IsIn (all_sources p (k ∷ ks)) (the_source q t)
    by (inl i) more = in_left (entry_sources p k.entry) (all_sources p ks) (the_source q t) (from_inputs p (inputs_of (readable k.entry.kept)) q s t under timed i)
    by (inr i) more = in_right (entry_sources p k.entry) (all_sources p ks) (the_source q t) (more i)

-- ## Files

same_number : (a b : ℕ) → (a == b) ≡ true → a ≡ b
same_number a b h = eqb-true a b h

itself : (a : ℕ) → (a == a) ≡ true
itself a = eq-eqb a a refl

has_file : (n : Option Node) (t : ℕ) → has_time t (stat_of n) ≡ true → (f : Content) × (content_of n ≡ Some f) × (f.time ≡ t)
has_file None t h = let wrong : false ≡ true = h in absurd cc
has_file (Some Directory) t h = let wrong : false ≡ true = h in absurd cc
has_file (Some (Regular bytes time read_only)) t h = (record { bytes = bytes; time = time; read_only = read_only }, refl, same_number time t h)

file_has : (n : Option Node) (f : Content) → content_of n ≡ Some f → has_time f.time (stat_of n) ≡ true
file_has None f e = absurd cc
file_has (Some Directory) f e = absurd cc
file_has (Some (Regular bytes time read_only)) f e =
    let same : record { bytes = bytes; time = time; read_only = read_only } ≡ f = cc in
    subst (λ (g : Content). (time == g.time) ≡ true) same (itself time)

seen_source : (ks : List Known) (w : World) (p : Path) (s : Source) → IsIn (all_sources p ks) s → is_seen w s ≡ true → IsSeen ks w p s.path
seen_source ks w p s i h =
    let r = of_records p ks s i in
    let f = has_file (reading (w.nodes s.path)) s.time h in
    record { under = r.0; file = f.0; stands = f.1; stamp = r.1.stamp; held = r.1.held; same = r.1.same ∙ ap (λ n. Some n) (sym f.2) }

pub unseen : (ks : List Known) (w : World) (p : Path) → None ≡ first_seen (is_seen w) (all_sources p ks) → AreUnseen ks w p
unseen ks w p h = λ q k.
    first_none (is_seen w) (all_sources p ks) (sym h) (the_source q k.file.time) (from_records p ks q k.stamp k.file.time k.under k.same k.held)
    (file_has (reading (w.nodes q)) k.file k.stands)

pub first_one : (ks : List Known) (w : World) (p q : Path) → Some q ≡ first_seen (is_seen w) (all_sources p ks) → IsFirstSeen ks w p q
first_one ks w p q h =
    let f = first_from (is_seen w) (all_sources p ks) q (sym h) in
    record {
      seen = subst (λ x. IsSeen ks w p x) f.3 (seen_source ks w p f.0 f.1 f.2);
      first = λ x k. first_least (is_seen w) (all_sources p ks) q (sym h) (the_source x k.file.time) (from_records p ks x k.stamp k.file.time k.under k.same k.held)
          (file_has (reading (w.nodes x)) k.file k.stands);
    }
