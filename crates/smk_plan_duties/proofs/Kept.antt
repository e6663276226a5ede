-- Jobs without reasons: their records stand, unmarked, with one serial, which is above those of what they read.
use Rattle.std.proofs.Common.{◌≡◌, ◌⊎◌, inl, inr, ℕ, suc, ◌≤◌, Bool, true, false, cond, ◌&&◌, ◌||◌, ◌==◌, not, max, List, [], ◌∷◌, ◌++◌, map, length, Option, Some, None, refl, sym, ap, ap₂, subst, ◌∙◌, arith, bytes_eq}
use Rattle.std.specs.Prelude.{if◌then◌else◌, is_some, option_map, nat_le, nat_lt, reverse}
use Rattle.std.specs.List.{filter, find, flat_map, fold, list_all, list_any, zip}
use Rattle.std.specs.Option.{option_and_then}
use Rattle.std.proofs.lemmas.Bool.{eqb-true, lt-ltb, or_parts, not-false}
use Rattle.std.proofs.lemmas.List.{reverse-append}
use lib.Pointwise.{pointwise}
use Rattle.smk_base.proofs.Places.{and_first, and_second, same_flipped, same_place}
use Rattle.smk_base.proofs.Under.{never_both, or_first, or_second}
use Rattle.smk_world.specs.declared.recipe.Item.{Item}
use Rattle.smk_world.specs.declared.recipe.Recipe.{Recipe}
use Rattle.smk_world.specs.World.{folders_above, in_paths, out_paths}
use Rattle.smk_world.specs.Trees.{Path, Each, IsIn, among, folders_of, is_path_text}
use Rattle.smk_record.specs.declared.record.Record.{Record}
use Rattle.smk_record.specs.declared.record.Stamp.{Stamp}
use Rattle.smk_record.specs.declared.record.Stamp.TheVariants.{Time, Sum, Made}
use Rattle.smk_record.specs.Records.{agrees, are_none, are_rising, are_valid_members, core, is_earlier, is_format, is_in_format, is_valid, serials, stamped}
use Rattle.smk_store.specs.declared.store.Entry.{Entry}
use Rattle.smk_store.specs.declared.store.Kept.{Kept}
use Rattle.smk_store.specs.declared.store.Kept.TheVariants.{Absent, Unreadable, Held}
use Rattle.smk_store.specs.Images.{Image, core_at, is_covered, is_file, is_known, is_source, readable, record_at, source_at, stands}
use Rattle.smk_store.specs.Loading.{IsStoreOf}
use Rattle.smk_store.specs.Serials.{all_serials, greatest_serial, next_serial, unmarked_serials}
use Rattle.smk_store.specs.Stores.{Known, entry_of}
use Rattle.smk_store.specs.Trust.{holder, is_folder_record, made_stamp, stamp_now, source_stamp, unmarked_stamp}
use Rattle.smk_trigger.specs.declared.reason.Reason.{Reason}
use Rattle.smk_trigger.specs.declared.reason.Reason.TheVariants.{New, Marked, BadRecord, Code, Params, Inputs, Updated}
use Rattle.smk_trigger.specs.Reasons.{all_same, changes, has_bad_record, held, is_absent, is_unreadable, is_updated, lacks_record, once, same_code, same_inputs, same_item, same_job, same_params, when}
use Rattle.smk_plan_duties.specs.Choosing.{is_old, made_in}

-- ## Lists that are empty

nil_left : {A : Type 0} (xs ys : List A) → xs ++ ys ≡ [] → xs ≡ []
nil_left [] ys e = refl
nil_left (x ∷ xs) ys e = absurd cc

nil_right : {A : Type 0} (xs ys : List A) → xs ++ ys ≡ [] → ys ≡ []
nil_right [] ys e = e
nil_right (x ∷ xs) ys e = absurd cc

when_nil : (b : Bool) (r : Reason) → when b r ≡ [] → b ≡ false
when_nil true r e = absurd cc
when_nil false r e = refl

pub map_nil : {A B : Type 0} (f : A → B) (xs : List A) → map f xs ≡ [] → xs ≡ []
map_nil f [] e = refl
map_nil f (x ∷ xs) e = absurd cc

-- nothing that is in the list passes
none_passes : {A : Type 0} (t : A → Bool) (xs : List A) (x : A) → filter t xs ≡ [] → IsIn xs x → t x ≡ false
none_passes t [] x e i = absurd i
none_passes t (y ∷ xs) x e i = go (t y) refl e i (none_passes t xs x)
  where
    go : (b : Bool) → t y ≡ b → cond b (y ∷ filter t xs) (filter t xs) ≡ [] → (x ≡ y) ⊎ IsIn xs x → (filter t xs ≡ [] → IsIn xs x → t x ≡ false) → t x ≡ false
    go true p k at more = absurd (no_cons k)
      where
        no_cons : y ∷ filter t xs ≡ [] → ⊥
        no_cons c = cc
    go false p k (inl same) more = ap t same ∙ p
    go false p k (inr at) more = more k at

-- ## The parts of the own reasons

last_part : (a b : Bool) (changed : List Reason) → a ≡ false → b ≡ false → (if a || b then [] else changed) ≡ [] → changed ≡ []
last_part true b changed ea eb e = absurd (never_both true refl ea)
last_part false true changed ea eb e = absurd (never_both true refl eb)
last_part false false changed ea eb e = e

pub split_parts : (a m b : Bool) (changed : List Reason) → when a New ++ (when m Marked ++ (when b BadRecord ++ (if a || b then [] else changed))) ≡ [] → (a ≡ false) × (m ≡ false) × (b ≡ false) × (changed ≡ [])
split_parts a m b changed e =
    let more = nil_right (when a New) (when m Marked ++ (when b BadRecord ++ (if a || b then [] else changed))) e in
    let last = nil_right (when m Marked) (when b BadRecord ++ (if a || b then [] else changed)) more in
    let ea = when_nil a New (nil_left (when a New) (when m Marked ++ (when b BadRecord ++ (if a || b then [] else changed))) e) in
    let eb = when_nil b BadRecord (nil_left (when b BadRecord) (if a || b then [] else changed) last) in
    (ea, when_nil m Marked (nil_left (when m Marked) (when b BadRecord ++ (if a || b then [] else changed)) more), eb, last_part a b changed ea eb (nil_right (when b BadRecord) (if a || b then [] else changed) last))

-- ## Records of one job

same_made : (a b : Record) → same_job a b ≡ true → b.made ≡ a.made
same_made a b h = sym (eqb-true a.made b.made (and_first (a.made == b.made) _ h))

module _ (image : Image) where
  -- a record that reads, with this serial, and no mark
  abbrev pub IsKept : ℕ → Path → Type 0
  IsKept m p = (r : Record) × (record_at image p ≡ Some r) × (image.marked p ≡ false) × (r.made ≡ m)

  like_kept : (a : Record) (ps : List Path) →
      list_any is_absent (map image.kept ps) ≡ false → list_any is_unreadable (map image.kept ps) ≡ false → list_all (same_job a) (flat_map held (map image.kept ps)) ≡ true →
      list_any (λ b. b) (map image.marked ps) ≡ false → Each (IsKept a.made) ps
  like_kept a [] there reads same marks = tt
  like_kept a (p ∷ ps) there reads same marks = go (image.kept p) refl there reads same (like_kept a ps)
    where
      go : (k : Kept) → image.kept p ≡ k → (is_absent k || list_any is_absent (map image.kept ps)) ≡ false → (is_unreadable k || list_any is_unreadable (map image.kept ps)) ≡ false →
          list_all (same_job a) (held k ++ flat_map held (map image.kept ps)) ≡ true →
          (list_any is_absent (map image.kept ps) ≡ false → list_any is_unreadable (map image.kept ps) ≡ false → list_all (same_job a) (flat_map held (map image.kept ps)) ≡ true → list_any (λ b. b) (map image.marked ps) ≡ false → Each (IsKept a.made) ps) →
          Each (IsKept a.made) (p ∷ ps)
      go Absent e t r s more = absurd (never_both true refl t)
      go Unreadable e t r s more = absurd (never_both true refl r)
      go (Held b) e t r s more = (
        (b, ap readable e, (or_parts (image.marked p) (list_any (λ x. x) (map image.marked ps)) marks).0, same_made a b (and_first (same_job a b) (list_all (same_job a) (flat_map held (map image.kept ps))) s)),
        more t r (and_second (same_job a b) (list_all (same_job a) (flat_map held (map image.kept ps))) s) (or_parts (image.marked p) (list_any (λ x. x) (map image.marked ps)) marks).1,
      )

  -- the first record, and that all are like it
  pub record IsFirst (p : Path) (ps : List Path) (changed : List Record → List Reason) : Type 0 where
    pub of : Record
    pub stands : image.kept p ≡ Held of
    pub all : Each (IsKept of.made) (p ∷ ps)
    pub unchanged : (rest : List Record) × (changed (of ∷ rest) ≡ [])

  pub first_kept : (p : Path) (ps : List Path) (changed : List Record → List Reason) →
      lacks_record (map image.kept (p ∷ ps)) ≡ false → has_bad_record (map image.kept (p ∷ ps)) ≡ false → list_any (λ b. b) (map image.marked (p ∷ ps)) ≡ false →
      changed (flat_map held (map image.kept (p ∷ ps))) ≡ [] → IsFirst p ps changed
  first_kept p ps changed there good marks none = go (image.kept p) refl there (or_parts reads same good).0 (not-false (all_same (flat_map held (map image.kept (p ∷ ps)))) (or_parts reads same good).1) none
    where
      reads : Bool
      reads = list_any is_unreadable (map image.kept (p ∷ ps))

      same : Bool
      same = not (all_same (flat_map held (map image.kept (p ∷ ps))))

      go : (k : Kept) → image.kept p ≡ k → (is_absent k || list_any is_absent (map image.kept ps)) ≡ false → (is_unreadable k || list_any is_unreadable (map image.kept ps)) ≡ false →
          all_same (held k ++ flat_map held (map image.kept ps)) ≡ true → changed (held k ++ flat_map held (map image.kept ps)) ≡ [] → IsFirst p ps changed
      go Absent e t r s c = absurd (never_both true refl t)
      go Unreadable e t r s c = absurd (never_both true refl r)
      go (Held b) e t r s c =
          record {
            of = b;
            stands = e;
            all = (
              (b, ap readable e, (or_parts (image.marked p) (list_any (λ x. x) (map image.marked ps)) marks).0, refl),
              like_kept b ps t r s (or_parts (image.marked p) (list_any (λ x. x) (map image.marked ps)) marks).1,
            );
            unchanged = (flat_map held (map image.kept ps), c);
          }

-- ## Serials below the next one

max_more : (a : ℕ) (xs : List ℕ) → a ≤ fold max a xs
max_more a [] = omega arith
max_more a (x ∷ xs) = let more = max_more (max a x) xs in omega arith

max_in : (a m : ℕ) (xs : List ℕ) → IsIn xs m → m ≤ fold max a xs
max_in a m [] i = absurd i
max_in a m (x ∷ xs) (inl e) = let more = max_more (max a x) xs in omega (arith, e)
max_in a m (x ∷ xs) (inr i) = max_in (max a x) m xs i

in_left : (m : ℕ) (xs ys : List ℕ) → IsIn xs m → IsIn (xs ++ ys) m
in_left m [] ys i = absurd i
in_left m (x ∷ xs) ys (inl e) = inl e
in_left m (x ∷ xs) ys (inr i) = inr (in_left m xs ys i)

in_right : (m : ℕ) (xs ys : List ℕ) → IsIn ys m → IsIn (xs ++ ys) m
in_right m [] ys i = i
in_right m (x ∷ xs) ys i = inr (in_right m xs ys i)

in_store : (ks : List Known) (p : Path) (e : Entry) (m : ℕ) → entry_of ks p ≡ Some e → IsIn (unmarked_serials e) m → IsIn (flat_map (λ (k : Known). unmarked_serials k.entry) ks) m
in_store [] p e m is at = absurd (no_some is)
  where
    no_some : None ≡ Some e → ⊥
    no_some c = cc
in_store (k ∷ ks) p e m is at = go (bytes_eq k.path p) is (λ rest. in_store ks p e m rest at)
  where
    same_entry : Some k.entry ≡ Some e → k.entry ≡ e
    same_entry s = cc

    go : (b : Bool) → (if b then Some k.entry else entry_of ks p) ≡ Some e → (entry_of ks p ≡ Some e → IsIn (flat_map (λ (x : Known). unmarked_serials x.entry) ks) m) →
        IsIn (unmarked_serials k.entry ++ flat_map (λ (x : Known). unmarked_serials x.entry) ks) m
    go true s more = in_left m (unmarked_serials k.entry) (flat_map (λ (x : Known). unmarked_serials x.entry) ks) (subst (λ (x : Entry). IsIn (unmarked_serials x) m) (sym (same_entry s)) at)
    go false s more = in_right m (unmarked_serials k.entry) (flat_map (λ (x : Known). unmarked_serials x.entry) ks) (more s)

old_by : (m greatest : ℕ) (b : Bool) → m ≤ greatest → is_old (if b then Some (suc greatest) else None) m ≡ true
old_by m greatest true le = lt-ltb m (suc greatest) (omega arith)
old_by m greatest false le = refl

module _ (image : Image) (store : List Known) (is : IsStoreOf image store) where
  entry_there : (p : Path) (r : Record) → image.kept p ≡ Held r → entry_of store p ≡ Some (record { kept = image.kept p; marked = image.marked p; noted = image.noted p })
  entry_there p r e =
      is.entries p
      ∙ ap (λ k. if stands k || (image.marked p || image.noted p) then Some (record { kept = image.kept p; marked = image.marked p; noted = image.noted p }) else None) e

  -- the serial that is found at the path
  pub made_there : (p : Path) (r : Record) → image.kept p ≡ Held r → made_in (entry_of store p) ≡ Some r.made
  made_there p r e = ap made_in (entry_there p r e) ∙ ap (λ k. option_map (λ (x : Record). x.made) (readable k)) e

  -- the serial of an unmarked record is below the next one
  pub old_there : (p : Path) (r : Record) (next : Option ℕ) → image.kept p ≡ Held r → image.marked p ≡ false → next ≡ next_serial store → is_old next r.made ≡ true
  old_there p r next e mark n =
      ap (λ o. is_old o r.made) n
      ∙ old_by r.made (greatest_serial store) (nat_lt (greatest_serial store) 18446744073709551615)
      (max_in 0 r.made (flat_map (λ (k : Known). unmarked_serials k.entry) store)
      (in_store store p (record { kept = image.kept p; marked = image.marked p; noted = image.noted p }) r.made (entry_there p r e)
      (subst (λ (l : List ℕ). IsIn l r.made) (sym named) (inl refl))))
    where
      named : (if image.marked p then [] else all_serials (readable (image.kept p))) ≡ serials r
      named = ap (λ (b : Bool). if b then [] else all_serials (readable (image.kept p))) mark ∙ ap (λ k. all_serials (readable k)) e

-- ## Valid records

valid_by : (a b c d e f g h i : Bool) → list_all (λ (v : Bool). v) (a ∷ b ∷ c ∷ d ∷ e ∷ f ∷ g ∷ h ∷ i ∷ []) ≡ true → (a ≡ true) × (c ≡ true) × (d ≡ true)
valid_by true b true true e f g h i k = (refl, refl, refl)
valid_by true b true false e f g h i k = grind arith
valid_by true b false d e f g h i k = grind arith
valid_by false b c d e f g h i k = grind arith

valid_parts : (r : Record) → is_valid r ≡ true → (length r.stamps ≡ length (in_paths r.recipe)) × (nat_le 1 r.made ≡ true) × (list_all (is_earlier r.made) r.stamps ≡ true)
valid_parts r h =
    let parts = valid_by (length r.stamps == length (in_paths r.recipe)) (among (out_paths r.recipe) r.path) (nat_le 1 r.made) (list_all (is_earlier r.made) r.stamps)
    (are_rising (map (λ w. w.name) r.recipe.wildcards)) (list_all is_path_text (in_paths r.recipe)) (list_all is_path_text (out_paths r.recipe))
    (if among (folders_of r.recipe) r.path then are_valid_members r.path r.members else are_none r.members) (is_format r.format && list_all (is_in_format r.format) r.stamps) h in
    (eqb-true (length r.stamps) (length (in_paths r.recipe)) parts.0, parts.1, parts.2)

-- ## Inputs that haven't changed

same_paths : (xs ys : List Path) → pointwise bytes_eq xs ys ≡ true → xs ≡ ys
same_paths [] [] h = refl
same_paths [] (y ∷ ys) h = absurd (never_both false h refl)
same_paths (x ∷ xs) [] h = absurd (never_both false h refl)
same_paths (x ∷ xs) (y ∷ ys) h = λ i. same_place x y (and_first (bytes_eq x y) (pointwise bytes_eq xs ys) h) i ∷ same_paths xs ys (and_second (bytes_eq x y) (pointwise bytes_eq xs ys) h) i

same_items : (xs ys : List Item) → pointwise same_item xs ys ≡ true → flat_map (λ (i : Item). i.paths) xs ≡ flat_map (λ (i : Item). i.paths) ys
same_items [] [] h = refl
same_items [] (y ∷ ys) h = absurd (never_both false h refl)
same_items (x ∷ xs) [] h = absurd (never_both false h refl)
same_items (x ∷ xs) (y ∷ ys) h =
    ap₂ ◌++◌ (same_paths x.paths y.paths (and_second (bytes_eq x.name y.name) (pointwise bytes_eq x.paths y.paths) (and_first (same_item x y) (pointwise same_item xs ys) h)))
    (same_items xs ys (and_second (same_item x y) (pointwise same_item xs ys) h))

in_filtered : {A : Type 0} (t : A → Bool) (xs : List A) (x : A) → IsIn xs x → t x ≡ true → IsIn (filter t xs) x
in_filtered t [] x i h = absurd i
in_filtered t (y ∷ xs) x i h = go (t y) refl i (λ k. in_filtered t xs x k h)
  where
    go : (b : Bool) → t y ≡ b → (x ≡ y) ⊎ IsIn xs x → (IsIn xs x → IsIn (filter t xs) x) → IsIn (cond b (y ∷ filter t xs) (filter t xs)) x
    go true e (inl same) more = inl same
    go true e (inr at) more = inr (more at)
    go false e (inl same) more = absurd (never_both (t y) (sym (ap t same) ∙ h) e)
    go false e (inr at) more = more at

-- each input is among those that are looked at once, with its stamp
once_has : (g : Path → Option Stamp) (ps : List Path) (q : Path) → among ps q ≡ true → IsIn (once (zip ps (map g ps))) (q, g q)
once_has g [] q at = absurd (never_both false at refl)
once_has g (p ∷ ps) q at = go (bytes_eq q p) refl at (once_has g ps q)
  where
    apart : bytes_eq q p ≡ false → not (bytes_eq p q) ≡ true
    apart e = ap not (same_flipped p q ∙ e)

    go : (b : Bool) → bytes_eq q p ≡ b → (b || among ps q) ≡ true → (among ps q ≡ true → IsIn (once (zip ps (map g ps))) (q, g q)) →
        IsIn ((p, g p) ∷ filter (λ (d : Path × Option Stamp). not (bytes_eq p d.0)) (once (zip ps (map g ps)))) (q, g q)
    go true e k more = inl (λ i. (same_place q p e i, g (same_place q p e i)))
    go false e k more = inr (in_filtered (λ (d : Path × Option Stamp). not (bytes_eq p d.0)) (once (zip ps (map g ps))) (q, g q) (more k) (apart e))

-- a serial that agrees with the recorded stamp is below that of the record
made_below : (s : Stamp) (kept made : ℕ) → agrees s (Some (Made kept)) ≡ true → is_earlier made s ≡ true → nat_lt kept made ≡ true
made_below (Time t) kept made h k = absurd (never_both false h refl)
made_below (Sum t d) kept made h k = absurd (never_both false h refl)
made_below (Made m) kept made h k = subst (λ (x : ℕ). nat_lt x made ≡ true) (eqb-true m kept h) k

stamp_below : (ps : List Path) (ss : List Stamp) (q : Path) (kept made : ℕ) → length ss ≡ length ps → among ps q ≡ true → is_updated (zip ps ss) (q, Some (Made kept)) ≡ false → list_all (is_earlier made) ss ≡ true → nat_lt kept made ≡ true
stamp_below [] ss q kept made len at none earlier = absurd (never_both false at refl)
stamp_below (p ∷ ps) [] q kept made len at none earlier = absurd (omega arith)
stamp_below (p ∷ ps) (s ∷ ss) q kept made len at none earlier = go (bytes_eq q p) refl at (stamp_below ps ss q kept made (omega arith))
  where
    agreed : (b : Bool) → (true && not b) ≡ false → b ≡ true
    agreed b h = not-false b h

    go : (b : Bool) → bytes_eq q p ≡ b → (b || among ps q) ≡ true → (among ps q ≡ true → is_updated (zip ps ss) (q, Some (Made kept)) ≡ false → list_all (is_earlier made) ss ≡ true → nat_lt kept made ≡ true) → nat_lt kept made ≡ true
    go true e k more =
        made_below s kept made
        (agreed (agrees s (Some (Made kept))) (sym (ap (λ (b : Bool). b && not (agrees s (Some (Made kept)))) (same_flipped p q ∙ e)) ∙ (or_parts (bytes_eq p q && not (agrees s (Some (Made kept)))) (is_updated (zip ps ss) (q, Some (Made kept))) none).0))
        (and_first (is_earlier made s) (list_all (is_earlier made) ss) earlier)
    go false e k more =
        more k (or_parts (bytes_eq p q && not (agrees s (Some (Made kept)))) (is_updated (zip ps ss) (q, Some (Made kept))) none).1
        (and_second (is_earlier made s) (list_all (is_earlier made) ss) earlier)

unchanged_parts : (a b c : Bool) (more : List Reason) → when a Code ++ (when b Params ++ (when c Inputs ++ more)) ≡ [] → (c ≡ false) × (more ≡ [])
unchanged_parts a b c more e =
    let last = nil_right (when b Params) (when c Inputs ++ more) (nil_right (when a Code) (when b Params ++ (when c Inputs ++ more)) e) in
    (when_nil c Inputs (nil_left (when c Inputs) more last), nil_right (when c Inputs) more last)

updated_nil : (es : List (Path × Option Stamp)) → map (λ (e : Path × Option Stamp). Updated e.0) es ≡ [] → es ≡ []
updated_nil es e = map_nil (λ (x : Path × Option Stamp). Updated x.0) es e

-- the serial that an input has now is below that of the record from which nothing differs
pub input_below : (image : Image) (recipe : Recipe) (r : Record) (q : Path) (kept : ℕ) → is_valid r ≡ true → changes recipe (zip (in_paths recipe) (map (stamp_now image) (in_paths recipe))) r ≡ [] →
    among (in_paths recipe) q ≡ true → stamp_now image q ≡ Some (Made kept) → nat_lt kept r.made ≡ true
input_below image recipe r q kept valid none at stamp =
    let now = zip (in_paths recipe) (map (stamp_now image) (in_paths recipe)) in
    let parts = unchanged_parts (not (same_code recipe r.recipe)) (not (same_params recipe r.recipe)) (not (same_inputs recipe r.recipe)) (map (λ (e : Path × Option Stamp). Updated e.0) (filter (is_updated (stamped r)) (once now))) none in
    let same = same_items recipe.inputs r.recipe.inputs (not-false (same_inputs recipe r.recipe) parts.0) in
    let still = none_passes (is_updated (stamped r)) (once now) (q, stamp_now image q) (updated_nil (filter (is_updated (stamped r)) (once now)) parts.1) (once_has (stamp_now image) (in_paths recipe) q at) in
    let good = valid_parts r valid in
    stamp_below (in_paths r.recipe) r.stamps q kept r.made good.0 (sym (ap (λ (ps : List Path). among ps q) same) ∙ at) (sym (ap (λ (o : Option Stamp). is_updated (stamped r) (q, o)) stamp) ∙ still) good.2

pub made_positive : (r : Record) → is_valid r ≡ true → nat_le 1 r.made ≡ true
made_positive r valid = (valid_parts r valid).1

-- ## What speaks for an input

core_stands : (k : Kept) → is_some (option_map core (readable k)) ≡ true → stands k ≡ true
core_stands Absent h = absurd (never_both false h refl)
core_stands Unreadable h = refl
core_stands (Held r) h = refl

folder_stands : (f : Path) (k : Kept) → is_folder_record f (option_map core (readable k)) ≡ true → stands k ≡ true
folder_stands f Absent h = absurd (never_both false h refl)
folder_stands f Unreadable h = refl
folder_stands f (Held r) h = refl

found_any : (t k : Path → Bool) → ((x : Path) → t x ≡ true → k x ≡ true) → (xs : List Path) (h : Path) → find t xs ≡ Some h → list_any k xs ≡ true
found_any t k means [] h e = absurd (no_some e)
  where
    no_some : None ≡ Some h → ⊥
    no_some c = cc
found_any t k means (x ∷ xs) h e = go (t x) refl e (found_any t k means xs h)
  where
    go : (b : Bool) → t x ≡ b → cond b (Some x) (find t xs) ≡ Some h → (find t xs ≡ Some h → list_any k xs ≡ true) → (k x || list_any k xs) ≡ true
    go true p c more = or_first (k x) (list_any k xs) (means x p)
    go false p c more = or_second (k x) (list_any k xs) (more c)

any_append : (k : Path → Bool) (xs ys : List Path) → list_any k (xs ++ ys) ≡ (list_any k xs || list_any k ys)
any_append k [] ys = refl
any_append k (x ∷ xs) ys = ap (λ b. k x || b) (any_append k xs ys) ∙ again (k x) (list_any k xs) (list_any k ys)
  where
    again : (a b c : Bool) → (a || (b || c)) ≡ ((a || b) || c)
    again true b c = refl
    again false b c = refl

any_turned : (k : Path → Bool) (xs : List Path) → list_any k (reverse xs) ≡ list_any k xs
any_turned k [] = refl
any_turned k (x ∷ xs) =
    ap (list_any k) (reverse-append (x ∷ []) xs) ∙ any_append k (reverse xs) (x ∷ []) ∙ turned (list_any k (reverse xs)) (k x)
    ∙ ap (λ b. k x || b) (any_turned k xs)
  where
    turned : (a b : Bool) → (a || (b || false)) ≡ (b || a)
    turned true true = refl
    turned true false = refl
    turned false true = refl
    turned false false = refl

module _ (image : Image) where
  spoken_covered : (q h : Path) → holder image q ≡ Some h → is_covered image q ≡ true
  spoken_covered q h e = go (is_some (core_at image q)) refl e
    where
      known : (f : Path) → stands (image.kept f) ≡ true → is_known image f ≡ true
      known f s = or_first (stands (image.kept f)) (image.marked f || image.noted f) s

      go : (b : Bool) → is_some (core_at image q) ≡ b → (if b then Some q else find (λ f. is_folder_record f (core_at image f)) (reverse (folders_above q))) ≡ Some h → is_covered image q ≡ true
      go true c k = or_first (is_known image q) (list_any (is_known image) (folders_above q)) (known q (core_stands (image.kept q) c))
      go false c k =
          or_second (is_known image q) (list_any (is_known image) (folders_above q))
          (sym (any_turned (is_known image) (folders_above q))
          ∙ found_any (λ f. is_folder_record f (core_at image f)) (is_known image) (λ f p. known f (folder_stands f (image.kept f) p)) (reverse (folders_above q)) h k)

  no_source : (q : Path) → is_covered image q ≡ true → is_source image q ≡ false
  no_source q c = ap (λ b. is_path_text q && (is_file image q && not b)) c ∙ none (is_path_text q) (is_file image q)
    where
      none : (a b : Bool) → (a && (b && not true)) ≡ false
      none true true = refl
      none true false = refl
      none false b = refl

  -- the stamp now of what a kept record speaks for
  pub stamp_spoken : (q h : Path) (m : ℕ) → holder image q ≡ Some h → IsKept image m h → stamp_now image q ≡ Some (Made m)
  stamp_spoken q h m e kept =
      ap (λ b. if b then source_stamp (source_at image q) else option_and_then (unmarked_stamp image) (holder image q)) (no_source q (spoken_covered q h e))
      ∙ ap (option_and_then (unmarked_stamp image)) e
      ∙ ap (λ b. if b then None else made_stamp (core_at image h)) kept.2
      ∙ ap (λ (o : Option Record). made_stamp (option_map core o)) kept.1
      ∙ ap (λ (n : ℕ). Some (Made n)) kept.3
