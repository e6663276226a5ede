-- The reader of records reads exactly the spellings of valid records.
use Rattle.std.proofs.Common.{◌≡◌, ℕ, ◌<◌, ◌^◌, Bool, true, false, ◌&&◌, cond, eqb, List, [], ◌∷◌, ◌++◌, map, length, Option, Some, None, refl, sym, ap, subst, ◌∙◌, append_assoc, arith, length-append, codes, inl, inr}
use Rattle.std.specs.Prelude.{nat_lt, nat_le, IsTrue, bytes_eq}
use Rattle.std.specs.List.{list_all, flat_map}
use Rattle.std.proofs.lemmas.Bool.{ltb-true, eqb-true}
use Rattle.std.proofs.lemmas.List.{append-nil, nil_from_length}
use Rattle.std.proofs.lemmas.List.Concat.{flat_map-cons}
use Rattle.std.proofs.lemmas.List.Folds.{list_all-append, list_all-map}
use Rattle.smk_base.specs.Path.{is_path}
use Rattle.smk_base.proofs.Places.{and_first, and_second, same_place}
use Rattle.smk_base.proofs.Under.{both_true, or_cases}
use Rattle.smk_base.specs.declared.tree.Pair.{Pair}
use Rattle.smk_world.specs.declared.recipe.Values.{Values}
use Rattle.smk_world.specs.declared.recipe.Item.{Item}
use Rattle.smk_world.specs.declared.recipe.Out.{Out}
use Rattle.smk_world.specs.declared.recipe.OutItem.{OutItem}
use Rattle.smk_world.specs.declared.recipe.Recipe.{Recipe}
use Rattle.smk_world.specs.World.{in_paths, out_paths, is_named}
use Rattle.smk_world.specs.Calls.{in_folder}
use Rattle.smk_world.specs.Trees.{Each, Path, among, folders_of, is_text, is_path_text}
use Rattle.smk_record.specs.declared.record.Stamp.{Stamp}
use Rattle.smk_record.specs.declared.record.Member.{Member}
use Rattle.smk_record.specs.declared.record.Record.{Record}
use Rattle.smk_record.specs.Records.{is_valid, is_earlier, is_format, is_in_format, are_rising, are_valid_members, are_none}
use Rattle.smk_record.specs.Spelling.{num, text, list, member, pair, values, out_item, spelling, texts, is_writable_stamp, is_writable, IsReadAs, ReadsRecords}
use Rattle.smk_record.specs.Apart.{BeginWithOne, NoneIsPrefix}
use Rattle.smk_record.specs.Reading.{◌>>=◌, number_in, path_in, both_in, list_in, paired, recipe_in, format_in, fields_in, member_in, after_front, record_in}
use Rattle.smk_record.proofs.Inverts.{Inverts, bind_some, if_some, if_true, some_is, shorter, IsText, IsPathText, StampFits, num_inverts, format_inverts, path_inverts, both_inverts, list_inverts, member_inverts}
use Rattle.smk_record.proofs.Fields.{InputsFit, IsGoodItem, PairFits, ValuesFit, OutFits, OutItemFits, MemberFits, RecipeFits, recipe_text, recipe_inverts, paired_inverts, inputs_text}

-- ---- the fields of a record

abbrev rest_text : ℕ × ((Recipe × List Stamp) × List Member) → List ℕ
rest_text x = num x.0 ++ (recipe_text x.1.0 ++ list member x.1.1)

abbrev RestFits : ℕ × ((Recipe × List Stamp) × List Member) → Type 0
RestFits x = (x.0 < 2 ^ 64) × (RecipeFits x.1.0 × Each MemberFits x.1.1)

abbrev rest_of : Record → ℕ × ((Recipe × List Stamp) × List Member)
rest_of r = (r.made, ((r.recipe, r.stamps), r.members))

abbrev with_path : Record → Path × (ℕ × ((Recipe × List Stamp) × List Member))
with_path r = (r.path, rest_of r)

abbrev with_path_text : Path × (ℕ × ((Recipe × List Stamp) × List Member)) → List ℕ
with_path_text x = text x.0 ++ rest_text x.1

abbrev WithPathFits : Path × (ℕ × ((Recipe × List Stamp) × List Member)) → Type 0
WithPathFits x = IsPathText x.0 × RestFits x.1

abbrev fields_text : Record → List ℕ
fields_text r = num r.format ++ with_path_text (with_path r)

abbrev IsFormat : ℕ → Type 0
IsFormat n = is_format n ≡ true

abbrev FieldsFit : Record → Type 0
FieldsFit r = IsFormat r.format × WithPathFits (with_path r)

fields_inverts : Inverts fields_text FieldsFit fields_in
unfolding fields_in
fields_inverts =
    both_inverts (λ format x. record { format = format; path = x.0; made = x.1.0; recipe = x.1.1.0.0; stamps = x.1.1.0.1; members = x.1.1.1 }) (λ r. r.format) with_path
    num IsFormat format_in with_path_text WithPathFits (both_in paired path_in (both_in paired (number_in 10) (both_in paired recipe_in (list_in member_in)))) (λ a b. refl) (λ a b. refl) (λ c. refl) format_inverts
    (paired_inverts text IsPathText path_in rest_text RestFits (both_in paired (number_in 10) (both_in paired recipe_in (list_in member_in))) path_inverts
    (paired_inverts num (λ n. n < 2 ^ 64) (number_in 10) (λ x. recipe_text x.0 ++ list member x.1) (λ x. RecipeFits x.0 × Each MemberFits x.1) (both_in paired recipe_in (list_in member_in)) num_inverts
    (paired_inverts recipe_text RecipeFits recipe_in (list member) (Each MemberFits) (list_in member_in) recipe_inverts (list_inverts member MemberFits member_in member_inverts))))

regrouped : (s f a b t w p i o m : List ℕ) → ((s ++ f) ++ (a ++ (b ++ (t ++ (w ++ (p ++ (i ++ o))))))) ++ m ≡ s ++ (f ++ (a ++ (b ++ ((t ++ (w ++ (p ++ (i ++ o)))) ++ m))))
regrouped s f a b t w p i o m = simp append_assoc

spelled : (r : Record) → spelling r ≡ codes "SMK" ++ fields_text r
spelled r =
    regrouped (codes "SMK") (num r.format) (text r.path) (num r.made) (text r.recipe.template) (list pair r.recipe.wildcards) (list values r.recipe.params) (inputs_text (r.recipe.inputs, r.stamps)) (list out_item r.recipe.outputs) (list member r.members)

front_found : (front bytes rest : List ℕ) → after_front front bytes ≡ Some rest → bytes ≡ front ++ rest
front_found [] bytes rest e = some_is bytes rest e
front_found (c ∷ front) [] rest e = absurd cc
front_found (c ∷ front) (b ∷ bytes) rest e = go (eqb b c) refl e (front_found front bytes rest)
  where
    go : (d : Bool) → eqb b c ≡ d → cond d (after_front front bytes) None ≡ Some rest → (after_front front bytes ≡ Some rest → bytes ≡ front ++ rest) → b ∷ bytes ≡ c ∷ (front ++ rest)
    go true h k more = ap (λ x. x ∷ bytes) (eqb-true b c h) ∙ ap (λ t. c ∷ t) (more k)
    go false h k more = absurd cc

eqb_same : (n : ℕ) → eqb n n ≡ true
eqb_same n = grind arith

front_again : (front rest : List ℕ) → after_front front (front ++ rest) ≡ Some rest
front_again [] rest = refl
front_again (c ∷ front) rest = ap (λ b. cond b (after_front front (front ++ rest)) None) (eqb_same c) ∙ front_again front rest

-- ---- texts and paths that fit, and records that are valid and writable

each_of : {A : Type 0} (p : A → Bool) (xs : List A) → list_all p xs ≡ true → Each (λ x. p x ≡ true) xs
each_of p [] h = tt
each_of p (x ∷ xs) h = (and_first (p x) (list_all p xs) h, each_of p xs (and_second (p x) (list_all p xs) h))

all_of : {A : Type 0} (p : A → Bool) (xs : List A) → Each (λ x. p x ≡ true) xs → list_all p xs ≡ true
all_of p [] h = refl
all_of p (x ∷ xs) h = both_true (p x) (list_all p xs) h.0 (all_of p xs h.1)

each_turned : {A : Type 0} (P Q : A → Type 0) (xs : List A) → ((x : A) → P x → Q x) → Each P xs → Each Q xs
each_turned P Q [] f h = tt
each_turned P Q (x ∷ xs) f h = (f x h.0, each_turned P Q xs f h.1)

each_both : {A : Type 0} (P Q : A → Type 0) (xs : List A) → Each P xs → Each Q xs → Each (λ x. P x × Q x) xs
each_both P Q [] h k = tt
each_both P Q (x ∷ xs) h k = ((h.0, k.0), each_both P Q xs h.1 k.1)

flat_each : {A B : Type 0} (f : A → List B) (p : B → Bool) (xs : List A) → list_all p (flat_map f xs) ≡ true → Each (λ x. list_all p (f x) ≡ true) xs
flat_each f p [] h = tt
flat_each f p (x ∷ xs) h =
    let k : (list_all p (f x) && list_all p (flat_map f xs)) ≡ true = sym (ap (list_all p) (flat_map-cons f x xs) ∙ list_all-append p (f x) (flat_map f xs)) ∙ h in
    (and_first (list_all p (f x)) (list_all p (flat_map f xs)) k, flat_each f p xs (and_second (list_all p (f x)) (list_all p (flat_map f xs)) k))

flat_all : {A B : Type 0} (f : A → List B) (p : B → Bool) (xs : List A) → Each (λ x. list_all p (f x) ≡ true) xs → list_all p (flat_map f xs) ≡ true
flat_all f p [] h = refl
flat_all f p (x ∷ xs) h = ap (list_all p) (flat_map-cons f x xs) ∙ list_all-append p (f x) (flat_map f xs) ∙ both_true (list_all p (f x)) (list_all p (flat_map f xs)) h.0 (flat_all f p xs h.1)

split_all : {A : Type 0} (p : A → Bool) (xs ys : List A) → list_all p (xs ++ ys) ≡ true → (list_all p xs ≡ true) × (list_all p ys ≡ true)
split_all p xs ys h =
    let k : (list_all p xs && list_all p ys) ≡ true = sym (list_all-append p xs ys) ∙ h in
    (and_first (list_all p xs) (list_all p ys) k, and_second (list_all p xs) (list_all p ys) k)

join_all : {A : Type 0} (p : A → Bool) (xs ys : List A) → list_all p xs ≡ true → list_all p ys ≡ true → list_all p (xs ++ ys) ≡ true
join_all p xs ys h k = list_all-append p xs ys ∙ both_true (list_all p xs) (list_all p ys) h k

abbrev name_and_value : Pair → List (List ℕ)
name_and_value p = p.name ∷ p.value ∷ []

abbrev name_and_values : Values → List (List ℕ)
name_and_values v = v.name ∷ v.values

abbrev item_name : Item → List ℕ
item_name i = i.name

abbrev out_name : OutItem → List ℕ
out_name o = o.name

abbrev item_paths : Item → List Path
item_paths i = i.paths

abbrev item_outs : OutItem → List Path
item_outs o = map (λ (x : Out). x.path) o.outs

-- what is writable of a recipe
record TextsFit (recipe : Recipe) : Type 0 where
  template : IsText recipe.template
  wildcards : Each PairFits recipe.wildcards
  params : Each ValuesFit recipe.params
  inputs : Each (λ (i : Item). IsText i.name) recipe.inputs
  outputs : Each (λ (o : OutItem). IsText o.name) recipe.outputs

texts_fit : (recipe : Recipe) → list_all is_text (texts recipe) ≡ true → TextsFit recipe
texts_fit recipe h =
    let more = flat_map name_and_value recipe.wildcards ++ (flat_map name_and_values recipe.params ++ (map item_name recipe.inputs ++ map out_name recipe.outputs)) in
    let a = and_second (is_text recipe.template) (list_all is_text more) h in
    let b = split_all is_text (flat_map name_and_value recipe.wildcards) (flat_map name_and_values recipe.params ++ (map item_name recipe.inputs ++ map out_name recipe.outputs)) a in
    let c = split_all is_text (flat_map name_and_values recipe.params) (map item_name recipe.inputs ++ map out_name recipe.outputs) b.1 in
    let d = split_all is_text (map item_name recipe.inputs) (map out_name recipe.outputs) c.1 in
    record {
      template = and_first (is_text recipe.template) (list_all is_text more) h;
      wildcards = each_turned (λ (p : Pair). list_all is_text (name_and_value p) ≡ true) PairFits recipe.wildcards
          (λ p k. (and_first (is_text p.name) (is_text p.value && true) k, and_first (is_text p.value) true (and_second (is_text p.name) (is_text p.value && true) k))) (flat_each name_and_value is_text recipe.wildcards b.0);
      params = each_turned (λ (v : Values). list_all is_text (name_and_values v) ≡ true) ValuesFit recipe.params
          (λ v k. (and_first (is_text v.name) (list_all is_text v.values) k, each_of is_text v.values (and_second (is_text v.name) (list_all is_text v.values) k))) (flat_each name_and_values is_text recipe.params c.0);
      inputs = each_of (λ (i : Item). is_text i.name) recipe.inputs (sym (list_all-map is_text item_name recipe.inputs) ∙ d.0);
      outputs = each_of (λ (o : OutItem). is_text o.name) recipe.outputs (sym (list_all-map is_text out_name recipe.outputs) ∙ d.1);
    }

fit_texts : (recipe : Recipe) → TextsFit recipe → list_all is_text (texts recipe) ≡ true
fit_texts recipe h =
    both_true (is_text recipe.template) _ h.template
    (join_all is_text (flat_map name_and_value recipe.wildcards) _
    (flat_all name_and_value is_text recipe.wildcards (each_turned PairFits (λ (p : Pair). list_all is_text (name_and_value p) ≡ true) recipe.wildcards (λ p k. both_true (is_text p.name) (is_text p.value && true) k.0 (both_true (is_text p.value) true k.1 refl)) h.wildcards))
    (join_all is_text (flat_map name_and_values recipe.params) _
    (flat_all name_and_values is_text recipe.params (each_turned ValuesFit (λ (v : Values). list_all is_text (name_and_values v) ≡ true) recipe.params (λ v k. both_true (is_text v.name) (list_all is_text v.values) k.0 (all_of is_text v.values k.1)) h.params))
    (join_all is_text (map item_name recipe.inputs) (map out_name recipe.outputs)
    (list_all-map is_text item_name recipe.inputs ∙ all_of (λ (i : Item). is_text i.name) recipe.inputs h.inputs)
    (list_all-map is_text out_name recipe.outputs ∙ all_of (λ (o : OutItem). is_text o.name) recipe.outputs h.outputs))))

lt_of : (n : ℕ) → n < 2 ^ 64 → nat_lt n (2 ^ 64) ≡ true
lt_of n h = grind arith

fits_writable : (r : Record) → FieldsFit r → is_writable r ≡ true
fits_writable r h =
    let recipe = h.1.1.1.0 in
    let parts = recipe.1 in
    let texts_are : list_all is_text (texts r.recipe) ≡ true = fit_texts r.recipe (record {
      template = recipe.0;
      wildcards = parts.0;
      params = parts.1.0;
      inputs = each_turned IsGoodItem (λ (i : Item). IsText i.name) r.recipe.inputs (λ i k. k.0) parts.1.1.0.items;
      outputs = each_turned OutItemFits (λ (o : OutItem). IsText o.name) r.recipe.outputs (λ o k. k.0) parts.1.1.1;
    }) in
    let stamps_are : list_all is_writable_stamp r.stamps ≡ true = all_of is_writable_stamp r.stamps parts.1.1.0.stamps in
    both_true (list_all is_text (texts r.recipe)) _ texts_are (both_true (nat_lt r.made (2 ^ 64)) _ (lt_of r.made h.1.1.0) stamps_are)

-- what validity gives
record ValidParts (r : Record) : Type 0 where
  count : length r.stamps ≡ length (in_paths r.recipe)
  listed : among (out_paths r.recipe) r.path ≡ true
  inputs : list_all is_path_text (in_paths r.recipe) ≡ true
  outputs : list_all is_path_text (out_paths r.recipe) ≡ true
  members : cond (among (folders_of r.recipe) r.path) (are_valid_members r.path r.members) (are_none r.members) ≡ true
  format : is_format r.format ≡ true

valid_parts : (r : Record) → is_valid r ≡ true → ValidParts r
valid_parts r h =
    let b1 = and_second (eqb (length r.stamps) (length (in_paths r.recipe))) _ h in
    let b2 = and_second (among (out_paths r.recipe) r.path) _ b1 in
    let b3 = and_second (nat_le 1 r.made) _ b2 in
    let b4 = and_second (list_all (is_earlier r.made) r.stamps) _ b3 in
    let b5 = and_second (are_rising (map (λ (w : Pair). w.name) r.recipe.wildcards)) _ b4 in
    let b6 = and_second (list_all is_path_text (in_paths r.recipe)) _ b5 in
    let b7 = and_second (list_all is_path_text (out_paths r.recipe)) _ b6 in
    let b8 = and_second (cond (among (folders_of r.recipe) r.path) (are_valid_members r.path r.members) (are_none r.members)) _ b7 in
    record {
      count = eqb-true _ _ (and_first (eqb (length r.stamps) (length (in_paths r.recipe))) _ h);
      listed = and_first (among (out_paths r.recipe) r.path) _ b1;
      inputs = and_first (list_all is_path_text (in_paths r.recipe)) _ b5;
      outputs = and_first (list_all is_path_text (out_paths r.recipe)) _ b6;
      members = and_first (cond (among (folders_of r.recipe) r.path) (are_valid_members r.path r.members) (are_none r.members)) _ b7;
      format = and_first (is_format r.format) _ (and_first (is_format r.format && list_all (is_in_format r.format) r.stamps) true b8);
    }

named_passes : (p : Path → Bool) (ps : List Path) (q : Path) → list_all p ps ≡ true → is_named q ps ≡ true → p q ≡ true
named_passes p [] q h k = absurd cc
named_passes p (x ∷ ps) q h k =
    elim (or_cases (bytes_eq q x) (is_named q ps) k) [
      | inl same ↦ ap p (same_place q x same) ∙ and_first (p x) (list_all p ps) h
      | inr more ↦ named_passes p ps q (and_second (p x) (list_all p ps) h) more
    ]

no_members : (ms : List Member) → are_none ms ≡ true → ms ≡ []
no_members [] h = refl
no_members (m ∷ ms) h = absurd cc

members_by : (p : Path) (ms : List Member) (b : Bool) → cond b (are_valid_members p ms) (are_none ms) ≡ true → Each MemberFits ms
members_by p ms true h =
    let names = map (λ (m : Member). m.name) ms in
    let fit = λ (name : Path). is_path_text name && is_path (in_folder p name) in
    let a = and_first (nat_le (length names) 20000 && list_all fit names) _ h in
    let b = and_second (nat_le (length names) 20000) (list_all fit names) a in
    each_turned (λ (m : Member). fit m.name ≡ true) MemberFits ms (λ m k. (tt, and_first (is_path_text m.name) (is_path (in_folder p m.name)) k))
    (each_of (λ (m : Member). fit m.name) ms (sym (list_all-map fit (λ (m : Member). m.name) ms) ∙ b))
members_by p ms false h = subst (Each MemberFits) (sym (no_members ms h)) tt

fits_of : (r : Record) → is_valid r ≡ true → is_writable r ≡ true → FieldsFit r
fits_of r h k =
    let v = valid_parts r h in
    let t = texts_fit r.recipe (and_first (list_all is_text (texts r.recipe)) _ k) in
    let k1 = and_second (list_all is_text (texts r.recipe)) _ k in
    let small : Each StampFits r.stamps = each_of is_writable_stamp r.stamps (and_second (nat_lt r.made (2 ^ 64)) _ k1) in
    let item_paths_fit : Each (λ (i : Item). Each IsPathText i.paths) r.recipe.inputs = each_turned (λ (i : Item). list_all is_path_text i.paths ≡ true) (λ (i : Item). Each IsPathText i.paths) r.recipe.inputs (λ i e. each_of is_path_text i.paths e) (flat_each item_paths is_path_text r.recipe.inputs v.inputs) in
    let outs_fit : Each (λ (o : OutItem). Each OutFits o.outs) r.recipe.outputs = each_turned (λ (o : OutItem). list_all is_path_text (item_outs o) ≡ true) (λ (o : OutItem). Each OutFits o.outs) r.recipe.outputs
    (λ o e. each_turned (λ (x : Out). is_path_text x.path ≡ true) OutFits o.outs (λ x g. (tt, g)) (each_of (λ (x : Out). is_path_text x.path) o.outs (sym (list_all-map is_path_text (λ (x : Out). x.path) o.outs) ∙ e))) (flat_each item_outs is_path_text r.recipe.outputs v.outputs) in
    let inputs_are : InputsFit (r.recipe.inputs, r.stamps) = record {
      items = each_both (λ (i : Item). IsText i.name) (λ (i : Item). Each IsPathText i.paths) r.recipe.inputs t.inputs item_paths_fit;
      stamps = small;
      count = v.count;
    } in (
      v.format,
      (
        named_passes is_path_text (out_paths r.recipe) r.path v.outputs v.listed,
        (
          ltb-true _ _ (and_first (nat_lt r.made (2 ^ 64)) _ k1),
          (
            (t.template, (t.wildcards, (t.params, (inputs_are, each_both (λ (o : OutItem). IsText o.name) (λ (o : OutItem). Each OutFits o.outs) r.recipe.outputs t.outputs outs_fit)))),
            members_by r.path r.members (among (folders_of r.recipe) r.path) v.members,
          ),
        ),
      ),
    )

-- ---- whole records

whole_end : (rest : List ℕ) → eqb (length rest) 0 ≡ true → rest ≡ []
whole_end rest h = nil_from_length rest (eqb-true _ _ h)

record_found : (bytes : List ℕ) (r : Record) → record_in bytes ≡ Some r → (bytes ≡ spelling r) × IsTrue (is_valid r && is_writable r)
unfolding record_in
record_found bytes r e =
    let a = bind_some (after_front (codes "SMK") bytes) (λ fields. fields_in fields >>= λ found. cond (eqb (length found.1) 0 && is_valid found.0) (Some found.0) None) r e in
    let b = bind_some (fields_in a.0) (λ found. cond (eqb (length found.1) 0 && is_valid found.0) (Some found.0) None) r a.2 in
    let kept = b.0.0 in
    let g = if_some (eqb (length b.0.1) 0 && is_valid kept) kept r b.2 in
    let nothing : b.0.1 ≡ [] = whole_end b.0.1 (and_first (eqb (length b.0.1) 0) (is_valid kept) g.0) in
    let f = fields_inverts.found a.0 kept b.0.1 b.1 in
    let whole : bytes ≡ spelling kept = front_found (codes "SMK") bytes a.0 a.1 ∙ ap (λ t. codes "SMK" ++ t) (f.0 ∙ ap (λ t. fields_text kept ++ t) nothing ∙ append-nil (fields_text kept)) ∙ sym (spelled kept) in
    let good : (is_valid kept && is_writable kept) ≡ true = both_true (is_valid kept) (is_writable kept) (and_second (eqb (length b.0.1) 0) (is_valid kept) g.0) (fits_writable kept f.1) in
    subst (λ x. (bytes ≡ spelling x) × IsTrue (is_valid x && is_writable x)) g.1 (whole, good)

abbrev record_by : Option (List ℕ) → Option Record
record_by o = o >>= λ fields. fields_in fields >>= λ found. cond (eqb (length found.1) 0 && is_valid found.0) (Some found.0) None

record_again : (r : Record) → length (spelling r) < 2 ^ 64 → IsTrue (is_valid r && is_writable r) → record_in (spelling r) ≡ Some r
unfolding record_in
record_again r lt h =
    let valid = and_first (is_valid r) (is_writable r) h in
    let fits = fits_of r valid (and_second (is_valid r) (is_writable r) h) in
    let lt2 : length (fields_text r ++ []) < 2 ^ 64 = omega (arith, lt, ap length (spelled r), length-append (codes "SMK") (fields_text r), length-append (fields_text r) []) in
    let read : fields_in (fields_text r) ≡ Some (r, []) = ap fields_in (sym (append-nil (fields_text r))) ∙ fields_inverts.again r [] fits lt2 in
    ap record_in (spelled r) ∙ ap record_by (front_again (codes "SMK") (fields_text r)) ∙ rw read (if_true (is_valid r) r valid)

pub reads_records : ReadsRecords record_in
reads_records bytes r lt =
    (record_found bytes r, λ h. ap record_in h.0 ∙ record_again r (subst (λ t. length t < 2 ^ 64) h.0 lt) h.1)

pub read_as : (bytes : List ℕ) (found : Option Record) → length bytes < 2 ^ 64 → record_in bytes ≡ found → IsReadAs bytes found
read_as bytes found lt e = subst (IsReadAs bytes) e (λ r. reads_records bytes r lt)

-- ---- what bytes begin with

-- the record with which the bytes begin is read, whatever follows it
begins : (bytes rest : List ℕ) (r : Record) → length bytes < 2 ^ 64 → IsTrue (is_valid r && is_writable r) → bytes ≡ spelling r ++ rest → (after_front (codes "SMK") bytes >>= fields_in) ≡ Some (r, rest)
begins bytes rest r lt h e =
    let whole : bytes ≡ codes "SMK" ++ (fields_text r ++ rest) = e ∙ ap (λ t. t ++ rest) (spelled r) ∙ append_assoc (codes "SMK") (fields_text r) rest in
    let fits = fits_of r (and_first (is_valid r) (is_writable r) h) (and_second (is_valid r) (is_writable r) h) in
    let lt2 = shorter (codes "SMK") (fields_text r ++ rest) (2 ^ 64) (subst (λ t. length t < 2 ^ 64) whole lt) in
    ap (λ t. after_front (codes "SMK") t >>= fields_in) whole
    ∙ ap (λ o. o >>= fields_in) (front_again (codes "SMK") (fields_text r ++ rest))
    ∙ fields_inverts.again r rest fits lt2

pub begin_with_one : BeginWithOne
begin_with_one bytes u v r s lt hr hs eu ev =
    let p = some_is (r, u) (s, v) (sym (begins bytes u r lt hr eu) ∙ begins bytes v s lt hs ev) in
    (ap (λ (q : Record × List ℕ). q.0) p, ap (λ (q : Record × List ℕ). q.1) p)

pub none_is_prefix : NoneIsPrefix
none_is_prefix r s rest lt hr hs e =
    let both = begin_with_one (spelling s) rest [] r s lt hr hs e (sym (append-nil (spelling s))) in
    (both.0, both.1)
