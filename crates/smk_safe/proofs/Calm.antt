-- A job whose records are those of its recipe and of the stamps that its inputs have now has no reasons of its own.
use Rattle.std.proofs.Common.{◌≡◌, inl, inr, ℕ, Bool, true, false, ◌&&◌, ◌||◌, ◌==◌, not, cond, List, [], ◌∷◌, ◌++◌, map, filter, flat_map, zip, refl, ap, sym, subst, ◌∙◌, bytes_eq, Option, Some, None}
use Rattle.std.specs.List.{list_any, list_all}
use Rattle.smk_safe.proofs.Images.{flag_itself}
use lib.Pointwise.{pointwise}
use Rattle.smk_base.proofs.Places.{place_itself, same_place}
use Rattle.smk_base.proofs.Under.{both_true}
use Rattle.smk_base.specs.declared.tree.Pair.{Pair}
use Rattle.smk_world.specs.World.{in_paths}
use Rattle.smk_world.specs.Trees.{Path, IsIn, Each, is_folder_kind}
use Rattle.smk_world.specs.declared.recipe.Item.{Item}
use Rattle.smk_world.specs.declared.recipe.Out.{Out}
use Rattle.smk_world.specs.declared.recipe.OutItem.{OutItem}
use Rattle.smk_world.specs.declared.recipe.Recipe.{Recipe}
use Rattle.smk_world.specs.declared.recipe.Values.{Values}
use Rattle.smk_record.specs.declared.record.Record.{Record}
use Rattle.smk_record.specs.declared.record.Stamp.{Stamp}
use Rattle.smk_record.specs.declared.record.Stamp.TheVariants.{Time, Sum, Made}
use Rattle.smk_record.specs.Records.{agree, agrees, same_pair, same_stamp}
use Rattle.smk_store.specs.declared.store.Kept.{Kept}
use Rattle.smk_store.specs.declared.store.Kept.TheVariants.{Held}
use Rattle.smk_laws_protocol.proofs.Basics.{none_by}
use Rattle.smk_laws_protocol.proofs.SoundViews.{itself}
use Rattle.smk_laws_plan.proofs.CurrentLists.{filter_in, map_in}
use Rattle.smk_trigger.specs.declared.reason.Reason.TheVariants.{New, Marked, BadRecord, Code, Params, Inputs, Updated}
use Rattle.smk_trigger.specs.Reasons.{once, changes, changes_from, has_bad_record, all_same, held, is_absent, is_unreadable, is_updated, own_reasons, same_code, same_inputs, same_item, same_job, same_out, same_out_item, same_params, same_recipe, same_values, when}

-- ## What says the same as itself

pointwise_self : {A : Type 0} (E : A → A → Bool) → ((x : A) → E x x ≡ true) → (xs : List A) → pointwise E xs xs ≡ true
pointwise_self E h [] = refl
pointwise_self E h (x ∷ xs) = both_true (E x x) (pointwise E xs xs) (h x) (pointwise_self E h xs)

pair_self : (x : Pair) → same_pair x x ≡ true
pair_self x = both_true (bytes_eq x.name x.name) _ (place_itself x.name) (place_itself x.value)

values_self : (x : Values) → same_values x x ≡ true
values_self x = both_true (bytes_eq x.name x.name) _ (place_itself x.name) (pointwise_self bytes_eq place_itself x.values)

item_self : (x : Item) → same_item x x ≡ true
item_self x = both_true (bytes_eq x.name x.name) _ (place_itself x.name) (pointwise_self bytes_eq place_itself x.paths)

out_self : (x : Out) → same_out x x ≡ true
out_self x = both_true (bytes_eq x.path x.path) _ (place_itself x.path) (flag_itself (is_folder_kind x.kind))

out_item_self : (x : OutItem) → same_out_item x x ≡ true
out_item_self x = both_true (bytes_eq x.name x.name) _ (place_itself x.name) (pointwise_self same_out out_self x.outs)

stamp_self : (x : Stamp) → same_stamp x x ≡ true
stamp_self (Time t) = itself t t refl
stamp_self (Sum t d) = both_true (t == t) (bytes_eq d.0 d.0) (itself t t refl) (place_itself d.0)
stamp_self (Made m) = itself m m refl

agree_self : (x : Stamp) → agree x x ≡ true
agree_self (Time t) = itself t t refl
agree_self (Sum t d) = ap (λ b. b || bytes_eq d.0 d.0) (itself t t refl)
agree_self (Made m) = itself m m refl

code_self : (r : Recipe) → same_code r r ≡ true
code_self r = both_true (bytes_eq r.template r.template) _ (place_itself r.template) (pointwise_self same_out_item out_item_self r.outputs)

params_self : (r : Recipe) → same_params r r ≡ true
params_self r = both_true (pointwise same_pair r.wildcards r.wildcards) _ (pointwise_self same_pair pair_self r.wildcards) (pointwise_self same_values values_self r.params)

inputs_self : (r : Recipe) → same_inputs r r ≡ true
inputs_self r = pointwise_self same_item item_self r.inputs

-- ## Records of one job

once_within : (es : List (Path × Option Stamp)) (x : Path × Option Stamp) → IsIn (once es) x → IsIn es x
once_within [] x h = absurd h
once_within (e ∷ es) x (inl p) = inl p
once_within (e ∷ es) x (inr h) = inr (once_within es x ((filter_in (λ (d : Path × Option Stamp). not (bytes_eq e.0 d.0)) (once es) x h).0))

-- the record has this serial, recipe and stamps, in the format that is written
pub record IsAs (made : ℕ) (recipe : Recipe) (stamps : List Stamp) (r : Record) : Type 0 where
  pub serial : r.made ≡ made
  pub of_recipe : r.recipe ≡ recipe
  pub with_stamps : r.stamps ≡ stamps
  pub in_format : r.format ≡ 2

module _ (made : ℕ) (recipe : Recipe) (stamps : List Stamp) where
  alike : (a b : Record) → IsAs made recipe stamps a → IsAs made recipe stamps b → same_job a b ≡ true
  alike a b h k =
      (λ i. (h.serial i == k.serial i) && (same_recipe (h.of_recipe i) (k.of_recipe i) && (pointwise same_stamp (h.with_stamps i) (k.with_stamps i) && h.in_format i == k.in_format i)))
      ∙ both_true (made == made) _ (itself made made refl)
      (both_true (same_recipe recipe recipe) _
      (both_true (same_code recipe recipe) _ (code_self recipe) (both_true (same_params recipe recipe) _ (params_self recipe) (inputs_self recipe)))
      (both_true (pointwise same_stamp stamps stamps) _ (pointwise_self same_stamp stamp_self stamps) refl))

  all_alike : (r : Record) (rs : List Record) → IsAs made recipe stamps r → Each (IsAs made recipe stamps) rs → list_all (same_job r) rs ≡ true
  all_alike r [] h k = refl
  all_alike r (x ∷ rs) h k = both_true (same_job r x) (list_all (same_job r) rs) (alike r x h k.0) (all_alike r rs h k.1)

  same_all : (rs : List Record) → Each (IsAs made recipe stamps) rs → all_same rs ≡ true
  same_all [] h = refl
  same_all (r ∷ rs) h = all_alike r rs h.0 h.1

  -- a record is held that is so
  abbrev pub HoldsOne : Kept → Type 0
  HoldsOne k = (r : Record) × (k ≡ Held r) × IsAs made recipe stamps r

  held_all : (ks : List Kept) → Each HoldsOne ks → Each (IsAs made recipe stamps) (flat_map held ks)
  held_all [] h = tt
  held_all (k ∷ ks) h = subst (λ (x : Kept). Each (IsAs made recipe stamps) (flat_map held (x ∷ ks))) (sym h.0.1) (h.0.2, held_all ks h.1)

  none_absent : (ks : List Kept) → Each HoldsOne ks → list_any is_absent ks ≡ false
  none_absent [] h = refl
  none_absent (k ∷ ks) h = ap (λ (x : Kept). is_absent x || list_any is_absent ks) h.0.1 ∙ none_absent ks h.1

  none_unreadable : (ks : List Kept) → Each HoldsOne ks → list_any is_unreadable ks ≡ false
  none_unreadable [] h = refl
  none_unreadable (k ∷ ks) h = ap (λ (x : Kept). is_unreadable x || list_any is_unreadable ks) h.0.1 ∙ none_unreadable ks h.1

  none_marked : (bs : List Bool) → Each (λ b. b ≡ false) bs → list_any (λ b. b) bs ≡ false
  none_marked [] h = refl
  none_marked (b ∷ bs) h = (λ i. h.0 i || list_any (λ x. x) bs) ∙ none_marked bs h.1

  -- ## Stamps

  filter_none : {A : Type 0} (f : A → Bool) (xs : List A) → ((x : A) → IsIn xs x → f x ≡ false) → filter f xs ≡ []
  filter_none f [] h = refl
  filter_none f (x ∷ xs) h = ap (λ b. cond b (x ∷ filter f xs) (filter f xs)) (h x (inl refl)) ∙ filter_none f xs (λ y k. h y (inr k))

  module _ (now : Path → Option Stamp) (steady : (q : Path) (s : Stamp) → IsIn (zip (in_paths recipe) stamps) (q, s) → now q ≡ Some s) where
    abbrev inputs_now : List (Path × Option Stamp)
    inputs_now = map (λ q. (q, now q)) (in_paths recipe)

    not_updated : (es : List (Path × Stamp)) (q : Path) → ((e : Path × Stamp) → IsIn es e → now e.0 ≡ Some e.1) → is_updated es (q, now q) ≡ false
    not_updated es q h = go (now q) refl
      where
        still : (s x : Stamp) → Some x ≡ Some s → agrees s (Some x) ≡ true
        still s x e = subst (λ (y : Stamp). agree s y ≡ true) (sym (same e)) (agree_self s)
          where
            same : Some x ≡ Some s → x ≡ s
            same k = cc

        one : (x : Stamp) → now q ≡ Some x → (e : Path × Stamp) → IsIn es e → (bytes_eq e.0 q && not (agrees e.1 (Some x))) ≡ false
        one x is e i = by (bytes_eq e.0 q) refl
          where
            by : (b : Bool) → bytes_eq e.0 q ≡ b → (b && not (agrees e.1 (Some x))) ≡ false
            by false k = refl
            by true k = ap not (still e.1 x (sym is ∙ ap now (sym (same_place e.0 q k)) ∙ h e i))

        go : (n : Option Stamp) → now q ≡ n → is_updated es (q, n) ≡ false
        go None is = refl
        go (Some x) is = none_by (λ (e : Path × Stamp). bytes_eq e.0 q && not (agrees e.1 (Some x))) es (one x is)

    none_updated : filter (is_updated (zip (in_paths recipe) stamps)) (once inputs_now) ≡ []
    none_updated =
        filter_none (is_updated (zip (in_paths recipe) stamps)) (once inputs_now) (λ e i.
        let at = map_in (λ q. (q, now q)) (in_paths recipe) e (once_within inputs_now e i) in
        subst (λ (x : Path × Option Stamp). is_updated (zip (in_paths recipe) stamps) x ≡ false) (sym at.2)
        (not_updated (zip (in_paths recipe) stamps) at.0 (λ d k. steady d.0 d.1 k)))

    unchanged : (r : Record) → IsAs made recipe stamps r → changes recipe inputs_now r ≡ []
    unchanged r h =
        (λ i.
        when (not (same_code recipe (h.of_recipe i))) Code
        ++ (when (not (same_params recipe (h.of_recipe i))) Params
        ++ (when (not (same_inputs recipe (h.of_recipe i))) Inputs
        ++ map (λ (e : Path × Option Stamp). Updated e.0) (filter (is_updated (zip (in_paths (h.of_recipe i)) (h.with_stamps i))) (once inputs_now)))))
        ∙ (λ i. when (not (code_self recipe i)) Code ++ (when (not (params_self recipe i)) Params ++ (when (not (inputs_self recipe i)) Inputs ++ map (λ (e : Path × Option Stamp). Updated e.0) (none_updated i))))

    unchanged_from : (rs : List Record) → Each (IsAs made recipe stamps) rs → changes_from recipe inputs_now rs ≡ []
    unchanged_from [] h = refl
    unchanged_from (r ∷ rs) h = unchanged r h.0

    pub own_none : (ks : List Kept) (marked : List Bool) → Each HoldsOne ks → Each (λ b. b ≡ false) marked → own_reasons recipe ks marked inputs_now ≡ []
    own_none ks marked held_so unmarked =
        let records = held_all ks held_so in
        let lacks = none_absent ks held_so in
        let bad : has_bad_record ks ≡ false = λ i. none_unreadable ks held_so i || not (same_all (flat_map held ks) records i) in
        λ i.
        when (lacks i) New ++ (when (none_marked marked unmarked i) Marked ++ (when (bad i) BadRecord ++ (cond (lacks i || bad i) [] (unchanged_from (flat_map held ks) records i))))
