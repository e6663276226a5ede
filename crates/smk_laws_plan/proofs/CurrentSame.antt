-- Tests that say that two things are the same, and what a job without reasons of its own has on record.
use Rattle.std.proofs.Common.{◌≡◌, ◌⊎◌, Bool, true, false, not, cond, ◌&&◌, ◌||◌, List, [], ◌∷◌, map, filter, flat_map, refl, sym, ap, subst, inl, inr, ◌∙◌, Option, Some, true≢false, eqb, eqb-true}
use Rattle.std.specs.Prelude.{bytes_eq}
use Rattle.std.specs.List.{list_any}
use lib.Pointwise.{pointwise}
use Rattle.smk_laws_plan.proofs.CurrentLists.{In, both, in_filter, filter_in, map_in, and_left, and_right, not_false, or_left, or_right, cons_nil, append_nil_left, append_nil_right, map_nil, filter_nil, any_none, all_in, in_map, in_flat}
use Rattle.smk_base.proofs.Places.{place_itself, same_place}
use Rattle.smk_base.specs.Digests.{digest}
use Rattle.smk_base.specs.declared.tree.Pair.{Pair}
use Rattle.smk_record.specs.Records.{agree, agrees, same_flag, same_pair, same_stamp, stamped}
use Rattle.smk_record.specs.declared.record.Record.{Record}
use Rattle.smk_record.specs.declared.record.Stamp.{Stamp}
use Rattle.smk_record.specs.declared.record.Stamp.TheVariants.{Made, Sum, Time}
use Rattle.smk_store.specs.Images.{Image, readable, record_at}
use Rattle.smk_store.specs.declared.store.Kept.{Kept}
use Rattle.smk_store.specs.declared.store.Kept.TheVariants.{Absent, Held, Unreadable}
use Rattle.smk_trigger.specs.Reasons.{once, changes_from, lacks_record, has_bad_record, all_same, changes, held, is_absent, is_unreadable, is_updated, own_reasons, same_code, same_inputs, same_item, same_job, same_out, same_out_item, same_params, same_recipe, same_values, when}
use Rattle.smk_trigger.specs.declared.reason.Reason.{Reason}
use Rattle.smk_trigger.specs.declared.reason.Reason.TheVariants.{BadRecord, Code, Inputs, Marked, New, Params, Updated}
use Rattle.smk_world.specs.Trees.{Path, is_folder_kind}
use Rattle.smk_world.specs.declared.recipe.Item.{Item}
use Rattle.smk_world.specs.declared.recipe.Kind.{Kind}
use Rattle.smk_world.specs.declared.recipe.Kind.TheVariants.{Plain, Folder}
use Rattle.smk_world.specs.declared.recipe.Out.{Out}
use Rattle.smk_world.specs.declared.recipe.OutItem.{OutItem}
use Rattle.smk_world.specs.declared.recipe.Recipe.{Recipe}
use Rattle.smk_world.specs.declared.recipe.Values.{Values}

pub pointwise_same : {A : Type 0} (E : A → A → Bool) → ((x y : A) → E x y ≡ true → x ≡ y) → (xs ys : List A) → pointwise E xs ys ≡ true → xs ≡ ys
pointwise_same E d [] [] h = refl
pointwise_same E d [] (y ∷ ys) h = absurd (true≢false (sym h))
pointwise_same E d (x ∷ xs) [] h = absurd (true≢false (sym h))
pointwise_same E d (x ∷ xs) (y ∷ ys) h =
    λ i. d x y (and_left (E x y) (pointwise E xs ys) h) i ∷ pointwise_same E d xs ys (and_right (E x y) (pointwise E xs ys) h) i

pub pair_same : (a b : Pair) → same_pair a b ≡ true → a ≡ b
pair_same a b h =
    let n = same_place a.name b.name (and_left (bytes_eq a.name b.name) (bytes_eq a.value b.value) h) in
    let v = same_place a.value b.value (and_right (bytes_eq a.name b.name) (bytes_eq a.value b.value) h) in
    λ i. record { name = n i; value = v i }

values_same : (a b : Values) → same_values a b ≡ true → a ≡ b
values_same a b h =
    let n = same_place a.name b.name (and_left (bytes_eq a.name b.name) _ h) in
    let v = pointwise_same bytes_eq same_place a.values b.values (and_right (bytes_eq a.name b.name) _ h) in
    λ i. record { name = n i; values = v i }

item_same : (a b : Item) → same_item a b ≡ true → a ≡ b
item_same a b h =
    let n = same_place a.name b.name (and_left (bytes_eq a.name b.name) _ h) in
    let v = pointwise_same bytes_eq same_place a.paths b.paths (and_right (bytes_eq a.name b.name) _ h) in
    λ i. record { name = n i; paths = v i }

kind_same : (a b : Kind) → same_flag (is_folder_kind a) (is_folder_kind b) ≡ true → a ≡ b
kind_same Plain Plain h = refl
kind_same Plain Folder h = absurd (true≢false (sym h))
kind_same Folder Plain h = absurd (true≢false (sym h))
kind_same Folder Folder h = refl

out_same : (a b : Out) → same_out a b ≡ true → a ≡ b
out_same a b h =
    let n = same_place a.path b.path (and_left (bytes_eq a.path b.path) _ h) in
    let v = kind_same a.kind b.kind (and_right (bytes_eq a.path b.path) _ h) in
    λ i. record { path = n i; kind = v i }

out_item_same : (a b : OutItem) → same_out_item a b ≡ true → a ≡ b
out_item_same a b h =
    let n = same_place a.name b.name (and_left (bytes_eq a.name b.name) _ h) in
    let v = pointwise_same same_out out_same a.outs b.outs (and_right (bytes_eq a.name b.name) _ h) in
    λ i. record { name = n i; outs = v i }

pub recipes_same : (a b : Recipe) → same_code a b ≡ true → same_params a b ≡ true → same_inputs a b ≡ true → a ≡ b
recipes_same a b c p n =
    let t = same_place a.template b.template (and_left (bytes_eq a.template b.template) _ c) in
    let o = pointwise_same same_out_item out_item_same a.outputs b.outputs (and_right (bytes_eq a.template b.template) _ c) in
    let w = pointwise_same same_pair pair_same a.wildcards b.wildcards (and_left (pointwise same_pair a.wildcards b.wildcards) _ p) in
    let v = pointwise_same same_values values_same a.params b.params (and_right (pointwise same_pair a.wildcards b.wildcards) _ p) in
    let s = pointwise_same same_item item_same a.inputs b.inputs n in
    λ i. record { template = t i; wildcards = w i; params = v i; inputs = s i; outputs = o i }

pub stamp_same : (a b : Stamp) → same_stamp a b ≡ true → a ≡ b
stamp_same (Time t) (Time u) h = ap Time (eqb-true t u h)
stamp_same (Time t) (Sum u c) h = absurd (true≢false (sym h))
stamp_same (Time t) (Made m) h = absurd (true≢false (sym h))
stamp_same (Sum t d) (Time u) h = absurd (true≢false (sym h))
stamp_same (Sum t d) (Sum u c) h =
    let time = eqb-true t u (and_left (eqb t u) (bytes_eq d.0 c.0) h) in
    let sum = same_place d.0 c.0 (and_right (eqb t u) (bytes_eq d.0 c.0) h) in
    λ i. Sum (time i) (digest (sum i))
stamp_same (Sum t d) (Made m) h = absurd (true≢false (sym h))
stamp_same (Made m) (Time t) h = absurd (true≢false (sym h))
stamp_same (Made m) (Sum t d) h = absurd (true≢false (sym h))
stamp_same (Made m) (Made n) h = ap Made (eqb-true m n h)

-- the records of one job have one recipe and one list of stamps
job_parts : (a b : Record) → same_job a b ≡ true → (b.recipe ≡ a.recipe) × (b.stamps ≡ a.stamps)
job_parts a b h =
    let later = and_right (eqb a.made b.made) (same_recipe a.recipe b.recipe && (pointwise same_stamp a.stamps b.stamps && eqb a.format b.format)) h in
    let r = and_left (same_recipe a.recipe b.recipe) (pointwise same_stamp a.stamps b.stamps && eqb a.format b.format) later in
    let last = and_right (same_recipe a.recipe b.recipe) (pointwise same_stamp a.stamps b.stamps && eqb a.format b.format) later in
    let pi = and_right (same_code a.recipe b.recipe) (same_params a.recipe b.recipe && same_inputs a.recipe b.recipe) r in (
      sym (recipes_same a.recipe b.recipe (and_left (same_code a.recipe b.recipe) _ r) (and_left (same_params a.recipe b.recipe) _ pi) (and_right (same_params a.recipe b.recipe) _ pi)),
      sym (pointwise_same same_stamp stamp_same a.stamps b.stamps (and_left (pointwise same_stamp a.stamps b.stamps) (eqb a.format b.format) last)),
    )

pub when_nil : (b : Bool) (r : Reason) → when b r ≡ [] → b ≡ false
when_nil true r h = absurd (cons_nil r [] h)
when_nil false r h = refl

-- ## Each path once

in_once : (es : List (Path × Option Stamp)) (x : Path × Option Stamp) → In x es → (y : Path × Option Stamp) × In y (once es) × (bytes_eq y.0 x.0 ≡ true)
in_once [] x h = absurd h
in_once (e ∷ es) x (inl p) = (e, inl refl, subst (λ (w : Path × Option Stamp). bytes_eq e.0 w.0 ≡ true) (sym p) (place_itself e.0))
in_once (e ∷ es) x (inr h) = let r = in_once es x h in go r.0 r.1 r.2 (both (bytes_eq e.0 r.0.0))
  where
    go :
        (y : Path × Option Stamp) → In y (once es) → bytes_eq y.0 x.0 ≡ true → (bytes_eq e.0 y.0 ≡ true) ⊎ (bytes_eq e.0 y.0 ≡ false) →
        (w : Path × Option Stamp) × In w (once (e ∷ es)) × (bytes_eq w.0 x.0 ≡ true)
    go y h k (inl t) = (e, inl refl, subst (λ w. bytes_eq e.0 w ≡ true) (same_place y.0 x.0 k) t)
    go y h k (inr t) = (y, inr (in_filter (λ (d : Path × Option Stamp). not (bytes_eq e.0 d.0)) (once es) y h (ap not t)), k)

pub once_within : (es : List (Path × Option Stamp)) (x : Path × Option Stamp) → In x (once es) → In x es
once_within [] x h = absurd h
once_within (e ∷ es) x (inl p) = inl p
once_within (e ∷ es) x (inr h) = inr (once_within es x ((filter_in (λ (d : Path × Option Stamp). not (bytes_eq e.0 d.0)) (once es) x h).0))

-- where each path has one stamp, none is lost
pub in_once_of : (f : Path → Option Stamp) (ps : List Path) (p : Path) → In p ps → In (p, f p) (once (map (λ q. (q, f q)) ps))
in_once_of f ps p h =
    let r = in_once (map (λ q. (q, f q)) ps) (p, f p) (in_map (λ q. (q, f q)) ps p h) in
    let s = map_in (λ q. (q, f q)) ps r.0 (once_within (map (λ q. (q, f q)) ps) r.0 r.1) in
    let same : s.0 ≡ p = sym (ap (λ (w : Path × Option Stamp). w.0) s.2) ∙ same_place r.0.0 p r.2 in
    subst (λ (w : Path × Option Stamp). In w (once (map (λ q. (q, f q)) ps))) (s.2 ∙ ap (λ q. (q, f q)) same) r.1

module _ (recipe : Recipe) (ks : List Kept) (marked : List Bool) (now : List (Path × Option Stamp)) where
  pub record OwnCalm : Type 0 where
    pub present : list_any is_absent ks ≡ false
    pub unmarked : list_any (λ b. b) marked ≡ false
    pub readable : list_any is_unreadable ks ≡ false
    pub alike : all_same (flat_map held ks) ≡ true
    pub unchanged : changes_from recipe now (flat_map held ks) ≡ []

  pub own_calm : own_reasons recipe ks marked now ≡ [] → OwnCalm
  own_calm h =
      let new = when_nil (lacks_record ks) New (append_nil_left (when (lacks_record ks) New) _ h) in
      let later = append_nil_right (when (lacks_record ks) New) _ h in
      let mark = when_nil (list_any (λ b. b) marked) Marked (append_nil_left (when (list_any (λ b. b) marked) Marked) _ later) in
      let last = append_nil_right (when (list_any (λ b. b) marked) Marked) _ later in
      let fault = when_nil (has_bad_record ks) BadRecord (append_nil_left (when (has_bad_record ks) BadRecord) _ last) in
      record {
        present = new;
        unmarked = mark;
        readable = or_left (list_any is_unreadable ks) _ fault;
        alike = not_false (all_same (flat_map held ks)) (or_right (list_any is_unreadable ks) _ fault);
        unchanged = go (lacks_record ks) (has_bad_record ks) new fault (append_nil_right (when (has_bad_record ks) BadRecord) _ last);
      }
    where
      go : (a b : Bool) → a ≡ false → b ≡ false → cond (a || b) [] (changes_from recipe now (flat_map held ks)) ≡ [] → changes_from recipe now (flat_map held ks) ≡ []
      go true b x y k = absurd (true≢false x)
      go false true x y k = absurd (true≢false y)
      go false false x y k = k

  -- a record that a calm job has is of the recipe, and each of its stamps agrees with the stamp now
  pub record Agrees (r : Record) : Type 0 where
    pub same : r.recipe ≡ recipe
    pub steady : (q : Path) (s t : Stamp) → In (q, Some t) (once now) → In (q, s) (stamped r) → agree s t ≡ true

  unchanged_agrees : (r : Record) → changes recipe now r ≡ [] → Agrees r
  unchanged_agrees r h =
      let code = not_false (same_code recipe r.recipe) (when_nil _ Code (append_nil_left (when (not (same_code recipe r.recipe)) Code) _ h)) in
      let one = append_nil_right (when (not (same_code recipe r.recipe)) Code) _ h in
      let params = not_false (same_params recipe r.recipe) (when_nil _ Params (append_nil_left (when (not (same_params recipe r.recipe)) Params) _ one)) in
      let two = append_nil_right (when (not (same_params recipe r.recipe)) Params) _ one in
      let inputs = not_false (same_inputs recipe r.recipe) (when_nil _ Inputs (append_nil_left (when (not (same_inputs recipe r.recipe)) Inputs) _ two)) in
      let updated = map_nil (λ (e : Path × Option Stamp). Updated e.0) (filter (is_updated (stamped r)) (once now))
      (append_nil_right (when (not (same_inputs recipe r.recipe)) Inputs) _ two) in
      record {
        same = sym (recipes_same recipe r.recipe code params inputs);
        steady = λ q s t i k.
            let never = filter_nil (is_updated (stamped r)) (once now) (q, Some t) updated i in
            let here = any_none (λ (e : Path × Stamp). bytes_eq e.0 q && not (agrees e.1 (Some t))) (stamped r) (q, s) never k in
            not_false (agree s t) (second (bytes_eq q q) (not (agree s t)) (place_itself q) here);
      }
    where
      second : (a b : Bool) → a ≡ true → (a && b) ≡ false → b ≡ false
      second true b x y = y
      second false b x y = absurd (true≢false (sym x))

  pub held_agrees : OwnCalm → (r : Record) → In r (flat_map held ks) → Agrees r
  held_agrees calm r h = go (flat_map held ks) calm.alike calm.unchanged h
    where
      moved : (a : Record) → same_job a r ≡ true → Agrees a → Agrees r
      moved a e g =
          let p = job_parts a r e in
          let st : stamped r ≡ stamped a = ap (λ (x : Record). stamped x) (let q : r.recipe ≡ a.recipe = p.0 in λ i. record r { recipe = p.0 i; stamps = p.1 i }) in
          record {
            same = p.0 ∙ g.same;
            steady = λ q s t i k. g.steady q s t i (subst (In (q, s)) st k);
          }

      go : (rs : List Record) → all_same rs ≡ true → changes_from recipe now rs ≡ [] → In r rs → Agrees r
      go [] a u i = absurd i
      go (x ∷ rs) a u (inl e) = subst Agrees (sym e) (unchanged_agrees x u)
      go (x ∷ rs) a u (inr i) = moved x (all_in (same_job x) rs r a i) (unchanged_agrees x u)

-- what neither lacks nor misreads is a record
pub kept_record :
    (image : Image) (ps : List Path) (p : Path) → list_any is_absent (map image.kept ps) ≡ false → list_any is_unreadable (map image.kept ps) ≡ false → In p ps →
    (r : Record) × (record_at image p ≡ Some r) × In r (flat_map held (map image.kept ps))
kept_record image ps p a u i =
    go (image.kept p) refl (any_none is_absent (map image.kept ps) (image.kept p) a (in_map image.kept ps p i)) (any_none is_unreadable (map image.kept ps) (image.kept p) u (in_map image.kept ps p i))
  where
    go : (k : Kept) → image.kept p ≡ k → is_absent k ≡ false → is_unreadable k ≡ false → (r : Record) × (record_at image p ≡ Some r) × In r (flat_map held (map image.kept ps))
    go Absent e x y = absurd (true≢false x)
    go Unreadable e x y = absurd (true≢false y)
    go (Held r) e x y = (r, ap readable e, in_flat held (map image.kept ps) (image.kept p) r (in_map image.kept ps p i) (subst (λ k. In r (held k)) (sym e) (inl refl)))
