-- What the calls leave that close a job whose outputs are good.
use Rattle.std.proofs.Common.{◌≡◌, inl, inr, ℕ, Bool, true, false, ◌||◌, not, List, [], ◌∷◌, ◌++◌, refl, ap, sym, subst, ◌∙◌, Some, None, IsTrue, true≢false}
use Rattle.std.proofs.lemmas.Bool.{or_right, cases_Bool, and_parts, not-true, or_parts, or_from}
use Rattle.std.specs.Prelude.{map}
use Rattle.std.specs.List.{list_any}
use Rattle.smk_base.specs.Path.{is_path, own_folder, is_under, is_at_or_under, overlaps}
use Rattle.smk_base.specs.Place.{record_place, mark_place}
use Rattle.smk_base.proofs.Places.{place_itself}
use Rattle.smk_base.proofs.Under.{or_cases, at_itself}
use Rattle.smk_base.proofs.Apart.{path_outside, record-record, record-mark, record_under_record}
use Rattle.smk_world.specs.declared.event.Event.{Event}
use Rattle.smk_world.specs.declared.event.Node.TheVariants.{Regular, Directory}
use Rattle.smk_world.specs.declared.event.NodeState.{NodeState}
use Rattle.smk_world.specs.declared.event.NodeState.TheVariants.{Owned, Known}
use Rattle.smk_world.specs.World.{World, run, is_within, is_above, firm, firmly}
use Rattle.smk_world.specs.Calls.{Reads, HoldsBytes, are_apart}
use Rattle.smk_world.specs.Runs.{Follows}
use Rattle.smk_world.specs.Requests.{Request, HasDone}
use Rattle.smk_world.specs.Requests.Request.{Look, ReadUpTo, ListFolder, Write, Create, Remove, MakeParents, Settle, Protect, Start, Wait}
use Rattle.smk_world.specs.Trees.{Path, Act, Each}
use Rattle.smk_store.specs.Steps.{places_of, remove_each, write_each, put_requests, unmark_requests}
use Rattle.smk_job.specs.Jobs.{keep_requests}
use Rattle.smk_job.proofs.Children.{AreFiles, is_crew, files_append, remove_files, put_files}
use Rattle.smk_job.proofs.Single.{touches, KeepsOff, Stepped, Reaches, done_reaches, step_keeps, IsKnown, is_start, step_known, removed, settled_firm, written, firmly_none}
use Rattle.smk_job.proofs.Firmly.{reaches_split, reaches_keeps, keeps_append}
use Rattle.smk_safe.proofs.Keeping.{bothers}
use Rattle.smk_safe.proofs.Sparing.{Spared, spared_both, spared_put, spared_unmark, records_else, marks_else, at_outside}

-- ## Calls that touch nothing at a place

pub touches_by : (r : Request) (q : Path) → is_crew r ≡ false → bothers true r q ≡ false → touches r q ≡ false
touches_by (Look p) q k h = refl
touches_by (ReadUpTo p limit) q k h = refl
touches_by (ListFolder p) q k h = refl
touches_by (Write p bytes) q k h = h
touches_by (Create p) q k h = h
touches_by (Remove p) q k h = h
touches_by (MakeParents p) q k h = h
touches_by (Settle ps) q k h = h
touches_by (Protect p) q k h = h
touches_by (Start recipe logs command) q k h = absurd (true≢false k)
touches_by Wait q k h = absurd (true≢false k)

pub keeps_off : (rs : List Request) (q : Path) → AreFiles rs → Spared true q rs → KeepsOff rs q
keeps_off [] q k h = tt
keeps_off (r ∷ rs) q k h = (touches_by r q k.0 h.0, keeps_off rs q k.1 h.1)

-- ## Nothing is owned

abbrev pub IsAllKnown : World → Type 0
IsAllKnown w = (q : Path) → IsKnown (w.nodes q)

no_start : (r : Request) → is_crew r ≡ false → is_start r ≡ false
no_start (Look p) h = refl
no_start (ReadUpTo p limit) h = refl
no_start (ListFolder p) h = refl
no_start (Write p bytes) h = refl
no_start (Create p) h = refl
no_start (Remove p) h = refl
no_start (MakeParents p) h = refl
no_start (Settle ps) h = refl
no_start (Protect p) h = refl
no_start (Start recipe logs command) h = absurd (true≢false h)
no_start Wait h = refl

pub all_known : (act : Act) (rs : List Request) (w v : World) → Reaches act rs w v → AreFiles rs → IsAllKnown w → IsAllKnown v
all_known act [] w v h k known = λ q. subst (λ x. IsKnown (x.nodes q)) (sym h) (known q)
all_known act (r ∷ rs) w v (u, st, more) k known = all_known act rs u v more k.1 (λ q. step_known act r w u q st (no_start r k.0) (known q))

-- ## Paths that differ

-- none is equal to a later one
abbrev pub AreDifferent : List Path → Type 0
AreDifferent [] = Unit {0}
AreDifferent (p ∷ ps) = Each (λ q. p ≡ q → ⊥) ps × AreDifferent ps

differ_from : (p : Path) (ps : List Path) → list_any (overlaps p) ps ≡ false → Each (λ q. p ≡ q → ⊥) ps
differ_from p [] h = tt
differ_from p (q ∷ ps) h =
    let both = or_parts (overlaps p q) (list_any (overlaps p) ps) h in
    (λ e. true≢false (sym (ap (λ v. v || (is_under p p || is_under p p)) (place_itself p)) ∙ ap (overlaps p) e ∙ both.0), differ_from p ps both.1)

pub apart_differ : (ps : List Path) → are_apart ps ≡ true → AreDifferent ps
apart_differ [] h = tt
apart_differ (p ∷ ps) h = let both = and_parts (not (list_any (overlaps p) ps)) (are_apart ps) h in (differ_from p ps (not-true (list_any (overlaps p) ps) both.0), apart_differ ps both.1)

pub differ_first : (ps qs : List Path) → AreDifferent (ps ++ qs) → AreDifferent ps
differ_first [] qs h = tt
differ_first (p ∷ ps) qs h = (firsts ps qs h.0, differ_first ps qs h.1)
  where
    firsts : (xs ys : List Path) → Each (λ q. p ≡ q → ⊥) (xs ++ ys) → Each (λ q. p ≡ q → ⊥) xs
    firsts [] ys k = tt
    firsts (x ∷ xs) ys k = (k.0, firsts xs ys k.1)

-- ## Records

-- the records of these paths hold these bytes
abbrev pub AllHold : World → List Path → List (List ℕ) → Type 0
AllHold w [] bs = Unit {0}
AllHold w (p ∷ ps) [] = Unit {0}
AllHold w (p ∷ ps) (b ∷ bs) = HoldsBytes b (w.nodes (record_place p)) × AllHold w ps bs

abbrev pub IsFirmFile : World → Path → List ℕ → Type 0
IsFirmFile w p b = (time : ℕ) × (read_only : Bool) × (w.nodes p ≡ firmly (Some (Regular b time read_only)))

-- the same, and they are firm
abbrev pub AllFirm : World → List Path → List (List ℕ) → Type 0
AllFirm w [] bs = Unit {0}
AllFirm w (p ∷ ps) [] = Unit {0}
AllFirm w (p ∷ ps) (b ∷ bs) = IsFirmFile w (record_place p) b × AllFirm w ps bs

write_off : (p : Path) (ps : List Path) (bs : List (List ℕ)) → Each (λ q. p ≡ q → ⊥) ps → KeepsOff (write_each (map record_place ps) bs) (record_place p)
write_off p [] bs h = tt
write_off p (q ∷ ps) [] h = tt
write_off p (q ∷ ps) (b ∷ bs) h = (record_under_record q p, ((record-record p q h.0).differs, write_off p ps bs h.1))

all_written : (act : Act) (ps : List Path) (bs : List (List ℕ)) (w v : World) → Reaches act (write_each (map record_place ps) bs) w v → AreDifferent ps → IsAllKnown w → AllHold v ps bs
all_written act [] bs w v h differ known = tt
all_written act (p ∷ ps) [] w v h differ known = tt
all_written act (p ∷ ps) (b ∷ bs) w v (x, s1, (y, s2, more)) differ known =
    let known_x : IsAllKnown x = λ q. step_known act (MakeParents (record_place p)) w x q s1 refl (known q) in
    let known_y : IsAllKnown y = λ q. step_known act (Write (record_place p) b) x y q s2 refl (known_x q) in (
      subst (HoldsBytes b) (sym (reaches_keeps act (write_each (map record_place ps) bs) y v (record_place p) more (write_off p ps bs differ.0))) (written act (record_place p) b x y s2 (known_x (record_place p))),
      all_written act ps bs y v more differ.1 known_y,
    )

firm_file : (s : NodeState) (bytes : List ℕ) → HoldsBytes bytes s → (time : ℕ) × (read_only : Bool) × (firm s ≡ firmly (Some (Regular bytes time read_only)))
firm_file Owned bytes h = absurd h
firm_file (Known None besides) bytes h = absurd h
firm_file (Known (Some (Regular held time read_only)) besides) bytes h = (time, read_only, ap (λ b. firmly (Some (Regular b time read_only))) h)
firm_file (Known (Some Directory) besides) bytes h = absurd h

settled_records : (act : Act) (all : List Path) (w v : World) → Stepped act (Settle all) w v → (ps : List Path) (bs : List (List ℕ))
    → Each (λ p. is_within (record_place p) all ≡ true) ps → AllHold w ps bs → AllFirm v ps bs
settled_records act all w v st [] bs within h = tt
settled_records act all w v st (p ∷ ps) [] within h = tt
settled_records act all w v st (p ∷ ps) (b ∷ bs) within h =
    let file = firm_file (w.nodes (record_place p)) b h.0 in
    ((file.0, file.1, settled_firm act all w v (record_place p) st within.0 ∙ file.2), settled_records act all w v st ps bs within.1 h.1)

within_more : (f : Path → Path) (x : Path) (all ps : List Path) → Each (λ p. is_within (f p) all ≡ true) ps → Each (λ p. is_within (f p) (x ∷ all) ≡ true) ps
within_more f x all [] h = tt
within_more f x all (p ∷ ps) h = (or_right (is_at_or_under (f p) x) (is_within (f p) all) h.0, within_more f x all ps h.1)

within_all : (f : Path → Path) (ps : List Path) → Each (λ p. is_within (f p) (map f ps) ≡ true) ps
within_all f [] = tt
within_all f (p ∷ ps) = (ap (λ v. v || is_within (f p) (map f ps)) (at_itself (f p)), within_more f (f p) (map f ps) ps (within_all f ps))

all_put : (act : Act) (ps : List Path) (bs : List (List ℕ)) (w v : World) → Reaches act (write_each (map record_place ps) bs ++ Settle (map record_place ps) ∷ []) w v → AreDifferent ps → IsAllKnown w → AllFirm v ps bs
all_put act ps bs w v h differ known =
    let parts = reaches_split act (write_each (map record_place ps) bs) (Settle (map record_place ps) ∷ []) w v h in
    subst (λ x. AllFirm x ps bs) (sym parts.2.2)
    (settled_records act (map record_place ps) parts.0 parts.2.0 parts.2.1 ps bs (within_all record_place ps) (all_written act ps bs w parts.0 parts.1 differ known))

all_firm_still : (w v : World) (ps : List Path) (bs : List (List ℕ)) → ((p : Path) → v.nodes (record_place p) ≡ w.nodes (record_place p)) → AllFirm w ps bs → AllFirm v ps bs
all_firm_still w v [] bs same h = tt
all_firm_still w v (p ∷ ps) [] same h = tt
all_firm_still w v (p ∷ ps) (b ∷ bs) same h = ((h.0.0, h.0.1, same p ∙ h.0.2), all_firm_still w v ps bs same h.1)

-- ## Marks

remove_marks_off : (p : Path) (ps : List Path) → KeepsOff (remove_each (map mark_place ps)) (record_place p)
remove_marks_off p [] = tt
remove_marks_off p (q ∷ ps) = ((record-mark p q).at_or_under, remove_marks_off p ps)

marks_not_within : (p : Path) (ps : List Path) → is_within (record_place p) (map mark_place ps) ≡ false
marks_not_within p [] = refl
marks_not_within p (q ∷ ps) = or_from (is_at_or_under (record_place p) (mark_place q)) (is_within (record_place p) (map mark_place ps)) (record-mark p q).at_or_under (marks_not_within p ps)

marks_not_above : (p : Path) (ps : List Path) → is_above (record_place p) (map mark_place ps) ≡ false
marks_not_above p [] = refl
marks_not_above p (q ∷ ps) = or_from (is_under (mark_place q) (record_place p)) (is_above (record_place p) (map mark_place ps)) (record-mark p q).over (marks_not_above p ps)

unmark_off : (p : Path) (ps logs : List Path) → KeepsOff (unmark_requests (places_of ps logs)) (record_place p)
unmark_off p ps logs =
    keeps_append (remove_each (map mark_place ps)) (Settle (map mark_place ps) ∷ []) (record_place p) (remove_marks_off p ps)
    (or_from (is_within (record_place p) (map mark_place ps)) (is_above (record_place p) (map mark_place ps)) (marks_not_within p ps) (marks_not_above p ps), tt)

pub known_none : (s : NodeState) → Reads None s → IsKnown s
known_none Owned h = absurd h
known_none (Known now besides) h = tt

pub still_none : (act : Act) (ps : List Path) (w v : World) (q : Path) → Reaches act (remove_each ps) w v → Reads None (w.nodes q) → Reads None (v.nodes q)
still_none act [] w v q h none = subst (λ x. Reads None (x.nodes q)) (sym h) none
still_none act (p ∷ ps) w v q (u, st, more) none = still_none act ps u v q more (elim (cases_Bool (is_at_or_under q p)) [
  | inl at ↦ removed act p w u q st at (known_none (w.nodes q) none)
  | inr off ↦ subst (Reads None) (sym (step_keeps act (Remove p) w u q st off)) none
])

pub all_removed : (act : Act) (ps : List Path) (w v : World) (q : Path) → Reaches act (remove_each ps) w v → IsAllKnown w → is_within q ps ≡ true → Reads None (v.nodes q)
all_removed act [] w v q h known within = absurd (true≢false (sym within))
all_removed act (p ∷ ps) w v q (u, st, more) known within = elim (or_cases (is_at_or_under q p) (is_within q ps) within) [
  | inl at ↦ still_none act ps u v q more (removed act p w u q st at (known q))
  | inr later ↦ all_removed act ps u v q more (λ x. step_known act (Remove p) w u x st refl (known x)) later
]

each_by : (f : Path → Path) (P : Path → Type 0) (all ps : List Path) → Each (λ p. is_within (f p) all ≡ true) ps → ((q : Path) → is_within q all ≡ true → P q) → Each (λ p. P (f p)) ps
each_by f P all [] within h = tt
each_by f P all (p ∷ ps) within h = (h (f p) within.0, each_by f P all ps within.1 h)

all_unmarked : (act : Act) (ps logs : List Path) (w v : World) → Reaches act (unmark_requests (places_of ps logs)) w v → IsAllKnown w → Each (λ p. v.nodes (mark_place p) ≡ firmly None) ps
all_unmarked act ps logs w v h known =
    let marks = map mark_place ps in
    let parts = reaches_split act (remove_each marks) (Settle marks ∷ []) w v h in
    each_by mark_place (λ q. v.nodes q ≡ firmly None) marks ps (within_all mark_place ps)
    (λ q within.
    ap (λ x. x.nodes q) parts.2.2 ∙ settled_firm act marks parts.0 parts.2.0 q parts.2.1 within ∙ firmly_none (parts.0.nodes q) (all_removed act marks w parts.0 q parts.1 known within))

-- ## All of it

-- The outputs are as they were, firmly; their records hold these bytes firmly; and none is marked.
pub record HasKept (outs : List Path) (bytes : List (List ℕ)) (w v : World) : Type 0 where
  pub outputs : (q : Path) → is_within q outs ≡ true → v.nodes q ≡ firm (w.nodes q)
  pub recorded : AllFirm v outs bytes
  pub unmarked : Each (λ p. v.nodes (mark_place p) ≡ firmly None) outs

pub within_outside : (q : Path) (ps : List Path) → Each (λ p. IsTrue (is_path p)) ps → is_within q ps ≡ true → is_at_or_under q own_folder ≡ false
within_outside q [] paths within = absurd (true≢false (sym within))
within_outside q (p ∷ ps) paths within = elim (or_cases (is_at_or_under q p) (is_within q ps) within) [
  | inl at ↦ at_outside p q (path_outside p paths.0) at
  | inr later ↦ within_outside q ps paths.1 later
]

pub unmark_files : (ps logs : List Path) → AreFiles (unmark_requests (places_of ps logs))
unmark_files ps logs = files_append (remove_each (map mark_place ps)) (Settle (map mark_place ps) ∷ []) (remove_files (map mark_place ps)) (refl, tt)

pub keep_files : (ps logs : List Path) (bytes : List (List ℕ)) → AreFiles (keep_requests (places_of ps logs) bytes)
keep_files ps logs bytes = (refl, files_append (put_requests (places_of ps logs) bytes) (unmark_requests (places_of ps logs)) (put_files (places_of ps logs) bytes).1 (unmark_files ps logs))

pub has_kept : (act : Act) (outs logs : List Path) (bytes : List (List ℕ)) (w : World) (es : List Event)
    → Each (λ p. IsTrue (is_path p)) outs → AreDifferent outs → IsAllKnown w → Follows act w es → HasDone (keep_requests (places_of outs logs) bytes) es → HasKept outs bytes w (run w es)
has_kept act outs logs bytes w es paths differ known follows done =
    let v = run w es in
    let put = put_requests (places_of outs logs) bytes in
    let unmark = unmark_requests (places_of outs logs) in
    let reached = done_reaches act (keep_requests (places_of outs logs) bytes) w es follows done in
    let a = reached.0 in
    let s1 : Stepped act (Settle outs) w a = reached.1 in
    let parts = reaches_split act put unmark a v reached.2 in
    let known_a : IsAllKnown a = λ q. step_known act (Settle outs) w a q s1 refl (known q) in
    let known_c : IsAllKnown parts.0 = all_known act put a parts.0 parts.1 (put_files (places_of outs logs) bytes).1 known_a in
    record {
      outputs = λ q within.
          let out = within_outside q outs paths within in
          let spared = spared_both true q put unmark
          (spared_put true outs bytes q (records_else true outs q out))
          (spared_unmark true outs logs q (marks_else true outs q out)) in
          reaches_keeps act (put ++ unmark) a v q reached.2 (keeps_off (put ++ unmark) q (keep_files outs logs bytes).1 spared) ∙ settled_firm act outs w a q s1 within;
      recorded = all_firm_still parts.0 v outs bytes (λ p. reaches_keeps act unmark parts.0 v (record_place p) parts.2 (unmark_off p outs logs)) (all_put act outs bytes a parts.0 parts.1 differ known_a);
      unmarked = all_unmarked act outs logs parts.0 v parts.2 known_c;
    }
