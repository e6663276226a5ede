use Rattle.std.proofs.Common.{◌≡◌, ◌==◌, IfOk, List, ℕ, [], ◌∷◌, ◌++◌, length, Bool, true, false, refl, sym, ◌∙◌, ap, arith, Option, vec_len, append-nil, ◌<◌, get_or, Bor, Vec, Global, set, ◌+◌, ◌-◌, take, length-append, None, ◌≤◌, IsUtf8, true≢false, take-append-drop, append_assoc}
use Rattle.std.proofs.lemmas.Str.{IsUtf8-take, IsUtf8-drop}
use Rattle.std.proofs.lemmas.Bool.Decides.{nat_tests}
use Rattle.std.proofs.lemmas.List.{nil_from_length, length-map, map_push, set-get_or, get_or_default, take-map, take_at, length-take-le}
use Rattle.std.proofs.lemmas.Result.{IfOk-weaker}
use Rattle.smk_pattern.specs.Shapes.{Part}
use Rattle.smk_pattern.specs.Shapes.Part.{wild}
use Rattle.smk_pattern.specs.Searching.{Searched, RestFits, now_of, stands_in}
use Rattle.smk_pattern.specs.Pieces.{parts_of, part_of}
use Rattle.smk_pattern.specs.declared.pattern.Piece.{Piece}
use Rattle.smk_pattern.proofs.Steps.{found_end, none_end, shorter, no_boundary, no_suit, no_rest, found_wild, leads_known, leads_empty, none_empty, leads_then, leads_ends, searched_ends, cut_back, none_ends}
use Rattle.smk_pattern.proofs.Sound.{keeps_same, keeps_known, kept_past, kept_behind, serves_later, serves_behind, serves_new, none_noted, Notes, keeps_noted, behind_noted, tried_before}
use Rattle.smk_pattern.proofs.Places.{open_numbered, known_place, open_place}
use Rattle.smk_pattern.proofs.search.+search.Goals as goal
use Rattle.smk_pattern.proofs.search.+search.Goals.{longest-then-is_char_boundary+then-suits+in_ok-push+in_ok-with_value+else-branch, longest-then-is_char_boundary+else-suits, longest-else-is_char_boundary}

is_nil : (rest : List ℕ) → true ≡ (length rest == 0) → rest ≡ []
is_nil rest e = nil_from_length rest (grind (arith, nat_tests))

no_nil : (rest : List ℕ) → false ≡ (length rest == 0) → rest ≡ [] → ⊥
no_nil [] e n = absurd cc
no_nil (x ∷ xs) e n = absurd cc

searched_end : (found : Bool) (pieces : List Piece) (limits : List (Option (List ℕ))) (known : List (List ℕ)) (rest : List ℕ) →
    found ≡ (length rest == 0) → pieces ≡ [] → length known ≡ length limits → Searched found (parts_of pieces) limits known rest known
searched_end true pieces limits known rest e nil all = rw nil ([], sym (append-nil known), found_end limits known all rest (is_nil rest e))
searched_end false pieces limits known rest e nil all = rw nil (refl, none_end limits known all rest (no_nil rest e))

-- how many values there are
known_len : (v : Vec (Bor (List ℕ)) Global) → vec_len v ≡ length (now_of v.items)
known_len v = v.ok.0 ∙ sym (length-map v.items (λ (b : Bor (List ℕ)). b.now))

open_room : (v : Vec (Bor (List ℕ)) Global) (limits : List (Option (List ℕ))) → vec_len v < length limits → length (now_of v.items) < length limits
open_room v limits h = rw (← known_len v) h

-- the values before and after a push
pushed : (old new : List (Bor (List ℕ))) (value : Bor (List ℕ)) (known : List (List ℕ)) → new ≡ old ++ value ∷ [] → now_of old ≡ known →
    now_of new ≡ known ++ value.now ∷ []
pushed old new value known e f = rw (e, ← f) (map_push (λ (b : Bor (List ℕ)). b.now) old value)

popped : (old new : Vec (Bor (List ℕ)) Global) (known : List (List ℕ)) (value : List ℕ) → new.items ≡ take (vec_len old - 1) old.items →
    now_of old.items ≡ known ++ value ∷ [] → now_of new.items ≡ known
popped old new known value e f =
    let n : vec_len old - 1 ≡ length known = omega (arith, known_len old, ap length f, length-append known (value ∷ [])) in
    ap now_of e ∙ sym (take-map (λ (b : Bor (List ℕ)). b.now) _ old.items) ∙ ap (take (vec_len old - 1)) f ∙ take_at known (value ∷ []) _ (sym n)

same_testers : (testers : List (Option (List ℕ))) (n : ℕ) (t d : Option (List ℕ)) → t ≡ get_or testers n d → set testers n t ≡ testers
same_testers testers n t d e = ap (set testers n) e ∙ set-get_or testers n d

-- the constraint of the wildcard that is given a value
limit_at : (testers limits : List (Option (List ℕ))) (n : ℕ) (v : Vec (Bor (List ℕ)) Global) (d : Option (List ℕ)) → testers ≡ limits → n ≡ vec_len v →
    vec_len v < length limits → get_or testers n d ≡ get_or limits (length (now_of v.items)) None
limit_at testers limits n v d e f h = rw (e, f, ← known_len v) (get_or_default limits (vec_len v) d None h)

-- the wildcard stands again only where it may
stands_at : (again : Bool) (n : ℕ) (later : List Part) (v : Vec (Bor (List ℕ)) Global) → (again ≡ false → stands_in n later ≡ false) → n ≡ vec_len v →
    again ≡ false → stands_in (length (now_of v.items)) later ≡ false
stands_at again n later v h f none = sym (ap (λ k. stands_in k later) (f ∙ known_len v)) ∙ h none

-- ---- search and find

pub search-returns-then-not-found-clause-found : goal.search-returns-then-not-found-clause-found
search-returns-then-not-found-clause-found t c =
    let known = now_of c.args.values.now.items in
    let cut : now_of c.truncate.new.self.items ≡ take (length known) (now_of c.find.new.values.items) =
    ap now_of c.truncate.ensures.items ∙ sym (take-map (λ (b : Bor (List ℕ)). b.now) _ c.find.new.values.items)
    ∙ ap (λ (n : ℕ). take n (now_of c.find.new.values.items)) (c.len-known.ensures ∙ known_len c.args.values.now) in
    cut_back c.in_ok-found.found (parts_of c.args.pieces.now) _ known _ _ _ c.if-not-found.true cut c.in_ok-found.ensures.found

pub find-returns-in-Again-clause-found : goal.find-returns-in-Again-clause-found
find-returns-in-Again-clause-found t c =
    let w = rw c.in-Again.is at c.in_ok-found.ensures.walked in
    IfOk-weaker c.anew.result _ _
    (λ found s. leads_ends c.args.testers.now found (parts_of c.args.pieces.now) (parts_of c.in-Again.later.now) _ _ _ _ _ w.0 (rw c.in_ok-found.ensures.same at s))
    c.anew.ensures.found

-- ---- anew

pub anew-walk-requires : goal.anew-walk-requires
anew-walk-requires t c =
    let i = c.tables.invariant in
    let within = i.within in
    (omega arith, (rw i.testers i.place, serves_new (parts_of c.tables.ahead.now) _ _ _ _ c.new-fresh.ensures))

pub anew-returns-in-Ended-clause-found : goal.anew-returns-in-Ended-clause-found
anew-returns-in-Ended-clause-found t c =
    let i = c.tables.invariant in
    let w = rw (c.in-Ended.is, i.testers) at c.in_ok-found.ensures.walked in
    leads_ends c.args.testers.now c.in-Ended.found (parts_of c.args.pieces.now) (parts_of c.tables.ahead.now) _ _ _ _ _ i.leads w

pub anew-tables-preserved : goal.anew-tables-preserved
anew-tables-preserved t c =
    let i = c.tables.invariant in
    let within = i.within in
    let w = rw (c.in-Again.is, i.testers) at c.in_ok-found.ensures.walked in
    let less = w.2 in
    record {
      leads = leads_then c.args.testers.now (parts_of c.args.pieces.now) (parts_of c.tables.ahead.now) (parts_of c.in-Again.later.now) _ _ _ _ _ _ i.leads w.0;
      place = w.1;
      testers = c.in_ok-found.ensures.same ∙ i.testers;
      within = omega (arith, less, length-map c.tables.ahead.now part_of);
    }

-- ---- walk

pub walk-returns-then-has-clause-walked : goal.walk-returns-then-has-clause-walked
walk-returns-then-has-clause-walked t c =
    let i = c.pieces.invariant in
    let none = none_noted (parts_of c.pieces.ahead.now) _ (now_of c.pieces.values.items) _ c.pieces.vain i.serves i.place.numbered
    (rw (length-map c.pieces.ahead.now part_of) (sym c.has.ensures ∙ c.if-has.true)) in
    leads_ends c.args.testers.now false (parts_of c.args.pieces.now) (parts_of c.pieces.ahead.now) _ _ _ _ _ i.leads ([], sym (append-nil _), none)

pub walk-returns-then-has-clause-keeps : goal.walk-returns-then-has-clause-keeps
walk-returns-then-has-clause-keeps t c = λ _.
    let i = c.pieces.invariant in
    i.keeps (none_noted (parts_of c.pieces.ahead.now) _ (now_of c.pieces.values.items) _ c.pieces.vain i.serves i.place.numbered
    (rw (length-map c.pieces.ahead.now part_of) (sym c.has.ensures ∙ c.if-has.true)))

pub walk-step-requires : goal.walk-step-requires
walk-step-requires t c =
    let i = c.pieces.invariant in
    let within = i.within in
    let p = c.in-Some.ensures.cases in
    let shorter = ap length p.0 in
    let piece = part_of c.in-Some.piece.now in
    let later = parts_of c.in-Some.later.now in
    let notes : Notes (parts_of c.pieces.ahead.now) c.pieces.rest.now c.pieces.vain c.note.new.self = rw (length-map c.pieces.ahead.now part_of) c.note.ensures in
    let serves = behind_noted piece later c.args.testers.now (now_of c.pieces.values.items) c.pieces.rest.now c.pieces.vain c.note.new.self (rw p.0 at i.serves) (rw p.0 at notes) in
    (omega arith, (rw i.testers (rw p.0 at i.place), rw i.testers serves))

pub walk-returns-in-Ended-clause-walked : goal.walk-returns-in-Ended-clause-walked
walk-returns-in-Ended-clause-walked t c =
    let i = c.pieces.invariant in
    let p = c.in-Some.ensures.cases in
    let s = rw (c.in-Ended.is, i.testers) at c.in_ok-found.ensures.stepped in
    leads_ends c.args.testers.now c.in-Ended.found (parts_of c.args.pieces.now) (part_of c.in-Some.piece.now ∷ parts_of c.in-Some.later.now) _ _ _ _ _ (rw p.0 at i.leads) s

pub walk-returns-in-Ended-clause-keeps : goal.walk-returns-in-Ended-clause-keeps
walk-returns-in-Ended-clause-keeps t c = λ none.
    let i = c.pieces.invariant in
    let p = c.in-Some.ensures.cases in
    let ahead = part_of c.in-Some.piece.now ∷ parts_of c.in-Some.later.now in
    let notes : Notes (parts_of c.pieces.ahead.now) c.pieces.rest.now c.pieces.vain c.note.new.self = rw (length-map c.pieces.ahead.now part_of) c.note.ensures in
    let s = rw (c.in-Ended.is, i.testers) at c.in_ok-found.ensures.stepped in
    let k = rw (c.in-Ended.is, i.testers) at c.in_ok-found.ensures.keeps in
    let nowhere = none_ends c.in-Ended.found ahead c.args.testers.now (now_of c.pieces.values.items) c.pieces.rest.now _ none s in
    kept_past (parts_of c.args.pieces.now) ahead c.args.testers.now _ (now_of c.pieces.values.items) _ c.pieces.rest.now _ c.pieces.vain c.note.new.self _ (rw p.0 at i.lifts)
    ((rw p.0 at i.keeps) nowhere) (keeps_noted ahead _ _ _ _ _ (rw p.0 at i.place).numbered nowhere (rw p.0 at notes)) (k none)

pub walk-returns-in-Again-clause-walked : goal.walk-returns-in-Again-clause-walked
walk-returns-in-Again-clause-walked t c =
    let i = c.pieces.invariant in
    let within = i.within in
    let p = c.in-Some.ensures.cases in
    let shorter = ap length p.0 in
    let s = rw (c.in-Again.is, i.testers) at c.in_ok-found.ensures.stepped in (
      leads_then c.args.testers.now (parts_of c.args.pieces.now) (part_of c.in-Some.piece.now ∷ parts_of c.in-Some.later.now) (parts_of c.in-Some.later.now) _ _ _ _ _ _ (rw p.0 at i.leads) s.0,
      s.1,
      omega (arith, length-map c.args.pieces.now part_of),
    )

pub walk-returns-in-Again-clause-keeps : goal.walk-returns-in-Again-clause-keeps
walk-returns-in-Again-clause-keeps t c = λ none.
    let i = c.pieces.invariant in
    let p = c.in-Some.ensures.cases in
    let ahead = part_of c.in-Some.piece.now ∷ parts_of c.in-Some.later.now in
    let notes : Notes (parts_of c.pieces.ahead.now) c.pieces.rest.now c.pieces.vain c.note.new.self = rw (length-map c.pieces.ahead.now part_of) c.note.ensures in
    let s = rw (c.in-Again.is, i.testers) at c.in_ok-found.ensures.stepped in
    let k = rw (c.in-Again.is, i.testers) at c.in_ok-found.ensures.keeps in
    let nowhere = s.0.none none in
    kept_past (parts_of c.args.pieces.now) ahead c.args.testers.now _ (now_of c.pieces.values.items) _ c.pieces.rest.now _ c.pieces.vain c.note.new.self _ (rw p.0 at i.lifts)
    ((rw p.0 at i.keeps) nowhere) (keeps_noted ahead _ _ _ _ _ (rw p.0 at i.place).numbered nowhere (rw p.0 at notes)) (k none)

pub walk-pieces-preserved : goal.walk-pieces-preserved
walk-pieces-preserved t c =
    let i = c.pieces.invariant in
    let within = i.within in
    let p = c.in-Some.ensures.cases in
    let shorter = ap length p.0 in
    let ahead = part_of c.in-Some.piece.now ∷ parts_of c.in-Some.later.now in
    let notes : Notes (parts_of c.pieces.ahead.now) c.pieces.rest.now c.pieces.vain c.note.new.self = rw (length-map c.pieces.ahead.now part_of) c.note.ensures in
    let s = rw (c.in-On.is, i.testers) at c.in_ok-found.ensures.stepped in
    let k = rw (c.in-On.is, i.testers) at c.in_ok-found.ensures.keeps in
    let up = rw (c.in-On.is, i.testers) at c.in_ok-found.ensures.carries in
    record {
      leads = leads_then c.args.testers.now (parts_of c.args.pieces.now) ahead (parts_of c.in-Some.later.now) _ _ _ _ _ _ (rw p.0 at i.leads) s.0;
      place = s.1;
      testers = c.in_ok-found.ensures.same ∙ i.testers;
      within = omega arith;
      serves = up.0;
      lifts = λ a b x. (rw p.0 at i.lifts) a b (up.1 a b x);
      keeps = λ none.
          let nowhere = s.0.none none in
          kept_past (parts_of c.args.pieces.now) ahead c.args.testers.now _ (now_of c.pieces.values.items) _ c.pieces.rest.now _ c.pieces.vain c.note.new.self _ (rw p.0 at i.lifts)
          ((rw p.0 at i.keeps) nowhere) (keeps_noted ahead _ _ _ _ _ (rw p.0 at i.place).numbered nowhere (rw p.0 at notes)) (k none);
    }

pub walk-returns-clause-walked : goal.walk-returns-clause-walked
walk-returns-clause-walked t c =
    let i = c.pieces.invariant in
    let nil = nil_from_length c.pieces.ahead.now c.in_default.ensures.cases in
    let num = (rw nil at i.place).numbered in
    let s = searched_end _ c.pieces.ahead.now c.args.testers.now (now_of c.pieces.values.items) c.pieces.rest.now c.is_empty.ensures nil num in
    leads_ends c.args.testers.now _ (parts_of c.args.pieces.now) (parts_of c.pieces.ahead.now) _ _ _ _ _ i.leads (searched_ends _ _ _ _ _ _ s)

-- ---- step and open

pub step-returns-in-Some-after_prefix-clause-stepped : goal.step-returns-in-Some-after_prefix-clause-stepped
step-returns-in-Some-after_prefix-clause-stepped t c =
    let k = rw c.deref.ensures.value at c.in-Some.ensures in
    let piece = part_of c.args.piece.now in
    let later = parts_of c.args.later.now in (
      leads_known piece later _ (now_of c.args.values.now.items) c.in-Some.known.now k c.args.text.now c.in-Some-after_prefix.after.now c.in-Some-after_prefix.ensures.cases,
      known_place piece later _ _ (now_of c.args.values.now.items) c.args.text.now c.in-Some.known.now _ k c.in-Some-after_prefix.ensures.utf8 c.requires.1.1.0,
    )

pub step-returns-in-Some-after_prefix-clause-carries : goal.step-returns-in-Some-after_prefix-clause-carries
step-returns-in-Some-after_prefix-clause-carries t c =
    let piece = part_of c.args.piece.now in
    let later = parts_of c.args.later.now in (
      serves_later piece later _ _ c.args.text.now c.in-Some.known.now c.in-Some-after_prefix.after.now _ c.in-Some-after_prefix.ensures.cases c.requires.1.1.1,
      λ a b x. keeps_known piece later _ _ c.args.text.now c.in-Some.known.now c.in-Some-after_prefix.after.now a b c.in-Some-after_prefix.ensures.cases x,
    )

pub open-returns-then-not-suits-clause-stepped : goal.open-returns-then-not-suits-clause-stepped
open-returns-then-not-suits-clause-stepped t c =
    let e = known_len c.args.values.now in
    let room = c.requires.1.1.0 in
    let l = rw c.if-branch.false at c.in_ok-longest.ensures.found in
    let none = rw (limit_at _ _ _ c.args.values.now _ c.in_ok-longest.ensures.same c.len-number.ensures room) at c.if-not-suits.ensures.suits.1 in
    ([], l.0 ∙ sym (append-nil _), rw e (none_empty (parts_of c.args.later.now) _ (now_of c.args.values.now.items) (open_room c.args.values.now _ room) _ (rw e at l.1) (λ s. absurd (true≢false (sym (none s))))))

pub open-returns-then-again-clause-stepped : goal.open-returns-then-again-clause-stepped
open-returns-then-again-clause-stepped t c =
    let e = known_len c.args.values.now in
    let room = c.requires.1.1.0 in
    let known = now_of c.args.values.now.items in
    let later = parts_of c.args.later.now in
    let l = rw c.if-branch.false at c.in_ok-longest.ensures.found in
    let suit = rw (limit_at _ _ _ c.args.values.now _ c.in_ok-longest.ensures.same c.len-number.ensures room) at (c.if-not-suits.ensures.suits.0 refl) in
    let now : now_of c.push.new.self.items ≡ known ++ [] ∷ [] = pushed _ _ _ _ c.in_ok-push.ensures.items l.0 in (
      rw (now, e) (leads_empty later _ known (open_room c.args.values.now _ room) _ (rw e at l.1) suit),
      open_place (vec_len c.args.values.now) later _ _ known _ c.args.text.now [] _ e now c.requires.1.1.1.0.utf8 c.requires.1.1.1.0,
    )

pub open-returns-else-again-clause-stepped : goal.open-returns-else-again-clause-stepped
open-returns-else-again-clause-stepped t c =
    let e = known_len c.args.values.now in
    let room = c.requires.1.1.0 in
    let known = now_of c.args.values.now.items in
    let later = parts_of c.args.later.now in
    let l = rw c.if-branch.false at c.in_ok-longest.ensures.found in
    let suit = rw (limit_at _ _ _ c.args.values.now _ c.in_ok-longest.ensures.same c.len-number.ensures room) at (c.if-not-suits.ensures.suits.0 refl) in
    let now : now_of c.push.new.self.items ≡ known ++ [] ∷ [] = pushed _ _ _ _ c.in_ok-push.ensures.items l.0 in (
      rw (now, e) (leads_empty later _ known (open_room c.args.values.now _ room) _ (rw e at l.1) suit),
      open_place (vec_len c.args.values.now) later _ _ known _ c.args.text.now [] _ e now c.requires.1.1.1.0.utf8 c.requires.1.1.1.0,
    )

pub open-returns-else-again-clause-carries : goal.open-returns-else-again-clause-carries
open-returns-else-again-clause-carries t c =
    let n = vec_len c.args.values.now in
    let known = now_of c.args.values.now.items in
    let later = parts_of c.args.later.now in
    let again = c.may_stand-again.result in
    let none = c.if-again.false in
    let l = rw c.if-branch.false at c.in_ok-longest.ensures.found in
    let k = (rw c.if-branch.false at c.in_ok-longest.ensures.keeps) refl in
    let stands = stands_at again _ later c.args.values.now c.may_stand-again.ensures c.len-number.ensures in
    let now : now_of c.push.new.self.items ≡ known ++ [] ∷ [] = pushed _ _ _ _ c.in_ok-push.ensures.items l.0 in (
      rw now (serves_behind again n later known (known ++ [] ∷ []) _ c.args.text.now [] c.args.text.now _ _ stands refl refl c.requires.1.1.1.1 k none),
      λ a b x. kept_behind again n later known _ _ c.args.text.now [] c.args.text.now a a b stands now refl (λ given s. keeps_same given _ _ _ a a refl) (λ given s. x given (s none)),
    )

-- ---- longest

pub longest-returns-clause-found : goal.longest-returns-clause-found
longest-returns-clause-found t c =
    let i = c.loop-dropped.invariant in
    (i.known, λ value more r. let below = i.shorter value more r in nil_from_length value (omega arith))

pub longest-returns-then-branch-clause-found : goal.longest-returns-then-branch-clause-found
longest-returns-then-branch-clause-found t c =
    let i = c.loop-dropped.invariant in
    let room = c.requires.1.1.0 in
    let p = c.split_at.ensures in
    let text = c.args.text.now in
    let value = c.split_at.result.0.now in
    let after = c.split_at.result.1.now in
    let known = now_of c.args.values.now.items in
    let e = known_len c.args.values.now in
    let below = rw e at i.shorter in
    let joined : text ≡ value ++ after = rw (p.front, p.back) (sym (take-append-drop _ text)) in
    let utf8 : IsUtf8 value = rw p.front (IsUtf8-take text _ c.requires.1.1.1.1.0.utf8 (c.is_char_boundary.ensures.test.0 c.if-is_char_boundary.true)) in
    let testers = same_testers _ _ _ _ c.suits.ensures.same ∙ i.testers in
    let g = rw (c.if-branch.true, pushed _ _ _ _ c.in_ok-push.ensures.items i.known, testers) at c.in_ok-with_value.ensures.found in
    let suit = rw (limit_at _ _ _ c.args.values.now _ i.testers c.len-number.ensures room) at (c.if-suits.ensures.suits.0 refl) in
    let longest : (other : List ℕ) (others : List (List ℕ)) → RestFits (wild (length known) ∷ parts_of c.args.later.now) c.args.testers.now known text (other ∷ others) → length other ≤ length value =
    λ other others r. let b = below other others r in omega arith in (
      value ∷ g.0,
      g.1 ∙ append_assoc known (value ∷ []) g.0,
      rw e (found_wild (parts_of c.args.later.now) _ known (open_room c.args.values.now _ room) text value after g.0 joined utf8 suit g.2 longest),
    )

pub longest-loop-dropped-preserved-then-was_tried : goal.longest-loop-dropped-preserved-then-was_tried
longest-loop-dropped-preserved-then-was_tried t c =
    let i = c.loop-dropped.invariant in
    let e = known_len c.args.values.now in
    let below = rw e at i.shorter in
    let text = c.args.text.now in
    let later = parts_of c.args.later.now in
    let dropped = c.loop-dropped.dropped in
    let room = open_room c.args.values.now _ c.requires.1.1.0 in
    let tried = c.was_tried.ensures c.if-was_tried.true in
    let stands = stands_at c.args.again _ later c.args.values.now c.requires.1.1.1.0 refl in
    let num = open_numbered (vec_len c.args.values.now) _ _ later e c.requires.1.1.1.1.0.numbered in
    let cut : length (take (length text - dropped) text) ≡ length text - dropped = length-take-le (length text - dropped) text (omega arith) in
    let whole : length (take (length text - dropped) text) + dropped ≡ length text = omega (arith, cut) in
    let none = tried_before c.args.again (vec_len c.args.values.now) dropped later _ _ room text (take (length text - dropped) text) _ _ stands tried.0
    c.requires.1.1.1.1.1 i.keeps num (rw (length-map c.args.later.now part_of) tried.1) whole in
    record {
      known = i.known;
      testers = i.testers;
      shorter = rw e (shorter later _ _ room text dropped (omega arith) below none);
      keeps = i.keeps;
    }

pub longest-loop-dropped-preserved : goal.longest-loop-dropped-preserved
longest-loop-dropped-preserved t c =
    let i = c.loop-dropped.invariant in
    let e = known_len c.args.values.now in
    let below = rw e at i.shorter in
    let room = c.requires.1.1.0 in
    let text = c.args.text.now in
    let later = parts_of c.args.later.now in
    let limit = λ (d : Option (List ℕ)). limit_at _ _ _ c.args.values.now d i.testers c.len-number.ensures room in
    let less = shorter later _ _ (open_room c.args.values.now _ room) text c.loop-dropped.dropped (omega arith) below in
    elim c.if-is_char_boundary.branch [
      | longest-then-is_char_boundary+then-suits+in_ok-push+in_ok-with_value+else-branch w ↦ (
          let testers = same_testers _ _ _ _ w.suits.ensures.same ∙ i.testers in
          let pushed_now = pushed _ _ _ _ w.in_ok-push.ensures.items i.known in
          let f = rw (w.if-branch.false, pushed_now, testers) at w.in_ok-with_value.ensures.found in
          let k = (rw (w.if-branch.false, testers) at w.in_ok-with_value.ensures.keeps) refl in
          let none = rw (w.split_at.ensures.front, w.split_at.ensures.back) at f.1 in
          let joined : text ≡ w.split_at.result.0.now ++ w.split_at.result.1.now = rw (w.split_at.ensures.front, w.split_at.ensures.back) (sym (take-append-drop _ text)) in
          let stands = stands_at c.args.again _ later c.args.values.now c.requires.1.1.1.0 refl in
          record {
            known = rw w.values-is (popped w.with_value.new.values w.pop.new.self _ _ w.pop.ensures.rest f.0);
            testers = w.testers-is ∙ w.in_ok-with_value.ensures.same ∙ testers;
            shorter = rw e (less (no_rest later _ _ (open_room c.args.values.now _ room) text _ _ (sym (take-append-drop _ text)) none));
            keeps = rw w.vain-is (kept_behind c.args.again (vec_len c.args.values.now) later _ _ _ text _ _ _ _ _ stands pushed_now joined i.keeps k);
          })
      | longest-then-is_char_boundary+else-suits w ↦ record {
        known = rw w.values-is i.known;
        testers = w.testers-is ∙ same_testers _ _ _ _ w.suits.ensures.same ∙ i.testers;
        shorter =
            let none = rw (limit w.index-testers-number.result, w.split_at.ensures.front) at w.if-suits.ensures.suits.1 in
            rw e (less (no_suit later _ _ (open_room c.args.values.now _ room) text _ (λ s. absurd (true≢false (sym (none s))))));
        keeps = rw w.vain-is i.keeps;
      }
      | longest-else-is_char_boundary w ↦ record {
        known = rw w.values-is i.known;
        testers = w.testers-is ∙ i.testers;
        shorter = rw e (less (no_boundary later _ _ (open_room c.args.values.now _ room) text _ c.requires.1.1.1.1.0.utf8 (omega arith)
            (λ b. absurd (true≢false (sym (c.is_char_boundary.ensures.test.1 b) ∙ w.if-is_char_boundary.false)))));
        keeps = rw w.vain-is i.keeps;
      }
    ]

pub longest-with_value-requires : goal.longest-with_value-requires
longest-with_value-requires t c =
    let i = c.loop-dropped.invariant in
    let p = c.split_at.ensures in
    let text = c.args.text.now in
    let known = vec_len c.args.values.now in
    let later = parts_of c.args.later.now in
    let testers = same_testers _ _ _ _ c.suits.ensures.same ∙ i.testers in
    let pushed_now = pushed _ _ _ _ c.in_ok-push.ensures.items i.known in
    let joined : text ≡ c.split_at.result.0.now ++ c.split_at.result.1.now = rw (p.front, p.back) (sym (take-append-drop _ text)) in
    let utf8 = IsUtf8-drop text _ c.requires.1.1.1.1.0.utf8 (c.is_char_boundary.ensures.test.0 c.if-is_char_boundary.true) in
    let stands = stands_at c.args.again _ later c.args.values.now c.requires.1.1.1.0 refl in (
      omega arith,
      (
        rw testers (open_place known later _ _ _ _ text c.split_at.result.0.now _ (known_len c.args.values.now) pushed_now (rw p.back utf8) c.requires.1.1.1.1.0),
        λ none. rw testers (serves_behind c.args.again known later _ _ _ text _ _ _ _ stands pushed_now joined c.requires.1.1.1.1.1 i.keeps none),
      ),
    )

-- ---- behind a value

pub with_value-search-requires : goal.with_value-search-requires
with_value-search-requires t c =
    (omega arith, (c.requires.1.1.0, serves_new (parts_of c.args.later.now) _ _ _ _ c.new-fresh.ensures))
